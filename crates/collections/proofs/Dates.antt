-- DATES AS NUMBERS: the number of a real day is yyyymmdd, so days of the same number are the same bytes.
--   digits_same   as many digits that spell the same number are the same digits
--   date-same     good dates of the same number are the same
--   date-under    the number that a text states as a date is below 10 to the 8th
use Prim.Native.Nat.{ℕ, ◌+◌, ◌-◌, ◌*◌, ◌^◌, ◌<◌}
use native.Mathlib.Omega.{arith}
use mathlib.Core.Bool.{true, false}
use mathlib.Core.List.{[], ◌∷◌, ◌++◌}
use mathlib.Core.Path.{◌≡◌, refl, ap₂, sym, ◌∙◌}
use lib.Dec.{T, eqb→eq}
use lib.ListN.{length, take, drop, length-take, length-drop, take-append-drop, drop_of_length-le}
use lib.Seq.{drop-drop}
use Rattle.std.specs.Prelude.{Ok}
use Rattle.laws.specs.Bytes.{Bytes, ascii, all}
use Rattle.laws.proofs.Tests.{bool_cases, and_l, and_r, T_true, true-T}
use Rattle.laws.proofs.Loops.{agree-length, agree-take, agree-drop}
use Rattle.marks.specs.Marks.{digit, mark, fits, value, value_from}
use Rattle.marks.proofs.Classes.{between_low, between_high}
use Rattle.profile.specs.declared.Flaw.TheVariants.{Date}
use Rattle.text.specs.Rules.{must, good, number_told, value_at, real_day, dated, date}
use Rattle.text.proofs.Days.{digits_at, part-there, part-under}

-- ─── digits ───

module _ (c d : ℕ) (f : T (digit c)) (g : T (digit d)) where
  -- one digit after each of two numbers
  one_more : (v w : ℕ) → v * 10 + (c - 48) ≡ w * 10 + (d - 48) → (v ≡ w) × (c ≡ d)
  one_more v w e =
      let a = between_low 48 57 c (T_true (digit c) f) in
      let b = between_high 48 57 c (T_true (digit c) f) in
      let k = between_low 48 57 d (T_true (digit d) g) in
      let l = between_high 48 57 d (T_true (digit d) g) in
      (omega arith, omega arith)

digits_same_from : (v w : ℕ) (s t : Bytes) → length s ≡ length t → T (all digit s) → T (all digit t) → value_from v s ≡ value_from w t → (v ≡ w) × (s ≡ t)
digits_same_from v w [] [] n f g e = (e, refl)
digits_same_from v w [] (d ∷ t) n f g e = absurd (omega arith)
digits_same_from v w (c ∷ s) [] n f g e = absurd (omega arith)
digits_same_from v w (c ∷ s) (d ∷ t) n f g e =
    let r = digits_same_from (v * 10 + (c - 48)) (w * 10 + (d - 48)) s t (omega arith) (and_r (digit c) (all digit s) f) (and_r (digit d) (all digit t) g) e in
    let h = one_more c d (and_l (digit c) (all digit s) f) (and_l (digit d) (all digit t) g) v w r.0 in
    (h.0, rw (h.1, r.1))

pub digits_same : (s t : Bytes) → length s ≡ length t → T (all digit s) → T (all digit t) → value s ≡ value t → s ≡ t
digits_same s t n f g e = (digits_same_from 0 0 s t n f g e).1

-- ─── the shape of a date ───

abbrev shape : Bytes
shape = ascii "DDDD-DD-DD"

-- the front and the rest decide
front_rest : (n : ℕ) (s t : Bytes) → take n s ≡ take n t → drop n s ≡ drop n t → s ≡ t
front_rest n s t e f = sym (take-append-drop n s) ∙ ap₂ (λ (a b : Bytes). a ++ b) e f ∙ take-append-drop n t

-- 45 is `-`
dash : (s : Bytes) → T (fits (45 ∷ []) s) → s ≡ 45 ∷ []
dash [] t = absurd t
dash (c ∷ []) t = rw (eqb→eq 45 c (and_l (mark 45 c) true t))
dash (c ∷ d ∷ s) t = absurd (and_r (mark 45 c) false t)

dash-at : (a : ℕ) → take 1 (drop a shape) ≡ 45 ∷ [] → (s : Bytes) → fits shape s ≡ true → take 1 (drop a s) ≡ 45 ∷ []
dash-at a e s f = dash (take 1 (drop a s)) (rw e at (agree-take mark 1 (drop a shape) (drop a s) (agree-drop mark a shape s (true-T (fits shape s) f))))

module _ (s t : Bytes) (f : fits shape s ≡ true) (g : fits shape t ≡ true) where
  -- digits of both, from the place a on
  part_same : (a n : ℕ) → T (digits_at a n shape) → value_at a n s ≡ value_at a n t → take n (drop a s) ≡ take n (drop a t)
  part_same a n u e =
      let k = part-there a n shape s u f in
      let l = part-there a n shape t u g in
      digits_same (take n (drop a s)) (take n (drop a t)) (omega (arith, length-take n (drop a s), length-take n (drop a t), length-drop a s, length-drop a t))
      (true-T (all digit (take n (drop a s))) k.1.1) (true-T (all digit (take n (drop a t))) l.1.1) e

  -- a part of n from the place a on, and what stands after it
  piece : (a n : ℕ) → take n (drop a s) ≡ take n (drop a t) → drop (a + n) s ≡ drop (a + n) t → drop a s ≡ drop a t
  piece a n e h = front_rest n (drop a s) (drop a t) e (rw (drop-drop n a s, drop-drop n a t) h)

  ended : drop 10 s ≡ drop 10 t
  ended = rw (drop_of_length-le s {i = 10} (omega (arith, agree-length mark shape s (true-T (fits shape s) f))), drop_of_length-le t {i = 10} (omega (arith, agree-length mark shape t (true-T (fits shape t) g))))

  same_day : value_at 0 4 s ≡ value_at 0 4 t → value_at 5 2 s ≡ value_at 5 2 t → value_at 8 2 s ≡ value_at 8 2 t → s ≡ t
  same_day y m d =
      piece 0 4 (part_same 0 4 tt y)
      (piece 4 1 (dash-at 4 refl s f ∙ sym (dash-at 4 refl t g))
      (piece 5 2 (part_same 5 2 tt m)
      (piece 7 1 (dash-at 7 refl s f ∙ sym (dash-at 7 refl t g)) (piece 8 2 (part_same 8 2 tt d) ended))))

-- ─── the number of a date ───

-- a real day: its shape, and the number that it states
module _ (s : Bytes) (t : T (dated s)) where
  shaped : fits shape s ≡ true
  shaped = T_true (fits shape s) (and_l (fits shape s) (real_day (value_at 0 4 s) (value_at 5 2 s) (value_at 8 2 s)) t)

  tells : number_told (date s) ≡ value_at 0 4 s * 10_000 + value_at 5 2 s * 100 + value_at 8 2 s
  tells = rw (T_true (dated s) t)

pub date-under : (s : Bytes) → number_told (date s) < 10 ^ 8
date-under s = bool_cases (λ z. number_told (must z Date (Ok (value_at 0 4 s * 10_000 + value_at 5 2 s * 100 + value_at 8 2 s))) < 10 ^ 8) (dated s) inside (λ t. omega arith)
  where
    inside : T (dated s) → value_at 0 4 s * 10_000 + value_at 5 2 s * 100 + value_at 8 2 s < 10 ^ 8
    inside t = omega (arith, part-under 0 4 shape s tt (shaped s t), part-under 5 2 shape s tt (shaped s t), part-under 8 2 shape s tt (shaped s t))

-- only a real day is good
good-dated : (s : Bytes) → T (good (date s)) → T (dated s)
good-dated s = bool_cases (λ z. T (good (must z Date (Ok (value_at 0 4 s * 10_000 + value_at 5 2 s * 100 + value_at 8 2 s)))) → T z) (dated s) (λ t g. tt) (λ t g. g)

pub date-same : (s t : Bytes) → T (good (date s)) → T (good (date t)) → number_told (date s) ≡ number_told (date t) → s ≡ t
date-same s t f g e =
    let a = good-dated s f in
    let b = good-dated t g in
    let p = part-under 5 2 shape s tt (shaped s a) in
    let q = part-under 8 2 shape s tt (shaped s a) in
    let v = part-under 5 2 shape t tt (shaped t b) in
    let w = part-under 8 2 shape t tt (shaped t b) in
    let n : value_at 0 4 s * 10_000 + value_at 5 2 s * 100 + value_at 8 2 s ≡ value_at 0 4 t * 10_000 + value_at 5 2 t * 100 + value_at 8 2 t = sym (tells s a) ∙ e ∙ tells t b in
    same_day s t (shaped s a) (shaped t b) (omega arith) (omega arith) (omega arith)
