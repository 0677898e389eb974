-- THE LINES, CUT ONE BY ONE.
--   cut_line, last_line   the first line where LF ends it, and where it does not
--   next-line, end_line   the same of the line at a place, as a part that is lent
--   line-within, line-inside   a line ends no later than the bytes, and before their end where it is ended
--   starts-go, starts-last, starts-end   where the lines from a place on start
--   by_first, by_further  what line 1 has, and what every further line has; by_ap: a function of it
use Prim.Native.Nat.{ℕ, suc, ◌+◌, ◌-◌, ◌<◌, ◌≤◌}
use native.Mathlib.Omega.{arith}
use mathlib.Core.Bool.{Bool, true, false}
use mathlib.Core.List.{List, [], ◌∷◌}
use mathlib.Core.Path.{◌≡◌, refl, ap, sym, ◌∙◌}
use lib.Dec.{eqb}
use lib.ListN.{length, take, drop, length-drop, drop_of_length-le}
use lib.Seq.{drop-drop, take_all, length-take-le}
use borrow.Author.Tests.{eq-eqb, ne_eqb}
use Rattle.laws.specs.Bytes.{Bytes, span}
use Rattle.laws.proofs.Loops.{span_le}
use Rattle.laws.proofs.Tests.{bool_cases}
use Rattle.frames.specs.Lines.{Line, not_end, in_front, lines, starts_from}
use Rattle.frames.specs.Fields.{by_line}

module _ (c : ℕ) (s : Bytes) where
  span-within : not_end c ≡ true → span not_end (c ∷ s) ≡ suc (span not_end s)
  span-within e = rw (e, span)

  span-end : not_end c ≡ false → span not_end (c ∷ s) ≡ 0
  span-end e = rw (e, span)

  lines-within : not_end c ≡ true → lines (c ∷ s) ≡ in_front c (lines s)
  lines-within e = rw (e, lines)

  lines_end : not_end c ≡ false → lines (c ∷ s) ≡ record { bytes = []; ended = true } ∷ lines s
  lines_end e = rw (e, lines)

-- the first line, of n bytes, and those after its LF
abbrev cut_at : ℕ → Bytes → List Line
cut_at n s = record { bytes = take n s; ended = true } ∷ lines (drop (suc n) s)

pub cut_line : (s : Bytes) → span not_end s < length s → lines s ≡ record { bytes = take (span not_end s) s; ended = true } ∷ lines (drop (suc (span not_end s)) s)
cut_line [] h = absurd (omega (arith, h))
cut_line (c ∷ s) h = go (not_end c) refl (cut_line s)
  where
    go : (z : Bool) → not_end c ≡ z → (span not_end s < length s → lines s ≡ cut_at (span not_end s) s) → lines (c ∷ s) ≡ cut_at (span not_end (c ∷ s)) (c ∷ s)
    go true e f = lines-within c s e ∙ ap (in_front c) (f (omega (arith, h, span-within c s e))) ∙ sym (ap (λ (n : ℕ). cut_at n (c ∷ s)) (span-within c s e))
    go false e f = lines_end c s e ∙ sym (ap (λ (n : ℕ). cut_at n (c ∷ s)) (span-end c s e))

pub last_line : (s : Bytes) → 0 < length s → span not_end s ≡ length s → lines s ≡ record { bytes = s; ended = false } ∷ []
last_line [] l h = absurd (omega (arith, l))
last_line (c ∷ s) l h = go (not_end c) refl (last_line s)
  where
    more : (s : Bytes) → (0 < length s → lines s ≡ record { bytes = s; ended = false } ∷ []) → in_front c (lines s) ≡ record { bytes = c ∷ s; ended = false } ∷ []
    more [] f = refl
    more (d ∷ s) f = ap (in_front c) (f (omega arith))

    go : (z : Bool) → not_end c ≡ z → (0 < length s → span not_end s ≡ length s → lines s ≡ record { bytes = s; ended = false } ∷ []) → lines (c ∷ s) ≡ record { bytes = c ∷ s; ended = false } ∷ []
    go true e f = lines-within c s e ∙ more s (λ k. f k (omega (arith, h, span-within c s e)))
    go false e f = absurd (omega (arith, h, span-end c s e))

-- ─── at a place of the list, n bytes before the next LF ───

module _ (s : Bytes) (at n : ℕ) (e : span not_end (drop at s) ≡ n) where
  -- the next line where LF ends it, and those after it
  pub next-line : at + n < length s → lines (drop at s) ≡ record { bytes = take (at + n - at) (drop at s); ended = true } ∷ lines (drop (at + n + 1) s)
  next-line h =
      let a : at + n - at ≡ n = omega arith in
      let b : at + suc n ≡ at + n + 1 = omega arith in
      rw (a, ← b, ← drop-drop (suc n) at s, ← e) (cut_line (drop at s) (omega (arith, e, length-drop at s)))

  -- and where it lacks LF
  pub end_line : at < length s → at + n ≡ length s → lines (drop at s) ≡ record { bytes = take (at + n - at) (drop at s); ended = false } ∷ []
  end_line h l =
      rw (take_all (at + n - at) (drop at s) (omega (arith, length-drop at s)))
      (last_line (drop at s) (omega (arith, length-drop at s)) (omega (arith, e, length-drop at s)))

  -- where the lines from here on start
  pub starts-go : at + n < length s → starts_from at (lines (drop at s)) ≡ at ∷ starts_from (at + n + 1) (lines (drop (at + n + 1) s))
  starts-go h = rw (next-line h, length-take-le (at + n - at) (drop at s) (omega (arith, length-drop at s))) (ap (λ (k : ℕ). at ∷ starts_from (at + k + 1) (lines (drop (at + n + 1) s))) (omega arith))

  pub starts-last : at < length s → at + n ≡ length s → starts_from at (lines (drop at s)) ≡ at ∷ []
  starts-last h l = rw (end_line h l)

pub line-within : (s : Bytes) (at n : ℕ) → span not_end (drop at s) ≡ n → at < length s → at + n ≤ length s
line-within s at n e h = omega (arith, e, h, span_le not_end (drop at s), length-drop at s)

pub line-inside : (end m : ℕ) → end ≤ m → (end ≡ m → ⊥) → end < m
line-inside end m h d = omega (arith, h, d)

pub starts-end : (s : Bytes) (at : ℕ) → length s ≤ at → starts_from at (lines (drop at s)) ≡ []
starts-end s at h = rw (drop_of_length-le s h)

-- ─── by line ───

module _ {A : Type 0} (n : ℕ) (a b : A) where
  pub by_first : n ≡ 1 → by_line n a b ≡ a
  by_first e = rw (eq-eqb n 1 e, by_line)

  pub by_further : (n ≡ 1 → ⊥) → by_line n a b ≡ b
  by_further d = rw (ne_eqb n 1 d, by_line)

pub by_ap : {A B : Type 0} (f : A → B) (n : ℕ) (a b : A) → f (by_line n a b) ≡ by_line n (f a) (f b)
by_ap {A} {B} f n a b = bool_cases (λ z. f (elim z as (λ (_ : Bool). A) [ true ↦ a | false ↦ b ]) ≡ elim z as (λ (_ : Bool). B) [ true ↦ f a | false ↦ f b ]) (eqb n 1) (λ t. refl) (λ t. refl)
