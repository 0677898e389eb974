-- A WALK OVER A FRAME: `at` is the place that it has come to, and `left` the number of texts that are left.
--   some, behind, passed                                  there is a byte; a place after the lead bytes, and after a text
--   framed-none, framed-kind, framed-lead, framed-start   there is no byte; the kind differs; the lead bytes are not there; the texts begin
--   holds-short, holds-over, holds-go, holds-end          there is no length byte; the text runs past the end; it is passed; none is left
use Prim.Native.Nat.{ℕ, zero, suc, ◌+◌, ◌-◌, ◌<◌, ◌≤◌}
use native.Mathlib.Omega.{arith}
use mathlib.Core.Bool.{false, and-false}
use mathlib.Core.List.{[], ◌∷◌}
use mathlib.Core.Path.{◌≡◌, refl, ap, sym}
use lib.Dec.{eqb}
use lib.ListN.{length, drop, get_or, length-drop, drop_of_length-le}
use lib.Seq.{drop-drop}
use borrow.Author.Tests.{eq-eqb, ne_eqb, le-leb, lt-leb}
use Rattle.laws.specs.Bytes.{Bytes}
use Rattle.laws.proofs.Loops.{drop-step}
use Rattle.frames.specs.declared.Frame.{Frame}
use Rattle.frames.specs.Frames.{holds, framed}

-- ─── places, where m is the number of bytes ───

pub some : (n m : ℕ) → n ≡ m → (m ≡ 0 → ⊥) → 0 < n
some n m e d = omega (arith, e, d)

pub behind : (n m k : ℕ) → n ≡ m → (m ≡ 0 → ⊥) → k ≤ m - 1 → 1 + k ≤ n
behind n m k e d h = omega (arith, e, d, h)

pub passed : (n m at b : ℕ) → n ≡ m → at < m → b ≤ m - (at + 1) → at + 1 + b ≤ n
passed n m at b e h k = omega (arith, e, h, k)

-- ─── the bytes ───

module _ (f : Frame) where
  pub framed-none : (s : Bytes) → length s ≡ 0 → framed f s ≡ false
  framed-none [] e = refl
  framed-none (k ∷ s) e = absurd (omega (arith, e))

  pub framed-kind : (s : Bytes) → (get_or s 0 0 ≡ f.kind → ⊥) → framed f s ≡ false
  framed-kind [] d = refl
  framed-kind (k ∷ s) d = rw (ne_eqb k f.kind d)

  pub framed-lead : (s : Bytes) → length s - 1 < f.lead → framed f s ≡ false
  framed-lead [] h = refl
  framed-lead (k ∷ s) h = rw (lt-leb f.lead (length s) (omega (arith, h)), and-false)

  pub framed-start : (s : Bytes) → 0 < length s → get_or s 0 0 ≡ f.kind → f.lead ≤ length s - 1 → framed f s ≡ holds f.texts (drop (1 + f.lead) s)
  framed-start [] l e h = absurd (omega (arith, l))
  framed-start (k ∷ s) l e h =
      let g : 1 + f.lead ≡ suc f.lead = omega arith in
      rw (eq-eqb k f.kind e, le-leb f.lead (length s) (omega (arith, h)), g)

-- what is left at a place that is there
at_place : (s : Bytes) (at : ℕ) → at < length s → drop at s ≡ get_or s at 0 ∷ drop (at + 1) s
at_place s at h = drop-step s at h

module _ (left : ℕ) (s : Bytes) (at : ℕ) where
  pub holds-short : 0 < left → length s ≤ at → holds left (drop at s) ≡ false
  holds-short l h = rw (drop_of_length-le s h) (go left l)
    where
      go : (n : ℕ) → 0 < n → holds n [] ≡ false
      go zero l = absurd (omega (arith, l))
      go (suc n) l = refl

  pub holds-over : 0 < left → at < length s → length s - (at + 1) < get_or s at 0 → holds left (drop at s) ≡ false
  holds-over l h k = rw (drop-step s at h) (go left l)
    where
      go : (n : ℕ) → 0 < n → holds n (get_or s at 0 ∷ drop (at + 1) s) ≡ false
      go zero l = absurd (omega (arith, l))
      go (suc n) l = rw (lt-leb (get_or s at 0) (length (drop (at + 1) s)) (omega (arith, k, length-drop (at + 1) s)))

  pub holds-go : 0 < left → at < length s → get_or s at 0 ≤ length s - (at + 1) → holds left (drop at s) ≡ holds (left - 1) (drop (at + 1 + get_or s at 0) s)
  holds-go l h k = rw (drop-step s at h) (go left l)
    where
      go : (n : ℕ) → 0 < n → holds n (get_or s at 0 ∷ drop (at + 1) s) ≡ holds (n - 1) (drop (at + 1 + get_or s at 0) s)
      go zero l = absurd (omega (arith, l))
      go (suc n) l =
          let e : suc n - 1 ≡ n = omega arith in
          rw (le-leb (get_or s at 0) (length (drop (at + 1) s)) (omega (arith, k, length-drop (at + 1) s)), drop-drop (get_or s at 0) (at + 1) s, e)

  pub holds-end : left ≡ 0 → at ≤ length s → holds left (drop at s) ≡ eqb at (length s)
  holds-end e h = rw e (go (drop at s) refl)
    where
      go : (r : Bytes) → drop at s ≡ r → holds 0 r ≡ eqb at (length s)
      go [] d = sym (eq-eqb at (length s) (omega (arith, h, length-drop at s, ap length d)))
      go (b ∷ r) d = sym (ne_eqb at (length s) (λ q. omega (arith, q, length-drop at s, ap length d)))
