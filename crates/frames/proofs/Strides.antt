-- BYTES FILLED IN, one by one and by strides.
--   set-go          what each element below j was said to be, and the one stored at j: each below j + 1 is
--   stride_go       the front of `out` is that of d: with a stride more of d put there, so is the longer front
--   stride_length   the length stays; stride_end: the last stride reaches the end; stride_none: there is nothing to fill
--   part_length     how long a part is; stride_digits: the digits of a stride stand for its bytes
use Prim.Native.Nat.{ℕ, ◌+◌, ◌-◌, ◌*◌, ◌<◌, ◌≤◌}
use native.Mathlib.Decide.{dec_lt}
use native.Mathlib.Omega.{arith}
use mathlib.Core.List.{List, [], ◌∷◌, ◌++◌, append_assoc}
use mathlib.Core.Path.{◌≡◌, refl, ap, sym, subst, ◌∙◌}
use lib.ListN.{length, take, drop, set, get_or, length-append, length-drop}
use lib.Seq.{length-take-le, take_at, take-add, take_all, get_or-set_same, get_or-set_other}
use Rattle.laws.specs.Bytes.{Bytes}
use Rattle.laws.specs.Put.{put_at}
use Rattle.laws.proofs.Puts.{length-put}
use Rattle.frames.specs.Hex.{unhex}
use Rattle.frames.proofs.Parts.{unhex-drop, unhex-take}

pub set-go : (f : ℕ → ℕ) (l : List ℕ) (j v : ℕ) → j < length l → v ≡ f j → ((k : ℕ) → k < j → get_or l k 0 ≡ f k) → (k : ℕ) → k < j + 1 → get_or (set l j v) k 0 ≡ f k
set-go f l j v h e g k m = go (dec_lt k j)
  where
    go : Dec (k < j) → get_or (set l j v) k 0 ≡ f k
    go (yes n) = get_or-set_other l j k v 0 (λ q. omega (arith, q)) ∙ g k n
    go (no n) = let q : j ≡ k = omega arith in subst (λ (i : ℕ). get_or (set l j v) i 0 ≡ f i) q (get_or-set_same l j v 0 h ∙ e)

module _ (out d : Bytes) (at n : ℕ) (k : at + n ≤ length d) (e : take at out ≡ take at d) where
  there : length (take n (drop at d)) ≡ n
  there = length-take-le n (drop at d) (omega (arith, length-drop at d))

  pub stride_go : at + n ≤ length out → take (at + n) (put_at out at (take n (drop at d))) ≡ take (at + n) d
  unfolding put_at
  stride_go h =
      let p = take at out ++ take n (drop at d) in
      let m : length p ≡ at + n = simp length-append (omega (arith, there, length-take-le at out (omega arith))) in
      rw (← append_assoc (take at out) (take n (drop at d)) (drop (at + length (take n (drop at d))) out), take_at p _ _ m, e) (sym (take-add at n d))

  pub stride_length : at + n ≤ length out → length (put_at out at (take n (drop at d))) ≡ length out
  stride_length h = length-put out at (take n (drop at d)) (omega (arith, there))

  pub stride_end : at + n ≡ length out → put_at out at (take n (drop at d)) ≡ take (length out) d
  stride_end h =
      sym (take_all (at + n) (put_at out at (take n (drop at d))) (omega (arith, stride_length (omega arith))))
      ∙ stride_go (omega arith)
      ∙ ap (λ (i : ℕ). take i d) h

pub stride_none : (out d : Bytes) → length out ≤ 0 → out ≡ take (length out) d
stride_none [] d h = refl
stride_none (c ∷ out) d h = absurd (omega arith)

pub part_length : (l : List ℕ) (a n : ℕ) → a + n ≤ length l → length (take (a + n - a) (drop a l)) ≡ n
part_length l a n h = let e : a + n - a ≡ n = omega arith in rw e (length-take-le n (drop a l) (omega (arith, length-drop a l)))

pub stride_digits : (line : Bytes) (place n : ℕ) → unhex (take (place * 2 + n * 2 - place * 2) (drop (place * 2) line)) ≡ take n (drop place (unhex line))
stride_digits line place n = let e : place * 2 + n * 2 - place * 2 ≡ n * 2 = omega arith in rw (e, unhex-take n (drop (place * 2) line), unhex-drop place line)
