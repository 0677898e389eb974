-- BYTES OF A CLASS AT THE FRONT, counted by stretches.
--   span-skip   n bytes of a class stand before what the rest counts; span_stretch: so they do from a place on
use Prim.Native.Nat.{ℕ, zero, suc, ◌+◌, ◌-◌, ◌≤◌}
use native.Mathlib.Nat.{not-suc-le-zero, le_of_suc-le-suc}
use native.Mathlib.Omega.{arith}
use mathlib.Core.Bool.{Bool, true}
use mathlib.Core.List.{[], ◌∷◌}
use mathlib.Core.Path.{◌≡◌, ap, ◌∙◌}
use lib.Dec.{T}
use lib.ListN.{length, take, drop, length-drop}
use lib.Seq.{drop-drop}
use Rattle.laws.specs.Bytes.{Bytes, all, span}
use Rattle.laws.proofs.Tests.{and_l, and_r, T_true, true-T}

module _ (p : ℕ → Bool) where
  pub span-skip : (n : ℕ) (s : Bytes) → n ≤ length s → T (all p (take n s)) → span p s ≡ n + span p (drop n s)
  span-skip zero s h t = omega arith
  span-skip (suc n) [] h t = absurd (not-suc-le-zero h)
  span-skip (suc n) (c ∷ s) h t =
      rw (T_true (p c) (and_l (p c) (all p (take n s)) t), span) (ap suc (span-skip n s (le_of_suc-le-suc h) (and_r (p c) (all p (take n s)) t)) ∙ omega arith)

  pub span_stretch : (s : Bytes) (at n : ℕ) → at + n ≤ length s → all p (take (at + n - at) (drop at s)) ≡ true → at + span p (drop at s) ≡ at + n + span p (drop (at + n) s)
  span_stretch s at n h e =
      let k : at + n - at ≡ n = omega arith in
      omega (arith, span-skip n (drop at s) (omega (arith, length-drop at s)) (true-T (all p (take n (drop at s))) (rw k at e)), ap (span p) (drop-drop n at s))
