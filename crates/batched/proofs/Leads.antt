-- THE LEAD OF A COLLECTION, from the start of its line on.
--   lead-within          the line of a collection has its kind byte and lead bytes, in 16 digits, within the list
--   lead-cents           these give its cents
use Prim.Native.Nat.{ℕ, ◌+◌, ◌-◌, ◌≤◌}
use native.Mathlib.Nat.{le_refl}
use native.Mathlib.Omega.{arith}
use mathlib.Core.Bool.{true, false}
use mathlib.Core.List.{[], ◌∷◌}
use mathlib.Core.Path.{◌≡◌, refl}
use lib.Dec.{eqb, leb, leb→le}
use lib.ListN.{length, take, drop, length-drop}
use lib.Seq.{length-take-le, take-take}
use Rattle.laws.specs.Bytes.{Bytes, span}
use Rattle.laws.proofs.Loops.{span_le}
use Rattle.laws.proofs.Tests.{and_l, and_r, true-T}
use Rattle.frames.specs.Hex.{unhex}
use Rattle.frames.specs.Frames.{framed, collection_frame}
use Rattle.frames.proofs.Digits.{unhex-length}
use Rattle.frames.proofs.Parts.{unhex-take}
use Rattle.collections.specs.Listed.{collection_of}
use Rattle.batched.specs.Ready.{collection_at}
use Rattle.frames.specs.Lines.{not_end, line_from}

eight : (s : Bytes) → framed collection_frame s ≡ true → 8 ≤ length s
eight [] h = absurd (true-T false h)
eight (k ∷ s) h =
    let t = and_r (eqb k 2) _ (true-T (framed collection_frame (k ∷ s)) h) in
    omega (arith, leb→le 7 (length s) (and_l (leb 7 (length s)) _ t))

cents-front : (s : Bytes) → (collection_of (take 8 s)).cents ≡ (collection_of s).cents
cents-front [] = refl
cents-front (k ∷ s) = rw (take-take 7 7 s (le_refl 7))

module _ (s : Bytes) (a : ℕ) (h : framed collection_frame (unhex (line_from s a)) ≡ true) where
  lead-there : 16 ≤ span not_end (drop a s)
  lead-there =
      omega (arith, eight (unhex (line_from s a)) h, unhex-length (line_from s a), length-take-le (span not_end (drop a s)) (drop a s) (span_le not_end (drop a s)))

  pub lead-within : a ≤ length s → a + 16 ≤ length s
  lead-within l = omega (arith, lead-there, span_le not_end (drop a s), length-drop a s)

  pub lead-cents : (collection_of (unhex (take (a + 16 - a) (drop a s)))).cents ≡ (collection_at s a).cents
  lead-cents =
      let k : a + 16 - a ≡ 16 = omega arith in
      rw (k, ← take-take 16 (span not_end (drop a s)) (drop a s) lead-there, unhex-take 8 (line_from s a)) (cents-front (unhex (line_from s a)))
