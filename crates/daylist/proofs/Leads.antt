-- A NUMBER READ HIGH BYTE FIRST: v is what was read before the place `at`, and the bytes before the place `end` count.
--   take-there, drop-there   of the bytes that are asked for, those that are there; the bytes after them
--   high_start           the bytes that count, where fewer may be there than are asked for
--   high_go              one byte more is taken
--   high_more, high_under   with one byte more it stays below its power of 256, and so below each later power
use Prim.Native.Nat.{ℕ, suc, ◌+◌, ◌-◌, ◌*◌, ◌^◌, ◌<◌, ◌≤◌, min}
use native.Mathlib.Nat.{pow-suc, pow-le-pow_right}
use native.Mathlib.Numerals.{add-one}
use native.Mathlib.Decide.{dec_le}
use native.Mathlib.Omega.{arith}
use mathlib.Core.Path.{◌≡◌, sym, ◌∙◌, ap}
use lib.ListN.{length, take, drop, get_or, length-drop, drop_of_length-le}
use lib.Seq.{take_all}
use Rattle.laws.specs.Bytes.{Bytes}
use Rattle.laws.proofs.Loops.{drop-step}
use Rattle.daylist.specs.Lead.{high_first, high_first_from}

-- of the bytes that are asked for, those that are there
pub take-there : (n m : ℕ) (s : Bytes) → m ≡ min n (length s) → take n s ≡ take m s
take-there n m s e = go (dec_le n (length s))
  where
    go : Dec (n ≤ length s) → take n s ≡ take m s
    go (yes h) = let d : n ≡ m = omega (arith, e) in rw d
    go (no h) = take_all n s (omega arith) ∙ sym (take_all m s (omega (arith, e)))

pub drop-there : (n m : ℕ) (s : Bytes) → m ≡ min n (length s) → drop n s ≡ drop m s
drop-there n m s e = go (dec_le n (length s))
  where
    go : Dec (n ≤ length s) → drop n s ≡ drop m s
    go (yes h) = let d : n ≡ m = omega (arith, e) in rw d
    go (no h) = drop_of_length-le s {i = n} (omega arith) ∙ sym (drop_of_length-le s {i = m} (omega (arith, e)))

module _ (s : Bytes) (from count end : ℕ) where
  pub high_start : end ≡ min (from + count) (length s) → high_first (take count (drop from s)) ≡ high_first (take (end - from) (drop from s))
  high_start e = ap high_first (take-there count (end - from) (drop from s) (omega (arith, e, length-drop from s)))

module _ (v : ℕ) (s : Bytes) (at end : ℕ) where
  pub high_go : at < end → end ≤ length s → high_first_from v (take (end - at) (drop at s)) ≡ high_first_from (v * 256 + get_or s at 0) (take (end - (at + 1)) (drop (at + 1) s))
  high_go h k =
      let e : end - at ≡ suc (end - (at + 1)) = omega arith in
      rw (drop-step s at (omega arith), e)

module _ (v i : ℕ) (u : v < 256 ^ i) where
  pub high_more : (b : ℕ) → b < 256 → v * 256 + b < 256 ^ (i + 1)
  high_more b h = rw (add-one i, pow-suc 256 i) (omega arith)

  pub high_under : (n : ℕ) → i ≤ n → v < 256 ^ n
  high_under n h = omega (arith, pow-le-pow_right {n = 256} (omega arith) h)
