-- `frames::hex::decode` meets its contract. The invariants: each value below i is what its digit is worth, each byte below i is what its two digits stand for.
use Rattle.frames.specs.Hex.{hex_value, unhex}
use lib.ListN.{length, get_or}
use mathlib.Core.Path.{◌≡◌}
use Prim.Native.Nat.{ℕ, ◌<◌}
use Rattle.frames.proofs.hex.decode.Given as goal

abbrev pub invariant-loop-i : goal.invariant-loop-i
invariant-loop-i l = (length l.values ≡ 32) × ((k : ℕ) → k < l.i → get_or l.values k 0 ≡ hex_value (get_or l.digits k 0))

abbrev pub invariant-loop-i-2 : goal.invariant-loop-i-2
invariant-loop-i-2 l = (length l.to ≡ length l.initial.to) × ((k : ℕ) → k < l.i → get_or l.to k 0 ≡ get_or (unhex l.digits) k 0)
