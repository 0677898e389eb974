-- `marks::remainder` meets its contract. The invariant: v is a remainder, and with what is left of the text it leaves what `left` leaves with the whole.
use Prim.Native.Nat.{◌<◌, ◌%◌}
use mathlib.Core.Bool.{true}
use mathlib.Core.Path.{◌≡◌}
use Rattle.std.specs.Slice.Iter.{chunks_rest, chunks_size}
use Rattle.laws.specs.Bytes.{all}
use Rattle.marks.specs.Marks.{letter_or_digit, spelled_from}
use Rattle.marks.proofs.remainder.Given as goal

abbrev pub invariant-loop-eight : goal.invariant-loop-eight
invariant-loop-eight l =
    let rest = chunks_rest l.eight-iterator in
    (chunks_size l.eight-iterator ≡ 8) × (l.v < 97) × (all letter_or_digit rest ≡ true) × (spelled_from l.left l.text % 97 ≡ spelled_from l.v rest % 97)
