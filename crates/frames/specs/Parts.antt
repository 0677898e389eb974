-- WHERE THE TEXTS OF A LINE STAND, for the code. Not to be believed: no promise to a caller speaks of it.
--   bytes_before i ts   how many bytes the first i texts take, each with its length byte
--   part_of f i s       where text i stands in a line that holds the frame f, of which s are the bytes; a byte is two digits. `part-text`: its digits stand for the text
use Rattle.std.specs.Prelude.{ℕ, ◌+◌, ◌*◌, List, [], length, take, get_or}
use Rattle.laws.specs.Bytes.{Bytes}
use Rattle.laws.specs.Lists.{total}
use Rattle.frames.specs.declared.Frame.{Frame}
use Rattle.frames.specs.declared.TextPart.{TextPart}
use Rattle.frames.specs.Frames.{texts_of}

abbrev pub bytes_before : ℕ → List Bytes → ℕ
bytes_before i ts = total (λ t. 1 + length t) (take i ts)

-- after the kind byte, the lead bytes, the texts before it and its own length byte
abbrev pub part_of : Frame → ℕ → Bytes → TextPart
part_of f i s = record { start = (1 + f.lead + bytes_before i (texts_of f s) + 1) * 2; length = length (get_or (texts_of f s) i []) * 2 }
