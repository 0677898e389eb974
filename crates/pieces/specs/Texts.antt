-- WHAT THE WRITERS OF PIECES SPEAK OF. Not to be believed: it serves only inside a message, whose bytes are those of `written`.
--   line_text n i s   text i of line n, of which s are the bytes
use Rattle.std.specs.Prelude.{ℕ, [], get_or}
use Rattle.laws.specs.Bytes.{Bytes}
use Rattle.frames.specs.Frames.{frame_of, texts_of}

abbrev pub line_text : ℕ → ℕ → Bytes → Bytes
line_text n i s = get_or (texts_of (frame_of n) s) i []
