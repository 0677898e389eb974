use Rattle.std.proofs.Common.{ℕ, ◌<◌, ◌/◌, take, drop}
use Rattle.laws.specs.Bytes.{Bytes}
use Rattle.std.specs.Prelude.{Ok, Err}
use Rattle.std.specs.Result.{result_unwrap_or}
use Rattle.collections.proofs.Lines.{date-there}
use Rattle.collections.specs.Listed.{collection_of}
use Rattle.frames.proofs.Digits.{unhex-length}
use Rattle.frames.specs.Hex.{unhex}
use Rattle.text.specs.Rules.{Judged, number_told, date}
use lib.ListN.{length, get_or}
use mathlib.Core.Path.{◌≡◌, refl, sym, ◌∙◌, ap}
use native.Mathlib.Omega.{arith}
use Prim.Native.Nat.{◌-◌, min}
use Rattle.collections.proofs.day_number.Goals as goal

-- the collection date is judged
judged-is : (line : Bytes) (b m : ℕ) (j : Judged) → 8 < length line / 2 → b ≡ get_or (unhex line) 8 0 → m ≡ min b (length line / 2 - 9)
    → j ≡ date (take m (drop 9 (unhex line))) → j ≡ date (collection_of (unhex line)).terms.date
judged-is line b m j h e f g = let n = unhex-length line in g ∙ ap date (sym (date-there (unhex line) m (rw n h) (rw (n, ← e) f)))

pub judge_part-requires : goal.judge_part-requires
judge_part-requires c = omega (arith, c.min-size.ensures, unhex-length c.args.line.now)

-- a date states its number, and what is none has the number 0
told : (j : Judged) → result_unwrap_or j 0 ≡ number_told j
told (Ok n) = refl
told (Err f) = refl

pub returns : goal.returns
returns c = c.unwrap_or.ensures ∙ told c.judge_part.result ∙ ap number_told (judged-is c.args.line.now _ _ _ c.if-end-le8.false (omega arith) c.min-size.ensures c.judge_part.ensures)
