use Rattle.put.proofs.Writes.{wrote_then}
use Rattle.pieces.proofs.Choices.{bank-none, bank-some}
use Rattle.frames.specs.Hex.{unhex}
use lib.ListN.{length}
use mathlib.Core.Path.{◌≡◌}
use Prim.Native.Nat.{◌<◌}
use native.Mathlib.Omega.{arith}
use borrow.Author.Rules.{rules}
use Rattle.pieces.proofs.line.Line.put_bank.Goals as goal

pub returns-then-is_empty-clause-wrote : goal.returns-then-is_empty-clause-wrote
returns-then-is_empty-clause-wrote g c =
    let z : length c.text-bic.result.now ≡ 0 = search rules in
    rw (← c.text-bic.ensures.value) (bank-none (unhex c.text-bic.result.now) (omega (arith, z, c.text-bic.ensures.length_value)) c.put.ensures)

pub returns-clause-wrote : goal.returns-clause-wrote
returns-clause-wrote g c =
    let z : 0 < length c.text-bic.result.now = search rules in
    rw (← c.text-bic.ensures.value) (bank-some (unhex c.text-bic.result.now) (omega (arith, z, c.text-bic.ensures.length_value))
    (wrote_then _ _ c.put-2.ensures (wrote_then _ _ c.put_hex.ensures c.put-3.ensures)))
