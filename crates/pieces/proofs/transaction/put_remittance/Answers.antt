use Rattle.put.proofs.Writes.{wrote_nil, wrote_then}
use Rattle.pieces.proofs.Choices.{remittance-none, remittance-some}
use Rattle.frames.specs.Hex.{unhex}
use lib.ListN.{length}
use mathlib.Core.Path.{◌≡◌}
use Prim.Native.Nat.{◌<◌}
use native.Mathlib.Omega.{arith}
use borrow.Author.Rules.{rules}
use Rattle.pieces.proofs.transaction.put_remittance.Goals as goal

pub returns-then-is_empty-clause-wrote : goal.returns-then-is_empty-clause-wrote
returns-then-is_empty-clause-wrote c =
    let t = c.text-remittance in
    let z : length t.result.now ≡ 0 = search rules in
    rw (← t.ensures.value) (remittance-none (unhex t.result.now) (omega (arith, z, t.ensures.length_value)) (wrote_nil _))

pub returns-clause-wrote : goal.returns-clause-wrote
returns-clause-wrote c =
    let t = c.text-remittance in
    let z : 0 < length t.result.now = search rules in
    rw (← t.ensures.value) (remittance-some (unhex t.result.now) (omega (arith, z, t.ensures.length_value)) (wrote_then _ _ c.put.ensures (wrote_then _ _ c.put_hex.ensures c.put-2.ensures)))
