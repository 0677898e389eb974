use Rattle.put.proofs.Writes.{wrote_then}
use Rattle.pieces.proofs.Choices.{lead-at}
use Rattle.frames.specs.Hex.{unhex}
use mathlib.Core.Path.{sym, ◌∙◌}
use native.Mathlib.Omega.{arith}
use Rattle.pieces.proofs.head.put_terms.Goals as goal

pub returns-clause-wrote : goal.returns-clause-wrote
returns-clause-wrote c =
    let s = unhex c.args.line.now.digits.now in
    let scheme = c.byte_at.ensures ∙ sym (lead-at s 0 (omega arith)) in
    let sequence = c.byte_at-2.ensures ∙ sym (lead-at s 1 (omega arith)) in
    wrote_then _ _ (rw (c.scheme_word.ensures.value, scheme) at c.put.ensures)
    (wrote_then _ _ c.put-2.ensures
    (wrote_then _ _ (rw (c.sequence_word.ensures.value, sequence) at c.put-3.ensures) (wrote_then _ _ c.put-4.ensures (wrote_then _ _ c.put_text.ensures.wrote c.put-5.ensures))))
