use Rattle.pieces.proofs.Shorts.{text-short, text-within, text-digits, text-is, text-size}
use lib.ListN.{length}
use mathlib.Core.Path.{ap}
use native.Mathlib.Omega.{arith}
use Rattle.pieces.proofs.line.Line.text.Goals as goal

pub overflow_add-result : goal.overflow_add-result
overflow_add-result g c = omega (arith, text-within g.row.NUMBER c.args.i c.args.self.now.digits.now _ _ c.frame_of.ensures c.text_part-part.ensures c.args.self.now.framed c.requires)

pub slice_bounds-result-end : goal.slice_bounds-result-end
slice_bounds-result-end g c = text-within g.row.NUMBER c.args.i c.args.self.now.digits.now _ _ c.frame_of.ensures c.text_part-part.ensures c.args.self.now.framed c.requires

pub returns-clause-digits : goal.returns-clause-digits
returns-clause-digits g c = text-digits g.row.NUMBER c.args.i c.args.self.now.digits.now _ _ c.frame_of.ensures c.text_part-part.ensures c.args.self.now.framed c.requires

pub returns-clause-value : goal.returns-clause-value
returns-clause-value g c = text-is g.row.NUMBER c.args.i c.args.self.now.digits.now _ _ c.frame_of.ensures c.text_part-part.ensures c.args.self.now.framed c.requires

pub returns-clause-length_value : goal.returns-clause-length_value
returns-clause-length_value g c = text-size g.row.NUMBER c.args.i c.args.self.now.digits.now _ _ c.frame_of.ensures c.text_part-part.ensures c.args.self.now.framed c.requires

pub returns-clause-length_bound : goal.returns-clause-length_bound
returns-clause-length_bound g c =
    omega (
      arith,
      text-short g.row.NUMBER c.args.i c.args.self.now.digits.now,
      ap length (text-is g.row.NUMBER c.args.i c.args.self.now.digits.now _ _ c.frame_of.ensures c.text_part-part.ensures c.args.self.now.framed c.requires),
    )
