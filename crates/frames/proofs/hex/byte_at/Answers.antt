use Rattle.frames.specs.Hex.{unhex}
use Rattle.frames.proofs.Digits.{unhex-length, unhex-at}
use lib.ListN.{get_or-eq_default}
use mathlib.Core.Path.{sym}
use native.Mathlib.Omega.{arith}
use Rattle.frames.proofs.hex.byte_at.Goals as goal

pub returns-then-line-place : goal.returns-then-line-place
returns-then-line-place c = let s = c.args.line.now in sym (get_or-eq_default (unhex s) 0 (omega (arith, unhex-length s)))

pub returns : goal.returns
returns c = let x = c.args in rw (c.hex_value-high.ensures, c.hex_value-low.ensures) (sym (unhex-at x.line.now x.place (omega arith)))
