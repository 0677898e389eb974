-- `frames::text_part` meets its contract. The invariant: the walk has passed as many texts as the loop has run, and come to the place `at`.
use Rattle.frames.proofs.Parts.{Come}
use Rattle.frames.specs.Hex.{unhex}
use Rattle.frames.proofs.text_part.Given as goal

abbrev pub invariant-loop : goal.invariant-loop
invariant-loop l = Come l.fn.frame (unhex l.line) l.counter l.at
