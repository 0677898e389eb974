-- `frames::is_framed` meets its contract. The invariant: the bytes hold the frame's texts where those from `at` on hold the texts that are left.
use Rattle.frames.specs.Frames.{holds}
use Rattle.frames.specs.Hex.{unhex}
use lib.ListN.{length, drop}
use mathlib.Core.Path.{◌≡◌}
use Prim.Native.Nat.{◌≤◌, ◌-◌, ◌+◌}
use Rattle.frames.proofs.is_framed.Given as goal

abbrev pub invariant-loop : goal.invariant-loop
invariant-loop l =
    (holds l.fn.frame.texts (drop (1 + l.fn.frame.lead) (unhex l.line)) ≡ holds (l.fn.frame.texts - l.counter) (drop l.at (unhex l.line))) × (l.at ≤ length (unhex l.line))
