use Rattle.std.proofs.Common.{◌≡◌, min, take}
use Rattle.announcer.specs.Ends.{refused_of}
use Rattle.pass_run.proofs.announced.refused_by.Given as goal

-- the callers so far
abbrev pub invariant-loop-caller : goal.invariant-loop-caller
invariant-loop-caller l = l.refused ≡ min (refused_of (take l.caller-index l.callers.items)) 18446744073709551615
