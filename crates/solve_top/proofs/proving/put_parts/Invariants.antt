use Rattle.std.proofs.Common.{take, Ok}
use Rattle.solve_report.specs.Puts.{Puts}
use Rattle.solve_top.specs.Parts.{part_lines}
use Rattle.solve_top.proofs.proving.put_parts.Given as goal

abbrev pub invariant-loop-part : goal.invariant-loop-part
invariant-loop-part g l =
    Puts (g.S.Sink.taken l.initial.out) (g.S.Sink.taken l.out) (g.S.Sink.faults l.initial.out) (g.S.Sink.faults l.out)
    (part_lines (take l.part-index l.parts)) (Ok tt)
