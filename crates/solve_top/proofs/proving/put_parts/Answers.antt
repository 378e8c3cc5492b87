use Rattle.std.proofs.Common.{List, ℕ, ap}
use Rattle.kept_model.specs.declared.parts.Part.{Part}
use Rattle.solve_report.proofs.Written.{Puts-item_stop, Puts-same}
use Rattle.solve_top.specs.Parts.{part_line}
use Rattle.solve_top.proofs.proving.put_parts.Goals as goal

pub returns-in_err-put_part : goal.returns-in_err-put_part
returns-in_err-put_part g c =
    let text : Part → List ℕ = λ (p : Part). part_line p.name p.kept in
    Puts-item_stop text c.args.parts.now c.loop-part.part-index _ c.loop-part-test.true c.loop-part.invariant (Puts-same (ap text c.part-item.is) c.in_err-put_part.ensures) c.from_residual.ensures.0
