use Rattle.solve_report.proofs.Written.{Puts-append}
use Rattle.solve_top.proofs.program.put_told.Goals as goal

pub returns : goal.returns
returns g c = Puts-append c.in_ok-put_parts.ensures c.put_checked.ensures
