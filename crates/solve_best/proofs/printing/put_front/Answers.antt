use Rattle.solve_report.proofs.Written.{Puts-append}
use Rattle.solve_best.proofs.printing.put_front.Goals as goal

pub returns : goal.returns
returns g c = Puts-append c.in_ok-put_found.ensures c.put_visits.ensures
