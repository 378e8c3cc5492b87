use Rattle.solve_passes.specs.Ongoing.{pass_line_text}
use Rattle.solve_passes.proofs.progress.put_pass_lines.Goals as goal
use Rattle.solve_report.proofs.Written.{Puts-append, Puts-stop}

pub returns : goal.returns
returns g c = Puts-append c.in_ok-put_found.ensures (Puts-append c.in_ok-put_counts.ensures c.put_pass_line.ensures)

pub returns-in_err-put_counts : goal.returns-in_err-put_counts
returns-in_err-put_counts g c =
    Puts-append c.in_ok-put_found.ensures
    (Puts-stop (pass_line_text c.args.printing c.args.progress.now c.args.visited c.args.dropped) c.in_err-put_counts.ensures c.from_residual-in_err-put_counts.ensures.0)
