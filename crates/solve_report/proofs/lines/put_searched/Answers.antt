use Rattle.std.proofs.Common.{ap, codes, decimal}
use Rattle.dp_base.specs.Bytes.{line}
use Rattle.solve_report.proofs.Written.{Puts-same}
use Rattle.solve_report.proofs.Spelled.{two}
use Rattle.solve_report.proofs.lines.put_searched.Goals as goal

pub returns : goal.returns
returns g c = Puts-same (ap line (two (codes "search visited ") (decimal c.args.visited))) c.put_pieces.ensures
