use Rattle.dp_base.specs.Bytes.{line}
use Rattle.solve_report.proofs.Written.{Adds-written, Puts-append, Puts-stop}
use Rattle.cert_text.specs.Texts.{node_line}
use Rattle.cert_text.proofs.writing.add_behind.Goals as goal

pub returns-in_err-write_held : goal.returns-in_err-write_held
returns-in_err-write_held g c =
    Adds-written c.args.held.now.bytes.items (line (node_line c.args.model.now c.args.node)) c.in_err-write_held.ensures.none (Puts-stop _ c.in_err-write_held.ensures.wrote c.from_residual.ensures.0)

pub returns : goal.returns
returns g c =
    Adds-written c.args.held.now.bytes.items (line (node_line c.args.model.now c.args.node)) c.in_ok-write_held.ensures.none (Puts-append c.in_ok-write_held.ensures.wrote c.put_node.ensures)
