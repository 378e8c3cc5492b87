use Rattle.cert_text.proofs.Holding.{Puts-added, Puts-added_stop}
use Rattle.cert_text.proofs.writing.put_nodes.Goals as goal

pub returns-in_err-add_nodes : goal.returns-in_err-add_nodes
returns-in_err-add_nodes g c = Puts-added_stop c.new-held.ensures c.in_err-add_nodes.ensures c.from_residual.ensures.0

pub returns : goal.returns
returns g c = Puts-added c.new-held.ensures c.in_ok-add_nodes.ensures c.write_held.ensures.wrote
