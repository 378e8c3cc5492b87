use Rattle.dp_base.specs.Bytes.{line}
use Rattle.solve_report.proofs.Written.{Adds-item, Adds-item_stop}
use Rattle.cert_text.specs.Texts.{node_line}
use Rattle.cert_types.specs.declared.nodes.CertNode.{CertNode}
use Rattle.cert_text.proofs.writing.add_nodes.Goals as goal

pub loop-node-preserved : goal.loop-node-preserved
loop-node-preserved g c =
    Adds-item (λ (n : CertNode). line (node_line c.args.model.now n)) c.args.nodes.now c.loop-node.node-index _ c.loop-node-test.true c.loop-node.invariant c.in_ok-add_node.ensures

pub returns-in_err-add_node : goal.returns-in_err-add_node
returns-in_err-add_node g c =
    Adds-item_stop (λ (n : CertNode). line (node_line c.args.model.now n)) c.args.nodes.now c.loop-node.node-index _ c.loop-node-test.true c.loop-node.invariant c.in_err-add_node.ensures c.from_residual.ensures.0
