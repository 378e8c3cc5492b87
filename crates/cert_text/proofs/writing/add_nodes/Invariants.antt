use Rattle.std.proofs.Common.{take, Ok}
use Rattle.std.specs.List.{flat_map}
use Rattle.dp_base.specs.Bytes.{line}
use Rattle.solve_report.specs.Adding.{Adds}
use Rattle.cert_text.specs.Texts.{node_line}
use Rattle.cert_types.specs.declared.nodes.CertNode.{CertNode}
use Rattle.cert_text.proofs.writing.add_nodes.Given as goal

abbrev pub invariant-loop-node : goal.invariant-loop-node
invariant-loop-node g l =
    Adds (g.S.Sink.taken l.initial.out) (g.S.Sink.taken l.out) (g.S.Sink.faults l.initial.out) (g.S.Sink.faults l.out) l.initial.held.bytes.items l.held.bytes.items
    (flat_map (λ (n : CertNode). line (node_line l.model n)) (take l.node-index l.nodes)) (Ok tt)
