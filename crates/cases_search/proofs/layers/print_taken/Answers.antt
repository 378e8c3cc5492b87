use Rattle.cases_search.proofs.Fitting.{fits_at}
use Rattle.cases_search.proofs.layers.print_taken.Goals as goal

pub node_shown-requires : goal.node_shown-requires
node_shown-requires g c = fits_at c.args.bench.now c.args.nodes.now c.loop-node.node-index c.node-item.result c.requires c.loop-node-test.true c.node-item.is

pub is_copied-requires : goal.is_copied-requires
is_copied-requires g c = fits_at c.args.bench.now c.args.nodes.now c.loop-node.node-index c.node-item.result c.requires c.loop-node-test.true c.node-item.is
