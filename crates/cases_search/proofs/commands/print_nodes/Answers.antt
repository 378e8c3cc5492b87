use Rattle.cases_search.proofs.Fitting.{fits_at}
use Rattle.cases_search.proofs.commands.print_nodes.Goals as goal

pub print_node-requires : goal.print_node-requires
print_node-requires g c = fits_at c.args.bench.now c.args.nodes.now c.loop-node.node-index c.node-item.result c.requires c.loop-node-test.true c.node-item.is
