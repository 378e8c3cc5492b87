use Rattle.cases_search.proofs.Fitting.{fits_at}
use Rattle.cases_search.proofs.commands.print_letters.Goals as goal

pub print_node-requires : goal.print_node-requires
print_node-requires g c = rw c.get.ensures (fits_at c.args.bench.now c.args.letters.now c.loop-letter.letter-index c.letter-item.result c.requires c.loop-letter-test.true c.letter-item.is)
