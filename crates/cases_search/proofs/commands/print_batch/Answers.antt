use Rattle.std.proofs.Common.{◌≡◌, ◌∙◌, List, sym, subst}
use Rattle.state_layout.specs.declared.node.Node.{Node}
use Rattle.cases_search.specs.Fits.{AllFit}
use Rattle.cases_search.proofs.commands.print_batch.Goals as goal

pub print_letters-requires : goal.print_letters-requires
print_letters-requires g c =
    let same : c.deref.result.now ≡ c.args.batch.now.letters = c.deref.ensures.value ∙ c.list.ensures in
    subst (λ (nodes : List Node). AllFit c.args.bench.now nodes) (sym same) c.requires.letters

pub print_nodes-requires : goal.print_nodes-requires
print_nodes-requires g c =
    let same : c.deref-3.result.now ≡ c.args.batch.now.pruned = c.deref-3.ensures.value ∙ c.list-3.ensures in
    subst (λ (nodes : List Node). AllFit c.args.bench.now nodes) (sym same) c.requires.pruned
