use Rattle.std.proofs.Common.{◌≡◌, ◌∙◌, List, sym, subst}
use Rattle.state_layout.specs.declared.node.Node.{Node}
use Rattle.cases_search.specs.Fits.{AllFit}
use Rattle.cases_search.proofs.layers.take.Goals as goal

pub print_taken-requires : goal.print_taken-requires
print_taken-requires g c =
    let same : c.deref.result.now ≡ c.in_ok-taken.taken.kept = c.deref.ensures.value ∙ c.list.ensures in
    subst (λ (nodes : List Node). AllFit c.take_best.new.self nodes) (sym same) c.in_ok-taken.ensures.taken.0

pub print_taken-requires-2 : goal.print_taken-requires-2
print_taken-requires-2 g c =
    let same : c.deref-2.result.now ≡ c.in_ok-taken.taken.dropped = c.deref-2.ensures.value ∙ c.list-2.ensures in
    subst (λ (nodes : List Node). AllFit c.take_best.new.self nodes) (sym same) c.in_ok-taken.ensures.taken.1
