use Rattle.std.proofs.Common.{List, sym, subst}
use Rattle.spot_eval.specs.Moves.{others_of}
use Rattle.successors.specs.Switches.{AreSwitches}
use Rattle.successors.specs.declared.switches.Switch.{Switch}
use Rattle.successors.proofs.expander.Expander.fill.Goals as goal

pub fill-requires-clause-switches : goal.fill-requires-clause-switches
fill-requires-clause-switches g c =
    let m = c.self.inside.model.now in
    subst (λ (xs : List Switch). AreSwitches m (others_of m) xs) (sym c.deref-3.ensures.value) c.self.invariant.4
