use Rattle.std.proofs.Common.{◌≡◌, refl, subst}
use Rattle.successors.specs.Starts.{StartFits}
use Rattle.successors.specs.declared.starts.Start.{Start}
use Rattle.successors.specs.declared.starts.Start.TheVariants.{Open}
use Rattle.cases_search.proofs.commands.start.Goals as goal

pub node_shown-requires : goal.node_shown-requires
node_shown-requires g c =
    let same : c.in-Ok-Open.field-0 ≡ Open c.in-Ok-Open.node = cc in
    (c.start.new.self, refl, subst (λ (s : Start). StartFits c.start.new.self s) same c.in-Ok-Open.ensures.fits)
