use Rattle.std.proofs.Common.{rules}
use Rattle.std.specs.Int.{w64}
use Rattle.std.proofs.lemmas.Int.{to_z-of_z}
use Rattle.successors.proofs.Batches.{offered}
use Rattle.successors.proofs.visits.Visitor.push_look.Goals as goal

pub returns-in_ok-push_offer-in-Base-clause-fits : goal.returns-in_ok-push_offer-in-Base-clause-fits
returns-in_ok-push_offer-in-Base-clause-fits g c =
    let cost = to_z-of_z w64 c.in_ok-cost-in-Base.cost (search rules) in
    rw (c.in_ok-push_offer-in-Base.ensures, cost) (offered c.args.self.now.model c.args.batch.now (record { cost = c.in_ok-cost-in-Base.cost; transition = c.args.number }) c.requires.fits c.in_ok-cost-in-Base.ensures.in_range)
