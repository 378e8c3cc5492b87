use Rattle.best_ends.proofs.Founds.{best_none, best_some, left_wide, held_leads, held_legal, lowered_none, lowered_some}
use Rattle.best_ends.proofs.bests.found_in.Goals as goal

pub best_held-requires : goal.best_held-requires
best_held-requires g c =
    let r = c.requires in
    left_wide r.0 r.1 r.2 r.3 c.args.tally.now c.args.cause r.5 c.deref.result.now c.deref.ensures.value

pub found_at-requires : goal.found_at-requires
found_at-requires g c =
    let r = c.requires in
    let way = held_leads r.0 r.1 r.2 r.3 c.args.tally.now c.args.cause r.5 c.deref.result.now c.deref.ensures.value c.in-Some.held c.in-Some.ensures.0 in
    (way.0, way.1)

pub returns-in_ok-found_at-in-Some-clause-legal : goal.returns-in_ok-found_at-in-Some-clause-legal
returns-in_ok-found_at-in-Some-clause-legal g c p records before after law left =
    let found = c.in_ok-found_at-in-Some in
    held_legal p records before after c.args.tally.now c.args.cause left c.deref.result.now c.deref.ensures.value c.in-Some.held c.in-Some.ensures.0 found.field-0 found.ensures.cost found.ensures.steps

pub returns-in_ok-found_at-in-Some-clause-best : goal.returns-in_ok-found_at-in-Some-clause-best
returns-in_ok-found_at-in-Some-clause-best g c p records before after law left =
    let found = c.in_ok-found_at-in-Some in
    lowered_some p records before after c.args.tally.now c.args.cause left c.deref.result.now c.deref.ensures.value g.L.CostLaw.minimize g.L.CostLaw.operator law c.in-Some.held c.in-Some.ensures found.field-0 found.ensures.cost

pub returns-in-None-clause-best : goal.returns-in-None-clause-best
returns-in-None-clause-best g c p records before after law left =
    lowered_none p records before after c.args.tally.now c.args.cause left c.deref.result.now c.deref.ensures.value g.L.CostLaw.minimize g.L.CostLaw.operator c.in-None.ensures

pub returns-in_ok-found_at-in-Some-clause-held : goal.returns-in_ok-found_at-in-Some-clause-held
returns-in_ok-found_at-in-Some-clause-held g c p records before after law left =
    let found = c.in_ok-found_at-in-Some in
    best_some p records before after c.args.tally.now c.args.cause left c.deref.result.now c.deref.ensures.value g.L.CostLaw.minimize g.L.CostLaw.operator law c.in-Some.held c.in-Some.ensures found.field-0 found.ensures.cost

pub returns-in-None-clause-held : goal.returns-in-None-clause-held
returns-in-None-clause-held g c p records before after law left =
    best_none p records before after c.args.tally.now c.args.cause left c.deref.result.now c.deref.ensures.value g.L.CostLaw.minimize g.L.CostLaw.operator c.in-None.ensures
