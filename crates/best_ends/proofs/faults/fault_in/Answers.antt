use Rattle.best_ends.proofs.Founds.{fault_leads, fault_met, fault_there}
use Rattle.best_ends.proofs.faults.fault_in.Goals as goal

pub fault_at-requires : goal.fault_at-requires
fault_at-requires c =
    let r = c.requires.left in
    let way = fault_leads r.0 r.1 r.2 r.3 c.args.tally.now c.args.cause r.4 c.deref.result.now c.deref.ensures.value c.in-Some.fault c.in-Some.ensures in
    (way.0, way.1)

pub unreachable-requires : goal.unreachable-requires
unreachable-requires c =
    let r = c.requires.left in
    fault_there r.0 r.1 r.2 r.3 c.args.tally.now c.args.cause r.4 c.requires.fault c.deref.result.now c.deref.ensures.value c.in-None.ensures

pub returns : goal.returns
returns c p records before after left =
    fault_met p records before after c.args.tally.now c.args.cause left c.deref.result.now c.deref.ensures.value c.in-Some.fault c.in-Some.ensures c.fault_at.result c.fault_at.ensures.spot c.fault_at.ensures.steps
