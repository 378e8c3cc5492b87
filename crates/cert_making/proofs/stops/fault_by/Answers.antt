use Rattle.cert_making.proofs.Logged.{fault_leads, fault_there, fault_told}
use Rattle.cert_making.proofs.stops.fault_by.Goals as goal

pub unreachable-requires : goal.unreachable-requires
unreachable-requires g c =
    let k = c.requires in
    fault_there k.0 c.args.shard k.1 c.end-log.result.0 c.end-log.result.1 (c.end-log.ensures k.0 k.1.shard_record k.1.ends) k.2 k.3 c.in-None.is

pub fault_at-requires : goal.fault_at-requires
fault_at-requires g c =
    let k = c.requires in
    let way = fault_leads k.0 c.args.shard k.1 c.end-log.result.0 c.end-log.result.1 (c.end-log.ensures k.0 k.1.shard_record k.1.ends) c.in-Some.fault c.in-Some.is c.in_ok-logs.logs.items c.in_ok-logs.ensures in
    (way.0, way.1)

pub returns : goal.returns
returns g c = λ p e f ef.
    fault_told p c.args.shard e c.end-log.result.0 c.end-log.result.1 (c.end-log.ensures p e.shard_record e.ends) c.in-Some.fault c.in-Some.is c.in_ok-logs.logs.items c.in_ok-logs.ensures c.fault_at.result c.fault_at.ensures.spot c.fault_at.ensures.steps
