use Rattle.cert_making.proofs.Logged.{held_leads, held_there, held_told}
use Rattle.cert_making.proofs.stops.found_by.Goals as goal

pub unreachable-requires : goal.unreachable-requires
unreachable-requires g c =
    let k = c.requires in
    held_there k.0 c.args.shard k.1 c.end-log.result.0 c.end-log.result.1 (c.end-log.ensures k.0 k.1.shard_record k.1.ends) k.2 k.3 c.in-None.is

pub found_at-requires : goal.found_at-requires
found_at-requires g c =
    let k = c.requires in
    let way = held_leads k.0 c.args.shard k.1 c.end-log.result.0 c.end-log.result.1 (c.end-log.ensures k.0 k.1.shard_record k.1.ends) c.in-Some.held c.in-Some.is c.in_ok-logs.logs.items c.in_ok-logs.ensures in
    (way.0, way.1)

pub returns : goal.returns
returns g c = λ p claimed e h eh less.
    held_told p c.args.shard e c.end-log.result.0 c.end-log.result.1 (c.end-log.ensures p e.shard_record e.ends) h c.in-Some.held eh c.in-Some.is claimed less c.in_ok-logs.logs.items c.in_ok-logs.ensures c.found_at.result c.found_at.ensures.cost c.found_at.ensures.steps
