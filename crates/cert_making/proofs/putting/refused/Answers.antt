use Rattle.std.proofs.Common.{inl}
use Rattle.cert_making.proofs.Starts.{fault_told, head_begun, refused_as}
use Rattle.cert_making.proofs.putting.refused.Goals as goal

pub returns-in-Fault-clause-told : goal.returns-in-Fault-clause-told
returns-in-Fault-clause-told c = λ m options claim before now is head.
    fault_told m options claim before now c.in-Fault.spot c.in-Fault.kind c.in-Fault.last c.fault_at_target.result c.fault_at_target.ensures (refused_as m options c.args.end _ c.in-Fault.is is) head

pub returns-in-Memory-clause-told : goal.returns-in-Memory-clause-told
returns-in-Memory-clause-told c = λ m options claim before now is head. inl (head_begun m options claim before now head)
