use Rattle.std.proofs.Common.{◌+◌, Bool, inl, sym, subst}
use Rattle.dp_claims.specs.Enough.{IsAtMostReached}
use Rattle.dp_model.specs.declared.answers.Keep.{Keep}
use Rattle.dp_steps.specs.Faults.{Meets}
use Rattle.cert_making.specs.declared.ends.CertEnd.TheVariants as ends
use Rattle.cert_making.specs.declared.ends.Halt.TheVariants as halts
use Rattle.cert_making.proofs.Wholes.{better_than, halted, memory_not_write, told_up}
use Rattle.cert_making.proofs.searching.after_halt.Goals as goal

pub found_by-requires : goal.found_by-requires
found_by-requires g c =
    let k = c.requires in
    let h = halted k.0 k.1 k.2 k.3 c.args.budget c.args.shard k.4 k.5 c.args.halt halts.Better c.in-Better.is k.6 in
    (k.0, h.0.0, h.0.1, h.0.2)

pub fault_by-requires : goal.fault_by-requires
fault_by-requires g c =
    let k = c.requires in
    let h = halted k.0 k.1 k.2 k.3 c.args.budget c.args.shard k.4 k.5 c.args.halt halts.Fault c.in-Fault.is k.6 in
    (k.0, h.0.0, h.0.1, h.0.2)

pub returns-in-Budget-clause-told : goal.returns-in-Budget-clause-told
returns-in-Budget-clause-told g c = λ p options claim claimed before now keep prune same word stops.
    let h = halted p options claim claimed c.args.budget c.args.shard before now c.args.halt halts.Budget c.in-Budget.is stops in
    (sym same, subst (λ (k : Keep). IsAtMostReached p.model k (c.args.budget + 1)) keep h.0, h.1)

pub returns-in_ok-found_by-in-Better-clause-told : goal.returns-in_ok-found_by-in-Better-clause-told
returns-in_ok-found_by-in-Better-clause-told g c = λ p options claim claimed before now keep prune same word stops.
    let h = halted p options claim claimed c.args.budget c.args.shard before now c.args.halt halts.Better c.in-Better.is stops in
    let f = c.in_ok-found_by-in-Better.ensures p claimed h.0.0 h.0.1 h.0.2 h.0.3 in
    (f.0, better_than p.model claim claimed c.in_ok-found_by-in-Better.field-0.cost word f.1, h.1)

pub returns-in_err-found_by-in-Better-clause-told : goal.returns-in_err-found_by-in-Better-clause-told
returns-in_err-found_by-in-Better-clause-told g c = λ p options claim claimed before now keep prune same word stops.
    let h = halted p options claim claimed c.args.budget c.args.shard before now c.args.halt halts.Better c.in-Better.is stops in
    told_up p.model options claim before now c.from_residual.result ends.Memory c.from_residual.ensures.1 (inl h.1)

pub returns-in_err-found_by-in-Better-clause-write : goal.returns-in_err-found_by-in-Better-clause-write
returns-in_err-found_by-in-Better-clause-write g c = λ e. absurd (memory_not_write c.from_residual.result c.from_residual.ensures.1 e)

pub returns-in_ok-fault_by-in-Fault-clause-told : goal.returns-in_ok-fault_by-in-Fault-clause-told
returns-in_ok-fault_by-in-Fault-clause-told g c = λ p options claim claimed before now keep prune same word stops.
    let h = halted p options claim claimed c.args.budget c.args.shard before now c.args.halt halts.Fault c.in-Fault.is stops in
    let f = c.in_ok-fault_by-in-Fault.field-0 in
    (subst (λ (b : Bool). Meets p.model b f.steps f.spot f.kind) prune (c.in_ok-fault_by-in-Fault.ensures p h.0.0 h.0.1 h.0.2), h.1)

pub returns-in_err-fault_by-in-Fault-clause-told : goal.returns-in_err-fault_by-in-Fault-clause-told
returns-in_err-fault_by-in-Fault-clause-told g c = λ p options claim claimed before now keep prune same word stops.
    let h = halted p options claim claimed c.args.budget c.args.shard before now c.args.halt halts.Fault c.in-Fault.is stops in
    told_up p.model options claim before now c.from_residual-in_err-fault_by-in-Fault.result ends.Memory c.from_residual-in_err-fault_by-in-Fault.ensures.1 (inl h.1)

pub returns-in_err-fault_by-in-Fault-clause-write : goal.returns-in_err-fault_by-in-Fault-clause-write
returns-in_err-fault_by-in-Fault-clause-write g c = λ e. absurd (memory_not_write c.from_residual-in_err-fault_by-in-Fault.result c.from_residual-in_err-fault_by-in-Fault.ensures.1 e)

pub returns-in-Memory-clause-told : goal.returns-in-Memory-clause-told
returns-in-Memory-clause-told g c = λ p options claim claimed before now keep prune same word stops.
    inl (halted p options claim claimed c.args.budget c.args.shard before now c.args.halt halts.Memory c.in-Memory.is stops)

pub returns-in-Write-clause-told : goal.returns-in-Write-clause-told
returns-in-Write-clause-told g c = λ p options claim claimed before now keep prune same word stops.
    halted p options claim claimed c.args.budget c.args.shard before now c.args.halt halts.Write c.in-Write.is stops
