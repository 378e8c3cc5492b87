use Rattle.std.proofs.Common.{FitsSigned, refl, sym, subst, w64, ℤ, rules}
use Rattle.std.proofs.lemmas.Int.{to_z-of_z}
use Rattle.dp_steps.specs.States.{Base}
use Rattle.solve_passes.proofs.AtTarget.{base_start, fault_start, fault_target, forbidden_start, forbidden_target, inner_start, no_memory}
use Rattle.solve_passes.proofs.Concluding.{answered}
use Rattle.solve_passes.proofs.solving.solve_at_target.Goals as goal
use Rattle.successors.specs.Answers.{Met}

pub returns-in-Ok-Open-clause-inner : goal.returns-in-Ok-Open-clause-inner
returns-in-Ok-Open-clause-inner g c = (inner_start c.args.model.now c.prune.result c.in-Ok-Open.field-0 c.in-Ok-Open.field-0-0 c.in-Ok-Open.ensures.start c.in-Ok-Open.field-0-is, refl)

pub conclude_at_target-requires-clause-base : goal.conclude_at_target-requires-clause-base
conclude_at_target-requires-clause-base g c =
    let fits : FitsSigned w64 c.in-Ok-Base.cost = search rules in
    subst (λ (n : ℤ). Base c.args.model.now c.args.model.now.target n) (sym (to_z-of_z w64 c.in-Ok-Base.cost fits)) (base_start c.args.model.now c.prune.result c.in-Ok-Base.field-0 c.in-Ok-Base.cost c.in-Ok-Base.ensures.start c.in-Ok-Base.field-0-is)

pub returns-in-Ok-NotAllowed-clause-concluded : goal.returns-in-Ok-NotAllowed-clause-concluded
returns-in-Ok-NotAllowed-clause-concluded g c = λ gap.
    answered c.solved_by.result c.solved_by.ensures (forbidden_target c.args.model.now c.args.options.now gap c.args.printing (g.S.Sink.taken c.args.out.now) (g.S.Sink.taken c.conclude.new.out) c.conclude.result
    (forbidden_start c.args.model.now c.prune.result c.in-Ok-NotAllowed.field-0 c.in-Ok-NotAllowed.ensures.start c.in-Ok-NotAllowed.field-0-is) c.conclude.ensures.printed)

pub returns-in-Err-Fault-clause-concluded : goal.returns-in-Err-Fault-clause-concluded
returns-in-Err-Fault-clause-concluded g c = λ gap.
    let found = rw c.in-Err-Fault.field-0-is at c.in-Err-Fault.ensures.start in
    let met : Met = record { spot = c.in-Err-Fault.spot; kind = c.in-Err-Fault.kind; last = c.in-Err-Fault.field-0-2 } in
    answered c.solved_by-in-Err-Fault.result c.solved_by-in-Err-Fault.ensures (fault_target c.args.model.now c.args.options.now gap c.args.printing (g.S.Sink.taken c.args.out.now) (g.S.Sink.taken c.conclude-in-Err-Fault.new.out) c.conclude-in-Err-Fault.result met c.fault_at_target-fault.result _ _
    (fault_start c.args.model.now c.args.options.now c.prune.result met c.prune.ensures found) c.fault_at_target-fault.ensures c.in-Err-Fault.spot-is c.in-Err-Fault.kind-is c.conclude-in-Err-Fault.ensures.printed)

pub returns-clause-concluded : goal.returns-clause-concluded
returns-clause-concluded g c = λ gap.
    answered c.solved_by-in-Err-Memory.result c.solved_by-in-Err-Memory.ensures (no_memory c.args.model.now c.args.options.now gap c.args.printing (g.S.Sink.taken c.args.out.now) (g.S.Sink.taken c.run_out.new.out) c.run_out.result c.run_out.ensures.printed)
