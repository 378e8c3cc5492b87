use Rattle.std.proofs.Common.{FitsSigned, w64, rules}
use Rattle.std.proofs.lemmas.Int.{to_z-of_z}
use Rattle.solve_target.proofs.Targets.{base_first, base_start, fault_first, fault_start, forbidden_first, forbidden_start, inner_first, inner_start}
use Rattle.solve_target.proofs.looks.look_at_target.Goals as goal
use Rattle.successors.specs.Answers.{Met}

pub returns-in-Ok-Open-clause-first : goal.returns-in-Ok-Open-clause-first
returns-in-Ok-Open-clause-first c = inner_first c.args.model.now c.args.prune c.in-Ok-Open.field-0 c.in-Ok-Open.field-0-0 c.in-Ok-Open.ensures.start c.in-Ok-Open.field-0-is

pub returns-in-Ok-Open-clause-is : goal.returns-in-Ok-Open-clause-is
returns-in-Ok-Open-clause-is c = inner_start c.args.model.now c.args.prune c.in-Ok-Open.field-0 c.in-Ok-Open.field-0-0 c.in-Ok-Open.ensures.start c.in-Ok-Open.field-0-is

pub returns-in-Ok-Base-clause-first : goal.returns-in-Ok-Base-clause-first
returns-in-Ok-Base-clause-first c =
    let fits : FitsSigned w64 c.in-Ok-Base.cost = search rules in
    base_first c.args.model.now c.args.prune c.in-Ok-Base.field-0 c.in-Ok-Base.cost _ c.without_steps.result c.in-Ok-Base.ensures.start c.in-Ok-Base.field-0-is (to_z-of_z w64 c.in-Ok-Base.cost fits) c.without_steps.ensures

pub returns-in-Ok-Base-clause-is : goal.returns-in-Ok-Base-clause-is
returns-in-Ok-Base-clause-is c =
    let fits : FitsSigned w64 c.in-Ok-Base.cost = search rules in
    base_start c.args.model.now c.args.prune c.in-Ok-Base.field-0 c.in-Ok-Base.cost _ c.without_steps.result c.in-Ok-Base.ensures.start c.in-Ok-Base.field-0-is (search rules) (to_z-of_z w64 c.in-Ok-Base.cost fits) c.without_steps.ensures

pub returns-in-Ok-NotAllowed-clause-first : goal.returns-in-Ok-NotAllowed-clause-first
returns-in-Ok-NotAllowed-clause-first c = forbidden_first c.args.model.now c.args.prune c.in-Ok-NotAllowed.field-0 c.in-Ok-NotAllowed.ensures.start c.in-Ok-NotAllowed.field-0-is

pub returns-in-Ok-NotAllowed-clause-is : goal.returns-in-Ok-NotAllowed-clause-is
returns-in-Ok-NotAllowed-clause-is c = forbidden_start c.args.model.now c.args.prune c.in-Ok-NotAllowed.field-0 c.in-Ok-NotAllowed.ensures.start c.in-Ok-NotAllowed.field-0-is

pub returns-in-Err-Fault-clause-first : goal.returns-in-Err-Fault-clause-first
returns-in-Err-Fault-clause-first c =
    let found = rw c.in-Err-Fault.field-0-is at c.in-Err-Fault.ensures.start in
    let met : Met = record { spot = c.in-Err-Fault.spot; kind = c.in-Err-Fault.kind; last = c.in-Err-Fault.field-0-2 } in
    fault_first c.args.model.now c.args.prune met _ _ c.fault_without_steps.result found c.fault_without_steps.ensures c.in-Err-Fault.spot-is c.in-Err-Fault.kind-is

pub returns-in-Err-Fault-clause-is : goal.returns-in-Err-Fault-clause-is
returns-in-Err-Fault-clause-is c =
    let found = rw c.in-Err-Fault.field-0-is at c.in-Err-Fault.ensures.start in
    let met : Met = record { spot = c.in-Err-Fault.spot; kind = c.in-Err-Fault.kind; last = c.in-Err-Fault.field-0-2 } in
    fault_start c.args.model.now c.args.prune met _ _ c.fault_without_steps.result found c.fault_without_steps.ensures c.in-Err-Fault.spot-is c.in-Err-Fault.kind-is
