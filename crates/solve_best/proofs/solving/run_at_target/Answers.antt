use Rattle.std.proofs.Common.{Bool, FitsSigned, w64, rules, subst}
use Rattle.std.proofs.lemmas.Int.{to_z-of_z}
use Rattle.dp_steps.specs.Faults.{Meets}
use Rattle.solve_best.proofs.AtTarget.{base_target, fault_target, forbidden_target, no_memory}
use Rattle.solve_best.proofs.solving.run_at_target.Goals as goal

pub returns-in-Ok-Inner-clause-inner : goal.returns-in-Ok-Inner-clause-inner
returns-in-Ok-Inner-clause-inner c = rw c.in-Ok-Inner.field-0-is at c.in-Ok-Inner.ensures.is

pub returns-in-Ok-Base-clause-right : goal.returns-in-Ok-Base-clause-right
returns-in-Ok-Base-clause-right c =
    let is = rw c.in-Ok-Base.field-0-is at c.in-Ok-Base.ensures.is in
    let fits : FitsSigned w64 c.in-Ok-Base.found.cost = search rules in
    base_target c.args.model.now c.args.options.now c.run_without_search.result c.in-Ok-Base.found _ is (to_z-of_z w64 c.in-Ok-Base.found.cost fits) c.run_without_search.ensures

pub returns-in-Ok-NotAllowed-clause-right : goal.returns-in-Ok-NotAllowed-clause-right
returns-in-Ok-NotAllowed-clause-right c =
    let is = rw c.in-Ok-NotAllowed.field-0-is at c.in-Ok-NotAllowed.ensures.is in
    forbidden_target c.args.model.now c.args.options.now c.run_without_search-in-Ok-NotAllowed.result is c.run_without_search-in-Ok-NotAllowed.ensures

pub returns-in-Ok-Fault-clause-right : goal.returns-in-Ok-Fault-clause-right
returns-in-Ok-Fault-clause-right c =
    let is = rw c.in-Ok-Fault.field-0-is at c.in-Ok-Fault.ensures.is in
    fault_target c.args.model.now c.args.options.now c.run_without_search-in-Ok-Fault.result c.in-Ok-Fault.fault
    (subst (λ (p : Bool). Meets c.args.model.now p c.in-Ok-Fault.fault.steps c.in-Ok-Fault.fault.spot c.in-Ok-Fault.fault.kind) c.prune.ensures is) c.run_without_search-in-Ok-Fault.ensures

pub returns-in-Err-clause-right : goal.returns-in-Err-clause-right
returns-in-Err-clause-right c = no_memory c.args.model.now c.args.options.now c.run_out_of_memory.result c.run_out_of_memory.ensures
