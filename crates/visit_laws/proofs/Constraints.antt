-- What is found of the constraints of a state.
use Rattle.std.proofs.Common.{◌≡◌, true, false, [], ap, sym, ◌∙◌, zero-add}
use Rattle.spot_eval.specs.Looks.{allowed_at, spot_of}
use Rattle.spot_eval.specs.declared.tests.Tests.TheVariants.{Constraints}
use Rattle.visit_laws.specs.Constraints.{AllowedFound, ForbiddenFound, ConstraintFaults, ConstraintMet}
use Rattle.visit_laws.proofs.Spots.{from_value, to_value}
use Rattle.visit_laws.proofs.Tests.{all_values, first_fault, test_met}

pub allowed_found : AllowedFound
allowed_found m s =
    let same = all_values m s Constraints [] 0 m.constraints in
    (λ e. sym same ∙ to_value (allowed_at m s) true e, λ allowed. from_value (allowed_at m s) true (same ∙ allowed))

pub forbidden_found : ForbiddenFound
forbidden_found m s =
    let same = all_values m s Constraints [] 0 m.constraints in
    (λ e. sym same ∙ to_value (allowed_at m s) false e, λ forbidden. from_value (allowed_at m s) false (same ∙ forbidden))

pub constraint_faults : ConstraintFaults
constraint_faults m prune cost s met e =
    let f = first_fault m s Constraints [] m.constraints 0 met e in
    let at : met.spot ≡ spot_of Constraints f.place = f.spot ∙ ap (spot_of Constraints) (zero-add f.place) in
    rw at (f.before, (f.test, f.there, f.fault))

pub constraint_met : ConstraintMet
constraint_met m prune cost s i kind meets =
    let fault = meets.1 in
    test_met m s Constraints [] m.constraints 0 i i fault.0 kind (zero-add i) meets.0 fault.1 fault.2
