-- Lists of tests in order: whether they hold, and the first fault.
use Rattle.std.proofs.Common.{◌≡◌, ℕ, zero, suc, ◌+◌, Bool, true, false, if◌then◌else◌, List, [], ◌∷◌, slice_get, take, Some, Result, Ok, Err, refl, ◌∙◌, arith}
use Rattle.dp_base.specs.Results.{◌>>=◌}
use Rattle.dp_model.specs.Evaluation.{cond_value}
use Rattle.dp_model.specs.declared.answers.FaultKind.{FaultKind}
use Rattle.dp_model.specs.declared.answers.Spot.{Spot}
use Rattle.dp_model.specs.declared.trees.Cond.{Cond}
use Rattle.dp_model.specs.declared.parts.PlainState.{PlainState}
use Rattle.dp_model.specs.declared.whole.Model.{Model}
use Rattle.dp_steps.specs.States.{all_true}
use Rattle.spot_eval.specs.Answers.{at_spot}
use Rattle.spot_eval.specs.declared.ends.SpotFault.{SpotFault}
use Rattle.spot_eval.specs.Looks.{all_at, spot_of}
use Rattle.spot_eval.specs.declared.tests.Tests.{Tests}
use Rattle.visit_laws.proofs.Spots.{without_spot, fault_there}

-- the fault of a test, where the tests before it are true
pub record FirstFault (m : Model) (s : PlainState) (tests : Tests) (given : List ℕ) (from : ℕ) (cs : List Cond) (met : SpotFault) : Type 0 where
  pub place : ℕ
  pub test : Cond
  pub there : slice_get cs place ≡ Some test
  pub fault : cond_value m s test given ≡ Err met.kind
  pub before : all_true m s given (take place cs) ≡ Ok true
  pub spot : met.spot ≡ spot_of tests (from + place)

one_test : (spot : Spot) (r : Result Bool FaultKind) (rest : Result Bool SpotFault) (plain : Result Bool FaultKind) → without_spot rest ≡ plain → without_spot (at_spot spot r >>= λ held. if held then rest else Ok false) ≡ (r >>= λ held. if held then plain else Ok false)
one_test spot (Ok true) rest plain h = h
one_test spot (Ok false) rest plain h = refl
one_test spot (Err kind) rest plain h = refl

module _ (m : Model) (s : PlainState) (tests : Tests) (given : List ℕ) where
  -- tests at their spots are the tests of the definition
  pub all_values : (i : ℕ) (cs : List Cond) → without_spot (all_at m s tests given i cs) ≡ all_true m s given cs
  all_values i [] = refl
  all_values i (c ∷ cs) = one_test (spot_of tests i) (cond_value m s c given) (all_at m s tests given (i + 1) cs) (all_true m s given cs) (all_values (i + 1) cs)

  fault_step : (c : Cond) (cs : List Cond) (i : ℕ) (met : SpotFault) (r : Result Bool FaultKind) → cond_value m s c given ≡ r → (all_at m s tests given (i + 1) cs ≡ Err met → FirstFault m s tests given (i + 1) cs met) → (at_spot (spot_of tests i) r >>= λ held. if held then all_at m s tests given (i + 1) cs else Ok false) ≡ Err met → FirstFault m s tests given i (c ∷ cs) met
  fault_step c cs i met (Err kind) q rest e =
      let told = fault_there {A = Bool} (spot_of tests i) (Err kind) met cc in
      let at : i + 0 ≡ i = omega arith in
      record { place = zero; test = c; there = refl; fault = q ∙ told.0; before = refl; spot = rw at told.1 }
  fault_step c cs i met (Ok false) q rest e = absurd (cc)
  fault_step c cs i met (Ok true) q rest e =
      let f = rest e in
      let at : i + suc f.place ≡ (i + 1) + f.place = omega arith in
      record { place = suc f.place; test = f.test; there = f.there; fault = f.fault; before = rw q f.before; spot = rw at f.spot }

  pub first_fault : (cs : List Cond) (i : ℕ) (met : SpotFault) → all_at m s tests given i cs ≡ Err met → FirstFault m s tests given i cs met
  first_fault [] i met e = absurd (cc)
  first_fault (c ∷ cs) i met e = fault_step c cs i met (cond_value m s c given) refl (first_fault cs (i + 1) met) e

  met_step : (c : Cond) (cs before : List Cond) (i : ℕ) (met : SpotFault) (r : Result Bool FaultKind) → cond_value m s c given ≡ r → (r >>= λ held. if held then all_true m s given before else Ok false) ≡ Ok true → (all_true m s given before ≡ Ok true → all_at m s tests given (i + 1) cs ≡ Err met) → all_at m s tests given i (c ∷ cs) ≡ Err met
  met_step c cs before i met (Ok true) q e rest = rw q (rest e)
  met_step c cs before i met (Ok false) q e rest = absurd (cc)
  met_step c cs before i met (Err kind) q e rest = absurd (cc)

  -- the first fault of tests is the one that is found
  pub test_met : (cs : List Cond) (i k j : ℕ) (c : Cond) (kind : FaultKind) → i + k ≡ j → all_true m s given (take k cs) ≡ Ok true → slice_get cs k ≡ Some c → cond_value m s c given ≡ Err kind → all_at m s tests given i cs ≡ Err (record { spot = spot_of tests j; kind = kind })
  test_met [] i k j c kind at held there fault = absurd (cc)
  test_met (x ∷ xs) i zero j c kind at held there fault =
      let same : x ≡ c = cc in
      let place : i ≡ j = omega arith in
      rw (same, fault, place) refl
  test_met (x ∷ xs) i (suc k) j c kind at held there fault =
      met_step x xs (take k xs) i (record { spot = spot_of tests j; kind = kind }) (cond_value m s x given) refl held (λ before. test_met xs (i + 1) k j c kind (omega arith) before there fault)
