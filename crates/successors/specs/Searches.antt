-- What an expander is of, and what is visited.
use Rattle.std.specs.Prelude.{ℕ, Bool, Option, ℤ, refl}
use Rattle.std.specs.Coded.{Coded, code_by, coded×, coded_bool, coded_option, coded_ℤ, coded_ℕ}
use Rattle.dp_model.specs.contracts.parts.PlainState as states
use Rattle.dp_model.specs.contracts.whole.Model as models
use Rattle.dp_model.specs.declared.parts.PlainState.{PlainState}
use Rattle.dp_model.specs.declared.whole.Model.{Model}
use Rattle.path_log.specs.contracts.logs.StepId as steps
use Rattle.path_log.specs.declared.logs.StepId.{StepId}

-- a model, and whether its dual bounds are used
pub record Search : Type 0 where
  pub model : Model
  pub prune : Bool

abbrev pub search_code : Coded Search
search_code = code_by (Model × Bool) (coded× models.the_row.coded coded_bool) (λ s. (s.model, s.prune)) (λ p. record { model = p.0; prune = p.1 }) (λ _. refl)

-- what is visited, under which step, with which best word
pub record Visit : Type 0 where
  pub prune : Bool
  pub state : PlainState
  pub cost : Option ℤ
  pub id : StepId
  pub best : ℕ

abbrev pub visit_code : Coded Visit
visit_code =
    code_by (Bool × (PlainState × (Option ℤ × (StepId × ℕ)))) (coded× coded_bool (coded× states.the_row.coded (coded× (coded_option coded_ℤ) (coded× steps.the_row.coded coded_ℕ))))
    (λ v. (v.prune, (v.state, (v.cost, (v.id, v.best))))) (λ p. record { prune = p.0; state = p.1.0; cost = p.1.1.0; id = p.1.1.1.0; best = p.1.1.1.1 }) (λ _. refl)

-- a visit in a model
pub record Visiting : Type 0 where
  pub model : Model
  pub visit : Visit

abbrev pub visiting_code : Coded Visiting
visiting_code = code_by (Model × Visit) (coded× models.the_row.coded visit_code) (λ v. (v.model, v.visit)) (λ p. record { model = p.0; visit = p.1 }) (λ _. refl)
