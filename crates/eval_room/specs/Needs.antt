-- Which room suffices for a model's expressions.
use Rattle.std.specs.Prelude.{◌≡◌, ℕ, ◌≤◌, ◌==◌, ◌&&◌, Bool, true, List, length, slice_get, Option, Some, None}
use Rattle.dp_model.specs.declared.parts.BaseCase.{BaseCase}
use Rattle.dp_model.specs.declared.parts.Effect.{Effect}
use Rattle.dp_model.specs.declared.parts.Effect.TheVariants as effects
use Rattle.dp_model.specs.declared.parts.Transition.{Transition}
use Rattle.dp_model.specs.declared.trees.Num.{Num}
use Rattle.dp_model.specs.declared.whole.Model.{Model}
use Rattle.dp_model.specs.Typing.{is_number_kind, is_set_kind, kind_at}
use Rattle.dp_model.specs.Evaluation.{kind_of, object_of_kind}
use Rattle.eval_room.specs.Fits.{num_fits, set_fits, cond_fits, operand_fits}

-- a test holds in so much room and in more
pub record Serves (test : ℕ → Bool) (need : ℕ) : Type 0 where
  pub each : (room : ℕ) → need ≤ room → test room ≡ true

-- so of each item of a list
pub record AllServe {A : Type 0} (test : A → ℕ → Bool) (items : List A) (need : ℕ) : Type 0 where
  pub at : (i : ℕ) (x : A) → slice_get items i ≡ Some x → Serves (test x) need

-- an effect sets a variable of its kind; a set is held when it is known
abbrev pub effect_fits : Model → (given : ℕ) → Effect → ℕ → Bool
effect_fits m given (effects.Number v n) room = is_number_kind (kind_at m.variables v) && num_fits m n given room
effect_fits m given (effects.Members v set) room =
    is_set_kind (kind_at m.variables v) && ((object_of_kind (kind_of m v) == (set_fits m set).0) && operand_fits m (set_fits m set) given room)

abbrev pub weight_fits : Model → (given : ℕ) → Option Num → ℕ → Bool
weight_fits m given (Some n) room = num_fits m n given room
weight_fits m given None room = true

-- the expressions of a transition, with its parameters in force
pub record ServesTransition (m : Model) (t : Transition) (need : ℕ) : Type 0 where
  pub preconditions : AllServe (λ c. cond_fits m c (length t.params)) t.preconditions need
  pub effects : AllServe (effect_fits m (length t.params)) t.effects need
  pub weight : Serves (weight_fits m (length t.params) t.weight) need

pub record ServesBaseCase (m : Model) (b : BaseCase) (need : ℕ) : Type 0 where
  pub conditions : AllServe (λ c. cond_fits m c 0) b.conditions need
  pub cost : Serves (num_fits m b.cost 0) need

pub record AllServeTransition (m : Model) (ts : List Transition) (need : ℕ) : Type 0 where
  pub at : (i : ℕ) (t : Transition) → slice_get ts i ≡ Some t → ServesTransition m t need

pub record AllServeBaseCase (m : Model) (bs : List BaseCase) (need : ℕ) : Type 0 where
  pub at : (i : ℕ) (b : BaseCase) → slice_get bs i ≡ Some b → ServesBaseCase m b need

-- every expression of a model can be evaluated in so much room
pub record ServesModel (m : Model) (need : ℕ) : Type 0 where
  pub transitions : AllServeTransition m m.transitions need
  pub constraints : AllServe (λ c. cond_fits m c 0) m.constraints need
  pub base_cases : AllServeBaseCase m m.base_cases need
  pub bounds : AllServe (λ n. num_fits m n 0) m.bounds need
