-- What is kept of a model: some of its dual bounds and preferences, and all else.
use Rattle.std.specs.Prelude.{◌≡◌, ℕ, ◌+◌, Bool, true, false, if◌then◌else◌, List, [], ◌∷◌, ◌++◌, drop}
use Rattle.dp_model.specs.Typing.{is_without}
use Rattle.dp_model.specs.declared.parts.Preference.TheVariants.{Without}
use Rattle.dp_model.specs.declared.parts.Variable.{Variable}
use Rattle.dp_model.specs.declared.trees.Num.{Num}
use Rattle.dp_model.specs.declared.whole.Model.{Model}
use Rattle.kept_model.specs.declared.kept.Kept.{Kept}
use Rattle.kept_model.specs.declared.parts.Part.{Part}
use Rattle.kept_model.specs.declared.parts.PartName.TheVariants.{Bound, Preference}

-- the chosen ones of a list, in order; where there is no choice, none
abbrev pub chosen : {A : Type 0} → List Bool → List A → List A
chosen choice [] = []
chosen [] (x ∷ xs) = []
chosen (true ∷ more) (x ∷ xs) = x ∷ chosen more xs
chosen (false ∷ more) (x ∷ xs) = chosen more xs

-- a variable with its preference, or without
abbrev pub variable_if : Bool → Variable → Variable
variable_if true v = v
variable_if false v = record v { preference = Without }

-- the variables with the chosen preferences; where there is no choice, without
abbrev pub variables_with : List Bool → List Variable → List Variable
variables_with choice [] = []
variables_with [] (v ∷ vs) = variable_if false v ∷ variables_with [] vs
variables_with (keeps ∷ more) (v ∷ vs) = variable_if keeps v ∷ variables_with more vs

-- ---- the parts, each with whether it is kept

-- whether the first of some choices keeps; where there is none, nothing is kept
abbrev pub kept_first : List Bool → Bool
kept_first [] = false
kept_first (keeps ∷ more) = keeps

-- the dual bounds, by their numbers from a number on
abbrev pub bounds_from : ℕ → List Bool → List Num → List Part
bounds_from number choice [] = []
bounds_from number choice (e ∷ es) = record { name = Bound number; kept = kept_first choice } ∷ bounds_from (number + 1) (drop 1 choice) es

-- the preference of a variable, if it has one
abbrev pub preference_of : Variable → Bool → List Part
preference_of v kept = if is_without v.preference then [] else record { name = Preference v.name; kept = kept } ∷ []

abbrev pub preferences_in : List Bool → List Variable → List Part
preferences_in choice [] = []
preferences_in choice (v ∷ vs) = preference_of v (kept_first choice) ++ preferences_in (drop 1 choice) vs

-- the dual bounds, and then the preferences
abbrev pub parts_of : Model → Kept → List Part
parts_of m kept = bounds_from 1 kept.bounds m.bounds ++ preferences_in kept.preferences m.variables

-- ---- the kept model

-- The other model is this one with the kept dual bounds and preferences alone.
pub record IsKept (m : Model) (kept : Kept) (other : Model) : Type 0 where
  pub domain : other.domain ≡ m.domain
  pub problem : other.problem ≡ m.problem
  pub minimize : other.minimize ≡ m.minimize
  pub join : other.join ≡ m.join
  pub objects : other.objects ≡ m.objects
  pub variables : other.variables ≡ variables_with kept.preferences m.variables
  pub tables : other.tables ≡ m.tables
  pub transitions : other.transitions ≡ m.transitions
  pub grounds : other.dp_ground ≡ m.dp_ground
  pub constraints : other.constraints ≡ m.constraints
  pub base_cases : other.base_cases ≡ m.base_cases
  pub bounds : other.bounds ≡ chosen kept.bounds m.bounds
  pub target : other.target ≡ m.target
