-- The ground transitions of transitions: each with all argument lists, in ascending order, the first parameter slowest.
use Rattle.std.specs.Prelude.{ℕ, suc, ◌+◌, ◌<◌, ◌≤◌, List, [], ◌∷◌, ◌++◌, length, map, take}
use Rattle.std.specs.List.{range_with_len}
use Rattle.dp_model.specs.Evaluation.{ways}
use Rattle.dp_model.specs.Typing.{type_count, over_object}
use Rattle.dp_model.specs.declared.trees.Over.{Over}
use Rattle.dp_model.specs.declared.parts.ObjectType.{ObjectType}
use Rattle.dp_model.specs.declared.parts.Variable.{Variable}
use Rattle.dp_model.specs.declared.parts.Transition.{Transition}
use Rattle.dp_model.specs.declared.parts.Ground.{Ground}

-- how many ground transitions a model may have
abbrev pub most_ground : ℕ
most_ground = 65536

-- how many values a parameter has: the members of the object type that it ranges over, or of the object type of the set
-- variable whose members it ranges over
abbrev pub choice_count : List ObjectType → List Variable → Over → ℕ
choice_count objects variables over = type_count objects (over_object variables over)

-- the members of an object type with a count, in order
abbrev pub members_below : ℕ → List ℕ
members_below count = range_with_len 0 count

-- each way to give each of these parameters a value
abbrev pub argument_lists : List ObjectType → List Variable → List Over → List (List ℕ)
argument_lists objects variables params = ways (map members_below (map (choice_count objects variables) params))

abbrev pub ground_with : ℕ → List ℕ → Ground
ground_with transition args = record { transition = transition; args = args }

-- the ground transitions of the transition of a number
abbrev pub grounded : List ObjectType → List Variable → ℕ → Transition → List Ground
grounded objects variables transition t = map (ground_with transition) (argument_lists objects variables t.params)

-- the ground transitions of transitions that are numbered from `at` on, in order of definition
abbrev pub grounded_from : List ObjectType → List Variable → (at : ℕ) → List Transition → List Ground
grounded_from objects variables at [] = []
grounded_from objects variables at (t ∷ ts) = grounded objects variables at t ++ grounded_from objects variables (suc at) ts

abbrev pub all_grounded : List ObjectType → List Variable → List Transition → List Ground
all_grounded objects variables ts = grounded_from objects variables 0 ts

-- with the transition of this number there are too many ground transitions, and without it there are not
pub record IsFirstPast (objects : List ObjectType) (variables : List Variable) (ts : List Transition) (i : ℕ) : Type 0 where
  pub there : i < length ts
  pub few_before : length (all_grounded objects variables (take i ts)) ≤ most_ground
  pub many_with : most_ground < length (all_grounded objects variables (take (i + 1) ts))
