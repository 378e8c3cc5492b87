-- The membership that is tested first of a ground transition.
use Rattle.std.specs.Prelude.{ℕ, Bool, true, List, [], ◌∷◌}
use Rattle.dp_model.specs.declared.parts.PlainState.{PlainState}
use Rattle.dp_model.specs.declared.trees.Over.{Over}
use Rattle.spot_eval.specs.Moves.{is_member}

-- the first value is a member of the set variable that its parameter ranges over, if it ranges over one
abbrev pub first_holds : PlainState → List Over → List ℕ → Bool
first_holds s [] given = true
first_holds s (over ∷ overs) [] = true
first_holds s (over ∷ overs) (k ∷ given) = is_member s over k
