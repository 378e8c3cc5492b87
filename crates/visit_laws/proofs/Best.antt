-- The best of numbers, one after another.
use Rattle.std.proofs.Common.{◌≡◌, Bool, List, [], ◌∷◌, ◌++◌, fold, Option, Some, None, ℤ, refl}
use Rattle.std.specs.Prelude.{option_to_list}
use Rattle.dp_model.specs.Costs.{better_of}
use Rattle.spot_eval.specs.Looks.{with_better}

-- the best of a number, which may be missing, and of others
abbrev pub best_over : Bool → Option ℤ → List ℤ → Option ℤ
best_over minimize best [] = best
best_over minimize best (c ∷ cs) = best_over minimize (with_better minimize best (Some c)) cs

pub over_number : (minimize : Bool) (first : ℤ) (costs : List ℤ) → best_over minimize (Some first) costs ≡ Some (fold (better_of minimize) first costs)
over_number minimize first [] = refl
over_number minimize first (c ∷ cs) = over_number minimize (better_of minimize first c) cs

-- a missing number changes nothing
pub over_one : (minimize : Bool) (best c : Option ℤ) (costs : List ℤ) → best_over minimize (with_better minimize best c) costs ≡ best_over minimize best (option_to_list c ++ costs)
over_one minimize None None costs = refl
over_one minimize None (Some c) costs = refl
over_one minimize (Some b) None costs = refl
over_one minimize (Some b) (Some c) costs = refl
