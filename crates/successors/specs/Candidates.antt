-- The ground transitions that are not forced, each with the membership that is tested first and the values of its parameters.
use Rattle.std.specs.Prelude.{ℕ, List, [], ◌∷◌, Option, Some, None}
use Rattle.dp_model.specs.StepTexts.{ground_of}
use Rattle.dp_model.specs.declared.trees.Over.{Over}
use Rattle.dp_model.specs.declared.trees.Over.TheVariants.{Object, Members}
use Rattle.dp_model.specs.declared.parts.Transition.{Transition}
use Rattle.dp_model.specs.declared.whole.Model.{Model}
use Rattle.packed_spots.specs.Values.{in_four}
use Rattle.successors.specs.declared.candidates.Candidate.{Candidate}
use Rattle.successors.specs.declared.candidates.Membership.{Membership}

-- the membership of the first parameter, if it ranges over a set variable
abbrev pub first_membership : List Over → List ℕ → Option Membership
first_membership [] given = None
first_membership (over ∷ overs) [] = None
first_membership (Object object ∷ overs) (k ∷ given) = None
first_membership (Members v ∷ overs) (k ∷ given) = Some (record { variable = v; member = k })

-- the same of what a number names
abbrev pub first_asked : Option (Transition × List ℕ) → Option Membership
first_asked None = None
first_asked (Some t) = first_membership t.0.params t.1

-- the values of the parameters of what a number names, in words
abbrev pub values_asked : Option (Transition × List ℕ) → List ℕ
values_asked None = 0 ∷ 0 ∷ 0 ∷ 0 ∷ []
values_asked (Some t) = in_four t.1

abbrev pub candidate_of : Model → ℕ → Candidate
candidate_of m g = record { number = g; first = first_asked (ground_of m g); values = values_asked (ground_of m g) }
