-- Worked models of two states: one integer variable `a`, which begins at 0. `there` leads from 0 to 1 and `back` from 1 to 0, at
-- one weight each. The base state, `a` at 3, is never come to.
use Rattle.std.specs.Prelude.{◌≡◌, ℕ, Bool, true, false, IsTrue, List, [], ◌∷◌, pos, codes}
use Rattle.std.specs.List.{list_all}
use Rattle.std.proofs.Common.{refl}
use Rattle.std.proofs.lemmas.Bool.{and_from}
use Rattle.dp_model.specs.Typing.{is_in_range, is_transition, are_trees}
use Rattle.dp_model.specs.declared.answers.FaultKind.{FaultKind}
use Rattle.dp_model.specs.declared.answers.Keep.TheVariants as keeps
use Rattle.dp_model.specs.declared.answers.Spot.{Spot}
use Rattle.dp_model.specs.declared.parts.JoinOp.TheVariants.{Plus}
use Rattle.dp_model.specs.declared.parts.PlainState.{PlainState}
use Rattle.dp_model.specs.declared.parts.Transition.{Transition}
use Rattle.dp_model.specs.declared.whole.Model.{Model}
use Rattle.dp_steps.specs.Faults.{Meets}
use Rattle.dp_claims.specs.Enough.{IsEnough}
use Rattle.pass_ledger.specs.Finite.{AreStates, NoRoundBetters}
use Rattle.pass_ledger.specs.TwoWays.{at, way, variables, ends, without_values, typed_way, typed_ends}

module _ (minimize : Bool) (weight : ℕ) (in_range : is_in_range (pos weight) ≡ true) where
  abbrev pub trips : List Transition
  trips = way (codes "there") 0 1 weight ∷ way (codes "back") 1 0 weight ∷ []

  typed_trips : list_all (is_transition [] variables []) trips ≡ true
  typed_trips = and_from _ _ (typed_way (codes "there") 0 1 weight refl refl in_range) (and_from _ _ (typed_way (codes "back") 1 0 weight refl refl in_range) refl)

  pub typed : IsTrue (are_trees [] variables [] trips [] ends [])
  typed = and_from _ _ typed_trips (and_from _ _ refl (and_from _ _ typed_ends refl))

  abbrev pub shuttle : Model
  shuttle =
      record {
        domain = codes "the";
        problem = codes "shuttle";
        minimize = minimize;
        join = Plus;
        objects = [];
        variables = variables;
        tables = [];
        transitions = trips;
        dp_ground = without_values 0 ∷ without_values 1 ∷ [];
        constraints = [];
        base_cases = ends;
        bounds = [];
        target = at 0;
        kinds = refl;
        cells = refl;
        typed = typed;
        held = refl;
        grounded = refl;
        few_names = refl;
        few_rules = and_from _ _ refl (and_from _ _ refl (and_from _ _ refl (and_from _ _ refl (and_from _ _ refl (and_from _ _ refl refl)))));
      }

-- the cost is to be small, and each step weighs nothing
abbrev pub idle : Model
idle = shuttle true 0 refl

-- the cost is to be great, and each step adds 1 to it
abbrev pub gaining : Model
gaining = shuttle false 1 refl

-- the states that are come to
abbrev pub two_states : List PlainState
two_states = at 0 ∷ at 1 ∷ []

-- A round that leaves the cost as it is does not better it. So 2 * 2 * (2 + 1) visits are enough for the idle shuttle, of which no
-- list meets a fault. A state that is come to is not left out of a list of all states.
pub record LawWorkedSmall : Type 0 where
  pub states : AreStates idle two_states
  pub not_fewer : AreStates idle (at 0 ∷ []) → ⊥
  pub no_round : NoRoundBetters idle
  pub enough : IsEnough idle keeps.All 12
  pub no_fault : (prune : Bool) (steps : List ℕ) (spot : Spot) (kind : FaultKind) → Meets idle prune steps spot kind → ⊥
  pub gaining_states : AreStates gaining two_states
  pub a_round_betters : NoRoundBetters gaining → ⊥
