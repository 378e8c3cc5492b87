-- Worked models of one state: one integer variable `a`, which begins at 0, and `stay`, which leads from 0 back to 0, at a weight. The base
-- state, `a` at 3, is never come to. A list of one step is a round.
use Rattle.std.specs.Prelude.{◌≡◌, ℕ, Bool, true, false, IsTrue, List, [], ◌∷◌, pos, codes}
use Rattle.std.specs.List.{list_all}
use Rattle.std.proofs.Common.{refl}
use Rattle.std.proofs.lemmas.Bool.{and_from}
use Rattle.dp_model.specs.Typing.{is_in_range, is_transition, are_trees}
use Rattle.dp_model.specs.declared.answers.Keep.TheVariants as keeps
use Rattle.dp_model.specs.declared.parts.JoinOp.TheVariants.{Plus}
use Rattle.dp_model.specs.declared.parts.Transition.{Transition}
use Rattle.dp_model.specs.declared.whole.Model.{Model}
use Rattle.dp_claims.specs.Enough.{IsLean, AreReachedAtMost}
use Rattle.pass_ledger.specs.TwoWays.{at, way, variables, ends, without_values, typed_way, typed_ends}

module _ (minimize : Bool) (weight : ℕ) (in_range : is_in_range (pos weight) ≡ true) where
  abbrev pub stays : List Transition
  stays = way (codes "stay") 0 0 weight ∷ []

  typed_stays : list_all (is_transition [] variables []) stays ≡ true
  typed_stays = and_from _ _ (typed_way (codes "stay") 0 0 weight refl refl in_range) refl

  pub typed : IsTrue (are_trees [] variables [] stays [] ends [])
  typed = and_from _ _ typed_stays (and_from _ _ refl (and_from _ _ typed_ends refl))

  abbrev pub staying : Model
  staying =
      record {
        domain = codes "the";
        problem = codes "stay";
        minimize = minimize;
        join = Plus;
        objects = [];
        variables = variables;
        tables = [];
        transitions = stays;
        dp_ground = without_values 0 ∷ [];
        constraints = [];
        base_cases = ends;
        bounds = [];
        target = at 0;
        kinds = refl;
        cells = refl;
        typed = typed;
        held = refl;
        grounded = refl;
        few_names = refl;
        few_rules = and_from _ _ refl (and_from _ _ refl (and_from _ _ refl (and_from _ _ refl (and_from _ _ refl (and_from _ _ refl refl)))));
      }

-- the cost is to be small, and the step weighs nothing
abbrev pub resting : Model
resting = staying true 0 refl

-- the cost is to be great, and the step adds 1 to it
abbrev pub earning : Model
earning = staying false 1 refl

-- A list is not lean where one step of it leads back to the state that it left without bettering the cost, and only there. So of the
-- first model there is one pair of a length and a state, where nodes kept in earlier layers cover too.
pub record LawWorkedStay : Type 0 where
  pub no_step : IsLean resting []
  pub one_step : IsLean resting (0 ∷ []) → ⊥
  pub second_step : IsLean resting (0 ∷ 0 ∷ []) → ⊥
  pub bettered : IsLean earning (0 ∷ [])
  pub one_pair : AreReachedAtMost resting keeps.All 1
