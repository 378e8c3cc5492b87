-- What holds of the models of one state.
use Rattle.std.proofs.Common.{◌≡◌, ℕ, ◌<◌, ◌≤◌, zero, suc, Bool, true, false, List, [], ◌∷◌, length, Option, Some, None, Ok, refl, sym, ap, subst, ◌∙◌, arith}
use Rattle.std.specs.Prelude.{ℤ, pos, codes, ◌<ℤ◌}
use Rattle.std.proofs.lemmas.Int.{ints}
use Rattle.dp_model.specs.Costs.{join, order_word}
use Rattle.dp_model.specs.Evaluation.{num_value}
use Rattle.dp_model.specs.Typing.{is_in_range}
use Rattle.dp_model.specs.declared.answers.Keep.TheVariants as keeps
use Rattle.dp_model.specs.declared.parts.JoinOp.TheVariants.{Plus}
use Rattle.dp_model.specs.declared.parts.PlainState.{PlainState}
use Rattle.dp_model.specs.declared.trees.Num as nums
use Rattle.dp_model.specs.declared.whole.Model.{Model}
use Rattle.dp_claims.specs.Enough.{Has, Different, IsLean, IsPair, AreReachedAtMost}
use Rattle.dp_steps.specs.Lists.{Leads, Path}
use Rattle.dp_steps.specs.States.{Inner, IsForced, Step, weight_of, next_state}
use Rattle.pass_ledger.specs.TwoWays.{at, is_at, way}
use Rattle.pass_ledger.proofs.Moves.{step_same, step_enabled}
use Rattle.pass_ledger.proofs.TwoWays.{value_fixed, value_at, one_true, bind_value, unforced}
use Rattle.pass_ledger.proofs.Worked.{none_is, in_range, small}
use Rattle.ledger_guards.specs.Stay.{staying, resting, earning, LawWorkedStay}

-- ---- the step of either

module _ (minimize : Bool) (weight : ℕ) (fits : is_in_range (pos weight) ≡ true) where
  abbrev model : Model
  model = staying minimize weight fits

  inner_at : Inner model (at 0)
  inner_at = record { allowed = refl; open_cases = rw (one_true model (at 0) [] (is_at 3) false (value_at model (at 0) [] 3)) refl }

  none_forced : (g : ℕ) → IsForced model g → ⊥
  none_forced zero h = unforced (way (codes "stay") 0 0 weight, []) h.0 h.1 refl h.2
  none_forced (suc g) h = absurd (none_is h.0 h.1)

  weight_at : (name : List ℕ) → weight_of model (at 0) (way name 0 0 weight, []) ≡ Ok (Some (pos weight))
  weight_at name = bind_value (num_value model (at 0) (nums.Fixed (pos weight)) []) (λ w. Ok (Some w)) (pos weight) (Ok (Some (pos weight))) (value_fixed model (at 0) [] (pos weight)) refl

  next_at : (name : List ℕ) → next_state model (at 0) (way name 0 0 weight, []) ≡ Ok (at 0)
  next_at name = rw (value_fixed model (at 0) [] (pos 0)) refl

  stay_step : Step model (at 0) 0 (Some (pos weight)) (at 0)
  stay_step =
      record {
        inner = inner_at;
        considered = λ f t forced is before. absurd (none_forced f forced);
        move = ((way (codes "stay") 0 0 weight, []), refl, one_true model (at 0) [] (is_at 0) true (value_at model (at 0) [] 0), weight_at (codes "stay"), next_at (codes "stay"));
      }

  -- each step leads from the state to itself, at the weight
  moved : (s next : PlainState) (g : ℕ) (w : Option ℤ) → at 0 ≡ s → Step model s g w next → (Some (pos weight) ≡ w) × (at 0 ≡ next)
  moved s next g w e step = from_0 g (subst (λ (x : PlainState). Step model x g w next) (sym e) step)
    where
      from_0 : (g : ℕ) → Step model (at 0) g w next → (Some (pos weight) ≡ w) × (at 0 ≡ next)
      from_0 zero step = step_same model (at 0) 0 (Some (pos weight)) w (at 0) next stay_step step
      from_0 (suc g) step = let enabled = step_enabled model (at 0) (suc g) w next step in absurd (none_is enabled.0 enabled.1)

  stays_there : (s to : PlainState) (cost total : Option ℤ) (u : List ℕ) → at 0 ≡ s → Leads model s cost u to total → at 0 ≡ to
  stays_there s to cost total [] e h = e ∙ h.0
  stays_there s to cost total (g ∷ u) e h = stays_there h.0 to (join model.join cost h.1) total u (moved s h.0 g h.1 e h.2).1 h.4

-- ---- lean lists

none_before : (i j : ℕ) → i < j → j ≤ 0 → ⊥
none_before i j lt le = absurd (omega (arith, lt, le))

no_step : (m : Model) → IsLean m []
no_step m i j s cost later lt le first second = absurd (none_before i j lt le)

one_later : order_word true Plus (Some (pos 0)) <ℤ order_word true Plus None → ⊥
one_later h = absurd (omega (arith, ints, h))

-- after one step that weighs nothing the cost so far has the word that it had
round : (u : List ℕ) (s : PlainState) (cost : Option ℤ) (g : ℕ) → 1 ≤ length (g ∷ u) → Path resting (g ∷ []) s cost → IsLean resting (g ∷ u) → ⊥
round u s cost g le path lean =
    let m = moved true 0 refl (at 0) path.0 g path.1 refl path.2 in
    let same : Some (pos 0) ≡ cost = m.0 ∙ path.4.1 in
    one_later (subst (λ (c : Option ℤ). order_word true Plus c <ℤ order_word true Plus None) (sym same) (lean 0 1 (at 0) None cost (omega arith) le (refl, refl) (subst (λ (x : PlainState). Path resting (g ∷ []) x cost) (sym (m.1 ∙ path.4.0)) path)))

stay_path : Path resting (0 ∷ []) (at 0) (Some (pos 0))
stay_path = (at 0, Some (pos 0), stay_step true 0 refl, in_range 0 (small 0 (omega arith)), (refl, refl))

-- the step that adds to a cost that is to be great betters it
earned : order_word false Plus (Some (pos 1)) <ℤ order_word false Plus None
earned = omega (arith, ints)

none_after : (i j : ℕ) → suc i < j → j ≤ 1 → ⊥
none_after i j lt le = absurd (omega (arith, lt, le))

none_far : (j : ℕ) → suc (suc j) ≤ 1 → ⊥
none_far j le = absurd (omega (arith, le))

bettered : IsLean earning (0 ∷ [])
bettered zero zero s cost later lt le first second = absurd (omega (arith, lt))
bettered zero (suc zero) s cost later lt le first second =
    let same : Some (pos 1) ≡ later = (moved false 1 refl (at 0) second.0 0 second.1 refl second.2).0 ∙ second.4.1 in
    subst (λ (c : Option ℤ). order_word false Plus later <ℤ order_word false Plus c) first.1 (subst (λ (c : Option ℤ). order_word false Plus c <ℤ order_word false Plus None) same earned)
bettered zero (suc (suc j)) s cost later lt le first second = absurd (none_far j le)
bettered (suc i) j s cost later lt le first second = absurd (none_after i j lt le)

-- ---- pairs

front : (g : ℕ) (u : List ℕ) (s : PlainState) (cost : Option ℤ) → Path resting (g ∷ u) s cost → (x : PlainState) × (c : Option ℤ) × Path resting (g ∷ []) x c
front g u s cost path = (path.0, join Plus None path.1, (path.0, path.1, path.2, path.3, (refl, refl)))

long : (g : ℕ) (u : List ℕ) → 1 ≤ length (g ∷ u)
long g u = omega arith

-- so the empty list alone is a lean way to a state
is_target : (pair : ℕ × PlainState) → IsPair resting keeps.All pair → (0, at 0) ≡ pair
is_target pair h = of_list h.0 h.1.0.0 h.1.0.1 h.2 (h.3 refl)
  where
    of_list : (u : List ℕ) (cost : Option ℤ) → Path resting u pair.1 cost → length u ≡ pair.0 → IsLean resting u → (0, at 0) ≡ pair
    of_list [] cost path e lean = ap (λ (n : ℕ). (n, at 0)) e ∙ ap (λ (x : PlainState). (pair.0, x)) path.0
    of_list (g ∷ u) cost path e lean = let f = front g u pair.1 cost path in absurd (round u f.0 f.1 g (long g u) f.2 lean)

one_pair : AreReachedAtMost resting keeps.All 1
one_pair pairs are = few pairs are.different (λ q h. is_target q (are.each q h))
  where
    few : (pairs : List (ℕ × PlainState)) → Different pairs → ((q : ℕ × PlainState) → Has pairs q → (0, at 0) ≡ q) → length pairs ≤ 1
    few [] d h = omega arith
    few (a ∷ []) d h = omega arith
    few (a ∷ b ∷ rest) d h = absurd (d.0 (0, ap Some (sym (h b (1, refl)) ∙ h a (0, refl))))

pub worked_stay : LawWorkedStay
worked_stay =
    record {
      no_step = no_step resting;
      one_step = round [] (at 0) (Some (pos 0)) 0 (long 0 []) stay_path;
      second_step = round (0 ∷ []) (at 0) (Some (pos 0)) 0 (long 0 (0 ∷ [])) stay_path;
      bettered = bettered;
      one_pair = one_pair;
    }
