-- In a state of the model base costs, weights and dual bounds are in range, and so is the best of them.
use Rattle.std.proofs.Common.{◌≡◌, ℕ, ◌+◌, Bool, true, false, not, ◌&&◌, if◌then◌else◌, List, [], ◌∷◌, length, Option, Some, None, Result, Ok, Err, IfOk, IfSome, ℤ, refl, ap, arith, subst}
use Rattle.std.specs.List.{list_all}
use Rattle.std.proofs.lemmas.Bool.{and_parts}
use Rattle.std.proofs.lemmas.Int.{ints, clamps}
use Rattle.dp_base.specs.Results.{◌>>=◌}
use Rattle.dp_model.specs.Costs.{InRange, better_of}
use Rattle.dp_model.specs.Evaluation.{num_value}
use Rattle.dp_model.specs.StepTexts.{ground_of}
use Rattle.dp_model.specs.Typing.{are_different, is_base_case, is_cond, is_effect, is_num, is_transition, is_weight, over_typed}
use Rattle.dp_model.specs.declared.answers.FaultKind.{FaultKind}
use Rattle.dp_model.specs.declared.answers.Spot.{Spot}
use Rattle.dp_model.specs.declared.answers.Spot.TheVariants as spots
use Rattle.dp_model.specs.declared.trees.Num.{Num}
use Rattle.dp_model.specs.declared.parts.BaseCase.{BaseCase}
use Rattle.dp_model.specs.declared.parts.Transition.{Transition}
use Rattle.dp_model.specs.declared.parts.PlainState.{PlainState}
use Rattle.dp_model.specs.declared.whole.Model.{Model}
use Rattle.dp_eval.proofs.Fits.{numbers_fit}
use Rattle.spot_eval.specs.Answers.{at_spot}
use Rattle.spot_eval.specs.Looks.{all_at, best_case, case_at, tightest_at, with_better}
use Rattle.spot_eval.specs.Ranges.{IsStateIn}
use Rattle.spot_eval.specs.declared.ends.SpotFault.{SpotFault}
use Rattle.spot_eval.specs.declared.tests.Tests.TheVariants.{BaseConditions}
use Rattle.spot_eval.proofs.Grounds.{step_of}

-- ---- steps that may fail

-- what comes after a step has a value only where the step has
pub bound : {A B : Type 0} (r : Result A SpotFault) (f : A → Result B SpotFault) (y : B) → (r >>= f) ≡ Ok y → (x : A) × (r ≡ Ok x) × (f x ≡ Ok y)
bound (Ok x) f y h = (x, refl, h)
bound (Err k) f y h = absurd (cc)

-- a value at a spot is the value
pub at_spot-ok : {A : Type 0} (spot : Spot) (r : Result A FaultKind) (x : A) → at_spot spot r ≡ Ok x → r ≡ Ok x
at_spot-ok spot (Ok y) x h = let same : y ≡ x = cc in ap Ok same
at_spot-ok spot (Err kind) x h = absurd (cc)

pub ok_in : {A : Type 0} (P : A → Type 0) (r : Result A FaultKind) (x : A) → IfOk r P → r ≡ Ok x → P x
ok_in P (Ok y) x p h = let same : y ≡ x = cc in subst P same p
ok_in P (Err kind) x p h = absurd (cc)

-- ---- the best of numbers in range

better_in_range : (minimize : Bool) (a b : ℤ) → InRange a → InRange b → InRange (better_of minimize a b)
better_in_range true a b p q = (omega (arith, ints, clamps), omega (arith, ints, clamps))
better_in_range false a b p q = (omega (arith, ints, clamps), omega (arith, ints, clamps))

with_better-fits : (minimize : Bool) (best other : Option ℤ) → IfSome best InRange → IfSome other InRange → IfSome (with_better minimize best other) InRange
with_better-fits minimize None other p q = q
with_better-fits minimize (Some b) None p q = p
with_better-fits minimize (Some b) (Some c) p q = better_in_range minimize b c p q

abbrev IfInRange : Option ℤ → Type 0
IfInRange c = IfSome c InRange

-- what a base case costs, where its conditions are true or not
abbrev cost_where : Spot → Result ℤ FaultKind → Bool → Result (Option ℤ) SpotFault
cost_where spot cost test = if test then (at_spot spot cost >>= λ n. Ok (Some n)) else Ok None

module _ (m : Model) (s : PlainState) (held : IsStateIn m s) where
  -- a number without parameters
  num_fits : (e : Num) (n : ℤ) → is_num m.objects m.variables m.tables e 0 ≡ true → num_value m s e [] ≡ Ok n → InRange n
  num_fits e n t h = ok_in InRange (num_value m s e []) n (numbers_fit m s e [] held refl t) h

  -- ---- base cases

  held_case : (spot : Spot) (e : Num) (test : Bool) (c : Option ℤ) → is_num m.objects m.variables m.tables e 0 ≡ true → cost_where spot (num_value m s e []) test ≡ Ok c → IfInRange c
  held_case spot e true c t h =
      let b = bound (at_spot spot (num_value m s e [])) (λ n. Ok (Some n)) c h in
      let same : Some b.0 ≡ c = cc in
      subst IfInRange same (num_fits e b.0 t (at_spot-ok spot (num_value m s e []) b.0 b.1))
  held_case spot e false c t h = let same : None ≡ c = cc in subst IfInRange same tt

  case_fits : (b : BaseCase) (i : ℕ) (c : Option ℤ) → is_base_case m.objects m.variables m.tables b ≡ true → case_at m s i b ≡ Ok c → IfInRange c
  case_fits b i c t h =
      let found = bound (all_at m s (BaseConditions i) [] 0 b.conditions) (cost_where (spots.BaseCost i) (num_value m s b.cost [])) c h in
      held_case (spots.BaseCost i) b.cost found.0 c (and_parts (list_all (λ c. is_cond m.objects m.variables m.tables c 0) b.conditions) _ t).1 found.2

  best_from : (bs : List BaseCase) (i : ℕ) (best c : Option ℤ) → list_all (is_base_case m.objects m.variables m.tables) bs ≡ true → IfInRange best → best_case m s i best bs ≡ Ok c → IfInRange c
  best_from [] i best c t p h = let same : best ≡ c = cc in subst IfInRange same p
  best_from (b ∷ bs) i best c t p h =
      let found = bound (case_at m s i b) (λ c. best_case m s (i + 1) (with_better m.minimize best c) bs) c h in
      let typed = and_parts (is_base_case m.objects m.variables m.tables b) (list_all (is_base_case m.objects m.variables m.tables) bs) t in
      best_from bs (i + 1) (with_better m.minimize best found.0) c typed.1 (with_better-fits m.minimize best found.0 p (case_fits b i found.0 typed.0 found.1)) found.2

  -- ---- dual bounds

  tightest_from : (es : List Num) (i : ℕ) (best c : Option ℤ) → list_all (λ n. is_num m.objects m.variables m.tables n 0) es ≡ true → IfInRange best → tightest_at m s i best es ≡ Ok c → IfInRange c
  tightest_from [] i best c t p h = let same : best ≡ c = cc in subst IfInRange same p
  tightest_from (e ∷ es) i best c t p h =
      let found = bound (at_spot (spots.Bound i) (num_value m s e [])) (λ n. tightest_at m s (i + 1) (with_better (not m.minimize) best (Some n)) es) c h in
      let typed = and_parts (is_num m.objects m.variables m.tables e 0) (list_all (λ n. is_num m.objects m.variables m.tables n 0) es) t in
      let fits = num_fits e found.0 typed.0 (at_spot-ok (spots.Bound i) (num_value m s e []) found.0 found.1) in
      tightest_from es (i + 1) (with_better (not m.minimize) best (Some found.0)) c typed.1 (with_better-fits (not m.minimize) best (Some found.0) p fits) found.2

-- ---- what a model keeps

typed_rest : (m : Model) → (list_all (is_base_case m.objects m.variables m.tables) m.base_cases && list_all (λ n. is_num m.objects m.variables m.tables n 0) m.bounds) ≡ true
typed_rest m =
    let a = (and_parts (list_all (is_transition m.objects m.variables m.tables) m.transitions) _ m.typed).1 in
    (and_parts (list_all (λ c. is_cond m.objects m.variables m.tables c 0) m.constraints) _ a).1

pub best_fits : (m : Model) (s : PlainState) (c : Option ℤ) → best_case m s 0 None m.base_cases ≡ Ok c → IsStateIn m s → IfSome c InRange
best_fits m s c h held = best_from m s held m.base_cases 0 None c (and_parts (list_all (is_base_case m.objects m.variables m.tables) m.base_cases) _ (typed_rest m)).0 tt h

pub tightest_fits : (m : Model) (s : PlainState) (c : Option ℤ) → tightest_at m s 0 None m.bounds ≡ Ok c → IsStateIn m s → IfSome c InRange
tightest_fits m s c h held = tightest_from m s held m.bounds 0 None c (and_parts (list_all (is_base_case m.objects m.variables m.tables) m.base_cases) _ (typed_rest m)).1 tt h

typed_weight : (m : Model) (t : Transition) → is_transition m.objects m.variables m.tables t ≡ true → is_weight m.objects m.variables m.tables (length t.params) t.weight ≡ true
typed_weight m t h =
    let n = length t.params in
    let os = m.objects in
    let vs = m.variables in
    let ts = m.tables in
    let a = (and_parts (list_all (over_typed os vs) t.params) _ h).1 in
    let b = (and_parts (list_all (λ c. is_cond os vs ts c n) t.preconditions) _ a).1 in
    let c = (and_parts (list_all (is_effect os vs ts n) t.effects) _ b).1 in
    (and_parts (are_different t.effects) _ c).1

-- a weight that was evaluated at its spot
pub weight_at-fits : (m : Model) (s : PlainState) (g : ℕ) (t : Transition) (given : List ℕ) (e : Num) (n : ℤ) → ground_of m g ≡ Some (t, given) → t.weight ≡ Some e → at_spot (spots.Weight g) (num_value m s e given) ≡ Ok n → IsStateIn m s → InRange n
weight_at-fits m s g t given e n at q h held =
    let step = step_of m g (t, given) at in
    let typed : is_num m.objects m.variables m.tables e (length t.params) ≡ true = rw q at (typed_weight m t step.typed) in
    let counted : is_num m.objects m.variables m.tables e (length given) ≡ true = rw step.count typed in
    ok_in InRange (num_value m s e given) n (numbers_fit m s e given held step.given counted) (at_spot-ok (spots.Weight g) (num_value m s e given) n h)
