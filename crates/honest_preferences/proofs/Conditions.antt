-- Conditions that stay true where the resources of a state are better, and conditions that are the same there.
use Rattle.std.proofs.Common.{◌≡◌, ℕ, zero, suc, Bool, true, false, if◌then◌else◌, List, [], ◌∷◌, ◌++◌, map, slice_get, Some, Result, Ok, ℤ, refl, sym, ap, ap₂, ◌∙◌, arith}
use Rattle.std.specs.Prelude.{int_le, int_lt, ◌≤ℤ◌}
use Rattle.std.proofs.lemmas.Int.{ints}
use Rattle.dp_base.specs.Results.{◌>>=◌}
use Rattle.dp_model.specs.Evaluation.{ArgValue, CondValue, NumValue, SetValue, arg_step, cond_step, num_step, set_step, compares, cond_value, each_holds, num_value, range_of}
use Rattle.dp_model.specs.declared.answers.FaultKind.{FaultKind}
use Rattle.dp_model.specs.declared.trees.Compare.{Compare}
use Rattle.dp_model.specs.declared.trees.Compare.TheVariants as comparisons
use Rattle.dp_model.specs.declared.trees.Over.{Over}
use Rattle.dp_model.specs.declared.trees.Num as nums
use Rattle.dp_model.specs.declared.trees.Cond as conds
use Rattle.dp_model.specs.declared.parts.PlainState.{PlainState}
use Rattle.dp_model.specs.declared.whole.Model.{Model}
use Rattle.dp_steps.specs.States.{all_true}
use Rattle.honest_preferences.specs.Answering.{AllEase}
use Rattle.honest_preferences.specs.Easing.{EasesBy, compared}
use Rattle.honest_preferences.specs.Leaving.{all_leave, leaves_cond, leaves_num, over_leaves}
use Rattle.honest_preferences.specs.Sides.{IsNoGreater, IsNoLess}
use Rattle.honest_preferences.specs.Signs.{Eases, IsPair}
use Rattle.honest_preferences.proofs.Binding.{bound, ok_same}
use Rattle.honest_preferences.proofs.Numbers.{same_agree, two_ok}
use Rattle.honest_preferences.proofs.Same.{both, cond_same, if_same, num_same, range_same}

-- ---- what each form stands for

module _ (m : Model) (s : PlainState) (given : List ℕ) where
  numbers_is : (e : conds.Cond) (op : Compare) (a b : nums.Num) → conds.out-Cond e ≡ conds.Cond-F.Numbers op a b → cond_value m s e given ≡ compared m s op a b given
  numbers_is e op a b p = rw (conds.fold_out-Cond ArgValue CondValue NumValue SetValue arg_step (cond_step m s) (num_step m s) (set_step m s) e, p) refl

  and_is : (e a b : conds.Cond) → conds.out-Cond e ≡ conds.Cond-F.And a b → cond_value m s e given ≡ (cond_value m s a given >>= λ held. if held then cond_value m s b given else Ok false)
  and_is e a b p = rw (conds.fold_out-Cond ArgValue CondValue NumValue SetValue arg_step (cond_step m s) (num_step m s) (set_step m s) e, p) refl

  or_is : (e a b : conds.Cond) → conds.out-Cond e ≡ conds.Cond-F.Or a b → cond_value m s e given ≡ (cond_value m s a given >>= λ held. if held then Ok true else cond_value m s b given)
  or_is e a b p = rw (conds.fold_out-Cond ArgValue CondValue NumValue SetValue arg_step (cond_step m s) (num_step m s) (set_step m s) e, p) refl

  if_is : (e c a b : conds.Cond) → conds.out-Cond e ≡ conds.Cond-F.Cond::If c a b → cond_value m s e given ≡ (cond_value m s c given >>= λ held. if held then cond_value m s a given else cond_value m s b given)
  if_is e c a b p = rw (conds.fold_out-Cond ArgValue CondValue NumValue SetValue arg_step (cond_step m s) (num_step m s) (set_step m s) e, p) refl

  all_is : (e : conds.Cond) (over : Over) (c : conds.Cond) → conds.out-Cond e ≡ conds.Cond-F.All over c → cond_value m s e given ≡ each_holds (λ k. cond_value m s c (given ++ k ∷ [])) (range_of m s over)
  all_is e over c p = rw (conds.fold_out-Cond ArgValue CondValue NumValue SetValue arg_step (cond_step m s) (num_step m s) (set_step m s) e, p) refl

-- ---- what decides a condition

and_split : (held : Bool) (r : Result Bool FaultKind) → (if held then r else Ok false) ≡ Ok true → (held ≡ true) × (r ≡ Ok true)
and_split true r h = (refl, h)
and_split false r h = absurd (cc)

or_side : (held : Bool) (r q : Result Bool FaultKind) → (q ≡ Ok true → r ≡ Ok true) → (if held then Ok true else q) ≡ Ok true → (if held then Ok true else r) ≡ Ok true
or_side true r q f h = h
or_side false r q f h = f h

if_side : (held : Bool) (a b x y : Result Bool FaultKind) → (x ≡ Ok true → a ≡ Ok true) → (y ≡ Ok true → b ≡ Ok true) → (if held then x else y) ≡ Ok true → (if held then a else b) ≡ Ok true
if_side true a b x y f g h = f h
if_side false a b x y f g h = g h

-- a condition that is true, and what follows
and_true : (r q : Result Bool FaultKind) → r ≡ Ok true → q ≡ Ok true → (r >>= λ held. if held then q else Ok false) ≡ Ok true
and_true r q e h = ap (λ (x : Result Bool FaultKind). x >>= λ held. if held then q else Ok false) e ∙ h

and_true_parts : (r q : Result Bool FaultKind) → (r >>= λ held. if held then q else Ok false) ≡ Ok true → (r ≡ Ok true) × (q ≡ Ok true)
and_true_parts r q h =
    let held = bound r (λ held. if held then q else Ok false) true h in
    let parts = and_split held.0 q held.2 in
    (held.1 ∙ ap (λ (b : Bool). Ok b) parts.0, parts.1)

each_eased : (f g : ℕ → Result Bool FaultKind) → ((k : ℕ) → g k ≡ Ok true → f k ≡ Ok true) → (ks : List ℕ) → each_holds g ks ≡ Ok true → each_holds f ks ≡ Ok true
each_eased f g law [] h = refl
each_eased f g law (k ∷ ks) h =
    let parts = and_true_parts (g k) (each_holds g ks) h in
    and_true (f k) (each_holds f ks) (law k parts.0) (each_eased f g law ks parts.1)

lt_kept : (x x' y y' : ℤ) → x ≤ℤ x' → y' ≤ℤ y → int_lt x' y' ≡ true → int_lt x y ≡ true
lt_kept x x' y y' h k t = grind (arith, ints)

le_kept : (x x' y y' : ℤ) → x ≤ℤ x' → y' ≤ℤ y → int_le x' y' ≡ true → int_le x y ≡ true
le_kept x x' y y' h k t = grind (arith, ints)

module _ (m : Model) (kept : List Bool) (ends : List ℤ) where
  -- ---- comparisons

  -- a number that has a value in the other state has one in the better state, so related to it
  abbrev Changes : (ℤ → ℤ → Type 0) → nums.Num → Type 0
  Changes R e = (s other : PlainState) → IsPair m kept ends s other → (given : List ℕ) (z' : ℤ) → num_value m other e given ≡ Ok z' → (z : ℤ) × (num_value m s e given ≡ Ok z) × R z z'

  eased : (R Q : ℤ → ℤ → Type 0) (op : Compare) (a b : nums.Num) → Changes R a → Changes Q b → ((x x' y y' : ℤ) → R x x' → Q y y' → compares op x' y' ≡ true → compares op x y ≡ true) → EasesBy m kept ends op a b
  eased R Q op a b left right law s other p given h =
      let x' = bound (num_value m other a given) (λ x. num_value m other b given >>= λ y. Ok (compares op x y)) true h in
      let y' = bound (num_value m other b given) (λ y. Ok (compares op x'.0 y)) true x'.2 in
      let x = left s other p given x'.0 x'.1 in
      let y = right s other p given y'.0 y'.1 in
      two_ok (num_value m s a given) (num_value m s b given) (λ x y. Ok (compares op x y)) x.0 y.0 x.1 y.1 ∙ ap (λ (b : Bool). Ok b) (law x.0 x'.0 y.0 y'.0 x.2 y.2 (ok_same (compares op x'.0 y'.0) true y'.2))

  pub eases_less : (a b : nums.Num) → IsNoGreater m kept ends a → IsNoLess m kept ends b → EasesBy m kept ends comparisons.Less a b
  eases_less a b left right = eased (λ z z'. z ≤ℤ z') (λ z z'. z' ≤ℤ z) comparisons.Less a b left right lt_kept

  pub eases_at_most : (a b : nums.Num) → IsNoGreater m kept ends a → IsNoLess m kept ends b → EasesBy m kept ends comparisons.AtMost a b
  eases_at_most a b left right = eased (λ z z'. z ≤ℤ z') (λ z z'. z' ≤ℤ z) comparisons.AtMost a b left right le_kept

  pub eases_more : (a b : nums.Num) → IsNoLess m kept ends a → IsNoGreater m kept ends b → EasesBy m kept ends comparisons.More a b
  eases_more a b left right = eased (λ z z'. z' ≤ℤ z) (λ z z'. z ≤ℤ z') comparisons.More a b left right (λ x x' y y' h k t. lt_kept y y' x x' k h t)

  pub eases_at_least : (a b : nums.Num) → IsNoLess m kept ends a → IsNoGreater m kept ends b → EasesBy m kept ends comparisons.AtLeast a b
  eases_at_least a b left right = eased (λ z z'. z' ≤ℤ z) (λ z z'. z ≤ℤ z') comparisons.AtLeast a b left right (λ x x' y y' h k t. le_kept y y' x x' k h t)

  pub eases_alike : (op : Compare) (a b : nums.Num) → leaves_num kept a ≡ true → leaves_num kept b ≡ true → EasesBy m kept ends op a b
  eases_alike op a b left right s other p given h =
      ap₂ (λ (u : Result ℤ FaultKind) (v : Result ℤ FaultKind). u >>= λ x. v >>= λ y. Ok (compares op x y)) (num_same m kept s other (same_agree m kept ends s other p) a left given) (num_same m kept s other (same_agree m kept ends s other p) b right given) ∙ h

  -- ---- conditions

  pub eases_same : (e : conds.Cond) → leaves_cond kept e ≡ true → Eases m kept ends e
  eases_same e leaves s other p given h = cond_same m kept s other (same_agree m kept ends s other p) e leaves given ∙ h

  pub eases_numbers : (e : conds.Cond) (op : Compare) (a b : nums.Num) → conds.out-Cond e ≡ conds.Cond-F.Numbers op a b → EasesBy m kept ends op a b → Eases m kept ends e
  eases_numbers e op a b form by s other p given h = numbers_is m s given e op a b form ∙ by s other p given (sym (numbers_is m other given e op a b form) ∙ h)

  pub eases_and : (e a b : conds.Cond) → conds.out-Cond e ≡ conds.Cond-F.And a b → Eases m kept ends a → Eases m kept ends b → Eases m kept ends e
  eases_and e a b form fa fb s other p given h =
      let there = and_true_parts (cond_value m other a given) (cond_value m other b given) (sym (and_is m other given e a b form) ∙ h) in
      and_is m s given e a b form ∙ and_true (cond_value m s a given) (cond_value m s b given) (fa s other p given there.0) (fb s other p given there.1)

  pub eases_or : (e a b : conds.Cond) → conds.out-Cond e ≡ conds.Cond-F.Or a b → leaves_cond kept a ≡ true → Eases m kept ends b → Eases m kept ends e
  eases_or e a b form leaves fb s other p given h =
      let there = bound (cond_value m other a given) (λ held. if held then Ok true else cond_value m other b given) true (sym (or_is m other given e a b form) ∙ h) in
      let here = cond_same m kept s other (same_agree m kept ends s other p) a leaves given ∙ there.1 in
      or_is m s given e a b form ∙ (ap (λ (r : Result Bool FaultKind). r >>= λ held. if held then Ok true else cond_value m s b given) here ∙ or_side there.0 (cond_value m s b given) (cond_value m other b given) (fb s other p given) there.2)

  pub eases_if : (e c a b : conds.Cond) → conds.out-Cond e ≡ conds.Cond-F.Cond::If c a b → leaves_cond kept c ≡ true → Eases m kept ends a → Eases m kept ends b → Eases m kept ends e
  eases_if e c a b form leaves fa fb s other p given h =
      let there = bound (cond_value m other c given) (λ held. if held then cond_value m other a given else cond_value m other b given) true (sym (if_is m other given e c a b form) ∙ h) in
      let here = cond_same m kept s other (same_agree m kept ends s other p) c leaves given ∙ there.1 in
      if_is m s given e c a b form ∙ (ap (λ (r : Result Bool FaultKind). r >>= λ held. if held then cond_value m s a given else cond_value m s b given) here ∙ if_side there.0 (cond_value m s a given) (cond_value m s b given) (cond_value m other a given) (cond_value m other b given) (fa s other p given) (fb s other p given) there.2)

  pub eases_all : (e : conds.Cond) (over : Over) (c : conds.Cond) → conds.out-Cond e ≡ conds.Cond-F.All over c → over_leaves kept over ≡ true → Eases m kept ends c → Eases m kept ends e
  eases_all e over c form leaves fc s other p given h =
      all_is m s given e over c form ∙ (ap (each_holds (λ k. cond_value m s c (given ++ k ∷ []))) (range_same m kept s other (same_agree m kept ends s other p) over leaves)
      ∙ each_eased (λ k. cond_value m s c (given ++ k ∷ [])) (λ k. cond_value m other c (given ++ k ∷ [])) (λ k. fc s other p (given ++ k ∷ [])) (range_of m other over) (sym (all_is m other given e over c form) ∙ h))

  -- ---- lists of conditions

  pub all_eased : (conditions : List conds.Cond) → ((i : ℕ) (c : conds.Cond) → slice_get conditions i ≡ Some c → Eases m kept ends c) → AllEase m kept ends conditions
  all_eased [] each s other p given h = refl
  all_eased (c ∷ cs) each s other p given h =
      let there = and_true_parts (cond_value m other c given) (all_true m other given cs) h in
      and_true (cond_value m s c given) (all_true m s given cs) (each zero c refl s other p given there.0) (all_eased cs (λ i d at. each (suc i) d at) s other p given there.1)

  -- conditions that leave the kept variables out are the same in both states
  pub all_same : (s other : PlainState) → IsPair m kept ends s other → (conditions : List conds.Cond) → all_leave (map (leaves_cond kept) conditions) ≡ true → (given : List ℕ) → all_true m s given conditions ≡ all_true m other given conditions
  all_same s other p [] h given = refl
  all_same s other p (c ∷ cs) h given =
      let parts = both (leaves_cond kept c) (all_leave (map (leaves_cond kept) cs)) h in
      if_same (cond_value m s c given) (cond_value m other c given) (all_true m s given cs) (all_true m other given cs) (Ok false) (Ok false) (cond_same m kept s other (same_agree m kept ends s other p) c parts.0 given) (all_same s other p cs parts.1 given) refl
