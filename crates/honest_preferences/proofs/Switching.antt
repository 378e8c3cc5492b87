-- Switches: a better state holds the same number and takes the same step, or it holds more and stays.
use Rattle.std.proofs.Common.{◌≡◌, ℕ, zero, suc, ◌⊎◌, inl, inr, Bool, true, false, if◌then◌else◌, List, [], ◌∷◌, slice_get, slice_set, Option, Some, None, Result, Ok, IsTrue, ℤ, pos, refl, sym, ap, subst, ◌∙◌, arith}
use Rattle.std.specs.Prelude.{◌≤ℤ◌, ◌+ℤ◌}
use Rattle.std.specs.Ordering.{int_eq}
use Rattle.std.proofs.lemmas.Bool.{and_parts}
use Rattle.std.proofs.lemmas.Bool.Decides.{Decides-int_eq}
use Rattle.std.proofs.lemmas.Int.{ints}
use Rattle.dp_base.specs.Results.{◌>>=◌, in_turn}
use Rattle.dp_model.specs.Costs.{IsBetter, operation}
use Rattle.dp_model.specs.Evaluation.{ArgValue, CondValue, NumValue, SetValue, arg_step, cond_step, num_step, set_step, cond_value, each_holds, kind_of, num_value, number_held, number_in}
use Rattle.dp_model.specs.Typing.{are_held, is_state, may_hold}
use Rattle.dp_model.specs.declared.answers.FaultKind.{FaultKind}
use Rattle.dp_model.specs.declared.trees.Compare.TheVariants as comparisons
use Rattle.dp_model.specs.declared.trees.Cond as conds
use Rattle.dp_model.specs.declared.trees.Num as nums
use Rattle.dp_model.specs.declared.parts.Effect.{Effect}
use Rattle.dp_model.specs.declared.parts.Effect.TheVariants as effects
use Rattle.dp_model.specs.declared.parts.JoinOp.{JoinOp}
use Rattle.dp_model.specs.declared.parts.JoinOp.TheVariants.{Plus}
use Rattle.dp_model.specs.declared.parts.ObjectType.{ObjectType}
use Rattle.dp_model.specs.declared.parts.PlainState.{PlainState}
use Rattle.dp_model.specs.declared.parts.PlainValue.{PlainValue}
use Rattle.dp_model.specs.declared.parts.PlainValue.TheVariants as values
use Rattle.dp_model.specs.declared.parts.Preference.TheVariants.{Greater}
use Rattle.dp_model.specs.declared.parts.Transition.{Transition}
use Rattle.dp_model.specs.declared.parts.VarKind.{VarKind}
use Rattle.dp_model.specs.declared.parts.VarKind.TheVariants as kinds
use Rattle.dp_model.specs.declared.parts.Variable.{Variable}
use Rattle.dp_model.specs.declared.whole.Model.{Model}
use Rattle.dp_steps.specs.States.{all_true, are_members, effect_value, next_state, weight_of, with_changes}
use Rattle.dp_claims.specs.Dominance.{AtLeast, DominatesIn}
use Rattle.dp_claims.specs.Honest.{IsNotBetter}
use Rattle.kept_model.specs.Parts.{variable_if, variables_with}
use Rattle.part_laws.specs.OneStep.{IsFree}
use Rattle.honest_preferences.specs.Answering.{Answers, AnswersIn, StaysIn}
use Rattle.honest_preferences.specs.Leaving.{is_kept}
use Rattle.honest_preferences.specs.Signs.{Eases, Falls, HasEnds, IsPair, Rises}
use Rattle.honest_preferences.specs.Switches.{AllSetUpTo, EasesAt, FreeToLeave, HasSwitch, IsFreeBy, IsRaise, IsSwitch, IsTest, SetsUpTo}
use Rattle.honest_preferences.proofs.Agreeing.{held_greater}
use Rattle.honest_preferences.proofs.Binding.{bound, ok_same}
use Rattle.honest_preferences.proofs.Moving.{if_enabled, itself, no_less, no_more, number_parts, same_step, some_is}
use Rattle.honest_preferences.proofs.Setting.{greater_kept, parts, some_one}

-- ---- tests of numbers

pub same_number : (a b : ℤ) → int_eq a b ≡ true → a ≡ b
same_number a b h = (Decides-int_eq a b).0 h

other_number : (a b : ℤ) → int_eq a b ≡ false → a ≡ b → ⊥
other_number a b h e = let yes : int_eq a b ≡ true = (Decides-int_eq a b).1 e in let clash : true ≡ false = sym yes ∙ h in absurd (cc)

-- a condition that compares a variable with a number
pub is_test : (m : Model) (c : conds.Cond) (a b : nums.Num) (v : ℕ) (n : ℤ) → conds.out-Cond c ≡ conds.Cond-F.Numbers comparisons.Same a b → nums.out-Num a ≡ nums.Num-F.Num::Var v → nums.out-Num b ≡ nums.Num-F.Num::Fixed n → IsTest m c v n
is_test m c a b v n form left right s given =
    let whole : cond_value m s c given ≡ (num_value m s a given >>= λ x. num_value m s b given >>= λ y. Ok (int_eq x y)) = rw (conds.fold_out-Cond ArgValue CondValue NumValue SetValue arg_step (cond_step m s) (num_step m s) (set_step m s) c, form) refl in
    let x : num_value m s a given ≡ Ok (number_in s v) = rw (nums.fold_out-Num ArgValue CondValue NumValue SetValue arg_step (cond_step m s) (num_step m s) (set_step m s) a, left) refl in
    let y : num_value m s b given ≡ Ok n = rw (nums.fold_out-Num ArgValue CondValue NumValue SetValue arg_step (cond_step m s) (num_step m s) (set_step m s) b, right) refl in
    whole ∙ (ap (λ (r : Result ℤ FaultKind). r >>= λ x. num_value m s b given >>= λ y. Ok (int_eq x y)) x ∙ ap (λ (r : Result ℤ FaultKind). r >>= λ y. Ok (int_eq (number_in s v) y)) y)

-- ---- conditions

if_both : (held : Bool) (r : Result Bool FaultKind) → (if held then r else Ok false) ≡ Ok true → (held ≡ true) × (r ≡ Ok true)
if_both true r h = (refl, h)
if_both false r h = absurd (cc)

-- where conditions are all true, the first is, and the others are
first_true : (r q : Result Bool FaultKind) → (r >>= λ held. if held then q else Ok false) ≡ Ok true → (r ≡ Ok true) × (q ≡ Ok true)
first_true r q h =
    let held = bound r (λ held. if held then q else Ok false) true h in
    let both = if_both held.0 q held.2 in
    (held.1 ∙ ap (λ (b : Bool). Ok b) both.0, both.1)

both_true : (r q : Result Bool FaultKind) → r ≡ Ok true → q ≡ Ok true → (r >>= λ held. if held then q else Ok false) ≡ Ok true
both_true r q e h = ap (λ (x : Result Bool FaultKind). x >>= λ held. if held then q else Ok false) e ∙ h

one_true : (f : conds.Cond → Result Bool FaultKind) (cs : List conds.Cond) (i : ℕ) (c : conds.Cond) → slice_get cs i ≡ Some c → each_holds f cs ≡ Ok true → f c ≡ Ok true
one_true f [] i c at h = let clash : None ≡ Some c = at in absurd cc
one_true f (d ∷ cs) zero c at h = let same : d ≡ c = cc in subst (λ (x : conds.Cond). f x ≡ Ok true) same (first_true (f d) (each_holds f cs) h).0
one_true f (d ∷ cs) (suc i) c at h = one_true f cs i c at (first_true (f d) (each_holds f cs) h).1

each_true : (f g : conds.Cond → Result Bool FaultKind) (cs : List conds.Cond) → ((i : ℕ) (c : conds.Cond) → slice_get cs i ≡ Some c → g c ≡ Ok true → f c ≡ Ok true) → each_holds g cs ≡ Ok true → each_holds f cs ≡ Ok true
each_true f g [] law h = refl
each_true f g (c ∷ cs) law h =
    let there = first_true (g c) (each_holds g cs) h in
    both_true (f c) (each_holds f cs) (law zero c refl there.0) (each_true f g cs (λ i d at. law (suc i) d at) there.1)

-- ---- values

some_value : (a b : PlainValue) → Some a ≡ Some b → a ≡ b
some_value a b e = cc

may_number : (objects : List ObjectType) (kind : VarKind) (x : PlainValue) → kind ≡ kinds.Integer → may_hold objects kind x ≡ true → (n : ℤ) × (x ≡ values.Number n)
may_number objects kinds.Integer (values.Number n) e h = (n, refl)
may_number objects kinds.Integer (values.Members xs) e h = absurd cc
may_number objects (kinds.Set object) x e h = absurd cc
may_number objects (kinds.Element object) x e h = absurd cc

-- an integer variable holds a number in each state
number_at : (objects : List ObjectType) (vs : List Variable) (xs : List PlainValue) → are_held objects vs xs ≡ true → (v : ℕ) (x : Variable) → slice_get vs v ≡ Some x → x.kind ≡ kinds.Integer → (n : ℤ) × (slice_get xs v ≡ Some (values.Number n))
number_at objects [] xs h v x at e = let clash : None ≡ Some x = at in absurd cc
number_at objects (w ∷ vs) [] h v x at e = absurd cc
number_at objects (w ∷ vs) (y ∷ xs) h zero x at e =
    let both = and_parts (may_hold objects w.kind y) (are_held objects vs xs) h in
    let n = may_number objects w.kind y (ap (λ (z : Variable). z.kind) (some_one w x at) ∙ e) both.0 in
    (n.0, ap Some n.1)
number_at objects (w ∷ vs) (y ∷ xs) h (suc v) x at e = number_at objects vs xs (and_parts (may_hold objects w.kind y) (are_held objects vs xs) h).1 v x at e

kind_there : (m : Model) (v : ℕ) (x : Variable) → slice_get m.variables v ≡ Some x → kind_of m v ≡ x.kind
kind_there m v x at = rw at refl

-- where the other value is raised to no more than the better one has, the better one stays better
set_passed : (kept : List Bool) (vs : List Variable) (xs ys : List PlainValue) (v : ℕ) (x : Variable) (a n : ℤ) → slice_get vs v ≡ Some x → is_kept kept v ≡ true → x.preference ≡ Greater → slice_get xs v ≡ Some (values.Number a) → n ≤ℤ a
    → DominatesIn (variables_with kept vs) xs ys → DominatesIn (variables_with kept vs) xs (slice_set ys v (values.Number n))
set_passed kept [] xs ys v x a n at keeps e has le d = let clash : None ≡ Some x = at in absurd cc
set_passed [] (w ∷ vs) xs ys v x a n at keeps e has le d = let clash : false ≡ true = keeps in absurd cc
set_passed (k ∷ kept) (w ∷ vs) [] ys v x a n at keeps e has le d = let clash : None ≡ Some (values.Number a) = has in absurd cc
set_passed (k ∷ kept) (w ∷ vs) (z ∷ xs) [] v x a n at keeps e has le d = absurd d
set_passed (k ∷ kept) (w ∷ vs) (z ∷ xs) (y ∷ ys) zero x a n at keeps e has le d =
    (subst (λ (b : PlainValue). AtLeast (variable_if k w).preference b (values.Number n)) (sym (some_value z (values.Number a) has)) (greater_kept k w a n keeps (ap (λ (u : Variable). u.preference) (some_one w x at) ∙ e) le), d.1)
set_passed (k ∷ kept) (w ∷ vs) (z ∷ xs) (y ∷ ys) (suc v) x a n at keeps e has le d = (d.0, set_passed kept vs xs ys v x a n at keeps e has le d.1)

-- ---- weights that may be saved

free_plus : (minimize : Bool) (w v v' : ℤ) → (minimize ≡ true → pos 0 ≤ℤ w) → (minimize ≡ false → w ≤ℤ pos 0) → (IsBetter minimize v' v → ⊥) → IsBetter minimize (operation Plus w v') v → ⊥
free_plus true w v v' low high k better = let x = low refl in let y = no_less v' v k in absurd (omega (arith, ints, x, y, better))
free_plus false w v v' low high k better = let x = high refl in let y = no_more v' v k in absurd (omega (arith, ints, x, y, better))

module _ (m : Model) (kept : List Bool) (ends : List ℤ) where
  -- ---- a number in each state within the ends

  low_there : (e : nums.Num) (low : ℤ) → Falls m kept ends e low → (s : PlainState) → IsTrue (is_state m.objects m.variables s) → HasEnds m kept ends s → (args : List ℕ) (n : ℤ) → num_value m s e args ≡ Ok n → low ≤ℤ n
  low_there e low falls s state has args n h =
      let z = falls s s (itself m kept ends s state has) args n h in
      subst (λ (k : ℤ). low ≤ℤ k) (ok_same z.0 n (sym z.1 ∙ h)) z.3

  high_there : (e : nums.Num) (high : ℤ) → Rises m kept ends e high → (s : PlainState) → IsTrue (is_state m.objects m.variables s) → HasEnds m kept ends s → (args : List ℕ) (n : ℤ) → num_value m s e args ≡ Ok n → n ≤ℤ high
  high_there e high rises s state has args n h =
      let z = rises s s (itself m kept ends s state has) args n h in
      subst (λ (k : ℤ). k ≤ℤ high) (ok_same z.0 n (sym z.1 ∙ h)) z.3

  pub plus_less : (e : nums.Num) (low : ℤ) → m.join ≡ Plus → m.minimize ≡ true → Falls m kept ends e low → pos 0 ≤ℤ low → IsFreeBy m kept ends e
  plus_less e low plus less falls from s state has args w h v v' k =
      let at : low ≤ℤ w = low_there e low falls s state has args w h in
      let above : pos 0 ≤ℤ w = omega (arith, ints, at, from) in
      subst (λ (op : JoinOp). IsNotBetter m (operation op w v') v) (sym plus) (free_plus m.minimize w v v' (λ e. above) (λ e. let clash : true ≡ false = sym less ∙ e in absurd cc) k)

  pub plus_more : (e : nums.Num) (high : ℤ) → m.join ≡ Plus → m.minimize ≡ false → Rises m kept ends e high → high ≤ℤ pos 0 → IsFreeBy m kept ends e
  plus_more e high plus more rises to s state has args w h v v' k =
      let at : w ≤ℤ high = high_there e high rises s state has args w h in
      let below : w ≤ℤ pos 0 = omega (arith, ints, at, to) in
      subst (λ (op : JoinOp). IsNotBetter m (operation op w v') v) (sym plus) (free_plus m.minimize w v v' (λ e. let clash : true ≡ false = sym e ∙ more in absurd cc) (λ e. below) k)

  pub leave_some : (t : Transition) (e : nums.Num) → t.weight ≡ Some e → IsFreeBy m kept ends e → FreeToLeave m kept ends t
  leave_some t e some free s state has args w h =
      let z = bound (num_value m s e args) (λ w. Ok (Some w)) w (sym (some_is m kept ends t e s args some) ∙ h) in
      subst (IsFree m) (ok_same (Some z.0) w z.2) (free s state has args z.0 z.1)

  -- ---- effects

  pub sets_number : (v : ℕ) (e : nums.Num) (limit high : ℤ) → Rises m kept ends e high → high ≤ℤ limit → SetsUpTo m kept ends v limit (effects.Number v e)
  sets_number v e limit high rises to s state has args change h =
      let n = number_parts m kept ends s args v e change h in
      let at : n.0 ≤ℤ high = high_there e high rises s state has args n.0 n.1 in
      (n.0, n.2, omega (arith, ints, at, to))

  -- the better state is as good as where the effects lead
  stays : (v : ℕ) (x : Variable) (limit a : ℤ) → slice_get m.variables v ≡ Some x → is_kept kept v ≡ true → x.preference ≡ Greater → (xs : List PlainValue) → slice_get xs v ≡ Some (values.Number a) → limit ≤ℤ a
      → (other : PlainState) → IsTrue (is_state m.objects m.variables other) → HasEnds m kept ends other → (args : List ℕ) (es : List Effect) → AllSetUpTo m kept ends v limit es
      → (held : List PlainValue) → DominatesIn (variables_with kept m.variables) xs held → (ys : List (ℕ × PlainValue)) → in_turn (effect_value m other args) es ≡ Ok ys → DominatesIn (variables_with kept m.variables) xs (with_changes held ys)
  stays v x limit a at keeps e xs here above other state has args [] each held d ys h = subst (λ (zs : List (ℕ × PlainValue)). DominatesIn (variables_with kept m.variables) xs (with_changes held zs)) (ok_same [] ys h) d
  stays v x limit a at keeps e xs here above other state has args (f ∷ es) each held d ys h =
      let first = parts m kept ends other args f es ys h in
      let n = each zero f refl other state has args first.0 first.2 in
      let le : n.0 ≤ℤ a = omega (arith, ints, n.2, above) in
      let set = subst (λ (c : ℕ × PlainValue). DominatesIn (variables_with kept m.variables) xs (slice_set held c.0 c.1)) n.1 (set_passed kept m.variables xs held v x a n.0 at keeps e here le d) in
      subst (λ (zs : List (ℕ × PlainValue)). DominatesIn (variables_with kept m.variables) xs (with_changes held zs)) first.4
      (stays v x limit a at keeps e xs here above other state has args es (λ i g at. each (suc i) g at) (slice_set held first.0.0 first.0.1) set first.1 first.3)

  -- ---- transitions

  pub test_eases : (v : ℕ) (n : ℤ) (c : conds.Cond) → IsTest m c v n → EasesAt m kept ends v c
  test_eases v n c test s other p same given h = test s given ∙ (ap (λ (z : ℤ). Ok (int_eq z n)) same ∙ (sym (test other given) ∙ h))

  pub eases_still : (v : ℕ) (c : conds.Cond) → Eases m kept ends c → EasesAt m kept ends v c
  eases_still v c eases s other p same given h = eases s other p given h

  raised : (t : Transition) (v : ℕ) (n limit : ℤ) (c : conds.Cond) → limit ≡ n +ℤ pos 1 → IsSwitch m kept c v n → IsRaise m kept ends t v limit
      → (s other : PlainState) → IsPair m kept ends s other → (args : List ℕ) (w : Option ℤ) (next : PlainState) → number_in other v ≡ n → are_members other t.params args ≡ true → all_true m other args t.preconditions ≡ Ok true → weight_of m other (t, args) ≡ Ok w → next_state m other (t, args) ≡ Ok next
      → (b : Bool) → int_eq (number_in s v) n ≡ b → AnswersIn m kept t s args w next ⊎ StaysIn m kept s w next
  raised t v n limit c up switch raise s other p args w next is members held weighs leads true same =
      let equal : number_in s v ≡ number_in other v = same_number (number_in s v) n same ∙ sym is in
      inl (same_step m kept ends t raise.params raise.effects raise.weight s other p args w next
      (each_true (λ (d : conds.Cond). cond_value m s d args) (λ (d : conds.Cond). cond_value m other d args) t.preconditions (λ i d at. raise.conditions i d at s other p equal args) held) members weighs leads)
  raised t v n limit c up switch raise s other p args w next is members held weighs leads false differs =
      let more : number_in other v ≤ℤ number_in s v = held_greater kept m.variables s.values other.values p.better v switch.variable switch.there switch.greater in
      let apart : number_in s v ≡ n → ⊥ = other_number (number_in s v) n differs in
      let kind : switch.variable.kind ≡ kinds.Integer = sym (kind_there m v switch.variable switch.there) ∙ switch.integer in
      let a = number_at m.objects m.variables s.values p.state v switch.variable switch.there kind in
      let held_is : number_in s v ≡ a.0 = ap number_held a.1 in
      let above : limit ≤ℤ a.0 = past (number_in s v) n limit a.0 apart (subst (λ (k : ℤ). k ≤ℤ number_in s v) is more) up held_is in
      let ys = bound (in_turn (effect_value m other args) t.effects) (λ changes. Ok (record { values = with_changes other.values changes })) next leads in
      let d = stays v switch.variable limit a.0 switch.there switch.keeps switch.greater s.values a.1 above other p.other_state p.other_within args t.effects raise.sets other.values p.better ys.0 ys.1 in
      inr (
        subst (λ (x : PlainState). DominatesIn (variables_with kept m.variables) s.values x.values) (ok_same {A = PlainState} (record { values = with_changes other.values ys.0 }) next ys.2) d,
        raise.free other p.other_state p.other_within args w weighs,
      )
    where
      past : (z n limit a : ℤ) → (z ≡ n → ⊥) → n ≤ℤ z → limit ≡ n +ℤ pos 1 → z ≡ a → limit ≤ℤ a
      past z n limit a apart le up is = grind (arith, ints)

  pub switched : (t : Transition) (v : ℕ) (n limit : ℤ) → HasSwitch m kept t.preconditions v n → limit ≡ n +ℤ pos 1 → IsRaise m kept ends t v limit → Answers m kept ends t
  switched t v n limit has up raise s other p args w next enabled weighs leads =
      let there = if_enabled m kept ends (are_members other t.params args) (all_true m other args t.preconditions) enabled in
      let yes : cond_value m other has.1 args ≡ Ok true = one_true (λ (d : conds.Cond). cond_value m other d args) t.preconditions has.0 has.1 has.2 there.1 in
      let is : number_in other v ≡ n = same_number (number_in other v) n (ok_same (int_eq (number_in other v) n) true (sym (has.3.test other args) ∙ yes)) in
      raised t v n limit has.1 up has.3 raise s other p args w next is there.0 there.1 weighs leads (int_eq (number_in s v) n) refl
