-- Each part of a transition by itself, and from the parts the whole: the same step of a better state answers the step.
use Rattle.std.proofs.Common.{◌≡◌, ℕ, ◌^◌, Bool, true, false, ◌&&◌, if◌then◌else◌, List, [], ◌∷◌, map, slice_get, Option, Some, Result, Ok, Err, IsTrue, ℤ, pos, negsuc, refl, sym, ap, ap₂, subst, ◌∙◌, arith}
use Rattle.std.specs.Prelude.{◌≤ℤ◌, nat_lt}
use Rattle.std.proofs.lemmas.Bool.{and_parts}
use Rattle.std.proofs.lemmas.Int.{ints, clamps, by_lt_z}
use Rattle.dp_base.specs.Results.{◌>>=◌, in_turn}
use Rattle.dp_model.specs.Costs.{IsBetter, operation}
use Rattle.dp_model.specs.Evaluation.{has, kind_of, num_value, set_held, set_value}
use Rattle.dp_model.specs.Typing.{effect_variable, is_state}
use Rattle.dp_model.specs.declared.answers.FaultKind.{FaultKind}
use Rattle.dp_model.specs.declared.answers.FaultKind.TheVariants.{Range}
use Rattle.dp_model.specs.declared.trees.Num.{Num}
use Rattle.dp_model.specs.declared.trees.Over.{Over}
use Rattle.dp_model.specs.declared.trees.Over.TheVariants.{Object, Members}
use Rattle.dp_model.specs.declared.trees.SetEx.{SetEx}
use Rattle.dp_model.specs.declared.parts.Effect.{Effect}
use Rattle.dp_model.specs.declared.parts.Effect.TheVariants as effects
use Rattle.dp_model.specs.declared.parts.JoinOp.{JoinOp}
use Rattle.dp_model.specs.declared.parts.JoinOp.TheVariants.{Plus, Most, Least}
use Rattle.dp_model.specs.declared.parts.PlainState.{PlainState}
use Rattle.dp_model.specs.declared.parts.PlainValue.{PlainValue}
use Rattle.dp_model.specs.declared.parts.PlainValue.TheVariants as values
use Rattle.dp_model.specs.declared.parts.Preference.{Preference}
use Rattle.dp_model.specs.declared.parts.Preference.TheVariants.{Without, Less, Greater}
use Rattle.dp_model.specs.declared.parts.Transition.{Transition}
use Rattle.dp_model.specs.declared.parts.VarKind.{VarKind}
use Rattle.dp_model.specs.declared.parts.VarKind.TheVariants as kinds
use Rattle.dp_model.specs.declared.parts.Variable.{Variable}
use Rattle.dp_model.specs.declared.whole.Model.{Model}
use Rattle.dp_steps.specs.States.{all_true, are_members, effect_value, next_state, stored, weight_of, with_changes}
use Rattle.dp_claims.specs.Dominance.{DominatesIn}
use Rattle.kept_model.specs.Parts.{variables_with}
use Rattle.part_laws.specs.OneStep.{IsLighter}
use Rattle.honest_preferences.specs.Answering.{AllEase, AnswersIn, IsAlike, KeepsEnds}
use Rattle.honest_preferences.specs.Effects.{AnswersEffect, AnswersEffects, AnswersWeight, AtLeastAt, CostsNoMore, IsWithin, Moves, StaysWithin}
use Rattle.honest_preferences.specs.Leaving.{all_leave, is_kept, leaves_cond, leaves_num, leaves_set, over_leaves}
use Rattle.honest_preferences.specs.Sides.{IsNoGreater, IsNoLess}
use Rattle.honest_preferences.specs.Signs.{Falls, HasEnds, IsOnSide, IsPair, Rises}
use Rattle.honest_preferences.proofs.Agreeing.{agreeing, not_kept}
use Rattle.honest_preferences.proofs.Binding.{bound, ok_same}
use Rattle.honest_preferences.proofs.Conditions.{all_same}
use Rattle.honest_preferences.proofs.Same.{num_same, set_same}
use Rattle.honest_preferences.proofs.Setting.{at_greater, at_itself, at_less, dominates_itself, effects_answered, effects_within}

-- ---- what is no worse as a cost

pub no_less : (a b : ℤ) → (IsBetter true a b → ⊥) → b ≤ℤ a
no_less a b h = by_lt_z a b (λ lt. absurd (h lt)) (λ le. le)

pub no_more : (a b : ℤ) → (IsBetter false a b → ⊥) → a ≤ℤ b
no_more a b h = by_lt_z b a (λ lt. absurd (h lt)) (λ le. le)

-- operations are monotone in both operands
operations : (minimize : Bool) (op : JoinOp) (a b v v' : ℤ) → (IsBetter minimize b a → ⊥) → (IsBetter minimize v' v → ⊥) → IsBetter minimize (operation op b v') (operation op a v) → ⊥
operations true Plus a b v v' h k better = let x = no_less b a h in let y = no_less v' v k in absurd (omega (arith, ints, x, y, better))
operations false Plus a b v v' h k better = let x = no_more b a h in let y = no_more v' v k in absurd (omega (arith, ints, x, y, better))
operations true Most a b v v' h k better = let x = no_less b a h in let y = no_less v' v k in absurd (omega (arith, ints, clamps, x, y, better))
operations false Most a b v v' h k better = let x = no_more b a h in let y = no_more v' v k in absurd (omega (arith, ints, clamps, x, y, better))
operations true Least a b v v' h k better = let x = no_less b a h in let y = no_less v' v k in absurd (omega (arith, ints, clamps, x, y, better))
operations false Least a b v v' h k better = let x = no_more b a h in let y = no_more v' v k in absurd (omega (arith, ints, clamps, x, y, better))

-- a lesser cost is no worse where less is sought, and a greater one where more is
not_better_less : (a b : ℤ) → a ≤ℤ b → IsBetter true b a → ⊥
not_better_less a b h better = absurd (omega (arith, ints, h, better))

not_better_greater : (a b : ℤ) → b ≤ℤ a → IsBetter false b a → ⊥
not_better_greater a b h better = absurd (omega (arith, ints, h, better))

no_worse_less : (minimize : Bool) (a b : ℤ) → minimize ≡ true → a ≤ℤ b → IsBetter minimize b a → ⊥
no_worse_less true a b is h = not_better_less a b h
no_worse_less false a b is h = absurd cc

no_worse_greater : (minimize : Bool) (a b : ℤ) → minimize ≡ false → b ≤ℤ a → IsBetter minimize b a → ⊥
no_worse_greater false a b is h = not_better_greater a b h
no_worse_greater true a b is h = absurd cc

-- ---- numbers that are stored

if_stored : (b : Bool) (n held : ℤ) → (if b then Ok n else Err Range) ≡ Ok held → n ≡ held
if_stored true n held h = ok_same n held h
if_stored false n held h = absurd (cc)

-- a number that is stored is the same
stored_same : (kind : VarKind) (n held : ℤ) → stored kind n ≡ Ok held → n ≡ held
stored_same kinds.Integer n held h = ok_same n held h
stored_same (kinds.Set object) n held h = ok_same n held h
stored_same (kinds.Element object) (pos n) held h = if_stored (nat_lt n (2 ^ 32)) (pos n) held h
stored_same (kinds.Element object) (negsuc n) held h = absurd (cc)

some_variable : (a b : Variable) → Some a ≡ Some b → a ≡ b
some_variable a b e = cc

some_number : (a b : ℤ) → Some a ≡ Some b → a ≡ b
some_number a b e = cc

less_side : (p : Preference) (end z : ℤ) → p ≡ Less → end ≤ℤ z → IsOnSide p end z
less_side Less end z e h = h
less_side Without end z e h = absurd cc
less_side Greater end z e h = absurd cc

greater_side : (p : Preference) (end z : ℤ) → p ≡ Greater → z ≤ℤ end → IsOnSide p end z
greater_side Greater end z e h = h
greater_side Without end z e h = absurd cc
greater_side Less end z e h = absurd cc

module _ (m : Model) (kept : List Bool) (ends : List ℤ) where
  agree : (s other : PlainState) → IsPair m kept ends s other → (v : ℕ) → is_kept kept v ≡ false → slice_get s.values v ≡ slice_get other.values v
  agree s other p = agreeing kept m.variables s.values other.values p.better

  -- ---- costs

  pub costs_less : (e : Num) → m.minimize ≡ true → IsNoGreater m kept ends e → CostsNoMore m kept ends e
  costs_less e is less s other p given z' h = let z = less s other p given z' h in (z.0, z.1, no_worse_less m.minimize z.0 z' is z.2)

  pub costs_greater : (e : Num) → m.minimize ≡ false → IsNoLess m kept ends e → CostsNoMore m kept ends e
  costs_greater e is more s other p given z' h = let z = more s other p given z' h in (z.0, z.1, no_worse_greater m.minimize z.0 z' is z.2)

  pub some_is : (t : Transition) (e : Num) (s : PlainState) (args : List ℕ) → t.weight ≡ Some e → weight_of m s (t, args) ≡ (num_value m s e args >>= λ w. Ok (Some w))
  some_is t e s args some = rw some refl

  pub weight_some : (t : Transition) (e : Num) → t.weight ≡ Some e → CostsNoMore m kept ends e → AnswersWeight m kept ends t
  weight_some t e some costs s other p args w h =
      let z' = bound (num_value m other e args) (λ w. Ok (Some w)) w (sym (some_is t e other args some) ∙ h) in
      let z = costs s other p args z'.0 z'.1 in (
        Some z.0,
        some_is t e s args some ∙ ap (λ (r : Result ℤ FaultKind). r >>= λ w. Ok (Some w)) z.1,
        subst (λ (x : Option ℤ). IsLighter m (Some z.0) x) (ok_same (Some z'.0) w z'.2) (λ v v' k. operations m.minimize m.join z.0 z'.0 v v' z.2 k),
      )

  -- ---- effects

  abbrev number_set : ℕ → Result ℤ FaultKind → Result (ℕ × PlainValue) FaultKind
  number_set v r = r >>= λ n. stored (kind_of m v) n >>= λ held. Ok (v, values.Number held)

  pub number_same : (v : ℕ) (e : Num) → leaves_num kept e ≡ true → AnswersEffect m kept ends (effects.Number v e)
  number_same v e leaves s other p args change h =
      (change.1, ap (number_set v) (num_same m kept s other (agree s other p) e leaves args) ∙ h, at_itself (variables_with kept m.variables) change.0 change.1)

  pub members_same : (v : ℕ) (e : SetEx) → leaves_set kept e ≡ true → AnswersEffect m kept ends (effects.Members v e)
  members_same v e leaves s other p args change h =
      (change.1, ap (λ (r : Result (List ℕ) FaultKind). r >>= λ members. Ok (v, values.Members members)) ((set_same m kept s other (agree s other p) e leaves).1 args) ∙ h, at_itself (variables_with kept m.variables) change.0 change.1)

  -- an integer variable is set to the number as it is
  integer_set : (s : PlainState) (args : List ℕ) (v : ℕ) (e : Num) (n : ℤ) → kind_of m v ≡ kinds.Integer → num_value m s e args ≡ Ok n → effect_value m s args (effects.Number v e) ≡ Ok (v, values.Number n)
  integer_set s args v e n kind value = ap (number_set v) value ∙ ap (λ (k : VarKind). stored k n >>= λ held. Ok (v, values.Number held)) kind

  -- the number that a variable is set to
  pub number_parts : (s : PlainState) (args : List ℕ) (v : ℕ) (e : Num) (change : ℕ × PlainValue) → effect_value m s args (effects.Number v e) ≡ Ok change → (n : ℤ) × (num_value m s e args ≡ Ok n) × ((v, values.Number n) ≡ change)
  number_parts s args v e change h =
      let n = bound (num_value m s e args) (λ n. stored (kind_of m v) n >>= λ held. Ok (v, values.Number held)) change h in
      let held = bound (stored (kind_of m v) n.0) (λ held. Ok (v, values.Number held)) change n.2 in
      let same : n.0 ≡ held.0 = stored_same (kind_of m v) n.0 held.0 held.1 in
      (n.0, n.1, ap (λ (x : ℤ). (v, values.Number x)) same ∙ ok_same (v, values.Number held.0) change held.2)

  abbrev IsAnswered : PlainState → List ℕ → Effect → ℕ × PlainValue → Type 0
  IsAnswered s args e change = (x : PlainValue) × (effect_value m s args e ≡ Ok (change.0, x)) × AtLeastAt (variables_with kept m.variables) change.0 x change.1

  pub number_less : (v : ℕ) (e : Num) (x : Variable) → is_kept kept v ≡ true → kind_of m v ≡ kinds.Integer → slice_get m.variables v ≡ Some x → x.preference ≡ Less → IsNoGreater m kept ends e → AnswersEffect m kept ends (effects.Number v e)
  number_less v e x keeps kind at prefers less s other p args change h =
      let n = number_parts other args v e change h in
      let z = less s other p args n.0 n.1 in
      subst (IsAnswered s args (effects.Number v e)) n.2 (values.Number z.0, integer_set s args v e z.0 kind z.1, at_less kept m.variables v x z.0 n.0 at keeps prefers z.2)

  pub number_greater : (v : ℕ) (e : Num) (x : Variable) → is_kept kept v ≡ true → kind_of m v ≡ kinds.Integer → slice_get m.variables v ≡ Some x → x.preference ≡ Greater → IsNoLess m kept ends e → AnswersEffect m kept ends (effects.Number v e)
  number_greater v e x keeps kind at prefers more s other p args change h =
      let n = number_parts other args v e change h in
      let z = more s other p args n.0 n.1 in
      subst (IsAnswered s args (effects.Number v e)) n.2 (values.Number z.0, integer_set s args v e z.0 kind z.1, at_greater kept m.variables v x z.0 n.0 at keeps prefers z.2)

  -- ---- ends

  -- a state within the ends makes a pair with itself
  pub itself : (s : PlainState) → IsTrue (is_state m.objects m.variables s) → HasEnds m kept ends s → IsPair m kept ends s s
  itself s state has = record { state = state; other_state = state; within = has; other_within = has; better = dominates_itself (variables_with kept m.variables) s.values }

  pub less_within : (v : ℕ) (e : Num) (x : Variable) (end low : ℤ) → slice_get m.variables v ≡ Some x → x.preference ≡ Less → slice_get ends v ≡ Some end → Falls m kept ends e low → end ≤ℤ low → StaysWithin m kept ends (effects.Number v e)
  less_within v e x end low at prefers here falls above s state has args change h =
      let n = number_parts s args v e change h in
      let z = falls s s (itself s state has) args n.0 n.1 in
      let same : z.0 ≡ n.0 = ok_same z.0 n.0 (sym z.1 ∙ n.1) in
      let from : end ≤ℤ n.0 = omega (arith, ints, above, z.3, same) in
      subst (IsWithin m kept ends) n.2 (λ x' end' at' keeps here'.
      let is : x'.preference ≡ Less = ap (λ (y : Variable). y.preference) (some_variable x' x (sym at' ∙ at)) ∙ prefers in
      less_side x'.preference end' n.0 is (subst (λ (k : ℤ). k ≤ℤ n.0) (some_number end end' (sym here ∙ here')) from))

  pub greater_within : (v : ℕ) (e : Num) (x : Variable) (end high : ℤ) → slice_get m.variables v ≡ Some x → x.preference ≡ Greater → slice_get ends v ≡ Some end → Rises m kept ends e high → high ≤ℤ end → StaysWithin m kept ends (effects.Number v e)
  greater_within v e x end high at prefers here rises below s state has args change h =
      let n = number_parts s args v e change h in
      let z = rises s s (itself s state has) args n.0 n.1 in
      let same : z.0 ≡ n.0 = ok_same z.0 n.0 (sym z.1 ∙ n.1) in
      let to : n.0 ≤ℤ end = omega (arith, ints, below, z.3, same) in
      subst (IsWithin m kept ends) n.2 (λ x' end' at' keeps here'.
      let is : x'.preference ≡ Greater = ap (λ (y : Variable). y.preference) (some_variable x' x (sym at' ∙ at)) ∙ prefers in
      greater_side x'.preference end' n.0 is (subst (λ (k : ℤ). n.0 ≤ℤ k) (some_number end end' (sym here ∙ here')) to))

  -- the variable that an effect sets
  sets : (s : PlainState) (args : List ℕ) (e : Effect) (change : ℕ × PlainValue) → effect_value m s args e ≡ Ok change → change.0 ≡ effect_variable e
  sets s args (effects.Number v e) change h = sym (ap (λ (c : ℕ × PlainValue). c.0) (number_parts s args v e change h).2)
  sets s args (effects.Members v e) change h =
      let members = bound ((set_value m s e).1 args) (λ members. Ok (v, values.Members members)) change h in
      sym (ap (λ (c : ℕ × PlainValue). c.0) (ok_same (v, values.Members members.0) change members.2))

  -- a variable whose preference is not kept has no end
  pub free_within : (e : Effect) → is_kept kept (effect_variable e) ≡ false → StaysWithin m kept ends e
  free_within e free s state has args change h x end at keeps here =
      let clash : true ≡ false = sym keeps ∙ ap (is_kept kept) (sets s args e change h) ∙ free in
      absurd (cc)

  pub keeps : (t : Transition) → ((i : ℕ) (e : Effect) → slice_get t.effects i ≡ Some e → StaysWithin m kept ends e) → KeepsEnds m kept ends t
  keeps t each s state has args next leads =
      let ys = bound (in_turn (effect_value m s args) t.effects) (λ changes. Ok (record { values = with_changes s.values changes })) next leads in
      subst (HasEnds m kept ends) (ok_same {A = PlainState} (record { values = with_changes s.values ys.0 }) next ys.2)
      (effects_within m kept ends s args t.effects (λ i e at. each i e at s state has args) s.values has ys.0 ys.1)

  -- ---- transitions

  members_alike : (s other : PlainState) → IsPair m kept ends s other → (params : List Over) (args : List ℕ) → all_leave (map (over_leaves kept) params) ≡ true → are_members s params args ≡ are_members other params args
  members_alike s other p [] args leaves = refl
  members_alike s other p (over ∷ overs) [] leaves = refl
  members_alike s other p (Object object ∷ overs) (k ∷ args) leaves = members_alike s other p overs args leaves
  members_alike s other p (Members v ∷ overs) (k ∷ args) leaves =
      let both = and_parts (over_leaves kept (Members v)) (all_leave (map (over_leaves kept) overs)) leaves in
      ap₂ (λ (a b : Bool). a && b) (ap (λ (x : Option PlainValue). has (set_held x) k) (agree s other p v (not_kept (is_kept kept v) both.0))) (members_alike s other p overs args both.1)

  pub alike : (t : Transition) → all_leave (map (over_leaves kept) t.params) ≡ true → all_leave (map (leaves_cond kept) t.preconditions) ≡ true → IsAlike m kept ends t
  alike t params conditions s other p args =
      ap₂ (λ (b : Bool) (r : Result Bool FaultKind). if b then r else Ok false) (members_alike s other p t.params args params) (all_same m kept ends s other p t.preconditions conditions args)

  -- what an enabled transition has
  pub if_enabled : (b : Bool) (r : Result Bool FaultKind) → (if b then r else Ok false) ≡ Ok true → (b ≡ true) × (r ≡ Ok true)
  if_enabled true r h = (refl, h)
  if_enabled false r h = absurd (cc)

  -- the same step of a better state in which the preconditions hold
  pub same_step : (t : Transition) → all_leave (map (over_leaves kept) t.params) ≡ true → AnswersEffects m kept ends t.effects → AnswersWeight m kept ends t
      → (s other : PlainState) → IsPair m kept ends s other → (args : List ℕ) (w : Option ℤ) (next : PlainState) → all_true m s args t.preconditions ≡ Ok true → are_members other t.params args ≡ true → weight_of m other (t, args) ≡ Ok w → next_state m other (t, args) ≡ Ok next
      → AnswersIn m kept t s args w next
  same_step t params answers weight s other p args w next held there weighs leads =
      let members : are_members s t.params args ≡ true = members_alike s other p t.params args params ∙ there in
      let here = weight s other p args w weighs in
      let ys = bound (in_turn (effect_value m other args) t.effects) (λ changes. Ok (record { values = with_changes other.values changes })) next leads in
      let xs = effects_answered m kept ends s other p args t.effects answers s.values other.values p.better ys.0 ys.1 in
      record {
        weight = here.0;
        next = record { values = with_changes s.values xs.0 };
        enabled = ap (λ (b : Bool). if b then all_true m s args t.preconditions else Ok false) members ∙ held;
        weighs = here.1;
        leads = ap (λ (r : Result (List (ℕ × PlainValue)) FaultKind). r >>= λ changes. Ok (record { values = with_changes s.values changes })) xs.1;
        lighter = here.2;
        better = subst (λ (n : PlainState). DominatesIn (variables_with kept m.variables) (with_changes s.values xs.0) n.values) (ok_same {A = PlainState} (record { values = with_changes other.values ys.0 }) next ys.2) xs.2;
      }

  pub moves : (t : Transition) → all_leave (map (over_leaves kept) t.params) ≡ true → AllEase m kept ends t.preconditions → AnswersEffects m kept ends t.effects → AnswersWeight m kept ends t → Moves m kept ends t
  moves t params ease answers weight s other p args w next enabled weighs leads =
      let there = if_enabled (are_members other t.params args) (all_true m other args t.preconditions) enabled in
      same_step t params answers weight s other p args w next (ease s other p args there.1) there.0 weighs leads
