-- The state that a transition leads to is a state of the model again.
use Rattle.std.proofs.Common.{◌≡◌, ℕ, zero, suc, ◌+◌, ◌^◌, Bool, true, false, ◌&&◌, if◌then◌else◌, List, [], ◌∷◌, length, slice_get, slice_set, Option, Some, None, option_and_then, Result, Ok, Err, IsTrue, ℤ, pos, negsuc, nat_lt, int_le, int_lt, refl, ap, arith, subst, sym, ◌<◌}
use Rattle.std.specs.Prelude.{unwrap_or}
use Rattle.std.specs.List.{list_all}
use Rattle.std.proofs.lemmas.Bool.{and_parts, and_from, eqb-true, ltb-true}
use Rattle.std.proofs.lemmas.Int.{ints}
use Rattle.dp_base.specs.Results.{◌>>=◌}
use Rattle.dp_model.specs.Costs.{InRange}
use Rattle.dp_model.specs.Evaluation.{kind_of, num_value, set_value}
use Rattle.dp_model.specs.StepTexts.{ground_of}
use Rattle.dp_model.specs.Typing.{are_held, holds_set_of, is_cond, is_effect, is_in_range, is_num, is_number_kind, is_set, is_set_below, kind_at, may_hold, over_typed, type_count}
use Rattle.dp_model.specs.declared.answers.FaultKind.{FaultKind}
use Rattle.dp_model.specs.declared.answers.FaultKind.TheVariants.{Range}
use Rattle.dp_model.specs.declared.answers.Spot.TheVariants as spots
use Rattle.dp_model.specs.declared.trees.SetEx.{SetEx}
use Rattle.dp_model.specs.declared.trees.Num.{Num}
use Rattle.dp_model.specs.declared.parts.Effect.{Effect}
use Rattle.dp_model.specs.declared.parts.Effect.TheVariants as effects
use Rattle.dp_model.specs.declared.parts.ObjectType.{ObjectType}
use Rattle.dp_model.specs.declared.parts.Variable.{Variable}
use Rattle.dp_model.specs.declared.parts.VarKind.{VarKind}
use Rattle.dp_model.specs.declared.parts.VarKind.TheVariants as kinds
use Rattle.dp_model.specs.declared.parts.Transition.{Transition}
use Rattle.dp_model.specs.declared.parts.PlainValue.{PlainValue}
use Rattle.dp_model.specs.declared.parts.PlainValue.TheVariants as values
use Rattle.dp_model.specs.declared.parts.PlainState.{PlainState}
use Rattle.dp_model.specs.declared.whole.Model.{Model}
use Rattle.dp_steps.specs.States.{effect_value, stored, with_changes}
use Rattle.dp_eval.specs.Fits.{are_given}
use Rattle.dp_eval.proofs.Fits.{bound as evaluated, numbers_fit, sets_fit}
use Rattle.spot_eval.specs.Answers.{at_spot}
use Rattle.spot_eval.specs.Moves.{effects_at, next_at}
use Rattle.spot_eval.specs.Ranges.{IsStateIn}
use Rattle.spot_eval.proofs.Grounds.{step_of}
use Rattle.spot_eval.proofs.Ranges.{at_spot-ok, bound, ok_in}

-- ---- one variable

tested : (n : ℤ) → InRange n → is_in_range n ≡ true
tested n p = let low = p.0 in let high = p.1 in grind (arith, ints)

-- a number in range that is stored is one that the variable may hold
abbrev kept_where : Bool → ℤ → Result ℤ FaultKind
kept_where below n = if below then Ok n else Err Range

element_fits : (below : Bool) (n : ℕ) (held : ℤ) → nat_lt n (2 ^ 32) ≡ below → kept_where below (pos n) ≡ Ok held → (int_le (pos 0) held && int_lt held (pos (2 ^ 32))) ≡ true
element_fits true n held q h =
    let below : n < 4294967296 = ltb-true n 4294967296 q in
    let is : (int_le (pos 0) (pos n) && int_lt (pos n) (pos (2 ^ 32))) ≡ true = grind (arith, ints) in
    let same : pos n ≡ held = cc in
    subst (λ (x : ℤ). (int_le (pos 0) x && int_lt x (pos (2 ^ 32))) ≡ true) same is
element_fits false n held q h = absurd (cc)

stored_fits : (os : List ObjectType) (kind : VarKind) (n held : ℤ) → is_number_kind (Some kind) ≡ true → is_in_range n ≡ true → stored kind n ≡ Ok held → may_hold os kind (values.Number held) ≡ true
stored_fits os kinds.Integer n held k p h = let same : n ≡ held = cc in subst (λ (x : ℤ). is_in_range x ≡ true) same p
stored_fits os (kinds.Set object) n held k p h = absurd (cc)
stored_fits os (kinds.Element object) (pos n) held k p h = element_fits (nat_lt n (2 ^ 32)) n held refl h
stored_fits os (kinds.Element object) (negsuc n) held k p h = absurd (cc)

-- a variable of a state holds another value that it may hold
set_kept : (os : List ObjectType) (vs : List Variable) (xs : List PlainValue) (v : ℕ) (x : Variable) (y : PlainValue) → are_held os vs xs ≡ true → slice_get vs v ≡ Some x → may_hold os x.kind y ≡ true → are_held os vs (slice_set xs v y) ≡ true
set_kept os [] xs v x y h e p = absurd (cc)
set_kept os (w ∷ vs) [] v x y h e p = absurd (cc)
set_kept os (w ∷ vs) (z ∷ xs) zero x y h e p =
    let same : w ≡ x = cc in
    and_from (may_hold os w.kind y) (are_held os vs xs) (subst (λ (x : Variable). may_hold os x.kind y ≡ true) (sym same) p) (and_parts (may_hold os w.kind z) (are_held os vs xs) h).1
set_kept os (w ∷ vs) (z ∷ xs) (suc v) x y h e p =
    let parts = and_parts (may_hold os w.kind z) (are_held os vs xs) h in
    and_from (may_hold os w.kind z) (are_held os vs (slice_set xs v y)) parts.0 (set_kept os vs xs v x y parts.1 e p)

-- ---- effects

module _ (m : Model) (s : PlainState) (given : List ℕ) (state : IsStateIn m s) (fits : are_given given ≡ true) where
  -- the variable that is set is there, and may hold its new value
  record Fits (change : ℕ × PlainValue) : Type 0 where
    pub variable : Variable
    pub there : slice_get m.variables change.0 ≡ Some variable
    pub holds : may_hold m.objects variable.kind change.1 ≡ true

  number_fits : (v : ℕ) (e : Num) (o : Option Variable) (change : ℕ × PlainValue) → slice_get m.variables v ≡ o → is_number_kind (kind_at m.variables v) ≡ true → is_num m.objects m.variables m.tables e (length given) ≡ true → effect_value m s given (effects.Number v e) ≡ Ok change → Fits change
  number_fits v e None change q k t h = let no = rw q at k in absurd (cc)
  number_fits v e (Some x) change q k t h =
      let n = evaluated (num_value m s e given) (λ n. stored (kind_of m v) n >>= λ held. Ok (v, values.Number held)) change h in
      let held = evaluated (stored (kind_of m v) n.0) (λ held. Ok (v, values.Number held)) change n.2 in
      let range = ok_in InRange (num_value m s e given) n.0 (numbers_fit m s e given state fits t) n.1 in
      let kind : kind_of m v ≡ x.kind = ap (λ (o : Option Variable). unwrap_or (option_and_then (λ (x : Variable). Some x.kind) o) kinds.Integer) q in
      let is_stored = subst (λ (k : VarKind). stored k n.0 ≡ Ok held.0) kind held.1 in
      let holds = stored_fits m.objects x.kind n.0 held.0 (rw q at k) (tested n.0 range) is_stored in
      let same : (v, values.Number held.0) ≡ change = cc in
      subst Fits same (record { variable = x; there = q; holds = holds })

  members_fit : (v : ℕ) (e : SetEx) (o : Option Variable) (change : ℕ × PlainValue) → slice_get m.variables v ≡ o → holds_set_of (is_set m.objects m.variables m.tables e).0 (kind_at m.variables v) ≡ true → (is_set m.objects m.variables m.tables e).1 (length given) ≡ true → effect_value m s given (effects.Members v e) ≡ Ok change → Fits change
  members_fit v e None change q k t h = let no = rw q at k in absurd (cc)
  members_fit v e (Some x) change q k t h =
      let set = evaluated ((set_value m s e).1 given) (λ set. Ok (v, values.Members set)) change h in
      let object = (is_set m.objects m.variables m.tables e).0 in
      let below = ok_in (λ set. IsTrue (is_set_below (type_count m.objects object) set)) ((set_value m s e).1 given) set.0 (sets_fit m s e given state fits t) set.1 in
      let same : (v, values.Members set.0) ≡ change = cc in
      subst Fits same (record { variable = x; there = q; holds = set_of x.kind object set.0 (rw q at k) below })
    where
      set_of : (kind : VarKind) (object : ℕ) (set : List ℕ) → holds_set_of object (Some kind) ≡ true → is_set_below (type_count m.objects object) set ≡ true → may_hold m.objects kind (values.Members set) ≡ true
      set_of kinds.Integer object set k p = absurd (cc)
      set_of (kinds.Element other) object set k p = absurd (cc)
      set_of (kinds.Set other) object set k p = let is : object ≡ other = eqb-true object other k in rw (← is) p

  effect_fits : (e : Effect) (change : ℕ × PlainValue) → is_effect m.objects m.variables m.tables (length given) e ≡ true → effect_value m s given e ≡ Ok change → Fits change
  effect_fits (effects.Number v e) change t h =
      let p = and_parts (is_number_kind (kind_at m.variables v)) _ t in
      number_fits v e (slice_get m.variables v) change refl p.0 p.1 h
  effect_fits (effects.Members v e) change t h =
      let p = and_parts (holds_set_of (is_set m.objects m.variables m.tables e).0 (kind_at m.variables v)) _ t in
      members_fit v e (slice_get m.variables v) change refl p.0 p.1 h

  changes_fit : (g i : ℕ) (es : List Effect) (changes : List (ℕ × PlainValue)) (xs : List PlainValue) → list_all (is_effect m.objects m.variables m.tables (length given)) es ≡ true → effects_at m s g given i es ≡ Ok changes → are_held m.objects m.variables xs ≡ true → are_held m.objects m.variables (with_changes xs changes) ≡ true
  changes_fit g i [] changes xs t h held = let same : [] ≡ changes = cc in rw (← same) held
  changes_fit g i (e ∷ es) changes xs t h held =
      let first = bound (at_spot (spots.Effect g i) (effect_value m s given e)) (λ change. effects_at m s g given (i + 1) es >>= λ changes. Ok (change ∷ changes)) changes h in
      let rest = bound (effects_at m s g given (i + 1) es) (λ changes. Ok (first.0 ∷ changes)) changes first.2 in
      let typed = and_parts (is_effect m.objects m.variables m.tables (length given) e) (list_all (is_effect m.objects m.variables m.tables (length given)) es) t in
      let change = effect_fits e first.0 typed.0 (at_spot-ok (spots.Effect g i) (effect_value m s given e) first.0 first.1) in
      let kept = set_kept m.objects m.variables xs first.0.0 change.variable first.0.1 held change.there change.holds in
      let same : first.0 ∷ rest.0 ≡ changes = cc in
      rw (← same) (changes_fit g (i + 1) es rest.0 (slice_set xs first.0.0 first.0.1) typed.1 rest.1 kept)

-- ---- the laws

pub next_fits : (m : Model) (s : PlainState) (g : ℕ) (t : Transition × List ℕ) (next : PlainState) → ground_of m g ≡ Some t → next_at m s g t ≡ Ok next → IsStateIn m s → IsStateIn m next
next_fits m s g t next at h held =
    let os = m.objects in
    let vs = m.variables in
    let ts = m.tables in
    let step = step_of m g t at in
    let a = (and_parts (list_all (over_typed os vs) t.0.params) _ step.typed).1 in
    let b = (and_parts (list_all (λ c. is_cond os vs ts c (length t.0.params)) t.0.preconditions) _ a).1 in
    let typed = (and_parts (list_all (is_effect os vs ts (length t.0.params)) t.0.effects) _ b).0 in
    let counted : list_all (is_effect os vs ts (length t.1)) t.0.effects ≡ true = rw step.count typed in
    let changes = bound (effects_at m s g t.1 0 t.0.effects) (λ changes. Ok (record { values = with_changes s.values changes })) next h in
    let state : PlainState = record { values = with_changes s.values changes.0 } in
    let same : state ≡ next = cc in
    subst (IsStateIn m) same (changes_fit m s t.1 held step.given g 0 t.0.effects changes.0 s.values counted changes.1 held)
