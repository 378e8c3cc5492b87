-- Effects that are applied to symbols one after another.
use Rattle.std.proofs.Common.{◌≡◌, ℕ, zero, suc, ◌<◌, Bool, true, false, List, [], ◌∷◌, length, map, slice_get, slice_set, Option, Some, IsTrue, ℤ, eqb, refl, sym, ap, ◌∙◌, subst, arith}
use Rattle.std.proofs.lemmas.Bool.{and_parts, eqb-true, eqb-false}
use Rattle.dp_model.specs.Typing.{are_held, effect_variable, is_state, may_hold}
use Rattle.dp_model.specs.declared.parts.Effect.{Effect}
use Rattle.dp_model.specs.declared.parts.Effect.TheVariants as effects
use Rattle.dp_model.specs.declared.parts.ObjectType.{ObjectType}
use Rattle.dp_model.specs.declared.parts.Variable.{Variable}
use Rattle.dp_model.specs.declared.parts.PlainValue.{PlainValue}
use Rattle.dp_model.specs.declared.parts.PlainState.{PlainState}
use Rattle.dp_model.specs.declared.whole.Model.{Model}
use Rattle.dp_steps.specs.States.{with_changes}
use Rattle.poly_eval.specs.Shows.{Shows, ShowsValue}
use Rattle.poly_eval.specs.declared.symbols.Symbol.{Symbol}
use Rattle.wide_steps.specs.Steps.{wide_effect}

-- Some effects are applied to the symbols, and those that are left lead from the values that they show to the new ones.
pub record Underway (m : Model) (s : PlainState) (given : List ℕ) (v : ℕ → ℤ) (after : List Symbol) (all left : List Effect) : Type 0 where
  pub held : List PlainValue
  pub many : length held ≡ length s.values
  pub shows : Shows v after (record { values = held })
  pub rest : with_changes held (map (wide_effect m s given) left) ≡ with_changes s.values (map (wide_effect m s given) all)

-- ---- lists in which one item is set

pub set_long : {A : Type 0} (xs : List A) (i : ℕ) (x : A) → length (slice_set xs i x) ≡ length xs
set_long [] zero x = refl
set_long [] (suc i) x = refl
set_long (y ∷ ys) zero x = refl
set_long (y ∷ ys) (suc i) x = ap suc (set_long ys i x)

pub set_here : {A : Type 0} (xs : List A) (i : ℕ) (x : A) → i < length xs → slice_get (slice_set xs i x) i ≡ Some x
set_here [] i x h = absurd (omega arith)
set_here (y ∷ ys) zero x h = refl
set_here (y ∷ ys) (suc i) x h = set_here ys i x (omega arith)

pub set_there : {A : Type 0} (xs : List A) (i k : ℕ) (x : A) → (k ≡ i → ⊥) → slice_get (slice_set xs i x) k ≡ slice_get xs k
set_there [] zero k x h = refl
set_there [] (suc i) k x h = refl
set_there (y ∷ ys) zero zero x h = absurd (h refl)
set_there (y ∷ ys) zero (suc k) x h = refl
set_there (y ∷ ys) (suc i) zero x h = refl
set_there (y ∷ ys) (suc i) (suc k) x h = set_there ys i k x (λ e. h (ap suc e))

-- ---- one more effect

held_long : (os : List ObjectType) (vs : List Variable) (xs : List PlainValue) → are_held os vs xs ≡ true → length xs ≡ length vs
held_long os [] [] h = refl
held_long os [] (x ∷ xs) h = absurd (cc)
held_long os (v ∷ vs) [] h = absurd (cc)
held_long os (v ∷ vs) (x ∷ xs) h = ap suc (held_long os vs xs (and_parts (may_hold os v.kind x) (are_held os vs xs) h).1)

set_variable : (m : Model) (s : PlainState) (given : List ℕ) (e : Effect) → (wide_effect m s given e).0 ≡ effect_variable e
set_variable m s given (effects.Number v e) = refl
set_variable m s given (effects.Members v e) = refl

-- symbols show a state in which one variable has another value
shows_set : (v : ℕ → ℤ) (symbols : List Symbol) (held : List PlainValue) (place : ℕ) (symbol : Symbol) (value : PlainValue) → place < length symbols → place < length held → Shows v symbols (record { values = held }) → ShowsValue v symbol (Some value) → Shows v (slice_set symbols place symbol) (record { values = slice_set held place value })
shows_set v symbols held place symbol value small there shows new k x at = by_place (eqb k place) refl
  where
    by_place : (same : Bool) → eqb k place ≡ same → ShowsValue v x (slice_get (slice_set held place value) k)
    by_place true e =
        let is : k ≡ place = eqb-true k place e in
        let x_is : Some symbol ≡ Some x = sym (set_here symbols place symbol small) ∙ ap (slice_get (slice_set symbols place symbol)) (sym is) ∙ at in
        let same : symbol ≡ x = cc in
        let here : slice_get (slice_set held place value) k ≡ Some value = ap (slice_get (slice_set held place value)) is ∙ set_here held place value there in
        subst (λ (o : Option PlainValue). ShowsValue v x o) (sym here) (subst (λ (y : Symbol). ShowsValue v y (Some value)) same new)
    by_place false e =
        let other : k ≡ place → ⊥ = λ is. eqb-false k place e is in
        let x_at : slice_get symbols k ≡ Some x = sym (set_there symbols place k symbol other) ∙ at in
        subst (λ (o : Option PlainValue). ShowsValue v x o) (sym (set_there held place k value other)) (shows k x x_at)

pub changes_start : (m : Model) (s : PlainState) (given : List ℕ) (v : ℕ → ℤ) (before : List Symbol) (all : List Effect) → Shows v before s → Underway m s given v before all all
changes_start m s given v before all shows = record { held = s.values; many = refl; shows = shows; rest = refl }

pub changes_step : (m : Model) (s : PlainState) (given : List ℕ) (v : ℕ → ℤ) (after : List Symbol) (all left : List Effect) (e : Effect) (place : ℕ) (symbol : Symbol)
    → IsTrue (is_state m.objects m.variables s) → effect_variable e ≡ place → place < length after → place < length m.variables → ShowsValue v symbol (Some (wide_effect m s given e).1)
    → Underway m s given v after all (e ∷ left) → Underway m s given v (slice_set after place symbol) all left
changes_step m s given v after all left e place symbol state is small there new u =
    let change = wide_effect m s given e in
    let at : change.0 ≡ place = set_variable m s given e ∙ is in
    let long : length u.held ≡ length m.variables = u.many ∙ held_long m.objects m.variables s.values state in
    record {
      held = slice_set u.held place change.1;
      many = set_long u.held place change.1 ∙ u.many;
      shows = shows_set v after u.held place symbol change.1 small (omega arith) u.shows new;
      rest = ap (λ (k : ℕ). with_changes (slice_set u.held k change.1) (map (wide_effect m s given) left)) (sym at) ∙ u.rest;
    }

pub changes_end : (m : Model) (s : PlainState) (given : List ℕ) (v : ℕ → ℤ) (after : List Symbol) (all : List Effect) → Underway m s given v after all [] → Shows v after (record { values = with_changes s.values (map (wide_effect m s given) all) })
changes_end m s given v after all u = subst (λ (xs : List PlainValue). Shows v after (record { values = xs })) u.rest u.shows
