-- Steps that bear what a bound says, by sums.
use Rattle.std.proofs.Common.{◌≡◌, ℕ, Bool, true, false, List, [], slice_get, Option, Some, None, IfSome, ℤ, pos, ◌≤ℤ◌, sym, ap, subst, ◌∙◌, arith}
use Rattle.std.proofs.lemmas.Int.{ints}
use Rattle.dp_model.specs.Costs.{IsBetter, join_onto, operation}
use Rattle.dp_model.specs.declared.parts.JoinOp.{JoinOp}
use Rattle.dp_model.specs.declared.trees.NumOp.{NumOp}
use Rattle.dp_model.specs.declared.trees.Num.{Num}
use Rattle.dp_model.specs.declared.parts.BaseCase.{BaseCase}
use Rattle.dp_model.specs.declared.parts.PlainState.{PlainState}
use Rattle.dp_model.specs.declared.whole.Model.{Model}
use Rattle.dp_claims.specs.Honest.{IsNotBetter}
use Rattle.poly_terms.specs.declared.table.Atom.{Atom}
use Rattle.poly_terms.specs.declared.terms.Term.{Term}
use Rattle.poly_terms.specs.Worth.{worth}
use Rattle.poly_terms.specs.Fits.{Fits}
use Rattle.poly_eval.specs.Shows.{Extends, IsValue, Shows}
use Rattle.wide_values.specs.Wide.{wide_num, wide_operation}
use Rattle.wide_steps.specs.Steps.{all_hold}
use Rattle.wide_steps.specs.Laws.{LawWideSteps}
use Rattle.honest_states.specs.Modes.{in_mode, in_some}
use Rattle.honest_states.specs.Symbols.{IsClosed}
use Rattle.honest_states.specs.declared.mode.Mode.{Mode}
use Rattle.honest_states.specs.declared.mode.Narrowed.TheVariants.{Never, To}
use Rattle.honest_steps.specs.Moves.{IsMove, IsWeighed, StepsFrom}
use Rattle.honest_steps.specs.Views.{Leaves, LeavesInner}
use Rattle.honest_steps.specs.declared.moving.Move.{Move}
use Rattle.honest_steps.specs.declared.views.View.TheVariants.{After}
use Rattle.honest_steps.proofs.Tables.{begins_on, extends_on, fits_before, shown}
use Rattle.honest_bounds.specs.Steps.{Bears, EndsBy, IsKept, StaysIn, room_of}

-- what is said of an answer that is there
pub some_is : {A : Type 0} (o : Option A) (x : A) (P : A → Type 0) → o ≡ Some x → IfSome o P → P x
some_is o x P e h = subst (λ y. IfSome y P) e h

-- a cost less a bound is at least 0, or a bound less a cost where the greater is better
pub not_better_from : (minimize : Bool) (a b : ℤ) → pos 0 ≤ℤ room_of minimize a b → IsBetter minimize a b → ⊥
not_better_from true a b h better = absurd (omega (arith, ints))
not_better_from false a b h better = absurd (omega (arith, ints))

-- a weight, if there is one, joined onto a cost
pub joined_some : (op : JoinOp) (num : NumOp) → ((a b : ℤ) → wide_operation num a b ≡ operation op a b) → (v : ℕ → ℤ) (sum : List Term) (w : Option ℤ) (cost total : ℤ) → IsWeighed v (Some sum) w → total ≡ wide_operation num (worth v sum) cost → total ≡ join_onto op w cost
joined_some op num same v sum None cost total h e = absurd h
joined_some op num same v sum (Some z) cost total h e = e ∙ same (worth v sum) cost ∙ ap (λ (y : ℤ). operation op y cost) (sym h)

pub joined_none : (op : JoinOp) (v : ℕ → ℤ) (w : Option ℤ) (cost total : ℤ) → IsWeighed v None w → total ≡ cost → total ≡ join_onto op w cost
joined_none op v None cost total h e = e
joined_none op v (Some z) cost total h e = absurd h

pub bears_by : LawWideSteps → (m : Model) (mode : Mode) (g : ℕ) (e other : Num) (x : Move) (t1 t2 t3 : List Atom) (bound cost total : List Term) → IsMove m mode g x
    → Extends x.table.items t1 → IsValue m t1 x.before.items [] e bound
    → Extends t1 t2 → IsValue m t2 x.after.items [] other cost
    → Extends t2 t3 → ((v : ℕ → ℤ) (w : Option ℤ) → Fits t3 v → IsWeighed v x.weight w → worth v total ≡ join_onto m.join w (worth v cost))
    → IsClosed t3 x.free x.before.items → ((v : ℕ → ℤ) → Fits t3 v → IsNotBetter m (worth v total) (worth v bound)) → Bears m mode g e other
bears_by law m mode g e other x t1 t2 t3 bound cost total move grows1 is_bound grows2 is_cost grows3 is_total closed better = λ s weight next from.
    let all = extends_on x.table.items t1 t3 grows1 (extends_on t1 t2 t3 grows2 grows3) in
    let can = shown mode t3 x.free x.before.items s (begins_on mode x.table.items t3 x.free x.before.items all move.begins) closed from.inside in
    let fits2 = fits_before t2 t3 can.0 grows3 can.1 in
    let fits1 = fits_before t1 t2 can.0 grows2 fits2 in
    let fits0 = fits_before x.table.items t1 can.0 grows1 fits1 in
    let after = move.leads s weight next can.0 from.state from.step fits0 can.2 in
    let weighed = move.weighs s weight next can.0 from.state from.step fits0 can.2 in
    let there = law.state m s g weight next from.step from.state in
    let before_is : wide_num m s e [] ≡ worth can.0 bound = is_bound s can.0 from.state fits1 can.2 in
    let after_is : wide_num m next other [] ≡ worth can.0 cost = is_cost next can.0 there fits2 after in
    let total_is : worth can.0 total ≡ join_onto m.join weight (wide_num m next other []) = is_total can.0 weight can.1 weighed ∙ ap (λ (z : ℤ). join_onto m.join weight z) (sym after_is) in
    subst (λ (z : ℤ). IsNotBetter m (join_onto m.join weight (wide_num m next other [])) z) (sym before_is)
    (subst (λ (z : ℤ). IsNotBetter m z (worth can.0 bound)) total_is (better can.0 can.1))

-- ---- what is left of a mode

pub no_true : {P : Type 0} → ◌≡◌ {A = Bool} false true → P
no_true h = absurd (cc)

pub inside_too : (m : Model) (mode inside : Mode) (g : ℕ) (s : PlainState) (weight : Option ℤ) (next : PlainState) → StepsFrom m mode g s weight next → in_mode inside s ≡ true → StepsFrom m inside g s weight next
inside_too m mode inside g s weight next from here = record { state = from.state; inside = here; step = from.step }

module _ (m : Model) (mode : Mode) (g : ℕ) (e : Num) where
  pub ends_never : (b : BaseCase) → Leaves m (After g) mode (λ x. all_hold m x [] b.conditions) true Never → EndsBy m mode g e b
  ends_never b leaves = λ s weight next from allowed holds. no_true (leaves s next (from.state, weight, from.step) from.inside holds)

  pub ends_to : (b : BaseCase) (inside : Mode) → Leaves m (After g) mode (λ x. all_hold m x [] b.conditions) true (To inside) → Bears m inside g e b.cost → EndsBy m mode g e b
  ends_to b inside leaves bears = λ s weight next from allowed holds.
      bears s weight next (inside_too m mode inside g s weight next from (leaves s next (from.state, weight, from.step) from.inside holds))

  pub allowed_never : Leaves m (After g) mode (λ x. all_hold m x [] m.constraints) true Never → (i : ℕ) (b : BaseCase) → slice_get m.base_cases i ≡ Some b → EndsBy m mode g e b
  allowed_never leaves i b at = λ s weight next from allowed holds. no_true (leaves s next (from.state, weight, from.step) from.inside allowed)

  pub allowed_to : (inside : Mode) → Leaves m (After g) mode (λ x. all_hold m x [] m.constraints) true (To inside) → ((i : ℕ) (b : BaseCase) → slice_get m.base_cases i ≡ Some b → EndsBy m inside g e b) → (i : ℕ) (b : BaseCase) → slice_get m.base_cases i ≡ Some b → EndsBy m mode g e b
  allowed_to inside leaves ends i b at = λ s weight next from allowed holds.
      ends i b at s weight next (inside_too m mode inside g s weight next from (leaves s next (from.state, weight, from.step) from.inside allowed)) allowed holds

  pub kept_never : ((i : ℕ) (b : BaseCase) → slice_get m.base_cases i ≡ Some b → EndsBy m mode g e b) → LeavesInner m (After g) mode Never → IsKept m mode g e
  kept_never ends leaves = record { ends = ends; goes = λ s weight next from inner. no_true (leaves s next (from.state, weight, from.step) from.inside inner) }

  pub kept_to : (inside : Mode) → ((i : ℕ) (b : BaseCase) → slice_get m.base_cases i ≡ Some b → EndsBy m mode g e b) → LeavesInner m (After g) mode (To inside) → Bears m inside g e e → IsKept m mode g e
  kept_to inside ends leaves bears = record {
    ends = ends;
    goes = λ s weight next from inner. bears s weight next (inside_too m mode inside g s weight next from (leaves s next (from.state, weight, from.step) from.inside inner));
  }

module _ (m : Model) (modes : List Mode) (mode : Mode) (g : ℕ) where
  pub stays_never : LeavesInner m (After g) mode Never → StaysIn m modes mode g
  stays_never leaves = λ s weight next from inner. no_true (leaves s next (from.state, weight, from.step) from.inside inner)

  pub stays_to : (inside : Mode) → LeavesInner m (After g) mode (To inside) → ((s : PlainState) (weight : Option ℤ) (next : PlainState) → StepsFrom m inside g s weight next → in_some modes next ≡ true) → StaysIn m modes mode g
  stays_to inside leaves leads = λ s weight next from inner.
      leads s weight next (inside_too m mode inside g s weight next from (leaves s next (from.state, weight, from.step) from.inside inner))

  pub leads_by : (x : Move) → IsMove m mode g x → IsClosed x.table.items x.free x.before.items → ((v : ℕ → ℤ) (s : PlainState) → Fits x.table.items v → Shows v x.after.items s → in_some modes s ≡ true)
      → (s : PlainState) (weight : Option ℤ) (next : PlainState) → StepsFrom m mode g s weight next → in_some modes next ≡ true
  leads_by x move closed within = λ s weight next from.
      let can = shown mode x.table.items x.free x.before.items s move.begins closed from.inside in
      within can.0 next can.1 (move.leads s weight next can.0 from.state from.step can.1 can.2)
