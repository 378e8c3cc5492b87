-- What is left of a mode, by bits and by one test after another.
use Rattle.std.proofs.Common.{◌≡◌, ℕ, ℤ, pos, ◌-ℤ◌, Bool, true, false, List, [], length, Option, Some, option_and_then, slice_get, IsTrue, refl, sym, ap, ◌∙◌, subst}
use Rattle.std.specs.Prelude.{option_map}
use Rattle.std.proofs.lemmas.Bool.{and_parts}
use Rattle.dp_model.specs.Typing.{is_state}
use Rattle.dp_model.specs.StepTexts.{ground_of}
use Rattle.dp_model.specs.declared.trees.Num.{Num}
use Rattle.dp_model.specs.declared.parts.Effect.{Effect}
use Rattle.dp_model.specs.declared.parts.Ground.{Ground}
use Rattle.dp_model.specs.declared.parts.Transition.{Transition}
use Rattle.dp_model.specs.declared.parts.PlainState.{PlainState}
use Rattle.dp_model.specs.declared.whole.Model.{Model}
use Rattle.dp_steps.specs.States.{are_members}
use Rattle.poly_terms.specs.declared.table.Atom.{Atom}
use Rattle.poly_terms.specs.declared.terms.Term.{Term}
use Rattle.poly_terms.specs.Worth.{worth, as_bit}
use Rattle.poly_terms.specs.Fits.{Fits}
use Rattle.poly_eval.specs.Shows.{Extends, Shows}
use Rattle.poly_eval.specs.declared.symbols.Symbol.{Symbol}
use Rattle.wide_values.specs.Wide.{wide_num}
use Rattle.wide_steps.specs.Steps.{all_hold, may_go, wide_next}
use Rattle.wide_steps.specs.Laws.{LawWideSteps}
use Rattle.honest_states.specs.Modes.{in_mode, in_narrowed}
use Rattle.honest_states.specs.Symbols.{CanShow, IsClosed}
use Rattle.honest_states.specs.declared.mode.Mode.{Mode}
use Rattle.honest_states.specs.declared.mode.Narrowed.{Narrowed}
use Rattle.honest_states.specs.declared.mode.Narrowed.TheVariants.{Never, To}
use Rattle.honest_states.specs.declared.opening.Symbolic.{Symbolic}
use Rattle.honest_steps.specs.Views.{Begins, IsSeen, Leaves, LeavesInner, LeavesOpen}
use Rattle.honest_steps.specs.Moves.{Enters, GoesBefore, IsMove, IsMoveBy, IsWeighed, ShowsChanged, StepsFrom}
use Rattle.honest_steps.specs.declared.moving.Move.{Move}
use Rattle.honest_steps.specs.declared.views.Seen.{Seen}
use Rattle.honest_steps.specs.declared.views.View.{View}
use Rattle.honest_steps.specs.declared.views.View.TheVariants.{Here, After}
use Rattle.honest_steps.proofs.Tables.{begins_on, bit_false, extends_on, fits_before, shown}

-- what a bit that is 1 leaves of a mode
abbrev pub LeftBy : Mode → List Atom → ℕ → List Symbol → List Term → Narrowed → Type 0
LeftBy mode table free own bit left =
    (s : PlainState) → Begins mode table free own → in_mode mode s ≡ true → ((v : ℕ → ℤ) → Fits table v → Shows v own s → worth v bit ≡ pos 1) → in_narrowed left s ≡ true

pub left_closed : (mode : Mode) (table : List Atom) (free : ℕ) (own : List Symbol) (bit : List Term) (left : Narrowed) → IsClosed table free own
    → ((v : ℕ → ℤ) (s : PlainState) → Fits table v → Shows v own s → worth v bit ≡ pos 1 → in_mode mode s ≡ true → in_narrowed left s ≡ true) → LeftBy mode table free own bit left
left_closed mode table free own bit left closed narrowed s begins inside is_one =
    let can = shown mode table free own s begins closed inside in
    narrowed can.0 s can.1 can.2 (is_one can.0 can.1 can.2) inside

-- the same of an equal table, equal symbols and an equal bit
left_same : (mode : Mode) (t table : List Atom) (free : ℕ) (o own : List Symbol) (b bit : List Term) (left : Narrowed) → t ≡ table → o ≡ own → b ≡ bit → LeftBy mode t free o b left → LeftBy mode table free own bit left
left_same mode t table free o own b bit left p q r h =
    subst (λ (z : List Atom). LeftBy mode z free own bit left) p (subst (λ (z : List Symbol). LeftBy mode t free z bit left) q (subst (λ (z : List Term). LeftBy mode t free o z left) r h))

module _ (m : Model) (view : View) (mode : Mode) (test : PlainState → Bool) where
  -- the bit of a test is 1 where the test holds; a call was handed the same table, symbols and bit
  pub left_true : (seen : Seen) (t table : List Atom) (xs own : List Symbol) (b bit : List Term) (left : Narrowed) → IsSeen m view mode seen → Extends seen.table.items table
      → xs ≡ seen.symbols.items → t ≡ table → own ≡ seen.own.items → b ≡ bit
      → ((s : PlainState) (v : ℕ → ℤ) → IsTrue (is_state m.objects m.variables s) → Fits table v → Shows v xs s → as_bit (test s) ≡ worth v bit)
      → LeftBy mode t seen.free own b left → Leaves m view mode test true left
  left_true seen t table xs own b bit left is grows same p q r bit_is by s x sees inside h =
      left_same mode t table seen.free own seen.own.items b bit left p q r by s (begins_on mode seen.table.items table seen.free seen.own.items grows is.begins) inside (λ v fits shows.
      sym (bit_is x v (is.state s x sees) fits (subst (λ (ys : List Symbol). Shows v ys x) (sym same) (is.shows s x v sees (fits_before seen.table.items table v grows fits) shows))) ∙ ap as_bit h)

  -- the other bit is 1 where it does not
  pub left_false : (seen : Seen) (t table : List Atom) (xs own : List Symbol) (b a bit other : List Term) (left : Narrowed) → IsSeen m view mode seen → Extends seen.table.items table
      → xs ≡ seen.symbols.items → t ≡ table → own ≡ seen.own.items → b ≡ other → a ≡ bit
      → ((s : PlainState) (v : ℕ → ℤ) → IsTrue (is_state m.objects m.variables s) → Fits table v → Shows v xs s → as_bit (test s) ≡ worth v bit)
      → ((v : ℕ → ℤ) → worth v other ≡ pos 1 -ℤ worth v a)
      → LeftBy mode t seen.free own b left → Leaves m view mode test false left
  left_false seen t table xs own b a bit other left is grows same p q r e bit_is other_is by s x sees inside h =
      left_same mode t table seen.free own seen.own.items b other left p q r by s (begins_on mode seen.table.items table seen.free seen.own.items grows is.begins) inside (λ v fits shows.
      other_is v
      ∙ ap (λ (zs : List Term). pos 1 -ℤ worth v zs) e
      ∙ ap (λ (z : ℤ). pos 1 -ℤ z) (sym (bit_is x v (is.state s x sees) fits (subst (λ (ys : List Symbol). Shows v ys x) (sym same) (is.shows s x v sees (fits_before seen.table.items table v grows fits) shows))))
      ∙ bit_false (test x) h)

-- ---- inner states

module _ (law : LawWideSteps) (m : Model) (view : View) (mode : Mode) where
  pub inner_never : Leaves m view mode (λ x. all_hold m x [] m.constraints) true Never → LeavesInner m view mode Never
  inner_never leaves s x sees inside inner = leaves s x sees inside (law.inner_allowed m x inner)

  pub inner_to : (allowed : Mode) (left : Narrowed) → Leaves m view mode (λ x. all_hold m x [] m.constraints) true (To allowed) → LeavesOpen m view allowed m.base_cases left → LeavesInner m view mode left
  inner_to allowed left leaves opens s x sees inside inner =
      opens s x sees (leaves s x sees inside (law.inner_allowed m x inner)) (λ i b at. law.inner_open m x i b inner at)

-- ---- ground transitions

-- a number names a transition with these values of its parameters, as lists that a call was handed say
pub ground_at : (m : Model) (g : ℕ) (grounds : List Ground) (transitions : List Transition) (x : Ground) (k : ℕ) (t : Transition) (args : List ℕ)
    → grounds ≡ m.dp_ground → transitions ≡ m.transitions → k ≡ x.transition → args ≡ x.args → slice_get grounds g ≡ Some x → slice_get transitions k ≡ Some t → ground_of m g ≡ Some (t, args)
ground_at m g grounds transitions x k t args p q e r here there =
    ap (option_and_then (λ (y : Ground). option_map (λ (u : Transition). (u, y.args)) (slice_get m.transitions y.transition))) (subst (λ (gs : List Ground). slice_get gs g ≡ Some x) p here)
    ∙ ap (option_map (λ (u : Transition). (u, x.args))) (subst (λ (ts : List Transition). slice_get ts x.transition ≡ Some t) q (subst (λ (i : ℕ). slice_get transitions i ≡ Some t) e there))
    ∙ ap (λ (ys : List ℕ). Some (t, ys)) (sym r)

module _ (m : Model) (mode : Mode) (t : Transition × List ℕ) where
  pub go_never : Leaves m Here mode (λ x. are_members x t.0.params t.1) true Never → Leaves m Here mode (λ x. may_go m x t) true Never
  go_never leaves s x sees inside go = leaves s x sees inside (and_parts (are_members x t.0.params t.1) (all_hold m x t.1 t.0.preconditions) go).0

  pub go_to : (left : Mode) (all : Narrowed) → Leaves m Here mode (λ x. are_members x t.0.params t.1) true (To left) → Leaves m Here left (λ x. all_hold m x t.1 t.0.preconditions) true all → Leaves m Here mode (λ x. may_go m x t) true all
  go_to left all leaves holds s x sees inside go =
      let parts = and_parts (are_members x t.0.params t.1) (all_hold m x t.1 t.0.preconditions) go in
      holds s x sees (leaves s x sees inside parts.0) parts.1

module _ (law : LawWideSteps) (m : Model) (mode : Mode) (g : ℕ) where
  pub enters_by : (t : Transition × List ℕ) (left : Narrowed) → ground_of m g ≡ Some t → Leaves m Here mode (λ x. may_go m x t) true left → Enters m mode g left
  enters_by t left at leaves s weight next from = leaves s s (from.state, refl) from.inside (law.goes m s g weight next t from.step at)

  pub enters_both : (t : Transition × List ℕ) (inside : Mode) (left : Narrowed) → ground_of m g ≡ Some t → Leaves m Here mode (λ x. may_go m x t) true (To inside) → Enters m inside g left → Enters m mode g left
  enters_both t inside left at leaves enters s weight next from =
      enters s weight next (record { state = from.state; inside = leaves s s (from.state, refl) from.inside (law.goes m s g weight next t from.step at); step = from.step })

  pub enters_without : (f : ℕ) (t : Transition × List ℕ) (left : Narrowed) → ground_of m f ≡ Some t → t.0.forced ≡ true → GoesBefore m f g → Leaves m Here mode (λ x. may_go m x t) false left → Enters m mode g left
  enters_without f t left at forced before leaves s weight next from = leaves s s (from.state, refl) from.inside (law.considered m s g weight next f t from.step at forced before)

  pub enters_more : (left narrower : Mode) → ((s : PlainState) (weight : Option ℤ) (next : PlainState) → StepsFrom m mode g s weight next → in_mode left s ≡ true) → Enters m left g (To narrower) → (s : PlainState) (weight : Option ℤ) (next : PlainState) → StepsFrom m mode g s weight next → in_mode narrower s ≡ true
  enters_more left narrower before enters s weight next from = enters s weight next (record { state = from.state; inside = before s weight next from; step = from.step })

  pub enters_never : (left : Mode) → ((s : PlainState) (weight : Option ℤ) (next : PlainState) → StepsFrom m mode g s weight next → in_mode left s ≡ true) → Enters m left g Never → Enters m mode g Never
  enters_never left before enters s weight next from = enters s weight next (record { state = from.state; inside = before s weight next from; step = from.step })

-- ---- a step as symbols

-- symbols that show a state show each state of the same values
shows_values : (v : ℕ → ℤ) (symbols : List Symbol) (s t : PlainState) → s.values ≡ t.values → Shows v symbols s → Shows v symbols t
shows_values v symbols s t e h = subst (λ (x : PlainState). Shows v symbols x) (ap (λ xs. record { values = xs }) e) h

-- what a transition's effects and its weight are computed to, over the symbols of a mode
pub move_by : (m : Model) (symbolic : Symbolic) (t : Transition) (args : List ℕ) (middle : List Atom) (before again : List Symbol) (effects : List Effect) (weight : Option Num) (x : Move)
    → x.free ≡ length symbolic.table.items → x.before.items ≡ symbolic.symbols.items → before ≡ symbolic.symbols.items → again ≡ symbolic.symbols.items → effects ≡ t.effects → weight ≡ t.weight
    → Extends symbolic.table.items middle → Extends middle x.table.items
    → ((s : PlainState) (v : ℕ → ℤ) → IsTrue (is_state m.objects m.variables s) → Fits middle v → Shows v before s → ShowsChanged m s args effects v x.after.items)
    → ((s : PlainState) (v : ℕ → ℤ) → IsTrue (is_state m.objects m.variables s) → Fits x.table.items v → Shows v again s → IsWeighed v x.weight (option_map (λ (e : Num). wide_num m s e args) weight))
    → IsMoveBy m symbolic t args x
move_by m symbolic t args middle before again effects weight x free own p q e w grows more after weighs = record {
  free = free;
  before = own;
  grows = extends_on symbolic.table.items middle x.table.items grows more;
  leads = λ s v state fits shows.
      subst (λ (es : List Effect). ShowsChanged m s args es v x.after.items) e
      (after s v state (fits_before middle x.table.items v more fits) (subst (λ (ys : List Symbol). Shows v ys s) (own ∙ sym p) shows));
  weighs = λ s v state fits shows.
      subst (λ (o : Option Num). IsWeighed v x.weight (option_map (λ (e : Num). wide_num m s e args) o)) w
      (weighs s v state fits (subst (λ (ys : List Symbol). Shows v ys s) (own ∙ sym q) shows));
}

pub moved_is : LawWideSteps → (m : Model) (mode : Mode) (g : ℕ) (t : Transition × List ℕ) (symbolic : Symbolic) (x : Move) → ground_of m g ≡ Some t
    → ((s : PlainState) → in_mode mode s ≡ true → CanShow symbolic.table.items symbolic.symbols.items s) → IsMoveBy m symbolic t.0 t.1 x → IsMove m mode g x
moved_is law m mode g t symbolic x at can by = record {
  begins = record {
    front = symbolic.table.items;
    long = sym by.free;
    extends = by.grows;
    shows = λ s inside. subst (λ (symbols : List Symbol). CanShow symbolic.table.items symbols s) (sym by.before) (can s inside);
  };
  leads = λ s weight next v state step fits shows.
      shows_values v x.after.items (record { values = wide_next m s t }) next (sym (law.leads m s g weight next t step at)) (by.leads s v state fits shows);
  weighs = λ s weight next v state step fits shows.
      subst (λ (w : Option ℤ). IsWeighed v x.weight w) (sym (law.weighs m s g weight next t step at)) (by.weighs s v state fits shows);
}

-- ---- states that are looked at

pub seen_after_is : LawWideSteps → (m : Model) (mode : Mode) (g : ℕ) (x : Move) → IsMove m mode g x → IsSeen m (After g) mode (record { table = x.table; free = x.free; own = x.before; symbols = x.after })
seen_after_is law m mode g x move = record {
  begins = move.begins;
  shows = λ s n v sees fits shows. move.leads s sees.1 n v sees.0 sees.2 fits shows;
  state = λ s n sees. law.state m s g sees.1 n sees.2 sees.0;
}
