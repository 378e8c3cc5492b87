-- What is asked of the steps of a mode, where it is shown of what the mode was narrowed to.
use Rattle.std.proofs.Common.{◌≡◌, ℕ, ◌<◌, ◌≤◌, List, slice_get, Some, None, refl, sym, subst, arith}
use Rattle.dp_model.specs.declared.trees.Num.{Num}
use Rattle.dp_model.specs.declared.whole.Model.{Model}
use Rattle.honest_states.specs.declared.mode.Mode.{Mode}
use Rattle.honest_states.specs.declared.mode.Narrowed.{Narrowed}
use Rattle.honest_states.specs.declared.mode.Narrowed.TheVariants.{Never, To}
use Rattle.honest_steps.specs.Moves.{Enters}
use Rattle.honest_steps.specs.Views.{LeavesInner}
use Rattle.honest_steps.specs.declared.views.View.TheVariants.{Here}
use Rattle.honest_bounds.specs.Steps.{IsKept, IsShown, StaysIn}
use Rattle.honest_bounds.specs.declared.asking.Asked.{Asked}
use Rattle.honest_bounds.specs.declared.asking.Asked.TheVariants.{Stays, Bound}
use Rattle.honest_bounds.proofs.Bears.{inside_too, no_true}

module _ (m : Model) (modes : List Mode) (mode : Mode) (g : ℕ) where
  -- no step leaves a mode of which nothing is left
  pub shown_never : (asked : Asked) → Enters m mode g Never → IsShown m modes asked mode g
  shown_never Stays enters = λ s weight next from inner. no_true (enters s weight next from)
  shown_never (Bound i) enters = λ e at. record {
    ends = λ j b there s weight next from allowed holds. no_true (enters s weight next from);
    goes = λ s weight next from inner. no_true (enters s weight next from);
  }

  stays_within : (inside : Mode) → Enters m mode g (To inside) → StaysIn m modes inside g → StaysIn m modes mode g
  stays_within inside enters stays = λ s weight next from inner. stays s weight next (inside_too m mode inside g s weight next from (enters s weight next from)) inner

  kept_within : (inside : Mode) (e : Num) → Enters m mode g (To inside) → IsKept m inside g e → IsKept m mode g e
  kept_within inside e enters kept = record {
    ends = λ j b there s weight next from allowed holds. kept.ends j b there s weight next (inside_too m mode inside g s weight next from (enters s weight next from)) allowed holds;
    goes = λ s weight next from inner. kept.goes s weight next (inside_too m mode inside g s weight next from (enters s weight next from)) inner;
  }

  -- each step of a mode is one of what is left of it
  pub shown_to : (asked : Asked) (inside : Mode) → Enters m mode g (To inside) → IsShown m modes asked inside g → IsShown m modes asked mode g
  shown_to Stays inside enters stays = stays_within inside enters stays
  shown_to (Bound i) inside enters kept = λ e at. kept_within inside e enters (kept e at)

  pub shown_stays : (asked : Asked) → asked ≡ Stays → StaysIn m modes mode g → IsShown m modes asked mode g
  shown_stays asked is stays = subst (λ (a : Asked). IsShown m modes a mode g) (sym is) stays

  pub shown_bound : (asked : Asked) (i : ℕ) → asked ≡ Bound i → ((e : Num) → slice_get m.bounds i ≡ Some e → IsKept m mode g e) → IsShown m modes asked mode g
  shown_bound asked i is kept = subst (λ (a : Asked). IsShown m modes a mode g) (sym is) kept

-- there is one bound of a number, or none
module _ (m : Model) (mode : Mode) (g i : ℕ) where
  same_bound : (e other : Num) → slice_get m.bounds i ≡ Some e → slice_get m.bounds i ≡ Some other → e ≡ other
  same_bound e other at too = cc

  pub kept_one : (e : Num) → slice_get m.bounds i ≡ Some e → IsKept m mode g e → (other : Num) → slice_get m.bounds i ≡ Some other → IsKept m mode g other
  kept_one e at kept other too = subst (λ (x : Num). IsKept m mode g x) (same_bound e other at too) kept

  pub kept_none : slice_get m.bounds i ≡ None → (other : Num) → slice_get m.bounds i ≡ Some other → IsKept m mode g other
  kept_none none other too = absurd (cc)

pub less_than : (g n many place : ℕ) → g < n → many ≡ n → many ≤ place → g < place
less_than g n many place lt same le = omega arith

-- the inner states of a mode alone make steps
pub inner_enters : (m : Model) (mode : Mode) (left : Narrowed) → LeavesInner m Here mode left → (g : ℕ) → Enters m mode g left
inner_enters m mode left leaves g s weight next from = leaves s s (from.state, refl) from.inside from.step.inner
