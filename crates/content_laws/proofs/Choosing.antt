-- Conditions for all choices of a variable, and parameters over set variables.
use Rattle.std.proofs.Common.{◌≡◌, ℕ, zero, suc, Bool, true, false, ◌&&◌, if◌then◌else◌, List, [], ◌∷◌, ◌++◌, refl, sym, ◌∙◌, subst, Some, Result, Ok, Err}
use Rattle.std.specs.Prelude.{slice_get}
use Rattle.std.specs.List.{Contains}
use Rattle.dp_base.specs.Results.{◌>>=◌}
use Rattle.dp_model.specs.Evaluation.{each_holds, has, count_of, set_in, range_of, cond_value}
use Rattle.dp_model.specs.declared.answers.FaultKind.{FaultKind}
use Rattle.dp_model.specs.declared.trees.Over.{Over}
use Rattle.dp_model.specs.declared.trees.Over.TheVariants.{Object, Members}
use Rattle.dp_model.specs.declared.parts.Transition.{Transition}
use Rattle.dp_model.specs.declared.parts.PlainState.{PlainState}
use Rattle.dp_model.specs.declared.whole.Model.{Model}
use Rattle.dp_steps.specs.States.{are_members, all_true, is_enabled}
use Rattle.content_laws.specs.Choices.{IsChoice, LawForall, LawMember, LawNoMember}
use Rattle.content_laws.proofs.Forms.{value_of_all}
use Rattle.content_laws.proofs.Members.{contains_at, at_contains, range_has, in_range, contains_has}

-- ---- conditions for all choices

both_hold : (r rest : Result Bool FaultKind) → (r >>= λ held. if held then rest else Ok false) ≡ Ok true → (r ≡ Ok true) × (rest ≡ Ok true)
both_hold (Ok true) rest e = (refl, e)
both_hold (Ok false) rest e = absurd (cc e)
both_hold (Err f) rest e = absurd (cc e)

module _ (f : ℕ → Result Bool FaultKind) where
  holds_at : (xs : List ℕ) (i k : ℕ) → each_holds f xs ≡ Ok true → slice_get xs i ≡ Some k → f k ≡ Ok true
  holds_at [] i k e at = absurd (cc at)
  holds_at (x ∷ xs) zero k e at =
      let same : x ≡ k = cc in
      rw (← same) ((both_hold (f x) (each_holds f xs) e).0)
  holds_at (x ∷ xs) (suc i) k e at = holds_at xs i k (both_hold (f x) (each_holds f xs) e).1 at

  all_hold : (xs : List ℕ) → ((i k : ℕ) → slice_get xs i ≡ Some k → f k ≡ Ok true) → each_holds f xs ≡ Ok true
  all_hold [] h = refl
  all_hold (x ∷ xs) h =
      let first : f x ≡ Ok true = h 0 x refl in
      rw first (all_hold xs (λ i k at. h (suc i) k at))

-- what a variable ranges over has its choices
has_choices : (m : Model) (s : PlainState) (over : Over) (k : ℕ) → IsChoice m s over k → Contains (range_of m s over) k
has_choices m s (Object object) k h = range_has (count_of m object) k h
has_choices m s (Members v) k h = h

are_choices : (m : Model) (s : PlainState) (over : Over) (k : ℕ) → Contains (range_of m s over) k → IsChoice m s over k
are_choices m s (Object object) k h = in_range (count_of m object) k h
are_choices m s (Members v) k h = h

pub forall_law : LawForall
forall_law m s over c args = (λ e. to (sym (value_of_all m s over c args) ∙ e), λ h. value_of_all m s over c args ∙ from h)
  where
    f : ℕ → Result Bool FaultKind
    f k = cond_value m s c (args ++ k ∷ [])

    to : each_holds f (range_of m s over) ≡ Ok true → (k : ℕ) → IsChoice m s over k → f k ≡ Ok true
    to e k choice = (let at = at_contains (range_of m s over) k (has_choices m s over k choice) in holds_at f (range_of m s over) at.0 k e at.1)

    from : ((k : ℕ) → IsChoice m s over k → f k ≡ Ok true) → each_holds f (range_of m s over) ≡ Ok true
    from h = all_hold f (range_of m s over) (λ i k at. h k (are_choices m s over k (contains_at (range_of m s over) i k at)))

-- ---- parameters over set variables

and_both : (a b : Bool) → a && b ≡ true → (a ≡ true) × (b ≡ true)
and_both true b e = (refl, e)
and_both false b e = absurd (cc e)

member_at : (s : PlainState) (overs : List Over) (given : List ℕ) (i v k : ℕ) → are_members s overs given ≡ true → slice_get overs i ≡ Some (Members v) → slice_get given i ≡ Some k
    → has (set_in s v) k ≡ true
member_at s [] given i v k e over at = absurd (cc over)
member_at s (o ∷ overs) [] i v k e over at = absurd (cc at)
member_at s (Object object ∷ overs) (x ∷ given) zero v k e over at = absurd (cc over)
member_at s (Object object ∷ overs) (x ∷ given) (suc i) v k e over at = member_at s overs given i v k e over at
member_at s (Members w ∷ overs) (x ∷ given) zero v k e over at =
    let variable : w ≡ v = cc in
    let value : x ≡ k = cc in
    rw (← variable, ← value) ((and_both (has (set_in s w) x) (are_members s overs given) e).0)
member_at s (Members w ∷ overs) (x ∷ given) (suc i) v k e over at = member_at s overs given i v k (and_both (has (set_in s w) x) (are_members s overs given) e).1 over at

are_then : (b : Bool) (r : Result Bool FaultKind) → (if b then r else Ok false) ≡ Ok true → b ≡ true
are_then true r e = refl
are_then false r e = absurd (cc e)

not_then : (b : Bool) (r : Result Bool FaultKind) → (b ≡ true → ⊥) → (if b then r else Ok false) ≡ Ok false
not_then true r no_member = absurd (no_member refl)
not_then false r no_member = refl

pub member_law : LawMember
member_law m s g t v k is enabled given =
    let same : enabled.0 ≡ t = cc in
    let holds : is_enabled m s t ≡ Ok true = subst (λ (u : Transition × List ℕ). is_enabled m s u ≡ Ok true) same enabled.2 in
    contains_has (set_in s v) k
    (member_at s t.0.params t.1 given.0 v k (are_then (are_members s t.0.params t.1) (all_true m s t.1 t.0.preconditions) holds) given.1 given.2)

pub no_member_law : LawNoMember
no_member_law m s t v k given no_member =
    not_then (are_members s t.0.params t.1) (all_true m s t.1 t.0.preconditions)
    (λ e. no_member (contains_has (set_in s v) k (member_at s t.0.params t.1 given.0 v k e given.1 given.2)))
