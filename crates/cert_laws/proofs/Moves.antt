-- Steps of a model: where a transition leads is determined, and paths and completions go on.
use Rattle.std.proofs.Common.{◌≡◌, ℕ, Bool, true, false, List, [], ◌∷◌, ◌++◌, Option, Some, Result, Ok, refl, sym, subst, ◌∙◌, ap}
use Rattle.std.specs.Prelude.{ℤ, IfSome}
use Rattle.std.specs.List.{fold}
use Rattle.dp_model.specs.Costs.{InRange, better_of, join}
use Rattle.dp_steps.specs.Lists.{Leads}
use Rattle.dp_steps.specs.States.{Allowed, Base, Enabled, Forbidden, Inner, Step, weight_of, next_state}
use Rattle.dp_model.specs.declared.answers.FaultKind.{FaultKind}
use Rattle.dp_model.specs.declared.parts.PlainState.{PlainState}
use Rattle.dp_model.specs.declared.whole.Model.{Model}

some_same : {A : Type 0} (x y : A) → Some x ≡ Some y → x ≡ y
some_same x y e = cc

ok_same : {A : Type 0} (x y : A) → ◌≡◌ {A = Result A FaultKind} (Ok x) (Ok y) → x ≡ y
ok_same x y e = cc

ok_cons : (xs ys : List ℤ) (x y : ℤ) → ◌≡◌ {A = Result (List ℤ) FaultKind} (Ok (x ∷ xs)) (Ok (y ∷ ys)) → (x ≡ y) × (xs ≡ ys)
ok_cons xs ys x y e = (cc, cc)

ok_none : (xs : List ℤ) (x : ℤ) → ◌≡◌ {A = Result (List ℤ) FaultKind} (Ok []) (Ok (x ∷ xs)) → ⊥
ok_none xs x e = cc

yes_and_not : ◌≡◌ {A = Result Bool FaultKind} (Ok true) (Ok false) → ⊥
yes_and_not e = cc

-- no state is both inner and base
pub inner_not_base : (m : Model) (s : PlainState) (cost : ℤ) → Inner m s → Base m s cost → ⊥
inner_not_base m s cost inner base = ok_none base.best.1 base.best.0 (sym inner.open_cases ∙ base.best.2)

pub forbidden_not_allowed : (m : Model) (s : PlainState) → Forbidden m s → Allowed m s → ⊥
forbidden_not_allowed m s forbidden allowed = yes_and_not (sym allowed ∙ forbidden)

pub base_same : (m : Model) (s : PlainState) (a b : ℤ) → Base m s a → Base m s b → a ≡ b
base_same m s a b x y =
    let e = ok_cons x.best.1 y.best.1 x.best.0 y.best.0 (sym x.best.2 ∙ y.best.2) in
    x.best.3 ∙ (ap (λ (first : ℤ). fold (better_of m.minimize) first x.best.1) e.0 ∙ ap (λ (others : List ℤ). fold (better_of m.minimize) y.best.0 others) e.1) ∙ sym y.best.3

-- a transition has one weight and leads to one state
pub step_same : (m : Model) (s : PlainState) (g : ℕ) (w w' : Option ℤ) (n n' : PlainState) → Step m s g w n → Step m s g w' n' → (w ≡ w') × (n ≡ n')
step_same m s g w w' n n' a b =
    let same : a.move.0 ≡ b.move.0 = some_same a.move.0 b.move.0 (sym a.move.1 ∙ b.move.1) in (
      ok_same w w' (sym a.move.3 ∙ ap (weight_of m s) same ∙ b.move.3),
      ok_same n n' (sym a.move.4 ∙ ap (next_state m s) same ∙ b.move.4),
    )

pub step_enabled : (m : Model) (s : PlainState) (g : ℕ) (w : Option ℤ) (n : PlainState) → Step m s g w n → Enabled m s g
step_enabled m s g w n step = (step.move.0, step.move.1, step.move.2)

-- one more step
pub leads_more : (m : Model) (from : PlainState) (cost : Option ℤ) (steps : List ℕ) (to : PlainState) (total : Option ℤ) → Leads m from cost steps to total → (t : ℕ) (next : PlainState) (weight : Option ℤ) → Step m to t weight next
    → IfSome (join m.join total weight) InRange → Leads m from cost (steps ++ t ∷ []) next (join m.join total weight)
leads_more m from cost [] to total h t next weight step range =
    (next, weight, subst (λ (s : PlainState). Step m s t weight next) (sym h.0) step, subst (λ (c : Option ℤ). IfSome (join m.join c weight) InRange) (sym h.1) range, (refl, ap (λ (c : Option ℤ). join m.join c weight) h.1))
leads_more m from cost (x ∷ steps) to total h t next weight step range = (h.0, h.1, h.2, h.3, leads_more m h.0 (join m.join cost h.1) steps to total h.4 t next weight step range)

-- the last cost so far of a list is in range, as the first is
pub leads_range : (m : Model) (from : PlainState) (cost : Option ℤ) (steps : List ℕ) (to : PlainState) (total : Option ℤ) → IfSome cost InRange → Leads m from cost steps to total → IfSome total InRange
leads_range m from cost [] to total range h = subst (λ (c : Option ℤ). IfSome c InRange) h.1 range
leads_range m from cost (g ∷ steps) to total range h = leads_range m h.0 (join m.join cost h.1) steps to total h.3 h.4
