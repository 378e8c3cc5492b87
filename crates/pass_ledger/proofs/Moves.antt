-- Steps of a model: where a transition leads is determined, and paths and completions go on.
use Rattle.std.proofs.Common.{◌≡◌, ℕ, Bool, true, false, List, [], ◌∷◌, ◌++◌, Option, Some, None, Result, Ok, refl, sym, subst, ◌∙◌, ap}
use Rattle.std.specs.Prelude.{ℤ, IfSome}
use Rattle.std.specs.List.{fold}
use Rattle.dp_model.specs.Costs.{InRange, better_of, join, join_onto}
use Rattle.dp_steps.specs.Lists.{Leads, Path, Completion, Solution}
use Rattle.dp_steps.specs.States.{Allowed, Base, Enabled, Forbidden, Inner, Step, weight_of, next_state}
use Rattle.dp_model.specs.declared.answers.FaultKind.{FaultKind}
use Rattle.dp_model.specs.declared.parts.PlainState.{PlainState}
use Rattle.dp_model.specs.declared.whole.Model.{Model}
use Rattle.pass_ledger.proofs.Costs.{assoc}

some_same : {A : Type 0} (x y : A) → Some x ≡ Some y → x ≡ y
some_same x y e = cc

ok_same : {A : Type 0} (x y : A) → ◌≡◌ {A = Result A FaultKind} (Ok x) (Ok y) → x ≡ y
ok_same x y e = cc

ok_cons : (xs ys : List ℤ) (x y : ℤ) → ◌≡◌ {A = Result (List ℤ) FaultKind} (Ok (x ∷ xs)) (Ok (y ∷ ys)) → (x ≡ y) × (xs ≡ ys)
ok_cons xs ys x y e = (cc, cc)

ok_none : (xs : List ℤ) (x : ℤ) → ◌≡◌ {A = Result (List ℤ) FaultKind} (Ok []) (Ok (x ∷ xs)) → ⊥
ok_none xs x e = cc

yes_and_not : ◌≡◌ {A = Result Bool FaultKind} (Ok true) (Ok false) → ⊥
yes_and_not e = cc

-- no state is both inner and base
pub inner_not_base : (m : Model) (s : PlainState) (cost : ℤ) → Inner m s → Base m s cost → ⊥
inner_not_base m s cost inner base = ok_none base.best.1 base.best.0 (sym inner.open_cases ∙ base.best.2)

pub forbidden_not_allowed : (m : Model) (s : PlainState) → Forbidden m s → Allowed m s → ⊥
forbidden_not_allowed m s forbidden allowed = yes_and_not (sym allowed ∙ forbidden)

pub base_same : (m : Model) (s : PlainState) (a b : ℤ) → Base m s a → Base m s b → a ≡ b
base_same m s a b x y =
    let e = ok_cons x.best.1 y.best.1 x.best.0 y.best.0 (sym x.best.2 ∙ y.best.2) in
    x.best.3 ∙ (ap (λ (first : ℤ). fold (better_of m.minimize) first x.best.1) e.0 ∙ ap (λ (others : List ℤ). fold (better_of m.minimize) y.best.0 others) e.1) ∙ sym y.best.3

-- a transition has one weight and leads to one state
pub step_same : (m : Model) (s : PlainState) (g : ℕ) (w w' : Option ℤ) (n n' : PlainState) → Step m s g w n → Step m s g w' n' → (w ≡ w') × (n ≡ n')
step_same m s g w w' n n' a b =
    let same : a.move.0 ≡ b.move.0 = some_same a.move.0 b.move.0 (sym a.move.1 ∙ b.move.1) in (
      ok_same w w' (sym a.move.3 ∙ ap (weight_of m s) same ∙ b.move.3),
      ok_same n n' (sym a.move.4 ∙ ap (next_state m s) same ∙ b.move.4),
    )

pub step_enabled : (m : Model) (s : PlainState) (g : ℕ) (w : Option ℤ) (n : PlainState) → Step m s g w n → Enabled m s g
step_enabled m s g w n step = (step.move.0, step.move.1, step.move.2)

-- one more step
pub leads_more : (m : Model) (from : PlainState) (cost : Option ℤ) (steps : List ℕ) (to : PlainState) (total : Option ℤ) → Leads m from cost steps to total → (t : ℕ) (next : PlainState) (weight : Option ℤ) → Step m to t weight next
    → IfSome (join m.join total weight) InRange → Leads m from cost (steps ++ t ∷ []) next (join m.join total weight)
leads_more m from cost [] to total h t next weight step range =
    (next, weight, subst (λ (s : PlainState). Step m s t weight next) (sym h.0) step, subst (λ (c : Option ℤ). IfSome (join m.join c weight) InRange) (sym h.1) range, (refl, ap (λ (c : Option ℤ). join m.join c weight) h.1))
leads_more m from cost (x ∷ steps) to total h t next weight step range = (h.0, h.1, h.2, h.3, leads_more m h.0 (join m.join cost h.1) steps to total h.4 t next weight step range)

-- a list and a completion from where it leads
completes : (m : Model) (from : PlainState) (cost : Option ℤ) (steps : List ℕ) (to : PlainState) (total : Option ℤ) → Leads m from cost steps to total → (more : List ℕ) (value : ℤ) → Completion m to more value
    → (v : ℤ) × Completion m from (steps ++ more) v × (join_onto m.join cost v ≡ join_onto m.join total value)
completes m from cost [] to total h more value done = (value, subst (λ (s : PlainState). Completion m s more value) (sym h.0) done, ap (λ (c : Option ℤ). join_onto m.join c value) h.1)
completes m from cost (t ∷ steps) to total h more value done =
    let c = completes m h.0 (join m.join cost h.1) steps to total h.4 more value done in
    (join_onto m.join h.1 c.0, (h.0, h.1, c.0, h.2, c.1, refl), sym (assoc m.join cost h.1 c.0) ∙ c.2)

-- a path and a step to a base state are a legal list
pub found : (m : Model) (steps : List ℕ) (s : PlainState) (cost : Option ℤ) → Path m steps s cost → (t : ℕ) (next : PlainState) (weight : Option ℤ) → Step m s t weight next → IfSome (join m.join cost weight) InRange
    → (base total : ℤ) → Base m next base → total ≡ join_onto m.join (join m.join cost weight) base → InRange total → Solution m (steps ++ t ∷ []) total
found m steps s cost path t next weight step cost_range base total is_base is range =
    let done : Completion m s (t ∷ []) (join_onto m.join weight base) = (next, weight, base, step, is_base, refl) in
    let c = completes m m.target None steps s cost path (t ∷ []) (join_onto m.join weight base) done in
    let same : c.0 ≡ total = c.2 ∙ sym (assoc m.join cost weight base) ∙ sym is in
    record {
      reaches = (next, join m.join cost weight, base, leads_more m m.target None steps s cost path t next weight step cost_range, is_base);
      completes = subst (Completion m m.target (steps ++ t ∷ [])) same c.1;
      in_range = range;
    }
