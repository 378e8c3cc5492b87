-- What follows for all lists of what the target is found to be.
use Rattle.std.proofs.Common.{◌≡◌, ℕ, Bool, true, false, List, [], ◌∷◌, refl, sym, ap, ◌∙◌, subst, None, ℤ, Ok, Err, arith, fold}
use Rattle.std.proofs.lemmas.Int.{ints}
use Rattle.dp_model.specs.Costs.{InRange, IsBetter, better_of}
use Rattle.dp_model.specs.declared.answers.FaultAt.{FaultAt}
use Rattle.dp_model.specs.declared.answers.FaultKind.{FaultKind}
use Rattle.dp_model.specs.declared.answers.Found.{Found}
use Rattle.dp_model.specs.declared.answers.Spot.{Spot}
use Rattle.dp_model.specs.declared.parts.PlainState.{PlainState}
use Rattle.dp_model.specs.declared.whole.Model.{Model}
use Rattle.dp_steps.specs.Faults.{Meets, MeetsIn}
use Rattle.dp_steps.specs.Lists.{Solution}
use Rattle.dp_steps.specs.States.{Base, Forbidden, Inner}
use Rattle.solve_target.specs.Targets.{IsBaseTarget, IsForbiddenTarget, found_to_be}
use Rattle.solve_target.specs.declared.looks.AtTarget.TheVariants as targets
use Rattle.state_layout.specs.declared.node.Node.{Node}
use Rattle.successors.specs.Answers.{Met}
use Rattle.successors.specs.Starts.{start_at}
use Rattle.successors.specs.declared.starts.Start.{Start}
use Rattle.successors.specs.declared.starts.Start.TheVariants as starts
use Rattle.visit_laws.proofs.Starts.{start_base, start_faults, start_forbidden, start_open}

-- ---- states

-- a state has one base cost
pub one_cost : (m : Model) (s : PlainState) (a b : ℤ) → Base m s a → Base m s b → a ≡ b
one_cost m s a b x y =
    let costs = sym x.best.2 ∙ y.best.2 in
    let first : x.best.0 ≡ y.best.0 = cc in
    let others : x.best.1 ≡ y.best.1 = cc in
    x.best.3 ∙ ap (λ (c : ℤ). fold (better_of m.minimize) c x.best.1) first ∙ ap (λ (cs : List ℤ). fold (better_of m.minimize) y.best.0 cs) others ∙ sym y.best.3

-- no state is base and inner
pub base_not_inner : (m : Model) (s : PlainState) (a : ℤ) → Base m s a → Inner m s → ⊥
base_not_inner m s a x y = cc (sym x.best.2 ∙ y.open_cases)

-- nor forbidden and inner
pub forbidden_not_inner : (m : Model) (s : PlainState) → Forbidden m s → Inner m s → ⊥
forbidden_not_inner m s x y = cc (sym x ∙ y.allowed)

-- nor forbidden and base
pub forbidden_not_base : (m : Model) (s : PlainState) (a : ℤ) → Forbidden m s → Base m s a → ⊥
forbidden_not_base m s a x y = cc (sym x ∙ y.allowed)

-- ---- lists of steps

not_better_itself : (minimize : Bool) (a b : ℤ) → a ≡ b → IsBetter minimize a b → ⊥
not_better_itself true a b same less = omega (arith, ints, same, less)
not_better_itself false a b same less = omega (arith, ints, same, less)

-- from a base target no list is better than the one without steps
none_better : (m : Model) (cost : ℤ) (steps : List ℕ) (other : ℤ) → Base m m.target cost → Solution m steps other → IsBetter m.minimize other cost → ⊥
none_better m cost [] other base s better = not_better_itself m.minimize other cost (one_cost m m.target other cost s.completes base) better
none_better m cost (g ∷ steps) other base s better = base_not_inner m m.target cost base s.completes.3.inner

-- and that one is legal
no_steps : (m : Model) (cost : ℤ) → Base m m.target cost → InRange cost → Solution m [] cost
no_steps m cost base within = record { reaches = (m.target, None, cost, (refl, refl), base); completes = base; in_range = within }

-- from a forbidden target no list is legal
none_legal : (m : Model) (steps : List ℕ) (cost : ℤ) → Forbidden m m.target → Solution m steps cost → ⊥
none_legal m [] cost forbidden s = forbidden_not_base m m.target cost forbidden s.completes
none_legal m (g ∷ steps) cost forbidden s = forbidden_not_inner m m.target forbidden s.completes.3.inner

-- ---- what is told of it is what it is found to be

pub inner_first : (m : Model) (prune : Bool) (start : Start) (n : Node) → start_at m prune ≡ Ok start → start ≡ starts.Open n → targets.Inner ≡ found_to_be (start_at m prune)
inner_first m prune start n e is = sym (ap found_to_be (e ∙ ap Ok is))

pub base_first : (m : Model) (prune : Bool) (start : Start) (cost told : ℤ) (found : Found) → start_at m prune ≡ Ok start → start ≡ starts.Base cost → told ≡ cost → found ≡ record { cost = told; steps = [] } → targets.Base found ≡ found_to_be (start_at m prune)
base_first m prune start cost told found e is same known =
    let whole : ℤ → Found = λ (c : ℤ). record { cost = c; steps = [] } in
    ap (λ (f : Found). targets.Base f) (known ∙ ap whole same) ∙ sym (ap found_to_be (e ∙ ap Ok is))

pub forbidden_first : (m : Model) (prune : Bool) (start : Start) → start_at m prune ≡ Ok start → start ≡ starts.NotAllowed → targets.NotAllowed ≡ found_to_be (start_at m prune)
forbidden_first m prune start e is = sym (ap found_to_be (e ∙ ap Ok is))

pub fault_first : (m : Model) (prune : Bool) (met : Met) (spot : Spot) (kind : FaultKind) (fault : FaultAt) → start_at m prune ≡ Err met → fault ≡ record { steps = []; spot = spot; kind = kind } → spot ≡ met.spot → kind ≡ met.kind
    → targets.Fault fault ≡ found_to_be (start_at m prune)
fault_first m prune met spot kind fault e is same_spot same_kind =
    let whole : Spot → FaultKind → FaultAt = λ s k. record { steps = []; spot = s; kind = k } in
    ap (λ (f : FaultAt). targets.Fault f) (is ∙ ap (λ (s : Spot). whole s kind) same_spot ∙ ap (whole met.spot) same_kind) ∙ sym (ap found_to_be e)

-- ---- what the target is found to be

pub inner_start : (m : Model) (prune : Bool) (start : Start) (n : Node) → start_at m prune ≡ Ok start → start ≡ starts.Open n → Inner m m.target
inner_start m prune start n e is = ((start_open m prune n).0 (e ∙ ap Ok is)).0

base_of : (m : Model) (cost : ℤ) → Base m m.target cost → InRange cost → IsBaseTarget m (record { cost = cost; steps = [] })
base_of m cost base within = record { base = base; legal = no_steps m cost base within; none_better = λ steps other s better. none_better m cost steps other base s better }

pub base_start : (m : Model) (prune : Bool) (start : Start) (cost told : ℤ) (found : Found) → start_at m prune ≡ Ok start → start ≡ starts.Base cost → InRange cost → told ≡ cost → found ≡ record { cost = told; steps = [] } → IsBaseTarget m found
base_start m prune start cost told found e is within same known =
    let whole : ℤ → Found = λ (c : ℤ). record { cost = c; steps = [] } in
    subst (IsBaseTarget m) (sym (known ∙ ap whole same)) (base_of m cost ((start_base m prune cost).0 (e ∙ ap Ok is)) within)

pub forbidden_start : (m : Model) (prune : Bool) (start : Start) → start_at m prune ≡ Ok start → start ≡ starts.NotAllowed → IsForbiddenTarget m
forbidden_start m prune start e is =
    let forbidden = (start_forbidden m prune).0 (e ∙ ap Ok is) in
    record { forbidden = forbidden; none_legal = λ steps cost s. none_legal m steps cost forbidden s }

pub fault_start : (m : Model) (prune : Bool) (met : Met) (spot : Spot) (kind : FaultKind) (fault : FaultAt) → start_at m prune ≡ Err met → fault ≡ record { steps = []; spot = spot; kind = kind } → spot ≡ met.spot → kind ≡ met.kind →
    Meets m prune fault.steps fault.spot fault.kind
fault_start m prune met spot kind fault e is same_spot same_kind =
    let whole : Spot → FaultKind → FaultAt = λ s k. record { steps = []; spot = s; kind = k } in
    let meets : MeetsIn m prune None m.target met.spot met.kind = ((start_faults m prune met).0 e).2 in
    let same : fault ≡ whole met.spot met.kind = is ∙ ap (λ (s : Spot). whole s kind) same_spot ∙ ap (whole met.spot) same_kind in
    subst (λ (f : FaultAt). Meets m prune f.steps f.spot f.kind) (sym same) (m.target, None, (refl, refl), meets)
