-- A bound below a worth that no step undercuts is honest, and preferences that are a simulation are: by the length of the completion.
use Rattle.std.proofs.Common.{◌≡◌, ℕ, ◌≤◌, inl, inr, suc, List, [], ◌∷◌, length, Option, Some, None, Result, Ok, refl, sym, subst, ◌∙◌, arith}
use Rattle.std.specs.Prelude.{ℤ, Bool, true, false}
use Rattle.std.proofs.lemmas.Int.{ints, clamps, by_lt_z}
use Rattle.dp_model.specs.Costs.{IsBetter, join_onto}
use Rattle.dp_model.specs.declared.answers.FaultKind.{FaultKind}
use Rattle.dp_model.specs.declared.parts.JoinOp.{JoinOp}
use Rattle.dp_model.specs.declared.parts.JoinOp.TheVariants.{Plus, Most, Least}
use Rattle.dp_model.specs.declared.parts.PlainState.{PlainState}
use Rattle.dp_model.specs.declared.whole.Model.{Model}
use Rattle.dp_steps.specs.Lists.{Leads, Completion}
use Rattle.dp_steps.specs.States.{Base, Inner}
use Rattle.dp_claims.specs.Honest.{IsNotBetter}
use Rattle.dp_model.specs.declared.parts.Variable.{Variable}
use Rattle.kept_model.specs.Honesty.{PreferencesHold}
use Rattle.kept_model.specs.Parts.{variables_with}
use Rattle.part_laws.specs.OneStep.{Invariant, IsWorth, Simulates}
use Rattle.part_laws.specs.Laws.{IsAsGood, IsHeld, LawBound, LawPreferences, LawProved}

-- ---- costs

not_better_trans : (minimize : Bool) (a b c : ℤ) → (IsBetter minimize a b → ⊥) → (IsBetter minimize b c → ⊥) → IsBetter minimize a c → ⊥
not_better_trans true a b c h k better = by_lt_z a b (λ lt. h lt) (λ le. by_lt_z b c (λ lt. k lt) (λ le'. absurd (omega (arith, ints, better, le, le'))))
not_better_trans false a b c h k better = by_lt_z b a (λ lt. h lt) (λ le. by_lt_z c b (λ lt. k lt) (λ le'. absurd (omega (arith, ints, better, le, le'))))

join_keeps : (minimize : Bool) (op : JoinOp) (w : Option ℤ) (a b : ℤ) → (IsBetter minimize a b → ⊥) → IsBetter minimize (join_onto op w a) (join_onto op w b) → ⊥
join_keeps minimize op None a b h better = h better
join_keeps true Plus (Some w) a b h better = absurd (omega (arith, ints))
join_keeps false Plus (Some w) a b h better = absurd (omega (arith, ints))
join_keeps true Most (Some w) a b h better = absurd (omega (arith, ints, clamps))
join_keeps false Most (Some w) a b h better = absurd (omega (arith, ints, clamps))
join_keeps true Least (Some w) a b h better = absurd (omega (arith, ints, clamps))
join_keeps false Least (Some w) a b h better = absurd (omega (arith, ints, clamps))

-- ---- states

ok_none : (xs : List ℤ) (x : ℤ) → ◌≡◌ {A = Result (List ℤ) FaultKind} (Ok []) (Ok (x ∷ xs)) → ⊥
ok_none xs x e = cc

inner_not_base : (m : Model) (s : PlainState) (cost : ℤ) → Inner m s → Base m s cost → ⊥
inner_not_base m s cost inner base = ok_none base.best.1 base.best.0 (sym inner.open_cases ∙ base.best.2)

-- the invariant holds of the inner states where paths lead
led : (m : Model) (Holds : PlainState → Type 0) → Invariant m Holds → (from : PlainState) (cost : Option ℤ) (steps : List ℕ) (to : PlainState) (total : Option ℤ) → Inner m to → Holds from → Leads m from cost steps to total → Holds to
led m Holds inv from cost [] to total inner h leads = subst Holds leads.0 h
led m Holds inv from cost (g ∷ []) to total inner h leads = subst Holds leads.4.0 (inv.kept from g leads.1 leads.0 h leads.2 (subst (Inner m) (sym leads.4.0) inner))
led m Holds inv from cost (g ∷ k ∷ steps) to total inner h leads = led m Holds inv leads.0 _ (k ∷ steps) to total inner (inv.kept from g leads.1 leads.0 h leads.2 leads.4.2.inner) leads.4

-- ---- bounds

-- no completion is better than what the state is worth
worth_holds : (m : Model) (Holds : PlainState → Type 0) (worth : PlainState → ℤ) → Invariant m Holds → IsWorth m Holds worth → (s : PlainState) → Holds s → Inner m s → (steps : List ℕ) (value : ℤ) → Completion m s steps value
    → IsNotBetter m value (worth s)
worth_holds m Holds worth inv con s h inner [] value done = absurd (inner_not_base m s value inner done)
worth_holds m Holds worth inv con s h inner (g ∷ []) value done =
    subst (λ (v : ℤ). IsNotBetter m v (worth s)) (sym done.5) (con.ends s g done.1 done.0 done.2 h done.3 done.4)
worth_holds m Holds worth inv con s h inner (g ∷ k ∷ steps) value done =
    let inner' : Inner m done.0 = done.4.3.inner in
    let rest = worth_holds m Holds worth inv con done.0 (inv.kept s g done.1 done.0 h done.3 inner') inner' (k ∷ steps) done.2 done.4 in
    let joined = join_keeps m.minimize m.join done.1 done.2 (worth done.0) rest in
    let all = not_better_trans m.minimize (join_onto m.join done.1 done.2) (join_onto m.join done.1 (worth done.0)) (worth s) joined (con.goes s g done.1 done.0 h done.3 inner') in
    subst (λ (v : ℤ). IsNotBetter m v (worth s)) (sym done.5) all

-- ---- preferences

no_longer : (n : ℕ) → n ≤ n
no_longer n = omega arith

more : (a b : ℕ) → a ≤ b → suc a ≤ suc b
more a b h = omega arith

shorter : (a b : ℕ) → a ≤ b → a ≤ suc b
shorter a b h = omega arith

abbrev AsShort : Model → PlainState → List ℕ → ℤ → Type 0
AsShort m s steps' value' = (w : List ℕ) × (value : ℤ) × Completion m s w value × IsNotBetter m value' value × (length w ≤ length steps')

simulated : (m : Model) (variables : List Variable) (Holds : PlainState → Type 0) (AsGood : PlainState → PlainState → Type 0) → Invariant m Holds → Simulates m variables Holds AsGood → (s s' : PlainState) → Holds s → Holds s' → Inner m s → Inner m s' → AsGood s s'
    → (steps' : List ℕ) (value' : ℤ) → Completion m s' steps' value' → AsShort m s steps' value'
simulated m variables Holds AsGood inv sim s s' h h' inner inner' good [] value' done = absurd (inner_not_base m s' value' inner' done)
simulated m variables Holds AsGood inv sim s s' h h' inner inner' good (g' ∷ []) value' done =
    let a = sim.ends s s' h h' inner good g' done.1 done.0 done.2 done.3 done.4 in
    let better = subst (λ (v : ℤ). IsNotBetter m v (join_onto m.join a.1 a.3)) (sym done.5) a.6 in
    (a.0 ∷ [], join_onto m.join a.1 a.3, (a.2, a.1, a.3, a.4, a.5, refl), better, no_longer 1)
simulated m variables Holds AsGood inv sim s s' h h' inner inner' good (g' ∷ k ∷ steps') value' done =
    let next_inner : Inner m done.0 = done.4.3.inner in
    let next_holds = inv.kept s' g' done.1 done.0 h' done.3 next_inner in
    elim (sim.goes s s' h h' inner good g' done.1 done.0 done.3 next_inner) [
      | inl a ↦
          let r = simulated m variables Holds AsGood inv sim a.2 done.0 (inv.kept s a.0 a.1 a.2 h a.3 a.4) next_holds a.4 next_inner a.5 (k ∷ steps') done.2 done.4 in
          let better = subst (λ (v : ℤ). IsNotBetter m v (join_onto m.join a.1 r.1)) (sym done.5) (a.6 r.1 done.2 r.3) in
          (a.0 ∷ r.0, join_onto m.join a.1 r.1, (a.2, a.1, r.1, a.3, r.2, refl), better, more (length r.0) (length (k ∷ steps')) r.4)
      | inr a ↦
          let r = simulated m variables Holds AsGood inv sim s done.0 h next_holds inner next_inner a.0 (k ∷ steps') done.2 done.4 in
          let better = subst (λ (v : ℤ). IsNotBetter m v r.1) (sym done.5) (a.1 r.1 done.2 r.3) in
          (r.0, r.1, r.2, better, shorter (length r.0) (length (k ∷ steps')) r.4)
    ]

-- ---- the laws

pub bound_law : LawBound
bound_law m e is u s prefix bound at w value done =
    let inv = is.invariant in
    let h = led m (IsHeld is.holds) inv m.target None u s prefix.0.0 prefix.1 inv.first prefix.0.1 in
    not_better_trans m.minimize value (is.worth s) bound (worth_holds m (IsHeld is.holds) is.worth inv is.is_worth s h prefix.1 w value done) (is.below s bound h prefix.1 at)

pub preferences_by : (m : Model) (variables : List Variable) (Holds : PlainState → Type 0) (AsGood : PlainState → PlainState → Type 0) → Invariant m Holds → Simulates m variables Holds AsGood → PreferencesHold m variables
preferences_by m variables Holds AsGood inv sim u u' s s' p p' dominates w' value' done =
    let h = led m Holds inv m.target None u s p.0.0 p.1 inv.first p.0.1 in
    let h' = led m Holds inv m.target None u' s' p'.0.0 p'.1 inv.first p'.0.1 in
    simulated m variables Holds AsGood inv sim s s' h h' p.1 p'.1 (sim.dominating s s' h h' dominates) w' value' done

pub preferences_law : LawPreferences
preferences_law m variables are = preferences_by m variables (IsHeld are.holds) (IsAsGood are.good) are.invariant are.simulates

pub proved_law : LawProved
proved_law m kept are =
    record {
      bounds = λ i e keeps at. bound_law m e (are.bounds i e keeps at);
      preferences = preferences_law m (variables_with kept.preferences m.variables) are.preferences;
    }
