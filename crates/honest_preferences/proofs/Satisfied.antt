-- Base cases that are answered, and their costs.
use Rattle.std.proofs.Common.{◌≡◌, ℕ, zero, suc, Bool, true, false, if◌then◌else◌, List, [], ◌∷◌, ◌++◌, slice_get, Option, Some, None, Result, Ok, Err, ℤ, refl, sym, ap, subst, ◌∙◌}
use Rattle.std.specs.Prelude.{option_to_list}
use Rattle.dp_base.specs.Results.{◌>>=◌}
use Rattle.dp_model.specs.Evaluation.{num_value}
use Rattle.dp_model.specs.declared.answers.FaultKind.{FaultKind}
use Rattle.dp_model.specs.declared.parts.BaseCase.{BaseCase}
use Rattle.dp_model.specs.declared.parts.PlainState.{PlainState}
use Rattle.dp_model.specs.declared.whole.Model.{Model}
use Rattle.dp_steps.specs.States.{all_true, case_cost, case_costs}
use Rattle.dp_claims.specs.Honest.{IsNotBetter}
use Rattle.honest_preferences.specs.Signs.{IsPair}
use Rattle.honest_preferences.specs.Answering.{AreAnswered, AreNoWorse}
use Rattle.honest_preferences.specs.Effects.{CostsNoMore}
use Rattle.honest_preferences.specs.Parts.{IsAnswered, IsNoWorse}
use Rattle.honest_preferences.proofs.Binding.{bound, ok_same}

-- ---- one base case

abbrev cost_if : Result Bool FaultKind → Result ℤ FaultKind → Result (Option ℤ) FaultKind
cost_if r n = r >>= λ held. if held then (n >>= λ c. Ok (Some c)) else Ok None

answered_by : (m : Model) (r : Result Bool FaultKind) (n n' : Result ℤ FaultKind) → ((z' : ℤ) → n' ≡ Ok z' → (z : ℤ) × (n ≡ Ok z) × IsNotBetter m z' z) → (d : Option ℤ) → cost_if r n' ≡ Ok d → (c : Option ℤ) × (cost_if r n ≡ Ok c) × IsNoWorse m c d
answered_by m (Err k) n n' costs d h = absurd (cc)
answered_by m (Ok false) n n' costs d h = (None, refl, subst (λ (o : Option ℤ). IsNoWorse m None o) (ok_same None d h) tt)
answered_by m (Ok true) n n' costs d h =
    let x = bound n' (λ c. Ok (Some c)) d h in
    let told = costs x.0 x.1 in
    (Some told.0, ap (λ (r : Result ℤ FaultKind). r >>= λ c. Ok (Some c)) told.1, subst (λ (o : Option ℤ). IsNoWorse m (Some told.0) o) (ok_same (Some x.0) d x.2) told.2)

pub case_answered : (m : Model) (kept : List Bool) (ends : List ℤ) (b : BaseCase) → ((s other : PlainState) → IsPair m kept ends s other → (given : List ℕ) → all_true m s given b.conditions ≡ all_true m other given b.conditions) → CostsNoMore m kept ends b.cost → IsAnswered m kept ends b
case_answered m kept ends b alike costs s other p d h =
    let told = answered_by m (all_true m other [] b.conditions) (num_value m s b.cost []) (num_value m other b.cost []) (costs s other p []) d h in
    (told.0, ap (λ (r : Result Bool FaultKind). cost_if r (num_value m s b.cost [])) (alike s other p []) ∙ told.1, told.2)

-- ---- all of them

assoc : {A B C : Type 0} (r : Result A FaultKind) (f : A → Result B FaultKind) (g : B → Result C FaultKind) → ((r >>= f) >>= g) ≡ (r >>= λ x. f x >>= g)
assoc (Ok x) f g = refl
assoc (Err k) f g = refl

costs_step : (m : Model) (s : PlainState) (b : BaseCase) (bs : List BaseCase) (r : Result (Option ℤ) FaultKind) → case_cost m s b ≡ r → case_costs m s (b ∷ bs) ≡ (r >>= λ c. case_costs m s bs >>= λ costs. Ok (option_to_list c ++ costs))
costs_step m s b bs (Err kind) q = rw q refl
costs_step m s b bs (Ok c) q = rw q (simp assoc)

all_no_worse : (m : Model) (c d : Option ℤ) (cs ds : List ℤ) → IsNoWorse m c d → AreNoWorse m cs ds → AreNoWorse m (option_to_list c ++ cs) (option_to_list d ++ ds)
all_no_worse m None None cs ds h all = all
all_no_worse m None (Some d) cs ds h all = absurd h
all_no_worse m (Some c) None cs ds h all = absurd h
all_no_worse m (Some c) (Some d) cs ds h all = (h, all)

costs_answered : (m : Model) (kept : List Bool) (ends : List ℤ) (s other : PlainState) → IsPair m kept ends s other → (bs : List BaseCase) → ((i : ℕ) (b : BaseCase) → slice_get bs i ≡ Some b → IsAnswered m kept ends b)
    → (others : List ℤ) → case_costs m other bs ≡ Ok others → (costs : List ℤ) × (case_costs m s bs ≡ Ok costs) × AreNoWorse m costs others
costs_answered m kept ends s other p [] each others h = ([], refl, subst (λ (ds : List ℤ). AreNoWorse m [] ds) (ok_same [] others h) tt)
costs_answered m kept ends s other p (b ∷ bs) each others h =
    let h' = sym (costs_step m other b bs (case_cost m other b) refl) ∙ h in
    let d = bound (case_cost m other b) (λ c. case_costs m other bs >>= λ costs. Ok (option_to_list c ++ costs)) others h' in
    let ds = bound (case_costs m other bs) (λ costs. Ok (option_to_list d.0 ++ costs)) others d.2 in
    let c = each zero b refl s other p d.0 d.1 in
    let cs = costs_answered m kept ends s other p bs (λ i x at. each (suc i) x at) ds.0 ds.1 in
    let all = all_no_worse m c.0 d.0 cs.0 ds.0 c.2 cs.2 in
    let told = costs_step m s b bs (Ok c.0) c.1 ∙ ap (λ (r : Result (List ℤ) FaultKind). r >>= λ costs. Ok (option_to_list c.0 ++ costs)) cs.1 in
    (option_to_list c.0 ++ cs.0, told, subst (λ (xs : List ℤ). AreNoWorse m (option_to_list c.0 ++ cs.0) xs) (ok_same (option_to_list d.0 ++ ds.0) others ds.2) all)

pub cases_answered : (m : Model) (kept : List Bool) (ends : List ℤ) → ((i : ℕ) (b : BaseCase) → slice_get m.base_cases i ≡ Some b → IsAnswered m kept ends b) → AreAnswered m kept ends
cases_answered m kept ends each s other p others h = costs_answered m kept ends s other p m.base_cases each others h
