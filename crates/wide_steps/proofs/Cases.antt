-- Base cases that are satisfied, and their costs.
use Rattle.std.proofs.Common.{◌≡◌, ℕ, zero, suc, Bool, true, false, if◌then◌else◌, List, [], ◌∷◌, ◌++◌, slice_get, fold, Option, Some, None, Result, Ok, Err, ℤ, refl, sym, ap, subst, ◌∙◌}
use Rattle.std.specs.Prelude.{option_to_list, int_lt, cond}
use Rattle.dp_base.specs.Results.{◌>>=◌}
use Rattle.dp_model.specs.Costs.{better_of}
use Rattle.dp_model.specs.Evaluation.{num_value}
use Rattle.dp_model.specs.declared.answers.FaultKind.{FaultKind}
use Rattle.dp_model.specs.declared.parts.BaseCase.{BaseCase}
use Rattle.dp_model.specs.declared.parts.PlainState.{PlainState}
use Rattle.dp_model.specs.declared.whole.Model.{Model}
use Rattle.dp_steps.specs.States.{all_true, case_cost, case_costs}
use Rattle.wide_steps.proofs.Told.{bound, ok_same}

-- ---- one base case

-- its conditions are true, and its cost has the value
no_cost : (n : Result ℤ FaultKind) → (n >>= λ c. Ok (Some c)) ≡ Ok None → ◌≡◌ {A = Result Bool FaultKind} (Ok true) (Ok false)
no_cost (Ok x) h = absurd (cc)
no_cost (Err k) h = absurd (cc)

unsatisfied : (r : Result Bool FaultKind) (n : Result ℤ FaultKind) → (r >>= λ held. if held then (n >>= λ c. Ok (Some c)) else Ok None) ≡ Ok None → r ≡ Ok false
unsatisfied (Ok true) n h = no_cost n h
unsatisfied (Ok false) n h = refl
unsatisfied (Err k) n h = absurd (cc)

the_cost : (n : Result ℤ FaultKind) (x : ℤ) → (n >>= λ c. Ok (Some c)) ≡ Ok (Some x) → n ≡ Ok x
the_cost (Ok y) x h = let same : Some y ≡ Some x = ok_same (Some y) (Some x) h in cc
the_cost (Err k) x h = absurd (cc)

satisfied_by : (r : Result Bool FaultKind) (n : Result ℤ FaultKind) (x : ℤ) → (r >>= λ held. if held then (n >>= λ c. Ok (Some c)) else Ok None) ≡ Ok (Some x) → (r ≡ Ok true) × (n ≡ Ok x)
satisfied_by (Ok true) n x h = (refl, the_cost n x h)
satisfied_by (Ok false) n x h = absurd (cc)
satisfied_by (Err k) n x h = absurd (cc)

pub not_satisfied : (m : Model) (s : PlainState) (b : BaseCase) → case_cost m s b ≡ Ok None → all_true m s [] b.conditions ≡ Ok false
not_satisfied m s b h = unsatisfied (all_true m s [] b.conditions) (num_value m s b.cost []) h

pub satisfied : (m : Model) (s : PlainState) (b : BaseCase) (x : ℤ) → case_cost m s b ≡ Ok (Some x) → (all_true m s [] b.conditions ≡ Ok true) × (num_value m s b.cost [] ≡ Ok x)
satisfied m s b x h = satisfied_by (all_true m s [] b.conditions) (num_value m s b.cost []) x h

-- ---- all of them

assoc : {A B C : Type 0} (r : Result A FaultKind) (f : A → Result B FaultKind) (g : B → Result C FaultKind) → ((r >>= f) >>= g) ≡ (r >>= λ x. f x >>= g)
assoc (Ok x) f g = refl
assoc (Err k) f g = refl

costs_step : (m : Model) (s : PlainState) (b : BaseCase) (bs : List BaseCase) (r : Result (Option ℤ) FaultKind) → case_cost m s b ≡ r → case_costs m s (b ∷ bs) ≡ (r >>= λ c. case_costs m s bs >>= λ costs. Ok (option_to_list c ++ costs))
costs_step m s b bs (Err kind) q = rw q refl
costs_step m s b bs (Ok c) q = rw q (simp assoc)

costs_cons : (m : Model) (s : PlainState) (b : BaseCase) (bs : List BaseCase) → case_costs m s (b ∷ bs) ≡ (case_cost m s b >>= λ c. case_costs m s bs >>= λ costs. Ok (option_to_list c ++ costs))
costs_cons m s b bs = costs_step m s b bs (case_cost m s b) refl

-- the first case, and the others
record Costs (m : Model) (s : PlainState) (b : BaseCase) (bs : List BaseCase) (costs : List ℤ) : Type 0 where
  pub first : Option ℤ
  pub others : List ℤ
  pub first_is : case_cost m s b ≡ Ok first
  pub others_are : case_costs m s bs ≡ Ok others
  pub all : option_to_list first ++ others ≡ costs

costs_parts : (m : Model) (s : PlainState) (b : BaseCase) (bs : List BaseCase) (costs : List ℤ) → case_costs m s (b ∷ bs) ≡ Ok costs → Costs m s b bs costs
costs_parts m s b bs costs h =
    let h' : (case_cost m s b >>= λ c. case_costs m s bs >>= λ costs. Ok (option_to_list c ++ costs)) ≡ Ok costs = sym (costs_cons m s b bs) ∙ h in
    let first = bound (case_cost m s b) (λ c. case_costs m s bs >>= λ costs. Ok (option_to_list c ++ costs)) costs h' in
    let rest = bound (case_costs m s bs) (λ costs. Ok (option_to_list first.0 ++ costs)) costs first.2 in
    record { first = first.0; others = rest.0; first_is = first.1; others_are = rest.1; all = ok_same (option_to_list first.0 ++ rest.0) costs rest.2 }

none_first : (c : Option ℤ) (xs : List ℤ) → option_to_list c ++ xs ≡ [] → (c ≡ None) × (xs ≡ [])
none_first None xs h = (refl, h)
none_first (Some x) xs h = absurd (cc)

pub open_case : (m : Model) (s : PlainState) (bs : List BaseCase) (i : ℕ) (b : BaseCase) → case_costs m s bs ≡ Ok [] → slice_get bs i ≡ Some b → case_cost m s b ≡ Ok None
open_case m s [] i b h e = absurd (cc)
open_case m s (x ∷ bs) i b h e =
    let parts = costs_parts m s x bs [] h in
    let empty = none_first parts.first parts.others parts.all in
    here i (parts.first_is ∙ ap Ok empty.0) (λ j. open_case m s bs j b (parts.others_are ∙ ap Ok empty.1)) e
  where
    here : (i : ℕ) → case_cost m s x ≡ Ok None → ((j : ℕ) → slice_get bs j ≡ Some b → case_cost m s b ≡ Ok None) → slice_get (x ∷ bs) i ≡ Some b → case_cost m s b ≡ Ok None
    here zero first rest e = let same : x ≡ b = cc in subst (λ (c : BaseCase). case_cost m s c ≡ Ok None) same first
    here (suc j) first rest e = rest j e

-- ---- the best of them

-- P of each number
EachIs : (ℤ → Type 0) → List ℤ → Type 0
EachIs P [] = Unit {0}
EachIs P (x ∷ xs) = P x × EachIs P xs

-- what is true of the cost of each case that is satisfied
with_first : (m : Model) (s : PlainState) (P : ℤ → Type 0) (b : BaseCase) (c : Option ℤ) (xs : List ℤ) → ((x : ℤ) → case_cost m s b ≡ Ok (Some x) → P x) → case_cost m s b ≡ Ok c → EachIs P xs → EachIs P (option_to_list c ++ xs)
unfolding EachIs
with_first m s P b None xs here q rest = rest
with_first m s P b (Some x) xs here q rest = (here x q, rest)

each_cost : (m : Model) (s : PlainState) (P : ℤ → Type 0) (bs : List BaseCase) (costs : List ℤ) → ((i : ℕ) (b : BaseCase) (x : ℤ) → slice_get bs i ≡ Some b → case_cost m s b ≡ Ok (Some x) → P x) → case_costs m s bs ≡ Ok costs → EachIs P costs
unfolding EachIs
each_cost m s P [] costs all h = let same : [] ≡ costs = ok_same [] costs h in subst (EachIs P) same tt
each_cost m s P (b ∷ bs) costs all h =
    let parts = costs_parts m s b bs costs h in
    let rest = each_cost m s P bs parts.others (λ i c x e. all (suc i) c x e) parts.others_are in
    subst (EachIs P) parts.all (with_first m s P b parts.first parts.others (λ x q. all zero b x refl q) parts.first_is rest)

-- the better of two numbers is one of them
either_is : (lt : Bool) (P : ℤ → Type 0) (a b : ℤ) → P a → P b → P (cond lt a b)
either_is true P a b p q = p
either_is false P a b p q = q

better_is : (minimize : Bool) (P : ℤ → Type 0) (a b : ℤ) → P a → P b → P (better_of minimize a b)
better_is true P a b p q = either_is (int_lt b a) P b a q p
better_is false P a b p q = either_is (int_lt b a) P a b p q

fold_is : (minimize : Bool) (P : ℤ → Type 0) (a : ℤ) (xs : List ℤ) → P a → EachIs P xs → P (fold (better_of minimize) a xs)
unfolding EachIs
fold_is minimize P a [] p h = p
fold_is minimize P a (x ∷ xs) p h = fold_is minimize P (better_of minimize a x) xs (better_is minimize P a x p h.0) h.1

pub best_is : (m : Model) (s : PlainState) (P : ℤ → Type 0) (bs : List BaseCase) (first : ℤ) (others : List ℤ) → ((i : ℕ) (b : BaseCase) (x : ℤ) → slice_get bs i ≡ Some b → case_cost m s b ≡ Ok (Some x) → P x) → case_costs m s bs ≡ Ok (first ∷ others) → P (fold (better_of m.minimize) first others)
unfolding EachIs
best_is m s P bs first others all h =
    let each = each_cost m s P bs (first ∷ others) all h in
    fold_is m.minimize P first others each.0 each.1
