-- Members of lists, and what a history has after an event.
use Rattle.std.proofs.Common.{◌≡◌, ℕ, zero, suc, inl, inr, List, [], ◌∷◌, ◌++◌, map, slice_get, Some, subst, ◌∙◌, ap, append-nil, arith}
use Rattle.std.specs.List.{All}
use Rattle.dp_claims.specs.Enough.{Has}
use Rattle.state_layout.specs.declared.node.Node.{Node}
use Rattle.pass_ledger.specs.declared.records.PrunedAt.{PrunedAt}
use Rattle.pass_ledger.proofs.Lists.{has_none, has_head}
use Rattle.best_ledger.specs.Events.{moments_of}
use Rattle.best_ledger.specs.Histories.{visit, visits_in}
use Rattle.best_ledger.specs.declared.records.BestVisit.{BestVisit}
use Rattle.best_ledger.specs.declared.records.Moment.{Moment}
use Rattle.best_ledger.proofs.Moments.{visits_append, no_visits_in}

pub map_has : {A B : Type 0} (f : A → B) (xs : List A) (x : A) → Has xs x → Has (map f xs) (f x)
map_has f [] x h = absurd (has_none x h)
map_has f (y ∷ xs) x h = elim (has_head y xs x h) [ inl e ↦ (zero, ap (λ z. Some (f z)) e) | inr more ↦ (let r = map_has f xs x more in (suc r.0, r.1)) ]

all_at : {A : Type 0} (P : A → Type 0) (xs : List A) → All P xs → (x : A) (k : ℕ) → slice_get xs k ≡ Some x → P x
all_at P [] all x k e = absurd (has_none x (k, e))
all_at P (y ∷ xs) all x zero e = subst P (some_is e) (all zero x (omega arith))
  where
    some_is : {A : Type 0} {a b : A} → Some a ≡ Some b → a ≡ b
    some_is e = cc
all_at P (y ∷ xs) all x (suc k) e = all_at P xs (λ k d lt. all (suc k) d (omega (arith, lt))) x k e

pub all_has : {A : Type 0} (P : A → Type 0) (xs : List A) → All P xs → (x : A) → Has xs x → P x
all_has P xs all x h = all_at P xs all x h.0 h.1

-- ---- histories with more moments

pub visits_same : (history more : List Moment) → visits_in more ≡ [] → visits_in (history ++ more) ≡ visits_in history
visits_same history more none = visits_append history more ∙ (ap (λ (vs : List BestVisit). visits_in history ++ vs) none ∙ append-nil (visits_in history))

pub visits_after : (history : List Moment) (stamp : ℕ) (n : Node) (prunes : List PrunedAt) → visits_in (history ++ moments_of stamp n prunes) ≡ visits_in history ++ visit stamp n ∷ []
visits_after history stamp n prunes =
    visits_append history (moments_of stamp n prunes) ∙ ap (λ (vs : List BestVisit). visits_in history ++ visit stamp n ∷ vs) (no_visits_in prunes)
