-- Letters that came, and letters that were posted.
use Rattle.std.proofs.Common.{◌≡◌, ℕ, ◌<◌, Bool, true, false, if◌then◌else◌, nat_eq, List, [], ◌∷◌, ◌++◌, length, map, refl, ap, ◌∙◌}
use Rattle.std.proofs.lemmas.List.{append-nil, get_or-set_same}
use Rattle.state_layout.specs.declared.node.Node.{Node}
use Rattle.pass_ledger.specs.declared.records.PrunedAt.{PrunedAt}
use Rattle.best_ledger.specs.Events.{append_at, moments_of}
use Rattle.best_ledger.specs.Histories.{to, came_from}
use Rattle.best_ledger.specs.declared.letters.BestLetter.{BestLetter}
use Rattle.best_ledger.specs.declared.records.Moment.{Moment}
use Rattle.best_ledger.specs.declared.records.Moment.TheVariants.{Came, Visited, Pruned}

-- ---- letters in a history

pub came_append : (j : ℕ) (a b : List Moment) → came_from j (a ++ b) ≡ came_from j a ++ came_from j b
came_append j [] b = refl
came_append j (Came x ∷ a) b = by (nat_eq x.from j) (came_append j a b)
  where
    by : (t : Bool) → came_from j (a ++ b) ≡ came_from j a ++ came_from j b → (if t then x ∷ came_from j (a ++ b) else came_from j (a ++ b)) ≡ (if t then x ∷ came_from j a else came_from j a) ++ came_from j b
    by true e = ap (λ (xs : List BestLetter). x ∷ xs) e
    by false e = e
came_append j (Visited v ∷ a) b = came_append j a b
came_append j (Pruned q ∷ a) b = came_append j a b

none_pruned : (j : ℕ) (prunes : List PrunedAt) → came_from j (map (λ (q : PrunedAt). Pruned q) prunes) ≡ []
none_pruned j [] = refl
none_pruned j (q ∷ prunes) = none_pruned j prunes

-- what came is as before where no letter did
came_still : (j : ℕ) (history more : List Moment) → came_from j more ≡ [] → came_from j (history ++ more) ≡ came_from j history
came_still j history more none = came_append j history more ∙ (ap (λ (xs : List BestLetter). came_from j history ++ xs) none ∙ append-nil (came_from j history))

pub came_pruned : (j : ℕ) (history : List Moment) (q : PrunedAt) → came_from j (history ++ Pruned q ∷ []) ≡ came_from j history
came_pruned j history q = came_still j history (Pruned q ∷ []) refl

pub came_visited : (j : ℕ) (history : List Moment) (stamp : ℕ) (n : Node) (prunes : List PrunedAt) → came_from j (history ++ moments_of stamp n prunes) ≡ came_from j history
came_visited j history stamp n prunes = came_still j history (moments_of stamp n prunes) (none_pruned j prunes)

-- ---- letters to one receiver

pub append_same : (posted : List (List BestLetter)) (j : ℕ) (x : BestLetter) → j < length posted → to (append_at posted j x) j ≡ to posted j ++ x ∷ []
append_same posted j x lt = get_or-set_same posted j (to posted j ++ x ∷ []) [] lt
