-- Which letter may come next in a list of letters, told by its unfinished group.
use Rattle.std.specs.Prelude.{◌≡◌, ℕ, ◌+◌, ◌≤◌, ◌<◌, List, [], ◌∷◌, ◌++◌}
use Rattle.dp_claims.specs.Enough.{Has}
use Rattle.dp_model.specs.declared.whole.Model.{Model}
use Rattle.pass_ledger.specs.Letters.{InGroups, InOrder, Posted, states_at}
use Rattle.pass_ledger.specs.declared.mail.Letter.{Letter}
use Rattle.pass_ledger.specs.declared.mail.Letter.TheVariants.{State, Mark}

-- the unfinished group of a list: its layer, and how many states it has
abbrev pub grown : ℕ × ℕ → Letter → ℕ × ℕ
grown group (State from layer node) = (group.0, group.1 + 1)
grown group (Mark from layer to_you total) = (group.0 + 1, 0)

abbrev pub unfinished : ℕ × ℕ → List Letter → ℕ × ℕ
unfinished group [] = group
unfinished group (x ∷ xs) = unfinished (grown group x) xs

-- the letter may come next, after this unfinished group
abbrev pub Suits : ℕ × ℕ → Letter → Type 0
Suits group (State from layer node) = layer ≡ group.0
Suits group (Mark from layer to_you total) = (layer ≡ group.0) × (to_you ≡ group.1)

-- the node of a letter, if it has one, is in order
abbrev pub IsLawful : Model → Letter → Type 0
IsLawful m (State from layer node) = InOrder m node
IsLawful m (Mark from layer to_you total) = Unit {0}

abbrev pub LawEmpty : Type 0
LawEmpty = (m : Model) → Posted m []

abbrev pub LawPrefix : Type 0
LawPrefix = (m : Model) (xs ys : List Letter) → Posted m (xs ++ ys) → Posted m xs

-- what may follow a posted list is told by its unfinished group and the node of the letter alone
abbrev pub LawNext : Type 0
LawNext =
    (m : Model) (xs : List Letter) (x : Letter)
    → (Posted m xs → Suits (unfinished (1, 0) xs) x → IsLawful m x → Posted m (xs ++ x ∷ [])) × (Posted m (xs ++ x ∷ []) → Posted m xs × Suits (unfinished (1, 0) xs) x × IsLawful m x)

-- the next letter grows the unfinished group
abbrev pub LawGrown : Type 0
LawGrown = (group : ℕ × ℕ) (xs : List Letter) (x : Letter) → unfinished group (xs ++ x ∷ []) ≡ grown (unfinished group xs) x

-- A posted list has a mark of just the layers before its unfinished group.
abbrev pub LawMarks : Type 0
LawMarks =
    (xs : List Letter) → InGroups 1 0 xs
    → ((l : ℕ) → 1 ≤ l → l < (unfinished (1, 0) xs).0 → (from : ℕ) × (to_you : ℕ) × (total : ℕ) × Has xs (Mark from l to_you total))
    × ((from l to_you total : ℕ) → Has xs (Mark from l to_you total) → l < (unfinished (1, 0) xs).0)

-- how many states of the layer of its unfinished group stand in a posted list
abbrev pub LawStates : Type 0
LawStates = (xs : List Letter) → InGroups 1 0 xs → states_at (unfinished (1, 0) xs).0 xs ≡ (unfinished (1, 0) xs).1
