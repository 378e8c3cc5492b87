-- What is read in turns: items or entries one after the other, and then an end or a refusal.
use Rattle.std.specs.Prelude.{◌≡◌, List, [], ◌∷◌, ◌++◌, Result, Ok, Err}
use Rattle.yaml_tree.specs.Rest.{Rest}
use Rattle.yaml_tree.specs.declared.tree.YamlEnd.{YamlEnd}

-- One turn gives one more and where the next turn begins, or the last ones and what is left then, or a refusal.
pub data Turn (A S : Type 0) : Type 0 where
  More : A → S → Turn A S
  Last : List A → Rest → Turn A S
  Refused : YamlEnd → Turn A S

-- These are read one in each turn. A turn knows those that were read before it.
abbrev pub InTurn : {A S : Type 0} → (List A → S → Turn A S → Type 0) → (before : List A) → S → List A → S → Type 0
InTurn OneTurn before from [] left = from ≡ left
InTurn {A} {S} OneTurn before from (x ∷ xs) left = (next : S) × OneTurn before from (More x next) × InTurn OneTurn (before ++ x ∷ []) next xs left

abbrev pub EndsWith : {A S : Type 0} → List A → Turn A S → Result (List A × Rest) YamlEnd → Type 0
EndsWith xs (More x next) outcome = ⊥
EndsWith xs (Last others left) outcome = outcome ≡ Ok (xs ++ others, left)
EndsWith xs (Refused e) outcome = outcome ≡ Err e

-- some turns, and one that is the last
pub record Repeats {A S : Type 0} (OneTurn : List A → S → Turn A S → Type 0) (from : S) (outcome : Result (List A × Rest) YamlEnd) : Type 0 where
  pub read : List A
  pub at : S
  pub end : Turn A S
  pub in_turn : InTurn OneTurn [] from read at
  pub last : OneTurn read at end
  pub ends : EndsWith read end outcome
