-- Choices that keep the first ones of a list.
use Rattle.std.specs.Prelude.{◌≡◌, ℕ, suc, true, Bool, List, slice_get, Some}
use Rattle.dp_model.specs.declared.trees.Num.{Num}
use Rattle.dp_model.specs.declared.whole.Model.{Model}
use Rattle.kept_model.specs.Parts.{chosen}
use Rattle.kept_model.specs.declared.kept.Kept.{Kept}

-- where one is kept, so is the one before it
abbrev pub AreFirst : List Bool → Type 0
AreFirst kept = (i : ℕ) → slice_get kept (suc i) ≡ Some true → slice_get kept i ≡ Some true

-- each kept bound has the number that it has in the model
abbrev pub KeepsNumbers : Model → Kept → Type 0
KeepsNumbers m kept = (i : ℕ) (e : Num) → slice_get (chosen kept.bounds m.bounds) i ≡ Some e → slice_get m.bounds i ≡ Some e
