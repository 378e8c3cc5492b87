-- Proved bounds and proved preferences are honest.
use Rattle.std.proofs.Common.{◌≡◌, ℕ, Bool, true, List, slice_get, Some}
use Rattle.dp_model.specs.declared.trees.Num.{Num}
use Rattle.dp_model.specs.declared.whole.Model.{Model}
use Rattle.kept_model.specs.Honesty.{AreHonest, PreferencesHold}
use Rattle.kept_model.specs.Parts.{variables_with}
use Rattle.part_laws.specs.Laws.{IsProvedBound}
use Rattle.part_laws.proofs.Honesty.{bound_law}

pub parts_honest : (m : Model) (bounds preferences : List Bool) → ((i : ℕ) (e : Num) → slice_get bounds i ≡ Some true → slice_get m.bounds i ≡ Some e → IsProvedBound m e) → PreferencesHold m (variables_with preferences m.variables)
    → AreHonest m (record { bounds = bounds; preferences = preferences })
parts_honest m bounds preferences proved holds = record {
  bounds = λ i e keeps at. bound_law m e (proved i e keeps at);
  preferences = holds;
}
