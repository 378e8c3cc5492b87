-- Ground transitions, and how they are written: the name of the transition, and a space and a number for each parameter.
use Rattle.std.specs.Prelude.{ℕ, List, [], ◌++◌, slice_get, Option, Some, None, option_and_then, option_map, codes, decimal}
use Rattle.std.specs.List.{flat_map}
use Rattle.dp_model.specs.declared.parts.Transition.{Transition}
use Rattle.dp_model.specs.declared.parts.Ground.{Ground}
use Rattle.dp_model.specs.declared.whole.Model.{Model}

-- a ground transition's transition, and the values of its parameters
abbrev pub ground_of : Model → ℕ → Option (Transition × List ℕ)
ground_of m g = option_and_then (λ (x : Ground). option_map (λ (t : Transition). (t, x.args)) (slice_get m.transitions x.transition)) (slice_get m.dp_ground g)

abbrev pub named : Option (Transition × List ℕ) → List ℕ
named None = []
named (Some t) = t.0.name ++ flat_map (λ k. codes " " ++ decimal k) t.1

abbrev pub step_text : Model → ℕ → List ℕ
step_text m g = named (ground_of m g)
