-- What the functions of the reader hand out.
use Rattle.std.specs.Prelude.{Bool, true, false, [], ◌∷◌, None, Some}
use Rattle.dp_base.specs.Results as results
use Rattle.yaml_tree.specs.Rest.{Rest}
use Rattle.yaml_tree.specs.Repeats.{Turn, More, Last}
use Rattle.yaml_tree.specs.declared.tree.YamlEnd.{YamlEnd}
use Rattle.yaml_tree.specs.declared.tree.YamlEnd.TheVariants.{Memory}
use Rattle.yaml_tree.specs.declared.turns.Step.{Step}
use Rattle.yaml_tree.specs.declared.turns.Step.TheVariants as steps

-- memory ran out
abbrev pub is_memory : YamlEnd → Bool
is_memory Memory = true
is_memory e = false

-- memory ran out, or P says what was refused
abbrev pub MemoryOr : (YamlEnd → Type 0) → YamlEnd → Type 0
MemoryOr P e = results.MemoryOr is_memory P e

-- the turn that a step and what is left after it stand for
abbrev pub turn_of : {A : Type 0} → Step A → Rest → Turn A Rest
turn_of (steps.More x) left = More x left
turn_of (steps.Last None) left = Last [] left
turn_of (steps.Last (Some x)) left = Last (x ∷ []) left
