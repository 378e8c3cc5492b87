-- A text has one reading, so that what is read is all that it spells.
use Rattle.std.proofs.Common.{◌≡◌, ℕ, List, Result, Ok, Err, IfOk, IfErr, MatchResult, refl}
use Rattle.dp_base.proofs.Memory.{memory_or}
use Rattle.yaml_tree.specs.Texts.{Spells, Refused}
use Rattle.yaml_tree.specs.Results.{is_memory, MemoryOr}
use Rattle.yaml_tree.specs.declared.tree.Tree.{Tree}
use Rattle.yaml_tree.specs.declared.tree.YamlEnd.{YamlEnd}
use Rattle.yaml_tree.specs.declared.tree.YamlEnd.TheVariants.{Memory}
use Rattle.yaml_tree.proofs.One.{one_reading}

pub only-tree : (file : ℕ) (bytes : List ℕ) (result : Result Tree YamlEnd) → IfOk result (Spells file bytes) → IfErr result (MemoryOr (Refused file bytes)) → (tree : Tree) → Spells file bytes tree → MatchResult result (λ found. found ≡ tree) (λ e. e ≡ Memory)
only-tree file bytes (Ok found) read refused tree spelled = (let same = one_reading file bytes (Ok found) (Ok tree) read spelled in cc)
only-tree file bytes (Err Memory) read refused tree spelled = refl
only-tree file bytes (Err e) read refused tree spelled = (let same = one_reading file bytes (Err e) (Ok tree) refused spelled in absurd cc)

pub only-refusal : (file : ℕ) (bytes : List ℕ) (result : Result Tree YamlEnd) → IfOk result (Spells file bytes) → IfErr result (MemoryOr (Refused file bytes)) → (e : YamlEnd) → Refused file bytes e → MatchResult result (λ found. ⊥) (MemoryOr (λ first. first ≡ e))
only-refusal file bytes (Ok found) read refused e is = (let same = one_reading file bytes (Ok found) (Err e) read is in absurd cc)
only-refusal file bytes (Err found) read refused e is =
    memory_or is_memory (Refused file bytes) (λ first. first ≡ e) (λ first bad. let same = one_reading file bytes (Err first) (Err e) bad is in cc) found refused
