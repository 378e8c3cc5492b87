use Rattle.std.proofs.Common.{◌⊎◌, inl, inr, ℕ, List, Result, Ok, Err}
use Rattle.yaml_tree.specs.Texts.{Reads, Spells, Refused}
use Rattle.yaml_tree.specs.declared.tree.Tree.{Tree}
use Rattle.yaml_tree.specs.declared.tree.YamlEnd.{YamlEnd}
use Rattle.yaml_tree.proofs.OneAtLeast.{has_reading}
use Rattle.yaml_tree.proofs.laws.some_reading.Goals as goal

either : (file : ℕ) (text : List ℕ) (outcome : Result Tree YamlEnd) → Reads file text outcome → ((tree : Tree) × Spells file text tree) ⊎ ((e : YamlEnd) × Refused file text e)
either file text (Ok tree) is = inl (tree, is)
either file text (Err e) is = inr (e, is)

pub returns : goal.returns
returns c file text = let has = has_reading file text in either file text has.0 has.1
