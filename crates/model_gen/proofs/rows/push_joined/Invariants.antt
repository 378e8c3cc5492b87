use Rattle.std.proofs.Common.{◌≡◌, ◌++◌, drop, codes, string_bytes}
use Rattle.std.specs.List.{flat_map}
use Rattle.model_gen.proofs.rows.push_joined.Given as goal

abbrev pub invariant-loop-cell : goal.invariant-loop-cell
invariant-loop-cell l = string_bytes l.text ++ flat_map (λ cell. codes ", " ++ cell) (drop l.cell-index l.others) ≡ string_bytes l.initial.text ++ flat_map (λ cell. codes ", " ++ cell) l.others
