use Rattle.std.proofs.Common.{◌≡◌, ◌++◌, codes, decimal, string_bytes, take}
use Rattle.std.specs.List.{flat_map}
use Rattle.dypdl_load.proofs.together.push_arguments.Given as goal

abbrev pub invariant-loop-argument : goal.invariant-loop-argument
invariant-loop-argument l = string_bytes l.text ≡ string_bytes l.initial.text ++ flat_map (λ k. codes " " ++ decimal k) (take l.argument-index l.arguments)
