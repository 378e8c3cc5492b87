use Rattle.std.proofs.Common.{◌≡◌, drop}
use Rattle.dp_base.specs.Results.{each}
use Rattle.dypdl_nodes.specs.Shapes.{key_step, texts}
use Rattle.dypdl_nodes.proofs.keys.known_keys.Given as goal

abbrev pub invariant-loop-pair : goal.invariant-loop-pair
invariant-loop-pair l = each (key_step (texts l.known)) tt (drop l.pair-index l.entries) ≡ each (key_step (texts l.known)) tt l.entries
