use Rattle.std.proofs.Common.{◌≡◌, drop}
use Rattle.dp_base.specs.Results.{each}
use Rattle.dypdl_rules.specs.Expressions.{Reading, IsReading}
use Rattle.dypdl_rules.specs.Effects.{effect_step}
use Rattle.dypdl_rules.proofs.effects.take_effects.Given as goal

abbrev pub invariant-loop-pair : goal.invariant-loop-pair
invariant-loop-pair l = (read : Reading) → IsReading read → each (effect_step read l.declared.lists l.declared.params) l.effects (drop l.pair-index l.entries) ≡ each (effect_step read l.declared.lists l.declared.params) l.initial.effects l.entries
