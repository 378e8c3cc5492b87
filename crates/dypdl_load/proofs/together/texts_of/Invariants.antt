use Rattle.std.proofs.Common.{◌≡◌, [], drop}
use Rattle.dp_base.specs.Results.{each}
use Rattle.dypdl_load.specs.Together.{text_step}
use Rattle.dypdl_load.specs.Seen.{texts_seen}
use Rattle.dypdl_load.proofs.together.texts_of.Given as goal

-- what is left decides
abbrev pub invariant-loop-step : goal.invariant-loop-step
invariant-loop-step l = each (text_step l.moves) (texts_seen l.texts) (drop l.step-index l.grounds) ≡ each (text_step l.moves) [] l.grounds
