use Rattle.honest_preferences.proofs.Simulation.{simulation_holds}
use Rattle.honest_preferences.proofs.choosing.are_proved.Goals as goal

pub returns : goal.returns
returns c = λ yes. simulation_holds c.args.model.now c.args.kept.now c.deref.result.now (c.is_simulation.ensures yes)
