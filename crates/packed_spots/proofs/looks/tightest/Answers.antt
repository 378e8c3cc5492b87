use Rattle.std.proofs.Common.{◌≡◌, None, Ok, arith}
use Rattle.std.proofs.lemmas.Grind.{common_steps}
use Rattle.state_layout.specs.Packing.{state_in}
use Rattle.spot_eval.specs.Looks.{tightest_at}
use Rattle.spot_eval.proofs.Ranges.{tightest_fits}
use Rattle.packed_spots.proofs.looks.tightest.Goals as goal

pub returns-clause-in_range : goal.returns-clause-in_range
returns-clause-in_range c =
    let e : tightest_at c.args.at.now.model.now (state_in c.args.at.now.words.now) 0 None c.args.at.now.model.now.bounds ≡ Ok c.loop-place.best = grind (arith, common_steps) in
    tightest_fits c.args.at.now.model.now (state_in c.args.at.now.words.now) c.loop-place.best e
