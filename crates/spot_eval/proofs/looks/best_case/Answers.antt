use Rattle.std.proofs.Common.{◌≡◌, None, Ok, arith}
use Rattle.std.proofs.lemmas.Grind.{common_steps}
use Rattle.spot_eval.specs.Looks.{best_case}
use Rattle.spot_eval.proofs.Ranges.{best_fits}
use Rattle.spot_eval.proofs.looks.best_case.Goals as goal

pub returns-clause-in_range : goal.returns-clause-in_range
returns-clause-in_range c =
    let e : best_case c.args.model.now c.args.s.now 0 None c.args.model.now.base_cases ≡ Ok c.loop-number.best = grind (arith, common_steps) in
    best_fits c.args.model.now c.args.s.now c.loop-number.best e
