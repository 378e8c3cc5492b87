use Rattle.std.proofs.Common.{◌≡◌, None, Ok, length, arith, rules}
use Rattle.std.proofs.lemmas.Grind.{common_steps}
use Rattle.state_layout.specs.Packing.{state_in}
use Rattle.spot_eval.specs.Looks.{best_case}
use Rattle.spot_eval.proofs.Ranges.{best_fits}
use Rattle.packed_spots.proofs.Rooms.{case_room}
use Rattle.packed_spots.proofs.looks.best_case.Goals as goal

pub returns-clause-in_range : goal.returns-clause-in_range
returns-clause-in_range c =
    let e : best_case c.args.at.now.model.now (state_in c.args.at.now.words.now) 0 None c.args.at.now.model.now.base_cases ≡ Ok c.loop-number.best = grind (arith, common_steps) in
    best_fits c.args.at.now.model.now (state_in c.args.at.now.words.now) c.loop-number.best e

pub case_at-requires-clause-room : goal.case_at-requires-clause-room
case_at-requires-clause-room c =
    let same : c.deref-case-items.result.now ≡ c.args.at.now.model.now.base_cases = search rules in
    rw c.loop-number.auto.stack (case_room c.args.at.now.model.now (length c.args.stack.now) c.loop-number.number c.case-item.result c.deref-case-items.result.now same c.requires.room c.loop-number-test.true c.case-item.is)
