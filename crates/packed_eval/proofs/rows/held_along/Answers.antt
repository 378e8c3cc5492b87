use Rattle.state_layout.specs.Packing.{state_in}
use Rattle.packed_words.specs.Ranges.{range_members}
use Rattle.packed_eval.proofs.Sides.{met_told}
use Rattle.packed_eval.proofs.rows.held_along.Goals as goal

pub returns : goal.returns
returns c = met_told c.args.at.now.model.now (state_in c.args.at.now.words.now) c.args.at.now.args.now c.args.c.now c.in_ok-sides.sides c.in_ok-sides.ensures c.all_met.result (range_members (state_in c.args.at.now.words.now) c.args.range) c.all_met.ensures
