use Rattle.std.proofs.Common.{◌≡◌, Some, sym, arith}
use Rattle.std.proofs.lemmas.Int.{ints, to_z-of_z}
use Rattle.dp_model.specs.Costs.{InRange}
use Rattle.state_layout.specs.Packing.{state_in}
use Rattle.spot_eval.proofs.Ranges.{weight_at-fits}
use Rattle.packed_spots.proofs.costs.weight_at.Goals as goal

pub returns-in_ok-num_at-in-Some-clause-in_range : goal.returns-in_ok-num_at-in-Some-clause-in_range
returns-in_ok-num_at-in-Some-clause-in_range c =
    let q : c.args.transition.now.weight ≡ Some c.in-Some.e = cc in
    let p : InRange c.in_ok-num_at-in-Some.field-0 = weight_at-fits c.args.at.now.model.now (state_in c.args.at.now.words.now) c.args.number c.args.transition.now c.args.at.now.args.now c.in-Some.e c.in_ok-num_at-in-Some.field-0 c.requires.step q (sym c.in_ok-num_at-in-Some.ensures) c.requires.state in
    let low = p.0 in
    let high = p.1 in
    (grind (arith, ints, to_z-of_z), grind (arith, ints, to_z-of_z))
