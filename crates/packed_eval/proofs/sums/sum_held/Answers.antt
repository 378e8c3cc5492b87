use Rattle.std.proofs.Common.{rules, ap, ◌∙◌, FitsSigned}
use Rattle.std.specs.Int.{w128}
use Rattle.std.proofs.lemmas.Int.{to_z-of_z}
use Rattle.dp_model.specs.Costs.{ranged}
use Rattle.packed_eval.specs.Sums.{sets_in}
use Rattle.packed_eval.proofs.Ways.{few_counts, total_told}
use Rattle.packed_eval.proofs.sums.sum_held.Goals as goal

pub total_of-requires-clause-few : goal.total_of-requires-clause-few
total_of-requires-clause-few c = rw c.requires.counts (few_counts c.args.model.now c.args.t)

pub returns : goal.returns
returns c =
    let fits : FitsSigned w128 c.total_of.result = search rules in
    (rw (to_z-of_z w128 c.total_of.result fits) at c.ranged.ensures)
    ∙ ap ranged (total_told c.args.model.now c.args.t c.numbers_in.result.now c.args.counts.now (sets_in c.args.counts.now c.args.held.now) _ c.requires.counts c.numbers_in.ensures (c.total_of.ensures))
