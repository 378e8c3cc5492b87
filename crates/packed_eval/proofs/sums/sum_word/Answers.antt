use Rattle.std.proofs.Common.{rules, ap, ◌∙◌, FitsSigned}
use Rattle.std.specs.Int.{w128}
use Rattle.std.proofs.lemmas.Int.{to_z-of_z}
use Rattle.dp_model.specs.Costs.{ranged}
use Rattle.bit_sets.specs.Sets.{members_of}
use Rattle.packed_words.specs.Sets.{one_word}
use Rattle.packed_eval.proofs.Ways.{one_told}
use Rattle.packed_eval.proofs.sums.sum_word.Goals as goal

pub returns : goal.returns
returns c =
    let fits : FitsSigned w128 c.total_in.result = search rules in
    (rw (to_z-of_z w128 c.total_in.result fits) at c.ranged.ensures)
    ∙ ap ranged (one_told c.args.model.now c.args.t c.numbers_in.result.now c.requires.0 (members_of (one_word c.args.word)) c.total_in.result c.requires.1 c.numbers_in.ensures c.total_in.ensures.value)
