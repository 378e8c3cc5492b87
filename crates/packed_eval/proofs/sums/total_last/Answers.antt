use Rattle.std.proofs.Common.{rules, ◌∙◌, ◌+◌, ◌*◌, ap, FitsSigned}
use Rattle.std.specs.Int.{w128}
use Rattle.std.proofs.lemmas.Int.{to_z-of_z}
use Rattle.bit_sets.specs.Sets.{members_of}
use Rattle.packed_words.specs.Totals.{total_by}
use Rattle.packed_eval.specs.Sums.{cell_at}
use Rattle.packed_eval.proofs.Ways.{total_same, one_of}
use Rattle.packed_eval.proofs.sums.total_last.Goals as goal

pub returns-in-len1-clause-value : goal.returns-in-len1-clause-value
returns-in-len1-clause-value c place h =
    let fits : FitsSigned w128 c.total_in.result = search rules in
    to_z-of_z w128 c.total_in.result fits
    ∙ c.total_in.ensures.value
    ∙ ap (total_by (cell_at c.row_of-row.result.now)) (one_of c.args.set.now c.in-len1.len_at_least c.in-len1.len_below)
    ∙ total_same (cell_at c.row_of-row.result.now) (λ k. cell_at c.args.cells.now (place * c.args.count + k)) (c.row_of-row.ensures place h) (members_of c.args.set.now)
