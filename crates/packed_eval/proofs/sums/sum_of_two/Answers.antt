use Rattle.std.proofs.Common.{rules, ap, ◌≡◌, ◌∙◌, FitsSigned, Ok}
use Rattle.std.specs.Int.{w128}
use Rattle.std.proofs.lemmas.Int.{to_z-of_z}
use Rattle.dp_model.specs.Costs.{ranged}
use Rattle.bit_sets.specs.Sets.{members_of}
use Rattle.packed_words.specs.Sets.{one_word}
use Rattle.packed_eval.specs.Sums.{term_value, chosen_in}
use Rattle.packed_eval.proofs.Ways.{both_chosen, rows_told}
use Rattle.packed_eval.proofs.sums.sum_of_two.Goals as goal

pub returns : goal.returns
returns c =
    let fits : FitsSigned w128 c.total_in_rows.result = search rules in
    let set : chosen_in c.args.count (term_value c.args.first) ≡ Ok (members_of (one_word c.in_ok-set.set)) = search rules in
    let behind : chosen_in c.args.last (term_value c.args.second) ≡ Ok (members_of (one_word c.in_ok-behind.behind)) = search rules in
    both_chosen c.args.model.now c.args.t c.args.count c.args.last (term_value c.args.first) (term_value c.args.second) (members_of (one_word c.in_ok-set.set)) (members_of (one_word c.in_ok-behind.behind)) c.ranged.result c.requires.counts set behind
    ((rw (to_z-of_z w128 c.total_in_rows.result fits) at c.ranged.ensures)
    ∙ ap ranged (rows_told c.args.model.now c.args.t c.numbers_in.result.now c.args.count c.args.last (members_of (one_word c.in_ok-set.set)) (members_of (one_word c.in_ok-behind.behind)) c.total_in_rows.result c.requires.counts c.numbers_in.ensures c.total_in_rows.ensures))
