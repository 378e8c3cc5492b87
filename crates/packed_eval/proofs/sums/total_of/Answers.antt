use Rattle.std.proofs.Common.{rules, arith, ◌≡◌, ◌∙◌, ◌∷◌, [], refl, take, drop, FitsSigned}
use Rattle.std.specs.Int.{w128}
use Rattle.std.specs.Prelude.{slice_index}
use Rattle.std.proofs.lemmas.Int.{to_z-of_z}
use Rattle.state_layout.specs.Signatures.{word_count}
use Rattle.packed_eval.specs.Sums.{cell_at}
use Rattle.packed_eval.proofs.Firsts.{two_counts, two_told}
use Rattle.packed_eval.proofs.sums.total_of.Goals as goal

pub returns-in-len2 : goal.returns-in-len2
returns-in-len2 c =
    let counts = c.args.counts.now in
    let both : counts ≡ slice_index counts 0 ∷ slice_index counts 1 ∷ [] = two_counts counts 0 0 (slice_index counts 0) (slice_index counts 1) (omega (arith, c.in-len2.len_at_least, c.in-len2.len_below)) refl refl in
    let fits : FitsSigned w128 c.total_of_two.result = search rules in
    let front : c.split_at.result.0.now ≡ take (word_count (slice_index counts 0)) c.args.held.now = search rules in
    let back : c.split_at.result.1.now ≡ drop (word_count (slice_index counts 0)) c.args.held.now = search rules in
    to_z-of_z w128 c.total_of_two.result fits
    ∙ two_told (cell_at c.args.cells.now) counts c.args.held.now c.split_at.result.0.now c.split_at.result.1.now (slice_index counts 0) (slice_index counts 1) c.total_of_two.result both c.requires.len front back (c.total_of_two.ensures.value 0 (omega arith))
