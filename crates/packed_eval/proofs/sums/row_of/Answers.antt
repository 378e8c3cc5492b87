use Rattle.std.proofs.Common.{rules, ◌≤◌, ◌*◌, ◌∙◌, length}
use Rattle.packed_words.specs.Places.{most}
use Rattle.packed_eval.proofs.Ways.{place_next, row_cells}
use Rattle.packed_eval.proofs.sums.row_of.Goals as goal

pub returns : goal.returns
returns c place h k =
    let few : length c.args.cells.now ≤ most = search rules in
    row_cells c.args.cells.now (place * c.args.count) c.next_place.result c.min-start.result k (c.next_place.ensures ∙ place_next c.args.at place c.args.count 0 h) c.min-start.ensures few
