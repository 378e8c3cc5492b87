use Rattle.std.proofs.Common.{rules, ◌≡◌, ℕ, List, sym, ap, ◌∙◌, subst, true}
use Rattle.dp_model.specs.Typing.{is_set_below}
use Rattle.dp_model.specs.Evaluation.{has, count_of, cells_of, cells_object, set_cell, place_in, table_counts}
use Rattle.wide_values.specs.Wide.{wide_members}
use Rattle.poly_eval.specs.Bits.{Tells}
use Rattle.poly_eval.proofs.Steps.{if_both}
use Rattle.poly_eval.proofs.Fitting.{cell_below}
use Rattle.poly_eval.proofs.cells.set_cell.Goals as goal

pub returns-clause-bits : goal.returns-clause-bits
returns-clause-bits c =
    let m = c.args.model.now in
    let t = c.args.t in
    let place : place_in m t (wide_members (table_counts m t) c.args.numbers.items) ≡ c.in_ok-place.place = search rules in
    let count : c.in_ok-count.count ≡ count_of m (cells_object (cells_of m t)) = search rules in
    let found : set_cell (cells_of m t) c.in_ok-place.place ≡ c.deref-2.result.now = search rules in
    let set : set_cell (cells_of m t) (place_in m t (wide_members (table_counts m t) c.args.numbers.items)) ≡ c.deref-2.result.now = ap (set_cell (cells_of m t)) place ∙ found in
    if_both c.row_of.result _ _ _ c.row_of.ensures.many c.row_of.ensures.bits (λ row many bits v. record {
      below = subst (λ (n : ℕ). is_set_below n (set_cell (cells_of m t) (place_in m t (wide_members (table_counts m t) c.args.numbers.items))) ≡ true) (sym (many ∙ count)) (cell_below m t (place_in m t (wide_members (table_counts m t) c.args.numbers.items)));
      bit = subst (λ (xs : List ℕ). Tells v row.items (has xs)) (sym set) (bits v);
    })
