use Rattle.std.proofs.Common.{rules, arith, ◌≡◌, ◌∷◌, [], FitsSigned, w64}
use Rattle.std.proofs.lemmas.Int.{to_z-of_z}
use Rattle.state_layout.specs.Packing.{state_in}
use Rattle.packed_eval.proofs.Sides.{one_row, two_row, only_item, two_items}
use Rattle.packed_eval.proofs.rows.row_of.Goals as goal

pub returns-then-is_member : goal.returns-then-is_member
returns-then-is_member c =
    let items : c.as_slice.result.now ≡ c.args.ns.now = search rules in
    let only : c.as_slice.result.now ≡ c.n-item.result ∷ [] = only_item c.as_slice.result.now _ c.n-item.result (omega (arith, c.in-len1.len_at_least, c.in-len1.len_below)) c.n-item.is in
    rw (← items) (one_row c.args.at.now.model.now (state_in c.args.at.now.words.now) c.args.at.now.args.now c.args.t c.as_slice.result.now c.n-item.result c.only_row.result only (c.is_member.ensures c.if-is_member.true) c.only_row.ensures)

pub returns-in_ok-z-in-len2 : goal.returns-in_ok-z-in-len2
returns-in_ok-z-in-len2 c =
    let items : c.as_slice.result.now ≡ c.args.ns.now = search rules in
    let both : c.as_slice.result.now ≡ c.n-item-then-this-lt3.result ∷ c.last-item.result ∷ [] = two_items c.as_slice.result.now _ _ c.n-item-then-this-lt3.result c.last-item.result (omega (arith, c.in-len2.len_at_least, c.in-len2.len_below)) c.n-item-then-this-lt3.is c.last-item.is in
    let fits : FitsSigned w64 c.in_ok-z-in-len2.z = search rules in
    rw (← items) (two_row c.args.at.now.model.now (state_in c.args.at.now.words.now) c.args.at.now.args.now c.args.t c.as_slice.result.now c.n-item-then-this-lt3.result c.last-item.result c.in_ok-z-in-len2.z c.row_at.result both c.in_ok-z-in-len2.ensures (c.is_member-in-len2.ensures c.if-is_member-2.true) (rw (to_z-of_z w64 c.in_ok-z-in-len2.z fits) at c.row_at.ensures))
