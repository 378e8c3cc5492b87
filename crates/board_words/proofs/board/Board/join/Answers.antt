use Rattle.std.proofs.Common.{sym, ap, ◌∙◌, arith}
use Rattle.board_words.proofs.Keeps as keep
use Rattle.board_words.proofs.board.Board.join.Goals as goal

pub join_seat-requires : goal.join_seat-requires
join_seat-requires c =
    let t = c.self.inside.table.shared in
    let s = c.seat.inside.seat in
    let o = c.other.inside.seat in (
      ap (λ k. k.board) c.seat.view_is ∙ (c.requires.seat.0 ∙ sym (ap (λ k. k.id) c.self.view_is)),
      ap (λ k. k.board) c.other.view_is ∙ (c.requires.other.0 ∙ sym (ap (λ k. k.id) c.self.view_is)),
      c.other.invariant.0,
      omega (arith, c.self.invariant),
      keep.joins t.key t.table_id.slots s.id s.me c.seat.invariant.0 c.seat.invariant.1 o.id o.me.0 c.other.invariant.1,
    )
