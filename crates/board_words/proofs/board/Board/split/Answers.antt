use Rattle.std.proofs.Common.{sym, ap, ◌∙◌, arith}
use Rattle.board_words.proofs.Keeps as keep
use Rattle.board_words.proofs.board.Board.split.Goals as goal

pub split_seat-requires : goal.split_seat-requires
split_seat-requires c =
    let t = c.self.inside.table.shared in
    let s = c.seat.inside.seat in (
      ap (λ k. k.board) c.seat.view_is ∙ (c.requires.seat.0 ∙ sym (ap (λ k. k.id) c.self.view_is)),
      omega (arith, c.self.invariant),
      keep.splits t.key t.table_id.slots s.id s.me c.seat.invariant.0 c.seat.invariant.1 (rw (ap (λ k. k.view) c.seat.view_is) c.requires.part),
    )
