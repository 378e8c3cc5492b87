use Rattle.std.proofs.Common.{refl, sym, ap, ◌∙◌, arith}
use mathlib.Core.Option.{none}
use Rattle.atomic_table.specs.Table.{step}
use Rattle.board_words.proofs.Keeps as keep
use Rattle.board_words.proofs.board.Board.offer.Goals as goal

pub fetch_min-requires : goal.fetch_min-requires
fetch_min-requires c =
    let t = c.self.inside.table.shared in
    let s = c.seat.inside.seat in (
      ap (λ k. k.board) c.seat.view_is ∙ (c.requires.0 ∙ sym (ap (λ k. k.id) c.self.view_is)),
      omega (arith, c.self.invariant),
      keep.offers t.key t.table_id.slots s.id s.me c.seat.invariant.0 c.seat.invariant.1 (step t.table_id.slots 0 c.args.word 0 none) c.args.word refl,
    )
