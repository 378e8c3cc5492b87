use Rattle.std.proofs.Common.{refl, sym, ap, ◌∙◌, subst, arith}
use mathlib.Core.Option.{none}
use Rattle.atomic_table.specs.Table.{step}
use Rattle.board_words.specs.Causes.{IsHaltWord}
use Rattle.board_words.proofs.Keeps as keep
use Rattle.board_words.proofs.board.Board.halt.Goals as goal

pub fetch_max-requires : goal.fetch_max-requires
fetch_max-requires c =
    let t = c.self.inside.table.shared in
    let s = c.seat.inside.seat in (
      ap (λ k. k.board) c.seat.view_is ∙ (c.requires.0 ∙ sym (ap (λ k. k.id) c.self.view_is)),
      omega (arith, c.self.invariant),
      keep.halts t.key t.table_id.slots s.id s.me c.seat.invariant.0 c.seat.invariant.1 (step t.table_id.slots 2 c.number.result 0 none) c.number.result
          (subst IsHaltWord (sym c.number.ensures) (keep.number_fits c.args.cause)) refl,
    )
