use Rattle.std.proofs.Common.{sym, ap, ◌∙◌, ◌<◌, ◌≡◌, subst, arith}
use mathlib.Core.Option.{none}
use Rattle.atomic_table.specs.Table.{step}
use Rattle.board_words.proofs.Keeps as keep
use Rattle.board_words.proofs.board.Board.totals.Goals as goal

pub load-best-requires : goal.load-best-requires
load-best-requires c =
    let t = c.self.inside.table.shared in
    let s = c.seat.inside.seat in (
      ap (λ k. k.board) c.seat.view_is ∙ (c.requires.0 ∙ sym (ap (λ k. k.id) c.self.view_is)),
      omega (arith, c.self.invariant),
      keep.tells_best t.key t.table_id.slots s.id s.me c.seat.invariant.0 c.seat.invariant.1 (step t.table_id.slots 0 0 0 none),
    )

pub load-drawn-requires : goal.load-drawn-requires
load-drawn-requires c =
    let t = c.self.inside.table.shared in
    let s = c.seat.inside.seat in
    let m = c.load-best.new.seat in
    let same : m.me ≡ s.me = c.load-best.ensures.2.0 in (
      c.load-best.ensures.0 ∙ (ap (λ k. k.board) c.seat.view_is ∙ (c.requires.0 ∙ sym (ap (λ k. k.id) c.self.view_is))),
      omega (arith, c.self.invariant),
      keep.tells_drawn t.key t.table_id.slots m.id m.me (ap (λ k. k.1) same ∙ c.seat.invariant.0) (subst (λ (k : _). 0 < k.0.part) (sym same) c.seat.invariant.1) (step t.table_id.slots 1 0 0 none),
    )

pub load-cause-requires : goal.load-cause-requires
load-cause-requires c =
    let t = c.self.inside.table.shared in
    let s = c.seat.inside.seat in
    let m = c.load-drawn.new.seat in
    let same : m.me ≡ s.me = c.load-drawn.ensures.2.0 ∙ c.load-best.ensures.2.0 in (
      c.load-drawn.ensures.0 ∙ (c.load-best.ensures.0 ∙ (ap (λ k. k.board) c.seat.view_is ∙ (c.requires.0 ∙ sym (ap (λ k. k.id) c.self.view_is)))),
      omega (arith, c.self.invariant),
      keep.tells_cause t.key t.table_id.slots m.id m.me (ap (λ k. k.1) same ∙ c.seat.invariant.0) (subst (λ (k : _). 0 < k.0.part) (sym same) c.seat.invariant.1) (step t.table_id.slots 2 0 0 none),
    )
