use Rattle.std.proofs.Common.{◌<◌, ◌^◌}
use Rattle.pass_ends.proofs.Endings.{drew, closes, share_below}
use Rattle.pass_ends.proofs.answers.closed.Goals as goal

pub returns : goal.returns
returns g c p records before after law left drops =
    let tally = c.args.tally.now in
    let dropped = c.args.dropped in
    let best = c.in_ok-found_in.field-0 in
    let small : 0 < dropped.count → tally.share < 2 ^ 56 = λ some. share_below c.is_beyond_memory.result dropped.count tally.share c.is_beyond_memory.ensures c.if-is_beyond_memory.false some in (
      drew p records before after tally c.args.cause left,
      c.in_ok-found_in.ensures.legal p records before after law left,
      closes p records before after tally c.args.cause left c.requires.no_halt dropped.count dropped.least_floor drops best (c.in_ok-found_in.ensures.best p records before after law left) (c.in_ok-found_in.ensures.held p records before after law left) small,
    )
