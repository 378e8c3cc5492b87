use Rattle.std.proofs.Common.{◌≡◌, length, arith}
use Rattle.pass_ends.proofs.Best.{no_end}
use Rattle.pass_ends.proofs.Drops.{dropped_all, dropped_more, dropped_wide, end_wide}
use Rattle.pass_ends.proofs.floors.dropped_in.Goals as goal

pub add_dropped-requires-clause-before : goal.add_dropped-requires-clause-before
add_dropped-requires-clause-before g c =
    let r = c.requires in
    dropped_wide r.0 r.1 c.args.ends.now r.2 r.4 c.loop-end.end-index (omega arith) c.loop-end.dropped.count c.loop-end.dropped.least_floor (c.loop-end.invariant r.0 r.1 r.2 r.3 r.4)

pub add_dropped-requires-clause-more : goal.add_dropped-requires-clause-more
add_dropped-requires-clause-more g c = end_wide c.requires.0 c.requires.1 c.args.ends.now c.requires.2 c.requires.4 c.loop-end.end-index no_end c.loop-end-test.true

pub loop-end-preserved : goal.loop-end-preserved
loop-end-preserved g c p records logs law are =
    let old = c.loop-end.dropped in
    let new = c.in_ok-dropped.dropped in
    dropped_more p records c.args.ends.now logs g.L.CostLaw.minimize g.L.CostLaw.operator law are c.loop-end.end-index no_end c.loop-end-test.true old.count old.least_floor (c.loop-end.invariant p records logs law are) new.count c.in_ok-dropped.ensures.count
    new.least_floor c.in_ok-dropped.ensures.floor

pub returns : goal.returns
returns g c p records logs law are =
    let e : c.loop-end.end-index ≡ length c.args.ends.now = omega arith in
    dropped_all p records c.args.ends.now logs are c.loop-end.end-index e c.loop-end.dropped.count c.loop-end.dropped.least_floor (c.loop-end.invariant p records logs law are)
