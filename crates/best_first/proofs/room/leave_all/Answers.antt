use Rattle.std.proofs.Common.{length, sym, ◌∙◌}
use Rattle.std.proofs.lemmas.List.{length_push}
use Rattle.std.proofs.lemmas.Option.{slice_get_within}
use Rattle.std.specs.Vec.Iter.{into_iter_items}
use Rattle.shard_mail.proofs.Settling.{next_there}
use Rattle.best_first.proofs.Leaving.{apart_more, room_next}
use Rattle.best_first.proofs.Places.{rest_more}
use Rattle.best_first.proofs.room.leave_all.Goals as goal

pub leave-requires-clause-posters : goal.leave-requires-clause-posters
leave-requires-clause-posters g c =
    let all = c.args.shards.items in
    let h = c.loop-seated.invariant in
    let rest = into_iter_items c.loop-seated.seated-iterator in
    let after = into_iter_items c.next.new.self in
    let t = c.in-Some.seated in
    let done = c.loop-seated.yielded in
    c.requires.posters (length done) t (next_there done rest all after t h.rest c.in-Some.ensures.steps.0) ∙ sym h.room.posters_long

pub loop-seated-preserved : goal.loop-seated-preserved
loop-seated-preserved g c =
    let all = c.args.shards.items in
    let h = c.loop-seated.invariant in
    let rest = into_iter_items c.loop-seated.seated-iterator in
    let after = into_iter_items c.next.new.self in
    let step = c.in-Some.ensures.steps.0 in
    let t = c.in-Some.seated in
    let done = c.loop-seated.yielded in
    let old = c.loop-seated.room in
    let new = c.leave.new.room in
    let at = next_there done rest all after t h.rest step in
    let e = c.leave.ensures.ends in
    record {
      apart = apart_more done t (length all) old new e.0 e.1 h.apart h.room (c.requires.posters (length done) t at) e.3 e.4 c.leave.ensures.takers c.leave.ensures.seats c.leave.ensures.posters e.2;
      room = room_next (length all) (length done) _ old new h.room (slice_get_within all (length done) t at) (length_push done t) c.leave.ensures.room;
      rest = rest_more done rest after all t h.rest step;
      can_next = tt;
      is_finite = tt;
    }
