use Rattle.std.proofs.Common.{rules}
use Rattle.best_turns.proofs.Working.{worked, on_each}
use Rattle.best_turns.proofs.Acting.{idles}
use Rattle.best_turns.proofs.turner.BestTurner.act.Goals as goal

pub take-requires : goal.take-requires
take-requires g c =
    let p = c.requires.0 in
    let suited = c.requires.1 in
    (p, suited, (c.in_ok-look_for_halt.ensures.acts p suited c.requires.2).0)

pub handle-requires : goal.handle-requires
handle-requires g c =
    let p = c.requires.0 in
    let suited = c.requires.1 in
    (p, suited, (c.in_ok-take.ensures.acts p suited (c.in_ok-look_for_halt.ensures.acts p suited c.requires.2).0).0)

pub post-requires : goal.post-requires
post-requires g c =
    let p = c.requires.0 in
    let suited = c.requires.1 in
    (p, suited, (c.in_ok-handle.ensures.acts p suited (c.in_ok-take.ensures.acts p suited (c.in_ok-look_for_halt.ensures.acts p suited c.requires.2).0).0).0)

pub returns-in_err-take-clause-ends : goal.returns-in_err-take-clause-ends
returns-in_err-take-clause-ends g c = λ p suited a.
    let left = c.in_err-take.ensures.ends p suited (c.in_ok-look_for_halt.ensures.acts p suited a).0 in
    search rules

pub returns-in_err-handle-clause-ends : goal.returns-in_err-handle-clause-ends
returns-in_err-handle-clause-ends g c = λ p suited a.
    let left = c.in_err-handle.ensures.ends p suited (c.in_ok-take.ensures.acts p suited (c.in_ok-look_for_halt.ensures.acts p suited a).0).0 in
    search rules

pub returns-in_err-post-clause-ends : goal.returns-in_err-post-clause-ends
returns-in_err-post-clause-ends g c = λ p suited a.
    let left = c.in_err-post.ensures.ends p suited (c.in_ok-handle.ensures.acts p suited (c.in_ok-take.ensures.acts p suited (c.in_ok-look_for_halt.ensures.acts p suited a).0).0).0 in
    search rules

pub returns-clause-acts : goal.returns-clause-acts
returns-clause-acts g c = λ p suited a.
    let looked = c.in_ok-look_for_halt.ensures.acts p suited a in
    let taken = c.in_ok-take.ensures.acts p suited looked.0 in
    let handled = c.in_ok-handle.ensures.acts p suited taken.0 in
    let posted = c.in_ok-post.ensures.acts p suited handled.0 in
    on_each c.rest.result
    (posted.0, worked a.shard_record looked.0.shard_record taken.0.shard_record handled.0.shard_record posted.0.shard_record looked.1 taken.1 handled.1 posted.1 posted.2)

pub returns-clause-ends : goal.returns-clause-ends
returns-clause-ends g c = λ p suited a.
    let looked = c.in_ok-look_for_halt.ensures.acts p suited a in
    let taken = c.in_ok-take.ensures.acts p suited looked.0 in
    let handled = c.in_ok-handle.ensures.acts p suited taken.0 in
    idles p c.args.board.now c.args.boxes.now.items c.post.new.self c.post.new.seat (c.in_ok-post.ensures.acts p suited handled.0).0 c.rest.result c.rest.ensures
