use Rattle.std.proofs.Common.{true, arith}
use Rattle.std.specs.Vec.{with_item}
use Rattle.best_ledger.specs.Records.{to_post}
use Rattle.best_turns.proofs.Acting.{if_acts, if_none, on_ends, on_goes, rests, box_there, box_at, poster_there, poster_at, poster_of, poster_named, poster_lawful, posts, posts_in_vain}
use Rattle.best_turns.specs.Works.{HasPostedNext}
use Rattle.best_turns.specs.declared.turner.BestTurner.{BestTurner}
use Rattle.best_turns.proofs.turner.BestTurner.post_next.Goals as goal
use Rattle.best_turns.proofs.turner.BestTurner.post_next.Goals.{in-Ok, in-Err}

pub returns-in_default-clause-acts : goal.returns-in_default-clause-acts
returns-in_default-clause-acts g c = λ p _ a.
    let me = c.next_letter.ensures.me in
    let none = c.in_default.ensures.none p a.shard_record a.stands in
    rests p c.args.board.now c.args.boxes.now.items c.args.self.now c.args.seat.now a c.next_letter.new.self me none.1 none.0

pub index-requires : goal.index-requires
index-requires g c =
    let p = c.requires.0 in
    let a = c.requires.2 in
    let there = box_there p c.args.board.now c.args.boxes.now.items c.args.self.now c.args.seat.now a (to_post c.in-Some.to c.in-Some.letter) c.next_letter.new.self c.next_letter.ensures.me (c.in-Some.ensures.posted p a.shard_record a.stands) in
    omega (arith, there, c.args.boxes.now.ok.0)

pub index_mut-requires : goal.index_mut-requires
index_mut-requires g c =
    let p = c.requires.0 in
    let a = c.requires.2 in
    let there = poster_there p c.args.board.now c.args.boxes.now.items c.args.self.now c.args.seat.now a (to_post c.in-Some.to c.in-Some.letter) c.next_letter.new.self c.next_letter.ensures.me (c.in-Some.ensures.posted p a.shard_record a.stands) in
    omega (arith, there, c.args.self.now.posters.ok.0)

pub post-requires-clause-poster : goal.post-requires-clause-poster
post-requires-clause-poster g c =
    let p = c.requires.0 in
    let a = c.requires.2 in
    let is = c.in-Some.ensures.posted p a.shard_record a.stands in
    let box = box_at p c.args.board.now c.args.boxes.now.items c.args.self.now c.args.seat.now a (to_post c.in-Some.to c.in-Some.letter) c.next_letter.new.self c.next_letter.ensures.me is c.index.result.now c.index.ensures in
    let at = poster_at p c.args.board.now c.args.boxes.now.items c.args.self.now c.args.seat.now a (to_post c.in-Some.to c.in-Some.letter) c.next_letter.new.self c.next_letter.ensures.me is c.index_mut.result.now c.index_mut.ensures.value in
    poster_of p c.args.board.now c.args.boxes.now.items c.args.self.now c.args.seat.now a (to_post c.in-Some.to c.in-Some.letter) c.next_letter.new.self c.next_letter.ensures.me is c.index.result.now box c.index_mut.result.now at

pub post-requires-clause-sender : goal.post-requires-clause-sender
post-requires-clause-sender g c =
    let p = c.requires.0 in
    let a = c.requires.2 in
    let is = c.in-Some.ensures.posted p a.shard_record a.stands in
    let box = box_at p c.args.board.now c.args.boxes.now.items c.args.self.now c.args.seat.now a (to_post c.in-Some.to c.in-Some.letter) c.next_letter.new.self c.next_letter.ensures.me is c.index.result.now c.index.ensures in
    let at = poster_at p c.args.board.now c.args.boxes.now.items c.args.self.now c.args.seat.now a (to_post c.in-Some.to c.in-Some.letter) c.next_letter.new.self c.next_letter.ensures.me is c.index_mut.result.now c.index_mut.ensures.value in
    poster_named p c.args.board.now c.args.boxes.now.items c.args.self.now c.args.seat.now a (to_post c.in-Some.to c.in-Some.letter) c.next_letter.new.self c.next_letter.ensures.me is c.index.result.now box c.index_mut.result.now at

pub post-requires-clause-lawful : goal.post-requires-clause-lawful
post-requires-clause-lawful g c =
    let p = c.requires.0 in
    let a = c.requires.2 in
    let is = c.in-Some.ensures.posted p a.shard_record a.stands in
    let box = box_at p c.args.board.now c.args.boxes.now.items c.args.self.now c.args.seat.now a (to_post c.in-Some.to c.in-Some.letter) c.next_letter.new.self c.next_letter.ensures.me is c.index.result.now c.index.ensures in
    let at = poster_at p c.args.board.now c.args.boxes.now.items c.args.self.now c.args.seat.now a (to_post c.in-Some.to c.in-Some.letter) c.next_letter.new.self c.next_letter.ensures.me is c.index_mut.result.now c.index_mut.ensures.value in
    poster_lawful p c.args.board.now c.args.boxes.now.items c.args.self.now c.args.seat.now a (to_post c.in-Some.to c.in-Some.letter) c.next_letter.new.self c.next_letter.ensures.me is c.index.result.now box c.index_mut.result.now at

pub returns-clause-acts : goal.returns-clause-acts
returns-clause-acts g c = λ p _ a.
    let s = c.args.self.now in
    let t : BestTurner g.row.L.Denot g.row.K.Denot = record s { shard = c.next_letter.new.self; posters = with_item s.posters c.in-Some.to c.post.new.poster } in
    elim c.match-post.branch [
      | in-Ok w ↦ if_acts p c.args.board.now c.args.boxes.now.items t c.match-post.seat c.args.seat.now w.seat-is c.match-post.result (HasPostedNext a.shard_record) true w.result-is
          (let is = c.in-Some.ensures.posted p a.shard_record a.stands in
          let box = box_at p c.args.board.now c.args.boxes.now.items s c.args.seat.now a (to_post c.in-Some.to c.in-Some.letter) c.next_letter.new.self c.next_letter.ensures.me is c.index.result.now c.index.ensures in
          let at = poster_at p c.args.board.now c.args.boxes.now.items s c.args.seat.now a (to_post c.in-Some.to c.in-Some.letter) c.next_letter.new.self c.next_letter.ensures.me is c.index_mut.result.now c.index_mut.ensures.value in
          posts p c.args.board.now c.args.boxes.now.items s c.args.seat.now a (to_post c.in-Some.to c.in-Some.letter) c.next_letter.new.self c.next_letter.ensures.me is c.index.result.now box c.index_mut.result.now at c.post.new.poster w.in-Ok.ensures.ok)
      | in-Err w ↦ if_none p c.args.board.now c.args.boxes.now.items t c.match-post.seat w.halt.new.seat w.seat-is c.match-post.result (HasPostedNext a.shard_record) w.halt.result w.result-is
    ]

pub returns-clause-ends : goal.returns-clause-ends
returns-clause-ends g c = λ p _ a.
    let s = c.args.self.now in
    let t : BestTurner g.row.L.Denot g.row.K.Denot = record s { shard = c.next_letter.new.self; posters = with_item s.posters c.in-Some.to c.post.new.poster } in
    elim c.match-post.branch [
      | in-Ok w ↦ on_goes p c.args.board.now c.args.boxes.now.items t c.match-post.seat c.args.seat.now w.seat-is c.match-post.result true w.result-is
      | in-Err w ↦ on_ends p c.args.board.now c.args.boxes.now.items t c.match-post.seat w.halt.new.seat w.seat-is c.match-post.result w.halt.result w.result-is
          (let is = c.in-Some.ensures.posted p a.shard_record a.stands in
          let box = box_at p c.args.board.now c.args.boxes.now.items s c.args.seat.now a (to_post c.in-Some.to c.in-Some.letter) c.next_letter.new.self c.next_letter.ensures.me is c.index.result.now c.index.ensures in
          let at = poster_at p c.args.board.now c.args.boxes.now.items s c.args.seat.now a (to_post c.in-Some.to c.in-Some.letter) c.next_letter.new.self c.next_letter.ensures.me is c.index_mut.result.now c.index_mut.ensures.value in
          posts_in_vain p c.args.board.now c.args.boxes.now.items s c.args.seat.now a (to_post c.in-Some.to c.in-Some.letter) c.next_letter.new.self c.next_letter.ensures.me is c.index.result.now box c.index_mut.result.now at c.post.new.poster w.in-Err.ensures.err.1 w.halt.new.seat w.halt.result
          (record { ended = w.halt.ensures.ended; on_board = w.halt.ensures.seat; view = w.halt.ensures.view }))
    ]
