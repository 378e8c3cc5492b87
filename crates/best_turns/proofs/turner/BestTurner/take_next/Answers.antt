use Rattle.std.proofs.Common.{true}
use Rattle.best_turns.proofs.Acting.{on_acts, on_none, on_ends, on_goes, own_box, comes, takes, takes_none, takes_in_vain, counted, ends_counted}
use Rattle.best_turns.specs.Works.{HasTaken}
use Rattle.best_turns.specs.declared.turner.BestTurner.{BestTurner}
use Rattle.best_turns.proofs.turner.BestTurner.take_next.Goals as goal
use Rattle.best_turns.proofs.turner.BestTurner.take_next.Goals.{in-Ok, in-Err}

pub accept-requires : goal.accept-requires
accept-requires g c =
    let p = c.requires.0 in
    let a = c.requires.2 in
    let at = own_box p c.args.board.now c.args.boxes.now.items c.args.self.now c.args.seat.now a c.index.result.now c.index.ensures in
    (p, a.shard_record, a.stands, comes p c.args.board.now c.args.boxes.now.items c.args.self.now c.args.seat.now a c.index.result.now at c.in-Some.envelope c.in-Some.ensures.next)

pub returns-in_default-clause-acts : goal.returns-in_default-clause-acts
returns-in_default-clause-acts g c = λ p _ a. takes_none p c.args.board.now c.args.boxes.now.items c.args.self.now c.args.seat.now a c.take.new.taker c.in_default.ensures.none.0

pub returns-clause-acts : goal.returns-clause-acts
returns-clause-acts g c = λ p suited a.
    let s = c.args.self.now in
    let n = c.saturating_add-self.result in
    let u : BestTurner g.row.L.Denot g.row.K.Denot = record s { shard = c.accept.new.self; taker = c.take.new.taker } in
    let t : BestTurner g.row.L.Denot g.row.K.Denot = record u { letters = n } in
    elim c.match-accept.branch [
      | in-Ok w ↦ on_acts p c.args.board.now c.args.boxes.now.items t c.match-accept.seat c.args.seat.now w.seat-is c.match-accept.result (HasTaken a.shard_record) true w.result-is
          (let me = c.accept.ensures.me in
          let at = own_box p c.args.board.now c.args.boxes.now.items s c.args.seat.now a c.index.result.now c.index.ensures in
          let can = comes p c.args.board.now c.args.boxes.now.items s c.args.seat.now a c.index.result.now at c.in-Some.envelope c.in-Some.ensures.next in
          let took = takes p c.args.board.now c.args.boxes.now.items s c.args.seat.now a c.index.result.now at c.in-Some.envelope c.in-Some.ensures.next c.take.new.taker c.in-Some.ensures.some c.accept.new.self me (w.in-Ok.ensures.taken p a.shard_record suited a.stands can) in
          (counted p c.args.board.now c.args.boxes.now.items u c.args.seat.now took.0 n, took.1))
      | in-Err w ↦ on_none p c.args.board.now c.args.boxes.now.items t c.match-accept.seat w.halt.new.seat w.seat-is c.match-accept.result (HasTaken a.shard_record) w.halt.result w.result-is
    ]

pub returns-clause-ends : goal.returns-clause-ends
returns-clause-ends g c = λ p _ a.
    let s = c.args.self.now in
    let n = c.saturating_add-self.result in
    let u : BestTurner g.row.L.Denot g.row.K.Denot = record s { shard = c.accept.new.self; taker = c.take.new.taker } in
    let t : BestTurner g.row.L.Denot g.row.K.Denot = record u { letters = n } in
    elim c.match-accept.branch [
      | in-Ok w ↦ on_goes p c.args.board.now c.args.boxes.now.items t c.match-accept.seat c.args.seat.now w.seat-is c.match-accept.result true w.result-is
      | in-Err w ↦ on_ends p c.args.board.now c.args.boxes.now.items t c.match-accept.seat w.halt.new.seat w.seat-is c.match-accept.result w.halt.result w.result-is
          (let me = c.accept.ensures.me in
          let at = own_box p c.args.board.now c.args.boxes.now.items s c.args.seat.now a c.index.result.now c.index.ensures in
          ends_counted p c.args.board.now c.args.boxes.now.items w.halt.result u w.halt.new.seat (takes_in_vain p c.args.board.now c.args.boxes.now.items s c.args.seat.now a c.index.result.now at c.in-Some.envelope c.in-Some.ensures.next c.take.new.taker c.in-Some.ensures.some c.accept.new.self me (w.in-Err.ensures.same p a.shard_record a.stands).follows.ends
          w.halt.new.seat w.halt.result (record { ended = w.halt.ensures.ended; on_board = w.halt.ensures.seat; view = w.halt.ensures.view })) n)
    ]
