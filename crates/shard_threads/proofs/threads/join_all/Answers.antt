use Rattle.std.proofs.Common.{◌++◌, length, sym, refl, arith}
use Rattle.shard_threads.specs.Away.{behind}
use Rattle.shard_threads.proofs.Parting.{joined_last, kept_here, order_none, stay_back}
use Rattle.shard_threads.proofs.Places.{at_front, at_last, long_parts}
use Rattle.shard_threads.proofs.Staying.{stay_long, stay_same, stay_then, stay_to}
use Rattle.shard_threads.proofs.threads.join_all.Goals as goal

pub loop-handle-init : goal.loop-handle-init
loop-handle-init g c = record {
  stay = stay_same g.P.Player.keeps c.args.floor.now.board.now c.args.floor.now.boxes.now (c.args.players.now.items ++ behind c.args.away.items);
  promised = c.requires.promised;
  room = omega arith;
}

pub put_behind-requires : goal.put_behind-requires
put_behind-requires g c =
    let keeps = g.P.Player.keeps in
    let board = c.args.floor.now.board.now in
    let boxes = c.args.floor.now.boxes.now in
    let players = c.loop-handle.players.items in
    let away = c.loop-handle.away.items in
    let less = c.pop.new.self.items in
    let handle = c.in-Some.handle in
    let block = handle.promise.was.value.items in
    let here = kept_here keeps board boxes handle.promise c.join.result.items (c.loop-handle.invariant.promised (length less) handle (at_last away less handle c.in-Some.ensures.items)) c.join.ensures in
    let back = stay_long keeps board boxes block c.join.result.items here in
    let whole = stay_long keeps board boxes (c.args.players.now.items ++ behind c.args.away.items) (players ++ behind away) c.loop-handle.invariant.stay in
    let parts = long_parts (players ++ behind away) (players ++ block) (behind less) (joined_last players away less handle c.in-Some.ensures.items) in
    let both = long_parts (players ++ block) players block refl in
    let fits = c.requires.room in
    let grown = c.loop-handle.invariant.room in
    omega (arith, back, whole, parts, both, fits, grown)

pub loop-handle-preserved : goal.loop-handle-preserved
loop-handle-preserved g c =
    let keeps = g.P.Player.keeps in
    let board = c.args.floor.now.board.now in
    let boxes = c.args.floor.now.boxes.now in
    let all = c.args.players.now.items ++ behind c.args.away.items in
    let players = c.loop-handle.players.items in
    let away = c.loop-handle.away.items in
    let less = c.pop.new.self.items in
    let handle = c.in-Some.handle in
    let block = handle.promise.was.value.items in
    let h = c.loop-handle.invariant in
    let popped = c.in-Some.ensures.items in
    let here = kept_here keeps board boxes handle.promise c.join.result.items (h.promised (length less) handle (at_last away less handle popped)) c.join.ensures in
    let before = stay_to keeps board boxes all (players ++ behind away) ((players ++ block) ++ behind less) (sym (joined_last players away less handle popped)) h.stay in
    let x = h.room in
    let y = c.put_behind.ensures.room in
    record {
      stay = stay_then keeps board boxes all ((players ++ block) ++ behind less) (c.put_behind.new.list.items ++ behind less) before
          (stay_back keeps board boxes players block c.join.result.items c.put_behind.new.list.items (behind less) here c.put_behind.ensures.items);
      promised = λ i k at. h.promised i k (at_front away less _ popped i k at);
      room = omega (arith, x, y);
    }

pub returns : goal.returns
returns g c =
    stay_to g.P.Player.keeps c.args.floor.now.board.now c.args.floor.now.boxes.now (c.args.players.now.items ++ behind c.args.away.items) (c.loop-handle.players.items ++ behind c.loop-handle.away.items) c.loop-handle.players.items
    (sym (order_none c.loop-handle.players.items c.loop-handle.away.items (let none = c.in_default.ensures.cases in let v = c.loop-handle.away.ok.0 in omega (arith, none, v)))) c.loop-handle.invariant.stay
