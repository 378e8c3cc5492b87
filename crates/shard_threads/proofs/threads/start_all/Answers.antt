use Rattle.std.proofs.Common.{◌≡◌, ◌++◌, length, slice_get, ap, sym, refl, ◌∙◌, arith}
use Rattle.std.proofs.lemmas.List.{length_push}
use Rattle.shard_threads.specs.Away.{behind}
use Rattle.shard_threads.proofs.Parting.{order_more, stay_back, stay_none}
use Rattle.shard_threads.proofs.Places.{each_more, long_parts, none_there}
use Rattle.shard_threads.proofs.Staying.{held_back, held_front, held_still, stay_long, stay_then, stay_to}
use Rattle.shard_threads.proofs.threads.start_all.Goals as goal

pub loop-started-init : goal.loop-started-init
loop-started-init g c =
    let none = c.requires.none in
    let room = c.requires.room in
    record {
      stay = stay_none g.P.Player.keeps c.args.floor.now.board.now c.args.floor.now.boxes.now c.args.players.now.items c.args.away.now.items none;
      promised = λ i h at. absurd (none_there i h (ap (λ hs. slice_get hs i) (sym none) ∙ at));
      gone = (let long = ap length none in omega (arith, long));
      room = omega arith;
      away_room = room;
    }

pub start-requires-after_bounds : goal.start-requires-after_bounds
start-requires-after_bounds g c κs within =
    let keeps = g.P.Player.keeps in
    let board = c.args.floor.now.board.now in
    let boxes = c.args.floor.now.boxes.now in
    let players = c.loop-started.players.items in
    let rest = behind c.loop-started.away.items in
    let now = held_still keeps board boxes c.args.players.now.items (players ++ rest) c.requires.held c.loop-started.invariant.stay in
    held_back keeps board boxes players c.take_last.new.list.items c.in-Some.block.items c.in-Some.ensures.some (held_front keeps board boxes (players ++ rest) players rest refl now)

pub push_reserved-requires : goal.push_reserved-requires
push_reserved-requires g c =
    let gone = c.loop-started.invariant.gone in
    let room = c.loop-started.invariant.away_room in
    let lt = c.loop-started-test.true in
    let v = c.loop-started.away.ok.0 in
    omega (arith, gone, room, lt, v)

pub put_behind-requires : goal.put_behind-requires
put_behind-requires g c =
    let block = c.in-Some.block in
    let back = stay_long g.P.Player.keeps c.args.floor.now.board.now c.args.floor.now.boxes.now block.items c.in-Err.block.items c.in-Err.ensures.back in
    let whole = long_parts c.loop-started.players.items c.take_last.new.list.items block.items c.in-Some.ensures.some in
    let v = c.loop-started.players.ok.0 in
    let w = c.loop-started.players.ok.1 in
    let grown = c.take_last.ensures.room in
    omega (arith, back, whole, v, w, grown)

pub returns-in_default-clause-stay : goal.returns-in_default-clause-stay
returns-in_default-clause-stay g c =
    let rest = behind c.loop-started.away.items in
    stay_to g.P.Player.keeps c.args.floor.now.board.now c.args.floor.now.boxes.now c.args.players.now.items (c.loop-started.players.items ++ rest) (c.take_last.new.list.items ++ rest) (ap (λ xs. xs ++ rest) c.in_default.ensures.none) c.loop-started.invariant.stay

pub returns-in-Err-clause-stay : goal.returns-in-Err-clause-stay
returns-in-Err-clause-stay g c =
    let keeps = g.P.Player.keeps in
    let board = c.args.floor.now.board.now in
    let boxes = c.args.floor.now.boxes.now in
    let rest = behind c.loop-started.away.items in
    let less = c.take_last.new.list.items in
    let block = c.in-Some.block.items in
    let whole = stay_to keeps board boxes c.args.players.now.items (c.loop-started.players.items ++ rest) ((less ++ block) ++ rest) (ap (λ xs. xs ++ rest) (sym c.in-Some.ensures.some)) c.loop-started.invariant.stay in
    stay_then keeps board boxes c.args.players.now.items ((less ++ block) ++ rest) (c.put_behind.new.list.items ++ rest) whole
    (stay_back keeps board boxes less block c.in-Err.block.items c.put_behind.new.list.items rest c.in-Err.ensures.back c.put_behind.ensures.items)

pub loop-started-preserved : goal.loop-started-preserved
loop-started-preserved g c =
    let h = c.loop-started.invariant in
    let gone = h.gone in
    let room = h.room in
    let away_room = h.away_room in
    let x = c.take_last.ensures.room in
    let z = c.push_reserved.ensures.capacity in
    let away = c.loop-started.away.items in
    let more = c.push_reserved.new.self.items in
    let handle = c.in-Ok.handle in
    let pushed = c.push_reserved.ensures.items in
    let long = ap length pushed ∙ length_push away handle in
    record {
      stay = stay_to g.P.Player.keeps c.args.floor.now.board.now c.args.floor.now.boxes.now c.args.players.now.items (c.loop-started.players.items ++ behind away) (c.take_last.new.list.items ++ behind more)
          (order_more c.loop-started.players.items c.take_last.new.list.items c.in-Some.block.items away more handle c.in-Some.ensures.some pushed c.in-Ok.ensures.away.1) h.stay;
      promised = each_more (λ i k. (k.promise.board.value ≡ c.args.floor.now.board.now) × (k.promise.boxes.value ≡ c.args.floor.now.boxes.now)) away more handle pushed h.promised c.in-Ok.ensures.away.0;
      gone = omega (arith, gone, long);
      room = omega (arith, room, x);
      away_room = omega (arith, away_room, z);
    }
