use Rattle.shard_threads.proofs.Staying.{stay_same}
use Rattle.shard_threads.proofs.threads.turn_away.Goals as goal

pub returns-then-is_refused : goal.returns-then-is_refused
returns-then-is_refused g c = stay_same g.P.Player.keeps c.args.floor.now.board.now c.args.floor.now.boxes.now c.args.block.items
