use Rattle.command_line.proofs.Simple.{replay_simple, replay_free}
use Rattle.command_line.proofs.reading.replay_words.Goals as goal

pub found-requires-clause-simple : goal.found-requires-clause-simple
found-requires-clause-simple c = replay_simple _ c.in_ok-replay.ensures

pub found-requires-clause-free : goal.found-requires-clause-free
found-requires-clause-free c = replay_free _ c.in_ok-replay.ensures
