use Rattle.command_line.proofs.Simple.{check_simple, check_free}
use Rattle.command_line.proofs.reading.check_words.Goals as goal

pub found-requires-clause-simple : goal.found-requires-clause-simple
found-requires-clause-simple c = check_simple _ c.in_ok-check.ensures

pub found-requires-clause-free : goal.found-requires-clause-free
found-requires-clause-free c = check_free _ c.in_ok-check.ensures
