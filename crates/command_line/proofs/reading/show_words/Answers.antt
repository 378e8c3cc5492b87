use Rattle.command_line.proofs.Simple.{show_simple, show_free}
use Rattle.command_line.proofs.reading.show_words.Goals as goal

pub found-requires-clause-simple : goal.found-requires-clause-simple
found-requires-clause-simple c = show_simple _ c.in_ok-show.ensures

pub found-requires-clause-free : goal.found-requires-clause-free
found-requires-clause-free c = show_free _ c.in_ok-show.ensures
