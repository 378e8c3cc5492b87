use Rattle.command_line.proofs.Simple.{generate_simple, generate_free}
use Rattle.command_line.proofs.reading.gen_words.Goals as goal

pub found-requires-clause-simple : goal.found-requires-clause-simple
found-requires-clause-simple c = generate_simple _ c.in_ok-generate.ensures

pub found-requires-clause-free : goal.found-requires-clause-free
found-requires-clause-free c = generate_free _ c.in_ok-generate.ensures
