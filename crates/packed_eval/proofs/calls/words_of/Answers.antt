use Rattle.std.proofs.Common.{rules}
use Rattle.packed_eval.proofs.calls.words_of.Goals as goal

pub returns-clause-shown : goal.returns-clause-shown
returns-clause-shown c = record { layout = c.requires.layout; fits = c.words-words.ensures.fits; small = search rules }
