use Rattle.successors.proofs.visits.words_of.Goals as goal

pub words_of-requires-clause-state : goal.words_of-requires-clause-state
words_of-requires-clause-state c = (c.args.model.now, c.requires.layout, c.requires.packed)
