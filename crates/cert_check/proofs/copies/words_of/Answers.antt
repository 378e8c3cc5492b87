use Rattle.cert_check.proofs.copies.words_of.Goals as goal

pub state_key-requires : goal.state_key-requires
state_key-requires g c = (c.args.looker.now, c.layout.ensures, c.requires.node.state)
