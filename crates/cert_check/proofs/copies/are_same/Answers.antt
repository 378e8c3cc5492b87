use Rattle.cert_check.proofs.copies.are_same.Goals as goal

pub same-requires-clause-left : goal.same-requires-clause-left
same-requires-clause-left c = (c.args.looker.now, c.layout.ensures, c.requires.node.state)

pub same-requires-clause-right : goal.same-requires-clause-right
same-requires-clause-right c = (c.args.looker.now, c.layout.ensures, c.requires.here.state)
