use Rattle.honest_states.proofs.Closing.{closed_is}
use Rattle.honest_states.proofs.closed.is_closed.Goals as goal

pub returns : goal.returns
returns c = λ yes. closed_is c.args.table.now c.args.free c.args.symbols.now (c.are_free.ensures c.if-not-are_free.false) (c.defined_from.ensures c.if-not-defined_from.false) (c.are_symbols_below.ensures yes)
