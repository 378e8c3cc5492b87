use Rattle.best_turns.specs.Envelopes.{terms_of}
use Rattle.best_first.specs.Mails.{AreMails}
use Rattle.best_first.proofs.mails.make_mails.Given as goal

abbrev pub invariant-loop : goal.invariant-loop
invariant-loop l = AreMails l.shards (terms_of l.model) l.counter l.mails
