use Rattle.pass_ledger.proofs.Groups.{empty, prefix, next, grows, marks, states}
use Rattle.pass_ledger.proofs.laws.law_letters.Goals as goal

pub returns : goal.returns
returns c = record { empty = empty; front = prefix; next = next; grown = grows; marks = marks; states = states }
