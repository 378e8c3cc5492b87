use Rattle.std.proofs.Common.{◌≡◌, ◌≤◌, drop}
use Rattle.best_turns.specs.Envelopes.{terms_of}
use Rattle.best_ledger.specs.Searches.{pass_of, search_of}
use Rattle.best_first.specs.Crews.{AreFresh}
use Rattle.best_first.specs.Mails.{AreMails}
use Rattle.best_first.specs.declared.mails.Mails.{Mails as MailsOf}
use Rattle.best_first.proofs.crew.make_turners.Given as goal

-- the first shards have their ends of the mailboxes, and those of the others are left
abbrev pub invariant-loop-number : goal.invariant-loop-number
invariant-loop-number g l = record {
  fresh : (some : 1 ≤ l.options.workers) (mails : MailsOf) → mails.takers.items ≡ l.fn.takers.items → mails.posters.items ≡ l.fn.posters.items → AreMails l.options.workers (terms_of l.model) l.options.workers mails
      → AreFresh (pass_of (search_of l.model l.options some)) l.options.budget mails.boxes.items l.number l.turners.items;
  takers : l.takers.items ≡ drop l.number l.fn.takers.items;
  posters : l.posters.items ≡ drop l.number l.fn.posters.items;
}
