use Rattle.shard_mail.specs.Names.{name_of}
use Rattle.shard_mail.proofs.mailbox.Mailbox.new.Given as goal

-- the name is that of the terms that were given
abbrev pub ghosts-open : goal.ghosts-open
ghosts-open g a = record { name = name_of g.row.T-Terms.coded a.terms.now; senders = a.senders }
