use Rattle.threads_tested.specs.Counted.{HasPosted}
use Rattle.threads_tested.proofs.mails.post_all.Given as goal

abbrev pub invariant-loop-count : goal.invariant-loop-count
invariant-loop-count g l = HasPosted l.mailbox 7 l.from l.count l.poster
