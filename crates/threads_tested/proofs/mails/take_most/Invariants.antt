use Rattle.shard_mail.specs.Ends.{IsTakerOf}
use Rattle.threads_tested.proofs.mails.take_most.Given as goal

abbrev pub invariant-loop : goal.invariant-loop
invariant-loop g l =
    IsTakerOf l.mailbox l.taker
    × (goal.iterator-loop g).can_next l.iterator'
    × (goal.iterator-loop g).is_finite l.iterator'
