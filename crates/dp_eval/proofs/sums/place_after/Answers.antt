use Rattle.dp_eval.proofs.Steps.{place_after-first}
use Rattle.dp_eval.proofs.sums.place_after.Goals as goal

pub returns-in-len1-up : goal.returns-in-len1-up
returns-in-len1-up c = λ place h. rw (place_after-first place c.args.counts.now c.args.member c.in-len1-up.len_at_least) (c.next_place.ensures place h)
