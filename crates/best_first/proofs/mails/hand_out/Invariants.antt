use Rattle.std.proofs.Common.{length}
use Rattle.best_first.proofs.Hands.{IsHanded}
use Rattle.best_first.proofs.mails.hand_out.Given as goal

abbrev pub invariant-loop-poster : goal.invariant-loop-poster
invariant-loop-poster l = IsHanded l.fn.posters.items l.posters.items l.fn.lists.items l.lists.items

abbrev pub decreases-loop-poster : goal.decreases-loop-poster
decreases-loop-poster l = length l.posters.items
