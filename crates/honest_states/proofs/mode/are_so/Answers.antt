use Rattle.std.proofs.Common.{◌≡◌, ℕ, Bool, true, Option}
use Rattle.dp_model.specs.Evaluation.{has}
use Rattle.honest_states.specs.Modes.{is_so}
use Rattle.honest_states.proofs.Lists.{all_below}
use Rattle.honest_states.proofs.Knowing.{members_from}
use Rattle.honest_states.proofs.mode.are_so.Goals as goal

pub returns : goal.returns
returns c = λ _. members_from c.args.members.now c.args.set.now (all_below (λ (k : ℕ) (x : Option Bool). is_so x (has c.args.set.now k) ≡ true) c.args.members.now c.loop-j.j c.loop-j-test.false c.loop-j.invariant)
