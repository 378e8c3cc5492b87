use Rattle.std.proofs.Common.{refl}
use Rattle.dp_model.specs.Evaluation.{ways}
use Rattle.dp_eval.proofs.Steps.{total_of-at}
use Rattle.dp_eval.proofs.sums.total_of.Goals as goal

pub returns : goal.returns
returns c = rw (total_of-at c.args.model.now c.args.t c.numbers_in.result.now c.numbers_in.ensures (ways c.args.choices.now), ← c.in_ok-counts.ensures, ← c.deref.ensures.value) (c.total_from.ensures 0 refl)
