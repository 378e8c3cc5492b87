use Rattle.std.proofs.Common.{◌≡◌, ℕ, ◌<◌, false, vec_len, get_or, take}
use Rattle.dp_model.specs.Evaluation.{has}
use Rattle.dp_eval.proofs.sets.marked.Given as goal

abbrev pub invariant-loop-member : goal.invariant-loop-member
invariant-loop-member l = (k : ℕ) → k < vec_len l.marks → get_or l.marks.items k false ≡ has (take l.member-index l.set) k
