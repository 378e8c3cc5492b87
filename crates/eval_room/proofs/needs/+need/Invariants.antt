use Rattle.std.proofs.Common.{◌≡◌, ℕ, ◌-◌, ◌≤◌, true, drop}
use Rattle.dp_model.specs.Evaluation.{counts_of}
use Rattle.eval_room.specs.Fits.{all_fit, terms_fit}
use Rattle.eval_room.proofs.needs.+need.Given as goal

-- where what is left has room, all have
abbrev pub invariant-all_need-loop-n : goal.invariant-all_need-loop-n
invariant-all_need-loop-n l = (room : ℕ) → l.most ≤ room → all_fit l.model (drop l.n-index l.n-items) l.given room ≡ true → all_fit l.model l.n-items l.given room ≡ true

abbrev pub invariant-terms_need-loop-e : goal.invariant-terms_need-loop-e
invariant-terms_need-loop-e l = (room : ℕ) → l.most ≤ room → terms_fit l.model (counts_of l.model l.left) (drop l.e-index l.e-items) l.given (room - l.used) ≡ true → terms_fit l.model (counts_of l.model l.objects) l.e-items l.given room ≡ true
