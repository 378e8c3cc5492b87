-- What an ending says of all legal lists of a model. Nothing is believed of the model.
use Rattle.std.specs.Prelude.{ℕ, List, Option, IfSome, ℤ}
use Rattle.dp_steps.specs.Lists.{Solution}
use Rattle.dp_model.specs.declared.answers.Verdict.{Verdict}
use Rattle.dp_model.specs.declared.answers.Verdict.TheVariants as verdicts
use Rattle.dp_model.specs.declared.whole.Model.{Model}
use Rattle.best_ledger.specs.Right.{BestEnding}
use Rattle.best_ledger.specs.Right as best
use Rattle.gap_laws.specs.Gaps.{NoneBetter}
use Rattle.solve_passes.specs.Records.{Ending, Ended, OutOfMemory}

-- `optimal`: none is better; `infeasible`: there is none
abbrev pub VerdictIsTrue : Model → Verdict → Type 0
VerdictIsTrue m (verdicts.Optimal cost) = NoneBetter m cost
VerdictIsTrue m verdicts.Infeasible = (steps : List ℕ) (cost : ℤ) → Solution m steps cost → ⊥
VerdictIsTrue m (verdicts.Stopped visits) = Unit {0}
VerdictIsTrue m (verdicts.Fault fault) = Unit {0}
VerdictIsTrue m (verdicts.Legal cost) = Unit {0}
VerdictIsTrue m (verdicts.Illegal done reason) = Unit {0}

-- after a bound none is better than the bound
abbrev pub BoundIsTrue : Model → Option ℤ → Verdict → Type 0
BoundIsTrue m bound (verdicts.Stopped visits) = IfSome bound (NoneBetter m)
BoundIsTrue m bound (verdicts.Optimal cost) = Unit {0}
BoundIsTrue m bound verdicts.Infeasible = Unit {0}
BoundIsTrue m bound (verdicts.Fault fault) = Unit {0}
BoundIsTrue m bound (verdicts.Legal cost) = Unit {0}
BoundIsTrue m bound (verdicts.Illegal done reason) = Unit {0}

abbrev pub EndingIsTrue : Model → Option ℤ → Ending → Type 0
EndingIsTrue m bound (Ended verdict) = VerdictIsTrue m verdict × BoundIsTrue m bound verdict
EndingIsTrue m bound OutOfMemory = Unit {0}

abbrev pub BestEndingIsTrue : Model → BestEnding → Type 0
BestEndingIsTrue m (best.Ended verdict) = VerdictIsTrue m verdict
BestEndingIsTrue m best.OutOfMemory = Unit {0}
