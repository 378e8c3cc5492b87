-- The number that the process ends with, and the status of a verdict.
use Rattle.std.specs.Prelude.{ℕ}
use Rattle.dp_model.specs.declared.answers.Verdict.{Verdict}
use Rattle.dp_model.specs.declared.answers.Verdict.TheVariants as verdicts
use Rattle.run_ends.specs.declared.status.Status.{Status}
use Rattle.run_ends.specs.declared.status.Status.TheVariants as statuses

abbrev pub code_of : Status → ℕ
code_of statuses.Success = 0
code_of statuses.Usage = 2
code_of statuses.Refused = 3
code_of statuses.ReadFault = 4
code_of statuses.WriteFault = 5
code_of statuses.Memory = 6
code_of statuses.TooLong = 7
code_of statuses.Negative = 10
code_of statuses.Stopped = 11
code_of statuses.Fault = 12

abbrev pub verdict_status : Verdict → Status
verdict_status (verdicts.Optimal c) = statuses.Success
verdict_status verdicts.Infeasible = statuses.Negative
verdict_status (verdicts.Stopped v) = statuses.Stopped
verdict_status (verdicts.Fault f) = statuses.Fault
verdict_status (verdicts.Legal c) = statuses.Success
verdict_status (verdicts.Illegal n r) = statuses.Negative
