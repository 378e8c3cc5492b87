-- What a search claims of all legal lists, by its status and the best solution that it found.
use Rattle.std.specs.Prelude.{Option, Some, None}
use Rattle.dp_model.specs.declared.answers.Claim.{Claim}
use Rattle.dp_model.specs.declared.answers.Claim.TheVariants as claims
use Rattle.dp_model.specs.declared.answers.Found.{Found}
use Rattle.run_ends.specs.declared.solved.Solved.{Solved}
use Rattle.run_ends.specs.declared.status.Status.{Status}
use Rattle.run_ends.specs.declared.status.Status.TheVariants as statuses

abbrev pub optimal_claim : Option Found → Option Claim
optimal_claim None = None
optimal_claim (Some f) = Some (claims.Optimal f)

-- a solution that is optimal, or that there is none; after all else nothing is claimed
abbrev pub claim_with : Status → Option Found → Option Claim
claim_with statuses.Success held = optimal_claim held
claim_with statuses.Negative held = Some claims.Infeasible
claim_with statuses.Usage held = None
claim_with statuses.Refused held = None
claim_with statuses.ReadFault held = None
claim_with statuses.WriteFault held = None
claim_with statuses.Memory held = None
claim_with statuses.TooLong held = None
claim_with statuses.Stopped held = None
claim_with statuses.Fault held = None

abbrev pub solved_by : Status → Option Found → Solved
solved_by status held = record { status = status; claim = claim_with status held }
