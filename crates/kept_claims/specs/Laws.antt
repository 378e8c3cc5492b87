-- What the answers of a search of a kept model say of the model itself.
use Rattle.std.specs.Prelude.{ℕ, Bool, List, Option, IfSome, ℤ}
use Rattle.std.specs.List.{AllByRecursion}
use Rattle.dp_claims.specs.Enough.{IsEnough}
use Rattle.dp_steps.specs.Faults.{Meets}
use Rattle.dp_steps.specs.Lists.{Solution}
use Rattle.dp_model.specs.declared.answers.FaultKind.{FaultKind}
use Rattle.dp_model.specs.declared.answers.Keep.{Keep}
use Rattle.dp_model.specs.declared.answers.Spot.{Spot}
use Rattle.dp_model.specs.declared.answers.Found.{Found}
use Rattle.dp_model.specs.declared.answers.Options.{Options}
use Rattle.dp_model.specs.declared.whole.Model.{Model}
use Rattle.best_ledger.specs.Enough.{IsBelowEnoughBest}
use Rattle.best_ledger.specs.Right.{BestEnding, BestRun, KeepsWordBest, RightBest}
use Rattle.cert_types.specs.declared.cert.Cert.{Cert}
use Rattle.cert_laws.specs.Laws.{ClaimIsTrue}
use Rattle.cert_laws.specs.Shown.{Shown}
use Rattle.solve_passes.specs.Records.{Ending, KeepsWord, Record, Right, solutions}
use Rattle.kept_model.specs.Honesty.{AreHonest}
use Rattle.kept_model.specs.Parts.{IsKept}
use Rattle.kept_model.specs.declared.kept.Kept.{Kept}
use Rattle.kept_claims.specs.Words.{BestEndingIsTrue, EndingIsTrue}

-- The verdict of a search layer by layer of the kept model is true of the model, and so is its bound.
abbrev pub LawWord : Type 0
LawWord =
    (m : Model) (kept : Kept) (other : Model) (options : Options) (bound : Option ℤ) (ending : Ending) → IsKept m kept other → AreHonest m kept → KeepsWord other options bound ending → EndingIsTrue m bound ending

-- So is that of a search with the best node first.
abbrev pub LawWordBest : Type 0
LawWordBest =
    (m : Model) (kept : Kept) (other : Model) (options : Options) (ending : BestEnding) → IsKept m kept other → AreHonest m kept → KeepsWordBest other options ending → BestEndingIsTrue m ending

-- A certificate that shows its claim of the kept model proves it of the model.
abbrev pub LawCertified : Type 0
LawCertified = (m : Model) (kept : Kept) (other : Model) (cert : Cert) → IsKept m kept other → AreHonest m kept → Shown other cert → ClaimIsTrue m cert.claim

-- The solutions that a right record of the kept model prints are legal lists of the model, at their costs.
abbrev pub LawRun : Type 0
LawRun =
    (m : Model) (kept : Kept) (other : Model) (options : Options) (gap : Bool) (r : Record) → IsKept m kept other → Right other options gap r
    → AllByRecursion (λ (s : Found). Solution m s.steps s.cost) (solutions r)

abbrev pub LawRunBest : Type 0
LawRunBest = (m : Model) (kept : Kept) (other : Model) (options : Options) (r : BestRun) → IsKept m kept other → RightBest other options r → IfSome r.found (λ s. Solution m s.steps s.cost)

-- Where the kept model meets a fault the model does, by the same list: nothing new is evaluated. It may be an earlier bound's.
abbrev pub LawFaultsToo : Type 0
LawFaultsToo =
    (m : Model) (kept : Kept) (other : Model) → IsKept m kept other → (prune : Bool) (steps : List ℕ) (spot : Spot) (kind : FaultKind) → Meets other prune steps spot kind → (at : Spot) × (why : FaultKind) × Meets m prune steps at why

-- A budget that is enough for the model is enough for the kept one, layer by layer.
abbrev pub LawEnoughToo : Type 0
LawEnoughToo = (m : Model) (kept : Kept) (other : Model) → IsKept m kept other → (keep : Keep) (budget : ℕ) → IsEnough m keep budget → IsEnough other keep budget

-- What is below enough for a best-first search of the kept model is so for the model.
abbrev pub LawEnoughBestToo : Type 0
LawEnoughBestToo = (m : Model) (kept : Kept) (other : Model) → IsKept m kept other → (budget : ℕ) → IsBelowEnoughBest other budget → IsBelowEnoughBest m budget
