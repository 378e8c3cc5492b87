-- What follows where a certificate shows its claim.
use Rattle.std.specs.Prelude.{◌≡◌, ◌⊎◌, ℕ, List, false, ℤ}
use Rattle.dp_model.specs.declared.answers.Claim.{Claim}
use Rattle.dp_model.specs.declared.answers.Claim.TheVariants.{Optimal, Infeasible}
use Rattle.dp_model.specs.declared.whole.Model.{Model}
use Rattle.dp_steps.specs.Lists.{Solution}
use Rattle.dp_claims.specs.Honest.{Honest, IsNotBetter}
use Rattle.cert_types.specs.declared.cert.Cert.{Cert}
use Rattle.cert_laws.specs.Shown.{Shown}

-- what is asked of a model: pruning is off, or the model is honest for what the certificate lets cover
abbrev pub IsTrusted : Model → Cert → Type 0
IsTrusted m cert = (cert.prune ≡ false) ⊎ Honest m cert.keep

-- the claim is true of all legal lists of the model
abbrev pub ClaimIsTrue : Model → Claim → Type 0
ClaimIsTrue m (Optimal found) = Solution m found.steps found.cost × ((steps : List ℕ) (cost : ℤ) → Solution m steps cost → IsNotBetter m cost found.cost)
ClaimIsTrue m Infeasible = (steps : List ℕ) (cost : ℤ) → Solution m steps cost → ⊥

-- Where a certificate shows its claim, and the model is honest or pruning is off, the claim is true: its list is legal at
-- its cost, and no legal list is better; or there is no legal list.
abbrev pub LawShown : Type 0
LawShown = (m : Model) (cert : Cert) → IsTrusted m cert → Shown m cert → ClaimIsTrue m cert.claim
