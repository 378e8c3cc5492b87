-- Which ground transitions a certificate names.
use Rattle.std.specs.Prelude.{ℕ, ◌&&◌, Bool, true, nat_lt, IsTrue, List, length, Option, Some, None}
use Rattle.std.specs.List.{list_all}
use Rattle.dp_model.specs.declared.answers.Claim.{Claim}
use Rattle.dp_model.specs.declared.answers.Claim.TheVariants as claims
use Rattle.dp_model.specs.declared.whole.Model.{Model}
use Rattle.cert_types.specs.declared.cert.Cert.{Cert}
use Rattle.cert_types.specs.declared.nodes.CertNode.{CertNode}
use Rattle.cert_types.specs.declared.nodes.CertStep.{CertStep}

-- the step that made a node, if one did, is one of so many ground transitions
abbrev pub names_step : (grounds : ℕ) → CertNode → Bool
names_step grounds node = is_named node.made where
  is_named : Option CertStep → Bool
  is_named None = true
  is_named (Some step) = nat_lt step.dp_ground grounds

abbrev pub claims_steps : (grounds : ℕ) → Claim → Bool
claims_steps grounds (claims.Optimal found) = list_all (λ g. nat_lt g grounds) found.steps
claims_steps grounds claims.Infeasible = true

-- all steps are ground transitions, of which there are so many
abbrev pub are_named : (grounds : ℕ) → Claim → List (List CertNode) → Bool
are_named grounds claim layers = claims_steps grounds claim && list_all (list_all (names_step grounds)) layers

-- all steps of a certificate are ground transitions of the model
abbrev pub IsNamedIn : Model → Cert → Type 0
IsNamedIn m cert = IsTrue (are_named (length m.dp_ground) cert.claim cert.layers)
