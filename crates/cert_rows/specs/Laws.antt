-- What follows of a certificate whose nodes are those that a pass kept.
use Rattle.std.specs.Prelude.{◌≡◌, ℕ, ◌⊎◌, true, List, [], ◌∷◌, Some, None, ℤ, IsTrue}
use Rattle.dp_model.specs.declared.whole.Model.{Model}
use Rattle.dp_steps.specs.Bounds.{IsFloor}
use Rattle.dp_steps.specs.States.{Forbidden, Inner}
use Rattle.pass_ledger.specs.Passes.{Pass}
use Rattle.pass_ledger.specs.declared.records.ShardRecord.{ShardRecord}
use Rattle.cert_types.specs.Parents.{are_made, have_parents}
use Rattle.cert_types.specs.declared.cert.Cert.{Cert}
use Rattle.cert_types.specs.declared.nodes.CertNode.{CertNode}
use Rattle.cert_laws.specs.Shown.{ClaimHolds, IsNotBelow, Shown, TargetEnds}
use Rattle.cert_rows.specs.Rows.{AreRows, IsExhausted, IsCertOf}

-- The certificate of an exhausted pass shows its claim.
abbrev pub LawRows : Type 0
LawRows = (p : Pass) (r : ShardRecord) (claimed : ℕ) (cert : Cert) → IsExhausted p r claimed → IsCertOf p r claimed cert → Shown p.model cert

-- Where the target is not allowed, or is base and no better than the claim, one without layers does.
abbrev pub LawTarget : Type 0
LawTarget = (m : Model) (cert : Cert) → ClaimHolds m cert.claim → cert.layers ≡ [] → Forbidden m m.target ⊎ TargetEnds m cert.claim → Shown m cert

-- Where the target is an inner state whose floor is no better than the claim, one with the target's node alone does, which is cut.
abbrev pub LawCut : Type 0
LawCut =
    (m : Model) (cert : Cert) → ClaimHolds m cert.claim → cert.layers ≡ (record { made = None; cut = true } ∷ []) ∷ [] → Inner m m.target
    → (floor : ℤ) → IsFloor m cert.prune m.target None (Some floor) → IsNotBelow m cert.claim floor → Shown m cert

-- Layers that say how the kept nodes of a pass were made are those of a certificate.
abbrev pub LawLayers : Type 0
LawLayers = (p : Pass) (r : ShardRecord) (layers : List (List CertNode)) → AreRows p r.rows r.waiting r.visits r.pruned layers → IsTrue (are_made layers) × IsTrue (have_parents layers)
