-- What the check of a certificate tells of it.
use Rattle.std.specs.Prelude.{◌≡◌, ◌↔◌, ◌<◌, ◌⊎◌, ℕ, true, false, Option, ℤ}
use Rattle.dp_model.specs.declared.parts.PlainState.{PlainState}
use Rattle.dp_model.specs.declared.whole.Model.{Model}
use Rattle.cert_types.specs.Lines.{line_of_claim, line_of_node}
use Rattle.cert_types.specs.declared.cert.Cert.{Cert}
use Rattle.cert_types.specs.declared.nodes.CertNode.{CertNode}
use Rattle.cert_laws.specs.Shown.{ClaimHolds, CutHolds, IsAt, NodeHolds, Shown, Stands, StepsHold, TargetHolds}
use Rattle.cert_laws.specs.Checks.{checked}
use Rattle.cert_laws.specs.declared.answers.CertReason.{CertReason}
use Rattle.cert_laws.specs.declared.answers.CertReason.TheVariants as reasons
use Rattle.cert_laws.specs.declared.answers.Checked.TheVariants.{Yes, No}

-- The check tells yes exactly where the certificate shows its claim.
abbrev pub YesShows : Type 0
YesShows = (m : Model) (cert : Cert) → (checked m cert ≡ Yes) ↔ Shown m cert

-- ---- where it tells no

-- All three clauses hold at the line of a node.
pub record LineShows (m : Model) (cert : Cert) (l place : ℕ) (n : CertNode) : Type 0 where
  pub node : NodeHolds m cert l place
  pub cut : n.cut ≡ true → (s : PlainState) (cost : Option ℤ) → Stands m cert l place s cost → CutHolds m cert s cost
  pub steps : n.cut ≡ false → (s : PlainState) (cost : Option ℤ) → Stands m cert l place s cost → StepsHold m cert l s cost

-- a node stands before another in the text
abbrev pub IsBefore : (k q l place : ℕ) → Type 0
IsBefore k q l place = (k < l) ⊎ ((k ≡ l) × (q < place))

-- What stands before the line of a node is right.
pub record IsRightBefore (m : Model) (cert : Cert) (l place : ℕ) : Type 0 where
  pub target : TargetHolds m cert
  pub claim : ClaimHolds m cert.claim
  pub lines : (k q : ℕ) (n : CertNode) → IsBefore k q l place → IsAt cert k q n → LineShows m cert k q n

-- the node stands, and this does not hold there
abbrev pub StandsWithout : Model → Cert → (l place : ℕ) → (PlainState → Option ℤ → Type 0) → Type 0
StandsWithout m cert l place P = (s : PlainState) × (cost : Option ℤ) × Stands m cert l place s cost × (P s cost → ⊥)

-- The clause of the reason fails at the line of the node. A fault may make each of them fail.
abbrev pub IsWrong : Model → Cert → (l place : ℕ) → CertNode → CertReason → Type 0
IsWrong m cert l place n reasons.Node = NodeHolds m cert l place → ⊥
IsWrong m cert l place n reasons.Cut = (n.cut ≡ true) × StandsWithout m cert l place (CutHolds m cert)
IsWrong m cert l place n reasons.Step = (n.cut ≡ false) × StandsWithout m cert l place (StepsHold m cert l)
IsWrong m cert l place n reasons.Fault = LineShows m cert l place n → ⊥
IsWrong m cert l place n reasons.Claim = ⊥
IsWrong m cert l place n reasons.Target = ⊥

-- one of two reasons
abbrev pub IsOneOf : CertReason → CertReason → CertReason → Type 0
IsOneOf a b reason = (reason ≡ a) ⊎ (reason ≡ b)

-- the first line is wrong: the clause of the target fails
abbrev pub FirstFails : Model → Cert → (line : ℕ) → CertReason → Type 0
FirstFails m cert line reason = (line ≡ cert.first) × (TargetHolds m cert → ⊥) × IsOneOf reasons.Target reasons.Fault reason

-- it is right, and the line of the claim is wrong
abbrev pub ClaimFails : Model → Cert → (line : ℕ) → CertReason → Type 0
ClaimFails m cert line reason = (line ≡ line_of_claim cert.first) × TargetHolds m cert × (ClaimHolds m cert.claim → ⊥) × IsOneOf reasons.Claim reasons.Fault reason

-- all before the line of a node is right, and this line is wrong
abbrev pub NodeFails : Model → Cert → (line : ℕ) → CertReason → Type 0
NodeFails m cert line reason =
    (l : ℕ) × (place : ℕ) × (n : CertNode) × IsAt cert l place n × (line ≡ line_of_node cert.first cert.claim cert.layers l place) × IsRightBefore m cert l place × IsWrong m cert l place n reason

-- The check tells no at the first line, in the order of the text, at which a clause fails.
abbrev pub NoFails : Type 0
NoFails = (m : Model) (cert : Cert) (line : ℕ) (reason : CertReason) → checked m cert ≡ No line reason → FirstFails m cert line reason ⊎ (ClaimFails m cert line reason ⊎ NodeFails m cert line reason)
