-- What the check of one part of a certificate tells: the same lines are looked at in the same order as in the check of the whole, but at an
-- open node of another part it is only asked where its list leads.
use Rattle.std.specs.Prelude.{◌≡◌, ◌↔◌, ℕ, ◌+◌, ◌≤◌, ◌<◌, ◌⊎◌, Bool, true, false, if◌then◌else◌, List, [], ◌∷◌, Option, Some, None, Result, Ok, Err, ℤ}
use Rattle.dp_model.specs.declared.parts.PlainState.{PlainState}
use Rattle.dp_model.specs.declared.whole.Model.{Model}
use Rattle.replay_list.specs.declared.replayed.Reached.{Reached}
use Rattle.dom_store.specs.declared.past_node.PastNode.{PastNode}
use Rattle.cert_types.specs.Lines.{line_of_claim, line_of_node}
use Rattle.cert_types.specs.Places.{has_place, place_in_text, whole}
use Rattle.cert_types.specs.declared.cert.Cert.{Cert}
use Rattle.cert_types.specs.declared.nodes.CertNode.{CertNode}
use Rattle.cert_types.specs.declared.parts.CheckPart.{CheckPart}
use Rattle.cert_laws.specs.Shown.{ClaimHolds, CutHolds, IsAt, NodeHolds, Stands, StepsHold, TargetHolds}
use Rattle.cert_laws.specs.Checks.{checked, claim_fails, covering, cut_fails, node_at, steps_fail, target_fails, then_told, told_at}
use Rattle.cert_laws.specs.Told.{ClaimFails, FirstFails, IsBefore, StandsWithout}
use Rattle.cert_laws.specs.InParts.{HasPlace, ShownInPart}
use Rattle.cert_laws.specs.declared.answers.CertReason.{CertReason}
use Rattle.cert_laws.specs.declared.answers.CertReason.TheVariants as reasons
use Rattle.cert_laws.specs.declared.answers.Checked.{Checked}
use Rattle.cert_laws.specs.declared.answers.Checked.TheVariants.{Yes, No}

-- clauses 3 to 5 at the line of a node, where the steps from it are looked at if it is open, or are not
abbrev pub part_fails_at : Model → Cert → List PastNode → (looked : Bool) → CertNode → Result Reached CertReason → Option CertReason
part_fails_at m cert past looked n (Ok here) = if n.cut then cut_fails m cert here else (if looked then steps_fail m cert past here else None)
part_fails_at m cert past looked n (Err reason) = Some reason

-- the part has the place in the text of the node at this place of a layer
abbrev pub is_looked : CheckPart → Cert → (l place : ℕ) → Bool
is_looked part cert l place = has_place part (place_in_text cert.layers l place)

abbrev pub node_fails_in : CheckPart → Model → Cert → (l place : ℕ) → CertNode → Option CertReason
node_fails_in part m cert l place n = part_fails_at m cert (covering m cert cert.keep (l + 1)) (is_looked part cert l place) n (node_at m cert l place)

-- the nodes of a layer from a place on
abbrev pub layer_told_in : CheckPart → Model → Cert → (l place : ℕ) → List CertNode → Checked
layer_told_in part m cert l place [] = Yes
layer_told_in part m cert l place (n ∷ ns) = told_at (line_of_node cert.first cert.claim cert.layers l place) (node_fails_in part m cert l place n) (layer_told_in part m cert l (place + 1) ns)

-- the layers from one on
abbrev pub layers_told_in : CheckPart → Model → Cert → (l : ℕ) → List (List CertNode) → Checked
layers_told_in part m cert l [] = Yes
layers_told_in part m cert l (nodes ∷ layers) = then_told (layer_told_in part m cert l 0 nodes) (layers_told_in part m cert (l + 1) layers)

-- what the check of a part of a certificate tells
abbrev pub checked_in : CheckPart → Model → Cert → Checked
checked_in part m cert = told_at cert.first (target_fails m cert) (told_at (line_of_claim cert.first) (claim_fails m cert.claim) (layers_told_in part m cert 0 cert.layers))

-- what is told of the whole, or of a part
abbrev pub checked_by : Option CheckPart → Model → Cert → Checked
checked_by None m cert = checked m cert
checked_by (Some part) m cert = checked_in part m cert

-- ---- what it tells

-- The check of a part tells yes exactly where the certificate shows its claim in the part.
abbrev pub PartYesShows : Type 0
PartYesShows = (part : CheckPart) (m : Model) (cert : Cert) → (checked_in part m cert ≡ Yes) ↔ ShownInPart part m cert

-- All three clauses hold at the line of a node, as far as the part has them.
pub record LineShowsInPart (part : CheckPart) (m : Model) (cert : Cert) (l place : ℕ) (n : CertNode) : Type 0 where
  pub node : NodeHolds m cert l place
  pub cut : n.cut ≡ true → (s : PlainState) (cost : Option ℤ) → Stands m cert l place s cost → CutHolds m cert s cost
  pub steps : n.cut ≡ false → HasPlace part cert l place → (s : PlainState) (cost : Option ℤ) → Stands m cert l place s cost → StepsHold m cert l s cost

-- What stands before the line of a node is right in the part.
pub record IsRightBeforeInPart (part : CheckPart) (m : Model) (cert : Cert) (l place : ℕ) : Type 0 where
  pub target : TargetHolds m cert
  pub claim : ClaimHolds m cert.claim
  pub lines : (k q : ℕ) (n : CertNode) → IsBefore k q l place → IsAt cert k q n → LineShowsInPart part m cert k q n

-- The clause of the reason fails at the line of the node. A fault may make each of them fail. A step does so in the node's own part alone.
abbrev pub IsWrongInPart : CheckPart → Model → Cert → (l place : ℕ) → CertNode → CertReason → Type 0
IsWrongInPart part m cert l place n reasons.Node = NodeHolds m cert l place → ⊥
IsWrongInPart part m cert l place n reasons.Cut = (n.cut ≡ true) × StandsWithout m cert l place (CutHolds m cert)
IsWrongInPart part m cert l place n reasons.Step = (n.cut ≡ false) × HasPlace part cert l place × StandsWithout m cert l place (StepsHold m cert l)
IsWrongInPart part m cert l place n reasons.Fault = LineShowsInPart part m cert l place n → ⊥
IsWrongInPart part m cert l place n reasons.Claim = ⊥
IsWrongInPart part m cert l place n reasons.Target = ⊥

-- all before the line of a node is right in the part, and this line is wrong
abbrev pub NodeFailsInPart : CheckPart → Model → Cert → (line : ℕ) → CertReason → Type 0
NodeFailsInPart part m cert line reason =
    (l : ℕ) × (place : ℕ) × (n : CertNode) × IsAt cert l place n × (line ≡ line_of_node cert.first cert.claim cert.layers l place) × IsRightBeforeInPart part m cert l place × IsWrongInPart part m cert l place n reason

-- The check of a part tells no at the first line, in the order of the text, at which a clause fails in the part.
abbrev pub PartNoFails : Type 0
PartNoFails = (part : CheckPart) (m : Model) (cert : Cert) (line : ℕ) (reason : CertReason) → checked_in part m cert ≡ No line reason → FirstFails m cert line reason ⊎ (ClaimFails m cert line reason ⊎ NodeFailsInPart part m cert line reason)

-- ---- the parts together

-- no line before this one is rejected, nor this one for another reason
abbrev pub IsNoEarlier : (line : ℕ) → CertReason → Checked → Type 0
IsNoEarlier line reason Yes = Unit {0}
IsNoEarlier line reason (No other why) = (line < other) ⊎ ((line ≡ other) × (reason ≡ why))

-- The first line that the checks of all parts reject is the one that the check of the whole rejects, and the reason is the same: one part
-- rejects it for this reason, and none rejects an earlier one, or it for another.
abbrev pub FirstOfParts : Type 0
FirstOfParts =
    (m : Model) (cert : Cert) (count line : ℕ) (reason : CertReason) → 1 ≤ count → checked m cert ≡ No line reason
    → ((index : ℕ) × (1 ≤ index) × (index ≤ count) × (checked_in (record { index = index; count = count }) m cert ≡ No line reason))
    × ((part : CheckPart) → IsNoEarlier line reason (checked_in part m cert))

-- The check of the one part of one tells what that of the whole tells.
abbrev pub WholeChecks : Type 0
WholeChecks = (m : Model) (cert : Cert) → checked_in whole m cert ≡ checked m cert
