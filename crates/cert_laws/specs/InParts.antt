-- When a certificate shows its claim in one of so many parts, so that a check of it may be shared.
use Rattle.std.specs.Prelude.{◌≡◌, ◌↔◌, ℕ, ◌≤◌, true, false, Option, None, Some, ℤ}
use Rattle.dp_model.specs.declared.parts.PlainState.{PlainState}
use Rattle.dp_model.specs.declared.whole.Model.{Model}
use Rattle.cert_types.specs.Places.{has_place, place_in_text, whole}
use Rattle.cert_types.specs.declared.cert.Cert.{Cert}
use Rattle.cert_types.specs.declared.nodes.CertNode.{CertNode}
use Rattle.cert_types.specs.declared.parts.CheckPart.{CheckPart}
use Rattle.cert_laws.specs.Shown.{ClaimHolds, CutHolds, IsAt, NodeHolds, Shown, Stands, StepsHold, TargetHolds}

-- the part has the place in the text of the node at this place of a layer
abbrev pub HasPlace : CheckPart → Cert → (l place : ℕ) → Type 0
HasPlace part cert l place = has_place part (place_in_text cert.layers l place) ≡ true

-- The certificate shows its claim in the part: all that the whole asks for, but of the steps from open nodes only those of the part's own.
pub record ShownInPart (part : CheckPart) (m : Model) (cert : Cert) : Type 0 where
  -- 1: the claimed list is legal, at the claimed cost
  pub claim : ClaimHolds m cert.claim
  -- 2: the target ends a list that is no better, or is no state of any, or is the node of layer 0
  pub target : TargetHolds m cert
  -- 3: each node's list is a prefix to its state
  pub nodes : (l place : ℕ) (n : CertNode) → IsAt cert l place n → NodeHolds m cert l place
  -- 4: each cut node has a floor that is no better than the claim
  pub cuts : (l place : ℕ) (s : PlainState) (cost : Option ℤ) (stands : Stands m cert l place s cost) → stands.node.cut ≡ true → CutHolds m cert s cost
  -- 5: each step from an open node of the part leads to what is no better, or is covered by a node
  pub steps : (l place : ℕ) (s : PlainState) (cost : Option ℤ) (stands : Stands m cert l place s cost) → stands.node.cut ≡ false → HasPlace part cert l place → StepsHold m cert l s cost

-- what is shown: the claim, or the claim in a part
abbrev pub ShownBy : Option CheckPart → Model → Cert → Type 0
ShownBy None m cert = Shown m cert
ShownBy (Some part) m cert = ShownInPart part m cert

-- A certificate shows its claim exactly where it does so in each of so many parts.
abbrev pub PartsShow : Type 0
PartsShow = (m : Model) (cert : Cert) (count : ℕ) → 1 ≤ count → ((index : ℕ) → 1 ≤ index → index ≤ count → ShownInPart (record { index = index; count = count }) m cert) ↔ Shown m cert

-- The one part of one is the whole.
abbrev pub WholeShows : Type 0
WholeShows = (m : Model) (cert : Cert) → ShownInPart whole m cert ↔ Shown m cert
