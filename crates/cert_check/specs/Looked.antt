-- What a looker is of, and what nodes stand for.
use Rattle.std.specs.Prelude.{◌+◌, ◌<◌, ◌^◌, ◌++◌, ◌∷◌, if◌then◌else◌, Bool, true, false, ℤ, int_le, ◌≡◌, ℕ, List, [], length, map, get_or, slice_get, Option, Some, None, Result, Ok, Err}
use Rattle.std.specs.List.{flat_map, range_with_len}
use Rattle.dp_base.specs.Results.{◌>>=◌}
use Rattle.dp_model.specs.declared.parts.PlainState.{PlainState}
use Rattle.dp_model.specs.declared.whole.Model.{Model}
use Rattle.state_layout.specs.Conditions.{IsNodeOf}
use Rattle.state_layout.specs.declared.node.Node.{Node}
use Rattle.dom_store.specs.declared.past_node.PastNode.{PastNode}
use Rattle.replay_list.specs.declared.replayed.Reached.{Reached}
use Rattle.dp_model.specs.declared.answers.Keep.{Keep}
use Rattle.dp_model.specs.declared.answers.Keep.TheVariants.{Layer, All}
use Rattle.cert_types.specs.declared.cert.Cert.{Cert}
use Rattle.cert_types.specs.declared.nodes.CertNode.{CertNode}
use Rattle.cert_types.specs.declared.nodes.CertStep.{CertStep}
use Rattle.cert_types.specs.Places.{IsPart, has_place}
use Rattle.cert_laws.specs.Shown.{layer_of}
use Rattle.cert_laws.specs.Checks.{if_stands, is_covered, node_at, start, step_fails, stepped}
use Rattle.cert_laws.specs.declared.answers.CertReason.{CertReason}
use Rattle.cert_laws.specs.declared.answers.CertReason.TheVariants as reasons
use Rattle.cert_check.specs.declared.shares.Share.{Share}
use Rattle.cert_check.specs.declared.standings.Standing.{Standing}
use Rattle.cert_check.specs.declared.standings.Standing.TheVariants.{Stands, Fails}

-- the state of a node, with its cost so far
abbrev pub reached_by : Node → Reached
reached_by n = record { state = n.state; cost = n.cost }

-- where the list of a node leads, or why its line is rejected
abbrev pub found : Standing → Result Reached CertReason
found (Stands n) = Ok (reached_by n)
found (Fails reason) = Err reason

-- a node that stands is one of the model
abbrev pub StandingFits : Model → Standing → Type 0
StandingFits m (Stands n) = IsNodeOf m n
StandingFits m (Fails reason) = Unit {0}

abbrev pub AllFit : Model → List Standing → Type 0
AllFit m standings = (k : ℕ) (s : Standing) → slice_get standings k ≡ Some s → StandingFits m s

-- where the list of a node that a step made leads, where these are those of the layer before; without a step it is the target's
abbrev pub stood : Model → List Standing → Option CertStep → Result Reached CertReason
stood m before None = start m
stood m before (Some step) = found (get_or before step.parent (Fails reasons.Node)) >>= λ here. stepped m here step.dp_ground

-- what covers by these
abbrev pub pasts : List Standing → List PastNode
pasts standings = flat_map (λ s. if_stands (found s)) standings

-- where the lists of the nodes of a layer lead
abbrev pub found_in : Model → Cert → (l : ℕ) → List (Result Reached CertReason)
found_in m cert l = map (node_at m cert l) (range_with_len 0 (length (layer_of cert.layers l)))

abbrev pub AreFound : Model → Cert → (l : ℕ) → List Standing → Type 0
AreFound m cert l standings = map found standings ≡ found_in m cert l

-- what stays of the nodes before a layer, for what they cover
abbrev pub kept_before : Keep → List PastNode → List PastNode
kept_before Layer nodes = []
kept_before All nodes = nodes

-- a number is no better than a cost
abbrev pub is_no_better : (minimize : Bool) → (cost n : ℤ) → Bool
is_no_better true cost n = int_le cost n
is_no_better false cost n = int_le n cost

-- Nodes, one after another, behind others: each that one of those before it covers is left out.
abbrev pub with_new : Model → (prune : Bool) → List PastNode → List PastNode → List PastNode
with_new m prune past [] = past
with_new m prune past (n ∷ ns) = with_new m prune (if is_covered m prune past n.state n.cost then past else past ++ n ∷ []) ns

-- why the transition that was picked rejects the line of an open node, if one was and does
abbrev pub pick_fails : Model → Cert → List PastNode → Reached → Option ℕ → Option CertReason
pick_fails m cert past here None = None
pick_fails m cert past here (Some g) = step_fails m cert past here g

-- the part has the node at this place of the layer
abbrev pub has_in_layer : Share → (place : ℕ) → Bool
has_in_layer share place = has_place share.part (share.before + place)

-- the share is that of a part, and the places of these nodes in the text stay below 2^32
abbrev pub IsShareOf : Share → List CertNode → Type 0
IsShareOf share nodes = IsPart share.part × (share.before + length nodes < 2 ^ 32)

-- the node at a place is open, and stands for the same state at the same cost so far as an open one of the part before it
pub record IsCopy (share : Share) (nodes : List CertNode) (standings : List Standing) (place : ℕ) : Type 0 where
  pub earlier : ℕ
  pub first : CertNode
  pub copy : CertNode
  pub found_first : Standing
  pub found_copy : Standing
  pub before : earlier < place
  pub at_first : slice_get nodes earlier ≡ Some first
  pub at_copy : slice_get nodes place ≡ Some copy
  pub stands_first : slice_get standings earlier ≡ Some found_first
  pub stands_copy : slice_get standings place ≡ Some found_copy
  pub open_first : first.cut ≡ false
  pub open_copy : copy.cut ≡ false
  pub same : found found_first ≡ found found_copy
  pub looked : has_in_layer share earlier ≡ true

-- these cover the same states, at the same costs so far, as those
abbrev pub CoverAlike : Model → (prune : Bool) → List PastNode → List PastNode → Type 0
CoverAlike m prune past nodes = (s : PlainState) (cost : Option ℤ) → is_covered m prune past s cost ≡ is_covered m prune nodes s cost
