-- The steps of layers that a search wrote are ground transitions of its model.
use Rattle.std.proofs.Common.{◌≡◌, ℕ, ◌<◌, zero, suc, Bool, true, List, [], ◌∷◌, length, slice_get, Option, Some, None, refl}
use Rattle.std.specs.Prelude.{option_map}
use Rattle.std.specs.List.{list_all}
use Rattle.std.proofs.lemmas.Bool.{and_from, lt-ltb}
use Rattle.dp_claims.specs.Enough.{Has}
use Rattle.dp_model.specs.StepTexts.{ground_of}
use Rattle.dp_model.specs.declared.parts.Ground.{Ground}
use Rattle.dp_model.specs.declared.parts.Transition.{Transition}
use Rattle.dp_model.specs.declared.whole.Model.{Model}
use Rattle.state_layout.specs.declared.node.Node.{Node}
use Rattle.pass_ledger.specs.Passes.{Pass}
use Rattle.pass_ledger.specs.declared.records.LedgerRow.{LedgerRow}
use Rattle.pass_ledger.specs.declared.records.ShardRecord.{ShardRecord}
use Rattle.cert_types.specs.declared.nodes.CertNode.{CertNode}
use Rattle.cert_types.specs.declared.nodes.CertStep.{CertStep}
use Rattle.cert_laws.specs.Shown.{layer_of}
use Rattle.cert_text.specs.Named.{names_step}
use Rattle.cert_text.proofs.Keeps.{followed_by}
use Rattle.cert_rows.specs.Rows.{AreRows, IsMade}
use Rattle.cert_rows.proofs.Lists.{kept_at}
use Rattle.cert_rows.proofs.Places.{within_get}

-- a number that names a transition is one of the ground transitions
ground_within : (m : Model) (g : ℕ) (t : Transition × List ℕ) → ground_of m g ≡ Some t → g < length m.dp_ground
ground_within m g t e =
    let found = followed_by (λ (x : Ground). option_map (λ (t : Transition). (t, x.args)) (slice_get m.transitions x.transition)) (slice_get m.dp_ground g) t e in
    within_get m.dp_ground g found.0 found.1

-- each node of these layers passes a test
all_nodes : (test : CertNode → Bool) (nodes : List CertNode) → ((c : CertNode) → Has nodes c → test c ≡ true) → list_all test nodes ≡ true
all_nodes test [] h = refl
all_nodes test (x ∷ xs) h = and_from (test x) (list_all test xs) (h x (0, refl)) (all_nodes test xs (λ c k. h c (suc k.0, k.1)))

all_layers : (test : CertNode → Bool) (layers : List (List CertNode)) → ((l place : ℕ) (c : CertNode) → slice_get (layer_of layers l) place ≡ Some c → test c ≡ true) → list_all (list_all test) layers ≡ true
all_layers test [] h = refl
all_layers test (xs ∷ xss) h = and_from (list_all test xs) (list_all (list_all test) xss) (all_nodes test xs (λ c at. h 0 at.0 c at.1)) (all_layers test xss (λ l place c at. h (suc l) place c at))

-- the step that made a kept node was considered and enabled
step_named : (p : Pass) (rows : List LedgerRow) (l : ℕ) (n : Node) (c : CertNode) → IsMade p rows l n c.made → names_step (length p.model.dp_ground) c ≡ true
step_named p rows l n c h = by l c.made h
  where
    by : (l : ℕ) (made : Option CertStep) → IsMade p rows l n made → names_step (length p.model.dp_ground) (record c { made = made }) ≡ true
    by zero None h = refl
    by zero (Some step) h = absurd h
    by (suc l) None h = absurd h
    by (suc l) (Some step) h = lt-ltb step.dp_ground (length p.model.dp_ground) (ground_within p.model step.dp_ground h.successor.step.move.0 h.successor.step.move.1)

pub layers_named : (p : Pass) (r : ShardRecord) (layers : List (List CertNode)) → AreRows p r.rows r.waiting r.visits r.pruned layers → list_all (list_all (names_step (length p.model.dp_ground))) layers ≡ true
layers_named p r layers are =
    all_layers (names_step (length p.model.dp_ground)) layers
    (λ l place c at. (let n = kept_at p r.rows r.waiting r.visits r.pruned layers are l place c at in step_named p r.rows l n.0 c (are.made l place n.0 c n.1 at)))
