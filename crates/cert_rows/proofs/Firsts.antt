-- The first line that is wrong is told: where all before it is right, its reason is what the check tells.
use Rattle.std.proofs.Common.{◌≡◌, ℕ, ◌+◌, ◌<◌, inl, inr, zero, suc, false, List, [], ◌∷◌, slice_get, Some, None, Ok, Err, refl, sym, ap, subst, ◌∙◌, arith}
use Rattle.std.proofs.lemmas.Option.{get_or_from_slice_get}
use Rattle.dp_model.specs.declared.answers.Claim.{Claim}
use Rattle.dp_model.specs.declared.answers.Claim.TheVariants.{Optimal, Infeasible}
use Rattle.dp_model.specs.declared.parts.PlainState.{PlainState}
use Rattle.dp_model.specs.declared.whole.Model.{Model}
use Rattle.dp_steps.specs.Faults.{MeetsIn}
use Rattle.spot_eval.specs.Looks.{looked_at}
use Rattle.spot_eval.specs.declared.ends.SpotFault.{SpotFault}
use Rattle.spot_eval.specs.declared.looks.Look.{Look}
use Rattle.spot_eval.specs.declared.looks.Look.TheVariants as looks
use Rattle.visit_laws.proofs.Looks.{look_met, looked_base, looked_forbidden}
use Rattle.cert_types.specs.Lines.{line_of_node}
use Rattle.cert_types.specs.declared.cert.Cert.{Cert}
use Rattle.cert_types.specs.declared.nodes.CertNode.{CertNode}
use Rattle.cert_laws.specs.Shown.{layer_of, IsAt, Stands, TargetHolds}
use Rattle.cert_laws.specs.Checks.{checked, claim_fails, is_alone, layer_told, layers_told, node_fails}
use Rattle.cert_laws.specs.Told.{IsBefore, IsRightBefore, LineShows}
use Rattle.cert_laws.specs.declared.answers.CertReason.{CertReason}
use Rattle.cert_laws.specs.declared.answers.CertReason.TheVariants as reasons
use Rattle.cert_laws.specs.declared.answers.Checked.TheVariants.{Yes, No}
use Rattle.cert_laws.proofs.Fails.{found_line}
use Rattle.cert_laws.proofs.Lists.{true_or}
use Rattle.cert_laws.proofs.Walks.{found_node, reached}
use Rattle.cert_laws.proofs.Yes.{layer_there, target_yes, yes_claim, yes_target}
use Rattle.cert_rows.specs.Faults.{ClaimFaultTold, ClaimMeets, NodeFaultTold, TargetFaultTold, TargetMeets}
use Rattle.cert_rows.proofs.Claims.{met_replay}
use Rattle.cert_rows.proofs.Telling.{line_stops}

-- ---- nodes

abbrev Fine : Model → Cert → (l : ℕ) → ℕ → CertNode → Type 0
Fine m cert l place n = node_fails m cert l place n ≡ None

plus_none : (a : ℕ) → a ≡ a + 0
plus_none a = omega arith

plus_more : (a k : ℕ) → a + 1 + k ≡ a + suc k
plus_more a k = omega arith

zero_plus : (k : ℕ) → 0 + k ≡ k
zero_plus k = omega arith

more : (j k : ℕ) → j < k → suc j < suc k
more j k h = omega arith

above_none : (k : ℕ) → 0 < suc k
above_none k = omega arith

layer_fine : (m : Model) (cert : Cert) (l place : ℕ) (nodes : List CertNode) → ((k : ℕ) (n : CertNode) → slice_get nodes k ≡ Some n → Fine m cert l (place + k) n) → layer_told m cert l place nodes ≡ Yes
layer_fine m cert l place [] fine = refl
layer_fine m cert l place (x ∷ nodes) fine =
    let first : Fine m cert l place x = subst (λ j. Fine m cert l j x) (sym (plus_none place)) (fine 0 x refl) in
    rw first (layer_fine m cert l (place + 1) nodes (λ k n e. subst (λ j. Fine m cert l j n) (sym (plus_more place k)) (fine (suc k) n e)))

-- the first node of a layer that fails
layer_no : (m : Model) (cert : Cert) (l place : ℕ) (nodes : List CertNode) (k : ℕ) (n : CertNode) (reason : CertReason) → slice_get nodes k ≡ Some n → ((j : ℕ) (x : CertNode) → j < k → slice_get nodes j ≡ Some x → Fine m cert l (place + j) x) → node_fails m cert l (place + k) n ≡ Some reason
    → layer_told m cert l place nodes ≡ No (line_of_node cert.first cert.claim cert.layers l (place + k)) reason
layer_no m cert l place [] k n reason at fine fails = absurd (cc)
layer_no m cert l place (x ∷ nodes) zero n reason at fine fails =
    let same : x ≡ n = cc in
    let first : node_fails m cert l place x ≡ Some reason = subst (λ (y : CertNode). node_fails m cert l place y ≡ Some reason) (sym same) (subst (λ (j : ℕ). node_fails m cert l j n ≡ Some reason) (sym (plus_none place)) fails) in
    rw first (ap (λ (j : ℕ). No (line_of_node cert.first cert.claim cert.layers l j) reason) (plus_none place))
layer_no m cert l place (x ∷ nodes) (suc k) n reason at fine fails =
    let first : Fine m cert l place x = subst (λ (j : ℕ). Fine m cert l j x) (sym (plus_none place)) (fine 0 x (above_none k) refl) in
    let later = layer_no m cert l (place + 1) nodes k n reason at (λ j y less e. subst (λ (i : ℕ). Fine m cert l i y) (sym (plus_more place j)) (fine (suc j) y (more j k less) e))
    (subst (λ (j : ℕ). node_fails m cert l j n ≡ Some reason) (sym (plus_more place k)) fails) in
    rw first (later ∙ ap (λ (j : ℕ). No (line_of_node cert.first cert.claim cert.layers l j) reason) (plus_more place k))

abbrev AllFine : Model → Cert → (l : ℕ) → List CertNode → Type 0
AllFine m cert l nodes = (place : ℕ) (n : CertNode) → slice_get nodes place ≡ Some n → Fine m cert l place n

from_first : (m : Model) (cert : Cert) (l : ℕ) (nodes : List CertNode) → AllFine m cert l nodes → layer_told m cert l 0 nodes ≡ Yes
from_first m cert l nodes fine = layer_fine m cert l 0 nodes (λ k n e. subst (λ j. Fine m cert l j n) (sym (zero_plus k)) (fine k n e))

-- the first layer with such a node
layers_no : (m : Model) (cert : Cert) (l : ℕ) (layers : List (List CertNode)) (k : ℕ) (nodes : List CertNode) (ln : ℕ) (reason : CertReason) → slice_get layers k ≡ Some nodes
    → ((j : ℕ) (ns : List CertNode) → j < k → slice_get layers j ≡ Some ns → AllFine m cert (l + j) ns) → layer_told m cert (l + k) 0 nodes ≡ No ln reason → layers_told m cert l layers ≡ No ln reason
layers_no m cert l [] k nodes ln reason at fine told = absurd (cc)
layers_no m cert l (x ∷ layers) zero nodes ln reason at fine told =
    let same : x ≡ nodes = cc in
    let first : layer_told m cert l 0 x ≡ No ln reason = subst (λ (ns : List CertNode). layer_told m cert l 0 ns ≡ No ln reason) (sym same) (subst (λ (j : ℕ). layer_told m cert j 0 nodes ≡ No ln reason) (sym (plus_none l)) told) in
    rw first refl
layers_no m cert l (x ∷ layers) (suc k) nodes ln reason at fine told =
    let first = from_first m cert l x (λ place n e. subst (λ j. Fine m cert j place n) (sym (plus_none l)) (fine 0 x (above_none k) refl place n e)) in
    let later = layers_no m cert (l + 1) layers k nodes ln reason at (λ j ns less e place n f. subst (λ i. Fine m cert i place n) (sym (plus_more l j)) (fine (suc j) ns (more j k less) e place n f))
    (subst (λ (j : ℕ). layer_told m cert j 0 nodes ≡ No ln reason) (sym (plus_more l k)) told) in
    rw first later

shows_fine : (m : Model) (cert : Cert) (l place : ℕ) (n : CertNode) → IsAt cert l place n → LineShows m cert l place n → Fine m cert l place n
shows_fine m cert l place n at shows =
    let p = shows.node in
    let stands : Stands m cert l place p.0 p.1.0.0 = record { node = n; at = at; path = p.1.0.1; inner = p.1.1 } in
    found_line m cert l place n (record {
      here = reached p.0 p.1.0.0;
      found = found_node m cert l place p.0 p.1.0.0 p.1.0.1 p.1.1;
      cut = λ cut. shows.cut cut p.0 p.1.0.0 stands;
      steps = λ cut. shows.steps cut p.0 p.1.0.0 stands;
    })

-- the line of a node that fails, where all before it is right
line_told : (m : Model) (cert : Cert) (l place : ℕ) (n : CertNode) (reason : CertReason) → IsAt cert l place n → IsRightBefore m cert l place → node_fails m cert l place n ≡ Some reason
    → checked m cert ≡ No (line_of_node cert.first cert.claim cert.layers l place) reason
line_told m cert l place n reason at right fails =
    let there = layer_there cert.layers l place n at in
    let here = layer_no m cert l 0 (layer_of cert.layers l) place n reason at (λ j x less e. subst (λ (i : ℕ). Fine m cert l i x) (sym (zero_plus j)) (before l j x (inr (refl, less)) e))
    (subst (λ (j : ℕ). node_fails m cert l j n ≡ Some reason) (sym (zero_plus place)) fails) in
    let lines = layers_no m cert 0 cert.layers l (layer_of cert.layers l) (line_of_node cert.first cert.claim cert.layers l (0 + place)) reason there
    (λ j ns less e k x f. subst (λ (i : ℕ). Fine m cert i k x) (sym (zero_plus j)) (before j k x (inl less) (in_layer j ns k x e f)))
    (subst (λ (i : ℕ). layer_told m cert i 0 (layer_of cert.layers l) ≡ No (line_of_node cert.first cert.claim cert.layers l (0 + place)) reason) (sym (zero_plus l)) here) in
    rw (yes_target m cert right.target) (rw (yes_claim m cert.claim right.claim) (lines ∙ ap (λ (j : ℕ). No (line_of_node cert.first cert.claim cert.layers l j) reason) (zero_plus place)))
  where
    before : (k q : ℕ) (x : CertNode) → IsBefore k q l place → IsAt cert k q x → Fine m cert k q x
    before k q x is there = shows_fine m cert k q x there (right.lines k q x is there)

    in_layer : (j : ℕ) (ns : List CertNode) (k : ℕ) (x : CertNode) → slice_get cert.layers j ≡ Some ns → slice_get ns k ≡ Some x → IsAt cert j k x
    in_layer j ns k x e f = let same : layer_of cert.layers j ≡ ns = get_or_from_slice_get cert.layers j ns [] e in subst (λ (xs : List CertNode). slice_get xs k ≡ Some x) (sym same) f

pub node_fault_told : NodeFaultTold
node_fault_told m cert l place n at right meets = line_told m cert l place n reasons.Fault at right (line_stops m cert l place n n.cut at refl meets)

-- ---- the claim

claim_stops : (m : Model) (claim : Claim) → ClaimMeets m claim → claim_fails m claim ≡ Some reasons.Fault
claim_stops m Infeasible meets = absurd meets
claim_stops m (Optimal found) meets = let told = met_replay m found.steps meets in rw told.3 refl

pub claim_fault_told : ClaimFaultTold
claim_fault_told m cert target meets = rw (yes_target m cert target) (rw (claim_stops m cert.claim meets) refl)

-- ---- the target

-- what the target turns out to be when it is looked at
looked_target : (m : Model) → TargetMeets m → (met : SpotFault) × (looked_at m false m.target None ≡ Err met)
looked_target m met =
    let path = met.3.2 in
    let here : MeetsIn m false None m.target met.0 met.1 = subst (λ (s : PlainState). MeetsIn m false None s met.0 met.1) (sym path.0) (subst (λ c. MeetsIn m false c met.3.0 met.0 met.1) (sym path.1) met.3.3) in
    (record { spot = met.0; kind = met.1 }, look_met m false None m.target met.0 met.1 met.2 here)

pub target_fault_told : TargetFaultTold
target_fault_told m cert other meets =
    let looked = looked_target m meets in
    elim (true_or (is_alone cert.layers)) [
      | inl alone ↦ absurd (never looked.0 looked.1 (target_yes m cert (rw alone refl)))
      | inr not ↦ rw not (rw looked.1 refl)
    ]
  where
    no_look : (met : SpotFault) (look : Look) → looked_at m false m.target None ≡ Err met → looked_at m false m.target None ≡ Ok look → ⊥
    no_look met look e f = let clash : Err met ≡ Ok look = sym e ∙ f in cc

    never : (met : SpotFault) → looked_at m false m.target None ≡ Err met → TargetHolds m cert → ⊥
    never met e (inl out) = no_look met looks.NotAllowed e ((looked_forbidden m false m.target None).1 out)
    never met e (inr (inl base)) = no_look met (looks.Base base.0) e ((looked_base m false m.target None base.0).1 base.1)
    never met e (inr (inr alone)) = other alone
