-- Where the check of a certificate tells a fault, a list meets one: line by line.
use Rattle.std.proofs.Common.{◌≡◌, ℕ, ◌+◌, ◌⊎◌, inl, inr, suc, Bool, true, false, List, [], ◌∷◌, ◌++◌, slice_get, take, Option, Some, None, Result, Ok, Err, refl, sym, ap, subst, ◌∙◌, arith}
use Rattle.std.specs.Prelude.{ℤ}
use Rattle.std.proofs.lemmas.Bool.{false≢true}
use Rattle.std.proofs.lemmas.Option.{get_or_from_slice_get}
use Rattle.dp_model.specs.declared.answers.Claim.{Claim}
use Rattle.dp_model.specs.declared.answers.Claim.TheVariants.{Optimal, Infeasible}
use Rattle.dp_model.specs.declared.answers.FaultKind.{FaultKind}
use Rattle.dp_model.specs.declared.answers.Spot.{Spot}
use Rattle.dp_model.specs.declared.answers.Spot.TheVariants as spots
use Rattle.dp_model.specs.declared.parts.PlainState.{PlainState}
use Rattle.dp_model.specs.declared.whole.Model.{Model}
use Rattle.dp_steps.specs.Faults.{Meets, MeetsIn}
use Rattle.spot_eval.specs.Looks.{looked_at}
use Rattle.spot_eval.specs.declared.looks.Look.{Look}
use Rattle.spot_eval.specs.declared.looks.Look.TheVariants as looks
use Rattle.replay_list.specs.Replays.{replayed}
use Rattle.replay_list.specs.declared.replayed.Reached.{Reached}
use Rattle.replay_list.specs.declared.replayed.Replayed.{Replayed}
use Rattle.replay_list.specs.declared.replayed.Replayed.TheVariants.{Legal, Illegal, Faulted}
use Rattle.visit_laws.proofs.Looks.{look_faults}
use Rattle.cert_types.specs.Lines.{line_of_claim, line_of_node}
use Rattle.cert_types.specs.declared.cert.Cert.{Cert}
use Rattle.cert_types.specs.declared.nodes.CertNode.{CertNode}
use Rattle.cert_laws.specs.Shown.{layer_of, list_of, StartsAlone}
use Rattle.cert_laws.specs.Checks.{claim_fails, covering, is_alone, is_high, layer_told, layers_told, list_fails, node_at, node_fails, node_fails_at, target_fails, target_fails_by, then_told, told_at}
use Rattle.cert_laws.specs.declared.answers.CertReason.{CertReason}
use Rattle.cert_laws.specs.declared.answers.CertReason.TheVariants as reasons
use Rattle.cert_laws.specs.declared.answers.Checked.{Checked}
use Rattle.cert_laws.specs.declared.answers.Checked.TheVariants.{Yes, No}
use Rattle.cert_laws.proofs.Lists.{some_same, true_or}
use Rattle.cert_laws.proofs.Walks.{node_found}
use Rattle.cert_rows.specs.Faults.{ClaimMeets, FaultHasList, FaultIsMet, IsStopped, NodeLineMeets, NodeMeets, StepMeets, TargetMeets, TotalMeets}
use Rattle.cert_rows.proofs.Claims.{replay_met}
use Rattle.cert_rows.proofs.Meeting.{cut_met, list_met, must_no_fault, open_met, unless_some}

-- ---- the target and the claim

-- layer 0 is one node
starts_alone : (layers : List (List CertNode)) (n : CertNode) → slice_get layers 0 ≡ Some (n ∷ []) → is_alone layers ≡ true
starts_alone [] n h = absurd (cc)
starts_alone (nodes ∷ layers) n h = let same : nodes ≡ n ∷ [] = cc in rw same refl

target_met : (m : Model) (cert : Cert) → target_fails m cert ≡ Some reasons.Fault → (StartsAlone cert → ⊥) × TargetMeets m
target_met m cert h =
    elim (true_or (is_alone cert.layers)) [
      | inl alone ↦ (let clash : None ≡ Some reasons.Fault = rw alone at h in absurd (cc))
      | inr not ↦ elim (unless_some (target_fails_by m cert) (looked_at m false m.target None) (rw not at h)) [
        | inl f ↦ (let met = (look_faults m false None m.target f.0).0 f.1 in (not_alone not, (f.0.spot, f.0.kind, met.0, (m.target, None, (refl, refl), met.1))))
        | inr p ↦ absurd (no_fault p.0 p.2)
      ]
    ]
  where
    not_alone : is_alone cert.layers ≡ false → StartsAlone cert → ⊥
    not_alone not alone = false≢true (sym not ∙ starts_alone cert.layers alone.0 alone.1)

    no_fault : (look : Look) → target_fails_by m cert look ≡ Some reasons.Fault → ⊥
    no_fault looks.NotAllowed e = cc
    no_fault (looks.Base base) e = must_no_fault (is_high m cert.claim (Some base)) reasons.Target (λ e. cc) e
    no_fault (looks.Open floor) e = cc

claim_met : (m : Model) (claim : Claim) → claim_fails m claim ≡ Some reasons.Fault → ClaimMeets m claim
claim_met m Infeasible h = absurd (cc)
claim_met m (Optimal found) h = by_replay (replayed m found.steps) refl h
  where
    by_replay : (r : Replayed) → replayed m found.steps ≡ r → list_fails found.cost r ≡ Some reasons.Fault → IsStopped m found.steps ⊎ TotalMeets m found.steps
    by_replay (Legal total) e fails = absurd (must_no_fault _ reasons.Claim (λ e. cc) fails)
    by_replay (Illegal done why) e fails = absurd (cc)
    by_replay (Faulted done spot kind) e fails = replay_met m found.steps done spot kind e

-- ---- the line of a node

module _ (m : Model) (cert : Cert) (l place : ℕ) (n : CertNode) where
  on_the_way : (cut : Bool) → IsStopped m (list_of cert.layers l place) → NodeMeets m cert l place cut
  on_the_way true stopped = inl stopped
  on_the_way false stopped = inl stopped

  line_at : (r : Result Reached CertReason) → node_at m cert l place ≡ r → node_fails_at m cert (covering m cert cert.keep (l + 1)) n r ≡ Some reasons.Fault → NodeMeets m cert l place n.cut
  line_at (Err why) e h = on_the_way n.cut (list_met m (list_of cert.layers l place) (e ∙ ap (λ (x : CertReason). Err x) (some_same why reasons.Fault h)))
  line_at (Ok here) e h =
      let found = node_found m cert l place here e in
      elim (true_or n.cut) [
        | inl cut ↦ subst (NodeMeets m cert l place) (sym cut) (inr (cut_met m cert l place here found.path found.inner (rw cut at h)))
        | inr uncut ↦ subst (NodeMeets m cert l place) (sym uncut) (inr (open_met m cert l place here e (rw uncut at h)))
      ]

  line_met : node_fails m cert l place n ≡ Some reasons.Fault → NodeMeets m cert l place n.cut
  line_met h = line_at (node_at m cert l place) refl h

-- ---- the first line that is wrong

told_no : (line ln : ℕ) (o : Option CertReason) (reason : CertReason) (later : Checked) → told_at line o later ≡ No ln reason → ((o ≡ Some reason) × (ln ≡ line)) ⊎ (later ≡ No ln reason)
told_no line ln None reason later h = inr h
told_no line ln (Some r) reason later h = inl (cc, cc)

then_no : (ln : ℕ) (reason : CertReason) (told later : Checked) → then_told told later ≡ No ln reason → (told ≡ No ln reason) ⊎ (later ≡ No ln reason)
then_no ln reason Yes later h = inr h
then_no ln reason (No line r) later h = inl h

-- a node of a layer is rejected by a fault at this line, where these nodes stand from a place on
record Rejects (m : Model) (cert : Cert) (l place : ℕ) (ns : List CertNode) (ln : ℕ) : Type 0 where
  pub k : ℕ
  pub n : CertNode
  pub at : slice_get ns k ≡ Some n
  pub line : ln ≡ line_of_node cert.first cert.claim cert.layers l (place + k)
  pub fails : node_fails m cert l (place + k) n ≡ Some reasons.Fault

plus_none : (a : ℕ) → a ≡ a + 0
plus_none a = omega arith

plus_more : (a k : ℕ) → a + 1 + k ≡ a + suc k
plus_more a k = omega arith

zero_plus : (k : ℕ) → 0 + k ≡ k
zero_plus k = omega arith

layer_rejects : (m : Model) (cert : Cert) (l place : ℕ) (ns : List CertNode) (ln : ℕ) → layer_told m cert l place ns ≡ No ln reasons.Fault → Rejects m cert l place ns ln
layer_rejects m cert l place [] ln h = absurd (cc)
layer_rejects m cert l place (x ∷ ns) ln h =
    elim (told_no (line_of_node cert.first cert.claim cert.layers l place) ln (node_fails m cert l place x) reasons.Fault (layer_told m cert l (place + 1) ns) h) [
      | inl here ↦ record {
        k = 0;
        n = x;
        at = refl;
        line = here.1 ∙ ap (line_of_node cert.first cert.claim cert.layers l) (plus_none place);
        fails = subst (λ (j : ℕ). node_fails m cert l j x ≡ Some reasons.Fault) (plus_none place) here.0;
      }
      | inr later ↦ (let r = layer_rejects m cert l (place + 1) ns ln later in record {
        k = suc r.k;
        n = r.n;
        at = r.at;
        line = r.line ∙ ap (line_of_node cert.first cert.claim cert.layers l) (plus_more place r.k);
        fails = subst (λ (j : ℕ). node_fails m cert l j r.n ≡ Some reasons.Fault) (plus_more place r.k) r.fails;
      })
    ]

-- one of the layers has such a node, where these stand from one on
record RejectsIn (m : Model) (cert : Cert) (l : ℕ) (layers : List (List CertNode)) (ln : ℕ) : Type 0 where
  pub k : ℕ
  pub nodes : List CertNode
  pub at : slice_get layers k ≡ Some nodes
  pub rejects : Rejects m cert (l + k) 0 nodes ln

layers_reject : (m : Model) (cert : Cert) (l : ℕ) (layers : List (List CertNode)) (ln : ℕ) → layers_told m cert l layers ≡ No ln reasons.Fault → RejectsIn m cert l layers ln
layers_reject m cert l [] ln h = absurd (cc)
layers_reject m cert l (nodes ∷ layers) ln h =
    elim (then_no ln reasons.Fault (layer_told m cert l 0 nodes) (layers_told m cert (l + 1) layers) h) [
      | inl here ↦ record { k = 0; nodes = nodes; at = refl; rejects = subst (λ (j : ℕ). Rejects m cert j 0 nodes ln) (plus_none l) (layer_rejects m cert l 0 nodes ln here) }
      | inr later ↦ (let r = layers_reject m cert (l + 1) layers ln later in record { k = suc r.k; nodes = r.nodes; at = r.at; rejects = subst (λ (j : ℕ). Rejects m cert j 0 r.nodes ln) (plus_more l r.k) r.rejects })
    ]

-- the node that is rejected, with its own numbers
node_line_met : (m : Model) (cert : Cert) (ln : ℕ) → RejectsIn m cert 0 cert.layers ln → NodeLineMeets m cert ln
node_line_met m cert ln r =
    let x = subst (λ (l : ℕ). Rejects m cert l 0 r.nodes ln) (zero_plus r.k) r.rejects in
    let same : layer_of cert.layers r.k ≡ r.nodes = get_or_from_slice_get cert.layers r.k r.nodes [] r.at in
    record {
      l = r.k;
      place = x.k;
      n = x.n;
      at = subst (λ (ns : List CertNode). slice_get ns x.k ≡ Some x.n) (sym same) x.at;
      is_line = x.line ∙ ap (line_of_node cert.first cert.claim cert.layers r.k) (zero_plus x.k);
      meets = line_met m cert r.k x.k x.n (subst (λ (j : ℕ). node_fails m cert r.k j x.n ≡ Some reasons.Fault) (zero_plus x.k) x.fails);
    }

pub fault_is_met : FaultIsMet
fault_is_met m cert line h =
    elim (told_no cert.first line (target_fails m cert) reasons.Fault (told_at (line_of_claim cert.first) (claim_fails m cert.claim) (layers_told m cert 0 cert.layers)) h) [
      | inl first ↦ (let met = target_met m cert first.0 in inl (first.1, met.0, met.1))
      | inr more ↦ elim (told_no (line_of_claim cert.first) line (claim_fails m cert.claim) reasons.Fault (layers_told m cert 0 cert.layers) more) [
        | inl claim ↦ inr (inl (claim.1, claim_met m cert.claim claim.0))
        | inr lines ↦ inr (inr (node_line_met m cert line (layers_reject m cert 0 cert.layers line lines)))
      ]
    ]

-- ---- some list

-- a fault that is met without dual bounds is met with them
with_bounds : (m : Model) (prune : Bool) (s : PlainState) (cost : Option ℤ) (spot : Spot) (kind : FaultKind) → MeetsIn m false cost s spot kind → MeetsIn m prune cost s spot kind
with_bounds m prune s cost (spots.Constraint i) kind meets = meets
with_bounds m prune s cost (spots.BaseCondition i j) kind meets = meets
with_bounds m prune s cost (spots.BaseCost i) kind meets = meets
with_bounds m prune s cost spots.Total kind meets = meets
with_bounds m prune s cost (spots.Bound i) kind meets = absurd (false≢true meets.0.1)
with_bounds m prune s cost (spots.Precondition g j) kind meets = meets
with_bounds m prune s cost (spots.Weight g) kind meets = meets
with_bounds m prune s cost (spots.Cost g) kind meets = meets
with_bounds m prune s cost (spots.Effect g i) kind meets = meets

-- some list meets some fault
abbrev IsMet : Model → (prune : Bool) → Type 0
IsMet m prune = (steps : List ℕ) × (spot : Spot) × (kind : FaultKind) × Meets m prune steps spot kind

module _ (m : Model) (cert : Cert) where
  without : (steps : List ℕ) (spot : Spot) (kind : FaultKind) → Meets m false steps spot kind → IsMet m cert.prune
  without steps spot kind meets = (steps, spot, kind, (meets.0, meets.1, meets.2, with_bounds m cert.prune meets.0 meets.1 spot kind meets.3))

  of_stopped : (steps : List ℕ) → IsStopped m steps → IsMet m cert.prune
  of_stopped steps stopped = let met = stopped.meets in without (take stopped.done steps) met.0 met.1 met.3

  of_claim : (claim : Claim) → ClaimMeets m claim → IsMet m cert.prune
  of_claim Infeasible meets = absurd meets
  of_claim (Optimal found) (inl stopped) = of_stopped found.steps stopped
  of_claim (Optimal found) (inr total) = without found.steps spots.Total total.0 total.1

  of_step : (steps : List ℕ) (g : ℕ) → StepMeets m cert.prune steps g → IsMet m cert.prune
  of_step steps g (inl met) = (steps, met.0, met.1, met.3)
  of_step steps g (inr met) = (steps ++ g ∷ [], met.0, met.1, met.3)

  of_node : (l place : ℕ) (cut : Bool) → NodeMeets m cert l place cut → IsMet m cert.prune
  of_node l place true (inl stopped) = of_stopped (list_of cert.layers l place) stopped
  of_node l place false (inl stopped) = of_stopped (list_of cert.layers l place) stopped
  of_node l place true (inr met) = (list_of cert.layers l place, spots.Bound met.0, met.1, met.2)
  of_node l place false (inr step) = of_step (list_of cert.layers l place) step.g step.meets

pub fault_has_list : FaultHasList
fault_has_list m cert line h =
    elim (fault_is_met m cert line h) [
      | inl first ↦ (let met = first.2 in without m cert [] met.0 met.1 met.3)
      | inr more ↦ elim more [ inl claim ↦ of_claim m cert cert.claim claim.1 | inr node ↦ of_node m cert node.l node.place node.n.cut node.meets ]
    ]
