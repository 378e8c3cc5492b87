-- The check tells yes exactly where the certificate shows its claim.
use Rattle.std.proofs.Common.{◌≡◌, ℕ, ◌+◌, inl, inr, zero, suc, Bool, true, false, ◌&&◌, List, [], ◌∷◌, length, slice_get, Option, Some, None, Result, Ok, refl, sym, ap, subst, ◌∙◌, arith}
use Rattle.std.specs.Prelude.{ℤ, int_le, nat_eq}
use Rattle.std.proofs.lemmas.Int.{ints}
use Rattle.std.proofs.lemmas.Option.{get_or_from_slice_get}
use Rattle.dp_model.specs.declared.answers.Claim.{Claim}
use Rattle.dp_model.specs.declared.answers.Claim.TheVariants.{Optimal, Infeasible}
use Rattle.dp_model.specs.declared.answers.Found.{Found as FoundList}
use Rattle.dp_model.specs.declared.parts.PlainState.{PlainState}
use Rattle.dp_model.specs.declared.whole.Model.{Model}
use Rattle.dp_steps.specs.Lists.{Solution}
use Rattle.spot_eval.specs.Looks.{looked_at}
use Rattle.spot_eval.specs.declared.looks.Look.{Look}
use Rattle.spot_eval.specs.declared.looks.Look.TheVariants as looks
use Rattle.replay_list.specs.Replays.{replayed}
use Rattle.replay_list.specs.declared.replayed.Reached.{Reached}
use Rattle.replay_list.specs.declared.replayed.Replayed.{Replayed}
use Rattle.replay_list.specs.declared.replayed.Replayed.TheVariants.{Legal, Illegal, Faulted}
use Rattle.replay_laws.proofs.Walks.{legal_found}
use Rattle.visit_laws.proofs.Looks.{looked_base, looked_forbidden}
use Rattle.cert_types.specs.Lines.{line_of_claim, line_of_node}
use Rattle.cert_types.specs.declared.cert.Cert.{Cert}
use Rattle.cert_types.specs.declared.nodes.CertNode.{CertNode}
use Rattle.cert_laws.specs.Shown.{layer_of, ClaimHolds, CutHolds, IsAt, Shown, Stands, StartsAlone, StepsHold, TargetHolds}
use Rattle.cert_laws.specs.Checks.{checked, claim_fails, is_alone, is_high, layer_told, layers_told, list_fails, node_fails, target_fails, target_fails_by, then_told, told_at, unless_fault}
use Rattle.cert_laws.specs.Told.{YesShows}
use Rattle.cert_laws.specs.declared.answers.CertReason.{CertReason}
use Rattle.cert_laws.specs.declared.answers.CertReason.TheVariants as reasons
use Rattle.cert_laws.specs.declared.answers.Checked.{Checked}
use Rattle.cert_laws.specs.declared.answers.Checked.TheVariants.{Yes, No}
use Rattle.cert_laws.proofs.Lists.{true_or}
use Rattle.cert_laws.proofs.Walks.{found_node, node_found, reached}
use Rattle.cert_laws.proofs.Fails.{found_line, high_is, is_high_there, line_found, must_true, no_fault, true_must, LineHolds}

-- ---- places

plus_none : (a : ℕ) → a ≡ a + 0
plus_none a = omega arith

plus_more : (a k : ℕ) → a + 1 + k ≡ a + suc k
plus_more a k = omega arith

-- what is so at the first place and at all behind it
at_places : {A : Type 0} (P : ℕ → A → Type 0) (place : ℕ) (x : A) (xs : List A) → P place x → ((k : ℕ) (n : A) → slice_get xs k ≡ Some n → P (place + 1 + k) n) → (k : ℕ) (n : A) → slice_get (x ∷ xs) k ≡ Some n → P (place + k) n
at_places P place x xs here rest zero n e = let same : x ≡ n = cc in subst (λ j. P j n) (plus_none place) (subst (P place) same here)
at_places P place x xs here rest (suc k) n e = subst (λ j. P j n) (plus_more place k) (rest k n e)

no_places : {A : Type 0} (k : ℕ) (n : A) → slice_get [] k ≡ Some n → ⊥
no_places k n e = let clash : None ≡ Some n = e in cc

-- a layer with a node is one of the layers
pub layer_there : (layers : List (List CertNode)) (l place : ℕ) (n : CertNode) → slice_get (layer_of layers l) place ≡ Some n → slice_get layers l ≡ Some (layer_of layers l)
layer_there [] l place n e = absurd (no_places place n e)
layer_there (nodes ∷ layers) zero place n e = refl
layer_there (nodes ∷ layers) (suc l) place n e = layer_there layers l place n e

-- ---- lines

pub told_yes : (line : ℕ) (o : Option CertReason) (later : Checked) → told_at line o later ≡ Yes → (o ≡ None) × (later ≡ Yes)
told_yes line None later h = (refl, h)
told_yes line (Some reason) later h = absurd (cc)

abbrev Fine : Model → Cert → (l : ℕ) → ℕ → CertNode → Type 0
Fine m cert l place n = node_fails m cert l place n ≡ None

then_yes : (told later : Checked) → then_told told later ≡ Yes → (told ≡ Yes) × (later ≡ Yes)
then_yes Yes later h = (refl, h)
then_yes (No line reason) later h = absurd (cc)

pub layer_yes : (m : Model) (cert : Cert) (l place : ℕ) (nodes : List CertNode) → layer_told m cert l place nodes ≡ Yes → (k : ℕ) (n : CertNode) → slice_get nodes k ≡ Some n → Fine m cert l (place + k) n
layer_yes m cert l place [] h k n e = absurd (no_places k n e)
layer_yes m cert l place (x ∷ nodes) h k n e =
    let t = told_yes (line_of_node cert.first cert.claim cert.layers l place) (node_fails m cert l place x) (layer_told m cert l (place + 1) nodes) h in
    at_places (Fine m cert l) place x nodes t.0 (layer_yes m cert l (place + 1) nodes t.1) k n e

abbrev AllFine : Model → Cert → (l : ℕ) → List CertNode → Type 0
AllFine m cert l nodes = (place : ℕ) (n : CertNode) → slice_get nodes place ≡ Some n → Fine m cert l place n

layers_yes : (m : Model) (cert : Cert) (l : ℕ) (layers : List (List CertNode)) → layers_told m cert l layers ≡ Yes → (k : ℕ) (nodes : List CertNode) → slice_get layers k ≡ Some nodes → AllFine m cert (l + k) nodes
layers_yes m cert l [] h k nodes e = absurd (no_places k nodes e)
layers_yes m cert l (nodes ∷ layers) h k found e =
    let t = then_yes (layer_told m cert l 0 nodes) (layers_told m cert (l + 1) layers) h in
    at_places (AllFine m cert) l nodes layers (λ place n at. subst (λ j. Fine m cert l j n) (zero_plus place) (layer_yes m cert l 0 nodes t.0 place n at)) (layers_yes m cert (l + 1) layers t.1) k found e
  where
    zero_plus : (k : ℕ) → 0 + k ≡ k
    zero_plus k = omega arith

yes_layer : (m : Model) (cert : Cert) (l place : ℕ) (nodes : List CertNode) → ((k : ℕ) (n : CertNode) → slice_get nodes k ≡ Some n → Fine m cert l (place + k) n) → layer_told m cert l place nodes ≡ Yes
yes_layer m cert l place [] fine = refl
yes_layer m cert l place (x ∷ nodes) fine =
    let first : node_fails m cert l place x ≡ None = subst (λ j. Fine m cert l j x) (sym (plus_none place)) (fine 0 x refl) in
    rw first (yes_layer m cert l (place + 1) nodes (λ k n e. subst (λ j. Fine m cert l j n) (sym (plus_more place k)) (fine (suc k) n e)))

yes_layers : (m : Model) (cert : Cert) (l : ℕ) (layers : List (List CertNode)) → ((k : ℕ) (nodes : List CertNode) → slice_get layers k ≡ Some nodes → AllFine m cert (l + k) nodes) → layers_told m cert l layers ≡ Yes
yes_layers m cert l [] fine = refl
yes_layers m cert l (nodes ∷ layers) fine =
    let first = yes_layer m cert l 0 nodes (λ k n e. subst (λ j. Fine m cert l j n) (plus_zero k) (subst (λ j. Fine m cert j k n) (sym (plus_none l)) (fine 0 nodes refl k n e))) in
    rw first (yes_layers m cert (l + 1) layers (λ k found e place n at. subst (λ j. Fine m cert j place n) (sym (plus_more l k)) (fine (suc k) found e place n at)))
  where
    plus_zero : (k : ℕ) → k ≡ 0 + k
    plus_zero k = omega arith

-- ---- the target

alone_one : (nodes : List CertNode) → nat_eq (length nodes) 1 ≡ true → (n : CertNode) × (nodes ≡ n ∷ [])
alone_one [] h = absurd (cc)
alone_one (n ∷ []) h = (n, refl)
alone_one (n ∷ x ∷ nodes) h = absurd (grind arith)

alone_starts : (cert : Cert) (layers : List (List CertNode)) → cert.layers ≡ layers → is_alone layers ≡ true → StartsAlone cert
alone_starts cert [] e h = absurd (cc)
alone_starts cert (nodes ∷ layers) e h =
    let one = alone_one nodes h in
    (one.0, ap (λ (ls : List (List CertNode)). slice_get ls 0) e ∙ ap Some one.1)

starts_alone : (layers : List (List CertNode)) (n : CertNode) → slice_get layers 0 ≡ Some (n ∷ []) → is_alone layers ≡ true
starts_alone [] n h = absurd (no_places 0 (n ∷ []) h)
starts_alone (nodes ∷ layers) n h = let same : nodes ≡ n ∷ [] = cc in rw same refl

look_holds : (m : Model) (cert : Cert) (look : Look) → looked_at m false m.target None ≡ Ok look → target_fails_by m cert look ≡ None → TargetHolds m cert
look_holds m cert looks.NotAllowed e h = inl ((looked_forbidden m false m.target None).0 e)
look_holds m cert (looks.Base base) e h = inr (inl (base, (looked_base m false m.target None base).0 e, high_is m cert.claim (Some base) (must_true (is_high m cert.claim (Some base)) reasons.Target h)))
look_holds m cert (looks.Open floor) e h = absurd (cc)

pub target_yes : (m : Model) (cert : Cert) → target_fails m cert ≡ None → TargetHolds m cert
target_yes m cert h =
    elim (true_or (is_alone cert.layers)) [
      | inl alone ↦ inr (inr (alone_starts cert cert.layers refl alone))
      | inr not ↦ (let look = no_fault (target_fails_by m cert) (looked_at m false m.target None) (rw not at h) in look_holds m cert look.0 look.1 look.2)
    ]

holds_look : (m : Model) (cert : Cert) → is_alone cert.layers ≡ false → TargetHolds m cert → unless_fault (target_fails_by m cert) (looked_at m false m.target None) ≡ None
holds_look m cert not (inl out) = rw ((looked_forbidden m false m.target None).1 out) refl
holds_look m cert not (inr (inl base)) = rw ((looked_base m false m.target None base.0).1 base.1) (true_must (is_high m cert.claim (Some base.0)) reasons.Target (is_high_there m cert.claim (Some base.0) base.2))
holds_look m cert not (inr (inr alone)) = let clash : true ≡ false = sym (starts_alone cert.layers alone.0 alone.1) ∙ not in absurd (cc)

pub yes_target : (m : Model) (cert : Cert) → TargetHolds m cert → target_fails m cert ≡ None
yes_target m cert holds = elim (true_or (is_alone cert.layers)) [ inl alone ↦ rw alone refl | inr not ↦ rw not (holds_look m cert not holds) ]

-- ---- the claim

same_cost : (a b : ℤ) → (int_le a b && int_le b a) ≡ true → b ≡ a
same_cost a b h = both (int_le a b) (int_le b a) refl refl h
  where
    both : (p q : Bool) → int_le a b ≡ p → int_le b a ≡ q → (p && q) ≡ true → b ≡ a
    both true true e f k = grind (arith, ints)
    both true false e f k = absurd (cc)
    both false q e f k = absurd (cc)

cost_same : (a : ℤ) → (int_le a a && int_le a a) ≡ true
cost_same a = let e : int_le a a ≡ true = grind (arith, ints) in rw e refl

replay_holds : (m : Model) (found : FoundList) (r : Replayed) → replayed m found.steps ≡ r → list_fails found.cost r ≡ None → Solution m found.steps found.cost
replay_holds m found (Legal total) e h =
    let same = same_cost found.cost total (must_true (int_le found.cost total && int_le total found.cost) reasons.Claim h) in
    (legal_found m found.steps found.cost).0 (e ∙ ap (λ (c : ℤ). Legal c) same)
replay_holds m found (Illegal done why) e h = absurd (cc)
replay_holds m found (Faulted done spot kind) e h = absurd (cc)

pub claim_yes : (m : Model) (claim : Claim) → claim_fails m claim ≡ None → ClaimHolds m claim
claim_yes m (Optimal found) h = replay_holds m found (replayed m found.steps) refl h
claim_yes m Infeasible h = tt

pub yes_claim : (m : Model) (claim : Claim) → ClaimHolds m claim → claim_fails m claim ≡ None
yes_claim m (Optimal found) holds = rw ((legal_found m found.steps found.cost).1 holds) (true_must (int_le found.cost found.cost && int_le found.cost found.cost) reasons.Claim (cost_same found.cost))
yes_claim m Infeasible holds = refl

-- ---- the whole

-- what stands at a place is what the check finds there
same_reached : (m : Model) (cert : Cert) (l place : ℕ) (n : CertNode) (line : LineHolds m cert l place n) (s : PlainState) (cost : Option ℤ) → Stands m cert l place s cost → line.here ≡ reached s cost
same_reached m cert l place n line s cost stands =
    ok_same line.here (reached s cost) (sym line.found ∙ found_node m cert l place s cost stands.path stands.inner)
  where
    ok_same : (a b : Reached) → ◌≡◌ {A = Result Reached CertReason} (Ok a) (Ok b) → a ≡ b
    ok_same a b e = cc

shown_from : (m : Model) (cert : Cert) → TargetHolds m cert → ClaimHolds m cert.claim → ((l place : ℕ) (n : CertNode) → IsAt cert l place n → LineHolds m cert l place n) → Shown m cert
shown_from m cert target claim lines =
    record {
      claim = claim;
      target = target;
      nodes = λ l place n at. (let line = lines l place n at in let found = node_found m cert l place line.here line.found in (line.here.state, ((line.here.cost, found.path), found.inner)));
      cuts = λ l place s cost stands cut.
          (let line = lines l place stands.node stands.at in subst (λ (x : Reached). CutHolds m cert x.state x.cost) (same_reached m cert l place stands.node line s cost stands) (line.cut cut));
      steps = λ l place s cost stands cut.
          (let line = lines l place stands.node stands.at in subst (λ (x : Reached). StepsHold m cert l x.state x.cost) (same_reached m cert l place stands.node line s cost stands) (line.steps cut));
    }

yes_shows : (m : Model) (cert : Cert) → checked m cert ≡ Yes → Shown m cert
yes_shows m cert h =
    let t = told_yes cert.first (target_fails m cert) (told_at (line_of_claim cert.first) (claim_fails m cert.claim) (layers_told m cert 0 cert.layers)) h in
    let c = told_yes (line_of_claim cert.first) (claim_fails m cert.claim) (layers_told m cert 0 cert.layers) t.1 in
    shown_from m cert (target_yes m cert t.0) (claim_yes m cert.claim c.0)
    (λ l place n at. line_found m cert l place n
    (subst (λ j. Fine m cert j place n) (zero_plus l) (layers_yes m cert 0 cert.layers c.1 l (layer_of cert.layers l) (layer_there cert.layers l place n at) place n at)))
  where
    zero_plus : (k : ℕ) → 0 + k ≡ k
    zero_plus k = omega arith

line_shown : (m : Model) (cert : Cert) → Shown m cert → (l place : ℕ) (n : CertNode) → IsAt cert l place n → LineHolds m cert l place n
line_shown m cert shown l place n at =
    let p = shown.nodes l place n at in
    let stands : Stands m cert l place p.0 p.1.0.0 = record { node = n; at = at; path = p.1.0.1; inner = p.1.1 } in
    record {
      here = reached p.0 p.1.0.0;
      found = found_node m cert l place p.0 p.1.0.0 p.1.0.1 p.1.1;
      cut = λ cut. shown.cuts l place p.0 p.1.0.0 stands cut;
      steps = λ cut. shown.steps l place p.0 p.1.0.0 stands cut;
    }

shows_yes : (m : Model) (cert : Cert) → Shown m cert → checked m cert ≡ Yes
shows_yes m cert shown =
    let lines : layers_told m cert 0 cert.layers ≡ Yes =
    yes_layers m cert 0 cert.layers (λ k nodes e place n at. subst (λ j. Fine m cert j place n) (plus_zero k)
    (found_line m cert k place n (line_shown m cert shown k place n (there k nodes place n e at)))) in
    rw (yes_target m cert shown.target) (rw (yes_claim m cert.claim shown.claim) lines)
  where
    plus_zero : (k : ℕ) → k ≡ 0 + k
    plus_zero k = omega arith

    there : (k : ℕ) (nodes : List CertNode) (place : ℕ) (n : CertNode) → slice_get cert.layers k ≡ Some nodes → slice_get nodes place ≡ Some n → IsAt cert k place n
    there k nodes place n e at = let same : layer_of cert.layers k ≡ nodes = get_or_from_slice_get cert.layers k nodes [] e in subst (λ (ns : List CertNode). slice_get ns place ≡ Some n) (sym same) at

pub yes_law : YesShows
yes_law m cert = (yes_shows m cert, shows_yes m cert)
