-- When the clauses at the line of a node fail, as the check finds it and as the model means it.
use Rattle.std.proofs.Common.{◌≡◌, ℕ, ◌+◌, ◌<◌, ◌≤◌, ◌⊎◌, inl, inr, zero, suc, Bool, true, false, ◌||◌, List, [], ◌∷◌, length, Option, Some, None, Result, Ok, Err, refl, sym, ap, subst, ◌∙◌, arith}
use Rattle.std.specs.Prelude.{ℤ, ◌≤ℤ◌, int_le, IfSome}
use Rattle.std.specs.List.{range_with_len}
use Rattle.std.proofs.lemmas.Int.{ints}
use Rattle.dp_model.specs.Costs.{InRange, join_onto, ranged}
use Rattle.dp_model.specs.StepTexts.{ground_of}
use Rattle.dp_model.specs.declared.answers.Claim.{Claim}
use Rattle.dp_model.specs.declared.answers.FaultKind.{FaultKind}
use Rattle.dp_model.specs.declared.answers.Keep.{Keep}
use Rattle.dp_model.specs.declared.answers.Keep.TheVariants.{Layer, All}
use Rattle.dp_model.specs.declared.answers.Spot.{Spot}
use Rattle.dp_model.specs.declared.answers.Spot.TheVariants as spots
use Rattle.dp_model.specs.declared.parts.PlainState.{PlainState}
use Rattle.dp_model.specs.declared.parts.Transition.{Transition}
use Rattle.dp_model.specs.declared.whole.Model.{Model}
use Rattle.dp_steps.specs.Bounds.{IsFloor}
use Rattle.dp_steps.specs.States.{Considered, Enabled, Inner}
use Rattle.dp_claims.specs.Enough.{Has}
use Rattle.spot_eval.specs.Answers.{at_spot}
use Rattle.spot_eval.specs.Looks.{floor_at, looked_at}
use Rattle.spot_eval.specs.Moves.{cost_at, may_step_at}
use Rattle.spot_eval.specs.declared.ends.SpotFault.{SpotFault}
use Rattle.spot_eval.specs.declared.looks.Look.{Look}
use Rattle.spot_eval.specs.declared.looks.Look.TheVariants as looks
use Rattle.replay_list.specs.declared.replayed.Reached.{Reached}
use Rattle.state_layout.specs.Slots.{slots_of}
use Rattle.dom_store.specs.Covering.{bare}
use Rattle.dom_store.specs.Past.{covers_past}
use Rattle.dom_store.specs.declared.past_node.PastNode.{PastNode}
use Rattle.dom_store.specs.Laws.{covers_decides}
use Rattle.visit_laws.proofs.Costs.{ranged_value, value_ranged}
use Rattle.visit_laws.proofs.Looks.{floor_found, looked_base, looked_forbidden, looked_open}
use Rattle.visit_laws.proofs.Steps.{step_found, step_made}
use Rattle.visit_laws.proofs.Transitions.{ground_within, may_step_found}
use Rattle.cert_types.specs.declared.cert.Cert.{Cert}
use Rattle.cert_types.specs.declared.nodes.CertNode.{CertNode}
use Rattle.cert_laws.specs.Shown.{claimed_word, layer_of, word, Accounts, CutHolds, EndsHigh, GoesOn, IsCovered, IsHigh, IsNotBelow, IsSettled, MayCover, Stands, StepsHold}
use Rattle.cert_laws.specs.Checks.{covering, cut_fails, first_of, if_stands, is_covered, is_high, looked_fails, moved, must, node_at, node_fails, node_fails_at, standing, standing_up_to, step_fails, step_fails_if, steps_fail, successor_fails, taken_fails, unless_fault}
use Rattle.cert_laws.specs.declared.answers.CertReason.{CertReason}
use Rattle.cert_laws.specs.declared.answers.CertReason.TheVariants as reasons
use Rattle.cert_laws.proofs.Lists.{any_has, flat_has, get_within, has_any, has_cases, has_flat, has_head, has_left, has_none, has_one, has_range, has_right, range_has, within_get}
use Rattle.cert_laws.proofs.Walks.{found_node, moved_parts, node_found, reached}

-- ---- parts of a check

pub must_true : (b : Bool) (reason : CertReason) → must b reason ≡ None → b ≡ true
must_true true reason h = refl
must_true false reason h = absurd (cc)

pub true_must : (b : Bool) (reason : CertReason) → b ≡ true → must b reason ≡ None
true_must true reason h = refl
true_must false reason h = absurd (cc)

pub no_fault : {A : Type 0} (go : A → Option CertReason) (r : Result A SpotFault) → unless_fault go r ≡ None → (x : A) × (r ≡ Ok x) × (go x ≡ None)
no_fault go (Ok x) h = (x, refl, h)
no_fault go (Err met) h = absurd (cc)

spot_ok : {A : Type 0} (spot : Spot) (r : Result A FaultKind) (x : A) → at_spot spot r ≡ Ok x → r ≡ Ok x
spot_ok spot (Ok y) x h = let q : y ≡ x = cc in rw q refl
spot_ok spot (Err kind) x h = absurd (cc)

le_true : (a b : ℤ) → int_le a b ≡ true → a ≤ℤ b
le_true a b h = grind (arith, ints)

true_le : (a b : ℤ) → a ≤ℤ b → int_le a b ≡ true
true_le a b h = grind (arith, ints)

pub high_is : (m : Model) (claim : Claim) (floor : Option ℤ) → is_high m claim floor ≡ true → IsHigh m claim floor
high_is m claim None h = absurd (cc)
high_is m claim (Some n) h = le_true (claimed_word m claim) (word m (Some n)) h

pub is_high_there : (m : Model) (claim : Claim) (floor : Option ℤ) → IsHigh m claim floor → is_high m claim floor ≡ true
is_high_there m claim None h = absurd h
is_high_there m claim (Some n) h = true_le (claimed_word m claim) (word m (Some n)) h

-- ---- a cut node

cut_at : (m : Model) (cert : Cert) (s : PlainState) (cost floor : Option ℤ) → IsFloor m cert.prune s cost floor → IsHigh m cert.claim floor → CutHolds m cert s cost
cut_at m cert s cost None is high = absurd high
cut_at m cert s cost (Some floor) is high = (floor, is, high)

pub cut_found : (m : Model) (cert : Cert) (s : PlainState) (cost : Option ℤ) → cut_fails m cert (reached s cost) ≡ None → CutHolds m cert s cost
cut_found m cert s cost h =
    let p = no_fault (λ floor. must (is_high m cert.claim floor) reasons.Cut) (floor_at m cert.prune s cost) h in
    cut_at m cert s cost p.0 ((floor_found m cert.prune s cost p.0).0 p.1) (high_is m cert.claim p.0 (must_true (is_high m cert.claim p.0) reasons.Cut p.2))

pub found_cut : (m : Model) (cert : Cert) (s : PlainState) (cost : Option ℤ) → CutHolds m cert s cost → cut_fails m cert (reached s cost) ≡ None
found_cut m cert s cost c = rw ((floor_found m cert.prune s cost (Some c.0)).1 c.1) (true_must (is_high m cert.claim (Some c.0)) reasons.Cut (is_high_there m cert.claim (Some c.0) c.2))

-- ---- what covers

abbrev past_of : Reached → PastNode
past_of here = record { state = here.state; cost = here.cost }

stands_if : (r : Result Reached CertReason) (n : PastNode) → Has (if_stands r) n → (here : Reached) × (r ≡ Ok here) × (past_of here ≡ n)
stands_if (Ok here) n h = (here, refl, has_one (past_of here) n h)
stands_if (Err reason) n h = absurd (has_none n h)

-- a node of a layer that stands
record Standing (m : Model) (cert : Cert) (l : ℕ) (n : PastNode) : Type 0 where
  pub place : ℕ
  pub here : Reached
  pub stands : Stands m cert l place here.state here.cost
  pub same : past_of here ≡ n

standing_stands : (m : Model) (cert : Cert) (l : ℕ) (n : PastNode) → Has (standing m cert l) n → Standing m cert l n
standing_stands m cert l n h =
    let places = range_with_len 0 (length (layer_of cert.layers l)) in
    let p = has_flat (λ place. if_stands (node_at m cert l place)) places n h in
    let within = has_range 0 (length (layer_of cert.layers l)) p.0 p.1 in
    let q = stands_if (node_at m cert l p.0) n p.2 in
    let found = node_found m cert l p.0 q.0 q.1 in
    let node = get_within (layer_of cert.layers l) p.0 (from_zero p.0 (length (layer_of cert.layers l)) within.1) in
    record { place = p.0; here = q.0; stands = record { node = node.0; at = node.1; path = found.path; inner = found.inner }; same = q.2 }
  where
    from_zero : (a b : ℕ) → a < 0 + b → a < b
    from_zero a b h = omega arith

stands_standing : (m : Model) (cert : Cert) (l place : ℕ) (s : PlainState) (cost : Option ℤ) → Stands m cert l place s cost → Has (standing m cert l) (past_of (reached s cost))
stands_standing m cert l place s cost stands =
    let places = range_with_len 0 (length (layer_of cert.layers l)) in
    let within = within_get (layer_of cert.layers l) place stands.node stands.at in
    let found = found_node m cert l place s cost stands.path stands.inner in
    let one : Has (if_stands (node_at m cert l place)) (past_of (reached s cost)) = rw found (0, refl) in
    flat_has (λ place. if_stands (node_at m cert l place)) places place (past_of (reached s cost)) (range_has 0 (length (layer_of cert.layers l)) place (omega arith) (to_zero place (length (layer_of cert.layers l)) within)) one
  where
    to_zero : (a b : ℕ) → a < b → a < 0 + b
    to_zero a b h = omega arith

-- a node of the layers up to one
up_to_one : (m : Model) (cert : Cert) (layer : ℕ) (n : PastNode) → Has (standing_up_to m cert layer) n → (l : ℕ) × (l ≤ layer) × Standing m cert l n
up_to_one m cert zero n h = (0, omega arith, standing_stands m cert 0 n h)
up_to_one m cert (suc layer) n h =
    elim (has_cases (standing_up_to m cert layer) (standing m cert (suc layer)) n h) [
      | inl before ↦ (let r = up_to_one m cert layer n before in (r.0, further r.0 layer r.1, r.2))
      | inr here ↦ (suc layer, at_most (suc layer), standing_stands m cert (suc layer) n here)
    ]
  where
    further : (l layer : ℕ) → l ≤ layer → l ≤ suc layer
    further l layer h = omega arith

    at_most : (l : ℕ) → l ≤ l
    at_most l = omega arith

one_up_to : (m : Model) (cert : Cert) (layer l : ℕ) (n : PastNode) → l ≤ layer → Has (standing m cert l) n → Has (standing_up_to m cert layer) n
one_up_to m cert zero l n le h = subst (λ (k : ℕ). Has (standing m cert k) n) (none l le) h
  where
    none : (l : ℕ) → l ≤ 0 → l ≡ 0
    none l h = omega arith
one_up_to m cert (suc layer) l n le h =
    elim (last_or l layer le) [
      | inl same ↦ has_right (standing_up_to m cert layer) (standing m cert (suc layer)) n (subst (λ (k : ℕ). Has (standing m cert k) n) same h)
      | inr less ↦ has_left (standing_up_to m cert layer) (standing m cert (suc layer)) n (one_up_to m cert layer l n less h)
    ]
  where
    last_or : (l layer : ℕ) → l ≤ suc layer → (l ≡ suc layer) ⊎ (l ≤ layer)
    last_or l layer h = grind arith

-- what may cover stands in a layer that may
covering_may : (m : Model) (cert : Cert) (keep : Keep) (layer : ℕ) (n : PastNode) → Has (covering m cert keep layer) n → (l : ℕ) × MayCover keep layer l × Standing m cert l n
covering_may m cert Layer layer n h = (layer, refl, standing_stands m cert layer n h)
covering_may m cert All layer n h = up_to_one m cert layer n h

may_covering : (m : Model) (cert : Cert) (keep : Keep) (layer l : ℕ) (n : PastNode) → MayCover keep layer l → Has (standing m cert l) n → Has (covering m cert keep layer) n
may_covering m cert Layer layer l n may h = subst (λ (k : ℕ). Has (standing m cert k) n) may h
may_covering m cert All layer l n may h = one_up_to m cert layer l n may h

-- what the nodes that may cover one of this layer are
abbrev Past : Model → Cert → (layer : ℕ) → List PastNode
Past m cert layer = covering m cert cert.keep layer

pub covered_found : (m : Model) (cert : Cert) (layer : ℕ) (s : PlainState) (cost : Option ℤ) → is_covered m cert.prune (Past m cert layer) s cost ≡ true → IsCovered m cert layer s cost
covered_found m cert layer s cost h =
    let test : PastNode → Bool = λ n. covers_past cert.prune m.minimize m.join (slots_of m.objects m.variables) n (bare s cost) in
    let p = any_has test (Past m cert layer) h in
    let q = covering_may m cert cert.keep layer p.0 p.1 in
    let c = (covers_decides m cert.prune (bare q.2.here.state q.2.here.cost) (bare s cost)).0 (subst (λ (n : PastNode). test n ≡ true) (sym q.2.same) p.2) in
    record { l = q.0; place = q.2.place; state = q.2.here.state; so_far = q.2.here.cost; may = q.1; stands = q.2.stands; covers = c }

pub found_covered : (m : Model) (cert : Cert) (layer : ℕ) (s : PlainState) (cost : Option ℤ) → IsCovered m cert layer s cost → is_covered m cert.prune (Past m cert layer) s cost ≡ true
found_covered m cert layer s cost c =
    let test : PastNode → Bool = λ n. covers_past cert.prune m.minimize m.join (slots_of m.objects m.variables) n (bare s cost) in
    let n = past_of (reached c.state c.so_far) in
    has_any test (Past m cert layer) n (may_covering m cert cert.keep layer c.l n c.may (stands_standing m cert c.l c.place c.state c.so_far c.stands)) ((covers_decides m cert.prune (bare c.state c.so_far) (bare s cost)).1 c.covers)

-- ---- a successor

either_true : (a b : Bool) → (a || b) ≡ true → (a ≡ true) ⊎ (b ≡ true)
either_true true b h = inl refl
either_true false b h = inr h

first_true : (a b : Bool) → a ≡ true → (a || b) ≡ true
first_true true b h = refl
first_true false b h = absurd (cc)

second_true : (a b : Bool) → b ≡ true → (a || b) ≡ true
second_true true b h = refl
second_true false b h = h

pub settled_found : (m : Model) (cert : Cert) (layer : ℕ) (s : PlainState) (cost : Option ℤ) (look : Look) → looked_at m cert.prune s cost ≡ Ok look → successor_fails m cert (Past m cert layer) s cost look ≡ None → IsSettled m cert layer s cost
settled_found m cert layer s cost looks.NotAllowed e h = inl ((looked_forbidden m cert.prune s cost).0 e)
settled_found m cert layer s cost (looks.Base base) e h =
    let p = no_fault (λ total. must (is_high m cert.claim (Some total)) reasons.Step) (at_spot spots.Total (ranged (join_onto m.join cost base))) h in
    let r = ranged_value (join_onto m.join cost base) p.0 (spot_ok spots.Total (ranged (join_onto m.join cost base)) p.0 p.1) in
    inr (inl (record {
      base = base;
      total = p.0;
      is_base = (looked_base m cert.prune s cost base).0 e;
      is = r.1;
      in_range = subst InRange (sym r.1) r.0;
      high = high_is m cert.claim (Some p.0) (must_true (is_high m cert.claim (Some p.0)) reasons.Step p.2);
    }))
settled_found m cert layer s cost (looks.Open floor) e h =
    let o = (looked_open m cert.prune s cost floor).0 e in
    let either = either_true (is_high m cert.claim floor) (is_covered m cert.prune (Past m cert layer) s cost) (must_true (is_high m cert.claim floor || is_covered m cert.prune (Past m cert layer) s cost) reasons.Step h) in
    inr (inr (record {
      inner = o.0;
      floor = floor;
      is_floor = o.1;
      needless = elim either [ inl a ↦ inl (high_is m cert.claim floor a) | inr b ↦ inr (covered_found m cert layer s cost b) ];
    }))

abbrev Finds : Model → Cert → ℕ → PlainState → Option ℤ → Type 0
Finds m cert layer s cost = (look : Look) × (looked_at m cert.prune s cost ≡ Ok look) × (successor_fails m cert (Past m cert layer) s cost look ≡ None)

ends_found : (m : Model) (cert : Cert) (layer : ℕ) (s : PlainState) (cost : Option ℤ) → EndsHigh m cert.claim s cost → Finds m cert layer s cost
ends_found m cert layer s cost ends =
    let total : ranged (join_onto m.join cost ends.base) ≡ Ok (join_onto m.join cost ends.base) = value_ranged (join_onto m.join cost ends.base) (subst InRange ends.is ends.in_range) in
    let high : is_high m cert.claim (Some (join_onto m.join cost ends.base)) ≡ true = is_high_there m cert.claim (Some (join_onto m.join cost ends.base)) (subst (IsNotBelow m cert.claim) ends.is ends.high) in
    (looks.Base ends.base, (looked_base m cert.prune s cost ends.base).1 ends.is_base, rw total (true_must (is_high m cert.claim (Some (join_onto m.join cost ends.base))) reasons.Step high))

goes_found : (m : Model) (cert : Cert) (layer : ℕ) (s : PlainState) (cost : Option ℤ) → GoesOn m cert layer s cost → Finds m cert layer s cost
goes_found m cert layer s cost goes =
    let a = is_high m cert.claim goes.floor in
    let b = is_covered m cert.prune (Past m cert layer) s cost in
    let either : (a || b) ≡ true =
    elim goes.needless [ inl high ↦ first_true a b (is_high_there m cert.claim goes.floor high) | inr covered ↦ second_true a b (found_covered m cert layer s cost covered) ] in
    (looks.Open goes.floor, (looked_open m cert.prune s cost goes.floor).1 (goes.inner, goes.is_floor), true_must (a || b) reasons.Step either)

pub found_settled : (m : Model) (cert : Cert) (layer : ℕ) (s : PlainState) (cost : Option ℤ) → IsSettled m cert layer s cost → Finds m cert layer s cost
found_settled m cert layer s cost (inl out) = (looks.NotAllowed, (looked_forbidden m cert.prune s cost).1 out, refl)
found_settled m cert layer s cost (inr (inl ends)) = ends_found m cert layer s cost ends
found_settled m cert layer s cost (inr (inr goes)) = goes_found m cert layer s cost goes

-- ---- a step

module _ (m : Model) (cert : Cert) (l : ℕ) (s : PlainState) (cost : Option ℤ) (range : IfSome cost InRange) (inner : Inner m s) (g : ℕ) where
  abbrev Nodes : List PastNode
  Nodes = Past m cert (l + 1)

  taken_found : (t : Transition × List ℕ) → Considered m s g → Enabled m s g → ground_of m g ≡ Some t → taken_fails m cert Nodes (reached s cost) g (Some t) ≡ None → Accounts m cert l s cost g
  taken_found t considered enabled is h =
      let p = no_fault (looked_fails m cert Nodes) (moved m (reached s cost) g t) h in
      let parts = moved_parts m (reached s cost) g t p.0 p.1 in
      let r = no_fault (successor_fails m cert Nodes p.0.state p.0.cost) (looked_at m cert.prune p.0.state p.0.cost) p.2 in
      let f = step_found m s cost g t p.0.cost p.0.state range (inner, considered, enabled) is parts.0 parts.1 in
      record {
        next = p.0.state;
        joined = p.0.cost;
        leads = record { weight = f.0; step = f.1; is = f.2; in_range = f.3 };
        settled = settled_found m cert (l + 1) p.0.state p.0.cost r.0 r.1 r.2;
      }

  found_taken : (a : Accounts m cert l s cost g) → taken_fails m cert Nodes (reached s cost) g (Some a.leads.step.move.0) ≡ None
  found_taken a =
      let step = a.leads.step in
      let t = step.move.0 in
      let range' = subst (λ (c : Option ℤ). IfSome c InRange) a.leads.is a.leads.in_range in
      let made = step_made m s cost g t a.leads.weight a.next range step step.move.1 range' in
      let cost_is : cost_at m s cost g t ≡ Ok a.joined = made.0 ∙ ap (λ (c : Option ℤ). Ok c) (sym a.leads.is) in
      let f = found_settled m cert (l + 1) a.next a.joined a.settled in
      rw cost_is (rw made.1 (rw f.1 f.2))

  step_found_if : (r : Result Bool SpotFault) → may_step_at m s g ≡ r → step_fails_if m cert Nodes (reached s cost) g r ≡ None → Considered m s g → Enabled m s g → Accounts m cert l s cost g
  step_found_if (Ok true) e h considered enabled = taken_found enabled.0 considered enabled enabled.1 (sym (ap (taken_fails m cert Nodes (reached s cost) g) enabled.1) ∙ h)
  step_found_if (Ok false) e h considered enabled = let clash : ◌≡◌ {A = Result Bool SpotFault} (Ok false) (Ok true) = sym e ∙ (may_step_found m s g).1 (considered, enabled) in absurd (cc)
  step_found_if (Err met) e h considered enabled = let clash : ◌≡◌ {A = Result Bool SpotFault} (Err met) (Ok true) = sym e ∙ (may_step_found m s g).1 (considered, enabled) in absurd (cc)

  -- a transition that does not make the clause fail is accounted for
  pub accounts_found : step_fails m cert Nodes (reached s cost) g ≡ None → Considered m s g → Enabled m s g → Accounts m cert l s cost g
  accounts_found h considered enabled = step_found_if (may_step_at m s g) refl h considered enabled

  found_step_if : (r : Result Bool SpotFault) → may_step_at m s g ≡ r → (Considered m s g → Enabled m s g → Accounts m cert l s cost g) → step_fails_if m cert Nodes (reached s cost) g r ≡ None
  found_step_if (Ok true) e accounts =
      let may = (may_step_found m s g).0 e in
      let a = accounts may.0 may.1 in
      rw a.leads.step.move.1 (found_taken a)
  found_step_if (Ok false) e accounts = refl
  found_step_if (Err met) e accounts = refl

  pub found_accounts : (Considered m s g → Enabled m s g → Accounts m cert l s cost g) → step_fails m cert Nodes (reached s cost) g ≡ None
  found_accounts accounts = found_step_if (may_step_at m s g) refl accounts

-- ---- all steps

some_or : (o : Option CertReason) → (o ≡ None) ⊎ ((reason : CertReason) × (o ≡ Some reason))
some_or None = inl refl
some_or (Some reason) = inr (reason, refl)

first_none : (fails : ℕ → Option CertReason) (gs : List ℕ) → first_of fails gs ≡ None → (g : ℕ) → Has gs g → fails g ≡ None
first_none fails [] h g has = absurd (has_none g has)
first_none fails (x ∷ gs) h g has =
    elim (some_or (fails x)) [
      | inl e ↦ elim (has_head x gs g has) [
        | inl same ↦ subst (λ (y : ℕ). fails y ≡ None) same e
        | inr t ↦ first_none fails gs (rw e at h) g t
      ]
      | inr e ↦ (let clash : Some e.0 ≡ None = rw e.1 at h in absurd (cc))
    ]

none_first : (fails : ℕ → Option CertReason) (gs : List ℕ) → ((g : ℕ) → Has gs g → fails g ≡ None) → first_of fails gs ≡ None
none_first fails [] h = refl
none_first fails (x ∷ gs) h = rw (h x (0, refl)) (none_first fails gs (λ g has. h g (suc has.0, has.1)))

pub steps_found : (m : Model) (cert : Cert) (l : ℕ) (s : PlainState) (cost : Option ℤ) → IfSome cost InRange → Inner m s → steps_fail m cert (Past m cert (l + 1)) (reached s cost) ≡ None → StepsHold m cert l s cost
steps_found m cert l s cost range inner h g considered enabled =
    let within = ground_within m g enabled.0 enabled.1 in
    let has = range_has 0 (length m.dp_ground) g (omega arith) (to_zero g (length m.dp_ground) within) in
    accounts_found m cert l s cost range inner g (first_none (step_fails m cert (Past m cert (l + 1)) (reached s cost)) (range_with_len 0 (length m.dp_ground)) h g has) considered enabled
  where
    to_zero : (a b : ℕ) → a < b → a < 0 + b
    to_zero a b h = omega arith

pub found_steps : (m : Model) (cert : Cert) (l : ℕ) (s : PlainState) (cost : Option ℤ) → IfSome cost InRange → Inner m s → StepsHold m cert l s cost → steps_fail m cert (Past m cert (l + 1)) (reached s cost) ≡ None
found_steps m cert l s cost range inner holds =
    none_first (step_fails m cert (Past m cert (l + 1)) (reached s cost)) (range_with_len 0 (length m.dp_ground)) (λ g has. found_accounts m cert l s cost range inner g (holds g))

-- ---- the line of a node

-- all three clauses hold at the line of the node
pub record LineHolds (m : Model) (cert : Cert) (l place : ℕ) (n : CertNode) : Type 0 where
  pub here : Reached
  pub found : node_at m cert l place ≡ Ok here
  pub cut : n.cut ≡ true → CutHolds m cert here.state here.cost
  pub steps : n.cut ≡ false → StepsHold m cert l here.state here.cost

line_if : (m : Model) (cert : Cert) (l place : ℕ) (n : CertNode) (r : Result Reached CertReason) → node_at m cert l place ≡ r → node_fails_at m cert (Past m cert (l + 1)) n r ≡ None → LineHolds m cert l place n
line_if m cert l place n (Err reason) e h = absurd (cc)
line_if m cert l place n (Ok here) e h =
    let found = node_found m cert l place here e in
    record {
      here = here;
      found = e;
      cut = λ cut. cut_found m cert here.state here.cost (rw cut at h);
      steps = λ cut. steps_found m cert l here.state here.cost found.in_range found.inner (rw cut at h);
    }

pub line_found : (m : Model) (cert : Cert) (l place : ℕ) (n : CertNode) → node_fails m cert l place n ≡ None → LineHolds m cert l place n
line_found m cert l place n h = line_if m cert l place n (node_at m cert l place) refl h

found_line_if : (m : Model) (cert : Cert) (l : ℕ) (here : Reached) (n : CertNode) (cut : Bool) → n.cut ≡ cut → IfSome here.cost InRange → Inner m here.state → (n.cut ≡ true → CutHolds m cert here.state here.cost) → (n.cut ≡ false → StepsHold m cert l here.state here.cost)
    → node_fails_at m cert (Past m cert (l + 1)) n (Ok here) ≡ None
found_line_if m cert l here n true e range inner cut steps = rw e (found_cut m cert here.state here.cost (cut e))
found_line_if m cert l here n false e range inner cut steps = rw e (found_steps m cert l here.state here.cost range inner (steps e))

pub found_line : (m : Model) (cert : Cert) (l place : ℕ) (n : CertNode) → LineHolds m cert l place n → node_fails m cert l place n ≡ None
found_line m cert l place n h =
    let found = node_found m cert l place h.here h.found in
    rw h.found (found_line_if m cert l h.here n n.cut refl found.in_range found.inner h.cut h.steps)
