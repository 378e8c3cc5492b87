-- The check tells no at the first line at which a clause fails.
use Rattle.std.proofs.Common.{◌≡◌, ℕ, ◌+◌, ◌<◌, ◌⊎◌, inl, inr, zero, suc, Bool, true, false, List, [], ◌∷◌, slice_get, Option, Some, None, Result, Ok, Err, refl, sym, ap, subst, ◌∙◌, arith}
use Rattle.std.specs.Prelude.{ℤ}
use Rattle.std.proofs.lemmas.Option.{get_or_from_slice_get}
use Rattle.dp_base.specs.Results.{◌>>=◌}
use Rattle.dp_model.specs.Costs.{join_onto, ranged}
use Rattle.dp_model.specs.StepTexts.{ground_of}
use Rattle.dp_model.specs.declared.answers.Claim.{Claim}
use Rattle.dp_model.specs.declared.answers.Claim.TheVariants.{Optimal, Infeasible}
use Rattle.dp_model.specs.declared.answers.Spot.TheVariants as spots
use Rattle.dp_model.specs.declared.parts.PlainState.{PlainState}
use Rattle.dp_model.specs.declared.parts.Transition.{Transition}
use Rattle.dp_model.specs.declared.whole.Model.{Model}
use Rattle.spot_eval.specs.Answers.{at_spot}
use Rattle.spot_eval.specs.Looks.{floor_at, looked_at}
use Rattle.spot_eval.specs.Moves.{may_step_at}
use Rattle.spot_eval.specs.declared.ends.SpotFault.{SpotFault}
use Rattle.spot_eval.specs.declared.looks.Look.{Look}
use Rattle.spot_eval.specs.declared.looks.Look.TheVariants as looks
use Rattle.replay_list.specs.Replays.{replayed}
use Rattle.replay_list.specs.declared.replayed.Reached.{Reached}
use Rattle.replay_list.specs.declared.replayed.Replayed.{Replayed}
use Rattle.replay_list.specs.declared.replayed.Replayed.TheVariants.{Legal, Illegal, Faulted}
use Rattle.dom_store.specs.declared.past_node.PastNode.{PastNode}
use Rattle.cert_types.specs.Lines.{line_of_claim, line_of_node}
use Rattle.cert_types.specs.declared.cert.Cert.{Cert}
use Rattle.cert_types.specs.declared.nodes.CertNode.{CertNode}
use Rattle.cert_laws.specs.Shown.{layer_of, list_of, ClaimHolds, CutHolds, IsAt, NodeHolds, Stands, StepsHold, TargetHolds}
use Rattle.cert_laws.specs.Checks.{base_fails, is_high, claim_fails, covering, cut_fails, entered, entered_as, first_of, is_alone, layer_told, layers_told, led, led_if, list_fails, looked_fails, moved, must, node_at, node_fails, node_fails_at, or_fault, start, step_fails, step_fails_if, stepped, steps_fail, successor_fails, taken_fails, target_fails, target_fails_by, then_told, told_at, unless_fault, walked}
use Rattle.cert_laws.specs.Told.{ClaimFails, FirstFails, IsBefore, IsOneOf, IsWrong, LineShows, NodeFails, NoFails}
use Rattle.cert_laws.specs.declared.answers.CertReason.{CertReason}
use Rattle.cert_laws.specs.declared.answers.CertReason.TheVariants as reasons
use Rattle.cert_laws.specs.declared.answers.Checked.{Checked}
use Rattle.cert_laws.specs.declared.answers.Checked.TheVariants.{Yes, No}
use Rattle.cert_laws.proofs.Lists.{some_same, true_or}
use Rattle.cert_laws.proofs.Walks.{found_node, node_found, reached}
use Rattle.cert_laws.proofs.Fails.{found_cut, found_line, found_steps, line_found, LineHolds}
use Rattle.cert_laws.proofs.Yes.{claim_yes, layer_there, layer_yes, target_yes, yes_claim, yes_target}

-- ---- which reasons a check has

abbrev Only : CertReason → Option CertReason → Type 0
Only a o = (reason : CertReason) → o ≡ Some reason → IsOneOf a reasons.Fault reason

none_only : (a : CertReason) → Only a None
none_only a reason h = absurd (cc)

must_only : (b : Bool) (a : CertReason) → Only a (must b a)
must_only true a reason h = absurd (cc)
must_only false a reason h = inl (sym (some_same a reason h))

fault_only : {A : Type 0} (a : CertReason) (go : A → Option CertReason) (r : Result A SpotFault) → ((x : A) → Only a (go x)) → Only a (unless_fault go r)
fault_only a go (Ok x) h reason e = h x reason e
fault_only a go (Err met) h reason e = inr (sym (some_same reasons.Fault reason e))

cut_only : (m : Model) (cert : Cert) (here : Reached) → Only reasons.Cut (cut_fails m cert here)
cut_only m cert here = fault_only reasons.Cut _ (floor_at m cert.prune here.state here.cost) (λ floor. must_only _ reasons.Cut)

base_only : (m : Model) (cert : Cert) (cost : Option ℤ) (base : ℤ) → Only reasons.Step (base_fails m cert cost base)
base_only m cert cost base =
    fault_only {A = ℤ} reasons.Step (λ (total : ℤ). must (is_high m cert.claim (Some total)) reasons.Step) (at_spot spots.Total (ranged (join_onto m.join cost base)))
    (λ total. must_only (is_high m cert.claim (Some total)) reasons.Step)

successor_only : (m : Model) (cert : Cert) (past : List PastNode) (next : Reached) (look : Look) → Only reasons.Step (successor_fails m cert past next.state next.cost look)
successor_only m cert past next looks.NotAllowed = none_only reasons.Step
successor_only m cert past next (looks.Base base) = base_only m cert next.cost base
successor_only m cert past next (looks.Open floor) = must_only _ reasons.Step

taken_only : (m : Model) (cert : Cert) (past : List PastNode) (here : Reached) (g : ℕ) (o : Option (Transition × List ℕ)) → Only reasons.Step (taken_fails m cert past here g o)
taken_only m cert past here g None = none_only reasons.Step
taken_only m cert past here g (Some t) = fault_only reasons.Step (looked_fails m cert past) (moved m here g t) (λ next. fault_only reasons.Step (successor_fails m cert past next.state next.cost) (looked_at m cert.prune next.state next.cost) (successor_only m cert past next))

step_if_only : (m : Model) (cert : Cert) (past : List PastNode) (here : Reached) (g : ℕ) (r : Result Bool SpotFault) → Only reasons.Step (step_fails_if m cert past here g r)
step_if_only m cert past here g (Ok true) = taken_only m cert past here g (ground_of m g)
step_if_only m cert past here g (Ok false) = none_only reasons.Step
step_if_only m cert past here g (Err met) = none_only reasons.Step

some_or : (o : Option CertReason) → (o ≡ None) ⊎ ((r : CertReason) × (o ≡ Some r))
some_or None = inl refl
some_or (Some r) = inr (r, refl)

first_only : (a : CertReason) (fails : ℕ → Option CertReason) (gs : List ℕ) → ((g : ℕ) → Only a (fails g)) → Only a (first_of fails gs)
first_only a fails [] h reason e = none_only a reason e
first_only a fails (g ∷ gs) h reason e =
    elim (some_or (fails g)) [
      | inl none ↦ first_only a fails gs h reason (rw none at e)
      | inr some ↦ (let same : Some some.0 ≡ Some reason = rw some.1 at e in h g reason (some.1 ∙ same))
    ]

steps_only : (m : Model) (cert : Cert) (past : List PastNode) (here : Reached) → Only reasons.Step (steps_fail m cert past here)
steps_only m cert past here = first_only reasons.Step (step_fails m cert past here) _ (λ g. step_if_only m cert past here g (may_step_at m here.state g))

-- ---- and a list

abbrev OnlyErr : {A : Type 0} → Result A CertReason → Type 0
OnlyErr r = (reason : CertReason) → r ≡ Err reason → IsOneOf reasons.Node reasons.Fault reason

err_same : {A : Type 0} (a b : CertReason) → ◌≡◌ {A = Result A CertReason} (Err a) (Err b) → a ≡ b
err_same a b e = cc

bind_only : {A B : Type 0} (r : Result A CertReason) (f : A → Result B CertReason) → OnlyErr r → ((x : A) → OnlyErr (f x)) → OnlyErr (r >>= f)
bind_only (Ok x) f h k reason e = k x reason e
bind_only {A} {B} (Err d) f h k reason e = h reason (ap (λ (x : CertReason). Err x) (err_same d reason e))

fault_err_only : {A : Type 0} (r : Result A SpotFault) → OnlyErr (or_fault r)
fault_err_only (Ok x) reason e = absurd (cc)
fault_err_only (Err met) reason e = inr (sym (err_same reasons.Fault reason e))

node_err_only : {A : Type 0} → OnlyErr {A = A} (Err reasons.Node)
node_err_only reason e = inl (sym (err_same reasons.Node reason e))

entered_as_only : (s : PlainState) (cost : Option ℤ) (look : Look) → OnlyErr (entered_as s cost look)
entered_as_only s cost looks.NotAllowed reason e = node_err_only reason e
entered_as_only s cost (looks.Base base) reason e = node_err_only reason e
entered_as_only s cost (looks.Open floor) reason e = absurd (cc)

entered_only : (m : Model) (s : PlainState) (cost : Option ℤ) → OnlyErr (entered m s cost)
entered_only m s cost = bind_only (or_fault (looked_at m false s cost)) (entered_as s cost) (fault_err_only (looked_at m false s cost)) (entered_as_only s cost)

led_only : (m : Model) (here : Reached) (g : ℕ) (o : Option (Transition × List ℕ)) → OnlyErr (led m here g o)
led_only m here g None = node_err_only
led_only m here g (Some t) = bind_only (or_fault (moved m here g t)) (λ next. entered m next.state next.cost) (fault_err_only (moved m here g t)) (λ next. entered_only m next.state next.cost)

led_if_only : (m : Model) (here : Reached) (g : ℕ) (may : Bool) → OnlyErr (led_if m here g may)
led_if_only m here g true = led_only m here g (ground_of m g)
led_if_only m here g false = node_err_only

stepped_only : (m : Model) (here : Reached) (g : ℕ) → OnlyErr (stepped m here g)
stepped_only m here g = bind_only (or_fault (may_step_at m here.state g)) (led_if m here g) (fault_err_only (may_step_at m here.state g)) (led_if_only m here g)

walked_only : (m : Model) (here : Reached) (gs : List ℕ) → OnlyErr (walked m here gs)
walked_only m here [] reason e = absurd (cc)
walked_only m here (g ∷ gs) reason e = bind_only (stepped m here g) (λ next. walked m next gs) (stepped_only m here g) (λ next. walked_only m next gs) reason e

node_only : (m : Model) (cert : Cert) (l place : ℕ) → OnlyErr (node_at m cert l place)
node_only m cert l place = bind_only (start m) (λ here. walked m here (list_of cert.layers l place)) (entered_only m m.target None) (λ here. walked_only m here (list_of cert.layers l place))

-- ---- the line of a node

line_shows : (m : Model) (cert : Cert) (l place : ℕ) (n : CertNode) → LineHolds m cert l place n → LineShows m cert l place n
line_shows m cert l place n line =
    let found = node_found m cert l place line.here line.found in
    record {
      node = (line.here.state, ((line.here.cost, found.path), found.inner));
      cut = λ cut s cost stands. subst (λ (x : Reached). CutHolds m cert x.state x.cost) (same s cost stands) (line.cut cut);
      steps = λ cut s cost stands. subst (λ (x : Reached). StepsHold m cert l x.state x.cost) (same s cost stands) (line.steps cut);
    }
  where
    ok_same : (a b : Reached) → ◌≡◌ {A = Result Reached CertReason} (Ok a) (Ok b) → a ≡ b
    ok_same a b e = cc

    same : (s : PlainState) (cost : Option ℤ) → Stands m cert l place s cost → line.here ≡ reached s cost
    same s cost stands = ok_same line.here (reached s cost) (sym line.found ∙ found_node m cert l place s cost stands.path stands.inner)

shows_line : (m : Model) (cert : Cert) (l place : ℕ) (n : CertNode) → IsAt cert l place n → LineShows m cert l place n → node_fails m cert l place n ≡ None
shows_line m cert l place n at shows =
    let p = shows.node in
    let stands : Stands m cert l place p.0 p.1.0.0 = record { node = n; at = at; path = p.1.0.1; inner = p.1.1 } in
    found_line m cert l place n (record {
      here = reached p.0 p.1.0.0;
      found = found_node m cert l place p.0 p.1.0.0 p.1.0.1 p.1.1;
      cut = λ cut. shows.cut cut p.0 p.1.0.0 stands;
      steps = λ cut. shows.steps cut p.0 p.1.0.0 stands;
    })

some_none : (reason : CertReason) (o : Option CertReason) → o ≡ Some reason → o ≡ None → ⊥
some_none reason o e f = let clash : Some reason ≡ None = sym e ∙ f in cc

module _ (m : Model) (cert : Cert) (l place : ℕ) (n : CertNode) (at : IsAt cert l place n) where
  wrong_fault : (reason : CertReason) → reason ≡ reasons.Fault → node_fails m cert l place n ≡ Some reason → IsWrong m cert l place n reason
  wrong_fault reason is h = subst (IsWrong m cert l place n) (sym is) (λ shows. some_none reason (node_fails m cert l place n) h (shows_line m cert l place n at shows))

  wrong_node : (why reason : CertReason) → node_at m cert l place ≡ Err why → why ≡ reason → node_fails m cert l place n ≡ Some reason → IsWrong m cert l place n reason
  wrong_node why reason e is h =
      elim (node_only m cert l place why e) [
        | inl node ↦ subst (IsWrong m cert l place n) (sym node ∙ is) (λ holds. no_list holds)
        | inr fault ↦ wrong_fault reason (sym is ∙ fault) h
      ]
    where
      no_list : NodeHolds m cert l place → ⊥
      no_list holds = let clash : ◌≡◌ {A = Result Reached CertReason} (Err why) (Ok (reached holds.0 holds.1.0.0)) = sym e ∙ found_node m cert l place holds.0 holds.1.0.0 holds.1.0.1 holds.1.1 in cc

  here_stands : (here : Reached) → node_at m cert l place ≡ Ok here → Stands m cert l place here.state here.cost
  here_stands here e = let found = node_found m cert l place here e in record { node = n; at = at; path = found.path; inner = found.inner }

  wrong_cut : (here : Reached) (reason : CertReason) → node_at m cert l place ≡ Ok here → n.cut ≡ true → cut_fails m cert here ≡ Some reason → node_fails m cert l place n ≡ Some reason → IsWrong m cert l place n reason
  wrong_cut here reason e cut fails h =
      elim (cut_only m cert here reason fails) [
        | inl is ↦ subst (IsWrong m cert l place n) (sym is) (cut, (here.state, here.cost, here_stands here e, λ holds. some_none reason (cut_fails m cert here) fails (found_cut m cert here.state here.cost holds)))
        | inr fault ↦ wrong_fault reason fault h
      ]

  wrong_steps : (here : Reached) (reason : CertReason) → node_at m cert l place ≡ Ok here → n.cut ≡ false → steps_fail m cert (covering m cert cert.keep (l + 1)) here ≡ Some reason → node_fails m cert l place n ≡ Some reason → IsWrong m cert l place n reason
  wrong_steps here reason e cut fails h =
      let found = node_found m cert l place here e in
      elim (steps_only m cert (covering m cert cert.keep (l + 1)) here reason fails) [
        | inl is ↦
            subst (IsWrong m cert l place n) (sym is)
            (cut, (here.state, here.cost, here_stands here e, λ holds. some_none reason (steps_fail m cert (covering m cert cert.keep (l + 1)) here) fails (found_steps m cert l here.state here.cost found.in_range found.inner holds)))
        | inr fault ↦ wrong_fault reason fault h
      ]

  wrong_at : (r : Result Reached CertReason) (reason : CertReason) → node_at m cert l place ≡ r → node_fails_at m cert (covering m cert cert.keep (l + 1)) n r ≡ Some reason → node_fails m cert l place n ≡ Some reason → IsWrong m cert l place n reason
  wrong_at (Err why) reason e fails h = wrong_node why reason e (some_same why reason fails) h
  wrong_at (Ok here) reason e fails h =
      elim (true_or n.cut) [
        | inl cut ↦ wrong_cut here reason e cut (rw cut at fails) h
        | inr uncut ↦ wrong_steps here reason e uncut (rw uncut at fails) h
      ]

  -- the clause of the reason fails
  pub wrong : (reason : CertReason) → node_fails m cert l place n ≡ Some reason → IsWrong m cert l place n reason
  wrong reason h = wrong_at (node_at m cert l place) reason refl h h

-- ---- the first line that is wrong

told_no : (line ln : ℕ) (o : Option CertReason) (reason : CertReason) (later : Checked) → told_at line o later ≡ No ln reason → ((o ≡ Some reason) × (ln ≡ line)) ⊎ ((o ≡ None) × (later ≡ No ln reason))
told_no line ln None reason later h = inr (refl, h)
told_no line ln (Some r) reason later h = inl (cc, cc)

then_no : (ln : ℕ) (reason : CertReason) (told later : Checked) → then_told told later ≡ No ln reason → (told ≡ No ln reason) ⊎ ((told ≡ Yes) × (later ≡ No ln reason))
then_no ln reason Yes later h = inr (refl, h)
then_no ln reason (No line r) later h = inl h

yes_no : (ln : ℕ) (reason : CertReason) → Yes ≡ No ln reason → ⊥
yes_no ln reason h = cc

abbrev Fine : Model → Cert → (l : ℕ) → ℕ → CertNode → Type 0
Fine m cert l place n = node_fails m cert l place n ≡ None

-- a node of a layer that is rejected, from a place on, before which none is
record Rejects (m : Model) (cert : Cert) (l place : ℕ) (ns : List CertNode) (ln : ℕ) (reason : CertReason) : Type 0 where
  pub k : ℕ
  pub n : CertNode
  pub at : slice_get ns k ≡ Some n
  pub line : ln ≡ line_of_node cert.first cert.claim cert.layers l (place + k)
  pub fails : node_fails m cert l (place + k) n ≡ Some reason
  pub before : (j : ℕ) (x : CertNode) → j < k → slice_get ns j ≡ Some x → Fine m cert l (place + j) x

plus_none : (a : ℕ) → a ≡ a + 0
plus_none a = omega arith

plus_more : (a k : ℕ) → a + 1 + k ≡ a + suc k
plus_more a k = omega arith

layer_rejects : (m : Model) (cert : Cert) (l place : ℕ) (ns : List CertNode) (ln : ℕ) (reason : CertReason) → layer_told m cert l place ns ≡ No ln reason → Rejects m cert l place ns ln reason
layer_rejects m cert l place [] ln reason h = absurd (yes_no ln reason h)
layer_rejects m cert l place (x ∷ ns) ln reason h =
    elim (told_no (line_of_node cert.first cert.claim cert.layers l place) ln (node_fails m cert l place x) reason (layer_told m cert l (place + 1) ns) h) [
      | inl here ↦ record {
        k = 0;
        n = x;
        at = refl;
        line = here.1 ∙ ap (line_of_node cert.first cert.claim cert.layers l) (plus_none place);
        fails = subst (λ (j : ℕ). node_fails m cert l j x ≡ Some reason) (plus_none place) here.0;
        before = λ j y lt e. absurd (never j lt);
      }
      | inr later ↦ (let r = layer_rejects m cert l (place + 1) ns ln reason later.1 in record {
        k = suc r.k;
        n = r.n;
        at = r.at;
        line = r.line ∙ ap (line_of_node cert.first cert.claim cert.layers l) (plus_more place r.k);
        fails = subst (λ (j : ℕ). node_fails m cert l j r.n ≡ Some reason) (plus_more place r.k) r.fails;
        before = λ j y lt e. behind place x ns r.k later.0 r.before j y lt e;
      })
    ]
  where
    never : (j : ℕ) → j < 0 → ⊥
    never j lt = absurd (omega arith)

    less : (j k : ℕ) → suc j < suc k → j < k
    less j k h = omega arith

    behind : (place : ℕ) (x : CertNode) (ns : List CertNode) (k : ℕ) → Fine m cert l place x → ((j : ℕ) (y : CertNode) → j < k → slice_get ns j ≡ Some y → Fine m cert l (place + 1 + j) y)
        → (j : ℕ) (y : CertNode) → j < suc k → slice_get (x ∷ ns) j ≡ Some y → Fine m cert l (place + j) y
    behind place x ns k first rest zero y lt e = let same : x ≡ y = cc in subst (λ (j : ℕ). Fine m cert l j y) (plus_none place) (subst (Fine m cert l place) same first)
    behind place x ns k first rest (suc j) y lt e = subst (λ (i : ℕ). Fine m cert l i y) (plus_more place j) (rest j y (less j k lt) e)

-- a layer with such a node, from one on, before which no node of a layer is rejected
record RejectsIn (m : Model) (cert : Cert) (l : ℕ) (layers : List (List CertNode)) (ln : ℕ) (reason : CertReason) : Type 0 where
  pub k : ℕ
  pub nodes : List CertNode
  pub at : slice_get layers k ≡ Some nodes
  pub rejects : Rejects m cert (l + k) 0 nodes ln reason
  pub before : (j : ℕ) (ns : List CertNode) → j < k → slice_get layers j ≡ Some ns → (place : ℕ) (n : CertNode) → slice_get ns place ≡ Some n → Fine m cert (l + j) place n

layers_reject : (m : Model) (cert : Cert) (l : ℕ) (layers : List (List CertNode)) (ln : ℕ) (reason : CertReason) → layers_told m cert l layers ≡ No ln reason → RejectsIn m cert l layers ln reason
layers_reject m cert l [] ln reason h = absurd (yes_no ln reason h)
layers_reject m cert l (nodes ∷ layers) ln reason h =
    elim (then_no ln reason (layer_told m cert l 0 nodes) (layers_told m cert (l + 1) layers) h) [
      | inl here ↦ record {
        k = 0;
        nodes = nodes;
        at = refl;
        rejects = subst (λ (j : ℕ). Rejects m cert j 0 nodes ln reason) (plus_none l) (layer_rejects m cert l 0 nodes ln reason here);
        before = λ j ns lt e place n f. absurd (never j lt);
      }
      | inr later ↦ (let r = layers_reject m cert (l + 1) layers ln reason later.1 in record {
        k = suc r.k;
        nodes = r.nodes;
        at = r.at;
        rejects = subst (λ (j : ℕ). Rejects m cert j 0 r.nodes ln reason) (plus_more l r.k) r.rejects;
        before = λ j ns lt e place n f. behind l nodes layers r.k (λ q x g. subst (λ (i : ℕ). Fine m cert l i x) (zero_plus q) (layer_yes m cert l 0 nodes later.0 q x g)) r.before j ns lt e place n f;
      })
    ]
  where
    never : (j : ℕ) → j < 0 → ⊥
    never j lt = absurd (omega arith)

    zero_plus : (k : ℕ) → 0 + k ≡ k
    zero_plus k = omega arith

    less : (j k : ℕ) → suc j < suc k → j < k
    less j k h = omega arith

    behind : (l : ℕ) (nodes : List CertNode) (layers : List (List CertNode)) (k : ℕ) → ((place : ℕ) (n : CertNode) → slice_get nodes place ≡ Some n → Fine m cert l place n)
        → ((j : ℕ) (ns : List CertNode) → j < k → slice_get layers j ≡ Some ns → (place : ℕ) (n : CertNode) → slice_get ns place ≡ Some n → Fine m cert (l + 1 + j) place n)
        → (j : ℕ) (ns : List CertNode) → j < suc k → slice_get (nodes ∷ layers) j ≡ Some ns → (place : ℕ) (n : CertNode) → slice_get ns place ≡ Some n → Fine m cert (l + j) place n
    behind l nodes layers k first rest zero ns lt e place n f =
        let same : nodes ≡ ns = cc in
        subst (λ (i : ℕ). Fine m cert i place n) (plus_none l) (first place n (subst (λ (xs : List CertNode). slice_get xs place ≡ Some n) (sym same) f))
    behind l nodes layers k first rest (suc j) ns lt e place n f = subst (λ (i : ℕ). Fine m cert i place n) (plus_more l j) (rest j ns (less j k lt) e place n f)

-- ---- the whole

zero_is : (k : ℕ) → 0 + k ≡ k
zero_is k = omega arith

-- the node that is rejected, with its own numbers
node_fails_there : (m : Model) (cert : Cert) (ln : ℕ) (reason : CertReason) → TargetHolds m cert → ClaimHolds m cert.claim → RejectsIn m cert 0 cert.layers ln reason → NodeFails m cert ln reason
node_fails_there m cert ln reason target claim r =
    let x = subst (λ (l : ℕ). Rejects m cert l 0 r.nodes ln reason) (zero_is r.k) r.rejects in
    let at : IsAt cert r.k x.k x.n = there r.k r.nodes x.k x.n r.at x.at in (
      r.k,
      x.k,
      x.n,
      at,
      x.line ∙ ap (line_of_node cert.first cert.claim cert.layers r.k) (zero_is x.k),
      record {
        target = target;
        claim = claim;
        lines = λ k q n before at'. line_shows m cert k q n (line_found m cert k q n (fine k q n before at'));
      },
      wrong m cert r.k x.k x.n at reason (subst (λ (j : ℕ). node_fails m cert r.k j x.n ≡ Some reason) (zero_is x.k) x.fails),
    )
  where
    there : (k : ℕ) (nodes : List CertNode) (place : ℕ) (n : CertNode) → slice_get cert.layers k ≡ Some nodes → slice_get nodes place ≡ Some n → IsAt cert k place n
    there k nodes place n e f = let same : layer_of cert.layers k ≡ nodes = get_or_from_slice_get cert.layers k nodes [] e in subst (λ (ns : List CertNode). slice_get ns place ≡ Some n) (sym same) f

    fine : (k q : ℕ) (n : CertNode) → IsBefore k q r.k r.rejects.k → IsAt cert k q n → Fine m cert k q n
    fine k q n (inl less) at = subst (λ (i : ℕ). Fine m cert i q n) (zero_is k) (r.before k (layer_of cert.layers k) less (layer_there cert.layers k q n at) q n at)
    fine k q n (inr same) at =
        let e : layer_of cert.layers r.k ≡ r.nodes = get_or_from_slice_get cert.layers r.k r.nodes [] r.at in
        let in_nodes : slice_get r.nodes q ≡ Some n = subst (λ (ns : List CertNode). slice_get ns q ≡ Some n) (ap (layer_of cert.layers) same.0 ∙ e) at in
        let f = r.rejects.before q n same.1 in_nodes in
        subst (λ (i : ℕ). Fine m cert i q n) (zero_is r.k ∙ sym same.0) (subst (λ (i : ℕ). Fine m cert (0 + r.k) i n) (zero_is q) f)

look_only : (m : Model) (cert : Cert) (look : Look) → Only reasons.Target (target_fails_by m cert look)
look_only m cert looks.NotAllowed reason e = none_only reasons.Target reason e
look_only m cert (looks.Base base) reason e = must_only _ reasons.Target reason e
look_only m cert (looks.Open floor) reason e = inl (sym (some_same reasons.Target reason e))

target_only : (m : Model) (cert : Cert) → Only reasons.Target (target_fails m cert)
target_only m cert reason e =
    elim (true_or (is_alone cert.layers)) [
      | inl alone ↦ none_only reasons.Target reason (rw alone at e)
      | inr not ↦ fault_only reasons.Target (target_fails_by m cert) (looked_at m false m.target None) (look_only m cert) reason (rw not at e)
    ]

list_only : (cost : ℤ) (r : Replayed) → Only reasons.Claim (list_fails cost r)
list_only cost (Legal total) reason e = must_only _ reasons.Claim reason e
list_only cost (Illegal done why) reason e = inl (sym (some_same reasons.Claim reason e))
list_only cost (Faulted done spot kind) reason e = inr (sym (some_same reasons.Fault reason e))

claim_only : (m : Model) (claim : Claim) → Only reasons.Claim (claim_fails m claim)
claim_only m (Optimal found) = list_only found.cost (replayed m found.steps)
claim_only m Infeasible = none_only reasons.Claim

-- the clause of the target fails
pub target_fails_for : (m : Model) (cert : Cert) (line : ℕ) (reason : CertReason) → target_fails m cert ≡ Some reason → line ≡ cert.first → FirstFails m cert line reason
target_fails_for m cert line reason fails is = (is, λ holds. some_none reason (target_fails m cert) fails (yes_target m cert holds), target_only m cert reason fails)

-- it holds, and that of the claim fails
pub claim_fails_for : (m : Model) (cert : Cert) (line : ℕ) (reason : CertReason) → target_fails m cert ≡ None → claim_fails m cert.claim ≡ Some reason → line ≡ line_of_claim cert.first → ClaimFails m cert line reason
claim_fails_for m cert line reason target fails is =
    (is, target_yes m cert target, λ holds. some_none reason (claim_fails m cert.claim) fails (yes_claim m cert.claim holds), claim_only m cert.claim reason fails)

pub no_law : NoFails
no_law m cert line reason h =
    elim (told_no cert.first line (target_fails m cert) reason (told_at (line_of_claim cert.first) (claim_fails m cert.claim) (layers_told m cert 0 cert.layers)) h) [
      | inl first ↦ inl (target_fails_for m cert line reason first.0 first.1)
      | inr more ↦ elim (told_no (line_of_claim cert.first) line (claim_fails m cert.claim) reason (layers_told m cert 0 cert.layers) more.1) [
        | inl claim ↦ inr (inl (claim_fails_for m cert line reason more.0 claim.0 claim.1))
        | inr lines ↦ inr (inr (node_fails_there m cert line reason (target_yes m cert more.0) (claim_yes m cert.claim lines.0) (layers_reject m cert 0 cert.layers line reason lines.1)))
      ]
    ]
