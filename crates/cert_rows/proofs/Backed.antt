-- The certificate of an exhausted pass shows its claim: what its clauses ask of the nodes of the certificate, the closed ledger says of
-- the kept nodes.
use Rattle.std.proofs.Common.{◌≡◌, ℕ, ◌+◌, ◌<◌, ◌≤◌, inl, inr, zero, suc, Bool, true, false, List, [], ◌∷◌, ◌++◌, length, slice_get, Option, Some, None, refl, sym, ap, subst, ◌∙◌, arith, add-one}
use Rattle.std.specs.Prelude.{ℤ, IfSome, pos, ◌≤ℤ◌}
use Rattle.std.proofs.lemmas.Int.{ints}
use Rattle.dp_model.specs.Costs.{InRange, join}
use Rattle.dp_model.specs.declared.answers.Keep.{Keep}
use Rattle.dp_model.specs.declared.answers.Keep.TheVariants.{Layer, All}
use Rattle.dp_model.specs.declared.parts.PlainState.{PlainState}
use Rattle.dp_model.specs.declared.whole.Model.{Model}
use Rattle.dp_steps.specs.Bounds.{IsFloor}
use Rattle.dp_steps.specs.Lists.{Path}
use Rattle.dp_steps.specs.States.{Inner}
use Rattle.dp_claims.specs.Dominance.{Covers}
use Rattle.dp_claims.specs.Enough.{Has}
use Rattle.dp_claims.proofs.Covering.{reflexive}
use Rattle.state_layout.specs.declared.node.Node.{Node}
use Rattle.pass_ledger.specs.Letters.{of}
use Rattle.pass_ledger.specs.Passes.{Pass, word_of, CoversNode}
use Rattle.pass_ledger.specs.Rows as ledger_rows
use Rattle.pass_ledger.specs.Rows.{row, Received, IsCoveredBefore}
use Rattle.pass_ledger.specs.Records.{visit_of, IsPruned, Reaches, LeadsOut, LeadsToBase, LeadsOn, Starts}
use Rattle.pass_ledger.specs.Ledgers.{IsClosedOf, IsLedgerOf}
use Rattle.pass_ledger.specs.declared.mail.Letter.{Letter}
use Rattle.pass_ledger.specs.declared.mail.Letter.TheVariants.{State}
use Rattle.pass_ledger.specs.declared.records.Held.{Held}
use Rattle.pass_ledger.specs.declared.records.ShardRecord.{ShardRecord}
use Rattle.pass_ledger.proofs.Backwards.{closed_rooted}
use Rattle.pass_ledger.proofs.Costs.{least_trans}
use Rattle.pass_ledger.proofs.Lean.{leads_same}
use Rattle.pass_ledger.proofs.Moves.{step_same}
use Rattle.pass_ledger.proofs.Paths.{Known, known}
use Rattle.cert_types.specs.declared.cert.Cert.{Cert}
use Rattle.cert_types.specs.declared.nodes.CertNode.{CertNode}
use Rattle.cert_laws.specs.Shown.{layer_of, list_of, IsAt, Stands, IsNotBelow, IsHigh, MayCover, IsCovered, Accounts, StartsAlone, NodeHolds, CutHolds, StepsHold, ClaimHolds, Shown}
use Rattle.cert_rows.specs.Laws.{LawCut, LawRows, LawTarget}
use Rattle.cert_rows.specs.Rows.{IsCertOf, IsExhausted, IsMarked, LeadsOnward}
use Rattle.cert_rows.proofs.Lists.{kept_at, list_leads, written_at}
use Rattle.pass_ledger.proofs.Lists.{has_left}
use Rattle.cert_rows.proofs.Places.{has_none, no_some, some_same}

pos_mono : (a b : ℕ) → a ≤ b → pos a ≤ℤ pos b
pos_mono a b h = omega (arith, ints)

one_shard : (n : ℕ) → n ≡ 1 → 0 < n
one_shard n e = omega (arith, e)

first_shard : (n j : ℕ) → n ≡ 1 → j < n → j ≡ 0
first_shard n j e lt = omega (arith, e, lt)

may_now : (keep : Keep) (l : ℕ) → MayCover keep l l
may_now Layer l = refl
may_now All l = self l
  where
    self : (n : ℕ) → n ≤ n
    self n = omega arith

may_before : (keep : Keep) (layer k : ℕ) → keep ≡ All → k < layer → MayCover keep layer k
may_before Layer layer k e lt = absurd (cc)
may_before All layer k e lt = less k layer lt
  where
    less : (a b : ℕ) → a < b → a ≤ b
    less a b lt = omega (arith, lt)

marked_cut : (r : ShardRecord) (l : ℕ) (n : Node) (cut : Bool) → cut ≡ true → IsMarked r.rows r.waiting r.visits r.pruned l n cut → IsPruned r.pruned n
marked_cut r l n cut e h = subst (IsMarked r.rows r.waiting r.visits r.pruned l n) e h

marked_open : (r : ShardRecord) (l : ℕ) (n : Node) (cut : Bool) → cut ≡ false → r.waiting ≡ [] → IsMarked r.rows r.waiting r.visits r.pruned l n cut → Has r.visits (visit_of l n)
marked_open r l n cut e idle h =
    elim (subst (IsMarked r.rows r.waiting r.visits r.pruned l n) e h) [
      | inl visited ↦ visited
      | inr waits ↦ absurd (has_none n (subst (λ (ns : List Node). Has ns n) idle waits.1))
    ]

reaches_held : (p : Pass) (held : Option Held) (total : ℤ) → Reaches p held total → (h : Held) × (held ≡ Some h) × (word_of p h.cost ≤ℤ word_of p total)
reaches_held p None total x = absurd x
reaches_held p (Some h) total x = (h, refl, x)

start_is : (p : Pass) (i : ℕ) (start : Option Node) → p.owner p.model.target ≡ i → Starts p i start → (n : Node) × (start ≡ Some n)
start_is p i None own s = absurd (s own)
start_is p i (Some n) own s = (n, refl)

-- of nodes that are apart and are all one, there is one
one_node : (p : Pass) (n : Node) (ns : List Node) → CoversNode p n n → ledger_rows.Apart p ns → ((m : Node) → Has ns m → m ≡ n) → Has ns n → ns ≡ n ∷ []
one_node p n [] self apart all h = absurd (has_none n h)
one_node p n (a ∷ []) self apart all h = ap (λ (m : Node). m ∷ []) (all a (0, refl))
one_node p n (a ∷ b ∷ ns) self apart all h =
    let ea = all a (0, refl) in
    let eb = all b (1, refl) in
    let covers : CoversNode p a b = subst (λ (m : Node). CoversNode p m b) (sym ea) (subst (λ (m : Node). CoversNode p n m) (sym eb) self) in
    absurd ((apart.0 b (0, refl)).0 covers)

one_item : {A : Type 0} (xs : List A) → length xs ≡ 1 → (x : A) × (xs ≡ x ∷ [])
one_item [] e = absurd (omega (arith, e))
one_item (x ∷ []) e = (x, refl)
one_item (x ∷ y ∷ xs) e = absurd (omega (arith, e))

first_layer : (xss : List (List CertNode)) (x : CertNode) → layer_of xss 0 ≡ x ∷ [] → slice_get xss 0 ≡ Some (x ∷ [])
first_layer [] x e = absurd (cc)
first_layer (xs ∷ xss) x e = ap Some e

apart_left : (p : Pass) (ns more : List Node) → ledger_rows.Apart p (ns ++ more) → ledger_rows.Apart p ns
apart_left p [] more h = tt
apart_left p (n ∷ ns) more h = (λ other k. h.0 other (has_left ns more other k), apart_left p ns more h.1)

module _ (p : Pass) (r : ShardRecord) (claimed : ℕ) (cert : Cert) (ex : IsExhausted p r claimed) (is : IsCertOf p r claimed cert) where
  alone : 0 < p.shards
  alone = one_shard p.shards ex.alone

  ledger : IsLedgerOf p r
  ledger = ex.ledger.shards 0 alone

  closed : IsClosedOf p 0 ex.closed.layers claimed r
  closed = ex.closed.shards 0 alone

  received : (l : ℕ) (n : Node) → Has (row r.rows l).kept n → Received p r.start r.received l n
  received l n h = (ledger.rows l).kept n h

  knows : (l : ℕ) (n : Node) → Has (row r.rows l).kept n → Known p 0 n
  knows l n h = known p (r ∷ []) ex.inner (closed_rooted p (r ∷ []) claimed claimed ex.ledger ex.closed) 0 l n alone (received l n h)

  leads : (l place : ℕ) (n : Node) (c : CertNode) → slice_get (row r.rows l).kept place ≡ Some n → slice_get (layer_of cert.layers l) place ≡ Some c → Path p.model (list_of cert.layers l place) n.state n.cost
  leads = list_leads p r.rows r.waiting r.visits r.pruned cert.layers is.rows

  -- a node that stands is the kept one of its place
  record IsKept (l place : ℕ) (s : PlainState) (cost : Option ℤ) (c : CertNode) : Type 0 where
    n : Node
    at : slice_get (row r.rows l).kept place ≡ Some n
    state : n.state ≡ s
    cost_is : n.cost ≡ cost

  is_kept : (l place : ℕ) (s : PlainState) (cost : Option ℤ) (stands : Stands p.model cert l place s cost) → IsKept l place s cost stands.node
  is_kept l place s cost stands =
      let k = kept_at p r.rows r.waiting r.visits r.pruned cert.layers is.rows l place stands.node stands.at in
      let same = leads_same p.model p.model.target None (list_of cert.layers l place) k.0.state s k.0.cost cost (leads l place k.0 stands.node k.1 stands.at) stands.path in
      record { n = k.0; at = k.1; state = same.0; cost_is = same.1 }

  above : (n : ℤ) → pos claimed ≤ℤ word_of p n → IsNotBelow p.model cert.claim n
  above n h = subst (λ (w : ℤ). w ≤ℤ word_of p n) (sym is.claimed_is) h

  -- a pruned node has a floor that is not below the claim
  pruned_high : (n : Node) → IsPruned r.pruned n → (floor : ℤ) × (n.floor ≡ Some floor) × IsNotBelow p.model cert.claim floor
  pruned_high n h =
      let q = closed.pruned (record { node = n; best = h.0 }) h.1 in
      let f = q.1 in
      (f.0, f.1, above f.0 (least_trans (pos claimed) (pos h.0) (word_of p f.0) (pos_mono claimed h.0 q.0) f.2))

  -- ---- the clauses

  target_alone : StartsAlone cert
  target_alone =
      let j = first_shard p.shards (p.owner p.model.target) ex.alone (p.owned p.model.target) in
      let s = start_is p 0 r.start j closed.target in
      let n = s.0 in
      let kept : Has (row r.rows 0).kept n = elim (closed.covered 0 n s.1) [
        | inl here ↦ elim here.1 [
          | inl k ↦ subst (Has (row r.rows 0).kept) (some_same here.0 n (sym ((ledger.rows 0).kept here.0 k) ∙ s.1)) k
          | inr d ↦ absurd (ex.drops_none 0 0 here.0 alone d)
        ]
        | inr before ↦ absurd (never before.1 before.3)
      ] in
      let self : CoversNode p n n = reflexive p.model p.prune n.state n.cost in
      let one = one_node p n (row r.rows 0).kept self (apart_left p (row r.rows 0).kept (row r.rows 0).dropped (ledger.rows 0).apart) (λ m h. some_same m n (sym ((ledger.rows 0).kept m h) ∙ s.1)) kept in
      let c = one_item (layer_of cert.layers 0) (is.rows.wide 0 ∙ ap (λ (ns : List Node). length ns) one) in
      (c.0, first_layer cert.layers c.0 c.1)
    where
      never : (k : ℕ) → k < 0 → ⊥
      never k lt = absurd (omega arith)

  nodes_hold : (l place : ℕ) (c : CertNode) → IsAt cert l place c → NodeHolds p.model cert l place
  nodes_hold l place c at =
      let k = kept_at p r.rows r.waiting r.visits r.pruned cert.layers is.rows l place c at in
      (k.0.state, ((k.0.cost, leads l place k.0 c k.1 at), (knows l k.0 (place, k.1)).inner))

  cuts_hold : (l place : ℕ) (s : PlainState) (cost : Option ℤ) (stands : Stands p.model cert l place s cost) → stands.node.cut ≡ true → CutHolds p.model cert s cost
  cuts_hold l place s cost stands cut =
      let k = is_kept l place s cost stands in
      let w = is.rows.marked l place k.n stands.node k.at stands.at in
      let f = pruned_high k.n (marked_cut r l k.n stands.node.cut cut w) in
      let floor = subst (IsFloor p.model p.prune k.n.state k.n.cost) f.1 (knows l k.n (place, k.at)).floor in
      (f.0, subst (λ (b : Bool). IsFloor p.model b s cost (Some f.0)) (sym is.prune) (moved k.n.state s k.n.cost cost f.0 k.state k.cost_is floor), f.2)
    where
      moved : (s s' : PlainState) (c c' : Option ℤ) (floor : ℤ) → s ≡ s' → c ≡ c' → IsFloor p.model p.prune s c (Some floor) → IsFloor p.model p.prune s' c' (Some floor)
      moved s s' c c' floor es ec h = subst (λ (x : PlainState). IsFloor p.model p.prune x c' (Some floor)) es (subst (λ (x : Option ℤ). IsFloor p.model p.prune s x (Some floor)) ec h)

  -- a kept node of a layer that covers
  covered_by : (layer k : ℕ) (w : Node) (s : PlainState) (cost : Option ℤ) → MayCover cert.keep layer k → Has (row r.rows k).kept w → Covers p.model p.prune w.state w.cost s cost → IsCovered p.model cert layer s cost
  covered_by layer k w s cost may kept covers =
      let c = written_at p r.rows r.waiting r.visits r.pruned cert.layers is.rows k kept.0 w kept.1 in
      record {
        l = k;
        place = kept.0;
        state = w.state;
        so_far = w.cost;
        may = may;
        stands = record { node = c.0; at = c.1; path = leads k kept.0 w c.0 kept.1 c.1; inner = (knows k w kept).inner };
        covers = subst (λ (b : Bool). Covers p.model b w.state w.cost s cost) (sym is.prune) covers;
      }

  -- a node that was sent for a layer is covered there
  sent_covered : (l : ℕ) (n : Node) → Has (of r.posted (p.owner n.state)) (State 0 (l + 1) n) → IsCovered p.model cert (suc l) n.state n.cost
  sent_covered l n sent =
      let j = first_shard p.shards (p.owner n.state) ex.alone (p.owned n.state) in
      let here = subst (λ (k : ℕ). Has (of r.posted k) (State 0 (l + 1) n)) j sent in
      let got : Received p r.start r.received (suc l) n = (0, alone, subst (λ (xs : List Letter). Has xs (State 0 (l + 1) n)) (sym (ex.closed.arrived 0 0 alone alone)) here) in
      elim (closed.covered (suc l) n got) [
        | inl here ↦ elim here.1 [
          | inl kept ↦ covered_by (suc l) (suc l) here.0 n.state n.cost (may_now cert.keep (suc l)) kept here.2
          | inr dropped ↦ absurd (ex.drops_none 0 (suc l) here.0 alone dropped)
        ]
        | inr before ↦ covered_by (suc l) before.1 before.2 n.state n.cost (may_before cert.keep (suc l) before.1 (is.keep ∙ before.0) before.3) before.4 before.5
      ]

  out_settled : (l q t : ℕ) (n : Node) → LeadsOnward p n t → LeadsOut p n t → Accounts p.model cert l n.state n.cost t
  out_settled l q t n onward out =
      let same = step_same p.model n.state t onward.0 out.0 onward.1 out.1 onward.2 out.2 in
      record {
        next = out.1;
        joined = join p.model.join n.cost out.0;
        leads = record { weight = out.0; step = out.2; is = refl; in_range = subst (λ (w : Option ℤ). IfSome (join p.model.join n.cost w) InRange) same.0 onward.3 };
        settled = inl out.3;
      }

  base_settled : (l t : ℕ) (n : Node) → LeadsToBase p r.held n t → Accounts p.model cert l n.state n.cost t
  base_settled l t n base =
      let x = base.1 in
      let h = reaches_held p r.held base.0 base.2 in
      let high = least_trans (pos claimed) (word_of p h.0.cost) (word_of p base.0) (ex.closed.is_best.held_above 0 h.0 alone h.1) h.2 in
      record {
        next = x.next;
        joined = join p.model.join n.cost x.weight;
        leads = record { weight = x.weight; step = x.step; is = refl; in_range = x.cost_in_range };
        settled = inr (inl (record { base = x.base; total = base.0; is_base = x.is_base; is = x.is; in_range = x.in_range; high = above base.0 high }));
      }

  on_settled : (l q t : ℕ) (n : Node) → LeadsOn p 0 r.posted [] r.pruned q (visit_of l n) t → Accounts p.model cert l n.state n.cost t
  on_settled l q t n on =
      let x = on.1 in
      record {
        next = on.0.state;
        joined = on.0.cost;
        leads = record { weight = x.weight; step = x.step; is = x.cost; in_range = x.in_range };
        settled = inr (inr (record {
          inner = x.inner;
          floor = on.0.floor;
          is_floor = subst (λ (b : Bool). IsFloor p.model b on.0.state on.0.cost on.0.floor) (sym is.prune) x.floor;
          needless = elim on.2 [
            | inl pruned ↦ (let f = pruned_high on.0 pruned in inl (subst (IsHigh p.model cert.claim) (sym f.1) f.2))
            | inr sent ↦ elim sent [
              | inl posted ↦ inr (subst (λ (k : ℕ). IsCovered p.model cert k on.0.state on.0.cost) (sym (add-one l)) (sent_covered l on.0 posted))
              | inr unsent ↦ absurd (has_none _ unsent)
            ]
          ];
        }));
      }

  steps_at : (l : ℕ) (n : Node) → Has r.visits (visit_of l n) → StepsHold p.model cert l n.state n.cost
  steps_at l n visited t considered enabled =
      elim (closed.accounted visited.0 (visit_of l n) visited.1 t considered enabled) [
        | inl out ↦ out_settled l visited.0 t n (ex.onward (visit_of l n) visited t considered enabled) out
        | inr other ↦ elim other [
          | inl base ↦ base_settled l t n base
          | inr on ↦ on_settled l visited.0 t n on
        ]
      ]

  steps_hold : (l place : ℕ) (s : PlainState) (cost : Option ℤ) (stands : Stands p.model cert l place s cost) → stands.node.cut ≡ false → StepsHold p.model cert l s cost
  steps_hold l place s cost stands open_node =
      let k = is_kept l place s cost stands in
      let w = is.rows.marked l place k.n stands.node k.at stands.at in
      let at = steps_at l k.n (marked_open r l k.n stands.node.cut open_node ex.idle w) in
      subst (λ (c : Option ℤ). StepsHold p.model cert l s c) k.cost_is (subst (λ (x : PlainState). StepsHold p.model cert l x k.n.cost) k.state at)

  pub rows_shown : Shown p.model cert
  rows_shown =
      record {
        claim = is.claim;
        target = inr (inr target_alone);
        nodes = nodes_hold;
        cuts = cuts_hold;
        steps = steps_hold;
      }

pub law_of_rows : LawRows
law_of_rows p r claimed cert ex is = rows_shown p r claimed cert ex is

-- ---- without layers

none_at : (layers : List (List CertNode)) (l place : ℕ) (n : CertNode) → layers ≡ [] → slice_get (layer_of layers l) place ≡ Some n → ⊥
none_at layers l place n e at = no_some n (subst (λ (xss : List (List CertNode)). slice_get (layer_of xss l) place ≡ Some n) e at)

pub law_of_target : LawTarget
law_of_target m cert claim none target =
    record {
      claim = claim;
      target = elim target [ inl forbidden ↦ inl forbidden | inr ends ↦ inr (inl ends) ];
      nodes = λ l place n at. absurd (none_at cert.layers l place n none at);
      cuts = λ l place s cost stands cut. absurd (none_at cert.layers l place stands.node none stands.at);
      steps = λ l place s cost stands open_node. absurd (none_at cert.layers l place stands.node none stands.at);
    }

-- ---- the target alone

cut_target : CertNode
cut_target = record { made = None; cut = true }

at_target : (layers : List (List CertNode)) (l place : ℕ) (c : CertNode) → layers ≡ (record { made = None; cut = true } ∷ []) ∷ [] → slice_get (layer_of layers l) place ≡ Some c → (l ≡ 0) × (c.cut ≡ true)
at_target layers l place c e at = by l place (subst (λ (xss : List (List CertNode)). slice_get (layer_of xss l) place ≡ Some c) e at)
  where
    by : (l place : ℕ) → slice_get (layer_of ((record { made = None; cut = true } ∷ []) ∷ []) l) place ≡ Some c → (l ≡ 0) × (c.cut ≡ true)
    by zero zero h = (refl, ap (λ (x : CertNode). x.cut) (sym (some_same (record { made = None; cut = true }) c h)))
    by zero (suc place) h = absurd (no_some c h)
    by (suc l) place h = absurd (no_some c h)

no_cut : (b : Bool) → b ≡ true → b ≡ false → ⊥
no_cut b t f = cc

module _ (m : Model) (cert : Cert) (claim : ClaimHolds m cert.claim) (layers : cert.layers ≡ (record { made = None; cut = true } ∷ []) ∷ []) (inner : Inner m m.target)
    (floor : ℤ) (is_floor : IsFloor m cert.prune m.target None (Some floor)) (high : IsNotBelow m cert.claim floor) where
  only_node : (l place : ℕ) (c : CertNode) → IsAt cert l place c → (l ≡ 0) × (c.cut ≡ true)
  only_node l place c at = at_target cert.layers l place c layers at

  empty_list : (l place : ℕ) → l ≡ 0 → list_of cert.layers l place ≡ []
  empty_list l place e = ap (λ (k : ℕ). list_of cert.layers k place) e

  target_stands : (l place : ℕ) (s : PlainState) (cost : Option ℤ) → Stands m cert l place s cost → (m.target ≡ s) × (None ≡ cost)
  target_stands l place s cost stands = subst (λ (us : List ℕ). Path m us s cost) (empty_list l place (only_node l place stands.node stands.at).0) stands.path

  cut_high : (l place : ℕ) (s : PlainState) (cost : Option ℤ) → Stands m cert l place s cost → CutHolds m cert s cost
  cut_high l place s cost stands =
      let t = target_stands l place s cost stands in
      (floor, subst (λ (c : Option ℤ). IsFloor m cert.prune s c (Some floor)) t.1 (subst (λ (x : PlainState). IsFloor m cert.prune x None (Some floor)) t.0 is_floor), high)

  pub cut_shown : Shown m cert
  cut_shown =
      record {
        claim = claim;
        target = inr (inr (record { made = None; cut = true }, ap (λ (xss : List (List CertNode)). slice_get xss 0) layers));
        nodes = λ l place c at. (m.target, ((None, subst (λ (us : List ℕ). Path m us m.target None) (sym (empty_list l place (only_node l place c at).0)) (refl, refl)), inner));
        cuts = λ l place s cost stands cut. cut_high l place s cost stands;
        steps = λ l place s cost stands open_node. absurd (no_cut stands.node.cut (only_node l place stands.node stands.at).1 open_node);
      }

pub law_of_cut : LawCut
law_of_cut m cert claim layers inner floor is_floor high = cut_shown m cert claim layers inner floor is_floor high
