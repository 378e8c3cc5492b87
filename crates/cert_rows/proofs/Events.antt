-- What goes on in a pass of one shard while its certificate is made: a layer is closed and written, a node is visited, a letter is posted
-- and taken.
use Rattle.std.proofs.Common.{◌≡◌, ℕ, ◌+◌, ◌-◌, ◌<◌, ◌≤◌, inl, inr, zero, suc, Bool, true, false, List, [], ◌∷◌, ◌++◌, length, slice_get, Option, Some, None, refl, sym, ap, subst, ◌∙◌, arith, add-one}
use Rattle.std.specs.Prelude.{pos, ◌≤ℤ◌}
use Rattle.std.proofs.lemmas.Bool.{cases_lt}
use Rattle.std.proofs.lemmas.List.{get_or_append_left, get_or_past, get_or_push, length_push, length-map}
use Rattle.dp_steps.specs.States.{Considered, Enabled}
use Rattle.dp_claims.specs.Enough.{Has}
use Rattle.path_log.specs.declared.logs.StepId.{StepId}
use Rattle.state_layout.specs.declared.node.Node.{Node}
use Rattle.pass_ledger.specs.Events.{append_at, take, CanTake, close, CanClose, visit, CanVisit, post, CanPost, fresh}
use Rattle.pass_ledger.specs.Letters.{of, sender, Posted}
use Rattle.pass_ledger.specs.Passes.{Pass, StartsInner, word_of, IsStart}
use Rattle.pass_ledger.specs.Records.{visit_of, IsSuccessor}
use Rattle.pass_ledger.specs.Rows.{row, Received}
use Rattle.pass_ledger.specs.declared.mail.Letter.{Letter}
use Rattle.pass_ledger.specs.declared.mail.Letter.TheVariants.{State}
use Rattle.pass_ledger.specs.declared.records.Held.{Held}
use Rattle.pass_ledger.specs.declared.records.LedgerRow.{LedgerRow}
use Rattle.pass_ledger.specs.declared.records.PrunedAt.{PrunedAt}
use Rattle.pass_ledger.specs.declared.records.ShardRecord.{ShardRecord}
use Rattle.pass_ledger.specs.declared.records.Unsent.{Unsent}
use Rattle.pass_ledger.specs.declared.records.Visit.{Visit}
use Rattle.pass_ledger.proofs.Appends.{append_same, get_push, row_each, row_old}
use Rattle.pass_ledger.proofs.Done.{row_within}
use Rattle.pass_ledger.proofs.Lists.{has_cases, has_last, has_left}
use Rattle.pass_ledger.proofs.Paths.{started}
use Rattle.pass_ledger.proofs.Posts.{own_post}
use Rattle.pass_ledger.proofs.Runs.{own_fresh}
use Rattle.pass_ledger.proofs.Steps.{first_waits, own_close, own_take, pruned_more}
use Rattle.pass_ledger.proofs.Visits.{own_visit}
use Rattle.cert_types.specs.declared.nodes.CertNode.{CertNode}
use Rattle.cert_types.specs.declared.nodes.CertStep.{CertStep}
use Rattle.cert_laws.specs.Shown.{layer_of}
use Rattle.cert_rows.specs.Making.{GoesOn, InTurn, node_for, nodes_for, step_for}
use Rattle.cert_rows.specs.Rows.{AreRows, IsMade, IsMadeBy, IsMarked, LeadsOnward}
use Rattle.cert_rows.proofs.Places.{get_map, get_within, has_none, has_one, no_some, some_same, within_get}

first_shard : (n j : ℕ) → n ≡ 1 → j < n → j ≡ 0
first_shard n j e lt = omega (arith, e, lt)

one_shard : (n : ℕ) → n ≡ 1 → 0 < n
one_shard n e = omega (arith, e)

same_layer : (a b n : ℕ) → a + 1 ≡ n → b + 1 ≡ n → a ≡ b
same_layer a b n h k = omega (arith, h, k)

-- ---- a node is visited

module _ (p : Pass) (claimed : ℕ) (r : ShardRecord) (layers : List (List CertNode)) (first : ℕ) (on : GoesOn p claimed r layers first) where
  marked_visit : (l l' : ℕ) (n n' : Node) (rest : List Node) (prunes : List PrunedAt) (cut : Bool) → l + 1 ≡ length r.rows → r.waiting ≡ n ∷ rest → IsMarked r.rows r.waiting r.visits r.pruned l' n' cut
      → IsMarked r.rows rest (r.visits ++ visit_of l n ∷ []) (r.pruned ++ prunes) l' n' cut
  marked_visit l l' n n' rest prunes true layer is h = pruned_more r.pruned prunes n' h
  marked_visit l l' n n' rest prunes false layer is h =
      elim h [
        | inl visited ↦ inl (has_left r.visits (visit_of l n ∷ []) (visit_of l' n') visited)
        | inr waits ↦ elim (first_waits r.waiting n rest is n' waits.1) [
          | inl here ↦
              let same : visit_of l n ≡ visit_of l' n' = ap (λ (k : ℕ). visit_of k n) (same_layer l l' (length r.rows) layer waits.0) ∙ ap (visit_of l') here in
              inl (subst (Has (r.visits ++ visit_of l n ∷ [])) same (has_last r.visits (visit_of l n)))
          | inr later ↦ inr (waits.0, later)
        ]
      ]

  turn_visit : (l : ℕ) (n : Node) (rest : List Node) → l + 1 ≡ length r.rows → r.waiting ≡ n ∷ rest → InTurn first r.rows rest (r.visits ++ visit_of l n ∷ [])
  turn_visit l n rest layer is =
      record {
        begun = more (length r.visits) (length (r.visits ++ visit_of l n ∷ [])) on.turn.begun (length_push r.visits (visit_of l n));
        visited = λ k v at last. elim (get_push r.visits (visit_of l n) k v at) [
          | inl old ↦ on.turn.visited k v old last
          | inr new ↦ (
            subst (λ (x : ℕ). first ≤ x) (sym new.0) on.turn.begun,
            subst (λ (x : ℕ). slice_get (row r.rows v.layer).kept (x - first) ≡ Some v.node) (sym new.0)
                (subst (λ (w : Visit). slice_get (row r.rows w.layer).kept (length r.visits - first) ≡ Some w.node) new.1
                (subst (λ (x : ℕ). slice_get (row r.rows l).kept x ≡ Some n) (none (length r.visits - first))
                (on.turn.waits 0 l n (ap (λ (ns : List Node). slice_get ns 0) is) layer))),
          )
        ];
        waits = λ i l' m at last.
            subst (λ (x : ℕ). slice_get (row r.rows l').kept x ≡ Some m) (moved (length r.visits) (length (r.visits ++ visit_of l n ∷ [])) i on.turn.begun (length_push r.visits (visit_of l n)))
            (on.turn.waits (suc i) l' m (ap (λ (ns : List Node). slice_get ns (suc i)) is ∙ at) last);
      }
    where
      more : (a b : ℕ) → first ≤ a → b ≡ a + 1 → first ≤ b
      more a b h e = omega (arith, h, e)

      none : (a : ℕ) → a + 0 ≡ a
      none a = omega arith

      moved : (a b i : ℕ) → first ≤ a → b ≡ a + 1 → a - first + suc i ≡ b - first + i
      moved a b i h e = omega (arith, h, e)

  -- a node is visited without a fault
  pub on_visit : (l : ℕ) (n : Node) (rest : List Node) (made : List Unsent) (prunes : List PrunedAt) (held : Option Held) → CanVisit p 0 r l n rest made prunes held None → ((q : PrunedAt) → Has prunes q → q.best ≡ claimed)
      → ((h : Held) → held ≡ Some h → pos claimed ≤ℤ word_of p h.cost) → ((t : ℕ) → Considered p.model n.state t → Enabled p.model n.state t → LeadsOnward p n t) → GoesOn p claimed (visit r l n rest made prunes held None) layers first
  on_visit l n rest made prunes held can by_best above onward =
      record {
        alone = on.alone;
        inner = on.inner;
        own = own_visit p 0 r on.own l n rest made prunes held None can;
        arrived = on.arrived;
        above = above;
        pruned = λ q h. elim (has_cases r.pruned prunes q h) [ inl old ↦ on.pruned q old | inr new ↦ same claimed q.best (by_best q new) ];
        drops_none = on.drops_none;
        onward = λ v h. elim (has_cases r.visits (visit_of l n ∷ []) v h) [
          | inl old ↦ on.onward v old
          | inr new ↦ subst (λ (w : Visit). (t : ℕ) → Considered p.model w.node.state t → Enabled p.model w.node.state t → LeadsOnward p w.node t) (has_one (visit_of l n) v new) onward
        ];
        few = on.few;
        rows = record {
          wide = on.rows.wide;
          made = on.rows.made;
          marked = λ l' place n' c at is. marked_visit l l' n n' rest prunes c.cut can.layer can.first (on.rows.marked l' place n' c at is);
        };
        turn = turn_visit l n rest can.layer can.first;
      }
    where
      same : (a b : ℕ) → b ≡ a → a ≤ b
      same a b e = omega (arith, e)

  -- ---- a letter is posted and taken

  pub can_take : (to : ℕ) (x : Letter) (rest : List Unsent) → CanPost p 0 r to x rest → CanTake p (post r to x rest) x
  can_take to x rest can =
      let own = own_post p 0 r on.own to x rest can in
      let here : to ≡ 0 = first_shard p.shards to on.alone can.receiver in
      let lt : 0 < length r.posted = one_shard (length r.posted) (on.own.sizes.1 ∙ on.alone) in
      let posted : of (append_at r.posted to x) 0 ≡ of r.posted 0 ++ x ∷ [] = ap (λ (k : ℕ). of (append_at r.posted k x) 0) here ∙ append_same r.posted 0 x lt in
      let lawful : Posted p.model (of r.received 0 ++ x ∷ []) = subst (Posted p.model) (posted ∙ ap (λ (xs : List Letter). xs ++ x ∷ []) (sym on.arrived)) (own.sends.lawful 0) in
      record {
        from = subst (λ (k : ℕ). k < p.shards) (sym can.signed) (one_shard p.shards on.alone);
        lawful = subst (λ (k : ℕ). Posted p.model (of r.received k ++ x ∷ [])) (sym can.signed) lawful;
      }

  pub on_post : (to : ℕ) (x : Letter) (rest : List Unsent) → CanPost p 0 r to x rest → GoesOn p claimed (take (post r to x rest) x) layers first
  on_post to x rest can =
      let own = own_post p 0 r on.own to x rest can in
      let here : to ≡ 0 = first_shard p.shards to on.alone can.receiver in
      let lt : 0 < length r.posted = one_shard (length r.posted) (on.own.sizes.1 ∙ on.alone) in
      let lr : 0 < length r.received = one_shard (length r.received) (on.own.sizes.0 ∙ on.alone) in
      let posted : of (append_at r.posted to x) 0 ≡ of r.posted 0 ++ x ∷ [] = ap (λ (k : ℕ). of (append_at r.posted k x) 0) here ∙ append_same r.posted 0 x lt in
      let received : of (append_at r.received (sender x) x) 0 ≡ of r.received 0 ++ x ∷ [] = ap (λ (k : ℕ). of (append_at r.received k x) 0) can.signed ∙ append_same r.received 0 x lr in
      record {
        alone = on.alone;
        inner = on.inner;
        own = own_take p 0 (post r to x rest) own x (can_take to x rest can);
        arrived = received ∙ (ap (λ (xs : List Letter). xs ++ x ∷ []) on.arrived ∙ sym posted);
        above = on.above;
        pruned = on.pruned;
        drops_none = on.drops_none;
        onward = on.onward;
        few = on.few;
        rows = on.rows;
        turn = on.turn;
      }

  -- ---- a layer is closed

  -- how a kept node of the new layer was made
  module _ (w : LedgerRow) (can : CanClose p r w) where
    abbrev rows' : List LedgerRow
    rows' = r.rows ++ w ∷ []

    open_made : (n : Node) → Received p r.start r.received 0 n → IsMade p rows' 0 n (step_for first n.parent n.transition)
    open_made n got =
        let s = (started p 0 r.start n on.own.start got).0 in
        subst (λ (o : Option StepId). IsMade p rows' 0 n (step_for first o n.transition)) (sym s.parent) s

    later_made : (l : ℕ) (n : Node) → suc l ≡ length r.rows → Received p r.start r.received (suc l) n → (0 < length (row r.rows l).kept) × IsMade p rows' (suc l) n (step_for first n.parent n.transition)
    later_made l n last got =
        let j = first_shard p.shards got.0 on.alone got.1 in
        let here : Has (of r.posted 0) (State got.0 (l + 1) n) = subst (λ (xs : List Letter). Has xs (State got.0 (l + 1) n)) on.arrived (subst (λ (k : ℕ). Has (of r.received k) (State got.0 (l + 1) n)) j got.2) in
        let m = on.own.sends.made 0 got.0 (l + 1) n here in
        let same : m.visit.layer ≡ l = same_layer m.visit.layer l (m.visit.layer + 1) refl m.next_layer in
        let v = on.turn.visited m.place m.visit m.logged (ap (λ (k : ℕ). k + 1) same ∙ (add-one l ∙ last)) in
        let lt : l < length r.rows = subst (λ (k : ℕ). l < k) last (less l) in
        let there : slice_get (row r.rows l).kept (m.place - first) ≡ Some m.visit.node = subst (λ (k : ℕ). slice_get (row r.rows k).kept (m.place - first) ≡ Some m.visit.node) same v.1 in
        let x = m.successor in (
          some (m.place - first) (length (row r.rows l).kept) (within_get (row r.rows l).kept (m.place - first) m.visit.node there),
          subst (λ (o : Option StepId). IsMade p rows' (suc l) n (step_for first o n.transition)) (sym x.parent)
              (record {
                from = m.visit.node;
                there = subst (λ (e : LedgerRow). slice_get e.kept (m.place - first) ≡ Some m.visit.node) (sym (row_old r.rows w l lt)) there;
                visit = m.place;
                successor = subst (λ (t : ℕ). IsSuccessor p 0 m.place m.visit.node t n) (sym x.transition) x;
              }),
        )
      where
        less : (k : ℕ) → k < suc k
        less k = omega arith

        some : (a b : ℕ) → a < b → 0 < b
        some a b h = omega (arith, h)

    -- what is written of a row
    record RowIs (l : ℕ) (new : LedgerRow) (cs : List CertNode) : Type 0 where
      wide : length cs ≡ length new.kept
      made : (place : ℕ) (n : Node) (c : CertNode) → slice_get new.kept place ≡ Some n → slice_get cs place ≡ Some c → IsMade p rows' l n c.made
      marked : (place : ℕ) (n : Node) (c : CertNode) → slice_get new.kept place ≡ Some n → slice_get cs place ≡ Some c → IsMarked rows' w.kept r.visits r.pruned l n c.cut

    made_kept : (l : ℕ) (n : Node) (made : Option CertStep) → l < length r.rows → IsMade p r.rows l n made → IsMade p rows' l n made
    made_kept zero n None lt h = h
    made_kept zero n (Some step) lt h = absurd h
    made_kept (suc l) n None lt h = absurd h
    made_kept (suc l) n (Some step) lt h = subst (λ (e : LedgerRow). IsMadeBy p e.kept n step) (sym (row_old r.rows w l (less l (length r.rows) lt))) h
      where
        less : (a b : ℕ) → suc a < b → a < b
        less a b h = omega (arith, h)

    marked_kept : (l : ℕ) (n : Node) (cut : Bool) → IsMarked r.rows r.waiting r.visits r.pruned l n cut → IsMarked rows' w.kept r.visits r.pruned l n cut
    marked_kept l n true h = h
    marked_kept l n false h = elim h [ inl visited ↦ inl visited | inr waits ↦ absurd (has_none n (subst (λ (ns : List Node). Has ns n) can.idle waits.1)) ]

    old_row : (l : ℕ) → l < length r.rows → RowIs l (row r.rows l) (layer_of layers l)
    old_row l lt =
        record {
          wide = on.rows.wide l;
          made = λ place n c at is. made_kept l n c.made lt (on.rows.made l place n c at is);
          marked = λ place n c at is. marked_kept l n c.cut (on.rows.marked l place n c at is);
        }

    no_row : (l : ℕ) (new : LedgerRow) (cs : List CertNode) → new.kept ≡ [] → cs ≡ [] → RowIs l new cs
    no_row l new cs none none' =
        record {
          wide = ap (λ (xs : List CertNode). length xs) none' ∙ sym (ap (λ (ns : List Node). length ns) none);
          made = λ place n c at is. absurd (no_some n (subst (λ (ns : List Node). slice_get ns place ≡ Some n) none at));
          marked = λ place n c at is. absurd (no_some n (subst (λ (ns : List Node). slice_get ns place ≡ Some n) none at));
        }

    made_new : (l : ℕ) (n : Node) → l ≡ length r.rows → Received p r.start r.received (length r.rows) n → IsMade p rows' l n (step_for first n.parent n.transition)
    made_new zero n e got = open_made n (subst (λ (k : ℕ). Received p r.start r.received k n) (sym e) got)
    made_new (suc l) n e got = (later_made l n e (subst (λ (k : ℕ). Received p r.start r.received k n) (sym e) got)).1

    new_row : RowIs (length r.rows) w (nodes_for first w.kept)
    new_row =
        record {
          wide = length-map w.kept (node_for first);
          made = λ place n c at is.
              (let same = some_same (node_for first n) c (sym (get_map (node_for first) w.kept place n at) ∙ is) in
              subst (λ (x : CertNode). IsMade p rows' (length r.rows) n x.made) same (made_new (length r.rows) n refl (can.is_row.kept n (place, at))));
          marked = λ place n c at is.
              (let same = some_same (node_for first n) c (sym (get_map (node_for first) w.kept place n at) ∙ is) in
              subst (λ (x : CertNode). IsMarked rows' w.kept r.visits r.pruned (length r.rows) n x.cut) same (inr (sym (length_push r.rows w), (place, at))));
        }

    are_rows : (layers' : List (List CertNode)) → ((l : ℕ) → RowIs l (row rows' l) (layer_of layers' l)) → AreRows p rows' w.kept r.visits r.pruned layers'
    are_rows layers' h = record { wide = λ l. (h l).wide; made = λ l. (h l).made; marked = λ l. (h l).marked }

    turn_close : InTurn (length r.visits) rows' w.kept r.visits
    turn_close =
        record {
          begun = self (length r.visits);
          visited = λ k v at last. absurd (below v.layer (length r.rows) (length rows') (row_within r.rows v.layer v.node (on.own.turns.visited v (k, at))) last (length_push r.rows w));
          waits = λ i l n at last.
              (let here : length r.rows ≡ l = same_layer (length r.rows) l (length rows') (sym (length_push r.rows w)) last in
              subst (λ (k : ℕ). slice_get (row rows' k).kept (length r.visits - length r.visits + i) ≡ Some n) here
              (subst (λ (x : ℕ). slice_get (row rows' (length r.rows)).kept x ≡ Some n) (same (length r.visits) i)
              (subst (λ (e : LedgerRow). slice_get e.kept i ≡ Some n) (sym (get_or_push r.rows w (record { kept = []; dropped = [] }) (length r.rows) refl)) at)));
        }
      where
        self : (a : ℕ) → a ≤ a
        self a = omega arith

        same : (a i : ℕ) → i ≡ a - a + i
        same a i = omega arith

        below : (a b c : ℕ) → a < b → a + 1 ≡ c → c ≡ b + 1 → ⊥
        below a b c h k e = absurd (omega (arith, h, k, e))

    closed_on : w.dropped ≡ [] → (layers' : List (List CertNode)) → length layers' ≤ length rows' → ((l : ℕ) → RowIs l (row rows' l) (layer_of layers' l)) → GoesOn p claimed (close r w) layers' (length r.visits)
    closed_on none layers' few each =
        record {
          alone = on.alone;
          inner = on.inner;
          own = own_close p 0 r on.own w can;
          arrived = on.arrived;
          above = on.above;
          pruned = on.pruned;
          drops_none = row_each (λ l e. (n : Node) → Has e.dropped n → ⊥) r.rows w (λ l lt n h. on.drops_none l n h) (λ n h. has_none n (subst (λ (ns : List Node). Has ns n) none h)) (λ l lt n h. has_none n h);
          onward = on.onward;
          few = few;
          rows = are_rows layers' each;
          turn = turn_close;
        }

    -- a row without nodes is not written
    pub on_close_none : w.dropped ≡ [] → w.kept ≡ [] → GoesOn p claimed (close r w) layers (length r.visits)
    on_close_none none empty =
        closed_on none layers (up (length layers) (length r.rows) (length rows') on.few (length_push r.rows w))
        (row_each (λ l e. RowIs l e (layer_of layers l)) r.rows w old_row
        (no_row (length r.rows) w (layer_of layers (length r.rows)) empty (get_or_past layers (length r.rows) [] on.few))
        (λ l lt. no_row l (record { kept = []; dropped = [] }) (layer_of layers l) refl (get_or_past layers l [] (far (length layers) (length r.rows) l on.few lt))))
      where
        up : (a b c : ℕ) → a ≤ b → c ≡ b + 1 → a ≤ c
        up a b c h e = omega (arith, h, e)

        far : (a b c : ℕ) → a ≤ b → b < c → a ≤ c
        far a b c h k = omega (arith, h, k)

    -- where a node is kept, all rows before are written
    aligned : (k : ℕ) → k ≡ length r.rows → (n : Node) → Has w.kept n → length layers ≡ length r.rows
    aligned zero e n h = nothing (length layers) (length r.rows) on.few e
      where
        nothing : (a b : ℕ) → a ≤ b → 0 ≡ b → a ≡ b
        nothing a b h e = omega (arith, h, e)
    aligned (suc l) e n h =
        let some = (later_made l n e (subst (λ (k : ℕ). Received p r.start r.received k n) (sym e) (can.is_row.kept n h))).0 in
        let wide : 0 < length (layer_of layers l) = subst (λ (k : ℕ). 0 < k) (sym (on.rows.wide l)) some in
        elim (cases_lt l (length layers)) [
          | inl lt ↦ both l (length layers) (length r.rows) lt on.few e
          | inr ge ↦ absurd (never (length (layer_of layers l)) wide (ap (λ (xs : List CertNode). length xs) (get_or_past layers l [] ge)))
        ]
      where
        both : (k a b : ℕ) → k < a → a ≤ b → suc k ≡ b → a ≡ b
        both k a b h le e = omega (arith, h, le, e)

        never : (a : ℕ) → 0 < a → a ≡ 0 → ⊥
        never a h e = absurd (omega (arith, h, e))

    -- a row with nodes is written behind the others
    pub on_close : w.dropped ≡ [] → 0 < length w.kept → GoesOn p claimed (close r w) (layers ++ nodes_for first w.kept ∷ []) (length r.visits)
    on_close none some =
        let n = get_within w.kept 0 some in
        let long = aligned (length r.rows) refl n.0 (0, n.1) in
        closed_on none (layers ++ nodes_for first w.kept ∷ []) (up (length layers) (length r.rows) (length (layers ++ nodes_for first w.kept ∷ [])) (length rows') long (length_push layers (nodes_for first w.kept)) (length_push r.rows w))
        (row_each (λ l e. RowIs l e (layer_of (layers ++ nodes_for first w.kept ∷ []) l)) r.rows w
        (λ l lt. subst (RowIs l (row r.rows l)) (sym (get_or_append_left layers (nodes_for first w.kept ∷ []) [] l (subst (λ (k : ℕ). l < k) (sym long) lt))) (old_row l lt))
        (subst (RowIs (length r.rows) w) (sym (get_or_push layers (nodes_for first w.kept) [] (length r.rows) long)) new_row)
        (λ l lt. no_row l (record { kept = []; dropped = [] }) (layer_of (layers ++ nodes_for first w.kept ∷ []) l) refl
        (get_or_past (layers ++ nodes_for first w.kept ∷ []) l [] (far (length layers) (length r.rows) (length (layers ++ nodes_for first w.kept ∷ [])) l long (length_push layers (nodes_for first w.kept)) lt))))
      where
        up : (a b c d : ℕ) → a ≡ b → c ≡ a + 1 → d ≡ b + 1 → c ≤ d
        up a b c d h e f = omega (arith, h, e, f)

        far : (a b c d : ℕ) → a ≡ b → c ≡ a + 1 → b < d → c ≤ d
        far a b c d h e k = omega (arith, h, e, k)

-- ---- the beginning

no_row_yet : (p : Pass) (visits : List Visit) (pruned : List PrunedAt) → AreRows p [] [] visits pruned []
no_row_yet p visits pruned =
    record {
      wide = λ l. refl;
      made = λ l place n c at is. absurd (no_some n at);
      marked = λ l place n c at is. absurd (no_some n at);
    }

pub on_start : (p : Pass) (claimed : ℕ) (n : Node) → p.shards ≡ 1 → StartsInner p → IsStart p n → GoesOn p claimed (fresh p.shards (Some n)) [] 0
on_start p claimed n alone inner start =
    record {
      alone = alone;
      inner = inner;
      own = own_fresh p 0 (Some n) (start, first_shard p.shards (p.owner p.model.target) alone (p.owned p.model.target));
      arrived = refl;
      above = λ h e. absurd (no_some h e);
      pruned = λ q h. absurd (has_none q h);
      drops_none = λ l m h. has_none m h;
      onward = λ v h. absurd (has_none v h);
      few = self 0;
      rows = no_row_yet p [] [];
      turn = record {
        begun = self 0;
        visited = λ k v at last. absurd (no_some v at);
        waits = λ i l m at last. absurd (no_some m at);
      };
    }
  where
    self : (a : ℕ) → a ≤ a
    self a = omega arith
