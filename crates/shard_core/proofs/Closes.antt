-- A shard that closes a layer stands for the record that closed it.
use Rattle.std.proofs.Common.{◌≡◌, ℕ, ◌+◌, ◌≤◌, ◌<◌, inl, inr, zero, suc, Bool, true, false, if◌then◌else◌, List, [], ◌∷◌, ◌++◌, ◌⊎◌, length, map, get_or, Option, Some, None, refl, sym, subst, ◌∙◌, ap, arith, append_assoc, append-nil, length-append}
use Rattle.std.specs.Prelude.{ℤ, ◌≤ℤ◌, int_lt}
use Rattle.std.proofs.lemmas.Int.{ints}
use Rattle.std.proofs.lemmas.Bool.{cases_lt}
use Rattle.std.proofs.lemmas.List.{get_or_past, length_push, map-append}
use Rattle.std.proofs.lemmas.List.Sums.{sum_by-cons}
use Rattle.std.specs.declared.alloc.Global.{Global}
use Rattle.std.specs.declared.collections.VecDeque.{VecDeque}
use Rattle.std.specs.declared.vec.Vec.{Vec}
use Rattle.cost_laws.specs.Orders.{IsLawOf}
use Rattle.dp_claims.specs.Dominance.{Covers}
use Rattle.dp_claims.specs.Enough.{Has}
use Rattle.dp_model.specs.Costs.{order_word}
use Rattle.dp_model.specs.declared.answers.Keep.{Keep}
use Rattle.dp_model.specs.declared.parts.JoinOp.{JoinOp}
use Rattle.dom_store.specs.Contents as store
use Rattle.dom_store.specs.Order.{IsLeastFloor, better_floor}
use Rattle.dom_store.specs.Past.{Past, past_node, IsPast}
use Rattle.dom_store.specs.declared.past_node.PastNode.{PastNode}
use Rattle.dom_store.specs.declared.taking.Taken.{Taken}
use Rattle.state_layout.specs.declared.layout.Layout.{Layout}
use Rattle.state_layout.specs.declared.node.Node.{Node}
use Rattle.pass_ledger.specs.Events.{close, CanClose}
use Rattle.pass_ledger.specs.Groups.{unfinished}
use Rattle.pass_ledger.specs.Letters.{of, InGroups, states_at, all_states_at}
use Rattle.pass_ledger.specs.Passes.{Pass}
use Rattle.pass_ledger.specs.Past.{past_of, past_with, IsCoveredBy}
use Rattle.pass_ledger.specs.Rows.{Received, IsCovered, IsCoveredBefore, IsNew, Apart}
use Rattle.pass_ledger.specs.declared.mail.Letter.{Letter}
use Rattle.pass_ledger.specs.declared.mail.Letter.TheVariants.{State, Mark}
use Rattle.pass_ledger.specs.declared.records.LedgerRow.{LedgerRow}
use Rattle.pass_ledger.specs.declared.records.ShardRecord.{ShardRecord}
use Rattle.pass_ledger.proofs.Lists.{has_none, has_head, has_cases, has_left, has_right, has_map}
use Rattle.pass_ledger.proofs.Groups.{marks, states}
use Rattle.pass_ledger.proofs.Past.{past, new_row, row_covers}
use Rattle.pass_ledger.proofs.Steps.{own_close}
use Rattle.successors.specs.Searches.{Search}
use Rattle.shard_core.specs.Calls.{IsReady, IsClosed}
use Rattle.shard_core.specs.Floors.{floor_of}
use Rattle.shard_core.specs.Layers.{nodes_at, busy_at, AreOf, Splits}
use Rattle.shard_core.specs.Stands.{Stands, Remembers, all_dropped}
use Rattle.shard_core.specs.declared.layers.Layer.{Layer}
use Rattle.shard_core.specs.declared.shard.Closed.{Closed}
use Rattle.shard_core.specs.declared.shard.Shard.{Shard}
use Rattle.shard_core.proofs.Rows.{by_law}
use Rattle.shard_core.proofs.Sends.{no_letters}

-- ---- rows

abbrev pub row_of : Taken → LedgerRow
row_of taken = record { kept = taken.kept; dropped = taken.dropped }

pub apart_in : (p : Pass) (ns : List Node) → store.Apart p.model p.prune ns → Apart p ns
apart_in p [] h = tt
apart_in p (n ∷ ns) h = (h.0, apart_in p ns h.1)

-- ---- the past

is_kept : (ns : List Node) (n : Node) → Has ns n → Has (map past_node ns) (past_node n)
is_kept [] n h = absurd (has_none n h)
is_kept (m ∷ ns) n h = elim (has_head m ns n h) [ inl e ↦ (0, ap (λ (x : Node). Some (past_node x)) e) | inr more ↦ (let r = is_kept ns n more in (suc r.0, r.1)) ]

-- what is kept of nodes covers what these cover
covered_to : (p : Pass) (ns : List Node) (n : Node) → IsCoveredBy p ns n → IsPast p.model p.prune (map past_node ns) n
covered_to p ns n c = (past_node c.0, is_kept ns c.0 c.1, c.2)

covered_from : (p : Pass) (ns : List Node) (n : Node) → IsPast p.model p.prune (map past_node ns) n → IsCoveredBy p ns n
covered_from p ns n c = let r = has_map past_node ns c.0 c.1 in (r.0, r.1, subst (λ (x : PastNode). Covers p.model p.prune x.state x.cost n.state n.cost) (sym r.2) c.2)

-- a row that is split off beside the past is new, and what it does not cover the past covers
module _ (p : Pass) (rows : List LedgerRow) (past : List PastNode) (is : past ≡ map past_node (past_of p.keep rows)) (taken : Taken) where
  pub new_beside : ((n : Node) → Has (taken.kept ++ taken.dropped) n → IsPast p.model p.prune past n → ⊥) → IsNew p rows (length rows) (row_of taken)
  new_beside news = new_row p rows (past_of p.keep rows) (row_of taken) refl (λ n h c. news n h (subst (λ (ns : List PastNode). IsPast p.model p.prune ns n) (sym is) (covered_to p (past_of p.keep rows) n c)))

  pub covered_beside : (n : Node) → store.IsCovered p.model p.prune (taken.kept ++ taken.dropped) n ⊎ IsPast p.model p.prune past n → IsCovered p (row_of taken) n ⊎ IsCoveredBefore p rows (length rows) n
  covered_beside n (inl c) = row_covers p rows (past_of p.keep rows) (row_of taken) refl n (inl c)
  covered_beside n (inr c) = row_covers p rows (past_of p.keep rows) (row_of taken) refl n (inr (covered_from p (past_of p.keep rows) n (subst (λ (ns : List PastNode). IsPast p.model p.prune ns n) is c)))

-- the past grows by what the closed layer adds to it
pub remembers_more : (p : Pass) (keep : Keep) (layout : Layout) (old new : Past) (rows : List LedgerRow) (taken : Taken) → Remembers p keep layout old rows → new.layout ≡ old.layout → new.nodes ≡ old.nodes ++ map past_node (past_with keep taken.kept) → Remembers p keep layout new (rows ++ row_of taken ∷ [])
remembers_more p keep layout old new rows taken h same added =
    record {
      keep_is = h.keep_is;
      layout_is = same ∙ h.layout_is;
      nodes_are =
          added
          ∙ (ap (λ (ns : List PastNode). ns ++ map past_node (past_with keep taken.kept)) h.nodes_are
          ∙ (ap (λ (k : Keep). map past_node (past_of p.keep rows) ++ map past_node (past_with k taken.kept)) h.keep_is
          ∙ (sym (map-append past_node (past_of p.keep rows) (past_with p.keep taken.kept)) ∙ sym (ap (map past_node) (past.grows p.keep rows (row_of taken))))));
    }

pub dropped_push : (rows : List LedgerRow) (w : LedgerRow) → all_dropped (rows ++ w ∷ []) ≡ all_dropped rows ++ w.dropped
dropped_push [] w = append-nil w.dropped
dropped_push (v ∷ rows) w = ap (λ (ns : List Node). v.dropped ++ ns) (dropped_push rows w) ∙ sym (append_assoc v.dropped (all_dropped rows) w.dropped)

-- ---- floors

module _ (minimize : Bool) (operator : JoinOp) where
  abbrev word : ℤ → ℤ
  word a = order_word minimize operator (Some a)

  abbrev Above : List Node → ℤ → Type 0
  Above ns floor = (n : Node) → Has ns n → (f : ℤ) × (n.floor ≡ Some f) × (word floor ≤ℤ word f)

  less : (a b c : ℤ) → int_lt a b ≡ true → b ≤ℤ c → a ≤ℤ c
  less a b c h k = grind (arith, ints)

  not_less : (a b c : ℤ) → int_lt b a ≡ false → b ≤ℤ c → a ≤ℤ c
  not_less a b c h k = grind (arith, ints)

  both_above : (xs ys : List Node) (floor : ℤ) → Above xs floor → Above ys floor → Above (xs ++ ys) floor
  both_above xs ys floor h k n there = elim (has_cases xs ys n there) [ inl a ↦ h n a | inr b ↦ k n b ]

  lower : (ns : List Node) (a b : ℤ) → ((c : ℤ) → word b ≤ℤ c → word a ≤ℤ c) → Above ns b → Above ns a
  lower ns a b le h n there = let x = h n there in (x.0, x.1, le (word x.0) x.2)

  by_test : (xs ys : List Node) (a b : ℤ) (t : Bool) → int_lt (word b) (word a) ≡ t → IsLeastFloor minimize operator xs (Some a) → IsLeastFloor minimize operator ys (Some b) → IsLeastFloor minimize operator (xs ++ ys) (if t then Some b else Some a)
  by_test xs ys a b true e h k = ((k.0.0, has_right xs ys k.0.0 k.0.1, k.0.2), both_above xs ys b (lower xs b a (λ c le. less (word b) (word a) c e le) h.1) k.1)
  by_test xs ys a b false e h k = ((h.0.0, has_left xs ys h.0.0 h.0.1, h.0.2), both_above xs ys a h.1 (lower ys a b (λ c le. not_less (word a) (word b) c e le) k.1))

  none_left : (xs ys : List Node) (x : Node) → IsLeastFloor minimize operator (x ∷ xs) None → IsLeastFloor minimize operator ((x ∷ xs) ++ ys) None
  none_left xs ys x (inl e) = absurd (let clash : x ∷ xs ≡ [] = e in cc)
  none_left xs ys x (inr h) = inr (h.0, has_left (x ∷ xs) ys h.0 h.1, h.2)

  none_right : (xs ys : List Node) (y : Node) → IsLeastFloor minimize operator (y ∷ ys) None → IsLeastFloor minimize operator (xs ++ y ∷ ys) None
  none_right xs ys y (inl e) = absurd (let clash : y ∷ ys ≡ [] = e in cc)
  none_right xs ys y (inr h) = inr (h.0, has_right xs (y ∷ ys) h.0 h.1, h.2)

  both : (xs ys : List Node) (x y : Node) (a b : Option ℤ) → IsLeastFloor minimize operator (x ∷ xs) a → IsLeastFloor minimize operator (y ∷ ys) b → IsLeastFloor minimize operator ((x ∷ xs) ++ y ∷ ys) (better_floor minimize operator a b)
  both xs ys x y None b h k = none_left xs (y ∷ ys) x h
  both xs ys x y (Some a) None h k = none_right (x ∷ xs) ys y k
  both xs ys x y (Some a) (Some b) h k = by_test (x ∷ xs) (y ∷ ys) a b (int_lt (word b) (word a)) refl h k

  -- the best floor of two lists
  pub merged_floor : (xs ys : List Node) (a b : Option ℤ) → IsLeastFloor minimize operator xs a → IsLeastFloor minimize operator ys b → IsLeastFloor minimize operator (xs ++ ys) (floor_of minimize operator (length xs) (length ys) a b)
  merged_floor [] ys a b h k = k
  merged_floor (x ∷ xs) [] a b h k = subst (λ (ns : List Node). IsLeastFloor minimize operator ns a) (sym (append-nil (x ∷ xs))) h
  merged_floor (x ∷ xs) (y ∷ ys) a b h k = both xs ys x y a b h k

-- ---- letters

pub unfinished_from : (p : ℕ × ℕ) (xs : List Letter) → p.0 ≤ (unfinished p xs).0
unfinished_from p [] = omega arith
unfinished_from p (State f l n ∷ xs) = unfinished_from (p.0, p.1 + 1) xs
unfinished_from p (Mark f l y t ∷ xs) = let a = unfinished_from (p.0 + 1, 0) xs in omega (arith, a)

none_in : (l : ℕ) (posted : List (List Letter)) → ((j : ℕ) → states_at l (of posted j) ≡ 0) → all_states_at l posted ≡ 0
none_in l [] h = refl
none_in l (xs ∷ posted) h = let a = none_in l posted (λ j. h (suc j)) in let b = sum_by-cons (states_at l) xs posted in let c = h 0 in omega (arith, a, b, c)

pub states_are : (xs : List Letter) (l k : ℕ) → InGroups 1 0 xs → unfinished (1, 0) xs ≡ (l, k) → states_at l xs ≡ k
states_are xs l k groups e = subst (λ (q : ℕ × ℕ). states_at q.0 xs ≡ q.1) e (states xs groups)

module _ {A B : Type 0} where
  -- the mark of the layer was posted to each shard
  pub told_to : (p : Pass) (s : Shard A B) (r : ShardRecord) → Stands p s r → IsReady p s.me r → (j : ℕ) → j < p.shards → unfinished (1, 0) (of r.posted j) ≡ (s.layer + 1, 0)
  told_to p s r st ready j lt =
      elim (cases_lt j s.told) [
        | inl below ↦ st.outbox.told_are j below
        | inr ge ↦ absurd (open_not (s.layer) refl (st.outbox.open_are j ge lt))
      ]
    where
      open_not : (l : ℕ) → l ≡ s.layer → (unfinished (1, 0) (of r.posted j)).0 ≡ s.layer → ⊥
      open_not zero e open_is = let a = unfinished_from (1, 0) (of r.posted j) in omega (arith, a, e, open_is)
      open_not (suc l) e open_is =
          let m = ready.told l j (let z = st.layer in omega (arith, z, e)) lt in
          let past = (marks (of r.posted j) (st.ends.1.own.sends.lawful j).groups).1 s.me (l + 1) m.0 m.1 m.2 in
          omega (arith, past, e, open_is)

  pub closed : (p : Pass) (s : Shard A B) (r : ShardRecord) → IsReady p s.me r → Stands p s r → (taken : Taken) → Splits p s.share s.past.nodes (nodes_at s.collected.items 0) taken → (past' : Past) → past'.layout ≡ s.past.layout → past'.nodes ≡ s.past.nodes ++ map past_node (past_with s.keep taken.kept) → (collected' : Vec (Layer B) Global) → AreOf s.layout collected'.items
      → ((d : ℕ) → nodes_at collected'.items d ≡ nodes_at s.collected.items (d + 1)) → ((d : ℕ) → busy_at collected'.items d ≡ busy_at s.collected.items (d + 1))
      → (waiting' : VecDeque Node Global) → waiting'.items ≡ taken.kept → (sent' : Vec ℕ Global) → ((j : ℕ) → get_or sent'.items j 0 ≡ 0) → length sent'.items ≡ length s.sent.items
      → (dropped' : ℕ) → dropped' ≡ s.dropped + length taken.dropped → (floor' : Option ℤ) → floor' ≡ floor_of p.model.minimize p.model.join s.dropped (length taken.dropped) s.least_floor taken.least_floor
      → CanClose p r (row_of taken) × Stands p (record s { layer = s.layer + 1; collected = collected'; past = past'; waiting = waiting'; told = 0; sent = sent'; total = 0; dropped = dropped'; least_floor = floor' }) (close r (row_of taken))
  closed p s r ready st taken splits past' past_layout past_nodes collected' are nodes busy waiting' wis sent' zeros same dropped' dis floor' fis = (
    can,
    record {
      belongs = st.belongs;
      ends = (
        st.ends.0,
        record {
          own = own_close p s.me r st.ends.1.own (row_of taken) can;
          log_is = st.ends.1.log_is;
          visited_is = st.ends.1.visited_is;
          held_is = st.ends.1.held_is;
          fault_is = st.ends.1.fault_is;
          dropped_is = dis ∙ (ap (λ (n : ℕ). n + length taken.dropped) st.ends.1.dropped_is ∙ sym (ap length (dropped_push r.rows (row_of taken)) ∙ length-append (all_dropped r.rows) taken.dropped));
          floor_is = subst (λ (f : Option ℤ). IsLeastFloor p.model.minimize p.model.join (all_dropped (r.rows ++ row_of taken ∷ [])) f) (sym fis)
              (subst (λ (ns : List Node). IsLeastFloor p.model.minimize p.model.join ns (floor_of p.model.minimize p.model.join s.dropped (length taken.dropped) s.least_floor taken.least_floor)) (sym (dropped_push r.rows (row_of taken)))
              (subst (λ (n : ℕ). IsLeastFloor p.model.minimize p.model.join (all_dropped r.rows ++ taken.dropped) (floor_of p.model.minimize p.model.join n (length taken.dropped) s.least_floor taken.least_floor)) (sym st.ends.1.dropped_is)
              (merged_floor p.model.minimize p.model.join (all_dropped r.rows) taken.dropped s.least_floor taken.least_floor st.ends.1.floor_is splits.floor)));
        },
      );
      fine = st.fine;
      start = st.start;
      layer = ap (λ (k : ℕ). k + 1) st.layer ∙ sym (length_push r.rows (row_of taken));
      begun = λ e. absurd (omega (arith, e));
      waiting = wis;
      letters = st.letters;
      intake = st.intake;
      collects = record {
        layouts = are;
        only = λ d n h. subst (λ (l : ℕ). Received p r.start r.received l n) (up d) (st.collects.only (d + 1) n (subst (λ (ns : List Node). Has ns n) (nodes d) h));
        all = λ d n h. subst (λ (ns : List Node). store.IsCovered p.model p.prune ns n) (sym (nodes d)) (st.collects.all (d + 1) n (subst (λ (l : ℕ). Received p r.start r.received l n) (sym (up d)) h));
        busy = λ d e. (let h = st.collects.busy (d + 1) (sym (busy d) ∙ e) in (h.0, h.1, h.2, h.3, h.4, subst (λ (l : ℕ). Has (of r.received h.0) (Mark h.1 l h.2 h.3)) (up d) h.5, h.6));
        calm = λ d j f y t h pos. busy d ∙ st.collects.calm (d + 1) j f y t (subst (λ (l : ℕ). Has (of r.received j) (Mark f l y t)) (sym (up d)) h) pos;
      };
      past = remembers_more p s.keep s.layout s.past past' r.rows taken st.past past_layout past_nodes;
      outbox = record {
        few = omega arith;
        long = same ∙ st.outbox.long;
        told_are = λ j lt. absurd (omega (arith, lt));
        open_are = λ j _ lt. ap (λ (q : ℕ × ℕ). q.0) (told_to p s r st ready j lt);
        sent_are = λ j lt. zeros j ∙ sym (none j);
        total_is = (let a = none_in (s.layer + 1) r.posted none in let b = ap length empty in omega (arith, a, b));
        total_fits = omega arith;
        held_back = λ lt. absurd (omega (arith, lt));
      };
    },
  )
    where
      up : (d : ℕ) → s.layer + (d + 1) ≡ s.layer + 1 + d
      up d = omega arith

      empty : s.letters.items ≡ []
      empty = no_letters s.layout s.shards s.letters.items (st.letters ∙ ready.sent)

      none : (j : ℕ) → states_at (s.layer + 1) (of r.posted j) ≡ 0
      none j = elim (cases_lt j p.shards) [
        | inl lt ↦ states_are (of r.posted j) (s.layer + 1) 0 (st.ends.1.own.sends.lawful j).groups (told_to p s r st ready j lt)
        | inr ge ↦ ap (states_at (s.layer + 1)) (get_or_past r.posted j [] (subst (λ (k : ℕ). k ≤ j) (sym st.ends.1.own.sizes.1) ge))
      ]

      at_layer : s.layer + 0 ≡ length r.rows
      at_layer = let z = st.layer in omega (arith, z)

      is_received : (n : Node) → Has (taken.kept ++ taken.dropped) n → Received p r.start r.received (length r.rows) n
      is_received n h = subst (λ (l : ℕ). Received p r.start r.received l n) at_layer (st.collects.only 0 n (splits.from n h))

      can : CanClose p r (row_of taken)
      can = record {
        fine = st.fine;
        idle = ready.idle;
        sent = ready.sent;
        marked = ready.marked;
        is_row = record {
          kept = λ n h. is_received n (has_left taken.kept taken.dropped n h);
          dropped = λ n h. is_received n (has_right taken.kept taken.dropped n h);
          apart = apart_in p (taken.kept ++ taken.dropped) splits.apart;
          few = subst (λ (k : ℕ). length taken.kept ≤ k) st.belongs.share_is splits.few;
          full = λ n h. splits.full n h ∙ st.belongs.share_is;
        };
        is_new = new_beside p r.rows s.past.nodes st.past.nodes_are taken splits.news;
        covered = λ n h. covered_beside p r.rows s.past.nodes st.past.nodes_are taken n (splits.covered n (st.collects.all 0 n (subst (λ (l : ℕ). Received p r.start r.received l n) (sym at_layer) h)));
      }

  pub closes : (p : Pass) (s : Shard A B) (r : ShardRecord) → IsReady p s.me r → Stands p s r → (taken : Taken) → Splits p s.share s.past.nodes (nodes_at s.collected.items 0) taken → (past' : Past) → past'.layout ≡ s.past.layout → past'.nodes ≡ s.past.nodes ++ map past_node (past_with s.keep taken.kept) → (collected' : Vec (Layer B) Global) → AreOf s.layout collected'.items
      → ((d : ℕ) → nodes_at collected'.items d ≡ nodes_at s.collected.items (d + 1)) → ((d : ℕ) → busy_at collected'.items d ≡ busy_at s.collected.items (d + 1))
      → (waiting' : VecDeque Node Global) → waiting'.items ≡ taken.kept → (sent' : Vec ℕ Global) → ((j : ℕ) → get_or sent'.items j 0 ≡ 0) → length sent'.items ≡ length s.sent.items → (layer' : ℕ) → layer' ≡ s.layer + 1
      → (out : Closed) → out.kept ≡ length taken.kept → out.dropped ≡ length taken.dropped → out.least_floor ≡ taken.least_floor → (dropped' : ℕ) → dropped' ≡ s.dropped + out.dropped
      → (minimize : Bool) (operator : JoinOp) → IsLawOf p.model minimize operator → (floor' : Option ℤ) → floor' ≡ floor_of minimize operator s.dropped out.dropped s.least_floor out.least_floor
      → IsClosed p r out (record s { layer = layer'; collected = collected'; past = past'; waiting = waiting'; told = 0; sent = sent'; total = 0; dropped = dropped'; least_floor = floor' })
  closes p s r ready st taken splits past' past_layout past_nodes collected' are nodes busy waiting' wis sent' zeros same layer' layer_is out kept_is dropped_is least_is dropped' dis minimize operator law floor' fis =
      record {
        row = row_of taken;
        can = all.0;
        kept = kept_is;
        dropped = dropped_is;
        floor = subst (λ (f : Option ℤ). IsLeastFloor p.model.minimize p.model.join taken.dropped f) (sym least_is) splits.floor;
        stands = subst (λ (l : ℕ). Stands p (record s { layer = l; collected = collected'; past = past'; waiting = waiting'; told = 0; sent = sent'; total = 0; dropped = dropped'; least_floor = floor' }) (close r (row_of taken))) (sym layer_is) all.1;
      }
    where
      floor_is : floor' ≡ floor_of p.model.minimize p.model.join s.dropped (length taken.dropped) s.least_floor taken.least_floor
      floor_is = by_law p.model minimize operator (λ b o. floor' ≡ floor_of b o s.dropped (length taken.dropped) s.least_floor taken.least_floor) law
          (fis ∙ (ap (λ (n : ℕ). floor_of minimize operator s.dropped n s.least_floor out.least_floor) dropped_is ∙ ap (λ (f : Option ℤ). floor_of minimize operator s.dropped (length taken.dropped) s.least_floor f) least_is))

      all : CanClose p r (row_of taken) × Stands p (record s { layer = s.layer + 1; collected = collected'; past = past'; waiting = waiting'; told = 0; sent = sent'; total = 0; dropped = dropped'; least_floor = floor' }) (close r (row_of taken))
      all = closed p s r ready st taken splits past' past_layout past_nodes collected' are nodes busy waiting' wis sent' zeros same dropped' (dis ∙ ap (λ (n : ℕ). s.dropped + n) dropped_is) floor' floor_is

  -- the expander is as it was
  pub same_expander : (p : Pass) (r : ShardRecord) (out : Closed) (s : Shard A B) (x : Search) → x ≡ s.expander → IsClosed p r out s → IsClosed p r out (record s { expander = x })
  same_expander p r out s x e h = subst (λ (y : Search). IsClosed p r out (record s { expander = y })) (sym e) h
