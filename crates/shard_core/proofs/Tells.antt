-- What a shard tells of its record: whether it is ready, whether it is done, and what its first waiting node is.
use Rattle.std.proofs.Common.{◌≡◌, ℕ, ◌+◌, ◌-◌, ◌≤◌, ◌<◌, inl, inr, zero, suc, Bool, true, false, not, List, [], ◌∷◌, length, get_or, drop, Option, Some, None, refl, sym, subst, ◌∙◌, ap, arith}
use Rattle.std.specs.Prelude.{IsTrue, ◌↔◌}
use Rattle.std.proofs.lemmas.Bool.{cases_lt, not-true, not_from_false}
use Rattle.std.specs.declared.alloc.Global.{Global}
use Rattle.std.specs.declared.collections.VecDeque.{VecDeque}
use Rattle.dp_claims.specs.Enough.{Has}
use Rattle.dp_steps.specs.States.{Inner}
use Rattle.state_layout.specs.Conditions.{IsNodeOf}
use Rattle.state_layout.specs.declared.node.Node.{Node}
use Rattle.pass_ledger.specs.Events.{CanPrune}
use Rattle.pass_ledger.specs.Groups.{unfinished}
use Rattle.pass_ledger.specs.Letters.{of, InGroups, layer_of}
use Rattle.pass_ledger.specs.Passes.{Pass, Prunes}
use Rattle.pass_ledger.specs.Records.{Done, Starts}
use Rattle.pass_ledger.specs.Rows.{Received}
use Rattle.pass_ledger.specs.declared.mail.Letter.{Letter}
use Rattle.pass_ledger.specs.declared.mail.Letter.TheVariants.{State, Mark}
use Rattle.pass_ledger.specs.declared.records.ShardRecord.{ShardRecord}
use Rattle.pass_ledger.proofs.Lists.{has_none, has_head}
use Rattle.pass_ledger.proofs.Groups.{marks}
use Rattle.pass_ledger.proofs.Steps.{own_prune}
use Rattle.shard_core.specs.Calls.{IsReady, IsPruning}
use Rattle.shard_core.specs.Layers.{busy_at}
use Rattle.shard_core.specs.Outgoing.{letters_of}
use Rattle.shard_core.specs.Stands.{Stands}
use Rattle.shard_core.specs.declared.layers.Layer.{Layer}
use Rattle.shard_core.specs.declared.shard.Shard.{Shard}
use Rattle.shard_core.proofs.Closes.{unfinished_from, told_to}
use Rattle.shard_core.proofs.Posts.{mark_posted}
use Rattle.shard_core.proofs.Sends.{no_letters}

-- ---- lists

pub first_of : {A : Type 0} (xs : List A) (x : A) → 0 < length xs → x ≡ get_or xs 0 x → xs ≡ x ∷ drop 1 xs
first_of [] x some is = absurd (omega (arith, some))
first_of (y ∷ xs) x some is = ap (λ (z : _). z ∷ xs) (sym is)

pub empty_of : {A : Type 0} (xs : List A) → length xs ≡ 0 → xs ≡ []
empty_of [] none = refl
empty_of (x ∷ xs) none = absurd (omega (arith, none))

pub is_never : (P : Type 0) → (P → ⊥) → IsTrue false ↔ P
is_never P none = (λ e. absurd (let clash : false ≡ true = e in cc), λ h. absurd (none h))

-- ---- a list has one mark of a layer

above_all : (a n : ℕ) (xs : List Letter) (x : Letter) → InGroups a n xs → Has xs x → a ≤ layer_of x
above_all a n [] x h there = absurd (has_none x there)
above_all a n (State f l m ∷ xs) x h there =
    elim (has_head (State f l m) xs x there) [
      | inl e ↦ (let same = ap layer_of e in let at = h.0 in omega (arith, same, at))
      | inr more ↦ above_all a (n + 1) xs x h.1 more
    ]
above_all a n (Mark f l y t ∷ xs) x h there =
    elim (has_head (Mark f l y t) xs x there) [
      | inl e ↦ (let same = ap layer_of e in let at = h.0 in omega (arith, same, at))
      | inr more ↦ (let up = above_all (a + 1) 0 xs x h.2 more in omega (arith, up))
    ]

total_same : {a b c d a' b' c' d' : ℕ} → Mark a b c d ≡ Mark a' b' c' d' → d ≡ d'
total_same e = cc

one_total : (a n : ℕ) (xs : List Letter) → InGroups a n xs → (f m y t g z u : ℕ) → Has xs (Mark f m y t) → Has xs (Mark g m z u) → t ≡ u
one_total a n [] h f m y t g z u one two = absurd (has_none (Mark f m y t) one)
one_total a n (State f' l node ∷ xs) h f m y t g z u one two =
    elim (has_head (State f' l node) xs (Mark f m y t) one) [
      | inl e ↦ absurd (let clash : State f' l node ≡ Mark f m y t = e in cc)
      | inr one' ↦ elim (has_head (State f' l node) xs (Mark g m z u) two) [
        | inl e ↦ absurd (let clash : State f' l node ≡ Mark g m z u = e in cc)
        | inr two' ↦ one_total a (n + 1) xs h.1 f m y t g z u one' two'
      ]
    ]
one_total a n (Mark f' l y' t' ∷ xs) h f m y t g z u one two =
    elim (has_head (Mark f' l y' t') xs (Mark f m y t) one) [
      | inl e ↦ elim (has_head (Mark f' l y' t') xs (Mark g m z u) two) [
        | inl e' ↦ sym (total_same e) ∙ total_same e'
        | inr two' ↦ absurd (let at = h.0 in let same = ap layer_of e in let up = above_all (a + 1) 0 xs (Mark g m z u) h.2 two' in omega (arith, at, same, up))
      ]
      | inr one' ↦ elim (has_head (Mark f' l y' t') xs (Mark g m z u) two) [
        | inl e' ↦ absurd (let at = h.0 in let same = ap layer_of e' in let up = above_all (a + 1) 0 xs (Mark f m y t) h.2 one' in omega (arith, at, same, up))
        | inr two' ↦ one_total (a + 1) 0 xs h.2 f m y t g z u one' two'
      ]
    ]

starts_inner : (p : Pass) (i : ℕ) (start : Option Node) → Inner p.model p.model.target → Starts p i start → (n : Node) → start ≡ Some n → Inner p.model n.state
starts_inner p i None inner h n e = absurd (let no : None ≡ Some n = e in cc)
starts_inner p i (Some m) inner h n e = subst (λ (k : Node). Inner p.model k.state) (some_is e) (subst (λ z. Inner p.model z) (sym h.0.state) inner)
  where
    some_is : {a b : Node} → Some a ≡ Some b → a ≡ b
    some_is e = cc

module _ {A B : Type 0} where
  -- ---- ready

  pub is_ready : (p : Pass) (s : Shard A B) (r : ShardRecord) → Stands p s r → s.waiting.items ≡ [] → s.letters.items ≡ [] → s.told ≡ p.shards → ((j : ℕ) → j < length s.open_layers.items → s.layer < get_or s.open_layers.items j 1) → IsReady p s.me r
  is_ready p s r st idle empty told past =
      record {
        idle = sym st.waiting ∙ idle;
        sent = sym st.letters ∙ ap (letters_of s.layout s.shards) empty;
        told = λ l j at lt. subst (λ (k : ℕ). (to_you : ℕ) × (total : ℕ) × Has (of r.posted j) (Mark s.me k to_you total)) (st.layer ∙ sym at) (mark_posted p s r st (let z = st.layer in omega (arith, z, at)) j (omega (arith, told, lt)));
        marked = λ l j at lt.
            let up : s.layer < (unfinished (1, 0) (of r.received j)).0 = subst (λ (k : ℕ). s.layer < k) (st.intake.open_are j lt) (past j (let z = st.intake.long in omega (arith, z, lt))) in
            let m = (marks (of r.received j) (st.ends.1.own.received j).groups).0 (l + 1) (omega arith) (let z = st.layer in omega (arith, z, at, up)) in
            let name : m.0 ≡ j = st.ends.1.own.senders j (Mark m.0 (l + 1) m.1 m.2) m.3 in
            (m.1, m.2, subst (λ (f : ℕ). Has (of r.received j) (Mark f (l + 1) m.1 m.2)) name m.3);
      }

  told_all : (p : Pass) (s : Shard A B) (r : ShardRecord) → Stands p s r → IsReady p s.me r → s.told ≡ p.shards
  told_all p s r st ready =
      elim (cases_lt s.told p.shards) [
        | inl lt ↦ absurd (let e = ap (λ (q : ℕ × ℕ). q.0) (told_to p s r st ready s.told lt) in let o = st.outbox.open_are s.told (omega arith) lt in omega (arith, e, o))
        | inr ge ↦ (let f = st.outbox.few in omega (arith, ge, f))
      ]

  past_all : (p : Pass) (s : Shard A B) (r : ShardRecord) → Stands p s r → IsReady p s.me r → (j : ℕ) → j < length s.open_layers.items → s.layer < get_or s.open_layers.items j 1
  past_all p s r st ready j lt = subst (λ (k : ℕ). s.layer < k) (sym (st.intake.open_are j jt)) (by s.layer refl)
    where
      jt : j < p.shards
      jt = let z = st.intake.long in omega (arith, z, lt)

      by : (l : ℕ) → l ≡ s.layer → s.layer < (unfinished (1, 0) (of r.received j)).0
      by zero e = let a = unfinished_from (1, 0) (of r.received j) in omega (arith, a, e)
      by (suc l) e =
          let m = ready.marked l j (let z = st.layer in omega (arith, z, e)) jt in
          let past = (marks (of r.received j) (st.ends.1.own.received j).groups).1 j (l + 1) m.0 m.1 m.2 in
          omega (arith, past, e)

  -- so the shard is ready only where it finds itself so
  pub finds_ready : (p : Pass) (s : Shard A B) (r : ShardRecord) → Stands p s r → IsReady p s.me r
      → (s.waiting.items ≡ []) × (s.letters.items ≡ []) × (s.told ≡ p.shards) × ((j : ℕ) → j < length s.open_layers.items → s.layer < get_or s.open_layers.items j 1)
  finds_ready p s r st ready = (st.waiting ∙ ready.idle, no_letters s.layout s.shards s.letters.items (st.letters ∙ ready.sent), told_all p s r st ready, past_all p s r st ready)

  -- ---- done

  pub is_done : (p : Pass) (s : Shard A B) (r : ShardRecord) → Stands p s r → IsReady p s.me r → 0 < s.layer → busy_at s.collected.items 0 ≡ false → Done p s.me r
  is_done p s r st ready pos calm =
      record {
        begun = let z = st.layer in omega (arith, z, pos);
        sent = ready.sent;
        posted = λ j lt. subst (λ (l : ℕ). (to_you : ℕ) × (total : ℕ) × Has (of r.posted j) (Mark s.me l to_you total)) before (ready.told (length r.rows - 1) j before lt);
        ended = λ j lt. subst (λ (l : ℕ). (to_you : ℕ) × Has (of r.received j) (Mark j l to_you 0)) before (none j (ready.marked (length r.rows - 1) j before lt));
      }
    where
      before : length r.rows - 1 + 1 ≡ length r.rows
      before = let z = st.layer in omega (arith, z, pos)

      none : (j : ℕ) → (to_you : ℕ) × (total : ℕ) × Has (of r.received j) (Mark j (length r.rows - 1 + 1) to_you total) → (to_you : ℕ) × Has (of r.received j) (Mark j (length r.rows - 1 + 1) to_you 0)
      none j (y, t, there) =
          elim (cases_lt 0 t) [
            | inl some ↦ absurd (let e = st.collects.calm 0 j j y t (subst (λ (l : ℕ). Has (of r.received j) (Mark j l y t)) (let z = st.layer in omega (arith, z, before)) there) some in let no : true ≡ false = sym e ∙ calm in cc)
            | inr low ↦ (y, subst (λ (k : ℕ). Has (of r.received j) (Mark j (length r.rows - 1 + 1) y k)) (let z : t ≡ 0 = omega (arith, low) in z) there)
          ]

  -- it is done only where it finds itself so
  pub finds_done : (p : Pass) (s : Shard A B) (r : ShardRecord) → Stands p s r → Done p s.me r → IsReady p s.me r × (0 < s.layer) × (busy_at s.collected.items 0 ≡ false)
  finds_done p s r st done = (
    record {
      idle = (st.ends.1.own.marks.visited s.me s.me (length r.rows) mine.0 mine.1 mine.2 refl).0;
      sent = done.sent;
      told = λ l j at lt. subst (λ (k : ℕ). (to_you : ℕ) × (total : ℕ) × Has (of r.posted j) (Mark s.me k to_you total)) (sym at) (done.posted j lt);
      marked = λ l j at lt. (let m = done.ended j lt in (m.0, 0, subst (λ (k : ℕ). Has (of r.received j) (Mark j k m.0 0)) (sym at) m.1));
    },
    (let z = st.layer in let b = done.begun in omega (arith, z, b)),
    calm (busy_at s.collected.items 0) refl,
  )
    where
      mine : (to_you : ℕ) × (total : ℕ) × Has (of r.posted s.me) (Mark s.me (length r.rows) to_you total)
      mine = done.posted s.me st.belongs.below

      calm : (b : Bool) → busy_at s.collected.items 0 ≡ b → busy_at s.collected.items 0 ≡ false
      calm false e = e
      calm true e =
          let h = st.collects.busy 0 e in
          let m = done.ended h.0 h.4 in
          let there = subst (λ (l : ℕ). Has (of r.received h.0) (Mark h.1 l h.2 h.3)) (let z = st.layer in let at : s.layer + 0 ≡ length r.rows = omega (arith, z) in at) h.5 in
          let none = one_total 1 0 (of r.received h.0) (st.ends.1.own.received h.0).groups h.1 (length r.rows) h.2 h.3 h.0 m.0 0 there m.1 in
          absurd (let pos = h.6 in omega (arith, none, pos))

  -- what its calls answer

  pub by_past : (p : Pass) (s : Shard A B) (r : ShardRecord) → Stands p s r → s.waiting.items ≡ [] → s.letters.items ≡ [] → s.told ≡ p.shards → (b : Bool) (layers : List ℕ) → layers ≡ s.open_layers.items
      → (IsTrue b ↔ ((j : ℕ) → j < length layers → s.layer < get_or layers j 1)) → IsTrue b ↔ IsReady p s.me r
  by_past p s r st idle empty told b layers e h = (
    λ t. is_ready p s r st idle empty told (subst (λ (xs : List ℕ). (j : ℕ) → j < length xs → s.layer < get_or xs j 1) e (h.0 t)),
    λ ready. h.1 (subst (λ (xs : List ℕ). (j : ℕ) → j < length xs → s.layer < get_or xs j 1) (sym e) (past_all p s r st ready)),
  )

  pub never_past : (p : Pass) (s : Shard A B) (r : ShardRecord) → Stands p s r → (layers : List ℕ) → layers ≡ s.open_layers.items → (IsTrue false ↔ ((j : ℕ) → j < length layers → s.layer < get_or layers j 1)) → IsTrue false ↔ IsReady p s.me r
  never_past p s r st layers e h = is_never (IsReady p s.me r) (λ ready. (let no : false ≡ true = h.1 (subst (λ (xs : List ℕ). (j : ℕ) → j < length xs → s.layer < get_or xs j 1) (sym e) (past_all p s r st ready)) in cc))

  pub by_calm : (p : Pass) (s : Shard A B) (r : ShardRecord) → Stands p s r → IsReady p s.me r → 0 < s.layer → (b : Bool) (layers : List (Layer B)) → layers ≡ s.collected.items → b ≡ busy_at layers 0 → IsTrue (not b) ↔ Done p s.me r
  by_calm p s r st ready pos b layers e is = (
    λ t. is_done p s r st ready pos (sym at ∙ not-true b t),
    λ done. not_from_false b (at ∙ (finds_done p s r st done).2),
  )
    where
      at : b ≡ busy_at s.collected.items 0
      at = is ∙ ap (λ (xs : List (Layer B)). busy_at xs 0) e

  -- ---- the first waiting node

  pub received_good : (p : Pass) (s : Shard A B) (r : ShardRecord) → Stands p s r → (l : ℕ) (n : Node) → Received p r.start r.received l n → IsNodeOf p.model n × Inner p.model n.state
  received_good p s r st zero n h = (st.start n h, starts_inner p s.me r.start st.belongs.inner st.ends.1.own.start n h)
  received_good p s r st (suc l) n h = let o = (st.ends.1.own.received h.0).nodes h.0 (l + 1) n h.2 in (o.is_node, o.inner)

  pub layer_above : (p : Pass) (s : Shard A B) (r : ShardRecord) → Stands p s r → (n : Node) (rest : List Node) → r.waiting ≡ n ∷ rest → 0 < s.layer
  layer_above p s r st n rest head =
      elim (cases_lt 0 s.layer) [
        | inl pos ↦ pos
        | inr low ↦ absurd (let e : n ∷ rest ≡ [] = sym head ∙ st.begun (omega (arith, low)) in cc)
      ]

  -- it is a node of the model, in an inner state
  pub head_good : (p : Pass) (s : Shard A B) (r : ShardRecord) → Stands p s r → (n : Node) (rest : List Node) → r.waiting ≡ n ∷ rest → IsNodeOf p.model n × Inner p.model n.state
  head_good p s r st n rest head =
      let pos = layer_above p s r st n rest head in
      let z = st.layer in
      let kept = st.ends.1.own.turns.kept (length r.rows - 1) n (omega (arith, pos, z)) (subst (λ (ns : List Node). Has ns n) (sym head) (0, refl)) in
      received_good p s r st (length r.rows - 1) n ((st.ends.1.own.rows (length r.rows - 1)).kept n kept)

  pub pruned_head : (p : Pass) (s : Shard A B) (r : ShardRecord) → Stands p s r → (n : Node) (rest : List Node) → s.waiting.items ≡ n ∷ rest → (best : ℕ) → Prunes p best n → (waiting' : VecDeque Node Global) → waiting'.items ≡ rest
      → IsPruning p best r (record s { waiting = waiting' })
  pruned_head p s r st n rest head best prunes waiting' wis =
      record {
        node = n;
        rest = rest;
        can = can;
        stands = record {
          belongs = st.belongs;
          ends = (
            st.ends.0,
            record {
              own = own_prune p s.me r st.ends.1.own n rest best can;
              log_is = st.ends.1.log_is;
              visited_is = st.ends.1.visited_is;
              held_is = st.ends.1.held_is;
              fault_is = st.ends.1.fault_is;
              dropped_is = st.ends.1.dropped_is;
              floor_is = st.ends.1.floor_is;
            },
          );
          fine = st.fine;
          start = st.start;
          layer = st.layer;
          begun = λ e. absurd (let pos = layer_above p s r st n rest first in omega (arith, pos, e));
          waiting = wis;
          letters = st.letters;
          intake = st.intake;
          collects = st.collects;
          past = st.past;
          outbox = record {
            few = st.outbox.few;
            long = st.outbox.long;
            told_are = st.outbox.told_are;
            open_are = st.outbox.open_are;
            sent_are = st.outbox.sent_are;
            total_is = st.outbox.total_is;
            total_fits = st.outbox.total_fits;
            held_back = λ pos. absurd (let e : n ∷ rest ≡ [] = sym head ∙ (st.outbox.held_back pos).1 in cc);
          };
        };
      }
    where
      first : r.waiting ≡ n ∷ rest
      first = sym st.waiting ∙ head

      can : CanPrune p r n rest best
      can = record { fine = st.fine; first = first; prunes = prunes }
