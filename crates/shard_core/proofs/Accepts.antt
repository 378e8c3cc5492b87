-- A shard that takes a letter stands for the record that took it.
use Rattle.std.proofs.Common.{◌≡◌, ℕ, ◌+◌, ◌-◌, ◌≤◌, ◌<◌, inl, inr, true, [], ◌∷◌, ◌++◌, length, slice_set, sym, subst, arith}
use Rattle.std.proofs.lemmas.Bool.{cases_lt}
use Rattle.std.specs.declared.alloc.Global.{Global}
use Rattle.std.specs.declared.vec.Vec.{Vec}
use Rattle.dp_claims.specs.Enough.{Has}
use Rattle.state_layout.specs.Conditions.{IsNodeFor}
use Rattle.state_layout.specs.declared.node.Node.{Node}
use Rattle.pass_ledger.specs.Events.{append_at, take, CanTake}
use Rattle.pass_ledger.specs.Groups.{unfinished, Suits}
use Rattle.pass_ledger.specs.Letters.{of, sender, layer_of}
use Rattle.pass_ledger.specs.Passes.{Pass}
use Rattle.pass_ledger.specs.declared.mail.Letter.{Letter}
use Rattle.pass_ledger.specs.declared.mail.Letter.TheVariants.{State, Mark}
use Rattle.pass_ledger.specs.declared.records.ShardRecord.{ShardRecord}
use Rattle.successors.specs.Searches.{Search}
use Rattle.pass_ledger.proofs.Lists.{has_last}
use Rattle.pass_ledger.proofs.Letters.{from_one}
use Rattle.pass_ledger.proofs.Groups.{next, marks}
use Rattle.pass_ledger.proofs.Steps.{own_take}
use Rattle.shard_core.specs.Layers.{nodes_at, busy_at, AreOf, Merges}
use Rattle.shard_core.specs.Stands.{Stands, Intake, Collects}
use Rattle.shard_core.specs.declared.layers.Layer.{Layer}
use Rattle.shard_core.specs.declared.shard.Shard.{Shard}
use Rattle.shard_core.proofs.Intakes.{intake_state, intake_mark, collects_state, collects_mark, collects_same}

suits_layer : (group : ℕ × ℕ) (x : Letter) → Suits group x → layer_of x ≡ group.0
suits_layer group (State f l n) h = h
suits_layer group (Mark f l y t) h = h.0

suits : (p : Pass) (r : ShardRecord) (x : Letter) → CanTake p r x → layer_of x ≡ (unfinished (1, 0) (of r.received (sender x))).0
suits p r x can = suits_layer _ x ((next p.model (of r.received (sender x)) x).1 can.lawful).1

positive : (p : Pass) (r : ShardRecord) (x : Letter) → CanTake p r x → 1 ≤ layer_of x
positive p r x can = from_one (of r.received (sender x) ++ x ∷ []) x can.lawful.groups (has_last (of r.received (sender x)) x)

module _ {A B : Type 0} where
  -- the letter is of a layer that is not closed
  pub not_closed : (p : Pass) (s : Shard A B) (r : ShardRecord) → Stands p s r → (x : Letter) → CanTake p r x → s.layer ≤ layer_of x
  not_closed p s r st x can =
      elim (cases_lt 1 (length r.rows)) [
        | inl many ↦ (let m = st.ends.1.own.marked (length r.rows - 2) (sender x) (omega (arith, many)) can.from in
            let past = (marks (of r.received (sender x)) (st.ends.1.own.received (sender x)).groups).1 (sender x) (length r.rows - 2 + 1) m.0 m.1 m.2 in
            omega (arith, many, past, suits p r x can, st.layer))
        | inr few ↦ omega (arith, few, positive p r x can, st.layer)
      ]

  pub node_fits : (p : Pass) (s : Shard A B) (r : ShardRecord) → Stands p s r → (x : Letter) → CanTake p r x → (f l : ℕ) (n : Node) → x ≡ State f l n → IsNodeFor s.layout n
  node_fits p s r st x can f l n is =
      (p.model, st.belongs.layout_is, (can.lawful.nodes f l n (subst (λ (y : Letter). Has (of r.received (sender x) ++ x ∷ []) y) is (has_last (of r.received (sender x)) x))).is_node)

  pub sender_within : (p : Pass) (s : Shard A B) (r : ShardRecord) → Stands p s r → (x : Letter) → CanTake p r x → sender x < length s.open_layers.items
  sender_within p s r st x can = omega (arith, can.from, st.intake.long)

  -- where only the record's received letters change
  taken : (p : Pass) (s : Shard A B) (r : ShardRecord) → Stands p s r → (x : Letter) → CanTake p r x → (open' : Vec ℕ Global) (collected' : Vec (Layer B) Global)
      → Intake p.shards open'.items (append_at r.received (sender x) x) → Collects p s.layer s.layout collected'.items r.start (append_at r.received (sender x) x)
      → Stands p (record s { open_layers = open'; collected = collected' }) (take r x)
  taken p s r st x can open' collected' ink col =
      record {
        belongs = st.belongs;
        ends = (
          st.ends.0,
          record {
            own = own_take p s.me r st.ends.1.own x can;
            log_is = st.ends.1.log_is;
            visited_is = st.ends.1.visited_is;
            held_is = st.ends.1.held_is;
            fault_is = st.ends.1.fault_is;
            dropped_is = st.ends.1.dropped_is;
            floor_is = st.ends.1.floor_is;
          },
        );
        fine = st.fine;
        start = st.start;
        layer = st.layer;
        begun = st.begun;
        waiting = st.waiting;
        letters = st.letters;
        intake = ink;
        collects = col;
        past = st.past;
        outbox = st.outbox;
      }

  pub state_of : (p : Pass) (s : Shard A B) (r : ShardRecord) → Stands p s r → (f l : ℕ) (n : Node) → CanTake p r (State f l n) → (collected' : Vec (Layer B) Global) → AreOf s.layout collected'.items
      → Merges p (nodes_at s.collected.items (l - s.layer)) n (nodes_at collected'.items (l - s.layer)) → ((d : ℕ) → (d ≡ l - s.layer → ⊥) → nodes_at collected'.items d ≡ nodes_at s.collected.items d)
      → ((d : ℕ) → busy_at collected'.items d ≡ busy_at s.collected.items d) → Stands p (record s { collected = collected' }) (take r (State f l n))
  state_of p s r st f l n can collected' are merges others busy =
      taken p s r st (State f l n) can s.open_layers collected'
      (intake_state p.shards s.open_layers.items r.received st.intake st.ends.1.own.sizes.0 f f l n can.from)
      (collects_state p s.layer s.layout s.collected.items r.start r.received st.collects st.ends.1.own.sizes.0 f l (l - s.layer) n (omega (arith, not_closed p s r st (State f l n) can)) (positive p r (State f l n) can) can.from collected'.items are merges others busy)

  pub mark_of : (p : Pass) (s : Shard A B) (r : ShardRecord) → Stands p s r → (f l y t : ℕ) → CanTake p r (Mark f l y t) → (collected' : Vec (Layer B) Global) → AreOf s.layout collected'.items
      → ((d : ℕ) → nodes_at collected'.items d ≡ nodes_at s.collected.items d) → (0 < t → busy_at collected'.items (l - s.layer) ≡ true) → (t ≡ 0 → busy_at collected'.items (l - s.layer) ≡ busy_at s.collected.items (l - s.layer))
      → ((d : ℕ) → (d ≡ l - s.layer → ⊥) → busy_at collected'.items d ≡ busy_at s.collected.items d) → (open' : Vec ℕ Global) → open'.items ≡ slice_set s.open_layers.items f (l + 1)
      → Stands p (record s { open_layers = open'; collected = collected' }) (take r (Mark f l y t))
  mark_of p s r st f l y t can collected' are nodes marked none others open' is =
      taken p s r st (Mark f l y t) can open' collected'
      (intake_mark p.shards s.open_layers.items r.received st.intake st.ends.1.own.sizes.0 f f l y t can.from (suits p r (Mark f l y t) can) open'.items is)
      (collects_mark p s.layer s.layout s.collected.items r.start r.received st.collects st.ends.1.own.sizes.0 f f l (l - s.layer) y t (omega (arith, not_closed p s r st (Mark f l y t) can)) can.from collected'.items are nodes marked none others)

  -- the expander is the same
  pub same_expander : (p : Pass) (r : ShardRecord) (s : Shard A B) (x : Search) → x ≡ s.expander → Stands p s r → Stands p (record s { expander = x }) r
  same_expander p r s x e h = subst (λ (y : Search). Stands p (record s { expander = y }) r) (sym e) h

  pub accept_none : (p : Pass) (s : Shard A B) (r : ShardRecord) → Stands p s r → (collected' : Vec (Layer B) Global) → AreOf s.layout collected'.items → ((d : ℕ) → nodes_at collected'.items d ≡ nodes_at s.collected.items d)
      → ((d : ℕ) → busy_at collected'.items d ≡ busy_at s.collected.items d) → Stands p (record s { collected = collected' }) r
  accept_none p s r st collected' are nodes busy =
      record {
        belongs = st.belongs;
        ends = st.ends;
        fine = st.fine;
        start = st.start;
        layer = st.layer;
        begun = st.begun;
        waiting = st.waiting;
        letters = st.letters;
        intake = st.intake;
        collects = collects_same p s.layer s.layout s.collected.items collected'.items r.start r.received are nodes busy st.collects;
        past = st.past;
        outbox = st.outbox;
      }
