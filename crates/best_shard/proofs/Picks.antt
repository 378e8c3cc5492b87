-- A shard that picks an open node holds it, and where that is pruned the shard stands for the record that pruned it.
use Rattle.std.proofs.Common.{◌≡◌, ℕ, ◌<◌, ◌⊎◌, inl, inr, Bool, true, false, List, [], ◌∷◌, ◌++◌, length, map, Option, Some, None, refl, sym, subst, ap, ◌∙◌, arith}
use Rattle.std.specs.Prelude.{IfSome, IfNone, IsTrue, ◌↔◌, ℤ, pos, ◌≤ℤ◌}
use Rattle.cost_laws.specs.Orders.{InWideRange, IsLawOf}
use Rattle.dp_model.specs.Costs.{InRange, order_word}
use Rattle.dp_model.specs.declared.parts.JoinOp.{JoinOp}
use Rattle.dp_steps.specs.States.{Inner}
use Rattle.dom_store.specs.Contents.{Contents}
use Rattle.dom_store.specs.Popping.{IsBestOf}
use Rattle.state_layout.specs.Conditions.{IsNodeOf, IsNodeFor}
use Rattle.state_layout.specs.declared.node.Node.{Node}
use Rattle.pass_ledger.specs.Passes.{Pass, Prunes, StartsInner}
use Rattle.pass_ledger.specs.Records.{Starts}
use Rattle.pass_ledger.specs.declared.records.Held.{Held}
use Rattle.pass_ledger.specs.declared.records.PrunedAt.{PrunedAt}
use Rattle.best_ledger.specs.Events.{CanPrune}
use Rattle.best_ledger.specs.Histories.{HasCome, visits_in}
use Rattle.best_ledger.specs.Logs.{entry_of}
use Rattle.best_ledger.specs.Records.{IsHeld}
use Rattle.best_ledger.specs.declared.records.BestRecord.{BestRecord}
use Rattle.best_ledger.specs.declared.records.BestVisit.{BestVisit}
use Rattle.best_ledger.specs.declared.records.Moment.TheVariants.{Pruned}
use Rattle.best_ledger.proofs.Posts.{own_law}
use Rattle.best_ledger.proofs.Steps.{without_this}
use Rattle.shard_core.proofs.Rows.{by_law}
use Rattle.best_shard.specs.Calls.{IsPruning}
use Rattle.best_shard.specs.Stands.{Stands, Holds, Follows, past_visit}
use Rattle.best_shard.specs.declared.shard.BestShard.{BestShard}
use Rattle.best_shard.proofs.Clocks.{clock_pruned}
use Rattle.best_shard.proofs.Lists.{visits_same}

-- ---- the nodes of the record are of the model

starts_inner : (p : Pass) (i : ℕ) (start : Option Node) → StartsInner p → Starts p i start → (n : Node) → start ≡ Some n → Inner p.model n.state
starts_inner p i None inner starts n e = absurd (let clash : None ≡ Some n = e in cc)
starts_inner p i (Some m) inner starts n e = subst (λ (k : Node). Inner p.model k.state) (some_is e) (subst (Inner p.model) (sym starts.0.state) inner)
  where
    some_is : {a b : Node} → Some a ≡ Some b → a ≡ b
    some_is e = cc

held_in : (p : Pass) (i : ℕ) (visits : List BestVisit) (held : Option Held) → ((h : Held) → held ≡ Some h → IsHeld p i visits h) → IfSome held (λ (h : Held). InRange h.cost)
held_in p i visits None own = tt
held_in p i visits (Some h) own = (own h refl).total.in_range

some_if : (nodes : List Node) → (0 < length nodes) ⊎ (nodes ≡ [])
some_if [] = inr refl
some_if (n ∷ nodes) = inl (omega arith)

module _ {A B : Type 0} where
  come_good : (p : Pass) (s : BestShard A B) (r : BestRecord) → Follows p s r → (n : Node) → HasCome r.start r.history n → IsNodeOf p.model n × Inner p.model n.state
  come_good p s r f n (inl e) = (f.start n e, starts_inner p s.me r.start f.belongs.inner f.ends.1.own.start n e)
  come_good p s r f n (inr h) = subst (λ (k : Node). IsNodeOf p.model k × Inner p.model k.state) h.2 (let o = (f.ends.1.own.received h.0 h.1).1 in (o.is_node, o.inner))

  -- the node that was picked is one of the model, in an inner state
  pub picked_good : (p : Pass) (s : BestShard A B) (n : Node) (r : BestRecord) → Holds p s n r → IsNodeOf p.model n × Inner p.model n.state
  picked_good p s n r h = come_good p s r h.follows n (h.follows.ends.1.own.waits.came n (without_this r.waiting n s.waiting.nodes h.picked))

  pub picked_fits : (p : Pass) (s : BestShard A B) (n : Node) (r : BestRecord) → Holds p s n r → IsNodeFor s.layout n
  picked_fits p s n r h = (p.model, h.follows.belongs.layout_is, (picked_good p s n r h).0)

  pub picked_wide : (p : Pass) (s : BestShard A B) (n : Node) (r : BestRecord) → Holds p s n r → IfSome n.floor InWideRange
  picked_wide p s n r h = (picked_good p s n r h).0.floor

  pub held_range : (p : Pass) (s : BestShard A B) (r : BestRecord) → Follows p s r → IfSome s.held (λ (h : Held). InRange h.cost)
  held_range p s r f = subst (λ (o : Option Held). IfSome o (λ (h : Held). InRange h.cost)) (sym f.ends.1.held_is) (held_in p s.me (visits_in r.history) r.held f.ends.1.own.held)

  -- ---- picking

  -- the open nodes are other ones
  follows_with : (p : Pass) (s : BestShard A B) (r : BestRecord) → Follows p s r → (waiting' : Contents) → waiting'.layout ≡ s.waiting.layout → Follows p (record s { waiting = waiting' }) r
  follows_with p s r f waiting' wl =
      record {
        belongs = f.belongs;
        ends = f.ends;
        fine = f.fine;
        start = f.start;
        layout_is = wl ∙ f.layout_is;
        past = f.past;
        letters = f.letters;
        clock = f.clock;
      }

  pub picks : (p : Pass) (s : BestShard A B) (r : BestRecord) → Stands p s r → (minimize : Bool) (operator : JoinOp) (n : Node) (waiting' : Contents) → IsBestOf minimize operator s.waiting.nodes n waiting'.nodes → waiting'.layout ≡ s.waiting.layout
      → Holds p (record s { waiting = waiting' }) n r
  picks p s r st minimize operator n waiting' best wl =
      record { follows = follows_with p s r st.follows waiting' wl; picked = record { before = best.before; after = best.after; was = sym st.waiting ∙ best.was; is = best.is } }

  pub picks_first : (p : Pass) (s : BestShard A B) (r : BestRecord) → Stands p s r → (minimize : Bool) (operator : JoinOp) → IsLawOf p.model minimize operator → (n : Node) (rest : List Node) → IsBestOf minimize operator s.waiting.nodes n rest
      → IsBestOf p.model.minimize p.model.join r.waiting n rest
  picks_first p s r st minimize operator law n rest best =
      by_law p.model minimize operator (λ (b : Bool) (o : JoinOp). IsBestOf b o r.waiting n rest) law (subst (λ (ns : List Node). IsBestOf minimize operator ns n rest) st.waiting best)

  pub picks_none : (p : Pass) (s : BestShard A B) (r : BestRecord) → Stands p s r → (waiting' : Contents) → s.waiting.nodes ≡ [] → waiting'.nodes ≡ [] → waiting'.layout ≡ s.waiting.layout → (r.waiting ≡ []) × Stands p (record s { waiting = waiting' }) r
  picks_none p s r st waiting' none none' wl = (sym st.waiting ∙ none, record { follows = follows_with p s r st.follows waiting' wl; waiting = none' ∙ (sym none ∙ st.waiting) })

  -- ---- a node that is pruned

  pub drops : (p : Pass) (s : BestShard A B) (n : Node) (r : BestRecord) (best : ℕ) → Holds p s n r → Prunes p best n → IsPruning p best r n s
  drops p s n r best h prunes =
      record {
        rest = s.waiting.nodes;
        can = can;
        stands = record {
          follows = record {
            belongs = f.belongs;
            ends = (
              f.ends.0,
              record {
                own = own_law.prunes p s.me r f.ends.1.own n s.waiting.nodes best can;
                log_is = f.ends.1.log_is ∙ sym (ap (map entry_of) same);
                visited_is = f.ends.1.visited_is ∙ sym (ap length same);
                held_is = f.ends.1.held_is;
                fault_is = f.ends.1.fault_is;
              },
            );
            fine = f.fine;
            start = f.start;
            layout_is = f.layout_is;
            past = record { layout_is = f.past.layout_is; nodes_are = f.past.nodes_are ∙ sym (ap (map past_visit) same) };
            letters = f.letters;
            clock = clock_pruned s.clock r.history q f.clock;
          };
          waiting = refl;
        };
      }
    where
      f : Follows p s r
      f = h.follows

      q : PrunedAt
      q = record { node = n; best = best }

      can : CanPrune p r n s.waiting.nodes best
      can = record { fine = f.fine; is_open = h.picked; prunes = prunes }

      same : visits_in (r.history ++ Pruned q ∷ []) ≡ visits_in r.history
      same = visits_same r.history (Pruned q ∷ []) refl

-- ---- answers

not_true : false ≡ true → ⊥
not_true e = cc

-- the test of a floor's word, under a law of costs that is the model's
pub tells_pruned : (p : Pass) (minimize : Bool) (operator : JoinOp) → IsLawOf p.model minimize operator → (n : Node) (best : ℕ) (b : Bool) → (b ≡ true → (floor : ℤ) × (n.floor ≡ Some floor) × (pos best ≤ℤ order_word minimize operator (Some floor)))
    → (b ≡ false → (floor : ℤ) → n.floor ≡ Some floor → pos best ≤ℤ order_word minimize operator (Some floor) → ⊥) → IsTrue b ↔ Prunes p best n
tells_pruned p minimize operator law n best true when unless = (
  λ _. (let q = when refl in (q.0, q.1, by_law p.model minimize operator (λ (b : Bool) (o : JoinOp). pos best ≤ℤ order_word b o (Some q.0)) law q.2)),
  λ _. refl,
)
tells_pruned p minimize operator law n best false when unless = (
  λ t. absurd (not_true t),
  λ h. absurd (by_law p.model minimize operator (λ (b : Bool) (o : JoinOp). (floor : ℤ) → n.floor ≡ Some floor → pos best ≤ℤ order_word b o (Some floor) → ⊥) law (unless refl) h.0 h.1 h.2),
)

-- what follows of each node, and of none
pub if_some : {P Q : Node → Type 0} (o : Option Node) → ((n : Node) → P n → Q n) → IfSome o P → IfSome o Q
if_some (Some n) f h = f n h
if_some None f h = tt

pub if_none : {X Y : Type 0} (o : Option Node) → (X → Y) → IfNone o X → IfNone o Y
if_none (Some n) f h = tt
if_none None f h = f h
