-- The numbers that a shard computes with are in range.
use Rattle.std.proofs.Common.{◌≡◌, ℕ, ◌≤◌, inl, inr, zero, suc, List, [], ◌∷◌, length, Option, Some, None, refl, sym, subst, ◌∙◌, arith}
use Rattle.std.specs.Prelude.{IfSome}
use Rattle.cost_laws.specs.Orders.{InWideRange}
use Rattle.dp_claims.specs.Enough.{Has}
use Rattle.dp_model.specs.Costs.{InRange}
use Rattle.state_layout.specs.Conditions.{IsNodeOf}
use Rattle.state_layout.specs.declared.node.Node.{Node}
use Rattle.pass_ledger.specs.Passes.{Pass}
use Rattle.pass_ledger.specs.Records.{IsHeld}
use Rattle.pass_ledger.specs.Rows.{row}
use Rattle.pass_ledger.specs.declared.records.Held.{Held}
use Rattle.pass_ledger.specs.declared.records.LedgerRow.{LedgerRow}
use Rattle.pass_ledger.specs.declared.records.ShardRecord.{ShardRecord}
use Rattle.pass_ledger.specs.declared.records.Visit.{Visit}
use Rattle.pass_ledger.proofs.Lists.{has_none, has_cases}
use Rattle.shard_core.specs.Stands.{Stands, all_dropped}
use Rattle.shard_core.specs.declared.shard.Shard.{Shard}
use Rattle.shard_core.proofs.Rows.{floor_wide}
use Rattle.shard_core.proofs.Tells.{received_good, head_good}

dropped_in : (rows : List LedgerRow) (n : Node) → Has (all_dropped rows) n → (l : ℕ) × Has (row rows l).dropped n
dropped_in [] n h = absurd (has_none n h)
dropped_in (w ∷ rows) n h =
    elim (has_cases w.dropped (all_dropped rows) n h) [
      | inl first ↦ (zero, first)
      | inr more ↦ (let x = dropped_in rows n more in (suc x.0, x.1))
    ]

held_in : (p : Pass) (i : ℕ) (visits : List Visit) (held : Option Held) → ((h : Held) → held ≡ Some h → IsHeld p i visits h) → IfSome held (λ (h : Held). InRange h.cost)
held_in p i visits None own = tt
held_in p i visits (Some h) own = (own h refl).total.in_range

module _ {A B : Type 0} where
  -- the dropped nodes are nodes of the model
  dropped_good : (p : Pass) (s : Shard A B) (r : ShardRecord) → Stands p s r → (n : Node) → Has (all_dropped r.rows) n → IsNodeOf p.model n
  dropped_good p s r st n h = let x = dropped_in r.rows n h in (received_good p s r st x.0 n ((st.ends.1.own.rows x.0).dropped n x.1)).0

  pub least_floor_wide : (p : Pass) (s : Shard A B) (r : ShardRecord) → Stands p s r → IfSome s.least_floor InWideRange
  least_floor_wide p s r st = floor_wide p.model.minimize p.model.join (all_dropped r.rows) s.least_floor st.ends.1.floor_is (λ n h. (dropped_good p s r st n h).floor)

  pub held_range : (p : Pass) (s : Shard A B) (r : ShardRecord) → Stands p s r → IfSome s.held (λ (h : Held). InRange h.cost)
  held_range p s r st = subst (λ (o : Option Held). IfSome o (λ (h : Held). InRange h.cost)) (sym st.ends.1.held_is) (held_in p s.me r.visits r.held st.ends.1.own.held)

  pub head_floor : (p : Pass) (s : Shard A B) (r : ShardRecord) → Stands p s r → (n : Node) (rest : List Node) → s.waiting.items ≡ n ∷ rest → IfSome n.floor InWideRange
  head_floor p s r st n rest head = (head_good p s r st n rest (sym st.waiting ∙ head)).0.floor

  pub some_shards : (p : Pass) (s : Shard A B) (r : ShardRecord) → Stands p s r → 1 ≤ s.shards
  some_shards p s r st = let a = st.belongs.below in let b = st.belongs.shards_are in omega (arith, a, b)

  pub sent_long : (p : Pass) (s : Shard A B) (r : ShardRecord) → Stands p s r → length s.sent.items ≡ s.shards
  sent_long p s r st = st.outbox.long ∙ sym st.belongs.shards_are
