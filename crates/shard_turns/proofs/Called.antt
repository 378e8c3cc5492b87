-- What is known of the calls of a shard, from step to step.
use Rattle.std.proofs.Common.{◌≡◌, ℕ, ◌+◌, ◌^◌, ◌≤◌, ◌<◌, ◌⊎◌, inl, inr, List, [], ◌∷◌, ◌++◌, length, Option, Some, None, ℤ, Result, Ok, Err, refl, sym, ap, subst, ◌∙◌, arith}
use Rattle.std.specs.Prelude.{OnOk, IfErr}
use Rattle.std.proofs.lemmas.List.{length_push}
use Rattle.announce_laws.specs.Called.{WasHeld, AreCalled, WasRefused}
use Rattle.announce_laws.proofs.Calls.{called_law}
use Rattle.announcer.specs.Ends.{CallerFacts, QueueFacts, WasFull, posted_by, refused_by}
use Rattle.pass_ledger.specs.Events.{visit, CanVisit}
use Rattle.pass_ledger.specs.Passes.{Pass}
use Rattle.pass_ledger.specs.Records.{visit_of, IsHeld, Own, Reaches}
use Rattle.pass_ledger.specs.declared.records.FaultHere.{FaultHere}
use Rattle.pass_ledger.specs.declared.records.Held.{Held}
use Rattle.pass_ledger.specs.declared.records.PrunedAt.{PrunedAt}
use Rattle.pass_ledger.specs.declared.records.ShardRecord.{ShardRecord}
use Rattle.pass_ledger.specs.declared.records.Unsent.{Unsent}
use Rattle.pass_ledger.specs.declared.records.Visit.{Visit}
use Rattle.shard_turns.specs.Calls.{queue_of, IsCalling, CallsFor, MayCall, IsCall, HasCalled}
use Rattle.shard_turns.specs.declared.calling.Calling.{Calling}
use Rattle.state_layout.specs.declared.node.Node.{Node}

-- ---- a call

pub call_is : (result : Result (Unit {0}) ℤ) (cost : ℤ) (c d : CallerFacts) → OnOk result (d ≡ posted_by c cost) → IfErr result (λ back. (back ≡ cost) × (d ≡ refused_by c) × WasFull 64 c) → IsCall cost c d
call_is (Ok done) cost c d ok err = inl ok
call_is (Err back) cost c d ok err = inr err.1

pub not_called : (held : Option Held) (calling : Option Calling) → HasCalled held calling calling
not_called held None = refl
not_called held (Some c) = (c, refl, refl, inl refl)

-- ---- the same queue

same_caller : (c d : CallerFacts) (cost : ℤ) → IsCall cost c d → (d.queue ≡ c.queue) × (d.number ≡ c.number)
same_caller c d cost (inl posted) = (ap (λ (f : CallerFacts). f.queue) posted, ap (λ (f : CallerFacts). f.number) posted)
same_caller c d cost (inr refused) = (ap (λ (f : CallerFacts). f.queue) refused, ap (λ (f : CallerFacts). f.number) refused)

same_ends : (held : Option Held) (c d : CallerFacts) → (d ≡ c) ⊎ ((h : Held) × (held ≡ Some h) × IsCall h.cost c d) → (d.queue ≡ c.queue) × (d.number ≡ c.number)
same_ends held c d (inl same) = (ap (λ (f : CallerFacts). f.queue) same, ap (λ (f : CallerFacts). f.number) same)
same_ends held c d (inr call) = same_caller c d call.0.cost call.2

pub same_queue : (held : Option Held) (before after : Option Calling) → HasCalled held before after → queue_of after ≡ queue_of before
same_queue held None after h = ap queue_of h
same_queue held (Some c) after h = ap queue_of h.1 ∙ ap (λ (q : QueueFacts). Some q) (same_ends held c.caller h.0.caller h.3).0

-- ---- a record with the same visits, that holds the same

held_still : (p : Pass) (i : ℕ) (r s : ShardRecord) → s.visits ≡ r.visits → s.held ≡ r.held → (cost : ℤ) → WasHeld p i r cost → WasHeld p i s cost
held_still p i r s visits held cost h = record {
  held = h.held;
  cost_is = h.cost_is;
  is_held = subst (λ (vs : List Visit). IsHeld p i vs h.held) (sym visits) h.is_held;
  no_worse = subst (λ (o : Option Held). Reaches p o cost) (sym held) h.no_worse;
}

refused_still : (p : Pass) (i : ℕ) (r s : ShardRecord) → s.visits ≡ r.visits → s.held ≡ r.held → (count : ℕ) → WasRefused p i r count → WasRefused p i s count
refused_still p i r s visits held count h = record {
  costs = h.costs;
  called = λ cost has. held_still p i r s visits held cost (h.called cost has);
  count_is = h.count_is;
  few = subst (λ (vs : List Visit). count ≤ length vs) (sym visits) h.few;
}

pub calls_kept : (p : Pass) (i : ℕ) (r s : ShardRecord) → s.visits ≡ r.visits → s.held ≡ r.held → (calling : Option Calling) → CallsFor p i r calling → CallsFor p i s calling
calls_kept p i r s visits held None h = tt
calls_kept p i r s visits held (Some c) h = record {
  caller = h.caller;
  number = h.number;
  called = λ cost has. held_still p i r s visits held cost (h.called cost has);
  refused = refused_still p i r s visits held c.caller.refused h.refused;
}

-- ---- a node is visited

up : (a b c : ℕ) → a ≤ b → c ≡ b + 1 → a + 1 ≤ c
up a b c h e = omega (arith, h, e)

less : (a b : ℕ) → a + 1 ≤ b → a ≤ b
less a b h = omega (arith, h)

one_longer : (n : ℕ) (costs : List ℤ) (c : ℤ) → n ≡ length costs → n + 1 ≡ length (costs ++ c ∷ [])
one_longer n costs c e = let long : length (costs ++ c ∷ []) ≡ length costs + 1 = length_push costs c in omega (arith, e, long)

module _ (p : Pass) (i : ℕ) (r : ShardRecord) (l : ℕ) (n : Node) (rest : List Node) (made : List Unsent) (prunes : List PrunedAt) (held : Option Held) (fault : Option FaultHere) (can : CanVisit p i r l n rest made prunes held fault) where
  abbrev after : ShardRecord
  after = visit r l n rest made prunes held fault

  more : (c : Calling) → IsCalling p i r c → c.caller.refused + 1 ≤ length after.visits
  more c h = up c.caller.refused (length r.visits) (length after.visits) h.refused.few (length_push r.visits (visit_of l n))

  still : (c : Calling) → IsCalling p i r c → AreCalled p i after c.caller.posted
  still c h = called_law.visits p i r c.caller.posted h.called l n rest made prunes held fault can

  still_refused : (c : Calling) → IsCalling p i r c → WasRefused p i after c.caller.refused
  still_refused c h = record {
    costs = h.refused.costs;
    called = called_law.visits p i r h.refused.costs h.refused.called l n rest made prunes held fault can;
    count_is = h.refused.count_is;
    few = less c.caller.refused (length after.visits) (more c h);
  }

  pub calls_visited : (calling : Option Calling) → CallsFor p i r calling → CallsFor p i after calling
  calls_visited None h = tt
  calls_visited (Some c) h = record { caller = h.caller; number = h.number; called = still c h; refused = still_refused c h }

  -- and the cost of what is held then may be called
  module _ (own : Own p i after) where
    -- one more was refused
    refused_now : (c : Calling) → IsCalling p i r c → (now : Held) → held ≡ Some now → WasRefused p i after (c.caller.refused + 1)
    unfolding still_refused
    refused_now c h now is = record {
      costs = h.refused.costs ++ now.cost ∷ [];
      called = called_law.calls p i after h.refused.costs (still_refused c h).called own now is;
      count_is = one_longer c.caller.refused h.refused.costs now.cost h.refused.count_is;
      few = more c h;
    }

    abbrev Knows : CallerFacts → Type 0
    Knows f = AreCalled p i after f.posted × WasRefused p i after f.refused

    called_now : (c : Calling) (d : CallerFacts) → IsCalling p i r c → (d ≡ c.caller) ⊎ ((h : Held) × (held ≡ Some h) × IsCall h.cost c.caller d) → Knows d
    called_now c d h (inl same) = subst Knows (sym same) (still c h, still_refused c h)
    called_now c d h (inr call) = elim (call.2) [
      | inl posted ↦ subst Knows (sym posted) (called_law.calls p i after c.caller.posted (still c h) own call.0 call.1, still_refused c h)
      | inr refused ↦ subst Knows (sym refused) (still c h, refused_now c h call.0 call.1)
    ]

    calling_now : (c d : Calling) → IsCalling p i r c → d.queue.now ≡ c.queue.now → (d.caller ≡ c.caller) ⊎ ((h : Held) × (held ≡ Some h) × IsCall h.cost c.caller d.caller) → IsCalling p i after d
    calling_now c d h queue call =
        let same = same_ends held c.caller d.caller call in
        let known = called_now c d.caller h call in
        record {
          caller = (
            same.0 ∙ (h.caller.0 ∙ sym queue),
            subst (λ (q : QueueFacts). d.caller.number < q.senders) (sym queue) (subst (λ (k : ℕ). k < c.queue.now.senders) (sym same.1) h.caller.1),
          );
          number = same.1 ∙ h.number;
          called = known.0;
          refused = known.1;
        }

    pub calls_now : (before now : Option Calling) → CallsFor p i r before → HasCalled held before now → CallsFor p i after now
    calls_now None now h is = subst (CallsFor p i after) (sym is) tt
    calls_now (Some c) now h is = subst (CallsFor p i after) (sym is.1) (calling_now c is.0 h is.2 is.3)

-- ---- it may call

pub may_call : (p : Pass) (i : ℕ) (r : ShardRecord) (calling : Option Calling) → CallsFor p i r calling → length r.visits ≤ 2 ^ 40 → MayCall calling
may_call p i r None h few = tt
may_call p i r (Some c) h few = (h.caller, (let refused = h.refused.few in omega (arith, refused, few)))
