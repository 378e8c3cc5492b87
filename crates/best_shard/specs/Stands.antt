-- When a running shard of a best-first search stands for a record of it.
use Rattle.std.specs.Prelude.{◌≡◌, ℕ, ◌<◌, max, List, [], ◌∷◌, length, map, Option, Some, None}
use Rattle.dp_model.specs.declared.parts.PlainState.{PlainState}
use Rattle.path_log.specs.declared.logs.Entry.{Entry}
use Rattle.state_layout.specs.Conditions.{IsLayoutOf, IsNodeOf}
use Rattle.state_layout.specs.Signatures.{owner_of}
use Rattle.state_layout.specs.declared.layout.Layout.{Layout}
use Rattle.state_layout.specs.declared.node.Node.{Node}
use Rattle.dom_store.specs.Past.{Past, past_node}
use Rattle.dom_store.specs.declared.past_node.PastNode.{PastNode}
use Rattle.pass_ledger.specs.Passes.{Pass, StartsInner}
use Rattle.pass_ledger.specs.declared.records.FaultHere.{FaultHere}
use Rattle.pass_ledger.specs.declared.records.Held.{Held}
use Rattle.best_ledger.specs.Events.{IsWithout}
use Rattle.best_ledger.specs.Histories.{visits_in}
use Rattle.best_ledger.specs.Logs.{entry_of}
use Rattle.best_ledger.specs.Records.{Own}
use Rattle.best_ledger.specs.declared.records.BestRecord.{BestRecord}
use Rattle.best_ledger.specs.declared.records.BestVisit.{BestVisit}
use Rattle.best_ledger.specs.declared.records.Moment.{Moment}
use Rattle.best_ledger.specs.declared.records.Moment.TheVariants.{Came, Visited, Pruned}
use Rattle.successors.specs.Searches.{Search}
use Rattle.best_shard.specs.declared.shard.BestShard.{BestShard}

-- it is a shard of the search
pub record Belongs (p : Pass) (me shards : ℕ) (search : Search) (layout : Layout) : Type 0 where
  pub below : me < p.shards
  pub shards_are : shards ≡ p.shards
  pub model : search.model ≡ p.model
  pub prune : search.prune ≡ p.prune
  pub layout_is : IsLayoutOf p.model layout
  pub owner : (state : PlainState) → owner_of layout state shards ≡ p.owner state
  pub inner : StartsInner p

-- The past has the visited nodes, in order.
abbrev pub past_visit : BestVisit → PastNode
past_visit v = past_node v.node

pub record Remembers (layout : Layout) (past : Past) (history : List Moment) : Type 0 where
  pub layout_is : past.layout ≡ layout
  pub nodes_are : past.nodes ≡ map past_visit (visits_in history)

-- the stamp of a letter that came, or of a visit
abbrev pub stamp_in : Moment → ℕ
stamp_in (Came x) = x.stamp
stamp_in (Visited w) = w.stamp
stamp_in (Pruned q) = 0

-- The clock is the greatest stamp of the letters that came and of the visits, and 0 before any.
abbrev pub clock_of : List Moment → ℕ
clock_of [] = 0
clock_of (m ∷ history) = max (stamp_in m) (clock_of history)

-- What a shard hands back is the record's: the log of its visits, what is held, and the fault.
pub record Ends (p : Pass) (i : ℕ) (log : List Entry) (visited : ℕ) (held : Option Held) (fault : Option FaultHere) (r : BestRecord) : Type 0 where
  pub own : Own p i r
  pub log_is : log ≡ map entry_of (visits_in r.history)
  pub visited_is : visited ≡ length (visits_in r.history)
  pub held_is : held ≡ r.held
  pub fault_is : fault ≡ r.fault

abbrev pub EndsAs : {A B : Type 0} → Pass → BestShard A B → BestRecord → Type 0
EndsAs p s r = (s.log.shard ≡ s.me) × Ends p s.me s.log.entries s.visited s.held s.fault r

-- in all but the open nodes the shard stands for the record
pub record Follows {A B : Type 0} (p : Pass) (s : BestShard A B) (r : BestRecord) : Type 0 where
  pub belongs : Belongs p s.me s.shards s.expander s.layout
  pub ends : EndsAs p s r
  pub fine : r.fault ≡ None
  pub start : (n : Node) → r.start ≡ Some n → IsNodeOf p.model n
  pub layout_is : s.waiting.layout ≡ s.layout
  pub past : Remembers s.layout s.past r.history
  pub letters : s.letters.items ≡ r.unsent
  pub clock : s.clock ≡ clock_of r.history

-- The shard stands for the record. Its open nodes stand in the order in which they came.
pub record Stands {A B : Type 0} (p : Pass) (s : BestShard A B) (r : BestRecord) : Type 0 where
  pub follows : Follows p s r
  pub waiting : s.waiting.nodes ≡ r.waiting

-- It has picked one of the open nodes, and keeps the others.
pub record Holds {A B : Type 0} (p : Pass) (s : BestShard A B) (n : Node) (r : BestRecord) : Type 0 where
  pub follows : Follows p s r
  pub picked : IsWithout r.waiting n s.waiting.nodes
