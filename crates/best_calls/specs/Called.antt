-- What is known of the costs that the shards of a best-first search called.
use Rattle.std.specs.Prelude.{◌≡◌, ℕ, List, [], ◌∷◌, ◌++◌, length, slice_get, Option, Some, ℤ}
use Rattle.announce_laws.specs.Called.{AreOfShards, IsSolved}
use Rattle.announcer.specs.Ends.{CallerFacts, IsBegunOf, AreLeft}
use Rattle.announcer.specs.declared.view.CalledCost.{CalledCost}
use Rattle.dp_claims.specs.Enough.{Has}
use Rattle.pass_ledger.specs.Passes.{Pass}
use Rattle.pass_ledger.specs.Records.{Reaches}
use Rattle.pass_ledger.specs.declared.records.FaultHere.{FaultHere}
use Rattle.pass_ledger.specs.declared.records.Held.{Held}
use Rattle.pass_ledger.specs.declared.records.PrunedAt.{PrunedAt}
use Rattle.state_layout.specs.declared.node.Node.{Node}
use Rattle.best_ledger.specs.Events.{take_letter, prune, visit_node, post, CanVisit}
use Rattle.best_ledger.specs.Histories.{visits_in}
use Rattle.best_ledger.specs.Ledgers.{IsBest}
use Rattle.best_ledger.specs.Records.{IsHeld, Own, Together, record_of}
use Rattle.best_ledger.specs.declared.letters.BestLetter.{BestLetter}
use Rattle.best_ledger.specs.declared.records.BestRecord.{BestRecord}
use Rattle.best_ledger.specs.declared.records.ToPost.{ToPost}

-- The shard has made a step to a base state from a node that it visited, with this total, and what it holds is no worse.
pub record WasHeld (p : Pass) (i : ℕ) (r : BestRecord) (cost : ℤ) : Type 0 where
  pub held : Held
  pub cost_is : held.cost ≡ cost
  pub is_held : IsHeld p i (visits_in r.history) held
  pub no_worse : Reaches p r.held cost

-- so it is of each of these costs
abbrev pub AreCalled : Pass → ℕ → BestRecord → List ℤ → Type 0
AreCalled p i r costs = (c : ℤ) → Has costs c → WasHeld p i r c

-- What a shard may call: what it holds. Each event of the shard keeps what is known of its calls.
pub record LawCalled : Type 0 where
  pub none : (p : Pass) (i : ℕ) (r : BestRecord) → AreCalled p i r []
  pub calls : (p : Pass) (i : ℕ) (r : BestRecord) (costs : List ℤ) → AreCalled p i r costs → Own p i r → (h : Held) → r.held ≡ Some h → AreCalled p i r (costs ++ h.cost ∷ [])
  pub takes : (p : Pass) (i : ℕ) (r : BestRecord) (costs : List ℤ) → AreCalled p i r costs → (x : BestLetter) (rest : List Node) → AreCalled p i (take_letter r x rest) costs
  pub prunes : (p : Pass) (i : ℕ) (r : BestRecord) (costs : List ℤ) → AreCalled p i r costs → (n : Node) (rest : List Node) (best : ℕ) → AreCalled p i (prune r n rest best) costs
  pub visits : (p : Pass) (i : ℕ) (r : BestRecord) (costs : List ℤ) → AreCalled p i r costs → (stamp : ℕ) (n : Node) (rest : List Node) (made : List ToPost) (prunes : List PrunedAt) (held : Option Held) (fault : Option FaultHere)
      → CanVisit p i r stamp n rest made prunes held fault → AreCalled p i (visit_node r stamp n rest made prunes held fault) costs
  pub posts : (p : Pass) (i : ℕ) (r : BestRecord) (costs : List ℤ) → AreCalled p i r costs → (u : ToPost) (rest : List ToPost) → AreCalled p i (post r u rest) costs

-- A caller for each shard, in the order of their numbers, each of which called what its shard had held.
pub record AreCallersFor (p : Pass) (records : List BestRecord) (callers : List CallerFacts) : Type 0 where
  pub all : length callers ≡ p.shards
  pub number : (i : ℕ) (c : CallerFacts) → slice_get callers i ≡ Some c → c.number ≡ i
  pub called : (i : ℕ) (c : CallerFacts) → slice_get callers i ≡ Some c → AreCalled p i (record_of records i) c.posted

abbrev pub LawCried : Type 0
LawCried =
    (p : Pass) (records : List BestRecord) (opening best : ℕ) (callers : List CallerFacts) (taken : List CalledCost) → Together p records → IsBest p records opening best → AreCallersFor p records callers → AreOfShards p taken
    → IsBegunOf callers taken → (x : CalledCost) → Has taken x → IsSolved p best x.cost

abbrev pub LawLeft : Type 0
LawLeft =
    (p : Pass) (records : List BestRecord) (opening best : ℕ) (callers : List CallerFacts) (taken : List CalledCost) (costs : List ℤ) → Together p records → IsBest p records opening best → AreCallersFor p records callers
    → AreLeft p.shards callers taken costs → (c : ℤ) → Has costs c → IsSolved p best c
