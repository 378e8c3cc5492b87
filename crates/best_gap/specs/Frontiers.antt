-- The frontier of a best-first search: the nodes from which it would go on. And its best floor.
use Rattle.std.specs.Prelude.{◌≡◌, ℕ, ◌<◌, ◌⊎◌, Bool, List, ◌++◌, Option, Some, None, ℤ, ◌≤ℤ◌}
use Rattle.dp_claims.specs.Enough.{Has}
use Rattle.dp_model.specs.Costs.{order_word}
use Rattle.dp_model.specs.declared.parts.JoinOp.{JoinOp}
use Rattle.pass_ledger.specs.Passes.{Pass}
use Rattle.state_layout.specs.declared.node.Node.{Node}
use Rattle.best_ledger.specs.Histories.{to, came_from}
use Rattle.best_ledger.specs.Records.{record_of}
use Rattle.best_ledger.specs.declared.letters.BestLetter.{BestLetter}
use Rattle.best_ledger.specs.declared.records.BestRecord.{BestRecord}
use Rattle.best_ledger.specs.declared.records.ToPost.{ToPost}

-- The letters on their way from one shard to another: what was posted is what came, and then these.
abbrev pub AreOnTheirWay : List BestRecord → (from receiver : ℕ) → List BestLetter → Type 0
AreOnTheirWay records from receiver letters = came_from from (record_of records receiver).history ++ letters ≡ to (record_of records from).posted receiver

-- the node is in a letter that this shard posted, and that its receiver has not taken
abbrev pub IsOnItsWay : Pass → List BestRecord → (from : ℕ) → Node → Type 0
IsOnItsWay p records from n = (receiver : ℕ) × (letters : List BestLetter) × (x : BestLetter) × (receiver < p.shards) × AreOnTheirWay records from receiver letters × Has letters x × (x.node ≡ n)

-- the shard has the node: it is open, or in a letter that is still to be posted
abbrev pub IsLeftIn : BestRecord → Node → Type 0
IsLeftIn r n = Has r.waiting n ⊎ ((u : ToPost) × Has r.unsent u × (u.letter.node ≡ n))

-- The node is on the frontier: a shard has it, or it is in a letter that was posted and not taken.
abbrev pub IsOnFrontier : Pass → List BestRecord → Node → Type 0
IsOnFrontier p records n = (i : ℕ) × (i < p.shards) × (IsLeftIn (record_of records i) n ⊎ IsOnItsWay p records i n)

-- The best floor of some nodes: one of them has it, and none has a better one. There is none where none of them has a floor.
abbrev pub IsBestFloorOf : (minimize : Bool) → JoinOp → (Node → Type 0) → Option ℤ → Type 0
IsBestFloorOf minimize operator IsOneOf None = (n : Node) → IsOneOf n → n.floor ≡ None
IsBestFloorOf minimize operator IsOneOf (Some floor) =
    ((n : Node) × IsOneOf n × (n.floor ≡ Some floor))
    × ((n : Node) (f : ℤ) → IsOneOf n → n.floor ≡ Some f → order_word minimize operator (Some floor) ≤ℤ order_word minimize operator (Some f))

-- the best floor of the frontier, which is not empty
pub record IsFrontierFloor (p : Pass) (records : List BestRecord) (floor : Option ℤ) : Type 0 where
  pub some : (n : Node) × IsOnFrontier p records n
  pub floor_is : IsBestFloorOf p.model.minimize p.model.join (IsOnFrontier p records) floor

-- no shard met a fault
abbrev pub AreFine : Pass → List BestRecord → Type 0
AreFine p records = (i : ℕ) → i < p.shards → (record_of records i).fault ≡ None
