-- What a turn does, in the words of the shard's record before and after it. A turn with work does some.
use Rattle.std.specs.Prelude.{◌≡◌, ℕ, ◌+◌, ◌⊎◌, Bool, false, List, ◌∷◌, length}
use Rattle.pass_ledger.specs.Events.{take}
use Rattle.pass_ledger.specs.Passes.{Pass}
use Rattle.pass_ledger.specs.Records.{Done}
use Rattle.pass_ledger.specs.declared.mail.Letter.{Letter}
use Rattle.pass_ledger.specs.declared.records.ShardRecord.{ShardRecord}
use Rattle.shard_core.specs.Calls.{IsReady, IsQuiet}
use Rattle.state_layout.specs.declared.node.Node.{Node}

-- ---- a turn

-- Of a shard that goes on after a turn: it was not done; where it was ready, its layer was closed; the first node that waited
-- waits no more, so that it was visited or pruned; and nothing is left that could be posted.
pub record HasWorked (p : Pass) (i : ℕ) (before after : ShardRecord) : Type 0 where
  pub not_done : Done p i before → ⊥
  pub closed : IsReady p i before → length after.rows ≡ length before.rows + 1
  pub handled : (n : Node) (rest : List Node) → before.waiting ≡ n ∷ rest → after.waiting ≡ rest
  pub posted : IsQuiet p i after

-- ---- its steps

-- a letter was taken, or none
abbrev pub HasTaken : (before after : ShardRecord) → Type 0
HasTaken before after = (after ≡ before) ⊎ ((x : Letter) × (after ≡ take before x))

-- the layer was closed where the shard was ready
pub record HasClosed (p : Pass) (i : ℕ) (before after : ShardRecord) : Type 0 where
  pub not_done : Done p i before → ⊥
  pub closed : IsReady p i before → length after.rows ≡ length before.rows + 1
  pub waiting : (n : Node) (rest : List Node) → before.waiting ≡ n ∷ rest → after.waiting ≡ n ∷ rest

-- the first node that waited was visited or pruned
pub record HasHandled (before after : ShardRecord) : Type 0 where
  pub handled : (n : Node) (rest : List Node) → before.waiting ≡ n ∷ rest → after.waiting ≡ rest
  pub rows : after.rows ≡ before.rows

-- letters were posted, or none
pub record HasPosted (before after : ShardRecord) : Type 0 where
  pub waiting : after.waiting ≡ before.waiting
  pub rows : after.rows ≡ before.rows

-- a letter was posted, or nothing is left that could be
pub record HasPostedNext (p : Pass) (i : ℕ) (before : ShardRecord) (more : Bool) (after : ShardRecord) : Type 0 where
  pub posted : HasPosted before after
  pub quiet : more ≡ false → IsQuiet p i after
