-- What a turn does, in the words of the shard's record before and after it. A turn with work does some.
use Rattle.std.specs.Prelude.{◌≡◌, ◌≤◌, ◌<◌, ◌⊎◌, Bool, false, [], length}
use Rattle.best_ledger.specs.declared.records.BestRecord.{BestRecord}

-- Of a shard that goes on after a turn: where a node was open, something befell the shard: a letter came, or a node was visited or
-- pruned. And all letters are posted.
pub record HasWorked (before after : BestRecord) : Type 0 where
  pub moved : 0 < length before.waiting → length before.history < length after.history
  pub posted : after.unsent ≡ []

-- ---- its steps

-- letters were taken, or none
abbrev pub HasTaken : (before after : BestRecord) → Type 0
HasTaken before after = (after ≡ before) ⊎ (length before.history < length after.history)

-- a node was visited or pruned, where one was open
pub record HasHandled (before after : BestRecord) : Type 0 where
  pub later : length before.history ≤ length after.history
  pub moved : 0 < length before.waiting → length before.history < length after.history

-- letters were posted, or none
abbrev pub HasPosted : (before after : BestRecord) → Type 0
HasPosted before after = after.history ≡ before.history

-- a letter was posted, or none was left
pub record HasPostedNext (before : BestRecord) (more : Bool) (after : BestRecord) : Type 0 where
  pub posted : HasPosted before after
  pub all : more ≡ false → after.unsent ≡ []
