-- What the answer of a best-first search says, by the views of the board's whole seat before and after it.
use Rattle.std.specs.Prelude.{◌≡◌, ℕ, ◌+◌, ◌-◌, ◌<◌, List, length, Option, Some, None, ◌≤ℤ◌}
use Rattle.board_words.specs.Steps.{best_known}
use Rattle.board_words.specs.declared.seat.View.{View}
use Rattle.dp_model.specs.declared.answers.Cause.{Cause}
use Rattle.dp_model.specs.declared.answers.Cause.TheVariants as causes
use Rattle.dp_model.specs.declared.answers.Found.{Found}
use Rattle.dp_model.specs.declared.whole.Model.{Model}
use Rattle.best_ledger.specs.Enough.{IsAtMostPriced}
use Rattle.best_ledger.specs.Laws.{visits_of}
use Rattle.best_ledger.specs.Ledgers.{BestLedger, ClosedBest, IsBest}
use Rattle.best_ledger.specs.Records.{record_of, Together}
use Rattle.best_ledger.specs.Searches.{BestSearch, pass_of}
use Rattle.best_ledger.specs.declared.records.BestRecord.{BestRecord}
use Rattle.pass_ends.specs.Ends.{IsLegal, IsLowered, IsCause}
use Rattle.pass_ledger.specs.Passes.{word_of}
use Rattle.pass_ledger.specs.declared.records.Held.{Held}
use Rattle.best_ends.specs.declared.answers.BestEnd.{BestEnd}
use Rattle.best_ends.specs.declared.answers.BestEnd.TheVariants as ends

-- The numbers that a search drew are no more than there are pairs of an inner state and the cost so far of a lean path to it. Of the
-- whole run's numbers those are late that are not below the budget, and the others were visits.
pub record HasDrawn (m : Model) (before after : View) (visited : ℕ) : Type 0 where
  pub gained : ℕ
  pub drawn : after.drawn ≡ before.drawn + gained
  pub reached : IsAtMostPriced m gained
  pub late : after.late ≡ after.drawn - after.limit
  pub visits : visited + (after.drawn - after.limit) ≡ gained + (before.drawn - after.limit)

-- What the shards held by their records: of a best solution, one of them holds one of this cost, and none holds a better one; else
-- none holds any.
abbrev pub IsBestOf : BestSearch → List BestRecord → Option Found → Type 0
IsBestOf b records None = (i : ℕ) → i < b.shards → (record_of records i).held ≡ None
IsBestOf b records (Some f) =
    ((i : ℕ) × (h : Held) × (i < b.shards) × ((record_of records i).held ≡ Some h) × (h.cost ≡ f.cost))
    × ((i : ℕ) (h : Held) → i < b.shards → (record_of records i).held ≡ Some h → word_of (pass_of b) f.cost ≤ℤ word_of (pass_of b) h.cost)

-- There is a closed ledger of the search, for the best words before and after it. The answer's number is that of its visits, and its
-- solution the best that the ledger's shards hold. No number was late.
pub record IsClosed (b : BestSearch) (before after : View) (visited : ℕ) (best : Option Found) : Type 0 where
  pub records : List BestRecord
  pub ledger : BestLedger (pass_of b) records
  pub closed : ClosedBest (pass_of b) records (best_known before) (best_known after)
  pub visits : visited ≡ visits_of records b.shards
  pub best_is : IsLowered (pass_of b) (best_known before) best (best_known after)
  pub held_is : IsBestOf b records best
  pub no_halt : after.raised ≡ 0
  pub on_time : after.drawn - after.limit ≡ before.drawn - after.limit

-- The search was halted for a cause. Where it is not want of memory, the best solution is told.
pub record IsHalted (b : BestSearch) (before after : View) (cause : Cause) (best : Option Found) : Type 0 where
  pub cause_is : IsCause (pass_of b) before after cause
  pub best_is : (cause ≡ causes.Memory → ⊥) → IsLowered (pass_of b) (best_known before) best (best_known after)

-- What the shards left of it: a record of each, which are those of one search, done or not. The best solution is that of the records,
-- and the best word after the search is the least of the one before it and the words that they hold.
pub record HasLeft (b : BestSearch) (before after : View) (best : Option Found) : Type 0 where
  pub records : List BestRecord
  pub long : length records ≡ b.shards
  pub together : Together (pass_of b) records
  pub held_is : IsBestOf b records best
  pub best_is : IsBest (pass_of b) records (best_known before) (best_known after)

-- ---- the answer

abbrev pub IsBestEnd : BestSearch → View → View → BestEnd → Type 0
IsBestEnd b before after (ends.Closed visited best) = HasDrawn b.model before after visited × IsLegal b.model best × IsClosed b before after visited best
IsBestEnd b before after (ends.Halted cause visited best) = HasDrawn b.model before after visited × IsLegal b.model best × IsHalted b before after cause best × ((cause ≡ causes.Memory → ⊥) → HasLeft b before after best)
