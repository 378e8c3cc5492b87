-- What the answer of a pass says, by the views of the board's whole seat before and after the pass.
use Rattle.std.specs.Prelude.{◌≡◌, ℕ, ◌+◌, ◌-◌, ◌^◌, ◌≤◌, ◌<◌, ◌⊎◌, List, [], ◌++◌, length, zero, suc, Option, Some, None, IfSome, ℤ, pos, ◌≤ℤ◌}
use Rattle.dp_model.specs.declared.answers.Keep.{Keep}
use Rattle.board_words.specs.Steps.{best_known}
use Rattle.board_words.specs.declared.seat.View.{View}
use Rattle.dp_claims.specs.Enough.{IsAtMostReached}
use Rattle.dp_model.specs.declared.answers.Cause.{Cause}
use Rattle.dp_model.specs.declared.answers.Cause.TheVariants as causes
use Rattle.dp_model.specs.declared.answers.Found.{Found}
use Rattle.dp_model.specs.declared.whole.Model.{Model}
use Rattle.dp_steps.specs.Faults.{Meets}
use Rattle.dp_steps.specs.Lists.{Solution}
use Rattle.dom_store.specs.Order.{IsLeastFloor}
use Rattle.pass_ledger.specs.Counts.{visits_of, IsWider}
use Rattle.pass_ledger.specs.Ledgers.{Ledger, Closed, IsBest}
use Rattle.pass_ledger.specs.Passes.{Pass, word_of}
use Rattle.pass_ledger.specs.Records.{record_of, Together}
use Rattle.pass_ledger.specs.declared.records.Held.{Held}
use Rattle.pass_ledger.specs.declared.records.ShardRecord.{ShardRecord}
use Rattle.shard_core.specs.Stands.{all_dropped}
use Rattle.state_layout.specs.declared.node.Node.{Node}
use Rattle.pass_ends.specs.declared.answers.PassEnd.{PassEnd}
use Rattle.pass_ends.specs.declared.answers.PassEnd.TheVariants as ends

-- ---- of every answer

-- The numbers that a pass drew are no more than there are pairs of a length and an inner state that a path of this length leads
-- to; where nodes kept in earlier layers cover too, lean paths. Of the whole run's numbers those are late that are not below the budget, and the others were visits.
pub record HasDrawn (m : Model) (keep : Keep) (before after : View) (visited : ℕ) : Type 0 where
  pub gained : ℕ
  pub drawn : after.drawn ≡ before.drawn + gained
  pub reached : IsAtMostReached m keep gained
  pub late : after.late ≡ after.drawn - after.limit
  pub visits : visited + (after.drawn - after.limit) ≡ gained + (before.drawn - after.limit)

-- a found solution is a legal list of its cost
abbrev pub IsLegal : Model → Option Found → Type 0
IsLegal m best = IfSome best (λ f. Solution m f.steps f.cost)

-- The best word after the pass is the lesser of the word before it and the word of the best solution, if there is one.
pub record IsLowered (p : Pass) (before : ℕ) (best : Option Found) (after : ℕ) : Type 0 where
  pub no_greater : after ≤ before
  pub no_worse : IfSome best (λ f. pos after ≤ℤ word_of p f.cost)
  pub is_one : (after ≡ before) ⊎ ((f : Found) × (best ≡ Some f) × (pos after ≡ word_of p f.cost))

-- What the shards held by their records: of a best solution, one of them holds one of this cost, and none holds a better one; else
-- none holds any.
abbrev pub IsBestOf : Pass → List ShardRecord → Option Found → Type 0
IsBestOf p records None = (i : ℕ) → i < p.shards → (record_of records i).held ≡ None
IsBestOf p records (Some f) =
    ((i : ℕ) × (h : Held) × (i < p.shards) × ((record_of records i).held ≡ Some h) × (h.cost ≡ f.cost))
    × ((i : ℕ) (h : Held) → i < p.shards → (record_of records i).held ≡ Some h → word_of p f.cost ≤ℤ word_of p h.cost)

-- ---- of a pass that was closed

-- the dropped nodes of the first so many shards
abbrev pub dropped_of : List ShardRecord → ℕ → List Node
dropped_of records zero = []
dropped_of records (suc i) = dropped_of records i ++ all_dropped (record_of records i).rows

-- There is a closed ledger of the pass, for the best words before and after it. The answer's numbers are those of the ledger. No
-- number was late. Where a node was dropped, more states than the share are reached by paths of one length.
pub record IsClosed (p : Pass) (before after : View) (visited dropped : ℕ) (floor : Option ℤ) (best : Option Found) : Type 0 where
  pub records : List ShardRecord
  pub ledger : Ledger p records
  pub closed : Closed p records (best_known before) (best_known after)
  pub visits : visited ≡ visits_of records p.shards
  pub drops : dropped ≡ length (dropped_of records p.shards)
  pub floor_is : IsLeastFloor p.model.minimize p.model.join (dropped_of records p.shards) floor
  pub best_is : IsLowered p (best_known before) best (best_known after)
  pub held_is : IsBestOf p records best
  pub no_halt : after.raised ≡ 0
  pub on_time : after.drawn - after.limit ≡ before.drawn - after.limit
  pub wider : 0 < dropped → IsWider p
  pub small_share : 0 < dropped → p.share < 2 ^ 56

-- ---- of a pass that was halted

-- A budget is spent where a number was drawn that is not below it, and no shard has a more urgent cause. A fault is the most
-- urgent one, and is met by its list. Want of memory is free.
abbrev pub IsCause : Pass → View → View → Cause → Type 0
IsCause p before after causes.Budget = (after.raised ≡ 1) × (before.drawn - after.limit < after.drawn - after.limit)
IsCause p before after (causes.Fault fault) = (3 ≤ after.raised) × Meets p.model p.prune fault.steps fault.spot fault.kind
IsCause p before after causes.Memory = Unit {0}

pub record IsHalted (p : Pass) (before after : View) (cause : Cause) (best : Option Found) : Type 0 where
  pub cause_is : IsCause p before after cause
  pub best_is : (cause ≡ causes.Memory → ⊥) → IsLowered p (best_known before) best (best_known after)

-- What the shards left of it: a record of each, which are those of one pass, done or not. The dropped nodes and the best solution are
-- those of the records, and so are the visits where the budget was spent. The best word after the pass is the least of the one before it
-- and the words that they hold.
pub record HasLeft (p : Pass) (before after : View) (cause : Cause) (visited dropped : ℕ) (best : Option Found) : Type 0 where
  pub records : List ShardRecord
  pub long : length records ≡ p.shards
  pub together : Together p records
  pub visits : cause ≡ causes.Budget → visited ≡ visits_of records p.shards
  pub drops : dropped ≡ length (dropped_of records p.shards)
  pub held_is : IsBestOf p records best
  pub best_is : IsBest p records (best_known before) (best_known after)

-- ---- the answer

abbrev pub IsPassEnd : Pass → View → View → PassEnd → Type 0
IsPassEnd p before after (ends.Closed visited dropped floor best) = HasDrawn p.model p.keep before after visited × IsLegal p.model best × IsClosed p before after visited dropped floor best
IsPassEnd p before after (ends.Halted cause visited dropped best) = HasDrawn p.model p.keep before after visited × IsLegal p.model best × IsHalted p before after cause best × ((cause ≡ causes.Memory → ⊥) → HasLeft p before after cause visited dropped best)
