-- What the seat of a shard of a best-first search on the board knows, in the words of the shard's record.
use Rattle.std.specs.Prelude.{◌≡◌, ℕ, ◌+◌, ◌≤◌, ◌<◌, List, length, Some}
use Rattle.board_words.specs.Causes.{halt_number}
use Rattle.board_words.specs.declared.halt.HaltCause.{HaltCause}
use Rattle.board_words.specs.declared.halt.HaltCause.TheVariants as causes
use Rattle.board_words.specs.declared.seat.View.{View}
use Rattle.dp_claims.specs.Enough.{Has}
use Rattle.pass_ledger.specs.Passes.{Pass}
use Rattle.pass_ledger.specs.declared.records.FaultHere.{FaultHere}
use Rattle.pass_ledger.specs.declared.records.PrunedAt.{PrunedAt}
use Rattle.best_ledger.specs.Histories.{visits_in}
use Rattle.best_ledger.specs.declared.records.BestRecord.{BestRecord}
use Rattle.best_ledger.specs.declared.records.Moment.{Moment}
use Rattle.best_ledger.specs.declared.records.Moment.TheVariants.{Pruned}
use Rattle.shard_seats.specs.Seats.{IsOfferOf}
use Rattle.best_seats.specs.declared.ended.BestEnded.{BestEnded}
use Rattle.best_seats.specs.declared.ended.BestEnded.TheVariants as ends

-- ---- a shard that goes on

-- no recorded pruning used a word less than what the seat has seen
abbrev pub HasSeen : View → List Moment → Type 0
HasSeen v history = (q : PrunedAt) → Has history (Pruned q) → v.seen ≤ q.best

-- The seat of a shard that goes on: it has one part of the board, it offered what the shard holds, and it drew one number for
-- each visit, all of them below the budget. It neither raised nor met a halt.
pub record Sits (p : Pass) (budget : ℕ) (v : View) (r : BestRecord) : Type 0 where
  pub part : v.part ≡ 1
  pub limit : v.limit ≡ budget
  pub offered : IsOfferOf p v.offered r.held
  pub seen : HasSeen v r.history
  pub drawn : v.drawn ≡ length (visits_in r.history)
  pub drawn_below : v.drawn ≤ v.top
  pub top : v.top ≤ budget
  pub late : v.late ≡ 0
  pub raised : v.raised ≡ 0
  pub met : v.met ≡ 0

-- ---- a shard that has ended

-- Why, by the halt that its seat raised: none where it met the halt of another. After a draw of a number not below the budget one
-- draw is late. Where a fault is the cause the record has one.
abbrev pub HasCause : View → BestRecord → HaltCause → Type 0
HasCause v r causes.Budget = v.late ≡ 1
HasCause v r causes.Memory = v.late ≡ 0
HasCause v r causes.Fault = (v.late ≡ 0) × (f : FaultHere) × (r.fault ≡ Some f)

abbrev pub HasEnded : View → BestRecord → BestEnded → Type 0
HasEnded v r ends.Idle = (v.raised ≡ 0) × (v.late ≡ 0)
HasEnded v r ends.Met = (v.raised ≡ 0) × (v.late ≡ 0) × (0 < v.met)
HasEnded v r (ends.Halted cause) = (v.raised ≡ halt_number cause) × HasCause v r cause

-- The seat of a shard that has ended so: it drew no more numbers than the record visits nodes and has open ones.
pub record Sat (p : Pass) (end : BestEnded) (v : View) (r : BestRecord) : Type 0 where
  pub part : v.part ≡ 1
  pub offered : IsOfferOf p v.offered r.held
  pub seen : HasSeen v r.history
  pub few_drawn : v.drawn ≤ length (visits_in r.history) + length r.waiting
  pub cause : HasEnded v r end
