-- The seat of a shard: what it knows of the board, in the words of the shard's record, while the shard goes on and when it has ended.
use Rattle.std.specs.Prelude.{◌≡◌, ◌≢◌, ℕ, ◌+◌, ◌≤◌, ◌<◌, List, length, Option, Some, None, pos}
use Rattle.board_words.specs.Causes.{halt_number}
use Rattle.board_words.specs.Rules.{no_word}
use Rattle.board_words.specs.declared.halt.HaltCause.{HaltCause}
use Rattle.board_words.specs.declared.halt.HaltCause.TheVariants as causes
use Rattle.board_words.specs.declared.seat.View.{View}
use Rattle.dp_claims.specs.Enough.{Has}
use Rattle.pass_ledger.specs.Counts.{row_pairs}
use Rattle.pass_ledger.specs.Passes.{Pass, word_of}
use Rattle.pass_ledger.specs.Records.{Done}
use Rattle.pass_ledger.specs.declared.records.FaultHere.{FaultHere}
use Rattle.pass_ledger.specs.declared.records.Held.{Held}
use Rattle.pass_ledger.specs.declared.records.PrunedAt.{PrunedAt}
use Rattle.pass_ledger.specs.declared.records.ShardRecord.{ShardRecord}
use Rattle.shard_seats.specs.declared.ended.Ended.{Ended}
use Rattle.shard_seats.specs.declared.ended.Ended.TheVariants as ends

-- ---- a shard that goes on

-- the word that was offered is that of what is held, or none was
abbrev pub IsOfferOf : Pass → ℕ → Option Held → Type 0
IsOfferOf p offered None = offered ≡ no_word
IsOfferOf p offered (Some held) = pos offered ≡ word_of p held.cost

-- no recorded pruning used a word less than what the seat has seen
abbrev pub HasSeen : View → List PrunedAt → Type 0
HasSeen v pruned = (q : PrunedAt) → Has pruned q → v.seen ≤ q.best

-- The seat of a shard that goes on: it has one part of the board, it offered what the shard holds, and it drew one number for
-- each visit, all of them below the budget. It neither raised nor met a halt.
pub record Sits (p : Pass) (budget : ℕ) (v : View) (r : ShardRecord) : Type 0 where
  pub part : v.part ≡ 1
  pub limit : v.limit ≡ budget
  pub offered : IsOfferOf p v.offered r.held
  pub seen : HasSeen v r.pruned
  pub drawn : v.drawn ≡ length r.visits
  pub drawn_below : v.drawn ≤ v.top
  pub top : v.top ≤ budget
  pub late : v.late ≡ 0
  pub raised : v.raised ≡ 0
  pub met : v.met ≡ 0

-- ---- a shard that has ended

-- Why a shard has ended, by the halt that its seat raised: none where it is done, or met the halt of another. After a draw
-- of a number not below the budget one draw is late. Where a fault is the cause the record has one.
abbrev pub HasCause : View → ShardRecord → HaltCause → Type 0
HasCause v r causes.Budget = v.late ≡ 1
HasCause v r causes.Memory = v.late ≡ 0
HasCause v r causes.Fault = (v.late ≡ 0) × (f : FaultHere) × (r.fault ≡ Some f)

abbrev pub HasEnded : Pass → (i : ℕ) → View → ShardRecord → Ended → Type 0
HasEnded p i v r ends.Done = (v.raised ≡ 0) × (v.late ≡ 0) × (v.drawn ≡ length r.visits) × Done p i r
HasEnded p i v r ends.Met = (v.raised ≡ 0) × (v.late ≡ 0) × (0 < v.met)
HasEnded p i v r (ends.Halted cause) = (v.raised ≡ halt_number cause) × HasCause v r cause

-- it did not end by want of memory
abbrev pub HadMemory : Ended → Type 0
HadMemory end = end ≢ ends.Halted causes.Memory

-- its draws are the visits and those that were late
abbrev pub HasDrawnFor : View → ShardRecord → Type 0
HasDrawnFor v r = v.drawn ≡ length r.visits + v.late

-- The seat of a shard that has ended: it drew no more numbers than the record keeps nodes, and no more than the board had given
-- out by its last draw. Where it had memory, each number that it drew is that of a visit, or late.
pub record Sat (p : Pass) (i : ℕ) (end : Ended) (v : View) (r : ShardRecord) : Type 0 where
  pub part : v.part ≡ 1
  pub offered : IsOfferOf p v.offered r.held
  pub seen : HasSeen v r.pruned
  pub few_drawn : v.drawn ≤ length (row_pairs 0 r.rows)
  pub drawn_below : v.drawn ≤ v.top
  pub drawn : HadMemory end → HasDrawnFor v r
  pub cause : HasEnded p i v r end
