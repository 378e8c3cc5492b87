-- How a pass ended, and what it announced.
use Rattle.std.specs.Prelude.{◌≡◌, ℕ, ◌≤◌, ◌⊎◌, min, true, false, List, [], ◌∷◌, length, Option, Some, option_map, ℤ, pos}
use Rattle.announce_laws.specs.Called.{AreRefused}
use Rattle.announce_laws.specs.Last.{Improving, word_or_none}
use Rattle.announcing.specs.Telling.{announce_text}
use Rattle.board_words.specs.Steps.{best_known}
use Rattle.board_words.specs.declared.seat.View.{View}
use Rattle.dp_claims.specs.Enough.{Has}
use Rattle.dp_model.specs.declared.answers.Cause.TheVariants as causes
use Rattle.dp_model.specs.declared.answers.Found.{Found}
use Rattle.dp_model.specs.declared.whole.Model.{Model}
use Rattle.dp_outside.specs.Outside.{Rose, Takes, TakesFront}
use Rattle.dp_steps.specs.Lists.{Solution}
use Rattle.pass_ends.specs.Ends.{IsPassEnd}
use Rattle.pass_ends.specs.declared.answers.PassEnd.{PassEnd}
use Rattle.pass_ends.specs.declared.answers.PassEnd.TheVariants as ends
use Rattle.pass_ledger.specs.Passes.{Pass}
use Rattle.pass_ledger.specs.Records.{Together}
use Rattle.pass_ledger.specs.declared.records.ShardRecord.{ShardRecord}
use Rattle.pass_over.specs.declared.announced.AnnouncedEnd.{AnnouncedEnd}

-- ---- how a pass ended

-- memory ran out
abbrev pub RanOut : PassEnd → Type 0
RanOut (ends.Closed visited dropped floor best) = ⊥
RanOut (ends.Halted cause visited dropped best) = cause ≡ causes.Memory

-- the best solution of a pass
abbrev pub best_in : PassEnd → Option Found
best_in (ends.Closed visited dropped floor best) = best
best_in (ends.Halted cause visited dropped best) = best

-- and its cost
abbrev pub cost_in : PassEnd → Option ℤ
cost_in end = option_map (λ (f : Found). f.cost) (best_in end)

-- ---- what it announced

-- the last of these costs, or the one before them
abbrev pub last_or : Option ℤ → List ℤ → Option ℤ
last_or last [] = last
last_or last (c ∷ cs) = last_or (Some c) cs

-- A pass after this last cost announced costs of legal lists, each strictly better than the one before. Their lines were written
-- and counted, or a write failed, and a front of these lines was written.
pub record HasAnnounced (m : Model) (last : Option ℤ) (before after : Option (List ℕ)) (faults_before faults_after : ℕ) (r : AnnouncedEnd) : Type 0 where
  pub costs : List ℤ
  pub legal : (c : ℤ) → Has costs c → (steps : List ℕ) × Solution m steps c
  pub improving : Improving m.minimize last costs
  pub written : r.failed ≡ false → Takes before after (announce_text costs) × (r.announced ≡ length costs) × (r.last ≡ last_or last costs)
  pub stopped : r.failed ≡ true → TakesFront before after (announce_text costs) × Rose faults_before faults_after
  pub count : faults_before ≤ faults_after

-- Where the last announced cost had the best word before a pass in which no write failed and memory did not run out, the last one
-- after it has the best word after it.
abbrev pub HasLast : Model → (before after : ℕ) → (last : Option ℤ) → AnnouncedEnd → Type 0
HasLast m before after last r = r.failed ≡ false → (RanOut r.end → ⊥) → pos before ≡ word_or_none m last → pos after ≡ word_or_none m r.last

-- So many calls of a pass found no room, counted up to 2^64 - 1: there are records of its shards, done or not, of which it is so; or none
-- was refused.
abbrev pub HasRefused : Pass → (count : ℕ) → Type 0
HasRefused p count = (count ≡ 0) ⊎ ((records : List ShardRecord) × (all : ℕ) × Together p records × AreRefused p records all × (count ≡ min all 18446744073709551615))

-- a pass ended so, announced this, and refused so many calls
abbrev pub EndsAnnounced : Pass → (was now : View) → (last : Option ℤ) → (before after : Option (List ℕ)) → (faults_before faults_after : ℕ) → AnnouncedEnd → Type 0
EndsAnnounced p was now last before after faults_before faults_after r =
    IsPassEnd p was now r.end × HasAnnounced p.model last before after faults_before faults_after r × HasLast p.model (best_known was) (best_known now) last r × HasRefused p r.refused
