-- Answers of best-first searches, with the views of the board's whole seat before and after them.
use Rattle.std.specs.Prelude.{◌≡◌, ℕ, ◌-◌, true, false, [], ◌∷◌, Option, Some, None, ℤ, pos}
use Rattle.std.proofs.Math.Nat.{zero-lt-suc}
use Rattle.board_words.specs.Rules.{whole_part, no_word}
use Rattle.board_words.specs.declared.seat.View.{View}
use Rattle.dp_model.specs.declared.answers.Cause.TheVariants as causes
use Rattle.dp_model.specs.declared.answers.Found.{Found}
use Rattle.pass_ledger.specs.Worked.{plain, n0, held, word_3}
use Rattle.pass_ledger.specs.WorkedFault.{faulty}
use Rattle.best_ledger.specs.Events.{fresh}
use Rattle.best_ledger.specs.Searches.{BestSearch}
use Rattle.best_ledger.specs.Worked.{alone, searched}
use Rattle.best_ledger.specs.declared.records.BestRecord.{BestRecord}
use Rattle.best_ends.specs.Ends.{IsBestEnd, IsBestOf, IsClosed}
use Rattle.best_ends.specs.declared.answers.BestEnd.TheVariants as ends
use Rattle.best_guards.specs.Runs.{of_11, of_3, faulted}

-- The view of the whole seat of a board with this limit of visits: how many numbers were drawn, the halt, and the least word offered.
abbrev pub whole : (limit drawn raised offered : ℕ) → View
whole limit drawn raised offered =
    record { part = whole_part; opening = no_word; limit = limit; seen = no_word; offered = offered; drawn = drawn; late = drawn - limit; top = drawn; raised = raised; met = raised }

-- before a search with a budget of four
abbrev pub before : View
before = whole 4 0 0 no_word

-- the best solution has this cost
abbrev pub Costs : Option Found → ℤ → Type 0
Costs best cost = (f : Found) × (best ≡ Some f) × (f.cost ≡ cost)

-- ---- closed searches

-- The search of the worked model visits three nodes and finds a list of cost 3. From its board no other answer follows, and none from a
-- board with a halt, with a late number, or with four numbers drawn. No search that closed visited nothing.
pub record LawWorkedClosed : Type 0 where
  pub closed : IsBestEnd alone before (whole 4 3 0 word_3) (ends.Closed 3 (Some of_3))
  pub only : (visited : ℕ) (best : Option Found) → IsBestEnd alone before (whole 4 3 0 word_3) (ends.Closed visited best) → (visited ≡ 3) × Costs best (pos 3)
  pub only_of_ledger : (v w : View) (visited : ℕ) (best : Option Found) (c : IsClosed alone v w visited best) → c.records ≡ searched ∷ [] → (visited ≡ 3) × Costs best (pos 3)
  pub was_halted : (visited : ℕ) (best : Option Found) → IsBestEnd alone before (whole 4 3 3 word_3) (ends.Closed visited best) → ⊥
  pub late : (visited : ℕ) (best : Option Found) → IsBestEnd alone before (whole 4 5 0 word_3) (ends.Closed visited best) → ⊥
  pub too_many : (visited : ℕ) (best : Option Found) → IsBestEnd alone before (whole 4 4 0 word_3) (ends.Closed visited best) → ⊥

-- ---- halted searches

-- the search that meets a fault, by one shard
abbrev pub meeting : BestSearch
meeting = record { model = faulty; prune = true; shards = 1; owner = λ s. 0; owned = λ s. zero-lt-suc 0 }

-- A search without a budget visits nothing, and is halted. So is one that meets a fault. No other cause follows from their boards, and the
-- best word is that of the best solution.
pub record LawWorkedHalted : Type 0 where
  pub spent : IsBestEnd alone (whole 0 0 0 no_word) (whole 0 1 1 no_word) (ends.Halted causes.Budget 0 None)
  pub no_visit : (visited : ℕ) (best : Option Found) → IsBestEnd alone (whole 0 0 0 no_word) (whole 0 1 1 no_word) (ends.Halted causes.Budget visited best) → visited ≡ 0
  pub fault : IsBestEnd meeting before (whole 4 1 3 no_word) (ends.Halted (causes.Fault faulted) 1 None)
  pub fault_not_raised : (visited : ℕ) (best : Option Found) → IsBestEnd meeting before (whole 4 1 1 no_word) (ends.Halted (causes.Fault faulted) visited best) → ⊥
  pub fault_not_met : (visited : ℕ) (best : Option Found) → IsBestEnd (record meeting { prune = false }) before (whole 4 1 3 no_word) (ends.Halted (causes.Fault faulted) visited best) → ⊥
  pub no_halt : (visited : ℕ) (best : Option Found) → IsBestEnd alone before (whole 4 5 0 no_word) (ends.Halted causes.Budget visited best) → ⊥
  pub want_of_memory : (visited : ℕ) (best : Option Found) → IsBestEnd alone before (whole 4 5 2 no_word) (ends.Halted causes.Budget visited best) → ⊥
  pub a_fault : (visited : ℕ) (best : Option Found) → IsBestEnd alone before (whole 4 5 3 no_word) (ends.Halted causes.Budget visited best) → ⊥
  pub none_late : (visited : ℕ) (best : Option Found) → IsBestEnd alone before (whole 4 3 1 no_word) (ends.Halted causes.Budget visited best) → ⊥
  pub not_lowered : (limit drawn visited : ℕ) → IsBestEnd alone (whole limit 0 0 no_word) (whole limit drawn 1 no_word) (ends.Halted causes.Budget visited (Some of_3)) → ⊥
  pub lowered_by_none : (limit drawn visited : ℕ) → IsBestEnd alone (whole limit 0 0 no_word) (whole limit drawn 1 word_3) (ends.Halted causes.Budget visited None) → ⊥

-- ---- the best that the shards hold

-- a search by two shards, and the record of the one that holds the list of cost 11
abbrev pub two_shards : BestSearch
two_shards = record { model = plain; prune = false; shards = 2; owner = λ s. 0; owned = λ s. zero-lt-suc 1 }

abbrev pub other : BestRecord
other = record searched { held = Some (held (pos 11) 1 2) }

pub record LawWorkedBests : Type 0 where
  pub held : IsBestOf alone (searched ∷ []) (Some of_3)
  pub not_told : IsBestOf alone (searched ∷ []) None → ⊥
  pub another : IsBestOf alone (searched ∷ []) (Some of_11) → ⊥
  pub none_held : IsBestOf alone (fresh 1 (Some n0) ∷ []) None
  pub not_held : IsBestOf alone (fresh 1 (Some n0) ∷ []) (Some of_3) → ⊥
  pub of_both : IsBestOf two_shards (other ∷ searched ∷ []) (Some of_3)
  pub first_alone : IsBestOf two_shards (other ∷ searched ∷ []) (Some of_11) → ⊥
