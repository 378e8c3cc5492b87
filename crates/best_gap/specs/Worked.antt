-- A search of the worked model with floors, by one shard, that was stopped after two visits, written out: the target was visited, then the
-- state whose way costs 11. The state whose way costs 3 is in a letter that was posted and not taken, and its floor is 3.
use Rattle.std.specs.Prelude.{◌≡◌, true, List, [], ◌∷◌, Option, Some, None, ℤ, pos}
use Rattle.std.proofs.Math.Nat.{zero-lt-suc}
use Rattle.dp_steps.specs.Lists.{Solution}
use Rattle.pass_ledger.specs.Ledgers.{NoneBelowBoth}
use Rattle.pass_ledger.specs.Passes.{word_of}
use Rattle.pass_ledger.specs.Worked.{held, word_11, no_word}
use Rattle.pass_ledger.specs.WorkedFloors.{bounded, f0, f1, f2}
use Rattle.best_ledger.specs.Histories.{letter, visit}
use Rattle.best_ledger.specs.Laws.{PrunesAbove}
use Rattle.best_ledger.specs.Ledgers.{IsBest}
use Rattle.best_ledger.specs.Records.{Together}
use Rattle.best_ledger.specs.Searches.{BestSearch, pass_of}
use Rattle.best_ledger.specs.declared.letters.BestLetter.{BestLetter}
use Rattle.best_ledger.specs.declared.records.Moment.{Moment}
use Rattle.best_ledger.specs.declared.records.Moment.TheVariants.{Came, Visited}
use Rattle.best_ledger.specs.declared.records.BestRecord.{BestRecord}
use Rattle.best_gap.specs.Frontiers.{IsFrontierFloor, AreFine}

-- a search by one shard, with pruning
abbrev pub alone : BestSearch
alone = record { model = bounded; prune = true; shards = 1; owner = λ s. 0; owned = λ s. zero-lt-suc 0 }

abbrev pub letters : List BestLetter
letters = letter 0 1 f1 ∷ letter 0 1 f2 ∷ []

abbrev pub story : List Moment
story = Visited (visit 1 f0) ∷ Came (letter 0 1 f1) ∷ Visited (visit 2 f1) ∷ []

abbrev pub stopped : BestRecord
stopped = record { start = Some f0; history = story; waiting = []; unsent = []; posted = letters ∷ []; held = Some (held (pos 11) 1 2); fault = None }

-- The record is one of a search, and 3 is the best floor of its frontier, and no other number. So no legal list costs less than both 11
-- and 3; and there is one of cost 3, so that 11 alone, the best without the letter on its way, is no bound.
pub record LawWorkedGap : Type 0 where
  pub together : Together (pass_of alone) (stopped ∷ [])
  pub is_best : IsBest (pass_of alone) (stopped ∷ []) no_word word_11
  pub prunes : PrunesAbove (pass_of alone) (stopped ∷ []) word_11
  pub fine : AreFine (pass_of alone) (stopped ∷ [])
  pub floor : IsFrontierFloor (pass_of alone) (stopped ∷ []) (Some (pos 3))
  pub only : (floor : Option ℤ) → IsFrontierFloor (pass_of alone) (stopped ∷ []) floor → floor ≡ Some (pos 3)
  pub none : NoneBelowBoth (pass_of alone) (pos word_11) (word_of (pass_of alone) (pos 3))
  pub some : Solution bounded (1 ∷ 3 ∷ []) (pos 3)
