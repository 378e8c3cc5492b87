-- What a best-first search that was stopped has proved of all legal lists.
use Rattle.std.specs.Prelude.{◌≡◌, ℕ, Bool, true, false, List, Option, Some, None, IfSome, option_to_list, ℤ}
use Rattle.cost_laws.specs.Orders.{InWideRange}
use Rattle.dp_model.specs.declared.answers.Keep.TheVariants.{All}
use Rattle.dp_model.specs.declared.whole.Model.{Model}
use Rattle.dp_steps.specs.Bounds.{has_floors}
use Rattle.pass_ledger.specs.Passes.{StartsInner}
use Rattle.width_loop.specs.Gaps.{pass_bound}
use Rattle.gap_laws.specs.Gaps.{IsShownBy, IsWordOf, IsBoundBy}
use Rattle.best_ledger.specs.Laws.{PrunesAbove}
use Rattle.best_ledger.specs.Ledgers.{IsBest}
use Rattle.best_ledger.specs.Records.{Together}
use Rattle.best_ledger.specs.Searches.{BestSearch, pass_of}
use Rattle.best_ledger.specs.declared.records.BestRecord.{BestRecord}
use Rattle.best_gap.specs.Frontiers.{IsFrontierFloor, AreFine}

-- The records of a search, done or not, with the best word after it. Where no shard met a fault, and no pruning used a lesser word,
-- the frontier shows what the dropped nodes of a pass do: where the model is honest, no legal list is better than both the best word
-- and the best floor.
abbrev pub LawFrontier : Type 0
LawFrontier =
    (b : BestSearch) (records : List BestRecord) (opening best : ℕ) (floor : Option ℤ) → StartsInner (pass_of b) → Together (pass_of b) records → IsBest (pass_of b) records opening best
    → PrunesAbove (pass_of b) records best → AreFine (pass_of b) records → IsFrontierFloor (pass_of b) records floor → IsShownBy (pass_of b) best floor

-- The bound of a stopped search: the better of the best solution's cost, if there is one, and of the best floor of the frontier. There
-- is none where the frontier has no floors.
abbrev pub search_bound : Bool → (best floor : Option ℤ) → Option ℤ
search_bound minimize best None = None
search_bound minimize best (Some floor) = Some (pass_bound minimize best floor)

-- There is a bound exactly where pruning is on and the model has a dual bound. It is the cost of the best solution or the floor of a
-- state that a path leads to; and where the model is honest, no legal list is better.
abbrev pub IsSearchBound : Model → (prune : Bool) → (best : Option ℤ) → Option ℤ → Type 0
IsSearchBound m prune best None = has_floors m prune ≡ false
IsSearchBound m prune best (Some bound) = (has_floors m prune ≡ true) × IsBoundBy m prune All (option_to_list best) bound

abbrev pub LawBound : Type 0
LawBound =
    (b : BestSearch) (word : ℕ) (best floor : Option ℤ) → IfSome best InWideRange → IsWordOf b.model word best → IsShownBy (pass_of b) word floor
    → IsSearchBound b.model b.prune best (search_bound b.model.minimize best floor)
