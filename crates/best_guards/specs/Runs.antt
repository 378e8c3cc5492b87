-- Runs of best-first searches, as records: of the worked model, whose target is visited, then the state 1, which gives the list of cost 11,
-- and then the state 2, which gives that of cost 3; of the idle shuttle, which has two states and no list; and of the worked model whose
-- bound has no value in the state 2.
use Rattle.std.specs.Prelude.{ℕ, Bool, true, false, [], ◌∷◌, Option, Some, None, pos}
use Rattle.std.proofs.Common.{refl}
use Rattle.dp_model.specs.declared.answers.FaultAt.{FaultAt}
use Rattle.dp_model.specs.declared.answers.FaultKind.TheVariants.{ZeroDivisor}
use Rattle.dp_model.specs.declared.answers.Found.{Found}
use Rattle.dp_model.specs.declared.answers.Keep.TheVariants as keeps
use Rattle.dp_model.specs.declared.answers.Options.{Options}
use Rattle.dp_model.specs.declared.answers.Spot.TheVariants as spots
use Rattle.dp_model.specs.declared.answers.Verdict.{Verdict}
use Rattle.dp_model.specs.declared.answers.Verdict.TheVariants as verdicts
use Rattle.dp_model.specs.declared.whole.Model.{Model}
use Rattle.pass_ledger.specs.Ladder.{ladder}
use Rattle.pass_ledger.specs.TwoWays.{at}
use Rattle.pass_ledger.specs.Worked.{plain}
use Rattle.pass_ledger.specs.WorkedFault.{faulty}
use Rattle.pass_ledger.specs.WorkedFloors.{bounded}
use Rattle.ledger_guards.specs.Shuttle.{idle}
use Rattle.best_ledger.specs.Right.{Ended, OutOfMemory, BestRun, RightBest, KeepsWordBest}

-- one worker, with pruning or without
abbrev pub options : (budget : ℕ) → (prune : Bool) → Options
options budget prune = record { workers = 1; budget = budget; prune = prune; keep = keeps.Layer }

abbrev pub of_11 : Found
of_11 = record { cost = pos 11; steps = 0 ∷ 2 ∷ [] }

abbrev pub of_3 : Found
of_3 = record { cost = pos 3; steps = 1 ∷ 3 ∷ [] }

-- what is printed of a run: its solution, the number of its visits, and its verdict
abbrev pub run : Option Found → (visited : Option ℕ) → Verdict → BestRun
run found visited verdict = record { found = found; visited = visited; ending = Ended verdict }

abbrev pub faulted : FaultAt
faulted = record { steps = 1 ∷ []; spot = spots.Bound 0; kind = ZeroDivisor }

-- the worked model where its target is the base state: the list without steps costs nothing
abbrev pub ended : Model
ended = record plain { target = at 3; held = refl }

abbrev pub of_0 : Found
of_0 = record { cost = pos 0; steps = [] }

pub record LawWorkedRuns : Type 0 where
  pub optimal : RightBest plain (options 3 false) (run (Some of_3) (Some 3) (verdicts.Optimal (pos 3)))
  pub infeasible : RightBest idle (options 3 false) (run None (Some 2) verdicts.Infeasible)
  pub stopped : RightBest plain (options 2 false) (run (Some of_11) (Some 2) (verdicts.Stopped 2))
  pub met_a_fault : RightBest faulty (options 3 true) (run None (Some 1) (verdicts.Fault faulted))
  pub out_of_memory : RightBest plain (options 3 false) (record { found = Some of_11; visited = None; ending = OutOfMemory })
  pub needs_no_search : RightBest ended (options 3 false) (run (Some of_0) None (verdicts.Optimal (pos 0)))
  -- the target is an inner state, so a search is needed, and no number of visits is told
  pub optimal_without_search : RightBest plain (options 3 false) (run (Some of_3) None (verdicts.Optimal (pos 3))) → ⊥
  pub infeasible_without_search : RightBest idle (options 3 false) (run None None verdicts.Infeasible) → ⊥
  pub stopped_without_search : RightBest plain (options 2 false) (run (Some of_11) None (verdicts.Stopped 2)) → ⊥
  -- the cost of the verdict is not that of the solution, or there is no solution, or there is one
  pub another_cost : RightBest plain (options 3 false) (run (Some of_11) (Some 3) (verdicts.Optimal (pos 3))) → ⊥
  pub no_solution : RightBest plain (options 3 false) (run None (Some 3) (verdicts.Optimal (pos 3))) → ⊥
  pub a_solution : RightBest plain (options 3 false) (run (Some of_11) (Some 3) verdicts.Infeasible) → ⊥
  -- two visits, under a budget of three; and two of which one is told
  pub stopped_early : RightBest plain (options 3 false) (run (Some of_11) (Some 2) (verdicts.Stopped 2)) → ⊥
  pub told_fewer : RightBest plain (options 2 false) (run (Some of_11) (Some 1) (verdicts.Stopped 2)) → ⊥
  -- three visits are enough
  pub enough : RightBest plain (options 3 false) (run (Some of_3) (Some 3) (verdicts.Stopped 3)) → ⊥
  -- three visits, under a budget of two; and four, where there are three pairs of a state and a cost
  pub over_budget : RightBest plain (options 2 false) (run (Some of_3) (Some 3) (verdicts.Optimal (pos 3))) → ⊥
  pub too_many : RightBest plain (options 6 false) (run (Some of_3) (Some 4) (verdicts.Optimal (pos 3))) → ⊥
  -- the list is no way to the base state
  pub no_list : RightBest plain (options 3 false) (run (Some (record { cost = pos 3; steps = 1 ∷ [] })) (Some 3) (verdicts.Optimal (pos 3))) → ⊥
  -- with pruning off no bound is evaluated
  pub met_none : RightBest faulty (options 3 false) (run None (Some 1) (verdicts.Fault faulted)) → ⊥
  -- this is a verdict of a replay
  pub replayed : RightBest plain (options 3 false) (run (Some of_3) (Some 3) (verdicts.Legal (pos 3))) → ⊥

-- What a verdict says of all lists. The ladder has a list, and with pruning on nothing is promised of it, since it is not honest where
-- nodes of any length cover. The bounded model is honest.
pub record LawWorkedWords : Type 0 where
  pub best : KeepsWordBest plain (options 3 false) (Ended (verdicts.Optimal (pos 3)))
  pub not_best : KeepsWordBest plain (options 3 false) (Ended (verdicts.Optimal (pos 11))) → ⊥
  pub not_infeasible : KeepsWordBest plain (options 3 false) (Ended verdicts.Infeasible) → ⊥
  pub infeasible : KeepsWordBest idle (options 3 false) (Ended verdicts.Infeasible)
  pub not_trusted : KeepsWordBest ladder (options 3 true) (Ended verdicts.Infeasible)
  pub without_pruning : KeepsWordBest ladder (options 3 false) (Ended verdicts.Infeasible) → ⊥
  pub honest : KeepsWordBest bounded (options 3 true) (Ended (verdicts.Optimal (pos 11))) → ⊥
