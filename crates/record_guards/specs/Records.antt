-- Records of searches of the worked model. Its first pass keeps one node of a layer, drops one, and finds the list of cost 11; its second
-- keeps two, drops none, and finds the list of cost 3.
use Rattle.std.specs.Prelude.{ℕ, true, false, List, [], ◌∷◌, Option, Some, None, pos}
use Rattle.dp_model.specs.declared.answers.FaultAt.{FaultAt}
use Rattle.dp_model.specs.declared.answers.FaultKind.TheVariants.{ZeroDivisor}
use Rattle.dp_model.specs.declared.answers.Found.{Found}
use Rattle.dp_model.specs.declared.answers.Keep.{Keep}
use Rattle.dp_model.specs.declared.answers.Keep.TheVariants as keeps
use Rattle.dp_model.specs.declared.answers.Options.{Options}
use Rattle.dp_model.specs.declared.answers.Spot.TheVariants as spots
use Rattle.dp_model.specs.declared.answers.Verdict.{Verdict}
use Rattle.dp_model.specs.declared.answers.Verdict.TheVariants as verdicts
use Rattle.pass_ledger.specs.Ladder.{ladder}
use Rattle.pass_ledger.specs.Worked.{plain}
use Rattle.pass_ledger.specs.WorkedFault.{faulty}
use Rattle.solve_passes.specs.Records.{Pass, Ended, OutOfMemory, Record, Right, KeepsWord}

-- one worker, without pruning, and with it
abbrev pub unpruned : (budget : ℕ) → Options
unpruned budget = record { workers = 1; budget = budget; prune = false; keep = keeps.Layer }

abbrev pub pruned : Keep → Options
pruned keep = record { workers = 1; budget = 6; prune = true; keep = keep }

abbrev pub of_11 : Found
of_11 = record { cost = pos 11; steps = 0 ∷ 2 ∷ [] }

abbrev pub of_3 : Found
of_3 = record { cost = pos 3; steps = 1 ∷ 3 ∷ [] }

-- a pass, its share, and what it found
abbrev pub pass : (number share visited dropped : ℕ) → Option Found → Pass
pass number share visited dropped found = record { announced = None; found = found; number = number; share = share; visited = visited; dropped = dropped }

abbrev pub first : Pass
first = pass 1 1 2 1 (Some of_11)

abbrev pub second : Pass
second = pass 2 2 3 0 (Some of_3)

-- a record without a solution before its first pass and without a bound
abbrev pub run : List Pass → Verdict → Record
run passes verdict = record { at_target = None; passes = passes; bound = None; ending = Ended verdict }

abbrev pub faulted : FaultAt
faulted = record { steps = 1 ∷ []; spot = spots.Bound 0; kind = ZeroDivisor }

pub record LawWorkedRecords : Type 0 where
  pub two_passes : Right plain (unpruned 6) false (run (first ∷ second ∷ []) (verdicts.Optimal (pos 3)))
  pub stopped : Right plain (unpruned 4) false (run (first ∷ pass 2 2 2 0 None ∷ []) (verdicts.Stopped 4))
  pub met_a_fault : Right faulty (pruned keeps.Layer) false (run [] (verdicts.Fault faulted))
  pub out_of_memory : Right plain (unpruned 6) false (record { at_target = None; passes = first ∷ []; bound = None; ending = OutOfMemory })
  -- the second solution has the cost of the first
  pub same_cost : Right plain (unpruned 6) false (run (first ∷ pass 2 2 3 0 (Some of_11) ∷ []) (verdicts.Optimal (pos 11))) → ⊥
  -- the cost of the verdict is not that of the last solution
  pub first_cost : Right plain (unpruned 6) false (run (first ∷ second ∷ []) (verdicts.Optimal (pos 11))) → ⊥
  -- three visits, under a budget of four
  pub stopped_early : Right plain (unpruned 4) false (run (first ∷ pass 2 2 1 0 None ∷ []) (verdicts.Stopped 3)) → ⊥
  -- four visits, of which three are told
  pub told_fewer : Right plain (unpruned 4) false (run (first ∷ pass 2 2 2 0 None ∷ []) (verdicts.Stopped 3)) → ⊥
  -- six visits are enough
  pub enough : Right plain (unpruned 6) false (run (first ∷ pass 2 2 3 1 (Some of_3) ∷ pass 3 4 1 0 None ∷ []) (verdicts.Stopped 6)) → ⊥
  -- no pass was made of an inner target
  pub no_pass : Right plain (unpruned 0) false (run [] (verdicts.Stopped 0)) → ⊥
  -- the second pass has the share of the first, or its number
  pub same_share : Right plain (unpruned 6) false (run (first ∷ pass 2 1 3 0 (Some of_3) ∷ []) (verdicts.Optimal (pos 3))) → ⊥
  pub same_number : Right plain (unpruned 6) false (run (first ∷ pass 1 2 3 0 (Some of_3) ∷ []) (verdicts.Optimal (pos 3))) → ⊥
  -- the first pass dropped a node
  pub ends_early : Right plain (unpruned 6) false (run (first ∷ []) (verdicts.Optimal (pos 11))) → ⊥
  -- the first pass dropped none
  pub goes_on : Right plain (unpruned 6) false (run (pass 1 1 2 0 (Some of_11) ∷ second ∷ []) (verdicts.Optimal (pos 3))) → ⊥
  -- there is a solution before the only pass
  pub not_infeasible : Right plain (unpruned 6) false (run (pass 1 1 2 0 (Some of_11) ∷ []) verdicts.Infeasible) → ⊥
  -- five visits, under a budget of four
  pub over_budget : Right plain (unpruned 4) false (run (first ∷ second ∷ []) (verdicts.Optimal (pos 3))) → ⊥
  -- four visits in one pass, where three nodes can be come to
  pub too_many : Right plain (unpruned 6) false (run (pass 1 1 4 0 (Some of_3) ∷ []) (verdicts.Optimal (pos 3))) → ⊥
  -- the list is no way to the base state
  pub no_list : Right plain (unpruned 6) false (run (first ∷ pass 2 2 3 0 (Some (record { cost = pos 3; steps = 1 ∷ [] })) ∷ []) (verdicts.Optimal (pos 3))) → ⊥
  -- with pruning off no bound is evaluated
  pub met_none : Right faulty (unpruned 6) false (run [] (verdicts.Fault faulted)) → ⊥
  -- these are verdicts of a replay
  pub replayed : Right plain (unpruned 6) false (run (first ∷ second ∷ []) (verdicts.Legal (pos 3))) → ⊥

-- What a verdict says of all lists: of the worked model, and of the ladder, which has a list and is honest only where nodes of a layer
-- alone cover its nodes.
pub record LawWorkedWords : Type 0 where
  pub best : KeepsWord plain (unpruned 6) None (Ended (verdicts.Optimal (pos 3)))
  pub not_best : KeepsWord plain (unpruned 6) None (Ended (verdicts.Optimal (pos 11))) → ⊥
  pub not_infeasible : KeepsWord plain (unpruned 6) None (Ended verdicts.Infeasible) → ⊥
  pub trusted : KeepsWord ladder (pruned keeps.Layer) None (Ended verdicts.Infeasible) → ⊥
  pub not_trusted : KeepsWord ladder (pruned keeps.All) None (Ended verdicts.Infeasible)
