-- Costs that passes announce, in searches of the worked model, whose lists cost 11 and 3.
use Rattle.std.specs.Prelude.{List, [], ◌∷◌, Option, Some, None, ℤ, pos}
use Rattle.dp_model.specs.declared.answers.Found.{Found}
use Rattle.dp_model.specs.declared.answers.Verdict.TheVariants as verdicts
use Rattle.pass_ledger.specs.Worked.{plain}
use Rattle.solve_passes.specs.Records.{Pass, Ended, Ending, OutOfMemory, RightAnnounced}
use Rattle.record_guards.specs.Records.{of_11, of_3, first, second}

-- a pass that announced these costs, and what it found
abbrev pub telling : List ℤ → Option Found → Pass
telling costs found = record { announced = Some (record { costs = costs; refused = 0 }); found = found; number = 1; share = 2; visited = 3; dropped = 0 }

abbrev pub optimal : Ending
optimal = Ended (verdicts.Optimal (pos 3))

pub record LawWorkedAnnounced : Type 0 where
  -- both costs in one pass, or each in its own; and nothing is announced
  pub both : RightAnnounced plain optimal (telling (pos 11 ∷ pos 3 ∷ []) (Some of_3) ∷ [])
  pub each : RightAnnounced plain optimal (telling (pos 11 ∷ []) (Some of_11) ∷ telling (pos 3 ∷ []) (Some of_3) ∷ [])
  pub silent : RightAnnounced plain optimal (first ∷ second ∷ [])
  -- the last pass before want of memory need not tell its best, and one before it has to
  pub cut_short : RightAnnounced plain OutOfMemory (telling (pos 11 ∷ []) (Some of_11) ∷ telling [] (Some of_3) ∷ [])
  pub not_the_last : RightAnnounced plain OutOfMemory (telling [] (Some of_11) ∷ telling (pos 3 ∷ []) (Some of_3) ∷ []) → ⊥
  -- a pass told less than it found, nothing, or more
  pub told_less : RightAnnounced plain optimal (telling (pos 11 ∷ []) (Some of_3) ∷ []) → ⊥
  pub told_nothing : RightAnnounced plain optimal (telling [] (Some of_3) ∷ []) → ⊥
  pub found_nothing : RightAnnounced plain optimal (telling (pos 3 ∷ []) None ∷ []) → ⊥
  -- a cost that is no better than one before, in its pass or in the run
  pub worse_again : RightAnnounced plain optimal (telling (pos 3 ∷ pos 11 ∷ []) (Some of_11) ∷ []) → ⊥
  pub same_again : RightAnnounced plain optimal (telling (pos 11 ∷ []) (Some of_11) ∷ telling (pos 11 ∷ pos 3 ∷ []) (Some of_3) ∷ []) → ⊥
  -- no list costs 2
  pub no_list : RightAnnounced plain optimal (telling (pos 2 ∷ []) (Some (record of_3 { cost = pos 2 })) ∷ []) → ⊥
