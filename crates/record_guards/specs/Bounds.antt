-- Records with a bound, of searches of the worked model with dual bounds: its state 2, which is come to at cost 2, has the floor 3.
use Rattle.std.specs.Prelude.{true, false, List, [], ◌∷◌, Option, Some, None, ℤ, pos}
use Rattle.dp_model.specs.declared.answers.Keep.TheVariants as keeps
use Rattle.dp_model.specs.declared.answers.Verdict.TheVariants as verdicts
use Rattle.pass_ledger.specs.Worked.{plain}
use Rattle.pass_ledger.specs.WorkedFloors.{bounded}
use Rattle.solve_passes.specs.Records.{Pass, Ended, Record, KeepsWord, RightBound}
use Rattle.record_guards.specs.Records.{pass, first, pruned, unpruned}

-- a record that was stopped, with a bound or without
abbrev pub stopped : List Pass → Option ℤ → Record
stopped passes bound = record { at_target = None; passes = passes; bound = bound; ending = Ended (verdicts.Stopped 4) }

abbrev pub two : List Pass
two = first ∷ pass 2 2 2 0 None ∷ []

abbrev pub one : List Pass
one = pass 1 1 4 0 None ∷ []

-- The floor 3 of the dropped node is a bound, and so is the printed cost 11; 2 is neither. There has to be one after a pass that was
-- closed before, and there is none after the first pass, where the gap is not asked for, and where the model has no dual bound.
pub record LawWorkedBounds : Type 0 where
  pub floor : RightBound bounded (pruned keeps.Layer) true (stopped two (Some (pos 3))) (Some (pos 3))
  pub printed : RightBound bounded (pruned keeps.Layer) true (stopped two (Some (pos 11))) (Some (pos 11))
  pub missing : RightBound bounded (pruned keeps.Layer) true (stopped two None) None → ⊥
  pub none_yet : RightBound bounded (pruned keeps.Layer) true (stopped one None) None
  pub too_early : RightBound bounded (pruned keeps.Layer) true (stopped one (Some (pos 3))) (Some (pos 3)) → ⊥
  pub not_asked : RightBound bounded (pruned keeps.Layer) false (stopped two (Some (pos 3))) (Some (pos 3)) → ⊥
  pub no_pruning : RightBound bounded (unpruned 4) true (stopped two (Some (pos 3))) (Some (pos 3)) → ⊥
  pub no_dual_bound : RightBound plain (pruned keeps.Layer) true (stopped two (Some (pos 3))) (Some (pos 3)) → ⊥
  -- no list costs less than 3, and one costs less than 4
  pub holds : KeepsWord bounded (pruned keeps.Layer) (Some (pos 3)) (Ended (verdicts.Stopped 4))
  pub too_good : KeepsWord bounded (pruned keeps.Layer) (Some (pos 4)) (Ended (verdicts.Stopped 4)) → ⊥
