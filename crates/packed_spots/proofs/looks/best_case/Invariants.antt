use Rattle.std.proofs.Common.{◌≡◌, None, drop}
use Rattle.state_layout.specs.Packing.{state_in}
use Rattle.spot_eval.specs.Looks.{best_case}
use Rattle.packed_spots.proofs.looks.best_case.Given as goal

-- what is left decides
abbrev pub invariant-loop-number : goal.invariant-loop-number
invariant-loop-number l = best_case l.model (state_in l.at.words.now) l.number l.best (drop l.number l.model.base_cases) ≡ best_case l.model (state_in l.at.words.now) 0 None l.model.base_cases
