use Rattle.std.proofs.Common.{◌≡◌, drop}
use Rattle.state_layout.specs.Packing.{state_in}
use Rattle.spot_eval.specs.Moves.{effects_at}
use Rattle.packed_spots.specs.Changes.{all_changed_by}
use Rattle.packed_spots.proofs.effects.set_variables.Given as goal

-- the slots stay, and what is left decides
abbrev pub invariant-loop-place : goal.invariant-loop-place
invariant-loop-place l =
    (l.draft.slots ≡ l.at.slots.now) × (all_changed_by l.draft (effects_at l.at.model.now (state_in l.at.words.now) l.number l.at.args.now l.place (drop l.place l.effects))
    ≡ all_changed_by l.fn.draft (effects_at l.at.model.now (state_in l.at.words.now) l.number l.at.args.now 0 l.effects))
