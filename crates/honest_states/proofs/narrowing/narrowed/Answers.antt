use Rattle.honest_states.proofs.Lists.{if_ok}
use Rattle.honest_states.proofs.narrowing.narrowed.Goals as goal

pub returns : goal.returns
returns c = if_ok c.mode_by-in-None.result _ _ c.mode_by-in-None.ensures (λ answer h v s fits shows one held. h v s fits (c.nothing-told.ensures v) shows held)
