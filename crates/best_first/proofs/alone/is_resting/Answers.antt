use Rattle.best_first.proofs.alone.is_resting.Goals as goal

pub returns : goal.returns
returns g c = λ yes. record { goes_on = c.has_stopped.ensures.goes_on c.if-has_stopped.false; idle = λ p r stands. (c.is_idle.ensures p r stands).0 yes }
