use Rattle.honest_preferences.proofs.easing.moves_apart.Goals as goal

pub returns : goal.returns
returns c = λ yes. let h = c.both.ensures yes in (c.is_no_greater.ensures h.0, c.is_no_less.ensures h.1)
