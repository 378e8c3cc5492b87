use Rattle.honest_preferences.proofs.switches.switch_among.Given as goal

-- nothing is kept
abbrev pub invariant-loop-c : goal.invariant-loop-c
invariant-loop-c l = Unit {0}
