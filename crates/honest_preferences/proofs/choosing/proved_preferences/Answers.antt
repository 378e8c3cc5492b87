use Rattle.std.proofs.Common.{Bool, List, subst}
use Rattle.kept_model.specs.Honesty.{PreferencesHold}
use Rattle.kept_model.specs.Parts.{variables_with}
use Rattle.honest_preferences.proofs.choosing.proved_preferences.Goals as goal

pub returns-then-branch-clause-holds : goal.returns-then-branch-clause-holds
returns-then-branch-clause-holds c =
    let m = c.args.model.now in
    subst (λ (kept : List Bool). PreferencesHold m (variables_with kept m.variables)) c.deref.ensures.value (c.in_ok-are_proved.ensures c.if-branch.true)
