use Rattle.std.proofs.Common.{Bool, List, subst}
use Rattle.kept_model.specs.Honesty.{PreferencesHold}
use Rattle.kept_model.specs.Parts.{variables_with}
use Rattle.honest_preferences.proofs.Choices.{added_one}
use Rattle.honest_preferences.proofs.choosing.tried.Goals as goal

pub returns-then-branch-clause-holds : goal.returns-then-branch-clause-holds
returns-then-branch-clause-holds c = λ _.
    let m = c.args.model.now in
    subst (λ (kept : List Bool). PreferencesHold m (variables_with kept m.variables)) c.deref-2.ensures.value (c.in_ok-are_proved.ensures c.if-branch.true)

pub returns-then-branch-clause-among : goal.returns-then-branch-clause-among
returns-then-branch-clause-among c = added_one c.args.kept.items c.deref.result.now c.in_ok-more.more.items c.args.place c.deref.ensures.value c.in_ok-more.ensures
