use Rattle.std.proofs.Common.{◌≡◌, true, false, List, sym, subst, ◌∙◌}
use Rattle.dp_model.specs.declared.trees.Cond.{Cond}
use Rattle.honest_preferences.specs.Answering.{AllEase}
use Rattle.honest_preferences.proofs.Simulation.{simulation_of}
use Rattle.honest_preferences.proofs.simulating.is_simulation.Goals.{then-starts_within, else-starts_within, then-all_ease, else-all_ease}
use Rattle.honest_preferences.proofs.simulating.is_simulation.Goals as goal

pub returns-then-cases_are_answered : goal.returns-then-cases_are_answered
returns-then-cases_are_answered c = λ yes.
    let m = c.args.at.now.model.now in
    let kept = c.args.at.now.kept.now in
    let ends = c.args.at.now.ends.now in
    elim c.if-all_ease.branch [
      | then-all_ease v ↦ elim c.if-starts_within.branch [
        | then-starts_within w ↦
            let allowed = subst (λ (cs : List Cond). AllEase m kept ends cs) w.constraints.ensures (w.all_ease.ensures (sym w.value-is ∙ v.if-all_ease.true)) in
            simulation_of m kept ends (c.starts_within.ensures w.if-starts_within.true) allowed (v.cases_are_answered.ensures (sym v.value-is ∙ c.if-cases_are_answered.true)) (c.all_are_followed.ensures yes)
        | else-starts_within w ↦ let clash : false ≡ true = sym w.if-starts_within.false ∙ sym w.value-is ∙ v.if-all_ease.true in absurd (cc)
      ]
      | else-all_ease v ↦ let clash : false ≡ true = sym v.if-all_ease.false ∙ sym v.value-is ∙ c.if-cases_are_answered.true in absurd (cc)
    ]
