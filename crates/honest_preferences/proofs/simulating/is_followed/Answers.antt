use Rattle.std.proofs.Common.{◌≡◌, true, false, sym, ◌∙◌}
use Rattle.honest_preferences.proofs.simulating.is_followed.Goals.{then-is_answered, else-is_answered}
use Rattle.honest_preferences.proofs.simulating.is_followed.Goals as goal

pub returns-then-not-forced : goal.returns-then-not-forced
returns-then-not-forced c = λ _. elim c.if-is_answered.branch [
  | then-is_answered w ↦ record {
    answers = c.is_answered.ensures w.if-is_answered.true;
    stays = w.keeps_ends.ensures (sym w.value-is ∙ c.if-keeps_ends.true);
    alike = λ forced. let clash : false ≡ true = sym c.if-not-forced.true ∙ c.forced.ensures ∙ forced in absurd (cc);
  }
  | else-is_answered w ↦ let clash : false ≡ true = sym w.if-is_answered.false ∙ sym w.value-is ∙ c.if-keeps_ends.true in absurd (cc)
]

pub returns-else-not-forced : goal.returns-else-not-forced
returns-else-not-forced c = λ yes. elim c.if-is_answered.branch [
  | then-is_answered w ↦ record {
    answers = c.is_answered.ensures w.if-is_answered.true;
    stays = w.keeps_ends.ensures (sym w.value-is ∙ c.if-keeps_ends.true);
    alike = λ _. c.is_alike.ensures yes;
  }
  | else-is_answered w ↦ let clash : false ≡ true = sym w.if-is_answered.false ∙ sym w.value-is ∙ c.if-keeps_ends.true in absurd (cc)
]
