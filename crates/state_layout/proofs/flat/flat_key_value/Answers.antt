use Rattle.std.proofs.Common.{◌≡◌, ◌∙◌, ◌∷◌, [], true, ap, sym, refl}
use Rattle.std.specs.Prelude.{◌||◌}
use Rattle.std.proofs.lemmas.Bool.{false≢true}
use Rattle.dp_model.specs.Typing.{is_without}
use Rattle.state_layout.specs.Packing.{is_set}
use Rattle.state_layout.specs.Keys.{key_onto}
use Rattle.state_layout.proofs.Flattening.{one_word, no_word}
use Rattle.state_layout.proofs.flat.flat_key_value.Goals as goal
use Rattle.state_layout.proofs.flat.flat_key_value.Goals.{then-is_set, else-is_set}

pub returns-then-is_without : goal.returns-then-is_without
returns-then-is_without c =
    let has_word : (is_set c.args.slot.kind || is_without c.args.slot.preference) ≡ true = (elim c.if-is_set.branch [
      | then-is_set w ↦ rw (sym c.is_set.ensures ∙ w.if-is_set.true) refl
      | else-is_set w ↦ rw (sym c.is_set.ensures ∙ w.if-is_set.false) (sym w.is_without.ensures ∙ sym w.value-is ∙ c.if-is_without.true)
    ]) in
    c.key_step.ensures ∙ ap (λ w. key_onto c.args.key (w ∷ [])) c.first_word.ensures ∙ ap (key_onto c.args.key) (one_word c.args.words.now c.args.place c.args.slot c.requires.held (λ k. (c.type_inv.words k).fits) c.requires.flat has_word)

pub returns-else-is_without : goal.returns-else-is_without
returns-else-is_without c = elim c.if-is_set.branch [
  | then-is_set w ↦ absurd (false≢true (sym c.if-is_without.false ∙ w.value-is ∙ w.if-is_set.true))
  | else-is_set w ↦ ap (key_onto c.args.key) (no_word c.args.words.now c.args.place c.args.slot c.requires.held (sym c.is_set.ensures ∙ w.if-is_set.false) (sym w.is_without.ensures ∙ sym w.value-is ∙ c.if-is_without.false))
]
