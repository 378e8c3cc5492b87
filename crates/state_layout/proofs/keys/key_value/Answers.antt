use Rattle.std.proofs.Common.{◌∙◌, ap, rules, ◌∷◌, []}
use Rattle.state_layout.specs.Keys.{key_onto}
use Rattle.state_layout.proofs.Stepping.{set_value_words, number_value_words, no_value_words}
use Rattle.state_layout.proofs.keys.key_value.Goals as goal

pub returns-then-is_set : goal.returns-then-is_set
returns-then-is_set c = c.key_set.ensures ∙ ap (key_onto c.args.key) (set_value_words c.args.words.now c.args.place c.args.slot (c.requires.held.kind ∙ search rules))

pub returns-then-is_without : goal.returns-then-is_without
returns-then-is_without c = c.key_step.ensures ∙ ap (λ w. key_onto c.args.key (w ∷ [])) c.first_word.ensures ∙ ap (key_onto c.args.key) (number_value_words c.args.words.now c.args.place c.args.slot (c.requires.held.kind ∙ search rules) (search rules) (λ k. (c.type_inv.words k).fits))

pub returns-else-is_without : goal.returns-else-is_without
returns-else-is_without c = ap (key_onto c.args.key) (no_value_words c.args.words.now c.args.place c.args.slot (c.requires.held.kind ∙ search rules) (search rules))
