use Rattle.std.proofs.Common.{◌∙◌, ap, rules, ◌∷◌, []}
use Rattle.state_layout.specs.Signatures.{hash_onto}
use Rattle.state_layout.proofs.Stepping.{set_value_words, number_value_words, no_value_words, hash_one}
use Rattle.state_layout.proofs.words.hash_value.Goals as goal

pub returns-then-is_set : goal.returns-then-is_set
returns-then-is_set c = c.hash_set.ensures ∙ ap (hash_onto c.args.hash) (set_value_words c.args.words.now c.args.place c.args.slot (c.requires.held.kind ∙ search rules))

pub returns-then-is_without : goal.returns-then-is_without
returns-then-is_without c = c.hash_word.ensures ∙ hash_one c.args.hash c.first_word.result ∙ ap (λ w. hash_onto c.args.hash (w ∷ [])) c.first_word.ensures ∙ ap (hash_onto c.args.hash) (number_value_words c.args.words.now c.args.place c.args.slot (c.requires.held.kind ∙ search rules) (search rules) (λ k. (c.type_inv.words k).fits))

pub returns-else-is_without : goal.returns-else-is_without
returns-else-is_without c = ap (hash_onto c.args.hash) (no_value_words c.args.words.now c.args.place c.args.slot (c.requires.held.kind ∙ search rules) (search rules))
