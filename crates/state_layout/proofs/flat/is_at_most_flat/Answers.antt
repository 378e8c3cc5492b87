use Rattle.std.proofs.Common.{◌∙◌, refl, nat_eq, rules}
use Rattle.state_layout.proofs.Flattening.{first_words_test, same_at_most}
use Rattle.state_layout.proofs.flat.is_at_most_flat.Goals as goal

pub returns-then-is_set : goal.returns-then-is_set
returns-then-is_set c =
    first_words_test c.args.a.now c.args.b.now c.args.place c.args.slot c.requires.left c.requires.right (nat_eq c.first_word.result c.first_word-then-is_set.result) c.first_word.result c.first_word-then-is_set.result (λ k. (c.type_inv.a k).fits) (λ k. (c.type_inv.b k).fits) c.requires.flat c.first_word.ensures c.first_word-then-is_set.ensures refl
    ∙ same_at_most c.args.a.now c.args.b.now c.args.place (c.requires.left.kind ∙ search rules) (c.requires.right.kind ∙ search rules)
