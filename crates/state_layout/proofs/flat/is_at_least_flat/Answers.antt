use Rattle.std.proofs.Common.{◌∙◌, ap, sym, refl, nat_eq}
use Rattle.dp_model.specs.declared.parts.Preference.{Preference}
use Rattle.state_layout.specs.Packing.{value_in}
use Rattle.state_layout.specs.Tests.{is_at_least}
use Rattle.state_layout.proofs.Flattening.{first_words_test}
use Rattle.state_layout.proofs.flat.is_at_least_flat.Goals as goal

pub returns-in-Without : goal.returns-in-Without
returns-in-Without c =
    first_words_test c.args.a.now c.args.b.now c.args.place c.args.slot c.requires.left c.requires.right (nat_eq c.first_word.result c.first_word-in-Without.result) c.first_word.result c.first_word-in-Without.result (λ k. (c.type_inv.a k).fits) (λ k. (c.type_inv.b k).fits) c.requires.flat c.first_word.ensures c.first_word-in-Without.ensures refl
    ∙ sym (ap (λ (p : Preference). is_at_least p (value_in c.args.a.now c.args.place) (value_in c.args.b.now c.args.place)) c.in-Without.is)
