use Rattle.std.proofs.Common.{◌≡◌, ◌∙◌, ◌∷◌, [], ◌++◌, rules, sym, ap, ℕ, List}
use Rattle.state_layout.specs.Packing.{members_in}
use Rattle.state_layout.specs.Signatures.{set_word}
use Rattle.state_layout.proofs.Decoding.{set_word_is}
use Rattle.state_layout.proofs.Signing.{set_words_more}
use Rattle.state_layout.proofs.words.push_set.Goals as goal

pub loop-number-preserved : goal.loop-number-preserved
loop-number-preserved c =
    let word : c.word_in.result ≡ set_word (members_in c.args.words.now c.args.place) c.loop-number.number = c.word_in.ensures.word ∙ sym (set_word_is c.args.words.now c.args.place c.loop-number.number c.requires.held.inside c.loop-number.invariant.1) in
    let pushed : c.push.new.self.items ≡ c.loop-number.signature.items ++ c.word_in.result ∷ [] = search rules in (
      pushed
          ∙ ap (λ (w : ℕ). c.loop-number.signature.items ++ w ∷ []) word
          ∙ ap (λ (xs : List ℕ). xs ++ set_word (members_in c.args.words.now c.args.place) c.loop-number.number ∷ []) c.loop-number.invariant.0
          ∙ set_words_more (members_in c.args.words.now c.args.place) c.loop-number.number c.args.signature.now.items,
      c.loop-number.invariant.1,
    )
