use Rattle.std.proofs.Common.{◌≡◌, ◌∙◌, sym, ap, map, ℕ}
use Rattle.std.specs.List.{range_with_len}
use Rattle.state_layout.specs.Packing.{members_in}
use Rattle.state_layout.specs.Signatures.{set_word}
use Rattle.state_layout.specs.Keys.{key_step, key_onto}
use Rattle.state_layout.proofs.Decoding.{set_word_is}
use Rattle.state_layout.proofs.Keying.{key_set_more}
use Rattle.state_layout.proofs.keys.key_set.Goals as goal

pub loop-number-preserved : goal.loop-number-preserved
loop-number-preserved c =
    let word : c.word_in.result ≡ set_word (members_in c.args.words.now c.args.place) c.loop-number.number = c.word_in.ensures.word ∙ sym (set_word_is c.args.words.now c.args.place c.loop-number.number c.requires.held.inside c.loop-number.invariant.1) in (
      c.key_step-mixed.ensures
          ∙ ap (λ (k : ℕ). key_step k c.word_in.result) c.loop-number.invariant.0
          ∙ ap (λ (w : ℕ). key_step (key_onto c.args.key (map (set_word (members_in c.args.words.now c.args.place)) (range_with_len 0 c.loop-number.number))) w) word
          ∙ key_set_more c.args.key (members_in c.args.words.now c.args.place) c.loop-number.number,
      c.loop-number.invariant.1,
    )
