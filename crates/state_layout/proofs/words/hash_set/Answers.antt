use Rattle.std.proofs.Common.{◌≡◌, ◌∙◌, sym, ap, map, fold, ℕ}
use Rattle.std.specs.List.{range_with_len}
use Rattle.std.specs.Int.{to_le_bytes, w64}
use Rattle.state_layout.specs.Packing.{members_in}
use Rattle.state_layout.specs.Signatures.{set_word, hash_byte, hash_onto}
use Rattle.state_layout.proofs.Decoding.{set_word_is}
use Rattle.state_layout.proofs.Signing.{hash_set_more}
use Rattle.state_layout.proofs.words.hash_set.Goals as goal

pub loop-number-preserved : goal.loop-number-preserved
loop-number-preserved c =
    let word : c.word_in.result ≡ set_word (members_in c.args.words.now c.args.place) c.loop-number.number = c.word_in.ensures.word ∙ sym (set_word_is c.args.words.now c.args.place c.loop-number.number c.requires.held.inside c.loop-number.invariant.1) in (
      c.hash_word-hashed.ensures
          ∙ ap (λ (h : ℕ). fold hash_byte h (to_le_bytes w64 c.word_in.result)) c.loop-number.invariant.0
          ∙ ap (λ (w : ℕ). fold hash_byte (hash_onto c.args.hash (map (set_word (members_in c.args.words.now c.args.place)) (range_with_len 0 c.loop-number.number))) (to_le_bytes w64 w)) word
          ∙ hash_set_more c.args.hash (members_in c.args.words.now c.args.place) c.loop-number.number,
      c.loop-number.invariant.1,
    )
