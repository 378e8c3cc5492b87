use Rattle.std.proofs.Common.{◌≡◌, ◌∙◌, ◌++◌, ◌-◌, ◌*◌, ℕ, List, eqb, arith, rules, ap}
use Rattle.std.specs.Int.{bit_at}
use Rattle.std.specs.List.{filter, range_with_len}
use Rattle.state_layout.proofs.Decoding.{word_members, members_below}
use Rattle.state_layout.proofs.unpacking.members_of.Goals as goal

pub loop-number-preserved : goal.loop-number-preserved
loop-number-preserved c =
    let pushed : c.push_word.new.members.items ≡ c.loop-number.members.items ++ filter (λ k. eqb (bit_at c.word_in-word.result (k - c.loop-number.number * 64)) 1) (range_with_len (c.loop-number.number * 64) 64) = search rules in
    pushed ∙ ap (λ (xs : List ℕ). xs ++ filter (λ k. eqb (bit_at c.word_in-word.result (k - c.loop-number.number * 64)) 1) (range_with_len (c.loop-number.number * 64) 64)) c.loop-number.invariant
    ∙ word_members c.args.words.now c.args.place c.loop-number.number (c.loop-number.number * 64) c.word_in-word.result (omega arith) c.word_in-word.ensures.word

pub returns : goal.returns
returns c = c.loop-number.invariant ∙ members_below c.args.words.now c.args.place (64 * c.loop-number.number) c.requires.held.inside (λ m l. c.requires.held.below m c.requires.kind (omega (arith, c.word_count-number-end.ensures)))
