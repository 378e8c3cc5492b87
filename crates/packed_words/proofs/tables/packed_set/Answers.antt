use Rattle.std.proofs.Common.{◌≡◌, replicate, rules}
use Rattle.state_layout.specs.Signatures.{word_count}
use Rattle.packed_words.proofs.Packs.{none_put}
use Rattle.packed_words.proofs.tables.packed_set.Goals as goal

pub loop-member-init : goal.loop-member-init
loop-member-init c =
    let zeros : c.in_ok-words.words.items ≡ replicate (word_count c.args.count) 0 = search rules in
    none_put c.args.count c.in_ok-words.words.items zeros
