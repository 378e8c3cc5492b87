use Rattle.std.proofs.Common.{◌≡◌, ◌∙◌, length, take, rules}
use Rattle.state_layout.specs.Packing.{state_in}
use Rattle.packed_eval.proofs.Ways.{front_kept}
use Rattle.packed_eval.proofs.calls.packed_set.Goals as goal

pub returns-clause-value : goal.returns-clause-value
returns-clause-value c =
    let state : state_in c.words_of-words.result.now ≡ c.args.p.now = c.words_of-words.ensures.state in
    let long : length c.write_args.new.params ≡ c.args.x.now.params.len = search rules in
    let whole : c.deref.result.now ≡ c.write_args.new.params = c.deref.ensures.value ∙ front_kept c.args.x.now.params.len c.write_args.new.params _ long in
    let given : take c.args_len.result c.deref.result.now ≡ c.args.args.now = rw (c.args_len.ensures, whole) c.write_args.ensures.value in
    rw (state, given) at c.set_into.ensures.members

pub returns-clause-scratch : goal.returns-clause-scratch
returns-clause-scratch c = record { tables = c.requires.scratch.tables; params = c.requires.scratch.params; serves = c.requires.scratch.serves }
