use Rattle.std.proofs.Common.{rules, ◌≡◌, ◌∙◌, false}
use Rattle.std.specs.Prelude.{Some, None, slice_get}
use Rattle.bit_sets.specs.Sets.{members_of}
use Rattle.packed_words.specs.Sets.{one_word}
use Rattle.packed_eval.specs.Rows.{met_by}
use Rattle.packed_eval.proofs.Firsts.{met_not, met_nowhere, met_last}
use Rattle.packed_eval.proofs.rows.all_met_in.Goals as goal

pub returns-in_err-met_by : goal.returns-in_err-met_by
returns-in_err-met_by c =
    let none : met_by c.args.sides.now c.in-Some.member ≡ None = search rules in
    let r : c.from_residual.result ≡ None = search rules in
    r ∙ met_nowhere c.args.sides.now (members_of (one_word c.loop-member.left)) c.in-Some.member c.in-Some.ensures.first none ∙ c.loop-member.invariant

pub returns-then-not-branch : goal.returns-then-not-branch
returns-then-not-branch c =
    let not_met : met_by c.args.sides.now c.in-Some.member ≡ Some false = search rules in
    met_not c.args.sides.now (members_of (one_word c.loop-member.left)) c.in-Some.member c.in-Some.ensures.first not_met ∙ c.loop-member.invariant

pub returns : goal.returns
returns c =
    let end : None ≡ slice_get (members_of (one_word c.loop-member.left)) 0 = search rules in
    met_last c.args.sides.now (members_of (one_word c.loop-member.left)) end ∙ c.loop-member.invariant
