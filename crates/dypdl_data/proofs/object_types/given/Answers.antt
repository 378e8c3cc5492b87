use Rattle.std.proofs.Common.{sym, ap, ◌∙◌, ◌++◌, ◌∷◌, [], List, ℕ, rules, arith}
use Rattle.dypdl_nodes.specs.Reads.{told}
use Rattle.dypdl_data.proofs.Zips.{given_on, given_refuses, given_done, take_more}
use Rattle.dypdl_data.proofs.object_types.given.Goals as goal

pub returns-in_err-take_given-clause-given : goal.returns-in_err-take_given-clause-given
returns-in_err-take_given-clause-given c =
    search (rules, given_refuses (told c.in_err-take_given.field-0.0) c.args.at c.loop-number.objects.items c.args.names.now c.args.counts.now c.loop-number.number c.word.result.now c.count_at.result c.loop-number.invariant.so_far c.word.ensures c.count_at.ensures)

pub loop-number-preserved : goal.loop-number-preserved
loop-number-preserved c = record {
  so_far = given_on c.args.at c.loop-number.objects.items c.take_given.new.objects.items c.args.names.now c.args.counts.now c.loop-number.number c.word.result.now c.count_at.result c.word.ensures c.count_at.ensures c.in_ok-take_given.ensures.given ∙ c.loop-number.invariant.so_far;
  named = c.in_ok-take_given.ensures.named ∙ ap (λ (names : List (List ℕ)). names ++ c.word.result.now ∷ []) c.loop-number.invariant.named ∙ sym (take_more c.args.names.now c.loop-number.number c.word.result.now c.word.ensures);
}

pub returns-clause-given : goal.returns-clause-given
returns-clause-given c = sym c.loop-number.invariant.so_far ∙ given_done c.args.at c.loop-number.objects.items c.args.names.now c.args.counts.now c.loop-number.number (omega arith)
