use Rattle.std.proofs.Common.{rules, arith, ◌≡◌, ◌∙◌, ap, Some, None, sym}
use Rattle.dp_model.specs.Evaluation.{count_of, cells_object, cells_of}
use Rattle.packed_words.specs.Tables.{shape_in}
use Rattle.packed_words.proofs.Shown.{few_members}
use Rattle.packed_words.proofs.Packs.{members_some, cells_none}
use Rattle.packed_words.proofs.cells.cell_count.Goals as goal

pub returns-in-Some-clause-value : goal.returns-in-Some-clause-value
returns-in-Some-clause-value c = let there : Some c.in-Some.shape.now ≡ shape_in c.args.at.now.model.now c.args.t = search rules in members_some c.args.at.now.model.now c.args.t c.in-Some.shape.now there

pub returns-in-Some-clause-few : goal.returns-in-Some-clause-few
returns-in-Some-clause-few c = let there : Some c.in-Some.shape.now ≡ shape_in c.args.at.now.model.now c.args.t = search rules in omega (arith, members_some c.args.at.now.model.now c.args.t c.in-Some.shape.now there, few_members c.args.at.now.model.now (cells_object (cells_of c.args.at.now.model.now c.args.t)))

pub returns-in-None-clause-value : goal.returns-in-None-clause-value
returns-in-None-clause-value c = let there : None ≡ shape_in c.args.at.now.model.now c.args.t = search rules in c.count_of.ensures.value ∙ sym (ap (λ x. count_of c.args.at.now.model.now (cells_object x)) (cells_none c.args.at.now.model.now c.args.t there))
