use Rattle.std.proofs.Common.{rules, ◌≡◌, ◌+◌, length}
use Rattle.dp_model.specs.declared.trees.Cond as conds
use Rattle.state_layout.specs.Packing.{state_in}
use Rattle.packed_eval.proofs.Parts.{numbers_fit}
use Rattle.packed_eval.proofs.Sides.{sides_told}
use Rattle.packed_eval.proofs.rows.sides_of.Goals as goal

pub side_of-requires : goal.side_of-requires
side_of-requires c =
    let p : conds.out-Cond c.args.c.now ≡ conds.Cond-F.Numbers c.in-Numbers.op c.in-Numbers.a c.in-Numbers.b = search (rules, conds.the_lemmas) in
    (c.requires.0, (numbers_fit c.args.at.now.model.now (length c.args.at.now.args.now + 1) c.requires.0 c.args.c.now c.in-Numbers.op c.in-Numbers.a c.in-Numbers.b p c.requires.1).0)

pub side_of-requires-in-Numbers : goal.side_of-requires-in-Numbers
side_of-requires-in-Numbers c =
    let p : conds.out-Cond c.args.c.now ≡ conds.Cond-F.Numbers c.in-Numbers.op c.in-Numbers.a c.in-Numbers.b = search (rules, conds.the_lemmas) in
    (c.requires.0, (numbers_fit c.args.at.now.model.now (length c.args.at.now.args.now + 1) c.requires.0 c.args.c.now c.in-Numbers.op c.in-Numbers.a c.in-Numbers.b p c.requires.1).1)

pub returns-in_ok-right-in-Numbers : goal.returns-in_ok-right-in-Numbers
returns-in_ok-right-in-Numbers c =
    let p : conds.out-Cond c.args.c.now ≡ conds.Cond-F.Numbers c.in-Numbers.op c.in-Numbers.a c.in-Numbers.b = search (rules, conds.the_lemmas) in
    sides_told c.args.at.now.model.now (state_in c.args.at.now.words.now) c.args.at.now.args.now c.args.c.now c.in-Numbers.op c.in-Numbers.a c.in-Numbers.b c.in_ok-left-in-Numbers.left c.in_ok-right-in-Numbers.right p c.in_ok-left-in-Numbers.ensures c.in_ok-right-in-Numbers.ensures
