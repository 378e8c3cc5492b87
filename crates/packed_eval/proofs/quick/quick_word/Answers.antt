use Rattle.std.proofs.Common.{rules, ◌≡◌, length}
use Rattle.dp_model.specs.declared.trees.SetEx as sets
use Rattle.state_layout.specs.Packing.{state_in}
use Rattle.packed_eval.proofs.Operands.{op_fits, op_told, with_fits, with_told, without_fits, without_told}
use Rattle.packed_eval.proofs.quick.quick_word.Goals as goal

pub word_held-requires-in-Op-clause-fits : goal.word_held-requires-in-Op-clause-fits
word_held-requires-in-Op-clause-fits c =
    let p : sets.out-SetEx c.args.e.now ≡ sets.SetEx-F.SetEx::Op c.in-Op.op c.get.result.now c.get-in-Op.result.now = search (rules, sets.the_lemmas) in
    (op_fits c.args.at.now.model.now (length c.args.at.now.args.now) c.requires.fits.0 c.args.e.now c.in-Op.op c.get.result.now c.get-in-Op.result.now p c.requires.fits.1).1

pub returns-in_ok-y-in-Op-clause-members : goal.returns-in_ok-y-in-Op-clause-members
returns-in_ok-y-in-Op-clause-members c =
    let p : sets.out-SetEx c.args.e.now ≡ sets.SetEx-F.SetEx::Op c.in-Op.op c.get.result.now c.get-in-Op.result.now = search (rules, sets.the_lemmas) in
    op_told c.args.at.now.model.now (state_in c.args.at.now.words.now) c.args.at.now.args.now c.args.count c.args.e.now c.in-Op.op c.get.result.now c.get-in-Op.result.now _ _ _ p c.requires.count c.in_ok-x-in-Op.ensures.members c.in_ok-y-in-Op.ensures.members c.operate_words.ensures.members

pub quick_with-requires-clause-number : goal.quick_with-requires-clause-number
quick_with-requires-clause-number c =
    let p : sets.out-SetEx c.args.e.now ≡ sets.SetEx-F.With c.get-in-With.result.now c.get-in-With-2.result.now = search (rules, sets.the_lemmas) in
    (c.requires.fits.0, (with_fits c.args.at.now.model.now (length c.args.at.now.args.now) c.requires.fits.0 c.args.e.now c.get-in-With.result.now c.get-in-With-2.result.now p c.requires.fits.1).0)

pub quick_with-requires-clause-fits : goal.quick_with-requires-clause-fits
quick_with-requires-clause-fits c =
    let p : sets.out-SetEx c.args.e.now ≡ sets.SetEx-F.With c.get-in-With.result.now c.get-in-With-2.result.now = search (rules, sets.the_lemmas) in
    (c.requires.fits.0, (with_fits c.args.at.now.model.now (length c.args.at.now.args.now) c.requires.fits.0 c.args.e.now c.get-in-With.result.now c.get-in-With-2.result.now p c.requires.fits.1).1)

pub returns-in-With-clause-members : goal.returns-in-With-clause-members
returns-in-With-clause-members c =
    let p : sets.out-SetEx c.args.e.now ≡ sets.SetEx-F.With c.get-in-With.result.now c.get-in-With-2.result.now = search (rules, sets.the_lemmas) in
    with_told c.args.at.now.model.now (state_in c.args.at.now.words.now) c.args.at.now.args.now c.args.count c.args.e.now c.get-in-With.result.now c.get-in-With-2.result.now c.quick_with.result p c.requires.count c.quick_with.ensures.members

pub quick_without-requires-clause-number : goal.quick_without-requires-clause-number
quick_without-requires-clause-number c =
    let p : sets.out-SetEx c.args.e.now ≡ sets.SetEx-F.Without c.get-in-Without.result.now c.get-in-Without-2.result.now = search (rules, sets.the_lemmas) in
    (c.requires.fits.0, (without_fits c.args.at.now.model.now (length c.args.at.now.args.now) c.requires.fits.0 c.args.e.now c.get-in-Without.result.now c.get-in-Without-2.result.now p c.requires.fits.1).0)

pub quick_without-requires-clause-fits : goal.quick_without-requires-clause-fits
quick_without-requires-clause-fits c =
    let p : sets.out-SetEx c.args.e.now ≡ sets.SetEx-F.Without c.get-in-Without.result.now c.get-in-Without-2.result.now = search (rules, sets.the_lemmas) in
    (c.requires.fits.0, (without_fits c.args.at.now.model.now (length c.args.at.now.args.now) c.requires.fits.0 c.args.e.now c.get-in-Without.result.now c.get-in-Without-2.result.now p c.requires.fits.1).1)

pub returns-in-Without-clause-members : goal.returns-in-Without-clause-members
returns-in-Without-clause-members c =
    let p : sets.out-SetEx c.args.e.now ≡ sets.SetEx-F.Without c.get-in-Without.result.now c.get-in-Without-2.result.now = search (rules, sets.the_lemmas) in
    without_told c.args.at.now.model.now (state_in c.args.at.now.words.now) c.args.at.now.args.now c.args.count c.args.e.now c.get-in-Without.result.now c.get-in-Without-2.result.now c.quick_without.result p c.requires.count c.quick_without.ensures.members
