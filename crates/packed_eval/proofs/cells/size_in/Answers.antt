use Rattle.std.proofs.Common.{ap, pos, ◌∙◌, arith, w64}
use Rattle.std.proofs.lemmas.Int.{to_z_pos}
use Rattle.packed_eval.proofs.Ways.{few_members_of}
use Rattle.packed_eval.proofs.cells.size_in.Goals as goal

pub overflow_cast-result : goal.overflow_cast-result
overflow_cast-result c = let few = few_members_of c.args.a.now in omega (arith, few, c.size.ensures, c.requires.len, c.requires.few)

pub returns : goal.returns
returns c =
    let few = few_members_of c.args.a.now in
    to_z_pos w64 c.size.result (omega (arith, few, c.size.ensures, c.requires.len, c.requires.few)) ∙ ap pos c.size.ensures
