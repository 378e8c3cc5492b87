use Rattle.std.proofs.Common.{length}
use Rattle.eval_room.specs.Fits.{set_fits}
use Rattle.packed_eval.proofs.Parts.{operand_parts}
use Rattle.packed_eval.proofs.calls.operand_word.Goals as goal

pub quick_set-requires-clause-fits : goal.quick_set-requires-clause-fits
quick_set-requires-clause-fits c =
    let o = operand_parts c.args.at.now.model.now (length c.args.at.now.args.now) (length c.args.stack.now) (set_fits c.args.at.now.model.now c.args.e.now) c.requires.fits in
    (_, o.1)
