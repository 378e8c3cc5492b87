use Rattle.std.proofs.Common.{ℕ, List, arith, ◌∙◌}
use Rattle.std.proofs.lemmas.List.{length-take-le}
use Rattle.dp_outside.proofs.Steps.{IsFront-more}
use Rattle.dp_outside.proofs.reading.read_pieces.Goals as goal

pub loop-read-preserved : goal.loop-read-preserved
loop-read-preserved g c = record {
  short = omega (arith, c.in_ok-extend_from_slice.ensures.len, length-take-le c.in_ok-count.count c.read.new.room (omega (arith, c.in_ok-count.ensures.within)));
  front =
      IsFront-more _ _ c.loop-read.read.items c.read.new.room _ _ c.in_ok-count.count (c.loop-read.invariant.telling c.args.name.now) (omega arith) (omega arith) c.in_ok-extend_from_slice.ensures.items c.loop-read.invariant.front c.in_ok-count.ensures.bytes;
  count = omega arith;
  telling = λ (file : List ℕ). c.read.ensures.telling file ∙ c.loop-read.invariant.telling file;
}
