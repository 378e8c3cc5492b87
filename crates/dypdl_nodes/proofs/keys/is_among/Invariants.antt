use Rattle.std.proofs.Common.{◌≡◌, drop}
use Rattle.dypdl_nodes.specs.Shapes.{is_among, texts}
use Rattle.dypdl_nodes.proofs.keys.is_among.Given as goal

abbrev pub invariant-loop-other : goal.invariant-loop-other
invariant-loop-other l = is_among (texts (drop l.other-index l.words)) l.word ≡ is_among (texts l.words) l.word
