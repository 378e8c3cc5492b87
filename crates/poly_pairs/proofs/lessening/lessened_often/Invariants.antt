use Rattle.poly_pairs.specs.Less.{IsNoGreater}
use Rattle.poly_pairs.proofs.lessening.lessened_often.Given as goal

abbrev pub invariant-loop-round : goal.invariant-loop-round
invariant-loop-round l = IsNoGreater l.table l.sum.items l.terms
