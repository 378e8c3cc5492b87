use Rattle.std.proofs.Common.{ℕ, [], ◌∷◌, List, sym, subst, arith}
use Rattle.state_layout.specs.Packing.{count_in, HasFirstRow}
use Rattle.state_layout.proofs.packed.Packed.blank.Goals as goal

zeros : HasFirstRow (0 ∷ 0 ∷ 0 ∷ 0 ∷ 0 ∷ [])
unfolding count_in
zeros = omega arith

pub invariant_of-result : goal.invariant_of-result
invariant_of-result c = subst (λ (words : List ℕ). HasFirstRow words) (sym c.from_buf.ensures.items) zeros
