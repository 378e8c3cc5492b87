use Rattle.honest_states.proofs.Bits.{bits_below}
use Rattle.honest_states.proofs.Lists.{if_some}
use Rattle.honest_states.proofs.absorbing.bit_among.Goals as goal

pub returns-then-are_bits : goal.returns-then-are_bits
returns-then-are_bits c = if_some c.counted_in.result _ _ c.counted_in.ensures (λ atom among v fits.
    bits_below v c.args.atoms.now among.0 atom (c.are_bits.ensures c.if-are_bits.true v fits) among.1)
