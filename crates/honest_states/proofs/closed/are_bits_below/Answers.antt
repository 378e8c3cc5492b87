use Rattle.std.proofs.Common.{◌≡◌, ℕ, true, List, sym, ◌∙◌}
use Rattle.poly_terms.specs.declared.terms.Term.{Term}
use Rattle.poly_met.specs.Met.{sum_below}
use Rattle.poly_met.proofs.Tables.{worth_same}
use Rattle.honest_states.proofs.Lists.{all_below}
use Rattle.honest_states.proofs.closed.are_bits_below.Goals as goal

pub returns : goal.returns
returns c = λ _ held v w agree shows j p e.
    let below = all_below (λ (k : ℕ) (q : List Term). sum_below c.args.n q ≡ true) c.args.bits.now c.loop-bit.bit-index c.loop-bit-test.false c.loop-bit.invariant j p e in
    shows j p e ∙ sym (worth_same c.args.n v w agree p below)
