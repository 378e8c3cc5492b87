use Rattle.std.proofs.Common.{rules, ℕ, ℤ, ◌<◌, length, get_or}
use Rattle.std.proofs.lemmas.Option.{slice_get-get_or}
use Rattle.poly_terms.specs.Fits.{Fits, IsBit}
use Rattle.honest_states.proofs.Lists.{one_further, all_below}
use Rattle.honest_states.proofs.absorbing.are_bits.Goals as goal

pub loop-atom-preserved : goal.loop-atom-preserved
loop-atom-preserved c =
    let lt : c.loop-atom.atom-index < length c.args.atoms.now = search rules in
    one_further (λ (k y : ℕ). (w : ℕ → ℤ) → Fits c.args.table.now w → IsBit (w y)) c.args.atoms.now c.loop-atom.atom-index (get_or c.args.atoms.now c.loop-atom.atom-index 0)
    (slice_get-get_or c.args.atoms.now c.loop-atom.atom-index 0 lt) (λ v fits. c.is_bit.ensures c.if-not-is_bit.false v fits) c.loop-atom.invariant

pub returns : goal.returns
returns c = λ _ v fits k x e. all_below (λ (j y : ℕ). (w : ℕ → ℤ) → Fits c.args.table.now w → IsBit (w y)) c.args.atoms.now c.loop-atom.atom-index c.loop-atom-test.false c.loop-atom.invariant k x e v fits
