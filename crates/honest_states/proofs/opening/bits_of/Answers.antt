use Rattle.std.proofs.Common.{rules, ◌≡◌, Bool, true, List, None, length, get_or, ap, sym, subst}
use Rattle.dp_model.specs.Evaluation.{has, set_held}
use Rattle.poly_terms.specs.declared.terms.Term.{Term}
use Rattle.poly_terms.specs.Worth.{worth, as_bit}
use Rattle.honest_states.specs.Modes.{is_so}
use Rattle.honest_states.specs.Symbols.{Opens}
use Rattle.honest_states.proofs.Lists.{longer, read_at, less_one, here_one}
use Rattle.honest_states.proofs.Knowing.{members_at}
use Rattle.honest_states.proofs.Opened.{no_bits, bits_more}
use Rattle.honest_states.proofs.opening.bits_of.Goals as goal

pub loop-known-init : goal.loop-known-init
loop-known-init c = (ap length c.new-bits.ensures.items, λ free. free, λ held all. no_bits c.args.table.now.items c.new-bits.result.items held c.new-bits.ensures.items)

pub loop-known-preserved : goal.loop-known-preserved
loop-known-preserved c =
    let j = c.loop-known.known-index in
    let bits = c.loop-known.bits.items in
    let known = get_or c.args.members.now j None in
    let e = c.in_ok-push.ensures.items in
    let shows : (b : Bool) → is_so known b ≡ true → Opens c.loop-known.table.items c.bit_of.new.table.items (λ v. as_bit b ≡ worth v c.in-Some.bit.items) = search rules in (
      longer bits c.push.new.self.items c.of.result j e c.loop-known.invariant.0,
      λ free. c.in_ok-bit.ensures.free (c.loop-known.invariant.1 free),
      λ held all.
          bits_more c.args.table.now.items c.loop-known.table.items c.bit_of.new.table.items bits c.push.new.self.items c.of.result held j e c.loop-known.invariant.0 c.loop-known.invariant.1
          (c.loop-known.invariant.2 held (λ k x lt here. all k x (less_one k j lt) here))
          (subst (λ (p : List Term). Opens c.loop-known.table.items c.bit_of.new.table.items (λ v. as_bit (has (set_held held) j) ≡ worth v p)) (sym c.of.ensures)
          (shows (has (set_held held) j) (all j known (here_one j) (read_at c.args.members.now j None c.loop-known-test.true)))),
    )

pub returns-clause-shows : goal.returns-clause-shows
returns-clause-shows c = λ held h. c.loop-known.invariant.2 held (λ k x lt e. members_at c.args.members.now (set_held held) h k x e)
