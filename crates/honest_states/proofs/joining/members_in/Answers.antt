use Rattle.std.proofs.Common.{◌≡◌, ℕ, ℤ, Bool, true, List, Option, sym, subst, ◌∙◌}
use Rattle.dp_model.specs.Evaluation.{has, set_held}
use Rattle.poly_terms.specs.declared.terms.Term.{Term}
use Rattle.poly_terms.specs.Worth.{worth, as_bit}
use Rattle.poly_terms.specs.Spans.{Within}
use Rattle.poly_terms.specs.Fits.{Fits}
use Rattle.honest_states.specs.Modes.{is_so}
use Rattle.honest_states.proofs.Lists.{longer, pushed, item_at}
use Rattle.honest_states.proofs.Knowing.{members_from}
use Rattle.honest_states.proofs.joining.members_in.Goals as goal

pub loop-bit-preserved : goal.loop-bit-preserved
loop-bit-preserved c =
    let j = c.loop-bit.bit-index in
    let bit = c.bit-item.result in
    let x = c.member_in-member.result in
    let e = c.in_ok-push.ensures.items in
    let same = c.deref.ensures.value ∙ c.list.ensures in (
      longer c.loop-bit.members.items c.push.new.self.items x j e c.loop-bit.invariant.0,
      pushed (λ (k : ℕ) (y : List Term) (z : Option Bool). (v : ℕ → ℤ) (b : Bool) → Fits c.args.table.now v → as_bit b ≡ worth v y → is_so z b ≡ true) c.args.bits.now c.loop-bit.members.items c.push.new.self.items bit x j e
          c.loop-bit.invariant.0 c.loop-bit.invariant.1 (item_at c.args.bits.now j bit c.loop-bit-test.true c.bit-item.is)
          (λ v b fits is. c.member_in-member.ensures b (subst (Within c.span_of.result) (sym is) (subst (λ (p : List Term). Within c.span_of.result (worth v p)) same (c.span_of.ensures v fits)))),
    )

pub returns : goal.returns
returns c = λ v held fits shows. members_from c.loop-bit.members.items (set_held held) (λ k x e. let here = c.loop-bit.invariant.1 k x e in here.2 v (has (set_held held) k) fits (shows k here.0 here.1))
