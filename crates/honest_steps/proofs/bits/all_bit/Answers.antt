use Rattle.std.proofs.Common.{rules, ◌≡◌, ◌<◌, ◌*ℤ◌, ℕ, ℤ, List, length, sym, ap, ◌∙◌, subst}
use Rattle.poly_terms.specs.declared.table.Atom.{Atom}
use Rattle.poly_terms.specs.declared.terms.Term.{Term}
use Rattle.dp_model.specs.declared.trees.Cond.{Cond}
use Rattle.poly_terms.specs.Worth.{worth}
use Rattle.poly_terms.specs.Fits.{Fits}
use Rattle.poly_eval.specs.Shows.{IsTruth}
use Rattle.wide_values.specs.Wide.{wide_cond}
use Rattle.honest_steps.proofs.Tables.{all_more, all_done}
use Rattle.honest_steps.proofs.bits.all_bit.Goals as goal

pub returns-in_default-clause-grows : goal.returns-in_default-clause-grows
returns-in_default-clause-grows c = λ k atom at. c.in_ok-bit.ensures.grows k atom (c.loop-c.invariant.grows k atom at)

pub returns-in_default-2-clause-grows : goal.returns-in_default-2-clause-grows
returns-in_default-2-clause-grows c = λ k atom at. c.in_ok-bit.ensures.grows k atom (c.loop-c.invariant.grows k atom at)

pub loop-c-preserved : goal.loop-c-preserved
loop-c-preserved c = record {
  grows = λ k atom at. c.in_ok-bit.ensures.grows k atom (c.loop-c.invariant.grows k atom at);
  value = λ s v state fits shows.
      (let lt : c.loop-c.c-index < length c.args.conditions.now = search rules in
      let bit : IsTruth c.args.model.now c.condition.new.table.items c.args.symbols.now c.args.given.now c.c-item.result c.in-Some.bit.items = search rules in
      let product : (v : ℕ → ℤ) → Fits c.deref.result.now v → worth v c.in-Some-2.both.items ≡ worth v c.deref-in-loop-c.result.now *ℤ worth v c.deref-in-loop-c-2.result.now = search rules in
      let both = product v (subst (λ (atoms : List Atom). Fits atoms v) (sym c.deref.ensures.value) fits)
      ∙ ap (λ (zs : List Term). worth v zs *ℤ worth v c.deref-in-loop-c-2.result.now) c.deref-in-loop-c.ensures.value
      ∙ ap (λ (zs : List Term). worth v c.loop-c.all.items *ℤ worth v zs) c.deref-in-loop-c-2.ensures.value in
      all_more (λ (x : Cond). wide_cond c.args.model.now s x c.args.given.now) c.args.conditions.now c.loop-c.c-index c.c-item.result (worth v c.loop-c.all.items) (worth v c.in-Some.bit.items) (worth v c.in-Some-2.both.items) _
      lt c.c-item.is (bit s v state fits shows) both
      (c.loop-c.invariant.value s v state (λ k atom at. fits k atom (c.in_ok-bit.ensures.grows k atom at)) shows));
}

pub returns-clause-value : goal.returns-clause-value
returns-clause-value c = λ s v state fits shows.
    all_done (λ (x : Cond). wide_cond c.args.model.now s x c.args.given.now) c.args.conditions.now c.loop-c.c-index (worth v c.loop-c.all.items) _ c.loop-c-test.false (c.loop-c.invariant.value s v state fits shows)
