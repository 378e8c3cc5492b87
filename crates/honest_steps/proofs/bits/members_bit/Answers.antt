use Rattle.std.proofs.Common.{rules, ◌≡◌, ◌<◌, ◌*ℤ◌, ℕ, ℤ, List, inl, inr, length, ap, ◌∙◌}
use Rattle.dp_model.specs.declared.trees.Over.TheVariants.{Object}
use Rattle.poly_terms.specs.declared.terms.Term.{Term}
use Rattle.poly_terms.specs.Worth.{worth}
use Rattle.poly_terms.specs.Fits.{Fits}
use Rattle.honest_steps.proofs.Tables.{members_more, members_past_all}
use Rattle.honest_steps.proofs.bits.members_bit.Goals as goal

pub returns-then-place-args : goal.returns-then-place-args
returns-then-place-args c = λ s v fits shows.
    members_past_all s c.args.params.now c.args.args.now c.loop-place.place (worth v c.loop-place.all.items) _ (inr c.if-place-args.true) (c.loop-place.invariant s v fits shows)

pub loop-place-preserved : goal.loop-place-preserved
loop-place-preserved c = λ s v fits shows.
    let lt : c.loop-place.place < length c.args.params.now = search rules in
    let more : c.loop-place.place < length c.args.args.now = search rules in
    let bit = rw c.in-Some.is at c.in_ok-bit.ensures in
    let product : (v : ℕ → ℤ) → Fits c.args.table.now v → worth v c.in-Some-2.both.items ≡ worth v c.deref.result.now *ℤ worth v c.deref-in-loop-place.result.now = search rules in
    let both = product v fits
    ∙ ap (λ (zs : List Term). worth v zs *ℤ worth v c.deref-in-loop-place.result.now) c.deref.ensures.value
    ∙ ap (λ (zs : List Term). worth v c.loop-place.all.items *ℤ worth v zs) c.deref-in-loop-place.ensures.value in
    members_more s c.args.params.now c.args.args.now c.loop-place.place (Object 0) (worth v c.loop-place.all.items) (worth v c.in-Some.bit.items) (worth v c.in-Some-2.both.items) _
    lt more (bit s v shows) both (c.loop-place.invariant s v fits shows)

pub returns : goal.returns
returns c = λ s v fits shows.
    members_past_all s c.args.params.now c.args.args.now c.loop-place.place (worth v c.loop-place.all.items) _ (inl c.loop-place-test.false) (c.loop-place.invariant s v fits shows)
