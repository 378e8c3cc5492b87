use Rattle.std.proofs.Common.{◌≡◌, ℕ, ℤ, true, List, Some, slice_get, sym, subst, ◌∙◌}
use Rattle.dp_model.specs.declared.parts.PlainState.{PlainState}
use Rattle.poly_terms.specs.Fits.{Fits}
use Rattle.poly_eval.specs.Shows.{Shows}
use Rattle.honest_states.specs.declared.mode.Known.{Known}
use Rattle.honest_states.specs.Modes.{is_known, are_known}
use Rattle.honest_states.specs.Facts.{AreFacts}
use Rattle.honest_states.proofs.Lists.{longer, pushed, item_at}
use Rattle.honest_states.proofs.Knowing.{variables_at, variables_from}
use Rattle.honest_states.proofs.narrowing.mode_by.Goals as goal

pub loop-i-preserved : goal.loop-i-preserved
loop-i-preserved c =
    let i = c.loop-i.i in
    let known = c.known-item.result in
    let e = c.in_ok-push-in-Some.ensures.items in
    let here = subst (λ (xs : List Known). slice_get xs i ≡ Some known) (c.deref-known-items.ensures.value ∙ c.list.ensures) (item_at c.deref-known-items.result.now i known c.loop-i-test.true c.known-item.is) in
    let keeps = rw c.in-Some.is at c.in_ok-still.ensures in (
      longer c.loop-i.more.items c.push.new.self.items c.in-Some.still i e c.loop-i.invariant.0,
      pushed
          (λ (k : ℕ) (y : Known) (x : Known). (v : ℕ → ℤ) (s : PlainState) → Fits c.args.table.now v → AreFacts v c.args.told.now → Shows v c.args.symbols.now s → is_known y (slice_get s.values k) ≡ true → is_known x (slice_get s.values k) ≡ true)
          c.args.mode.now.known c.loop-i.more.items c.push.new.self.items known c.in-Some.still i e c.loop-i.invariant.0 c.loop-i.invariant.1 here keeps,
    )

pub returns-in-None : goal.returns-in-None
returns-in-None c = λ v s fits facts shows h.
    let i = c.loop-i.i in
    let known = c.known-item.result in
    let here = subst (λ (xs : List Known). slice_get xs i ≡ Some known) (c.deref-known-items.ensures.value ∙ c.list.ensures) (item_at c.deref-known-items.result.now i known c.loop-i-test.true c.known-item.is) in
    let never = rw c.in-None.is at c.in_ok-still.ensures in
    never v s fits facts shows (variables_at c.args.mode.now.known s h i known here)

pub returns : goal.returns
returns c = λ v s fits facts shows h.
    subst (λ (xs : List Known). are_known xs 0 s ≡ true) (sym c.of.ensures)
    (variables_from c.loop-i.more.items s (λ k x e. let here = c.loop-i.invariant.1 k x e in here.2 v s fits facts shows (variables_at c.args.mode.now.known s h k here.0 here.1)))
