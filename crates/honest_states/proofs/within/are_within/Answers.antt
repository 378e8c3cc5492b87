use Rattle.std.proofs.Common.{◌≡◌, ℕ, ℤ, ◌≤◌, ◌∙◌, true, List, Some, length, slice_get, refl, subst}
use Rattle.std.proofs.lemmas.Option.{slice_get_read}
use Rattle.dp_model.specs.declared.parts.PlainState.{PlainState}
use Rattle.poly_terms.specs.Fits.{Fits}
use Rattle.poly_eval.specs.Shows.{Shows}
use Rattle.honest_states.specs.declared.mode.Known.{Known}
use Rattle.honest_states.specs.Modes.{is_known}
use Rattle.honest_states.proofs.Lists.{all_below, item_at, one_further}
use Rattle.honest_states.proofs.Knowing.{variables_from}
use Rattle.honest_states.proofs.within.are_within.Goals as goal

pub loop-i-preserved : goal.loop-i-preserved
loop-i-preserved c =
    let i = c.loop-i.i in
    let known = c.known-item.result in
    let here = subst (λ (xs : List Known). slice_get xs i ≡ Some known) (c.deref-known-items.ensures.value ∙ c.list.ensures) (item_at c.deref-known-items.result.now i known c.loop-i-test.true c.known-item.is) in
    let look = c.in-Some.ensures.lookup in
    let symbol = slice_get_read c.args.symbols.now (length c.args.symbols.now) i c.in-Some.symbol.now refl look.3.0 look.1 in
    one_further (λ (k : ℕ) (y : Known). (u : ℕ → ℤ) (t : PlainState) → Fits c.args.table.now u → Shows u c.args.symbols.now t → is_known y (slice_get t.values k) ≡ true) c.args.mode.now.known i known here
    (λ u t fits shows. c.in_ok-is_within-in-Some.ensures c.if-not-branch.false u (slice_get t.values i) fits (shows i c.in-Some.symbol.now symbol)) c.loop-i.invariant

pub returns : goal.returns
returns c = λ _ v s fits shows.
    let past = subst (λ (xs : List Known). length xs ≤ c.loop-i.i) (c.deref-known-items.ensures.value ∙ c.list.ensures) c.loop-i-test.false in
    variables_from c.args.mode.now.known s
    (λ k x e. all_below (λ (i : ℕ) (y : Known). (u : ℕ → ℤ) (t : PlainState) → Fits c.args.table.now u → Shows u c.args.symbols.now t → is_known y (slice_get t.values i) ≡ true) c.args.mode.now.known c.loop-i.i past c.loop-i.invariant k x e v s fits shows)
