use Rattle.std.proofs.Common.{◌≡◌, ℕ, ℤ, true, List, Option, slice_get, sym, subst}
use Rattle.dp_model.specs.declared.parts.PlainValue.{PlainValue}
use Rattle.poly_terms.specs.Fits.{Fits}
use Rattle.poly_eval.specs.declared.symbols.Symbol.{Symbol}
use Rattle.poly_eval.specs.Shows.{ShowsValue}
use Rattle.honest_states.specs.declared.mode.Known.{Known}
use Rattle.honest_states.specs.Modes.{is_known, are_known}
use Rattle.honest_states.proofs.Lists.{longer, pushed, item_at}
use Rattle.honest_states.proofs.Knowing.{variables_from}
use Rattle.honest_states.proofs.joining.mode_of.Goals as goal

pub loop-symbol-preserved : goal.loop-symbol-preserved
loop-symbol-preserved c =
    let j = c.loop-symbol.symbol-index in
    let symbol = c.symbol-item.result in
    let x = c.in_ok-one.one in
    let e = c.in_ok-push.ensures.items in (
      longer c.loop-symbol.known.items c.push.new.self.items x j e c.loop-symbol.invariant.0,
      pushed (λ (k : ℕ) (y : Symbol) (z : Known). (v : ℕ → ℤ) (held : Option PlainValue) → Fits c.args.table.now v → ShowsValue v y held → is_known z held ≡ true) c.args.symbols.now c.loop-symbol.known.items c.push.new.self.items symbol x j e
          c.loop-symbol.invariant.0 c.loop-symbol.invariant.1 (item_at c.args.symbols.now j symbol c.loop-symbol-test.true c.symbol-item.is) c.in_ok-one.ensures,
    )

pub returns : goal.returns
returns c = λ v s fits shows.
    subst (λ (xs : List Known). are_known xs 0 s ≡ true) (sym c.of.ensures)
    (variables_from c.loop-symbol.known.items s (λ k x e. let here = c.loop-symbol.invariant.1 k x e in here.2 v (slice_get s.values k) fits (shows k here.0 here.1)))
