use Rattle.std.proofs.Common.{rules, ◌≡◌, true, [], List, Option, Some, length, slice_get, ap, subst, ◌∙◌}
use Rattle.dp_model.specs.declared.parts.PlainValue.{PlainValue}
use Rattle.poly_eval.specs.Shows.{ShowsValue}
use Rattle.honest_states.specs.declared.mode.Known.{Known}
use Rattle.honest_states.specs.Modes.{is_known}
use Rattle.honest_states.specs.Symbols.{Opens}
use Rattle.honest_states.proofs.Lists.{longer, item_at, less_one, here_one}
use Rattle.honest_states.proofs.Knowing.{variables_at}
use Rattle.honest_states.proofs.Opened.{free_none, no_symbols, symbols_more, opened_shows}
use Rattle.honest_states.proofs.opening.symbols_of.Goals as goal

pub loop-known-init : goal.loop-known-init
loop-known-init c = (
  ap length c.new-symbols.ensures.items,
  free_none c.new-table.result.items c.new-table.ensures.items,
  λ s all. no_symbols c.new-table.result.items [] c.new-symbols.result.items s c.new-symbols.ensures.items c.new-table.ensures.items,
)

pub loop-known-preserved : goal.loop-known-preserved
loop-known-preserved c =
    let j = c.loop-known.known-index in
    let symbols = c.loop-known.symbols.items in
    let known = c.known-item.result in
    let e = c.in_ok-push.ensures.items in
    let here = subst (λ (xs : List Known). slice_get xs j ≡ Some known) (c.deref-known-items.ensures.value ∙ c.list.ensures) (item_at c.deref-known-items.result.now j known c.loop-known-test.true c.known-item.is) in
    let shows : (held : Option PlainValue) → is_known known held ≡ true → Opens c.loop-known.table.items c.symbol_of.new.table.items (λ v. ShowsValue v c.in-Some.symbol held) = search rules in (
      longer symbols c.push.new.self.items c.in-Some.symbol j e c.loop-known.invariant.0,
      c.in_ok-symbol.ensures.free c.loop-known.invariant.1,
      λ s all.
          symbols_more [] c.loop-known.table.items c.symbol_of.new.table.items symbols c.push.new.self.items c.in-Some.symbol s j e c.loop-known.invariant.0 (λ none. c.loop-known.invariant.1)
          (c.loop-known.invariant.2 s (λ k x lt is. all k x (less_one k j lt) is)) (shows (slice_get s.values j) (all j known (here_one j) here)),
    )

pub returns-clause-shows : goal.returns-clause-shows
returns-clause-shows c = λ s h. opened_shows c.loop-known.table.items c.loop-known.symbols.items s (c.loop-known.invariant.2 s (λ k x lt e. variables_at c.args.mode.now.known s h k x e))
