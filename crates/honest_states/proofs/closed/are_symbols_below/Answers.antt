use Rattle.std.proofs.Common.{ℕ, Option, slice_get}
use Rattle.dp_model.specs.declared.parts.PlainValue.{PlainValue}
use Rattle.poly_eval.specs.declared.symbols.Symbol.{Symbol}
use Rattle.poly_eval.specs.Shows.{ShowsValue}
use Rattle.honest_states.specs.Symbols.{RestsOn}
use Rattle.honest_states.proofs.Lists.{all_below}
use Rattle.honest_states.proofs.closed.are_symbols_below.Goals as goal

pub returns : goal.returns
returns c = λ _ s v w agree shows k x e.
    all_below (λ (j : ℕ) (y : Symbol). (held : Option PlainValue) → RestsOn c.args.n (λ u. ShowsValue u y held)) c.args.symbols.now c.loop-symbol.symbol-index c.loop-symbol-test.false c.loop-symbol.invariant k x e
    (slice_get s.values k) v w agree (shows k x e)
