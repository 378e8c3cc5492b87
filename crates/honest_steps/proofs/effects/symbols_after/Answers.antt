use Rattle.std.proofs.Common.{rules, ◌≡◌, ◌∷◌, ◌+◌, ◌<◌, ℕ, ℤ, List, Some, IsTrue, length, drop, arith, sym, ap, ◌∙◌, subst}
use Rattle.std.proofs.lemmas.List.{drop_all}
use Rattle.dp_model.specs.Typing.{is_state}
use Rattle.dp_model.specs.declared.parts.Effect.{Effect}
use Rattle.dp_model.specs.declared.parts.PlainState.{PlainState}
use Rattle.poly_terms.specs.Fits.{Fits}
use Rattle.poly_eval.specs.Shows.{Shows, ShowsValue}
use Rattle.poly_eval.specs.declared.symbols.Symbol.{Symbol}
use Rattle.wide_steps.specs.Steps.{wide_effect}
use Rattle.honest_steps.proofs.Tables.{fits_before, parts_at}
use Rattle.honest_steps.proofs.Changes.{Underway, changes_start, changes_step, changes_end}
use Rattle.honest_steps.proofs.effects.symbols_after.Goals as goal

pub loop-effect-init : goal.loop-effect-init
loop-effect-init c = record {
  grows = λ k atom at. at;
  value = λ s v state fits shows. subst (λ (after : List Symbol). Underway c.args.model.now s c.args.given.now v after c.args.effects.now c.args.effects.now) (sym c.in_ok-after.ensures)
      (changes_start c.args.model.now s c.args.given.now v c.args.before.now c.args.effects.now shows);
}

pub loop-effect-preserved : goal.loop-effect-preserved
loop-effect-preserved c = record {
  grows = λ k atom at. c.in_ok-symbol.ensures.grows k atom (c.loop-effect.invariant.grows k atom at);
  value = λ s v state fits shows.
      (let lt : c.loop-effect.effect-index < length c.args.effects.now = search rules in
      let new : (s : PlainState) (v : ℕ → ℤ) → IsTrue (is_state c.args.model.now.objects c.args.model.now.variables s) → Fits c.value_of.new.table.items v → Shows v c.args.before.now s → ShowsValue v c.in-Some.symbol (Some (wide_effect c.args.model.now s c.args.given.now c.effect-item.result).1) = search rules in
      let parts = parts_at c.args.effects.now c.loop-effect.effect-index c.effect-item.result lt c.effect-item.is in
      let now : Underway c.args.model.now s c.args.given.now v c.loop-effect.after.items c.args.effects.now (c.effect-item.result ∷ drop (c.loop-effect.effect-index + 1) c.args.effects.now) =
      subst (λ (es : List Effect). Underway c.args.model.now s c.args.given.now v c.loop-effect.after.items c.args.effects.now es) parts
      (c.loop-effect.invariant.value s v state (fits_before c.loop-effect.table.items c.value_of.new.table.items v c.in_ok-symbol.ensures.grows fits) shows) in
      let small : c.variable_of-place.result < length c.loop-effect.after.items = omega (arith, c.if-place-len.false, c.len.ensures, c.loop-effect.after.ok.0) in
      let many : length c.list.result.now.items ≡ length c.args.model.now.variables = ap length (c.list.ensures ∙ c.variables.ensures) in
      let there : c.variable_of-place.result < length c.args.model.now.variables = omega (arith, many, c.if-place-len-2.false, c.len-else-place-len.ensures, c.list.result.now.ok.0) in
      changes_step c.args.model.now s c.args.given.now v c.loop-effect.after.items c.args.effects.now (drop (c.loop-effect.effect-index + 1) c.args.effects.now) c.effect-item.result c.variable_of-place.result c.in-Some.symbol
      state (sym c.variable_of-place.ensures) small there (new s v state fits shows) now);
}

pub returns-in_default-clause-grows : goal.returns-in_default-clause-grows
returns-in_default-clause-grows c = λ k atom at. c.in_ok-symbol.ensures.grows k atom (c.loop-effect.invariant.grows k atom at)

pub returns-then-place-len-clause-grows : goal.returns-then-place-len-clause-grows
returns-then-place-len-clause-grows c = λ k atom at. c.in_ok-symbol.ensures.grows k atom (c.loop-effect.invariant.grows k atom at)

pub returns-clause-value : goal.returns-clause-value
returns-clause-value c = λ s v state fits shows.
    let left = drop_all c.loop-effect.effect-index c.args.effects.now c.loop-effect-test.false in
    changes_end c.args.model.now s c.args.given.now v c.loop-effect.after.items c.args.effects.now
    (subst (λ (es : List Effect). Underway c.args.model.now s c.args.given.now v c.loop-effect.after.items c.args.effects.now es) left (c.loop-effect.invariant.value s v state fits shows))
