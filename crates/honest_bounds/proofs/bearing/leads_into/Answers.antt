use Rattle.std.proofs.Common.{◌≡◌, ℕ, ℤ, true, List, subst}
use Rattle.dp_model.specs.declared.parts.PlainState.{PlainState}
use Rattle.poly_terms.specs.declared.table.Atom.{Atom}
use Rattle.poly_terms.specs.Fits.{Fits}
use Rattle.poly_eval.specs.Shows.{Shows}
use Rattle.poly_eval.specs.declared.symbols.Symbol.{Symbol}
use Rattle.honest_states.specs.Modes.{in_some}
use Rattle.honest_states.specs.Symbols.{IsClosed}
use Rattle.honest_steps.specs.Moves.{IsMove}
use Rattle.honest_steps.specs.declared.moving.Move.{Move}
use Rattle.honest_steps.proofs.Tables.{ok_one}
use Rattle.honest_bounds.proofs.Bears.{leads_by, some_is}
use Rattle.honest_bounds.proofs.bearing.leads_into.Goals as goal

pub returns : goal.returns
returns c =
    let m = c.args.model.now in
    let x : Move = c.in-Some.field-0 in
    let move : IsMove m c.args.mode.now c.args.ground x = some_is c.in_ok-table.field-0 x (IsMove m c.args.mode.now c.args.ground) c.in-Some.is c.in_ok-table.ensures in
    let closed : IsClosed x.table.items x.free x.before.items =
    subst (λ (t : List Atom). IsClosed t x.free x.before.items) c.deref.ensures.value
    (subst (λ (b : List Symbol). IsClosed c.deref.result.now x.free b) c.deref-2.ensures.value (c.is_closed.ensures c.if-not-is_closed.false)) in
    ok_one c.are_in_some.result _ _ c.are_in_some.ensures (λ shown h yes.
    leads_by m c.args.modes.now c.args.mode.now c.args.ground x move closed
    (subst (λ (t : List Atom). (v : ℕ → ℤ) (s : PlainState) → Fits t v → Shows v x.after.items s → in_some c.args.modes.now s ≡ true) c.deref-3.ensures.value
    (subst (λ (b : List Symbol). (v : ℕ → ℤ) (s : PlainState) → Fits c.deref-3.result.now v → Shows v b s → in_some c.args.modes.now s ≡ true) c.deref-4.ensures.value (h yes))))
