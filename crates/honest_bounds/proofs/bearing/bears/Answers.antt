use Rattle.std.proofs.Common.{◌≡◌, ℕ, ℤ, [], List, Option, subst}
use Rattle.dp_model.specs.Costs.{join_onto}
use Rattle.dp_claims.specs.Honest.{IsNotBetter}
use Rattle.poly_terms.specs.declared.table.Atom.{Atom}
use Rattle.poly_terms.specs.declared.terms.Term.{Term}
use Rattle.poly_terms.specs.Fits.{Fits}
use Rattle.poly_terms.specs.Worth.{worth}
use Rattle.poly_eval.specs.Shows.{IsValue}
use Rattle.poly_eval.specs.declared.symbols.Symbol.{Symbol}
use Rattle.honest_states.specs.Symbols.{IsClosed}
use Rattle.honest_steps.specs.Moves.{IsMove, IsWeighed}
use Rattle.honest_steps.specs.declared.moving.Move.{Move}
use Rattle.honest_steps.proofs.Tables.{ok_one}
use Rattle.honest_steps.proofs.Law.{the_law}
use Rattle.honest_bounds.proofs.Bears.{bears_by, some_is}
use Rattle.honest_bounds.proofs.bearing.bears.Goals as goal

pub returns : goal.returns
returns c =
    let m = c.args.model.now in
    let x : Move = c.in-Some.field-0 in
    let t1 = c.number.new.table.items in
    let t2 = c.number-2.new.table.items in
    let t3 = c.joined.new.table.items in
    let bound = c.in-Some-2.bound.items in
    let cost = c.in-Some-3.cost.items in
    let total = c.in-Some-4.total.items in
    let move : IsMove m c.args.mode.now c.args.ground x = some_is c.in_ok-table.field-0 x (IsMove m c.args.mode.now c.args.ground) c.in-Some.is c.in_ok-table.ensures in
    let is_bound : IsValue m t1 x.before.items [] c.args.e.now bound = subst (λ (b : List Symbol). IsValue m t1 b [] c.args.e.now bound) c.deref.ensures.value (some_is _ _ _ c.in-Some-2.is c.in_ok-bound.ensures.value) in
    let is_cost : IsValue m t2 x.after.items [] c.args.other.now cost = subst (λ (b : List Symbol). IsValue m t2 b [] c.args.other.now cost) c.deref-2.ensures.value (some_is _ _ _ c.in-Some-3.is c.in_ok-cost.ensures.value) in
    let is_total : (v : ℕ → ℤ) (w : Option ℤ) → Fits t3 v → IsWeighed v x.weight w → worth v total ≡ join_onto m.join w (worth v cost) =
    subst (λ (b : List Term). (v : ℕ → ℤ) (w : Option ℤ) → Fits t3 v → IsWeighed v x.weight w → worth v total ≡ join_onto m.join w (worth v b)) c.deref-3.ensures.value (some_is _ _ _ c.in-Some-4.is c.in_ok-total.ensures.value) in
    let closed : IsClosed t3 x.free x.before.items =
    subst (λ (t : List Atom). IsClosed t x.free x.before.items) c.deref-4.ensures.value
    (subst (λ (b : List Symbol). IsClosed c.deref-4.result.now x.free b) c.deref-5.ensures.value (c.is_closed.ensures c.if-not-is_closed.false)) in
    ok_one c.never_better.result _ _ c.never_better.ensures (λ shown h yes.
    bears_by the_law m c.args.mode.now c.args.ground c.args.e.now c.args.other.now x t1 t2 t3 bound cost total move c.in_ok-bound.ensures.grows is_bound c.in_ok-cost.ensures.grows is_cost c.in_ok-total.ensures.grows is_total closed
    (subst (λ (t : List Atom). (v : ℕ → ℤ) → Fits t v → IsNotBetter m (worth v total) (worth v bound)) c.deref-6.ensures.value
    (subst (λ (p : List Term). (v : ℕ → ℤ) → Fits c.deref-6.result.now v → IsNotBetter m (worth v p) (worth v bound)) c.deref-7.ensures.value
    (subst (λ (q : List Term). (v : ℕ → ℤ) → Fits c.deref-6.result.now v → IsNotBetter m (worth v c.deref-7.result.now) (worth v q)) c.deref-8.ensures.value (h yes)))))
