use Rattle.std.proofs.Common.{rules, arith, ◌≡◌, ℕ}
use Rattle.std.proofs.lemmas.Option.{slice_get_within}
use Rattle.dp_model.specs.declared.parts.Effect.{Effect}
use Rattle.eval_room.specs.Needs.{Serves, effect_fits}
use Rattle.eval_room.proofs.Lists.{before_more, serves_more}
use Rattle.eval_room.proofs.model.effects_need.Goals as goal

pub loop-e-preserved : goal.loop-e-preserved
loop-e-preserved c = before_more (λ (x : Effect) (n : ℕ). Serves (effect_fits c.args.model.now c.args.given x) n) (λ x a b h s. serves_more h s) c.deref-e-items.result.now c.loop-e.e-index _ c.e-item.result c.loop-e.most _ _ c.loop-e-test.true c.e-item.is c.max-most.ensures c.in_ok-need.ensures c.loop-e.invariant

pub returns : goal.returns
returns c =
    let items : c.deref-e-items.result.now ≡ c.args.effects.now = search rules in
    rw (← items) (record { at = λ i x e. (let h = slice_get_within c.deref-e-items.result.now i x e in c.loop-e.invariant i x (omega (arith, h)) e) })
