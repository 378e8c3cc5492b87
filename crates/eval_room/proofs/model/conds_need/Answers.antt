use Rattle.std.proofs.Common.{rules, arith, ◌≡◌, ℕ}
use Rattle.std.proofs.lemmas.Option.{slice_get_within}
use Rattle.dp_model.specs.declared.trees.Cond.{Cond}
use Rattle.eval_room.specs.Fits.{cond_fits}
use Rattle.eval_room.specs.Needs.{Serves}
use Rattle.eval_room.proofs.Lists.{before_more, serves_more}
use Rattle.eval_room.proofs.model.conds_need.Goals as goal

pub loop-c-preserved : goal.loop-c-preserved
loop-c-preserved c = before_more (λ (x : Cond) (n : ℕ). Serves (cond_fits c.args.model.now x c.args.given) n) (λ x a b h s. serves_more h s) c.deref-c-items.result.now c.loop-c.c-index _ c.c-item.result c.loop-c.most _ _ c.loop-c-test.true c.c-item.is c.max-most.ensures c.in_ok-need.ensures c.loop-c.invariant

pub returns : goal.returns
returns c =
    let items : c.deref-c-items.result.now ≡ c.args.conditions.now = search rules in
    rw (← items) (record { at = λ i x e. (let h = slice_get_within c.deref-c-items.result.now i x e in c.loop-c.invariant i x (omega (arith, h)) e) })
