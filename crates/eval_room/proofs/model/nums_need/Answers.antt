use Rattle.std.proofs.Common.{rules, arith, ◌≡◌, ℕ}
use Rattle.std.proofs.lemmas.Option.{slice_get_within}
use Rattle.dp_model.specs.declared.trees.Num.{Num}
use Rattle.eval_room.specs.Fits.{num_fits}
use Rattle.eval_room.specs.Needs.{Serves}
use Rattle.eval_room.proofs.Lists.{before_more, serves_more}
use Rattle.eval_room.proofs.model.nums_need.Goals as goal

pub loop-n-preserved : goal.loop-n-preserved
loop-n-preserved c = before_more (λ (x : Num) (n : ℕ). Serves (num_fits c.args.model.now x c.args.given) n) (λ x a b h s. serves_more h s) c.deref-n-items.result.now c.loop-n.n-index _ c.n-item.result c.loop-n.most _ _ c.loop-n-test.true c.n-item.is c.max-most.ensures c.in_ok-need.ensures c.loop-n.invariant

pub returns : goal.returns
returns c =
    let items : c.deref-n-items.result.now ≡ c.args.numbers.now = search rules in
    rw (← items) (record { at = λ i x e. (let h = slice_get_within c.deref-n-items.result.now i x e in c.loop-n.invariant i x (omega (arith, h)) e) })
