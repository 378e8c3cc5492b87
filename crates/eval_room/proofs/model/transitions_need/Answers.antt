use Rattle.std.proofs.Common.{rules, arith, ◌≡◌, ℕ}
use Rattle.std.proofs.lemmas.Option.{slice_get_within}
use Rattle.dp_model.specs.declared.parts.Transition.{Transition}
use Rattle.eval_room.specs.Needs.{ServesTransition}
use Rattle.eval_room.proofs.Lists.{before_more, transition_more}
use Rattle.eval_room.proofs.model.transitions_need.Goals as goal

pub loop-t-preserved : goal.loop-t-preserved
loop-t-preserved c = before_more (λ (x : Transition) (n : ℕ). ServesTransition c.args.model.now x n) (λ x a b h s. transition_more h s) c.deref-t-items.result.now c.loop-t.t-index _ c.t-item.result c.loop-t.most _ _ c.loop-t-test.true c.t-item.is c.max-most.ensures c.in_ok-need.ensures c.loop-t.invariant

pub returns : goal.returns
returns c =
    let items : c.deref-t-items.result.now ≡ c.args.transitions.now = search rules in
    rw (← items) (record { at = λ i x e. (let h = slice_get_within c.deref-t-items.result.now i x e in c.loop-t.invariant i x (omega (arith, h)) e) })
