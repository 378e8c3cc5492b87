use Rattle.std.proofs.Common.{Some, arith, slice_index_or}
use Rattle.dypdl_type.specs.Typing.{Typing}
use Rattle.dypdl_type.proofs.Steps.{one_more, one_more_term, same_item}
use Rattle.dypdl_type.proofs.typing.+typing.Goals as goal

pub numbers-loop-e-preserved : goal.numbers-loop-e-preserved
numbers-loop-e-preserved t c =
    one_more (λ (x : Typing). x.number) c.args.scope.now c.args.es.now c.loop-e.e-index c.e-item.result c.in_ok-number.field-0 c.loop-e.trees.items c.push.new.self.items _
    (omega arith) c.e-item.is c.in_ok-number.ensures c.in_ok-push.ensures.items c.loop-e.invariant

pub sets-loop-e-preserved : goal.sets-loop-e-preserved
sets-loop-e-preserved t c =
    one_more (λ (x : Typing). x.members (Some c.args.object)) c.args.scope.now c.args.es.now c.loop-e.e-index c.e-item.result c.in_ok-members.field-0 c.loop-e.trees.items c.push.new.self.items _
    (omega arith) c.e-item.is c.in_ok-members.ensures c.in_ok-push.ensures.items c.loop-e.invariant

pub terms-loop-at-preserved : goal.terms-loop-at-preserved
terms-loop-at-preserved t c =
    one_more_term c.args.scope.now c.args.objects.now c.args.es.now c.loop-at.at (slice_index_or c.args.objects.now c.loop-at.at 0) c.index-es-at.result c.in_ok-term.field-0 c.loop-at.trees.items c.push.new.self.items _
    (omega (arith, c.requires)) (omega arith) (same_item c.args.objects.now c.loop-at.at 0 _ (omega (arith, c.requires))) c.index-es-at.is c.in_ok-term.ensures c.in_ok-push.ensures.items c.loop-at.invariant
