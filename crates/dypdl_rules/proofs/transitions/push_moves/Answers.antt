use Rattle.std.proofs.Common.{◌≡◌, ◌∙◌, Ok, sym, refl}
use Rattle.dypdl_rules.specs.Moves.{move_of, move_step}
use Rattle.dypdl_rules.proofs.Steps.{one_more}
use Rattle.dypdl_rules.proofs.transitions.push_moves.Goals as goal

pub loop-item-preserved : goal.loop-item-preserved
loop-item-preserved c = record {
  so_far = λ read h.
      let m : move_of read c.args.declared.now.lists c.item-item.result ≡ Ok c.in_ok-one.one = rw c.loop-item.invariant.same at (c.in_ok-one.ensures.transition read h) in
      let e : move_step read c.args.declared.now.lists c.loop-item.moves.items c.item-item.result ≡ Ok c.push.new.self.items = rw (m, c.in_ok-push.ensures.items) refl in
      sym (one_more (move_step read c.args.declared.now.lists) c.loop-item.moves.items c.push.new.self.items c.loop-item.item-index c.args.items.now c.item-item.result c.loop-item-test.true c.item-item.is e) ∙ c.loop-item.invariant.so_far read h;
  same = c.in_ok-one.ensures.same ∙ c.loop-item.invariant.same;
}
