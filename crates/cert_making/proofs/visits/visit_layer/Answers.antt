use Rattle.std.proofs.Common.{◌≡◌, ◌<◌, true, false, List, length, refl, sym, subst}
use Rattle.state_layout.specs.declared.node.Node.{Node}
use Rattle.cert_making.specs.Makes.{Ends}
use Rattle.cert_making.proofs.Turns.{fewer_wait, none_left, passed_up, ready, room_left, spent}
use Rattle.cert_making.proofs.visits.visit_layer.Goals as goal

pub hand_over-requires : goal.hand_over-requires
hand_over-requires g c = (c.requires.0, c.args.claimed, c.args.budget, c.requires.1, c.requires.2, c.requires.3, c.requires.4)

pub nodes-init : goal.nodes-init
nodes-init g c =
    let k = c.requires in
    let next = c.in_ok-hand_over.ensures in
    record {
      asked = (k.0, k.1, k.2, k.3, (next k.0 c.args.claimed c.args.budget k.1 k.2 k.3 k.4).0);
      goes_on = λ p layers first suited a. let x = next p c.args.claimed c.args.budget layers first suited a in (x.0, x.2);
    }

pub returns-then-shard-budget-clause-ends : goal.returns-then-shard-budget-clause-ends
returns-then-shard-budget-clause-ends g c = λ p layers first suited a.
    let b = c.nodes.invariant.goes_on p layers first suited a in
    spent p c.args.claimed c.args.budget layers first c.nodes.shard b.0 ((c.nodes-test.ensures p b.0.shard_record b.0.stands).0 refl) c.if-shard-budget.true

pub visit_next-requires : goal.visit_next-requires
visit_next-requires g c =
    let k = c.nodes.invariant.asked in
    (k.0, c.args.budget, k.1, k.2, k.3, k.4, (c.nodes-test.ensures k.0 k.4.shard_record k.4.stands).0 refl)

pub nodes-preserved : goal.nodes-preserved
nodes-preserved g c =
    let k = c.nodes.invariant.asked in
    let visit = c.in_ok-visit_next.ensures.goes_on in
    let hand = c.in_ok-hand_over-2.ensures in
    record {
      asked =
          let b = visit k.0 c.args.budget k.1 k.2 k.3 k.4 ((c.nodes-test.ensures k.0 k.4.shard_record k.4.stands).0 refl) (room_left k.0 c.args.claimed c.args.budget k.1 k.2 c.nodes.shard k.4 c.if-shard-budget.false) in
          (k.0, k.1, k.2, k.3, (hand k.0 c.args.claimed c.args.budget k.1 k.2 k.3 b.0).0);
      goes_on = λ p layers first suited a.
          let x = c.nodes.invariant.goes_on p layers first suited a in
          let b = visit p c.args.budget layers first suited x.0 ((c.nodes-test.ensures p x.0.shard_record x.0.stands).0 refl) (room_left p c.args.claimed c.args.budget layers first c.nodes.shard x.0 c.if-shard-budget.false) in
          let y = hand p c.args.claimed c.args.budget layers first suited b.0 in
          (y.0, y.2);
    }

pub hand_over-requires-in-nodes : goal.hand_over-requires-in-nodes
hand_over-requires-in-nodes g c =
    let k = c.nodes.invariant.asked in
    let b = c.in_ok-visit_next.ensures.goes_on k.0 c.args.budget k.1 k.2 k.3 k.4 ((c.nodes-test.ensures k.0 k.4.shard_record k.4.stands).0 refl) (room_left k.0 c.args.claimed c.args.budget k.1 k.2 c.nodes.shard k.4 c.if-shard-budget.false) in
    (k.0, c.args.claimed, c.args.budget, k.1, k.2, k.3, b.0)

pub nodes-smaller : goal.nodes-smaller
nodes-smaller g c =
    let k = c.nodes.invariant.asked in
    let b = c.in_ok-visit_next.ensures.goes_on k.0 c.args.budget k.1 k.2 k.3 k.4 ((c.nodes-test.ensures k.0 k.4.shard_record k.4.stands).0 refl) (room_left k.0 c.args.claimed c.args.budget k.1 k.2 c.nodes.shard k.4 c.if-shard-budget.false) in
    let y = c.in_ok-hand_over-2.ensures k.0 c.args.claimed c.args.budget k.1 k.2 k.3 b.0 in
    fewer_wait k.0 c.args.claimed c.args.budget k.1 k.2 c.nodes.shard k.4 c.hand_over-in-nodes.new.shard y.0 (subst (λ (ns : List Node). length ns < length k.4.shard_record.waiting) (sym y.1.waiting) b.1)

pub returns-in_err-visit_next-clause-ends : goal.returns-in_err-visit_next-clause-ends
returns-in_err-visit_next-clause-ends g c = λ p layers first suited a.
    let x = c.nodes.invariant.goes_on p layers first suited a in
    passed_up c.from_residual-in_err-visit_next.result c.in_err-visit_next.field-0.0 (Ends p c.args.claimed c.args.budget c.visit_next.new.shard) c.from_residual-in_err-visit_next.ensures.1
    (c.in_err-visit_next.ensures.ends p c.args.budget layers first suited x.0 ((c.nodes-test.ensures p x.0.shard_record x.0.stands).0 refl))

pub returns-clause-goes_on : goal.returns-clause-goes_on
returns-clause-goes_on g c = λ p layers first suited a.
    let x = c.nodes.invariant.goes_on p layers first suited a in
    let idle = none_left p c.args.claimed c.args.budget layers first c.nodes.shard x.0 (λ some. not_true ((c.nodes-test.ensures p x.0.shard_record x.0.stands).1 some)) in
    (x.0, ready p c.args.claimed c.args.budget layers first c.nodes.shard x.0 idle x.1)
  where
    not_true : false ≡ true → ⊥
    not_true e = cc
