use Rattle.std.proofs.Common.{◌<◌, List, length, drop, refl, sym, subst, Some}
use Rattle.std.specs.Prelude.{pos, ◌≤ℤ◌}
use Rattle.dp_model.specs.Costs.{order_word}
use Rattle.state_layout.specs.declared.node.Node.{Node}
use Rattle.shard_core.proofs.Ranges.{head_floor}
use Rattle.shard_core.proofs.Rows.{by_law}
use Rattle.shard_core.proofs.Tells.{first_of, pruned_head}
use Rattle.shard_core.proofs.shard.Shard.prune_head.Goals as goal

pub is_pruned-requires : goal.is_pruned-requires
is_pruned-requires g c =
    let s = c.args.self.now in
    let some = subst (λ (ns : List Node). 0 < length ns) (sym c.requires.2.waiting) c.requires.3 in
    head_floor c.requires.0 s c.requires.1 c.requires.2 c.in-Some.node.now (drop 1 s.waiting.items) (first_of s.waiting.items c.in-Some.node.now some c.in-Some.ensures.lookup)

pub returns-clause-pruned : goal.returns-clause-pruned
returns-clause-pruned g c = λ p r suited st _.
    let s = c.args.self.now in
    let some = subst (λ (ns : List Node). 0 < length ns) (sym c.requires.2.waiting) c.requires.3 in
    let h = c.if-not-is_pruned.ensures.pruned refl in
    pruned_head p s r st c.in-Some.node.now (drop 1 s.waiting.items) (first_of s.waiting.items c.in-Some.node.now some c.in-Some.ensures.lookup) c.args.best
    (h.0, h.1, by_law p.model g.L.CostLaw.minimize g.L.CostLaw.operator (λ b o. pos c.args.best ≤ℤ order_word b o (Some h.0)) suited.law h.2) c.pop_front.new.self c.pop_front.ensures.rest
