use Rattle.std.proofs.Common.{ℕ, sym, subst}
use Rattle.shard_core.specs.Calls.{IsReady}
use Rattle.cert_making.proofs.Turns.{closed, if_ok, me_first}
use Rattle.cert_making.proofs.layers.close_layer.Goals as goal

pub close-requires : goal.close-requires
close-requires g c =
    let k = c.requires in
    (k.0, k.5.shard_record, k.5.stands, subst (λ (i : ℕ). IsReady k.0 i k.5.shard_record) (sym (me_first k.0 k.1 k.2 k.3 c.args.first c.args.shard.now k.5)) k.6)

pub returns : goal.returns
returns g c = λ p claimed budget layers suited a rdy.
    let here = subst (λ (i : ℕ). IsReady p i a.shard_record) (sym (me_first p claimed budget layers c.args.first c.args.shard.now a)) rdy in
    if_ok c.nodes_of.result c.nodes_of.ensures
    (λ nodes h. closed p claimed budget layers c.args.first c.args.shard.now a c.in_ok-closed.closed c.close.new.self (c.in_ok-closed.ensures.closed p a.shard_record suited a.stands here) c.if-closed-gt0.false nodes.items h)
