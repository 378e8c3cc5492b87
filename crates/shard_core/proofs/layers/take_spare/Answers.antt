use Rattle.std.proofs.Common.{◌<◌, length, arith}
use Rattle.shard_core.proofs.Rows.{got, set_same}
use Rattle.shard_core.proofs.layers.take_spare.Goals as goal

pub returns : goal.returns
returns g c =
    let within : c.args.place < length c.args.layers.now.items = omega (arith, c.if-len-place.false, c.len.ensures, c.args.layers.now.ok.0) in
    let at = got c.args.layers.now.items c.args.place c.index_mut.result.now within c.index_mut.ensures.value in
    rw c.take_spare.ensures (set_same c.args.layers.now.items c.args.place c.index_mut.result.now at)
