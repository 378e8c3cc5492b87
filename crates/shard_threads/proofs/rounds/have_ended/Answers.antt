use Rattle.std.proofs.Common.{◌<◌, length, sym, ◌∙◌, arith}
use Rattle.shard_threads.proofs.Staying.{ended_all, ended_more}
use Rattle.shard_threads.proofs.rounds.have_ended.Goals as goal

pub loop-i-preserved : goal.loop-i-preserved
loop-i-preserved g c =
    let players = c.args.players.now.items in
    let inside : c.loop-i.i < length players = (let a = c.loop-i-test.true in let b = c.loop-i.invariant.long in omega (arith, a, b)) in
    record {
      ended = ended_more g.P.Player.has_ended c.loop-i.i players c.index.result.now c.loop-i.invariant.ended inside c.index.ensures (sym c.has_ended.ensures ∙ c.if-not-has_ended.false);
      long = c.loop-i.invariant.long;
    }

pub returns : goal.returns
returns g c = λ yes. ended_all g.P.Player.has_ended c.loop-i.i c.args.players.now.items (let a = c.loop-i-test.false in let b = c.loop-i.invariant.long in omega (arith, a, b)) c.loop-i.invariant.ended
