use Rattle.std.proofs.Common.{inr, arith, rules}
use Rattle.std.proofs.lemmas.Bool.{leb-true}
use Rattle.shard_core.proofs.Posts.{quiet}
use Rattle.shard_core.proofs.Tells.{empty_of}
use Rattle.shard_core.proofs.shard.Shard.is_quiet.Goals as goal

pub returns : goal.returns
returns g c = λ p r st told.
    let none = empty_of c.args.self.now.letters.items (search rules) in
    let shards = st.belongs.shards_are in
    let least = leb-true c.args.self.now.shards c.args.self.now.told told in
    quiet p c.args.self.now r st none (inr (omega (arith, least, shards)))
