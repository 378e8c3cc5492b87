use Rattle.std.proofs.Common.{true, arith, rules}
use Rattle.shard_core.specs.Calls.{IsReady}
use Rattle.shard_core.proofs.Tells.{empty_of, is_never, finds_ready, never_past, by_past}
use Rattle.shard_core.proofs.shard.Shard.ready.Goals as goal

pub returns-then-not-are_past : goal.returns-then-not-are_past
returns-then-not-are_past g c = λ p r st. never_past p c.args.self.now r st c.deref.result.now c.deref.ensures.value c.if-not-are_past.ensures

pub returns-then-self : goal.returns-then-self
returns-then-self g c = λ p r st.
    is_never (IsReady p c.args.self.now.me r) (λ ready.
    (let told = (finds_ready p c.args.self.now r st ready).2 in
    let less = c.if-self.true in
    let shards = st.belongs.shards_are in
    omega (arith, told, less, shards)))

pub returns : goal.returns
returns g c = λ p r st.
    let more = c.if-self.false in
    let few = st.outbox.few in
    let shards = st.belongs.shards_are in
    by_past p c.args.self.now r st (empty_of c.args.self.now.waiting.items (search rules)) (empty_of c.args.self.now.letters.items (search rules)) (omega (arith, more, few, shards)) true c.deref.result.now c.deref.ensures.value c.if-not-are_past.ensures
