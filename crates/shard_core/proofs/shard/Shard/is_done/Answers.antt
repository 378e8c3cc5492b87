use Rattle.std.proofs.Common.{refl, arith}
use Rattle.std.proofs.lemmas.Bool.{false≢true}
use Rattle.pass_ledger.specs.Records.{Done}
use Rattle.shard_core.proofs.Tells.{is_never, finds_done, by_calm}
use Rattle.shard_core.proofs.shard.Shard.is_done.Goals as goal

pub returns-then-not-ready : goal.returns-then-not-ready
returns-then-not-ready g c = λ p r st.
    is_never (Done p c.args.self.now.me r) (λ done. false≢true ((c.if-not-ready.ensures p r st).1 (finds_done p c.args.self.now r st done).0))

pub returns : goal.returns
returns g c = λ p r st.
    let some = c.if-self-eq0.false in
    by_calm p c.args.self.now r st ((c.if-not-ready.ensures p r st).0 refl) (omega (arith, some)) c.is_busy.result c.deref.result.now c.deref.ensures.value c.is_busy.ensures
