use Rattle.std.proofs.Common.{◌≡◌, ◌≤◌, Some, refl, ap, ◌∙◌}
use Rattle.std.proofs.lemmas.Result.{IfOk-weaker}
use Rattle.best_ledger.specs.Events.{fresh}
use Rattle.pass_ledger.specs.Records.{Starts}
use Rattle.best_shard.specs.Stands.{Stands}
use Rattle.state_layout.specs.declared.node.Node.{Node}
use Rattle.std.specs.Prelude.{Option}
use Rattle.best_ledger.specs.Searches.{pass_of, search_of}
use Rattle.best_over.proofs.Starting.{starts_other, starts_owner, target_inner}
use Rattle.best_first.proofs.crew.make_shard.Goals as goal
use Rattle.best_first.proofs.crew.make_shard.Goals.{then-shard-target+in_ok-copy, else-shard-target}

pub returns : goal.returns
returns g c =
    let m = c.args.model.now in
    let o = c.args.options.now in
    let t = c.args.target.now in
    let start = c.if-shard-target.start in
    let starts : (some : 1 ≤ o.workers) → Starts (pass_of (search_of m o some)) c.args.shard start
    = λ some. elim c.if-shard-target.branch [
      | then-shard-target+in_ok-copy w ↦ starts_owner m o some t c.requires.target c.args.shard start w.if-shard-target.true (w.start-is ∙ ap Some w.in_ok-copy.ensures)
      | else-shard-target w ↦ starts_other m o some t c.requires.target c.args.shard start w.if-shard-target.false w.start-is
    ] in
    λ some.
    let p = pass_of (search_of m o some) in
    IfOk-weaker c.new.result (λ s. (s.me ≡ c.args.shard) × Stands p s (fresh o.workers start)) (λ s. (s.me ≡ c.args.shard) × (x : Option Node) × Stands p s (fresh o.workers x)) (λ s h. (h.0, start, h.1))
    (c.new.ensures p (record { law = c.requires.law; covering = c.requires.covering; prune_is = c.requires.prune }) refl refl refl (λ state. refl) (target_inner m o t c.requires.target) (starts some))
