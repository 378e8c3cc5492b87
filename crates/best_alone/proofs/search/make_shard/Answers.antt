use Rattle.std.proofs.Common.{◌≡◌, Some, refl}
use Rattle.std.proofs.lemmas.Result.{IfOk-weaker}
use Rattle.std.specs.Prelude.{Option}
use Rattle.best_ledger.specs.Events.{fresh}
use Rattle.best_ledger.specs.Searches.{pass_of, search_of}
use Rattle.best_over.proofs.Starting.{target_inner}
use Rattle.best_shard.specs.Stands.{Stands}
use Rattle.state_layout.specs.declared.node.Node.{Node}
use Rattle.best_alone.proofs.Overs.{starts_first}
use Rattle.best_alone.proofs.search.make_shard.Goals as goal

pub returns : goal.returns
returns g c =
    let m = c.args.model.now in
    let o = c.args.options.now in
    let t = c.in_ok-target.target in
    λ some.
    let p = pass_of (search_of m o some) in
    IfOk-weaker c.new.result (λ s. (s.me ≡ 0) × Stands p s (fresh o.workers (Some t.node))) (λ s. (s.me ≡ 0) × (x : Option Node) × Stands p s (fresh o.workers x)) (λ s h. (h.0, Some t.node, h.1))
    (c.new.ensures p (record { law = c.requires.law; covering = c.requires.covering; prune_is = c.requires.prune }) refl refl refl (λ state. refl) (target_inner m o t c.in_ok-target.ensures) (starts_first m o some t c.in_ok-target.ensures c.requires.one))
