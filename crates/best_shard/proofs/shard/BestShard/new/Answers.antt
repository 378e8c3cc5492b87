use Rattle.std.proofs.Common.{◌≡◌, ℕ, ◌<◌, refl, sym, subst, ap, ◌∙◌}
use Rattle.dp_model.specs.declared.whole.Model.{Model}
use Rattle.path_log.specs.Paths.{Log}
use Rattle.state_layout.specs.Conditions.{IsLayoutOf, IsNodeOf}
use Rattle.state_layout.specs.Signatures.{owner_of}
use Rattle.state_layout.specs.declared.layout.Layout.{Layout}
use Rattle.successors.specs.Searches.{Search}
use Rattle.best_shard.proofs.Opens.{some_fits, some_good}
use Rattle.best_shard.proofs.Starts.{new_stands}
use Rattle.best_shard.proofs.shard.BestShard.new.Goals as goal

pub first_open-requires : goal.first_open-requires
first_open-requires g c = some_fits c.args.model.now c.in_ok-layout.layout c.in_ok-layout.ensures c.args.start c.requires.node

pub returns : goal.returns
returns g c = λ p suited model prune shards owner inner starts.
    let count : c.workers.result ≡ p.shards = c.workers.ensures ∙ sym shards in
    let layout = c.in_ok-layout.ensures in (
      refl,
      new_stands p c.args.start _
          (record {
            below = subst (λ (k : ℕ). c.args.shard < k) (sym shards) c.requires.below;
            shards_are = count;
            model = ap (λ (x : Search). x.model) c.in_ok-expander.ensures ∙ sym model;
            prune = ap (λ (x : Search). x.prune) c.in_ok-expander.ensures ∙ (c.prune.ensures ∙ sym prune);
            layout_is = subst (λ (m : Model). IsLayoutOf m c.in_ok-layout.layout) (sym model) layout;
            owner = λ state. ap (λ (k : ℕ). owner_of c.in_ok-layout.layout state k) c.workers.ensures ∙ (ap (λ (l : Layout). owner_of l state c.args.options.now.workers) layout ∙ owner state);
            inner = inner;
          })
          starts (λ n e. subst (λ (m : Model). IsNodeOf m n) (sym model) (some_good c.args.model.now c.args.start c.requires.node n e))
          c.in_ok-waiting.ensures.layout c.in_ok-waiting.ensures.nodes c.in_ok-past.ensures.layout c.in_ok-past.ensures.nodes c.new-4.ensures.items
          refl (ap (λ (l : Log). l.shard) c.new-3.ensures) (ap (λ (l : Log). l.entries) c.new-3.ensures) refl refl refl,
    )
