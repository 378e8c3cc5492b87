use Rattle.std.proofs.Common.{◌≡◌, ℕ, ◌<◌, suc, refl, sym, subst, ap, ◌∙◌, arith}
use Rattle.dp_model.specs.declared.whole.Model.{Model}
use Rattle.path_log.specs.Paths.{Log}
use Rattle.state_layout.specs.Conditions.{IsLayoutOf, IsNodeOf}
use Rattle.state_layout.specs.Signatures.{owner_of}
use Rattle.state_layout.specs.declared.layout.Layout.{Layout}
use Rattle.state_layout.specs.declared.node.Node.{Node}
use Rattle.pass_ledger.proofs.Runs.{own_fresh}
use Rattle.successors.specs.Searches.{Search}
use Rattle.shard_core.proofs.Starts.{some_fits, some_good, only_start, equal_long, equal_at, new_stands}
use Rattle.shard_core.proofs.shard.Shard.new.Goals as goal

pub first_layers-requires : goal.first_layers-requires
first_layers-requires g c = some_fits c.args.model.now c.in_ok-layout.layout c.in_ok-layout.ensures c.args.start c.requires.node

pub returns : goal.returns
returns g c = λ p suited model prune keep shards share owner inner starts.
    let count : c.workers-shards.result ≡ p.shards = c.workers-shards.ensures ∙ sym shards in
    let layout = c.in_ok-layout.ensures in
    let is_layout = subst (λ (m : Model). IsLayoutOf m c.in_ok-layout.layout) (sym model) layout in
    let merged = λ (m : Node). c.in_ok-collected.ensures.merged p m is_layout suited.covering suited.prune_is in (
      refl,
      new_stands p c.args.start _
          (record {
            below = subst (λ (k : ℕ). c.args.shard < k) (sym shards) c.requires.below;
            shards_are = count;
            share_is = sym share;
            model = ap (λ (x : Search). x.model) c.in_ok-expander.ensures ∙ sym model;
            prune = ap (λ (x : Search). x.prune) c.in_ok-expander.ensures ∙ (c.prune.ensures ∙ sym prune);
            layout_is = is_layout;
            owner = λ state. ap (λ (k : ℕ). owner_of c.in_ok-layout.layout state k) c.workers-shards.ensures ∙ (ap (λ (l : Layout). owner_of l state c.args.options.now.workers) layout ∙ owner state);
            inner = inner;
          })
          (c.keep.ensures ∙ sym keep) c.in_ok-past.ensures.layout c.in_ok-past.ensures.nodes starts (own_fresh p c.args.shard c.args.start starts) (λ n e. subst (λ (m : Model). IsNodeOf m n) (sym model) (some_good c.args.model.now c.args.start c.requires.node n e))
          refl c.new-4.ensures.items c.new-5.ensures.items refl (ap (λ (l : Log). l.shard) c.new-3.ensures) (ap (λ (l : Log). l.entries) c.new-3.ensures) refl refl refl refl
          (equal_long c.in_ok-open_layers.open_layers.items c.workers-shards.result 1 c.in_ok-open_layers.ensures ∙ count)
          (λ j lt. equal_at c.in_ok-open_layers.open_layers.items c.workers-shards.result 1 1 c.in_ok-open_layers.ensures j (subst (λ (k : ℕ). j < k) (sym count) lt))
          count (equal_long c.in_ok-sent.sent.items c.workers-shards.result 0 c.in_ok-sent.ensures ∙ count)
          (λ j lt. equal_at c.in_ok-sent.sent.items c.workers-shards.result 0 0 c.in_ok-sent.ensures j (subst (λ (k : ℕ). j < k) (sym count) lt))
          refl c.in_ok-collected.ensures.layouts c.in_ok-collected.ensures.busy (λ n e. (merged n e).added) (only_start p c.args.start _ c.in_ok-collected.ensures.none merged) (λ d. c.in_ok-collected.ensures.later (suc d) (omega arith)),
    )
