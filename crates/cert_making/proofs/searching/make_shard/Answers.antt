use Rattle.std.proofs.Common.{sym, ap, ◌∙◌}
use Rattle.dp_model.specs.declared.answers.Options.{Options}
use Rattle.cert_making.proofs.Starts.{inner_in, starts, target_owned}
use Rattle.cert_making.proofs.Turns.{first_shard, fresh_makes, if_ok}
use Rattle.cert_making.proofs.searching.make_shard.Goals as goal

pub returns : goal.returns
returns g c = λ p claimed budget suited is inner start.
    let m = c.args.model.now in
    let o = c.args.options.now in
    let begins = starts m o p c.args.node is start in
    let one = ap (λ (x : Options). x.workers) c.alone.ensures in
    if_ok c.new.result
    (c.new.ensures p suited is.model (is.prune ∙ sym (ap (λ (x : Options). x.prune) c.alone.ensures)) (is.keep ∙ sym (ap (λ (x : Options). x.keep) c.alone.ensures)) (is.alone ∙ sym one) is.share
    (λ state. target_owned m p state c.alone.result.workers one (is.owner state)) (inner_in m o p is inner) (begins, first_shard p.shards (p.owner p.model.target) is.alone (p.owned p.model.target)))
    (λ s h. fresh_makes p claimed budget s c.args.node is.alone (inner_in m o p is inner) begins h.1)
