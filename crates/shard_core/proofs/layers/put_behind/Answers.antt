use Rattle.std.proofs.Common.{◌≡◌, false, List, [], ◌∷◌, ◌++◌, sym, subst, rules}
use Rattle.shard_core.specs.Layers.{AreOf}
use Rattle.shard_core.specs.declared.layers.Layer.{Layer}
use Rattle.shard_core.proofs.Rows.{push_layouts}
use Rattle.shard_core.proofs.layers.put_behind.Goals as goal

pub returns-in_err-push-clause-layouts : goal.returns-in_err-push-clause-layouts
returns-in_err-push-clause-layouts g c = λ layout are _.
    let same : c.push.new.self.items ≡ c.args.layers.now.items = search rules in
    subst (λ (xs : List (Layer g.row.K.Denot)). AreOf layout xs) (sym same) are

pub returns-clause-layouts : goal.returns-clause-layouts
returns-clause-layouts g c = λ layout are e.
    let x : Layer g.row.K.Denot = record { nodes = c.args.nodes; pending = c.args.pending; busy = false } in
    let same : c.push.new.self.items ≡ c.args.layers.now.items ++ x ∷ [] = search rules in
    subst (λ (xs : List (Layer g.row.K.Denot)). AreOf layout xs) (sym same) (push_layouts layout c.args.layers.now.items x are e c.requires.pending)
