use Rattle.std.proofs.Common.{◌∷◌, ◌++◌, [], ◌∙◌, refl, sym}
use Rattle.dom_store.specs.Past.{past_node}
use Rattle.cert_laws.specs.Checks.{is_covered}
use Rattle.cert_check.proofs.Alike.{left_out, put_behind}
use Rattle.cert_check.proofs.Tests.{past_covers}
use Rattle.cert_check.proofs.standings.remember_one.Goals as goal

pub returns-then-covered-clause-nodes : goal.returns-then-covered-clause-nodes
returns-then-covered-clause-nodes g c =
    let m = c.args.looker.now in
    let prune = g.K.Covers.prune in
    let old = c.args.past.now.nodes in
    let same = c.covered.ensures.test ∙ past_covers m prune prune g.K.Covers.minimize g.K.Covers.operator _ old c.args.node.now c.requires.law.0 c.requires.law.1 c.layout.ensures refl in
    left_out (is_covered m prune old c.args.node.now.state c.args.node.now.cost) old (old ++ past_node c.args.node.now ∷ []) (sym same ∙ c.if-covered.true)

pub returns-clause-nodes : goal.returns-clause-nodes
returns-clause-nodes g c =
    let m = c.args.looker.now in
    let prune = g.K.Covers.prune in
    let old = c.args.past.now.nodes in
    let same = c.covered.ensures.test ∙ past_covers m prune prune g.K.Covers.minimize g.K.Covers.operator _ old c.args.node.now c.requires.law.0 c.requires.law.1 c.layout.ensures refl in
    put_behind c.add.result (is_covered m prune old c.args.node.now.state c.args.node.now.cost) c.add.new.self.nodes old (old ++ past_node c.args.node.now ∷ []) (sym same ∙ c.if-covered.false) c.add.ensures.nodes
