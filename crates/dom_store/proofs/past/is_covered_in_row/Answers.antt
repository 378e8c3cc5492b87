use Rattle.std.proofs.Common.{length}
use Rattle.dom_store.specs.Chains.{chain_from, row_in}
use Rattle.dom_store.proofs.Remembering.{past_answers}
use Rattle.dom_store.proofs.past.is_covered_in_row.Goals as goal

pub is_covered_from-requires-clause-kept : goal.is_covered_from-requires-clause-kept
is_covered_from-requires-clause-kept g c = c.requires.kept.nodes

pub returns : goal.returns
returns g c =
    past_answers g.K.Covers.prune g.K.Covers.minimize g.K.Covers.operator g.met.K.Covers.one_key g.met.K.Covers.transitive c.args.layout.now (row_in c.args.chains.now.heads.items c.args.chains.now.links.items) (length c.args.chains.now.links.items) c.args.kept.now c.requires.kept
    c.args.node.now c.args.key (chain_from c.args.chains.now.links.items c.newest-newest.result) c.is_covered_from.result c.requires.key c.newest-newest.ensures c.is_covered_from.ensures
