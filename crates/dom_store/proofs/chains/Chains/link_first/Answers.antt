use Rattle.dom_store.proofs.Linking.{all_in_rows}
use Rattle.dom_store.proofs.chains.Chains.link_first.Goals as goal

pub returns-clause-rows : goal.returns-clause-rows
returns-clause-rows c = λ buckets. all_in_rows c.link_all.new.heads.items c.args.self.now.links.items c.link_all.new.links.items c.link_all.ensures.keys c.link_all.ensures.all
