use Rattle.std.proofs.Common.{List, length, arith, ap, ◌∙◌}
use Rattle.std.specs.Option.{option_and_then}
use Rattle.dom_store.specs.Chains.{linked_key, key_in}
use Rattle.dom_store.specs.declared.chains.Link.{Link}
use Rattle.dom_store.proofs.Moving.{cut_get, cut_length}
use Rattle.dom_store.proofs.chains.Chains.keep_first.Goals as goal

pub returns-clause-rows : goal.returns-clause-rows
returns-clause-rows c = λ buckets k p within is. c.link_first.ensures.rows (omega (arith, buckets, c.fill.ensures.len, c.fill.new.self.ok.0, c.args.self.now.heads.ok.0))
    k p (ap (λ (ls : List Link). key_in ls p) c.truncate.ensures.items ∙ ap (option_and_then linked_key) (cut_get c.args.self.now.links.items c.args.count p within) ∙ is)

pub returns-clause-len : goal.returns-clause-len
returns-clause-len c = c.link_first.ensures.len ∙ ap length c.truncate.ensures.items ∙ cut_length c.args.self.now.links.items c.args.count c.requires
