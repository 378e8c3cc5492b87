use Rattle.std.proofs.Common.{sym, ap, ◌∙◌}
use Rattle.std.specs.Option.{option_and_then}
use Rattle.dom_store.specs.Chains.{linked_key}
use Rattle.dom_store.proofs.Chaining.{set_same, set_other}
use Rattle.dom_store.proofs.Indexing.{read_at}
use Rattle.dom_store.proofs.chains.Chains.copy_key.Goals as goal

pub returns-clause-key : goal.returns-clause-key
returns-clause-key c =
    ap (option_and_then linked_key) (set_same c.args.self.now.links.items c.args.to c.index.result.now c.requires.to)
    ∙ ap (option_and_then linked_key) (sym (read_at c.args.self.now.links.items c.args.from c.index.result.now c.requires.from c.index.ensures))

pub returns-clause-others : goal.returns-clause-others
returns-clause-others c = λ p off. ap (option_and_then linked_key) (set_other c.args.self.now.links.items c.args.to c.index.result.now p off)
