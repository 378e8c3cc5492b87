use Rattle.std.proofs.Common.{ap, subst, ◌∙◌}
use Rattle.state_layout.specs.Signatures.{hash_of}
use Rattle.state_layout.specs.Flat.{HasNoResource}
use Rattle.state_layout.proofs.Flattening.{all_words}
use Rattle.state_layout.proofs.layout.Layout.signature_hash.Goals as goal

pub returns-else-self : goal.returns-else-self
returns-else-self c = c.state_hash.ensures ∙ ap hash_of (all_words c.args.self.now c.args.p.now.values (subst HasNoResource c.self.view_is (c.self.invariant.2.0 c.if-self.false)))
