use Rattle.std.proofs.Common.{ap, subst, ◌∙◌}
use Rattle.state_layout.specs.Keys.{key_of}
use Rattle.state_layout.specs.Flat.{HasNoResource}
use Rattle.state_layout.proofs.Flattening.{all_words}
use Rattle.state_layout.proofs.layout.Layout.signature_key.Goals as goal

pub returns-then-not-self : goal.returns-then-not-self
returns-then-not-self c = c.state_key.ensures ∙ ap key_of (all_words c.args.self.now c.args.p.now.values (subst HasNoResource c.self.view_is (c.self.invariant.2.0 c.if-not-self.true)))
