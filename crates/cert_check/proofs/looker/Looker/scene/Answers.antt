use Rattle.std.proofs.Common.{sym, subst}
use Rattle.state_layout.specs.Conditions.{IsPackedOf}
use Rattle.dp_model.specs.declared.whole.Model.{Model}
use Rattle.cert_check.proofs.looker.Looker.scene.Goals as goal

pub words_of-requires-clause-state : goal.words_of-requires-clause-state
words_of-requires-clause-state c = (c.self.inside.model.now, c.self.invariant.0, subst (λ (m : Model). IsPackedOf m c.args.p.now) (sym c.self.view_is) c.requires.packed)
