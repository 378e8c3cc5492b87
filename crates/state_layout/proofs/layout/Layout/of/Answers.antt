use Rattle.std.proofs.Common.{◌∙◌}
use Rattle.state_layout.proofs.Ranking.{ranked_slots}
use Rattle.state_layout.proofs.Stepping.{few_slots}
use Rattle.state_layout.proofs.layout.Layout.of.Goals as goal

pub blank_of-requires-clause-few : goal.blank_of-requires-clause-few
blank_of-requires-clause-few c = few_slots c.args.model.now c.deref.result.now (c.deref.ensures.value ∙ c.in_ok-slots.ensures)

pub blank_of-requires-clause-ranked : goal.blank_of-requires-clause-ranked
blank_of-requires-clause-ranked c = ranked_slots c.args.model.now.objects c.args.model.now.variables c.deref.result.now (c.deref.ensures.value ∙ c.in_ok-slots.ensures)
