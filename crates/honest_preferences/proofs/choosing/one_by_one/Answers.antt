use Rattle.std.proofs.Common.{sym, ◌∙◌}
use Rattle.honest_preferences.proofs.Choices.{added_of, none_holds}
use Rattle.honest_preferences.proofs.choosing.one_by_one.Goals.{then-is_one+in_ok-kept-2, else-is_one}
use Rattle.honest_preferences.proofs.choosing.one_by_one.Goals as goal

pub loop-place-init : goal.loop-place-init
loop-place-init c = record {
  many = c.in_ok-kept.ensures.each ∙ sym c.requires;
  holds = none_holds c.args.model.now c.in_ok-kept.kept.items c.in_ok-kept.ensures.none;
  among = λ i h. absurd (c.in_ok-kept.ensures.none i h);
}

pub loop-place-preserved : goal.loop-place-preserved
loop-place-preserved c = elim c.if-is_one.branch [
  | then-is_one+in_ok-kept-2 w ↦ rw w.kept-is (record {
    many = w.in_ok-kept-2.ensures.each ∙ c.loop-place.invariant.many;
    holds = w.in_ok-kept-2.ensures.holds c.loop-place.invariant.holds;
    among = λ i h. added_of c.args.resources.now c.loop-place.kept.items c.loop-place.place w.if-is_one.true c.loop-place.invariant.among i (w.in_ok-kept-2.ensures.among i h);
  })
  | else-is_one w ↦ rw w.kept-is c.loop-place.invariant
]
