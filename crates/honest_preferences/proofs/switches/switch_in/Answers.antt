use Rattle.std.proofs.Common.{sym, ◌∙◌}
use Rattle.honest_preferences.proofs.switches.switch_in.Goals as goal

pub returns : goal.returns
returns c =
    let x = c.prefers_greater.ensures c.if-not-prefers_greater.false in
    record {
      variable = x.0;
      there = x.1;
      greater = x.2;
      integer = c.is_integer.ensures c.if-not-is_integer.false;
      keeps = sym c.is_kept.ensures ∙ c.if-not-is_kept.false;
      test = c.in_ok-test.ensures c.args.at.now.model.now;
    }
