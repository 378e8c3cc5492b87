use Rattle.std.proofs.Common.{rules, arith, ◌≡◌, ◌∙◌, ap, true}
use Rattle.std.specs.Prelude.{Some}
use Rattle.state_layout.specs.Packing.{state_in}
use Rattle.packed_words.specs.Ranges.{range_members}
use Rattle.packed_words.specs.Sets.{members_from}
use Rattle.packed_eval.specs.Rows.{met_by, all_met}
use Rattle.packed_eval.proofs.Foralls.{from_start}
use Rattle.packed_eval.proofs.Sides.{met_step}
use Rattle.packed_eval.proofs.rows.all_met_in_turn.Goals as goal

pub loop-member-init : goal.loop-member-init
loop-member-init c = record {
  left = ap (all_met c.args.sides.now) (from_start (range_members (state_in c.args.at.now.words.now) c.args.range));
  within = omega arith;
}

pub loop-member-preserved : goal.loop-member-preserved
loop-member-preserved c =
    let met : met_by c.args.sides.now c.in-Some.member ≡ Some true = search rules in
    record {
      left = met_step c.args.sides.now (λ from. members_from from (range_members (state_in c.args.at.now.words.now) c.args.range)) c.loop-member.from c.in-Some.member c.in-Some.ensures.value met ∙ c.loop-member.invariant.left;
      within = omega (arith, c.in-Some.ensures.below.1);
    }
