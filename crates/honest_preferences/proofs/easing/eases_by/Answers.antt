use Rattle.std.proofs.Common.{rules, ◌≡◌, sym, subst}
use Rattle.dp_model.specs.declared.trees.Compare.{Compare}
use Rattle.dp_model.specs.declared.trees.Compare.TheVariants as comparisons
use Rattle.honest_preferences.specs.Easing.{EasesBy}
use Rattle.honest_preferences.proofs.Conditions.{eases_alike, eases_at_least, eases_at_most, eases_less, eases_more}
use Rattle.honest_preferences.proofs.easing.eases_by.Goals as goal

pub returns-in-Less : goal.returns-in-Less
returns-in-Less c = λ yes.
    let is : c.args.op ≡ comparisons.Less = search rules in
    let h = c.moves_apart.ensures yes in
    subst (λ (op : Compare). EasesBy c.args.at.now.model.now c.args.at.now.kept.now c.args.at.now.ends.now op c.args.a.now c.args.b.now) (sym is) (eases_less c.args.at.now.model.now c.args.at.now.kept.now c.args.at.now.ends.now c.args.a.now c.args.b.now h.0 h.1)

pub returns-in-AtMost : goal.returns-in-AtMost
returns-in-AtMost c = λ yes.
    let is : c.args.op ≡ comparisons.AtMost = search rules in
    let h = c.moves_apart-in-AtMost.ensures yes in
    subst (λ (op : Compare). EasesBy c.args.at.now.model.now c.args.at.now.kept.now c.args.at.now.ends.now op c.args.a.now c.args.b.now) (sym is) (eases_at_most c.args.at.now.model.now c.args.at.now.kept.now c.args.at.now.ends.now c.args.a.now c.args.b.now h.0 h.1)

pub returns-in-More : goal.returns-in-More
returns-in-More c = λ yes.
    let is : c.args.op ≡ comparisons.More = search rules in
    let h = c.moves_apart-in-More.ensures yes in
    subst (λ (op : Compare). EasesBy c.args.at.now.model.now c.args.at.now.kept.now c.args.at.now.ends.now op c.args.a.now c.args.b.now) (sym is) (eases_more c.args.at.now.model.now c.args.at.now.kept.now c.args.at.now.ends.now c.args.a.now c.args.b.now h.1 h.0)

pub returns-in-AtLeast : goal.returns-in-AtLeast
returns-in-AtLeast c = λ yes.
    let is : c.args.op ≡ comparisons.AtLeast = search rules in
    let h = c.moves_apart-in-AtLeast.ensures yes in
    subst (λ (op : Compare). EasesBy c.args.at.now.model.now c.args.at.now.kept.now c.args.at.now.ends.now op c.args.a.now c.args.b.now) (sym is) (eases_at_least c.args.at.now.model.now c.args.at.now.kept.now c.args.at.now.ends.now c.args.a.now c.args.b.now h.1 h.0)

pub returns-in-Same : goal.returns-in-Same
returns-in-Same c = λ yes.
    let is : c.args.op ≡ comparisons.Same = search rules in
    let h = c.both_leave.ensures yes in
    subst (λ (op : Compare). EasesBy c.args.at.now.model.now c.args.at.now.kept.now c.args.at.now.ends.now op c.args.a.now c.args.b.now) (sym is) (eases_alike c.args.at.now.model.now c.args.at.now.kept.now c.args.at.now.ends.now comparisons.Same c.args.a.now c.args.b.now h.0 h.1)

pub returns-in-Other : goal.returns-in-Other
returns-in-Other c = λ yes.
    let is : c.args.op ≡ comparisons.Other = search rules in
    let h = c.both_leave-in-Other.ensures yes in
    subst (λ (op : Compare). EasesBy c.args.at.now.model.now c.args.at.now.kept.now c.args.at.now.ends.now op c.args.a.now c.args.b.now) (sym is) (eases_alike c.args.at.now.model.now c.args.at.now.kept.now c.args.at.now.ends.now comparisons.Other c.args.a.now c.args.b.now h.0 h.1)
