use Rattle.std.proofs.Common.{rules, ◌≡◌, sym, ◌∙◌}
use Rattle.dp_model.specs.declared.trees.Cond as conds
use Rattle.honest_preferences.proofs.Conditions.{eases_all, eases_and, eases_if, eases_numbers, eases_or, eases_same}
use Rattle.honest_preferences.proofs.easing.+easing.Goals as goal

pub returns-in-Numbers : goal.returns-in-Numbers
returns-in-Numbers t c =
    let form : conds.out-Cond c.args.c.now ≡ conds.Cond-F.Numbers c.in-Numbers.op c.in-Numbers.a c.in-Numbers.b = search (rules, conds.the_lemmas) in
    λ yes. eases_numbers c.args.at.now.model.now c.args.at.now.kept.now c.args.at.now.ends.now c.args.c.now c.in-Numbers.op c.in-Numbers.a c.in-Numbers.b form (c.eases_by.ensures yes)

pub returns-in-And : goal.returns-in-And
returns-in-And t c =
    let a = c.get.result.now in
    let b = c.get-in-And.result.now in
    let form : conds.out-Cond c.args.c.now ≡ conds.Cond-F.And a b = search (rules, conds.the_lemmas) in
    λ yes. let h = c.both.ensures yes in eases_and c.args.at.now.model.now c.args.at.now.kept.now c.args.at.now.ends.now c.args.c.now a b form (c.eases.ensures h.0) (c.eases-in-And.ensures h.1)

pub returns-in-Or : goal.returns-in-Or
returns-in-Or t c =
    let a = c.get-in-Or.result.now in
    let b = c.get-in-Or-2.result.now in
    let form : conds.out-Cond c.args.c.now ≡ conds.Cond-F.Or a b = search (rules, conds.the_lemmas) in
    λ yes. let h = c.both-in-Or.ensures yes in eases_or c.args.at.now.model.now c.args.at.now.kept.now c.args.at.now.ends.now c.args.c.now a b form (sym c.leaves_cond.ensures ∙ h.0) (c.eases-in-Or.ensures h.1)

pub returns-in-If : goal.returns-in-If
returns-in-If t c =
    let a = c.get-in-If.result.now in
    let b = c.get-in-If-2.result.now in
    let test = c.get-in-If-3.result.now in
    let form : conds.out-Cond c.args.c.now ≡ conds.Cond-F.Cond::If test a b = search (rules, conds.the_lemmas) in
    λ yes. let h = c.both-in-If.ensures yes in let sides = c.both-sides.ensures h.1 in eases_if c.args.at.now.model.now c.args.at.now.kept.now c.args.at.now.ends.now c.args.c.now test a b form (sym c.leaves_cond-in-If.ensures ∙ h.0) (c.eases-in-If.ensures sides.0) (c.eases-in-If-2.ensures sides.1)

pub returns-in-All : goal.returns-in-All
returns-in-All t c =
    let each = c.get-in-All.result.now in
    let form : conds.out-Cond c.args.c.now ≡ conds.Cond-F.All c.in-All.over each = search (rules, conds.the_lemmas) in
    λ yes. let h = c.both-in-All.ensures yes in eases_all c.args.at.now.model.now c.args.at.now.kept.now c.args.at.now.ends.now c.args.c.now c.in-All.over each form (sym c.over_leaves.ensures ∙ h.0) (c.eases-in-All.ensures h.1)

pub returns-in_default : goal.returns-in_default
returns-in_default t c = λ yes. eases_same c.args.at.now.model.now c.args.at.now.kept.now c.args.at.now.ends.now c.args.c.now (sym c.leaves_cond-in_default.ensures ∙ yes)
