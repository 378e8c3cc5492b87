use Rattle.std.proofs.Common.{◌≡◌, refl, rules}
use Rattle.dp_model.specs.declared.trees.Cond as conds
use Rattle.cert_check.proofs.Leaps.{wanted_left, wanted_right}
use Rattle.cert_check.proofs.wants.wanted_in.Goals as goal

pub returns-in-Some : goal.returns-in-Some
returns-in-Some c =
    let x = c.in-Numbers in
    let is : conds.out-Cond c.args.condition.now ≡ conds.Cond-F.Numbers x.op x.a x.b = search (rules, conds.the_lemmas) in
    wanted_left c.args.condition.now x.op x.a x.b c.args.args.now c.in-Some.wanted.variable c.in-Some.wanted.number is (c.if-is_same.ensures refl) c.in-Some.ensures.variable c.in-Some.ensures.number

pub returns-in-None : goal.returns-in-None
returns-in-None c =
    let x = c.in-Numbers in
    let is : conds.out-Cond c.args.condition.now ≡ conds.Cond-F.Numbers x.op x.a x.b = search (rules, conds.the_lemmas) in
    wanted_right c.args.condition.now x.op x.a x.b c.args.args.now c.wanted_of-in-None.result is (c.if-is_same.ensures refl) c.wanted_of-in-None.ensures.variable c.wanted_of-in-None.ensures.number
