use Rattle.std.proofs.Common.{◌≤◌, ◌<◌, [], ◌∷◌, ◌++◌, List, ℤ, FitsSigned, length, take, sym, subst, rules, arith, w64, append-nil}
use Rattle.std.proofs.lemmas.Int.{to_z-of_z}
use Rattle.announcing.specs.Telling.{IsTold}
use Rattle.announcing.proofs.Looking.{all_of, one_more}
use Rattle.announcing.proofs.telling.look_all.Goals as goal

pub loop-i-init : goal.loop-i-init
loop-i-init g c = record {
  count = omega arith;
  told = λ last before bytes faults h. subst (λ (xs : List ℤ). IsTold c.args.minimize last xs bytes (g.S.Sink.taken c.args.out.now) faults (g.S.Sink.faults c.args.out.now) c.args.told.now) (sym (append-nil before)) h;
}

pub loop-i-preserved : goal.loop-i-preserved
loop-i-preserved g c =
    let i = c.loop-i.i in
    let items = c.args.costs.now.items in
    let x = c.index.result.now in
    let fits : FitsSigned w64 x = search rules in
    let within : i < length items = (let a = c.loop-i-test.true in let b = c.len-i-end.ensures in let d = c.args.costs.now.ok.0 in omega (arith, a, b, d)) in
    let a = g.S.Sink.taken c.look.new.out in
    let f = g.S.Sink.faults c.look.new.out in
    record {
      count = (let old = c.loop-i.invariant.count in let more = c.look.ensures.count in omega (arith, old, more));
      told = λ last before bytes faults h.
          subst (λ (xs : List ℤ). IsTold c.args.minimize last xs bytes a faults f c.look.new.told) (one_more before items i x within c.index.ensures)
          (subst (λ (z : ℤ). IsTold c.args.minimize last (before ++ take i items ++ z ∷ []) bytes a faults f c.look.new.told) (to_z-of_z w64 x fits)
          (c.look.ensures.told last (before ++ take i items) bytes faults (c.loop-i.invariant.told last before bytes faults h)));
    }

pub returns-clause-told : goal.returns-clause-told
returns-clause-told g c = λ last before bytes faults h.
    let items = c.args.costs.now.items in
    let most : length items ≤ c.loop-i.i = (let a = c.loop-i-test.false in let b = c.len-i-end.ensures in let d = c.args.costs.now.ok.0 in omega (arith, a, b, d)) in
    subst (λ (xs : List ℤ). IsTold c.args.minimize last xs bytes (g.S.Sink.taken c.loop-i.out) faults (g.S.Sink.faults c.loop-i.out) c.loop-i.told) (all_of before items c.loop-i.i most)
    (c.loop-i.invariant.told last before bytes faults h)
