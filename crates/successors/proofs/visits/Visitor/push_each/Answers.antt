use Rattle.std.proofs.Common.{ℕ, ◌<◌, Result, IfSome, sym, ap, subst, ◌∙◌, arith}
use Rattle.dp_base.specs.Results.{◌>>=◌}
use Rattle.dp_model.specs.declared.whole.Model.{Model}
use Rattle.spot_eval.specs.Moves.{others_of}
use Rattle.successors.specs.Answers.{Met}
use Rattle.successors.specs.Switches.{AreSwitches}
use Rattle.successors.specs.Visits.{with_picked}
use Rattle.successors.specs.declared.batch.Batch.{Batch}
use Rattle.successors.proofs.Cases.{as_many, from, leaves_now, one_left, picked_inside, stops_there}
use Rattle.successors.proofs.visits.Visitor.push_each.Goals as goal

pub case_at-case-requires : goal.case_at-case-requires
case_at-case-requires g c =
    let m = c.args.self.now.model in
    let many = as_many m c.args.candidates.now c.requires.candidates in
    (others_of m, subst (λ (x : Model). AreSwitches x (others_of m) c.args.switches.now) (sym c.requires.model) c.requires.switches, omega (arith, many, c.loop-place-test.true), omega (arith, many, c.requires.few))

pub push_case-requires-clause-there : goal.push_case-requires-clause-there
push_case-requires-clause-there g c =
    let m = c.args.self.now.model in
    let leaves = leaves_now m _ c.args.self.now.visit.state _ c.args.candidates.now c.args.switches.now c.loop-place.place c.case_at-case.result c.requires.candidates c.requires.model c.requires.state c.requires.switches c.loop-place-test.true c.case_at-case.ensures in
    subst (λ (n : ℕ). IfSome c.case_at-case.result.pick (λ k. k < n)) (sym (as_many m c.args.candidates.now c.requires.candidates)) (picked_inside m c.args.self.now.visit.state (others_of m) c.loop-place.place c.case_at-case.result leaves)

pub returns-in_err-push_case-clause-batch : goal.returns-in_err-push_case-clause-batch
returns-in_err-push_case-clause-batch g c =
    let m = c.args.self.now.model in
    let visit = c.args.self.now.visit in
    let leaves = leaves_now m _ visit.state _ c.args.candidates.now c.args.switches.now c.loop-place.place c.case_at-case.result c.requires.candidates c.requires.model c.requires.state c.requires.switches c.loop-place-test.true c.case_at-case.ensures in
    let step = one_left m visit (others_of m) c.loop-place.batch c.loop-place.place c.case_at-case.result leaves in
    stops_there _ (λ (_ : Unit {0}). c.push_case.new.batch) c.from_residual.result c.in_err-push_case.field-0.0 (with_picked m visit c.loop-place.batch (others_of m) c.case_at-case.result.pick) (λ b. from m visit (others_of m) b c.case_at-case.result.next) _ (sym c.loop-place.invariant.0 ∙ step) c.from_residual.ensures.1 c.in_err-push_case.ensures.batch

pub loop-place-smaller : goal.loop-place-smaller
loop-place-smaller g c =
    let leaves = leaves_now c.args.self.now.model _ c.args.self.now.visit.state _ c.args.candidates.now c.args.switches.now c.loop-place.place c.case_at-case.result c.requires.candidates c.requires.model c.requires.state c.requires.switches c.loop-place-test.true c.case_at-case.ensures in
    omega (arith, leaves.later, c.loop-place-test.true)

pub loop-place-preserved : goal.loop-place-preserved
loop-place-preserved g c =
    let m = c.args.self.now.model in
    let visit = c.args.self.now.visit in
    let leaves = leaves_now m _ visit.state _ c.args.candidates.now c.args.switches.now c.loop-place.place c.case_at-case.result c.requires.candidates c.requires.model c.requires.state c.requires.switches c.loop-place-test.true c.case_at-case.ensures in
    let step = one_left m visit (others_of m) c.loop-place.batch c.loop-place.place c.case_at-case.result leaves in
    let made = ap (λ (r : Result Batch Met). r >>= λ b. from m visit (others_of m) b c.case_at-case.result.next) c.in_ok-push_case.ensures.batch in
    (sym (step ∙ made) ∙ c.loop-place.invariant.0, c.in_ok-push_case.ensures.fits, omega (arith, c.in_ok-push_case.ensures.few, c.loop-place.invariant.2, leaves.later))
