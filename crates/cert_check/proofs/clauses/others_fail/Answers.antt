use Rattle.std.proofs.Common.{◌≡◌, ℕ, ◌≤◌, sym, subst, length, arith, rules}
use Rattle.eval_room.specs.Needs.{ServesModel}
use Rattle.cert_laws.specs.Checks.{step_fails}
use Rattle.cert_check.specs.Looked.{reached_by}
use Rattle.cert_check.proofs.Clear.{leapt, picked_first}
use Rattle.cert_check.proofs.Tests.{none_of}
use Rattle.cert_check.proofs.clauses.others_fail.Goals as goal

pub returns-then-is_some : goal.returns-then-is_some
returns-then-is_some g c =
    picked_first c.args.looker.now c.args.cert.now c.args.past.now.nodes (reached_by c.args.here.now) c.loop-place.place c.leap_at-leap.result c.in_ok-fails.fails
    c.leap_at-leap.ensures c.loop-place.invariant.0 c.in_ok-fails.ensures c.if-is_some.ensures

pub loop-place-preserved : goal.loop-place-preserved
loop-place-preserved g c = (
  leapt c.args.looker.now c.args.cert.now c.args.past.now.nodes (reached_by c.args.here.now) c.loop-place.place c.leap_at-leap.result c.in_ok-fails.fails
      c.leap_at-leap.ensures c.loop-place.invariant.0 c.in_ok-fails.ensures c.if-is_some.ensures,
  subst (λ (n : ℕ). ServesModel c.args.looker.now n) (sym c.picked_fails.auto.stack) c.loop-place.invariant.1,
)

pub returns : goal.returns
returns g c =
    let n : ℕ = length c.args.looker.now.dp_ground in
    let count : c.len-count.result ≡ n = search rules in
    let done : n ≤ c.loop-place.place = omega (arith, count, c.loop-place-test.false) in
    sym (none_of (step_fails c.args.looker.now c.args.cert.now c.args.past.now.nodes (reached_by c.args.here.now)) n (λ k less. c.loop-place.invariant.0 k (omega (arith, done, less))))
