use Rattle.std.proofs.Common.{◌≡◌, ◌+◌, ◌-◌, ℕ, ◌∙◌, length, length-set, arith, subst, rules}
use Rattle.cert_check.specs.Wants.{IsRow}
use Rattle.cert_check.proofs.Leaps.{put}
use Rattle.cert_check.proofs.wants.rows_of.Goals as goal

pub loop-done-preserved : goal.loop-done-preserved
loop-done-preserved c =
    let m = c.args.model.now in
    let row = c.row_of-behind.result in
    let place : ℕ = c.len-count.result - 1 - c.loop-done.done in
    let count : c.len-count.result ≡ length m.dp_ground = search rules in
    let same : place ≡ length m.dp_ground - (c.loop-done.done + 1) = omega (arith, count) in (
      length-set c.loop-done.rows.items place row ∙ c.loop-done.invariant.0,
      put m c.loop-done.rows.items place row c.loop-done.invariant.1 c.row_of-behind.ensures,
      subst (λ (k : ℕ). IsRow m k row) same c.row_of-behind.ensures,
    )
