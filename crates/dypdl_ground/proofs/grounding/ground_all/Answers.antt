use Rattle.std.proofs.Common.{◌≡◌, ◌<◌, ◌++◌, ℕ, length, arith, get_or}
use Rattle.std.proofs.lemmas.Grind.{common_steps}
use Rattle.std.proofs.lemmas.Result.{err_from_is_err_and}
use Rattle.dp_base.proofs.Memory.{memory_or}
use Rattle.dypdl_ground.specs.Ends.{is_memory}
use Rattle.dypdl_ground.specs.Grounds.{most_ground, grounded, IsFirstPast}
use Rattle.dypdl_ground.specs.declared.ends.GroundEnd.{GroundEnd}
use Rattle.dypdl_ground.specs.declared.ends.GroundEnd.TheVariants.{TooMany}
use Rattle.dypdl_ground.proofs.Lengths.{pushed_more, first_past}
use Rattle.dypdl_ground.proofs.grounding.ground_all.Goals as goal

pub loop-i-preserved : goal.loop-i-preserved
loop-i-preserved c =
    let there : c.loop-i.i < length c.args.ts.now = grind (arith, common_steps) in
    let is : c.index.result.now ≡ get_or c.args.ts.now c.loop-i.i c.index.result.now = rw (← c.list-transitions.ensures) c.index.ensures in
    (pushed_more c.args.objects.now c.args.variables.now c.args.ts.now c.loop-i.i c.index.result.now c.loop-i.all.items there is c.loop-i.invariant.0 _ c.in_ok-push_grounded.ensures.pushed, c.in_ok-push_grounded.ensures.few)

pub returns-in_err-push_grounded-clause-too_many : goal.returns-in_err-push_grounded-clause-too_many
returns-in_err-push_grounded-clause-too_many c =
    let there : c.loop-i.i < length c.args.ts.now = grind (arith, common_steps) in
    let is : c.index.result.now ≡ get_or c.args.ts.now c.loop-i.i c.index.result.now = rw (← c.list-transitions.ensures) c.index.ensures in
    let p = err_from_is_err_and c.from_residual.result c.from_residual.ensures.1 in
    let P : GroundEnd → Type 0 = λ e. (e ≡ TooMany c.loop-i.i) × (most_ground < length (c.loop-i.all.items ++ grounded c.args.objects.now c.args.variables.now c.loop-i.i c.index.result.now)) in
    let Q : GroundEnd → Type 0 = λ e. (i : ℕ) × (e ≡ TooMany i) × IsFirstPast c.args.objects.now c.args.variables.now c.args.ts.now i in
    rw (p.1, p.2)
    (memory_or is_memory P Q (λ e many. (c.loop-i.i, many.0, first_past c.args.objects.now c.args.variables.now c.args.ts.now c.loop-i.i c.index.result.now c.loop-i.all.items there is c.loop-i.invariant.0 c.loop-i.invariant.1 many.1)) _ c.in_err-push_grounded.ensures.too_many)
