use Rattle.std.proofs.Common.{◌≡◌, List, ℕ, length, ap, arith, []}
use Rattle.path_log.specs.Laws.{named, ends, goes_on}
use Rattle.path_log.proofs.walking.depth.Goals as goal

pub step-requires : goal.step-requires
step-requires c =
    let chain = c.loop-count.invariant c.requires.0 c.requires.1 in
    named c.args.logs.now.items c.loop-count.at chain.0 chain.1

pub returns-in_default : goal.returns-in_default
returns-in_default c back leads =
    let chain = c.loop-count.invariant back leads in
    let over : chain.0 ≡ [] = ends c.args.logs.now.items c.loop-count.at chain.0 c.step.result c.step.ensures c.in_default.is chain.1 in
    omega (arith, chain.2, ap (λ (xs : List ℕ). length xs) over)

pub loop-count-preserved : goal.loop-count-preserved
loop-count-preserved c back leads =
    let chain = c.loop-count.invariant back leads in
    let on = goes_on c.args.logs.now.items c.loop-count.at c.in-Some.parent chain.0 c.step.result c.step.ensures c.in-Some.is chain.1 in
    (on.0, on.2, omega (arith, chain.2, ap (λ (xs : List ℕ). length xs) on.1))
