use Rattle.std.proofs.Common.{◌≡◌, List, ℕ, length, reverse, drop, ◌++◌, ◌+◌, ◌-◌, ◌<◌, ◌≤◌, ap, sym, ◌∙◌, refl, arith, [], ◌∷◌, slice_set, append_assoc}
use Rattle.std.proofs.lemmas.List.{drop-set, reverse-append}
use Rattle.std.proofs.lemmas.Grind.{common_steps}
use Rattle.path_log.specs.Laws.{named, ends, goes_on, one_chain}
use Rattle.path_log.proofs.walking.fill.Goals as goal

-- a transition that is written before what was written stands where it stood in the chain
written : (rest steps : List ℕ) (left t : ℕ) → 0 < left → left ≤ length steps → reverse (t ∷ rest) ++ drop left steps ≡ reverse rest ++ drop (left - 1) (slice_set steps (left - 1) t)
written rest steps left t some fits =
    let before : left - 1 < length steps = omega arith in
    let now : drop (left - 1) (slice_set steps (left - 1) t) ≡ t ∷ drop (left - 1 + 1) steps = drop-set steps (left - 1) t before in
    let next : left - 1 + 1 ≡ left = omega arith in
    rw (reverse-append (t ∷ []) rest, append_assoc, now, next) refl

pub loop-place-init : goal.loop-place-init
loop-place-init c back leads =
    let same : back ≡ c.requires.0 = one_chain c.args.logs.now.items c.args.id _ _ leads c.requires.1 in
    (back, leads, ap (λ (xs : List ℕ). length xs) same ∙ c.requires.2, grind (arith, common_steps))

pub step-found-requires : goal.step-found-requires
step-found-requires c =
    let chain = c.loop-place.invariant c.requires.0 c.requires.1 in
    named c.args.logs.now.items c.loop-place.at chain.0 chain.1

pub loop-place-preserved-in-Some : goal.loop-place-preserved-in-Some
loop-place-preserved-in-Some c back leads =
    let chain = c.loop-place.invariant back leads in
    let on = goes_on c.args.logs.now.items c.loop-place.at c.in-Some.parent chain.0 c.step-found.result c.step-found.ensures c.in-Some.is chain.1 in
    (on.0, on.2, omega (arith, chain.2, ap (λ (xs : List ℕ). length xs) on.1), sym (written on.0 c.loop-place.steps c.loop-place.place c.step-found.result.transition c.loop-place-test.true (omega (arith, c.loop-place.auto.steps))) ∙ (ap (λ (xs : List ℕ). reverse xs ++ drop c.loop-place.place c.loop-place.steps) (sym on.1) ∙ chain.3))

pub loop-place-preserved : goal.loop-place-preserved
loop-place-preserved c back leads =
    let chain = c.loop-place.invariant back leads in
    let over : chain.0 ≡ [] = ends c.args.logs.now.items c.loop-place.at chain.0 c.step-found.result c.step-found.ensures c.in_default.is chain.1 in
    absurd (omega (arith, chain.2, ap (λ (xs : List ℕ). length xs) over, c.loop-place-test.true))
