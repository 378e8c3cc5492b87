use Rattle.std.proofs.Common.{◌≡◌, ℕ, ◌+◌, ◌<◌, List, length, take, min, get_or, sym, ap, subst, ◌∙◌, arith}
use Rattle.std.proofs.lemmas.List.Sums.{sum_by_more}
use Rattle.announcer.specs.Ends.{CallerFacts, refused_of}
use Rattle.pass_run.proofs.announced.refused_by.Goals as goal

-- the sum with one caller more
next_sum : (cs items : List CallerFacts) (i : ℕ) (c : CallerFacts) → cs ≡ items → i < length cs → c ≡ get_or cs i c → refused_of (take (i + 1) items) ≡ refused_of (take i items) + c.refused
next_sum cs items i c same within is =
    subst (λ (xs : List CallerFacts). refused_of (take (i + 1) xs) ≡ refused_of (take i xs) + c.refused) same
    (sum_by_more (λ (x : CallerFacts). x.refused) cs i c within ∙ ap (λ (x : CallerFacts). refused_of (take i cs) + x.refused) (sym is))

one_more : (so_far sum more next : ℕ) → so_far ≡ min sum 18446744073709551615 → next ≡ sum + more → min (so_far + more) 18446744073709551615 ≡ min next 18446744073709551615
one_more so_far sum more next is e = omega (arith, is, e)

pub loop-caller-preserved : goal.loop-caller-preserved
loop-caller-preserved c =
    let items = c.args.callers.now.items in
    let place = c.loop-caller.caller-index in
    let next = next_sum c.deref-caller-items.result.now items place c.caller-item.result c.deref-caller-items.ensures.value c.loop-caller-test.true c.caller-item.is in
    c.saturating_add-refused.ensures ∙ (ap (λ (n : ℕ). min (c.loop-caller.refused + n) 18446744073709551615) c.refused.ensures ∙ one_more c.loop-caller.refused (refused_of (take place items)) c.caller-item.result.refused (refused_of (take (place + 1) items)) c.loop-caller.invariant next)
