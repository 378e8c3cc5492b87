use Rattle.std.proofs.Common.{ℕ, List, ◌≡◌, ◌≤◌, ◌∙◌, sym, true, false, slice_index, length, drop, subst, arith}
use Rattle.dypdl_expr.specs.Tokens.{is_inner, tokens_from}
use Rattle.dypdl_expr.proofs.TokenSteps.{inner_more, run_more, word_stops, all_passed}
use Rattle.dypdl_expr.proofs.tokens.word_end.Goals as goal

pub loop-end-preserved : goal.loop-end-preserved
loop-end-preserved c =
    let bytes = c.as_bytes-bytes.result.now in
    let inner : is_inner (slice_index bytes c.loop-end.end) ≡ true = sym c.is_inner.ensures ∙ c.if-is_inner.true in
    let more = run_more bytes c.loop-end.end c.loop-end-test.true inner in
    record {
      in_text = omega arith;
      run = omega (arith, c.loop-end.invariant.run, more);
      same = c.loop-end.invariant.same ∙ inner_more bytes c.loop-end.end c.loop-end-test.true inner;
    }

pub returns-else-is_inner-clause-same : goal.returns-else-is_inner-clause-same
returns-else-is_inner-clause-same c =
    let bytes = c.as_bytes-bytes.result.now in
    let outer : is_inner (slice_index bytes c.loop-end.end) ≡ false = sym c.is_inner.ensures ∙ c.if-is_inner.false in
    subst (λ (l : List ℕ). tokens_from true c.args.from (drop c.args.from l) ≡ tokens_from false c.loop-end.end (drop c.loop-end.end l)) c.as_bytes-bytes.ensures.value
    (c.loop-end.invariant.same ∙ word_stops bytes c.loop-end.end c.loop-end-test.true outer)

pub returns-after-loop-end-clause-same : goal.returns-after-loop-end-clause-same
returns-after-loop-end-clause-same c =
    let bytes = c.as_bytes-bytes.result.now in
    let at_end : length bytes ≤ c.loop-end.end = omega arith in
    subst (λ (l : List ℕ). tokens_from true c.args.from (drop c.args.from l) ≡ tokens_from false c.loop-end.end (drop c.loop-end.end l)) c.as_bytes-bytes.ensures.value
    (c.loop-end.invariant.same ∙ all_passed true bytes c.loop-end.end at_end ∙ sym (all_passed false bytes c.loop-end.end at_end))
