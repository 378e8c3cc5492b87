use Rattle.std.proofs.Common.{◌≡◌, ◌∙◌, ℕ, ◌+◌, List, sym, ap, true, false, get_or, drop, arith}
use Rattle.std.proofs.lemmas.List.{take_rest}
use Rattle.yaml_tree.specs.Scalars.{ends_before}
use Rattle.yaml_tree.proofs.ScalarParts.{run_more, run_stops_at, run_ends}
use Rattle.yaml_tree.proofs.plain.part.run_length.Goals as goal

pub returns-then-ends_before-clause-run : goal.returns-then-ends_before-clause-run
returns-then-ends_before-clause-run c =
    let here = c.args.here.now in
    let at = c.loop-at.at in
    let test = λ (l : List ℕ). ends_before c.args.flow c.loop-at.behind_blank (get_or here at 0) l in
    let ends : test (drop (at + 1) here) ≡ true = ap test (sym (take_rest here (at + 1))) ∙ sym c.ends_before.ensures ∙ c.if-ends_before.true in
    c.loop-at.invariant.run ∙ run_stops_at c.args.flow c.loop-at.behind_blank here at c.loop-at-test.true ends

pub loop-at-preserved : goal.loop-at-preserved
loop-at-preserved c =
    let here = c.args.here.now in
    let at = c.loop-at.at in
    let test = λ (l : List ℕ). ends_before c.args.flow c.loop-at.behind_blank (get_or here at 0) l in
    let goes : test (drop (at + 1) here) ≡ false = ap test (sym (take_rest here (at + 1))) ∙ sym c.ends_before.ensures ∙ c.if-ends_before.false in
    record {
      within = omega arith;
      run = rw c.is_blank-behind_blank.ensures (c.loop-at.invariant.run ∙ run_more c.args.flow c.loop-at.behind_blank here at c.loop-at-test.true goes);
    }

pub returns-clause-run : goal.returns-clause-run
returns-clause-run c = c.loop-at.invariant.run ∙ run_ends c.args.flow c.loop-at.behind_blank c.args.here.now c.loop-at.at (omega arith)
