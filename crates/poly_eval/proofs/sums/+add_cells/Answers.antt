use Rattle.std.proofs.Common.{rules, ◌≡◌, ℕ, ◌-◌, List, length, take, drop, slice_get, Some, Result, Ok, Err, ℤ, pos, ◌+ℤ◌, ◌*ℤ◌, refl, arith}
use Rattle.std.specs.Result.{OnOk}
use Rattle.std.proofs.lemmas.Option.{slice_get_read}
use Rattle.dp_model.specs.Evaluation.{ways}
use Rattle.poly_terms.specs.Worth.{worth}
use Rattle.poly_terms.specs.Fits.{Fits}
use Rattle.poly_eval.specs.Bits.{AreChoices}
use Rattle.poly_eval.specs.Totals.{total_at, place_after}
use Rattle.poly_eval.proofs.SumSteps.{none_yet, nothing_added, last_cell, more_cells, all_cells, first_others}
use Rattle.poly_eval.proofs.sums.+add_cells.Goals as goal

on_ok : {A E P Q : Type 0} (r : Result A E) → OnOk r P → (P → Q) → OnOk r Q
on_ok (Ok x) h f = f h
on_ok (Err e) h f = tt

pub returns-then-is_zero : goal.returns-then-is_zero
returns-then-is_zero t c = λ v sets fits k.
    let zero : (v : ℕ → ℤ) → worth v c.args.factor.now ≡ pos 0 = search rules in
    nothing_added (worth v c.args.sum.now.items) (worth v c.args.factor.now) (total_at c.args.at.now.cells.now c.args.place c.args.counts.now (ways sets)) (zero v)

pub returns-in_default : goal.returns-in_default
returns-in_default t c =
    on_ok c.add_cell.result c.add_cell.ensures (λ h v sets fits k.
    last_cell v c.args.at.now.cells.now c.args.place c.args.counts.now c.args.rows.now sets (worth v c.args.sum.now.items) (worth v c.args.factor.now) (worth v c.add_cell.new.sum.items) c.in_default.len_below k (h v))

pub loop-member-init : goal.loop-member-init
loop-member-init t c = λ v set sets fits bits k. none_yet (worth v c.args.sum.now.items) (worth v c.args.factor.now)

pub returns : goal.returns
returns t c = λ v sets fits k.
    let rows = first_others c.args.rows.now c.first-item.result c.in-len1-up.len_at_least c.first-item.is in
    let same : c.as_slice-bits.result.now ≡ c.first-item.result = search rules in
    let many : c.loop-member.member ≡ length c.as_slice-bits.result.now = omega arith in
    all_cells v c.args.at.now.cells.now c.args.place c.args.counts.now c.args.rows.now c.first-item.result (take (length c.args.rows.now - 1) (drop 1 c.args.rows.now)) c.as_slice-bits.result.now c.loop-member.member
    (worth v c.args.sum.now.items) (worth v c.args.factor.now) (worth v c.loop-member.sum.items) rows same many (λ set rest bits choices. c.loop-member.invariant v set rest fits bits choices) sets k

pub loop-member-preserved : goal.loop-member-preserved
loop-member-preserved t c = λ v set sets fits bits k.
    let here : slice_get c.as_slice-bits.result.now c.loop-member.member ≡ Some c.index-bits-member.result = slice_get_read c.as_slice-bits.result.now (length c.as_slice-bits.result.now) c.loop-member.member c.index-bits-member.result refl (omega arith) c.index-bits-member.is in
    let factor : (v : ℕ → ℤ) → Fits c.args.at.now.table.now v → worth v c.in_ok-more.more.items ≡ worth v c.args.factor.now *ℤ worth v c.index-bits-member.result = search rules in
    let next : c.in_ok-next.next ≡ place_after c.args.place c.args.counts.now c.loop-member.member = search rules in
    let added : (v : ℕ → ℤ) (sets : List (List ℕ)) → Fits c.args.at.now.table.now v → AreChoices v (take (length c.args.rows.now - 1) (drop 1 c.args.rows.now)) sets
    → worth v c.add_cells.new.sum.items ≡ worth v c.loop-member.sum.items +ℤ worth v c.in_ok-more.more.items *ℤ total_at c.args.at.now.cells.now c.in_ok-next.next (drop 1 c.args.counts.now) (ways sets) = search rules in
    more_cells v c.args.at.now.cells.now c.args.place c.args.counts.now sets c.loop-member.member set c.as_slice-bits.result.now c.index-bits-member.result
    (worth v c.args.sum.now.items) (worth v c.args.factor.now) (worth v c.loop-member.sum.items) (worth v c.in_ok-more.more.items) (worth v c.add_cells.new.sum.items) c.in_ok-next.next
    here bits (c.loop-member.invariant v set sets fits bits k) (factor v fits) next (added v sets fits k)
