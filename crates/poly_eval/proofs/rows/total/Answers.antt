use Rattle.std.proofs.Common.{rules, ◌≡◌, ℕ, length, slice_get, Some, ℤ, pos, ◌+ℤ◌, ◌*ℤ◌, refl, arith}
use Rattle.std.proofs.lemmas.Option.{slice_get_read}
use Rattle.poly_terms.specs.Worth.{worth}
use Rattle.poly_eval.proofs.RowSteps.{many_more}
use Rattle.poly_eval.proofs.rows.total.Goals as goal

pub loop-bit-preserved : goal.loop-bit-preserved
loop-bit-preserved c = λ v f tells.
    let here : slice_get c.args.row.now c.loop-bit.bit-index ≡ Some c.bit-item.result = slice_get_read c.args.row.now (length c.args.row.now) c.loop-bit.bit-index c.bit-item.result refl (omega arith) c.bit-item.is in
    let grown : (v : ℕ → ℤ) → worth v c.add_times.new.terms.items ≡ worth v c.loop-bit.sum.items +ℤ pos 1 *ℤ worth v c.bit-item.result = search rules in
    many_more c.loop-bit.bit-index f (worth v c.loop-bit.sum.items) (worth v c.add_times.new.terms.items) (worth v c.bit-item.result) (c.loop-bit.invariant v f tells) (tells c.loop-bit.bit-index c.bit-item.result here) (grown v)
