use Rattle.std.proofs.Common.{rules, ◌≡◌, if◌then◌else◌, List, [], ◌∷◌, ◌++◌, length, slice_get, Some, refl, sym, subst, arith}
use Rattle.std.proofs.lemmas.Option.{slice_get_read}
use Rattle.poly_terms.specs.declared.terms.Term.{Term}
use Rattle.poly_terms.specs.Worth.{worth}
use Rattle.poly_eval.specs.Bits.{Tells}
use Rattle.poly_eval.proofs.RowSteps.{tells_more, chosen_bit}
use Rattle.poly_eval.proofs.rows.chosen_row.Goals as goal

pub loop-i-preserved : goal.loop-i-preserved
loop-i-preserved c = record {
  many = search rules;
  bits = λ v held f g fits is left right.
      let many : length c.loop-i.row.items ≡ c.loop-i.i = search rules in
      let a : slice_get c.args.a.now c.loop-i.i ≡ Some c.index-a-i.result = slice_get_read c.args.a.now (length c.args.a.now) c.loop-i.i c.index-a-i.result refl (omega arith) c.index-a-i.is in
      let b : slice_get c.args.b.now c.loop-i.i ≡ Some c.index-b-i.result = slice_get_read c.args.b.now (length c.args.b.now) c.loop-i.i c.index-b-i.result refl (omega arith) c.index-b-i.is in
      let made : worth v c.in_ok-chosen.field-0.items ≡ (if held then worth v c.index-a-i.result else worth v c.index-b-i.result) = search rules in
      let items : c.push.new.self.items ≡ c.loop-i.row.items ++ c.in_ok-chosen.field-0.items ∷ [] = search rules in
      subst (λ (xs : List (List Term)). Tells v xs (λ j. if held then f j else g j)) (sym items)
      (tells_more v c.loop-i.row.items c.in_ok-chosen.field-0.items (λ j. if held then f j else g j) c.loop-i.i many (c.loop-i.invariant.bits v held f g fits is left right)
      (chosen_bit held (f c.loop-i.i) (g c.loop-i.i) (worth v c.index-a-i.result) (worth v c.index-b-i.result) (worth v c.in_ok-chosen.field-0.items) (left c.loop-i.i c.index-a-i.result a) (right c.loop-i.i c.index-b-i.result b) made));
}
