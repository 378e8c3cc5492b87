-- What the sides of a comparison stand for, and the cells of a row.
use Rattle.std.proofs.Common.{◌≡◌, ℕ, suc, ◌+◌, ◌<◌, add-one, ◌&&◌, Bool, true, false, List, [], ◌∷◌, ◌++◌, length, get_or, Result, Ok, Err, ℤ, pos, ◌+ℤ◌, Bor, refl, sym, ap, ◌∙◌, arith}
use Rattle.std.specs.Prelude.{Option, Some, None, IfSome, option_and_then, slice_get, slice_index, neg_ℤ, int_le, if◌then◌else◌}
use Rattle.std.specs.Result.{result_ok}
use Rattle.std.proofs.Math.Seq.{get_or-append_seam}
use Rattle.std.proofs.lemmas.Int.{ints}
use Rattle.std.proofs.lemmas.List.{get_or_append_left}
use Rattle.dp_base.specs.Results.{◌>>=◌}
use Rattle.dp_model.specs.Costs.{greatest, ranged}
use Rattle.dp_model.specs.Evaluation.{operate, compares, each_holds, num_value, cond_value, ArgValue, CondValue, NumValue, SetValue, arg_step, cond_step, num_step, set_step}
use Rattle.dp_model.specs.declared.answers.FaultKind.TheVariants.{Range}
use Rattle.dp_model.specs.declared.trees.Num as nums
use Rattle.dp_model.specs.declared.trees.Cond as conds
use Rattle.dp_model.specs.declared.trees.NumOp.TheVariants.{Plus}
use Rattle.dp_model.specs.declared.trees.Compare.{Compare}
use Rattle.dp_model.specs.declared.parts.PlainState.{PlainState}
use Rattle.dp_model.specs.declared.whole.Model.{Model}
use Rattle.packed_eval.proofs.Arguments.{one_value, two_values}
use Rattle.packed_eval.specs.Rows.{sum_at, side_at, met_by, all_met, IsSideOf, IsSumOf, AreSidesOf, IsAlone, HasCells, IsRowOf}
use Rattle.packed_eval.specs.declared.rows.Side.{Side}
use Rattle.packed_eval.specs.declared.rows.Sides.{Sides}

-- what there is, is the answer
of_ok : {A E : Type 0} → (r : Result A E) (x : A) → result_ok r ≡ Some x → r ≡ Ok x
of_ok (Ok y) x h = let e : y ≡ x = cc in ap Ok e
of_ok (Err kind) x h = absurd (cc)

-- ---- sums

-- a sum that is there is that of a cell, and in range
sum_parts : (start : ℤ) (row : List ℤ) (k : ℕ) (z : ℤ) → sum_at start row k ≡ Some z → (cell : ℤ) × (slice_get row k ≡ Some cell) × (ranged (start +ℤ cell) ≡ Ok z)
sum_parts start row k z h = by (slice_get row k) refl h
  where
    by : (o : Option ℤ) → slice_get row k ≡ o → option_and_then (λ (cell : ℤ). result_ok (ranged (start +ℤ cell))) o ≡ Some z → (cell : ℤ) × (slice_get row k ≡ Some cell) × (ranged (start +ℤ cell) ≡ Ok z)
    by (Some cell) e h = (cell, e, of_ok (ranged (start +ℤ cell)) z h)
    by None e h = absurd (cc)

-- a number that is in range is itself
ranged_same : (z w : ℤ) → ranged z ≡ Ok w → z ≡ w
ranged_same z w h = by (int_le (neg_ℤ greatest) z && int_le z greatest) h
  where
    by : (t : Bool) → (if t then Ok z else Err Range) ≡ Ok w → z ≡ w
    by true h = cc
    by false h = absurd (cc)

-- ---- values with a member

module _ (m : Model) (s : PlainState) (given : List ℕ) where
  pub sides_told : (e : conds.Cond) (op : Compare) (a b : nums.Num) (left right : Side) → conds.out-Cond e ≡ conds.Cond-F.Numbers op a b → IsSideOf m s given a left → IsSideOf m s given b right → AreSidesOf m s given e (record { op = op; left = left; right = right })
  sides_told e op a b left right p f g = λ k held h. by k held (side_at left k) (side_at right k) refl refl h
    where
      by : (k : ℕ) (held : Bool) (x y : Option ℤ) → side_at left k ≡ x → side_at right k ≡ y → option_and_then (λ (i : ℤ). option_and_then (λ (j : ℤ). Some (compares op i j)) y) x ≡ Some held → cond_value m s e (given ++ k ∷ []) ≡ Ok held
      by k held None y q r h = absurd (cc)
      by k held (Some i) None q r h = absurd (cc)
      by k held (Some i) (Some j) q r h =
          let t : compares op i j ≡ held = cc in
          rw (conds.fold_out-Cond ArgValue CondValue NumValue SetValue arg_step (cond_step m s) (num_step m s) (set_step m s) e, p, f k i q, g k j r, t) refl

  cell_there : (e : nums.Num) (t : ℕ) (ns : List nums.Num) (row : List ℤ) (k : ℕ) (cell : ℤ) → nums.out-Num e ≡ nums.Num-F.Num::Cell t ns → IsRowOf m s given t ns row → slice_get row k ≡ Some cell → num_value m s e (given ++ k ∷ []) ≡ Ok cell
  cell_there e t ns row k cell p f h = rw (nums.fold_out-Num ArgValue CondValue NumValue SetValue arg_step (cond_step m s) (num_step m s) (set_step m s) e, p) (f k cell h)

  pub cell_told : (e : nums.Num) (t : ℕ) (ns : List nums.Num) (row : List ℤ) → nums.out-Num e ≡ nums.Num-F.Num::Cell t ns → IsRowOf m s given t ns row → (k : ℕ) (z : ℤ) → sum_at (pos 0) row k ≡ Some z → num_value m s e (given ++ k ∷ []) ≡ Ok z
  cell_told e t ns row p f k z h =
      let c = sum_parts (pos 0) row k z h in
      let whole = ranged_same (pos 0 +ℤ c.0) z c.2 in
      let same : c.0 ≡ z = omega (arith, ints, whole) in
      cell_there e t ns row k c.0 p f c.1 ∙ ap Ok same

  -- a number and a cell, and a cell and a number

  pub sum_told : (a b : nums.Num) (x : ℤ) (t : ℕ) (ns : List nums.Num) (row : List ℤ) → nums.out-Num b ≡ nums.Num-F.Num::Cell t ns → IsAlone m s given a x → IsRowOf m s given t ns row → (k : ℕ) (z : ℤ) → sum_at x row k ≡ Some z → (num_value m s a (given ++ k ∷ []) >>= λ i. num_value m s b (given ++ k ∷ []) >>= λ j. operate Plus i j) ≡ Ok z
  sum_told a b x t ns row p g f k z h =
      let c = sum_parts x row k z h in
      rw (g k, cell_there b t ns row k c.0 p f c.1) c.2

  pub first_told : (a b : nums.Num) (x : ℤ) (t : ℕ) (ns : List nums.Num) (row : List ℤ) → nums.out-Num a ≡ nums.Num-F.Num::Cell t ns → IsAlone m s given b x → IsRowOf m s given t ns row → (k : ℕ) (z : ℤ) → sum_at x row k ≡ Some z → (num_value m s a (given ++ k ∷ []) >>= λ i. num_value m s b (given ++ k ∷ []) >>= λ j. operate Plus i j) ≡ Ok z
  first_told a b x t ns row p g f k z h =
      let c = sum_parts x row k z h in
      let turned : c.0 +ℤ x ≡ x +ℤ c.0 = omega (arith, ints) in
      rw (cell_there a t ns row k c.0 p f c.1, g k, turned) c.2

  pub plus_told : (r : Option Side) (e a b : nums.Num) → nums.out-Num e ≡ nums.Num-F.Num::Op Plus a b → IfSome r (λ side. IsSumOf m s given a b side) → IfSome r (λ side. IsSideOf m s given e side)
  plus_told r e a b p h = rw (nums.fold_out-Num ArgValue CondValue NumValue SetValue arg_step (cond_step m s) (num_step m s) (set_step m s) e, p) h

  -- what is the same for each member, and the member

  pub param_told : (e : nums.Num) (i : ℕ) → nums.out-Num e ≡ nums.Num-F.Param i → i < length given → IsAlone m s given e (pos (slice_index given i))
  param_told e i p h = λ k. rw (nums.fold_out-Num ArgValue CondValue NumValue SetValue arg_step (cond_step m s) (num_step m s) (set_step m s) e, p, get_or_append_left given (k ∷ []) 0 i h) refl

  pub member_told : (e : nums.Num) (i : ℕ) → nums.out-Num e ≡ nums.Num-F.Param i → i ≡ length given → (k : ℕ) → num_value m s e (given ++ k ∷ []) ≡ Ok (pos k)
  member_told e i p h = λ k. rw (nums.fold_out-Num ArgValue CondValue NumValue SetValue arg_step (cond_step m s) (num_step m s) (set_step m s) e, p, h, get_or-append_seam given k [] 0) refl

  -- a row by one argument, and by two

  pub one_row : (t : ℕ) (ns : List nums.Num) (n : nums.Num) (o : Option (Bor (List ℤ))) → ns ≡ n ∷ [] → ((k : ℕ) → num_value m s n (given ++ k ∷ []) ≡ Ok (pos k)) → IfSome o (λ row. HasCells m t [] row.now) → IfSome o (λ row. IsRowOf m s given t ns row.now)
  one_row t ns n (Some row) p f h = λ k cell g. rw (one_value m s (given ++ k ∷ []) ns n (pos k) p (f k)) (h k cell g)
  one_row t ns n None p f h = h

  pub two_row : (t : ℕ) (ns : List nums.Num) (n last : nums.Num) (z : ℤ) (o : Option (Bor (List ℤ))) → ns ≡ n ∷ last ∷ [] → IsAlone m s given n z → ((k : ℕ) → num_value m s last (given ++ k ∷ []) ≡ Ok (pos k)) → IfSome o (λ row. HasCells m t (z ∷ []) row.now) → IfSome o (λ row. IsRowOf m s given t ns row.now)
  two_row t ns n last z (Some row) p e f h = λ k cell g. rw (two_values m s (given ++ k ∷ []) ns n last z (pos k) p (e k) (f k)) (h k cell g)
  two_row t ns n last z None p e f h = h

-- ---- the arguments of a cell

pub only_item : (xs : List nums.Num) (d x : nums.Num) → length xs ≡ 1 → x ≡ get_or xs 0 d → xs ≡ x ∷ []
only_item [] d x n p = absurd (omega (arith, n))
only_item (y ∷ []) d x n p = ap (λ (z : nums.Num). z ∷ []) (sym p)
only_item (y ∷ z ∷ zs) d x n p = absurd (omega (arith, n))

pub two_items : (xs : List nums.Num) (d e x y : nums.Num) → length xs ≡ 2 → x ≡ get_or xs 0 d → y ≡ get_or xs 1 e → xs ≡ x ∷ y ∷ []
two_items [] d e x y n p q = absurd (omega (arith, n))
two_items (a ∷ []) d e x y n p q = absurd (omega (arith, n))
two_items (a ∷ b ∷ []) d e x y n p q = rw (p, q) refl
two_items (a ∷ b ∷ c ∷ cs) d e x y n p q = absurd (omega (arith, n))

-- ---- members one after another

pub met_step : (sides : Sides) (members : ℕ → List ℕ) (from k : ℕ) → members from ≡ k ∷ members (suc k) → met_by sides k ≡ Some true → all_met sides (members (k + 1)) ≡ all_met sides (members from)
met_step sides members from k p e = rw (add-one, p, e) refl

module _ (m : Model) (s : PlainState) (given : List ℕ) (c : conds.Cond) (sides : Sides) (told : AreSidesOf m s given c sides) where
  met_all : (held : Bool) (ks : List ℕ) → all_met sides ks ≡ Some held → each_holds (λ k. cond_value m s c (given ++ k ∷ [])) ks ≡ Ok held
  met_all held [] h = let e : true ≡ held = cc in ap Ok e
  met_all held (k ∷ ks) h = by (met_by sides k) refl h (met_all held ks)
    where
      by : (o : Option Bool) → met_by sides k ≡ o → option_and_then (λ (x : Bool). if x then all_met sides ks else Some false) o ≡ Some held → (all_met sides ks ≡ Some held → each_holds (λ k. cond_value m s c (given ++ k ∷ [])) ks ≡ Ok held) → each_holds (λ k. cond_value m s c (given ++ k ∷ [])) (k ∷ ks) ≡ Ok held
      by None e h more = absurd (cc)
      by (Some true) e h more = rw (told k true e) (more h)
      by (Some false) e h more = rw (told k false e) (let f : false ≡ held = cc in ap Ok f)

  pub met_told : (o : Option Bool) (ks : List ℕ) → o ≡ all_met sides ks → IfSome o (λ held. each_holds (λ k. cond_value m s c (given ++ k ∷ [])) ks ≡ Ok held)
  met_told (Some held) ks e = met_all held ks (sym e)
  met_told None ks e = tt
