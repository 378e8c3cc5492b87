-- What the parts of an expression fit, where the whole does; and what the forms over sets stand for.
use Rattle.std.proofs.Common.{◌≡◌, ℕ, ◌+◌, ◌-◌, ◌<◌, ◌≤◌, Bool, true, not, ◌&&◌, eqb, List, Result, Ok, ℤ, refl, ap, ◌∙◌}
use Rattle.std.specs.Prelude.{nat_lt, nat_le}
use Rattle.std.proofs.lemmas.Bool.{and_parts, eqb-true, leb-true, ltb-true}
use Rattle.dp_model.specs.Typing.{is_number_kind, is_set_kind, kind_at}
use Rattle.dp_model.specs.declared.trees.Over.{Over}
use Rattle.packed_words.specs.Ranges.{over_fits}
use Rattle.state_layout.specs.Signatures.{word_count}
use Rattle.dp_model.specs.Evaluation.{num_value, set_value, cond_value, count_of, kind_of, object_of_kind, cells_of, cells_object, set_in, members_where, has, ArgValue, CondValue, NumValue, SetValue, arg_step, cond_step, num_step, set_step}
use Rattle.dp_model.specs.declared.answers.FaultKind.{FaultKind}
use Rattle.dp_model.specs.declared.trees.Arg as args
use Rattle.dp_model.specs.declared.trees.Num as nums
use Rattle.dp_model.specs.declared.trees.SetEx as sets
use Rattle.dp_model.specs.declared.trees.Cond as conds
use Rattle.dp_model.specs.declared.trees.NumOp.{NumOp}
use Rattle.dp_model.specs.declared.trees.SetOp.{SetOp}
use Rattle.dp_model.specs.declared.trees.Compare.{Compare}
use Rattle.dp_model.specs.declared.parts.PlainState.{PlainState}
use Rattle.dp_model.specs.declared.whole.Model.{Model}
use Rattle.eval_room.specs.Fits.{RoomTest, SetRoom, ArgRoom, arg_room, cond_room, num_room, set_room, num_fits, set_fits, cond_fits, all_fit, more_fits, operand_fits, both_fit}
use Rattle.packed_words.specs.Operands.{Tells, operated_by, complement_of, with_in, without_in, is_member_in}
use Rattle.packed_eval.proofs.Objects.{same_object}

module _ (m : Model) (given room : ℕ) where
  abbrev cond_out : (e : conds.Cond) → cond_fits m e ≡ cond_room m (conds.map-Cond args.Arg conds.Cond nums.Num sets.SetEx ArgRoom RoomTest RoomTest SetRoom (args.fold-Arg ArgRoom RoomTest RoomTest SetRoom arg_room (cond_room m) (num_room m) (set_room m)) (cond_fits m) (num_fits m) (set_fits m) (conds.out-Cond e))
  cond_out e = conds.fold_out-Cond ArgRoom RoomTest RoomTest SetRoom arg_room (cond_room m) (num_room m) (set_room m) e

  pub numbers_fit : (e : conds.Cond) (op : Compare) (a b : nums.Num) → conds.out-Cond e ≡ conds.Cond-F.Numbers op a b → cond_fits m e given room ≡ true → (num_fits m a given room ≡ true) × (num_fits m b given room ≡ true)
  numbers_fit e op a b p h = and_parts (num_fits m a given room) (num_fits m b given room) (rw (cond_out e, p) at h)

  pub is_in_fit : (e : conds.Cond) (n : nums.Num) (a : sets.SetEx) → conds.out-Cond e ≡ conds.Cond-F.IsIn n a → cond_fits m e given room ≡ true → (num_fits m n given room ≡ true) × (operand_fits m (set_fits m a) given room ≡ true)
  is_in_fit e n a p h = and_parts (num_fits m n given room) (operand_fits m (set_fits m a) given room) (rw (cond_out e, p) at h)

  pub and_fit : (e a b : conds.Cond) → conds.out-Cond e ≡ conds.Cond-F.And a b → cond_fits m e given room ≡ true → (cond_fits m a given room ≡ true) × (cond_fits m b given room ≡ true)
  and_fit e a b p h = and_parts (cond_fits m a given room) (cond_fits m b given room) (rw (cond_out e, p) at h)

  pub or_fit : (e a b : conds.Cond) → conds.out-Cond e ≡ conds.Cond-F.Or a b → cond_fits m e given room ≡ true → (cond_fits m a given room ≡ true) × (cond_fits m b given room ≡ true)
  or_fit e a b p h = and_parts (cond_fits m a given room) (cond_fits m b given room) (rw (cond_out e, p) at h)

  abbrev num_out : (e : nums.Num) → num_fits m e ≡ num_room m (nums.map-Num args.Arg conds.Cond nums.Num sets.SetEx ArgRoom RoomTest RoomTest SetRoom (args.fold-Arg ArgRoom RoomTest RoomTest SetRoom arg_room (cond_room m) (num_room m) (set_room m)) (cond_fits m) (num_fits m) (set_fits m) (nums.out-Num e))
  num_out e = nums.fold_out-Num ArgRoom RoomTest RoomTest SetRoom arg_room (cond_room m) (num_room m) (set_room m) e

  pub operands_fit : (e : nums.Num) (op : NumOp) (a b : nums.Num) → nums.out-Num e ≡ nums.Num-F.Num::Op op a b → num_fits m e given room ≡ true → (num_fits m a given room ≡ true) × (num_fits m b given room ≡ true)
  operands_fit e op a b p h = and_parts (num_fits m a given room) (num_fits m b given room) (rw (num_out e, p) at h)

  pub if_fit : (e : nums.Num) (c : conds.Cond) (a b : nums.Num) → nums.out-Num e ≡ nums.Num-F.Num::If c a b → num_fits m e given room ≡ true → (cond_fits m c given room ≡ true) × ((num_fits m a given room ≡ true) × (num_fits m b given room ≡ true))
  if_fit e c a b p h =
      let f = and_parts (cond_fits m c given room) (num_fits m a given room && num_fits m b given room) (rw (num_out e, p) at h) in
      (f.0, and_parts (num_fits m a given room) (num_fits m b given room) f.1)

  pub var_fit : (e : nums.Num) (v : ℕ) → nums.out-Num e ≡ nums.Num-F.Num::Var v → num_fits m e given room ≡ true → is_number_kind (kind_at m.variables v) ≡ true
  var_fit e v p h = rw (num_out e, p) at h

  pub cell_fit : (e : nums.Num) (t : ℕ) (ns : List nums.Num) → nums.out-Num e ≡ nums.Num-F.Num::Cell t ns → num_fits m e given room ≡ true → all_fit m ns given room ≡ true
  cell_fit e t ns p h = rw (num_out e, p) at h

  pub param_fit : (e : nums.Num) (k : ℕ) → nums.out-Num e ≡ nums.Num-F.Param k → num_fits m e given room ≡ true → k < given
  param_fit e k p h = let f : nat_lt k given ≡ true = rw (num_out e, p) at h in ltb-true k given f

  abbrev pub set_out : (e : sets.SetEx) → set_fits m e ≡ set_room m (sets.map-SetEx args.Arg conds.Cond nums.Num sets.SetEx ArgRoom RoomTest RoomTest SetRoom (args.fold-Arg ArgRoom RoomTest RoomTest SetRoom arg_room (cond_room m) (num_room m) (set_room m)) (cond_fits m) (num_fits m) (set_fits m) (sets.out-SetEx e))
  set_out e = sets.fold_out-SetEx ArgRoom RoomTest RoomTest SetRoom arg_room (cond_room m) (num_room m) (set_room m) e

  pub choice_fit : (e : sets.SetEx) (c : conds.Cond) (a b : sets.SetEx) → sets.out-SetEx e ≡ sets.SetEx-F.SetEx::If c a b → (set_fits m e).1 given room ≡ true → (cond_fits m c given room ≡ true) × (((set_fits m a).1 given room ≡ true) × (((set_fits m a).0 ≡ (set_fits m b).0) × ((set_fits m b).1 given room ≡ true)))
  choice_fit e c a b p h =
      let f = and_parts (cond_fits m c given room) ((set_fits m a).1 given room && (eqb (set_fits m a).0 (set_fits m b).0 && (set_fits m b).1 given room)) (rw (set_out e, p) at h) in
      let g = and_parts ((set_fits m a).1 given room) (eqb (set_fits m a).0 (set_fits m b).0 && (set_fits m b).1 given room) f.1 in
      let k = and_parts (eqb (set_fits m a).0 (set_fits m b).0) ((set_fits m b).1 given room) g.1 in
      (f.0, (g.0, (eqb-true (set_fits m a).0 (set_fits m b).0 k.0, k.1)))

  pub set_var_fit : (e : sets.SetEx) (v : ℕ) → sets.out-SetEx e ≡ sets.SetEx-F.SetEx::Var v → (set_fits m e).1 given room ≡ true → is_set_kind (kind_at m.variables v) ≡ true
  set_var_fit e v p h = rw (set_out e, p) at h

  pub set_var_object : (e : sets.SetEx) (v : ℕ) → sets.out-SetEx e ≡ sets.SetEx-F.SetEx::Var v → (set_fits m e).0 ≡ object_of_kind (kind_of m v)
  set_var_object e v p = rw (set_out e, p) refl

  pub set_cell_object : (e : sets.SetEx) (t : ℕ) (ns : List nums.Num) → sets.out-SetEx e ≡ sets.SetEx-F.SetEx::Cell t ns → (set_fits m e).0 ≡ cells_object (cells_of m t)
  set_cell_object e t ns p = rw (set_out e, p) refl

  pub set_cell_fit : (e : sets.SetEx) (t : ℕ) (ns : List nums.Num) → sets.out-SetEx e ≡ sets.SetEx-F.SetEx::Cell t ns → (set_fits m e).1 given room ≡ true → all_fit m ns given room ≡ true
  set_cell_fit e t ns p h = rw (set_out e, p) at h

  pub over_all_fit : (e : conds.Cond) (over : Over) (c : conds.Cond) → conds.out-Cond e ≡ conds.Cond-F.All over c → cond_fits m e given room ≡ true → (over_fits m over ≡ true) × (more_fits (cond_fits m c) given room ≡ true)
  over_all_fit e over c p h = and_parts (over_fits m over) (more_fits (cond_fits m c) given room) (rw (cond_out e, p) at h)

  pub more_parts : (c : conds.Cond) → more_fits (cond_fits m c) given room ≡ true → (given + 1 ≤ room) × (cond_fits m c (given + 1) (room - (given + 1)) ≡ true)
  more_parts c h =
      let f = and_parts (nat_le (given + 1) room) (cond_fits m c (given + 1) (room - (given + 1))) h in
      (leb-true (given + 1) room f.0, f.1)

  pub choice_object : (e : sets.SetEx) (c : conds.Cond) (a b : sets.SetEx) → sets.out-SetEx e ≡ sets.SetEx-F.SetEx::If c a b → (set_fits m e).0 ≡ (set_fits m a).0
  choice_object e c a b p = rw (set_out e, p) refl

  pub operand_parts : (a : SetRoom) → operand_fits m a given room ≡ true → (word_count (count_of m a.0) ≤ room) × (a.1 given (room - word_count (count_of m a.0)) ≡ true)
  operand_parts a h =
      let f = and_parts (nat_le (word_count (count_of m a.0)) room) (a.1 given (room - word_count (count_of m a.0))) h in
      (leb-true (word_count (count_of m a.0)) room f.0, f.1)

-- ---- values

module _ (m : Model) (s : PlainState) (given : List ℕ) where
  pub set_var_is : (e : sets.SetEx) (v : ℕ) → sets.out-SetEx e ≡ sets.SetEx-F.SetEx::Var v → (set_value m s e).1 given ≡ Ok (set_in s v)
  set_var_is e v p = rw (sets.fold_out-SetEx ArgValue CondValue NumValue SetValue arg_step (cond_step m s) (num_step m s) (set_step m s) e, p) refl

  pub var_member : (e : sets.SetEx) (v count : ℕ) (z : ℤ) (r : Result Bool FaultKind) → sets.out-SetEx e ≡ sets.SetEx-F.SetEx::Var v → count ≡ count_of m (set_fits m e).0 → r ≡ is_member_in count z (Ok (set_in s v)) → r ≡ is_member_in (count_of m (set_fits m e).0) z ((set_value m s e).1 given)
  var_member e v count z r p k h = rw (set_var_is e v p, ← k) h

  pub is_in_is : (e : conds.Cond) (n : nums.Num) (a : sets.SetEx) (z : ℤ) → conds.out-Cond e ≡ conds.Cond-F.IsIn n a → num_value m s n given ≡ Ok z → cond_value m s e given ≡ is_member_in (count_of m (set_fits m a).0) z ((set_value m s a).1 given)
  is_in_is e n a z p h = rw (conds.fold_out-Cond ArgValue CondValue NumValue SetValue arg_step (cond_step m s) (num_step m s) (set_step m s) e, p, h, same_object m s a) refl

  object_of_op : (e : sets.SetEx) (op : SetOp) (a b : sets.SetEx) → sets.out-SetEx e ≡ sets.SetEx-F.SetEx::Op op a b → (set_fits m e).0 ≡ (set_fits m a).0
  object_of_op e op a b p = rw (sets.fold_out-SetEx ArgRoom RoomTest RoomTest SetRoom arg_room (cond_room m) (num_room m) (set_room m) e, p) refl

  object_of_not : (e a : sets.SetEx) → sets.out-SetEx e ≡ sets.SetEx-F.SetEx::Not a → (set_fits m e).0 ≡ (set_fits m a).0
  object_of_not e a p = rw (sets.fold_out-SetEx ArgRoom RoomTest RoomTest SetRoom arg_room (cond_room m) (num_room m) (set_room m) e, p) refl

  op_is : (e : sets.SetEx) (op : SetOp) (a b : sets.SetEx) (xs : List ℕ) → sets.out-SetEx e ≡ sets.SetEx-F.SetEx::Op op a b → (set_value m s a).1 given ≡ Ok xs → (set_value m s e).1 given ≡ operated_by op (count_of m (set_fits m a).0) xs ((set_value m s b).1 given)
  op_is e op a b xs p h = rw (sets.fold_out-SetEx ArgValue CondValue NumValue SetValue arg_step (cond_step m s) (num_step m s) (set_step m s) e, p, h, same_object m s a) refl

  not_is : (e a : sets.SetEx) → sets.out-SetEx e ≡ sets.SetEx-F.SetEx::Not a → (set_value m s e).1 given ≡ complement_of (count_of m (set_fits m a).0) ((set_value m s a).1 given)
  not_is e a p = rw (sets.fold_out-SetEx ArgValue CondValue NumValue SetValue arg_step (cond_step m s) (num_step m s) (set_step m s) e, p, same_object m s a) refl

  -- what answers so answers the expression

  pub op_answers : {A : Type 0} (f : A → List ℕ) (r : Result A FaultKind) (count : ℕ) (e : sets.SetEx) (op : SetOp) (a b : sets.SetEx) (xs : List ℕ) → sets.out-SetEx e ≡ sets.SetEx-F.SetEx::Op op a b → count ≡ count_of m (set_fits m e).0 → (set_value m s a).1 given ≡ Ok xs → Tells f r (operated_by op count xs ((set_value m s b).1 given)) → Tells f r ((set_value m s e).1 given)
  op_answers f r count e op a b xs p k h t =
      let q : count ≡ count_of m (set_fits m a).0 = k ∙ ap (count_of m) (object_of_op e op a b p) in
      rw (op_is e op a b xs p h, ← q) t

  pub not_answers : (count : ℕ) (e a : sets.SetEx) (xs ys : List ℕ) → sets.out-SetEx e ≡ sets.SetEx-F.SetEx::Not a → count ≡ count_of m (set_fits m e).0 → (set_value m s a).1 given ≡ Ok xs → ys ≡ members_where count (λ k. not (has xs k)) → (set_value m s e).1 given ≡ Ok ys
  not_answers count e a xs ys p k h t =
      let q : count ≡ count_of m (set_fits m a).0 = k ∙ ap (count_of m) (object_of_not e a p) in
      rw (not_is e a p, h, ← q, t) refl

  pub object_of_with : (e : sets.SetEx) (n : nums.Num) (a : sets.SetEx) → sets.out-SetEx e ≡ sets.SetEx-F.With n a → (set_fits m e).0 ≡ (set_fits m a).0
  object_of_with e n a p = rw (sets.fold_out-SetEx ArgRoom RoomTest RoomTest SetRoom arg_room (cond_room m) (num_room m) (set_room m) e, p) refl

  with_is : (e : sets.SetEx) (n : nums.Num) (a : sets.SetEx) (z : ℤ) → sets.out-SetEx e ≡ sets.SetEx-F.With n a → num_value m s n given ≡ Ok z → (set_value m s e).1 given ≡ with_in (count_of m (set_fits m a).0) z ((set_value m s a).1 given)
  with_is e n a z p h = rw (sets.fold_out-SetEx ArgValue CondValue NumValue SetValue arg_step (cond_step m s) (num_step m s) (set_step m s) e, p, h, same_object m s a) refl

  pub with_answers : {A : Type 0} (f : A → List ℕ) (r : Result A FaultKind) (count : ℕ) (e : sets.SetEx) (n : nums.Num) (a : sets.SetEx) (z : ℤ) → sets.out-SetEx e ≡ sets.SetEx-F.With n a → count ≡ count_of m (set_fits m e).0 → num_value m s n given ≡ Ok z → Tells f r (with_in count z ((set_value m s a).1 given)) → Tells f r ((set_value m s e).1 given)
  with_answers f r count e n a z p k h t =
      let q : count ≡ count_of m (set_fits m a).0 = k ∙ ap (count_of m) (object_of_with e n a p) in
      rw (with_is e n a z p h, ← q) t

  pub object_of_without : (e : sets.SetEx) (n : nums.Num) (a : sets.SetEx) → sets.out-SetEx e ≡ sets.SetEx-F.Without n a → (set_fits m e).0 ≡ (set_fits m a).0
  object_of_without e n a p = rw (sets.fold_out-SetEx ArgRoom RoomTest RoomTest SetRoom arg_room (cond_room m) (num_room m) (set_room m) e, p) refl

  without_is : (e : sets.SetEx) (n : nums.Num) (a : sets.SetEx) (z : ℤ) → sets.out-SetEx e ≡ sets.SetEx-F.Without n a → num_value m s n given ≡ Ok z → (set_value m s e).1 given ≡ without_in (count_of m (set_fits m a).0) z ((set_value m s a).1 given)
  without_is e n a z p h = rw (sets.fold_out-SetEx ArgValue CondValue NumValue SetValue arg_step (cond_step m s) (num_step m s) (set_step m s) e, p, h, same_object m s a) refl

  pub without_answers : {A : Type 0} (f : A → List ℕ) (r : Result A FaultKind) (count : ℕ) (e : sets.SetEx) (n : nums.Num) (a : sets.SetEx) (z : ℤ) → sets.out-SetEx e ≡ sets.SetEx-F.Without n a → count ≡ count_of m (set_fits m e).0 → num_value m s n given ≡ Ok z → Tells f r (without_in count z ((set_value m s a).1 given)) → Tells f r ((set_value m s e).1 given)
  without_answers f r count e n a z p k h t =
      let q : count ≡ count_of m (set_fits m a).0 = k ∙ ap (count_of m) (object_of_without e n a p) in
      rw (without_is e n a z p h, ← q) t

-- two sets, of which the first is held
module _ (m : Model) (given room : ℕ) where
  pub subset_fit : (e : conds.Cond) (a b : sets.SetEx) → conds.out-Cond e ≡ conds.Cond-F.Subset a b → cond_fits m e given room ≡ true → both_fit m (set_fits m a) (set_fits m b) given room ≡ true
  subset_fit e a b p h = rw (cond_out m given room e, p) at h

  pub same_fit : (e : conds.Cond) (a b : sets.SetEx) → conds.out-Cond e ≡ conds.Cond-F.SameSet a b → cond_fits m e given room ≡ true → both_fit m (set_fits m a) (set_fits m b) given room ≡ true
  same_fit e a b p h = rw (cond_out m given room e, p) at h

  pub other_fit : (e : conds.Cond) (a b : sets.SetEx) → conds.out-Cond e ≡ conds.Cond-F.OtherSet a b → cond_fits m e given room ≡ true → both_fit m (set_fits m a) (set_fits m b) given room ≡ true
  other_fit e a b p h = rw (cond_out m given room e, p) at h

  pub both_parts : (a b : SetRoom) → both_fit m a b given room ≡ true → (operand_fits m a given room ≡ true) × ((a.0 ≡ b.0) × (operand_fits m b given (room - word_count (count_of m a.0)) ≡ true))
  both_parts a b h =
      let f = and_parts (operand_fits m a given room) (eqb a.0 b.0 && operand_fits m b given (room - word_count (count_of m a.0))) h in
      let g = and_parts (eqb a.0 b.0) (operand_fits m b given (room - word_count (count_of m a.0))) f.1 in
      (f.0, (eqb-true a.0 b.0 g.0, g.1))
