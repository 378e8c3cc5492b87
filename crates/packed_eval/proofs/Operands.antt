-- Operations on sets of few parts.
use Rattle.std.proofs.Common.{◌≡◌, ℕ, ◌-◌, true, ◌&&◌, eqb, List, Option, Ok, refl}
use Rattle.std.specs.Prelude.{IfSome}
use Rattle.bit_sets.specs.Sets.{members_of}
use Rattle.packed_words.specs.Sets.{one_word}
use Rattle.std.proofs.lemmas.Bool.{and_parts}
use Rattle.state_layout.specs.Signatures.{word_count}
use Rattle.dp_model.specs.Evaluation.{count_of, num_value, set_value, set_operation, ArgValue, CondValue, NumValue, SetValue, arg_step, cond_step, num_step, set_step}
use Rattle.dp_model.specs.declared.trees.Num as nums
use Rattle.dp_model.specs.declared.trees.SetEx as sets
use Rattle.dp_model.specs.declared.trees.SetOp.{SetOp}
use Rattle.dp_model.specs.declared.parts.PlainState.{PlainState}
use Rattle.dp_model.specs.declared.whole.Model.{Model}
use Rattle.eval_room.specs.Fits.{num_fits, set_fits, operand_fits}
use Rattle.packed_eval.specs.Plain.{with_by, without_by}
use Rattle.packed_eval.proofs.Objects.{same_object}
use Rattle.packed_eval.proofs.Parts.{set_out, operand_parts, op_answers, object_of_with, object_of_without}

pub op_fits : (m : Model) (given room : ℕ) (e : sets.SetEx) (op : SetOp) (a b : sets.SetEx) → sets.out-SetEx e ≡ sets.SetEx-F.SetEx::Op op a b → (set_fits m e).1 given room ≡ true → ((set_fits m a).1 given room ≡ true) × ((r : ℕ) × ((set_fits m b).1 given r ≡ true))
op_fits m given room e op a b p h =
    let f = and_parts ((set_fits m a).1 given room) (eqb (set_fits m a).0 (set_fits m b).0 && operand_fits m (set_fits m b) given room) (rw (set_out m given room e, p) at h) in
    let g = and_parts (eqb (set_fits m a).0 (set_fits m b).0) (operand_fits m (set_fits m b) given room) f.1 in
    let o = operand_parts m given room (set_fits m b) g.1 in
    (f.0, (room - word_count (count_of m (set_fits m b).0), o.1))

pub op_told : (m : Model) (s : PlainState) (given : List ℕ) (count : ℕ) (e : sets.SetEx) (op : SetOp) (a b : sets.SetEx) (xs ys zs : List ℕ) → sets.out-SetEx e ≡ sets.SetEx-F.SetEx::Op op a b → count ≡ count_of m (set_fits m e).0 → (set_value m s a).1 given ≡ Ok xs → (set_value m s b).1 given ≡ Ok ys → zs ≡ set_operation op count xs ys → (set_value m s e).1 given ≡ Ok zs
op_told m s given count e op a b xs ys zs p k x y z = op_answers m s given (λ (ws : List ℕ). ws) (Ok zs) count e op a b xs p k x (rw (y, z) refl)

-- The object type of a set with one member more, or without one, is the set's.

with_value : (m : Model) (s : PlainState) (given : List ℕ) (e : sets.SetEx) (n : nums.Num) (a : sets.SetEx) → sets.out-SetEx e ≡ sets.SetEx-F.With n a → (set_value m s e).1 given ≡ with_by (count_of m (set_fits m e).0) (num_value m s n given) ((set_value m s a).1 given)
with_value m s given e n a p = rw (object_of_with m s given e n a p, sets.fold_out-SetEx ArgValue CondValue NumValue SetValue arg_step (cond_step m s) (num_step m s) (set_step m s) e, p, same_object m s a) refl

without_value : (m : Model) (s : PlainState) (given : List ℕ) (e : sets.SetEx) (n : nums.Num) (a : sets.SetEx) → sets.out-SetEx e ≡ sets.SetEx-F.Without n a → (set_value m s e).1 given ≡ without_by (count_of m (set_fits m e).0) (num_value m s n given) ((set_value m s a).1 given)
without_value m s given e n a p = rw (object_of_without m s given e n a p, sets.fold_out-SetEx ArgValue CondValue NumValue SetValue arg_step (cond_step m s) (num_step m s) (set_step m s) e, p, same_object m s a) refl

pub with_told : (m : Model) (s : PlainState) (given : List ℕ) (count : ℕ) (e : sets.SetEx) (n : nums.Num) (a : sets.SetEx) (r : Option ℕ) → sets.out-SetEx e ≡ sets.SetEx-F.With n a → count ≡ count_of m (set_fits m e).0 → IfSome r (λ w. with_by count (num_value m s n given) ((set_value m s a).1 given) ≡ Ok (members_of (one_word w))) → IfSome r (λ w. (set_value m s e).1 given ≡ Ok (members_of (one_word w)))
with_told m s given count e n a r p k h = rw (with_value m s given e n a p, ← k) h

pub without_told : (m : Model) (s : PlainState) (given : List ℕ) (count : ℕ) (e : sets.SetEx) (n : nums.Num) (a : sets.SetEx) (r : Option ℕ) → sets.out-SetEx e ≡ sets.SetEx-F.Without n a → count ≡ count_of m (set_fits m e).0 → IfSome r (λ w. without_by count (num_value m s n given) ((set_value m s a).1 given) ≡ Ok (members_of (one_word w))) → IfSome r (λ w. (set_value m s e).1 given ≡ Ok (members_of (one_word w)))
without_told m s given count e n a r p k h = rw (without_value m s given e n a p, ← k) h

pub with_fits : (m : Model) (given room : ℕ) (e : sets.SetEx) (n : nums.Num) (a : sets.SetEx) → sets.out-SetEx e ≡ sets.SetEx-F.With n a → (set_fits m e).1 given room ≡ true → (num_fits m n given room ≡ true) × ((set_fits m a).1 given room ≡ true)
with_fits m given room e n a p h = and_parts (num_fits m n given room) ((set_fits m a).1 given room) (rw (set_out m given room e, p) at h)

pub without_fits : (m : Model) (given room : ℕ) (e : sets.SetEx) (n : nums.Num) (a : sets.SetEx) → sets.out-SetEx e ≡ sets.SetEx-F.Without n a → (set_fits m e).1 given room ≡ true → (num_fits m n given room ≡ true) × ((set_fits m a).1 given room ≡ true)
without_fits m given room e n a p h = and_parts (num_fits m n given room) ((set_fits m a).1 given room) (rw (set_out m given room e, p) at h)
