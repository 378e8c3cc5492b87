-- The wide value of each form of expression.
use Rattle.std.proofs.Common.{◌≡◌, ℕ, Bool, true, false, not, ◌&&◌, ◌||◌, ◌==◌, if◌then◌else◌, List, [], ◌∷◌, ◌++◌, ◌⊎◌, inl, inr, length, drop, get_or, slice_get, Some, ℤ, pos, refl, sym, ap, ◌∙◌, subst, arith, append_assoc, add-one, drop-cons, ◌<◌, ◌≤◌, ◌+◌, zero, suc, IsTrue}
use Rattle.std.proofs.lemmas.Option.{same_Some}
use Rattle.std.proofs.lemmas.List.{drop_all, append-nil}
use Rattle.std.specs.Prelude.{slice_index}
use Rattle.std.specs.List.{list_all}
use Rattle.std.specs.Str.{bytes_eq}
use Rattle.dp_model.specs.Evaluation.{compares, has, number_in, members_where, set_operation, count_of, kind_of, object_of_kind, set_in, cells_of, cells_object, number_cell, truth_cell, set_cell, place_in, table_counts, ways, total_of, range_of}
use Rattle.dp_model.specs.declared.trees.NumOp.{NumOp}
use Rattle.dp_model.specs.declared.trees.SetOp.{SetOp}
use Rattle.dp_model.specs.declared.trees.Compare.{Compare}
use Rattle.dp_model.specs.declared.trees.Over.{Over}
use Rattle.dp_model.specs.declared.trees.Arg as args
use Rattle.dp_model.specs.declared.trees.Num as nums
use Rattle.dp_model.specs.declared.trees.SetEx as sets
use Rattle.dp_model.specs.declared.trees.Cond as conds
use Rattle.dp_model.specs.declared.parts.PlainState.{PlainState}
use Rattle.dp_model.specs.declared.whole.Model.{Model}
use Rattle.poly_terms.specs.declared.table.Atom.{Atom}
use Rattle.poly_terms.specs.declared.terms.Term.{Term}
use Rattle.poly_terms.specs.Worth.{as_bit}
use Rattle.wide_values.specs.Wide.{wide_operation, wide_member, wide_members, wide_choices, WideArg, WideCond, WideNum, WideSet, arg_wide, cond_wide, num_wide, set_wide, wide_num, wide_cond, wide_arg, wide_typed, wide_set}
use Rattle.poly_eval.specs.declared.symbols.Symbol.{Symbol}
use Rattle.poly_eval.specs.Shows.{AreBits, Extends, IsSetWith}
use Rattle.poly_eval.specs.Bits.{AreChoices}
use Rattle.poly_eval.specs.Parts.{AreFailures, IsFailure, choice_of, wide_nums, wide_args}
use Rattle.poly_eval.proofs.Steps.{fits_before}
use Rattle.poly_eval.proofs.RowSteps.{tells_more}

module _ (m : Model) (s : PlainState) (given : List ℕ) where
  pub var-is : (e : nums.Num) (k : ℕ) → nums.out-Num e ≡ nums.Num-F.Num::Var k → wide_num m s e given ≡ number_in s k
  var-is e k p = rw (nums.fold_out-Num WideArg WideCond WideNum WideSet arg_wide (cond_wide m s) (num_wide m s) (set_wide m s) e, p) refl

  pub param-is : (e : nums.Num) (k : ℕ) → nums.out-Num e ≡ nums.Num-F.Param k → wide_num m s e given ≡ pos (slice_index given k)
  param-is e k p = rw (nums.fold_out-Num WideArg WideCond WideNum WideSet arg_wide (cond_wide m s) (num_wide m s) (set_wide m s) e, p) refl

  pub cell-is : (e : nums.Num) (t : ℕ) (ns : List nums.Num) → nums.out-Num e ≡ nums.Num-F.Num::Cell t ns → wide_num m s e given ≡ number_cell (cells_of m t) (place_in m t (wide_members (table_counts m t) (wide_nums m s ns given)))
  cell-is e t ns p = rw (nums.fold_out-Num WideArg WideCond WideNum WideSet arg_wide (cond_wide m s) (num_wide m s) (set_wide m s) e, p) refl

  pub sum-is : (e : nums.Num) (t : ℕ) (es : List args.Arg) → nums.out-Num e ≡ nums.Num-F.Sum t es → wide_num m s e given ≡ total_of m t (ways (wide_choices (table_counts m t) (wide_args m s es given)))
  sum-is e t es p = rw (nums.fold_out-Num WideArg WideCond WideNum WideSet arg_wide (cond_wide m s) (num_wide m s) (set_wide m s) e, p) refl

  pub size-is : (e : nums.Num) (a : sets.SetEx) → nums.out-Num e ≡ nums.Num-F.Size a → wide_num m s e given ≡ pos (length (wide_set m s a given))
  size-is e a p = rw (nums.fold_out-Num WideArg WideCond WideNum WideSet arg_wide (cond_wide m s) (num_wide m s) (set_wide m s) e, p) refl

  pub op-is : (e : nums.Num) (op : NumOp) (a b : nums.Num) → nums.out-Num e ≡ nums.Num-F.Num::Op op a b → wide_num m s e given ≡ wide_operation op (wide_num m s a given) (wide_num m s b given)
  op-is e op a b p = rw (nums.fold_out-Num WideArg WideCond WideNum WideSet arg_wide (cond_wide m s) (num_wide m s) (set_wide m s) e, p) refl

  pub if-is : (e : nums.Num) (c : conds.Cond) (a b : nums.Num) → nums.out-Num e ≡ nums.Num-F.Num::If c a b → wide_num m s e given ≡ (if wide_cond m s c given then wide_num m s a given else wide_num m s b given)
  if-is e c a b p = rw (nums.fold_out-Num WideArg WideCond WideNum WideSet arg_wide (cond_wide m s) (num_wide m s) (set_wide m s) e, p) refl

  pub truth_cell-is : (e : conds.Cond) (t : ℕ) (ns : List nums.Num) → conds.out-Cond e ≡ conds.Cond-F.Cond::Cell t ns → wide_cond m s e given ≡ truth_cell (cells_of m t) (place_in m t (wide_members (table_counts m t) (wide_nums m s ns given)))
  truth_cell-is e t ns p = rw (conds.fold_out-Cond WideArg WideCond WideNum WideSet arg_wide (cond_wide m s) (num_wide m s) (set_wide m s) e, p) refl

  pub numbers-is : (e : conds.Cond) (op : Compare) (a b : nums.Num) → conds.out-Cond e ≡ conds.Cond-F.Numbers op a b → wide_cond m s e given ≡ compares op (wide_num m s a given) (wide_num m s b given)
  numbers-is e op a b p = rw (conds.fold_out-Cond WideArg WideCond WideNum WideSet arg_wide (cond_wide m s) (num_wide m s) (set_wide m s) e, p) refl

  pub same_set-is : (e : conds.Cond) (a b : sets.SetEx) → conds.out-Cond e ≡ conds.Cond-F.SameSet a b → wide_cond m s e given ≡ bytes_eq (wide_set m s a given) (wide_set m s b given)
  same_set-is e a b p = rw (conds.fold_out-Cond WideArg WideCond WideNum WideSet arg_wide (cond_wide m s) (num_wide m s) (set_wide m s) e, p) refl

  pub other_set-is : (e : conds.Cond) (a b : sets.SetEx) → conds.out-Cond e ≡ conds.Cond-F.OtherSet a b → wide_cond m s e given ≡ not (bytes_eq (wide_set m s a given) (wide_set m s b given))
  other_set-is e a b p = rw (conds.fold_out-Cond WideArg WideCond WideNum WideSet arg_wide (cond_wide m s) (num_wide m s) (set_wide m s) e, p) refl

  pub is_in-is : (e : conds.Cond) (n : nums.Num) (a : sets.SetEx) → conds.out-Cond e ≡ conds.Cond-F.IsIn n a → wide_cond m s e given ≡ has (wide_set m s a given) (wide_member (wide_num m s n given))
  is_in-is e n a p = rw (conds.fold_out-Cond WideArg WideCond WideNum WideSet arg_wide (cond_wide m s) (num_wide m s) (set_wide m s) e, p) refl

  pub subset-is : (e : conds.Cond) (a b : sets.SetEx) → conds.out-Cond e ≡ conds.Cond-F.Subset a b → wide_cond m s e given ≡ list_all (has (wide_set m s b given)) (wide_set m s a given)
  subset-is e a b p = rw (conds.fold_out-Cond WideArg WideCond WideNum WideSet arg_wide (cond_wide m s) (num_wide m s) (set_wide m s) e, p) refl

  pub empty-is : (e : conds.Cond) (a : sets.SetEx) → conds.out-Cond e ≡ conds.Cond-F.Empty a → wide_cond m s e given ≡ (length (wide_set m s a given) == 0)
  empty-is e a p = rw (conds.fold_out-Cond WideArg WideCond WideNum WideSet arg_wide (cond_wide m s) (num_wide m s) (set_wide m s) e, p) refl

  pub not-is : (e c : conds.Cond) → conds.out-Cond e ≡ conds.Cond-F.Cond::Not c → wide_cond m s e given ≡ not (wide_cond m s c given)
  not-is e c p = rw (conds.fold_out-Cond WideArg WideCond WideNum WideSet arg_wide (cond_wide m s) (num_wide m s) (set_wide m s) e, p) refl

  pub and-is : (e a b : conds.Cond) → conds.out-Cond e ≡ conds.Cond-F.And a b → wide_cond m s e given ≡ (wide_cond m s a given && wide_cond m s b given)
  and-is e a b p = rw (conds.fold_out-Cond WideArg WideCond WideNum WideSet arg_wide (cond_wide m s) (num_wide m s) (set_wide m s) e, p) refl

  pub or-is : (e a b : conds.Cond) → conds.out-Cond e ≡ conds.Cond-F.Or a b → wide_cond m s e given ≡ (wide_cond m s a given || wide_cond m s b given)
  or-is e a b p = rw (conds.fold_out-Cond WideArg WideCond WideNum WideSet arg_wide (cond_wide m s) (num_wide m s) (set_wide m s) e, p) refl

  pub choose-is : (e c a b : conds.Cond) → conds.out-Cond e ≡ conds.Cond-F.Cond::If c a b → wide_cond m s e given ≡ (if wide_cond m s c given then wide_cond m s a given else wide_cond m s b given)
  choose-is e c a b p = rw (conds.fold_out-Cond WideArg WideCond WideNum WideSet arg_wide (cond_wide m s) (num_wide m s) (set_wide m s) e, p) refl

  pub all-is : (e : conds.Cond) (over : Over) (c : conds.Cond) → conds.out-Cond e ≡ conds.Cond-F.All over c → wide_cond m s e given ≡ list_all (λ k. wide_cond m s c (given ++ k ∷ [])) (range_of m s over)
  all-is e over c p = rw (conds.fold_out-Cond WideArg WideCond WideNum WideSet arg_wide (cond_wide m s) (num_wide m s) (set_wide m s) e, p) refl

  pub one-is : (e : args.Arg) (n : nums.Num) → args.out-Arg e ≡ args.Arg-F.One n → wide_arg m s e given ≡ inl (wide_num m s n given)
  one-is e n p = rw (args.fold_out-Arg WideArg WideCond WideNum WideSet arg_wide (cond_wide m s) (num_wide m s) (set_wide m s) e, p) refl

  pub many-is : (e : args.Arg) (a : sets.SetEx) → args.out-Arg e ≡ args.Arg-F.Many a → wide_arg m s e given ≡ inr (wide_set m s a given)
  many-is e a p = rw (args.fold_out-Arg WideArg WideCond WideNum WideSet arg_wide (cond_wide m s) (num_wide m s) (set_wide m s) e, p) refl

module _ (m : Model) (s : PlainState) where
  pub set_variable-is : (e : sets.SetEx) (k : ℕ) → sets.out-SetEx e ≡ sets.SetEx-F.SetEx::Var k → wide_typed m s e ≡ (object_of_kind (kind_of m k), λ given. set_in s k)
  set_variable-is e k p = rw (sets.fold_out-SetEx WideArg WideCond WideNum WideSet arg_wide (cond_wide m s) (num_wide m s) (set_wide m s) e, p) refl

  pub set_cell-is : (e : sets.SetEx) (t : ℕ) (ns : List nums.Num) → sets.out-SetEx e ≡ sets.SetEx-F.SetEx::Cell t ns → wide_typed m s e ≡ (cells_object (cells_of m t), λ given. set_cell (cells_of m t) (place_in m t (wide_members (table_counts m t) (wide_nums m s ns given))))
  set_cell-is e t ns p = rw (sets.fold_out-SetEx WideArg WideCond WideNum WideSet arg_wide (cond_wide m s) (num_wide m s) (set_wide m s) e, p) refl

  pub set_op-is : (e : sets.SetEx) (op : SetOp) (a b : sets.SetEx) → sets.out-SetEx e ≡ sets.SetEx-F.SetEx::Op op a b → wide_typed m s e ≡ ((wide_typed m s a).0, λ given. set_operation op (count_of m (wide_typed m s a).0) (wide_set m s a given) (wide_set m s b given))
  set_op-is e op a b p = rw (sets.fold_out-SetEx WideArg WideCond WideNum WideSet arg_wide (cond_wide m s) (num_wide m s) (set_wide m s) e, p) refl

  pub set_not-is : (e a : sets.SetEx) → sets.out-SetEx e ≡ sets.SetEx-F.SetEx::Not a → wide_typed m s e ≡ ((wide_typed m s a).0, λ given. members_where (count_of m (wide_typed m s a).0) (λ k. not (has (wide_set m s a given) k)))
  set_not-is e a p = rw (sets.fold_out-SetEx WideArg WideCond WideNum WideSet arg_wide (cond_wide m s) (num_wide m s) (set_wide m s) e, p) refl

  pub with-is : (e : sets.SetEx) (n : nums.Num) (a : sets.SetEx) → sets.out-SetEx e ≡ sets.SetEx-F.With n a
      → wide_typed m s e ≡ ((wide_typed m s a).0, λ given. members_where (count_of m (wide_typed m s a).0) (λ k. k == wide_member (wide_num m s n given) || has (wide_set m s a given) k))
  with-is e n a p = rw (sets.fold_out-SetEx WideArg WideCond WideNum WideSet arg_wide (cond_wide m s) (num_wide m s) (set_wide m s) e, p) refl

  pub without-is : (e : sets.SetEx) (n : nums.Num) (a : sets.SetEx) → sets.out-SetEx e ≡ sets.SetEx-F.Without n a
      → wide_typed m s e ≡ ((wide_typed m s a).0, λ given. members_where (count_of m (wide_typed m s a).0) (λ k. not (k == wide_member (wide_num m s n given)) && has (wide_set m s a given) k))
  without-is e n a p = rw (sets.fold_out-SetEx WideArg WideCond WideNum WideSet arg_wide (cond_wide m s) (num_wide m s) (set_wide m s) e, p) refl

  pub set_if-is : (e : sets.SetEx) (c : conds.Cond) (a b : sets.SetEx) → sets.out-SetEx e ≡ sets.SetEx-F.SetEx::If c a b → wide_typed m s e ≡ ((wide_typed m s a).0, λ given. if wide_cond m s c given then wide_set m s a given else wide_set m s b given)
  set_if-is e c a b p = rw (sets.fold_out-SetEx WideArg WideCond WideNum WideSet arg_wide (cond_wide m s) (num_wide m s) (set_wide m s) e, p) refl

-- ---- what is skipped does not count

-- a bit that is 0 is that of what does not hold
bit_zero : (b : Bool) (w : ℤ) → as_bit b ≡ w → w ≡ pos 0 → b ≡ false
bit_zero true w e h = absurd (one_zero (e ∙ h)) where
  one_zero : pos 1 ≡ pos 0 → ⊥
  one_zero e = absurd (cc)
bit_zero false w e h = refl

bit_one : (b : Bool) (w : ℤ) → as_bit b ≡ w → w ≡ pos 1 → b ≡ true
bit_one true w e h = refl
bit_one false w e h = absurd (zero_one (e ∙ h)) where
  zero_one : pos 0 ≡ pos 1 → ⊥
  zero_one e = absurd (cc)

-- the side that counts is worth what it should be
pub chosen_side : (held first second : Bool) (x y a b w p : ℤ) → as_bit held ≡ w → (IsTrue first → w ≡ pos 0) → (IsTrue second → w ≡ pos 1) → (if first then pos 0 else x) ≡ a → (if second then pos 0 else y) ≡ b → p ≡ (if held then a else b) → (if held then x else y) ≡ p
chosen_side true false second x y a b w p e f g l r h = l ∙ sym h
chosen_side true true second x y a b w p e f g l r h = absurd (no (bit_zero true w e (f refl))) where
  no : true ≡ false → ⊥
  no e = absurd (cc)
chosen_side false first false x y a b w p e f g l r h = r ∙ sym h
chosen_side false first true x y a b w p e f g l r h = absurd (no (bit_one false w e (g refl))) where
  no : false ≡ true → ⊥
  no e = absurd (cc)

pub chosen_truth : (held x y : Bool) (p : ℤ) → (if held then as_bit x else as_bit y) ≡ p → as_bit (if held then x else y) ≡ p
chosen_truth true x y p e = e
chosen_truth false x y p e = e

-- the second of two does not count where the first decides

pub both_side : (skipped x y : Bool) (w u p : ℤ) → as_bit x ≡ w → (IsTrue skipped → w ≡ pos 0) → (if skipped then pos 0 else as_bit y) ≡ u → ((a b : Bool) → as_bit a ≡ w → as_bit b ≡ u → as_bit (a && b) ≡ p) → as_bit (x && y) ≡ p
both_side false x y w u p e f l h = h x y e l
both_side true true y w u p e f l h = absurd (no (bit_zero true w e (f refl))) where
  no : true ≡ false → ⊥
  no e = absurd (cc)
both_side true false y w u p e f l h = h false false e l

pub either_side : (skipped x y : Bool) (w u p : ℤ) → as_bit x ≡ w → (IsTrue skipped → w ≡ pos 1) → (if skipped then pos 0 else as_bit y) ≡ u → ((a b : Bool) → as_bit a ≡ w → as_bit b ≡ u → as_bit (a || b) ≡ p) → as_bit (x || y) ≡ p
either_side false x y w u p e f l h = h x y e l
either_side true false y w u p e f l h = absurd (no (bit_one false w e (f refl))) where
  no : false ≡ true → ⊥
  no e = absurd (cc)
either_side true true y w u p e f l h = h true false e l

-- ---- the conditions of a `forall`

pub guarded_nothing : (g x : Bool) (w p : ℤ) → as_bit g ≡ w → w ≡ pos 0 → p ≡ pos 0 → as_bit (g && x) ≡ p
guarded_nothing false x w p e h k = sym k
guarded_nothing true x w p e h k = absurd (no (bit_zero true w e h)) where
  no : true ≡ false → ⊥
  no e = absurd (cc)

pub failures_more : (m : Model) (old new : List Atom) (symbols : List Symbol) (given more : List ℕ) (c : conds.Cond) (guards row : List (List Term)) (k : ℕ) (guard p : List Term)
    → Extends old new → length row ≡ k → more ≡ given ++ k ∷ [] → slice_get guards k ≡ Some guard
    → AreFailures m old symbols given c guards row → IsFailure m new symbols more c guard p → AreFailures m new symbols given c guards (row ++ p ∷ [])
failures_more m old new symbols given more c guards row k guard p grows many is here before last s v f state fits shows tells =
    tells_more v row p (λ j. f j && not (wide_cond m s c (given ++ j ∷ []))) k many
    (before s v f state (fits_before old new v grows fits) shows tells)
    (ap (λ (xs : List ℕ). as_bit (f k && not (wide_cond m s c xs))) (sym is) ∙ last s v (f k) state fits shows (tells k guard here))

-- ---- sets, and the arguments of a `sum`

pub set_with : (m : Model) (s : PlainState) (v : ℕ → ℤ) (given : List ℕ) (e : sets.SetEx) (row : List (List Term)) (w : WideSet) → wide_typed m s e ≡ w → length row ≡ count_of m w.0 → AreBits v row (w.1 given) → IsSetWith m s v given e row
set_with m s v given e row w is h k = record {
  many = h ∙ ap (λ (w : WideSet). count_of m w.0) (sym is);
  bits = subst (λ (w : WideSet). AreBits v row (w.1 given)) (sym is) k;
}

one_choice : (v : ℕ → ℤ) (count : ℕ) (counts : List ℕ) (x : ℤ ⊎ List ℕ) (xs : List (ℤ ⊎ List ℕ)) (row : List (List Term)) (rows : List (List (List Term)))
    → AreBits v row (choice_of x) → AreChoices v rows (wide_choices counts xs) → AreChoices v (row ∷ rows) (wide_choices (count ∷ counts) (x ∷ xs))
one_choice v count counts (inl n) xs row rows h k = (h, k)
one_choice v count counts (inr set) xs row rows h k = (h, k)

pub choices_are : (m : Model) (s : PlainState) (given : List ℕ) (v : ℕ → ℤ) (counts : List ℕ) (es : List args.Arg) (rows : List (List (List Term))) → length rows ≡ length es → length es ≡ length counts
    → ((i : ℕ) (e : args.Arg) (row : List (List Term)) → slice_get es i ≡ Some e → slice_get rows i ≡ Some row → AreBits v row (choice_of (wide_arg m s e given))) → AreChoices v rows (wide_choices counts (wide_args m s es given))
choices_are m s given v [] [] [] p q h = tt
choices_are m s given v [] [] (row ∷ rows) p q h = absurd (omega arith)
choices_are m s given v [] (e ∷ es) rows p q h = absurd (omega arith)
choices_are m s given v (count ∷ counts) [] rows p q h = absurd (omega arith)
choices_are m s given v (count ∷ counts) (e ∷ es) [] p q h = absurd (omega arith)
choices_are m s given v (count ∷ counts) (e ∷ es) (row ∷ rows) p q h =
    let p' : length rows ≡ length es = omega arith in
    let q' : length es ≡ length counts = omega arith in
    one_choice v count counts (wide_arg m s e given) (wide_args m s es given) row rows (h zero e row refl refl) (choices_are m s given v counts es rows p' q' (λ i. h (suc i)))

-- one more item of each of two rows, where a fact ties the items at each place
pub each_more : {A B : Type 0} (P : A → B → Type 0) (xs : List A) (ys : List B) (n : ℕ) (x : A) (y : B) → length ys ≡ n → slice_get xs n ≡ Some x → P x y
    → ((i : ℕ) (a : A) (b : B) → slice_get xs i ≡ Some a → slice_get ys i ≡ Some b → P a b) → (i : ℕ) (a : A) (b : B) → slice_get xs i ≡ Some a → slice_get (ys ++ y ∷ []) i ≡ Some b → P a b
each_more {A = A} {B = B} P xs [] n x y many there p h zero a b e f =
    let first = subst (λ (k : ℕ). slice_get xs k ≡ Some x) (sym many) there in
    subst (λ (b : B). P a b) (same_Some y b f) (subst (λ (a : A). P a y) (same_Some x a (sym first ∙ e)) p)
each_more P xs [] n x y many there p h (suc i) a b e f = absurd (cc)
each_more P [] (z ∷ ys) n x y many there p h i a b e f = absurd (cc)
each_more P (w ∷ xs) (z ∷ ys) n x y many there p h zero a b e f = h zero a b e f
each_more P (w ∷ xs) (z ∷ ys) zero x y many there p h (suc i) a b e f = absurd (omega arith)
each_more P (w ∷ xs) (z ∷ ys) (suc n) x y many there p h (suc i) a b e f = each_more P xs ys n x y (omega arith) there p (λ k. h (suc k)) i a b e f

-- one more number of a row of expressions
pub nums_more : (m : Model) (s : PlainState) (given : List ℕ) (ns : List nums.Num) (i : ℕ) (n : nums.Num) (k : ℤ) (vs all : List ℤ) → i < length ns → n ≡ get_or ns i n → wide_num m s n given ≡ k
    → vs ++ wide_nums m s (drop i ns) given ≡ all → (vs ++ k ∷ []) ++ wide_nums m s (drop (i + 1) ns) given ≡ all
nums_more m s given ns i n k vs all h is e f =
    rw (append_assoc, add-one)
    (ap (λ (z : ℤ). vs ++ z ∷ wide_nums m s (drop (suc i) ns) given) (sym e)
    ∙ ap (λ (x : nums.Num). vs ++ wide_num m s x given ∷ wide_nums m s (drop (suc i) ns) given) is
    ∙ ap (λ (xs : List nums.Num). vs ++ wide_nums m s xs given) (sym (drop-cons ns i n h))
    ∙ f)

-- no number of a row is left
pub nums_end : (m : Model) (s : PlainState) (given : List ℕ) (ns : List nums.Num) (i : ℕ) (vs all : List ℤ) → length ns ≤ i → vs ++ wide_nums m s (drop i ns) given ≡ all → all ≡ vs
nums_end m s given ns i vs all h e = sym e ∙ ap (λ (xs : List nums.Num). vs ++ wide_nums m s xs given) (drop_all i ns h) ∙ append-nil vs
