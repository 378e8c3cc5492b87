-- What the parts of an expression promise makes what the whole promises: one lemma for each form.
use Rattle.std.proofs.Common.{◌≡◌, ◌==◌, ℕ, Bool, not, ◌&&◌, ◌||◌, if◌then◌else◌, List, [], ◌∷◌, ◌++◌, length, ℤ, pos, IsTrue, sym, ap, ap₂, ◌∙◌, subst}
use Rattle.std.specs.List.{list_all}
use Rattle.dp_model.specs.Typing.{is_state, is_set_below}
use Rattle.dp_model.specs.Evaluation.{compares, has, members_where, set_operation, count_of, kind_of, object_of_kind, set_in, cells_of, cells_object, truth_cell, set_cell, place_in, table_counts, range_of}
use Rattle.dp_model.specs.declared.trees.SetOp.{SetOp}
use Rattle.dp_model.specs.declared.trees.Compare.{Compare}
use Rattle.dp_model.specs.declared.trees.Over.{Over}
use Rattle.dp_model.specs.declared.trees.Num as nums
use Rattle.dp_model.specs.declared.trees.SetEx as sets
use Rattle.dp_model.specs.declared.trees.Cond as conds
use Rattle.dp_model.specs.declared.parts.PlainState.{PlainState}
use Rattle.dp_model.specs.declared.whole.Model.{Model}
use Rattle.poly_terms.specs.declared.table.Atom.{Atom}
use Rattle.poly_terms.specs.declared.terms.Term.{Term}
use Rattle.poly_terms.specs.Worth.{worth, as_bit}
use Rattle.poly_terms.specs.Fits.{Fits}
use Rattle.wide_values.specs.Wide.{wide_member, wide_members, wide_num, wide_cond, wide_set, wide_typed}
use Rattle.poly_eval.specs.declared.symbols.Symbol.{Symbol}
use Rattle.poly_eval.specs.Shows.{AreBits, Extends, IsSet, IsTruth, IsValue, Shows}
use Rattle.poly_eval.specs.Bits.{IsWorth, Tells}
use Rattle.poly_eval.specs.Parts.{AreFailures, AreNumbers, IsFailure, IsTruthUnless, wide_nums}
use Rattle.poly_eval.proofs.Steps.{fits_before}
use Rattle.poly_eval.proofs.Forms.{truth_cell-is, numbers-is, is_in-is, empty-is, not-is, and-is, or-is, choose-is, all-is, set_variable-is, set_cell-is, set_op-is, set_not-is, with-is, without-is, set_if-is, chosen_side, chosen_truth, both_side, either_side, guarded_nothing, set_with}

module _ (m : Model) (symbols : List Symbol) (given : List ℕ) where
  -- ---- conditions

  pub truth_cell_arm : (e : conds.Cond) (t : ℕ) (ns : List nums.Num) (table : List Atom) (values : List ℤ) (p : List Term) → conds.out-Cond e ≡ conds.Cond-F.Cond::Cell t ns → AreNumbers m table symbols given ns values
      → ((v : ℕ → ℤ) → as_bit (truth_cell (cells_of m t) (place_in m t (wide_members (table_counts m t) values))) ≡ worth v p) → IsTruth m table symbols given e p
  truth_cell_arm e t ns table values p form inner h s v state fits shows =
      ap as_bit (truth_cell-is m s given e t ns form ∙ ap (λ (zs : List ℤ). truth_cell (cells_of m t) (place_in m t (wide_members (table_counts m t) zs))) (inner s v state fits shows)) ∙ h v

  pub numbers_arm : (e : conds.Cond) (op : Compare) (a b : nums.Num) (first second table : List Atom) (x y p : List Term) → conds.out-Cond e ≡ conds.Cond-F.Numbers op a b → Extends first second → Extends second table
      → IsValue m first symbols given a x → IsValue m second symbols given b y → IsWorth table p (λ v. as_bit (compares op (worth v x) (worth v y))) → IsTruth m table symbols given e p
  numbers_arm e op a b first second table x y p form more last left right h s v state fits shows =
      let before = fits_before second table v last fits in
      ap as_bit (numbers-is m s given e op a b form ∙ ap₂ (compares op) (left s v state (fits_before first second v more before) shows) (right s v state before shows)) ∙ sym (h v fits)

  pub sets_arm : (e : conds.Cond) (a b : sets.SetEx) (test : List ℕ → List ℕ → Bool) (first second table : List Atom) (x y : List (List Term)) (p : List Term)
      → ((s : PlainState) → wide_cond m s e given ≡ test (wide_set m s a given) (wide_set m s b given)) → Extends first second → Extends second table → IsSet m first symbols given a x → IsSet m second symbols given b y
      → ((v : ℕ → ℤ) (us ws : List ℕ) → Fits table v → AreBits v x us → AreBits v y ws → as_bit (test us ws) ≡ worth v p) → IsTruth m table symbols given e p
  sets_arm e a b test first second table x y p is more last left right h s v state fits shows =
      let before = fits_before second table v last fits in
      ap as_bit (is s) ∙ h v (wide_set m s a given) (wide_set m s b given) fits (left s v state (fits_before first second v more before) shows).bits (right s v state before shows).bits

  pub is_in_arm : (e : conds.Cond) (n : nums.Num) (a : sets.SetEx) (first table : List Atom) (x : List Term) (row : List (List Term)) (p : List Term) → conds.out-Cond e ≡ conds.Cond-F.IsIn n a → Extends first table
      → IsValue m first symbols given n x → IsSet m table symbols given a row → ((v : ℕ → ℤ) (z : ℤ) (us : List ℕ) → z ≡ worth v x → AreBits v row us → as_bit (has us (wide_member z)) ≡ worth v p) → IsTruth m table symbols given e p
  is_in_arm e n a first table x row p form more left right h s v state fits shows =
      ap as_bit (is_in-is m s given e n a form) ∙ h v (wide_num m s n given) (wide_set m s a given) (left s v state (fits_before first table v more fits) shows) (right s v state fits shows).bits

  pub empty_arm : (e : conds.Cond) (a : sets.SetEx) (first table : List Atom) (row : List (List Term)) (p : List Term) → conds.out-Cond e ≡ conds.Cond-F.Empty a → Extends first table → IsSet m first symbols given a row
      → ((v : ℕ → ℤ) (us : List ℕ) → Fits table v → AreBits v row us → as_bit (length us == 0) ≡ worth v p) → IsTruth m table symbols given e p
  empty_arm e a first table row p form more inner h s v state fits shows =
      ap as_bit (empty-is m s given e a form) ∙ h v (wide_set m s a given) fits (inner s v state (fits_before first table v more fits) shows).bits

  pub not_arm : (e c : conds.Cond) (table : List Atom) (x q p : List Term) → conds.out-Cond e ≡ conds.Cond-F.Cond::Not c → IsTruth m table symbols given c x → q ≡ x
      → ((v : ℕ → ℤ) (b : Bool) → as_bit b ≡ worth v q → as_bit (not b) ≡ worth v p) → IsTruth m table symbols given e p
  not_arm e c table x q p form inner same h s v state fits shows =
      ap as_bit (not-is m s given e c form) ∙ h v (wide_cond m s c given) (inner s v state fits shows ∙ ap (worth v) (sym same))

  pub and_arm : (e a b : conds.Cond) (skipped : Bool) (first second table : List Atom) (x q y p : List Term) → conds.out-Cond e ≡ conds.Cond-F.And a b → Extends first second → Extends second table
      → IsTruth m first symbols given a x → q ≡ x → (IsTrue skipped → (v : ℕ → ℤ) → worth v q ≡ pos 0) → IsTruthUnless skipped m second symbols given b y
      → ((v : ℕ → ℤ) (a b : Bool) → Fits table v → as_bit a ≡ worth v x → as_bit b ≡ worth v y → as_bit (a && b) ≡ worth v p) → IsTruth m table symbols given e p
  and_arm e a b skipped first second table x q y p form more last left same sure right h s v state fits shows =
      let before = fits_before second table v last fits in
      ap as_bit (and-is m s given e a b form)
      ∙ both_side skipped (wide_cond m s a given) (wide_cond m s b given) (worth v x) (worth v y) (worth v p) (left s v state (fits_before first second v more before) shows) (λ t. ap (worth v) (sym same) ∙ sure t v) (right s v state before shows)
      (λ a b. h v a b fits)

  pub or_arm : (e a b : conds.Cond) (skipped : Bool) (first second table : List Atom) (x q y p : List Term) → conds.out-Cond e ≡ conds.Cond-F.Or a b → Extends first second → Extends second table
      → IsTruth m first symbols given a x → q ≡ x → (IsTrue skipped → (v : ℕ → ℤ) → worth v q ≡ pos 1) → IsTruthUnless skipped m second symbols given b y
      → ((v : ℕ → ℤ) (a b : Bool) → Fits table v → as_bit a ≡ worth v x → as_bit b ≡ worth v y → as_bit (a || b) ≡ worth v p) → IsTruth m table symbols given e p
  or_arm e a b skipped first second table x q y p form more last left same sure right h s v state fits shows =
      let before = fits_before second table v last fits in
      ap as_bit (or-is m s given e a b form)
      ∙ either_side skipped (wide_cond m s a given) (wide_cond m s b given) (worth v x) (worth v y) (worth v p) (left s v state (fits_before first second v more before) shows) (λ t. ap (worth v) (sym same) ∙ sure t v) (right s v state before shows)
      (λ a b. h v a b fits)

  pub choose_arm : (e c a b : conds.Cond) (zero one : Bool) (first second table atoms : List Atom) (h q r x y p : List Term) → conds.out-Cond e ≡ conds.Cond-F.Cond::If c a b → Extends first second → Extends second table
      → IsTruth m first symbols given c h → q ≡ h → (IsTrue zero → (v : ℕ → ℤ) → worth v q ≡ pos 0) → r ≡ h → (IsTrue one → (v : ℕ → ℤ) → worth v r ≡ pos 1)
      → IsTruthUnless zero m second symbols given a x → IsTruthUnless one m table symbols given b y → atoms ≡ table
      → ((v : ℕ → ℤ) (held : Bool) → Fits atoms v → as_bit held ≡ worth v h → worth v p ≡ (if held then worth v x else worth v y)) → IsTruth m table symbols given e p
  choose_arm e c a b zero one first second table atoms h q r x y p form more last held same nothing alike all left right here chosen s v state fits shows =
      let before = fits_before second table v last fits in
      let truth = held s v state (fits_before first second v more before) shows in
      ap as_bit (choose-is m s given e c a b form)
      ∙ chosen_truth (wide_cond m s c given) (wide_cond m s a given) (wide_cond m s b given) (worth v p)
      (chosen_side (wide_cond m s c given) zero one (as_bit (wide_cond m s a given)) (as_bit (wide_cond m s b given)) (worth v x) (worth v y) (worth v h) (worth v p)
      truth (λ t. ap (worth v) (sym same) ∙ nothing t v) (λ t. ap (worth v) (sym alike) ∙ all t v) (left s v state before shows) (right s v state fits shows)
      (chosen v (wide_cond m s c given) (subst (λ (atoms : List Atom). Fits atoms v) (sym here) fits) truth))

  pub all_arm : (e : conds.Cond) (over : Over) (c : conds.Cond) (second table : List Atom) (guards row : List (List Term)) (p : List Term) → conds.out-Cond e ≡ conds.Cond-F.All over c → Extends second table
      → ((v : ℕ → ℤ) (s : PlainState) → IsTrue (is_state m.objects m.variables s) → Shows v symbols s → AreBits v guards (range_of m s over))
      → length row ≡ length guards → AreFailures m second symbols given c guards row
      → ((v : ℕ → ℤ) (us : List ℕ) (g : ℕ → Bool) → Fits table v → IsTrue (is_set_below (length row) us) → Tells v row (λ j. has us j && not (g j)) → as_bit (list_all g us) ≡ worth v p) → IsTruth m table symbols given e p
  all_arm e over c second table guards row p form last range many fails h s v state fits shows =
      let bits = range v s state shows in
      ap as_bit (all-is m s given e over c form)
      ∙ h v (range_of m s over) (λ k. wide_cond m s c (given ++ k ∷ [])) fits (subst (λ (n : ℕ). IsTrue (is_set_below n (range_of m s over))) (sym many) bits.below)
      (fails s v (has (range_of m s over)) state (fits_before second table v last fits) shows bits.bit)

  -- ---- where a condition does not hold

  pub no_guard_arm : (c : conds.Cond) (table : List Atom) (guard p : List Term) → ((v : ℕ → ℤ) → worth v guard ≡ pos 0) → ((v : ℕ → ℤ) → worth v p ≡ pos 0) → IsFailure m table symbols given c guard p
  no_guard_arm c table guard p nothing zero s v g state fits shows e = guarded_nothing g (not (wide_cond m s c given)) (worth v guard) (worth v p) e (nothing v) (zero v)

  -- ---- sets

  pub set_variable_arm : (e : sets.SetEx) (k : ℕ) (table : List Atom) (row : List (List Term)) → sets.out-SetEx e ≡ sets.SetEx-F.SetEx::Var k → length row ≡ count_of m (object_of_kind (kind_of m k))
      → ((v : ℕ → ℤ) (s : PlainState) → IsTrue (is_state m.objects m.variables s) → Shows v symbols s → AreBits v row (set_in s k)) → IsSet m table symbols given e row
  set_variable_arm e k table row form many bits s v state fits shows =
      set_with m s v given e row (object_of_kind (kind_of m k), λ given. set_in s k) (set_variable-is m s e k form) many (bits v s state shows)

  pub set_cell_arm : (e : sets.SetEx) (t : ℕ) (ns : List nums.Num) (table : List Atom) (values : List ℤ) (row : List (List Term)) → sets.out-SetEx e ≡ sets.SetEx-F.SetEx::Cell t ns → AreNumbers m table symbols given ns values
      → length row ≡ count_of m (cells_object (cells_of m t)) → ((v : ℕ → ℤ) → AreBits v row (set_cell (cells_of m t) (place_in m t (wide_members (table_counts m t) values)))) → IsSet m table symbols given e row
  set_cell_arm e t ns table values row form inner many bits s v state fits shows =
      set_with m s v given e row (cells_object (cells_of m t), λ given. set_cell (cells_of m t) (place_in m t (wide_members (table_counts m t) (wide_nums m s ns given)))) (set_cell-is m s e t ns form) many
      (subst (λ (zs : List ℤ). AreBits v row (set_cell (cells_of m t) (place_in m t (wide_members (table_counts m t) zs)))) (sym (inner s v state fits shows)) (bits v))

  pub set_op_arm : (e : sets.SetEx) (op : SetOp) (a b : sets.SetEx) (first table atoms : List Atom) (x y row : List (List Term)) → sets.out-SetEx e ≡ sets.SetEx-F.SetEx::Op op a b → Extends first table
      → IsSet m first symbols given a x → IsSet m table symbols given b y → atoms ≡ table → length row ≡ length x
      → ((v : ℕ → ℤ) (us ws : List ℕ) → Fits atoms v → AreBits v x us → AreBits v y ws → AreBits v row (set_operation op (length x) us ws)) → IsSet m table symbols given e row
  set_op_arm e op a b first table atoms x y row form more left right here many bits s v state fits shows =
      let one = left s v state (fits_before first table v more fits) shows in
      set_with m s v given e row ((wide_typed m s a).0, λ given. set_operation op (count_of m (wide_typed m s a).0) (wide_set m s a given) (wide_set m s b given)) (set_op-is m s e op a b form) (many ∙ one.many)
      (subst (λ (n : ℕ). AreBits v row (set_operation op n (wide_set m s a given) (wide_set m s b given))) one.many
      (bits v (wide_set m s a given) (wide_set m s b given) (subst (λ (atoms : List Atom). Fits atoms v) (sym here) fits) one.bits (right s v state fits shows).bits))

  pub set_not_arm : (e a : sets.SetEx) (table : List Atom) (x row : List (List Term)) → sets.out-SetEx e ≡ sets.SetEx-F.SetEx::Not a → IsSet m table symbols given a x → length row ≡ length x
      → ((v : ℕ → ℤ) (us : List ℕ) → AreBits v x us → AreBits v row (members_where (length x) (λ k. not (has us k)))) → IsSet m table symbols given e row
  set_not_arm e a table x row form inner many bits s v state fits shows =
      let one = inner s v state fits shows in
      set_with m s v given e row ((wide_typed m s a).0, λ given. members_where (count_of m (wide_typed m s a).0) (λ k. not (has (wide_set m s a given) k))) (set_not-is m s e a form) (many ∙ one.many)
      (subst (λ (n : ℕ). AreBits v row (members_where n (λ k. not (has (wide_set m s a given) k)))) one.many (bits v (wide_set m s a given) one.bits))

  pub with_arm : (e : sets.SetEx) (n : nums.Num) (a : sets.SetEx) (first table atoms : List Atom) (x : List Term) (y row : List (List Term)) → sets.out-SetEx e ≡ sets.SetEx-F.With n a → Extends first table
      → IsValue m first symbols given n x → IsSet m table symbols given a y → atoms ≡ table → length row ≡ length y
      → ((v : ℕ → ℤ) (z : ℤ) (us : List ℕ) → Fits atoms v → z ≡ worth v x → AreBits v y us → AreBits v row (members_where (length y) (λ k. k == wide_member z || has us k))) → IsSet m table symbols given e row
  with_arm e n a first table atoms x y row form more left right here many bits s v state fits shows =
      let one = right s v state fits shows in
      set_with m s v given e row ((wide_typed m s a).0, λ given. members_where (count_of m (wide_typed m s a).0) (λ k. k == wide_member (wide_num m s n given) || has (wide_set m s a given) k)) (with-is m s e n a form) (many ∙ one.many)
      (subst (λ (i : ℕ). AreBits v row (members_where i (λ k. k == wide_member (wide_num m s n given) || has (wide_set m s a given) k))) one.many
      (bits v (wide_num m s n given) (wide_set m s a given) (subst (λ (atoms : List Atom). Fits atoms v) (sym here) fits) (left s v state (fits_before first table v more fits) shows) one.bits))

  pub without_arm : (e : sets.SetEx) (n : nums.Num) (a : sets.SetEx) (first table atoms : List Atom) (x : List Term) (y row : List (List Term)) → sets.out-SetEx e ≡ sets.SetEx-F.Without n a → Extends first table
      → IsValue m first symbols given n x → IsSet m table symbols given a y → atoms ≡ table → length row ≡ length y
      → ((v : ℕ → ℤ) (z : ℤ) (us : List ℕ) → Fits atoms v → z ≡ worth v x → AreBits v y us → AreBits v row (members_where (length y) (λ k. not (k == wide_member z) && has us k))) → IsSet m table symbols given e row
  without_arm e n a first table atoms x y row form more left right here many bits s v state fits shows =
      let one = right s v state fits shows in
      set_with m s v given e row ((wide_typed m s a).0, λ given. members_where (count_of m (wide_typed m s a).0) (λ k. not (k == wide_member (wide_num m s n given)) && has (wide_set m s a given) k)) (without-is m s e n a form) (many ∙ one.many)
      (subst (λ (i : ℕ). AreBits v row (members_where i (λ k. not (k == wide_member (wide_num m s n given)) && has (wide_set m s a given) k))) one.many
      (bits v (wide_num m s n given) (wide_set m s a given) (subst (λ (atoms : List Atom). Fits atoms v) (sym here) fits) (left s v state (fits_before first table v more fits) shows) one.bits))

  pub set_if_arm : (e : sets.SetEx) (c : conds.Cond) (a b : sets.SetEx) (first second table atoms : List Atom) (h : List Term) (x y row : List (List Term)) → sets.out-SetEx e ≡ sets.SetEx-F.SetEx::If c a b
      → Extends first second → Extends second table → IsTruth m first symbols given c h → IsSet m second symbols given a x → IsSet m table symbols given b y → atoms ≡ table → length row ≡ length x
      → ((v : ℕ → ℤ) (held : Bool) (us ws : List ℕ) → Fits atoms v → as_bit held ≡ worth v h → AreBits v x us → AreBits v y ws → AreBits v row (if held then us else ws)) → IsSet m table symbols given e row
  set_if_arm e c a b first second table atoms h x y row form more last held left right here many bits s v state fits shows =
      let before = fits_before second table v last fits in
      let one = left s v state before shows in
      set_with m s v given e row ((wide_typed m s a).0, λ given. if wide_cond m s c given then wide_set m s a given else wide_set m s b given) (set_if-is m s e c a b form) (many ∙ one.many)
      (bits v (wide_cond m s c given) (wide_set m s a given) (wide_set m s b given) (subst (λ (atoms : List Atom). Fits atoms v) (sym here) fits) (held s v state (fits_before first second v more before) shows) one.bits (right s v state fits shows).bits)
