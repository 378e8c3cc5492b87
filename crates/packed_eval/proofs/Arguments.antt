-- The arguments of a table's cell, evaluated in order.
use Rattle.std.proofs.Common.{◌≡◌, ℕ, zero, suc, ◌+◌, ◌*◌, ◌<◌, ◌≤◌, ◌&&◌, true, List, [], ◌∷◌, length, get_or, drop, drop-cons, add-one, min, Result, Ok, Err, ℤ, refl, sym, ◌∙◌, arith}
use Rattle.std.proofs.lemmas.Bool.{and_parts}
use Rattle.dp_base.specs.Results.{◌>>=◌}
use Rattle.std.proofs.lemmas.Nat.{mul-le}
use Rattle.packed_words.specs.Places.{most, advanced, placed, placed_at}
use Rattle.packed_words.specs.Sets.{IsClean}
use Rattle.packed_words.proofs.OnePass.{placed-is}
use Rattle.dp_model.specs.Evaluation.{count_of, cells_object, member_of, members_of, place_from, table_counts, cells_of, set_cell, num_value, set_value, ArgValue, CondValue, NumValue, SetValue, arg_step, cond_step, num_step, set_step}
use Rattle.dp_model.specs.declared.answers.FaultKind.{FaultKind}
use Rattle.dp_model.specs.declared.trees.Num as nums
use Rattle.dp_model.specs.declared.trees.SetEx as sets
use Rattle.dp_model.specs.declared.parts.PlainState.{PlainState}
use Rattle.dp_model.specs.declared.whole.Model.{Model}
use Rattle.eval_room.specs.Fits.{num_fits, all_fit}
use Rattle.packed_words.specs.Operands.{Tells, at_operands, num_values}
use Rattle.packed_words.specs.Places.{placed_from, member_on}

module _ (m : Model) (given room : ℕ) where
  pub fit_at : (ns : List nums.Num) (i : ℕ) (d : nums.Num) → i < length ns → all_fit m ns given room ≡ true → num_fits m (get_or ns i d) given room ≡ true
  fit_at [] i d p h = absurd (omega arith)
  fit_at (n ∷ ns) zero d p h = (and_parts (num_fits m n given room) (all_fit m ns given room) h).0
  fit_at (n ∷ ns) (suc i) d p h = fit_at ns i d (omega arith) (and_parts (num_fits m n given room) (all_fit m ns given room) h).1

  pub fit_one : (ns : List nums.Num) (n : nums.Num) → ns ≡ n ∷ [] → all_fit m ns given room ≡ true → num_fits m n given room ≡ true
  fit_one ns n p h = (and_parts (num_fits m n given room) true (rw p at h)).0

  pub fit_two : (ns : List nums.Num) (n o : nums.Num) → ns ≡ n ∷ o ∷ [] → all_fit m ns given room ≡ true → (num_fits m n given room ≡ true) × (num_fits m o given room ≡ true)
  fit_two ns n o p h =
      let f = and_parts (num_fits m n given room) (num_fits m o given room && true) (rw p at h) in
      (f.0, (and_parts (num_fits m o given room) true f.1).0)

module _ (m : Model) (s : PlainState) (given : List ℕ) where
  -- cells with one argument and with two

  pub one_value : (ns : List nums.Num) (n : nums.Num) (z : ℤ) → ns ≡ n ∷ [] → num_value m s n given ≡ Ok z → num_values m s ns given ≡ Ok (z ∷ [])
  one_value ns n z p e = rw (p, e) refl

  pub one_fault : (ns : List nums.Num) (n : nums.Num) (more : List nums.Num) (kind : FaultKind) → ns ≡ n ∷ more → num_value m s n given ≡ Err kind → num_values m s ns given ≡ Err kind
  one_fault ns n more kind p e = rw (p, e) refl

  pub two_values : (ns : List nums.Num) (n o : nums.Num) (y z : ℤ) → ns ≡ n ∷ o ∷ [] → num_value m s n given ≡ Ok y → num_value m s o given ≡ Ok z → num_values m s ns given ≡ Ok (y ∷ z ∷ [])
  two_values ns n o y z p e f = rw (p, e, f) refl

  pub second_fault : (ns : List nums.Num) (n o : nums.Num) (y : ℤ) (kind : FaultKind) → ns ≡ n ∷ o ∷ [] → num_value m s n given ≡ Ok y → num_value m s o given ≡ Err kind → num_values m s ns given ≡ Err kind
  second_fault ns n o y kind p e f = rw (p, e, f) refl

  one_more : (counts : List ℕ) (led : Result ℕ FaultKind) (z : ℤ) (r : Result (List ℤ) FaultKind) → placed_from counts (r >>= λ zs. Ok (z ∷ zs)) led ≡ placed_from (drop 1 counts) r (member_on counts led z)
  one_more counts led z (Ok zs) = refl
  one_more counts led z (Err kind) = refl

  pub place_step : (counts : List ℕ) (ns : List nums.Num) (led : Result ℕ FaultKind) (i : ℕ) (d : nums.Num) (n : nums.Num) (z : ℤ) → i < length ns → n ≡ get_or ns i d → num_value m s n given ≡ Ok z → placed_from (drop 1 counts) (num_values m s (drop (i + 1) ns) given) (member_on counts led z) ≡ placed_from counts (num_values m s (drop i ns) given) led
  place_step counts ns led i d n z p q e = rw (add-one, drop-cons ns i d, ← q, e) (sym (one_more counts led z (num_values m s (drop (suc i) ns) given)))

  pub place_fault : (counts : List ℕ) (ns : List nums.Num) (led : Result ℕ FaultKind) (i : ℕ) (d : nums.Num) (n : nums.Num) (kind : FaultKind) → i < length ns → n ≡ get_or ns i d → num_value m s n given ≡ Err kind → placed_from counts (num_values m s (drop i ns) given) led ≡ Err kind
  place_fault counts ns led i d n kind p q e = rw (drop-cons ns i d, ← q, e) refl

  set_cell_is : (e : sets.SetEx) (t : ℕ) (ns : List nums.Num) → sets.out-SetEx e ≡ sets.SetEx-F.SetEx::Cell t ns → (set_value m s e).1 given ≡ at_operands m t (set_cell (cells_of m t)) (num_values m s ns given)
  set_cell_is e t ns p = rw (sets.fold_out-SetEx ArgValue CondValue NumValue SetValue arg_step (cond_step m s) (num_step m s) (set_step m s) e, p) refl

  pub set_cell_tells : {A : Type 0} (f : A → List ℕ) (r : Result A FaultKind) (e : sets.SetEx) (t : ℕ) (ns : List nums.Num) → sets.out-SetEx e ≡ sets.SetEx-F.SetEx::Cell t ns → Tells f r (at_operands m t (set_cell (cells_of m t)) (num_values m s ns given)) → Tells f r ((set_value m s e).1 given)
  set_cell_tells f r e t ns p h = rw (set_cell_is e t ns p) h

-- a place that was found so is that of a cell
pub clean_placed : (m : Model) (t : ℕ) (operands : Result (List ℤ) FaultKind) (at : ℕ) (words : List ℕ) → Ok at ≡ placed_at (table_counts m t) operands → ((p : ℕ) → at ≡ min most p → IsClean (count_of m (cells_object (cells_of m t))) words) → IsClean (count_of m (cells_object (cells_of m t))) words
clean_placed m t (Err kind) at words e h = absurd (cc)
clean_placed m t (Ok zs) at words e h = of_members (members_of (table_counts m t) zs) (e ∙ placed-is (table_counts m t) zs 0)
  where
    of_members : (r : Result (List ℕ) FaultKind) → Ok at ≡ (r >>= λ members. Ok (min most (place_from 0 (table_counts m t) members))) → IsClean (count_of m (cells_object (cells_of m t))) words
    of_members (Ok members) e = h (place_from 0 (table_counts m t) members) (let q : at ≡ min most (place_from 0 (table_counts m t) members) = cc in q)
    of_members (Err kind) e = absurd (cc)

-- the place of one member, and of two

first_place : (count k : ℕ) → k < 4294967296 → advanced 0 count k ≡ k
first_place count k h = let none : 0 * count ≡ 0 = omega arith in rw none (omega (arith, h))

next_place : (i count k : ℕ) → i < 4294967296 → count < 4294967296 → k < 4294967296 → advanced i count k ≡ i * count + k
next_place i count k h c l =
    let few : i * count ≤ 4294967295 * 4294967295 = mul-le i count 4294967295 4294967295 (omega (arith, h)) (omega (arith, c)) in
    omega (arith, few, l)

pub row_fits : (i count k : ℕ) → i < 4294967296 → count < 4294967296 → k < 4294967296 → i * count + k < 18446744073709551616
row_fits i count k h c l =
    let few : i * count ≤ 4294967295 * 4294967295 = mul-le i count 4294967295 4294967295 (omega (arith, h)) (omega (arith, c)) in
    omega (arith, few, l)

pub one_at : (counts rest : List ℕ) (count k : ℕ) (z : ℤ) → counts ≡ count ∷ rest → member_of count z ≡ Ok k → k < 4294967296 → Ok k ≡ placed counts (z ∷ []) (Ok 0)
one_at counts rest count k z p e h = rw (p, e, first_place count k h) refl

pub two_at : (counts rest : List ℕ) (count last i k : ℕ) (y z : ℤ) → counts ≡ count ∷ last ∷ rest → member_of count y ≡ Ok i → member_of last z ≡ Ok k → i < 4294967296 → last < 4294967296 → k < 4294967296 → Ok (i * last + k) ≡ placed counts (y ∷ z ∷ []) (Ok 0)
two_at counts rest count last i k y z p e f h l j = rw (p, e, f, first_place count i h, next_place i last k h l j) refl
