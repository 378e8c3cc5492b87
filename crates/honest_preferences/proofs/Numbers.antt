-- How numbers change where the resources of a state are better.
use Rattle.std.proofs.Common.{◌≡◌, ℕ, zero, suc, Bool, true, false, cond, if◌then◌else◌, ◌⊎◌, inl, inr, List, [], ◌∷◌, length, map, slice_get, Option, Some, Result, Ok, Err, ℤ, pos, refl, sym, ap, ap₂, subst, ◌∙◌, arith}
use Rattle.std.specs.Prelude.{◌^◌, neg_ℤ, int_le, int_lt, ◌≤ℤ◌, ◌+ℤ◌, ◌-ℤ◌, ◌*ℤ◌, int_div, int_rem, slice_index, unwrap_or}
use Rattle.std.specs.Int.{int_min, int_max}
use Rattle.std.specs.Ordering.{int_eq}
use Rattle.std.proofs.Math.IntN.{*ℤ_comm}
use Rattle.std.proofs.lemmas.Bool.{and_parts, and_from}
use Rattle.std.proofs.lemmas.Int.{ints, clamps}
use Rattle.dp_base.specs.Results.{◌>>=◌, in_turn}
use Rattle.dp_model.specs.Costs.{InRange, greatest, ranged}
use Rattle.dp_model.specs.Evaluation.{ArgValue, CondValue, NumValue, SetValue, arg_step, cond_step, num_step, set_step, cells_of, choices_of, cond_value, members_of, num_value, number_cell, number_held, number_in, operate, place_in, set_value, table_counts, total_of, ways}
use Rattle.dp_model.specs.Typing.{are_held, is_in_range, may_hold}
use Rattle.dp_model.specs.declared.answers.FaultKind.{FaultKind}
use Rattle.dp_model.specs.declared.answers.FaultKind.TheVariants.{Range, ZeroDivisor}
use Rattle.dp_model.specs.declared.trees.NumOp.{NumOp}
use Rattle.dp_model.specs.declared.trees.NumOp.TheVariants as number_operations
use Rattle.dp_model.specs.declared.trees.Arg as args
use Rattle.dp_model.specs.declared.trees.Num as nums
use Rattle.dp_model.specs.declared.trees.SetEx as sets
use Rattle.dp_model.specs.declared.trees.Cond as conds
use Rattle.dp_model.specs.declared.parts.ObjectType.{ObjectType}
use Rattle.dp_model.specs.declared.parts.PlainState.{PlainState}
use Rattle.dp_model.specs.declared.parts.PlainValue.{PlainValue}
use Rattle.dp_model.specs.declared.parts.PlainValue.TheVariants as values
use Rattle.dp_model.specs.declared.parts.Preference.{Preference}
use Rattle.dp_model.specs.declared.parts.Preference.TheVariants.{Without, Less, Greater}
use Rattle.dp_model.specs.declared.parts.VarKind.{VarKind}
use Rattle.dp_model.specs.declared.parts.VarKind.TheVariants as kinds
use Rattle.dp_model.specs.declared.parts.Variable.{Variable}
use Rattle.dp_model.specs.declared.whole.Model.{Model}
use Rattle.honest_preferences.proofs.Binding.{bound, ok_same}
use Rattle.honest_preferences.specs.Leaving.{is_kept, leaves_cond, leaves_num}
use Rattle.honest_preferences.specs.Sides.{HoldsNoLess, HoldsNoMore, IsHigh, IsHighEnd, IsLow, IsLowEnd, IsNoGreater, IsNoLess, IsRanged, is_tested}
use Rattle.honest_preferences.specs.Signs.{Falls, FallsBy, IsOnSide, IsPair, Rises, RisesBy, operated}
use Rattle.ring_laws.proofs.Ring.{le_trans, product_from, product_up, times_up}
use Rattle.honest_preferences.proofs.Agreeing.{agreeing, held_greater, held_less, no_greater}
use Rattle.honest_preferences.proofs.Same.{cond_same, num_same}

-- ---- ranges

least_below : neg_ℤ greatest ≤ℤ pos 0
least_below = omega (arith, ints)

turned : (a b : ℤ) → ranged (a *ℤ b) ≡ ranged (b *ℤ a)
turned a b = ap ranged (*ℤ_comm a b)

up_times : (a b c : ℤ) → pos 0 ≤ℤ c → a ≤ℤ b → (a *ℤ c) ≤ℤ (b *ℤ c)
up_times a b c h k = subst (λ (z : ℤ). z ≤ℤ (b *ℤ c)) (*ℤ_comm c a) (subst (λ (z : ℤ). (c *ℤ a) ≤ℤ z) (*ℤ_comm c b) (times_up c a b h k))

in_range : (n : ℤ) → is_in_range n ≡ true → InRange n
in_range n h =
    let p = and_parts (int_le (neg_ℤ greatest) n) (int_le n greatest) h in
    let low = p.0 in
    let high = p.1 in
    (grind (arith, ints), grind (arith, ints))

tested : (n : ℤ) → InRange n → is_in_range n ≡ true
tested n h =
    let low = h.0 in
    let high = h.1 in
    let a : int_le (neg_ℤ greatest) n ≡ true = grind (arith, ints) in
    let b : int_le n greatest ≡ true = grind (arith, ints) in
    and_from (int_le (neg_ℤ greatest) n) (int_le n greatest) a b

ranged_if : (n x : ℤ) (b : Bool) → is_in_range n ≡ b → cond b (Ok n) (Err Range) ≡ Ok x → InRange n × (x ≡ n)
ranged_if n x true q e = (in_range n q, cc)
ranged_if n x false q e = absurd (cc)

-- a number that passes the test is in range and the same
ranged_value : (n x : ℤ) → ranged n ≡ Ok x → InRange n × (x ≡ n)
ranged_value n x e = ranged_if n x (is_in_range n) refl e

value_ranged : (n : ℤ) → InRange n → ranged n ≡ Ok n
value_ranged n h = rw (tested n h) refl

-- what is ranged is not below the least number, and not above the greatest
abbrev AtEnds : ℤ → Type 0
AtEnds z = (neg_ℤ greatest ≤ℤ z) × (z ≤ℤ greatest)

ranged_ends : (n x : ℤ) → ranged n ≡ Ok x → AtEnds x
ranged_ends n x e = let r = ranged_value n x e in subst AtEnds (sym r.1) r.0

may_end : (objects : List ObjectType) (kind : VarKind) (x : PlainValue) → may_hold objects kind x ≡ true → AtEnds (number_held (Some x))
may_end objects kinds.Integer (values.Number n) h = in_range n h
may_end objects (kinds.Element object) (values.Number n) h =
    let p = and_parts (int_le (pos 0) n) (int_lt n (pos (2 ^ 32))) h in
    let low = p.0 in
    let high = p.1 in
    (grind (arith, ints), grind (arith, ints))
may_end objects (kinds.Set object) (values.Number n) h = absurd cc
may_end objects kind (values.Members set) h = (omega (arith, ints), omega (arith, ints))

held_ends : (objects : List ObjectType) (vs : List Variable) (xs : List PlainValue) → are_held objects vs xs ≡ true → (v : ℕ) → AtEnds (number_held (slice_get xs v))
held_ends objects vs [] h v = (omega (arith, ints), omega (arith, ints))
held_ends objects [] (x ∷ xs) h v = absurd cc
held_ends objects (w ∷ vs) (x ∷ xs) h zero = may_end objects w.kind x (and_parts (may_hold objects w.kind x) (are_held objects vs xs) h).0
held_ends objects (w ∷ vs) (x ∷ xs) h (suc v) = held_ends objects vs xs (and_parts (may_hold objects w.kind x) (are_held objects vs xs) h).1 v

-- ---- what each form stands for

module _ (m : Model) (s : PlainState) (given : List ℕ) where
  pub fixed_is : (e : nums.Num) (n : ℤ) → nums.out-Num e ≡ nums.Num-F.Num::Fixed n → num_value m s e given ≡ Ok n
  fixed_is e n p = rw (nums.fold_out-Num ArgValue CondValue NumValue SetValue arg_step (cond_step m s) (num_step m s) (set_step m s) e, p) refl

  pub var_is : (e : nums.Num) (v : ℕ) → nums.out-Num e ≡ nums.Num-F.Num::Var v → num_value m s e given ≡ Ok (number_in s v)
  var_is e v p = rw (nums.fold_out-Num ArgValue CondValue NumValue SetValue arg_step (cond_step m s) (num_step m s) (set_step m s) e, p) refl

  pub param_is : (e : nums.Num) (k : ℕ) → nums.out-Num e ≡ nums.Num-F.Param k → num_value m s e given ≡ Ok (pos (slice_index given k))
  param_is e k p = rw (nums.fold_out-Num ArgValue CondValue NumValue SetValue arg_step (cond_step m s) (num_step m s) (set_step m s) e, p) refl

  pub cell_is : (e : nums.Num) (t : ℕ) (ns : List nums.Num) → nums.out-Num e ≡ nums.Num-F.Num::Cell t ns
      → num_value m s e given ≡ (in_turn (λ (n : NumValue). n given) (map (num_value m s) ns) >>= λ zs. members_of (table_counts m t) zs >>= λ members. Ok (number_cell (cells_of m t) (place_in m t members)))
  cell_is e t ns p = rw (nums.fold_out-Num ArgValue CondValue NumValue SetValue arg_step (cond_step m s) (num_step m s) (set_step m s) e, p) refl

  pub size_is : (e : nums.Num) (a : sets.SetEx) → nums.out-Num e ≡ nums.Num-F.Size a → num_value m s e given ≡ ((set_value m s a).1 given >>= λ members. Ok (pos (length members)))
  size_is e a p = rw (nums.fold_out-Num ArgValue CondValue NumValue SetValue arg_step (cond_step m s) (num_step m s) (set_step m s) e, p) refl

  pub sum_is : (e : nums.Num) (t : ℕ) (terms : List args.Arg) → nums.out-Num e ≡ nums.Num-F.Sum t terms
      → num_value m s e given ≡ (in_turn (λ (a : ArgValue). a given) (map (args.fold-Arg ArgValue CondValue NumValue SetValue arg_step (cond_step m s) (num_step m s) (set_step m s)) terms) >>= λ xs. choices_of (table_counts m t) xs >>= λ choices. ranged (total_of m t (ways choices)))
  sum_is e t terms p = rw (nums.fold_out-Num ArgValue CondValue NumValue SetValue arg_step (cond_step m s) (num_step m s) (set_step m s) e, p) refl

  pub op_is : (e : nums.Num) (op : NumOp) (a b : nums.Num) → nums.out-Num e ≡ nums.Num-F.Num::Op op a b → num_value m s e given ≡ (num_value m s a given >>= λ x. num_value m s b given >>= λ y. operate op x y)
  op_is e op a b p = rw (nums.fold_out-Num ArgValue CondValue NumValue SetValue arg_step (cond_step m s) (num_step m s) (set_step m s) e, p) refl

  pub if_is : (e : nums.Num) (c : conds.Cond) (a b : nums.Num) → nums.out-Num e ≡ nums.Num-F.Num::If c a b → num_value m s e given ≡ (cond_value m s c given >>= λ held. if held then num_value m s a given else num_value m s b given)
  if_is e c a b p = rw (nums.fold_out-Num ArgValue CondValue NumValue SetValue arg_step (cond_step m s) (num_step m s) (set_step m s) e, p) refl

-- both operands have values
pub two_ok : {A B C : Type 0} (r : Result A FaultKind) (q : Result B FaultKind) (f : A → B → Result C FaultKind) (x : A) (y : B) → r ≡ Ok x → q ≡ Ok y → (r >>= λ a. q >>= λ b. f a b) ≡ f x y
two_ok {A = A} {B = B} r q f x y e d = ap₂ (λ (u : Result A FaultKind) (v : Result B FaultKind). u >>= λ a. v >>= λ b. f a b) e d

-- ---- the ends of an expression, by its outermost form

-- these are the cells of a table
abbrev AreCells : Model → ℕ → List ℤ → Type 0
AreCells m t xs = (at : ℕ) → number_cell (cells_of m t) at ≡ unwrap_or (slice_get xs at) (pos 0)

-- none lies below, or above
abbrev AreFrom : List ℤ → ℤ → Type 0
AreFrom xs low = (at : ℕ) → low ≤ℤ unwrap_or (slice_get xs at) (pos 0)

abbrev AreTo : List ℤ → ℤ → Type 0
AreTo xs high = (at : ℕ) → unwrap_or (slice_get xs at) (pos 0) ≤ℤ high

cell_at : (m : Model) (s : PlainState) (given : List ℕ) (e : nums.Num) (t : ℕ) (ns : List nums.Num) (z : ℤ) → nums.out-Num e ≡ nums.Num-F.Num::Cell t ns → num_value m s e given ≡ Ok z → (at : ℕ) × (z ≡ number_cell (cells_of m t) at)
cell_at m s given e t ns z form h =
    let zs = bound (in_turn (λ (n : NumValue). n given) (map (num_value m s) ns)) (λ zs. members_of (table_counts m t) zs >>= λ members. Ok (number_cell (cells_of m t) (place_in m t members))) z (sym (cell_is m s given e t ns form) ∙ h) in
    let members = bound (members_of (table_counts m t) zs.0) (λ members. Ok (number_cell (cells_of m t) (place_in m t members))) z zs.2 in
    (place_in m t members.0, sym (ok_same (number_cell (cells_of m t) (place_in m t members.0)) z members.2))

pub low_cell : (m : Model) (e : nums.Num) (t : ℕ) (ns : List nums.Num) (xs : List ℤ) (low : ℤ) → nums.out-Num e ≡ nums.Num-F.Num::Cell t ns → AreCells m t xs → AreFrom xs low → IsLow m e low
low_cell m e t ns xs low form are from s given z h = let at = cell_at m s given e t ns z form h in subst (λ (x : ℤ). low ≤ℤ x) (sym (at.1 ∙ are at.0)) (from at.0)

pub high_cell : (m : Model) (e : nums.Num) (t : ℕ) (ns : List nums.Num) (xs : List ℤ) (high : ℤ) → nums.out-Num e ≡ nums.Num-F.Num::Cell t ns → AreCells m t xs → AreTo xs high → IsHigh m e high
high_cell m e t ns xs high form are to s given z h = let at = cell_at m s given e t ns z form h in subst (λ (x : ℤ). x ≤ℤ high) (sym (at.1 ∙ are at.0)) (to at.0)

pub low_size : (m : Model) (e : nums.Num) (a : sets.SetEx) → nums.out-Num e ≡ nums.Num-F.Size a → IsLow m e (pos 0)
low_size m e a form s given z h =
    let xs = bound ((set_value m s a).1 given) (λ members. Ok (pos (length members))) z (sym (size_is m s given e a form) ∙ h) in
    subst (λ (x : ℤ). pos 0 ≤ℤ x) (ok_same (pos (length xs.0)) z xs.2) (omega (arith, ints))

-- a sum of cells that is in range
total_at : (m : Model) (s : PlainState) (given : List ℕ) (e : nums.Num) (t : ℕ) (terms : List args.Arg) (z : ℤ) → nums.out-Num e ≡ nums.Num-F.Sum t terms → num_value m s e given ≡ Ok z → (rows : List (List ℕ)) × (ranged (total_of m t rows) ≡ Ok z)
total_at m s given e t terms z form h =
    let xs = bound (in_turn (λ (a : ArgValue). a given) (map (args.fold-Arg ArgValue CondValue NumValue SetValue arg_step (cond_step m s) (num_step m s) (set_step m s)) terms)) (λ xs. choices_of (table_counts m t) xs >>= λ choices. ranged (total_of m t (ways choices))) z (sym (sum_is m s given e t terms form) ∙ h) in
    let choices = bound (choices_of (table_counts m t) xs.0) (λ choices. ranged (total_of m t (ways choices))) z xs.2 in
    (ways choices.0, choices.2)

sum_from : (a b : ℤ) → pos 0 ≤ℤ a → pos 0 ≤ℤ b → pos 0 ≤ℤ (a +ℤ b)
sum_from a b h k = omega (arith, ints, h, k)

total_from : (m : Model) (t : ℕ) (xs : List ℤ) → AreCells m t xs → AreFrom xs (pos 0) → (rows : List (List ℕ)) → pos 0 ≤ℤ total_of m t rows
total_from m t xs are from [] = no_greater (pos 0)
total_from m t xs are from (row ∷ rows) =
    sum_from (number_cell (cells_of m t) (place_in m t row)) (total_of m t rows) (subst (λ (x : ℤ). pos 0 ≤ℤ x) (sym (are (place_in m t row))) (from (place_in m t row))) (total_from m t xs are from rows)

pub ranged_total : (e : nums.Num) (t : ℕ) (terms : List args.Arg) → nums.out-Num e ≡ nums.Num-F.Sum t terms → IsRanged e
ranged_total e t terms form m s given z h = let rows = total_at m s given e t terms z form h in ranged_ends (total_of m t rows.0) z rows.1

-- a sum is at least the least number, and at least 0 where no cell is negative
pub low_sum_of : (m : Model) (e : nums.Num) (t : ℕ) (terms : List args.Arg) (xs : List ℤ) (low : ℤ) → nums.out-Num e ≡ nums.Num-F.Sum t terms → AreCells m t xs → (low ≡ neg_ℤ greatest) ⊎ ((low ≡ pos 0) × AreFrom xs (pos 0)) → IsLow m e low
low_sum_of m e t terms xs low form are (inl is) s given z h = subst (λ (x : ℤ). x ≤ℤ z) (sym is) (ranged_total e t terms form m s given z h).0
low_sum_of m e t terms xs low form are (inr is) s given z h =
    let rows = total_at m s given e t terms z form h in
    let same = (ranged_value (total_of m t rows.0) z rows.1).1 in
    subst (λ (x : ℤ). x ≤ℤ z) (sym is.0) (subst (λ (x : ℤ). pos 0 ≤ℤ x) (sym same) (total_from m t xs are is.1 rows.0))

unless_zero : (c : Bool) (r : Result ℤ FaultKind) (z : ℤ) → (if c then Err ZeroDivisor else r) ≡ Ok z → r ≡ Ok z
unless_zero true r z h = absurd (cc)
unless_zero false r z h = h

operated_ends : (op : NumOp) (a b z : ℤ) → is_tested op ≡ true → operate op a b ≡ Ok z → AtEnds z
operated_ends number_operations.Plus a b z t h = ranged_ends (a +ℤ b) z h
operated_ends number_operations.Minus a b z t h = ranged_ends (a -ℤ b) z h
operated_ends number_operations.Times a b z t h = ranged_ends (a *ℤ b) z h
operated_ends number_operations.Over a b z t h = ranged_ends (int_div a b) z (unless_zero (int_eq b (pos 0)) (ranged (int_div a b)) z h)
operated_ends number_operations.Rest a b z t h = ranged_ends (int_rem a b) z (unless_zero (int_eq b (pos 0)) (ranged (int_rem a b)) z h)
operated_ends number_operations.Most a b z t h = absurd (cc)
operated_ends number_operations.Least a b z t h = absurd (cc)

pub ranged_result : (e : nums.Num) (op : NumOp) (a b : nums.Num) → nums.out-Num e ≡ nums.Num-F.Num::Op op a b → is_tested op ≡ true → IsRanged e
ranged_result e op a b form t m s given z h =
    let x = bound (num_value m s a given) (λ x. num_value m s b given >>= λ y. operate op x y) z (sym (op_is m s given e op a b form) ∙ h) in
    let y = bound (num_value m s b given) (λ y. operate op x.0 y) z x.2 in
    operated_ends op x.0 y.0 z t y.2

-- ---- the ends of a variable

low_on : (p : Preference) (end z : ℤ) → p ≡ Less → IsOnSide p end z → end ≤ℤ z
low_on Less end z e h = h
low_on Without end z e h = absurd (cc)
low_on Greater end z e h = absurd (cc)

high_on : (p : Preference) (end z : ℤ) → p ≡ Greater → IsOnSide p end z → z ≤ℤ end
high_on Greater end z e h = h
high_on Without end z e h = absurd (cc)
high_on Less end z e h = absurd (cc)

-- ---- the same value in both states

module _ (m : Model) (kept : List Bool) (ends : List ℤ) where
  pub same_agree : (s other : PlainState) → IsPair m kept ends s other → (v : ℕ) → is_kept kept v ≡ false → slice_get s.values v ≡ slice_get other.values v
  same_agree s other p = agreeing kept m.variables s.values other.values p.better

  pub falls_same : (e : nums.Num) (low : ℤ) → leaves_num kept e ≡ true → IsLow m e low → Falls m kept ends e low
  falls_same e low leaves lowest s other p given z' h =
      let here : num_value m s e given ≡ Ok z' = num_same m kept s other (same_agree s other p) e leaves given ∙ h in
      (z', here, no_greater z', lowest s given z' here)

  pub rises_same : (e : nums.Num) (high : ℤ) → leaves_num kept e ≡ true → IsHigh m e high → Rises m kept ends e high
  rises_same e high leaves most s other p given z' h =
      let here : num_value m s e given ≡ Ok z' = num_same m kept s other (same_agree s other p) e leaves given ∙ h in
      (z', here, no_greater z', most s given z' here)

  pub no_greater_same : (e : nums.Num) → leaves_num kept e ≡ true → IsNoGreater m kept ends e
  no_greater_same e leaves s other p given z' h = (z', num_same m kept s other (same_agree s other p) e leaves given ∙ h, no_greater z')

  pub no_less_same : (e : nums.Num) → leaves_num kept e ≡ true → IsNoLess m kept ends e
  no_less_same e leaves s other p given z' h = (z', num_same m kept s other (same_agree s other p) e leaves given ∙ h, no_greater z')

  pub no_greater_falls : (e : nums.Num) (low : ℤ) → Falls m kept ends e low → IsNoGreater m kept ends e
  no_greater_falls e low f s other p given z' h = let x = f s other p given z' h in (x.0, x.1, x.2)

  pub no_less_rises : (e : nums.Num) (high : ℤ) → Rises m kept ends e high → IsNoLess m kept ends e
  no_less_rises e high r s other p given z' h = let x = r s other p given z' h in (x.0, x.1, x.2)

  -- ---- forms without parts that change

  pub falls_fixed : (e : nums.Num) (n : ℤ) → nums.out-Num e ≡ nums.Num-F.Num::Fixed n → Falls m kept ends e n
  falls_fixed e n form s other p given z' h =
      let same : n ≡ z' = ok_same n z' (sym (fixed_is m other given e n form) ∙ h) in
      (n, fixed_is m s given e n form, subst (λ (z : ℤ). n ≤ℤ z) same (no_greater n), no_greater n)

  pub rises_fixed : (e : nums.Num) (n : ℤ) → nums.out-Num e ≡ nums.Num-F.Num::Fixed n → Rises m kept ends e n
  rises_fixed e n form s other p given z' h =
      let same : n ≡ z' = ok_same n z' (sym (fixed_is m other given e n form) ∙ h) in
      (n, fixed_is m s given e n form, subst (λ (z : ℤ). z ≤ℤ n) same (no_greater n), no_greater n)

  pub falls_param : (e : nums.Num) (k : ℕ) → nums.out-Num e ≡ nums.Num-F.Param k → Falls m kept ends e (pos 0)
  falls_param e k form s other p given z' h =
      let same : pos (slice_index given k) ≡ z' = ok_same (pos (slice_index given k)) z' (sym (param_is m other given e k form) ∙ h) in
      (pos (slice_index given k), param_is m s given e k form, subst (λ (z : ℤ). pos (slice_index given k) ≤ℤ z) same (no_greater (pos (slice_index given k))), omega (arith, ints))

  pub not_kept_less : (v : ℕ) → is_kept kept v ≡ false → HoldsNoMore m kept ends v
  not_kept_less v free s other p = subst (λ (x : Option PlainValue). number_held (slice_get s.values v) ≤ℤ number_held x) (same_agree s other p v free) (no_greater (number_in s v))

  pub not_kept_greater : (v : ℕ) → is_kept kept v ≡ false → HoldsNoLess m kept ends v
  not_kept_greater v free s other p = subst (λ (x : Option PlainValue). number_held x ≤ℤ number_held (slice_get s.values v)) (same_agree s other p v free) (no_greater (number_in s v))

  pub less_held : (v : ℕ) (x : Variable) → slice_get m.variables v ≡ Some x → x.preference ≡ Less → HoldsNoMore m kept ends v
  less_held v x at e s other p = held_less kept m.variables s.values other.values p.better v x at e

  pub greater_held : (v : ℕ) (x : Variable) → slice_get m.variables v ≡ Some x → x.preference ≡ Greater → HoldsNoLess m kept ends v
  greater_held v x at e s other p = held_greater kept m.variables s.values other.values p.better v x at e

  pub low_any : (v : ℕ) → IsLowEnd m kept ends v (neg_ℤ greatest)
  low_any v s state within = (held_ends m.objects m.variables s.values state v).0

  pub high_any : (v : ℕ) → IsHighEnd m kept ends v greatest
  high_any v s state within = (held_ends m.objects m.variables s.values state v).1

  pub low_kept : (v : ℕ) (x : Variable) (end : ℤ) → slice_get m.variables v ≡ Some x → x.preference ≡ Less → is_kept kept v ≡ true → slice_get ends v ≡ Some end → IsLowEnd m kept ends v end
  low_kept v x end at less keeps has s state within = low_on x.preference end (number_in s v) less (within v x end at keeps has)

  pub high_kept : (v : ℕ) (x : Variable) (end : ℤ) → slice_get m.variables v ≡ Some x → x.preference ≡ Greater → is_kept kept v ≡ true → slice_get ends v ≡ Some end → IsHighEnd m kept ends v end
  high_kept v x end at more keeps has s state within = high_on x.preference end (number_in s v) more (within v x end at keeps has)

  pub falls_var : (e : nums.Num) (v : ℕ) (low : ℤ) → nums.out-Num e ≡ nums.Num-F.Num::Var v → HoldsNoMore m kept ends v → IsLowEnd m kept ends v low → Falls m kept ends e low
  falls_var e v low form less below s other p given z' h =
      let same : number_in other v ≡ z' = ok_same (number_in other v) z' (sym (var_is m other given e v form) ∙ h) in
      (number_in s v, var_is m s given e v form, subst (λ (z : ℤ). number_in s v ≤ℤ z) same (less s other p), below s p.state p.within)

  pub rises_var : (e : nums.Num) (v : ℕ) (high : ℤ) → nums.out-Num e ≡ nums.Num-F.Num::Var v → HoldsNoLess m kept ends v → IsHighEnd m kept ends v high → Rises m kept ends e high
  rises_var e v high form more above s other p given z' h =
      let same : number_in other v ≡ z' = ok_same (number_in other v) z' (sym (var_is m other given e v form) ∙ h) in
      (number_in s v, var_is m s given e v form, subst (λ (z : ℤ). z ≤ℤ number_in s v) same (more s other p), above s p.state p.within)

  -- ---- operations

  -- the operands in a state, and what they make
  parts : (s : PlainState) (given : List ℕ) (op : NumOp) (a b : nums.Num) (z : ℤ) → operated m s op a b given ≡ Ok z → (x y : ℤ) × (num_value m s a given ≡ Ok x) × (num_value m s b given ≡ Ok y) × (operate op x y ≡ Ok z)
  parts s given op a b z h =
      let x = bound (num_value m s a given) (λ x. num_value m s b given >>= λ y. operate op x y) z h in
      let y = bound (num_value m s b given) (λ y. operate op x.0 y) z x.2 in
      (x.0, y.0, x.1, y.1, y.2)

  made : (s : PlainState) (given : List ℕ) (op : NumOp) (a b : nums.Num) (x y z : ℤ) → num_value m s a given ≡ Ok x → num_value m s b given ≡ Ok y → operate op x y ≡ Ok z → operated m s op a b given ≡ Ok z
  made s given op a b x y z left right h = two_ok (num_value m s a given) (num_value m s b given) (operate op) x y left right ∙ h

  pub falls_op : (e : nums.Num) (op : NumOp) (a b : nums.Num) (low : ℤ) → nums.out-Num e ≡ nums.Num-F.Num::Op op a b → FallsBy m kept ends op a b low → Falls m kept ends e low
  falls_op e op a b low form by s other p given z' h =
      let there = by s other p given z' (sym (op_is m other given e op a b form) ∙ h) in
      (there.0, op_is m s given e op a b form ∙ there.1, there.2, there.3)

  pub rises_op : (e : nums.Num) (op : NumOp) (a b : nums.Num) (high : ℤ) → nums.out-Num e ≡ nums.Num-F.Num::Op op a b → RisesBy m kept ends op a b high → Rises m kept ends e high
  rises_op e op a b high form by s other p given z' h =
      let there = by s other p given z' (sym (op_is m other given e op a b form) ∙ h) in
      (there.0, op_is m s given e op a b form ∙ there.1, there.2, there.3)

  pub falls_plus : (a b : nums.Num) (la lb low : ℤ) → Falls m kept ends a la → Falls m kept ends b lb → low ≡ la +ℤ lb → neg_ℤ greatest ≤ℤ low → FallsBy m kept ends number_operations.Plus a b low
  falls_plus a b la lb low fa fb is least s other p given z' h =
      let there = parts other given number_operations.Plus a b z' h in
      let x = fa s other p given there.0 there.2 in
      let y = fb s other p given there.1 there.3 in
      let sum = ranged_value (there.0 +ℤ there.1) z' there.4 in
      let high : (x.0 +ℤ y.0) ≤ℤ z' = omega (arith, ints, x.2, y.2, sum.1) in
      let from : low ≤ℤ (x.0 +ℤ y.0) = omega (arith, ints, x.3, y.3, is) in
      let range : InRange (x.0 +ℤ y.0) = (omega (arith, ints, from, least), omega (arith, ints, high, sum.0.1, sum.1)) in
      (x.0 +ℤ y.0, made s given number_operations.Plus a b x.0 y.0 (x.0 +ℤ y.0) x.1 y.1 (value_ranged (x.0 +ℤ y.0) range), high, from)

  pub falls_minus : (a b : nums.Num) (la hb low : ℤ) → Falls m kept ends a la → Rises m kept ends b hb → low ≡ la -ℤ hb → neg_ℤ greatest ≤ℤ low → FallsBy m kept ends number_operations.Minus a b low
  falls_minus a b la hb low fa rb is least s other p given z' h =
      let there = parts other given number_operations.Minus a b z' h in
      let x = fa s other p given there.0 there.2 in
      let y = rb s other p given there.1 there.3 in
      let sum = ranged_value (there.0 -ℤ there.1) z' there.4 in
      let high : (x.0 -ℤ y.0) ≤ℤ z' = omega (arith, ints, x.2, y.2, sum.1) in
      let from : low ≤ℤ (x.0 -ℤ y.0) = omega (arith, ints, x.3, y.3, is) in
      let range : InRange (x.0 -ℤ y.0) = (omega (arith, ints, from, least), omega (arith, ints, high, sum.0.1, sum.1)) in
      (x.0 -ℤ y.0, made s given number_operations.Minus a b x.0 y.0 (x.0 -ℤ y.0) x.1 y.1 (value_ranged (x.0 -ℤ y.0) range), high, from)

  pub rises_plus : (a b : nums.Num) (ha hb high : ℤ) → Rises m kept ends a ha → Rises m kept ends b hb → high ≡ ha +ℤ hb → high ≤ℤ greatest → RisesBy m kept ends number_operations.Plus a b high
  rises_plus a b ha hb high ra rb is most s other p given z' h =
      let there = parts other given number_operations.Plus a b z' h in
      let x = ra s other p given there.0 there.2 in
      let y = rb s other p given there.1 there.3 in
      let sum = ranged_value (there.0 +ℤ there.1) z' there.4 in
      let from : z' ≤ℤ (x.0 +ℤ y.0) = omega (arith, ints, x.2, y.2, sum.1) in
      let to : (x.0 +ℤ y.0) ≤ℤ high = omega (arith, ints, x.3, y.3, is) in
      let range : InRange (x.0 +ℤ y.0) = (omega (arith, ints, from, sum.0.0, sum.1), omega (arith, ints, to, most)) in
      (x.0 +ℤ y.0, made s given number_operations.Plus a b x.0 y.0 (x.0 +ℤ y.0) x.1 y.1 (value_ranged (x.0 +ℤ y.0) range), from, to)

  pub rises_minus : (a b : nums.Num) (ha lb high : ℤ) → Rises m kept ends a ha → Falls m kept ends b lb → high ≡ ha -ℤ lb → high ≤ℤ greatest → RisesBy m kept ends number_operations.Minus a b high
  rises_minus a b ha lb high ra fb is most s other p given z' h =
      let there = parts other given number_operations.Minus a b z' h in
      let x = ra s other p given there.0 there.2 in
      let y = fb s other p given there.1 there.3 in
      let sum = ranged_value (there.0 -ℤ there.1) z' there.4 in
      let from : z' ≤ℤ (x.0 -ℤ y.0) = omega (arith, ints, x.2, y.2, sum.1) in
      let to : (x.0 -ℤ y.0) ≤ℤ high = omega (arith, ints, x.3, y.3, is) in
      let range : InRange (x.0 -ℤ y.0) = (omega (arith, ints, from, sum.0.0, sum.1), omega (arith, ints, to, most)) in
      (x.0 -ℤ y.0, made s given number_operations.Minus a b x.0 y.0 (x.0 -ℤ y.0) x.1 y.1 (value_ranged (x.0 -ℤ y.0) range), from, to)

  pub falls_times : (a b : nums.Num) (la lb : ℤ) → Falls m kept ends a la → Falls m kept ends b lb → pos 0 ≤ℤ la → pos 0 ≤ℤ lb → FallsBy m kept ends number_operations.Times a b (pos 0)
  falls_times a b la lb fa fb ha hb s other p given z' h =
      let there = parts other given number_operations.Times a b z' h in
      let x = fa s other p given there.0 there.2 in
      let y = fb s other p given there.1 there.3 in
      let product = ranged_value (there.0 *ℤ there.1) z' there.4 in
      let left : pos 0 ≤ℤ x.0 = le_trans (pos 0) la x.0 ha x.3 in
      let right : pos 0 ≤ℤ y.0 = le_trans (pos 0) lb y.0 hb y.3 in
      let from : pos 0 ≤ℤ (x.0 *ℤ y.0) = product_from x.0 y.0 left right in
      let up : (x.0 *ℤ y.0) ≤ℤ (there.0 *ℤ there.1) = product_up x.0 y.0 there.0 there.1 left right x.2 y.2 in
      let range : InRange (x.0 *ℤ y.0) = (le_trans (neg_ℤ greatest) (pos 0) (x.0 *ℤ y.0) least_below from, le_trans (x.0 *ℤ y.0) (there.0 *ℤ there.1) greatest up product.0.1) in
      (x.0 *ℤ y.0, made s given number_operations.Times a b x.0 y.0 (x.0 *ℤ y.0) x.1 y.1 (value_ranged (x.0 *ℤ y.0) range), subst (λ (z : ℤ). (x.0 *ℤ y.0) ≤ℤ z) (sym product.1) up, from)

  -- the first factor is the same in both states, and not negative
  pub rises_times : (a b : nums.Num) (la ha hb high : ℤ) → leaves_num kept a ≡ true → Falls m kept ends a la → Rises m kept ends a ha → Rises m kept ends b hb → high ≡ ha *ℤ hb → high ≤ℤ greatest → pos 0 ≤ℤ la → pos 0 ≤ℤ hb
      → RisesBy m kept ends number_operations.Times a b high
  rises_times a b la ha hb high leaves fa ra rb is most low end s other p given z' h =
      let there = parts other given number_operations.Times a b z' h in
      let same : num_value m s a given ≡ Ok there.0 = num_same m kept s other (same_agree s other p) a leaves given ∙ there.2 in
      let x = fa s other p given there.0 there.2 in
      let top = ra s other p given there.0 there.2 in
      let y = rb s other p given there.1 there.3 in
      let product = ranged_value (there.0 *ℤ there.1) z' there.4 in
      let left : pos 0 ≤ℤ there.0 = le_trans (pos 0) x.0 there.0 (le_trans (pos 0) la x.0 low x.3) x.2 in
      let up : (there.0 *ℤ there.1) ≤ℤ (there.0 *ℤ y.0) = times_up there.0 there.1 y.0 left y.2 in
      let to : (there.0 *ℤ y.0) ≤ℤ high =
      subst (λ (z : ℤ). (there.0 *ℤ y.0) ≤ℤ z) (sym is)
      (le_trans (there.0 *ℤ y.0) (there.0 *ℤ hb) (ha *ℤ hb) (times_up there.0 y.0 hb left y.3) (up_times there.0 ha hb end (le_trans there.0 top.0 ha top.2 top.3))) in
      let range : InRange (there.0 *ℤ y.0) = (le_trans (neg_ℤ greatest) (there.0 *ℤ there.1) (there.0 *ℤ y.0) product.0.0 up, le_trans (there.0 *ℤ y.0) high greatest to most) in
      (there.0 *ℤ y.0, made s given number_operations.Times a b there.0 y.0 (there.0 *ℤ y.0) same y.1 (value_ranged (there.0 *ℤ y.0) range), subst (λ (z : ℤ). z ≤ℤ (there.0 *ℤ y.0)) (sym product.1) up, to)

  -- the factors may be turned
  pub rises_turned : (a b : nums.Num) (high : ℤ) → RisesBy m kept ends number_operations.Times b a high → RisesBy m kept ends number_operations.Times a b high
  rises_turned a b high by s other p given z' h =
      let there = parts other given number_operations.Times a b z' h in
      let x = by s other p given z' (made other given number_operations.Times b a there.1 there.0 z' there.3 there.2 (turned there.1 there.0 ∙ there.4)) in
      let here = parts s given number_operations.Times b a x.0 x.1 in
      (x.0, made s given number_operations.Times a b here.1 here.0 x.0 here.3 here.2 (turned here.1 here.0 ∙ here.4), x.2, x.3)

  pub falls_most : (a b : nums.Num) (la lb : ℤ) → Falls m kept ends a la → Falls m kept ends b lb → FallsBy m kept ends number_operations.Most a b (int_max la lb)
  falls_most a b la lb fa fb s other p given z' h =
      let there = parts other given number_operations.Most a b z' h in
      let x = fa s other p given there.0 there.2 in
      let y = fb s other p given there.1 there.3 in
      let is : int_max there.0 there.1 ≡ z' = ok_same (int_max there.0 there.1) z' there.4 in
      (int_max x.0 y.0, made s given number_operations.Most a b x.0 y.0 (int_max x.0 y.0) x.1 y.1 refl, omega (arith, ints, clamps, x.2, y.2, is), omega (arith, ints, clamps, x.3, y.3))

  pub falls_least : (a b : nums.Num) (la lb : ℤ) → Falls m kept ends a la → Falls m kept ends b lb → FallsBy m kept ends number_operations.Least a b (int_min la lb)
  falls_least a b la lb fa fb s other p given z' h =
      let there = parts other given number_operations.Least a b z' h in
      let x = fa s other p given there.0 there.2 in
      let y = fb s other p given there.1 there.3 in
      let is : int_min there.0 there.1 ≡ z' = ok_same (int_min there.0 there.1) z' there.4 in
      (int_min x.0 y.0, made s given number_operations.Least a b x.0 y.0 (int_min x.0 y.0) x.1 y.1 refl, omega (arith, ints, clamps, x.2, y.2, is), omega (arith, ints, clamps, x.3, y.3))

  pub rises_most : (a b : nums.Num) (ha hb : ℤ) → Rises m kept ends a ha → Rises m kept ends b hb → RisesBy m kept ends number_operations.Most a b (int_max ha hb)
  rises_most a b ha hb ra rb s other p given z' h =
      let there = parts other given number_operations.Most a b z' h in
      let x = ra s other p given there.0 there.2 in
      let y = rb s other p given there.1 there.3 in
      let is : int_max there.0 there.1 ≡ z' = ok_same (int_max there.0 there.1) z' there.4 in
      (int_max x.0 y.0, made s given number_operations.Most a b x.0 y.0 (int_max x.0 y.0) x.1 y.1 refl, omega (arith, ints, clamps, x.2, y.2, is), omega (arith, ints, clamps, x.3, y.3))

  pub rises_least : (a b : nums.Num) (ha hb : ℤ) → Rises m kept ends a ha → Rises m kept ends b hb → RisesBy m kept ends number_operations.Least a b (int_min ha hb)
  rises_least a b ha hb ra rb s other p given z' h =
      let there = parts other given number_operations.Least a b z' h in
      let x = ra s other p given there.0 there.2 in
      let y = rb s other p given there.1 there.3 in
      let is : int_min there.0 there.1 ≡ z' = ok_same (int_min there.0 there.1) z' there.4 in
      (int_min x.0 y.0, made s given number_operations.Least a b x.0 y.0 (int_min x.0 y.0) x.1 y.1 refl, omega (arith, ints, clamps, x.2, y.2, is), omega (arith, ints, clamps, x.3, y.3))

  -- ---- choices

  -- the side that is chosen, by a condition that is the same in both states
  chosen : (s : PlainState) (given : List ℕ) (e : nums.Num) (c : conds.Cond) (a b : nums.Num) (z : ℤ) → nums.out-Num e ≡ nums.Num-F.Num::If c a b → num_value m s e given ≡ Ok z → (held : Bool) × (cond_value m s c given ≡ Ok held) × ((if held then num_value m s a given else num_value m s b given) ≡ Ok z)
  chosen s given e c a b z form h = bound (cond_value m s c given) (λ held. if held then num_value m s a given else num_value m s b given) z (sym (if_is m s given e c a b form) ∙ h)

  chosen_back : (s : PlainState) (given : List ℕ) (e : nums.Num) (c : conds.Cond) (a b : nums.Num) (held : Bool) (z : ℤ) → nums.out-Num e ≡ nums.Num-F.Num::If c a b → cond_value m s c given ≡ Ok held → (if held then num_value m s a given else num_value m s b given) ≡ Ok z → num_value m s e given ≡ Ok z
  chosen_back s given e c a b held z form is h = if_is m s given e c a b form ∙ (ap (λ (r : Result Bool FaultKind). r >>= λ held. if held then num_value m s a given else num_value m s b given) is ∙ h)

  falls_side : (s other : PlainState) (given : List ℕ) (a b : nums.Num) (la lb z' : ℤ) (held : Bool) → IsPair m kept ends s other → Falls m kept ends a la → Falls m kept ends b lb → (if held then num_value m other a given else num_value m other b given) ≡ Ok z'
      → (z : ℤ) × ((if held then num_value m s a given else num_value m s b given) ≡ Ok z) × (z ≤ℤ z') × (int_min la lb ≤ℤ z)
  falls_side s other given a b la lb z' true p fa fb h = let x = fa s other p given z' h in (x.0, x.1, x.2, omega (arith, ints, clamps, x.3))
  falls_side s other given a b la lb z' false p fa fb h = let x = fb s other p given z' h in (x.0, x.1, x.2, omega (arith, ints, clamps, x.3))

  rises_side : (s other : PlainState) (given : List ℕ) (a b : nums.Num) (ha hb z' : ℤ) (held : Bool) → IsPair m kept ends s other → Rises m kept ends a ha → Rises m kept ends b hb → (if held then num_value m other a given else num_value m other b given) ≡ Ok z'
      → (z : ℤ) × ((if held then num_value m s a given else num_value m s b given) ≡ Ok z) × (z' ≤ℤ z) × (z ≤ℤ int_max ha hb)
  rises_side s other given a b ha hb z' true p ra rb h = let x = ra s other p given z' h in (x.0, x.1, x.2, omega (arith, ints, clamps, x.3))
  rises_side s other given a b ha hb z' false p ra rb h = let x = rb s other p given z' h in (x.0, x.1, x.2, omega (arith, ints, clamps, x.3))

  pub falls_if : (e : nums.Num) (c : conds.Cond) (a b : nums.Num) (la lb : ℤ) → nums.out-Num e ≡ nums.Num-F.Num::If c a b → leaves_cond kept c ≡ true → Falls m kept ends a la → Falls m kept ends b lb → Falls m kept ends e (int_min la lb)
  falls_if e c a b la lb form leaves fa fb s other p given z' h =
      let there = chosen other given e c a b z' form h in
      let here = cond_same m kept s other (same_agree s other p) c leaves given ∙ there.1 in
      let x = falls_side s other given a b la lb z' there.0 p fa fb there.2 in
      (x.0, chosen_back s given e c a b there.0 x.0 form here x.1, x.2, x.3)

  pub rises_if : (e : nums.Num) (c : conds.Cond) (a b : nums.Num) (ha hb : ℤ) → nums.out-Num e ≡ nums.Num-F.Num::If c a b → leaves_cond kept c ≡ true → Rises m kept ends a ha → Rises m kept ends b hb → Rises m kept ends e (int_max ha hb)
  rises_if e c a b ha hb form leaves ra rb s other p given z' h =
      let there = chosen other given e c a b z' form h in
      let here = cond_same m kept s other (same_agree s other p) c leaves given ∙ there.1 in
      let x = rises_side s other given a b ha hb z' there.0 p ra rb there.2 in
      (x.0, chosen_back s given e c a b there.0 x.0 form here x.1, x.2, x.3)
