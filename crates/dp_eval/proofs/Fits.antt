-- Well-typed expressions have values that fit, by induction over the trees.
use Rattle.std.proofs.Common.{◌≡◌, ℕ, suc, ◌⊎◌, inl, inr, ◌≤◌, Bool, true, false, not, ◌&&◌, ◌||◌, cond, if◌then◌else◌, List, [], ◌∷◌, length, map, slice_get, slice_index, Option, Some, None, option_and_then, Result, Ok, Err, IfOk, ℤ, pos, refl, sym, ap, ◌∙◌, subst, arith, eqb, int_div, int_rem, ◌+ℤ◌, ◌-ℤ◌, ◌*ℤ◌, IsTrue}
use Rattle.std.specs.Prelude.{unwrap_or}
use Rattle.std.specs.Ordering.{int_eq}
use Rattle.std.proofs.lemmas.Bool.{and_parts, and_from, eqb-true, ltb-true}
use Rattle.dp_base.specs.Results.{◌>>=◌, in_turn}
use Rattle.dp_model.specs.Costs.{InRange, ranged}
use Rattle.dp_model.specs.Typing.{type_count, kind_at, kind_object, is_number_kind, is_set_kind, cells_at, sets_object, is_num, is_set, is_cond, both_sets, args_typed, is_in_range, is_set_below, is_state, ArgTest, CondTest, NumTest, SetTest, arg_typed, cond_typed, num_typed, set_typed}
use Rattle.dp_model.specs.Evaluation.{operate, has, member_of, members_of, choices_of, ways, total_of, count_of, table_counts, cells_of, place_in, number_cell, set_cell, members_where, set_operation, object_of_kind, number_held, set_held, cells_object, num_value, set_value, cond_value, ArgValue, CondValue, NumValue, SetValue, arg_step, cond_step, num_step, set_step}
use Rattle.dp_model.specs.declared.answers.FaultKind.{FaultKind}
use Rattle.dp_model.specs.declared.answers.FaultKind.TheVariants.{Range, ZeroDivisor}
use Rattle.dp_model.specs.declared.trees.NumOp.{NumOp}
use Rattle.dp_model.specs.declared.trees.NumOp.TheVariants as number_operations
use Rattle.dp_model.specs.declared.trees.SetOp.{SetOp}
use Rattle.dp_model.specs.declared.trees.SetOp.TheVariants.{Union, Intersection, Difference}
use Rattle.dp_model.specs.declared.trees.Arg as args
use Rattle.dp_model.specs.declared.trees.Num as nums
use Rattle.dp_model.specs.declared.trees.SetEx as sets
use Rattle.dp_model.specs.declared.trees.Cond as conds
use Rattle.dp_model.specs.declared.parts.Variable.{Variable}
use Rattle.dp_model.specs.declared.parts.VarKind.{VarKind}
use Rattle.dp_model.specs.declared.parts.VarKind.TheVariants as kinds
use Rattle.dp_model.specs.declared.parts.Cells.{Cells}
use Rattle.dp_model.specs.declared.parts.Cells.TheVariants as cells
use Rattle.dp_model.specs.declared.parts.TableData.{TableData}
use Rattle.dp_model.specs.declared.parts.PlainState.{PlainState}
use Rattle.dp_model.specs.declared.whole.Model.{Model}
use Rattle.dp_eval.specs.Terms.{num_values, term_values, arg_value}
use Rattle.dp_eval.specs.Fits.{are_given, is_arg, NumbersFit, SetsTyped, SetsFit}
use Rattle.dp_eval.proofs.Ascending.{all_get, ascends-length, where_below}
use Rattle.dp_eval.proofs.Held.{in_range, small_in_range, small_objects, number_held_at, set_held_at, number_cell-fits, set_cell-fits}

-- ---- steps, one after another

-- what comes after a step has a value only where the step has
pub bound : {A B : Type 0} (r : Result A FaultKind) (f : A → Result B FaultKind) (y : B) → (r >>= f) ≡ Ok y → (x : A) × (r ≡ Ok x) × (f x ≡ Ok y)
bound (Ok x) f y h = (x, refl, h)
bound (Err k) f y h = absurd (cc)

one_step : {A C : Type 0} (P : C → Type 0) (r : Result A FaultKind) (g : A → C) → ((x : A) → P (g x)) → IfOk (r >>= λ x. Ok (g x)) P
one_step P (Ok x) g h = h x
one_step P (Err k) g h = tt

two_steps : {A B C : Type 0} (P : C → Type 0) (r : Result A FaultKind) (q : Result B FaultKind) (g : A → B → C) → ((x : A) (y : B) → P (g x y)) → IfOk (r >>= λ x. q >>= λ y. Ok (g x y)) P
two_steps P (Ok x) q g h = one_step P q (g x) (h x)
two_steps P (Err k) q g h = tt

-- a member is looked for, and then a set is made with it
member_step : {A B D C : Type 0} (P : C → Type 0) (r : Result A FaultKind) (q : Result B FaultKind) (f : A → Result D FaultKind) (g : B → D → C) → ((y : B) (e : D) → P (g y e)) → IfOk (r >>= λ x. q >>= λ y. f x >>= λ e. Ok (g y e)) P
member_step P (Ok x) q f g h = two_steps P q (f x) g h
member_step P (Err k) q f g h = tt

-- arguments are evaluated and tested, and then a cell is read
cell_step : {A B C : Type 0} (P : C → Type 0) (r : Result A FaultKind) (f : A → Result B FaultKind) (g : B → C) → ((y : B) → P (g y)) → IfOk (r >>= λ x. f x >>= λ y. Ok (g y)) P
cell_step P (Ok x) f g h = one_step P (f x) g h
cell_step P (Err k) f g h = tt

either : {A : Type 0} (P : A → Type 0) (c : Result Bool FaultKind) (a b : Result A FaultKind) → IfOk a P → IfOk b P → IfOk (c >>= λ held. if held then a else b) P
either P (Ok true) a b p q = p
either P (Ok false) a b p q = q
either P (Err k) a b p q = tt

-- ---- operations

ranged_if : (n : ℤ) (b : Bool) → is_in_range n ≡ b → IfOk (cond b (Ok n) (Err Range)) InRange
ranged_if n true e = in_range n e
ranged_if n false e = tt

ranged-fits : (n : ℤ) → IfOk (ranged n) InRange
ranged-fits n = ranged_if n (is_in_range n) refl

divides : (b : Bool) (n : ℤ) → IfOk (cond b (Err ZeroDivisor) (ranged n)) InRange
divides true n = tt
divides false n = ranged-fits n

one_of : (b : Bool) (x y : ℤ) → InRange x → InRange y → InRange (cond b x y)
one_of true x y p q = p
one_of false x y p q = q

operate-fits : (op : NumOp) (x y : ℤ) → InRange x → InRange y → IfOk (operate op x y) InRange
operate-fits number_operations.Plus x y p q = ranged-fits (x +ℤ y)
operate-fits number_operations.Minus x y p q = ranged-fits (x -ℤ y)
operate-fits number_operations.Times x y p q = ranged-fits (x *ℤ y)
operate-fits number_operations.Over x y p q = divides (int_eq y (pos 0)) (int_div x y)
operate-fits number_operations.Rest x y p q = divides (int_eq y (pos 0)) (int_rem x y)
operate-fits number_operations.Most x y p q = one_of _ x y p q
operate-fits number_operations.Least x y p q = one_of _ y x q p

operate_step : (op : NumOp) (a b : Result ℤ FaultKind) → IfOk a InRange → IfOk b InRange → IfOk (a >>= λ x. b >>= λ y. operate op x y) InRange
operate_step op (Ok x) (Ok y) p q = operate-fits op x y p q
operate_step op (Ok x) (Err k) p q = tt
operate_step op (Err k) b p q = tt

ranged_if_any : {B : Type 0} (r : Result B FaultKind) (g : B → ℤ) → IfOk (r >>= λ y. ranged (g y)) InRange
ranged_if_any (Ok y) g = ranged-fits (g y)
ranged_if_any (Err k) g = tt

sum_step : {A B : Type 0} (r : Result A FaultKind) (f : A → Result B FaultKind) (g : B → ℤ) → IfOk (r >>= λ x. f x >>= λ y. ranged (g y)) InRange
sum_step (Ok x) f g = ranged_if_any (f x) g
sum_step (Err k) f g = tt

set_operation_below : (op : SetOp) (count : ℕ) (xs ys : List ℕ) → is_set_below count (set_operation op count xs ys) ≡ true
set_operation_below Union count xs ys = where_below count _
set_operation_below Intersection count xs ys = where_below count _
set_operation_below Difference count xs ys = where_below count _

-- ---- object types

variable_object : (o : Option Variable) → object_of_kind (unwrap_or (option_and_then (λ (x : Variable). Some x.kind) o) kinds.Integer) ≡ kind_object (option_and_then (λ (x : Variable). Some x.kind) o)
variable_object None = refl
variable_object (Some x) = of_kind x.kind where
  of_kind : (kind : VarKind) → object_of_kind kind ≡ kind_object (Some kind)
  of_kind (kinds.Element object) = refl
  of_kind (kinds.Set object) = refl
  of_kind kinds.Integer = refl

table_object : (o : Option TableData) → cells_object (unwrap_or (option_and_then (λ (x : TableData). Some x.cells) o) (cells.Numbers [])) ≡ sets_object (option_and_then (λ (x : TableData). Some x.cells) o)
table_object None = refl
table_object (Some x) = of_cells x.cells where
  of_cells : (c : Cells) → cells_object c ≡ sets_object (Some c)
  of_cells (cells.Numbers xs) = refl
  of_cells (cells.Truths xs) = refl
  of_cells (cells.Sets object xs) = refl

-- ---- one layer of a tree, as a value and as a test

abbrev num_layer : Model → PlainState → nums.Num-F args.Arg conds.Cond nums.Num sets.SetEx → NumValue
num_layer m s x = num_step m s (nums.map-Num args.Arg conds.Cond nums.Num sets.SetEx ArgValue CondValue NumValue SetValue (arg_value m s) (cond_value m s) (num_value m s) (set_value m s) x)

abbrev set_layer : Model → PlainState → sets.SetEx-F args.Arg conds.Cond nums.Num sets.SetEx → SetValue
set_layer m s x = set_step m s (sets.map-SetEx args.Arg conds.Cond nums.Num sets.SetEx ArgValue CondValue NumValue SetValue (arg_value m s) (cond_value m s) (num_value m s) (set_value m s) x)

abbrev num_layer_test : Model → nums.Num-F args.Arg conds.Cond nums.Num sets.SetEx → NumTest
num_layer_test m x =
    num_typed m.variables m.tables
    (nums.map-Num args.Arg conds.Cond nums.Num sets.SetEx ArgTest CondTest NumTest SetTest (is_arg m.objects m.variables m.tables) (is_cond m.objects m.variables m.tables) (is_num m.objects m.variables m.tables) (is_set m.objects m.variables m.tables) x)

abbrev set_layer_test : Model → sets.SetEx-F args.Arg conds.Cond nums.Num sets.SetEx → SetTest
set_layer_test m x =
    set_typed m.variables m.tables
    (sets.map-SetEx args.Arg conds.Cond nums.Num sets.SetEx ArgTest CondTest NumTest SetTest (is_arg m.objects m.variables m.tables) (is_cond m.objects m.variables m.tables) (is_num m.objects m.variables m.tables) (is_set m.objects m.variables m.tables) x)

num_value-layer : (m : Model) (s : PlainState) (x : nums.Num-F args.Arg conds.Cond nums.Num sets.SetEx) → num_value m s (nums.roll-Num x) ≡ num_layer m s x
num_value-layer m s x = nums.fold-roll-Num ArgValue CondValue NumValue SetValue arg_step (cond_step m s) (num_step m s) (set_step m s) x

set_value-layer : (m : Model) (s : PlainState) (x : sets.SetEx-F args.Arg conds.Cond nums.Num sets.SetEx) → set_value m s (sets.roll-SetEx x) ≡ set_layer m s x
set_value-layer m s x = sets.fold-roll-SetEx ArgValue CondValue NumValue SetValue arg_step (cond_step m s) (num_step m s) (set_step m s) x

is_num-layer : (m : Model) (x : nums.Num-F args.Arg conds.Cond nums.Num sets.SetEx) → is_num m.objects m.variables m.tables (nums.roll-Num x) ≡ num_layer_test m x
is_num-layer m x = nums.fold-roll-Num ArgTest CondTest NumTest SetTest arg_typed (cond_typed m.objects m.variables m.tables) (num_typed m.variables m.tables) (set_typed m.variables m.tables) x

is_set-layer : (m : Model) (x : sets.SetEx-F args.Arg conds.Cond nums.Num sets.SetEx) → is_set m.objects m.variables m.tables (sets.roll-SetEx x) ≡ set_layer_test m x
is_set-layer m x = sets.fold-roll-SetEx ArgTest CondTest NumTest SetTest arg_typed (cond_typed m.objects m.variables m.tables) (num_typed m.variables m.tables) (set_typed m.variables m.tables) x

-- no claim
abbrev Any : {A : Type 0} → A → Type 0
Any e = Unit {0}

-- ---- a set is of the object type that its typing says

module _ (m : Model) (s : PlainState) where
  abbrev IsTyped : sets.SetEx → Type 0
  IsTyped e = (set_value m s e).0 ≡ (is_set m.objects m.variables m.tables e).0

  abbrev Typed-F : Type 0
  Typed-F = sets.SetEx-F ((e : args.Arg) × Any e) ((e : conds.Cond) × Any e) ((e : nums.Num) × Any e) ((e : sets.SetEx) × IsTyped e)

  abbrev typed_under : Typed-F → sets.SetEx-F args.Arg conds.Cond nums.Num sets.SetEx
  typed_under = sets.map-SetEx ((e : args.Arg) × Any e) ((e : conds.Cond) × Any e) ((e : nums.Num) × Any e) ((e : sets.SetEx) × IsTyped e) args.Arg conds.Cond nums.Num sets.SetEx (λ e. e.0) (λ e. e.0) (λ e. e.0) (λ e. e.0)

  typed_case : (y : Typed-F) → (set_layer m s (typed_under y)).0 ≡ (set_layer_test m (typed_under y)).0
  typed_case (sets.SetEx-F.SetEx::Var v) = variable_object (slice_get m.variables v)
  typed_case (sets.SetEx-F.SetEx::Cell t ns) = table_object (slice_get m.tables t)
  typed_case (sets.SetEx-F.SetEx::Op op a b) = a.1
  typed_case (sets.SetEx-F.SetEx::Not a) = a.1
  typed_case (sets.SetEx-F.With n a) = a.1
  typed_case (sets.SetEx-F.Without n a) = a.1
  typed_case (sets.SetEx-F.SetEx::If c a b) = a.1

  typed_rolled : (y : Typed-F) → IsTyped (sets.roll-SetEx (typed_under y))
  typed_rolled y = ap (λ (v : SetValue). v.0) (set_value-layer m s (typed_under y)) ∙ typed_case y ∙ sym (ap (λ (t : SetTest). t.0) (is_set-layer m (typed_under y)))

  typed_made : (x : sets.SetEx-F args.Arg conds.Cond nums.Num sets.SetEx) (y : Typed-F) → typed_under y ≡ x → IsTyped (sets.roll-SetEx x)
  typed_made x y p = subst (λ (x : sets.SetEx-F args.Arg conds.Cond nums.Num sets.SetEx). IsTyped (sets.roll-SetEx x)) p (typed_rolled y)

  pub set_typed-is : (e : sets.SetEx) → IsTyped e
  set_typed-is e = sets.ind-SetEx Any Any Any IsTyped (λ x y p. tt) (λ x y p. tt) (λ x y p. tt) typed_made e

-- ---- well-typed numbers and sets fit

module _ (m : Model) (s : PlainState) (held : IsTrue (is_state m.objects m.variables s)) where
  small : (object : ℕ) → type_count m.objects object ≤ 4096
  small object = small_objects m object

  var-fits : (v : ℕ) → is_number_kind (kind_at m.variables v) ≡ true → InRange (number_held (slice_get s.values v))
  var-fits v h = let n = number_held_at m.objects m.variables s.values v held h in rw n.1 n.2

  abbrev SetBelow : ℕ → List ℕ → Type 0
  SetBelow object set = is_set_below (type_count m.objects object) set ≡ true

  set_var-fits : (v : ℕ) → is_set_kind (kind_at m.variables v) ≡ true → SetBelow (kind_object (kind_at m.variables v)) (set_held (slice_get s.values v))
  set_var-fits v h = let n = set_held_at m.objects m.variables s.values v held h in rw n.1 n.2

  size-fits : (object : ℕ) (set : List ℕ) → SetBelow object set → InRange (pos (length set))
  size-fits object set e =
      let few = small object in
      let long = ascends-length 0 (type_count m.objects object) set e in
      in_range (pos (length set)) (small_in_range (length set) (omega arith))

  size_step : (object : ℕ) (r : Result (List ℕ) FaultKind) → IfOk r (SetBelow object) → IfOk (r >>= λ members. Ok (pos (length members))) InRange
  size_step object (Ok set) h = size-fits object set h
  size_step object (Err k) h = tt

  -- a set made for the object type of another set's value is one of that of its typing
  same_count : (v t : ℕ) (set : ℕ → List ℕ) → v ≡ t → ((count : ℕ) → is_set_below count (set count) ≡ true) → SetBelow t (set (type_count m.objects v))
  same_count v t set e h = subst (λ (t : ℕ). SetBelow t (set (type_count m.objects v))) e (h (type_count m.objects v))

  abbrev NumFits : nums.Num → Type 0
  NumFits e = (given : List ℕ) → are_given given ≡ true → is_num m.objects m.variables m.tables e (length given) ≡ true → IfOk (num_value m s e given) InRange

  abbrev SetFits : sets.SetEx → Type 0
  SetFits e = (given : List ℕ) → are_given given ≡ true → (is_set m.objects m.variables m.tables e).1 (length given) ≡ true → IfOk ((set_value m s e).1 given) (SetBelow (is_set m.objects m.variables m.tables e).0)

  -- trees with a proof of their claim

  abbrev FitNum-F : Type 0
  FitNum-F = nums.Num-F ((e : args.Arg) × Any e) ((e : conds.Cond) × Any e) ((e : nums.Num) × NumFits e) ((e : sets.SetEx) × SetFits e)

  abbrev FitSet-F : Type 0
  FitSet-F = sets.SetEx-F ((e : args.Arg) × Any e) ((e : conds.Cond) × Any e) ((e : nums.Num) × NumFits e) ((e : sets.SetEx) × SetFits e)

  abbrev num_under : FitNum-F → nums.Num-F args.Arg conds.Cond nums.Num sets.SetEx
  num_under = nums.map-Num ((e : args.Arg) × Any e) ((e : conds.Cond) × Any e) ((e : nums.Num) × NumFits e) ((e : sets.SetEx) × SetFits e) args.Arg conds.Cond nums.Num sets.SetEx (λ e. e.0) (λ e. e.0) (λ e. e.0) (λ e. e.0)

  abbrev set_under : FitSet-F → sets.SetEx-F args.Arg conds.Cond nums.Num sets.SetEx
  set_under = sets.map-SetEx ((e : args.Arg) × Any e) ((e : conds.Cond) × Any e) ((e : nums.Num) × NumFits e) ((e : sets.SetEx) × SetFits e) args.Arg conds.Cond nums.Num sets.SetEx (λ e. e.0) (λ e. e.0) (λ e. e.0) (λ e. e.0)

  -- the arguments of a cell
  abbrev arguments : List ((e : nums.Num) × NumFits e) → List ℕ → Result (List ℤ) FaultKind
  arguments ns given = in_turn (λ (n : NumValue). n given) (map (num_value m s) (map (λ (e : (e : nums.Num) × NumFits e). e.0) ns))

  num_case : (y : FitNum-F) (given : List ℕ) → are_given given ≡ true → num_layer_test m (num_under y) (length given) ≡ true → IfOk (num_layer m s (num_under y) given) InRange
  num_case (nums.Num-F.Num::Fixed n) given g t = in_range n t
  num_case (nums.Num-F.Num::Var v) given g t = var-fits v t
  num_case (nums.Num-F.Param p) given g t = in_range (pos (slice_index given p)) (all_get (λ k. is_in_range (pos k)) given p 0 g (ltb-true p (length given) t))
  num_case (nums.Num-F.Num::Cell table ns) given g t =
      cell_step InRange (arguments ns given) (members_of (table_counts m table)) (λ members. number_cell (cells_of m table) (place_in m table members)) (λ members. number_cell-fits m.objects m.tables m.cells table (place_in m table members))
  num_case (nums.Num-F.Sum table terms) given g t =
      sum_step (in_turn (λ (a : ArgValue). a given) (map (arg_value m s) (map (λ (e : (e : args.Arg) × Any e). e.0) terms))) (choices_of (table_counts m table)) (λ choices. total_of m table (ways choices))
  num_case (nums.Num-F.Size a) given g t = size_step (is_set m.objects m.variables m.tables a.0).0 ((set_value m s a.0).1 given) (a.1 given g t)
  num_case (nums.Num-F.Num::Op op a b) given g t =
      let p = and_parts (is_num m.objects m.variables m.tables a.0 (length given)) (is_num m.objects m.variables m.tables b.0 (length given)) t in
      operate_step op (num_value m s a.0 given) (num_value m s b.0 given) (a.1 given g p.0) (b.1 given g p.1)
  num_case (nums.Num-F.Num::If c a b) given g t =
      let held_c = is_cond m.objects m.variables m.tables c.0 (length given) in
      let held_a = is_num m.objects m.variables m.tables a.0 (length given) in
      let p = and_parts (held_c && held_a) (is_num m.objects m.variables m.tables b.0 (length given)) t in
      let q = and_parts held_c held_a p.0 in
      either InRange (cond_value m s c.0 given) (num_value m s a.0 given) (num_value m s b.0 given) (a.1 given g q.1) (b.1 given g p.1)

  set_case : (y : FitSet-F) (given : List ℕ) → are_given given ≡ true → (set_layer_test m (set_under y)).1 (length given) ≡ true → IfOk ((set_layer m s (set_under y)).1 given) (SetBelow (set_layer_test m (set_under y)).0)
  set_case (sets.SetEx-F.SetEx::Var v) given g t = set_var-fits v t
  set_case (sets.SetEx-F.SetEx::Cell table ns) given g t =
      cell_step (SetBelow (sets_object (cells_at m.tables table))) (arguments ns given) (members_of (table_counts m table)) (λ members. set_cell (cells_of m table) (place_in m table members)) (λ members. set_cell-fits m.objects m.tables m.cells table (place_in m table members))
  set_case (sets.SetEx-F.SetEx::Op op a b) given g t =
      let object = (is_set m.objects m.variables m.tables a.0).0 in
      two_steps (SetBelow object) ((set_value m s a.0).1 given) ((set_value m s b.0).1 given) (λ xs ys. set_operation op (count_of m (set_value m s a.0).0) xs ys)
      (λ xs ys. same_count (set_value m s a.0).0 object (λ count. set_operation op count xs ys) (set_typed-is m s a.0) (λ count. set_operation_below op count xs ys))
  set_case (sets.SetEx-F.SetEx::Not a) given g t =
      let object = (is_set m.objects m.variables m.tables a.0).0 in
      one_step (SetBelow object) ((set_value m s a.0).1 given) (λ xs. members_where (count_of m (set_value m s a.0).0) (λ k. not (has xs k)))
      (λ xs. same_count (set_value m s a.0).0 object (λ count. members_where count (λ k. not (has xs k))) (set_typed-is m s a.0) (λ count. where_below count (λ k. not (has xs k))))
  set_case (sets.SetEx-F.With n a) given g t =
      let object = (is_set m.objects m.variables m.tables a.0).0 in
      member_step (SetBelow object) (num_value m s n.0 given) ((set_value m s a.0).1 given) (member_of (count_of m (set_value m s a.0).0)) (λ xs e. members_where (count_of m (set_value m s a.0).0) (λ k. eqb k e || has xs k))
      (λ xs e. same_count (set_value m s a.0).0 object (λ count. members_where count (λ k. eqb k e || has xs k)) (set_typed-is m s a.0) (λ count. where_below count (λ k. eqb k e || has xs k)))
  set_case (sets.SetEx-F.Without n a) given g t =
      let object = (is_set m.objects m.variables m.tables a.0).0 in
      member_step (SetBelow object) (num_value m s n.0 given) ((set_value m s a.0).1 given) (member_of (count_of m (set_value m s a.0).0)) (λ xs e. members_where (count_of m (set_value m s a.0).0) (λ k. not (eqb k e) && has xs k))
      (λ xs e. same_count (set_value m s a.0).0 object (λ count. members_where count (λ k. not (eqb k e) && has xs k)) (set_typed-is m s a.0) (λ count. where_below count (λ k. not (eqb k e) && has xs k)))
  set_case (sets.SetEx-F.SetEx::If c a b) given g t =
      let typed_a = is_set m.objects m.variables m.tables a.0 in
      let typed_b = is_set m.objects m.variables m.tables b.0 in
      let n = length given in
      let p = and_parts (is_cond m.objects m.variables m.tables c.0 n) (both_sets typed_a typed_b n) t in
      let q = and_parts (typed_a.1 n && typed_b.1 n) (eqb typed_a.0 typed_b.0) p.1 in
      let r = and_parts (typed_a.1 n) (typed_b.1 n) q.0 in
      let same = eqb-true typed_a.0 typed_b.0 q.1 in
      either (SetBelow typed_a.0) (cond_value m s c.0 given) ((set_value m s a.0).1 given) ((set_value m s b.0).1 given) (a.1 given g r.0)
      (subst (λ (object : ℕ). IfOk ((set_value m s b.0).1 given) (SetBelow object)) (sym same) (b.1 given g r.1))

  num_rolled : (y : FitNum-F) → NumFits (nums.roll-Num (num_under y))
  num_rolled y given g t = rw (num_value-layer m s (num_under y)) (num_case y given g (subst (λ (test : NumTest). test (length given) ≡ true) (is_num-layer m (num_under y)) t))

  set_rolled : (y : FitSet-F) → SetFits (sets.roll-SetEx (set_under y))
  set_rolled y given g t =
      subst (λ (v : SetValue). IfOk (v.1 given) (SetBelow (is_set m.objects m.variables m.tables (sets.roll-SetEx (set_under y))).0)) (sym (set_value-layer m s (set_under y)))
      (subst (λ (test : SetTest). IfOk ((set_layer m s (set_under y)).1 given) (SetBelow test.0)) (sym (is_set-layer m (set_under y)))
      (set_case y given g (subst (λ (test : SetTest). test.1 (length given) ≡ true) (is_set-layer m (set_under y)) t)))

  num_made : (x : nums.Num-F args.Arg conds.Cond nums.Num sets.SetEx) (y : FitNum-F) → num_under y ≡ x → NumFits (nums.roll-Num x)
  num_made x y p = subst (λ (x : nums.Num-F args.Arg conds.Cond nums.Num sets.SetEx). NumFits (nums.roll-Num x)) p (num_rolled y)

  set_made : (x : sets.SetEx-F args.Arg conds.Cond nums.Num sets.SetEx) (y : FitSet-F) → set_under y ≡ x → SetFits (sets.roll-SetEx x)
  set_made x y p = subst (λ (x : sets.SetEx-F args.Arg conds.Cond nums.Num sets.SetEx). SetFits (sets.roll-SetEx x)) p (set_rolled y)

  pub num-fits : (e : nums.Num) → NumFits e
  num-fits e = nums.ind-Num Any Any NumFits SetFits (λ x y p. tt) (λ x y p. tt) num_made set_made e

  pub set-fits : (e : sets.SetEx) → SetFits e
  set-fits e = sets.ind-SetEx Any Any NumFits SetFits (λ x y p. tt) (λ x y p. tt) num_made set_made e

-- ---- the arguments of a `sum`

-- an evaluated argument, where the table has one of this object type: a number is tested when it is read
abbrev pub is_term : Model → ℕ → ℤ ⊎ List ℕ → Bool
is_term m object (inl n) = true
is_term m object (inr set) = is_set_below (type_count m.objects object) set

-- as many as the table has arguments
abbrev pub are_terms : Model → List ℕ → List (ℤ ⊎ List ℕ) → Bool
are_terms m [] [] = true
are_terms m (object ∷ objects) (x ∷ xs) = is_term m object x && are_terms m objects xs
are_terms m [] (x ∷ xs) = false
are_terms m (object ∷ objects) [] = false

module _ (m : Model) (s : PlainState) (held : IsTrue (is_state m.objects m.variables s)) where
  abbrev TermFits : args.Arg → Type 0
  TermFits e = (object : ℕ) (given : List ℕ) → are_given given ≡ true → is_arg m.objects m.variables m.tables e object (length given) ≡ true → IfOk (arg_value m s e given) (λ x. is_term m object x ≡ true)

  set_term : (object : ℕ) (r : Result (List ℕ) FaultKind) → IfOk r (λ set. is_set_below (type_count m.objects object) set ≡ true) → IfOk (r >>= λ set. Ok (inr set)) (λ x. is_term m object x ≡ true)
  set_term object (Ok set) h = h
  set_term object (Err k) h = tt

  abbrev FitArg-F : Type 0
  FitArg-F = args.Arg-F ((e : args.Arg) × TermFits e) ((e : conds.Cond) × Any e) ((e : nums.Num) × Any e) ((e : sets.SetEx) × Any e)

  abbrev arg_under : FitArg-F → args.Arg-F args.Arg conds.Cond nums.Num sets.SetEx
  arg_under = args.map-Arg ((e : args.Arg) × TermFits e) ((e : conds.Cond) × Any e) ((e : nums.Num) × Any e) ((e : sets.SetEx) × Any e) args.Arg conds.Cond nums.Num sets.SetEx (λ e. e.0) (λ e. e.0) (λ e. e.0) (λ e. e.0)

  abbrev arg_layer : args.Arg-F args.Arg conds.Cond nums.Num sets.SetEx → ArgValue
  arg_layer x = arg_step (args.map-Arg args.Arg conds.Cond nums.Num sets.SetEx ArgValue CondValue NumValue SetValue (arg_value m s) (cond_value m s) (num_value m s) (set_value m s) x)

  abbrev arg_layer_test : args.Arg-F args.Arg conds.Cond nums.Num sets.SetEx → ArgTest
  arg_layer_test x =
      arg_typed
      (args.map-Arg args.Arg conds.Cond nums.Num sets.SetEx ArgTest CondTest NumTest SetTest (is_arg m.objects m.variables m.tables) (is_cond m.objects m.variables m.tables) (is_num m.objects m.variables m.tables) (is_set m.objects m.variables m.tables) x)

  arg_case : (y : FitArg-F) (object : ℕ) (given : List ℕ) → are_given given ≡ true → arg_layer_test (arg_under y) object (length given) ≡ true → IfOk (arg_layer (arg_under y) given) (λ x. is_term m object x ≡ true)
  arg_case (args.Arg-F.One n) object given g t = one_step (λ x. is_term m object x ≡ true) (num_value m s n.0 given) (λ z. inl z) (λ z. refl)
  arg_case (args.Arg-F.Many set) object given g t =
      let typed = is_set m.objects m.variables m.tables set.0 in
      let p = and_parts (typed.1 (length given)) (eqb typed.0 object) t in
      set_term object ((set_value m s set.0).1 given)
      (subst (λ (object : ℕ). IfOk ((set_value m s set.0).1 given) (λ set. is_set_below (type_count m.objects object) set ≡ true)) (eqb-true typed.0 object p.1) (set-fits m s held set.0 given g p.0))

  arg_rolled : (y : FitArg-F) → TermFits (args.roll-Arg (arg_under y))
  arg_rolled y object given g t =
      subst (λ (v : ArgValue). IfOk (v given) (λ x. is_term m object x ≡ true)) (sym (args.fold-roll-Arg ArgValue CondValue NumValue SetValue arg_step (cond_step m s) (num_step m s) (set_step m s) (arg_under y)))
      (arg_case y object given g
      (subst (λ (test : ArgTest). test object (length given) ≡ true)
      (args.fold-roll-Arg ArgTest CondTest NumTest SetTest arg_typed (cond_typed m.objects m.variables m.tables) (num_typed m.variables m.tables) (set_typed m.variables m.tables) (arg_under y)) t))

  arg_made : (x : args.Arg-F args.Arg conds.Cond nums.Num sets.SetEx) (y : FitArg-F) → arg_under y ≡ x → TermFits (args.roll-Arg x)
  arg_made x y p = subst (λ (x : args.Arg-F args.Arg conds.Cond nums.Num sets.SetEx). TermFits (args.roll-Arg x)) p (arg_rolled y)

  term-fits : (e : args.Arg) → TermFits e
  term-fits e = args.ind-Arg TermFits Any Any Any arg_made (λ x y p. tt) (λ x y p. tt) (λ x y p. tt) e

  pub terms_fit : (objects : List ℕ) (terms : List args.Arg) (given : List ℕ) (xs : List (ℤ ⊎ List ℕ)) → are_given given ≡ true → args_typed objects (map (is_arg m.objects m.variables m.tables) terms) (length given) ≡ true → term_values m s terms given ≡ Ok xs → are_terms m objects xs ≡ true
  terms_fit [] [] given xs g t h = let same : [] ≡ xs = cc in subst (λ (xs : List (ℤ ⊎ List ℕ)). are_terms m [] xs ≡ true) same refl
  terms_fit [] (e ∷ terms) given xs g t h = absurd (cc)
  terms_fit (object ∷ objects) [] given xs g t h = absurd (cc)
  terms_fit (object ∷ objects) (e ∷ terms) given xs g t h =
      let p = and_parts (is_arg m.objects m.variables m.tables e object (length given)) (args_typed objects (map (is_arg m.objects m.variables m.tables) terms) (length given)) t in
      let first = bound (arg_value m s e given) (λ x. term_values m s terms given >>= λ rest. Ok (x ∷ rest)) xs h in
      let rest = bound (term_values m s terms given) (λ rest. Ok (first.0 ∷ rest)) xs first.2 in
      let same : first.0 ∷ rest.0 ≡ xs = cc in
      let here = subst (λ (r : Result (ℤ ⊎ List ℕ) FaultKind). IfOk r (λ x. is_term m object x ≡ true)) first.1 (term-fits e object given g p.0) in
      subst (λ (xs : List (ℤ ⊎ List ℕ)). are_terms m (object ∷ objects) xs ≡ true) same (and_from (is_term m object first.0) (are_terms m objects rest.0) here (terms_fit objects terms given rest.0 g p.1 rest.1))

-- as many values as numbers
pub num_values-length : (m : Model) (s : PlainState) (ns : List nums.Num) (given : List ℕ) (zs : List ℤ) → num_values m s ns given ≡ Ok zs → length zs ≡ length ns
num_values-length m s [] given zs h = let same : [] ≡ zs = cc in ap length (sym same)
num_values-length m s (n ∷ ns) given zs h =
    let first = bound (num_value m s n given) (λ z. num_values m s ns given >>= λ rest. Ok (z ∷ rest)) zs h in
    let rest = bound (num_values m s ns given) (λ rest. Ok (first.0 ∷ rest)) zs first.2 in
    let same : first.0 ∷ rest.0 ≡ zs = cc in
    ap length (sym same) ∙ ap suc (num_values-length m s ns given rest.0 rest.1)

-- ---- the laws

pub numbers_fit : NumbersFit
numbers_fit m s e given held g t = num-fits m s held e given g t

pub sets_typed : SetsTyped
sets_typed m s e = set_typed-is m s e

pub sets_fit : SetsFit
sets_fit m s e given held g t = set-fits m s held e given g t
