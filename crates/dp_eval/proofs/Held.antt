-- What a model and a state of it have for the numbers of variables, tables and parameters.
use Rattle.std.proofs.Common.{◌≡◌, ℕ, zero, suc, ◌≤◌, ◌<◌, ◌^◌, true, not, ◌&&◌, ◌||◌, List, [], ◌∷◌, length, slice_get, Option, Some, None, option_and_then, ℤ, pos, refl, subst, arith, eqb, int_le, int_lt, neg_ℤ, nat_lt, nat_le}
use Rattle.std.specs.Prelude.{unwrap_or}
use Rattle.std.specs.List.{list_all}
use Rattle.std.proofs.lemmas.Bool.{and_parts, leb-true}
use Rattle.std.proofs.lemmas.Int.{ints}
use Rattle.dp_model.specs.Costs.{greatest, InRange}
use Rattle.dp_model.specs.Limits.{has_most, is_small_object, is_name}
use Rattle.dp_model.specs.Typing.{type_count, kind_at, kind_object, is_number_kind, is_set_kind, is_in_range, is_set_below, are_held, may_hold, is_table, are_tables, are_cells, cell_count, cells_at, are_numbers, sets_object}
use Rattle.dp_model.specs.Evaluation.{number_cell, set_cell}
use Rattle.dp_model.specs.declared.parts.ObjectType.{ObjectType}
use Rattle.dp_model.specs.declared.parts.Variable.{Variable}
use Rattle.dp_model.specs.declared.parts.VarKind.{VarKind}
use Rattle.dp_model.specs.declared.parts.VarKind.TheVariants as kinds
use Rattle.dp_model.specs.declared.parts.Cells.{Cells}
use Rattle.dp_model.specs.declared.parts.Cells.TheVariants as cells
use Rattle.dp_model.specs.declared.parts.TableData.{TableData}
use Rattle.dp_model.specs.declared.parts.PlainValue.{PlainValue}
use Rattle.dp_model.specs.declared.parts.PlainValue.TheVariants as values
use Rattle.dp_model.specs.declared.whole.Model.{Model}
use Rattle.dp_eval.proofs.Ascending.{all_at}

pub in_range : (n : ℤ) → is_in_range n ≡ true → InRange n
in_range n h =
    let p = and_parts (int_le (neg_ℤ greatest) n) (int_le n greatest) h in
    let low = p.0 in
    let high = p.1 in
    (grind (arith, ints), grind (arith, ints))

pub small_in_range : (n : ℕ) → n < 4294967296 → is_in_range (pos n) ≡ true
small_in_range n h = grind (arith, ints)

-- ---- object types

count_small : (o : Option ObjectType) → ((x : ObjectType) → o ≡ Some x → is_small_object x ≡ true) → unwrap_or (option_and_then (λ (x : ObjectType). Some x.count) o) 0 ≤ 4096
count_small (Some x) h = leb-true x.count 4096 (and_parts (is_name x.name) (nat_le x.count 4096) (h x refl)).1
count_small None h = omega arith

small_count : (os : List ObjectType) → list_all is_small_object os ≡ true → (object : ℕ) → type_count os object ≤ 4096
small_count os h object = count_small (slice_get os object) (λ x e. all_at is_small_object os object x h e)

pub small_objects : (m : Model) (object : ℕ) → type_count m.objects object ≤ 4096
small_objects m object = small_count m.objects (and_parts (list_all is_small_object m.objects) _ (and_parts (has_most 1024 m.objects) _ m.few_names).1).0 object

-- ---- variables

pub held_at : (os : List ObjectType) (vs : List Variable) (xs : List PlainValue) (v : ℕ) (x : Variable) → are_held os vs xs ≡ true → slice_get vs v ≡ Some x → (y : PlainValue) × (slice_get xs v ≡ Some y) × (may_hold os x.kind y ≡ true)
held_at os [] xs v x h e = absurd (cc)
held_at os (w ∷ vs) [] v x h e = absurd (cc)
held_at os (w ∷ vs) (y ∷ xs) zero x h e =
    let same : w ≡ x = cc in
    (y, refl, subst (λ (x : Variable). may_hold os x.kind y ≡ true) same (and_parts (may_hold os w.kind y) (are_held os vs xs) h).0)
held_at os (w ∷ vs) (y ∷ xs) (suc v) x h e = held_at os vs xs v x (and_parts (may_hold os w.kind y) (are_held os vs xs) h).1 e

abbrev NumberAt : List PlainValue → ℕ → Type 0
NumberAt xs v = (n : ℤ) × (slice_get xs v ≡ Some (values.Number n)) × InRange n

element_in_range : (n : ℤ) → (int_le (pos 0) n && int_lt n (pos (2 ^ 32))) ≡ true → InRange n
element_in_range n h =
    let p = and_parts (int_le (pos 0) n) (int_lt n (pos (2 ^ 32))) h in
    let low = p.0 in
    let high = p.1 in
    (grind (arith, ints), grind (arith, ints))

number_of : (os : List ObjectType) (xs : List PlainValue) (v : ℕ) (kind : VarKind) (y : PlainValue) → slice_get xs v ≡ Some y → may_hold os kind y ≡ true → is_number_kind (Some kind) ≡ true → NumberAt xs v
number_of os xs v (kinds.Element object) (values.Number n) e h k = (n, e, element_in_range n h)
number_of os xs v kinds.Integer (values.Number n) e h k = (n, e, in_range n h)
number_of os xs v (kinds.Element object) (values.Members set) e h k = absurd (cc)
number_of os xs v kinds.Integer (values.Members set) e h k = absurd (cc)
number_of os xs v (kinds.Set object) y e h k = absurd (cc)

number_if : (os : List ObjectType) (vs : List Variable) (xs : List PlainValue) (v : ℕ) (o : Option Variable) → slice_get vs v ≡ o → are_held os vs xs ≡ true → is_number_kind (option_and_then (λ (x : Variable). Some x.kind) o) ≡ true → NumberAt xs v
number_if os vs xs v (Some x) e h k = let y = held_at os vs xs v x h e in number_of os xs v x.kind y.0 y.1 y.2 k
number_if os vs xs v None e h k = absurd (cc)

pub number_held_at : (os : List ObjectType) (vs : List Variable) (xs : List PlainValue) (v : ℕ) → are_held os vs xs ≡ true → is_number_kind (kind_at vs v) ≡ true → NumberAt xs v
number_held_at os vs xs v h k = number_if os vs xs v (slice_get vs v) refl h k

abbrev SetAt : List ObjectType → List PlainValue → ℕ → ℕ → Type 0
SetAt os xs v object = (set : List ℕ) × (slice_get xs v ≡ Some (values.Members set)) × (is_set_below (type_count os object) set ≡ true)

set_of : (os : List ObjectType) (xs : List PlainValue) (v : ℕ) (kind : VarKind) (y : PlainValue) → slice_get xs v ≡ Some y → may_hold os kind y ≡ true → is_set_kind (Some kind) ≡ true → SetAt os xs v (kind_object (Some kind))
set_of os xs v (kinds.Set object) (values.Members set) e h k = (set, e, h)
set_of os xs v (kinds.Set object) (values.Number n) e h k = absurd (cc)
set_of os xs v (kinds.Element object) y e h k = absurd (cc)
set_of os xs v kinds.Integer y e h k = absurd (cc)

set_if : (os : List ObjectType) (vs : List Variable) (xs : List PlainValue) (v : ℕ) (o : Option Variable) → slice_get vs v ≡ o → are_held os vs xs ≡ true → is_set_kind (option_and_then (λ (x : Variable). Some x.kind) o) ≡ true → SetAt os xs v (kind_object (option_and_then (λ (x : Variable). Some x.kind) o))
set_if os vs xs v (Some x) e h k = let y = held_at os vs xs v x h e in set_of os xs v x.kind y.0 y.1 y.2 k
set_if os vs xs v None e h k = absurd (cc)

pub set_held_at : (os : List ObjectType) (vs : List Variable) (xs : List PlainValue) (v : ℕ) → are_held os vs xs ≡ true → is_set_kind (kind_at vs v) ≡ true → SetAt os xs v (kind_object (kind_at vs v))
set_held_at os vs xs v h k = set_if os vs xs v (slice_get vs v) refl h k

-- ---- cells

number_at-fits : (xs : List ℤ) (place : ℕ) → list_all is_in_range xs ≡ true → InRange (unwrap_or (slice_get xs place) (pos 0))
number_at-fits [] place h = in_range (pos 0) refl
number_at-fits (x ∷ xs) zero h = in_range x (and_parts (is_in_range x) (list_all is_in_range xs) h).0
number_at-fits (x ∷ xs) (suc place) h = number_at-fits xs place (and_parts (is_in_range x) (list_all is_in_range xs) h).1

set_at-fits : (count : ℕ) (xs : List (List ℕ)) (place : ℕ) → list_all (is_set_below count) xs ≡ true → is_set_below count (unwrap_or (slice_get xs place) []) ≡ true
set_at-fits count [] place h = refl
set_at-fits count (x ∷ xs) zero h = (and_parts (is_set_below count x) (list_all (is_set_below count) xs) h).0
set_at-fits count (x ∷ xs) (suc place) h = set_at-fits count xs place (and_parts (is_set_below count x) (list_all (is_set_below count) xs) h).1

pub table_cells : (os : List ObjectType) (t : TableData) → is_table os t ≡ true → are_cells os (cell_count os t.args) t.cells ≡ true
table_cells os t h =
    let rest = and_parts (list_all (λ object. nat_lt object (length os)) t.args) (are_cells os (cell_count os t.args) t.cells && (not t.element || are_numbers (Some t.cells))) h in
    (and_parts (are_cells os (cell_count os t.args) t.cells) (not t.element || are_numbers (Some t.cells)) rest.1).0

number_cells-fit : (os : List ObjectType) (count : ℕ) (c : Cells) (place : ℕ) → are_cells os count c ≡ true → InRange (number_cell c place)
number_cells-fit os count (cells.Numbers xs) place h = number_at-fits xs place (and_parts (eqb (length xs) count) (list_all is_in_range xs) h).1
number_cells-fit os count (cells.Truths xs) place h = in_range (pos 0) refl
number_cells-fit os count (cells.Sets object xs) place h = in_range (pos 0) refl

set_cells-fit : (os : List ObjectType) (count : ℕ) (c : Cells) (place : ℕ) → are_cells os count c ≡ true → is_set_below (type_count os (sets_object (Some c))) (set_cell c place) ≡ true
set_cells-fit os count (cells.Numbers xs) place h = refl
set_cells-fit os count (cells.Truths xs) place h = refl
set_cells-fit os count (cells.Sets object xs) place h =
    let rest = and_parts (eqb (length xs) count) (nat_lt object (length os) && list_all (is_set_below (type_count os object)) xs) h in
    set_at-fits (type_count os object) xs place (and_parts (nat_lt object (length os)) (list_all (is_set_below (type_count os object)) xs) rest.1).1

module _ (os : List ObjectType) (ts : List TableData) (h : are_tables os ts ≡ true) where
  number_cell-if : (t place : ℕ) (o : Option TableData) → slice_get ts t ≡ o → InRange (number_cell (unwrap_or (option_and_then (λ (x : TableData). Some x.cells) o) (cells.Numbers [])) place)
  number_cell-if t place (Some x) e = number_cells-fit os (cell_count os x.args) x.cells place (table_cells os x (all_at (is_table os) ts t x h e))
  number_cell-if t place None e = in_range (pos 0) refl

  pub number_cell-fits : (t place : ℕ) → InRange (number_cell (unwrap_or (option_and_then (λ (x : TableData). Some x.cells) (slice_get ts t)) (cells.Numbers [])) place)
  number_cell-fits t place = number_cell-if t place (slice_get ts t) refl

  set_cell-if : (t place : ℕ) (o : Option TableData) → slice_get ts t ≡ o → is_set_below (type_count os (sets_object (option_and_then (λ (x : TableData). Some x.cells) o))) (set_cell (unwrap_or (option_and_then (λ (x : TableData). Some x.cells) o) (cells.Numbers [])) place) ≡ true
  set_cell-if t place (Some x) e = set_cells-fit os (cell_count os x.args) x.cells place (table_cells os x (all_at (is_table os) ts t x h e))
  set_cell-if t place None e = refl

  pub set_cell-fits : (t place : ℕ) → is_set_below (type_count os (sets_object (cells_at ts t))) (set_cell (unwrap_or (option_and_then (λ (x : TableData). Some x.cells) (slice_get ts t)) (cells.Numbers [])) place) ≡ true
  set_cell-fits t place = set_cell-if t place (slice_get ts t) refl
