-- Sets of a state and of tables are of their object types.
use Rattle.std.proofs.Common.{◌≡◌, ℕ, zero, suc, true, not, ◌&&◌, ◌||◌, List, [], ◌∷◌, length, slice_get, Option, Some, None, option_and_then, refl, subst, eqb, nat_lt}
use Rattle.std.specs.Prelude.{unwrap_or}
use Rattle.std.specs.List.{list_all}
use Rattle.std.proofs.lemmas.Bool.{and_parts}
use Rattle.dp_model.specs.Typing.{type_count, kind_at, is_set_below, is_state, are_held, may_hold, is_table, are_tables, are_cells, cell_count, are_numbers}
use Rattle.dp_model.specs.Evaluation.{set_cell, cells_object, cells_of, count_of, set_in, set_held}
use Rattle.dp_model.specs.declared.parts.ObjectType.{ObjectType}
use Rattle.dp_model.specs.declared.parts.Variable.{Variable}
use Rattle.dp_model.specs.declared.parts.VarKind.{VarKind}
use Rattle.dp_model.specs.declared.parts.VarKind.TheVariants as kinds
use Rattle.dp_model.specs.declared.parts.Cells.{Cells}
use Rattle.dp_model.specs.declared.parts.Cells.TheVariants as cells
use Rattle.dp_model.specs.declared.parts.TableData.{TableData}
use Rattle.dp_model.specs.declared.parts.PlainState.{PlainState}
use Rattle.dp_model.specs.declared.parts.PlainValue.{PlainValue}
use Rattle.dp_model.specs.declared.parts.PlainValue.TheVariants as values
use Rattle.dp_model.specs.declared.whole.Model.{Model}
use Rattle.poly_eval.proofs.Ascending.{all_at}

-- ---- variables

may-below : (os : List ObjectType) (object : ℕ) (y : PlainValue) → may_hold os (kinds.Set object) y ≡ true → is_set_below (type_count os object) (set_held (Some y)) ≡ true
may-below os object (values.Members set) h = h
may-below os object (values.Number n) h = absurd (cc)

held-below : (os : List ObjectType) (vs : List Variable) (xs : List PlainValue) (v object : ℕ) → are_held os vs xs ≡ true → kind_at vs v ≡ Some (kinds.Set object) → is_set_below (type_count os object) (set_held (slice_get xs v)) ≡ true
held-below os [] xs v object h e = absurd (cc)
held-below os (w ∷ vs) [] v object h e = refl
held-below os (w ∷ vs) (y ∷ xs) zero object h e =
    let same : w.kind ≡ kinds.Set object = cc in
    may-below os object y (subst (λ (kind : VarKind). may_hold os kind y ≡ true) same (and_parts (may_hold os w.kind y) (are_held os vs xs) h).0)
held-below os (w ∷ vs) (y ∷ xs) (suc v) object h e = held-below os vs xs v object (and_parts (may_hold os w.kind y) (are_held os vs xs) h).1 e

pub variable_below : (m : Model) (s : PlainState) (v object : ℕ) → is_state m.objects m.variables s ≡ true → kind_at m.variables v ≡ Some (kinds.Set object) → is_set_below (count_of m object) (set_in s v) ≡ true
variable_below m s v object h e = held-below m.objects m.variables s.values v object h e

-- ---- cells

at-below : (count : ℕ) (xs : List (List ℕ)) (place : ℕ) → list_all (is_set_below count) xs ≡ true → is_set_below count (unwrap_or (slice_get xs place) []) ≡ true
at-below count [] place h = refl
at-below count (x ∷ xs) zero h = (and_parts (is_set_below count x) (list_all (is_set_below count) xs) h).0
at-below count (x ∷ xs) (suc place) h = at-below count xs place (and_parts (is_set_below count x) (list_all (is_set_below count) xs) h).1

table_cells : (os : List ObjectType) (t : TableData) → is_table os t ≡ true → are_cells os (cell_count os t.args) t.cells ≡ true
table_cells os t h =
    let rest = and_parts (list_all (λ object. nat_lt object (length os)) t.args) (are_cells os (cell_count os t.args) t.cells && (not t.element || are_numbers (Some t.cells))) h in
    (and_parts (are_cells os (cell_count os t.args) t.cells) (not t.element || are_numbers (Some t.cells)) rest.1).0

cells-below : (os : List ObjectType) (count : ℕ) (c : Cells) (place : ℕ) → are_cells os count c ≡ true → is_set_below (type_count os (cells_object c)) (set_cell c place) ≡ true
cells-below os count (cells.Numbers xs) place h = refl
cells-below os count (cells.Truths xs) place h = refl
cells-below os count (cells.Sets object xs) place h =
    let rest = and_parts (eqb (length xs) count) (nat_lt object (length os) && list_all (is_set_below (type_count os object)) xs) h in
    at-below (type_count os object) xs place (and_parts (nat_lt object (length os)) (list_all (is_set_below (type_count os object)) xs) rest.1).1

cells-if : (os : List ObjectType) (ts : List TableData) (h : are_tables os ts ≡ true) (t place : ℕ) (o : Option TableData) → slice_get ts t ≡ o
    → is_set_below (type_count os (cells_object (unwrap_or (option_and_then (λ (x : TableData). Some x.cells) o) (cells.Numbers [])))) (set_cell (unwrap_or (option_and_then (λ (x : TableData). Some x.cells) o) (cells.Numbers [])) place) ≡ true
cells-if os ts h t place (Some x) e = cells-below os (cell_count os x.args) x.cells place (table_cells os x (all_at (is_table os) ts t x h e))
cells-if os ts h t place None e = refl

pub cell_below : (m : Model) (t place : ℕ) → is_set_below (count_of m (cells_object (cells_of m t))) (set_cell (cells_of m t) place) ≡ true
cell_below m t place = cells-if m.objects m.tables m.cells t place (slice_get m.tables t) refl
