-- The value of an expression, one step into it.
use Rattle.std.proofs.Common.{◌≡◌, ℕ, Bool, false, if◌then◌else◌, List, [], ◌∷◌, ◌++◌, map, Option, Some, None, Result, Ok, Err, refl, ap, ◌∙◌}
use Rattle.std.specs.Prelude.{ℤ, pos, slice_get, option_map, option_and_then, unwrap_or}
use Rattle.std.proofs.lemmas.Bool.Decides.{Decides-ltb}
use Rattle.dp_base.specs.Results.{◌>>=◌, in_turn}
use Rattle.dp_model.specs.Evaluation.{NumValue, CondValue, SetValue, ArgValue, each_holds, range_of, counts_of, table_counts, place_from, place_in, cells_of, number_cell, truth_cell, set_cell, members_of, arg_step, cond_step, num_step, set_step, num_value, set_value, cond_value}
use Rattle.dp_model.specs.declared.answers.FaultKind.{FaultKind}
use Rattle.dp_model.specs.declared.answers.FaultKind.TheVariants.{Index}
use Rattle.dp_model.specs.declared.trees.Over.{Over}
use Rattle.dp_model.specs.declared.trees.Arg.{Arg}
use Rattle.dp_model.specs.declared.trees.Arg as args
use Rattle.dp_model.specs.declared.trees.Num.{Num}
use Rattle.dp_model.specs.declared.trees.Num as nums
use Rattle.dp_model.specs.declared.trees.Num.TheVariants as num_forms
use Rattle.dp_model.specs.declared.trees.SetEx.{SetEx}
use Rattle.dp_model.specs.declared.trees.SetEx as sets
use Rattle.dp_model.specs.declared.trees.SetEx.TheVariants as set_forms
use Rattle.dp_model.specs.declared.trees.Cond.{Cond}
use Rattle.dp_model.specs.declared.trees.Cond as conds
use Rattle.dp_model.specs.declared.trees.Cond.TheVariants as cond_forms
use Rattle.dp_model.specs.declared.parts.Cells.{Cells}
use Rattle.dp_model.specs.declared.parts.Cells.TheVariants as cells
use Rattle.dp_model.specs.declared.parts.TableData.{TableData}
use Rattle.dp_model.specs.declared.parts.PlainState.{PlainState}
use Rattle.dp_model.specs.declared.whole.Model.{Model}
use Rattle.dypdl_data.specs.declared.kinds.Cell.{Cell}
use Rattle.dypdl_data.specs.declared.kinds.Cell.TheVariants.{Number, Truth, Members}
use Rattle.content_laws.specs.CellTexts.{as_arguments, ReadsAs, AreBelow}
use Rattle.content_laws.proofs.Filling.{cell_at}

abbrev arg_value : Model → PlainState → Arg → ArgValue
arg_value m s = args.fold-Arg ArgValue CondValue NumValue SetValue arg_step (cond_step m s) (num_step m s) (set_step m s)

abbrev cond_layer : Model → PlainState → conds.Cond-F Arg Cond Num SetEx → CondValue
cond_layer m s form = cond_step m s (conds.map-Cond Arg Cond Num SetEx ArgValue CondValue NumValue SetValue (arg_value m s) (cond_value m s) (num_value m s) (set_value m s) form)

pub value_of_all : (m : Model) (s : PlainState) (over : Over) (c : Cond) (given : List ℕ)
    → cond_value m s (cond_forms.All over c) given ≡ each_holds (λ k. cond_value m s c (given ++ k ∷ [])) (range_of m s over)
value_of_all m s over c given =
    ap (λ (v : CondValue). v given) (conds.fold_out-Cond ArgValue CondValue NumValue SetValue arg_step (cond_step m s) (num_step m s) (set_step m s) (cond_forms.All over c)
    ∙ ap (cond_layer m s) (cond_forms.outs-All over c))

-- ---- cells

abbrev num_layer : Model → PlainState → nums.Num-F Arg Cond Num SetEx → NumValue
num_layer m s form = num_step m s (nums.map-Num Arg Cond Num SetEx ArgValue CondValue NumValue SetValue (arg_value m s) (cond_value m s) (num_value m s) (set_value m s) form)

abbrev set_layer : Model → PlainState → sets.SetEx-F Arg Cond Num SetEx → SetValue
set_layer m s form = set_step m s (sets.map-SetEx Arg Cond Num SetEx ArgValue CondValue NumValue SetValue (arg_value m s) (cond_value m s) (num_value m s) (set_value m s) form)

value_of_number : (m : Model) (s : PlainState) (n : ℤ) → num_value m s (num_forms.Fixed n) ≡ (λ given. Ok n)
value_of_number m s n =
    nums.fold_out-Num ArgValue CondValue NumValue SetValue arg_step (cond_step m s) (num_step m s) (set_step m s) (num_forms.Fixed n) ∙ ap (num_layer m s) (num_forms.outs-Fixed n)

abbrev arguments_of : Model → PlainState → List Num → List ℕ → Result (List ℤ) FaultKind
arguments_of m s ns given = in_turn (λ (n : NumValue). n given) (map (num_value m s) ns)

value_of_number_cell : (m : Model) (s : PlainState) (t : ℕ) (ns : List Num) (given : List ℕ)
    → num_value m s (num_forms.Cell t ns) given ≡ (arguments_of m s ns given >>= λ zs. members_of (table_counts m t) zs >>= λ members. Ok (number_cell (cells_of m t) (place_in m t members)))
value_of_number_cell m s t ns given =
    ap (λ (v : NumValue). v given) (nums.fold_out-Num ArgValue CondValue NumValue SetValue arg_step (cond_step m s) (num_step m s) (set_step m s) (num_forms.Cell t ns) ∙ ap (num_layer m s) (num_forms.outs-Cell t ns))

value_of_truth_cell : (m : Model) (s : PlainState) (t : ℕ) (ns : List Num) (given : List ℕ)
    → cond_value m s (cond_forms.Cell t ns) given ≡ (arguments_of m s ns given >>= λ zs. members_of (table_counts m t) zs >>= λ members. Ok (truth_cell (cells_of m t) (place_in m t members)))
value_of_truth_cell m s t ns given =
    ap (λ (v : CondValue). v given) (conds.fold_out-Cond ArgValue CondValue NumValue SetValue arg_step (cond_step m s) (num_step m s) (set_step m s) (cond_forms.Cell t ns) ∙ ap (cond_layer m s) (cond_forms.outs-Cell t ns))

value_of_set_cell : (m : Model) (s : PlainState) (t : ℕ) (ns : List Num) (given : List ℕ)
    → (set_value m s (set_forms.Cell t ns)).1 given ≡ (arguments_of m s ns given >>= λ zs. members_of (table_counts m t) zs >>= λ members. Ok (set_cell (cells_of m t) (place_in m t members)))
value_of_set_cell m s t ns given =
    ap (λ (v : SetValue). v.1 given) (sets.fold_out-SetEx ArgValue CondValue NumValue SetValue arg_step (cond_step m s) (num_step m s) (set_step m s) (set_forms.Cell t ns) ∙ ap (set_layer m s) (set_forms.outs-Cell t ns))

-- members as arguments have their numbers as values
arguments_are : (m : Model) (s : PlainState) (ks : List ℕ) (given : List ℕ) → arguments_of m s (as_arguments ks) given ≡ Ok (map pos ks)
arguments_are m s [] given = refl
arguments_are m s (k ∷ ks) given =
    ap (λ (v : NumValue). v given >>= λ y. arguments_of m s (as_arguments ks) given >>= λ ys. Ok (y ∷ ys)) (value_of_number m s (pos k))
    ∙ ap (λ (r : Result (List ℤ) FaultKind). r >>= λ ys. Ok (pos k ∷ ys)) (arguments_are m s ks given)

members_are : (counts ks : List ℕ) → AreBelow counts ks → members_of counts (map pos ks) ≡ Ok ks
members_are [] [] below = refl
members_are [] (k ∷ ks) below = absurd below
members_are (count ∷ counts) [] below = absurd below
members_are (count ∷ counts) (k ∷ ks) below =
    ap (λ (b : Bool). (if b then Ok k else Err Index) >>= λ j. members_of counts (map pos ks) >>= λ rest. Ok (j ∷ rest)) ((Decides-ltb k count).1 below.0)
    ∙ ap (λ (r : Result (List ℕ) FaultKind). r >>= λ rest. Ok (k ∷ rest)) (members_are counts ks below.1)

-- a cell of any kind, read with these members
module _ {A : Type 0} (m : Model) (s : PlainState) (t : ℕ) (table : TableData) (ks given : List ℕ) (cell : Cells → ℕ → A) where
  pub read_cell : slice_get m.tables t ≡ Some table → AreBelow (counts_of m table.args) ks
      → (arguments_of m s (as_arguments ks) given >>= λ zs. members_of (table_counts m t) zs >>= λ members. Ok (cell (cells_of m t) (place_in m t members))) ≡ Ok (cell table.cells (place_from 0 (counts_of m table.args) ks))
  read_cell at below =
      let counts : table_counts m t ≡ counts_of m table.args = ap (λ (o : Option TableData). unwrap_or (option_and_then (λ (x : TableData). Some (counts_of m x.args)) o) []) at in
      let held : cells_of m t ≡ table.cells = ap (λ (o : Option TableData). unwrap_or (option_and_then (λ (x : TableData). Some x.cells) o) (cells.Numbers [])) at in
      ap (λ (r : Result (List ℤ) FaultKind). r >>= λ zs. members_of (table_counts m t) zs >>= λ members. Ok (cell (cells_of m t) (place_in m t members))) (arguments_are m s ks given)
      ∙ ap (λ (cs : List ℕ). members_of cs (map pos ks) >>= λ members. Ok (cell (cells_of m t) (place_from 0 cs members))) counts
      ∙ ap (λ (c : Cells). members_of (counts_of m table.args) (map pos ks) >>= λ members. Ok (cell c (place_from 0 (counts_of m table.args) members))) held
      ∙ ap (λ (r : Result (List ℕ) FaultKind). r >>= λ members. Ok (cell table.cells (place_from 0 (counts_of m table.args) members))) (members_are (counts_of m table.args) ks below)

number_there : (held : Cells) (at : ℕ) (n : ℤ) → cell_at held at ≡ Some (Number n) → number_cell held at ≡ n
number_there (cells.Numbers xs) at n e = (by_slot (slice_get xs at) e)
  where
    by_slot : (o : Option ℤ) → option_map Number o ≡ Some (Number n) → unwrap_or o (pos 0) ≡ n
    by_slot None h = absurd (cc h)
    by_slot (Some x) h = cc
number_there (cells.Truths xs) at n e = absurd (no_truth (slice_get xs at) e)
  where
    no_truth : (o : Option Bool) → option_map Truth o ≡ Some (Number n) → ⊥
    no_truth None h = cc
    no_truth (Some x) h = cc
number_there (cells.Sets object xs) at n e = absurd (no_set (slice_get xs at) e)
  where
    no_set : (o : Option (List ℕ)) → option_map Members o ≡ Some (Number n) → ⊥
    no_set None h = cc
    no_set (Some x) h = cc

truth_there : (held : Cells) (at : ℕ) (b : Bool) → cell_at held at ≡ Some (Truth b) → truth_cell held at ≡ b
truth_there (cells.Truths xs) at b e = (by_slot (slice_get xs at) e)
  where
    by_slot : (o : Option Bool) → option_map Truth o ≡ Some (Truth b) → unwrap_or o false ≡ b
    by_slot None h = absurd (cc h)
    by_slot (Some x) h = cc
truth_there (cells.Numbers xs) at b e = absurd (no_number (slice_get xs at) e)
  where
    no_number : (o : Option ℤ) → option_map Number o ≡ Some (Truth b) → ⊥
    no_number None h = cc
    no_number (Some x) h = cc
truth_there (cells.Sets object xs) at b e = absurd (no_set (slice_get xs at) e)
  where
    no_set : (o : Option (List ℕ)) → option_map Members o ≡ Some (Truth b) → ⊥
    no_set None h = cc
    no_set (Some x) h = cc

set_there : (held : Cells) (at : ℕ) (set : List ℕ) → cell_at held at ≡ Some (Members set) → set_cell held at ≡ set
set_there (cells.Sets object xs) at set e = (by_slot (slice_get xs at) e)
  where
    by_slot : (o : Option (List ℕ)) → option_map Members o ≡ Some (Members set) → unwrap_or o [] ≡ set
    by_slot None h = absurd (cc h)
    by_slot (Some x) h = cc
set_there (cells.Numbers xs) at set e = absurd (no_number (slice_get xs at) e)
  where
    no_number : (o : Option ℤ) → option_map Number o ≡ Some (Members set) → ⊥
    no_number None h = cc
    no_number (Some x) h = cc
set_there (cells.Truths xs) at set e = absurd (no_truth (slice_get xs at) e)
  where
    no_truth : (o : Option Bool) → option_map Truth o ≡ Some (Members set) → ⊥
    no_truth None h = cc
    no_truth (Some x) h = cc

-- an expression reads the cell that is there
pub reads_as : (m : Model) (t : ℕ) (table : TableData) (ks : List ℕ) (cell : Cell) → slice_get m.tables t ≡ Some table → AreBelow (counts_of m table.args) ks
    → cell_at table.cells (place_from 0 (counts_of m table.args) ks) ≡ Some cell → ReadsAs m t ks cell
reads_as m t table ks (Number n) at below is = λ s given.
    (value_of_number_cell m s t (as_arguments ks) given ∙ read_cell m s t table ks given number_cell at below ∙ ap Ok (number_there table.cells (place_from 0 (counts_of m table.args) ks) n is))
reads_as m t table ks (Truth b) at below is = λ s given.
    (value_of_truth_cell m s t (as_arguments ks) given ∙ read_cell m s t table ks given truth_cell at below ∙ ap Ok (truth_there table.cells (place_from 0 (counts_of m table.args) ks) b is))
reads_as m t table ks (Members set) at below is = λ s given.
    (value_of_set_cell m s t (as_arguments ks) given ∙ read_cell m s t table ks given set_cell at below ∙ ap Ok (set_there table.cells (place_from 0 (counts_of m table.args) ks) set is))
