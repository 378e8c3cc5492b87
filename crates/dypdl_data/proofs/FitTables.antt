-- Tables that are read fit a model.
use Rattle.std.proofs.Common.{◌≡◌, ◌≤◌, ℕ, zero, suc, ◌+◌, ◌*◌, ◌/◌, Bool, true, false, not, ◌&&◌, ◌||◌, ◌==◌, nat_lt, nat_le, max, List, [], ◌∷◌, ◌++◌, length, length-append, map, codes, replicate, slice_get, slice_set, get_or, Option, Some, None, Result, Ok, Err, IfOk, ℤ, neg_ℤ, refl, sym, ap, ◌∙◌, arith, append_assoc}
use Rattle.std.specs.List.{list_all, sum_by}
use Rattle.std.proofs.lemmas.List.{map-append, length-replicate, length-set}
use Rattle.std.proofs.lemmas.List.Sums.{sum_by-cons}
use Rattle.std.proofs.lemmas.Bool.Decides.{nat_tests}
use Rattle.std.proofs.lemmas.Result.{IfOk-weaker}
use Rattle.dp_base.specs.declared.place.Place.{Place}
use Rattle.dp_base.specs.Results.{◌>>=◌, each}
use Rattle.dp_model.specs.Costs.{greatest}
use Rattle.dp_model.specs.Limits.{has_most, is_name, is_small_table, cell_words, table_words}
use Rattle.dp_model.specs.Typing.{type_count, cell_count, is_in_range, is_set_below, are_numbers, are_cells, is_table}
use Rattle.dp_model.specs.declared.parts.ObjectType.{ObjectType}
use Rattle.dp_model.specs.declared.parts.Variable.{Variable}
use Rattle.dp_model.specs.declared.parts.Cells.{Cells}
use Rattle.dp_model.specs.declared.parts.Cells.TheVariants as cells
use Rattle.dp_model.specs.declared.parts.TableData.{TableData}
use Rattle.yaml_tree.specs.declared.tree.Tree.{Tree}
use Rattle.yaml_tree.specs.declared.tree.Pair.{Pair}
use Rattle.yaml_tree.specs.Fields.{tree_place, list_items, value_in}
use Rattle.dypdl_nodes.specs.Reads.{Reads, refuse, holds}
use Rattle.dypdl_nodes.specs.Shapes.{items_of, few_items, items_or_none, entries_of, entries_or_none, keyed, needed}
use Rattle.dypdl_nodes.specs.Scalars.{number_of, truth_of}
use Rattle.dypdl_data.specs.Names.{new_name, known_key}
use Rattle.dypdl_data.specs.Objects.{object_names, known_object}
use Rattle.dypdl_data.specs.Variables.{variable_names, object_at}
use Rattle.dypdl_data.specs.Tables.{table_keys, members_of, cell_of, plain_cell, default_of, type_of, cell_kind_of, arg_step, args_of, head_of, head_names, head_step, words_of_cell, words_of_head, few_words, heads_of, filled, is_element, blank_table}
use Rattle.dypdl_data.specs.Cells.{place_of, kind_of_cells, with_cell, held_count, Filling, filling_step, filled_by, Listing, CellsRead, item_step, listed, listed_or_filled, cells_given, table_given, changed_table, table_names, value_step, values_of, tables_of}
use Rattle.dypdl_data.specs.declared.kinds.TypeWord.{TypeWord}
use Rattle.dypdl_data.specs.declared.kinds.TypeWord.TheVariants as words
use Rattle.dypdl_data.specs.declared.kinds.CellKind.{CellKind}
use Rattle.dypdl_data.specs.declared.kinds.CellKind.TheVariants as kinds
use Rattle.dypdl_data.specs.declared.kinds.Cell.{Cell}
use Rattle.dypdl_data.specs.declared.kinds.Cell.TheVariants.{Number, Truth, Members}
use Rattle.dypdl_data.specs.declared.kinds.TableHead.{TableHead}
use Rattle.dypdl_data.specs.Laws.{are_new, FitTables}
use Rattle.dypdl_data.proofs.Steps.{after, then_if, each_keeps, each_counts, both_known, few_fit, few_or_none_fit, no_more, if_allowed, both, first, second, all_push, all_at, all_replicate, set_keeps}
use Rattle.dypdl_data.proofs.FitNames.{IsNew, new_is_new, new_push}
use Rattle.dypdl_data.proofs.FitVariables.{object_below, object_at_below}
use Rattle.dypdl_data.proofs.FitTarget.{number_fits, members_fit}

-- ---- cells

abbrev cell_fits : List ObjectType → CellKind → Cell → Bool
cell_fits os kinds.Integer (Number n) = is_in_range n
cell_fits os kinds.Element (Number n) = is_in_range n
cell_fits os kinds.Truth (Truth b) = true
cell_fits os (kinds.Set object) (Members set) = is_set_below (type_count os object) set
cell_fits os kind cell = false

abbrev CellFits : List ObjectType → CellKind → Cell → Type 0
CellFits os kind cell = cell_fits os kind cell ≡ true

all_ok : {A E : Type 0} (P : A → Type 0) (r : Result A E) → ((x : A) → P x) → IfOk r P
all_ok P (Ok x) h = h x
all_ok P (Err e) h = tt

cell_of_fits : (os : List ObjectType) (kind : CellKind) (tree : Tree) → IfOk (cell_of os kind tree) (CellFits os kind)
cell_of_fits os kinds.Integer tree = then_if (λ n. is_in_range n ≡ true) (CellFits os kinds.Integer) (number_of tree) (λ n. Ok (Number n)) (number_fits (neg_ℤ greatest) greatest tree) (λ n h. h)
cell_of_fits os kinds.Element tree = then_if (λ n. is_in_range n ≡ true) (CellFits os kinds.Element) (number_of tree) (λ n. Ok (Number n)) (number_fits (neg_ℤ greatest) greatest tree) (λ n h. h)
cell_of_fits os kinds.Truth tree = after (CellFits os kinds.Truth) (truth_of tree) (λ b. Ok (Truth b)) (λ b. refl)
cell_of_fits os (kinds.Set object) tree = then_if (λ set. is_set_below (type_count os object) set ≡ true) (CellFits os (kinds.Set object)) (members_of (type_count os object) tree) (λ set. Ok (Members set)) (members_fit (type_count os object) tree) (λ set h. h)

plain_fits : (os : List ObjectType) (kind : CellKind) → CellFits os kind (plain_cell kind)
plain_fits os kinds.Integer = refl
plain_fits os kinds.Element = refl
plain_fits os kinds.Truth = refl
plain_fits os (kinds.Set object) = refl

default_fits : (os : List ObjectType) (kind : CellKind) (tree : Option Tree) → IfOk (default_of os kind tree) (CellFits os kind)
default_fits os kind None = plain_fits os kind
default_fits os kind (Some tree) = cell_of_fits os kind tree

-- ---- heads

abbrev are_below : List ObjectType → List ℕ → Bool
are_below os args = list_all (λ object. nat_lt object (length os)) args

abbrev is_kind_of : List ObjectType → CellKind → Bool
is_kind_of os kinds.Integer = true
is_kind_of os kinds.Element = true
is_kind_of os kinds.Truth = true
is_kind_of os (kinds.Set object) = nat_lt object (length os)

cell_kind_fits : (os : List ObjectType) (at : Place) (entries : List Pair) (word : TypeWord) → IfOk (cell_kind_of os at entries word) (λ kind. is_kind_of os kind ≡ true)
cell_kind_fits os at entries words.Integer = refl
cell_kind_fits os at entries words.Element = refl
cell_kind_fits os at entries words.Truth = refl
cell_kind_fits os at entries words.Set = then_if (λ i. nat_lt i (length os) ≡ true) (λ kind. is_kind_of os kind ≡ true) (object_at os at entries) (λ o. Ok (kinds.Set o)) (object_at_below os at entries) (λ o h. h)

record FitArgs (os : List ObjectType) (args : List ℕ) : Type 0 where
  below : are_below os args ≡ true
  few : has_most 4 args ≡ true

one_arg : (os : List ObjectType) (done : List ℕ) (item : Tree) → are_below os done ≡ true → IfOk (arg_step os done item) (λ args. are_below os args ≡ true)
one_arg os done item h =
    then_if (λ i. nat_lt i (length os) ≡ true) (λ args. are_below os args ≡ true) (known_object os item) (λ o. Ok (done ++ o ∷ [])) (object_below os item)
    (λ o below. all_push (λ object. nat_lt object (length os)) done o h below)

arg_longer : (os : List ObjectType) (done : List ℕ) (item : Tree) → IfOk (arg_step os done item) (λ args. length args ≡ length done + 1)
arg_longer os done item = after (λ args. length args ≡ length done + 1) (known_object os item) (λ o. Ok (done ++ o ∷ [])) (λ o. length-append done (o ∷ []))

fit_args : (os : List ObjectType) (r : Reads (List ℕ)) → IfOk r (λ args. are_below os args ≡ true) → IfOk r (λ args. length args ≤ 4) → IfOk r (FitArgs os)
fit_args os (Ok args) below few =
    let test : has_most 4 args ≡ true = grind (arith, nat_tests) in
    record { below = below; few = test }
fit_args os (Err e) below few = tt

args_fit : (os : List ObjectType) (tree : Option Tree) → IfOk (args_of os tree) (FitArgs os)
args_fit os tree =
    then_if (λ items. length items ≤ 4) (FitArgs os) (items_or_none 4 tree) (λ items. each (arg_step os) [] items) (few_or_none_fit 4 tree)
    (λ items few. fit_args os (each (arg_step os) [] items)
    (each_keeps (λ args. are_below os args ≡ true) (arg_step os) items [] (one_arg os) refl)
    (no_more (each (arg_step os) [] items) (length items) 4 few (each_counts length (arg_step os) items [] (arg_longer os))))

-- a head without its name
abbrev is_head : List ObjectType → TableHead → Bool
is_head os h = (are_below os h.args && has_most 4 h.args) && (is_kind_of os h.kind && (cell_fits os h.kind h.default && is_name h.name))

record HeadFits (os : List ObjectType) (taken : List (List ℕ)) (h : TableHead) : Type 0 where
  fit : is_head os h ≡ true
  new : IsNew taken h.name

head_fits : (os : List ObjectType) (taken : List (List ℕ)) (item : Tree) → IfOk (head_of os taken item) (HeadFits os taken)
unfolding head_of
head_fits os taken item =
    after (HeadFits os taken) (keyed table_keys item) _ (λ entries.
    after (HeadFits os taken) (needed (tree_place item) entries (codes "name")) _ (λ name_tree.
    after (HeadFits os taken) (needed (tree_place item) entries (codes "type")) _ (λ type_tree.
    then_if (IsNew taken) (HeadFits os taken) (new_name taken name_tree) _ (new_is_new taken name_tree) (λ name new.
    after (HeadFits os taken) (type_of type_tree) _ (λ word.
    then_if (FitArgs os) (HeadFits os taken) (args_of os (value_in (codes "args") entries)) _ (args_fit os (value_in (codes "args") entries)) (λ args below.
    then_if (λ kind. is_kind_of os kind ≡ true) (HeadFits os taken) (cell_kind_of os (tree_place item) entries word) _ (cell_kind_fits os (tree_place item) entries word) (λ kind of.
    then_if (CellFits os kind) (HeadFits os taken) (default_of os kind (value_in (codes "default") entries)) (λ default. Ok (record { name = name; args = args; kind = kind; default = default })) (default_fits os kind (value_in (codes "default") entries)) (λ default fits.
    record {
      fit = both (are_below os args && has_most 4 args) (is_kind_of os kind && (cell_fits os kind default && is_name name))
          (both (are_below os args) (has_most 4 args) below.below below.few)
          (both (is_kind_of os kind) (cell_fits os kind default && is_name name) of (both (cell_fits os kind default) (is_name name) fits new.name));
      new = new;
    }))))))))

-- ---- lists of heads

record Heads (os : List ObjectType) (vs : List Variable) (heads : List TableHead) : Type 0 where
  fit : list_all (is_head os) heads ≡ true
  different : are_new (object_names os ++ variable_names vs) (head_names heads) ≡ true

one_head : (os : List ObjectType) (vs : List Variable) (done : List TableHead) (item : Tree) → Heads os vs done → IfOk (head_step os vs done item) (Heads os vs)
one_head os vs done item h =
    then_if (HeadFits os (object_names os ++ (variable_names vs ++ head_names done))) (Heads os vs) (head_of os (object_names os ++ (variable_names vs ++ head_names done)) item) (λ h. Ok (done ++ h ∷ [])) (head_fits os (object_names os ++ (variable_names vs ++ head_names done)) item)
    (λ one k. record {
      fit = all_push (is_head os) done one h.fit k.fit;
      different = ap (λ (names : List (List ℕ)). are_new (object_names os ++ variable_names vs) names) (map-append (λ (h : TableHead). h.name) done (one ∷ []))
          ∙ new_push (object_names os ++ variable_names vs) (head_names done) one.name h.different (rw append_assoc k.new.fresh);
    })

head_longer : (os : List ObjectType) (vs : List Variable) (done : List TableHead) (item : Tree) → IfOk (head_step os vs done item) (λ heads. length heads ≡ length done + 1)
head_longer os vs done item = after (λ heads. length heads ≡ length done + 1) (head_of os (object_names os ++ (variable_names vs ++ head_names done)) item) (λ h. Ok (done ++ h ∷ [])) (λ h. length-append done (h ∷ []))

record HeadsFit (os : List ObjectType) (vs : List Variable) (heads : List TableHead) : Type 0 where
  all : Heads os vs heads
  few : length heads ≤ 1024
  words : nat_le (sum_by (words_of_head os) heads) 16777216 ≡ true

abbrev FewHeads : List ObjectType → List Variable → List TableHead → Type 0
FewHeads os vs heads = Heads os vs heads × (length heads ≤ 1024)

words_fit : (os : List ObjectType) (vs : List Variable) (at : Place) (heads : List TableHead) → FewHeads os vs heads → IfOk (few_words os at heads) (HeadsFit os vs)
words_fit os vs at heads h =
    if_allowed (HeadsFit os vs) (nat_le (sum_by (words_of_head os) heads) 16777216) (Ok heads) (refuse 49 at) (λ e. record { all = h.0; few = h.1; words = e }) (λ e. tt)

heads_fit : (os : List ObjectType) (vs : List Variable) (tree : Option Tree) → IfOk (heads_of os vs tree) (HeadsFit os vs)
heads_fit os vs None = record { all = record { fit = refl; different = refl }; few = omega arith; words = refl }
heads_fit os vs (Some tree) =
    then_if (λ items. length items ≤ 1024) (HeadsFit os vs) (few_items 1024 tree) (λ items. each (head_step os vs) [] items >>= few_words os (tree_place tree)) (few_fit 1024 tree) (λ items few.
    then_if (FewHeads os vs) (HeadsFit os vs) (each (head_step os vs) [] items) (few_words os (tree_place tree))
    (both_known (Heads os vs) (λ heads. length heads ≤ 1024) (each (head_step os vs) [] items)
    (each_keeps (Heads os vs) (head_step os vs) items [] (one_head os vs) (record { fit = refl; different = refl }))
    (no_more (each (head_step os vs) [] items) (length items) 1024 few (each_counts length (head_step os vs) items [] (head_longer os vs))))
    (λ heads h. words_fit os vs (tree_place tree) heads h))

-- ---- tables all of whose cells have the default

len_test : (k n : ℕ) → k ≡ n → (k == n) ≡ true
len_test k n e = grind (arith, nat_tests)

record Blank (os : List ObjectType) (kind : CellKind) (n : ℕ) (held : Cells) : Type 0 where
  fit : are_cells os n held ≡ true
  numbers : not (is_element kind) || are_numbers (Some held) ≡ true
  words : cell_words os held ≡ n * words_of_cell os kind

filled_fits : (os : List ObjectType) (kind : CellKind) (n : ℕ) (cell : Cell) → is_kind_of os kind ≡ true → CellFits os kind cell → Blank os kind n (filled kind n cell)
filled_fits os kinds.Integer n (Number v) of fits = record {
  fit = both (length (replicate n v) == n) (list_all is_in_range (replicate n v)) (len_test _ n (length-replicate n v)) (all_replicate is_in_range n v fits);
  numbers = refl;
  words = omega (arith, length-replicate n v);
}
filled_fits os kinds.Element n (Number v) of fits = record {
  fit = both (length (replicate n v) == n) (list_all is_in_range (replicate n v)) (len_test _ n (length-replicate n v)) (all_replicate is_in_range n v fits);
  numbers = refl;
  words = omega (arith, length-replicate n v);
}
filled_fits os kinds.Truth n (Truth b) of fits = record {
  fit = len_test (length (replicate n b)) n (length-replicate n b);
  numbers = refl;
  words = omega (arith, length-replicate n b);
}
filled_fits os (kinds.Set object) n (Members set) of fits = record {
  fit = both (length (replicate n set) == n) (nat_lt object (length os) && list_all (is_set_below (type_count os object)) (replicate n set)) (len_test _ n (length-replicate n set))
      (both (nat_lt object (length os)) (list_all (is_set_below (type_count os object)) (replicate n set)) of (all_replicate (is_set_below (type_count os object)) n set fits));
  numbers = refl;
  words = ap (λ (k : ℕ). k * max 1 ((type_count os object + 1) / 2)) (length-replicate n set);
}
filled_fits os kinds.Integer n (Truth b) of fits = absurd (cc fits)
filled_fits os kinds.Integer n (Members set) of fits = absurd (cc fits)
filled_fits os kinds.Element n (Truth b) of fits = absurd (cc fits)
filled_fits os kinds.Element n (Members set) of fits = absurd (cc fits)
filled_fits os kinds.Truth n (Number v) of fits = absurd (cc fits)
filled_fits os kinds.Truth n (Members set) of fits = absurd (cc fits)
filled_fits os (kinds.Set object) n (Number v) of fits = absurd (cc fits)
filled_fits os (kinds.Set object) n (Truth b) of fits = absurd (cc fits)

record TableFits (os : List ObjectType) (t : TableData) : Type 0 where
  fit : is_table os t ≡ true
  small : is_small_table t ≡ true

abbrev BlankFits : List ObjectType → TableHead → Type 0
BlankFits os h = TableFits os (blank_table os h) × (cell_words os (blank_table os h).cells ≡ words_of_head os h)

blank_fits : (os : List ObjectType) (h : TableHead) → is_head os h ≡ true → BlankFits os h
blank_fits os h e =
    let args : are_below os h.args && has_most 4 h.args ≡ true = first (are_below os h.args && has_most 4 h.args) (is_kind_of os h.kind && (cell_fits os h.kind h.default && is_name h.name)) e in
    let more : is_kind_of os h.kind && (cell_fits os h.kind h.default && is_name h.name) ≡ true = second (are_below os h.args && has_most 4 h.args) (is_kind_of os h.kind && (cell_fits os h.kind h.default && is_name h.name)) e in
    let rest : cell_fits os h.kind h.default && is_name h.name ≡ true = second (is_kind_of os h.kind) (cell_fits os h.kind h.default && is_name h.name) more in
    let n : ℕ = cell_count os h.args in
    let held : Cells = filled h.kind n h.default in
    let blank : Blank os h.kind n held = filled_fits os h.kind n h.default (first (is_kind_of os h.kind) (cell_fits os h.kind h.default && is_name h.name) more) (first (cell_fits os h.kind h.default) (is_name h.name) rest) in (
      record {
        fit = both (are_below os h.args) (are_cells os n held && (not (is_element h.kind) || are_numbers (Some held))) (first (are_below os h.args) (has_most 4 h.args) args)
            (both (are_cells os n held) (not (is_element h.kind) || are_numbers (Some held)) blank.fit blank.numbers);
        small = both (is_name h.name) (has_most 4 h.args) (second (cell_fits os h.kind h.default) (is_name h.name) rest) (second (are_below os h.args) (has_most 4 h.args) args);
      },
      blank.words,
    )

record Tables (os : List ObjectType) (total : ℕ) (names : List (List ℕ)) (count : ℕ) (ts : List TableData) : Type 0 where
  fit : list_all (is_table os) ts ≡ true
  small : list_all is_small_table ts ≡ true
  words : table_words os ts ≡ total
  named : table_names ts ≡ names
  counted : length ts ≡ count

blanks_fit : (os : List ObjectType) (heads : List TableHead) → list_all (is_head os) heads ≡ true → Tables os (sum_by (words_of_head os) heads) (head_names heads) (length heads) (map (blank_table os) heads)
blanks_fit os [] e = record { fit = refl; small = refl; words = refl; named = refl; counted = refl }
blanks_fit os (h ∷ heads) e =
    let one : BlankFits os h = blank_fits os h (first (is_head os h) (list_all (is_head os) heads) e) in
    let more : Tables os (sum_by (words_of_head os) heads) (head_names heads) (length heads) (map (blank_table os) heads) = blanks_fit os heads (second (is_head os h) (list_all (is_head os) heads) e) in
    record {
      fit = both (is_table os (blank_table os h)) (list_all (is_table os) (map (blank_table os) heads)) one.0.fit more.fit;
      small = both (is_small_table (blank_table os h)) (list_all is_small_table (map (blank_table os) heads)) one.0.small more.small;
      words = sum_by-cons (λ (t : TableData). cell_words os t.cells) (blank_table os h) (map (blank_table os) heads) ∙ ap (λ (n : ℕ). n + table_words os (map (blank_table os) heads)) one.1 ∙ ap (λ (n : ℕ). words_of_head os h + n) more.words ∙ sym (sum_by-cons (words_of_head os) h heads);
      named = ap (λ (ns : List (List ℕ)). h.name ∷ ns) more.named;
      counted = ap (λ (n : ℕ). suc n) more.counted;
    }

-- ---- cells that are given

record Same (os : List ObjectType) (element : Bool) (n : ℕ) (old new : Cells) : Type 0 where
  fit : are_cells os n new ≡ true
  kind : kind_of_cells element new ≡ kind_of_cells element old
  numbers : are_numbers (Some new) ≡ are_numbers (Some old)
  words : cell_words os new ≡ cell_words os old

numbers_set : (os : List ObjectType) (element : Bool) (n : ℕ) (xs : List ℤ) (i : ℕ) (v : ℤ) → are_cells os n (cells.Numbers xs) ≡ true → is_in_range v ≡ true → Same os element n (cells.Numbers xs) (cells.Numbers (slice_set xs i v))
numbers_set os element n xs i v e fits = record {
  fit = both (length (slice_set xs i v) == n) (list_all is_in_range (slice_set xs i v)) (ap (λ (k : ℕ). k == n) (length-set xs i v) ∙ first (length xs == n) (list_all is_in_range xs) e) (set_keeps is_in_range xs i v (second (length xs == n) (list_all is_in_range xs) e) fits);
  kind = refl;
  numbers = refl;
  words = length-set xs i v;
}

cell_set : (os : List ObjectType) (element : Bool) (n : ℕ) (held : Cells) (i : ℕ) (cell : Cell) → are_cells os n held ≡ true → CellFits os (kind_of_cells element held) cell → Same os element n held (with_cell held i cell)
cell_set os true n (cells.Numbers xs) i (Number v) e fits = numbers_set os true n xs i v e fits
cell_set os false n (cells.Numbers xs) i (Number v) e fits = numbers_set os false n xs i v e fits
cell_set os element n (cells.Truths xs) i (Truth b) e fits = record {
  fit = ap (λ (k : ℕ). k == n) (length-set xs i b) ∙ e;
  kind = refl;
  numbers = refl;
  words = length-set xs i b;
}
cell_set os element n (cells.Sets object xs) i (Members set) e fits =
    let below : nat_lt object (length os) && list_all (is_set_below (type_count os object)) xs ≡ true = second (length xs == n) (nat_lt object (length os) && list_all (is_set_below (type_count os object)) xs) e in
    record {
      fit = both (length (slice_set xs i set) == n) (nat_lt object (length os) && list_all (is_set_below (type_count os object)) (slice_set xs i set)) (ap (λ (k : ℕ). k == n) (length-set xs i set) ∙ first (length xs == n) (nat_lt object (length os) && list_all (is_set_below (type_count os object)) xs) e)
          (both (nat_lt object (length os)) (list_all (is_set_below (type_count os object)) (slice_set xs i set)) (first (nat_lt object (length os)) (list_all (is_set_below (type_count os object)) xs) below)
          (set_keeps (is_set_below (type_count os object)) xs i set (second (nat_lt object (length os)) (list_all (is_set_below (type_count os object)) xs) below) fits));
      kind = refl;
      numbers = refl;
      words = ap (λ (k : ℕ). k * max 1 ((type_count os object + 1) / 2)) (length-set xs i set);
    }
cell_set os true n (cells.Numbers xs) i (Truth b) e fits = absurd (cc fits)
cell_set os true n (cells.Numbers xs) i (Members set) e fits = absurd (cc fits)
cell_set os false n (cells.Numbers xs) i (Truth b) e fits = absurd (cc fits)
cell_set os false n (cells.Numbers xs) i (Members set) e fits = absurd (cc fits)
cell_set os element n (cells.Truths xs) i (Number v) e fits = absurd (cc fits)
cell_set os element n (cells.Truths xs) i (Members set) e fits = absurd (cc fits)
cell_set os element n (cells.Sets object xs) i (Number v) e fits = absurd (cc fits)
cell_set os element n (cells.Sets object xs) i (Truth b) e fits = absurd (cc fits)

cell_set_on : (os : List ObjectType) (element : Bool) (n : ℕ) (old held : Cells) (i : ℕ) (cell : Cell) → Same os element n old held → CellFits os (kind_of_cells element old) cell → Same os element n old (with_cell held i cell)
cell_set_on os element n old held i cell h fits =
    let here : CellFits os (kind_of_cells element held) cell = ap (λ (kind : CellKind). cell_fits os kind cell) h.kind ∙ fits in
    let more : Same os element n held (with_cell held i cell) = cell_set os element n held i cell h.fit here in
    record { fit = more.fit; kind = more.kind ∙ h.kind; numbers = more.numbers ∙ h.numbers; words = more.words ∙ h.words }

same_itself : (os : List ObjectType) (element : Bool) (n : ℕ) (held : Cells) → are_cells os n held ≡ true → Same os element n held held
same_itself os element n held e = record { fit = e; kind = refl; numbers = refl; words = refl }

one_filled : (os : List ObjectType) (element : Bool) (n : ℕ) (counts : List ℕ) (old : Cells) (filling : Filling) (pair : Pair) → Same os element n old filling.cells → IfOk (filling_step os counts (kind_of_cells element old) filling pair) (λ f. Same os element n old f.cells)
one_filled os element n counts old filling pair h =
    after (λ f. Same os element n old f.cells) (place_of counts pair.key) _ (λ i.
    after (λ f. Same os element n old f.cells) (holds (not (get_or filling.given i false)) 43 (tree_place pair.key)) _ (λ fresh.
    then_if (CellFits os (kind_of_cells element old)) (λ f. Same os element n old f.cells) (cell_of os (kind_of_cells element old) pair.value) (λ cell. Ok (record { cells = with_cell filling.cells i cell; given = slice_set filling.given i true })) (cell_of_fits os (kind_of_cells element old) pair.value)
    (λ cell fits. cell_set_on os element n old filling.cells i cell h fits)))

filled_same : (os : List ObjectType) (element : Bool) (n : ℕ) (counts : List ℕ) (held : Cells) (tree : Tree) → are_cells os n held ≡ true → IfOk (filled_by os counts (kind_of_cells element held) held tree) (Same os element n held)
filled_same os element n counts held tree e =
    let step : Filling → Pair → Reads Filling = filling_step os counts (kind_of_cells element held) in
    let start : Filling = record { cells = held; given = replicate (held_count held) false } in
    after (Same os element n held) (entries_of tree) (λ entries. each step start entries >>= λ filling. Ok filling.cells) (λ entries.
    then_if (λ f. Same os element n held f.cells) (Same os element n held) (each step start entries) (λ filling. Ok filling.cells)
    (each_keeps (λ f. Same os element n held f.cells) step entries start (λ f pair h. one_filled os element n counts held f pair h) (same_itself os element n held e))
    (λ f h. h))

-- lists keep what their items keep
abbrev ReadsSame : List ObjectType → Bool → ℕ → Cells → CellsRead → Type 0
ReadsSame os element n old Inner = (at : ℕ) (held : Cells) (tree : Tree) → Same os element n old held → IfOk (Inner at held tree) (Same os element n old)

one_listed : (os : List ObjectType) (element : Bool) (n : ℕ) (old : Cells) (count : ℕ) (Inner : CellsRead) (at : ℕ) (listing : Listing) (item : Tree) → ReadsSame os element n old Inner → Same os element n old listing.cells → IfOk (item_step count Inner at listing item) (λ l. Same os element n old l.cells)
one_listed os element n old count Inner at listing item keeps h =
    after (λ l. Same os element n old l.cells) (holds (nat_lt listing.next count) 44 (tree_place item)) _ (λ below.
    then_if (Same os element n old) (λ l. Same os element n old l.cells) (Inner (at * count + listing.next) listing.cells item) (λ held. Ok (record { next = listing.next + 1; cells = held })) (keeps (at * count + listing.next) listing.cells item h)
    (λ held k. k))

listed_same : (os : List ObjectType) (element : Bool) (n : ℕ) (old : Cells) (counts : List ℕ) → ReadsSame os element n old (listed os (kind_of_cells element old) counts)
listed_same os element n old [] at held tree h =
    then_if (CellFits os (kind_of_cells element old)) (Same os element n old) (cell_of os (kind_of_cells element old) tree) (λ cell. Ok (with_cell held at cell)) (cell_of_fits os (kind_of_cells element old) tree)
    (λ cell fits. cell_set_on os element n old held at cell h fits)
listed_same os element n old (count ∷ counts) at held tree h =
    let step : Listing → Tree → Reads Listing = item_step count (listed os (kind_of_cells element old) counts) at in
    let start : Listing = record { next = 0; cells = held } in
    after (Same os element n old) (items_of tree) (λ items. each step start items >>= λ listing. Ok listing.cells) (λ items.
    then_if (λ l. Same os element n old l.cells) (Same os element n old) (each step start items) (λ listing. Ok listing.cells)
    (each_keeps (λ l. Same os element n old l.cells) step items start (λ l item k. one_listed os element n old count (listed os (kind_of_cells element old) counts) at l item (listed_same os element n old counts) k) h)
    (λ l k. k))

listed_or_filled_same : (os : List ObjectType) (element : Bool) (n : ℕ) (counts : List ℕ) (held : Cells) (tree : Tree) (o : Option (List Tree)) → are_cells os n held ≡ true → IfOk (listed_or_filled os counts (kind_of_cells element held) held tree o) (Same os element n held)
listed_or_filled_same os element n counts held tree (Some items) e = listed_same os element n held counts 0 held tree (same_itself os element n held e)
listed_or_filled_same os element n counts held tree None e = filled_same os element n counts held tree e

given_same : (os : List ObjectType) (element : Bool) (n : ℕ) (args : List ℕ) (held : Cells) (tree : Tree) → are_cells os n held ≡ true → IfOk (cells_given os args (kind_of_cells element held) held tree) (Same os element n held)
given_same os element n [] held tree e =
    then_if (CellFits os (kind_of_cells element held)) (Same os element n held) (cell_of os (kind_of_cells element held) tree) (λ cell. Ok (with_cell held 0 cell)) (cell_of_fits os (kind_of_cells element held) tree)
    (λ cell fits. cell_set os element n held 0 cell e fits)
given_same os element n (arg ∷ args) held tree e = listed_or_filled_same os element n (map (type_count os) (arg ∷ args)) held tree (list_items tree) e

record Changed (os : List ObjectType) (old new : TableData) : Type 0 where
  fit : is_table os new ≡ true
  small : is_small_table new ≡ true
  words : cell_words os new.cells ≡ cell_words os old.cells
  name : new.name ≡ old.name

table_changed : (os : List ObjectType) (t : TableData) (tree : Tree) → is_table os t ≡ true → is_small_table t ≡ true → IfOk (table_given os t tree) (Changed os t)
table_changed os t tree e small =
    let n : ℕ = cell_count os t.args in
    let args : are_below os t.args ≡ true = first (are_below os t.args) (are_cells os n t.cells && (not t.element || are_numbers (Some t.cells))) e in
    let rest : are_cells os n t.cells && (not t.element || are_numbers (Some t.cells)) ≡ true = second (are_below os t.args) (are_cells os n t.cells && (not t.element || are_numbers (Some t.cells))) e in
    then_if (Same os t.element n t.cells) (Changed os t) (cells_given os t.args (kind_of_cells t.element t.cells) t.cells tree) (λ held. Ok (record t { cells = held })) (given_same os t.element n t.args t.cells tree (first (are_cells os n t.cells) (not t.element || are_numbers (Some t.cells)) rest))
    (λ held h. record {
      fit = both (are_below os t.args) (are_cells os n held && (not t.element || are_numbers (Some held))) args (both (are_cells os n held) (not t.element || are_numbers (Some held)) h.fit
          (ap (λ (b : Bool). not t.element || b) h.numbers ∙ second (are_cells os n t.cells) (not t.element || are_numbers (Some t.cells)) rest));
      small = small;
      words = h.words;
      name = refl;
    })

-- ---- lists of tables

map_set : {B : Type 0} (f : TableData → B) (ts : List TableData) (i : ℕ) (old new : TableData) → slice_get ts i ≡ Some old → f new ≡ f old → map f (slice_set ts i new) ≡ map f ts
map_set f [] i old new there e = absurd (cc there)
map_set f (t ∷ ts) zero old new there e =
    let same : old ≡ t = cc in
    ap (λ b. b ∷ map f ts) (e ∙ ap f same)
map_set f (t ∷ ts) (suc i) old new there e = ap (λ bs. f t ∷ bs) (map_set f ts i old new there e)

sum_set : (f : TableData → ℕ) (ts : List TableData) (i : ℕ) (old new : TableData) → slice_get ts i ≡ Some old → f new ≡ f old → sum_by f (slice_set ts i new) ≡ sum_by f ts
sum_set f [] i old new there e = absurd (cc there)
sum_set f (t ∷ ts) zero old new there e =
    let same : old ≡ t = cc in
    sum_by-cons f new ts ∙ ap (λ (n : ℕ). n + sum_by f ts) (e ∙ ap f same) ∙ sym (sum_by-cons f t ts)
sum_set f (t ∷ ts) (suc i) old new there e =
    sum_by-cons f t (slice_set ts i new) ∙ ap (λ (n : ℕ). f t + n) (sum_set f ts i old new there e) ∙ sym (sum_by-cons f t ts)

module _ (os : List ObjectType) (total : ℕ) (names : List (List ℕ)) (count : ℕ) where
  abbrev Keeps : List TableData → Type 0
  Keeps ts = Tables os total names count ts

  at_changed : (ts : List TableData) (i : ℕ) (tree : Tree) (o : Option TableData) → slice_get ts i ≡ o → Keeps ts → IfOk (changed_table os ts i tree o) Keeps
  at_changed ts i tree None there h = h
  at_changed ts i tree (Some t) there h =
      then_if (Changed os t) Keeps (table_given os t tree) (λ changed. Ok (slice_set ts i changed)) (table_changed os t tree (all_at (is_table os) ts i t h.fit there) (all_at is_small_table ts i t h.small there))
      (λ new c. record {
        fit = set_keeps (is_table os) ts i new h.fit c.fit;
        small = set_keeps is_small_table ts i new h.small c.small;
        words = sum_set (λ (t : TableData). cell_words os t.cells) ts i t new there c.words ∙ h.words;
        named = map_set (λ (t : TableData). t.name) ts i t new there c.name ∙ h.named;
        counted = length-set ts i new ∙ h.counted;
      })

  one_value : (ts : List TableData) (pair : Pair) → Keeps ts → IfOk (value_step os ts pair) Keeps
  one_value ts pair h =
      after Keeps (known_key 30 (table_names ts) pair.key) (λ i. changed_table os ts i pair.value (slice_get ts i))
      (λ i. at_changed ts i pair.value (slice_get ts i) refl h)

  values_keep : (ts : List TableData) (given : Option Tree) → Keeps ts → IfOk (values_of os ts given) Keeps
  values_keep ts given h =
      after Keeps (entries_or_none given) (λ entries. each (value_step os) ts entries)
      (λ entries. each_keeps Keeps (value_step os) entries ts one_value h)

fit_tables : (os : List ObjectType) (vs : List Variable) (heads : List TableHead) (ts : List TableData) → HeadsFit os vs heads → Tables os (sum_by (words_of_head os) heads) (head_names heads) (length heads) ts → FitTables os vs ts
fit_tables os vs heads ts h k =
    let few : length ts ≤ 1024 = omega (arith, k.counted, h.few) in
    let few_test : has_most 1024 ts ≡ true = grind (arith, nat_tests) in
    record {
      few = few_test;
      small = k.small;
      fit = k.fit;
      words = ap (λ (n : ℕ). nat_le n 16777216) k.words ∙ h.words;
      different = ap (λ (names : List (List ℕ)). are_new (object_names os ++ variable_names vs) names) k.named ∙ h.all.different;
    }

pub tables_fit : (os : List ObjectType) (vs : List Variable) (declared given : Option Tree) → IfOk (tables_of os vs declared given) (FitTables os vs)
tables_fit os vs declared given =
    then_if (HeadsFit os vs) (FitTables os vs) (heads_of os vs declared) (λ heads. values_of os (map (blank_table os) heads) given) (heads_fit os vs declared)
    (λ heads h. IfOk-weaker (values_of os (map (blank_table os) heads) given) (Tables os (sum_by (words_of_head os) heads) (head_names heads) (length heads)) (FitTables os vs) (λ ts k. fit_tables os vs heads ts h k)
    (values_keep os (sum_by (words_of_head os) heads) (head_names heads) (length heads) (map (blank_table os) heads) given (blanks_fit os heads h.all.fit)))

cells_counted : (os : List ObjectType) (n : ℕ) (held : Cells) → are_cells os n held ≡ true → held_count held ≡ n
cells_counted os n (cells.Numbers xs) e =
    let test : (length xs == n) ≡ true = first (length xs == n) (list_all is_in_range xs) e in
    grind (arith, nat_tests)
cells_counted os n (cells.Truths xs) e = grind (arith, nat_tests)
cells_counted os n (cells.Sets object xs) e =
    let test : (length xs == n) ≡ true = first (length xs == n) (nat_lt object (length os) && list_all (is_set_below (type_count os object)) xs) e in
    grind (arith, nat_tests)

pub tables_full : (os : List ObjectType) (vs : List Variable) (ts : List TableData) (k : ℕ) (t : TableData) → FitTables os vs ts → slice_get ts k ≡ Some t → held_count t.cells ≡ cell_count os t.args
tables_full os vs ts k t h there =
    let n : ℕ = cell_count os t.args in
    let rest : are_cells os n t.cells && (not t.element || are_numbers (Some t.cells)) ≡ true = second (are_below os t.args) (are_cells os n t.cells && (not t.element || are_numbers (Some t.cells))) (all_at (is_table os) ts k t h.fit there) in
    cells_counted os n t.cells (first (are_cells os n t.cells) (not t.element || are_numbers (Some t.cells)) rest)
