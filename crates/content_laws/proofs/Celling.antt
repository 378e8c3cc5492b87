-- The cells of a model: what is written is what an expression reads, and else the default.
use Rattle.std.proofs.Common.{◌≡◌, ℕ, zero, suc, ◌<◌, Bool, true, ◌==◌, List, [], ◌∷◌, length, map, replicate, Option, Some, None, Ok, ⊎_elim, refl, sym, ap, ◌∙◌, subst, arith}
use Rattle.std.specs.Prelude.{codes, slice_get, slice_set, option_map}
use Rattle.std.specs.List.{Contains, list_all}
use Rattle.std.proofs.lemmas.Bool.{and_parts}
use Rattle.std.proofs.lemmas.Bool.Decides.{Decides-eqb}
use Rattle.std.proofs.lemmas.Option.{slice_get-map}
use Rattle.dp_base.specs.Results.{each}
use Rattle.dp_model.specs.Evaluation.{place_from, counts_of}
use Rattle.dp_model.specs.Typing.{type_count, cell_count, is_in_range, are_cells, is_table}
use Rattle.dp_model.specs.declared.parts.ObjectType.{ObjectType}
use Rattle.dp_model.specs.declared.parts.Variable.{Variable}
use Rattle.dp_model.specs.declared.parts.Cells.{Cells}
use Rattle.dp_model.specs.declared.parts.Cells.TheVariants as cells
use Rattle.dp_model.specs.declared.parts.TableData.{TableData}
use Rattle.dp_model.specs.declared.whole.Model.{Model}
use Rattle.yaml_tree.specs.declared.tree.Tree.{Tree}
use Rattle.yaml_tree.specs.declared.tree.Pair.{Pair}
use Rattle.yaml_tree.specs.Fields.{map_entries, value_in}
use Rattle.dypdl_nodes.specs.Shapes.{entries_or_none}
use Rattle.dypdl_data.specs.Names.{number_named, known_key}
use Rattle.dypdl_data.specs.Tables.{cell_of, heads_of, filled, blank_table}
use Rattle.dypdl_data.specs.Cells.{kind_of_cells, held_count, table_given, changed_table, table_names, value_step, values_of, tables_of}
use Rattle.dypdl_data.specs.declared.kinds.CellKind.{CellKind}
use Rattle.dypdl_data.specs.declared.kinds.CellKind.TheVariants as kinds
use Rattle.dypdl_data.specs.declared.kinds.Cell.{Cell}
use Rattle.dypdl_data.specs.declared.kinds.Cell.TheVariants.{Number, Truth, Members}
use Rattle.dypdl_data.specs.declared.kinds.TableHead.{TableHead}
use Rattle.dypdl_rules.specs.Expressions.{Reading}
use Rattle.dypdl_load.specs.Meaning.{Parts, parts_of, meaning}
use Rattle.dypdl_load.proofs.Lists.{bound}
use Rattle.content_laws.specs.Entries.{IsOnly}
use Rattle.content_laws.specs.Files.{under_key}
use Rattle.content_laws.specs.CellTexts.{ReadsAs, IsWritten, AreBelow, IsTable, LawGivenCell, IsLeft, LawDefaultCell}
use Rattle.content_laws.proofs.Members.{contains_at}
use Rattle.content_laws.proofs.Outcomes.{ok_same}
use Rattle.content_laws.proofs.Meanings.{meaning_steps}
use Rattle.content_laws.proofs.Forms.{reads_as}
use Rattle.content_laws.proofs.Filling.{cell_at}
use Rattle.content_laws.proofs.Apart.{members_below, place_below}
use Rattle.content_laws.proofs.Listing.{item_below}
use Rattle.content_laws.proofs.Tabling.{Changed, table_told, names_set, at_end, by_only, by_none}
use Rattle.content_laws.proofs.Targeting.{name_at, entries_are}

-- ---- what is there

some_same : {A : Type 0} (a b : A) → Some a ≡ Some b → a ≡ b
some_same a b e = cc

cells_counted : (objects : List ObjectType) (n : ℕ) (held : Cells) → are_cells objects n held ≡ true → held_count held ≡ n
cells_counted objects n (cells.Numbers xs) e = (Decides-eqb (length xs) n).0 (and_parts (length xs == n) (list_all is_in_range xs) e).0
cells_counted objects n (cells.Truths xs) e = (Decides-eqb (length xs) n).0 e
cells_counted objects n (cells.Sets object xs) e = (Decides-eqb (length xs) n).0 (and_parts (length xs == n) _ e).0

all_at : {A : Type 0} (p : A → Bool) (xs : List A) (i : ℕ) (x : A) → list_all p xs ≡ true → slice_get xs i ≡ Some x → p x ≡ true
all_at p [] i x h e = absurd (cc)
all_at p (y ∷ ys) zero x h e = let same : y ≡ x = cc in rw (← same) ((and_parts (p y) (list_all p ys) h).0)
all_at p (y ∷ ys) (suc i) x h e = all_at p ys i x (and_parts (p y) (list_all p ys) h).1 e

-- a table of a model has a cell for each choice of arguments
full : (m : Model) (t : ℕ) (table : TableData) → slice_get m.tables t ≡ Some table → held_count table.cells ≡ cell_count m.objects table.args
full m t table at =
    let fits : is_table m.objects table ≡ true = all_at (is_table m.objects) m.tables t table m.cells at in
    let inner = (and_parts _ _ fits).1 in
    cells_counted m.objects (cell_count m.objects table.args) table.cells (and_parts (are_cells m.objects (cell_count m.objects table.args) table.cells) _ inner).0

counts_are : (m : Model) (args : List ℕ) → counts_of m args ≡ map (type_count m.objects) args
counts_are m [] = refl
counts_are m (arg ∷ args) = ap (λ (cs : List ℕ). type_count m.objects arg ∷ cs) (counts_are m args)

copied : {A : Type 0} (n i : ℕ) (x : A) → i < n → slice_get (replicate n x) i ≡ Some x
copied zero i x less = absurd (omega arith)
copied (suc n) zero x less = refl
copied (suc n) (suc i) x less = copied n i x (omega arith)

length_copies : {A : Type 0} (n i : ℕ) (x : A) → i < length (replicate n x) → i < n
length_copies zero i x less = less
length_copies (suc n) zero x less = omega arith
length_copies (suc n) (suc i) x less = (let shorter = length_copies n i x (omega arith) in omega (arith, shorter))

blank_cell : (kind : CellKind) (n : ℕ) (cell : Cell) (i : ℕ) → i < held_count (filled kind n cell) → cell_at (filled kind n cell) i ≡ Some cell
blank_cell kinds.Integer n (Number x) i less = ap (option_map Number) (copied n i x (length_copies n i x less))
blank_cell kinds.Integer n (Truth b) i less = absurd (omega arith)
blank_cell kinds.Integer n (Members set) i less = absurd (omega arith)
blank_cell kinds.Element n (Number x) i less = ap (option_map Number) (copied n i x (length_copies n i x less))
blank_cell kinds.Element n (Truth b) i less = absurd (omega arith)
blank_cell kinds.Element n (Members set) i less = absurd (omega arith)
blank_cell kinds.Truth n (Number x) i less = absurd (omega arith)
blank_cell kinds.Truth n (Truth b) i less = ap (option_map Truth) (copied n i b (length_copies n i b less))
blank_cell kinds.Truth n (Members set) i less = absurd (omega arith)
blank_cell (kinds.Set object) n (Number x) i less = absurd (omega arith)
blank_cell (kinds.Set object) n (Truth b) i less = absurd (omega arith)
blank_cell (kinds.Set object) n (Members set) i less = ap (option_map Members) (copied n i set (length_copies n i set less))

written_below : (counts : List ℕ) (tree : Tree) (ks : List ℕ) (value : Tree) → IsWritten counts tree ks value → AreBelow counts ks
written_below [] tree ks value is = subst (AreBelow []) (sym is.0) tt
written_below (count ∷ counts) tree ks value is =
    ⊎_elim (item_below (count ∷ counts) tree ks value) (λ entry. members_below (count ∷ counts) entry.2.items ks entry.2.are_members) is

-- ---- names stay

names_step : (objects : List ObjectType) (tables : List TableData) (pair : Pair) (next : List TableData) → value_step objects tables pair ≡ Ok next → table_names next ≡ table_names tables
names_step objects tables pair next e =
    let k = bound (known_key 30 (table_names tables) pair.key) (λ i. changed_table objects tables i pair.value (slice_get tables i)) next e in
    by_table k.0 (slice_get tables k.0) refl k.2
  where
    by_table : (k : ℕ) (o : Option TableData) → slice_get tables k ≡ o → changed_table objects tables k pair.value o ≡ Ok next → table_names next ≡ table_names tables
    by_table k None at gives = ap table_names (sym (ok_same tables next gives))
    by_table k (Some u) at gives =
        (let new = bound (table_given objects u pair.value) (λ changed. Ok (slice_set tables k changed)) next gives in
        let changed = table_told objects u pair.value new.0 new.1 in
        ap table_names (sym (ok_same (slice_set tables k new.0) next new.2)) ∙ names_set tables k u new.0 at changed.same.name)

names_kept : (objects : List ObjectType) (entries : List Pair) (tables end : List TableData) → each (value_step objects) tables entries ≡ Ok end → table_names end ≡ table_names tables
names_kept objects [] tables end e = ap table_names (sym (ok_same tables end e))
names_kept objects (pair ∷ entries) tables end e =
    let next = bound (value_step objects tables pair) (λ ts. each (value_step objects) ts entries) end e in
    names_kept objects entries next.0 end next.2 ∙ names_step objects tables pair next.0 next.1

-- ---- the tables of a model

-- the entries under `table_values`, where that key is there
record Entries (given : Option Tree) (entries : List Pair) : Type 0 where
  there : (values : Tree) → given ≡ Some values → entries ≡ map_entries values
  whose : (i : ℕ) (pair : Pair) → slice_get entries i ≡ Some pair → (values : Tree) × (given ≡ Some values) × Contains (map_entries values) pair

entries_of_given : (given : Option Tree) (entries : List Pair) → entries_or_none given ≡ Ok entries → Entries given entries
entries_of_given None entries e = record {
  there = λ values h. absurd (cc h);
  whose = λ i pair at. absurd (nothing i pair (ap (λ (es : List Pair). slice_get es i) (ok_same [] entries e) ∙ at));
}
  where
    nothing : (i : ℕ) (pair : Pair) → slice_get [] i ≡ Some pair → ⊥
    nothing i pair h = cc
entries_of_given (Some tree) entries e = record {
  there = λ values h. entries_are tree entries e ∙ ap map_entries (some_same tree values h);
  whose = λ i pair at. (tree, refl, contains_at (map_entries tree) i pair (ap (λ (es : List Pair). slice_get es i) (sym (entries_are tree entries e)) ∙ at));
}

-- what is known of one table of a model: its head, the entries, and what became of it
record TableSteps (objects : List ObjectType) (variables : List Variable) (declared given : Option Tree) (tables : List TableData) (name : List ℕ) (t : ℕ) : Type 0 where
  heads : List TableHead
  head : TableHead
  entries : List Pair
  is_heads : heads_of objects variables declared ≡ Ok heads
  is_head : slice_get heads t ≡ Some head
  is_entries : Entries given entries
  is_blank : slice_get (map (blank_table objects) heads) t ≡ Some (blank_table objects head)
  is_end : each (value_step objects) (map (blank_table objects) heads) entries ≡ Ok tables
  numbered : number_named (table_names (map (blank_table objects) heads)) name ≡ Some t

table_steps : (objects : List ObjectType) (variables : List Variable) (declared given : Option Tree) (tables : List TableData) (name : List ℕ) (t : ℕ)
    → tables_of objects variables declared given ≡ Ok tables → number_named (table_names tables) name ≡ Some t → TableSteps objects variables declared given tables name t
table_steps objects variables declared given tables name t e numbered =
    let heads = bound (heads_of objects variables declared) (λ heads. values_of objects (map (blank_table objects) heads) given) tables e in
    let blanks : List TableData = map (blank_table objects) heads.0 in
    let entries = bound (entries_or_none given) (λ entries. each (value_step objects) (map (blank_table objects) heads.0) entries) tables heads.2 in
    let names = names_kept objects entries.0 (map (blank_table objects) heads.0) tables entries.2 in
    let still : number_named (table_names (map (blank_table objects) heads.0)) name ≡ Some t = ap (λ (ns : List (List ℕ)). number_named ns name) (sym names) ∙ numbered in
    let at_name = name_at (table_names (map (blank_table objects) heads.0)) name t still in
    let at_blank : option_map (λ (u : TableData). u.name) (slice_get (map (blank_table objects) heads.0) t) ≡ Some name = sym (slice_get-map (λ (u : TableData). u.name) (map (blank_table objects) heads.0) t) ∙ at_name in
    let at_head : option_map (λ (u : TableData). u.name) (option_map (blank_table objects) (slice_get heads.0 t)) ≡ Some name = ap (option_map (λ (u : TableData). u.name)) (sym (slice_get-map (blank_table objects) heads.0 t)) ∙ at_blank in
    let head = some_head (slice_get heads.0 t) at_head in
    record {
      heads = heads.0;
      head = head.0;
      entries = entries.0;
      is_heads = heads.1;
      is_head = head.1;
      is_entries = entries_of_given given entries.0 entries.1;
      is_blank = slice_get-map (blank_table objects) heads.0 t ∙ ap (option_map (blank_table objects)) head.1;
      is_end = entries.2;
      numbered = still;
    }
  where
    some_head : (o : Option TableHead) → option_map (λ (u : TableData). u.name) (option_map (blank_table objects) o) ≡ Some name → (head : TableHead) × (o ≡ Some head)
    some_head None h = absurd (cc h)
    some_head (Some head) h = (head, refl)

tables_given : (read : Reading) (domain problem : Tree) (m : Model) → meaning read domain problem ≡ Ok (parts_of m)
    → tables_of m.objects m.variables (under_key domain (codes "tables")) (under_key problem (codes "table_values")) ≡ Ok m.tables
tables_given read domain problem m means =
    let s = meaning_steps read domain problem (parts_of m) means in
    subst (λ (x : Parts). tables_of x.objects x.variables (under_key domain (codes "tables")) (under_key problem (codes "table_values")) ≡ Ok x.tables) s.whole
    (ap (λ (es : List Pair). tables_of s.declared.objects s.declared.variables (value_in (codes "tables") es) (under_key problem (codes "table_values"))) (sym s.is_settings.domain_entries)
    ∙ ap (λ (es : List Pair). tables_of s.declared.objects s.declared.variables (value_in (codes "tables") s.settings.domain.entries) (value_in (codes "table_values") es)) (sym s.is_settings.problem_entries)
    ∙ s.is_declared.tables)

module _ (read : Reading) (domain problem : Tree) (m : Model) (means : meaning read domain problem ≡ Ok (parts_of m)) (name : List ℕ) (t : ℕ) (table : TableData) (is : IsTable m name t table) where
  steps : TableSteps m.objects m.variables (under_key domain (codes "tables")) (under_key problem (codes "table_values")) m.tables name t
  steps = table_steps m.objects m.variables (under_key domain (codes "tables")) (under_key problem (codes "table_values")) m.tables name t (tables_given read domain problem m means) is.numbered

  abbrev blank_of : TableHead → TableData
  blank_of head = blank_table m.objects head

  -- the table is the blank one with other cells
  changed : (x : TableSteps m.objects m.variables (under_key domain (codes "tables")) (under_key problem (codes "table_values")) m.tables name t) → Changed (blank_of x.head) table
  changed x =
      let names = table_names (map (blank_table m.objects) x.heads) in
      let end = at_end m.objects name t names x.numbered x.entries (map (blank_table m.objects) x.heads) m.tables (blank_of x.head) refl x.is_blank x.is_end in
      subst (Changed (blank_of x.head)) (some_same end.0 table (sym end.1 ∙ is.there)) end.2

  counts_blank : (x : TableSteps m.objects m.variables (under_key domain (codes "tables")) (under_key problem (codes "table_values")) m.tables name t)
      → counts_of m table.args ≡ map (type_count m.objects) (blank_of x.head).args
  counts_blank x = counts_are m table.args ∙ ap (map (type_count m.objects)) (changed x).args

  full_blank : (x : TableSteps m.objects m.variables (under_key domain (codes "tables")) (under_key problem (codes "table_values")) m.tables name t)
      → held_count (blank_of x.head).cells ≡ cell_count m.objects (blank_of x.head).args
  full_blank x = sym (changed x).alike.count ∙ full m t table is.there ∙ ap (cell_count m.objects) (changed x).args

  given_cell : (values : Tree) (given : Pair) → under_key problem (codes "table_values") ≡ Some values → IsOnly (map_entries values) name given
      → (ks : List ℕ) (value : Tree) → IsWritten (counts_of m table.args) given.value ks value
      → (cell : Cell) × (cell_of m.objects (kind_of_cells table.element table.cells) value ≡ Ok cell) × ReadsAs m t ks cell
  given_cell values given under only ks value written =
      let x = steps in
      let blank : TableData = blank_of x.head in
      let names = table_names (map (blank_table m.objects) x.heads) in
      let all : x.entries ≡ map_entries values = x.is_entries.there values under in
      let at : slice_get x.entries only.at ≡ Some given = ap (λ (es : List Pair). slice_get es only.at) all ∙ only.there in
      let end = by_only m.objects name t names x.numbered x.entries (map (blank_table m.objects) x.heads) m.tables (blank_of x.head) only.at given refl x.is_blank x.is_end at only.named
      (λ i other at_i named. only.only i other (ap (λ (es : List Pair). slice_get es i) (sym all) ∙ at_i) named) in
      let same : end.0 ≡ table = some_same end.0 table (sym end.1 ∙ is.there) in
      let counts = counts_blank x in
      let has = end.2.written (full_blank x) ks value (subst (λ (cs : List ℕ). IsWritten cs given.value ks value) counts written) in
      let kind : kind_of_cells (blank_of x.head).element (blank_of x.head).cells ≡ kind_of_cells table.element table.cells =
      sym (ap (λ (e : Bool). kind_of_cells e table.cells) (changed x).element ∙ (changed x).alike.kind (blank_of x.head).element) in
      let there : cell_at table.cells (place_from 0 (counts_of m table.args) ks) ≡ Some has.0 =
      ap (λ (u : TableData). cell_at u.cells (place_from 0 (counts_of m table.args) ks)) (sym same) ∙ ap (λ (cs : List ℕ). cell_at end.0.cells (place_from 0 cs ks)) counts ∙ has.2 in (
        has.0,
        ap (λ (k : CellKind). cell_of m.objects k value) (sym kind) ∙ has.1,
        reads_as m t table ks has.0 is.there (written_below (counts_of m table.args) given.value ks value written) there,
      )

  default_cell : (ks : List ℕ) → AreBelow (counts_of m table.args) ks → IsLeft problem name (counts_of m table.args) ks
      → (heads : List TableHead) × (head : TableHead) × (heads_of m.objects m.variables (under_key domain (codes "tables")) ≡ Ok heads) × (slice_get heads t ≡ Some head) × ReadsAs m t ks head.default
  default_cell ks below none =
      let x = steps in
      let names = table_names (map (blank_table m.objects) x.heads) in
      let counts = counts_blank x in
      let below_blank : AreBelow (map (type_count m.objects) (blank_of x.head).args) ks = subst (λ (cs : List ℕ). AreBelow cs ks) counts below in
      let end = by_none m.objects name t names x.numbered x.entries (map (blank_table m.objects) x.heads) m.tables (blank_of x.head) ks refl x.is_blank x.is_end below_blank
      (λ i pair value at_i named written.
      (let whose = x.is_entries.whose i pair at_i in
      none whose.0 value pair whose.1 whose.2 named (subst (λ (cs : List ℕ). IsWritten cs pair.value ks value) (sym counts) written))) in
      let same : end.0 ≡ table = some_same end.0 table (sym end.1 ∙ is.there) in
      let inside = place_below m.objects (blank_of x.head).args ks 0 below_blank in
      let held = full_blank x in
      let less : place_from 0 (map (type_count m.objects) (blank_of x.head).args) ks < held_count (blank_of x.head).cells = omega (arith, inside, held) in
      let was = blank_cell x.head.kind (cell_count m.objects x.head.args) x.head.default (place_from 0 (map (type_count m.objects) (blank_of x.head).args) ks) less in
      let there : cell_at table.cells (place_from 0 (counts_of m table.args) ks) ≡ Some x.head.default =
      ap (λ (u : TableData). cell_at u.cells (place_from 0 (counts_of m table.args) ks)) (sym same) ∙ ap (λ (cs : List ℕ). cell_at end.0.cells (place_from 0 cs ks)) counts ∙ end.2 ∙ was in
      (x.heads, x.head, x.is_heads, x.is_head, reads_as m t table ks x.head.default is.there below there)

pub given_cell_law : LawGivenCell
given_cell_law read domain problem m means name t table is values given under only ks value written = given_cell read domain problem m means name t table is values given under only ks value written

pub default_cell_law : LawDefaultCell
default_cell_law read domain problem m means name t table is ks below none = default_cell read domain problem m means name t table is ks below none
