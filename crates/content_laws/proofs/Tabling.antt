-- Tables whose cells a problem gives: which cell has what is written under the table's name.
use Rattle.std.proofs.Common.{◌≡◌, ℕ, zero, suc, ◌<◌, Bool, false, List, [], ◌∷◌, length, map, replicate, Option, Some, None, Ok, ◌⊎◌, inl, inr, ⊎_elim, refl, sym, ap, ◌∙◌, subst, arith}
use Rattle.std.specs.Prelude.{slice_get, slice_set, option_and_then}
use Rattle.std.proofs.lemmas.List.{length-replicate}
use Rattle.std.proofs.lemmas.Bool.Decides.{eqb_tells}
use Rattle.std.proofs.lemmas.Option.{slice_get_within}
use Rattle.dp_base.specs.Results.{◌>>=◌, each}
use Rattle.dp_model.specs.Evaluation.{place_from}
use Rattle.dp_model.specs.Typing.{type_count, cell_count}
use Rattle.dp_model.specs.declared.parts.ObjectType.{ObjectType}
use Rattle.dp_model.specs.declared.parts.Cells.{Cells}
use Rattle.dp_model.specs.declared.parts.TableData.{TableData}
use Rattle.yaml_tree.specs.declared.tree.Tree.{Tree}
use Rattle.yaml_tree.specs.declared.tree.Pair.{Pair}
use Rattle.yaml_tree.specs.declared.tree.Tree as trees
use Rattle.yaml_tree.specs.Fields.{tree_place, scalar_text, form_items, form_entries, list_items, map_entries}
use Rattle.dypdl_nodes.specs.Reads.{Reads, or_refuse}
use Rattle.dypdl_nodes.specs.Shapes.{entries_of}
use Rattle.dypdl_data.specs.Names.{number_named, known_key}
use Rattle.dypdl_data.specs.Tables.{cell_of}
use Rattle.dypdl_data.specs.Cells.{kind_of_cells, with_cell, held_count, Filling, filling_step, filled_by, listed, listed_or_filled, cells_given, table_given, changed_table, table_names, value_step}
use Rattle.dypdl_data.specs.declared.kinds.Cell.{Cell}
use Rattle.dypdl_load.proofs.Lists.{bound}
use Rattle.content_laws.specs.Places.{IsKey}
use Rattle.content_laws.specs.CellTexts.{IsItem, IsEntry, IsWritten, AreBelow}
use Rattle.content_laws.proofs.Members.{contains_at, at_contains}
use Rattle.content_laws.proofs.Outcomes.{ok_same, there_is, set_there, set_elsewhere}
use Rattle.content_laws.proofs.Placing.{of_key, to_key}
use Rattle.content_laws.proofs.Apart.{members_below, one_place, place_below}
use Rattle.content_laws.proofs.Listing.{item_below, alike_listed, put_listed, left_listed}
use Rattle.content_laws.proofs.Filling.{cell_at, Alike, alike_itself, alike_then, with_alike, cell_put, alike_all, left, put}
use Rattle.content_laws.proofs.Targeting.{name_at, entries_are}

-- ---- one table

-- what the cells of one table are with what is written under its name
pub record GivenCells (objects : List ObjectType) (args : List ℕ) (element : Bool) (held : Cells) (tree : Tree) (new : Cells) : Type 0 where
  pub alike : Alike held new
  pub written : held_count held ≡ cell_count objects args → (ks : List ℕ) (value : Tree) → IsWritten (map (type_count objects) args) tree ks value
      → (cell : Cell) × (cell_of objects (kind_of_cells element held) value ≡ Ok cell) × (cell_at new (place_from 0 (map (type_count objects) args) ks) ≡ Some cell)
  pub left : (ks : List ℕ) → AreBelow (map (type_count objects) args) ks → ((value : Tree) → IsWritten (map (type_count objects) args) tree ks value → ⊥)
      → cell_at new (place_from 0 (map (type_count objects) args) ks) ≡ cell_at held (place_from 0 (map (type_count objects) args) ks)

module _ (objects : List ObjectType) (element : Bool) (held : Cells) (tree : Tree) (new : Cells) where
  abbrev alone : Cell → Reads Cells
  alone cell = Ok (with_cell held 0 cell)

  single : cells_given objects [] (kind_of_cells element held) held tree ≡ Ok new → GivenCells objects [] element held tree new
  single e =
      let cell = bound (cell_of objects (kind_of_cells element held) tree) alone new e in
      let same : with_cell held 0 cell.0 ≡ new = ok_same (with_cell held 0 cell.0) new cell.2 in
      record {
        alike = subst (Alike held) same (with_alike held 0 cell.0);
        written = λ full ks value is.
            (let one : 0 < held_count held = omega (arith, full) in (
              cell.0,
              subst (λ (v : Tree). cell_of objects (kind_of_cells element held) v ≡ Ok cell.0) (sym is.1) cell.1,
              ap (λ (c : Cells). cell_at c 0) (sym same) ∙ cell_put objects element held 0 cell.0 tree cell.1 one,
            ));
        left = nothing_left;
      }
    where
      nothing_left : (ks : List ℕ) → AreBelow [] ks → ((value : Tree) → IsWritten [] tree ks value → ⊥) → cell_at new 0 ≡ cell_at held 0
      nothing_left [] below none = absurd (none tree (refl, refl))
      nothing_left (k ∷ ks) below none = absurd below

  module _ (arg : ℕ) (args : List ℕ) where
    abbrev counts : List ℕ
    counts = map (type_count objects) (arg ∷ args)

    abbrev start : Filling
    start = record { cells = held; given = replicate (held_count held) false }

    abbrev on_entries : List Pair → Reads Cells
    on_entries entries = each (filling_step objects counts (kind_of_cells element held)) start entries >>= λ filling. Ok filling.cells

    mapped : list_items tree ≡ None → filled_by objects counts (kind_of_cells element held) held tree ≡ Ok new → GivenCells objects (arg ∷ args) element held tree new
    mapped no_list e =
        let entries = bound (entries_of tree) on_entries new e in
        let filling = bound (each (filling_step objects counts (kind_of_cells element held)) start entries.0) (λ filling. Ok filling.cells) new entries.2 in
        whole entries.0 filling.0 (entries_are tree entries.0 entries.1) filling.1 (ok_same filling.0.cells new filling.2)
      where
        whole : (entries : List Pair) (filling : Filling) → entries ≡ map_entries tree → each (filling_step objects counts (kind_of_cells element held)) start entries ≡ Ok filling → filling.cells ≡ new
            → GivenCells objects (arg ∷ args) element held tree new
        whole entries filling all e same = record {
          alike = subst (Alike held) same (alike_all objects counts (kind_of_cells element held) entries start filling e);
          written = λ full ks value is. ⊎_elim (λ item. absurd (no_item ks value item)) (by_entry full ks value) is;
          left = left_so;
        }
          where
            no_item : (ks : List ℕ) (value : Tree) → IsItem counts tree ks value → ⊥
            no_item [] value item = item
            no_item (k ∷ ks) value item = (let t : None ≡ Some item.0 = sym no_list ∙ item.2 in cc)

            by_entry : held_count held ≡ cell_count objects (arg ∷ args) → (ks : List ℕ) (value : Tree) → IsEntry counts tree ks value → (cell : Cell) × (cell_of objects (kind_of_cells element held) value ≡ Ok cell) × (cell_at new (place_from 0 counts ks) ≡ Some cell)
            by_entry full ks value is =
                (let found = at_contains (map_entries tree) is.0 is.1 in
                let at : slice_get entries found.0 ≡ Some is.0 = ap (λ (es : List Pair). slice_get es found.0) all ∙ found.1 in
                let below = members_below counts is.2.items ks is.2.are_members in
                let inside = place_below objects (arg ∷ args) ks 0 below in
                let less : place_from 0 counts ks < held_count held = omega (arith, inside, full) in
                let has = put objects counts (kind_of_cells element held) element entries start filling found.0 (place_from 0 counts ks) is.0 e refl (length-replicate (held_count held) false) at (to_key counts is.0.key ks is.2) less in
                (has.0, ap (cell_of objects (kind_of_cells element held)) is.3 ∙ has.1, ap (λ (c : Cells). cell_at c (place_from 0 counts ks)) (sym same) ∙ has.2))

            left_so : (ks : List ℕ) → AreBelow counts ks → ((value : Tree) → IsWritten counts tree ks value → ⊥) → cell_at new (place_from 0 counts ks) ≡ cell_at held (place_from 0 counts ks)
            left_so ks below none =
                (ap (λ (c : Cells). cell_at c (place_from 0 counts ks)) (sym same)
                ∙ left objects counts (kind_of_cells element held) entries start filling (place_from 0 counts ks) e
                (λ j pair at named.
                (let found = of_key counts pair.key (place_from 0 counts ks) named in
                let other = members_below counts found.1.items found.0 found.1.are_members in
                let one = one_place counts ks found.0 0 0 below other found.2 in
                none pair.value
                (inr (pair, contains_at (map_entries tree) j pair (ap (λ (es : List Pair). slice_get es j) (sym all) ∙ at), subst (IsKey counts pair.key) (sym one.1) found.1, refl)))))

    -- a list has no entries
    no_entries : (items : List Tree) → list_items tree ≡ Some items → map_entries tree ≡ []
    no_entries items is = of_form (trees.out-Tree tree) is where
      of_form : (form : trees.Tree-F Tree Pair) → form_items form ≡ Some items → form_entries form ≡ []
      of_form (trees.Tree-F.Scalar at text) e = refl
      of_form (trees.Tree-F.List at items') e = refl
      of_form (trees.Tree-F.Map at entries) e = absurd (cc e)

    itemized : (items : List Tree) → list_items tree ≡ Some items → listed objects (kind_of_cells element held) counts 0 held tree ≡ Ok new → GivenCells objects (arg ∷ args) element held tree new
    itemized items a_list e = record {
      alike = alike_listed objects element (kind_of_cells element held) counts 0 held new tree e;
      written = λ full ks value is. ⊎_elim (by_item full ks value) (λ entry. absurd (no_entry ks value entry)) is;
      left = λ ks below none. left_listed objects (kind_of_cells element held) counts 0 ks held new tree e below (λ value is. none value (inl is));
    }
      where
        no_entry : (ks : List ℕ) (value : Tree) → IsEntry counts tree ks value → ⊥
        no_entry ks value entry =
            (let found = at_contains (map_entries tree) entry.0 entry.1 in
            let none : slice_get [] found.0 ≡ Some entry.0 = ap (λ (es : List Pair). slice_get es found.0) (sym (no_entries items a_list)) ∙ found.1 in
            nothing found.0 entry.0 none)
          where
            nothing : (i : ℕ) (pair : Pair) → slice_get [] i ≡ Some pair → ⊥
            nothing i pair h = cc

        by_item : held_count held ≡ cell_count objects (arg ∷ args) → (ks : List ℕ) (value : Tree) → IsItem counts tree ks value → (cell : Cell) × (cell_of objects (kind_of_cells element held) value ≡ Ok cell) × (cell_at new (place_from 0 counts ks) ≡ Some cell)
        by_item full ks value is =
            (let below = item_below counts tree ks value is in
            let inside = place_below objects (arg ∷ args) ks 0 below in
            let less : place_from 0 counts ks < held_count held = omega (arith, inside, full) in
            put_listed objects element (kind_of_cells element held) counts 0 ks held new tree value e refl is less)

    many : cells_given objects (arg ∷ args) (kind_of_cells element held) held tree ≡ Ok new → GivenCells objects (arg ∷ args) element held tree new
    many e = by_shape (list_items tree) refl e where
      by_shape : (o : Option (List Tree)) → list_items tree ≡ o → listed_or_filled objects counts (kind_of_cells element held) held tree o ≡ Ok new → GivenCells objects (arg ∷ args) element held tree new
      by_shape (Some items) is gives = itemized items is gives
      by_shape None is gives = mapped is gives

given_cells : (objects : List ObjectType) (args : List ℕ) (element : Bool) (held : Cells) (tree : Tree) (new : Cells) → cells_given objects args (kind_of_cells element held) held tree ≡ Ok new
    → GivenCells objects args element held tree new
given_cells objects [] element held tree new e = single objects element held tree new e
given_cells objects (arg ∷ args) element held tree new e = many objects element held tree new arg args e

-- ---- tables one after the other

-- the same table with other cells
pub record Changed (old new : TableData) : Type 0 where
  pub name : new.name ≡ old.name
  pub args : new.args ≡ old.args
  pub element : new.element ≡ old.element
  pub alike : Alike old.cells new.cells

pub changed_itself : (t : TableData) → Changed t t
changed_itself t = record { name = refl; args = refl; element = refl; alike = alike_itself t.cells }

pub changed_then : (a b c : TableData) → Changed a b → Changed b c → Changed a c
changed_then a b c ab bc = record {
  name = bc.name ∙ ab.name;
  args = bc.args ∙ ab.args;
  element = bc.element ∙ ab.element;
  alike = alike_then a.cells b.cells c.cells ab.alike bc.alike;
}

-- a table with what is written under its name
pub record Given (objects : List ObjectType) (old : TableData) (tree : Tree) (new : TableData) : Type 0 where
  pub same : Changed old new
  pub cells_are : GivenCells objects old.args old.element old.cells tree new.cells

pub table_told : (objects : List ObjectType) (old : TableData) (tree : Tree) (new : TableData) → table_given objects old tree ≡ Ok new → Given objects old tree new
table_told objects old tree new e =
    let held = bound (cells_given objects old.args (kind_of_cells old.element old.cells) old.cells tree) (λ (held : Cells). Ok (record old { cells = held })) new e in
    let it : TableData = record old { cells = held.0 } in
    let cells_are = given_cells objects old.args old.element old.cells tree held.0 held.1 in
    subst (Given objects old tree) {x = it} (ok_same it new held.2)
    (record { same = record { name = refl; args = refl; element = refl; alike = cells_are.alike }; cells_are = cells_are })

pub names_set : (ts : List TableData) (i : ℕ) (old new : TableData) → slice_get ts i ≡ Some old → new.name ≡ old.name → table_names (slice_set ts i new) ≡ table_names ts
names_set [] i old new at same = refl
names_set (t ∷ ts) zero old new at same =
    let is : t ≡ old = cc in
    ap (λ (n : List ℕ). n ∷ table_names ts) (same ∙ ap (λ (u : TableData). u.name) (sym is))
names_set (t ∷ ts) (suc i) old new at same = ap (λ (ns : List (List ℕ)). t.name ∷ ns) (names_set ts i old new at same)

module _ (objects : List ObjectType) (name : List ℕ) (t : ℕ) (names : List (List ℕ)) (numbered : number_named names name ≡ Some t) where
  abbrev Here : Pair → Type 0
  Here pair = scalar_text pair.key ≡ Some name

  -- one entry: it is for this table, or leaves it
  record Told (tables : List TableData) (old : TableData) (pair : Pair) (next : List TableData) : Type 0 where
    names_are : table_names next ≡ names
    how : (Here pair × ((new : TableData) × Given objects old pair.value new × (slice_get next t ≡ Some new))) ⊎ ((Here pair → ⊥) × (slice_get next t ≡ Some old))

  some_same : {A : Type 0} (a b : A) → Some a ≡ Some b → a ≡ b
  some_same a b e = cc

  told : (tables : List TableData) (old : TableData) (pair : Pair) (next : List TableData) → table_names tables ≡ names → slice_get tables t ≡ Some old → value_step objects tables pair ≡ Ok next → Told tables old pair next
  told tables old pair next are at e =
      let k = bound (known_key 30 (table_names tables) pair.key) (λ i. changed_table objects tables i pair.value (slice_get tables i)) next e in
      ⊎_elim (λ same. here k.0 k.1 k.2 same.1) (λ other. elsewhere k.0 (slice_get tables k.0) refl k.1 k.2 other.1) (eqb_tells k.0 t)
    where
      here : (k : ℕ) → known_key 30 (table_names tables) pair.key ≡ Ok k → changed_table objects tables k pair.value (slice_get tables k) ≡ Ok next → k ≡ t → Told tables old pair next
      here k known gives same =
          (let at_k : slice_get tables k ≡ Some old = ap (slice_get tables) same ∙ at in
          let gives_old : changed_table objects tables k pair.value (Some old) ≡ Ok next = rw at_k at gives in
          let new = bound (table_given objects old pair.value) (λ changed. Ok (slice_set tables k changed)) next gives_old in
          let set : slice_set tables k new.0 ≡ next = ok_same (slice_set tables k new.0) next new.2 in
          let changed = table_told objects old pair.value new.0 new.1 in
          let word = there_is 30 (tree_place pair.key) (number_named (table_names tables)) (scalar_text pair.key) k known in
          let at_word = name_at (table_names tables) word.0 k word.2 in
          let at_name : slice_get (table_names tables) k ≡ Some name = ap (λ (ns : List (List ℕ)). slice_get ns k) are ∙ ap (slice_get names) same ∙ name_at names name t numbered in
          let is_name : word.0 ≡ name = some_same word.0 name (sym at_word ∙ at_name) in
          let less : k < length tables = slice_get_within tables k old at_k in
          record {
            names_are = ap table_names (sym set) ∙ names_set tables k old new.0 at_k changed.same.name ∙ are;
            how = inl (word.1 ∙ ap Some is_name, (new.0, changed, ap (slice_get next) (sym same) ∙ ap (λ (ts : List TableData). slice_get ts k) (sym set) ∙ set_there tables k new.0 less));
          })

      not_here : (k : ℕ) → known_key 30 (table_names tables) pair.key ≡ Ok k → (k ≡ t → ⊥) → Here pair → ⊥
      not_here k known differ named =
          (let again : known_key 30 (table_names tables) pair.key ≡ Ok t =
          ap (λ (o : Option (List ℕ)). or_refuse 30 (tree_place pair.key) (option_and_then (number_named (table_names tables)) o)) named
          ∙ ap (λ (ns : List (List ℕ)). or_refuse 30 (tree_place pair.key) (number_named ns name)) are
          ∙ ap (or_refuse 30 (tree_place pair.key)) numbered in
          differ (ok_same k t (sym known ∙ again)))

      elsewhere : (k : ℕ) (o : Option TableData) → slice_get tables k ≡ o → known_key 30 (table_names tables) pair.key ≡ Ok k → changed_table objects tables k pair.value o ≡ Ok next → (k ≡ t → ⊥) → Told tables old pair next
      elsewhere k None at_k known gives differ = record {
        names_are = ap table_names (sym (ok_same tables next gives)) ∙ are;
        how = inr (not_here k known differ, ap (λ (ts : List TableData). slice_get ts t) (sym (ok_same tables next gives)) ∙ at);
      }
      elsewhere k (Some u) at_k known gives differ =
          (let new = bound (table_given objects u pair.value) (λ changed. Ok (slice_set tables k changed)) next gives in
          let set : slice_set tables k new.0 ≡ next = ok_same (slice_set tables k new.0) next new.2 in
          let changed = table_told objects u pair.value new.0 new.1 in
          record {
            names_are = ap table_names (sym set) ∙ names_set tables k u new.0 at_k changed.same.name ∙ are;
            how = inr (not_here k known differ, ap (λ (ts : List TableData). slice_get ts t) (sym set) ∙ set_elsewhere tables k t new.0 differ ∙ at);
          })

  -- the table at the end is the same one with other cells
  pub at_end : (entries : List Pair) (tables end : List TableData) (old : TableData) → table_names tables ≡ names → slice_get tables t ≡ Some old → each (value_step objects) tables entries ≡ Ok end
      → (new : TableData) × (slice_get end t ≡ Some new) × Changed old new
  at_end [] tables end old are at e = (old, ap (λ (ts : List TableData). slice_get ts t) (sym (ok_same tables end e)) ∙ at, changed_itself old)
  at_end (pair ∷ entries) tables end old are at e =
      let next = bound (value_step objects tables pair) (λ ts. each (value_step objects) ts entries) end e in
      let did = told tables old pair next.0 are at next.1 in
      ⊎_elim
      (λ here. after here.1.0 (at_end entries next.0 end here.1.0 did.names_are here.1.2 next.2) here.1.1.same)
      (λ other. at_end entries next.0 end old did.names_are other.1 next.2)
      did.how
    where
      after : (mid : TableData) → (new : TableData) × (slice_get end t ≡ Some new) × Changed mid new → Changed old mid → (new : TableData) × (slice_get end t ≡ Some new) × Changed old new
      after mid found first = (found.0, found.1, changed_then old mid found.0 first found.2)

  -- a table under whose name nothing stands is left
  pub untouched : (entries : List Pair) (tables end : List TableData) (old : TableData) → table_names tables ≡ names → slice_get tables t ≡ Some old → each (value_step objects) tables entries ≡ Ok end
      → ((i : ℕ) (pair : Pair) → slice_get entries i ≡ Some pair → Here pair → ⊥) → slice_get end t ≡ Some old
  untouched [] tables end old are at e none = ap (λ (ts : List TableData). slice_get ts t) (sym (ok_same tables end e)) ∙ at
  untouched (pair ∷ entries) tables end old are at e none =
      let next = bound (value_step objects tables pair) (λ ts. each (value_step objects) ts entries) end e in
      let did = told tables old pair next.0 are at next.1 in
      ⊎_elim
      (λ here. absurd (none 0 pair refl here.0))
      (λ other. untouched entries next.0 end old did.names_are other.1 next.2 (λ i more at_i named. none (suc i) more at_i named))
      did.how

  -- the only entry under the name gives the table its cells
  pub by_only : (entries : List Pair) (tables end : List TableData) (old : TableData) (j : ℕ) (given : Pair) → table_names tables ≡ names → slice_get tables t ≡ Some old → each (value_step objects) tables entries ≡ Ok end
      → slice_get entries j ≡ Some given → Here given → ((i : ℕ) (other : Pair) → slice_get entries i ≡ Some other → Here other → i ≡ j)
      → (new : TableData) × (slice_get end t ≡ Some new) × GivenCells objects old.args old.element old.cells given.value new.cells
  by_only [] tables end old j given are at e there named only = absurd (cc there)
  by_only (pair ∷ entries) tables end old zero given are at e there named only =
      let next = bound (value_step objects tables pair) (λ ts. each (value_step objects) ts entries) end e in
      let did = told tables old pair next.0 are at next.1 in
      let same : pair ≡ given = some_same pair given there in
      ⊎_elim
      (λ here. (
        here.1.0,
        untouched entries next.0 end here.1.0 did.names_are here.1.2 next.2 (λ i other at_i also. not_again i (only (suc i) other at_i also)),
        subst (λ (p : Pair). GivenCells objects old.args old.element old.cells p.value here.1.0.cells) same here.1.1.cells_are,
      ))
      (λ other. absurd (other.0 (subst Here (sym same) named)))
      did.how
    where
      not_again : (i : ℕ) → suc i ≡ 0 → ⊥
      not_again i h = absurd (omega arith)
  by_only (pair ∷ entries) tables end old (suc j) given are at e there named only =
      let next = bound (value_step objects tables pair) (λ ts. each (value_step objects) ts entries) end e in
      let did = told tables old pair next.0 are at next.1 in
      ⊎_elim
      (λ here. absurd (not_first j (only 0 pair refl here.0)))
      (λ other. by_only entries next.0 end old j given did.names_are other.1 next.2 there named (λ i more at_i also. less_one i j (only (suc i) more at_i also)))
      did.how
    where
      not_first : (j : ℕ) → 0 ≡ suc j → ⊥
      not_first j h = absurd (omega arith)

      less_one : (i j : ℕ) → suc i ≡ suc j → i ≡ j
      less_one i j h = omega arith

  -- nothing under the name writes this cell of the table
  abbrev pub NoneWrites : List Pair → TableData → List ℕ → Type 0
  NoneWrites entries old ks = (i : ℕ) (pair : Pair) (value : Tree) → slice_get entries i ≡ Some pair → Here pair → IsWritten (map (type_count objects) old.args) pair.value ks value → ⊥

  -- the cell at the end is the one that the table had
  abbrev pub Leaves : (end : List TableData) → TableData → List ℕ → Type 0
  Leaves end old ks = (new : TableData) × (slice_get end t ≡ Some new) × (cell_at new.cells (place_from 0 (map (type_count objects) old.args) ks) ≡ cell_at old.cells (place_from 0 (map (type_count objects) old.args) ks))

  leaves_more : (entries : List Pair) (pair : Pair) (end : List TableData) (old mid : TableData) (ks : List ℕ) → AreBelow (map (type_count objects) old.args) ks → Here pair → Given objects old pair.value mid
      → NoneWrites (pair ∷ entries) old ks → (AreBelow (map (type_count objects) mid.args) ks → NoneWrites entries mid ks → Leaves end mid ks) → Leaves end old ks
  leaves_more entries pair end old mid ks below here gave none again =
      let first = gave.cells_are.left ks below (λ value is. none 0 pair value refl here is) in
      let below_mid : AreBelow (map (type_count objects) mid.args) ks = subst (λ (os : List ℕ). AreBelow (map (type_count objects) os) ks) (sym gave.same.args) below in
      let rest = again below_mid (λ i other value at_i named is. none (suc i) other value at_i named (subst (λ (os : List ℕ). IsWritten (map (type_count objects) os) other.value ks value) gave.same.args is)) in
      let same : cell_at rest.0.cells (place_from 0 (map (type_count objects) old.args) ks) ≡ cell_at mid.cells (place_from 0 (map (type_count objects) old.args) ks) =
      subst (λ (os : List ℕ). cell_at rest.0.cells (place_from 0 (map (type_count objects) os) ks) ≡ cell_at mid.cells (place_from 0 (map (type_count objects) os) ks)) gave.same.args rest.2 in
      (rest.0, rest.1, same ∙ first)

  -- a cell that nothing under the name writes is left
  pub by_none : (entries : List Pair) (tables end : List TableData) (old : TableData) (ks : List ℕ) → table_names tables ≡ names → slice_get tables t ≡ Some old → each (value_step objects) tables entries ≡ Ok end
      → AreBelow (map (type_count objects) old.args) ks → NoneWrites entries old ks → Leaves end old ks
  by_none [] tables end old ks are at e below none = (old, ap (λ (ts : List TableData). slice_get ts t) (sym (ok_same tables end e)) ∙ at, refl)
  by_none (pair ∷ entries) tables end old ks are at e below none =
      let next = bound (value_step objects tables pair) (λ ts. each (value_step objects) ts entries) end e in
      let did = told tables old pair next.0 are at next.1 in
      ⊎_elim
      (λ here. leaves_more entries pair end old here.1.0 ks below here.0 here.1.1 none (λ below_mid none_mid. by_none entries next.0 end here.1.0 ks did.names_are here.1.2 next.2 below_mid none_mid))
      (λ other. by_none entries next.0 end old ks did.names_are other.1 next.2 below (λ i more value at_i named is. none (suc i) more value at_i named is))
      did.how
