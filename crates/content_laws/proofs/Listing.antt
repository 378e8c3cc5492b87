-- Cells that lists give: what stands for a cell is read there, and where nothing stands the cell is left.
use Rattle.std.proofs.Common.{◌≡◌, ℕ, zero, suc, ◌+◌, ◌*◌, ◌<◌, Bool, true, false, nat_lt, List, [], ◌∷◌, Some, Ok, ◌⊎◌, inl, inr, refl, sym, ap, ◌∙◌, subst, arith}
use Rattle.std.specs.Prelude.{slice_get}
use Rattle.std.proofs.lemmas.Bool.Decides.{Decides-ltb}
use Rattle.std.proofs.lemmas.Bool.{cases_eq}
use Rattle.dp_base.specs.declared.place.Place.{Place}
use Rattle.dp_base.specs.Results.{◌>>=◌, each}
use Rattle.dp_model.specs.Evaluation.{place_from}
use Rattle.dp_model.specs.declared.parts.ObjectType.{ObjectType}
use Rattle.dp_model.specs.declared.parts.Cells.{Cells}
use Rattle.yaml_tree.specs.declared.tree.Tree.{Tree}
use Rattle.yaml_tree.specs.declared.tree.Tree as trees
use Rattle.yaml_tree.specs.declared.tree.Pair.{Pair}
use Rattle.yaml_tree.specs.Fields.{tree_place, form_items, list_items}
use Rattle.dypdl_nodes.specs.Reads.{Reads, holds}
use Rattle.dypdl_nodes.specs.Shapes.{items_form, items_of}
use Rattle.dypdl_data.specs.Tables.{cell_of}
use Rattle.dypdl_data.specs.Cells.{kind_of_cells, with_cell, held_count, Listing, CellsRead, item_step, listed}
use Rattle.dypdl_data.specs.declared.kinds.CellKind.{CellKind}
use Rattle.dypdl_data.specs.declared.kinds.Cell.{Cell}
use Rattle.dypdl_load.proofs.Lists.{bound}
use Rattle.content_laws.specs.CellTexts.{IsItem, AreBelow}
use Rattle.content_laws.proofs.Outcomes.{ok_same}
use Rattle.content_laws.proofs.Apart.{one_place}
use Rattle.content_laws.proofs.Filling.{cell_at, Alike, alike_itself, alike_then, with_alike, cell_kept, cell_put}

pub item_below : (counts : List ℕ) (tree : Tree) (ks : List ℕ) (value : Tree) → IsItem counts tree ks value → AreBelow counts ks
item_below [] tree [] value is = tt
item_below [] tree (k ∷ ks) value is = absurd is
item_below (count ∷ counts) tree [] value is = absurd is
item_below (count ∷ counts) tree (k ∷ ks) value is = (is.3, item_below counts is.1 ks value is.5)

-- the items of a list are those that are read
read_items : (tree : Tree) (items read : List Tree) → list_items tree ≡ Some items → items_of tree ≡ Ok read → read ≡ items
read_items tree items read is e = of_form (trees.out-Tree tree) is e where
  of_form : (form : trees.Tree-F Tree Pair) → form_items form ≡ Some items → items_form form ≡ Ok read → read ≡ items
  of_form (trees.Tree-F.Scalar at text) a b = absurd (cc a)
  of_form (trees.Tree-F.List at items') a b = (let x : items' ≡ items = cc a in let y : items' ≡ read = cc b in sym y ∙ x)
  of_form (trees.Tree-F.Map at entries) a b = absurd (cc a)

-- what is read are the items of a list, or there is none
items_read : (tree : Tree) (read : List Tree) (k : ℕ) (item : Tree) → items_of tree ≡ Ok read → slice_get read k ≡ Some item → list_items tree ≡ Some read
items_read tree read k item e at = of_form (trees.out-Tree tree) e where
  none : (xs : List Tree) → [] ≡ xs → slice_get xs k ≡ Some item → ⊥
  none [] same there = cc there
  none (x ∷ xs) same there = cc same

  of_text : (place : Place) (text : List ℕ) → items_form (trees.Tree-F.Scalar place text) ≡ Ok read → form_items (trees.Tree-F.Scalar place text) ≡ Some read
  of_text place [] b = absurd (none read (ok_same [] read b) at)
  of_text place (byte ∷ text) b = absurd (cc b)

  of_form : (form : trees.Tree-F Tree Pair) → items_form form ≡ Ok read → form_items form ≡ Some read
  of_form (trees.Tree-F.Scalar place text) b = of_text place text b
  of_form (trees.Tree-F.List place items) b = ap Some (ok_same items read b)
  of_form (trees.Tree-F.Map place entries) b = absurd (cc b)

-- ---- the items of one list

allowed : (b : Bool) (at : Place) (done : Unit {0}) → holds b 44 at ≡ Ok done → b ≡ true
allowed true at done e = refl
allowed false at done e = absurd (cc e)

-- what one item did
record Itemed (count : ℕ) (Inner : CellsRead) (at : ℕ) (l : Listing) (item : Tree) (g : Listing) : Type 0 where
  below : l.next < count
  read : Inner (at * count + l.next) l.cells item ≡ Ok g.cells
  next : g.next ≡ l.next + 1

told : (count : ℕ) (Inner : CellsRead) (at : ℕ) (l g : Listing) (item : Tree) → item_step count Inner at l item ≡ Ok g → Itemed count Inner at l item g
told count Inner at l g item e =
    let made : Cells → Reads Listing = λ held. Ok (record { next = l.next + 1; cells = held }) in
    let test = bound (holds (nat_lt l.next count) 44 (tree_place item)) (λ below. Inner (at * count + l.next) l.cells item >>= made) g e in
    let held = bound (Inner (at * count + l.next) l.cells item) made g test.2 in
    let whole : Listing = record { next = l.next + 1; cells = held.0 } in
    let same : whole ≡ g = ok_same whole g held.2 in
    record {
      below = (Decides-ltb l.next count).0 (allowed (nat_lt l.next count) (tree_place item) test.0 test.1);
      read = held.1 ∙ ap (λ (h : Listing). Ok h.cells) same;
      next = sym (ap (λ (h : Listing). h.next) same);
    }

-- what is read keeps the kind and the number of cells
abbrev ReadsAlike : CellsRead → Type 0
ReadsAlike Inner = (at : ℕ) (held new : Cells) (tree : Tree) → Inner at held tree ≡ Ok new → Alike held new

-- it changes no cell of others
abbrev ReadsApart : List ℕ → CellsRead → Type 0
ReadsApart counts Inner = (at i : ℕ) (held new : Cells) (tree : Tree) → Inner at held tree ≡ Ok new → ((ks : List ℕ) → AreBelow counts ks → i ≡ place_from at counts ks → ⊥) → cell_at new i ≡ cell_at held i

-- a cell for which nothing stands is left
abbrev ReadsLeft : List ℕ → CellsRead → Type 0
ReadsLeft counts Inner = (at : ℕ) (ks : List ℕ) (held new : Cells) (tree : Tree) → Inner at held tree ≡ Ok new → AreBelow counts ks → ((value : Tree) → IsItem counts tree ks value → ⊥)
    → cell_at new (place_from at counts ks) ≡ cell_at held (place_from at counts ks)

-- what stands for a cell is its value
abbrev ReadsPut : List ObjectType → Bool → CellKind → List ℕ → CellsRead → Type 0
ReadsPut objects element kind counts Inner = (at : ℕ) (ks : List ℕ) (held new : Cells) (tree value : Tree) → Inner at held tree ≡ Ok new → kind ≡ kind_of_cells element held → IsItem counts tree ks value
    → place_from at counts ks < held_count held → (cell : Cell) × (cell_of objects kind value ≡ Ok cell) × (cell_at new (place_from at counts ks) ≡ Some cell)

module _ (count : ℕ) (counts : List ℕ) (Inner : CellsRead) (at : ℕ) where
  abbrev step : Listing → Tree → Reads Listing
  step = item_step count Inner at

  alike_items : ReadsAlike Inner → (items : List Tree) (l end : Listing) → each step l items ≡ Ok end → Alike l.cells end.cells
  alike_items alike [] l end e = subst (λ (h : Listing). Alike l.cells h.cells) (ok_same l end e) (alike_itself l.cells)
  alike_items alike (item ∷ items) l end e =
      let g = bound (step l item) (λ t. each step t items) end e in
      let did = told count Inner at l g.0 item g.1 in
      alike_then l.cells g.0.cells end.cells (alike (at * count + l.next) l.cells g.0.cells item did.read) (alike_items alike items g.0 end g.2)

  -- a cell is left that belongs to none of these items
  apart_items : ReadsApart counts Inner → (items : List Tree) (l end : Listing) (i : ℕ) → each step l items ≡ Ok end
      → ((n : ℕ) (ks : List ℕ) → l.next < n + 1 → n < count → AreBelow counts ks → i ≡ place_from (at * count + n) counts ks → ⊥) → cell_at end.cells i ≡ cell_at l.cells i
  apart_items apart [] l end i e others = ap (λ (h : Listing). cell_at h.cells i) (sym (ok_same l end e))
  apart_items apart (item ∷ items) l end i e others =
      let g = bound (step l item) (λ t. each step t items) end e in
      let did = told count Inner at l g.0 item g.1 in
      apart_items apart items g.0 end i g.2 (λ n ks more less below is. others n ks (omega (arith, more, did.next)) less below is)
      ∙ apart (at * count + l.next) i l.cells g.0.cells item did.read (λ ks below is. others l.next ks (omega arith) did.below below is)

  -- the cells of one index are none of another one
  other_index : (k n : ℕ) (ks ls : List ℕ) → (k ≡ n → ⊥) → AreBelow counts ks → AreBelow counts ls → place_from (at * count + k) counts ks ≡ place_from (at * count + n) counts ls → ⊥
  other_index k n ks ls differ below other same =
      let one = one_place counts ks ls (at * count + k) (at * count + n) below other same in
      differ (omega (arith, one.0))

  left_items : ReadsApart counts Inner → ReadsLeft counts Inner → (items : List Tree) (l end : Listing) (k : ℕ) (ks : List ℕ) → each step l items ≡ Ok end → AreBelow counts ks
      → ((j : ℕ) (item value : Tree) → slice_get items j ≡ Some item → l.next + j ≡ k → IsItem counts item ks value → ⊥)
      → cell_at end.cells (place_from (at * count + k) counts ks) ≡ cell_at l.cells (place_from (at * count + k) counts ks)
  left_items apart left [] l end k ks e below none = ap (λ (h : Listing). cell_at h.cells (place_from (at * count + k) counts ks)) (sym (ok_same l end e))
  left_items apart left (item ∷ items) l end k ks e below none =
      let g = bound (step l item) (λ t. each step t items) end e in
      let did = told count Inner at l g.0 item g.1 in
      left_items apart left items g.0 end k ks g.2 below (λ j other value there is_k is. none (suc j) other value there (omega (arith, is_k, did.next)) is)
      ∙ first (cases_eq l.next k) did
    where
      first : {g : Listing} → (l.next ≡ k) ⊎ (l.next ≡ k → ⊥) → Itemed count Inner at l item g → cell_at g.cells (place_from (at * count + k) counts ks) ≡ cell_at l.cells (place_from (at * count + k) counts ks)
      first {g} (inl same) did =
          subst (λ (n : ℕ). cell_at g.cells (place_from (at * count + n) counts ks) ≡ cell_at l.cells (place_from (at * count + n) counts ks)) same
          (left (at * count + l.next) ks l.cells g.cells item did.read below (λ value is. none 0 item value refl (omega (arith, same)) is))
      first {g} (inr differ) did =
          apart (at * count + l.next) (place_from (at * count + k) counts ks) l.cells g.cells item did.read (λ ls other same. other_index k l.next ks ls (λ e. differ (sym e)) below other same)

  put_items : (objects : List ObjectType) (element : Bool) (kind : CellKind) → ReadsAlike Inner → ReadsApart counts Inner → ReadsPut objects element kind counts Inner
      → (items : List Tree) (l end : Listing) (j : ℕ) (ks : List ℕ) (item value : Tree) → each step l items ≡ Ok end → kind ≡ kind_of_cells element l.cells → slice_get items j ≡ Some item → IsItem counts item ks value → AreBelow counts ks
      → place_from (at * count + (l.next + j)) counts ks < held_count l.cells → (cell : Cell) × (cell_of objects kind value ≡ Ok cell) × (cell_at end.cells (place_from (at * count + (l.next + j)) counts ks) ≡ Some cell)
  put_items objects element kind alike apart put [] l end j ks item value e is there stands below less = absurd (cc there)
  put_items objects element kind alike apart put (first ∷ items) l end zero ks item value e is there stands below less =
      let g = bound (step l first) (λ t. each step t items) end e in
      let did = told count Inner at l g.0 first g.1 in
      let same : first ≡ item = cc there in
      let here : l.next + 0 ≡ l.next = omega arith in
      let fits : place_from (at * count + l.next) counts ks < held_count l.cells = subst (λ (n : ℕ). place_from (at * count + n) counts ks < held_count l.cells) here less in
      let has = put (at * count + l.next) ks l.cells g.0.cells first value did.read is (subst (λ (t : Tree). IsItem counts t ks value) (sym same) stands) fits in
      let kept = apart_items apart items g.0 end (place_from (at * count + l.next) counts ks) g.2
      (λ n ls more inside other same. other_index l.next n ks ls (λ e. omega (arith, more, did.next, e)) below other same) in
      (has.0, has.1, ap (λ (n : ℕ). cell_at end.cells (place_from (at * count + n) counts ks)) here ∙ kept ∙ has.2)
  put_items objects element kind alike apart put (first ∷ items) l end (suc j) ks item value e is there stands below less =
      let g = bound (step l first) (λ t. each step t items) end e in
      let did = told count Inner at l g.0 first g.1 in
      let same_kind = alike (at * count + l.next) l.cells g.0.cells first did.read in
      let same : l.next + suc j ≡ g.0.next + j = omega (arith, did.next) in
      let fits : place_from (at * count + (g.0.next + j)) counts ks < held_count g.0.cells = rw same_kind.count (subst (λ (n : ℕ). place_from (at * count + n) counts ks < held_count l.cells) same less) in
      let has = put_items objects element kind alike apart put items g.0 end j ks item value g.2 (is ∙ sym (same_kind.kind element)) there stands below fits in
      (has.0, has.1, ap (λ (n : ℕ). cell_at end.cells (place_from (at * count + n) counts ks)) same ∙ has.2)

-- ---- lists in lists

module _ (objects : List ObjectType) (element : Bool) (kind : CellKind) where
  abbrev put_at : (at : ℕ) → Cells → Cell → Reads Cells
  put_at at held cell = Ok (with_cell held at cell)

  abbrev start : Cells → Listing
  start held = record { next = 0; cells = held }

  abbrev on_items : (count : ℕ) (counts : List ℕ) (at : ℕ) → Cells → List Tree → Reads Cells
  on_items count counts at held items = each (item_step count (listed objects kind counts) at) (start held) items >>= λ listing. Ok listing.cells

  -- the items that were read, and the cells behind the last one
  record ListRead (count : ℕ) (counts : List ℕ) (at : ℕ) (held new : Cells) (tree : Tree) : Type 0 where
    items : List Tree
    end : Listing
    are : items_of tree ≡ Ok items
    run : each (item_step count (listed objects kind counts) at) (start held) items ≡ Ok end
    cells_are : end.cells ≡ new

  list_read : (count : ℕ) (counts : List ℕ) (at : ℕ) (held new : Cells) (tree : Tree) → listed objects kind (count ∷ counts) at held tree ≡ Ok new → ListRead count counts at held new tree
  list_read count counts at held new tree e =
      let items = bound (items_of tree) (on_items count counts at held) new e in
      let end = bound (each (item_step count (listed objects kind counts) at) (start held) items.0) (λ listing. Ok listing.cells) new items.2 in
      record { items = items.0; end = end.0; are = items.1; run = end.1; cells_are = ok_same end.0.cells new end.2 }

  pub alike_listed : (counts : List ℕ) → ReadsAlike (listed objects kind counts)
  alike_listed [] at held new tree e =
      let cell = bound (cell_of objects kind tree) (put_at at held) new e in
      subst (Alike held) (ok_same (with_cell held at cell.0) new cell.2) (with_alike held at cell.0)
  alike_listed (count ∷ counts) at held new tree e =
      let r = list_read count counts at held new tree e in
      subst (Alike held) r.cells_are (alike_items count counts (listed objects kind counts) at (alike_listed counts) r.items (start held) r.end r.run)

  apart_listed : (counts : List ℕ) → ReadsApart counts (listed objects kind counts)
  apart_listed [] at i held new tree e others =
      let cell = bound (cell_of objects kind tree) (put_at at held) new e in
      ap (λ (c : Cells). cell_at c i) (sym (ok_same (with_cell held at cell.0) new cell.2)) ∙ cell_kept held at i cell.0 (λ same. others [] tt (sym same))
  apart_listed (count ∷ counts) at i held new tree e others =
      let r = list_read count counts at held new tree e in
      ap (λ (c : Cells). cell_at c i) (sym r.cells_are)
      ∙ apart_items count counts (listed objects kind counts) at (apart_listed counts) r.items (start held) r.end i r.run (λ n ks more less below is. others (n ∷ ks) (less, below) is)

  pub put_listed : (counts : List ℕ) → ReadsPut objects element kind counts (listed objects kind counts)
  put_listed [] at [] held new tree value e is stands less =
      let cell = bound (cell_of objects kind tree) (put_at at held) new e in
      let read : cell_of objects kind value ≡ Ok cell.0 = ap (cell_of objects kind) stands ∙ cell.1 in
      let read_kind : cell_of objects (kind_of_cells element held) tree ≡ Ok cell.0 = ap (λ (k : CellKind). cell_of objects k tree) (sym is) ∙ cell.1 in
      (cell.0, read, ap (λ (c : Cells). cell_at c at) (sym (ok_same (with_cell held at cell.0) new cell.2)) ∙ cell_put objects element held at cell.0 tree read_kind less)
  put_listed [] at (k ∷ ks) held new tree value e is stands less = absurd stands
  put_listed (count ∷ counts) at [] held new tree value e is stands less = absurd stands
  put_listed (count ∷ counts) at (k ∷ ks) held new tree value e is stands less =
      let r = list_read count counts at held new tree e in
      let there : slice_get r.items k ≡ Some stands.1 = ap (λ (xs : List Tree). slice_get xs k) (read_items tree stands.0 r.items stands.2 r.are) ∙ stands.4 in
      let first : k ≡ 0 + k = omega arith in
      let fits : place_from (at * count + (0 + k)) counts ks < held_count held = subst (λ (n : ℕ). place_from (at * count + n) counts ks < held_count held) first less in
      let has = put_items count counts (listed objects kind counts) at objects element kind (alike_listed counts) (apart_listed counts) (put_listed counts) r.items (start held) r.end k ks stands.1 value r.run is there stands.5 (item_below counts stands.1 ks value stands.5) fits in
      (has.0, has.1, ap (λ (c : Cells). cell_at c (place_from (at * count + k) counts ks)) (sym r.cells_are) ∙ ap (λ (n : ℕ). cell_at r.end.cells (place_from (at * count + n) counts ks)) first ∙ has.2)

module _ (objects : List ObjectType) (kind : CellKind) where
  pub left_listed : (counts : List ℕ) → ReadsLeft counts (listed objects kind counts)
  left_listed [] at [] held new tree e below none = absurd (none tree refl)
  left_listed [] at (k ∷ ks) held new tree e below none = absurd below
  left_listed (count ∷ counts) at [] held new tree e below none = absurd below
  left_listed (count ∷ counts) at (k ∷ ks) held new tree e below none =
      let r = list_read objects true kind count counts at held new tree e in
      ap (λ (c : Cells). cell_at c (place_from (at * count + k) counts ks)) (sym r.cells_are)
      ∙ left_items count counts (listed objects kind counts) at (apart_listed objects true kind counts) (left_listed counts) r.items (start objects true kind held) r.end k ks r.run below.1
      (λ j item value there is_k stands.
      (let same : k ≡ j = omega (arith, is_k) in
      let at_k : slice_get r.items k ≡ Some item = ap (slice_get r.items) same ∙ there in
      none value (r.items, item, items_read tree r.items k item r.are at_k, below.0, at_k, stands)))
