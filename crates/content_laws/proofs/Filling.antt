-- Cells that are filled: what a key gives stays, and what none gives is left.
use Rattle.std.proofs.Common.{◌≡◌, ◌≢◌, ℕ, zero, suc, ◌<◌, Bool, true, false, not, List, [], ◌∷◌, length, get_or, get_or-set_other, get_or-set_same, Option, Some, Ok, refl, sym, ap, ◌∙◌, subst}
use Rattle.std.specs.Prelude.{slice_get, slice_set, option_map, ℤ}
use Rattle.dp_base.specs.declared.place.Place.{Place}
use Rattle.dp_base.specs.Results.{◌>>=◌, each}
use Rattle.dp_model.specs.Typing.{type_count}
use Rattle.dp_model.specs.declared.parts.ObjectType.{ObjectType}
use Rattle.dp_model.specs.declared.parts.Cells.{Cells}
use Rattle.dp_model.specs.declared.parts.Cells.TheVariants as cells
use Rattle.yaml_tree.specs.declared.tree.Tree.{Tree}
use Rattle.yaml_tree.specs.declared.tree.Pair.{Pair}
use Rattle.yaml_tree.specs.Fields.{tree_place}
use Rattle.dypdl_nodes.specs.Reads.{Reads, holds}
use Rattle.dypdl_nodes.specs.Scalars.{number_of, truth_of}
use Rattle.dypdl_data.specs.Tables.{members_of, cell_of}
use Rattle.dypdl_data.specs.Cells.{place_of, kind_of_cells, with_cell, held_count, Filling, filling_step}
use Rattle.dypdl_data.specs.declared.kinds.CellKind.{CellKind}
use Rattle.dypdl_data.specs.declared.kinds.Cell.{Cell}
use Rattle.dypdl_data.specs.declared.kinds.Cell.TheVariants.{Number, Truth, Members}
use Rattle.dypdl_load.proofs.Lists.{bound}
use Rattle.content_laws.proofs.Outcomes.{ok_same, set_there, set_elsewhere, set_length}

-- the cell at a place
abbrev pub cell_at : Cells → ℕ → Option Cell
cell_at (cells.Numbers xs) i = option_map Number (slice_get xs i)
cell_at (cells.Truths xs) i = option_map Truth (slice_get xs i)
cell_at (cells.Sets object xs) i = option_map Members (slice_get xs i)

-- as many cells of the same kind
pub record Alike (old new : Cells) : Type 0 where
  pub count : held_count new ≡ held_count old
  pub kind : (element : Bool) → kind_of_cells element new ≡ kind_of_cells element old

pub alike_itself : (held : Cells) → Alike held held
alike_itself held = record { count = refl; kind = λ element. refl }

pub alike_then : (a b c : Cells) → Alike a b → Alike b c → Alike a c
alike_then a b c ab bc = record { count = bc.count ∙ ab.count; kind = λ element. bc.kind element ∙ ab.kind element }

pub with_alike : (held : Cells) (i : ℕ) (cell : Cell) → Alike held (with_cell held i cell)
with_alike (cells.Numbers xs) i (Number n) = record { count = set_length xs i n; kind = λ element. refl }
with_alike (cells.Numbers xs) i (Truth b) = alike_itself (cells.Numbers xs)
with_alike (cells.Numbers xs) i (Members set) = alike_itself (cells.Numbers xs)
with_alike (cells.Truths xs) i (Number n) = alike_itself (cells.Truths xs)
with_alike (cells.Truths xs) i (Truth b) = record { count = set_length xs i b; kind = λ element. refl }
with_alike (cells.Truths xs) i (Members set) = alike_itself (cells.Truths xs)
with_alike (cells.Sets object xs) i (Number n) = alike_itself (cells.Sets object xs)
with_alike (cells.Sets object xs) i (Truth b) = alike_itself (cells.Sets object xs)
with_alike (cells.Sets object xs) i (Members set) = record { count = set_length xs i set; kind = λ element. refl }

pub cell_kept : (held : Cells) (k i : ℕ) (cell : Cell) → (k ≡ i → ⊥) → cell_at (with_cell held k cell) i ≡ cell_at held i
cell_kept (cells.Numbers xs) k i (Number n) differ = ap (option_map Number) (set_elsewhere xs k i n differ)
cell_kept (cells.Numbers xs) k i (Truth b) differ = refl
cell_kept (cells.Numbers xs) k i (Members set) differ = refl
cell_kept (cells.Truths xs) k i (Number n) differ = refl
cell_kept (cells.Truths xs) k i (Truth b) differ = ap (option_map Truth) (set_elsewhere xs k i b differ)
cell_kept (cells.Truths xs) k i (Members set) differ = refl
cell_kept (cells.Sets object xs) k i (Number n) differ = refl
cell_kept (cells.Sets object xs) k i (Truth b) differ = refl
cell_kept (cells.Sets object xs) k i (Members set) differ = ap (option_map Members) (set_elsewhere xs k i set differ)

module _ (objects : List ObjectType) where
  number_put : (xs : List ℤ) (i : ℕ) (cell : Cell) (tree : Tree) → (number_of tree >>= λ n. Ok (Number n)) ≡ Ok cell → i < length xs → cell_at (with_cell (cells.Numbers xs) i cell) i ≡ Some cell
  number_put xs i cell tree e less =
      let n = bound (number_of tree) (λ n. Ok (Number n)) cell e in
      subst (λ (c : Cell). cell_at (with_cell (cells.Numbers xs) i c) i ≡ Some c) {x = Number n.0} (ok_same (Number n.0) cell n.2) (ap (option_map Number) (set_there xs i n.0 less))

  pub cell_put : (element : Bool) (held : Cells) (i : ℕ) (cell : Cell) (tree : Tree) → cell_of objects (kind_of_cells element held) tree ≡ Ok cell → i < held_count held → cell_at (with_cell held i cell) i ≡ Some cell
  cell_put true (cells.Numbers xs) i cell tree e less = number_put xs i cell tree e less
  cell_put false (cells.Numbers xs) i cell tree e less = number_put xs i cell tree e less
  cell_put element (cells.Truths xs) i cell tree e less =
      let b = bound (truth_of tree) (λ b. Ok (Truth b)) cell e in
      subst (λ (c : Cell). cell_at (with_cell (cells.Truths xs) i c) i ≡ Some c) {x = Truth b.0} (ok_same (Truth b.0) cell b.2) (ap (option_map Truth) (set_there xs i b.0 less))
  cell_put element (cells.Sets object xs) i cell tree e less =
      let set = bound (members_of (type_count objects object) tree) (λ set. Ok (Members set)) cell e in
      subst (λ (c : Cell). cell_at (with_cell (cells.Sets object xs) i c) i ≡ Some c) {x = Members set.0} (ok_same (Members set.0) cell set.2) (ap (option_map Members) (set_there xs i set.0 less))

-- ---- keys one after the other

not_held : (b : Bool) (at : Place) (done : Unit {0}) → holds (not b) 43 at ≡ Ok done → b ≡ false
not_held true at done e = absurd (cc e)
not_held false at done e = refl

module _ (objects : List ObjectType) (counts : List ℕ) (kind : CellKind) where
  abbrev step : Filling → Pair → Reads Filling
  step = filling_step objects counts kind

  abbrev on_cell : Filling → ℕ → Cell → Reads Filling
  on_cell f i cell = Ok (record { cells = with_cell f.cells i cell; given = slice_set f.given i true })

  abbrev on_fresh : Filling → Pair → ℕ → Unit {0} → Reads Filling
  on_fresh f pair i done = cell_of objects kind pair.value >>= on_cell f i

  abbrev on_place : Filling → Pair → ℕ → Reads Filling
  on_place f pair i = holds (not (get_or f.given i false)) 43 (tree_place pair.key) >>= on_fresh f pair i

  -- what one entry did
  record Filled (f : Filling) (pair : Pair) (g : Filling) : Type 0 where
    place : ℕ
    cell : Cell
    at : place_of counts pair.key ≡ Ok place
    fresh : get_or f.given place false ≡ false
    read : cell_of objects kind pair.value ≡ Ok cell
    cells_are : with_cell f.cells place cell ≡ g.cells
    given_are : slice_set f.given place true ≡ g.given

  told : (f g : Filling) (pair : Pair) → step f pair ≡ Ok g → Filled f pair g
  told f g pair e =
      let i = bound (place_of counts pair.key) (on_place f pair) g e in
      let fresh = bound (holds (not (get_or f.given i.0 false)) 43 (tree_place pair.key)) (on_fresh f pair i.0) g i.2 in
      let cell = bound (cell_of objects kind pair.value) (on_cell f i.0) g fresh.2 in
      let whole : Filling = record { cells = with_cell f.cells i.0 cell.0; given = slice_set f.given i.0 true } in
      let same : whole ≡ g = ok_same whole g cell.2 in
      record {
        place = i.0;
        cell = cell.0;
        at = i.1;
        fresh = not_held (get_or f.given i.0 false) (tree_place pair.key) fresh.0 fresh.1;
        read = cell.1;
        cells_are = ap (λ (h : Filling). h.cells) same;
        given_are = ap (λ (h : Filling). h.given) same;
      }

  alike_one : (f g : Filling) (pair : Pair) → Filled f pair g → Alike f.cells g.cells
  alike_one f g pair did = subst (Alike f.cells) did.cells_are (with_alike f.cells did.place did.cell)

  pub alike_all : (entries : List Pair) (f end : Filling) → each step f entries ≡ Ok end → Alike f.cells end.cells
  alike_all [] f end e = subst (λ (h : Filling). Alike f.cells h.cells) (ok_same f end e) (alike_itself f.cells)
  alike_all (pair ∷ entries) f end e =
      let g = bound (step f pair) (λ t. each step t entries) end e in
      alike_then f.cells g.0.cells end.cells (alike_one f g.0 pair (told f g.0 pair g.1)) (alike_all entries g.0 end g.2)

  kept_one : (f g : Filling) (pair : Pair) (i : ℕ) → (did : Filled f pair g) → (did.place ≡ i → ⊥) → cell_at g.cells i ≡ cell_at f.cells i
  kept_one f g pair i did differ = ap (λ (held : Cells). cell_at held i) (sym did.cells_are) ∙ cell_kept f.cells did.place i did.cell differ

  -- a cell that was given stays
  stays : (entries : List Pair) (f end : Filling) (i : ℕ) → each step f entries ≡ Ok end → get_or f.given i false ≡ true → cell_at end.cells i ≡ cell_at f.cells i
  stays [] f end i e given = ap (λ (h : Filling). cell_at h.cells i) (sym (ok_same f end e))
  stays (pair ∷ entries) f end i e given =
      let g = bound (step f pair) (λ t. each step t entries) end e in
      let did = told f g.0 pair g.1 in
      let differ : did.place ≡ i → ⊥ = λ same. clash did same in
      let back : i ≢ did.place = λ same. differ (sym same) in
      let still : get_or g.0.given i false ≡ true = ap (λ (xs : List Bool). get_or xs i false) (sym did.given_are) ∙ get_or-set_other f.given did.place i true false back ∙ given in
      stays entries g.0 end i g.2 still ∙ kept_one f g.0 pair i did differ
    where
      clash : {g : Filling} (did : Filled f pair g) → did.place ≡ i → ⊥
      clash did same = (let t : true ≡ false = sym given ∙ ap (λ (k : ℕ). get_or f.given k false) (sym same) ∙ did.fresh in cc)

  -- what no key names is left
  pub left : (entries : List Pair) (f end : Filling) (i : ℕ) → each step f entries ≡ Ok end → ((j : ℕ) (pair : Pair) → slice_get entries j ≡ Some pair → place_of counts pair.key ≡ Ok i → ⊥)
      → cell_at end.cells i ≡ cell_at f.cells i
  left [] f end i e none = ap (λ (h : Filling). cell_at h.cells i) (sym (ok_same f end e))
  left (pair ∷ entries) f end i e none =
      let g = bound (step f pair) (λ t. each step t entries) end e in
      let did = told f g.0 pair g.1 in
      let differ : did.place ≡ i → ⊥ = λ same. none 0 pair refl (did.at ∙ ap Ok same) in
      left entries g.0 end i g.2 (λ j other at named. none (suc j) other at named) ∙ kept_one f g.0 pair i did differ

  -- what a key names has the value that is given there
  pub put : (element : Bool) (entries : List Pair) (f end : Filling) (j i : ℕ) (pair : Pair) → each step f entries ≡ Ok end → kind ≡ kind_of_cells element f.cells → length f.given ≡ held_count f.cells
      → slice_get entries j ≡ Some pair → place_of counts pair.key ≡ Ok i → i < held_count f.cells
      → (cell : Cell) × (cell_of objects kind pair.value ≡ Ok cell) × (cell_at end.cells i ≡ Some cell)
  put element [] f end j i pair e is marked at named less = absurd (cc at)
  put element (first ∷ entries) f end zero i pair e is marked at named less =
      let g = bound (step f first) (λ t. each step t entries) end e in
      let did = told f g.0 first g.1 in
      let same : first ≡ pair = cc in
      let place : did.place ≡ i = ok_same did.place i (sym did.at ∙ ap (λ (p : Pair). place_of counts p.key) same ∙ named) in
      let read : cell_of objects kind pair.value ≡ Ok did.cell = ap (λ (p : Pair). cell_of objects kind p.value) (sym same) ∙ did.read in
      let read_kind : cell_of objects (kind_of_cells element f.cells) pair.value ≡ Ok did.cell = ap (λ (k : CellKind). cell_of objects k pair.value) (sym is) ∙ read in
      let has : cell_at g.0.cells i ≡ Some did.cell =
      ap (λ (held : Cells). cell_at held i) (sym did.cells_are) ∙ ap (λ (k : ℕ). cell_at (with_cell f.cells k did.cell) i) place ∙ cell_put objects element f.cells i did.cell pair.value read_kind less in
      let within : i < length f.given = rw marked less in
      let given : get_or g.0.given i false ≡ true = ap (λ (xs : List Bool). get_or xs i false) (sym did.given_are) ∙ ap (λ (k : ℕ). get_or (slice_set f.given k true) i false) place ∙ get_or-set_same f.given i true false within in
      (did.cell, read, stays entries g.0 end i g.2 given ∙ has)
  put element (first ∷ entries) f end (suc j) i pair e is marked at named less =
      let g = bound (step f first) (λ t. each step t entries) end e in
      let did = told f g.0 first g.1 in
      let alike = alike_one f g.0 first did in
      let as_many : length g.0.given ≡ held_count g.0.cells = ap length (sym did.given_are) ∙ set_length f.given did.place true ∙ marked ∙ sym alike.count in
      let below : i < held_count g.0.cells = rw (alike.count) less in
      put element entries g.0 end j i pair g.2 (is ∙ sym (alike.kind element)) as_many at named below
