-- Lists and maps that are read in turns.
use Rattle.std.proofs.Common.{◌≡◌, ℕ, ◌-◌, true, not, ◌&&◌, ◌==◌, List, [], ◌∷◌, ◌++◌, None, Some, Result, Ok, Err, refl, sym, ap, ◌∙◌, subst, append_assoc, inl, inr}
use Rattle.std.proofs.lemmas.Bool.{and_parts}
use Rattle.std.proofs.lemmas.List.{append-nil}
use Rattle.dp_base.specs.declared.place.Place.{Place}
use Rattle.yaml_tree.specs.Rest.{Row, Rest, place, on, front}
use Rattle.yaml_tree.specs.Characters.{is_item}
use Rattle.yaml_tree.specs.Lines.{is_marker}
use Rattle.yaml_tree.specs.Repeats.{Turn, More, Last, Refused, InTurn, Repeats}
use Rattle.yaml_tree.specs.Flow.{entry, list_made, map_made}
use Rattle.yaml_tree.specs.Blocks.{BlockReading, Item, item_in, item_then, ItemTurn, BlockList, Value, EntryTurn}
use Rattle.yaml_tree.specs.BlockSteps.{key_turn, AfterEntry, AddsKey, MapFrom}
use Rattle.yaml_tree.specs.Known.{Knows}
use Rattle.yaml_tree.specs.declared.keys.Keys.{Keys}
use Rattle.yaml_tree.specs.declared.tree.Tree.{Tree}
use Rattle.yaml_tree.specs.declared.tree.Tree.TheVariants as trees
use Rattle.yaml_tree.specs.declared.tree.Pair.{Pair}
use Rattle.yaml_tree.specs.declared.tree.YamlEnd.{YamlEnd}
use Rattle.yaml_tree.proofs.Sizes.{chosen}

-- one turn more
pub in_turn_more : {A S : Type 0} (OneTurn : List A → S → Turn A S → Type 0) (before : List A) (from : S) (xs : List A) (mid : S) (x : A) (next : S) → InTurn OneTurn before from xs mid → OneTurn (before ++ xs) mid (More x next) → InTurn OneTurn before from (xs ++ x ∷ []) next
in_turn_more {A} {S} OneTurn before from [] mid x next so_far one =
    let at_mid : OneTurn before mid (More x next) = subst (λ (b : List A). OneTurn b mid (More x next)) (append-nil before) one in
    (next, subst (λ (s : S). OneTurn before s (More x next)) (sym so_far) at_mid, refl)
in_turn_more {A} {S} OneTurn before from (y ∷ ys) mid x next so_far one =
    let behind : OneTurn ((before ++ y ∷ []) ++ ys) mid (More x next) = subst (λ (b : List A). OneTurn b mid (More x next)) (sym (append_assoc before (y ∷ []) ys)) one in
    (so_far.0, so_far.1, in_turn_more OneTurn (before ++ y ∷ []) so_far.0 ys mid x next so_far.2 behind)

-- ---- lists

pub item_in-item : (indent : ℕ) (left : Rest) (rows : List Row) (next : Rest) → item_in indent left rows ≡ Some next → is_item next.here ≡ true
item_in-item indent left [] next found = absurd (cc found)
item_in-item indent left (row ∷ rows) next found =
    elim (chosen (not (is_marker row) && row.indent == indent && is_item row.text) _ _ _ found) [
      | inl h ↦
          let same : front left row rows ≡ next = cc h.1 in
          let item : is_item row.text ≡ true = (and_parts (not (is_marker row) && row.indent == indent) (is_item row.text) h.0).1 in
          subst (λ (r : Rest). is_item r.here ≡ true) same item
      | inr h ↦ absurd (cc h.1)
    ]

module _ (Node : BlockReading) (levels indent : ℕ) where
  pub item-more : (before : List Tree) (from : Rest) (item : Tree) (left next : Rest) → Item Node levels indent (on 1 from) (Ok (item, left)) → item_in indent left left.below ≡ Some next → ItemTurn Node levels indent before from (More item next)
  item-more before from item left next is found = (Ok (item, left), is, sym (ap (item_then item left) found))

  item-last : (before : List Tree) (from : Rest) (item : Tree) (left : Rest) → Item Node levels indent (on 1 from) (Ok (item, left)) → item_in indent left left.below ≡ None → ItemTurn Node levels indent before from (Last (item ∷ []) left)
  item-last before from item left is found = (Ok (item, left), is, sym (ap (item_then item left) found))

  item-refused : (before : List Tree) (from : Rest) (e : YamlEnd) → Item Node levels indent (on 1 from) (Err e) → ItemTurn Node levels indent before from (Refused e)
  item-refused before from e is = (Err e, is, refl)

-- the items so far, up to the `-` of the next one
pub record ListSoFar (Node : BlockReading) (levels indent : ℕ) (from : Rest) (items : List Tree) (at : Rest) : Type 0 where
  pub in_turn : InTurn (ItemTurn Node levels indent) [] from items at
  pub item : is_item at.here ≡ true

module _ (Node : BlockReading) (levels : ℕ) (from : Rest) where
  list_read : (at : Place) (indent : ℕ) (read : Result (List Tree × Rest) YamlEnd) → at ≡ place from → indent ≡ at.column - 1 → Repeats (ItemTurn Node levels indent) from read → BlockList Node levels from (list_made at read)
  list_read at indent read there column turns =
      let here : indent ≡ from.column - 1 = column ∙ ap (λ (p : Place). p.column - 1) there in
      (read, subst (λ (n : ℕ). Repeats (ItemTurn Node levels n) from read) here turns, ap (λ (p : Place). list_made p read) there)

  pub list_more : (indent : ℕ) (items : List Tree) (mid : Rest) → ListSoFar Node levels indent from items mid → (item : Tree) (left next : Rest) → Item Node levels indent (on 1 mid) (Ok (item, left)) → item_in indent left left.below ≡ Some next → ListSoFar Node levels indent from (items ++ item ∷ []) next
  list_more indent items mid so_far item left next is found = record {
    in_turn = in_turn_more (ItemTurn Node levels indent) [] from items mid item next so_far.in_turn (item-more Node levels indent items mid item left next is found);
    item = item_in-item indent left left.below next found;
  }

  module _ (at : Place) (indent : ℕ) (items : List Tree) (mid : Rest) (there : at ≡ place from) (column : indent ≡ at.column - 1) (so_far : ListSoFar Node levels indent from items mid) where
    pub list_last : (item : Tree) (left : Rest) → Item Node levels indent (on 1 mid) (Ok (item, left)) → item_in indent left left.below ≡ None → BlockList Node levels from (Ok (trees.List at (items ++ item ∷ []), left))
    list_last item left is found = list_read at indent (Ok (items ++ item ∷ [], left)) there column record {
      read = items;
      at = mid;
      end = Last (item ∷ []) left;
      in_turn = so_far.in_turn;
      last = item-last Node levels indent items mid item left is found;
      ends = refl;
    }

    pub list_refused : (e : YamlEnd) → Item Node levels indent (on 1 mid) (Err e) → BlockList Node levels from (Err e)
    list_refused e is = list_read at indent (Err e) there column record {
      read = items;
      at = mid;
      end = Refused e;
      in_turn = so_far.in_turn;
      last = item-refused Node levels indent items mid e is;
      ends = refl;
    }

-- ---- maps

-- the entries so far, and the key of the next one up to behind its `:`
pub record MapSoFar (Node : BlockReading) (levels indent : ℕ) (first : Tree) (from : Rest) (entries : List Pair) (key : Tree) (at : Rest) (keys : Keys) : Type 0 where
  pub in_turn : InTurn (EntryTurn Node levels indent) [] (first, from) entries (key, at)
  pub known : (value : Tree) → Knows keys (entries ++ entry key value ∷ [])

map_read : (Node : BlockReading) (levels indent : ℕ) (first : Tree) (from : Rest) (at : Place) (read : Result (List Pair × Rest) YamlEnd) → indent ≡ at.column - 1 → Repeats (EntryTurn Node levels indent) (first, from) read → MapFrom Node levels at first from (map_made at read)
map_read Node levels indent first from at read column turns =
    (read, subst (λ (n : ℕ). Repeats (EntryTurn Node levels n) (first, from) read) column turns, refl)

module _ (Node : BlockReading) (levels indent : ℕ) (first : Tree) (from : Rest) (entries : List Pair) (key : Tree) (mid : Rest) (keys : Keys) (so_far : MapSoFar Node levels indent first from entries key mid keys) where
  module _ (value : Tree) (left : Rest) (is : Value Node levels indent mid (Ok (value, left))) where
    entry_turn : (turn : Pair → Turn Pair (Tree × Rest)) → AfterEntry levels indent keys left turn → EntryTurn Node levels indent entries (key, mid) (turn (entry key value))
    entry_turn turn after = (Ok (value, left), is, after entries (entry key value) (so_far.known value))

    pub map_turn-more : (next : Tree) (at : Rest) → AfterEntry levels indent keys left (λ pair. key_turn pair (Some next) at) → EntryTurn Node levels indent entries (key, mid) (More (entry key value) (next, at))
    map_turn-more next at after = entry_turn (λ (pair : Pair). key_turn pair (Some next) at) after

    pub map_more : (next : Tree) (at : Rest) (more : Keys) → AfterEntry levels indent keys left (λ pair. key_turn pair (Some next) at) → AddsKey keys next more → MapSoFar Node levels indent first from (entries ++ entry key value ∷ []) next at more
    map_more next at more after adds = record {
      in_turn = in_turn_more (EntryTurn Node levels indent) [] (first, from) entries (key, mid) (entry key value) (next, at) so_far.in_turn (map_turn-more next at after);
      known = λ v. adds (entries ++ entry key value ∷ []) v (so_far.known value);
    }

    pub map_last : (at : Place) (rest : Rest) → indent ≡ at.column - 1 → AfterEntry levels indent keys left (λ pair. key_turn pair None rest) → MapFrom Node levels at first from (Ok (trees.Map at (entries ++ entry key value ∷ []), rest))
    map_last at rest column after = map_read Node levels indent first from at (Ok (entries ++ entry key value ∷ [], rest)) column record {
      read = entries;
      at = (key, mid);
      end = Last (entry key value ∷ []) rest;
      in_turn = so_far.in_turn;
      last = entry_turn (λ (pair : Pair). key_turn pair None rest) after;
      ends = refl;
    }

    pub map_key_refused : (at : Place) (e : YamlEnd) → indent ≡ at.column - 1 → AfterEntry levels indent keys left (λ pair. Refused e) → MapFrom Node levels at first from (Err e)
    map_key_refused at e column after = map_read Node levels indent first from at (Err e) column record {
      read = entries;
      at = (key, mid);
      end = Refused e;
      in_turn = so_far.in_turn;
      last = entry_turn (λ (pair : Pair). Refused e) after;
      ends = refl;
    }

  pub map_value_refused : (at : Place) (e : YamlEnd) → indent ≡ at.column - 1 → Value Node levels indent mid (Err e) → MapFrom Node levels at first from (Err e)
  map_value_refused at e column is = map_read Node levels indent first from at (Err e) column record {
    read = entries;
    at = (key, mid);
    end = Refused e;
    in_turn = so_far.in_turn;
    last = (Err e, is, refl);
    ends = refl;
  }
