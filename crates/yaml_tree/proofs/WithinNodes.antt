-- The scalars of a block form have no more bytes than what was left of the text.
use Rattle.std.proofs.Common.{◌≡◌, ℕ, zero, suc, ◌+◌, ◌-◌, ◌≤◌, Bool, true, false, ◌&&◌, ◌==◌, if◌then◌else◌, List, [], ◌∷◌, ◌++◌, Option, None, Some, Ok, Err, refl, sym, subst, inl, inr, arith}
use Rattle.std.specs.List.{list_all}
use Rattle.dp_base.specs.declared.place.Place.{Place}
use Rattle.yaml_tree.specs.Rest.{Rest, place, on, skip_blanks}
use Rattle.yaml_tree.specs.Characters.{is_item, is_colon, is_clear}
use Rattle.yaml_tree.specs.Lines.{from_content, settle, end_line}
use Rattle.yaml_tree.specs.Scalars.{plain}
use Rattle.yaml_tree.specs.Openings.{opening}
use Rattle.yaml_tree.specs.Keys.{stands_before, deep_place}
use Rattle.yaml_tree.specs.Repeats.{Turn, More, Last, Refused, Repeats}
use Rattle.yaml_tree.specs.Flow.{Outcome, entry, empty_at, Form}
use Rattle.yaml_tree.specs.Blocks.{BlockReading, ended, whole_form, LineValue, empty_scalar, node_in, BelowOf, Below, Item, item_in, item_then, block_item_turn, ItemTurn, BlockList, Value, entry_in, key_then, later_key, NextEntry, AfterValue, EntryTurn, BlockMap, is_block_key, FirstKey, AfterForm, BlockNode}
use Rattle.yaml_tree.specs.BlockScalars.{content_of, content_indent, block_text, block_scalar}
use Rattle.yaml_tree.specs.declared.header.Style.{Style}
use Rattle.yaml_tree.specs.declared.header.Chomping.{Chomping}
use Rattle.yaml_tree.specs.Within.{is_within, IsWithin}
use Rattle.yaml_tree.specs.declared.opening.Opening.{Opening}
use Rattle.yaml_tree.specs.declared.opening.Opening.TheVariants.{Plain, Quoted, Header}
use Rattle.yaml_tree.specs.declared.tree.Tree.{Tree}
use Rattle.yaml_tree.specs.declared.tree.Pair.{Pair}
use Rattle.yaml_tree.proofs.Sizes.{size, which, on-size, skip_blanks-size, from_content-size, settled-ok, block_scalar-ok, list_made-ok, map_made-ok, node_in-size, entry_in-size, value-size, BlockShortens, item_turn-shortens, entry_turn-shortens, form-shortens, node-shortens}
use Rattle.yaml_tree.proofs.WithinTrees.{pair_within, scalar_within, list_within, map_within}
use Rattle.yaml_tree.proofs.WithinContents.{content-size, block_text-length}
use Rattle.yaml_tree.proofs.WithinForms.{plain_within, entry_within, empty_within, one_passes, Passes, repeats_pass, IsBounded, form_within}

abbrev pub IsBoundedBlock : (most : ℕ) → BlockReading → Type 0
IsBoundedBlock most Node = (least : ℕ) → IsBounded most (Node least)

ended_within : (most : ℕ) (o : Outcome) → ((y : Tree × Rest) → o ≡ Ok y → IsWithin most y.0) → (x : Tree × Rest) → ended o ≡ Ok x → IsWithin most x.0
ended_within most (Ok y) within x is = let s = settled-ok y.0 (end_line y.1) x is in rw s.2 (within y refl)
ended_within most (Err e) within x is = absurd (cc is)

block_scalar_within : (most : ℕ) (style : Style) (chomping : Chomping) (least : ℕ) (at : Place) (r : Rest) (x : Tree × Rest) → size r ≤ most → block_scalar style chomping least at r ≡ Ok x → IsWithin most x.0
block_scalar_within most style chomping least at r x fits is =
    let content = content_of least r.below in
    rw (block_scalar-ok style chomping least at r x is)
    (scalar_within most at (block_text style chomping (content_indent content) content) (omega (arith, block_text-length style chomping (content_indent content) content, content-size least r.below)))

whole_form_within : (most : ℕ) (o : Opening) (least : ℕ) (from : Rest) (begun : Outcome) → size from ≤ most → ((y : Tree × Rest) → begun ≡ Ok y → IsWithin most y.0 × (size y.1 ≤ most)) → (x : Tree × Rest) → whole_form o least from begun ≡ Ok x → IsWithin most x.0
whole_form_within most o least from (Err e) fits known x whole = absurd (cc whole)
whole_form_within most Plain least from (Ok z) fits known x whole = ended_within most (plain false least from) (λ y e. plain_within most false least from y fits e) x whole
whole_form_within most (Quoted single inside) least from (Ok z) fits known x whole = ended_within most (Ok z) (λ y e. (known y e).0) x whole
whole_form_within most (Header style chomping) least from (Ok z) fits known x whole = block_scalar_within most style chomping least (place from) z.1 x (known z refl).1 whole
whole_form_within most o least from (Ok z) fits known x whole = ended_within most (Ok z) (λ y e. (known y e).0) x whole

line_value_within : (most levels least : ℕ) → IsBounded most (LineValue levels least)
line_value_within most levels least from x fits is =
    whole_form_within most (opening false true from) least from is.0 fits
    (λ y e. let form : Form false true levels from (Ok y) = subst (Form false true levels from) e is.1 in (form_within most false true levels from y fits form, omega (arith, form-shortens false true levels from y form)))
    x (sym is.2)

empty_scalar_within : (most levels : ℕ) (at : Rest) (x : Tree × Rest) → empty_scalar levels at ≡ Ok x → IsWithin most x.0
empty_scalar_within most zero at x is = absurd (cc is)
empty_scalar_within most (suc levels) at x is = let e : (empty_at at, settle at) ≡ x = cc is in rw (← e) (empty_within most at)

item_then_passes : (most : ℕ) (item : Tree) (left : Rest) (o : Option Rest) → IsWithin most item → Passes (is_within most) (item_then item left o)
item_then_passes most item left (Some next) is = is
item_then_passes most item left None is = one_passes (is_within most) item is

item_turn_passes : (most indent : ℕ) (item : Outcome) → ((x : Tree × Rest) → item ≡ Ok x → IsWithin most x.0) → Passes (is_within most) (block_item_turn indent item)
item_turn_passes most indent (Ok x) within = item_then_passes most x.0 x.1 (item_in indent x.1 x.1.below) (within x refl)
item_turn_passes most indent (Err e) within = tt

-- ---- entries, behind each of which the key of the next one may be read

-- a key whose texts are short, and what is left behind its `:`
abbrev IsReady : ℕ → Tree × Rest → Type 0
IsReady most keyed = IsWithin most keyed.0 × (size keyed.1 ≤ most)

abbrev KeyPasses : ℕ → Turn Pair (Tree × Rest) → Type 0
KeyPasses most (More pair next) = (pair_within most pair ≡ true) × IsWithin most next.0
KeyPasses most (Last pairs left) = list_all (pair_within most) pairs ≡ true
KeyPasses most (Refused e) = Unit {0}

key_passes : (most : ℕ) (turn : Turn Pair (Tree × Rest)) → KeyPasses most turn → Passes (pair_within most) turn
key_passes most (More pair next) is = is.0
key_passes most (Last pairs left) is = is
key_passes most (Refused e) is = tt

either : (most : ℕ) (b : Bool) (t u : Turn Pair (Tree × Rest)) → KeyPasses most t → KeyPasses most u → KeyPasses most (if b then t else u)
either most true t u a b = a
either most false t u a b = b

key_then_passes : (most : ℕ) (pair : Pair) (from to : Rest) (key : Tree) → pair_within most pair ≡ true → IsWithin most key → KeyPasses most (key_then pair from to key)
key_then_passes most pair from to key is within = either most (from.line == to.line && is_colon (skip_blanks to).here) _ _ (is, within) tt

later_key_passes : (most : ℕ) (before : List Pair) (pair : Pair) (from : Rest) (key : Outcome) → pair_within most pair ≡ true → ((x : Tree × Rest) → key ≡ Ok x → IsWithin most x.0) → KeyPasses most (later_key before pair from key)
later_key_passes most before pair from (Ok x) is within = either most (stands_before x.0 (before ++ pair ∷ [])) _ _ tt (key_then_passes most pair from x.1 x.0 is (within x refl))
later_key_passes most before pair from (Err e) is within = tt

next_entry_passes : (most levels : ℕ) (before : List Pair) (pair : Pair) (left : Rest) (o : Option Rest) → pair_within most pair ≡ true → ((from : Rest) → o ≡ Some from → size from ≤ most) → (turn : Turn Pair (Tree × Rest)) → NextEntry levels before pair left o turn → KeyPasses most turn
next_entry_passes most levels before pair left None is fits turn t = rw t (one_passes (pair_within most) pair is)
next_entry_passes most levels before pair left (Some from) is fits turn t =
    rw t.2 (later_key_passes most before pair from t.0 is (λ x e. form_within most false false levels from x (fits from refl) (subst (Form false false levels from) e t.1)))

after_value_passes : (most levels indent : ℕ) (before : List Pair) (key : Tree) (value : Outcome) → IsWithin most key → ((x : Tree × Rest) → value ≡ Ok x → IsWithin most x.0 × (size x.1 ≤ most)) → (turn : Turn Pair (Tree × Rest)) → AfterValue levels indent before key value turn → KeyPasses most turn
after_value_passes most levels indent before key (Err e) is known turn t = rw t tt
after_value_passes most levels indent before key (Ok x) is known turn t =
    next_entry_passes most levels before (entry key x.0) x.1 (entry_in indent x.1 x.1.below) (entry_within most key x.0 is (known x refl).0) (λ from e. omega (arith, entry_in-size indent x.1 x.1.below from e, (known x refl).1)) turn t

-- ---- nodes

module _ (most : ℕ) (Node : BlockReading) (shortens : BlockShortens Node) (bounded : IsBoundedBlock most Node) (levels : ℕ) where
  below_of_within : (indent : ℕ) (at : Rest) (o : Option Rest) → ((from : Rest) → o ≡ Some from → size from ≤ most) → (x : Tree × Rest) → BelowOf Node levels indent at o (Ok x) → IsWithin most x.0
  below_of_within indent at (Some from) fits x is = bounded (indent + 1) from x (fits from refl) is
  below_of_within indent at None fits x is = empty_scalar_within most levels at x (sym is)

  below_within : (indent : ℕ) (lists : Bool) → IsBounded most (Below Node levels indent lists)
  below_within indent lists at x fits is =
      below_of_within indent at (node_in indent lists at (from_content at.below)) (λ from e. omega (arith, node_in-size indent lists at (from_content at.below) from e, from_content-size at.below)) x is

  item_within : (indent : ℕ) → IsBounded most (Item Node levels indent)
  item_within indent at x fits is =
      elim (which (is_clear at.here) _ _ is) [
        | inl h ↦ below_within indent false at x fits h.1
        | inr h ↦ bounded (indent + 1) (skip_blanks at) x (omega (arith, skip_blanks-size at)) h.1
      ]

  value_within : (indent : ℕ) → IsBounded most (Value Node levels indent)
  value_within indent at x fits is =
      elim (which (is_clear at.here) _ _ is) [
        | inl h ↦ below_within indent true at x fits h.1
        | inr h ↦ line_value_within most levels (indent + 1) (skip_blanks at) x (omega (arith, skip_blanks-size at)) h.1
      ]

  item_turns_pass : (indent : ℕ) (before : List Tree) (from : Rest) (turn : Turn Tree Rest) → size from ≤ most → ItemTurn Node levels indent before from turn → Passes (is_within most) turn
  item_turns_pass indent before from turn fits is =
      rw is.2 (item_turn_passes most indent is.0 (λ x e. item_within indent (on 1 from) x (omega (arith, on-size 1 from)) (subst (Item Node levels indent (on 1 from)) e is.1)))

  item_fits : (indent : ℕ) (before : List Tree) (from : Rest) (item : Tree) (next : Rest) → size from ≤ most → ItemTurn Node levels indent before from (More item next) → size next ≤ most
  item_fits indent before from item next fits is = omega (arith, item_turn-shortens Node shortens levels indent before from (More item next) is)

  block_list_within : IsBounded most (BlockList Node levels)
  block_list_within from x fits is =
      let m = list_made-ok (place from) is.0 x (sym is.2) in
      let all = repeats_pass (is_within most) (λ (r : Rest). size r ≤ most) (ItemTurn Node levels (from.column - 1)) (item_fits (from.column - 1)) (item_turns_pass (from.column - 1)) from m.0 fits (subst (Repeats (ItemTurn Node levels (from.column - 1)) from) m.1 is.1) in
      rw m.2 (list_within most (place from) m.0.0 all)

  entry_turns_pass : (indent : ℕ) (before : List Pair) (keyed : Tree × Rest) (turn : Turn Pair (Tree × Rest)) → IsReady most keyed → EntryTurn Node levels indent before keyed turn → KeyPasses most turn
  entry_turns_pass indent before keyed turn now is =
      after_value_passes most levels indent before keyed.0 is.0 now.0
      (λ x e. let value : Value Node levels indent keyed.1 (Ok x) = subst (Value Node levels indent keyed.1) e is.1 in (value_within indent keyed.1 x now.1 value, omega (arith, value-size Node shortens levels indent keyed.1 x value)))
      turn is.2

  entry_ready : (indent : ℕ) (before : List Pair) (keyed : Tree × Rest) (pair : Pair) (next : Tree × Rest) → IsReady most keyed → EntryTurn Node levels indent before keyed (More pair next) → IsReady most next
  entry_ready indent before keyed pair next now is =
      ((entry_turns_pass indent before keyed (More pair next) now is).1, omega (arith, entry_turn-shortens Node shortens levels indent before keyed (More pair next) is, now.1))

  block_map_within : (from : Rest) (key : Tree) (behind : Rest) (x : Tree × Rest) → IsWithin most key → size behind ≤ most → BlockMap Node levels from key behind (Ok x) → IsWithin most x.0
  block_map_within from key behind x within fits is =
      let m = map_made-ok (place from) is.0 x (sym is.2) in
      let all = repeats_pass (pair_within most) (IsReady most) (EntryTurn Node levels (from.column - 1)) (entry_ready (from.column - 1)) (λ before keyed turn now t. key_passes most turn (entry_turns_pass (from.column - 1) before keyed turn now t)) (key, behind) m.0 (within, fits) (subst (Repeats (EntryTurn Node levels (from.column - 1)) (key, behind)) m.1 is.1) in
      rw m.2 (map_within most (place from) m.0.0 all)

  first_key_within : (from : Rest) (key : Tree) (to : Rest) (deep : Option Place) (x : Tree × Rest) → IsWithin most key → size to ≤ most → FirstKey Node levels from key to deep (Ok x) → IsWithin most x.0
  first_key_within from key to (Some deep) x within fits is = absurd (cc is)
  first_key_within from key to None x within fits is = block_map_within from key (on 1 (skip_blanks to)) x within (omega (arith, on-size 1 (skip_blanks to), skip_blanks-size to)) is

  after_form_within : (least : ℕ) (from : Rest) (begun : Outcome) → size from ≤ most → ((y : Tree × Rest) → begun ≡ Ok y → IsWithin most y.0 × (size y.1 ≤ most)) → (x : Tree × Rest) → AfterForm Node levels least from begun (Ok x) → IsWithin most x.0
  after_form_within least from (Err e) fits known x is = absurd (cc is)
  after_form_within least from (Ok y) fits known x is =
      elim (which (is_block_key from y.1) _ _ is) [
        | inl h ↦ first_key_within from y.0 y.1 (deep_place y.0 levels) x (known y refl).0 (known y refl).1 h.1
        | inr h ↦ whole_form_within most (opening false true from) least from (Ok y) fits known x (sym h.1)
      ]

pub node_within : (most levels : ℕ) → IsBoundedBlock most (BlockNode levels)
node_within most zero least from x fits is =
    elim (which (is_item from.here) _ _ is) [
      | inl h ↦ absurd (cc h.1)
      | inr h ↦ absurd (cc h.1)
    ]
node_within most (suc levels) least from x fits is =
    elim (which (is_item from.here) _ _ is) [
      | inl h ↦ block_list_within most (BlockNode levels) (node-shortens levels) (node_within most levels) levels from x fits h.1
      | inr h ↦
          after_form_within most (BlockNode levels) (node-shortens levels) (node_within most levels) levels least from h.1.0 fits
          (λ y e. let form : Form false true (suc levels) from (Ok y) = subst (Form false true (suc levels) from) e h.1.1 in (form_within most false true (suc levels) from y fits form, omega (arith, form-shortens false true (suc levels) from y form)))
          x h.1.2
    ]
