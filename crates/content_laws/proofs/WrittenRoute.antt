-- How a tree looks in block style.
use Rattle.std.proofs.Common.{◌≡◌, ℕ, suc, None, Some, ◌==◌, ◌+◌, Bool, true, false, if◌then◌else◌, List, [], ◌∷◌, ◌++◌, ◌&&◌, ◌||◌, refl, sym, ap, ◌∙◌, subst}
use Rattle.std.specs.Prelude.{codes}
use Rattle.std.specs.Str.{bytes_eq, is_utf8, chars}
use lib.Utf8.{encode}
use Rattle.std.proofs.lemmas.List.Elements.{All-nil, All-cons}
use Rattle.yaml_tree.specs.Keys.{TreeTest, PairTest, same_form, same_step, same_pair_step, same_key}
use Rattle.yaml_tree.specs.declared.tree.Pair as pairs
use Rattle.std.specs.List.{flat_map}
use Rattle.dp_base.specs.declared.place.Place.{Place}
use Rattle.yaml_tree.specs.Flow.{entry}
use Rattle.yaml_tree.specs.declared.tree.Tree.{Tree}
use Rattle.yaml_tree.specs.declared.tree.Tree as trees
use Rattle.yaml_tree.specs.declared.tree.Tree.TheVariants as made
use Rattle.yaml_tree.specs.declared.tree.Pair.{Pair}
use Rattle.content_laws.specs.Writing.{Style, with_commas, in_brackets, scalar_by, stands_plain, written, NoneTwice, NoMapForm, IsNoMap, IsWritableIn, scalar}
use Rattle.content_laws.specs.BlockWriting.{Line, Note, IsComment, AreNotes, byte_order_mark, piece_text, pieces, noted, formal, form_in_line, is_in_line, is_scalar_form, is_short_form, form_depth, behind_front, value_lines, entry_lines, block_lines, narrow, route_tests, route_item, route, LawBlockSample}
use Rattle.content_laws.proofs.WrittenBlocks.{lines_of}
use Rattle.content_laws.proofs.WrittenSample.{scalar_fits, list_fits, map_fits, FitsIn, utf8, scalar_looks, list_looks, map_looks}

abbrev style : Style
style = narrow.style

abbrev Node : ℕ → ℕ → Tree → List Line
Node = block_lines narrow

-- whether a node stands in one line
line_by : (tree : Tree) (form : trees.Tree-F Tree Pair) → trees.out-Tree tree ≡ form → is_in_line narrow tree ≡ (form_in_line form || is_short_form form)
line_by tree form is = λ i. form_in_line (is i) || is_short_form (is i)

lines_by : (levels indent : ℕ) (tree : Tree) (form : trees.Tree-F Tree Pair) (text : List ℕ) (b : Bool) → trees.out-Tree tree ≡ form → written style tree ≡ text → is_in_line narrow tree ≡ b → Node (suc levels) indent tree ≡ lines_of narrow (Node levels) indent text b form
unfolding block_lines
lines_by levels indent tree form text b is looks line = λ i. lines_of narrow (Node levels) indent (looks i) (line i) (is i)

entry_by : (levels indent : ℕ) (key value : Tree) (form : trees.Tree-F Tree Pair) (text shown : List ℕ) (b : Bool) (below : List Line) → trees.out-Tree value ≡ form → written style key ≡ text → written style value ≡ shown → is_in_line narrow value ≡ b
    → Node levels (indent + form_depth narrow form) value ≡ below
    → entry_lines narrow (Node levels) indent (entry key value) ≡ (if b then (indent, text ++ 58 ∷ 32 ∷ shown) ∷ [] else (indent, text ++ 58 ∷ []) ∷ below)
entry_by levels indent key value form text shown b below is key_looks looks line lines =
    (λ i. value_lines narrow (Node levels) indent (key_looks i) (line i) value) ∙ by b where
      by : (b : Bool) → value_lines narrow (Node levels) indent text b value ≡ (if b then (indent, text ++ 58 ∷ 32 ∷ shown) ∷ [] else (indent, text ++ 58 ∷ []) ∷ below)
      by true = λ i. (indent, text ++ 58 ∷ 32 ∷ looks i) ∷ []
      by false = λ i. (indent, text ++ 58 ∷ []) ∷ (ap (λ (d : ℕ). Node levels (indent + d) value) (ap (form_depth narrow) is) ∙ lines) i

module _ (at : Place) where
  looks : (text : List ℕ) → written style (scalar at text) ≡ scalar_by (stands_plain style text) text
  looks text = scalar_looks style at text

  abbrev steps : Tree
  steps = made.List at (scalar at (codes "#") ∷ route_item at ∷ [])

  abbrev goal_map : Tree
  goal_map = made.Map at (entry (scalar at (codes "x")) (made.Map at []) ∷ [])

  -- an entry in one line, with a scalar
  text_entry : (levels indent : ℕ) (key text : List ℕ) → entry_lines narrow (Node levels) indent (entry (scalar at key) (scalar at text))
      ≡ (indent, scalar_by (stands_plain style key) key ++ 58 ∷ 32 ∷ scalar_by (stands_plain style text) text) ∷ []
  text_entry levels indent key text =
      entry_by levels indent (scalar at key) (scalar at text) (trees.Tree-F.Scalar at text) _ _ true (Node levels (indent + 0) (scalar at text)) (made.outs-Scalar at text) (looks key) (looks text)
      (line_by (scalar at text) (trees.Tree-F.Scalar at text) (made.outs-Scalar at text)) refl

  tests_line : is_in_line narrow (route_tests at) ≡ true
  tests_line =
      line_by (route_tests at) (trees.Tree-F.List at (scalar at (codes "(= x 3)") ∷ scalar at (codes "(> y 0)") ∷ [])) (made.outs-List at (scalar at (codes "(= x 3)") ∷ scalar at (codes "(> y 0)") ∷ []))
      ∙ (λ i. is_scalar_form (made.outs-Scalar at (codes "(= x 3)") i) && (is_scalar_form (made.outs-Scalar at (codes "(> y 0)") i) && true))

  tests_look : written style (route_tests at) ≡ codes "[(= x 3),(> y 0)]"
  tests_look = list_looks style at (scalar at (codes "(= x 3)") ∷ scalar at (codes "(> y 0)") ∷ []) ∙ (λ i. in_brackets 0 91 93 (with_commas 0 (looks (codes "(= x 3)") i ∷ looks (codes "(> y 0)") i ∷ [])))

  item_lines_are : (levels : ℕ) → Node (suc levels) 2 (route_item at) ≡ (2, codes "name: go") ∷ (2, codes "cost: (+ cost -1)") ∷ (2, codes "preconditions: [(= x 3),(> y 0)]") ∷ []
  item_lines_are levels =
      lines_by levels 2 (route_item at) _ _ false (made.outs-Map at _) refl (line_by (route_item at) _ (made.outs-Map at _))
      ∙ (λ i. text_entry levels 2 (codes "name") (codes "go") i
      ++ (text_entry levels 2 (codes "cost") (codes "(+ cost -1)") i
      ++ (entry_by levels 2 (scalar at (codes "preconditions")) (route_tests at) _ (codes "preconditions") (codes "[(= x 3),(> y 0)]") true _ (made.outs-List at _) (looks (codes "preconditions")) tests_look tests_line refl i ++ [])))

  abbrev item_entries : List Pair
  item_entries =
      entry (scalar at (codes "name")) (scalar at (codes "go"))
      ∷ entry (scalar at (codes "cost")) (scalar at (codes "(+ cost -1)"))
      ∷ entry (scalar at (codes "preconditions")) (route_tests at) ∷ []

  steps_line : is_in_line narrow steps ≡ false
  steps_line =
      line_by steps (trees.Tree-F.List at (scalar at (codes "#") ∷ route_item at ∷ [])) (made.outs-List at (scalar at (codes "#") ∷ route_item at ∷ []))
      ∙ (λ i. is_scalar_form (made.outs-Scalar at (codes "#") i) && (is_scalar_form (made.outs-Map at item_entries i) && true))

  steps_are : (levels : ℕ) → Node (suc (suc levels)) 0 steps
      ≡ (0, codes "- \"#\"") ∷ (0, codes "- name: go") ∷ (2, codes "cost: (+ cost -1)") ∷ (2, codes "preconditions: [(= x 3),(> y 0)]") ∷ []
  steps_are levels =
      lines_by (suc levels) 0 steps _ _ false (made.outs-List at _) refl steps_line
      ∙ (λ i. behind_front 0 (45 ∷ 32 ∷ []) (lines_by levels 2 (scalar at (codes "#")) _ _ true (made.outs-Scalar at (codes "#")) (looks (codes "#")) (line_by (scalar at (codes "#")) _ (made.outs-Scalar at (codes "#"))) i)
      ++ (behind_front 0 (45 ∷ 32 ∷ []) (item_lines_are levels i) ++ []))

  goal_lines : (levels : ℕ) → Node (suc levels) 2 goal_map ≡ (2, codes "x: {}") ∷ []
  goal_lines levels =
      lines_by levels 2 goal_map _ _ false (made.outs-Map at _) refl (line_by goal_map _ (made.outs-Map at _))
      ∙ (λ i. entry_by levels 2 (scalar at (codes "x")) (made.Map at []) (trees.Tree-F.Map at []) (codes "x") (codes "{}") true _ (made.outs-Map at []) (looks (codes "x")) (map_looks style at []) (line_by (made.Map at []) _ (made.outs-Map at [])) refl i ++ [])

  all_lines : (levels : ℕ) → Node (suc (suc (suc levels))) 0 (route at)
      ≡ (0, codes "reduce: min") ∷ (0, codes "transitions:") ∷ (0, codes "- \"#\"") ∷ (0, codes "- name: go") ∷ (2, codes "cost: (+ cost -1)") ∷ (2, codes "preconditions: [(= x 3),(> y 0)]") ∷ (0, codes "target:") ∷ (2, codes "x: {}") ∷ []
  all_lines levels =
      lines_by (suc (suc levels)) 0 (route at) _ _ false (made.outs-Map at _) refl (line_by (route at) _ (made.outs-Map at _))
      ∙ (λ i. text_entry (suc (suc levels)) 0 (codes "reduce") (codes "min") i
      ++ (entry_by (suc (suc levels)) 0 (scalar at (codes "transitions")) steps _ (codes "transitions") _ false _ (made.outs-List at _) (looks (codes "transitions")) refl steps_line (steps_are levels) i
      ++ (entry_by (suc (suc levels)) 0 (scalar at (codes "target")) goal_map _ (codes "target") _ false _ (made.outs-Map at _) (looks (codes "target")) refl (line_by goal_map _ (made.outs-Map at _)) (goal_lines (suc levels)) i ++ [])))

  -- ---- it may be written

  same_scalars : (a b : List ℕ) → same_key (scalar at a) (scalar at b) ≡ bytes_eq a b
  same_scalars a b =
      ap (λ (t : TreeTest). t (scalar at b)) (trees.fold_out-Tree TreeTest PairTest same_step same_pair_step (scalar at a))
      ∙ (λ i. same_form (trees.map-Tree Tree Pair TreeTest PairTest same_key (pairs.fold-Pair TreeTest PairTest same_step same_pair_step) (made.outs-Scalar at a i)) (made.outs-Scalar at b i))

  three_keys : (a b c : List ℕ) (x y z : Tree) → bytes_eq b a ≡ false → bytes_eq c a ≡ false → bytes_eq c b ≡ false → NoneTwice [] (entry (scalar at a) x ∷ entry (scalar at b) y ∷ entry (scalar at c) z ∷ [])
  three_keys a b c x y z ba ca cb =
      (refl, ((λ i. (same_scalars b a ∙ ba) i || false), ((λ i. (same_scalars c a ∙ ca) i || ((same_scalars c b ∙ cb) i || false)), tt)))

  no_map : (text : List ℕ) → IsNoMap (scalar at text)
  no_map text = subst NoMapForm (sym (made.outs-Scalar at text)) tt

  text_fits : (levels : ℕ) (text : List ℕ) → is_utf8 text ≡ true → IsWritableIn (suc levels) (scalar at text)
  text_fits levels text is = scalar_fits levels at text (utf8 text is)

  tests_fit : (levels : ℕ) → IsWritableIn (suc (suc levels)) (route_tests at)
  unfolding is_utf8 chars encode
  tests_fit levels =
      let P : Tree → Type 0 = IsWritableIn (suc levels) in
      list_fits (suc levels) at (scalar at (codes "(= x 3)") ∷ scalar at (codes "(> y 0)") ∷ [])
      (All-cons P (scalar at (codes "(= x 3)")) (scalar at (codes "(> y 0)") ∷ []) (text_fits levels (codes "(= x 3)") refl) (All-cons P (scalar at (codes "(> y 0)")) [] (text_fits levels (codes "(> y 0)") refl) (All-nil P)))

  item_fits : (levels : ℕ) → IsWritableIn (suc (suc (suc levels))) (route_item at)
  unfolding is_utf8 chars encode
  item_fits levels =
      let P : Pair → Type 0 = FitsIn (suc (suc levels)) in
      let name : Pair = entry (scalar at (codes "name")) (scalar at (codes "go")) in
      let cost : Pair = entry (scalar at (codes "cost")) (scalar at (codes "(+ cost -1)")) in
      let tests : Pair = entry (scalar at (codes "preconditions")) (route_tests at) in
      map_fits (suc (suc levels)) at (name ∷ cost ∷ tests ∷ [])
      (All-cons P name (cost ∷ tests ∷ []) (text_fits (suc levels) (codes "name") refl, no_map (codes "name"), text_fits (suc levels) (codes "go") refl)
      (All-cons P cost (tests ∷ []) (text_fits (suc levels) (codes "cost") refl, no_map (codes "cost"), text_fits (suc levels) (codes "(+ cost -1)") refl)
      (All-cons P tests [] (text_fits (suc levels) (codes "preconditions") refl, no_map (codes "preconditions"), tests_fit levels) (All-nil P))))
      (three_keys (codes "name") (codes "cost") (codes "preconditions") name.value cost.value tests.value refl refl refl)

  steps_fit : (levels : ℕ) → IsWritableIn (suc (suc (suc (suc levels)))) steps
  unfolding is_utf8 chars encode
  steps_fit levels =
      let P : Tree → Type 0 = IsWritableIn (suc (suc (suc levels))) in
      list_fits (suc (suc (suc levels))) at (scalar at (codes "#") ∷ route_item at ∷ [])
      (All-cons P (scalar at (codes "#")) (route_item at ∷ []) (text_fits (suc (suc levels)) (codes "#") refl) (All-cons P (route_item at) [] (item_fits levels) (All-nil P)))

  goal_fits : (levels : ℕ) → IsWritableIn (suc (suc levels)) goal_map
  unfolding is_utf8 chars encode
  goal_fits levels =
      let P : Pair → Type 0 = FitsIn (suc levels) in
      let one : Pair = entry (scalar at (codes "x")) (made.Map at []) in
      map_fits (suc levels) at (one ∷ [])
      (All-cons P one [] (text_fits levels (codes "x") refl, no_map (codes "x"), map_fits levels at [] (All-nil (FitsIn levels)) tt) (All-nil P))
      (refl, tt)

  route_fits : (levels : ℕ) → IsWritableIn (suc (suc (suc (suc (suc levels))))) (route at)
  unfolding is_utf8 chars encode
  route_fits levels =
      let P : Pair → Type 0 = FitsIn (suc (suc (suc (suc levels)))) in
      let reduce : Pair = entry (scalar at (codes "reduce")) (scalar at (codes "min")) in
      let transitions : Pair = entry (scalar at (codes "transitions")) steps in
      let target : Pair = entry (scalar at (codes "target")) goal_map in
      map_fits (suc (suc (suc (suc levels)))) at (reduce ∷ transitions ∷ target ∷ [])
      (All-cons P reduce (transitions ∷ target ∷ []) (text_fits (suc (suc (suc levels))) (codes "reduce") refl, no_map (codes "reduce"), text_fits (suc (suc (suc levels))) (codes "min") refl)
      (All-cons P transitions (target ∷ []) (text_fits (suc (suc (suc levels))) (codes "transitions") refl, no_map (codes "transitions"), steps_fit levels)
      (All-cons P target [] (text_fits (suc (suc (suc levels))) (codes "target") refl, no_map (codes "target"), goal_fits (suc (suc levels))) (All-nil P))))
      (three_keys (codes "reduce") (codes "transitions") (codes "target") reduce.value transitions.value target.value refl refl refl)

one_word : (at : Place) (levels : ℕ) → Node (suc levels) 0 (scalar at (codes "x")) ≡ (0, codes "x") ∷ []
one_word at levels =
    lines_by levels 0 (scalar at (codes "x")) (trees.Tree-F.Scalar at (codes "x")) _ true (made.outs-Scalar at (codes "x")) (scalar_looks style at (codes "x")) (line_by (scalar at (codes "x")) (trees.Tree-F.Scalar at (codes "x")) (made.outs-Scalar at (codes "x")))

one_note : (before : ℕ) (b : Bool) → AreNotes (if b then record { lead = 2; comment = Some (codes " steps") } ∷ record { lead = 0; comment = None } ∷ [] else [])
unfolding is_utf8 chars encode
one_note before true =
    let P : Note → Type 0 = λ n. IsComment n.comment in
    let steps : Note = record { lead = 2; comment = Some (codes " steps") } in
    let none : Note = record { lead = 0; comment = None } in
    All-cons P steps (none ∷ []) (utf8 (codes " steps") refl, refl) (All-cons P none [] tt (All-nil P))
one_note before false = All-nil (λ (n : Note). IsComment n.comment)

noted_are : (before : ℕ) → AreNotes (noted.notes before)
noted_are before = one_note before (before == 1)

pub route_law : LawBlockSample
route_law at =
    ((tt, noted_are), route_fits at 59, ap (λ (ls : List Line). byte_order_mark false ++ flat_map (piece_text false) (pieces noted ls)) (all_lines at 61), ap (λ (ls : List Line). byte_order_mark true ++ flat_map (piece_text true) (pieces formal ls)) (one_word at 63))
