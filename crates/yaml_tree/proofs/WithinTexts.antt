-- The scalars of a text's tree have no more bytes than the text.
use Rattle.std.proofs.Common.{◌≡◌, ℕ, suc, ◌+◌, ◌-◌, ◌≤◌, Bool, true, false, ◌&&◌, ◌==◌, if◌then◌else◌, nat_lt, codes, bytes_eq, List, [], ◌∷◌, length, map, drop, Option, None, Some, Result, Ok, Err, refl, sym, ap, subst, inl, inr, arith, length-drop, length-take}
use Rattle.std.specs.List.{suffix_len}
use Rattle.std.proofs.lemmas.Bool.{cases_eq, ne_eqb}
use Rattle.dp_base.specs.Bytes.{is_blank}
use Rattle.yaml_scan.specs.Bytes.{before_first, cut, without_end, indent, content, mark_length}
use Rattle.yaml_scan.specs.Lines.{line_at, lines_from, lines_of}
use Rattle.yaml_scan.specs.Faults.{bad_byte, tab_indent}
use Rattle.yaml_scan.specs.Scan.{told, scan}
use Rattle.yaml_scan.specs.declared.line.Line.{Line}
use Rattle.yaml_scan.specs.declared.line.ScanEnd.{ScanEnd}
use Rattle.yaml_tree.specs.Rest.{Row, row_of, Rest, front}
use Rattle.yaml_tree.specs.Lines.{from_content, is_marker}
use Rattle.yaml_tree.specs.Flow.{Outcome}
use Rattle.yaml_tree.specs.Blocks.{BlockNode}
use Rattle.yaml_tree.specs.Texts.{most_levels, before_lines, place_in, past_start, nothing_below, whole_text, TopNode, OfLines, Reads}
use Rattle.yaml_tree.specs.Within.{IsWithin}
use Rattle.yaml_tree.specs.declared.tree.Tree.{Tree}
use Rattle.yaml_tree.specs.declared.tree.Tree.TheVariants as trees
use Rattle.yaml_tree.proofs.Sizes.{rows_size, chosen, which, from_content-size}
use Rattle.yaml_tree.proofs.WithinTrees.{scalar_within}
use Rattle.yaml_tree.proofs.WithinNodes.{node_within}

-- ---- the lines of a text: each has one byte more than what stands before its end, but for the last

lines_size : List (List ℕ) → ℕ
lines_size [] = 0
lines_size (line ∷ lines) = 1 + length (without_end line) + lines_size lines

without_end-more : (byte : ℕ) (line : List ℕ) → length (without_end (byte ∷ line)) ≤ 1 + length (without_end line)
without_end-more byte [] = step (byte == 10) where
  step : (b : Bool) → length (if b then [] else byte ∷ []) ≤ 1 + 0
  step true = omega arith
  step false = omega arith
without_end-more byte (next ∷ []) = step (byte == 13 && next == 10) where
  step : (b : Bool) → length (if b then [] else byte ∷ without_end (next ∷ [])) ≤ 1 + length (without_end (next ∷ []))
  step true = omega arith
  step false = omega arith
without_end-more byte (next ∷ other ∷ line) = omega arith

before_first-size : (byte : ℕ) (lines : List (List ℕ)) (n : ℕ) → lines_size lines ≤ n + 1 → lines_size (before_first byte lines) ≤ suc n + 1
unfolding lines_size
before_first-size byte [] n less = omega (arith, without_end-more byte [])
before_first-size byte (line ∷ lines) n less = omega (arith, without_end-more byte line)

feed-size : (byte : ℕ) → byte == 10 ≡ true → length (without_end (byte ∷ [])) ≡ 0
feed-size byte is = ap (λ (b : Bool). length (if b then [] else byte ∷ [])) is

cut-size : (bytes : List ℕ) → lines_size (cut bytes) ≤ length bytes + 1
unfolding cut lines_size
cut-size [] = omega arith
cut-size (byte ∷ bytes) = step (byte == 10) refl (cut-size bytes) where
  step : (b : Bool) → byte == 10 ≡ b → lines_size (cut bytes) ≤ length bytes + 1 → lines_size (if b then (byte ∷ []) ∷ cut bytes else before_first byte (cut bytes)) ≤ suc (length bytes) + 1
  step true is less = omega (arith, feed-size byte is)
  step false is less = before_first-size byte (cut bytes) (length bytes) less

content-length : (line : List ℕ) → length (content line) ≤ length (without_end line) - indent line
content-length line =
    let inner : List ℕ = drop (indent line) (without_end line) in
    omega (arith, length-take (length inner - suffix_len is_blank inner) inner, length-drop (indent line) (without_end line))

-- the leading spaces are none of a line's end
indent-length : (line : List ℕ) → indent line ≤ length (without_end line)
indent-length [] = omega arith
indent-length (byte ∷ []) =
    elim (cases_eq byte 32) [
      | inl space ↦ rw space (omega arith)
      | inr other ↦ rw (ne_eqb byte 32 other) (omega arith)
    ]
indent-length (byte ∷ next ∷ []) =
    elim (cases_eq byte 32) [
      | inl space ↦ rw space (omega (arith, indent-length (next ∷ [])))
      | inr other ↦ rw (ne_eqb byte 32 other) (omega arith)
    ]
indent-length (byte ∷ next ∷ third ∷ line) =
    elim (cases_eq byte 32) [
      | inl space ↦ rw space (omega (arith, indent-length (next ∷ third ∷ line)))
      | inr other ↦ rw (ne_eqb byte 32 other) (omega arith)
    ]

row-length : (bytes : List ℕ) (number at : ℕ) (line : List ℕ) → indent line + length (row_of bytes (line_at number at line)).text ≤ length (without_end line)
row-length bytes number at line =
    omega (arith, indent-length line, length-take (at + indent line + length (content line) - (at + indent line)) (drop (at + indent line) bytes), content-length line)

rows_from-size : (bytes : List ℕ) (number at : ℕ) (lines : List (List ℕ)) → rows_size (map (row_of bytes) (lines_from number at lines)) ≤ lines_size lines
unfolding lines_from lines_size
rows_from-size bytes number at [] = omega arith
rows_from-size bytes number at (line ∷ lines) = omega (arith, row-length bytes number at line, rows_from-size bytes (number + 1) (at + length line) lines)

rows-size : (bytes : List ℕ) → rows_size (map (row_of bytes) (lines_of bytes)) ≤ length bytes + 1
rows-size bytes =
    omega (arith, rows_from-size bytes 1 (mark_length bytes) (cut (drop (mark_length bytes) bytes)), cut-size (drop (mark_length bytes) bytes), length-drop (mark_length bytes) bytes)

told-ok : (file : ℕ) (bytes : List ℕ) (bad tab : Option ℕ) (lines : List Line) → told file bytes bad tab ≡ Ok lines → lines ≡ lines_of bytes
told-ok file bytes None None lines is = cc
told-ok file bytes (Some bad) None lines is = absurd (cc is)
told-ok file bytes None (Some tab) lines is = absurd (cc is)
told-ok file bytes (Some bad) (Some tab) lines is =
    elim (chosen (nat_lt bad tab) _ _ _ is) [
      | inl h ↦ absurd (cc h.1)
      | inr h ↦ absurd (cc h.1)
    ]

-- ---- the tree

past_start-size : (rows : List Row) → rows_size (past_start rows) ≤ rows_size rows
past_start-size [] = omega arith
past_start-size (row ∷ rows) = step (row.indent == 0 && bytes_eq row.text (codes "---")) where
  step : (b : Bool) → rows_size (if b then from_content rows else row ∷ rows) ≤ rows_size (row ∷ rows)
  step true = omega (arith, from_content-size rows)
  step false = omega arith

nothing_below-ok : (file : ℕ) (tree : Tree) (rows : List Row) (read : Tree) → nothing_below file tree rows ≡ Ok read → read ≡ tree
nothing_below-ok file tree [] read is = cc
nothing_below-ok file tree (row ∷ rows) read is = absurd (cc is)

whole_text_within : (most file : ℕ) (node : Outcome) → ((x : Tree × Rest) → node ≡ Ok x → IsWithin most x.0) → (tree : Tree) → whole_text file node ≡ Ok tree → IsWithin most tree
whole_text_within most file (Ok x) within tree is = rw (nothing_below-ok file x.0 x.1.below tree is) (within x refl)
whole_text_within most file (Err e) within tree is = absurd (cc is)

top_within : (most file : ℕ) (start : Rest) (rows : List Row) (tree : Tree) → rows_size rows ≤ most + 1 → TopNode file start rows (Ok tree) → IsWithin most tree
top_within most file start [] tree fits is =
    let e : tree ≡ trees.Scalar (place_in file 1 1) [] = cc is in rw e (scalar_within most (place_in file 1 1) [] (omega arith))
top_within most file start (row ∷ rows) tree fits is =
    elim (which (is_marker row) _ _ is) [
      | inl h ↦ absurd (cc h.1)
      | inr h ↦
          whole_text_within most file h.1.0 (λ x e. node_within most most_levels 0 (front start row rows) x (omega arith) (subst (BlockNode most_levels 0 (front start row rows)) e h.1.1)) tree (sym h.1.2)
    ]

of_lines_within : (file : ℕ) (bytes : List ℕ) (lines : Result (List Line) ScanEnd) (tree : Tree) → ((found : List Line) → lines ≡ Ok found → found ≡ lines_of bytes) → OfLines file bytes lines (Ok tree) → IsWithin (length bytes) tree
of_lines_within file bytes (Err e) tree are is = absurd (cc is)
of_lines_within file bytes (Ok lines) tree are is =
    let rows : List Row = map (row_of bytes) lines in
    let same : rows_size (map (row_of bytes) lines) ≡ rows_size (map (row_of bytes) (lines_of bytes)) = ap (λ (found : List Line). rows_size (map (row_of bytes) found)) (are lines refl) in
    top_within (length bytes) file (before_lines file rows) (past_start (from_content rows)) tree (omega (arith, past_start-size (from_content rows), from_content-size rows, rows-size bytes, same)) is

pub reads_within : (file : ℕ) (bytes : List ℕ) (tree : Tree) → Reads file bytes (Ok tree) → IsWithin (length bytes) tree
reads_within file bytes tree is = of_lines_within file bytes (scan file bytes) tree (λ found e. told-ok file bytes (bad_byte bytes) (tab_indent bytes) found e) is
