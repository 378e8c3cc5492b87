-- The text of a block scalar has no more bytes than its content, with one for each line break.
use Rattle.std.proofs.Common.{ℕ, zero, suc, ◌+◌, ◌-◌, ◌≤◌, Bool, true, false, if◌then◌else◌, List, [], ◌∷◌, ◌++◌, length, take, replicate, arith, length-append}
use Rattle.std.specs.List.{prefix_len, suffix_len}
use Rattle.std.proofs.lemmas.List.{length-replicate}
use Rattle.yaml_tree.specs.Rest.{Row}
use Rattle.yaml_tree.specs.BlockScalars.{is_blank_row, in_content, content_of, line_text, folds, break_behind, joined, last_break, trimmed, block_text}
use Rattle.yaml_tree.specs.declared.header.Style.{Style}
use Rattle.yaml_tree.specs.declared.header.Chomping.{Chomping}
use Rattle.yaml_tree.specs.declared.header.Chomping.TheVariants.{Strip, Clip, Keep}
use Rattle.yaml_tree.proofs.Sizes.{rows_size}

take_rows-size : (n : ℕ) (rows : List Row) → rows_size (take n rows) ≤ rows_size rows
take_rows-size zero rows = omega arith
take_rows-size (suc n) [] = omega arith
take_rows-size (suc n) (row ∷ rows) = omega (arith, take_rows-size n rows)

pub content-size : (least : ℕ) (rows : List Row) → rows_size (content_of least rows) ≤ rows_size rows
content-size least rows = take_rows-size (prefix_len (in_content least) rows) rows

line_text-length : (indent : ℕ) (row : Row) → length (line_text indent row) ≤ row.indent + length row.text
line_text-length indent row = step (is_blank_row row) where
  step : (b : Bool) → length {A = ℕ} (if b then [] else replicate (row.indent - indent) 32 ++ row.text) ≤ row.indent + length row.text
  step true = omega arith
  step false = omega (arith, length-append (replicate {A = ℕ} (row.indent - indent) 32) row.text, length-replicate {A = ℕ} (row.indent - indent) 32)

break_behind-length : (style : Style) (indent : ℕ) (row : Row) (rows : List Row) → length (break_behind style indent row rows) ≤ 1
break_behind-length style indent row [] = omega arith
break_behind-length style indent row (next ∷ rows) = step (folds style indent row (next ∷ rows)) (is_blank_row next) where
  step : (b c : Bool) → length {A = ℕ} (if b then (if c then [] else 32 ∷ []) else 10 ∷ []) ≤ 1
  step true true = omega arith
  step true false = omega arith
  step false c = omega arith

joined-length : (style : Style) (indent : ℕ) (rows : List Row) → length (joined style indent rows) + length (last_break rows) ≤ rows_size rows
unfolding joined
joined-length style indent [] = omega arith
joined-length style indent (row ∷ []) = omega (arith, line_text-length indent row, length-append (line_text indent row) [])
joined-length style indent (row ∷ next ∷ rows) =
    let between : List ℕ = break_behind style indent row (next ∷ rows) in
    omega (
      arith,
      line_text-length indent row,
      break_behind-length style indent row (next ∷ rows),
      joined-length style indent (next ∷ rows),
      length-append (line_text indent row) (between ++ joined style indent (next ∷ rows)),
      length-append between (joined style indent (next ∷ rows)),
    )

pub block_text-length : (style : Style) (chomping : Chomping) (indent : ℕ) (rows : List Row) → length (block_text style chomping indent rows) ≤ rows_size rows
block_text-length style Strip indent rows = omega (arith, joined-length style indent (trimmed rows), take_rows-size (length rows - suffix_len is_blank_row rows) rows)
block_text-length style Clip indent rows =
    omega (arith, joined-length style indent (trimmed rows), length-append (joined style indent (trimmed rows)) (last_break (trimmed rows)), take_rows-size (length rows - suffix_len is_blank_row rows) rows)
block_text-length style Keep indent rows = omega (arith, joined-length style indent rows, length-append (joined style indent rows) (last_break rows))
