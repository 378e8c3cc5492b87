-- What a reader's moves do to what is left of the text.
use Rattle.std.proofs.Common.{◌≡◌, ℕ, ◌+◌, ◌-◌, ◌<◌, ◌≤◌, Bool, List, length, map, take, drop, get_or, Some, sym, ap, ◌∙◌, arith, length-take}
use Rattle.std.specs.List.{slice_get}
use Rattle.std.proofs.lemmas.List.{drop-take, drop-drop, drop-map, get_or-map, length-map, get_or-drop}
use Rattle.std.proofs.lemmas.Option.{get_or_from_slice_get}
use Rattle.dp_base.specs.declared.place.Place.{Place}
use Rattle.yaml_scan.specs.declared.line.Line.{Line}
use Rattle.yaml_tree.specs.Rest.{Row, row_of, Rest, rest_of, on, front}

-- a part of a text, some bytes further on
pub here-on : (n : ℕ) (text : List ℕ) (at stop : ℕ) → n ≤ length (take (stop - at) (drop at text)) → take (stop - (at + n)) (drop (at + n) text) ≡ drop n (take (stop - at) (drop at text))
here-on n text at stop within =
    let room : stop - at ≡ n + (stop - (at + n)) = omega (arith, length-take (stop - at) (drop at text)) in
    rw room (sym (drop-take n (stop - (at + n)) (drop at text) ∙ ap (take (stop - (at + n))) (drop-drop n at text)))

pub rest-on : (n : ℕ) (file : ℕ) (end : Place) (line column : ℕ) (text : List ℕ) (at stop : ℕ) (ragged : Bool) (lines : List Line) (next : ℕ) → n ≤ length (take (stop - at) (drop at text)) → rest_of file end line (column + n) text (at + n) stop ragged lines next ≡ on n (rest_of file end line column text at stop ragged lines next)
rest-on n file end line column text at stop ragged lines next within =
    let with_here : List ℕ → Rest = λ here. record { file = file; end = end; line = line; column = column + n; here = here; ragged = ragged; below = map (row_of text) (drop next lines) } in
    ap with_here (here-on n text at stop within)

pub below-on : (n : ℕ) (text : List ℕ) (lines : List Line) (next : ℕ) → map (row_of text) (drop (next + n) lines) ≡ drop n (map (row_of text) (drop next lines))
below-on n text lines next = ap (map (row_of text)) (sym (drop-drop n next lines)) ∙ sym (drop-map (row_of text) n (drop next lines))

abbrev pub with_below : List Row → Rest → Rest
with_below rows r = record { file = r.file; end = r.end; line = r.line; column = r.column; here = r.here; ragged = r.ragged; below = rows }

abbrev pub passed : ℕ → Rest → Rest
passed n r = with_below (drop n r.below) r

pub rest-passed : (n : ℕ) (file : ℕ) (end : Place) (line column : ℕ) (text : List ℕ) (at stop : ℕ) (ragged : Bool) (lines : List Line) (next : ℕ) → rest_of file end line column text at stop ragged lines (next + n) ≡ passed n (rest_of file end line column text at stop ragged lines next)
rest-passed n file end line column text at stop ragged lines next =
    let with_rows : List Row → Rest = λ rows. with_below rows (rest_of file end line column text at stop ragged lines next) in
    ap with_rows (below-on n text lines next)

abbrev pub no_line : Line
no_line = record { number = 0; indent = 0; start = 0; end = 0 }

pub row-below : (text : List ℕ) (lines : List Line) (next index : ℕ) (row : Row) → index < length (map (row_of text) (drop next lines)) → slice_get (map (row_of text) (drop next lines)) index ≡ Some row → row_of text (get_or lines (next + index) no_line) ≡ row
row-below text lines next index row within there =
    let inside : index < length (drop next lines) = omega (arith, length-map (drop next lines) (row_of text)) in
    ap (row_of text) (sym (get_or-drop next lines index no_line)) ∙ sym (get_or-map (row_of text) (drop next lines) index no_line row inside) ∙ get_or_from_slice_get _ index row row there

abbrev pub Entered : ℕ → Rest → Rest → Type 0
Entered index from to = (row : Row) → slice_get from.below index ≡ Some row → to ≡ front from row (drop (index + 1) from.below)

pub rest-entered : (index : ℕ) (file : ℕ) (end : Place) (line column : ℕ) (text : List ℕ) (at stop : ℕ) (ragged : Bool) (lines : List Line) (next : ℕ) (l : Line) (blanks : Bool) → index < length (map (row_of text) (drop next lines)) → l ≡ get_or lines (next + index) no_line → blanks ≡ (row_of text l).ragged → Entered index (rest_of file end line column text at stop ragged lines next) (rest_of file end l.number (l.indent + 1) text l.start l.end blanks lines (next + (index + 1)))
rest-entered index file end line column text at stop ragged lines next l blanks within line_is blanks_is = λ row there.
    let row_is : row_of text l ≡ row = ap (row_of text) line_is ∙ row-below text lines next index row within there in
    let from : Rest = rest_of file end line column text at stop ragged lines next in
    let to : Row → Bool → List Row → Rest = λ r b rows. record { file = file; end = end; line = r.number; column = r.indent + 1; here = r.text; ragged = b; below = rows } in
    ap (λ b. to (row_of text l) b (map (row_of text) (drop (next + (index + 1)) lines))) blanks_is
    ∙ ap (λ rows. to (row_of text l) (row_of text l).ragged rows) (below-on (index + 1) text lines next)
    ∙ ap (λ (r : Row). front from r (drop (index + 1) from.below)) row_is
