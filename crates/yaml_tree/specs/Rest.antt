-- What is left of a text while it is read from left to right.
use Rattle.std.specs.Prelude.{◌≡◌, ◌≤◌, ℕ, ◌+◌, ◌-◌, Bool, List, length, map, take, drop, slice_index, IsCharBoundary, refl}
use Rattle.std.specs.Coded.{Coded, code_by, coded×, coded_ℕ, coded_bool, coded_list}
use Rattle.std.specs.List.{All, prefix_len}
use Rattle.dp_base.specs.declared.place.Place.{Place}
use Rattle.dp_base.specs.Bytes.{is_blank}
use Rattle.yaml_scan.specs.declared.line.Line.{Line}

-- A line: its number, how many spaces lead it, what stands in it from there on without the blanks at its end, and
-- whether blanks follow that.
pub record Row : Type 0 where
  pub number : ℕ
  pub indent : ℕ
  pub text : List ℕ
  pub ragged : Bool

-- the row of a line of a file
abbrev pub row_of : List ℕ → Line → Row
row_of bytes line = record {
  number = line.number;
  indent = line.indent;
  text = take (line.end - line.start) (drop line.start bytes);
  ragged = is_blank (slice_index bytes line.end);
}

-- What is left at a point of a text: what stands in the point's line from there on, and the lines below. `end` is the
-- place where the whole text ends.
pub record Rest : Type 0 where
  pub file : ℕ
  pub end : Place
  pub line : ℕ
  pub column : ℕ
  pub here : List ℕ
  pub ragged : Bool
  pub below : List Row

abbrev pub place : Rest → Place
place r = record { file = r.file; line = r.line; column = r.column }

-- the point so many bytes further in the same line
abbrev pub on : ℕ → Rest → Rest
on n r = record { file = r.file; end = r.end; line = r.line; column = r.column + n; here = drop n r.here; ragged = r.ragged; below = r.below }

abbrev pub skip_blanks : Rest → Rest
skip_blanks r = on (prefix_len is_blank r.here) r

-- the first character of a line below
abbrev pub front : Rest → Row → List Row → Rest
front r row rows = record { file = r.file; end = r.end; line = row.number; column = row.indent + 1; here = row.text; ragged = row.ragged; below = rows }

-- ---- how a reader keeps it

-- from one offset of a text up to another, and the lines from one on
abbrev pub rest_of : (file : ℕ) (end : Place) (line column : ℕ) (text : List ℕ) (at stop : ℕ) (ragged : Bool) (lines : List Line) (next : ℕ) → Rest
rest_of file end line column text at stop ragged lines next = record {
  file = file;
  end = end;
  line = line;
  column = column;
  here = take (stop - at) (drop at text);
  ragged = ragged;
  below = map (row_of text) (drop next lines);
}

-- The line is a span of the text between characters, and its columns are small enough to be counted.
pub record IsSpan (text : List ℕ) (line : Line) : Type 0 where
  pub in_order : line.start ≤ line.end
  pub in_text : line.end ≤ length text
  pub columns : line.indent + (line.end - line.start) ≤ 16777216
  pub starts : IsCharBoundary text line.start
  pub ends : IsCharBoundary text line.end

-- A reader's point stands between characters of its line.
pub record IsReader (text : List ℕ) (lines : List Line) (next column at stop : ℕ) : Type 0 where
  pub short : length text ≤ 16777216
  pub in_order : at ≤ stop
  pub in_text : stop ≤ length text
  pub columns : column + (stop - at) ≤ 16777217
  pub in_lines : next ≤ length lines
  pub starts : IsCharBoundary text at
  pub ends : IsCharBoundary text stop
  pub spans : All (IsSpan text) lines

-- ---- rests as numbers and lists

abbrev RowParts : Type 0
RowParts = ℕ × (ℕ × (List ℕ × Bool))

abbrev row_parts : Row → RowParts
row_parts row = (row.number, (row.indent, (row.text, row.ragged)))

abbrev row_from : RowParts → Row
row_from p = record { number = p.0; indent = p.1.0; text = p.1.1.0; ragged = p.1.1.1 }

pub row_from-row_parts : (row : Row) → row_from (row_parts row) ≡ row
row_from-row_parts row = refl

abbrev pub row_code : Coded Row
row_code = code_by RowParts (coded× coded_ℕ (coded× coded_ℕ (coded× (coded_list coded_ℕ) coded_bool))) row_parts row_from row_from-row_parts

abbrev RestParts : Type 0
RestParts = (ℕ × (ℕ × (ℕ × ℕ))) × ((ℕ × ℕ) × (List ℕ × (Bool × List Row)))

abbrev rest_parts : Rest → RestParts
rest_parts r = ((r.file, (r.end.file, (r.end.line, r.end.column))), ((r.line, r.column), (r.here, (r.ragged, r.below))))

abbrev rest_from : RestParts → Rest
rest_from p = record {
  file = p.0.0;
  end = record { file = p.0.1.0; line = p.0.1.1.0; column = p.0.1.1.1 };
  line = p.1.0.0;
  column = p.1.0.1;
  here = p.1.1.0;
  ragged = p.1.1.1.0;
  below = p.1.1.1.1;
}

pub rest_from-rest_parts : (r : Rest) → rest_from (rest_parts r) ≡ r
rest_from-rest_parts r = refl

abbrev pub rest_code : Coded Rest
rest_code = code_by RestParts (coded× (coded× coded_ℕ (coded× coded_ℕ (coded× coded_ℕ coded_ℕ))) (coded× (coded× coded_ℕ coded_ℕ) (coded× (coded_list coded_ℕ) (coded× coded_bool (coded_list row_code))))) rest_parts rest_from rest_from-rest_parts
