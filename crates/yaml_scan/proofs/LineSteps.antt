-- One line more of those that are read.
use Rattle.std.proofs.Common.{◌≡◌, ℕ, ◌+◌, ◌-◌, ◌≤◌, List, [], ◌∷◌, ◌++◌, length, take, drop, sym, ap, ◌∙◌, arith, Option, Some, None}
use Rattle.std.specs.List.{prefix_len, suffix_len}
use Rattle.std.proofs.lemmas.List.{length-take-le, nil_from_length, append_assoc, append-nil}
use Rattle.std.proofs.lemmas.List.Sums.{suffix_len-le-length}
use Rattle.dp_base.specs.Bytes.{is_blank}
use Rattle.yaml_scan.specs.Bytes.{is_space, cut, without_end}
use Rattle.yaml_scan.specs.Faults.{tab_in, tab_or, tab_from}
use Rattle.yaml_scan.specs.Lines.{line_at, lines_from}
use Rattle.yaml_scan.specs.declared.line.Line.{Line}
use Rattle.yaml_scan.proofs.PieceSteps.{cut-nil, spaces-without_end}

-- ---- the first tab

pub tab_found : (at tab : ℕ) (rest line later : List ℕ) (whole : Option ℕ) → cut rest ≡ line ∷ cut later → Some tab ≡ tab_in line → tab_from at (cut rest) ≡ whole → Some (at + tab) ≡ whole
unfolding tab_from
tab_found at tab rest line later whole first here all =
    ap (λ (o : Option ℕ). tab_or at o (tab_from (at + length line) (cut later))) here ∙ sym (ap (tab_from at) first) ∙ all

pub tab_later : (at : ℕ) (rest line later : List ℕ) (whole : Option ℕ) → cut rest ≡ line ∷ cut later → None ≡ tab_in line → tab_from at (cut rest) ≡ whole → tab_from (at + length line) (cut later) ≡ whole
unfolding tab_from
tab_later at rest line later whole first none all =
    ap (λ (o : Option ℕ). tab_or at o (tab_from (at + length line) (cut later))) none ∙ sym (ap (tab_from at) first) ∙ all

pub tab_none : (at : ℕ) (rest : List ℕ) (whole : Option ℕ) → length rest ≡ 0 → tab_from at (cut rest) ≡ whole → None ≡ whole
unfolding tab_from
tab_none at rest whole empty all = sym (ap (λ (t : List ℕ). tab_from at (cut t)) (nil_from_length rest empty) ∙ ap (tab_from at) cut-nil) ∙ all

-- ---- the lines

pub lines_more : (number at : ℕ) (rest line later : List ℕ) (found whole : List Line) → cut rest ≡ line ∷ cut later → found ++ lines_from number at (cut rest) ≡ whole
    → (found ++ line_at number at line ∷ []) ++ lines_from (number + 1) (at + length line) (cut later) ≡ whole
unfolding lines_from
lines_more number at rest line later found whole first all =
    append_assoc found (line_at number at line ∷ []) (lines_from (number + 1) (at + length line) (cut later))
    ∙ sym (ap (λ (lines : List (List ℕ)). found ++ lines_from number at lines) first) ∙ all

pub lines_none : (number at : ℕ) (rest : List ℕ) (found whole : List Line) → length rest ≡ 0 → found ++ lines_from number at (cut rest) ≡ whole → found ≡ whole
unfolding lines_from
lines_none number at rest found whole empty all =
    sym (ap (λ (t : List ℕ). found ++ lines_from number at (cut t)) (nil_from_length rest empty) ∙ ap (λ (lines : List (List ℕ)). found ++ lines_from number at lines) cut-nil ∙ append-nil found) ∙ all

-- a line, by its text without its end, what leads it and what is left of it
pub line_at_is : (number at : ℕ) (line text rest : List ℕ) (indent blanks : ℕ) → text ≡ without_end line → indent ≡ prefix_len is_space text → rest ≡ drop indent text → blanks ≡ suffix_len is_blank rest
    → ◌≡◌ {A = Line} (record { number = number; indent = indent; start = at + indent; end = at + indent + length rest - blanks }) (line_at number at line)
line_at_is number at line text rest indent blanks e i r b =
    let n : ℕ = prefix_len is_space line in
    let d : List ℕ = drop n (without_end line) in
    let same : indent ≡ n = i ∙ ap (prefix_len is_space) e ∙ spaces-without_end line in
    let behind : rest ≡ d = r ∙ ap (λ (k : ℕ). drop k text) same ∙ ap (λ (t : List ℕ). drop n t) e in
    let trailing : blanks ≡ suffix_len is_blank d = b ∙ ap (suffix_len is_blank) behind in
    let whole : length rest ≡ length d = ap (λ (t : List ℕ). length t) behind in
    let within : suffix_len is_blank d ≤ length d = suffix_len-le-length is_blank d in
    let kept : length (take (length d - suffix_len is_blank d) d) ≡ length d - suffix_len is_blank d = length-take-le _ d (omega arith) in
    let ends : at + indent + length rest - blanks ≡ at + n + length (take (length d - suffix_len is_blank d) d) = omega arith in
    λ j. record { number = number; indent = same j; start = at + same j; end = ends j }
