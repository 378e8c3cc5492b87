use Rattle.std.proofs.Common.{◌≡◌, ◌∙◌, ℕ, ◌+◌, ◌-◌, ◌≤◌, List, Ok, String, Global, IsCharBoundary, length, drop, take, string_bytes, sym, ap, subst, arith}
use Rattle.std.proofs.lemmas.List.{take_all}
use Rattle.std.proofs.lemmas.Result.{MatchResult-at_ok, MatchResult-at_err}
use Rattle.yaml_tree.specs.Scalars.{double_text, text_within, quoted_to}
use Rattle.yaml_tree.proofs.ScalarTexts.{IsSingle}
use Rattle.yaml_tree.proofs.ScalarOpenings.{QuotedHere, quoted_here, quoted-length, quoted-inner, cut-first, cut-last, cut-behind, cut-slash}
use Rattle.yaml_tree.proofs.quoted.quoted.Goals.{After-piece-line, After-range-inner, In-Err, then-single+in_ok-single_text, else-single+in_ok-text}
use Rattle.yaml_tree.proofs.quoted.quoted.Goals as goal

parts_here : (c : After-piece-line) → QuotedHere c.args.single c.args.inside c.args.reader.now.here
parts_here c = quoted_here c.requires.0 c.requires.1 c.args.reader.now.ragged c.args.reader.now.here c.args.single c.args.inside c.requires.2

line_is : (c : After-piece-line) → c.piece-line.result.now ≡ c.args.reader.now.here
line_is c =
    let here = c.args.reader.now.here in
    let all : length here ≤ length c.here.result.now = omega (arith, ap length c.here.ensures.value) in
    c.piece-line.ensures ∙ take_all (length c.here.result.now) here all

parts_line : (c : After-piece-line) → QuotedHere c.args.single c.args.inside c.piece-line.result.now
parts_line c = subst (QuotedHere c.args.single c.args.inside) (sym (line_is c)) (parts_here c)

inner_is : (c : After-range-inner) → c.piece-line.result.now ≡ c.args.reader.now.here → c.range-inner.result.now ≡ take c.args.inside (drop 1 c.args.reader.now.here)
inner_is c same =
    let count : c.args.inside + 1 - 1 ≡ c.args.inside = omega arith in
    c.range-inner.ensures.value ∙ ap (λ (n : ℕ). take n (drop 1 c.piece-line.result.now)) count ∙ ap (λ (l : List ℕ). take c.args.inside (drop 1 l)) same

pub overflow_add-inside : goal.overflow_add-inside
overflow_add-inside c =
    let within = quoted-length c.args.single c.args.inside c.args.reader.now.here (parts_here (goal.at.overflow_add-inside c).After-piece-line) in
    let same : length c.here.result.now ≡ length c.args.reader.now.here = ap length c.here.ensures.value in
    omega (arith, within, same)

pub range-inner-requires-clause-start_boundary : goal.range-inner-requires-clause-start_boundary
range-inner-requires-clause-start_boundary c =
    λ _. cut-first c.args.single c.args.inside c.piece-line.result.now (parts_line (goal.at.range-inner-requires-clause-start_boundary c).After-piece-line) c.piece-line.utf8

pub range-inner-requires-clause-end_boundary : goal.range-inner-requires-clause-end_boundary
range-inner-requires-clause-end_boundary c =
    cut-last c.args.single c.args.inside c.piece-line.result.now (parts_line (goal.at.range-inner-requires-clause-end_boundary c).After-piece-line)

pub single_text-requires : goal.single_text-requires
single_text-requires c =
    let parts = parts_here (goal.at.single_text-requires c).After-piece-line in
    let inner = quoted-inner c.args.single c.args.inside c.args.reader.now.here parts in
    let same = line_is (goal.at.single_text-requires c).After-piece-line in
    subst IsSingle (sym (inner_is (goal.at.single_text-requires c).After-range-inner same ∙ inner)) (parts.alone c.if-single.true)

pub advance-requires-clause-there : goal.advance-requires-clause-there
advance-requires-clause-there c = quoted-length c.args.single c.args.inside c.args.reader.now.here (parts_here (goal.at.advance-requires-clause-there c).After-piece-line)

pub advance-requires-clause-boundary : goal.advance-requires-clause-boundary
advance-requires-clause-boundary c = cut-behind c.args.single c.args.inside c.args.reader.now.here (parts_here (goal.at.advance-requires-clause-boundary c).After-piece-line) c.here.ensures.utf8

slash_cut : (c : In-Err) → QuotedHere c.args.single c.args.inside c.args.reader.now.here → c.range-inner.result.now ≡ take c.args.inside (drop 1 c.args.reader.now.here) → IsCharBoundary c.args.reader.now.here c.in-Err.at
slash_cut c parts inner = elim c.if-single.branch [
  | then-single+in_ok-single_text w ↦ let none = sym w.text-is ∙ c.in-Err.is in absurd cc
  | else-single+in_ok-text w ↦
      let bad = MatchResult-at_err _ _ c.in-Err.at (sym w.text-is ∙ c.in-Err.is) w.in_ok-text.ensures in
      cut-slash c.args.single c.args.inside c.args.reader.now.here parts c.in-Err.at (ap (double_text 1) (sym inner) ∙ bad)
]

pub advance-requires-in-Err-clause-boundary : goal.advance-requires-in-Err-clause-boundary
advance-requires-in-Err-clause-boundary c =
    let at = goal.at.advance-requires-in-Err-clause-boundary c in
    slash_cut at.In-Err (parts_here at.After-piece-line) (inner_is at.After-range-inner (line_is at.After-piece-line))

pub advance-requires-in-Err-clause-there : goal.advance-requires-in-Err-clause-there
advance-requires-in-Err-clause-there c =
    let at = goal.at.advance-requires-in-Err-clause-there c in
    (slash_cut at.In-Err (parts_here at.After-piece-line) (inner_is at.After-range-inner (line_is at.After-piece-line))).0

pub returns-in-Ok-clause-read : goal.returns-in-Ok-clause-read
returns-in-Ok-clause-read c =
    let at = goal.at.returns-in-Ok-clause-read c in
    let r = c.args.reader.now in
    let inner = inner_is at.After-range-inner (line_is at.After-piece-line) in
    let read : text_within c.args.single (take c.args.inside (drop 1 r.here)) ≡ Ok (string_bytes c.in-Ok.text) = ap (text_within c.args.single) (sym inner) ∙ elim c.if-single.branch [
      | then-single+in_ok-single_text w ↦
          let same : w.in_ok-single_text.field-0 ≡ c.in-Ok.text = let e = sym w.text-is ∙ c.in-Ok.is in cc in
          rw w.if-single.true (ap (λ (l : List ℕ). Ok l) (sym w.in_ok-single_text.ensures ∙ ap (λ (s : String Global). string_bytes s) same))
      | else-single+in_ok-text w ↦ rw w.if-single.false (MatchResult-at_ok _ _ c.in-Ok.text (sym w.text-is ∙ c.in-Ok.is) w.in_ok-text.ensures)
    ] in
    rw (c.place-place.ensures, c.of.ensures, c.advance.ensures) (ap (quoted_to r c.args.inside) read)
