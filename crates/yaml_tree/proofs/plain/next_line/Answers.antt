use Rattle.std.proofs.Common.{◌≡◌, ◌+◌, ◌∙◌, ◌++◌, ℕ, List, Err, length, drop, take, replicate, string_bytes, sym, ap, arith}
use Rattle.std.specs.List.{slice_get}
use Rattle.std.proofs.lemmas.Bool.{eq-eqb, ne_eqb}
use Rattle.std.proofs.lemmas.List.{append_assoc}
use Rattle.std.proofs.lemmas.Option.{slice_get_within}
use Rattle.dp_base.proofs.Memory.{memory_or-from}
use Rattle.yaml_tree.specs.Rest.{Rest, on, front}
use Rattle.yaml_tree.specs.Lines.{is_empty, marker_end}
use Rattle.yaml_tree.specs.declared.tree.YamlEnd.{YamlEnd}
use Rattle.yaml_tree.specs.Results.{is_memory}
use Rattle.yaml_tree.specs.Scalars.{part_of, break_text, with_text, added}
use Rattle.yaml_tree.proofs.ScalarLines.{AtLine, feeds-count, ends_last, ends_apart, refuses_marked, ends_bare, grows}
use Rattle.yaml_tree.proofs.plain.next_line.Goals.{In-Some, After-part_length-count, in_default-via-in-Some+else-goes_on, in_default-via-in_default}
use Rattle.yaml_tree.proofs.plain.next_line.Goals as goal

at_line : (c : In-Some) → AtLine c.args.reader.now c.len.result c.in-Some.row
at_line c = record {
  empty = ap is_empty c.requires;
  count = c.len.ensures ∙ feeds-count c.in_ok-feeds.feeds _ c.in_ok-feeds.ensures;
  there = sym c.row.ensures ∙ c.in-Some.is;
}

pub returns-in_default-clause-passes : goal.returns-in_default-clause-passes
returns-in_default-clause-passes c =
    let count = c.len.ensures ∙ feeds-count c.in_ok-feeds.feeds _ c.in_ok-feeds.ensures in
    elim c.in_default.branch [
      | in_default-via-in-Some+else-goes_on w ↦
          let at : AtLine c.args.reader.now c.len.result w.in-Some.row = record { empty = ap is_empty c.requires; count = count; there = sym c.row.ensures ∙ w.in-Some.is } in
          ends_apart c.args.flow c.args.least c.args.reader.now c.len.result w.in-Some.row at (sym w.goes_on.ensures ∙ w.if-goes_on.false)
      | in_default-via-in_default w ↦ ends_last c.args.flow c.args.least c.args.reader.now c.len.result (ap is_empty c.requires) count (sym c.row.ensures ∙ w.in_default.is)
    ]

pub returns-then-is_marker-clause-refused : goal.returns-then-is_marker-clause-refused
returns-then-is_marker-clause-refused c =
    let marked = refuses_marked c.args.flow c.args.least c.args.reader.now c.len.result c.in-Some.row (at_line (goal.at.returns-then-is_marker-clause-refused c).In-Some) (sym c.goes_on.ensures ∙ c.if-goes_on.true) (sym c.is_marker.ensures ∙ c.if-is_marker.true) in
    let same = c.marker_end.ensures ∙ ap (λ (file : ℕ). marker_end file c.in-Some.row) c.file.ensures in
    memory_or-from is_memory (λ e. added c.args.flow c.args.least c.args.reader.now ≡ Err e) c.marker_end.result (marked ∙ ap (λ (e : YamlEnd). Err e) (sym same))

part_length_is : (c : After-part_length-count) → c.part_length-count.result ≡ length (part_of c.args.flow c.in-Some.row.text)
part_length_is c = c.part_length-count.ensures.bytes ∙ ap (λ (l : List ℕ). length (part_of c.args.flow l)) c.text.ensures

pub returns-then-count-eq0-clause-passes : goal.returns-then-count-eq0-clause-passes
returns-then-count-eq0-clause-passes c =
    let bare = eq-eqb (length (part_of c.args.flow c.in-Some.row.text)) 0 (sym (part_length_is (goal.at.returns-then-count-eq0-clause-passes c).After-part_length-count) ∙ c.if-count-eq0.true) in
    ends_bare c.args.flow c.args.least c.args.reader.now c.len.result c.in-Some.row (at_line (goal.at.returns-then-count-eq0-clause-passes c).In-Some) (sym c.goes_on.ensures ∙ c.if-goes_on.true) (sym c.is_marker.ensures ∙ c.if-is_marker.false) bare

pub enter-requires : goal.enter-requires
enter-requires c = omega (arith, slice_get_within c.args.reader.now.below c.len.result c.in-Some.row (sym c.row.ensures ∙ c.in-Some.is))

pub returns-clause-grows : goal.returns-clause-grows
returns-clause-grows c =
    let flow = c.args.flow in
    let least = c.args.least in
    let r = c.args.reader.now in
    let n = c.len.result in
    let row = c.in-Some.row in
    let part = part_of flow row.text in
    let text = string_bytes c.args.text.now in
    let at = at_line (goal.at.returns-clause-grows c).In-Some in
    let len = part_length_is (goal.at.returns-clause-grows c).After-part_length-count in
    let some = ne_eqb (length part) 0 (λ none. c.if-count-eq0.false (len ∙ none)) in
    let same : c.len-2.result ≡ n = c.len-2.ensures ∙ sym c.len.ensures in
    let front_is : c.enter.new.self ≡ front r row (drop (n + 1) r.below) = c.enter.ensures row (ap (slice_get r.below) same ∙ at.there) ∙ ap (λ (k : ℕ). front r row (drop (k + 1) r.below)) same in
    let point : c.read_piece.new.reader ≡ on (length part) (front r row (drop (n + 1) r.below)) =
    c.in_ok-read_piece.ensures.point ∙ ap (λ (x : Rest). on c.part_length-count.result x) front_is ∙ ap (λ (k : ℕ). on k (front r row (drop (n + 1) r.below))) len in
    let feeds = c.as_str.ensures.value ∙ c.in_ok-feeds.ensures ∙ ap (λ (m : ℕ). replicate m 10) (sym at.count) in
    let broken : c.line_break.result.now ≡ break_text n = c.line_break.ensures n feeds in
    let piece : take c.part_length-count.result c.enter.new.self.here ≡ part =
    ap (λ (x : Rest). take c.part_length-count.result x.here) front_is ∙ ap (take c.part_length-count.result) (sym c.text.ensures) ∙ sym c.part_length-count.ensures.part ∙ ap (part_of flow) c.text.ensures in
    let whole : string_bytes c.read_piece.new.text ≡ text ++ (break_text n ++ part) =
    c.in_ok-read_piece.ensures.text ∙ ap (λ (l : List ℕ). l ++ take c.part_length-count.result c.enter.new.self.here) (c.in_ok-push_str.ensures.bytes ∙ ap (λ (l : List ℕ). text ++ l) broken)
    ∙ append_assoc text (break_text n) (take c.part_length-count.result c.enter.new.self.here) ∙ ap (λ (l : List ℕ). text ++ (break_text n ++ l)) piece in
    grows flow least r n row text at (sym c.goes_on.ensures ∙ c.if-goes_on.true) (sym c.is_marker.ensures ∙ c.if-is_marker.false) some
    ∙ ap (λ (l : List ℕ). with_text l (added flow least (on (length part) (front r row (drop (n + 1) r.below))))) (sym whole)
    ∙ ap (λ (x : Rest). with_text (string_bytes c.read_piece.new.text) (added flow least x)) (sym point)
