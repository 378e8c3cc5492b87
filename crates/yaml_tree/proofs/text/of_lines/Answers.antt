-- Lines of a text are spans between its characters.
use Rattle.std.proofs.Common.{List, false, Ok, Err, sym, ap, ◌∙◌, subst, All}
use Rattle.std.proofs.lemmas.Result.{IfOk-weaker, IfErr-weaker}
use Rattle.dp_base.specs.declared.place.Place.{Place}
use Rattle.dp_base.proofs.Memory.{memory_or}
use Rattle.yaml_scan.specs.declared.line.Line.{Line}
use Rattle.yaml_tree.specs.Rest.{Rest, rest_of, IsSpan}
use Rattle.yaml_tree.specs.Lines.{from_content}
use Rattle.yaml_tree.specs.Texts.{past_start}
use Rattle.yaml_tree.specs.Results.{is_memory}
use Rattle.yaml_tree.proofs.BaseReader.{with_below}
use Rattle.yaml_tree.proofs.BaseText.{of-started}
use Rattle.yaml_tree.proofs.BaseSpans.{spans-lines}
use Rattle.yaml_tree.proofs.text.of_lines.Goals as goal

pub text_end-end-requires : goal.text_end-end-requires
text_end-end-requires c =
    let P : List Line → Type 0 = λ lines. All (IsSpan c.args.text.now) lines in
    subst P (sym c.requires.all) (spans-lines c.args.text.now c.utf8.text c.requires.short)

pub before-reader-requires-clause-spans : goal.before-reader-requires-clause-spans
before-reader-requires-clause-spans c =
    let P : List Line → Type 0 = λ lines. All (IsSpan c.args.text.now) lines in
    subst P (sym c.requires.all) (spans-lines c.args.text.now c.utf8.text c.requires.short)

pub returns-clause-read : goal.returns-clause-read
returns-clause-read c =
    let text = c.args.text.now in
    let lines = c.args.lines.now in
    let from = c.before-reader.ensures ∙ ap (λ (end : Place). rest_of c.args.file end 1 1 text 0 0 false lines 0) c.text_end-end.ensures in
    let start = c.pass_start.ensures ∙ ap (λ (r : Rest). with_below (past_start (from_content r.below)) r) from in
    IfOk-weaker c.top_node.result _ _ (λ tree read. of-started c.args.file text lines (Ok tree) c.pass_start.new.reader start read) c.top_node.ensures.read

pub returns-clause-refused : goal.returns-clause-refused
returns-clause-refused c =
    let text = c.args.text.now in
    let lines = c.args.lines.now in
    let from = c.before-reader.ensures ∙ ap (λ (end : Place). rest_of c.args.file end 1 1 text 0 0 false lines 0) c.text_end-end.ensures in
    let start = c.pass_start.ensures ∙ ap (λ (r : Rest). with_below (past_start (from_content r.below)) r) from in
    IfErr-weaker c.top_node.result _ _ (λ e. memory_or is_memory _ _ (λ f read. of-started c.args.file text lines (Err f) c.pass_start.new.reader start read) e) c.top_node.ensures.refused
