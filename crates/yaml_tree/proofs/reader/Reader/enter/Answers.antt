-- The point goes to a line below.
use Rattle.std.proofs.Common.{◌+◌, sym, ap, ◌∙◌, subst, refl, get_or}
use Rattle.yaml_tree.specs.Rest.{Row, Rest, rest_of}
use Rattle.yaml_tree.proofs.BaseReader.{no_line, Entered, rest-entered}
use Rattle.yaml_tree.proofs.reader.Reader.enter.Goals as goal

pub returns : goal.returns
returns c =
    let r = c.self.inside in
    let n = c.args.index in
    let l = get_or r.lines.now (r.next + n) no_line in
    let within = rw (sym c.self.view_is) at c.requires in
    let blanks_is = c.is_ragged-self-inside.ensures ∙ ap (λ (x : Row). x.ragged) c.of-row.ensures in
    let to : Rest = rest_of r.file r.end l.number (l.indent + 1) r.text.now l.start l.end c.is_ragged-self-inside.result r.lines.now (r.next + (n + 1)) in
    let P : Rest → Type 0 = λ from. Entered n from to in
    subst P c.self.view_is (rest-entered n r.file r.end r.line r.column r.text.now r.at r.stop r.ragged r.lines.now r.next l c.is_ragged-self-inside.result within refl blanks_is)
