-- The lines below are those of the reader from its next one on.
use Rattle.std.proofs.Common.{◌≡◌, ◌-◌, ◌∙◌, List, length, take, drop, map, ap, arith, length-drop}
use Rattle.std.proofs.lemmas.List.{take_all}
use Rattle.yaml_scan.specs.declared.line.Line.{Line}
use Rattle.yaml_tree.specs.Rest.{row_of, Rest}
use Rattle.yaml_tree.proofs.reader.Reader.below.Goals as goal

pub returns : goal.returns
returns c =
    let r = c.self.inside in
    let left = drop r.next r.lines.now in
    let rest : take (length r.lines.now - r.next) left ≡ left = take_all (length r.lines.now - r.next) left (omega (arith, length-drop r.next r.lines.now)) in
    c.of.ensures ∙ ap (λ (lines : List Line). map (row_of r.text.now) lines) rest ∙ ap (λ (x : Rest). x.below) c.self.view_is
