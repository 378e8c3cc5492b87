-- The point moves on in its line.
use Rattle.std.proofs.Common.{length, ap, ◌∙◌, arith}
use Rattle.yaml_tree.specs.Rest.{Rest, on}
use Rattle.yaml_tree.proofs.BaseReader.{rest-on}
use Rattle.yaml_tree.proofs.reader.Reader.advance.Goals as goal

pub returns : goal.returns
returns c =
    let r = c.self.inside in
    let same = ap (λ (x : Rest). length x.here) c.self.view_is in
    rest-on c.args.count r.file r.end r.line r.column r.text.now r.at r.stop r.ragged r.lines.now r.next (omega (arith, same, c.requires.there)) ∙ ap (λ (x : Rest). on c.args.count x) c.self.view_is
