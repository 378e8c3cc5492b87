-- Lines below are passed.
use Rattle.std.proofs.Common.{ap, ◌∙◌}
use Rattle.yaml_tree.specs.Rest.{Rest}
use Rattle.yaml_tree.proofs.BaseReader.{passed, rest-passed}
use Rattle.yaml_tree.proofs.reader.Reader.pass.Goals as goal

pub returns : goal.returns
returns c =
    let r = c.self.inside in
    rest-passed c.args.count r.file r.end r.line r.column r.text.now r.at r.stop r.ragged r.lines.now r.next ∙ ap (λ (x : Rest). passed c.args.count x) c.self.view_is
