use Rattle.std.proofs.Common.{◌∙◌, List, take, sym, ap}
use Rattle.std.proofs.lemmas.List.{take-map}
use Rattle.yaml_tree.specs.Rest.{Row, row_of}
use Rattle.yaml_tree.proofs.content.Content.first.Goals as goal

pub returns : goal.returns
returns c =
    sym (take-map (row_of c.self.inside.text.now) c.args.count c.self.inside.lines.now) ∙ ap (λ (rows : List Row). take c.args.count rows) c.self.view_is
