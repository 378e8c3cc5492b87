-- The first line with content is reached, or there is none.
use Rattle.std.proofs.Common.{ap, sym, ◌∙◌, List}
use Rattle.yaml_tree.specs.Rest.{Row}
use Rattle.yaml_tree.proofs.BaseReader.{with_below}
use Rattle.yaml_tree.proofs.BasePoints.{from_content-here, from_content-none}
use Rattle.yaml_tree.proofs.points.pass_to_content.Goals as goal

pub returns-then-has_content : goal.returns-then-has_content
returns-then-has_content c =
    let k = c.loop-row.invariant in
    let here = from_content-here c.loop-row.reader.below c.in-Some.row (sym c.row.ensures ∙ c.in-Some.is) (sym c.has_content.ensures ∙ c.if-has_content.true) in
    k.moved ∙ ap (λ (rows : List Row). with_below rows c.args.reader.now) (sym here ∙ k.same)

pub returns : goal.returns
returns c =
    let k = c.loop-row.invariant in
    let none = from_content-none c.loop-row.reader.below (sym c.row.ensures ∙ c.in_default.is) in
    k.moved ∙ ap (λ (rows : List Row). with_below rows c.args.reader.now) (sym none ∙ k.same)
