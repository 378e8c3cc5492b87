use Rattle.std.proofs.Common.{refl, ap, ◌∙◌, [], codes}
use Rattle.model_gen.specs.Texts.{table, distances_from}
use Rattle.model_gen.proofs.Steps.{both, same_lines}
use Rattle.model_gen.proofs.problems.tour_problem.Goals as goal

pub returns : goal.returns
returns c = same_lines c.text_of.result _ _ (both _ _ _ _ (c.in_ok-domain_line.ensures) (both _ _ _ _ (c.in_ok-name_line.ensures) (both _ _ _ _ (c.in_ok-objects_line.ensures) (both _ _ _ _ (c.in_ok-towns_line.ensures) (both _ _ _ _ (c.in_ok-fixed.ensures) (both _ _ [] [] (c.in_ok-table_line.ensures ∙ ap (table (codes "d")) (c.deref-2.ensures.value ∙ c.in_ok-cells.ensures ∙ ap (distances_from c.args.seed 0) (c.deref.ensures.value ∙ c.in_ok-ways.ensures))) refl)))))) c.text_of.ensures
