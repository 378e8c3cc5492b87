use Rattle.std.proofs.Common.{refl, ap, ◌∙◌, [], codes}
use Rattle.model_gen.specs.Texts.{cells, table}
use Rattle.model_gen.proofs.Steps.{both, same_lines}
use Rattle.model_gen.proofs.problems.path_problem.Goals as goal

pub returns : goal.returns
returns c = same_lines c.text_of.result _ _ (both _ _ _ _ (c.in_ok-domain_line.ensures) (both _ _ _ _ (c.in_ok-name_line.ensures) (both _ _ _ _ (c.in_ok-objects_line.ensures) (both _ _ _ _ (c.in_ok-fixed.ensures) (both _ _ _ _ (c.in_ok-fixed-2.ensures) (both _ _ _ _ (c.in_ok-size_line.ensures) (both _ _ _ _ (c.in_ok-table_line.ensures ∙ ap (table (codes "a")) (c.deref-3.ensures.value ∙ c.in_ok-a.ensures ∙ ap cells (c.deref.ensures.value ∙ c.in_ok-pairs.ensures.first))) (both _ _ [] [] (c.in_ok-table_line-2.ensures ∙ ap (table (codes "b")) (c.deref-4.ensures.value ∙ c.in_ok-b.ensures ∙ ap cells (c.deref-2.ensures.value ∙ c.in_ok-pairs.ensures.second))) refl)))))))) c.text_of.ensures
