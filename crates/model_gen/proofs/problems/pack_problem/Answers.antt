use Rattle.std.proofs.Common.{refl, ap, ◌∙◌, [], codes, arith}
use Rattle.model_gen.specs.Texts.{cells, table, rests}
use Rattle.model_gen.proofs.Steps.{both, same_lines, second_length, second_small}
use Rattle.model_gen.proofs.problems.pack_problem.Goals as goal

pub rests-requires-clause-few : goal.rests-requires-clause-few
rests-requires-clause-few c =
    let h = c.requires in
    rw (c.deref-3.ensures.value, c.in_ok-pairs.ensures.second, second_length c.args.seed c.args.size) (omega arith)

pub rests-requires-clause-small : goal.rests-requires-clause-small
rests-requires-clause-small c i = rw (c.deref-3.ensures.value, c.in_ok-pairs.ensures.second) (second_small c.args.seed c.args.size i)

pub returns : goal.returns
returns c = same_lines c.text_of.result _ _ (both _ _ _ _ (c.in_ok-domain_line.ensures) (both _ _ _ _ (c.in_ok-name_line.ensures) (both _ _ _ _ (c.in_ok-objects_line.ensures) (both _ _ _ _ (c.in_ok-room_line.ensures) (both _ _ _ _ (c.in_ok-fixed.ensures) (both _ _ _ _ (c.in_ok-size_line.ensures) (both _ _ _ _ (c.in_ok-table_line.ensures ∙ ap (table (codes "w")) (c.deref-5.ensures.value ∙ c.in_ok-weights.ensures ∙ ap cells (c.deref.ensures.value ∙ c.in_ok-pairs.ensures.first))) (both _ _ _ _ (c.in_ok-table_line-2.ensures ∙ ap (table (codes "p")) (c.deref-6.ensures.value ∙ c.in_ok-profits.ensures ∙ ap cells (c.deref-2.ensures.value ∙ c.in_ok-pairs.ensures.second))) (both _ _ [] [] (c.in_ok-table_line-3.ensures ∙ ap (table (codes "rest")) (c.deref-7.ensures.value ∙ c.in_ok-rests-2.ensures ∙ ap cells (c.deref-4.ensures.value ∙ c.in_ok-rests.ensures ∙ ap rests (c.deref-3.ensures.value ∙ c.in_ok-pairs.ensures.second)))) refl))))))))) c.text_of.ensures
