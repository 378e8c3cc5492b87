use Rattle.std.proofs.Common.{◌∙◌, to_z, of_z, w64}
use Rattle.std.proofs.lemmas.Int.{to_z-of_z}
use Rattle.dp_model.specs.declared.answers.Found.{Found}
use Rattle.solve_passes.proofs.AtTarget.{failed_solution, optimal}
use Rattle.solve_passes.proofs.Concluding.{answered, of_err, of_ok}
use Rattle.solve_passes.proofs.solving.conclude_at_target.Goals as goal

pub returns-then-is_err-clause-concluded : goal.returns-then-is_err-clause-concluded
returns-then-is_err-clause-concluded g c = λ options gap.
    let found : Found = record { cost = to_z w64 (of_z w64 c.args.cost); steps = c.of.result } in
    answered c.solved_by.result c.solved_by.ensures (failed_solution c.args.model.now options gap c.args.printing (g.S.Sink.taken c.args.out.now) (g.S.Sink.taken c.put_found.new.out) found c.args.cost c.requires.base c.requires.range (to_z-of_z w64 c.args.cost c.ranges.cost)
    (c.of.ensures ∙ c.new.ensures.items) (of_err c.put_found.result c.if-is_err.ensures.value c.put_found.ensures.err))

pub returns-clause-concluded : goal.returns-clause-concluded
returns-clause-concluded g c = λ options gap.
    let found : Found = record { cost = to_z w64 (of_z w64 c.args.cost); steps = c.of.result } in
    answered c.solved_by-2.result c.solved_by-2.ensures (optimal c.args.model.now options gap c.args.printing (g.S.Sink.taken c.args.out.now) (g.S.Sink.taken c.conclude.new.out) found c.args.cost c.requires.base c.requires.range (to_z-of_z w64 c.args.cost c.ranges.cost)
    (c.of.ensures ∙ c.new.ensures.items) (g.S.Sink.taken c.put_found.new.out) c.conclude.result (of_ok c.put_found.result c.if-is_err.ensures.value c.put_found.ensures.ok) c.conclude.ensures.printed)
