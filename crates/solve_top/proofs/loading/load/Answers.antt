use Rattle.std.proofs.Common.{[], ◌∷◌}
use Rattle.solve_top.specs.Runs.{GiveNothing}
use Rattle.solve_top.specs.Texts.{Steps}
use Rattle.solve_top.proofs.Programs.{passed_on, unread_gives, read_model, read_no_model}
use Rattle.solve_top.proofs.loading.load.Goals as goal

pub returns-in_err-texts-clause-cause : goal.returns-in_err-texts-clause-cause
returns-in_err-texts-clause-cause g c =
    let files = g.F.Shelf.bytes_under c.args.shelf.now in
    let names = c.args.domain.now ∷ c.args.problem.now ∷ [] in
    passed_on c.from_residual.result c.in_err-texts.field-0.0 (GiveNothing Steps files names) c.from_residual.ensures.1
    (unread_gives Steps files names c.in_err-texts.field-0.0 c.in_err-texts.ensures.cause)

pub returns-clause-model : goal.returns-clause-model
returns-clause-model g c =
    let files = g.F.Shelf.bytes_under c.args.shelf.now in
    let names = c.args.domain.now ∷ c.args.problem.now ∷ [] in
    let t = c.in_ok-texts.texts in
    read_model files names t.domain.items t.problem.items c.model_of.result c.in_ok-texts.ensures.texts (rw (c.deref.ensures.value, c.deref-2.ensures.value) at c.model_of.ensures.model)

pub returns-clause-cause : goal.returns-clause-cause
returns-clause-cause g c =
    let files = g.F.Shelf.bytes_under c.args.shelf.now in
    let names = c.args.domain.now ∷ c.args.problem.now ∷ [] in
    let t = c.in_ok-texts.texts in
    read_no_model Steps files names t.domain.items t.problem.items c.model_of.result c.in_ok-texts.ensures.texts (rw (c.deref.ensures.value, c.deref-2.ensures.value) at c.model_of.ensures.cause)
