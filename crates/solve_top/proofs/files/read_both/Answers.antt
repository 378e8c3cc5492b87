use Rattle.std.proofs.Common.{◌≡◌, ℕ, List, [], ◌∷◌, Option, ◌⊎◌, subst}
use Rattle.std.specs.Prelude.{IfSome}
use Rattle.solve_top.specs.Files.{IsLong, IsText}
use Rattle.solve_top.specs.Runs.{IsUnread}
use Rattle.solve_top.specs.declared.causes.NoModel.TheVariants as causes
use Rattle.solve_top.proofs.Programs.{first_unread, second_unread, short_file, passed_on}
use Rattle.solve_top.proofs.files.read_both.Goals as goal

pub returns-in_err-domain-clause-cause : goal.returns-in_err-domain-clause-cause
returns-in_err-domain-clause-cause g c =
    let files = g.F.Shelf.bytes_under c.args.shelf.now in
    let names = c.args.domain.now ∷ c.args.problem.now ∷ [] in
    passed_on c.from_residual.result c.in_err-domain.field-0.0 (IsUnread files names) c.from_residual.ensures.1
    (first_unread files c.args.domain.now (c.args.problem.now ∷ []) c.in_err-domain.field-0.0 c.in_err-domain.ensures.cause)

pub returns-in_err-problem-clause-cause : goal.returns-in_err-problem-clause-cause
returns-in_err-problem-clause-cause g c =
    let files = g.F.Shelf.bytes_under c.args.shelf.now in
    let names = c.args.domain.now ∷ c.args.problem.now ∷ [] in
    let e = c.in_err-problem.field-0.0 in
    let cause : (e ≡ causes.ReadFault 2) ⊎ ((e ≡ causes.TooLong 2) × IfSome (files c.args.problem.now) IsLong) ⊎ (e ≡ causes.Memory) =
    subst (λ (told : Option (List ℕ)). (e ≡ causes.ReadFault 2) ⊎ ((e ≡ causes.TooLong 2) × IfSome told IsLong) ⊎ (e ≡ causes.Memory)) (c.in_ok-domain.ensures.telling c.args.problem.now) c.in_err-problem.ensures.cause in
    passed_on c.from_residual-in_err-problem.result e (IsUnread files names) c.from_residual-in_err-problem.ensures.1
    (second_unread files c.args.domain.now c.args.problem.now [] e (short_file (files c.args.domain.now) c.in_ok-domain.domain.items c.in_ok-domain.ensures.text c.in_ok-domain.ensures.short) cause)

pub returns-clause-texts : goal.returns-clause-texts
returns-clause-texts g c =
    let files = g.F.Shelf.bytes_under c.args.shelf.now in
    let p = c.in_ok-problem.problem.items in (
      c.in_ok-domain.ensures.text,
      c.in_ok-domain.ensures.short,
      (subst (λ (told : Option (List ℕ)). IsText told p) (c.in_ok-domain.ensures.telling c.args.problem.now) c.in_ok-problem.ensures.text, c.in_ok-problem.ensures.short, tt),
    )
