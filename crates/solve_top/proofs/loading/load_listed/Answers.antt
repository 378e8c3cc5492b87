use Rattle.std.proofs.Common.{◌≡◌, ℕ, List, [], ◌∷◌, Option, ◌⊎◌, subst}
use Rattle.std.specs.Prelude.{IfSome}
use Rattle.solve_top.specs.Files.{IsLong, IsText, AreTexts}
use Rattle.solve_top.specs.Runs.{GiveNothing}
use Rattle.solve_top.specs.Texts.{Steps}
use Rattle.solve_top.specs.declared.causes.NoModel.TheVariants as causes
use Rattle.solve_top.specs.declared.loading.Listed.{Listed}
use Rattle.solve_top.proofs.Programs.{passed_on, unread_of_three, third_unread, short_file, read_steps, read_no_steps}
use Rattle.solve_top.proofs.loading.load_listed.Goals as goal

pub returns-in_err-both-clause-cause : goal.returns-in_err-both-clause-cause
returns-in_err-both-clause-cause g c =
    let files = g.F.Shelf.bytes_under c.args.shelf.now in
    let names = c.args.domain.now ∷ c.args.problem.now ∷ c.args.list.now ∷ [] in
    passed_on c.from_residual.result c.in_err-both.field-0.0 (GiveNothing Steps files names) c.from_residual.ensures.1
    (unread_of_three Steps files c.args.domain.now c.args.problem.now c.args.list.now c.in_err-both.field-0.0 c.in_err-both.ensures.cause)

pub returns-in_err-list-clause-cause : goal.returns-in_err-list-clause-cause
returns-in_err-list-clause-cause g c =
    let files = g.F.Shelf.bytes_under c.args.shelf.now in
    let names = c.args.domain.now ∷ c.args.problem.now ∷ c.args.list.now ∷ [] in
    let t = c.in_ok-both.both in
    let are = c.in_ok-both.ensures.texts in
    let e = c.in_err-list.field-0.0 in
    let cause : (e ≡ causes.ReadFault 3) ⊎ ((e ≡ causes.TooLong 3) × IfSome (files c.args.list.now) IsLong) ⊎ (e ≡ causes.Memory) =
    subst (λ (told : Option (List ℕ)). (e ≡ causes.ReadFault 3) ⊎ ((e ≡ causes.TooLong 3) × IfSome told IsLong) ⊎ (e ≡ causes.Memory)) (c.in_ok-both.ensures.telling c.args.list.now) c.in_err-list.ensures.cause in
    passed_on c.from_residual-in_err-list.result e (GiveNothing Steps files names) c.from_residual-in_err-list.ensures.1
    (third_unread Steps files c.args.domain.now c.args.problem.now c.args.list.now [] e
    (short_file (files c.args.domain.now) t.domain.items are.0 are.1) (short_file (files c.args.problem.now) t.problem.items are.2.0 are.2.1) cause)

pub returns-clause-steps : goal.returns-clause-steps
returns-clause-steps g c =
    let files = g.F.Shelf.bytes_under c.args.shelf.now in
    let names = c.args.domain.now ∷ c.args.problem.now ∷ c.args.list.now ∷ [] in
    let t = c.in_ok-both.both in
    let are = c.in_ok-both.ensures.texts in
    let l = c.in_ok-list.list.items in
    let all : AreTexts files names (t.domain.items ∷ t.problem.items ∷ l ∷ []) =
    (are.0, are.1, (are.2.0, are.2.1, (subst (λ (told : Option (List ℕ)). IsText told l) (c.in_ok-both.ensures.telling c.args.list.now) c.in_ok-list.ensures.text, c.in_ok-list.ensures.short, tt))) in
    read_steps files names (t.domain.items ∷ t.problem.items ∷ l ∷ []) (λ (x : Listed). x.model) (λ (x : Listed). x.steps) c.listed_of.result all (rw c.deref.ensures.value at c.listed_of.ensures.steps)

pub returns-clause-cause : goal.returns-clause-cause
returns-clause-cause g c =
    let files = g.F.Shelf.bytes_under c.args.shelf.now in
    let names = c.args.domain.now ∷ c.args.problem.now ∷ c.args.list.now ∷ [] in
    let t = c.in_ok-both.both in
    let are = c.in_ok-both.ensures.texts in
    let l = c.in_ok-list.list.items in
    let all : AreTexts files names (t.domain.items ∷ t.problem.items ∷ l ∷ []) =
    (are.0, are.1, (are.2.0, are.2.1, (subst (λ (told : Option (List ℕ)). IsText told l) (c.in_ok-both.ensures.telling c.args.list.now) c.in_ok-list.ensures.text, c.in_ok-list.ensures.short, tt))) in
    read_no_steps Steps files names (t.domain.items ∷ t.problem.items ∷ l ∷ []) c.listed_of.result all (rw c.deref.ensures.value at c.listed_of.ensures.cause)
