use Rattle.std.proofs.Common.{◌≡◌, ℕ, List, [], ◌∷◌, Option, ◌⊎◌, subst}
use Rattle.std.specs.Prelude.{IfSome}
use Rattle.solve_top.specs.Files.{IsLong, IsText, AreTexts}
use Rattle.solve_top.specs.Runs.{GiveNothing}
use Rattle.solve_top.specs.Texts.{Certificate}
use Rattle.solve_top.specs.declared.causes.NoModel.TheVariants as causes
use Rattle.solve_top.specs.declared.loading.Claimed.{Claimed}
use Rattle.solve_top.proofs.Programs.{passed_on, unread_of_three, third_unread, short_file, read_cert, read_no_steps}
use Rattle.solve_top.proofs.loading.load_claimed.Goals as goal

pub returns-in_err-both-clause-cause : goal.returns-in_err-both-clause-cause
returns-in_err-both-clause-cause g c =
    let files = g.F.Shelf.bytes_under c.args.shelf.now in
    let names = c.args.domain.now ∷ c.args.problem.now ∷ c.args.cert.now ∷ [] in
    passed_on c.from_residual.result c.in_err-both.field-0.0 (GiveNothing Certificate files names) c.from_residual.ensures.1
    (unread_of_three Certificate files c.args.domain.now c.args.problem.now c.args.cert.now c.in_err-both.field-0.0 c.in_err-both.ensures.cause)

pub returns-in_err-text-clause-cause : goal.returns-in_err-text-clause-cause
returns-in_err-text-clause-cause g c =
    let files = g.F.Shelf.bytes_under c.args.shelf.now in
    let names = c.args.domain.now ∷ c.args.problem.now ∷ c.args.cert.now ∷ [] in
    let t = c.in_ok-both.both in
    let are = c.in_ok-both.ensures.texts in
    let e = c.in_err-text.field-0.0 in
    let cause : (e ≡ causes.ReadFault 3) ⊎ ((e ≡ causes.TooLong 3) × IfSome (files c.args.cert.now) IsLong) ⊎ (e ≡ causes.Memory) =
    subst (λ (told : Option (List ℕ)). (e ≡ causes.ReadFault 3) ⊎ ((e ≡ causes.TooLong 3) × IfSome told IsLong) ⊎ (e ≡ causes.Memory)) (c.in_ok-both.ensures.telling c.args.cert.now) c.in_err-text.ensures.cause in
    passed_on c.from_residual-in_err-text.result e (GiveNothing Certificate files names) c.from_residual-in_err-text.ensures.1
    (third_unread Certificate files c.args.domain.now c.args.problem.now c.args.cert.now [] e
    (short_file (files c.args.domain.now) t.domain.items are.0 are.1) (short_file (files c.args.problem.now) t.problem.items are.2.0 are.2.1) cause)

pub returns-clause-cert : goal.returns-clause-cert
returns-clause-cert g c =
    let files = g.F.Shelf.bytes_under c.args.shelf.now in
    let names = c.args.domain.now ∷ c.args.problem.now ∷ c.args.cert.now ∷ [] in
    let t = c.in_ok-both.both in
    let are = c.in_ok-both.ensures.texts in
    let l = c.in_ok-text.text.items in
    let all : AreTexts files names (t.domain.items ∷ t.problem.items ∷ l ∷ []) =
    (are.0, are.1, (are.2.0, are.2.1, (subst (λ (told : Option (List ℕ)). IsText told l) (c.in_ok-both.ensures.telling c.args.cert.now) c.in_ok-text.ensures.text, c.in_ok-text.ensures.short, tt))) in
    read_cert files names (t.domain.items ∷ t.problem.items ∷ l ∷ []) (λ (x : Claimed). x.model) (λ (x : Claimed). x.cert) c.claimed_of.result all (rw c.deref.ensures.value at c.claimed_of.ensures.cert)

pub returns-clause-cause : goal.returns-clause-cause
returns-clause-cause g c =
    let files = g.F.Shelf.bytes_under c.args.shelf.now in
    let names = c.args.domain.now ∷ c.args.problem.now ∷ c.args.cert.now ∷ [] in
    let t = c.in_ok-both.both in
    let are = c.in_ok-both.ensures.texts in
    let l = c.in_ok-text.text.items in
    let all : AreTexts files names (t.domain.items ∷ t.problem.items ∷ l ∷ []) =
    (are.0, are.1, (are.2.0, are.2.1, (subst (λ (told : Option (List ℕ)). IsText told l) (c.in_ok-both.ensures.telling c.args.cert.now) c.in_ok-text.ensures.text, c.in_ok-text.ensures.short, tt))) in
    read_no_steps Certificate files names (t.domain.items ∷ t.problem.items ∷ l ∷ []) c.claimed_of.result all (rw c.deref.ensures.value at c.claimed_of.ensures.cause)
