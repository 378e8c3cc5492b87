use Rattle.std.proofs.Common.{ℕ, sym, subst}
use Rattle.best_turns.specs.Envelopes.{terms_of}
use Rattle.best_first.specs.Mails.{AreMails}
use Rattle.best_first.proofs.crew.make_crew.Goals as goal

pub returns-clause-turners : goal.returns-clause-turners
returns-clause-turners g c =
    let mails = c.in_ok-boxes.field-0 in
    let are = subst (λ (n : ℕ). AreMails n (terms_of c.args.model.now) n mails) c.workers.ensures c.in_ok-boxes.ensures in
    λ some. c.in_ok-turners.ensures some mails (sym c.from_vec-takers.ensures.items) (sym c.from_vec-posters.ensures.items) are

pub returns-clause-boxes : goal.returns-clause-boxes
returns-clause-boxes g c =
    let are = subst (λ (n : ℕ). AreMails n (terms_of c.args.model.now) n c.in_ok-boxes.field-0) c.workers.ensures c.in_ok-boxes.ensures in
    record { long = are.boxes_long; senders = are.senders }
