use Rattle.std.proofs.Common.{◌≡◌, Ok, Err, Option, Some, IfOk, sym, subst, rules}
use Rattle.spot_eval.specs.Moves.{first_enabled, forced_of}
use Rattle.cert_laws.specs.declared.answers.CertReason.{CertReason}
use Rattle.cert_check.specs.Looked.{reached_by}
use Rattle.cert_check.proofs.Clear.{fault_still, one_taken}
use Rattle.cert_check.proofs.clauses.steps_fail.Goals as goal

pub returns-in-Ok-Some : goal.returns-in-Ok-Some
returns-in-Ok-Some g c =
    let first : first_enabled c.args.looker.now c.args.here.now.state (forced_of c.args.looker.now) ≡ Ok (Some c.in-Ok-Some.number) = search rules in
    let same = one_taken c.args.looker.now c.args.cert.now c.args.past.now.nodes (reached_by c.args.here.now) c.in-Ok-Some.number first in
    subst (λ (told : Option CertReason). IfOk c.taken_fails.result (λ fails. fails ≡ told)) (sym same) c.taken_fails.ensures

pub returns-in-Err : goal.returns-in-Err
returns-in-Err g c =
    let first : first_enabled c.args.looker.now c.args.here.now.state (forced_of c.args.looker.now) ≡ Err c.in-Err.field-0 = search rules in
    sym (fault_still c.args.looker.now c.args.cert.now c.args.past.now.nodes (reached_by c.args.here.now) c.in-Err.field-0 first)
