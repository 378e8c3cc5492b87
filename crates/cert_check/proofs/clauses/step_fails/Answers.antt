use Rattle.std.proofs.Common.{◌≡◌, true, Ok, Option, IfOk, sym, subst, rules}
use Rattle.spot_eval.specs.Moves.{is_forced, number_enabled}
use Rattle.cert_laws.specs.declared.answers.CertReason.{CertReason}
use Rattle.cert_check.specs.Looked.{reached_by}
use Rattle.cert_check.proofs.Clear.{enabled_taken, forced_still}
use Rattle.cert_check.proofs.clauses.step_fails.Goals as goal

pub returns-then-is_forced : goal.returns-then-is_forced
returns-then-is_forced g c =
    let forced : is_forced c.args.looker.now c.args.number ≡ true = search rules in
    sym (forced_still c.args.looker.now c.args.cert.now c.args.past.now.nodes (reached_by c.args.here.now) c.args.number c.requires.clear forced)

pub returns-in-Ok-true : goal.returns-in-Ok-true
returns-in-Ok-true g c =
    let enabled : number_enabled c.args.looker.now c.args.here.now.state c.args.number ≡ Ok true = search rules in
    let same = enabled_taken c.args.looker.now c.args.cert.now c.args.past.now.nodes (reached_by c.args.here.now) c.args.number c.requires.clear enabled in
    subst (λ (told : Option CertReason). IfOk c.taken_fails.result (λ fails. fails ≡ told)) (sym same) c.taken_fails.ensures
