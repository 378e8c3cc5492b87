use Rattle.std.proofs.Common.{◌≡◌, Bool, Ok, Err, subst}
use Rattle.successors.specs.Answers.{Answers}
use Rattle.successors.specs.Starts.{start_at}
use Rattle.successors.specs.declared.starts.Start.{Start}
use Rattle.cert_making.proofs.putting.make_by.Goals as goal

pub claimed_word-claimed-requires : goal.claimed_word-claimed-requires
claimed_word-claimed-requires g c = (c.args.model.now, c.requires.claim)

pub after_start-requires-clause-claimed : goal.after_start-requires-clause-claimed
after_start-requires-clause-claimed g c = c.claimed_word-claimed.ensures c.args.model.now c.requires.law

pub after_start-requires-clause-start : goal.after_start-requires-clause-start
after_start-requires-clause-start g c = subst (λ (b : Bool). start_at c.args.model.now b ≡ Ok c.in-Ok.start) c.prune.ensures c.in-Ok.ensures.start

pub returns-in-Err-clause-told : goal.returns-in-Err-clause-told
returns-in-Err-clause-told g c = λ before head.
    c.refused.ensures.told c.args.model.now c.args.options.now c.args.claim.now before (g.S.Sink.taken c.args.out.now) (subst (λ (b : Bool). Answers {A = Start} (Err c.in-Err.end) (start_at c.args.model.now b)) c.prune.ensures c.in-Err.ensures.start) head

pub returns-in-Err-clause-failed : goal.returns-in-Err-clause-failed
returns-in-Err-clause-failed g c = λ e. absurd (c.refused.ensures.no_write e)
