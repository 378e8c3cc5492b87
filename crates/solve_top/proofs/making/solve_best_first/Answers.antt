use Rattle.solve_best.specs.Texts.{claim_of, ending_status, run_text}
use Rattle.solve_top.proofs.Behinds.{best_claims_hold, best_no_read_fault, best_unclaimed, follows_as, rose_in_all, solves_best}
use Rattle.solve_top.proofs.making.solve_best_first.Goals as goal
use Rattle.solve_top.specs.Jobs.{keeping_all}

pub certify-requires-clause-holds : goal.certify-requires-clause-holds
certify-requires-clause-holds g c = best_claims_hold c.args.model.now c.args.options.now (g.S.Sink.taken c.args.out.now) (g.S.Sink.taken c.solve_best-solved.new.out) c.solve_best-solved.result c.solve_best-solved.ensures.concluded

pub returns-clause-printed : goal.returns-clause-printed
returns-clause-printed g c =
    let concluded = c.solve_best-solved.ensures.concluded in
    let text = run_text c.args.model.now concluded.run in
    let wanted = ending_status concluded.run.ending in
    solves_best c.args.model.now c.args.options.now (g.S.Sink.taken c.args.out.now) (g.S.Sink.taken c.solve_best-solved.new.out) c.solve_best-solved.result concluded c.args.certificate (g.S.Sink.taken c.certify.new.out) c.certify.result
    (follows_as c.args.model.now c.keeping_all-keeping.result (keeping_all c.args.options.now) c.args.certificate (g.S.Sink.taken c.args.out.now) (g.S.Sink.taken c.certify.new.out) text (claim_of concluded.run) wanted c.certify.result c.keeping_all-keeping.ensures
    (c.certify.ensures.printed (g.S.Sink.taken c.args.out.now) text (claim_of concluded.run) wanted concluded.printed))

pub returns-clause-read_fault : goal.returns-clause-read_fault
returns-clause-read_fault g c = λ is. best_no_read_fault c.args.model.now c.args.options.now (g.S.Sink.taken c.args.out.now) (g.S.Sink.taken c.solve_best-solved.new.out) c.solve_best-solved.result c.solve_best-solved.ensures.concluded (c.certify.ensures.read_fault is)

pub certify-requires-clause-unclaimed : goal.certify-requires-clause-unclaimed
certify-requires-clause-unclaimed g c = best_unclaimed c.args.model.now c.args.options.now (g.S.Sink.taken c.args.out.now) (g.S.Sink.taken c.solve_best-solved.new.out) c.solve_best-solved.result c.solve_best-solved.ensures.concluded

pub returns-clause-failed : goal.returns-clause-failed
returns-clause-failed g c = λ is.
    rose_in_all c.solve_best-solved.result.status (g.S.Sink.faults c.args.out.now) (g.S.Sink.faults c.solve_best-solved.new.out) (g.S.Sink.faults c.certify.new.out) c.solve_best-solved.ensures.failed c.solve_best-solved.ensures.count (c.certify.ensures.failed is)
