use Rattle.solve_passes.specs.Records.{claim_of, ending_status, record_text}
use Rattle.solve_passes.specs.declared.progress.Printing.TheVariants.{All}
use Rattle.solve_top.proofs.Behinds.{claims_hold, rose_in_all, solves, unclaimed}
use Rattle.solve_top.proofs.Programs.{no_read_fault}
use Rattle.solve_top.proofs.making.solve_by_layers.Goals as goal

pub certify-requires-clause-holds : goal.certify-requires-clause-holds
certify-requires-clause-holds g c = claims_hold c.args.model.now c.args.search.now.options c.args.search.now.gap c.args.search.now.announce (g.S.Sink.taken c.args.out.now) (g.S.Sink.taken c.solve-solved.new.out) c.solve-solved.result c.solve-solved.ensures.concluded

pub returns-clause-printed : goal.returns-clause-printed
returns-clause-printed g c =
    let concluded = c.solve-solved.ensures.concluded in
    solves c.args.model.now c.args.search.now.options c.args.search.now.gap c.args.search.now.announce (g.S.Sink.taken c.args.out.now) (g.S.Sink.taken c.solve-solved.new.out) c.solve-solved.result concluded c.args.search.now.certificate (g.S.Sink.taken c.certify.new.out) c.certify.result
    (c.certify.ensures.printed (g.S.Sink.taken c.args.out.now) (record_text (All c.args.search.now.announce) c.args.model.now concluded.run) (claim_of concluded.run) (ending_status concluded.run.ending) concluded.printed)

pub returns-clause-read_fault : goal.returns-clause-read_fault
returns-clause-read_fault g c = λ is. no_read_fault c.args.model.now c.args.search.now.options c.args.search.now.gap (All c.args.search.now.announce) (g.S.Sink.taken c.args.out.now) (g.S.Sink.taken c.solve-solved.new.out) c.solve-solved.result c.solve-solved.ensures.concluded (c.certify.ensures.read_fault is)

pub certify-requires-clause-unclaimed : goal.certify-requires-clause-unclaimed
certify-requires-clause-unclaimed g c = unclaimed c.args.model.now c.args.search.now.options c.args.search.now.gap c.args.search.now.announce (g.S.Sink.taken c.args.out.now) (g.S.Sink.taken c.solve-solved.new.out) c.solve-solved.result c.solve-solved.ensures.concluded

pub returns-clause-failed : goal.returns-clause-failed
returns-clause-failed g c = λ is.
    rose_in_all c.solve-solved.result.status (g.S.Sink.faults c.args.out.now) (g.S.Sink.faults c.solve-solved.new.out) (g.S.Sink.faults c.certify.new.out) c.solve-solved.ensures.failed c.solve-solved.ensures.count (c.certify.ensures.failed is)
