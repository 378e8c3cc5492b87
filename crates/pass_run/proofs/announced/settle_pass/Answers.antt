use Rattle.std.proofs.Common.{refl}
use Rattle.pass_run.proofs.Heard.{ends_announced}
use Rattle.pass_run.proofs.announced.settle_pass.Goals as goal

pub returns : goal.returns
returns g c = λ p was now last bytes faults heard same told.
    let end = c.end_calls-end in
    ends_announced p was now c.args.queue c.args.heard heard end.ensures.begun c.args.minimize last bytes (g.S.Sink.taken end.new.out) faults (g.S.Sink.faults end.new.out) end.new.told same _ refl refl refl c.refused_by-refused.ensures
    (end.ensures.looked last bytes faults told)
