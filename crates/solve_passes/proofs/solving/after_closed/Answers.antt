use Rattle.std.proofs.Common.{FitsSigned, ap, of_z, rules, to_z, w64}
use Rattle.std.proofs.lemmas.Int.{to_z-of_z}
use Rattle.solve_passes.proofs.AfterPass.{ends_infeasible, ends_optimal}
use Rattle.solve_passes.proofs.solving.after_closed.Goals as goal
use Rattle.solve_passes.specs.declared.progress.Progress.{Progress}

pub returns-in-Optimal-clause-ends : goal.returns-in-Optimal-clause-ends
returns-in-Optimal-clause-ends g c =
    let fits : FitsSigned w64 c.in-Optimal.cost = search rules in
    let h = ends_optimal c.args.model.now c.args.dropped c.args.progress.now.schedule.share c.args.least_floor c.cost_of-best.result c.args.progress.now.held c.turn_after.result c.cost_of-best.ensures c.turn_after.ensures.turn
    c.args.printing (g.S.Sink.taken c.args.out.now) (g.S.Sink.taken c.conclude.new.out) c.conclude.result c.in-Optimal.cost (to_z w64 (of_z w64 c.in-Optimal.cost)) c.in-Optimal.is (to_z-of_z w64 c.in-Optimal.cost fits) c.conclude.ensures.printed in
    (h.0, h.1, ap (λ (p : Progress). p.held) c.turn_after.ensures.progress)

pub returns-in-Infeasible-clause-ends : goal.returns-in-Infeasible-clause-ends
returns-in-Infeasible-clause-ends g c =
    let h = ends_infeasible c.args.model.now c.args.dropped c.args.progress.now.schedule.share c.args.least_floor c.cost_of-best.result c.args.progress.now.held c.turn_after.result c.cost_of-best.ensures c.turn_after.ensures.turn
    c.args.printing (g.S.Sink.taken c.args.out.now) (g.S.Sink.taken c.conclude-in-Infeasible.new.out) c.conclude-in-Infeasible.result c.in-Infeasible.is c.conclude-in-Infeasible.ensures.printed in
    (h.0, h.1, ap (λ (p : Progress). p.held) c.turn_after.ensures.progress)
