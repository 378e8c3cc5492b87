use Rattle.solve_passes.proofs.solving.after_halt.Goals as goal

pub returns-in-Fault-clause-told : goal.returns-in-Fault-clause-told
returns-in-Fault-clause-told g c = rw c.in-Fault.is c.conclude.ensures.printed
