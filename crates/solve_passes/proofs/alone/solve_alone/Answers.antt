use Rattle.std.proofs.Common.{◌≡◌, ◌≤◌, ℕ, List, Option, ap, subst}
use Rattle.dp_outside.specs.Outside.{Rose}
use Rattle.run_ends.specs.declared.status.Status.TheVariants as statuses
use Rattle.solve_passes.proofs.alone.solve_alone.Goals as goal
use Rattle.solve_passes.specs.Ongoing.{Concluded}

pub returns-in-Some-clause-concluded : goal.returns-in-Some-clause-concluded
returns-in-Some-clause-concluded g c = c.in-Some.ensures.concluded c.args.gap

pub returns-clause-concluded : goal.returns-clause-concluded
returns-clause-concluded g c =
    subst (λ (text : Option (List ℕ)). Concluded c.args.model.now c.args.options.now c.args.gap c.args.printing text (g.S.Sink.taken c.search_alone.new.out) c.search_alone.result) (ap g.S.Sink.taken c.in_default.ensures.inner.1) c.search_alone.ensures.concluded

pub returns-clause-failed : goal.returns-clause-failed
returns-clause-failed g c =
    subst (λ (n : ℕ). c.search_alone.result.status ≡ statuses.WriteFault → Rose n (g.S.Sink.faults c.search_alone.new.out)) (ap g.S.Sink.faults c.in_default.ensures.inner.1) c.search_alone.ensures.failed

pub returns-clause-count : goal.returns-clause-count
returns-clause-count g c = subst (λ (n : ℕ). n ≤ g.S.Sink.faults c.search_alone.new.out) (ap g.S.Sink.faults c.in_default.ensures.inner.1) c.search_alone.ensures.count
