use Rattle.std.proofs.Common.{inl, refl, sym}
use Rattle.cert_making.specs.declared.ends.CertEnd.TheVariants as ends
use Rattle.cert_making.proofs.Starts.{head_begun, pass_is, suited_in, the_pass}
use Rattle.cert_making.proofs.Wholes.{exhausted_shown, first_works, memory_not_write, last_few, told_last, told_up, works_layers}
use Rattle.cert_making.proofs.searching.search.Goals as goal

pub returns-in_err-shard-clause-told : goal.returns-in_err-shard-clause-told
returns-in_err-shard-clause-told g c = λ before head.
    told_up c.args.model.now c.args.options.now c.args.claim.now before (g.S.Sink.taken c.args.out.now) c.from_residual.result ends.Memory c.from_residual.ensures.1
    (inl (head_begun c.args.model.now c.args.options.now c.args.claim.now before (g.S.Sink.taken c.args.out.now) head))

pub returns-in_err-shard-clause-failed : goal.returns-in_err-shard-clause-failed
returns-in_err-shard-clause-failed g c = λ e. absurd (memory_not_write c.from_residual.result c.from_residual.ensures.1 e)

pub make_layers-requires : goal.make_layers-requires
make_layers-requires g c =
    let m = c.args.model.now in
    let o = c.args.options.now in
    let p = the_pass m o in
    let suited = suited_in m o g.L.CostLaw.minimize g.L.CostLaw.operator g.K.Covers.prune g.K.Covers.minimize g.K.Covers.operator c.requires.law c.requires.covering c.requires.prune in
    let made = c.in_ok-shard.ensures p c.args.claimed c.budget-budget.result suited (pass_is m o) c.requires.inner c.requires.start in
    (p, o, c.args.claim.now, c.requires.head.0, suited, refl, first_works p o c.args.claim.now c.args.claimed c.budget-budget.result c.in_ok-shard.shard c.requires.head.0 (g.S.Sink.taken c.args.out.now) c.args.lines made c.requires.head.1 c.requires.lines.0 c.requires.lines.1)

pub after_halt-requires : goal.after_halt-requires
after_halt-requires g c =
    let m = c.args.model.now in
    let o = c.args.options.now in
    let p = the_pass m o in
    let suited = suited_in m o g.L.CostLaw.minimize g.L.CostLaw.operator g.K.Covers.prune g.K.Covers.minimize g.K.Covers.operator c.requires.law c.requires.covering c.requires.prune in
    let made = c.in_ok-shard.ensures p c.args.claimed c.budget-budget.result suited (pass_is m o) c.requires.inner c.requires.start in
    let works = first_works p o c.args.claim.now c.args.claimed c.budget-budget.result c.in_ok-shard.shard c.requires.head.0 (g.S.Sink.taken c.args.out.now) c.args.lines made c.requires.head.1 c.requires.lines.0 c.requires.lines.1 in
    (p, o, c.args.claim.now, c.args.claimed, c.requires.head.0, g.S.Sink.taken c.make_layers.new.out, c.in-Err.ensures.ends p o c.args.claim.now c.requires.head.0 suited refl works)

pub returns-in-Err-clause-told : goal.returns-in-Err-clause-told
returns-in-Err-clause-told g c = λ before head.
    let m = c.args.model.now in
    let o = c.args.options.now in
    let p = the_pass m o in
    let suited = suited_in m o g.L.CostLaw.minimize g.L.CostLaw.operator g.K.Covers.prune g.K.Covers.minimize g.K.Covers.operator c.requires.law c.requires.covering c.requires.prune in
    let made = c.in_ok-shard.ensures p c.args.claimed c.budget-budget.result suited (pass_is m o) c.requires.inner c.requires.start in
    let works = first_works p o c.args.claim.now c.args.claimed c.budget-budget.result c.in_ok-shard.shard before (g.S.Sink.taken c.args.out.now) c.args.lines made head c.requires.lines.0 c.requires.lines.1 in
    c.after_halt.ensures.told p o c.args.claim.now c.args.claimed before (g.S.Sink.taken c.make_layers.new.out) refl refl (sym c.budget-budget.ensures) c.requires.claimed (c.in-Err.ensures.ends p o c.args.claim.now before suited refl works)

pub returns-in-Err-clause-failed : goal.returns-in-Err-clause-failed
returns-in-Err-clause-failed g c = λ e. c.in-Err.ensures.failed (c.after_halt.ensures.write e)

pub returns-clause-told : goal.returns-clause-told
returns-clause-told g c = λ before head.
    let m = c.args.model.now in
    let o = c.args.options.now in
    let p = the_pass m o in
    let suited = suited_in m o g.L.CostLaw.minimize g.L.CostLaw.operator g.K.Covers.prune g.K.Covers.minimize g.K.Covers.operator c.requires.law c.requires.covering c.requires.prune in
    let made = c.in_ok-shard.ensures p c.args.claimed c.budget-budget.result suited (pass_is m o) c.requires.inner c.requires.start in
    let works = first_works p o c.args.claim.now c.args.claimed c.budget-budget.result c.in_ok-shard.shard before (g.S.Sink.taken c.args.out.now) c.args.lines made head c.requires.lines.0 c.requires.lines.1 in
    let w = c.in_default.ensures.done p o c.args.claim.now before suited refl works in
    let after = w.0 in
    told_last m o c.args.claim.now before (g.S.Sink.taken c.make_layers.new.out) (g.S.Sink.taken c.put_last.new.out) _ _ c.make_layers.new.progress.layers after.layers
    (works_layers p o c.args.claim.now c.args.claimed c.budget-budget.result c.make_layers.new.shard before (g.S.Sink.taken c.make_layers.new.out) c.make_layers.new.progress after)
    (last_few after.writes.lines after.writes.few) after.writes.count
    (exhausted_shown p o c.args.claim.now c.args.claimed c.budget-budget.result c.make_layers.new.shard before (g.S.Sink.taken c.make_layers.new.out) c.make_layers.new.progress after w.1 c.requires.claim c.requires.claimed refl refl)
    after.writes.text c.put_last.result c.put_last.ensures
