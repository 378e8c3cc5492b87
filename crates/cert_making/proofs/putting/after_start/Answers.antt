use Rattle.std.proofs.Common.{ℤ, [], inl, refl, sym, subst, FitsSigned, w64, rules}
use Rattle.std.proofs.lemmas.Int.{to_z-of_z}
use Rattle.dp_model.specs.Costs.{InRange}
use Rattle.dp_steps.specs.States.{Base}
use Rattle.successors.specs.declared.starts.Start.TheVariants as starts
use Rattle.visit_laws.proofs.Starts.{start_base, start_forbidden, start_open}
use Rattle.cert_making.proofs.Starts.{head_few, is_start, no_layers, start_fits, target_shown}
use Rattle.cert_making.proofs.Wholes.{told_last}
use Rattle.cert_making.proofs.putting.after_start.Goals as goal

pub returns-in-NotAllowed-clause-told : goal.returns-in-NotAllowed-clause-told
returns-in-NotAllowed-clause-told g c = λ before head.
    let m = c.args.model.now in
    let o = c.args.options.now in
    told_last m o c.args.claim.now before (g.S.Sink.taken c.args.out.now) (g.S.Sink.taken c.put_last.new.out) _ _ 0 [] (no_layers m) (head_few c.args.claim.now c.args.lines c.requires.lines.0 c.requires.lines.1) refl
    (target_shown m o c.args.claim.now c.requires.claim (inl ((start_forbidden m o.prune).0 (is_start m o.prune c.args.start starts.NotAllowed c.in-NotAllowed.is c.requires.start))))
    head c.put_last.result c.put_last.ensures

pub after_base-requires-clause-base : goal.after_base-requires-clause-base
after_base-requires-clause-base g c =
    let fits : FitsSigned w64 c.in-Base.cost = search rules in
    subst (λ (n : ℤ). Base c.args.model.now c.args.model.now.target n) (sym (to_z-of_z w64 c.in-Base.cost fits))
    ((start_base c.args.model.now c.args.options.now.prune c.in-Base.cost).0 (is_start c.args.model.now c.args.options.now.prune c.args.start (starts.Base c.in-Base.cost) c.in-Base.is c.requires.start))

pub after_base-requires-clause-range : goal.after_base-requires-clause-range
after_base-requires-clause-range g c =
    let fits : FitsSigned w64 c.in-Base.cost = search rules in
    subst InRange (sym (to_z-of_z w64 c.in-Base.cost fits)) (start_fits c.args.model.now c.args.start (starts.Base c.in-Base.cost) c.in-Base.is c.requires.fits)

pub after_open-requires-clause-inner : goal.after_open-requires-clause-inner
after_open-requires-clause-inner g c = ((start_open c.args.model.now c.args.options.now.prune c.in-Open.node).0 (is_start c.args.model.now c.args.options.now.prune c.args.start (starts.Open c.in-Open.node) c.in-Open.is c.requires.start)).0

pub after_open-requires-clause-node : goal.after_open-requires-clause-node
after_open-requires-clause-node g c = start_fits c.args.model.now c.args.start (starts.Open c.in-Open.node) c.in-Open.is c.requires.fits

pub after_open-requires-clause-start : goal.after_open-requires-clause-start
after_open-requires-clause-start g c = ((start_open c.args.model.now c.args.options.now.prune c.in-Open.node).0 (is_start c.args.model.now c.args.options.now.prune c.args.start (starts.Open c.in-Open.node) c.in-Open.is c.requires.start)).1
