use Rattle.std.proofs.Common.{◌≡◌, List, refl, sym, subst}
use Rattle.dp_model.specs.declared.whole.Model.{Model}
use Rattle.dp_outside.specs.Outside.{Rose}
use Rattle.cert_types.specs.declared.nodes.CertNode.{CertNode}
use Rattle.cert_making.specs.Makes.{Ends, IsUnwritten, Stops, Writes, with_layer}
use Rattle.cert_making.specs.declared.ends.Halt.{Halt}
use Rattle.cert_making.specs.declared.ends.Halt.TheVariants as halts
use Rattle.cert_making.proofs.Turns.{if_err, on_ok, passed_up}
use Rattle.cert_making.proofs.Wholes.{layers_within, memory_no_write, no_write, stop_memory, stop_visit, stop_write, works_next, writes_first}
use Rattle.cert_making.proofs.layers.next_layer.Goals as goal

pub close_layer-requires : goal.close_layer-requires
close_layer-requires g c = let k = c.requires in (k.0, c.args.claimed, c.args.budget, k.6.layers, k.4, k.6.makes, k.6.ready)

pub write_layer-requires : goal.write_layer-requires
write_layer-requires g c = let w = c.requires.6.writes in record { few = w.few; layers = layers_within c.requires.2 c.requires.6.layers c.args.progress.now.layers c.args.progress.now.lines w.count w.lines }

pub visit_layer-requires : goal.visit_layer-requires
visit_layer-requires g c =
    let k = c.requires in
    let b = c.in_ok-nodes.ensures k.0 c.args.claimed c.args.budget k.6.layers k.4 k.6.makes k.6.ready in
    (k.0, with_layer k.6.layers c.in_ok-nodes.nodes.items, c.args.shard.now.visited, k.4, b)

pub returns-in_err-nodes-clause-ends : goal.returns-in_err-nodes-clause-ends
returns-in_err-nodes-clause-ends g c = λ p options claim before suited pm w.
    passed_up c.from_residual.result halts.Memory (Stops p options claim c.args.claimed c.args.budget c.close_layer.new.shard before (g.S.Sink.taken c.args.out.now)) c.from_residual.ensures.1
    (stop_memory p options claim c.args.claimed c.args.budget c.args.shard.now before (g.S.Sink.taken c.args.out.now) c.args.progress.now w c.close_layer.new.shard halts.Memory refl)

pub returns-in_err-nodes-clause-failed : goal.returns-in_err-nodes-clause-failed
returns-in_err-nodes-clause-failed g c = passed_up c.from_residual.result halts.Memory (λ (halt : Halt). halt ≡ halts.Write → Rose (g.S.Sink.faults c.args.out.now) (g.S.Sink.faults c.args.out.now)) c.from_residual.ensures.1 (λ e. absurd (memory_no_write e))

pub returns-in_err-write_layer-clause-ends : goal.returns-in_err-write_layer-clause-ends
returns-in_err-write_layer-clause-ends g c = λ p options claim before suited pm w.
    let b = c.in_ok-nodes.ensures p c.args.claimed c.args.budget w.layers suited w.makes w.ready in
    let cs = c.in_ok-nodes.nodes.items in
    let before_writes = subst (λ (m : Model). Writes m options claim before (g.S.Sink.taken c.args.out.now) w.layers c.args.progress.now) pm w.writes in
    let halt = c.in_err-write_layer.field-0.0 in
    let h = subst (λ (m : Model). IsUnwritten m options claim before (g.S.Sink.taken c.write_layer.new.out) w.layers cs halt) (sym pm)
    (subst (λ (ns : List CertNode). IsUnwritten c.args.model.now options claim before (g.S.Sink.taken c.write_layer.new.out) w.layers ns halt) c.as_slice.ensures.value
    (c.in_err-write_layer.ensures.stopped options claim before w.layers before_writes)) in
    passed_up c.from_residual-in_err-write_layer.result halt (Stops p options claim c.args.claimed c.args.budget c.close_layer.new.shard before (g.S.Sink.taken c.write_layer.new.out)) c.from_residual-in_err-write_layer.ensures.1
    (stop_write p options claim c.args.claimed c.args.budget c.args.shard.now before (g.S.Sink.taken c.args.out.now) c.args.progress.now w c.close_layer.new.shard cs c.args.shard.now.visited b (g.S.Sink.taken c.write_layer.new.out) halt h)

pub returns-in_err-write_layer-clause-failed : goal.returns-in_err-write_layer-clause-failed
returns-in_err-write_layer-clause-failed g c =
    passed_up c.from_residual-in_err-write_layer.result c.in_err-write_layer.field-0.0 (λ (halt : Halt). halt ≡ halts.Write → Rose (g.S.Sink.faults c.args.out.now) (g.S.Sink.faults c.write_layer.new.out)) c.from_residual-in_err-write_layer.ensures.1 c.in_err-write_layer.ensures.failed

pub returns-clause-goes_on : goal.returns-clause-goes_on
returns-clause-goes_on g c = λ p options claim before suited pm w.
    let b = c.in_ok-nodes.ensures p c.args.claimed c.args.budget w.layers suited w.makes w.ready in
    let cs = c.in_ok-nodes.nodes.items in
    let before_writes = subst (λ (m : Model). Writes m options claim before (g.S.Sink.taken c.args.out.now) w.layers c.args.progress.now) pm w.writes in
    let written = subst (λ (m : Model). Writes m options claim before (g.S.Sink.taken c.write_layer.new.out) (with_layer w.layers cs) c.write_layer.new.progress) (sym pm)
    (subst (λ (ns : List CertNode). Writes c.args.model.now options claim before (g.S.Sink.taken c.write_layer.new.out) (with_layer w.layers ns) c.write_layer.new.progress) c.as_slice.ensures.value
    (c.in_ok-write_layer.ensures.written options claim before w.layers before_writes)) in
    on_ok c.visit_layer.result (c.visit_layer.ensures.goes_on p (with_layer w.layers cs) c.args.shard.now.visited suited b)
    (λ x. works_next p options claim c.args.claimed c.args.budget c.visit_layer.new.shard (with_layer w.layers cs) before (g.S.Sink.taken c.write_layer.new.out) _ x.0 x.1
    (writes_first p.model options claim before (g.S.Sink.taken c.write_layer.new.out) (with_layer w.layers cs) c.write_layer.new.progress c.args.shard.now.visited written))

pub returns-clause-ends : goal.returns-clause-ends
returns-clause-ends g c = λ p options claim before suited pm w.
    let b = c.in_ok-nodes.ensures p c.args.claimed c.args.budget w.layers suited w.makes w.ready in
    let cs = c.in_ok-nodes.nodes.items in
    let before_writes = subst (λ (m : Model). Writes m options claim before (g.S.Sink.taken c.args.out.now) w.layers c.args.progress.now) pm w.writes in
    let written = subst (λ (m : Model). Writes m options claim before (g.S.Sink.taken c.write_layer.new.out) (with_layer w.layers cs) c.write_layer.new.progress) (sym pm)
    (subst (λ (ns : List CertNode). Writes c.args.model.now options claim before (g.S.Sink.taken c.write_layer.new.out) (with_layer w.layers ns) c.write_layer.new.progress) c.as_slice.ensures.value
    (c.in_ok-write_layer.ensures.written options claim before w.layers before_writes)) in
    if_err {P = Ends p c.args.claimed c.args.budget c.visit_layer.new.shard} c.visit_layer.result (c.visit_layer.ensures.ends p (with_layer w.layers cs) c.args.shard.now.visited suited b)
    (λ halt h. stop_visit p options claim c.args.claimed c.args.budget c.close_layer.new.shard c.visit_layer.new.shard (with_layer w.layers cs) c.args.shard.now.visited b before (g.S.Sink.taken c.write_layer.new.out) c.write_layer.new.progress written halt h)

pub returns-clause-failed : goal.returns-clause-failed
returns-clause-failed g c =
    let k = c.requires in
    let b = c.in_ok-nodes.ensures k.0 c.args.claimed c.args.budget k.6.layers k.4 k.6.makes k.6.ready in
    if_err {P = Ends k.0 c.args.claimed c.args.budget c.visit_layer.new.shard} c.visit_layer.result (c.visit_layer.ensures.ends k.0 (with_layer k.6.layers c.in_ok-nodes.nodes.items) c.args.shard.now.visited k.4 b)
    (λ halt h e. absurd (no_write k.0 c.args.claimed c.args.budget c.visit_layer.new.shard halt h e))
