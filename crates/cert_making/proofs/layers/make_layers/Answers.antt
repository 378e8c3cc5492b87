use Rattle.std.proofs.Common.{◌≡◌, refl, arith}
use Rattle.dp_outside.specs.Outside.{Rose}
use Rattle.cert_making.specs.Makes.{Stops}
use Rattle.cert_making.specs.declared.ends.Halt.{Halt}
use Rattle.cert_making.specs.declared.ends.Halt.TheVariants as halts
use Rattle.cert_making.proofs.Turns.{passed_up}
use Rattle.cert_making.proofs.Wholes.{done_first, memory_no_write, rose_later, stop_memory}
use Rattle.cert_making.proofs.layers.make_layers.Goals as goal

pub layers-init : goal.layers-init
layers-init g c = record { asked = c.requires; goes_on = λ p options claim before suited pm w. w; count = omega arith }

pub next_layer-requires : goal.next_layer-requires
next_layer-requires g c = c.layers.invariant.asked

pub layers-preserved : goal.layers-preserved
layers-preserved g c =
    let before = c.layers.invariant in
    let next = c.in_ok-next_layer.ensures.goes_on in
    let k = before.asked in
    record {
      asked = (k.0, k.1, k.2, k.3, k.4, k.5, next k.0 k.1 k.2 k.3 k.4 k.5 k.6);
      goes_on = λ p options claim front suited pm w. next p options claim front suited pm (before.goes_on p options claim front suited pm w);
      count = omega (arith, before.count, c.in_ok-next_layer.ensures.count);
    }

pub returns-then-is_done-clause-done : goal.returns-then-is_done-clause-done
returns-then-is_done-clause-done g c = λ p options claim before suited pm w.
    let x = c.layers.invariant.goes_on p options claim before suited pm w in
    (x, done_first p c.args.claimed c.args.budget c.layers.shard x.layers c.layers.progress.first x.makes ((c.if-is_done.ensures p x.makes.shard_record x.makes.stands).0 refl))

pub returns-in_err-next_layer-clause-ends : goal.returns-in_err-next_layer-clause-ends
returns-in_err-next_layer-clause-ends g c = λ p options claim before suited pm w.
    passed_up c.from_residual.result c.in_err-next_layer.field-0.0 (Stops p options claim c.args.claimed c.args.budget c.next_layer.new.shard before (g.S.Sink.taken c.next_layer.new.out)) c.from_residual.ensures.1
    (c.in_err-next_layer.ensures.ends p options claim before suited pm (c.layers.invariant.goes_on p options claim before suited pm w))

pub returns-in_err-next_layer-clause-failed : goal.returns-in_err-next_layer-clause-failed
returns-in_err-next_layer-clause-failed g c =
    passed_up c.from_residual.result c.in_err-next_layer.field-0.0 (λ (halt : Halt). halt ≡ halts.Write → Rose (g.S.Sink.faults c.args.out.now) (g.S.Sink.faults c.next_layer.new.out)) c.from_residual.ensures.1
    (λ e. rose_later _ _ _ c.layers.invariant.count (c.in_err-next_layer.ensures.failed e))

pub returns-clause-ends : goal.returns-clause-ends
returns-clause-ends g c = λ p options claim before suited pm w.
    stop_memory p options claim c.args.claimed c.args.budget c.layers.shard before (g.S.Sink.taken c.layers.out) c.layers.progress (c.layers.invariant.goes_on p options claim before suited pm w) c.layers.shard halts.Memory refl

pub returns-clause-failed : goal.returns-clause-failed
returns-clause-failed g c = λ e. absurd (memory_no_write e)
