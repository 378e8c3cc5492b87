use Rattle.std.proofs.Common.{ℕ, List, inr}
use Rattle.dp_outside.specs.Outside.{Takes, TakesFront}
use Rattle.cert_text.specs.Texts.{text_of_lines}
use Rattle.cert_making.specs.declared.ends.CertEnd.TheVariants as ends
use Rattle.solve_report.proofs.Written.{Takes-nothing}
use Rattle.cert_making.proofs.Starts.{head_broken, head_of, head_whole}
use Rattle.cert_making.proofs.Wholes.{memory_not_write, told_up}
use Rattle.cert_making.proofs.putting.put_certificate.Goals as goal

pub returns-in_err-lines-clause-told : goal.returns-in_err-lines-clause-told
returns-in_err-lines-clause-told g c =
    told_up c.args.model.now c.args.options.now c.args.claim.now (g.S.Sink.taken c.args.out.now) (g.S.Sink.taken c.args.out.now) c.from_residual.result ends.Memory c.from_residual.ensures.1 (inr (Takes-nothing (g.S.Sink.taken c.args.out.now)))

pub returns-in_err-lines-clause-failed : goal.returns-in_err-lines-clause-failed
returns-in_err-lines-clause-failed g c = λ e. absurd (memory_not_write c.from_residual.result c.from_residual.ensures.1 e)

pub returns-in_err-put_head-clause-told : goal.returns-in_err-put_head-clause-told
returns-in_err-put_head-clause-told g c =
    let m = c.args.model.now in
    let o = c.args.options.now in
    let claim = c.args.claim.now in
    let front = head_of m claim c.keep.result o.keep c.prune.result o.prune c.keep.ensures c.prune.ensures (λ (ls : List (List ℕ)). TakesFront (g.S.Sink.taken c.args.out.now) (g.S.Sink.taken c.put_head.new.out) (text_of_lines ls)) c.in_err-put_head.ensures.err in
    told_up m o claim (g.S.Sink.taken c.args.out.now) (g.S.Sink.taken c.put_head.new.out) c.from_residual-in_err-put_head.result ends.Write c.from_residual-in_err-put_head.ensures.1
    (head_broken m o claim (g.S.Sink.taken c.args.out.now) (g.S.Sink.taken c.put_head.new.out) front)

pub make_under_law-requires-clause-head : goal.make_under_law-requires-clause-head
make_under_law-requires-clause-head g c =
    let m = c.args.model.now in
    let o = c.args.options.now in
    let claim = c.args.claim.now in
    let whole = head_of m claim c.keep.result o.keep c.prune.result o.prune c.keep.ensures c.prune.ensures (λ (ls : List (List ℕ)). Takes (g.S.Sink.taken c.args.out.now) (g.S.Sink.taken c.put_head.new.out) (text_of_lines ls)) c.in_ok-put_head.ensures.ok in
    (g.S.Sink.taken c.args.out.now, head_whole m o claim (g.S.Sink.taken c.args.out.now) (g.S.Sink.taken c.put_head.new.out) whole)

pub returns-clause-told : goal.returns-clause-told
returns-clause-told g c =
    let m = c.args.model.now in
    let o = c.args.options.now in
    let claim = c.args.claim.now in
    let whole = head_of m claim c.keep.result o.keep c.prune.result o.prune c.keep.ensures c.prune.ensures (λ (ls : List (List ℕ)). Takes (g.S.Sink.taken c.args.out.now) (g.S.Sink.taken c.put_head.new.out) (text_of_lines ls)) c.in_ok-put_head.ensures.ok in
    c.make_under_law.ensures.told (g.S.Sink.taken c.args.out.now) (head_whole m o claim (g.S.Sink.taken c.args.out.now) (g.S.Sink.taken c.put_head.new.out) whole)
