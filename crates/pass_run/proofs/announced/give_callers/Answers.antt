use Rattle.std.proofs.Common.{List, refl, sym, subst, ◌∙◌, arith}
use Rattle.std.proofs.lemmas.Option.{slice_get_within}
use Rattle.announcer.specs.Ends.{CallerFacts}
use Rattle.pass_run.proofs.Callers.{AreGiven, all_call, given_at, keep_given}
use Rattle.pass_run.proofs.announced.give_callers.Goals as goal

pub loop-caller-init : goal.loop-caller-init
loop-caller-init g c =
    let same = sym c.into_list-callers.ensures in
    subst (λ (left : List CallerFacts). AreGiven c.args.queue.now c.args.callers left c.args.shards.items c.args.shards.items) same
    (record {
      begins = λ i x at. at;
      long = refl;
      few = (let a = c.requires.new.all in let b = c.requires.long in omega (arith, a, b));
      same = λ i s lt at. at;
      each = λ i s x le at here. absurd (let w = slice_get_within c.args.callers i x here in omega (arith, w, le));
    })

pub loop-caller-preserved : goal.loop-caller-preserved
loop-caller-preserved g c =
    given_at c.args.queue.now c.args.callers c.loop-caller.callers.items c.pop.new.self.items c.args.shards.items c.loop-caller.shards.items c.in-Some.caller c.len.result c.index_mut.result.now c.give.new.seated
    c.loop-caller.invariant c.in-Some.ensures.items (c.len.ensures ∙ c.pop.new.self.ok.0) c.index_mut.ensures.value
    (record { calling = record { queue = c.args.queue; caller = c.in-Some.caller }; queue_is = refl; caller_is = refl; seated_is = c.give.ensures })

pub returns-clause-keep : goal.returns-clause-keep
returns-clause-keep g c = λ p board boxes keep.
    let long = c.loop-caller.callers.ok.0 in
    let none = c.in_default.ensures.cases.0 in
    keep_given c.args.queue.now c.args.callers c.loop-caller.callers.items c.args.shards.items c.loop-caller.shards.items (omega (arith, long, none)) c.requires.new c.requires.long c.loop-caller.invariant p board boxes keep

pub returns-clause-queue : goal.returns-clause-queue
returns-clause-queue g c =
    let long = c.loop-caller.callers.ok.0 in
    let none = c.in_default.ensures.cases.0 in
    all_call c.args.queue.now c.args.callers c.loop-caller.callers.items c.args.shards.items c.loop-caller.shards.items (omega (arith, long, none)) c.requires.new c.requires.long c.loop-caller.invariant
