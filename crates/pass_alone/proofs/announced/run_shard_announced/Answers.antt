use Rattle.std.proofs.Common.{ℕ, refl, subst, sym, arith}
use Rattle.pass_ends.specs.Passes.{pass_of}
use Rattle.pass_over.proofs.Looked.{ends_silent}
use Rattle.shard_core.specs.Stands.{Suited}
use Rattle.pass_alone.specs.Alone.{Tells}
use Rattle.pass_alone.specs.Stages.{IsBegun, IsPlayed}
use Rattle.pass_alone.proofs.Turns.{tells_first}
use Rattle.pass_alone.proofs.announced.run_shard_announced.Goals as goal

pub play_and_look-played-requires : goal.play_and_look-played-requires
play_and_look-played-requires g c =
    let some = c.requires.may.options_fit.some_workers in
    let p = pass_of c.args.model.now c.args.options.now c.args.share some in
    let suited : Suited p g.L.CostLaw.minimize g.L.CostLaw.operator g.K.Covers.prune g.K.Covers.minimize g.K.Covers.operator = record { law = c.requires.law; covering = c.requires.covering; prune_is = c.requires.prune } in
    let begun = subst (λ (n : ℕ). IsBegun p c.args.board.now n c.args.seat.now.view c.begin.new.seat c.in-Ok.begun) (sym c.budget.ensures) (c.in-Ok.ensures.begun some) in
    let bytes = g.S.Sink.taken c.args.out.now in
    let faults = g.S.Sink.faults c.args.out.now in
    (p, suited, c.args.seat.now.view, c.begin.new.seat, begun, c.args.last, bytes, faults, tells_first p c.minimize-minimize.result c.args.last bytes faults begun.rests.acts.goes.shard_record)

pub end_pass-end-requires : goal.end_pass-end-requires
end_pass-end-requires g c =
    let some = c.requires.may.options_fit.some_workers in
    let p = pass_of c.args.model.now c.args.options.now c.args.share some in
    let suited : Suited p g.L.CostLaw.minimize g.L.CostLaw.operator g.K.Covers.prune g.K.Covers.minimize g.K.Covers.operator = record { law = c.requires.law; covering = c.requires.covering; prune_is = c.requires.prune } in
    let begun = subst (λ (n : ℕ). IsBegun p c.args.board.now n c.args.seat.now.view c.begin.new.seat c.in-Ok.begun) (sym c.budget.ensures) (c.in-Ok.ensures.begun some) in
    let bytes = g.S.Sink.taken c.args.out.now in
    let faults = g.S.Sink.faults c.args.out.now in
    let x = c.play_and_look-played.ensures p suited c.args.seat.now.view c.begin.new.seat begun c.args.last bytes faults (tells_first p c.minimize-minimize.result c.args.last bytes faults begun.rests.acts.goes.shard_record) in
    (p, c.args.seat.now.view, c.requires.law, refl, subst (λ (n : ℕ). IsPlayed p c.args.board.now n c.args.seat.now.view c.begin.new.seat c.play_and_look-played.result) c.budget.ensures x.0)

pub look_last-requires : goal.look_last-requires
look_last-requires g c =
    let some = c.requires.may.options_fit.some_workers in
    let p = pass_of c.args.model.now c.args.options.now c.args.share some in
    let suited : Suited p g.L.CostLaw.minimize g.L.CostLaw.operator g.K.Covers.prune g.K.Covers.minimize g.K.Covers.operator = record { law = c.requires.law; covering = c.requires.covering; prune_is = c.requires.prune } in
    let begun = subst (λ (n : ℕ). IsBegun p c.args.board.now n c.args.seat.now.view c.begin.new.seat c.in-Ok.begun) (sym c.budget.ensures) (c.in-Ok.ensures.begun some) in
    let bytes = g.S.Sink.taken c.args.out.now in
    let faults = g.S.Sink.faults c.args.out.now in
    let x = c.play_and_look-played.ensures p suited c.args.seat.now.view c.begin.new.seat begun c.args.last bytes faults (tells_first p c.minimize-minimize.result c.args.last bytes faults begun.rests.acts.goes.shard_record) in
    let small = x.1.small in
    omega (arith, small)

pub returns-in-Ok-clause-answer : goal.returns-in-Ok-clause-answer
returns-in-Ok-clause-answer g c = λ some.
    let p = pass_of c.args.model.now c.args.options.now c.args.share some in
    let suited : Suited p g.L.CostLaw.minimize g.L.CostLaw.operator g.K.Covers.prune g.K.Covers.minimize g.K.Covers.operator = record { law = c.requires.law; covering = c.requires.covering; prune_is = c.requires.prune } in
    let begun = subst (λ (n : ℕ). IsBegun p c.args.board.now n c.args.seat.now.view c.begin.new.seat c.in-Ok.begun) (sym c.budget.ensures) (c.in-Ok.ensures.begun some) in
    let bytes = g.S.Sink.taken c.args.out.now in
    let faults = g.S.Sink.faults c.args.out.now in
    let made = c.play_and_look-played in
    let x = made.ensures p suited c.args.seat.now.view c.begin.new.seat begun c.args.last bytes faults (tells_first p c.minimize-minimize.result c.args.last bytes faults begun.rests.acts.goes.shard_record) in
    let y = subst (λ (n : ℕ). (d : IsPlayed p c.args.board.now n c.args.seat.now.view c.begin.new.seat made.result) × Tells p c.minimize-minimize.result c.args.last bytes (g.S.Sink.taken made.new.out) faults (g.S.Sink.faults made.new.out) made.new.told d.shard_record) c.budget.ensures x in
    let end = c.end_pass-end in
    c.look_last.ensures p c.args.seat.now.view end.new.seat.view c.args.last y.1.costs bytes faults (end.ensures.answer p c.args.seat.now.view c.requires.law refl y.0)
    (λ x has. end.ensures.solved p c.args.seat.now.view y.0 y.1.costs y.1.known x has) c.minimize-minimize.ensures y.1.looked

pub returns-in-Err-clause-answer : goal.returns-in-Err-clause-answer
returns-in-Err-clause-answer g c = λ some.
    let bytes = g.S.Sink.taken c.args.out.now in
    let faults = g.S.Sink.faults c.args.out.now in
    ends_silent (pass_of c.args.model.now c.args.options.now c.args.share some) c.args.seat.now.view c.begin.new.seat.view c.args.last bytes bytes faults faults c.in-Err.end c.silent.result c.silent.ensures
    (c.in-Err.ensures.answer some) c.in-Err.ensures.memory refl refl
