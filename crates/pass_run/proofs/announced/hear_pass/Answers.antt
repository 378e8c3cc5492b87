use Rattle.std.proofs.Common.{refl, ◌∙◌, sym}
use Rattle.shard_core.specs.Stands.{Suited}
use Rattle.pass_ends.specs.Passes.{pass_of}
use Rattle.pass_run.proofs.Playing.{are_held, call_still}
use Rattle.pass_run.proofs.Running.{regrouped, turned}
use Rattle.pass_run.proofs.announced.hear_pass.Goals as goal

pub give_callers-shards-requires-clause-long : goal.give_callers-shards-requires-clause-long
give_callers-shards-requires-clause-long g c = (c.in-Ok.ensures.begun c.requires.may.options_fit.some_workers).keep.long ∙ sym c.requires.senders

pub turn_and_announce-told-requires-clause-players : goal.turn_and_announce-told-requires-clause-players
turn_and_announce-told-requires-clause-players g c κs within =
    let some = c.requires.may.options_fit.some_workers in
    let p = pass_of c.args.model.now c.args.options.now c.args.share some in
    let suited : Suited p g.L.CostLaw.minimize g.L.CostLaw.operator g.K.Covers.prune g.K.Covers.minimize g.K.Covers.operator = record { law = c.requires.law; covering = c.requires.covering; prune_is = c.requires.prune } in
    let b = c.in-Ok.begun in
    let begun = c.in-Ok.ensures.begun some in
    let given = c.give_callers-shards in
    let keep = given.ensures.keep p c.args.board.now b.boxes.items begun.keep in
    are_held p g.L.CostLaw.minimize g.L.CostLaw.operator g.K.Covers.prune g.K.Covers.minimize g.K.Covers.operator suited c.args.board.now b.boxes given.result.items keep

pub end_pass-over-requires-clause-begun : goal.end_pass-over-requires-clause-begun
end_pass-over-requires-clause-begun g c =
    let some = c.requires.may.options_fit.some_workers in
    let p = pass_of c.args.model.now c.args.options.now c.args.share some in
    let suited : Suited p g.L.CostLaw.minimize g.L.CostLaw.operator g.K.Covers.prune g.K.Covers.minimize g.K.Covers.operator = record { law = c.requires.law; covering = c.requires.covering; prune_is = c.requires.prune } in
    let b = c.in-Ok.begun in
    let begun = c.in-Ok.ensures.begun some in
    let given = c.give_callers-shards in
    let keep = given.ensures.keep p c.args.board.now b.boxes.items begun.keep in
    let group = regrouped p c.args.board.now c.args.options.now.budget b.before c.args.seat.now.view c.begin_pass.new.seat b.shards.items b.boxes b.room begun given.result.items keep in
    let turn = c.turn_and_announce-told in
    let after = turned p c.args.board.now c.args.options.now.budget b.before c.args.seat.now.view c.begin_pass.new.seat given.result.items b.boxes b.room group g.L.CostLaw.minimize g.L.CostLaw.operator g.K.Covers.prune g.K.Covers.minimize g.K.Covers.operator suited turn.new.shards.items turn.ensures.stay in
    (p, c.args.seat.now.view, c.requires.law, refl, after)

pub returns-in-Ok-clause-answer : goal.returns-in-Ok-clause-answer
returns-in-Ok-clause-answer g c = λ some.
    let p = pass_of c.args.model.now c.args.options.now c.args.share some in
    let suited : Suited p g.L.CostLaw.minimize g.L.CostLaw.operator g.K.Covers.prune g.K.Covers.minimize g.K.Covers.operator = record { law = c.requires.law; covering = c.requires.covering; prune_is = c.requires.prune } in
    let b = c.in-Ok.begun in
    let begun = c.in-Ok.ensures.begun some in
    let given = c.give_callers-shards in
    let keep = given.ensures.keep p c.args.board.now b.boxes.items begun.keep in
    let group = regrouped p c.args.board.now c.args.options.now.budget b.before c.args.seat.now.view c.begin_pass.new.seat b.shards.items b.boxes b.room begun given.result.items keep in
    let turn = c.turn_and_announce-told in
    let after = turned p c.args.board.now c.args.options.now.budget b.before c.args.seat.now.view c.begin_pass.new.seat given.result.items b.boxes b.room group g.L.CostLaw.minimize g.L.CostLaw.operator g.K.Covers.prune g.K.Covers.minimize g.K.Covers.operator suited turn.new.shards.items turn.ensures.stay in (
      c.end_pass-over.ensures.answer p c.args.seat.now.view c.requires.law refl after,
      c.end_pass-over.ensures.called p c.args.seat.now.view c.args.queue.now after
          (call_still p g.L.CostLaw.minimize g.L.CostLaw.operator g.K.Covers.prune g.K.Covers.minimize g.K.Covers.operator suited c.args.board.now b.boxes c.args.queue.now given.result.items turn.new.shards.items keep turn.ensures.stay given.ensures.queue),
    )
