use Rattle.std.proofs.Common.{refl}
use Rattle.shard_core.specs.Stands.{Suited}
use Rattle.pass_ends.specs.Passes.{pass_of}
use Rattle.pass_run.proofs.Playing.{are_held}
use Rattle.pass_run.proofs.Running.{turned}
use Rattle.pass_run.proofs.in_order.run_shards_in_order.Goals as goal

pub turn_in_order-shards-requires-after_bounds : goal.turn_in_order-shards-requires-after_bounds
turn_in_order-shards-requires-after_bounds g c κs within =
    let some = c.requires.may.options_fit.some_workers in
    let p = pass_of c.args.model.now c.args.options.now c.args.share some in
    let suited : Suited p g.L.CostLaw.minimize g.L.CostLaw.operator g.K.Covers.prune g.K.Covers.minimize g.K.Covers.operator = record { law = c.requires.law; covering = c.requires.covering; prune_is = c.requires.prune } in
    are_held p g.L.CostLaw.minimize g.L.CostLaw.operator g.K.Covers.prune g.K.Covers.minimize g.K.Covers.operator suited c.args.board.now c.in-Ok.begun.boxes c.in-Ok.begun.shards.items (c.in-Ok.ensures.begun some).keep

pub end_pass-over-requires-clause-begun : goal.end_pass-over-requires-clause-begun
end_pass-over-requires-clause-begun g c =
    let some = c.requires.may.options_fit.some_workers in
    let p = pass_of c.args.model.now c.args.options.now c.args.share some in
    let suited : Suited p g.L.CostLaw.minimize g.L.CostLaw.operator g.K.Covers.prune g.K.Covers.minimize g.K.Covers.operator = record { law = c.requires.law; covering = c.requires.covering; prune_is = c.requires.prune } in
    let b = c.in-Ok.begun in (
      p,
      c.args.seat.now.view,
      c.requires.law,
      refl,
      turned p c.args.board.now c.args.options.now.budget b.before c.args.seat.now.view c.begin_pass.new.seat b.shards.items b.boxes b.room (c.in-Ok.ensures.begun some)
          g.L.CostLaw.minimize g.L.CostLaw.operator g.K.Covers.prune g.K.Covers.minimize g.K.Covers.operator suited c.turn_in_order-shards.result.items c.turn_in_order-shards.ensures.stay,
    )

pub returns-in-Ok-clause-answer : goal.returns-in-Ok-clause-answer
returns-in-Ok-clause-answer g c = λ some.
    let p = pass_of c.args.model.now c.args.options.now c.args.share some in
    let suited : Suited p g.L.CostLaw.minimize g.L.CostLaw.operator g.K.Covers.prune g.K.Covers.minimize g.K.Covers.operator = record { law = c.requires.law; covering = c.requires.covering; prune_is = c.requires.prune } in
    let b = c.in-Ok.begun in
    c.end_pass-over.ensures.answer p c.args.seat.now.view c.requires.law refl
    (turned p c.args.board.now c.args.options.now.budget b.before c.args.seat.now.view c.begin_pass.new.seat b.shards.items b.boxes b.room (c.in-Ok.ensures.begun some)
    g.L.CostLaw.minimize g.L.CostLaw.operator g.K.Covers.prune g.K.Covers.minimize g.K.Covers.operator suited c.turn_in_order-shards.result.items c.turn_in_order-shards.ensures.stay)
