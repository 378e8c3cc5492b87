use Rattle.best_first.proofs.Playing.{are_held}
use Rattle.best_first.proofs.Running.{turned}
use Rattle.best_first.proofs.search.run_shards.Goals as goal
use Rattle.best_ledger.specs.Searches.{pass_of, search_of}
use Rattle.shard_core.specs.Stands.{Suited}

pub turn_shards-shards-requires-after_bounds : goal.turn_shards-shards-requires-after_bounds
turn_shards-shards-requires-after_bounds g c κs within =
    let some = c.requires.may.options_fit.some_workers in
    let p = pass_of (search_of c.args.model.now c.args.options.now some) in
    let suited : Suited p g.L.CostLaw.minimize g.L.CostLaw.operator g.K.Covers.prune g.K.Covers.minimize g.K.Covers.operator = record { law = c.requires.law; covering = c.requires.covering; prune_is = c.requires.prune } in
    are_held p g.L.CostLaw.minimize g.L.CostLaw.operator g.K.Covers.prune g.K.Covers.minimize g.K.Covers.operator suited c.args.board.now c.in-Ok.begun.boxes c.in-Ok.begun.shards.items (c.in-Ok.ensures.begun some).keep

pub end_search-requires-clause-begun : goal.end_search-requires-clause-begun
end_search-requires-clause-begun g c =
    let some = c.requires.may.options_fit.some_workers in
    let b = search_of c.args.model.now c.args.options.now some in
    let p = pass_of b in
    let suited : Suited p g.L.CostLaw.minimize g.L.CostLaw.operator g.K.Covers.prune g.K.Covers.minimize g.K.Covers.operator = record { law = c.requires.law; covering = c.requires.covering; prune_is = c.requires.prune } in
    let begun = c.in-Ok.begun in (
      b,
      c.args.seat.now.view,
      c.requires.law,
      turned p c.args.board.now c.args.options.now.budget begun.before c.args.seat.now.view c.begin_search.new.seat begun.shards.items begun.boxes begun.room (c.in-Ok.ensures.begun some)
          g.L.CostLaw.minimize g.L.CostLaw.operator g.K.Covers.prune g.K.Covers.minimize g.K.Covers.operator suited c.turn_shards-shards.result.0.items c.turn_shards-shards.ensures.stay,
    )

pub returns-in-Ok-clause-answer : goal.returns-in-Ok-clause-answer
returns-in-Ok-clause-answer g c = λ some.
    let b = search_of c.args.model.now c.args.options.now some in
    let p = pass_of b in
    let suited : Suited p g.L.CostLaw.minimize g.L.CostLaw.operator g.K.Covers.prune g.K.Covers.minimize g.K.Covers.operator = record { law = c.requires.law; covering = c.requires.covering; prune_is = c.requires.prune } in
    let begun = c.in-Ok.begun in
    c.end_search.ensures.answer b c.args.seat.now.view c.requires.law
    (turned p c.args.board.now c.args.options.now.budget begun.before c.args.seat.now.view c.begin_search.new.seat begun.shards.items begun.boxes begun.room (c.in-Ok.ensures.begun some)
    g.L.CostLaw.minimize g.L.CostLaw.operator g.K.Covers.prune g.K.Covers.minimize g.K.Covers.operator suited c.turn_shards-shards.result.0.items c.turn_shards-shards.ensures.stay)
