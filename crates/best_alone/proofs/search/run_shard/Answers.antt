use Rattle.std.proofs.Common.{ℕ, subst, sym}
use Rattle.best_ledger.specs.Searches.{pass_of, search_of}
use Rattle.shard_core.specs.Stands.{Suited}
use Rattle.best_alone.specs.Stages.{IsBegun, IsPlayed}
use Rattle.best_alone.proofs.search.run_shard.Goals as goal

pub play-played-requires : goal.play-played-requires
play-played-requires g c =
    let some = c.requires.may.options_fit.some_workers in
    let p = pass_of (search_of c.args.model.now c.args.options.now some) in
    let suited : Suited p g.L.CostLaw.minimize g.L.CostLaw.operator g.K.Covers.prune g.K.Covers.minimize g.K.Covers.operator = record { law = c.requires.law; covering = c.requires.covering; prune_is = c.requires.prune } in
    (p, suited, c.args.seat.now.view, c.begin.new.seat, subst (λ (n : ℕ). IsBegun p c.args.board.now n c.args.seat.now.view c.begin.new.seat c.in-Ok.begun) (sym c.budget.ensures) (c.in-Ok.ensures.begun some))

pub end_search-requires : goal.end_search-requires
end_search-requires g c =
    let some = c.requires.may.options_fit.some_workers in
    let b = search_of c.args.model.now c.args.options.now some in
    let p = pass_of b in
    let suited : Suited p g.L.CostLaw.minimize g.L.CostLaw.operator g.K.Covers.prune g.K.Covers.minimize g.K.Covers.operator = record { law = c.requires.law; covering = c.requires.covering; prune_is = c.requires.prune } in
    let begun = subst (λ (n : ℕ). IsBegun p c.args.board.now n c.args.seat.now.view c.begin.new.seat c.in-Ok.begun) (sym c.budget.ensures) (c.in-Ok.ensures.begun some) in
    let played = c.play-played.ensures p suited c.args.seat.now.view c.begin.new.seat begun in
    (b, c.args.seat.now.view, c.requires.law, subst (λ (n : ℕ). IsPlayed p c.args.board.now n c.args.seat.now.view c.begin.new.seat c.play-played.result) c.budget.ensures played)

pub returns-in-Ok-clause-answer : goal.returns-in-Ok-clause-answer
returns-in-Ok-clause-answer g c = λ some.
    let b = search_of c.args.model.now c.args.options.now some in
    let p = pass_of b in
    let suited : Suited p g.L.CostLaw.minimize g.L.CostLaw.operator g.K.Covers.prune g.K.Covers.minimize g.K.Covers.operator = record { law = c.requires.law; covering = c.requires.covering; prune_is = c.requires.prune } in
    let begun = subst (λ (n : ℕ). IsBegun p c.args.board.now n c.args.seat.now.view c.begin.new.seat c.in-Ok.begun) (sym c.budget.ensures) (c.in-Ok.ensures.begun some) in
    let played = c.play-played.ensures p suited c.args.seat.now.view c.begin.new.seat begun in
    c.end_search.ensures.answer b c.args.seat.now.view c.requires.law (subst (λ (n : ℕ). IsPlayed p c.args.board.now n c.args.seat.now.view c.begin.new.seat c.play-played.result) c.budget.ensures played)
