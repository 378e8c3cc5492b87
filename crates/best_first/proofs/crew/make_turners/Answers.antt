use Rattle.std.proofs.Common.{◌≡◌, ◌<◌, ℕ, ◌∷◌, drop, length, slice_get, None, refl, sym, ap, subst, ◌∙◌, arith}
use Rattle.std.proofs.lemmas.List.{length-drop}
use Rattle.best_turns.specs.declared.turner.BestTurner.{BestTurner}
use Rattle.best_ledger.specs.Searches.{pass_of, search_of}
use Rattle.best_first.specs.Crews.{AreFresh}
use Rattle.best_first.proofs.Fresh.{fresh_more, is_fresh}
use Rattle.best_first.proofs.Places.{at_drop, drop_next}
use Rattle.best_first.proofs.crew.make_turners.Goals as goal
use Rattle.best_first.proofs.crew.make_turners.Goals.{in_default-via-in-Some+in_default, in_default-via-in_default}

pub loop-number-preserved : goal.loop-number-preserved
loop-number-preserved g c =
    let n = c.loop-number.number in
    let o = c.args.options.now in
    let takers : drop n c.args.takers.items ≡ c.in-Some-Some.taker ∷ c.pop_front.new.self.items = sym c.loop-number.invariant.takers ∙ c.in-Some-Some.ensures.items in
    let posters : drop n c.args.posters.items ≡ c.in-Some-Some.posters ∷ c.pop_front-in-loop-number.new.self.items = sym c.loop-number.invariant.posters ∙ c.in-Some-Some.ensures'.items in
    let t : BestTurner g.row.L.Denot g.row.K.Denot = record { shard = c.in_ok-shard.shard; taker = c.in-Some-Some.taker; posters = c.in-Some-Some.posters; budget = c.budget.result; turns = 0; letters = 0; ended = None } in
    record {
      fresh = λ some mails same_takers same_posters h.
          let p = pass_of (search_of c.args.model.now o some) in
          let made = c.in_ok-shard.ensures some in
          fresh_more p o.budget mails.boxes.items n c.loop-number.turners.items c.push.new.self.items t (c.loop-number.invariant.fresh some mails same_takers same_posters h) c.in_ok-push.ensures.items
          (is_fresh p o.budget mails n t made.1 h (let a = c.loop-number-test.true in let b = c.workers-number-end.ensures in omega (arith, a, b))
          (ap (λ xs. slice_get xs n) same_takers ∙ at_drop c.args.takers.items n c.in-Some-Some.taker c.pop_front.new.self.items takers)
          (ap (λ xs. slice_get xs n) same_posters ∙ at_drop c.args.posters.items n c.in-Some-Some.posters c.pop_front-in-loop-number.new.self.items posters)
          made.2 made.0 refl c.budget.ensures);
      takers = sym (drop_next c.args.takers.items n c.in-Some-Some.taker c.pop_front.new.self.items takers);
      posters = sym (drop_next c.args.posters.items n c.in-Some-Some.posters c.pop_front-in-loop-number.new.self.items posters);
    }

pub returns : goal.returns
returns g c =
    let all : c.loop-number.number ≡ c.args.options.now.workers = (let a = c.loop-number-test.false in let b = c.loop-number.auto.number-end in let d = c.workers-number-end.ensures in omega (arith, a, b, d)) in
    λ some mails takers posters h.
    subst (λ (n : ℕ). AreFresh (pass_of (search_of c.args.model.now c.args.options.now some)) c.args.options.now.budget mails.boxes.items n c.loop-number.turners.items) all
    (c.loop-number.invariant.fresh some mails takers posters h)

-- there is a taker and a list of posters for each number
pub unreachable-requires : goal.unreachable-requires
unreachable-requires g c =
    let n = c.loop-number.number in
    let below : n < c.args.options.now.workers = (let a = c.loop-number-test.true in let b = c.loop-number.auto.number-end in let d = c.workers-number-end.ensures in omega (arith, a, b, d)) in
    let takers = ap length c.loop-number.invariant.takers ∙ length-drop n c.args.takers.items in
    let posters = ap length c.loop-number.invariant.posters ∙ length-drop n c.args.posters.items in
    let all_takers = c.requires.takers in
    let all_posters = c.requires.posters in
    let takers_fit = c.loop-number.takers.ok.0 in
    let posters_fit = c.loop-number.posters.ok.0 in
    elim c.in_default.branch [
      | in_default-via-in-Some+in_default w ↦ (let none = w.in_default.ensures'.cases.0 in omega (arith, below, posters, all_posters, posters_fit, none))
      | in_default-via-in_default w ↦ (let none = w.in_default.ensures-1.cases.0 in omega (arith, below, takers, all_takers, takers_fit, none))
    ]
