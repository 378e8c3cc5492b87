use Rattle.std.proofs.Common.{◌≡◌, [], sym, ◌∙◌, rules}
use Rattle.best_shard.proofs.Posts.{posts, posts_none, none_holds}
use Rattle.best_shard.proofs.shard.BestShard.next_letter.Goals as goal

pub returns-clause-posted : goal.returns-clause-posted
returns-clause-posted g c = λ p r st. posts p c.args.self.now r st c.in_ok-to.field-0 c.pop_front.new.self c.in_ok-to.ensures.items

pub returns-in_err-to-clause-none : goal.returns-in_err-to-clause-none
returns-in_err-to-clause-none g c = λ p r st.
    let none : c.args.self.now.letters.items ≡ [] = search rules in
    none_holds c.from_residual.result (posts_none p c.args.self.now r st c.pop_front.new.self none (sym c.in_err-to.ensures.items ∙ none))
