use Rattle.std.proofs.Common.{◌≡◌, [], inr, refl, sym, ◌∙◌, ap, arith, rules}
use Rattle.state_layout.specs.Signatures.{owner_of}
use Rattle.state_layout.specs.declared.node.Node.{Node}
use Rattle.shard_core.proofs.Posts.{first_fits, first_few, posted_state, posted_next, still, quiet, not_quiet_mark}
use Rattle.shard_core.proofs.Tells.{empty_of}
use Rattle.shard_core.proofs.Visits.{first_is}
use Rattle.shard_core.proofs.shard.Shard.next_letter.Goals as goal

pub counted_receiver-to-requires-clause-node : goal.counted_receiver-to-requires-clause-node
counted_receiver-to-requires-clause-node g c =
    first_fits c.requires.0 c.args.self.now c.requires.1 c.requires.2 c.get.result.now c.pop_front.new.self.items (first_is c.pop_front.new.self.items c.in-Some.ensures.items c.get.ensures)

pub counted_receiver-to-requires-clause-few : goal.counted_receiver-to-requires-clause-few
counted_receiver-to-requires-clause-few g c =
    first_few c.requires.0 c.args.self.now c.requires.1 c.requires.2 c.get.result.now c.pop_front.new.self.items (first_is c.pop_front.new.self.items c.in-Some.ensures.items c.get.ensures)

pub returns-in-Some-clause-posted : goal.returns-in-Some-clause-posted
returns-in-Some-clause-posted g c = λ p r st.
    posted_state p c.args.self.now r st c.in-Some.node c.pop_front.new.self.items c.in-Some.ensures.items c.pop_front.new.self refl c.counted_receiver-to.result
    (c.counted_receiver-to.ensures.to ∙ ap (λ (n : Node). owner_of c.args.self.now.layout n.state c.args.self.now.shards) c.get.ensures) c.counted_receiver-to.new.sent c.counted_receiver-to.ensures.sent

pub returns-then-self-clause-quiet : goal.returns-then-self-clause-quiet
returns-then-self-clause-quiet g c = λ p r st.
    let none : c.args.self.now.letters.items ≡ [] = search rules in
    let told = c.if-self.true in
    let shards = st.belongs.shards_are in
    (quiet p c.args.self.now r st none (inr (omega (arith, told, shards))), still p c.args.self.now r st c.pop_front.new.self (sym c.in_default.ensures.items))

pub returns-clause-posted : goal.returns-clause-posted
returns-clause-posted g c = λ p r st.
    let none = empty_of c.args.self.now.letters.items (search rules) in
    let told = c.if-self.false in
    let shards = st.belongs.shards_are in
    posted_next p c.args.self.now r st none (empty_of c.args.self.now.waiting.items (search rules)) (omega (arith, told, shards)) c.pop_front.new.self (sym c.in_default.ensures.items ∙ none) c.count_of.result (search rules)

pub returns-clause-loud : goal.returns-clause-loud
returns-clause-loud g c = λ p r st q.
    let told = c.if-self.false in
    let shards = st.belongs.shards_are in
    absurd (not_quiet_mark p c.args.self.now r st (empty_of c.args.self.now.waiting.items (search rules)) (omega (arith, told, shards)) q)
