use Rattle.std.proofs.Common.{List, ℕ, [], ◌∷◌, ◌++◌, length, ap, subst, ◌∙◌, arith}
use Rattle.best_shard.specs.Calls.{IsEnd}
use Rattle.best_shard.specs.declared.shard.BestShardEnd.{BestShardEnd}
use Rattle.path_log.specs.Paths.{Log}
use Rattle.best_alone.proofs.Overs.{have_left}
use Rattle.best_alone.proofs.room.leave.Goals as goal

pub push_reserved-requires : goal.push_reserved-requires
push_reserved-requires g c =
    let none = ap (λ (xs : List BestShardEnd). length xs) c.requires.no_ends in
    let room = c.requires.ends_room in
    omega (arith, none, room)

pub push_reserved-requires-2 : goal.push_reserved-requires-2
push_reserved-requires-2 g c =
    let none = ap (λ (xs : List Log). length xs) c.requires.no_logs in
    let room = c.requires.logs_room in
    omega (arith, none, room)

pub returns : goal.returns
returns g c = λ p board end seat l.
    let r = l.shard_record in
    let x = c.end-log.result in
    have_left p board end c.args.shard seat l c.push_reserved.new.self.items c.push_reserved-2.new.self.items x.0 x.1 (c.push_reserved.ensures.items ∙ ap (λ (xs : List BestShardEnd). xs ++ x.0 ∷ []) c.requires.no_ends)
    (c.push_reserved-2.ensures.items ∙ ap (λ (xs : List Log). xs ++ x.1 ∷ []) c.requires.no_logs) (subst (λ (i : ℕ). IsEnd p i r x.0 x.1) l.first (c.end-log.ensures p r l.ends))
