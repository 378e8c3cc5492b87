use Rattle.std.proofs.Common.{List, ℕ, [], ◌∷◌, ◌++◌, length, ap, subst, ◌∙◌, arith}
use Rattle.path_log.specs.Paths.{Log}
use Rattle.shard_core.specs.Calls.{IsEnd}
use Rattle.shard_core.specs.declared.shard.ShardEnd.{ShardEnd}
use Rattle.pass_alone.specs.declared.room.Room.{Room}
use Rattle.pass_alone.proofs.Overs.{has_left}
use Rattle.pass_alone.proofs.room.leave.Goals as goal

pub push_reserved-requires : goal.push_reserved-requires
push_reserved-requires g c =
    let none = ap (λ (xs : List ShardEnd). length xs) c.requires.no_ends in
    let room = c.requires.ends_room in
    omega (arith, none, room)

pub push_reserved-requires-2 : goal.push_reserved-requires-2
push_reserved-requires-2 g c =
    let none = ap (λ (xs : List Log). length xs) c.requires.no_logs in
    let room = c.requires.logs_room in
    omega (arith, none, room)

pub returns : goal.returns
returns g c = λ p board end seat l.
    let r = l.stops.shard_record in
    let x = c.end-log.result in
    let room : Room = record { ends = c.push_reserved.new.self; logs = c.push_reserved-2.new.self } in
    has_left p board end c.args.shard seat l room x.0 x.1 (c.push_reserved.ensures.items ∙ ap (λ (xs : List ShardEnd). xs ++ x.0 ∷ []) c.requires.no_ends) (c.push_reserved-2.ensures.items ∙ ap (λ (xs : List Log). xs ++ x.1 ∷ []) c.requires.no_logs)
    (subst (λ (i : ℕ). IsEnd p i r x.0 x.1) (c.let_go.ensures.me ∙ l.first) (c.end-log.ensures p r (c.let_go.ensures.ends p r l.stops.ends)))
