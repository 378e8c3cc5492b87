-- The shards of a pass as players: what they are held to, and that it is kept while they turn.
use Rattle.std.proofs.Common.{◌≡◌, ℕ, Bool, List, slice_get, Some, refl, ◌∙◌}
use Rattle.board_words.specs.Seats.{BoardFacts}
use Rattle.dp_model.specs.declared.parts.JoinOp.{JoinOp}
use Rattle.pass_ledger.specs.Passes.{Pass}
use Rattle.shard_core.specs.Stands.{Suited}
use Rattle.shard_threads.specs.Players.{AllStay, AreHeld}
use Rattle.shard_threads.specs.declared.seated.Seated.{Seated}
use Rattle.shard_threads.proofs.Staying.{stay_at, stay_long}
use Rattle.announcer.specs.Ends.{QueueFacts}
use Rattle.shard_turns.specs.Calls.{queue_of}
use Rattle.shard_turns.specs.Plays.{Boxes, plays_by}
use Rattle.shard_turns.specs.declared.turner.Turner.{Turner}
use Rattle.pass_run.specs.Callers.{CallTo}
use Rattle.pass_run.specs.Crews.{KeepAll}

module _ {A B : Type 0} (p : Pass) (least : Bool) (join : JoinOp) (prune fewest : Bool) (other : JoinOp) (suited : Suited p least join prune fewest other) (board : BoardFacts) (boxes : Boxes) where
  pub are_held : (shards : List (Seated (Turner A B))) → KeepAll p board boxes.items shards → AreHeld (plays_by least join prune fewest other) board boxes shards
  are_held shards k i s at = ((p, i, queue_of s.player.calling), record { suited = suited; me = k.numbers i s at; queue_is = refl; keeps = k.each i s at })

  pub keep_still : (shards turned : List (Seated (Turner A B))) → KeepAll p board boxes.items shards → AllStay (plays_by least join prune fewest other) board boxes shards turned → KeepAll p board boxes.items turned
  keep_still shards turned k stay =
      let now = λ (i : ℕ) (s : Seated (Turner A B)) (at : slice_get turned i ≡ Some s).
      let was = stay_at (plays_by least join prune fewest other) board boxes shards turned stay i s at in
      was.2 (p, i, queue_of was.0.player.calling) (record { suited = suited; me = k.numbers i was.0 was.1; queue_is = refl; keeps = k.each i was.0 was.1 }) in
      record {
        boxes_long = k.boxes_long;
        long = stay_long (plays_by least join prune fewest other) board boxes shards turned stay ∙ k.long;
        numbers = λ i s at. (now i s at).me;
        each = λ i s at. (now i s at).keeps;
      }

  -- those that call to a queue still do
  pub call_still : (queue : QueueFacts) (shards turned : List (Seated (Turner A B))) → KeepAll p board boxes.items shards → AllStay (plays_by least join prune fewest other) board boxes shards turned → CallTo queue shards → CallTo queue turned
  call_still queue shards turned k stay call i s at =
      let was = stay_at (plays_by least join prune fewest other) board boxes shards turned stay i s at in
      (was.2 (p, i, queue_of was.0.player.calling) (record { suited = suited; me = k.numbers i was.0 was.1; queue_is = refl; keeps = k.each i was.0 was.1 })).queue_is ∙ call i was.0 was.1
