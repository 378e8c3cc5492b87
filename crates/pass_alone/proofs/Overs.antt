-- A pass of one shard begins, and is over.
use Rattle.std.proofs.Common.{◌≡◌, ℕ, ◌^◌, ◌<◌, ◌≤◌, zero, suc, List, [], ◌∷◌, length, slice_get, Option, Some, ℤ, inl, refl, sym, ap, subst, ◌∙◌, arith}
use Rattle.board_words.specs.Seats.{BoardFacts, SeatFacts, IsSeatOf}
use Rattle.announce_laws.proofs.Calls.{solved}
use Rattle.announce_laws.specs.Called.{AreCalled, IsSolved, WasHeld}
use Rattle.board_words.specs.Steps.{after_join, best_known, split_view}
use Rattle.board_words.specs.declared.seat.View.{View}
use Rattle.dp_model.specs.declared.answers.Options.{Options}
use Rattle.dp_model.specs.declared.whole.Model.{Model}
use Rattle.pass_ends.specs.Passes.{pass_of}
use Rattle.pass_ledger.specs.Events.{fresh}
use Rattle.pass_ledger.specs.Letters.{of}
use Rattle.dp_claims.specs.Enough.{Has}
use Rattle.pass_ledger.specs.Passes.{Pass}
use Rattle.pass_ledger.specs.Records.{IsPrefix, Own, record_of, Starts}
use Rattle.pass_ledger.specs.declared.records.ShardRecord.{ShardRecord}
use Rattle.shard_seats.proofs.Sitting.{sits_fresh}
use Rattle.pass_over.specs.Lefts.{HaveLeft, IsOver}
use Rattle.pass_over.proofs.Telling.{is_best}
use Rattle.pass_over.proofs.Starting.{starts_owner}
use Rattle.path_log.specs.Paths.{Log}
use Rattle.shard_core.specs.Calls.{IsEnd, IsQuiet}
use Rattle.shard_core.specs.Stands.{Stands}
use Rattle.shard_core.specs.declared.shard.Shard.{Shard}
use Rattle.shard_core.specs.declared.shard.ShardEnd.{ShardEnd}
use Rattle.joined_seats.specs.Joined.{with_less}
use Rattle.shard_seats.specs.Seats.{Sat}
use Rattle.shard_seats.specs.declared.ended.Ended.{Ended}
use Rattle.solve_start.specs.Targets.{IsTarget}
use Rattle.solve_start.specs.declared.starts.Target.{Target}
use Rattle.state_layout.specs.declared.node.Node.{Node}
use Rattle.pass_alone.specs.Alone.{Leaves, Rests}
use Rattle.pass_alone.specs.Parts.{HasLeft}
use Rattle.pass_alone.specs.Stages.{IsPlayed}
use Rattle.pass_alone.specs.declared.pass.Played.{Played}
use Rattle.pass_alone.specs.declared.room.Room.{Room}
use Rattle.pass_alone.proofs.Turns.{first_shard, one_shard}

-- ---- the beginning

fresh_quiet : (p : Pass) (start : Option Node) → IsQuiet p 0 (fresh p.shards start)
fresh_quiet p start = record { sent = refl; marks = inl refl }

-- the shard that starts with the target's node
pub starts_first : (m : Model) (options : Options) (share : ℕ) (some : 1 ≤ options.workers) (t : Target) → IsTarget m options t → options.workers ≡ 1 → Starts (pass_of m options share some) 0 (Some t.node)
starts_first m options share some t is one =
    let p = pass_of m options share some in
    starts_owner m options share some t is 0 (Some t.node) (owns (p.owner t.node.state) t.owner options.workers (p.owned t.node.state) one is.owner) refl
  where
    owns : (a b n : ℕ) → a < n → n ≡ 1 → b ≡ a → 0 ≡ b
    owns a b n lt e same = omega (arith, lt, e, same)

pub begins_rest : {A B : Type 0} (p : Pass) (board : BoardFacts) (budget : ℕ) (was : View) (s : Shard A B) (seat : SeatFacts) (start : Option Node) → p.shards ≡ 1 → s.me ≡ 0 → Stands p s (fresh p.shards start) → board.limit ≡ budget → budget ≤ 2 ^ 40 → was.limit ≡ board.limit
    → IsSeatOf board seat → seat.view ≡ split_view was → Rests p board budget s seat
begins_rest p board budget was s seat start alone me stands limit small seen on e = record {
  acts = record {
    goes = record { shard_record = fresh p.shards start; stands = stands; alone = alone; arrived = refl };
    first = me;
    on_board = on;
    small = omega (arith, limit, small);
    sits = sits_fresh p budget was seat.view start e (seen ∙ limit);
  };
  quiet = fresh_quiet p start;
}

-- ---- the end

one_at : {T : Type 0} (x y : T) (i : ℕ) → slice_get (x ∷ []) i ≡ Some y → (i ≡ 0) × (x ≡ y)
one_at x y zero at = (refl, cc)
one_at x y (suc i) at = absurd (cc)

module _ {A B : Type 0} (p : Pass) (board : BoardFacts) (end : Ended) (s : Shard A B) (seat : SeatFacts) (l : Leaves p board end s seat) where
  abbrev r : ShardRecord
  r = l.stops.shard_record

  own : Own p 0 r
  own = subst (λ (i : ℕ). Own p i r) l.first l.stops.ends.1.own

  -- what the shard left when it was taken apart
  abbrev have_left_one : (ends : List ShardEnd) (logs : List Log) (e : ShardEnd) (log : Log) → ends ≡ e ∷ [] → logs ≡ log ∷ [] → IsEnd p 0 r e log → HaveLeft p (seat ∷ []) ends logs
  have_left_one ends logs e log ends_are logs_are is = record {
    records = r ∷ [];
    long = sym l.stops.alone;
    seats_long = sym l.stops.alone;
    together = record {
      own = λ i li. subst (λ (k : ℕ). Own p k (record_of (r ∷ []) k)) (sym (first_shard p.shards i l.stops.alone li)) own;
      prefix = λ i j li lj.
          subst (λ (k : ℕ). IsPrefix (of (record_of (r ∷ []) k).received j) (of (record_of (r ∷ []) j).posted k)) (sym (first_shard p.shards i l.stops.alone li))
          (subst (λ (k : ℕ). IsPrefix (of r.received k) (of (record_of (r ∷ []) k).posted 0)) (sym (first_shard p.shards j l.stops.alone lj)) l.stops.begun);
    };
    handed = record {
      ends_long = ap (λ (xs : List ShardEnd). length xs) ends_are ∙ sym l.stops.alone;
      logs_long = ap (λ (xs : List Log). length xs) logs_are ∙ sym l.stops.alone;
      each = λ i e' log' at here.
          let x = one_at e e' i (ap (λ (xs : List ShardEnd). slice_get xs i) (sym ends_are) ∙ at) in
          let y = one_at log log' i (ap (λ (xs : List Log). slice_get xs i) (sym logs_are) ∙ here) in
          subst (λ (k : ℕ). IsEnd p k (record_of (r ∷ []) k) e' log') (sym x.0)
          (subst (λ (z : ShardEnd). IsEnd p 0 r z log') x.1 (subst (λ (z : Log). IsEnd p 0 r e z) y.1 is));
    };
    sat = λ i x at.
        let z = one_at seat x i at in
        (end, subst (λ (k : ℕ). Sat p k end x.view (record_of (r ∷ []) k)) (sym z.0) (subst (λ (y : SeatFacts). Sat p 0 end y.view r) z.1 l.sat));
  }

  pub has_left : (room : Room) (e : ShardEnd) (log : Log) → room.ends.items ≡ e ∷ [] → room.logs.items ≡ log ∷ [] → IsEnd p 0 r e log → HasLeft p r seat room
  has_left room e log ends_are logs_are is = record { left = have_left_one room.ends.items room.logs.items e log ends_are logs_are is; records_are = refl }

-- ---- the seat is joined again

module _ (p : Pass) (board : BoardFacts) (budget : ℕ) (was : View) (seat : SeatFacts) (played : Played) (d : IsPlayed p board budget was seat played) (after : View) (joins : after ≡ after_join seat.view played.own.view) where
  abbrev pub is_over : IsOver p budget played.before was after (played.own ∷ []) played.room.ends.items played.room.logs.items
  is_over = record {
    inner = d.split.inner;
    begun = d.split.before;
    view_is = joins ∙ (ap (λ (v : View). after_join v played.own.view) d.split.split ∙ sym (ap (λ (n : ℕ). after_join (with_less was n) played.own.view) d.split.alone));
    left = d.left.left;
  }

  -- the costs that are known of the shard's record are those of legal lists
  pub all_solved : (costs : List ℤ) → AreCalled p 0 d.shard_record costs → (c : ℤ) → Has costs c → IsSolved p (best_known after) c
  all_solved costs all c has =
      let left = d.left.left in
      let same : record_of left.records 0 ≡ d.shard_record = ap (λ (rs : List ShardRecord). record_of rs 0) d.left.records_are in
      solved p left.records (best_known was) (best_known after) left.together (is_best p budget played.before was after (played.own ∷ []) played.room.ends.items played.room.logs.items is_over) 0 (one_shard p.shards d.split.alone) c
      (subst (λ (r : ShardRecord). WasHeld p 0 r c) (sym same) (all c has))
