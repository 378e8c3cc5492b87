-- A search by one shard begins, and is over.
use Rattle.std.proofs.Common.{◌≡◌, ℕ, ◌+◌, ◌^◌, ◌<◌, ◌≤◌, inl, inr, zero, suc, false, List, [], ◌∷◌, length, replicate, slice_get, Option, Some, refl, sym, ap, subst, ◌∙◌, arith}
use Rattle.best_ledger.specs.Events.{fresh}
use Rattle.best_ledger.specs.Histories.{came_from, to, visits_in}
use Rattle.best_ledger.specs.Records.{Done, IsPrefix, Own, record_of}
use Rattle.best_ledger.specs.Searches.{BestSearch, pass_of, search_of}
use Rattle.best_ledger.specs.declared.records.BestRecord.{BestRecord}
use Rattle.best_over.specs.Lefts.{HaveClosed, HaveHalted, HaveLeft, IsOver}
use Rattle.best_over.proofs.Starting.{starts_owner}
use Rattle.best_seats.specs.Seats.{Sat}
use Rattle.best_seats.specs.declared.ended.BestEnded.{BestEnded}
use Rattle.best_seats.proofs.Sitting.{sits_fresh}
use Rattle.best_shard.specs.Calls.{IsEnd}
use Rattle.best_shard.specs.Stands.{Stands}
use Rattle.best_shard.specs.declared.shard.BestShard.{BestShard}
use Rattle.best_shard.specs.declared.shard.BestShardEnd.{BestShardEnd}
use Rattle.board_words.specs.Seats.{BoardFacts, SeatFacts, IsSeatOf}
use Rattle.board_words.specs.Steps.{after_join, split_view}
use Rattle.board_words.specs.declared.seat.View.{View}
use Rattle.dp_model.specs.declared.answers.Options.{Options}
use Rattle.dp_model.specs.declared.whole.Model.{Model}
use Rattle.joined_seats.specs.Joined.{with_less}
use Rattle.pass_ledger.specs.Passes.{Pass}
use Rattle.pass_ledger.specs.Records.{Starts}
use Rattle.path_log.specs.Paths.{Log}
use Rattle.solve_start.specs.Targets.{IsTarget}
use Rattle.solve_start.specs.declared.starts.Target.{Target}
use Rattle.state_layout.specs.declared.node.Node.{Node}
use Rattle.best_alone.specs.Alone.{Acts, HasClosed, Leaves}
use Rattle.best_alone.specs.Stages.{IsPlayed}
use Rattle.best_alone.specs.declared.search.Played.{Played}
use Rattle.best_alone.proofs.Turns.{first_shard}

-- ---- the beginning

-- the shard that starts with the target's node
pub starts_first : (m : Model) (options : Options) (some : 1 ≤ options.workers) (t : Target) → IsTarget m options t → options.workers ≡ 1 → Starts (pass_of (search_of m options some)) 0 (Some t.node)
starts_first m options some t is one =
    let p = pass_of (search_of m options some) in
    starts_owner m options some t is 0 (Some t.node) (owns (p.owner t.node.state) t.owner options.workers (p.owned t.node.state) one is.owner) refl
  where
    owns : (a b n : ℕ) → a < n → n ≡ 1 → b ≡ a → 0 ≡ b
    owns a b n lt e same = omega (arith, lt, e, same)

none_posted : (shards : ℕ) → [] ≡ to (replicate shards []) 0
none_posted zero = refl
none_posted (suc n) = refl

pub begins_act : {A B : Type 0} (p : Pass) (board : BoardFacts) (budget : ℕ) (was : View) (s : BestShard A B) (seat : SeatFacts) (start : Option Node) → p.shards ≡ 1 → Stands p s (fresh p.shards start) → board.limit ≡ budget → budget ≤ 2 ^ 40 → was.limit ≡ board.limit
    → IsSeatOf board seat → seat.view ≡ split_view was → Acts p board budget s seat
begins_act p board budget was s seat start alone stands limit small seen on e = record {
  shard_record = fresh p.shards start;
  stands = stands;
  alone = alone;
  arrived = none_posted p.shards;
  on_board = on;
  small = omega (arith, limit, small);
  sits = sits_fresh p budget was seat.view start e (seen ∙ limit);
}

-- ---- the end

one_at : {T : Type 0} (x y : T) (i : ℕ) → slice_get (x ∷ []) i ≡ Some y → (i ≡ 0) × (x ≡ y)
one_at x y zero at = (refl, cc)
one_at x y (suc i) at = absurd (cc)

halted : (raised met : ℕ) → 0 < raised → 0 < raised + met
halted raised met lt = omega (arith, lt)

module _ {A B : Type 0} (p : Pass) (board : BoardFacts) (end : BestEnded) (s : BestShard A B) (seat : SeatFacts) (l : Leaves p board end s seat) where
  abbrev r : BestRecord
  r = l.shard_record

  own : Own p 0 r
  own = subst (λ (i : ℕ). Own p i r) l.first l.ends.1.own

  -- the one shard halted the search
  have_halted : 0 < seat.view.raised → HaveHalted (seat ∷ [])
  have_halted lt = (0, seat, refl, halted seat.view.raised seat.view.met lt)

  -- the search closed
  have_closed : HasClosed seat.view r → HaveClosed p (seat ∷ []) (r ∷ [])
  have_closed c = record {
    done = λ i li. subst (λ (k : ℕ). Done (record_of (r ∷ []) k)) (sym (first_shard p.shards i l.alone li)) c.done;
    arrived = λ i j li lj.
        subst (λ (k : ℕ). came_from j (record_of (r ∷ []) k).history ≡ to (record_of (r ∷ []) j).posted k) (sym (first_shard p.shards i l.alone li))
        (subst (λ (k : ℕ). came_from k r.history ≡ to (record_of (r ∷ []) k).posted 0) (sym (first_shard p.shards j l.alone lj)) c.arrived);
    late = λ i x at. let z = one_at seat x i at in subst (λ (y : SeatFacts). y.view.late ≡ 0) z.1 c.late;
    drawn = λ i x at.
        let z = one_at seat x i at in
        subst (λ (k : ℕ). x.view.drawn ≡ length (visits_in (record_of (r ∷ []) k).history)) (sym z.0) (subst (λ (y : SeatFacts). y.view.drawn ≡ length (visits_in r.history)) z.1 c.drawn);
  }

  -- what the shard left when it was taken apart
  pub have_left : (ends : List BestShardEnd) (logs : List Log) (e : BestShardEnd) (log : Log) → ends ≡ e ∷ [] → logs ≡ log ∷ [] → IsEnd p 0 r e log → HaveLeft p (seat ∷ []) ends logs false
  have_left ends logs e log ends_are logs_are is = record {
    records = r ∷ [];
    long = sym l.alone;
    seats_long = sym l.alone;
    together = record {
      own = λ i li. subst (λ (k : ℕ). Own p k (record_of (r ∷ []) k)) (sym (first_shard p.shards i l.alone li)) own;
      prefix = λ i j li lj.
          subst (λ (k : ℕ). IsPrefix (came_from j (record_of (r ∷ []) k).history) (to (record_of (r ∷ []) j).posted k)) (sym (first_shard p.shards i l.alone li))
          (subst (λ (k : ℕ). IsPrefix (came_from k r.history) (to (record_of (r ∷ []) k).posted 0)) (sym (first_shard p.shards j l.alone lj)) l.begun);
    };
    handed = record {
      ends_long = ap (λ (xs : List BestShardEnd). length xs) ends_are ∙ sym l.alone;
      logs_long = ap (λ (xs : List Log). length xs) logs_are ∙ sym l.alone;
      each = λ i e' log' at here.
          let x = one_at e e' i (ap (λ (xs : List BestShardEnd). slice_get xs i) (sym ends_are) ∙ at) in
          let y = one_at log log' i (ap (λ (xs : List Log). slice_get xs i) (sym logs_are) ∙ here) in
          subst (λ (k : ℕ). IsEnd p k (record_of (r ∷ []) k) e' log') (sym x.0)
          (subst (λ (z : BestShardEnd). IsEnd p 0 r z log') x.1 (subst (λ (z : Log). IsEnd p 0 r e z) y.1 is));
    };
    sat = λ i x at.
        let z = one_at seat x i at in
        (end, subst (λ (k : ℕ). Sat p end x.view (record_of (r ∷ []) k)) (sym z.0) (subst (λ (y : SeatFacts). Sat p end y.view r) z.1 l.sat));
    fate = λ _. elim l.fate [ inl lt ↦ inl (have_halted lt) | inr c ↦ inr (have_closed c) ];
  }

-- ---- the seat is joined again

pub is_over : (b : BestSearch) (board : BoardFacts) (budget : ℕ) (was : View) (seat : SeatFacts) (played : Played) (d : IsPlayed (pass_of b) board budget was seat played) (after : View) → after ≡ after_join seat.view played.own.view
    → IsOver b budget played.before was after (played.own ∷ []) played.room.ends.items played.room.logs.items false
is_over b board budget was seat played d after joins = record {
  inner = d.split.inner;
  begun = d.split.before;
  view_is = joins ∙ (ap (λ (v : View). after_join v played.own.view) d.split.split ∙ sym (ap (λ (n : ℕ). after_join (with_less was n) played.own.view) d.split.alone));
  left = d.left;
}
