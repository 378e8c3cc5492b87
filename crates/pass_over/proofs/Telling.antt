-- A pass that is over: what the whole seat knows then, and the records that the shards left.
use Rattle.std.proofs.Common.{◌≡◌, ℕ, ◌+◌, ◌-◌, ◌<◌, ◌≤◌, ◌⊎◌, inl, inr, min, suc, List, [], ◌∷◌, length, slice_get, Option, Some, None, refl, sym, ap, subst, ◌∙◌, arith}
use Rattle.std.specs.Prelude.{ℤ, pos, ◌≤ℤ◌}
use Rattle.std.proofs.lemmas.Bool.{cases_lt}
use Rattle.std.proofs.lemmas.Int.{ints}
use Rattle.std.proofs.lemmas.List.{length-append}
use Rattle.std.proofs.lemmas.Option.{slice_get_within}
use Rattle.board_words.specs.Rules.{no_word, IsWhole}
use Rattle.board_words.specs.Seats.{SeatFacts}
use Rattle.board_words.specs.Steps.{best_known, IsBestFor, IsCountFor, IsCauseFor}
use Rattle.board_words.specs.declared.halt.HaltCause.TheVariants as halts
use Rattle.board_words.specs.declared.seat.View.{View}
use Rattle.pass_ledger.specs.Counts.{kept_pairs, row_pairs, visits_of}
use Rattle.pass_ledger.specs.Ledgers.{AllDone, IsBest, PrunesAbove}
use Rattle.pass_ledger.specs.Passes.{Pass, word_of}
use Rattle.pass_ledger.specs.Records.{Done, record_of}
use Rattle.pass_ledger.specs.declared.records.FaultHere.{FaultHere}
use Rattle.pass_ledger.specs.declared.records.Held.{Held}
use Rattle.pass_ledger.specs.declared.records.ShardRecord.{ShardRecord}
use Rattle.path_log.specs.Paths.{Log}
use Rattle.shard_core.specs.declared.shard.ShardEnd.{ShardEnd}
use Rattle.shard_seats.specs.Seats.{IsOfferOf, HadMemory, HasEnded, Sat}
use Rattle.shard_seats.specs.declared.ended.Ended.{Ended}
use Rattle.shard_seats.specs.declared.ended.Ended.TheVariants as endings
use Rattle.pass_ends.specs.Left.{AreEnds, AreLeft, HasFault}
use Rattle.pass_ends.specs.declared.tally.Tally.{Tally}
use Rattle.pass_over.specs.Lefts.{IsOver}
use Rattle.joined_seats.specs.Joined.{joined, with_less}
use Rattle.joined_seats.proofs.Joined.{all_of, all_above, all_below, all_equal, all_none, all_same, joined_same, joined_sum, least_each, least_first, least_one, greatest_each, greatest_one}
use Rattle.pass_over.proofs.Places.{there}

-- ---- what the seat of one shard says

-- no halt was raised or met: the shard is done
done_by : (p : Pass) (i : ℕ) (v : View) (r : ShardRecord) (end : Ended) → HasEnded p i v r end → v.raised ≡ 0 → v.met ≡ 0 → (v.late ≡ 0) × (v.drawn ≡ length r.visits) × Done p i r
done_by p i v r endings.Done h raised met = (h.1, h.2, h.3)
done_by p i v r endings.Met h raised met = absurd (omega (arith, h.2, met))
done_by p i v r (endings.Halted halts.Budget) h raised met = absurd (omega (arith, h.0, raised))
done_by p i v r (endings.Halted halts.Memory) h raised met = absurd (omega (arith, h.0, raised))
done_by p i v r (endings.Halted halts.Fault) h raised met = absurd (omega (arith, h.0, raised))

-- the budget was spent: a draw was late
late_by : (p : Pass) (i : ℕ) (v : View) (r : ShardRecord) (end : Ended) → HasEnded p i v r end → v.raised ≡ 1 → v.late ≡ 1
late_by p i v r endings.Done h raised = absurd (omega (arith, h.0, raised))
late_by p i v r endings.Met h raised = absurd (omega (arith, h.0, raised))
late_by p i v r (endings.Halted halts.Budget) h raised = h.1
late_by p i v r (endings.Halted halts.Memory) h raised = absurd (omega (arith, h.0, raised))
late_by p i v r (endings.Halted halts.Fault) h raised = absurd (omega (arith, h.0, raised))

-- memory ran out
memory_by : (p : Pass) (i : ℕ) (v : View) (r : ShardRecord) (end : Ended) → HasEnded p i v r end → end ≡ endings.Halted halts.Memory → v.raised ≡ 2
memory_by p i v r end h is = let at : HasEnded p i v r (endings.Halted halts.Memory) = subst (HasEnded p i v r) is h in omega (arith, at.0)

-- a fault was met
fault_by : (p : Pass) (i : ℕ) (v : View) (r : ShardRecord) (end : Ended) → HasEnded p i v r end → 3 ≤ v.raised → (f : FaultHere) × (r.fault ≡ Some f)
fault_by p i v r endings.Done h raised = absurd (omega (arith, h.0, raised))
fault_by p i v r endings.Met h raised = absurd (omega (arith, h.0, raised))
fault_by p i v r (endings.Halted halts.Budget) h raised = absurd (omega (arith, h.0, raised))
fault_by p i v r (endings.Halted halts.Memory) h raised = absurd (omega (arith, h.0, raised))
fault_by p i v r (endings.Halted halts.Fault) h raised = (h.1.1, h.1.2)

offer_by : (p : Pass) (offered : ℕ) (held : Option Held) → IsOfferOf p offered held → (offered ≡ no_word) ⊎ ((h : Held) × (held ≡ Some h) × (pos offered ≡ word_of p h.cost))
offer_by p offered None h = inl h
offer_by p offered (Some held) h = inr (held, refl, h)

offer_of : (p : Pass) (offered : ℕ) (held : Option Held) (h : Held) → IsOfferOf p offered held → held ≡ Some h → pos offered ≡ word_of p h.cost
offer_of p offered held h is e = let at : IsOfferOf p offered (Some h) = subst (IsOfferOf p offered) e is in at

under : (a b : ℕ) (w : ℤ) → a ≤ b → pos b ≡ w → pos a ≤ℤ w
under a b w le e = let same = e in omega (arith, ints, same)

-- ---- numbers of the whole seat

-- Numbers of the seats, each of which is a term of a sum and another number of the seat: they add up to the whole sum and all the others.
all_with : (f g : View → ℕ) (total part : ℕ → ℕ) → ((i : ℕ) → total (suc i) ≡ total i + part i) → (seats : List SeatFacts) (k : ℕ) → ((i : ℕ) (s : SeatFacts) → slice_get seats i ≡ Some s → f s.view ≡ part (k + i) + g s.view)
    → all_of f seats + total k ≡ total (k + length seats) + all_of g seats
all_with f g total part adds [] k each = let e : total k ≡ total (k + 0) = ap total (omega arith) in omega (arith, e)
all_with f g total part adds (s ∷ seats) k each =
    let here = each 0 s refl in
    let at : part (k + 0) ≡ part k = ap part (omega arith) in
    let rest = all_with f g total part adds seats (suc k) (λ i x h. each (suc i) x h ∙ ap (λ (n : ℕ). part n + g x.view) (place i)) in
    let end : total (suc k + length seats) ≡ total (k + suc (length seats)) = ap total (omega arith) in
    let step = adds k in
    omega (arith, here, at, rest, end, step)
  where
    place : (i : ℕ) → k + suc i ≡ suc k + i
    place i = omega arith

-- of the numbers drawn by a pass, those below the budget are its visits
visits_are : (b d g now was visited : ℕ) → now ≡ min (d + g) b → was ≡ min d b → visited ≡ now - was → visited + ((d + g) - b) ≡ g + (d - b)
visits_are b d g now was visited e f h = omega (arith, e, f, h)

module _ (p : Pass) (budget visits : ℕ) (before after : View) (seats : List SeatFacts) (ends : List ShardEnd) (logs : List Log) (over : IsOver p budget visits before after seats ends logs) where
  sat : (i : ℕ) (s : SeatFacts) → slice_get seats i ≡ Some s → (end : Ended) × Sat p i end s.view (record_of over.left.records i)
  sat = over.left.sat

  within : (i : ℕ) (s : SeatFacts) → slice_get seats i ≡ Some s → i < p.shards
  within i s at = let a = slice_get_within seats i s at in let b = over.left.seats_long in omega (arith, a, b)

  seat_of : (i : ℕ) → i < p.shards → (s : SeatFacts) × (slice_get seats i ≡ Some s)
  seat_of i lt = there seats i (let a = over.left.seats_long in omega (arith, a, lt))

  same_as : {A : Type 0} (f : View → A) → f after ≡ f (joined (with_less before p.shards) seats)
  same_as f = ap f over.view_is

  drawn_is : after.drawn ≡ before.drawn + all_of (λ v. v.drawn) seats
  drawn_is = same_as (λ v. v.drawn) ∙ joined_sum (λ v. v.drawn) (λ v w. refl) (with_less before p.shards) seats

  late_is : after.late ≡ before.late + all_of (λ v. v.late) seats
  late_is = same_as (λ v. v.late) ∙ joined_sum (λ v. v.late) (λ v w. refl) (with_less before p.shards) seats

  limit_is : after.limit ≡ before.limit
  limit_is = same_as (λ v. v.limit) ∙ joined_same (λ v. v.limit) (λ v w. refl) (with_less before p.shards) seats

  opening_is : after.opening ≡ before.opening
  opening_is = same_as (λ v. v.opening) ∙ joined_same (λ v. v.opening) (λ v w. refl) (with_less before p.shards) seats

  -- each shard had one part, and they are all back
  pub whole : IsWhole after
  whole =
      let sum = same_as (λ v. v.part) ∙ joined_sum (λ v. v.part) (λ v w. refl) (with_less before p.shards) seats in
      let each = all_same (λ v. v.part) 1 seats (λ i s at. (sat i s at).1.part) refl in
      let long = over.left.seats_long in
      let all = over.begun.whole in
      let few = over.begun.few_shards in
      omega (arith, sum, each, long, all, few)

  offered_least : after.offered ≤ before.offered
  offered_least = let e = same_as (λ v. v.offered) in let le = least_first (λ v. v.offered) (λ v w. refl) (with_less before p.shards) seats in omega (arith, e, le)

  offered_each : (i : ℕ) (s : SeatFacts) → slice_get seats i ≡ Some s → after.offered ≤ s.view.offered
  offered_each i s at = let e = same_as (λ v. v.offered) in let le = least_each (λ v. v.offered) (λ v w. refl) (with_less before p.shards) seats i s at in omega (arith, e, le)

  seen_each : (i : ℕ) (s : SeatFacts) → slice_get seats i ≡ Some s → after.seen ≤ s.view.seen
  seen_each i s at = let e = same_as (λ v. v.seen) in let le = least_each (λ v. v.seen) (λ v w. refl) (with_less before p.shards) seats i s at in omega (arith, e, le)

  raised_each : (i : ℕ) (s : SeatFacts) → slice_get seats i ≡ Some s → s.view.raised ≤ after.raised
  raised_each i s at = let e = same_as (λ v. v.raised) in let le = greatest_each (λ v. v.raised) (λ v w. refl) (with_less before p.shards) seats i s at in omega (arith, e, le)

  met_each : (i : ℕ) (s : SeatFacts) → slice_get seats i ≡ Some s → s.view.met ≤ after.met
  met_each i s at = let e = same_as (λ v. v.met) in let le = greatest_each (λ v. v.met) (λ v w. refl) (with_less before p.shards) seats i s at in omega (arith, e, le)

  -- where there was a halt, a shard raised it
  raised_one : 1 ≤ after.raised → (i : ℕ) × (s : SeatFacts) × (slice_get seats i ≡ Some s) × (after.raised ≡ s.view.raised)
  raised_one some =
      elim (greatest_one (λ v. v.raised) (λ v w. refl) (with_less before p.shards) seats) [
        | inl e ↦ absurd (let a = same_as (λ v. v.raised) in let b = over.begun.no_halt in omega (arith, a, b, e, some))
        | inr r ↦ (r.0, r.1, r.2, same_as (λ v. v.raised) ∙ r.3)
      ]

  -- ---- the best word

  best_lower : best_known after ≤ best_known before
  best_lower = omega (arith, opening_is, offered_least)

  best_above : (i : ℕ) (h : Held) → i < p.shards → (record_of over.left.records i).held ≡ Some h → pos (best_known after) ≤ℤ word_of p h.cost
  best_above i h lt has =
      let s = seat_of i lt in
      let le = offered_each i s.0 s.1 in
      under (best_known after) s.0.view.offered (word_of p h.cost) (omega (arith, le)) (offer_of p s.0.view.offered (record_of over.left.records i).held h (sat i s.0 s.1).1.offered has)

  best_one : (best_known after ≡ best_known before) ⊎ ((i : ℕ) × (h : Held) × (i < p.shards) × ((record_of over.left.records i).held ≡ Some h) × (pos (best_known after) ≡ word_of p h.cost))
  best_one =
      elim (least_one (λ v. v.offered) (λ v w. refl) (with_less before p.shards) seats) [
        | inl e ↦ inl (let a = same_as (λ v. v.offered) in omega (arith, opening_is, a, e))
        | inr r ↦ (
            let is : after.offered ≡ r.1.view.offered = same_as (λ v. v.offered) ∙ r.3 in
            elim (offer_by p r.1.view.offered (record_of over.left.records r.0).held (sat r.0 r.1 r.2).1.offered) [
              | inl none ↦ inl (let fits = over.begun.best_fits in omega (arith, opening_is, offered_least, is, none, fits))
              | inr held ↦ elim (cases_lt after.offered after.opening) [
                | inl lt ↦ inr (r.0, held.0, within r.0 r.1 r.2, held.1, (let same : best_known after ≡ r.1.view.offered = omega (arith, is, lt) in ap pos same ∙ held.2))
                | inr ge ↦ inl (omega (arith, opening_is, offered_least, ge))
              ]
            ])
      ]

  pub is_best : IsBest p over.left.records (best_known before) (best_known after)
  is_best = record { opening_above = best_lower; held_above = best_above; is_one = best_one }

  prunes_above : (best : ℕ) → IsBestFor after best → PrunesAbove p over.left.records (best_known after)
  prunes_above best h i q lt has =
      let s = seat_of i lt in
      let a = seen_each i s.0 s.1 in
      let b = (sat i s.0 s.1).1.seen q has in
      let c = h.seen in
      let d = h.exact whole in
      omega (arith, a, b, c, d)

  -- ---- how many numbers were drawn

  few_drawn : all_of (λ v. v.drawn) seats ≤ length (kept_pairs over.left.records p.shards)
  few_drawn =
      let le = all_below (λ v. v.drawn) (λ i. length (kept_pairs over.left.records i)) (λ i. length (row_pairs 0 (record_of over.left.records i).rows))
      (λ i. length-append (kept_pairs over.left.records i) (row_pairs 0 (record_of over.left.records i).rows))
      seats 0 (λ i s at. subst (λ (n : ℕ). s.view.drawn ≤ length (row_pairs 0 (record_of over.left.records n).rows)) (from_none i) (sat i s at).1.few_drawn) in
      let same = ap (λ (n : ℕ). length (kept_pairs over.left.records n)) (sym (from_none (length seats)) ∙ over.left.seats_long) in
      omega (arith, le, same)
    where
      from_none : (n : ℕ) → n ≡ 0 + n
      from_none n = omega arith

  -- ---- how it ended

  module _ (cause drawn : ℕ) (causes : IsCauseFor after cause) (counts : IsCountFor after drawn) where
    cause_is : cause ≡ after.raised
    cause_is = causes.exact whole

    late_now : after.late ≡ after.drawn - after.limit
    late_now = let a = counts.late whole in let b = (counts.exact whole).0 in omega (arith, a, b)

    late_then : before.late ≡ before.drawn - after.limit
    late_then = let a = over.begun.late in omega (arith, a, limit_is)

    -- each is done where there was no halt
    done_at : cause ≡ 0 → (i : ℕ) (s : SeatFacts) → slice_get seats i ≡ Some s → (s.view.late ≡ 0) × (s.view.drawn ≡ length (record_of over.left.records i).visits) × Done p i (record_of over.left.records i)
    done_at none i s at =
        let a = raised_each i s at in
        let b = met_each i s at in
        let c = causes.met in
        let d = cause_is in
        let h = sat i s at in
        done_by p i s.view (record_of over.left.records i) h.0 h.1.cause (omega (arith, none, a, d)) (omega (arith, none, b, c))

    all_done : cause ≡ 0 → AllDone p over.left.records × (all_of (λ v. v.drawn) seats ≡ visits_of over.left.records p.shards) × (after.drawn - after.limit ≡ before.drawn - after.limit)
    all_done none = (
      λ i lt. let s = seat_of i lt in (done_at none i s.0 s.1).2,
      (let e = all_equal (λ v. v.drawn) (visits_of over.left.records) (λ i. length (record_of over.left.records i).visits) (λ i. refl) seats 0
          (λ i s at. subst (λ (n : ℕ). s.view.drawn ≡ length (record_of over.left.records n).visits) (from_none i) (done_at none i s at).1) in
          let same = ap (visits_of over.left.records) (sym (from_none (length seats)) ∙ over.left.seats_long) in
          omega (arith, e, same)),
      (let a = all_none (λ v. v.late) seats (λ i s at. (done_at none i s at).0) in
          omega (arith, a, late_is, late_now, late_then)),
    )
      where
        from_none : (n : ℕ) → n ≡ 0 + n
        from_none n = omega arith

    spent : cause ≡ 1 → before.drawn - after.limit < after.drawn - after.limit
    spent one =
        let r = raised_one (let a = cause_is in omega (arith, one, a)) in
        let h = sat r.0 r.1 r.2 in
        let late = late_by p r.0 r.1.view (record_of over.left.records r.0) h.0 h.1.cause (let a = cause_is in let b = r.3 in omega (arith, one, a, b)) in
        let above = all_above (λ v. v.late) seats r.0 r.1 r.2 in
        omega (arith, late, above, late_is, late_now, late_then)

    -- No shard ran out of memory where the greatest halt word is that of a spent budget, so each number that was drawn is that of a visit,
    -- or late.
    had_memory : cause ≡ 1 → (i : ℕ) (s : SeatFacts) (at : slice_get seats i ≡ Some s) → HadMemory (sat i s at).0
    had_memory one i s at is =
        let h = sat i s at in
        let raised = memory_by p i s.view (record_of over.left.records i) h.0 h.1.cause is in
        let a = raised_each i s at in
        let b = cause_is in
        absurd (omega (arith, one, raised, a, b))

    drawn_or_late : cause ≡ 1 → all_of (λ v. v.drawn) seats ≡ visits_of over.left.records p.shards + all_of (λ v. v.late) seats
    drawn_or_late one =
        let e = all_with (λ v. v.drawn) (λ v. v.late) (visits_of over.left.records) (λ i. length (record_of over.left.records i).visits) (λ i. refl) seats 0
        (λ i s at. subst (λ (n : ℕ). s.view.drawn ≡ length (record_of over.left.records n).visits + s.view.late) (from_none i) ((sat i s at).1.drawn (had_memory one i s at))) in
        let same = ap (visits_of over.left.records) (sym (from_none (length seats)) ∙ over.left.seats_long) in
        omega (arith, e, same)
      where
        from_none : (n : ℕ) → n ≡ 0 + n
        from_none n = omega arith

    faulted : 3 ≤ cause → HasFault p over.left.records
    faulted some =
        let r = raised_one (let a = cause_is in omega (arith, some, a)) in
        let h = sat r.0 r.1 r.2 in
        let f = fault_by p r.0 r.1.view (record_of over.left.records r.0) h.0 h.1.cause (let a = cause_is in let b = r.3 in omega (arith, some, a, b)) in
        (r.0, f.0, within r.0 r.1 r.2, f.1)

    are_left : (tally : Tally) (best now : ℕ) → tally.ends.items ≡ ends → tally.logs.items ≡ logs → tally.share ≡ p.share → now ≡ min after.drawn budget → tally.visited ≡ now - visits → IsBestFor after best → AreLeft p over.left.records before after tally cause
    are_left tally best now ends_are logs_are share now_is visited bests =
        let a = over.begun.visits_are in
        let b = over.begun.limit in
        let n : now ≡ min (before.drawn + all_of (λ v. v.drawn) seats) budget = omega (arith, now_is, drawn_is) in
        let h = visits_are budget before.drawn (all_of (λ v. v.drawn) seats) now visits tally.visited n a visited in
        let sum : tally.visited + (after.drawn - after.limit) ≡ all_of (λ v. v.drawn) seats + (before.drawn - after.limit) = omega (arith, h, drawn_is, limit_is, b) in
        record {
          inner = over.inner;
          long = over.left.long;
          together = over.left.together;
          ends = subst (λ (l : List Log). AreEnds p over.left.records tally.ends.items l) (sym logs_are) (subst (λ (l : List ShardEnd). AreEnds p over.left.records l logs) (sym ends_are) over.left.handed);
          share = share;
          best_is = is_best;
          prunes = prunes_above best bests;
          gained = all_of (λ v. v.drawn) seats;
          drawn = drawn_is;
          few_drawn = few_drawn;
          late = late_now;
          visits = sum;
          cause_is = cause_is;
          all_done = all_done;
          spent = spent;
          spent_visits = λ one. let e = drawn_or_late one in omega (arith, e, sum, late_is, late_now, late_then);
          faulted = faulted;
        }

module _ (p : Pass) (budget visits : ℕ) (before : View) (seat : SeatFacts) (seats : List SeatFacts) (ends : List ShardEnd) (logs : List Log) (over : IsOver p budget visits before seat.view seats ends logs)
    (now : ℕ) (counted : IsWhole seat.view → now ≡ min seat.view.drawn budget) where
  now_is : now ≡ min seat.view.drawn budget
  now_is = counted (whole p budget visits before seat.view seats ends logs over)

  -- the visits before a pass are among those after it
  pub visits_more : visits ≤ now
  visits_more = let a = over.begun.visits_are in let b = drawn_is p budget visits before seat.view seats ends logs over in omega (arith, a, b, now_is)

  pub told : (same : SeatFacts) → same ≡ seat → (best drawn cause : ℕ) → IsBestFor same.view best → IsCountFor same.view drawn → IsCauseFor same.view cause → (tally : Tally) → tally.ends.items ≡ ends → tally.logs.items ≡ logs → tally.share ≡ p.share → tally.visited ≡ now - visits
      → AreLeft p over.left.records before seat.view tally cause
  told same is best drawn cause bests counts causes tally ends_are logs_are share visited =
      are_left p budget visits before seat.view seats ends logs over cause drawn (subst (λ (s : SeatFacts). IsCauseFor s.view cause) is causes) (subst (λ (s : SeatFacts). IsCountFor s.view drawn) is counts)
      tally best now ends_are logs_are share now_is visited (subst (λ (s : SeatFacts). IsBestFor s.view best) is bests)
