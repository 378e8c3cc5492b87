-- A search that is over: what the whole seat knows then, and the records that the shards left.
use Rattle.std.proofs.Common.{◌≡◌, ℕ, ◌+◌, ◌-◌, ◌<◌, ◌≤◌, ◌⊎◌, inl, inr, min, Bool, false, List, ◌++◌, length, map, slice_get, Option, Some, None, refl, sym, ap, subst, ◌∙◌, arith}
use Rattle.std.specs.Prelude.{ℤ, pos, ◌≤ℤ◌}
use Rattle.std.proofs.lemmas.Bool.{cases_lt}
use Rattle.std.proofs.lemmas.Int.{ints}
use Rattle.std.proofs.lemmas.List.{length-append, length-map}
use Rattle.std.proofs.lemmas.Option.{slice_get_within}
use Rattle.best_ends.specs.Ends.{IsBestEnd}
use Rattle.best_ends.specs.Left.{AreEnds, AreLeft, HasFault}
use Rattle.best_ends.specs.declared.answers.BestEnd.{BestEnd}
use Rattle.best_ends.specs.declared.answers.BestEnd.TheVariants as answers
use Rattle.best_ends.specs.declared.tally.BestTally.{BestTally}
use Rattle.best_over.specs.Lefts.{HaveClosed, HaveHalted, IsOver}
use Rattle.best_over.proofs.Places.{there}
use Rattle.best_ledger.specs.Histories.{visits_in}
use Rattle.best_ledger.specs.Laws.{AllDone, PrunesAbove, known_pairs, pair_of, priced, visits_of}
use Rattle.best_ledger.specs.Ledgers.{IsBest}
use Rattle.best_ledger.specs.Records.{HasArrived, record_of}
use Rattle.best_ledger.specs.Searches.{BestSearch, pass_of}
use Rattle.best_ledger.specs.declared.records.BestRecord.{BestRecord}
use Rattle.best_ledger.proofs.Pairs.{counted_law}
use Rattle.best_shard.specs.declared.shard.BestShardEnd.{BestShardEnd}
use Rattle.best_seats.specs.Seats.{HasEnded, Sat}
use Rattle.best_seats.specs.declared.ended.BestEnded.{BestEnded}
use Rattle.best_seats.specs.declared.ended.BestEnded.TheVariants as endings
use Rattle.board_words.specs.Rules.{no_word, IsWhole}
use Rattle.board_words.specs.Seats.{SeatFacts}
use Rattle.board_words.specs.Steps.{best_known, IsBestFor, IsCountFor, IsCauseFor}
use Rattle.board_words.specs.declared.halt.HaltCause.TheVariants as halts
use Rattle.board_words.specs.declared.seat.View.{View}
use Rattle.dp_model.specs.declared.answers.Cause.TheVariants as whys
use Rattle.path_log.specs.Paths.{Log}
use Rattle.pass_ledger.specs.Passes.{Pass, word_of}
use Rattle.pass_ledger.specs.declared.records.FaultHere.{FaultHere}
use Rattle.pass_ledger.specs.declared.records.Held.{Held}
use Rattle.joined_seats.specs.Joined.{joined, with_less}
use Rattle.joined_seats.proofs.Joined.{all_of, all_above, all_below, all_equal, all_none, all_same, joined_same, joined_sum, least_each, least_first, least_one, greatest_each, greatest_one}
use Rattle.shard_seats.specs.Seats.{IsOfferOf}

-- ---- what the seat of one shard says

-- the budget was spent: a draw was late
late_by : (v : View) (r : BestRecord) (end : BestEnded) → HasEnded v r end → v.raised ≡ 1 → v.late ≡ 1
late_by v r endings.Idle h raised = absurd (omega (arith, h.0, raised))
late_by v r endings.Met h raised = absurd (omega (arith, h.0, raised))
late_by v r (endings.Halted halts.Budget) h raised = h.1
late_by v r (endings.Halted halts.Memory) h raised = absurd (omega (arith, h.0, raised))
late_by v r (endings.Halted halts.Fault) h raised = absurd (omega (arith, h.0, raised))

-- a fault was met
fault_by : (v : View) (r : BestRecord) (end : BestEnded) → HasEnded v r end → 3 ≤ v.raised → (f : FaultHere) × (r.fault ≡ Some f)
fault_by v r endings.Idle h raised = absurd (omega (arith, h.0, raised))
fault_by v r endings.Met h raised = absurd (omega (arith, h.0, raised))
fault_by v r (endings.Halted halts.Budget) h raised = absurd (omega (arith, h.0, raised))
fault_by v r (endings.Halted halts.Memory) h raised = absurd (omega (arith, h.0, raised))
fault_by v r (endings.Halted halts.Fault) h raised = (h.1.1, h.1.2)

offer_by : (p : Pass) (offered : ℕ) (held : Option Held) → IsOfferOf p offered held → (offered ≡ no_word) ⊎ ((h : Held) × (held ≡ Some h) × (pos offered ≡ word_of p h.cost))
offer_by p offered None h = inl h
offer_by p offered (Some held) h = inr (held, refl, h)

offer_of : (p : Pass) (offered : ℕ) (held : Option Held) (h : Held) → IsOfferOf p offered held → held ≡ Some h → pos offered ≡ word_of p h.cost
offer_of p offered held h is e = let at : IsOfferOf p offered (Some h) = subst (IsOfferOf p offered) e is in at

under : (a b : ℕ) (w : ℤ) → a ≤ b → pos b ≡ w → pos a ≤ℤ w
under a b w le e = let same = e in omega (arith, ints, same)

-- ---- numbers of the whole seat

-- of the numbers drawn by a pass, those below the budget are its visits
visits_are : (b d g now was visited : ℕ) → now ≡ min (d + g) b → was ≡ min d b → visited ≡ now - was → visited + ((d + g) - b) ≡ g + (d - b)
visits_are b d g now was visited e f h = omega (arith, e, f, h)

module _ (b : BestSearch) (budget visits : ℕ) (before after : View) (seats : List SeatFacts) (ends : List BestShardEnd) (logs : List Log) (lost : Bool) (over : IsOver b budget visits before after seats ends logs lost) where
  abbrev p : Pass
  p = pass_of b

  sat : (i : ℕ) (s : SeatFacts) → slice_get seats i ≡ Some s → (end : BestEnded) × Sat p end s.view (record_of over.left.records i)
  sat = over.left.sat

  within : (i : ℕ) (s : SeatFacts) → slice_get seats i ≡ Some s → i < p.shards
  within i s at = let a = slice_get_within seats i s at in let b = over.left.seats_long in omega (arith, a, b)

  seat_of : (i : ℕ) → i < p.shards → (s : SeatFacts) × (slice_get seats i ≡ Some s)
  seat_of i lt = there seats i (let a = over.left.seats_long in omega (arith, a, lt))

  same_as : {A : Type 0} (f : View → A) → f after ≡ f (joined (with_less before p.shards) seats)
  same_as f = ap f over.view_is

  drawn_is : after.drawn ≡ before.drawn + all_of (λ v. v.drawn) seats
  drawn_is = same_as (λ v. v.drawn) ∙ joined_sum (λ v. v.drawn) (λ v w. refl) (with_less before p.shards) seats

  late_is : after.late ≡ before.late + all_of (λ v. v.late) seats
  late_is = same_as (λ v. v.late) ∙ joined_sum (λ v. v.late) (λ v w. refl) (with_less before p.shards) seats

  limit_is : after.limit ≡ before.limit
  limit_is = same_as (λ v. v.limit) ∙ joined_same (λ v. v.limit) (λ v w. refl) (with_less before p.shards) seats

  opening_is : after.opening ≡ before.opening
  opening_is = same_as (λ v. v.opening) ∙ joined_same (λ v. v.opening) (λ v w. refl) (with_less before p.shards) seats

  -- each shard had one part, and they are all back
  pub whole : IsWhole after
  whole =
      let sum = same_as (λ v. v.part) ∙ joined_sum (λ v. v.part) (λ v w. refl) (with_less before p.shards) seats in
      let each = all_same (λ v. v.part) 1 seats (λ i s at. (sat i s at).1.part) refl in
      let long = over.left.seats_long in
      let all = over.begun.whole in
      let few = over.begun.few_shards in
      omega (arith, sum, each, long, all, few)

  offered_least : after.offered ≤ before.offered
  offered_least = let e = same_as (λ v. v.offered) in let le = least_first (λ v. v.offered) (λ v w. refl) (with_less before p.shards) seats in omega (arith, e, le)

  offered_each : (i : ℕ) (s : SeatFacts) → slice_get seats i ≡ Some s → after.offered ≤ s.view.offered
  offered_each i s at = let e = same_as (λ v. v.offered) in let le = least_each (λ v. v.offered) (λ v w. refl) (with_less before p.shards) seats i s at in omega (arith, e, le)

  seen_each : (i : ℕ) (s : SeatFacts) → slice_get seats i ≡ Some s → after.seen ≤ s.view.seen
  seen_each i s at = let e = same_as (λ v. v.seen) in let le = least_each (λ v. v.seen) (λ v w. refl) (with_less before p.shards) seats i s at in omega (arith, e, le)

  raised_each : (i : ℕ) (s : SeatFacts) → slice_get seats i ≡ Some s → s.view.raised ≤ after.raised
  raised_each i s at = let e = same_as (λ v. v.raised) in let le = greatest_each (λ v. v.raised) (λ v w. refl) (with_less before p.shards) seats i s at in omega (arith, e, le)

  met_each : (i : ℕ) (s : SeatFacts) → slice_get seats i ≡ Some s → s.view.met ≤ after.met
  met_each i s at = let e = same_as (λ v. v.met) in let le = greatest_each (λ v. v.met) (λ v w. refl) (with_less before p.shards) seats i s at in omega (arith, e, le)

  -- where there was a halt, a shard raised it
  raised_one : 1 ≤ after.raised → (i : ℕ) × (s : SeatFacts) × (slice_get seats i ≡ Some s) × (after.raised ≡ s.view.raised)
  raised_one some =
      elim (greatest_one (λ v. v.raised) (λ v w. refl) (with_less before p.shards) seats) [
        | inl e ↦ absurd (let a = same_as (λ v. v.raised) in let b = over.begun.no_halt in omega (arith, a, b, e, some))
        | inr r ↦ (r.0, r.1, r.2, same_as (λ v. v.raised) ∙ r.3)
      ]

  -- ---- the best word

  best_lower : best_known after ≤ best_known before
  best_lower = omega (arith, opening_is, offered_least)

  best_above : (i : ℕ) (h : Held) → i < p.shards → (record_of over.left.records i).held ≡ Some h → pos (best_known after) ≤ℤ word_of p h.cost
  best_above i h lt has =
      let s = seat_of i lt in
      let le = offered_each i s.0 s.1 in
      under (best_known after) s.0.view.offered (word_of p h.cost) (omega (arith, le)) (offer_of p s.0.view.offered (record_of over.left.records i).held h (sat i s.0 s.1).1.offered has)

  best_one : (best_known after ≡ best_known before) ⊎ ((i : ℕ) × (h : Held) × (i < p.shards) × ((record_of over.left.records i).held ≡ Some h) × (pos (best_known after) ≡ word_of p h.cost))
  best_one =
      elim (least_one (λ v. v.offered) (λ v w. refl) (with_less before p.shards) seats) [
        | inl e ↦ inl (let a = same_as (λ v. v.offered) in omega (arith, opening_is, a, e))
        | inr r ↦ (
            let is : after.offered ≡ r.1.view.offered = same_as (λ v. v.offered) ∙ r.3 in
            elim (offer_by p r.1.view.offered (record_of over.left.records r.0).held (sat r.0 r.1 r.2).1.offered) [
              | inl none ↦ inl (let fits = over.begun.best_fits in omega (arith, opening_is, offered_least, is, none, fits))
              | inr held ↦ elim (cases_lt after.offered after.opening) [
                | inl lt ↦ inr (r.0, held.0, within r.0 r.1 r.2, held.1, (let same : best_known after ≡ r.1.view.offered = omega (arith, is, lt) in ap pos same ∙ held.2))
                | inr ge ↦ inl (omega (arith, opening_is, offered_least, ge))
              ]
            ])
      ]

  is_best : IsBest p over.left.records (best_known before) (best_known after)
  is_best = record { opening_above = best_lower; held_above = best_above; is_one = best_one }

  prunes_above : (best : ℕ) → IsBestFor after best → PrunesAbove p over.left.records (best_known after)
  prunes_above best h i q lt has =
      let s = seat_of i lt in
      let a = seen_each i s.0 s.1 in
      let b = (sat i s.0 s.1).1.seen q has in
      let c = h.seen in
      let d = h.exact whole in
      omega (arith, a, b, c, d)

  -- ---- how many numbers were drawn

  -- a shard drew no more numbers than there are states and costs of what it visited, and of what is open
  few_at : (i : ℕ) (s : SeatFacts) → slice_get seats i ≡ Some s → s.view.drawn ≤ length (map priced (visits_in (record_of over.left.records i).history) ++ map pair_of (record_of over.left.records i).waiting)
  few_at i s at =
      let r = record_of over.left.records i in
      let few = (sat i s at).1.few_drawn in
      let a = length-append (map priced (visits_in r.history)) (map pair_of r.waiting) in
      let b = length-map (visits_in r.history) priced in
      let c = length-map r.waiting pair_of in
      omega (arith, few, a, b, c)

  few_drawn : all_of (λ v. v.drawn) seats ≤ length (known_pairs over.left.records p.shards)
  few_drawn =
      let le = all_below (λ v. v.drawn) (λ i. length (known_pairs over.left.records i)) (λ i. length (map priced (visits_in (record_of over.left.records i).history) ++ map pair_of (record_of over.left.records i).waiting))
      (λ i. length-append (known_pairs over.left.records i) (map priced (visits_in (record_of over.left.records i).history) ++ map pair_of (record_of over.left.records i).waiting))
      seats 0 (λ i s at. subst (λ (n : ℕ). s.view.drawn ≤ length (map priced (visits_in (record_of over.left.records n).history) ++ map pair_of (record_of over.left.records n).waiting)) (from_none i) (few_at i s at)) in
      let same = ap (λ (n : ℕ). length (known_pairs over.left.records n)) (sym (from_none (length seats)) ∙ over.left.seats_long) in
      omega (arith, le, same)
    where
      from_none : (n : ℕ) → n ≡ 0 + n
      from_none n = omega arith

  -- ---- how it ended

  module _ (cause drawn : ℕ) (causes : IsCauseFor after cause) (counts : IsCountFor after drawn) where
    cause_is : cause ≡ after.raised
    cause_is = causes.exact whole

    late_now : after.late ≡ after.drawn - after.limit
    late_now = let a = counts.late whole in let b = (counts.exact whole).0 in omega (arith, a, b)

    late_then : before.late ≡ before.drawn - after.limit
    late_then = let a = over.begun.late in omega (arith, a, limit_is)

    -- where there was no halt, no shard raised one or met one
    none_halted : cause ≡ 0 → HaveHalted seats → ⊥
    none_halted none h =
        let a = raised_each h.0 h.1 h.2 in
        let b = met_each h.0 h.1 h.2 in
        let c = causes.met in
        let d = cause_is in
        let e = h.3 in
        omega (arith, none, a, b, c, d, e)

    closed_at : cause ≡ 0 → lost ≡ false → HaveClosed p seats over.left.records
    closed_at none kept = elim (over.left.fate kept) [ inl h ↦ absurd (none_halted none h) | inr c ↦ c ]

    all_done : lost ≡ false → cause ≡ 0
        → AllDone p over.left.records × HasArrived p over.left.records × (all_of (λ v. v.drawn) seats ≡ visits_of over.left.records p.shards) × (after.drawn - after.limit ≡ before.drawn - after.limit)
    all_done kept none =
        let c = closed_at none kept in (
          c.done,
          c.arrived,
          (let e = all_equal (λ v. v.drawn) (visits_of over.left.records) (λ i. length (visits_in (record_of over.left.records i).history)) (λ i. refl) seats 0
              (λ i s at. subst (λ (n : ℕ). s.view.drawn ≡ length (visits_in (record_of over.left.records n).history)) (from_none i) (c.drawn i s at)) in
              let same = ap (visits_of over.left.records) (sym (from_none (length seats)) ∙ over.left.seats_long) in
              omega (arith, e, same)),
          (let a = all_none (λ v. v.late) seats c.late in
              omega (arith, a, late_is, late_now, late_then)),
        )
      where
        from_none : (n : ℕ) → n ≡ 0 + n
        from_none n = omega arith

    spent : cause ≡ 1 → before.drawn - after.limit < after.drawn - after.limit
    spent one =
        let r = raised_one (let a = cause_is in omega (arith, one, a)) in
        let h = sat r.0 r.1 r.2 in
        let late = late_by r.1.view (record_of over.left.records r.0) h.0 h.1.cause (let a = cause_is in let c = r.3 in omega (arith, one, a, c)) in
        let above = all_above (λ v. v.late) seats r.0 r.1 r.2 in
        omega (arith, late, above, late_is, late_now, late_then)

    faulted : 3 ≤ cause → HasFault p over.left.records
    faulted some =
        let r = raised_one (let a = cause_is in omega (arith, some, a)) in
        let h = sat r.0 r.1 r.2 in
        let f = fault_by r.1.view (record_of over.left.records r.0) h.0 h.1.cause (let a = cause_is in let c = r.3 in omega (arith, some, a, c)) in
        (r.0, f.0, within r.0 r.1 r.2, f.1)

    module _ (visited now : ℕ) (now_is : now ≡ min after.drawn budget) (visited_is : visited ≡ now - visits) where
      visits_of_it : visited + (after.drawn - after.limit) ≡ all_of (λ v. v.drawn) seats + (before.drawn - after.limit)
      visits_of_it =
          let a = over.begun.visits_are in
          let c = over.begun.limit in
          let n : now ≡ min (before.drawn + all_of (λ v. v.drawn) seats) budget = omega (arith, now_is, drawn_is) in
          let h = visits_are budget before.drawn (all_of (λ v. v.drawn) seats) now visits visited n a visited_is in
          omega (arith, h, drawn_is, limit_is, c)

      are_left : (tally : BestTally) (best : ℕ) → lost ≡ false → tally.ends.items ≡ ends → tally.logs.items ≡ logs → tally.visited ≡ visited → IsBestFor after best → AreLeft b over.left.records before after tally cause
      are_left tally best kept ends_are logs_are same bests = record {
        inner = over.inner;
        long = over.left.long;
        together = over.left.together;
        ends = subst (λ (l : List Log). AreEnds p over.left.records tally.ends.items l) (sym logs_are) (subst (λ (l : List BestShardEnd). AreEnds p over.left.records l logs) (sym ends_are) over.left.handed);
        best_is = is_best;
        prunes = prunes_above best bests;
        gained = all_of (λ v. v.drawn) seats;
        drawn = drawn_is;
        few_drawn = few_drawn;
        late = late_now;
        visits = subst (λ (n : ℕ). n + (after.drawn - after.limit) ≡ all_of (λ v. v.drawn) seats + (before.drawn - after.limit)) (sym same) visits_of_it;
        cause_is = cause_is;
        all_done = all_done kept;
        spent = spent;
        faulted = faulted;
      }

      -- where a letter was lost, nothing is told but the number
      without_letter : IsBestEnd b before after (answers.Halted whys.Memory visited None)
      without_letter = (
        record {
          gained = all_of (λ v. v.drawn) seats;
          drawn = drawn_is;
          reached = (counted_law.together b over.left.records over.inner over.left.together).some (all_of (λ v. v.drawn) seats) few_drawn;
          late = late_now;
          visits = visits_of_it;
        },
        tt,
        record { cause_is = tt; best_is = λ other. absurd (other refl) },
        λ other. absurd (other refl),
      )

module _ (b : BestSearch) (budget visits : ℕ) (before : View) (seat : SeatFacts) (seats : List SeatFacts) (ends : List BestShardEnd) (logs : List Log) (lost : Bool) (over : IsOver b budget visits before seat.view seats ends logs lost)
    (now : ℕ) (counted : IsWhole seat.view → now ≡ min seat.view.drawn budget) where
  now_is : now ≡ min seat.view.drawn budget
  now_is = counted (whole b budget visits before seat.view seats ends logs lost over)

  -- the visits before a search are among those after it
  pub visits_more : visits ≤ now
  visits_more = let a = over.begun.visits_are in let c = drawn_is b budget visits before seat.view seats ends logs lost over in omega (arith, a, c, now_is)

  module _ (same : SeatFacts) (is : same ≡ seat) (drawn cause : ℕ) (counts : IsCountFor same.view drawn) (causes_are : IsCauseFor same.view cause) where
    caused : IsCauseFor seat.view cause
    caused = subst (λ (s : SeatFacts). IsCauseFor s.view cause) is causes_are

    drew : IsCountFor seat.view drawn
    drew = subst (λ (s : SeatFacts). IsCountFor s.view drawn) is counts

    pub told : (best : ℕ) → IsBestFor same.view best → lost ≡ false → (tally : BestTally) → tally.ends.items ≡ ends → tally.logs.items ≡ logs → tally.visited ≡ now - visits → AreLeft b over.left.records before seat.view tally cause
    told best bests kept tally ends_are logs_are visited =
        are_left b budget visits before seat.view seats ends logs lost over cause drawn caused drew tally.visited now now_is visited tally best kept ends_are logs_are refl (subst (λ (s : SeatFacts). IsBestFor s.view best) is bests)

    pub lost_letter : (visited : ℕ) → visited ≡ now - visits → (end : BestEnd) → end ≡ answers.Halted whys.Memory visited None → IsBestEnd b before seat.view end
    lost_letter visited visited_is end end_is =
        subst (λ (e : BestEnd). IsBestEnd b before seat.view e) (sym end_is)
        (without_letter b budget visits before seat.view seats ends logs lost over cause drawn caused drew visited now now_is visited_is)
