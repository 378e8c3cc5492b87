-- Answers of passes, written out.
use Rattle.std.proofs.Common.{◌≡◌, ℕ, ◌+◌, ◌*◌, ◌^◌, ◌<◌, ◌≤◌, zero, suc, true, false, ◌⊎◌, inl, inr, List, [], ◌∷◌, length, Option, Some, None, refl, sym, ap, subst, ◌∙◌, arith}
use Rattle.std.specs.Prelude.{ℤ, pos, ◌≤ℤ◌}
use Rattle.std.proofs.lemmas.Int.{ints}
use Rattle.std.proofs.Math.Nat.{mul-le-mul_left, zero-lt-suc}
use Rattle.board_words.specs.Steps.{best_known}
use Rattle.board_words.specs.declared.seat.View.{View}
use Rattle.dom_store.specs.Order.{IsLeastFloor}
use Rattle.dp_claims.specs.Enough.{Has, ArePairs, AreOf}
use Rattle.dp_model.specs.declared.answers.Cause.TheVariants as causes
use Rattle.dp_model.specs.declared.answers.FaultKind.TheVariants.{ZeroDivisor}
use Rattle.dp_model.specs.declared.answers.Found.{Found}
use Rattle.dp_model.specs.declared.answers.Keep.TheVariants as keeps
use Rattle.dp_model.specs.declared.parts.JoinOp.TheVariants.{Plus}
use Rattle.dp_model.specs.declared.parts.PlainState.{PlainState}
use Rattle.dp_steps.specs.Bounds.{IsFloor}
use Rattle.pass_ledger.specs.Counts.{visits_of, IsWider}
use Rattle.pass_ledger.specs.Ledgers.{IsClosedOf, IsLedgerOf}
use Rattle.pass_ledger.specs.Passes.{IsStart, word_of}
use Rattle.pass_ledger.specs.Records.{Starts, record_of, visit_of}
use Rattle.pass_ledger.specs.Rows.{row}
use Rattle.pass_ledger.specs.TwoWays.{at}
use Rattle.pass_ledger.specs.Worked.{plain, alone, n2, first_pass, held, word_11, word_3, no_word}
use Rattle.pass_ledger.specs.WorkedEnough.{three_pairs}
use Rattle.pass_ledger.specs.WorkedFloors.{pruning, dropping, f2}
use Rattle.pass_ledger.specs.declared.records.Held.{Held}
use Rattle.pass_ledger.specs.declared.records.ShardRecord.{ShardRecord}
use Rattle.pass_ledger.specs.declared.records.Visit.{Visit}
use Rattle.pass_ledger.proofs.Lists.{has_none}
use Rattle.pass_ledger.proofs.Worked.{first_law, has_one, has_two, layer_alone, none_is, some_is}
use Rattle.pass_ledger.proofs.WorkedEnough.{worked_enough}
use Rattle.pass_ledger.proofs.WorkedFault.{worked_fault}
use Rattle.pass_ends.specs.Ends.{IsClosed, IsLowered, dropped_of}
use Rattle.state_layout.specs.declared.node.Node.{Node}
use Rattle.end_guards.specs.Ends.{whole, before, best_11, best_3, Costs, LawWorkedCauses, LawWorkedDraws, LawWorkedClosed, LawWorkedHalted}

zero_one : ◌≡◌ {A = ℕ} 0 1 → ⊥
zero_one e = absurd (omega (arith, e))

two_one : ◌≡◌ {A = ℕ} 2 1 → ⊥
two_one e = absurd (omega (arith, e))

three_one : ◌≡◌ {A = ℕ} 3 1 → ⊥
three_one e = absurd (omega (arith, e))

three_zero : ◌≡◌ {A = ℕ} 3 0 → ⊥
three_zero e = absurd (omega (arith, e))

one_zero : ◌≡◌ {A = ℕ} 1 0 → ⊥
one_zero e = absurd (omega (arith, e))

not_less : (n : ℕ) → n < n → ⊥
not_less n lt = absurd (omega (arith, lt))

three_below : 3 ≤ 1 → ⊥
three_below le = absurd (omega (arith, le))

-- ---- causes

pub worked_causes : LawWorkedCauses
worked_causes =
    record {
      budget = (refl, zero-lt-suc 0);
      no_halt = λ h. zero_one h.0;
      want_of_memory = λ h. two_one h.0;
      a_fault = λ h. three_one h.0;
      none_late = λ h. not_less 0 h.1;
      late_before = λ h. not_less 1 h.1;
      fault = (omega arith, worked_fault.met);
      fault_not_raised = λ h. three_below h.0;
      fault_not_met = λ h. worked_fault.with_pruning_off (1 ∷ []) 0 ZeroDivisor h.1;
    }

-- ---- draws

-- two of the three pairs have one length
abbrev two_pairs : List (ℕ × PlainState)
two_pairs = (1, at 1) ∷ (1, at 2) ∷ []

two_are : ArePairs plain keeps.Layer two_pairs
two_are = let three = worked_enough.reached keeps.Layer in record { different = three.different.1; each = λ q h. three.each q (suc h.0, h.1) }

of_one : AreOf 1 two_pairs
of_one q h = elim (has_two (1, at 1) (1, at 2) q h) [ inl e ↦ ap (λ (x : ℕ × PlainState). x.0) (sym e) | inr e ↦ ap (λ (x : ℕ × PlainState). x.0) (sym e) ]

-- there are no more than three pairs, since six visits are enough
three_at_most : (pairs : List (ℕ × PlainState)) → ArePairs plain keeps.Layer pairs → length pairs ≤ 3
three_at_most pairs are = let e = worked_enough.enough keeps.Layer in within e.k e.r e.width (length pairs) (e.reached pairs are) (e.widest 1 two_pairs two_are of_one) e.doubled e.within
  where
    within : (k r width n : ℕ) → n ≤ r → 2 ≤ width → width ≤ 2 ^ k → r * (k + 1) ≤ 6 → n ≤ 3
    within zero r width n a b c d = absurd (omega (arith, b, c))
    within (suc k) r width n a b c d = let more : r * 2 ≤ r * (suc k + 1) = mul-le-mul_left r (omega arith) in omega (arith, a, d, more)

drawn_two : (visited gained : ℕ) → 5 ≡ 2 + gained → visited + 1 ≡ gained + 0 → visited ≡ 2
drawn_two visited gained e f = omega (arith, e, f)

four : (gained n : ℕ) → 6 ≡ 2 + gained → n ≡ gained → n ≤ 3 → ⊥
four gained n e f le = absurd (omega (arith, e, f, le))

pub worked_draws : LawWorkedDraws
worked_draws =
    record {
      two = record { gained = 3; drawn = refl; reached = (three_pairs, worked_enough.reached keeps.Layer, refl); late = refl; visits = refl };
      no_other = λ visited h. drawn_two visited h.gained h.drawn h.visits;
      not_four = λ visited h. four h.gained (length h.reached.0) h.drawn h.reached.2 (three_at_most h.reached.0 h.reached.1);
    }

-- ---- closed passes

lowered_11 : IsLowered (alone 1) no_word (Some best_11) word_11
lowered_11 = record { no_greater = omega arith; no_worse = omega (arith, ints); is_one = inr (best_11, refl, refl) }

wider : IsWider (alone 1)
wider = (1, two_pairs, two_are, of_one, omega arith)

-- the one shard holds this solution
held_least : (i : ℕ) (h : Held) → i < 1 → (record_of (first_pass ∷ []) i).held ≡ Some h → word_of (alone 1) (pos 11) ≤ℤ word_of (alone 1) h.cost
held_least zero h lt is = subst (λ (x : Held). word_of (alone 1) (pos 11) ≤ℤ word_of (alone 1) x.cost) (some_is (held (pos 11) 1 2) h is) (omega (arith, ints))
held_least (suc i) h lt is = absurd (omega (arith, lt))

closed : IsClosed (alone 1) before (whole 4 0 word_11) 2 1 None (Some best_11)
closed =
    record {
      records = first_pass ∷ [];
      ledger = first_law.0;
      closed = first_law.1;
      visits = refl;
      drops = refl;
      floor_is = inr (n2, (0, refl), refl);
      best_is = lowered_11;
      held_is = ((0, held (pos 11) 1 2, zero-lt-suc 0, refl, refl), held_least);
      no_halt = refl;
      on_time = refl;
      wider = λ some. wider;
      small_share = λ some. omega arith;
    }

-- the word of 11 is less than that of no solution, so a list of cost 11 was found
found_11 : (best : Option Found) → (word_11 ≡ no_word) ⊎ ((f : Found) × (best ≡ Some f) × (pos word_11 ≡ word_of (alone 1) f.cost)) → Costs best (pos 11)
found_11 best (inl e) = absurd (omega (arith, e))
found_11 best (inr (f, is, w)) = (f, is, cost_is f.cost w)
  where
    cost_is : (c : ℤ) → pos word_11 ≡ word_of (alone 1) c → c ≡ pos 11
    cost_is c e = omega (arith, ints, e)

-- the dropped node has no floor
no_floor : (floor : Option ℤ) → IsLeastFloor true Plus (n2 ∷ []) floor → floor ≡ None
no_floor None h = refl
no_floor (Some f) h = let first = h.1 n2 (0, refl) in absurd (none_is first.0 first.1)

only : (visited dropped : ℕ) (floor : Option ℤ) (best : Option Found) (c : IsClosed (alone 1) before (whole 4 0 word_11) visited dropped floor best)
    → c.records ≡ first_pass ∷ [] → (visited ≡ 2) × (dropped ≡ 1) × (floor ≡ None) × Costs best (pos 11)
only visited dropped floor best c e = (
  c.visits ∙ ap (λ (rs : List ShardRecord). visits_of rs 1) e,
  c.drops ∙ ap (λ (rs : List ShardRecord). length (dropped_of rs 1)) e,
  no_floor floor (subst (λ (rs : List ShardRecord). IsLeastFloor true Plus (dropped_of rs 1) floor) e c.floor_is),
  found_11 best c.best_is.is_one,
)

-- that with floors dropped a node whose floor is 3
floor_3 : (floor : Option ℤ) → IsLeastFloor true Plus (f2 ∷ []) floor → floor ≡ Some (pos 3)
floor_3 None (inl e) = let no : f2 ∷ [] ≡ [] = e in absurd (cc)
floor_3 None (inr (n, h, e)) = let is : Some (pos 3) ≡ None = ap (λ (x : Node). x.floor) (has_one f2 n h) ∙ e in absurd (cc)
floor_3 (Some f) h = sym (ap (λ (x : Node). x.floor) (has_one f2 h.0.0 h.0.1) ∙ h.0.2)

only_floor : (visited dropped : ℕ) (floor : Option ℤ) (best : Option Found) (c : IsClosed pruning before (whole 4 0 word_11) visited dropped floor best)
    → c.records ≡ dropping ∷ [] → (visited ≡ 2) × (dropped ≡ 1) × (floor ≡ Some (pos 3)) × Costs best (pos 11)
only_floor visited dropped floor best c e = (
  c.visits ∙ ap (λ (rs : List ShardRecord). visits_of rs 1) e,
  c.drops ∙ ap (λ (rs : List ShardRecord). length (dropped_of rs 1)) e,
  floor_3 floor (subst (λ (rs : List ShardRecord). IsLeastFloor true Plus (dropped_of rs 1) floor) e c.floor_is),
  found_11 best c.best_is.is_one,
)

-- ---- in any ledger the target's node is visited

started : (start : Option Node) → Starts (alone 1) 0 start → (n : Node) × (start ≡ Some n) × IsStart (alone 1) n
started None h = absurd (h refl)
started (Some n) h = (n, refl, h.0)

first_of : (ns : List Node) → length ns ≡ 1 → (n : Node) × Has ns n
first_of [] e = absurd (zero_one e)
first_of (n ∷ ns) e = (n, (0, refl))

some_long : (vs : List Visit) (v : Visit) → Has vs v → 0 ≡ 0 + length vs → ⊥
some_long [] v h e = has_none v h
some_long (w ∷ vs) v h e = none_more (length vs) e
  where
    none_more : (n : ℕ) → 0 ≡ 0 + suc n → ⊥
    none_more n e = absurd (omega (arith, e))

-- with pruning off the target's node has no floor
no_start_floor : (n : Node) (f : ℤ) → IsStart (alone 1) n → n.floor ≡ Some f → ⊥
no_start_floor n f start e = without n.floor f e start.floor
  where
    without : (o : Option ℤ) (f : ℤ) → o ≡ Some f → IsFloor plain false n.state n.cost o → ⊥
    without None f e h = none_is f e
    without (Some g) f e h = let no : false ≡ true = h.0 in cc

module _ (r : ShardRecord) (layers best : ℕ) (ledger : IsLedgerOf (alone 1) r) (c : IsClosedOf (alone 1) 0 layers best r) where
  kept_one : (n : Node) × Has (row r.rows 0).kept n
  kept_one =
      let s = started r.start c.target in
      elim (c.covered 0 s.0 s.1) [
        | inl (m, inl h, covers) ↦ (m, h)
        | inl (m, inr h, covers) ↦ first_of (row r.rows 0).kept ((ledger.rows 0).full m h)
        | inr all ↦ absurd (layer_alone all.0)
      ]

  visits_one : (n : Node) → Has (row r.rows 0).kept n → Has r.visits (visit_of 0 n)
  visits_one n h =
      elim (c.fates 0 n h) [
        | inl p ↦ absurd (
            let q = c.pruned (record { node = n; best = p.0 }) p.1 in
            let s = started r.start c.target in
            let same = some_is s.0 n (sym s.1 ∙ (ledger.rows 0).kept n h) in
            no_start_floor n q.1.0 (subst (IsStart (alone 1)) same s.2) q.1.1)
        | inr v ↦ v
      ]

some_visit : (v w : View) (dropped : ℕ) (floor : Option ℤ) (best : Option Found) → IsClosed (alone 1) v w 0 dropped floor best → ⊥
some_visit v w dropped floor best c =
    let r = record_of c.records 0 in
    let closed_0 = c.closed.shards 0 (zero-lt-suc 0) in
    let ledger_0 = c.ledger.shards 0 (zero-lt-suc 0) in
    let one = kept_one r c.closed.layers (best_known w) ledger_0 closed_0 in
    some_long r.visits (visit_of 0 one.0) (visits_one r c.closed.layers (best_known w) ledger_0 closed_0 one.0 one.1) c.visits

pub worked_closed : LawWorkedClosed
worked_closed =
    record {
      closed = closed;
      only = only;
      only_floor = only_floor;
      some_visit = some_visit;
      no_halt = λ visited dropped floor best c. three_zero c.no_halt;
      none_late = λ visited dropped floor best c. one_zero c.on_time;
    }

-- ---- halted passes

not_memory : causes.Budget ≡ causes.Memory → ⊥
not_memory e = cc

word_low : pos no_word ≤ℤ word_of (alone 2) (pos 3) → ⊥
word_low le = absurd (omega (arith, ints, le))

word_11_low : pos word_11 ≤ℤ word_of (alone 2) (pos 3) → ⊥
word_11_low le = absurd (omega (arith, ints, le))

lowered_by_none : IsLowered (alone 2) no_word None word_3 → ⊥
lowered_by_none h = one h.is_one
  where
    one : (word_3 ≡ no_word) ⊎ ((f : Found) × (None ≡ Some f) × (pos word_3 ≡ word_of (alone 2) f.cost)) → ⊥
    one (inl e) = absurd (omega (arith, e))
    one (inr (f, is, w)) = none_is f is

lowered_by_11 : IsLowered (alone 2) no_word (Some best_11) word_3 → ⊥
lowered_by_11 h = one h.is_one
  where
    differ : (c : ℤ) → pos 11 ≡ c → pos word_3 ≡ word_of (alone 2) c → ⊥
    differ c e w = absurd (omega (arith, ints, e, w))

    one : (word_3 ≡ no_word) ⊎ ((f : Found) × (Some best_11 ≡ Some f) × (pos word_3 ≡ word_of (alone 2) f.cost)) → ⊥
    one (inl e) = absurd (omega (arith, e))
    one (inr (f, is, w)) = differ f.cost (ap (λ (x : Found). x.cost) (some_is best_11 f is)) w

pub worked_halted : LawWorkedHalted
worked_halted =
    record {
      lowered = record { cause_is = (refl, zero-lt-suc 0); best_is = λ no. record { no_greater = omega arith; no_worse = omega (arith, ints); is_one = inr (best_3, refl, refl) } };
      nothing_found = record { cause_is = (refl, zero-lt-suc 0); best_is = λ no. record { no_greater = omega arith; no_worse = tt; is_one = inl refl } };
      not_lowered = λ h. word_low (h.best_is not_memory).no_worse;
      lowered_by_none = λ h. lowered_by_none (h.best_is not_memory);
      lowered_by_a_worse_one = λ h. lowered_by_11 (h.best_is not_memory);
      lowered_too_little = λ h. word_11_low (h.best_is not_memory).no_worse;
    }
