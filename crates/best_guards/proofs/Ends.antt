-- Answers of best-first searches, written out.
use Rattle.std.proofs.Common.{◌≡◌, ℕ, ◌+◌, ◌<◌, ◌≤◌, zero, suc, true, ◌⊎◌, inl, inr, List, [], ◌∷◌, Option, Some, None, Result, Ok, refl, sym, ap, subst, ◌∙◌, arith}
use Rattle.std.specs.Prelude.{ℤ, pos, ◌+ℤ◌, ◌≤ℤ◌}
use Rattle.std.proofs.lemmas.Int.{ints}
use Rattle.std.proofs.Math.Nat.{zero-lt-suc}
use denote.Hole.Carrier
use Rattle.board_words.specs.Rules.{no_word}
use Rattle.board_words.specs.declared.seat.View.{View}
use Rattle.dp_base.specs.Results.{◌>>=◌}
use Rattle.dp_model.specs.Evaluation.{num_value, operate, ArgValue, CondValue, NumValue, SetValue, arg_step, cond_step, num_step, set_step}
use Rattle.dp_model.specs.declared.answers.Cause.TheVariants as causes
use Rattle.dp_model.specs.declared.answers.FaultKind.{FaultKind}
use Rattle.dp_model.specs.declared.answers.FaultKind.TheVariants.{ZeroDivisor}
use Rattle.dp_model.specs.declared.answers.Found.{Found}
use Rattle.dp_model.specs.declared.answers.Spot.TheVariants as spots
use Rattle.dp_model.specs.declared.parts.PlainState.{PlainState}
use Rattle.dp_model.specs.declared.trees.Num.{Num}
use Rattle.dp_model.specs.declared.trees.Num as nums
use Rattle.dp_model.specs.declared.trees.NumOp.{NumOp}
use Rattle.dp_model.specs.declared.trees.NumOp.TheVariants as operations
use Rattle.dp_steps.specs.Faults.{MeetsIn}
use Rattle.pass_ledger.specs.Passes.{IsStart, word_of}
use Rattle.pass_ledger.specs.Records.{step_id, MeetsHere}
use Rattle.pass_ledger.specs.TwoWays.{at}
use Rattle.pass_ledger.specs.Worked.{plain, n0, held, word_3}
use Rattle.pass_ledger.specs.WorkedFault.{rest, split, faulty, first, fault}
use Rattle.pass_ledger.specs.declared.records.FaultHere.{FaultHere}
use Rattle.pass_ledger.specs.declared.records.Held.{Held}
use Rattle.pass_ledger.proofs.Lists.{has_none}
use Rattle.pass_ledger.proofs.TwoWays.{value_fixed, value_var}
use Rattle.pass_ledger.proofs.Worked.{none_is, only_one, some_is}
use Rattle.pass_ledger.proofs.WorkedFault.{worked_fault}
use Rattle.pass_ends.specs.Ends.{IsLowered}
use Rattle.best_ledger.specs.Enough.{IsAtMostPriced}
use Rattle.best_ledger.specs.Events.{fresh, visit_node, CanVisit}
use Rattle.best_ledger.specs.Laws.{visits_of}
use Rattle.best_ledger.specs.Histories.{came_from, to}
use Rattle.best_ledger.specs.Records.{IsPrefix, Own, Together, record_of}
use Rattle.best_ledger.specs.Searches.{pass_of}
use Rattle.best_ledger.specs.Worked.{alone, searched}
use Rattle.best_ledger.specs.declared.records.BestRecord.{BestRecord}
use Rattle.best_ledger.specs.declared.records.Moment.TheVariants.{Came, Visited}
use Rattle.best_ledger.proofs.Posts.{own_law}
use Rattle.best_ledger.proofs.Worked.{start_is, worked_law}
use Rattle.best_ledger.proofs.WorkedEnough.{three_enough}
use Rattle.best_ends.specs.Ends.{IsBestEnd, IsBestOf, IsClosed}
use Rattle.best_ends.specs.declared.answers.BestEnd.TheVariants as ends
use Rattle.best_guards.specs.Runs.{of_3, faulted}
use Rattle.best_guards.specs.Ends.{whole, before, Costs, meeting, other, LawWorkedClosed, LawWorkedHalted, LawWorkedBests}
use Rattle.best_guards.proofs.Runs.{list_3, three_priced, one_priced, faulty_target}

-- ---- best solutions

abbrev word : ℤ → ℤ
word c = pos 9223372036854775808 +ℤ c

same_word : (c : ℤ) → pos word_3 ≡ word c → c ≡ pos 3
same_word c e = omega (arith, ints, e)

-- the word of 3 is less than that of no solution, so a list of cost 3 was found
found_3 : (best : Option Found) → IsLowered (pass_of alone) no_word best word_3 → Costs best (pos 3)
found_3 best h = of_one h.is_one
  where
    of_one : (word_3 ≡ no_word) ⊎ ((f : Found) × (best ≡ Some f) × (pos word_3 ≡ word f.cost)) → Costs best (pos 3)
    of_one (inl e) = absurd (omega (arith, e))
    of_one (inr (f, is, w)) = (f, is, same_word f.cost w)

eleven_three : pos 11 ≡ pos 3 → ⊥
eleven_three e = absurd (omega (arith, ints, e))

word_least : (h : Held) → held (pos 3) 2 3 ≡ h → word (pos 3) ≤ℤ word h.cost
word_least h e = subst (λ (x : Held). word (pos 3) ≤ℤ word x.cost) e (omega (arith, ints))

holds_3 : (i : ℕ) (h : Held) → i < 1 → (record_of (searched ∷ []) i).held ≡ Some h → held (pos 3) 2 3 ≡ h
holds_3 zero h lt is = some_is (held (pos 3) 2 3) h is
holds_3 (suc i) h lt is = absurd (omega (arith, lt))

held_least : (i : ℕ) (h : Held) → i < 1 → (record_of (searched ∷ []) i).held ≡ Some h → word (pos 3) ≤ℤ word h.cost
held_least i h lt is = word_least h (holds_3 i h lt is)

best_of_3 : IsBestOf alone (searched ∷ []) (Some of_3)
best_of_3 = ((0, held (pos 3) 2 3, zero-lt-suc 0, refl, refl), held_least)

-- ---- closed searches

lowered_3 : IsLowered (pass_of alone) no_word (Some of_3) word_3
lowered_3 = record { no_greater = omega arith; no_worse = omega (arith, ints); is_one = inr (of_3, refl, refl) }

closed : IsBestEnd alone before (whole 4 3 0 word_3) (ends.Closed 3 (Some of_3))
closed = (
  record { gained = 3; drawn = refl; reached = three_priced; late = refl; visits = refl },
  list_3,
  record {
    records = searched ∷ [];
    ledger = worked_law.ledger;
    closed = worked_law.closed;
    visits = refl;
    best_is = lowered_3;
    held_is = best_of_3;
    no_halt = refl;
    on_time = refl;
  },
)

three_drawn : (visited gained : ℕ) → 3 ≡ 0 + gained → visited + 0 ≡ gained + 0 → visited ≡ 3
three_drawn visited gained e f = omega (arith, e, f)

four_drawn : (gained : ℕ) → 4 ≡ 0 + gained → IsAtMostPriced plain gained → ⊥
four_drawn gained e h = three_enough (subst (IsAtMostPriced plain) (is_four gained e) h)
  where
    is_four : (n : ℕ) → 4 ≡ 0 + n → ◌≡◌ {A = ℕ} n 4
    is_four n e = omega (arith, e)

one_zero : ◌≡◌ {A = ℕ} 1 0 → ⊥
one_zero e = absurd (omega (arith, e))

three_zero : ◌≡◌ {A = ℕ} 3 0 → ⊥
three_zero e = absurd (omega (arith, e))

-- what the shard of the worked ledger holds costs 3, and so does the best that its shards hold
costs_3 : (best : Option Found) → IsBestOf alone (searched ∷ []) best → Costs best (pos 3)
costs_3 None h = absurd (none_is (held (pos 3) 2 3) (sym (h 0 (zero-lt-suc 0))))
costs_3 (Some f) h = (f, refl, sym h.0.4 ∙ ap (λ (x : Held). x.cost) (sym (holds_3 h.0.0 h.0.1 h.0.2 h.0.3)))

only_of_ledger : (v w : View) (visited : ℕ) (best : Option Found) (c : IsClosed alone v w visited best) → c.records ≡ searched ∷ [] → (visited ≡ 3) × Costs best (pos 3)
only_of_ledger v w visited best c e = (c.visits ∙ ap (λ (rs : List BestRecord). visits_of rs 1) e, costs_3 best (subst (λ (rs : List BestRecord). IsBestOf alone rs best) e c.held_is))

pub worked_closed : LawWorkedClosed
worked_closed =
    record {
      closed = closed;
      only = λ visited best h. (three_drawn visited h.0.gained h.0.drawn h.0.visits, found_3 best h.2.best_is);
      only_of_ledger = only_of_ledger;
      was_halted = λ visited best h. three_zero h.2.no_halt;
      late = λ visited best h. one_zero h.2.on_time;
      too_many = λ visited best h. four_drawn h.0.gained h.0.drawn h.0.reached;
    }

-- ---- halted searches

abbrev begun : BestRecord
begun = fresh 1 (Some n0)

begun_together : Together (pass_of alone) (begun ∷ [])
begun_together =
    record {
      own = only_one (λ i. Own (pass_of alone) i (record_of (begun ∷ []) i)) (own_law.begins (pass_of alone) 0 (Some n0) (start_is, refl));
      prefix = λ i j li lj. only_one (λ a. IsPrefix (came_from j (record_of (begun ∷ []) a).history) (to (record_of (begun ∷ []) j).posted a)) (to (record_of (begun ∷ []) j).posted 0, refl) i li;
    }

none_better : IsLowered (pass_of alone) no_word None no_word
none_better = record { no_greater = omega arith; no_worse = tt; is_one = inl refl }

spent : IsBestEnd alone (whole 0 0 0 no_word) (whole 0 1 1 no_word) (ends.Halted causes.Budget 0 None)
spent = (
  record { gained = 1; drawn = refl; reached = one_priced; late = refl; visits = refl },
  tt,
  record { cause_is = (refl, zero-lt-suc 0); best_is = λ no. none_better },
  λ no. record {
    records = begun ∷ [];
    long = refl;
    together = begun_together;
    held_is = only_one (λ i. (record_of (begun ∷ []) i).held ≡ None) refl;
    best_is = record { opening_above = omega arith; held_above = λ i h li e. only_one (λ j. (record_of (begun ∷ []) j).held ≡ Some h → pos no_word ≤ℤ word_of (pass_of alone) h.cost) (λ e. absurd (none_is h e)) i li e; is_one = inl refl };
  },
)

no_visit : (visited gained : ℕ) → 1 ≡ 0 + gained → visited + 1 ≡ gained + 0 → visited ≡ 0
no_visit visited gained e f = omega (arith, e, f)

-- the bound of the target: 1 / 2 is 0
value_op : (op : NumOp) (x y : Num) → num_value faulty (at 0) (nums.Op op x y) [] ≡ (num_value faulty (at 0) x [] >>= λ a. num_value faulty (at 0) y [] >>= λ b. operate op a b)
unfolding nums.roll-Num denote.Hole.Carrier.roll
value_op op x y = ap (λ (f : NumValue). f []) (nums.fold-roll-Num ArgValue CondValue NumValue SetValue arg_step (cond_step faulty (at 0)) (num_step faulty (at 0)) (set_step faulty (at 0)) (nums.Num-F.Num::Op op x y))

operated : (op : NumOp) (x y : Num) (a b : ℤ) → num_value faulty (at 0) x [] ≡ Ok a → num_value faulty (at 0) y [] ≡ Ok b → num_value faulty (at 0) (nums.Op op x y) [] ≡ operate op a b
operated op x y a b e f = value_op op x y ∙ both (num_value faulty (at 0) x []) (num_value faulty (at 0) y []) e f
  where
    both : (r q : Result ℤ FaultKind) → r ≡ Ok a → q ≡ Ok b → ◌≡◌ {A = Result ℤ FaultKind} (r >>= λ x. q >>= λ y. operate op x y) (operate op a b)
    both r q e f = rw e (rw f refl)

half : num_value faulty (at 0) split [] ≡ Ok (pos 0)
half =
    operated operations.Over (nums.Fixed (pos 1)) rest (pos 1) (pos 2) (value_fixed faulty (at 0) [] (pos 1))
    (operated operations.Minus (nums.Fixed (pos 2)) (nums.Var 0) (pos 2) (pos 0) (value_fixed faulty (at 0) [] (pos 2)) (value_var faulty (at 0) [] 0))

first_is : IsStart (pass_of meeting) first
first_is = record { state = refl; cost = refl; floor = (refl, (pos 0, (pos 0, [], rw half refl, refl), refl)); parent = refl }

-- the fault is met by the step of the list that meets it
abbrev IsMetIn : Option ℤ → PlainState → Type 0
IsMetIn cost s = MeetsIn faulty true cost s (spots.Bound 0) ZeroDivisor

meets : MeetsHere (pass_of meeting) first fault
meets =
    let met = worked_fault.met in
    let path = met.2 in
    (path.1, path.0, path.2, path.3, subst (λ (c : Option ℤ). IsMetIn c path.0) (sym path.4.1) (subst (IsMetIn met.1) (sym path.4.0) met.3))

abbrev halted : BestRecord
halted = visit_node (fresh 1 (Some first)) 1 first [] [] [] None (Some fault)

can_visit : CanVisit (pass_of meeting) 0 (fresh 1 (Some first)) 1 first [] [] [] None (Some fault)
can_visit =
    record {
      fine = refl;
      is_open = record { before = []; after = []; was = refl; is = refl };
      above_letters = λ x h. absurd (has_none (Came x) h);
      above_visits = λ w h. absurd (has_none (Visited w) h);
      accounted = inr refl;
      each_made = λ u h. absurd (has_none u h);
      once = tt;
      each_pruned = λ q h. absurd (has_none q h);
      held_after = λ h e. absurd (none_is h e);
      no_worse = λ total h. h;
      met = λ f e. subst (λ (x : FaultHere). (x.at ≡ step_id 0 0) × MeetsHere (pass_of meeting) first x) (some_is fault f e) (refl, meets);
    }

halted_together : Together (pass_of meeting) (halted ∷ [])
halted_together =
    record {
      own = only_one (λ i. Own (pass_of meeting) i (record_of (halted ∷ []) i))
          (own_law.visits (pass_of meeting) 0 (fresh 1 (Some first)) (own_law.begins (pass_of meeting) 0 (Some first) (first_is, refl)) 1 first [] [] [] None (Some fault) can_visit);
      prefix = λ i j li lj. only_one (λ a. IsPrefix (came_from j (record_of (halted ∷ []) a).history) (to (record_of (halted ∷ []) j).posted a)) (to (record_of (halted ∷ []) j).posted 0, refl) i li;
    }

none_lower : IsLowered (pass_of meeting) no_word None no_word
none_lower = record { no_greater = omega arith; no_worse = tt; is_one = inl refl }

fault_met : IsBestEnd meeting before (whole 4 1 3 no_word) (ends.Halted (causes.Fault faulted) 1 None)
fault_met = (
  record { gained = 1; drawn = refl; reached = faulty_target; late = refl; visits = refl },
  tt,
  record { cause_is = (omega arith, worked_fault.met); best_is = λ no. none_lower },
  λ no. record {
    records = halted ∷ [];
    long = refl;
    together = halted_together;
    held_is = only_one (λ i. (record_of (halted ∷ []) i).held ≡ None) refl;
    best_is = record { opening_above = omega arith; held_above = λ i h li e. only_one (λ j. (record_of (halted ∷ []) j).held ≡ Some h → pos no_word ≤ℤ word_of (pass_of meeting) h.cost) (λ e. absurd (none_is h e)) i li e; is_one = inl refl };
  },
)

-- ---- causes that are not

zero_one : ◌≡◌ {A = ℕ} 0 1 → ⊥
zero_one e = absurd (omega (arith, e))

two_one : ◌≡◌ {A = ℕ} 2 1 → ⊥
two_one e = absurd (omega (arith, e))

three_one : ◌≡◌ {A = ℕ} 3 1 → ⊥
three_one e = absurd (omega (arith, e))

three_below : 3 ≤ 1 → ⊥
three_below le = absurd (omega (arith, le))

not_less : (n : ℕ) → n < n → ⊥
not_less n lt = absurd (omega (arith, lt))

not_memory : causes.Budget ≡ causes.Memory → ⊥
not_memory e = cc

word_low : pos no_word ≤ℤ word (pos 3) → ⊥
word_low le = absurd (omega (arith, ints, le))

by_none : (word_3 ≡ no_word) ⊎ ((f : Found) × (None ≡ Some f) × (pos word_3 ≡ word f.cost)) → ⊥
by_none (inl e) = absurd (omega (arith, e))
by_none (inr (f, is, w)) = none_is f is

pub worked_halted : LawWorkedHalted
worked_halted =
    record {
      spent = spent;
      no_visit = λ visited best h. no_visit visited h.0.gained h.0.drawn h.0.visits;
      fault = fault_met;
      fault_not_raised = λ visited best h. three_below h.2.cause_is.0;
      fault_not_met = λ visited best h. worked_fault.with_pruning_off (1 ∷ []) 0 ZeroDivisor h.2.cause_is.1;
      no_halt = λ visited best h. zero_one h.2.cause_is.0;
      want_of_memory = λ visited best h. two_one h.2.cause_is.0;
      a_fault = λ visited best h. three_one h.2.cause_is.0;
      none_late = λ visited best h. not_less 0 h.2.cause_is.1;
      not_lowered = λ limit drawn visited h. word_low (h.2.best_is not_memory).no_worse;
      lowered_by_none = λ limit drawn visited h. by_none (h.2.best_is not_memory).is_one;
    }

-- ---- the best that the shards hold

three_least : (i : ℕ) (h : Held) → i < 2 → (record_of (other ∷ searched ∷ []) i).held ≡ Some h → word (pos 3) ≤ℤ word h.cost
three_least zero h lt is = subst (λ (x : Held). word (pos 3) ≤ℤ word x.cost) (some_is (held (pos 11) 1 2) h is) (omega (arith, ints))
three_least (suc zero) h lt is = word_least h (some_is (held (pos 3) 2 3) h is)
three_least (suc (suc i)) h lt is = absurd (omega (arith, lt))

eleven_low : word (pos 11) ≤ℤ word (pos 3) → ⊥
eleven_low le = absurd (omega (arith, ints, le))

none_holds : (i : ℕ) (h : Held) → i < 1 → (record_of (begun ∷ []) i).held ≡ Some h → ⊥
none_holds zero h lt is = none_is h is
none_holds (suc i) h lt is = absurd (omega (arith, lt))

pub worked_bests : LawWorkedBests
worked_bests =
    record {
      held = best_of_3;
      not_told = λ h. none_is (held (pos 3) 2 3) (sym (h 0 (zero-lt-suc 0)));
      another = λ h. eleven_low (h.1 0 (held (pos 3) 2 3) (zero-lt-suc 0) refl);
      none_held = only_one (λ i. (record_of (begun ∷ []) i).held ≡ None) refl;
      not_held = λ h. none_holds h.0.0 h.0.1 h.0.2 h.0.3;
      of_both = ((1, held (pos 3) 2 3, omega arith, refl, refl), three_least);
      first_alone = λ h. eleven_low (h.1 1 (held (pos 3) 2 3) (omega arith) refl);
    }
