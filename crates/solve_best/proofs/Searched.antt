-- The run that a search ends is right, and its word is kept.
use Rattle.std.proofs.Common.{◌≡◌, ℕ, ◌+◌, ◌-◌, ◌<◌, ◌≤◌, inl, inr, Bool, true, false, List, Option, None, Some, ℤ, pos, refl, sym, ap, ◌∙◌, subst, ◌≤ℤ◌, arith}
use Rattle.std.specs.Prelude.{IfSome, ◌<ℤ◌}
use Rattle.std.proofs.lemmas.Int.{ints}
use Rattle.best_ends.specs.Ends.{HasDrawn, IsBestEnd, IsClosed, IsHalted}
use Rattle.best_ends.specs.declared.answers.BestEnd.{BestEnd}
use Rattle.best_ends.specs.declared.answers.BestEnd.TheVariants as ends
use Rattle.best_ledger.proofs.Ends.{concluded_law}
use Rattle.best_ledger.specs.Ends.{HasClosed, IsBestFound, no_word, verdict_of}
use Rattle.best_ledger.specs.Ends as laws
use Rattle.best_ledger.specs.Enough.{IsAtMostPriced}
use Rattle.best_ledger.specs.Ledgers.{ClosedBest}
use Rattle.best_ledger.specs.Right.{RightBest}
use Rattle.best_ledger.specs.Searches.{BestSearch, pass_of, search_of}
use Rattle.board_words.specs.Steps.{best_known}
use Rattle.board_words.specs.declared.seat.View.{View}
use Rattle.dp_model.specs.Costs.{InRange, order_word}
use Rattle.dp_model.specs.declared.answers.Cause.TheVariants as causes
use Rattle.dp_model.specs.declared.answers.FaultAt.{FaultAt}
use Rattle.dp_model.specs.declared.answers.Found.{Found}
use Rattle.dp_model.specs.declared.answers.Options.{Options}
use Rattle.dp_model.specs.declared.answers.Verdict.TheVariants as verdicts
use Rattle.dp_model.specs.declared.parts.JoinOp.{JoinOp}
use Rattle.dp_model.specs.declared.parts.JoinOp.TheVariants.{Plus, Most, Least}
use Rattle.dp_model.specs.declared.whole.Model.{Model}
use Rattle.dp_steps.specs.States.{Inner}
use Rattle.pass_ends.specs.Ends.{IsCause, IsLegal, IsLowered}
use Rattle.pass_ledger.specs.Passes.{word_of}
use Rattle.solve_best.proofs.Pairs.{priced_less}
use Rattle.solve_best.specs.Runs.{IsRight, run_after}
use Rattle.solve_best.specs.declared.runs.Run.{Run}

-- ---- words

-- the word of a cost of a legal list is below that of no solution
word_small : (minimize : Bool) (op : JoinOp) (c : ℤ) → InRange c → order_word minimize op (Some c) <ℤ pos no_word
word_small true Plus c within = omega (arith, ints, within.0, within.1)
word_small true Most c within = omega (arith, ints, within.0, within.1)
word_small true Least c within = omega (arith, ints, within.0, within.1)
word_small false Plus c within = omega (arith, ints, within.0, within.1)
word_small false Most c within = omega (arith, ints, within.0, within.1)
word_small false Least c within = omega (arith, ints, within.0, within.1)

above_none : (a b : ℕ) (x : ℤ) → a ≡ b → b ≡ no_word → pos a ≤ℤ x → x <ℤ pos no_word → ⊥
above_none a b x same e h less = omega (arith, ints, same, e, h, less)

-- ---- a search by a board of its own, whose best word was that of no solution

module _ (m : Model) (options : Options) (some : 1 ≤ options.workers) (inner : Inner m m.target) (before after : View)
    (fresh : before.drawn ≡ 0)
    (opening : best_known before ≡ no_word)
    (limited : after.limit ≡ options.budget) where
  abbrev b : BestSearch
  b = search_of m options some

  -- the visits stay within the budget, and there are as many pairs
  within : (visited : ℕ) → HasDrawn m before after visited → visited ≤ options.budget
  within visited h = omega (arith, h.drawn, h.visits, fresh, limited)

  reached : (visited : ℕ) → HasDrawn m before after visited → IsAtMostPriced m visited
  reached visited h = priced_less m h.gained visited h.reached (omega (arith, h.drawn, h.visits, fresh))

  -- ---- it closed

  found_is : (best : Option Found) → IsLegal m best → IsLowered (pass_of b) (best_known before) best (best_known after) → IsBestFound b no_word (best_known after) best
  found_is None legal lowered = elim lowered.is_one [ inl same ↦ same ∙ opening | inr new ↦ let e : None ≡ Some new.0 = new.1 in absurd (cc) ]
  found_is (Some f) legal lowered = (
    legal,
    elim lowered.is_one [
      | inl same ↦ absurd (above_none (best_known after) (best_known before) (word_of (pass_of b) f.cost) same opening lowered.no_worse (word_small m.minimize m.join f.cost legal.in_range))
      | inr one ↦
          let e : Some f ≡ Some one.0 = one.1 in
          let is : one.0 ≡ f = cc in
          one.2 ∙ ap (λ (x : Found). word_of (pass_of b) x.cost) is
    ],
  )

  has_closed : (visited : ℕ) (best : Option Found) → IsLegal m best → IsClosed b before after visited best → HasClosed b no_word (best_known after) visited best
  has_closed visited best legal h =
      record {
        records = h.records;
        ledger = h.ledger;
        closed = subst (λ (w : ℕ). ClosedBest (pass_of b) h.records w (best_known after)) opening h.closed;
        visits = h.visits;
        found_is = found_is best legal h.best_is;
      }

  closed : (visited : ℕ) (best : Option Found) → IsBestEnd b before after (ends.Closed visited best) → IsRight m options (run_after (ends.Closed visited best))
  closed visited best h =
      let ledger = has_closed visited best h.1 h.2 in
      let law = concluded_law.closed m options b (best_known after) visited best (refl, refl) inner (within visited h.0) ledger in
      (law.0, λ closes. (some, best_known after, ledger), law.1)

  -- ---- it was halted

  -- more than the budget was drawn
  spent : (visited : ℕ) → HasDrawn m before after visited → before.drawn - after.limit < after.drawn - after.limit → visited ≡ options.budget
  spent visited h over = omega (arith, h.drawn, h.visits, fresh, limited, over)

  one_more : (visited : ℕ) → HasDrawn m before after visited → before.drawn - after.limit < after.drawn - after.limit → IsAtMostPriced m (options.budget + 1)
  one_more visited h over = priced_less m h.gained (options.budget + 1) h.reached (omega (arith, h.drawn, fresh, limited, over))

  stopped : (visited : ℕ) (best : Option Found) → IsBestEnd b before after (ends.Halted causes.Budget visited best) → IsRight m options (run_after (ends.Halted causes.Budget visited best))
  stopped visited best h =
      let over = h.2.cause_is.1 in
      let whole = spent visited h.0 over in
      let right = concluded_law.stopped m options best h.1 (subst (IsAtMostPriced m) whole (reached visited h.0)) (one_more visited h.0 over) in
      (subst (λ (n : ℕ). RightBest m options (laws.run_of best n (verdicts.Stopped n))) (sym whole) right, λ closes. absurd closes, tt)

  faulted : (visited : ℕ) (best : Option Found) (fault : FaultAt) → IsBestEnd b before after (ends.Halted (causes.Fault fault) visited best) → IsRight m options (run_after (ends.Halted (causes.Fault fault) visited best))
  faulted visited best fault h = (concluded_law.fault m options best visited fault h.1 (within visited h.0) (reached visited h.0) h.2.cause_is.1, λ closes. absurd closes, tt)

  ran_out : (visited : ℕ) (best : Option Found) → IsBestEnd b before after (ends.Halted causes.Memory visited best) → IsRight m options (run_after (ends.Halted causes.Memory visited best))
  ran_out visited best h = (record { within_budget = within visited h.0; reached = reached visited h.0; legal = h.1; ending = tt }, λ closes. absurd closes, tt)

  -- ---- what the search ends is right

  right_after : (end : BestEnd) → IsBestEnd b before after end → IsRight m options (run_after end)
  right_after (ends.Closed visited best) h = closed visited best h
  right_after (ends.Halted causes.Budget visited best) h = stopped visited best h
  right_after (ends.Halted (causes.Fault fault) visited best) h = faulted visited best fault h
  right_after (ends.Halted causes.Memory visited best) h = ran_out visited best h

  pub searched : (end : BestEnd) (run : Run) → IsBestEnd b before after end → run ≡ run_after end → IsRight m options run
  searched end run h known = subst (IsRight m options) (sym known) (right_after end h)
