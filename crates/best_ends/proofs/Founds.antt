-- What the shards handed back leads to the target along the logs: a legal list of the best solution, and a list that meets a fault.
use Rattle.std.proofs.Common.{◌≡◌, ℕ, ◌≤◌, ◌<◌, inl, inr, zero, suc, Bool, List, [], ◌∷◌, ◌++◌, length, slice_get, reverse, Option, Some, None, Result, Ok, Err, refl, sym, subst, ◌∙◌, arith}
use Rattle.std.specs.Prelude.{IfOk, IfSome, ℤ, pos, ◌≤ℤ◌, option_to_list}
use Rattle.std.specs.declared.alloc.AllocError.{AllocError}
use Rattle.std.proofs.lemmas.Int.{ints}
use Rattle.std.proofs.lemmas.Option.{slice_get_within}
use Rattle.board_words.specs.Steps.{best_known}
use Rattle.board_words.specs.declared.seat.View.{View}
use Rattle.cost_laws.specs.Orders.{InWideRange, IsLawOf}
use Rattle.dp_model.specs.Costs.{InRange}
use Rattle.dp_model.specs.declared.answers.FaultAt.{FaultAt}
use Rattle.dp_model.specs.declared.answers.FaultKind.{FaultKind}
use Rattle.dp_model.specs.declared.answers.Found.{Found}
use Rattle.dp_model.specs.declared.answers.Spot.{Spot}
use Rattle.dp_model.specs.declared.parts.JoinOp.{JoinOp}
use Rattle.dp_steps.specs.Faults.{Meets}
use Rattle.dp_steps.specs.Lists.{Solution}
use Rattle.path_log.specs.Paths as paths
use Rattle.path_log.specs.Paths.{Log}
use Rattle.best_ledger.specs.Logs.{AreLogs}
use Rattle.pass_ledger.specs.Passes.{Pass, word_of}
use Rattle.best_ledger.specs.Histories.{visits_in}
use Rattle.best_ledger.specs.Records.{record_of, IsHeld}
use Rattle.best_ledger.specs.Searches.{BestSearch, pass_of}
use Rattle.pass_ledger.specs.declared.records.FaultHere.{FaultHere}
use Rattle.pass_ledger.specs.declared.records.Held.{Held}
use Rattle.best_ledger.specs.declared.records.BestRecord.{BestRecord}
use Rattle.best_ledger.specs.declared.records.BestVisit.{BestVisit}
use Rattle.best_ledger.proofs.Closing.{records_law}
use Rattle.best_ledger.proofs.Logs.{logs_law}
use Rattle.best_shard.specs.Calls.{IsEnd}
use Rattle.best_shard.specs.declared.shard.BestShardEnd.{BestShardEnd}
use Rattle.shard_core.proofs.Rows.{by_law}
use Rattle.pass_ends.specs.Ends.{IsLowered}
use Rattle.best_ends.specs.Ends.{IsBestOf}
use Rattle.best_ends.specs.Left.{AreEnds, AreLeft, AreWide, IsBestHeld, IsSomeFault}
use Rattle.best_ends.specs.declared.tally.BestTally.{BestTally}
use Rattle.best_ends.proofs.Best.{no_held}

-- the range of costs lies in that of the order words
pub wide : (n : ℤ) → InRange n → InWideRange n
wide n h = (omega (arith, ints), omega (arith, ints))

-- ---- what each shard handed back

there : {A : Type 0} (xs : List A) (i : ℕ) → i < length xs → (x : A) × (slice_get xs i ≡ Some x)
there [] i lt = absurd (omega (arith, lt))
there (x ∷ xs) zero lt = (x, refl)
there (x ∷ xs) (suc i) lt = there xs i (omega (arith, lt))

module _ (p : Pass) (records : List BestRecord) (ends : List BestShardEnd) (logs : List Log) (are : AreEnds p records ends logs) where
  -- an end is that of a shard
  pub end_is : (i : ℕ) (e : BestShardEnd) → slice_get ends i ≡ Some e → (log : Log) × (i < p.shards) × IsEnd p i (record_of records i) e log
  end_is i e at =
      let lt = subst (λ (n : ℕ). i < n) are.ends_long (slice_get_within ends i e at) in
      let log = there logs i (subst (λ (n : ℕ). i < n) (sym are.logs_long) lt) in
      (log.0, lt, are.each i e log.0 at log.1)

  -- a shard has an end
  pub shard_is : (i : ℕ) → i < p.shards → (e : BestShardEnd) × (log : Log) × (slice_get ends i ≡ Some e) × (slice_get logs i ≡ Some log) × IsEnd p i (record_of records i) e log
  shard_is i lt =
      let e = there ends i (subst (λ (n : ℕ). i < n) (sym are.ends_long) lt) in
      let log = there logs i (subst (λ (n : ℕ). i < n) (sym are.logs_long) lt) in
      (e.0, log.0, e.1, log.1, are.each i e.0 log.0 e.1 log.1)

  held_wide : (i : ℕ) (visits : List BestVisit) (held : Option Held) → ((h : Held) → held ≡ Some h → IsHeld p i visits h) → IfSome held (λ (h : Held). InWideRange h.cost)
  held_wide i visits None own = tt
  held_wide i visits (Some h) own = wide h.cost (own h refl).total.in_range

  pub are_wide : AreWide ends
  are_wide i e at =
      let end = (end_is i e at).2 in
      subst (λ (o : Option Held). IfSome o (λ (h : Held). InWideRange h.cost)) (sym end.held) (held_wide i (visits_in (record_of records i).history) (record_of records i).held end.own.held)

  are_logs : length records ≡ p.shards → AreLogs records logs
  are_logs long i lt = let x = shard_is i (subst (λ (n : ℕ). i < n) long lt) in (x.1, x.3, x.4.log_entries)

-- ---- the best solution

-- some shard handed it back
abbrev IsHeldByOne : List BestShardEnd → Held → Type 0
IsHeldByOne ends held = (i : ℕ) × (e : BestShardEnd) × (slice_get ends i ≡ Some e) × (e.held ≡ Some held)

module _ (b : BestSearch) (records : List BestRecord) (before after : View) (tally : BestTally) (cause : ℕ) (left : AreLeft b records before after tally cause) where
  abbrev p : Pass
  p = pass_of b

  logs_are : AreLogs records tally.logs.items
  logs_are = are_logs p records tally.ends.items tally.logs.items left.ends left.long

  pub left_wide : (ends : List BestShardEnd) → ends ≡ tally.ends.items → AreWide ends
  left_wide ends e = subst AreWide (sym e) (are_wide p records tally.ends.items tally.logs.items left.ends)

  -- the shard of an end holds what the end does
  held_in : (ends : List BestShardEnd) → ends ≡ tally.ends.items → (held : Held) → IsHeldByOne ends held → (i : ℕ) × (i < p.shards) × ((record_of records i).held ≡ Some held)
  held_in ends same held one =
      let end = end_is p records tally.ends.items tally.logs.items left.ends one.0 one.1 (subst (λ (es : List BestShardEnd). slice_get es one.0 ≡ Some one.1) same one.2) in
      (one.0, end.1, sym end.2.held ∙ one.3)

  pub held_leads : (ends : List BestShardEnd) → ends ≡ tally.ends.items → (held : Held) → IsHeldByOne ends held
      → (back : List ℕ) × paths.LeadsBack tally.logs.items held.parent back × Solution p.model (reverse back ++ held.transition ∷ []) held.cost
  held_leads ends same held one =
      let shard = held_in ends same held one in
      let found = (records_law b records left.long left.together).0.held shard.0 held shard.1 shard.2 in
      (found.1, logs_law p records tally.logs.items logs_are held.parent found.0 found.1 found.2 found.3, found.4)

  -- the way of its chain, and its transition, are a legal list of its cost
  pub held_legal : (ends : List BestShardEnd) → ends ≡ tally.ends.items → (held : Held) → IsHeldByOne ends held → (f : Found) → f.cost ≡ held.cost
      → ((back : List ℕ) → paths.LeadsBack tally.logs.items held.parent back → f.steps ≡ reverse back ++ held.transition ∷ []) → Solution p.model f.steps f.cost
  held_legal ends same held one f cost steps =
      let way = held_leads ends same held one in
      subst (λ (c : ℤ). Solution p.model f.steps c) (sym cost) (subst (λ (xs : List ℕ). Solution p.model xs held.cost) (sym (steps way.0 way.1)) way.2)

  both : (a b c : ℤ) → a ≤ℤ b → b ≤ℤ c → a ≡ c → a ≡ b
  both a b c h k e = omega (arith, ints)

  -- what a shard holds, by its end
  end_of : (ends : List BestShardEnd) → ends ≡ tally.ends.items → (i : ℕ) (h : Held) → i < p.shards → (record_of records i).held ≡ Some h → (e : BestShardEnd) × (slice_get ends i ≡ Some e) × (e.held ≡ Some h)
  end_of ends same i h lt is =
      let x = shard_is p records tally.ends.items tally.logs.items left.ends i lt in
      (x.0, subst (λ (es : List BestShardEnd). slice_get es i ≡ Some x.0) (sym same) x.2, x.4.held ∙ is)

  -- where no shard holds a solution, the best word is the one before the search
  pub lowered_none : (ends : List BestShardEnd) → ends ≡ tally.ends.items → (minimize : Bool) (operator : JoinOp) → IsBestHeld minimize operator ends None → IsLowered p (best_known before) None (best_known after)
  lowered_none ends same minimize operator none =
      record {
        no_greater = left.best_is.opening_above;
        no_worse = tt;
        is_one = elim left.best_is.is_one [
          | inl opening ↦ inl opening
          | inr h ↦ (let e = end_of ends same h.0 h.1 h.2 h.3 in absurd (no_held e.0.held h.1 (none h.0 e.0 e.1) e.2))
        ];
      }

  lowered_held : (ends : List BestShardEnd) → ends ≡ tally.ends.items → (held : Held) → IsBestHeld p.model.minimize p.model.join ends (Some held) → (f : Found) → held.cost ≡ f.cost → IsLowered p (best_known before) (Some f) (best_known after)
  lowered_held ends same held best f cost =
      let shard = held_in ends same held best.0 in
      let least : pos (best_known after) ≤ℤ word_of p held.cost = left.best_is.held_above shard.0 held shard.1 shard.2 in
      record {
        no_greater = left.best_is.opening_above;
        no_worse = subst (λ (c : ℤ). pos (best_known after) ≤ℤ word_of p c) cost least;
        is_one = elim left.best_is.is_one [
          | inl opening ↦ inl opening
          | inr h ↦ (let e = end_of ends same h.0 h.1 h.2 h.3 in
              let word = both (pos (best_known after)) (word_of p held.cost) (word_of p h.1.cost) least (best.1 h.0 e.0 h.1 e.1 e.2) h.4 in
              inr (f, refl, subst (λ (c : ℤ). pos (best_known after) ≡ word_of p c) cost word))
        ];
      }

  -- where some hold one, it is the lesser of this and of the word of the best one
  pub lowered_some : (ends : List BestShardEnd) → ends ≡ tally.ends.items → (minimize : Bool) (operator : JoinOp) → IsLawOf p.model minimize operator → (held : Held) → IsBestHeld minimize operator ends (Some held) → (f : Found) → f.cost ≡ held.cost
      → IsLowered p (best_known before) (Some f) (best_known after)
  lowered_some ends same minimize operator law held best f cost = lowered_held ends same held (by_law p.model minimize operator (λ b o. IsBestHeld b o ends (Some held)) law best) f (sym cost)

  -- ---- what the records hold

  pub best_none : (ends : List BestShardEnd) → ends ≡ tally.ends.items → (minimize : Bool) (operator : JoinOp) → IsBestHeld minimize operator ends None → IsBestOf b records None
  best_none ends same minimize operator none i lt =
      let x = shard_is p records tally.ends.items tally.logs.items left.ends i lt in
      sym x.4.held ∙ none i x.0 (subst (λ (es : List BestShardEnd). slice_get es i ≡ Some x.0) (sym same) x.2)

  best_by : (ends : List BestShardEnd) → ends ≡ tally.ends.items → (held : Held) → IsBestHeld p.model.minimize p.model.join ends (Some held) → (f : Found) → held.cost ≡ f.cost → IsBestOf b records (Some f)
  best_by ends same held best f cost =
      let shard = held_in ends same held best.0 in (
        (shard.0, held, shard.1, shard.2, cost),
        λ i h lt is. let e = end_of ends same i h lt is in subst (λ (c : ℤ). word_of p c ≤ℤ word_of p h.cost) cost (best.1 i e.0 h e.1 e.2),
      )

  pub best_some : (ends : List BestShardEnd) → ends ≡ tally.ends.items → (minimize : Bool) (operator : JoinOp) → IsLawOf p.model minimize operator → (held : Held) → IsBestHeld minimize operator ends (Some held) → (f : Found) → f.cost ≡ held.cost → IsBestOf b records (Some f)
  best_some ends same minimize operator law held best f cost = best_by ends same held (by_law p.model minimize operator (λ b o. IsBestHeld b o ends (Some held)) law best) f (sym cost)

  -- ---- the fault

  pub fault_there : 3 ≤ cause → (ends : List BestShardEnd) → ends ≡ tally.ends.items → IsSomeFault ends None → ⊥
  fault_there halt ends same none =
      let h = left.faulted halt in
      let x = shard_is p records tally.ends.items tally.logs.items left.ends h.0 h.2 in
      let no = none h.0 x.0 (subst (λ (es : List BestShardEnd). slice_get es h.0 ≡ Some x.0) (sym same) x.2) in
      let clash : None ≡ Some h.1 = sym no ∙ (x.4.fault ∙ h.3) in
      cc

  pub fault_leads : (ends : List BestShardEnd) → ends ≡ tally.ends.items → (fault : FaultHere) → IsSomeFault ends (Some fault)
      → (back : List ℕ) × paths.LeadsBack tally.logs.items fault.at back × Meets p.model p.prune (reverse back ++ option_to_list fault.last) fault.spot fault.kind
  fault_leads ends same fault some =
      let end = end_is p records tally.ends.items tally.logs.items left.ends some.0 some.1 (subst (λ (es : List BestShardEnd). slice_get es some.0 ≡ Some some.1) same some.2) in
      let met = (records_law b records left.long left.together).0.fault some.0 fault end.1 (sym end.2.fault ∙ some.3) in
      (met.1, logs_law p records tally.logs.items logs_are fault.at met.0 met.1 met.2 met.3, met.4)

  meets : (steps steps' : List ℕ) (spot spot' : Spot) (kind kind' : FaultKind) → steps' ≡ steps → spot' ≡ spot → kind' ≡ kind → Meets p.model p.prune steps spot kind → Meets p.model p.prune steps' spot' kind'
  meets steps steps' spot spot' kind kind' a b c h =
      subst (λ (k : FaultKind). Meets p.model p.prune steps' spot' k) (sym c) (subst (λ (s : Spot). Meets p.model p.prune steps' s kind) (sym b) (subst (λ (xs : List ℕ). Meets p.model p.prune xs spot kind) (sym a) h))

  -- the way of its chain, and its transition, are a list that meets it
  pub fault_met : (ends : List BestShardEnd) → ends ≡ tally.ends.items → (fault : FaultHere) → IsSomeFault ends (Some fault) → (r : Result FaultAt AllocError) → IfOk r (λ (f : FaultAt). (f.spot ≡ fault.spot) × (f.kind ≡ fault.kind))
      → ((back : List ℕ) → paths.LeadsBack tally.logs.items fault.at back → IfOk r (λ (f : FaultAt). f.steps ≡ reverse back ++ option_to_list fault.last)) → IfOk r (λ (f : FaultAt). Meets p.model p.prune f.steps f.spot f.kind)
  fault_met ends same fault some (Err e) spot steps = tt
  fault_met ends same fault some (Ok f) spot steps =
      let way = fault_leads ends same fault some in
      meets (reverse way.0 ++ option_to_list fault.last) f.steps fault.spot f.spot fault.kind f.kind (steps way.0 way.1) spot.0 spot.1 way.2
