-- The nodes that the shards dropped, and the best floor of these.
use Rattle.std.proofs.Common.{◌≡◌, ℕ, ◌+◌, ◌≤◌, ◌<◌, inl, inr, zero, suc, Bool, true, false, List, [], ◌∷◌, ◌++◌, length, slice_index_or, Option, Some, None, Result, Ok, Err, refl, sym, subst, ◌∙◌, ap, arith, length-append, add-one}
use Rattle.std.specs.Prelude.{IfSome, ℤ}
use Rattle.std.proofs.lemmas.Bool.{false≢true}
use Rattle.std.proofs.lemmas.Option.{slice_get-get_or}
use Rattle.cost_laws.specs.Orders.{InWideRange, IsLawOf}
use Rattle.dom_store.specs.Order.{IsLeastFloor}
use Rattle.dp_base.specs.Results.{◌>>=◌}
use Rattle.dp_claims.specs.Enough.{Has}
use Rattle.dp_model.specs.Costs.{InRange}
use Rattle.dp_model.specs.declared.parts.JoinOp.{JoinOp}
use Rattle.dp_model.specs.declared.parts.PlainState.{PlainState}
use Rattle.dp_model.specs.declared.whole.Model.{Model}
use Rattle.dp_steps.specs.Bounds.{IsFloor}
use Rattle.path_log.specs.Paths.{Log}
use Rattle.pass_ledger.specs.Passes.{Pass, IsStart}
use Rattle.pass_ledger.specs.Records.{record_of, Own, Starts}
use Rattle.pass_ledger.specs.Rows.{row, Received}
use Rattle.pass_ledger.specs.declared.records.LedgerRow.{LedgerRow}
use Rattle.pass_ledger.specs.declared.records.ShardRecord.{ShardRecord}
use Rattle.pass_ledger.proofs.Lists.{has_none, has_cases}
use Rattle.shard_core.specs.Calls.{IsEnd}
use Rattle.shard_core.specs.Floors.{floor_of}
use Rattle.shard_core.specs.Stands.{all_dropped}
use Rattle.shard_core.specs.declared.shard.ShardEnd.{ShardEnd}
use Rattle.shard_core.proofs.Closes.{merged_floor}
use Rattle.shard_core.proofs.Rows.{by_law, floor_wide}
use Rattle.spot_eval.specs.Looks as looks
use Rattle.spot_eval.specs.Looks.{tightest_at}
use Rattle.spot_eval.specs.declared.ends.SpotFault.{SpotFault}
use Rattle.spot_eval.proofs.Ranges.{tightest_fits}
use Rattle.state_layout.specs.declared.node.Node.{Node}
use Rattle.visit_laws.proofs.Looks.{floor_found_at}
use Rattle.pass_ends.specs.Ends.{dropped_of}
use Rattle.pass_ends.specs.Left.{AreEnds, AreDropped}
use Rattle.pass_ends.proofs.Best.{no_end}
use Rattle.pass_ends.proofs.Founds.{wide, end_is}

-- ---- floors have order words

bound_wide : (m : Model) (bound floor : Option ℤ) → IfSome bound InRange → looks.floor_of m None bound ≡ floor → IfSome floor InWideRange
bound_wide m None floor h e = subst (λ (f : Option ℤ). IfSome f InWideRange) e tt
bound_wide m (Some bound) floor h e = subst (λ (f : Option ℤ). IfSome f InWideRange) e (wide bound h)

told_wide : (m : Model) (floor : Option ℤ) (r : Result (Option ℤ) SpotFault) → tightest_at m m.target 0 None m.bounds ≡ r → (r >>= λ bound. Ok (looks.floor_of m None bound)) ≡ Ok floor → IfSome floor InWideRange
told_wide m floor (Ok bound) q e = let same : looks.floor_of m None bound ≡ floor = cc in bound_wide m bound floor (tightest_fits m m.target bound q m.held) same
told_wide m floor (Err met) q e = absurd (cc)

-- the floor of the target's node is a bound of the target
target_wide : (m : Model) (prune : Bool) (floor : Option ℤ) → IsFloor m prune m.target None floor → IfSome floor InWideRange
target_wide m true floor h = told_wide m floor (tightest_at m m.target 0 None m.bounds) refl (floor_found_at m true m.target None floor h)
target_wide m false None h = tt
target_wide m false (Some floor) h = absurd (false≢true h.0)

start_wide : (p : Pass) (n : Node) → IsStart p n → IfSome n.floor InWideRange
start_wide p n h =
    target_wide p.model p.prune n.floor (subst (λ (s : PlainState). IsFloor p.model p.prune s None n.floor) h.state (subst (λ (c : Option ℤ). IsFloor p.model p.prune n.state c n.floor) h.cost h.floor))

starts_wide : (p : Pass) (i : ℕ) (start : Option Node) → Starts p i start → (n : Node) → start ≡ Some n → IfSome n.floor InWideRange
starts_wide p i None h n e = let clash : None ≡ Some n = e in absurd (cc)
starts_wide p i (Some m) h n e = let same : m ≡ n = cc in start_wide p n (subst (IsStart p) same h.0)

received_wide : (p : Pass) (i : ℕ) (r : ShardRecord) → Own p i r → (l : ℕ) (n : Node) → Received p r.start r.received l n → IfSome n.floor InWideRange
received_wide p i r own zero n h = starts_wide p i r.start own.start n h
received_wide p i r own (suc l) n h = ((own.received h.0).nodes h.0 (l + 1) n h.2).is_node.floor

-- ---- what one shard dropped

-- a dropped node was dropped in a layer
row_of : (rows : List LedgerRow) (n : Node) → Has (all_dropped rows) n → (l : ℕ) × Has (row rows l).dropped n
row_of [] n h = absurd (has_none n h)
row_of (w ∷ rows) n h =
    elim (has_cases w.dropped (all_dropped rows) n h) [
      | inl first ↦ (zero, first)
      | inr more ↦ (let x = row_of rows n more in (suc x.0, x.1))
    ]

pub end_wide : (p : Pass) (records : List ShardRecord) (ends : List ShardEnd) (logs : List Log) → AreEnds p records ends logs → (i : ℕ) (d : ShardEnd) → i < length ends → IfSome (slice_index_or ends i d).least_floor InWideRange
end_wide p records ends logs are i d lt =
    let e = slice_index_or ends i d in
    let end = (end_is p records ends logs are i e (slice_get-get_or ends i d lt)).2 in
    let r = record_of records i in
    floor_wide p.model.minimize p.model.join (all_dropped r.rows) e.least_floor end.floor (λ n h. (let x = row_of r.rows n h in received_wide p i r end.own x.0 n ((end.own.rows x.0).dropped n x.1)))

-- ---- what the first so many shards dropped

-- a dropped node was dropped by one of them
pub dropped_by : (records : List ShardRecord) (i : ℕ) (n : Node) → Has (dropped_of records i) n → (j : ℕ) × (l : ℕ) × (j < i) × Has (row (record_of records j).rows l).dropped n
dropped_by records zero n h = absurd (has_none n h)
dropped_by records (suc i) n h =
    elim (has_cases (dropped_of records i) (all_dropped (record_of records i).rows) n h) [
      | inl before ↦ (let x = dropped_by records i n before in (x.0, x.1, later x.0 i x.2, x.3))
      | inr now ↦ (let x = row_of (record_of records i).rows n now in (i, x.0, last i, x.1))
    ]
  where
    later : (j i : ℕ) → j < i → j < suc i
    later j i lt = omega arith

    last : (i : ℕ) → i < suc i
    last i = omega arith

-- the count and the floor of the first so many shards
abbrev pub AreDroppedOf : Pass → List ShardRecord → ℕ → (count : ℕ) → Option ℤ → Type 0
AreDroppedOf p records i count floor = (count ≡ length (dropped_of records i)) × IsLeastFloor p.model.minimize p.model.join (dropped_of records i) floor

pub none_dropped : (p : Pass) (records : List ShardRecord) → AreDroppedOf p records 0 0 None
none_dropped p records = (refl, inl refl)

pub dropped_wide : (p : Pass) (records : List ShardRecord) (ends : List ShardEnd) (logs : List Log) → AreEnds p records ends logs → (i : ℕ) → i ≤ length ends → (count : ℕ) (floor : Option ℤ) → AreDroppedOf p records i count floor → IfSome floor InWideRange
dropped_wide p records ends logs are i le count floor h =
    floor_wide p.model.minimize p.model.join (dropped_of records i) floor h.1
    (λ n there. (let x = dropped_by records i n there in
    let at = slice_get-get_or ends x.0 no_end (within x.0 i (length ends) x.2 le) in
    let own = (end_is p records ends logs are x.0 (slice_index_or ends x.0 no_end) at).2.own in
    received_wide p x.0 (record_of records x.0) own x.1 n ((own.rows x.1).dropped n x.3)))
  where
    within : (a b c : ℕ) → a < b → b ≤ c → a < c
    within a b c h k = omega arith

next_dropped : (p : Pass) (records : List ShardRecord) (i : ℕ) (e : ShardEnd) (log : Log) → IsEnd p i (record_of records i) e log → (count : ℕ) (floor : Option ℤ) → AreDroppedOf p records i count floor
    → (count' : ℕ) → count' ≡ count + e.dropped → (floor' : Option ℤ) → floor' ≡ floor_of p.model.minimize p.model.join count e.dropped floor e.least_floor → AreDroppedOf p records (suc i) count' floor'
next_dropped p records i e log end count floor h count' counted floor' merged = (
  counted ∙ (ap (λ (n : ℕ). n + e.dropped) h.0 ∙ (ap (λ (n : ℕ). length before + n) end.dropped ∙ sym (length-append before now))),
  subst (λ (f : Option ℤ). IsLeastFloor p.model.minimize p.model.join (before ++ now) f) (sym same) (merged_floor p.model.minimize p.model.join before now floor e.least_floor h.1 end.floor),
)
  where
    before : List Node
    before = dropped_of records i

    now : List Node
    now = all_dropped (record_of records i).rows

    same : floor' ≡ floor_of p.model.minimize p.model.join (length before) (length now) floor e.least_floor
    same = merged
        ∙ (ap (λ (n : ℕ). floor_of p.model.minimize p.model.join n e.dropped floor e.least_floor) h.0
        ∙ ap (λ (n : ℕ). floor_of p.model.minimize p.model.join (length before) n floor e.least_floor) end.dropped)

-- one shard more
pub dropped_more : (p : Pass) (records : List ShardRecord) (ends : List ShardEnd) (logs : List Log) (minimize : Bool) (operator : JoinOp) → IsLawOf p.model minimize operator → AreEnds p records ends logs → (i : ℕ) (d : ShardEnd) → i < length ends
    → (count : ℕ) (floor : Option ℤ) → AreDroppedOf p records i count floor → (count' : ℕ) → count' ≡ count + (slice_index_or ends i d).dropped
    → (floor' : Option ℤ) → floor' ≡ floor_of minimize operator count (slice_index_or ends i d).dropped floor (slice_index_or ends i d).least_floor → AreDroppedOf p records (i + 1) count' floor'
dropped_more p records ends logs minimize operator law are i d lt count floor h count' counted floor' merged =
    let e = slice_index_or ends i d in
    let end = end_is p records ends logs are i e (slice_get-get_or ends i d lt) in
    subst (λ (n : ℕ). AreDroppedOf p records n count' floor') (sym (add-one i))
    (next_dropped p records i e end.0 end.2 count floor h count' counted floor' (by_law p.model minimize operator (λ b o. floor' ≡ floor_of b o count e.dropped floor e.least_floor) law merged))

pub dropped_all : (p : Pass) (records : List ShardRecord) (ends : List ShardEnd) (logs : List Log) → AreEnds p records ends logs → (i : ℕ) → i ≡ length ends → (count : ℕ) (floor : Option ℤ) → AreDroppedOf p records i count floor → AreDropped p records count floor
dropped_all p records ends logs are i all count floor h =
    let last = subst (λ (n : ℕ). AreDroppedOf p records n count floor) (all ∙ are.ends_long) h in
    record { count_is = last.0; floor_is = last.1 }
