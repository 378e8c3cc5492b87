-- A pass that counted no dropped node dropped none.
use Rattle.std.proofs.Common.{◌≡◌, ℕ, zero, suc, ◌<◌, inl, inr, List, [], ◌∷◌, length, subst, arith}
use Rattle.std.proofs.lemmas.Bool.{cases_lt}
use Rattle.dp_claims.specs.Enough.{Has}
use Rattle.pass_ends.specs.Ends.{dropped_of}
use Rattle.pass_ledger.proofs.Lists.{has_left, has_none, has_right}
use Rattle.pass_ledger.specs.Ledgers.{DropsNone}
use Rattle.pass_ledger.specs.Passes.{Pass}
use Rattle.pass_ledger.specs.Records.{record_of}
use Rattle.pass_ledger.specs.Rows.{row}
use Rattle.pass_ledger.specs.declared.records.LedgerRow.{LedgerRow}
use Rattle.pass_ledger.specs.declared.records.ShardRecord.{ShardRecord}
use Rattle.shard_core.specs.Stands.{all_dropped}
use Rattle.state_layout.specs.declared.node.Node.{Node}

in_rows : (rows : List LedgerRow) (l : ℕ) (n : Node) → Has (row rows l).dropped n → Has (all_dropped rows) n
in_rows [] l n h = absurd (has_none n h)
in_rows (w ∷ rows) zero n h = has_left w.dropped (all_dropped rows) n h
in_rows (w ∷ rows) (suc l) n h = has_right w.dropped (all_dropped rows) n (in_rows rows l n h)

in_shards : (records : List ShardRecord) (count i : ℕ) (n : Node) → i < count → Has (all_dropped (record_of records i).rows) n → Has (dropped_of records count) n
in_shards records zero i n within h = absurd (omega (arith, within))
in_shards records (suc count) i n within h =
    elim (cases_lt i count) [
      | inl before ↦ has_left (dropped_of records count) (all_dropped (record_of records count).rows) n (in_shards records count i n before h)
      | inr after ↦
          let last : i ≡ count = omega (arith, within, after) in
          has_right (dropped_of records count) (all_dropped (record_of records count).rows) n (subst (λ (k : ℕ). Has (all_dropped (record_of records k).rows) n) last h)
    ]

pub has_no : {A : Type 0} (xs : List A) (x : A) → length xs ≡ 0 → Has xs x → ⊥
has_no [] x short h = has_none x h
has_no (y ∷ xs) x short h = omega (arith, short)

pub drops_none : (p : Pass) (records : List ShardRecord) → length (dropped_of records p.shards) ≡ 0 → DropsNone p records
drops_none p records short i l n within h = has_no (dropped_of records p.shards) n short (in_shards records p.shards i n within (in_rows (record_of records i).rows l n h))
