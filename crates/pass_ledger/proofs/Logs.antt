-- Parents in records are parents in logs.
use Rattle.std.proofs.Common.{◌≡◌, ℕ, ◌<◌, zero, suc, inl, inr, List, [], ◌∷◌, length, map, slice_get, Option, Some, None, sym, ap, ◌∙◌}
use Rattle.std.specs.Prelude.{option_and_then}
use Rattle.std.proofs.lemmas.Bool.{cases_lt}
use Rattle.std.proofs.lemmas.List.{get_or_past}
use Rattle.path_log.specs.Paths.{Log, entry, entry_at}
use Rattle.path_log.specs.declared.logs.Entry.{Entry}
use Rattle.path_log.specs.declared.logs.StepId.{StepId}
use Rattle.pass_ledger.specs.Records.{blank, record_of, visit_at}
use Rattle.pass_ledger.specs.Logs.{entry_of, AreLogs, LawLogs}
use Rattle.pass_ledger.specs.declared.records.Visit.{Visit}
use Rattle.pass_ledger.specs.declared.records.ShardRecord.{ShardRecord}

get_map : {A B : Type 0} (f : A → B) (xs : List A) (k : ℕ) (x : A) → slice_get xs k ≡ Some x → slice_get (map f xs) k ≡ Some (f x)
get_map {A} f [] k x e = let clash : ◌≡◌ {A = Option A} None (Some x) = e in absurd (cc)
get_map f (y ∷ xs) zero x e = ap Some (ap f (same y x e))
  where
    same : {A : Type 0} (y x : A) → Some y ≡ Some x → y ≡ x
    same y x e = cc
get_map f (y ∷ xs) (suc k) x e = get_map f xs k x e

-- a shard that visited a node has a record
within : (records : List ShardRecord) (i place : ℕ) (v : Visit) → slice_get (record_of records i).visits place ≡ Some v → i < length records
within records i place v e =
    elim (cases_lt i (length records)) [
      | inl lt ↦ lt
      | inr ge ↦ (let none = ap (λ (r : ShardRecord). slice_get r.visits place) (get_or_past records i blank ge) in
          let clash : None ≡ Some v = sym none ∙ e in absurd (cc))
    ]

-- the entry of a visit stands where its name says
entry_is : (records : List ShardRecord) (logs : List Log) → AreLogs records logs → (id : StepId) (v : Visit) → visit_at records id ≡ Some v → entry_at logs id ≡ Some (entry_of v)
entry_is records logs are id v e =
    let l = are id.shard (within records id.shard id.place v e) in
    ap (λ (o : Option Log). option_and_then (λ (log : Log). slice_get log.entries id.place) o) l.1
    ∙ (ap (λ (es : List Entry). slice_get es id.place) l.2 ∙ get_map entry_of (record_of records id.shard).visits id.place v e)

pub logs_law : LawLogs
logs_law p records logs are id v [] e leads = (v.node.transition, entry_is records logs are id v e ∙ ap (λ (o : Option StepId). Some (entry o v.node.transition)) leads.parent)
logs_law p records logs are id v (t ∷ back) e leads =
    (leads.0, entry_is records logs are id v e ∙ (ap (λ (o : Option StepId). Some (entry o v.node.transition)) leads.2 ∙ ap (λ (k : ℕ). Some (entry (Some leads.0) k)) leads.3), logs_law p records logs are leads.0 leads.1 back leads.4 leads.5)
