-- How a pass of one shard ends while its certificate is made: it is exhausted, or it stops, or finds a better solution, or meets a fault.
use Rattle.std.proofs.Common.{◌≡◌, ℕ, ◌+◌, ◌<◌, ◌≤◌, inl, zero, suc, List, [], ◌∷◌, ◌++◌, map, length, reverse, slice_get, Some, refl, sym, ap, subst, ◌∙◌, arith, append-nil}
use Rattle.std.specs.Prelude.{option_to_list, pos, ◌≤ℤ◌}
use Rattle.dp_steps.specs.Faults.{Meets}
use Rattle.dp_steps.specs.Lists.{Solution}
use Rattle.dp_claims.specs.Enough.{Has, IsAtMostReached}
use Rattle.path_log.specs.Paths as paths
use Rattle.path_log.specs.Paths.{Log}
use Rattle.state_layout.specs.declared.node.Node.{Node}
use Rattle.pass_ledger.specs.Counts.{visits_of, LeavesOne}
use Rattle.pass_ledger.specs.Ledgers.{IsBest}
use Rattle.pass_ledger.specs.Letters.{of}
use Rattle.pass_ledger.specs.Logs.{AreLogs, entry_of}
use Rattle.pass_ledger.specs.Passes.{Pass, word_of}
use Rattle.pass_ledger.specs.Records.{record_of, Done, IsPrefix, Own, Together}
use Rattle.pass_ledger.specs.Rows.{row}
use Rattle.pass_ledger.specs.declared.records.FaultHere.{FaultHere}
use Rattle.pass_ledger.specs.declared.records.Held.{Held}
use Rattle.pass_ledger.specs.declared.records.PrunedAt.{PrunedAt}
use Rattle.pass_ledger.specs.declared.records.ShardRecord.{ShardRecord}
use Rattle.pass_ledger.proofs.Done.{records_law, sound}
use Rattle.pass_ledger.proofs.Logs.{logs_law}
use Rattle.pass_ledger.proofs.Pairs.{enough}
use Rattle.cert_types.specs.declared.nodes.CertNode.{CertNode}
use Rattle.cert_rows.specs.Making.{GoesOn}
use Rattle.cert_rows.specs.Rows.{IsExhausted}

first_shard : (n j : ℕ) → n ≡ 1 → j < n → j ≡ 0
first_shard n j e lt = omega (arith, e, lt)

one_shard : (n : ℕ) → n ≡ 1 → 0 < n
one_shard n e = omega (arith, e)

-- the one record, received of itself as posted, is together with itself
pub together : (p : Pass) (r : ShardRecord) → p.shards ≡ 1 → Own p 0 r → of r.received 0 ≡ of r.posted 0 → Together p (r ∷ [])
together p r alone own arrived =
    record {
      own = λ i li. subst (λ (k : ℕ). Own p k (record_of (r ∷ []) k)) (sym (first_shard p.shards i alone li)) own;
      prefix = λ i j li lj.
          subst (λ (k : ℕ). IsPrefix (of (record_of (r ∷ []) k).received j) (of (record_of (r ∷ []) j).posted k)) (sym (first_shard p.shards i alone li))
          (subst (λ (k : ℕ). IsPrefix (of r.received k) (of (record_of (r ∷ []) k).posted 0)) (sym (first_shard p.shards j alone lj)) ([], append-nil (of r.received 0) ∙ arrived));
    }

-- what is true of the one record is true of each
pub each_one : (p : Pass) (r : ShardRecord) (P : ℕ → ShardRecord → Type 0) → p.shards ≡ 1 → P 0 r → (i : ℕ) → i < p.shards → P i (record_of (r ∷ []) i)
each_one p r P alone h i li = subst (λ (k : ℕ). P k (record_of (r ∷ []) k)) (sym (first_shard p.shards i alone li)) h

module _ (p : Pass) (claimed : ℕ) (r : ShardRecord) (layers : List (List CertNode)) (first : ℕ) (on : GoesOn p claimed r layers first) where
  best_is : IsBest p (r ∷ []) claimed claimed
  best_is =
      record {
        opening_above = self claimed;
        held_above = λ i h li e. each_one p r (λ k x. (g : Held) → x.held ≡ Some g → pos claimed ≤ℤ word_of p g.cost) on.alone on.above i li h e;
        is_one = inl refl;
      }
    where
      self : (a : ℕ) → a ≤ a
      self a = omega arith

  -- where the record is done, the pass is exhausted
  pub exhausted : Done p 0 r → r.waiting ≡ [] → IsExhausted p r claimed
  exhausted done idle =
      let law = (records_law p (r ∷ []) on.inner (sym on.alone) (together p r on.alone on.own on.arrived)).1 claimed claimed best_is
      (λ i q li h. each_one p r (λ k x. (g : PrunedAt) → Has x.pruned g → claimed ≤ g.best) on.alone on.pruned i li q h)
      (λ i li. each_one p r (λ k x. Done p k x) on.alone done i li) in
      record {
        alone = on.alone;
        inner = on.inner;
        ledger = law.0;
        closed = law.1;
        drops_none = λ i l n li h. each_one p r (λ k x. (l : ℕ) (n : Node) → Has (row x.rows l).dropped n → ⊥) on.alone on.drops_none i li l n h;
        idle = idle;
        onward = on.onward;
      }

  visits_here : visits_of (r ∷ []) p.shards ≡ length r.visits
  visits_here = ap (visits_of (r ∷ [])) on.alone ∙ none (length r.visits)
    where
      none : (a : ℕ) → 0 + a ≡ a
      none a = omega arith

  -- where a node waits, one more node than was visited can be reached
  pub stops : (n : Node) (rest : List Node) → r.waiting ≡ n ∷ rest → 0 < length r.rows → IsAtMostReached p.model p.keep (length r.visits + 1)
  stops n rest e begun =
      let l = last_layer (length r.rows) begun in
      let waits : Has r.waiting n = subst (λ (ns : List Node). Has ns n) (sym e) (0, refl) in
      let left : LeavesOne p (r ∷ []) = (0, l.0, n, one_shard p.shards on.alone, on.own.turns.kept l.0 n l.1 waits, on.own.turns.unvisited l.0 n l.1 waits) in
      subst (λ (k : ℕ). IsAtMostReached p.model p.keep (k + 1)) visits_here ((enough p (r ∷ []) on.inner (together p r on.alone on.own on.arrived)).left left)
    where
      last_layer : (a : ℕ) → 0 < a → (l : ℕ) × (l + 1 ≡ a)
      last_layer zero lt = absurd (omega arith)
      last_layer (suc a) lt = (a, omega arith)

-- ---- what is read off the shard's log

module _ (p : Pass) (r : ShardRecord) (alone : p.shards ≡ 1) (own : Own p 0 r) (arrived : of r.received 0 ≡ of r.posted 0) (log : Log) (entries : log.entries ≡ map entry_of r.visits) where
  logs_are : AreLogs (r ∷ []) (log ∷ [])
  logs_are i lt = subst (λ (k : ℕ). (l : Log) × (slice_get (log ∷ []) k ≡ Some l) × (l.entries ≡ map entry_of (record_of (r ∷ []) k).visits)) (sym (first_shard 1 i refl lt)) (log, refl, entries)

  -- the way of its chain, and its transition, are a legal list of what is held
  pub found_along : (h : Held) → r.held ≡ Some h → (back : List ℕ) × paths.LeadsBack (log ∷ []) h.parent back × Solution p.model (reverse back ++ h.transition ∷ []) h.cost
  found_along h e =
      let found = (sound p (r ∷ []) (together p r alone own arrived)).held 0 h (one_shard p.shards alone) e in
      (found.1, logs_law p (r ∷ []) (log ∷ []) logs_are h.parent found.0 found.1 found.2 found.3, found.4)

  -- and a list that meets the fault
  pub fault_along : (f : FaultHere) → r.fault ≡ Some f → (back : List ℕ) × paths.LeadsBack (log ∷ []) f.at back × Meets p.model p.prune (reverse back ++ option_to_list f.last) f.spot f.kind
  fault_along f e =
      let met = (sound p (r ∷ []) (together p r alone own arrived)).fault 0 f (one_shard p.shards alone) e in
      (met.1, logs_law p (r ∷ []) (log ∷ []) logs_are f.at met.0 met.1 met.2 met.3, met.4)
