-- What an ear heard, with one call more.
use Rattle.std.proofs.Common.{◌≡◌, ℕ, ◌≤◌, ◌<◌, ◌^◌, inl, inr, List, [], ◌∷◌, ◌++◌, slice_get, Option, ℤ, Bool, sym, ap, subst, ◌∙◌}
use Rattle.std.proofs.lemmas.List.{map-append}
use Rattle.announcer.specs.Ends.{CrierFacts, IsNextFor, taken_by}
use Rattle.announcer.specs.declared.view.CalledCost.{CalledCost}
use Rattle.pass_run.specs.Hearing.{Heard, Hears, costs_cried}
use Rattle.announcing.specs.Telling.{IsTold}
use Rattle.pass_run.specs.declared.ear.Ear.{Ear}
use Rattle.pass_ledger.proofs.Lists.{has_cases, has_head, has_none}

module _ {A : Type 0} (taken : A → Option (List ℕ)) (faults : A → ℕ) (h : Heard) (old new : Ear A) (x : CalledCost) (hears : Hears taken faults h old) where
  pub heard_more : new.queue.now ≡ old.queue.now → new.crier.now ≡ taken_by old.crier.now x → IsNextFor old.crier.now x → new.crier.ghost_name ≡ old.crier.ghost_name → new.out.ghost_name ≡ old.out.ghost_name → new.minimize ≡ old.minimize → new.told.count ≤ 2 ^ 62
      → IsTold old.minimize h.last (costs_cried old.crier.now.taken ++ x.cost ∷ []) h.before (taken new.out.now) h.faults (faults new.out.now) new.told → Hears taken faults h new
  heard_more queue crier next same sink minimize few told = record {
    queue_is = queue ∙ hears.queue_is;
    crier = ap (λ (c : CrierFacts). c.queue) crier ∙ hears.crier;
    known = λ k y at.
        elim (has_cases old.crier.now.taken (x ∷ []) y (k, ap (λ (c : CrierFacts). slice_get c.taken k) (sym crier) ∙ at)) [
          | inl a ↦ hears.known a.0 y a.1
          | inr b ↦ elim (has_head x [] y b) [
            | inl e ↦ subst (λ (z : CalledCost). z.from < h.queue.senders) e (subst (λ q. x.from < q.senders) hears.crier next.known)
            | inr none ↦ absurd (has_none y none)
          ]
        ];
    crier_is = same ∙ hears.crier_is;
    sink_is = sink ∙ hears.sink_is;
    minimize_is = minimize ∙ hears.minimize_is;
    few = few;
    told =
        subst (λ (costs : List ℤ). IsTold h.minimize h.last costs h.before (taken new.out.now) h.faults (faults new.out.now) new.told)
        (sym (ap (λ (c : CrierFacts). costs_cried c.taken) crier ∙ map-append (λ (z : CalledCost). z.cost) old.crier.now.taken (x ∷ [])))
        (subst (λ (b : Bool). IsTold b h.last (costs_cried old.crier.now.taken ++ x.cost ∷ []) h.before (taken new.out.now) h.faults (faults new.out.now) new.told) hears.minimize_is told);
  }
