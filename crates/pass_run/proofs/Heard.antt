-- What a pass announced, when its calls have ended.
use Rattle.std.proofs.Common.{◌≡◌, ℕ, ◌<◌, inl, inr, min, Bool, false, List, ◌++◌, slice_get, Option, Ok, ℤ, refl, sym, ap, subst, ◌∙◌, arith}
use Rattle.announce_laws.proofs.Calls.{cried_law, left_law, refused_law}
use Rattle.announce_laws.specs.Called.{AreOfShards, IsSolved}
use Rattle.announcer.specs.Ends.{CallerFacts, CrierFacts, QueueFacts, AreLeft, IsBegunOf, new_crier, refused_of}
use Rattle.announcer.specs.declared.view.CalledCost.{CalledCost}
use Rattle.announcing.specs.Telling.{IsTold}
use Rattle.announcing.specs.declared.telling.Told.{Told}
use Rattle.board_words.specs.Steps.{best_known}
use Rattle.board_words.specs.declared.seat.View.{View}
use Rattle.dp_claims.specs.Enough.{Has}
use Rattle.pass_ends.specs.Ends.{IsPassEnd}
use Rattle.pass_ends.specs.declared.answers.PassEnd.{PassEnd}
use Rattle.pass_ends.specs.declared.answers.PassEnd.TheVariants as ends
use Rattle.pass_ledger.proofs.Lists.{has_cases, has_map, has_none}
use Rattle.pass_ledger.specs.Passes.{Pass}
use Rattle.pass_over.proofs.Looked.{ends_looked, ends_lost}
use Rattle.pass_over.specs.Announcements.{EndsAnnounced, HasRefused, RanOut}
use Rattle.pass_over.specs.declared.announced.AnnouncedEnd.{AnnouncedEnd}
use Rattle.pass_run.specs.Announcements.{HasHeard, HasLooked, HasSettled, WasHeard, forgotten}
use Rattle.pass_run.specs.Hearing.{Hears, costs_cried}
use Rattle.pass_run.specs.Hearing.{Heard as HeardBy}
use Rattle.pass_run.specs.declared.announced.Heard.{Heard}
use Rattle.pass_run.specs.declared.ear.Ear.{Ear}
use Rattle.solve_report.proofs.Written.{Puts-nothing}

-- ---- how a pass ended

forgotten_end : (p : Pass) (was now : View) (end : PassEnd) → IsPassEnd p was now end → IsPassEnd p was now (forgotten end)
forgotten_end p was now (ends.Closed visited dropped floor best) h = (h.0, tt, record { cause_is = tt; best_is = λ other. absurd (other refl) }, λ other. absurd (other refl))
forgotten_end p was now (ends.Halted cause visited dropped best) h = (h.0, tt, record { cause_is = tt; best_is = λ other. absurd (other refl) }, λ other. absurd (other refl))

forgotten_ran : (end : PassEnd) → RanOut (forgotten end)
forgotten_ran (ends.Closed visited dropped floor best) = refl
forgotten_ran (ends.Halted cause visited dropped best) = refl

-- ---- the answer

module _ (p : Pass) (was now : View) (queue : QueueFacts) (heard : Heard) (w : WasHeard p was now queue heard) (begun : IsBegunOf heard.over.callers.items heard.crier.taken) where
  best : ℕ
  best = best_known now

  in_shards : AreOfShards p heard.crier.taken
  in_shards k x at = subst (λ (n : ℕ). x.from < n) w.senders (w.known k x at)

  cried_solved : (c : ℤ) → Has (costs_cried heard.crier.taken) c → IsSolved p (best_known now) c
  cried_solved c has =
      let one = has_map (λ (x : CalledCost). x.cost) heard.crier.taken c has in
      subst (IsSolved p (best_known now)) one.2
      (cried_law p w.callers.records (best_known was) (best_known now) heard.over.callers.items heard.crier.taken w.callers.together w.callers.best_is w.callers.callers_for in_shards begun one.0 one.1)

  left_solved : (left : List ℤ) → AreLeft queue.senders heard.over.callers.items heard.crier.taken left → (c : ℤ) → Has left c → IsSolved p (best_known now) c
  left_solved left are c has =
      left_law p w.callers.records (best_known was) (best_known now) heard.over.callers.items heard.crier.taken left w.callers.together w.callers.best_is w.callers.callers_for
      (subst (λ (n : ℕ). AreLeft n heard.over.callers.items heard.crier.taken left) w.senders are) c has

  both_solved : (left : List ℤ) → AreLeft queue.senders heard.over.callers.items heard.crier.taken left → (c : ℤ) → Has (costs_cried heard.crier.taken ++ left) c → IsSolved p (best_known now) c
  both_solved left are c has = elim (has_cases (costs_cried heard.crier.taken) left c has) [ inl a ↦ cried_solved c a | inr b ↦ left_solved left are c b ]

  module _ (minimize : Bool) (last : Option ℤ) (before after : Option (List ℕ)) (faults faults_after : ℕ) (told : Told) (same : minimize ≡ p.model.minimize) (r : AnnouncedEnd) (last_told : r.last ≡ told.last) (count_told : r.announced ≡ told.count) (failed_told : r.failed ≡ told.failed) (count : r.refused ≡ min (refused_of heard.over.callers.items) 18446744073709551615) where
    -- the calls that found no room are those of the shards
    has_refused : HasRefused p r.refused
    has_refused = inr (w.callers.records, refused_of heard.over.callers.items, w.callers.together, refused_law p w.callers.records heard.over.callers.items w.callers.callers_for, count)

    pub ends_announced : HasSettled queue heard.over.callers.items heard.crier minimize last before after faults faults_after told heard.over.end r.end → EndsAnnounced p was now last before after faults faults_after r
    ends_announced (inl all) =
        ends_looked p was now heard.over.end w.ended (costs_cried heard.crier.taken ++ all.0) (both_solved all.0 all.1) minimize last before after faults faults_after told same r last_told count_told failed_told has_refused all.2 all.3
    ends_announced (inr lost) =
        ends_lost p was now heard.over.end w.ended (costs_cried heard.crier.taken) cried_solved minimize last before after faults faults_after told same r last_told count_told failed_told has_refused
        (forgotten heard.over.end) lost.0 (forgotten_end p was now heard.over.end w.ended) (forgotten_ran heard.over.end) lost.1

-- what was looked at are the costs that were left
pub settled_by : (queue : QueueFacts) (callers : List CallerFacts) (crier : CrierFacts) (minimize : Bool) (last : Option ℤ) (before after : Option (List ℕ)) (faults faults_after : ℕ) (told : Told) (end result : PassEnd) (left : List ℤ) → AreLeft queue.senders callers crier.taken left
    → HasLooked minimize last (costs_cried crier.taken) left before after faults faults_after told end result → HasSettled queue callers crier minimize last before after faults faults_after told end result
settled_by queue callers crier minimize last before after faults faults_after told end result left are (inl all) = inl (left, are, all.0, all.1)
settled_by queue callers crier minimize last before after faults faults_after told end result left are (inr lost) = inr lost

-- ---- what is heard from the first turn on

-- an ear that has heard nothing
abbrev pub IsNewEar : {A : Type 0} → QueueFacts → (minimize : Bool) → (last : Option ℤ) → Ear A → Type 0
IsNewEar queue minimize last ear = (ear.queue.now ≡ queue) × (ear.crier.now ≡ new_crier queue) × (ear.minimize ≡ minimize) × (ear.told ≡ record { last = last; count = 0; failed = false })

module _ {A : Type 0} (taken : A → Option (List ℕ)) (faults : A → ℕ) (queue : QueueFacts) (minimize : Bool) (last : Option ℤ) where
  abbrev held_to : Ear A → HeardBy
  held_to ear = record { queue = queue; crier = ear.crier.ghost_name; sink = ear.out.ghost_name; minimize = minimize; last = last; before = taken ear.out.now; faults = faults ear.out.now }

  hears_new : (ear : Ear A) → IsNewEar queue minimize last ear → Hears taken faults (held_to ear) ear
  hears_new ear new = record {
    queue_is = new.0;
    crier = ap (λ (c : CrierFacts). c.queue) new.1;
    known = λ k x at. absurd (has_none x (k, ap (λ (c : CrierFacts). slice_get c.taken k) (sym new.1) ∙ at));
    crier_is = refl;
    sink_is = refl;
    minimize_is = new.2;
    few = (let none = ap (λ (t : Told). t.count) new.3 in omega (arith, none));
    told =
        subst (λ (t : Told). IsTold minimize last (costs_cried ear.crier.now.taken) (taken ear.out.now) (taken ear.out.now) (faults ear.out.now) (faults ear.out.now) t) (sym new.3)
        (subst (λ (c : CrierFacts). IsTold minimize last (costs_cried c.taken) (taken ear.out.now) (taken ear.out.now) (faults ear.out.now) (faults ear.out.now) (record { last = last; count = 0; failed = false })) (sym new.1)
        (record { result = Ok tt; result_is = refl; last_is = λ _. refl; count_is = λ _. refl; written = Puts-nothing }));
  }

  pub may_hear : (ear : Ear A) → IsNewEar queue minimize last ear → (h : HeardBy) × Hears taken faults h ear
  may_hear ear new = (held_to ear, hears_new ear new)

  -- what was heard when the turns are over, by what the crier and the sink are once the ear has let them go
  pub heard_at : (ear after : Ear A) → ((h : HeardBy) → Hears taken faults h ear → Hears taken faults h after) → IsNewEar queue minimize last ear → (crier : CrierFacts) (sink : A) → crier ≡ after.crier.now → sink ≡ after.out.now
      → HasHeard taken faults queue minimize last crier ear.out.now sink after.told
  heard_at ear after between new crier sink same out =
      let h = between (held_to ear) (hears_new ear new) in
      subst (λ (c : CrierFacts). HasHeard taken faults queue minimize last c ear.out.now sink after.told) (sym same)
      (subst (λ (s : A). HasHeard taken faults queue minimize last after.crier.now ear.out.now s after.told) (sym out)
      (record { crier_of = h.crier; known = h.known; few = h.few; looked = h.told }))
