-- What follows of chains of parents: from each step leads one chain at most, it stays as logs grow, and a step that is
-- pushed is found where its name says.
use Rattle.std.specs.Prelude.{◌≡◌, ℕ, zero, suc, List, [], ◌∷◌, ◌++◌, length, slice_get, slice_set, Option, Some, None, option_and_then, IsSome, ◌⊎◌, refl}
use Rattle.std.proofs.Common.{sym, ap, ◌∙◌, subst, inl, inr, append-nil}
use Rattle.path_log.specs.Paths.{Log, entry, entry_at, LeadsBack, InPlace, Grown, with_step, next_id}
use Rattle.path_log.specs.declared.logs.StepId.{StepId}
use Rattle.path_log.specs.declared.logs.Entry.{Entry}

-- a step from which a chain leads back is there
pub named : (logs : List Log) (id : StepId) (back : List ℕ) → LeadsBack logs id back → IsSome (entry_at logs id)
named logs id [] h = subst IsSome (sym h.1) refl
named logs id (t ∷ back) h = subst IsSome (sym h.1) refl

pub same_entry : (a b : Entry) → Some a ≡ Some b → a ≡ b
same_entry a b e = cc

-- at an entry without a parent the chain is over
pub ends : (logs : List Log) (id : StepId) (back : List ℕ) (e : Entry) → entry_at logs id ≡ Some e → e.parent ≡ None → LeadsBack logs id back → back ≡ []
ends logs id [] e is none h = refl
ends logs id (t ∷ back) e is none h =
    let same : e ≡ entry (Some h.0) t = same_entry _ _ (sym is ∙ h.1) in
    let clash : None ≡ Some h.0 = sym none ∙ ap (λ (x : Entry). x.parent) same in
    cc

-- at an entry with a parent the chain goes on from there
pub goes_on : (logs : List Log) (id parent : StepId) (back : List ℕ) (e : Entry) → entry_at logs id ≡ Some e → e.parent ≡ Some parent → LeadsBack logs id back → (rest : List ℕ) × (back ≡ e.transition ∷ rest) × LeadsBack logs parent rest
goes_on logs id parent [] e is some h =
    let same : e ≡ entry None h.0 = same_entry _ _ (sym is ∙ h.1) in
    let clash : Some parent ≡ None = sym some ∙ ap (λ (x : Entry). x.parent) same in
    cc
goes_on logs id parent (t ∷ back) e is some h =
    let same : e ≡ entry (Some h.0) t = same_entry _ _ (sym is ∙ h.1) in
    let parents : Some h.0 ≡ Some parent = sym (ap (λ (x : Entry). x.parent) same) ∙ some in
    let parent_is : h.0 ≡ parent = cc in
    let first : e.transition ≡ t = ap (λ (x : Entry). x.transition) same in
    (back, ap (λ (u : ℕ). u ∷ back) (sym first), subst (λ (p : StepId). LeadsBack logs p back) parent_is h.2)

-- one chain leads back from a step at most
pub one_chain : (logs : List Log) (id : StepId) (a b : List ℕ) → LeadsBack logs id a → LeadsBack logs id b → a ≡ b
one_chain logs id [] b p q = sym (ends logs id b (entry None p.0) p.1 refl q)
one_chain logs id (t ∷ a) b p q =
    let on = goes_on logs id p.0 b (entry (Some p.0) t) p.1 refl q in
    ap (λ (rest : List ℕ). t ∷ rest) (one_chain logs p.0 a on.0 p.2 on.2) ∙ sym on.1

-- a chain stays as logs grow
pub stays : (old new : List Log) → Grown old new → (id : StepId) (back : List ℕ) → LeadsBack old id back → LeadsBack new id back
stays old new grown id [] h = (h.0, grown id _ h.1)
stays old new grown id (t ∷ back) h = (h.0, grown id _ h.1, stays old new grown h.0 back h.2)

-- ---- items of lists

module _ {X : Type 0} where
  -- an item stays where it is as a list goes on
  kept : (xs more : List X) (i : ℕ) (x : X) → slice_get xs i ≡ Some x → slice_get (xs ++ more) i ≡ Some x
  kept [] more i x is = cc
  kept (y ∷ xs) more zero x is = is
  kept (y ∷ xs) more (suc i) x is = kept xs more i x is

  last : (xs : List X) (x : X) → slice_get (xs ++ x ∷ []) (length xs) ≡ Some x
  last [] x = refl
  last (y ∷ xs) x = last xs x

  -- what is written is found there
  written : (xs : List X) (i : ℕ) (old new : X) → slice_get xs i ≡ Some old → slice_get (slice_set xs i new) i ≡ Some new
  written [] i old new is = cc
  written (y ∷ xs) zero old new is = refl
  written (y ∷ xs) (suc i) old new is = written xs i old new is

  -- an item of a list after a write is the one that was written, or was there
  written_or_old : (xs : List X) (i k : ℕ) (new x : X) → slice_get (slice_set xs i new) k ≡ Some x → ((k ≡ i) × (x ≡ new)) ⊎ (slice_get xs k ≡ Some x)
  written_or_old [] i k new x is = inr is
  written_or_old (y ∷ xs) zero zero new x is = inl (refl, cc)
  written_or_old (y ∷ xs) zero (suc k) new x is = inr is
  written_or_old (y ∷ xs) (suc i) zero new x is = inr is
  written_or_old (y ∷ xs) (suc i) (suc k) new x is =
      elim (written_or_old xs i k new x is) [ inl here ↦ inl (ap suc here.0, here.1) | inr there ↦ inr there ]

  -- an item of a list before a write is there after it, or was at the place
  old_or_written : (xs : List X) (i k : ℕ) (new x : X) → slice_get xs k ≡ Some x → (slice_get (slice_set xs i new) k ≡ Some x) ⊎ (k ≡ i)
  old_or_written [] i k new x is = inl is
  old_or_written (y ∷ xs) zero zero new x is = inr refl
  old_or_written (y ∷ xs) zero (suc k) new x is = inl is
  old_or_written (y ∷ xs) (suc i) zero new x is = inl is
  old_or_written (y ∷ xs) (suc i) (suc k) new x is =
      elim (old_or_written xs i k new x is) [ inl there ↦ inl there | inr here ↦ inr (ap suc here) ]

-- ---- how logs grow

found_in : (log : Option Log) (place : ℕ) (e : Entry) → option_and_then (λ (l : Log). slice_get l.entries place) log ≡ Some e → (l : Log) × (log ≡ Some l) × (slice_get l.entries place ≡ Some e)
found_in None place e is = cc
found_in (Some l) place e is = (l, refl, is)

-- the log in which a step stands
pub in_log : (logs : List Log) (id : StepId) (e : Entry) → entry_at logs id ≡ Some e → (log : Log) × (slice_get logs id.shard ≡ Some log) × (slice_get log.entries id.place ≡ Some e)
in_log logs id e is = found_in (slice_get logs id.shard) id.place e is

pub at_place : (logs : List Log) (id : StepId) (log : Log) (e : Entry) → slice_get logs id.shard ≡ Some log → slice_get log.entries id.place ≡ Some e → entry_at logs id ≡ Some e
at_place logs id log e here is = ap (λ (o : Option Log). option_and_then (λ (l : Log). slice_get l.entries id.place) o) here ∙ is

-- logs grow where each of them goes on as it was
pub grown_each : (old new : List Log) → ((i : ℕ) (log : Log) → slice_get old i ≡ Some log → (later : Log) × (more : List Entry) × (slice_get new i ≡ Some later) × (later.entries ≡ log.entries ++ more)) → Grown old new
grown_each old new go_on id e is =
    let found = in_log old id e is in
    let on = go_on id.shard found.0 found.1 in
    at_place new id on.0 e on.2 (ap (λ (es : List Entry). slice_get es id.place) on.3 ∙ kept found.0.entries on.1 id.place e found.2)

-- and where one step is pushed
pub grown_push : (logs : List Log) (i : ℕ) (log : Log) (e : Entry) → slice_get logs i ≡ Some log → Grown logs (slice_set logs i (with_step log e))
grown_push logs i log e here = grown_each logs (slice_set logs i (with_step log e)) each
  where
    each : (k : ℕ) (at : Log) → slice_get logs k ≡ Some at → (later : Log) × (more : List Entry) × (slice_get (slice_set logs i (with_step log e)) k ≡ Some later) × (later.entries ≡ at.entries ++ more)
    each k at is =
        elim (old_or_written logs i k (with_step log e) at is) [
          | inl there ↦ (at, [], there, sym (append-nil at.entries))
          | inr place ↦
              let same : at ≡ log = cc in
              (with_step log e, e ∷ [], subst (λ j. slice_get (slice_set logs i (with_step log e)) j ≡ Some (with_step log e)) (sym place) (written logs i log (with_step log e) here), ap (λ (l : Log). l.entries ++ e ∷ []) (sym same))
        ]

-- a step that is pushed is found where its name says
pub pushed : (logs : List Log) (i : ℕ) (log : Log) (e : Entry) → slice_get logs i ≡ Some log → log.shard ≡ i → entry_at (slice_set logs i (with_step log e)) (next_id log) ≡ Some e
pushed logs i log e here shard =
    at_place (slice_set logs i (with_step log e)) (next_id log) (with_step log e) e (subst (λ j. slice_get (slice_set logs i (with_step log e)) j ≡ Some (with_step log e)) (sym shard) (written logs i log (with_step log e) here)) (last log.entries e)

-- logs keep their places
pub in_place_push : (logs : List Log) (i : ℕ) (log : Log) (e : Entry) → InPlace logs → slice_get logs i ≡ Some log → InPlace (slice_set logs i (with_step log e))
in_place_push logs i log e places here k at is =
    elim (written_or_old logs i k (with_step log e) at is) [
      | inl new ↦ ap (λ (l : Log). l.shard) new.1 ∙ (places i log here ∙ sym new.0)
      | inr old ↦ places k at old
    ]

-- the chain of a step that is pushed: it has no transitions where the step has no parent, and else prolongs that of its parent
pub begins : (logs : List Log) (i : ℕ) (log : Log) (transition : ℕ) → slice_get logs i ≡ Some log → log.shard ≡ i → LeadsBack (slice_set logs i (with_step log (entry None transition))) (next_id log) []
begins logs i log transition here shard = (transition, pushed logs i log (entry None transition) here shard)

pub prolongs : (logs : List Log) (i : ℕ) (log : Log) (parent : StepId) (transition : ℕ) (back : List ℕ) → slice_get logs i ≡ Some log → log.shard ≡ i → LeadsBack logs parent back → LeadsBack (slice_set logs i (with_step log (entry (Some parent) transition))) (next_id log) (transition ∷ back)
prolongs logs i log parent transition back here shard leads =
    let e = entry (Some parent) transition in
    (parent, pushed logs i log e here shard, stays logs (slice_set logs i (with_step log e)) (grown_push logs i log e here) parent back leads)
