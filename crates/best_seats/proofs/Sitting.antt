-- How the seat of a shard changes.
use Rattle.std.proofs.Common.{◌≡◌, ℕ, ◌+◌, ◌*◌, ◌^◌, ◌≤◌, ◌<◌, max, nat_lt, if◌then◌else◌, inl, inr, List, [], ◌∷◌, ◌++◌, length, map, Option, Some, None, refl, sym, ap, subst, ◌∙◌, arith, length-append}
use Rattle.std.proofs.lemmas.Bool.Decides.{nat_tests}
use Rattle.std.proofs.lemmas.List.{length_push}
use Rattle.board_words.specs.Causes.{halt_number}
use Rattle.board_words.specs.Rules.{draws_each, MayDraw}
use Rattle.board_words.specs.Seats.{BoardFacts, SeatFacts, IsSeatOf}
use Rattle.board_words.specs.Steps.{after_look, after_halt, after_halted, split_view, IsBestFor, IsCountFor}
use Rattle.board_words.specs.declared.halt.HaltCause.{HaltCause}
use Rattle.board_words.specs.declared.halt.HaltCause.TheVariants as causes
use Rattle.board_words.specs.declared.seat.View.{View}
use Rattle.dp_claims.specs.Enough.{Has}
use Rattle.pass_ledger.specs.Passes.{Pass}
use Rattle.pass_ledger.specs.declared.records.FaultHere.{FaultHere}
use Rattle.pass_ledger.specs.declared.records.Held.{Held}
use Rattle.pass_ledger.specs.declared.records.PrunedAt.{PrunedAt}
use Rattle.pass_ledger.proofs.Lists.{has_none, has_head, has_cases, has_map}
use Rattle.best_ledger.specs.Events.{fresh, take_letter, prune, visit_node, post, moments_of, IsWithout}
use Rattle.best_ledger.specs.Histories.{visit, visits_in}
use Rattle.best_ledger.specs.declared.letters.BestLetter.{BestLetter}
use Rattle.best_ledger.specs.declared.records.BestRecord.{BestRecord}
use Rattle.best_ledger.specs.declared.records.BestVisit.{BestVisit}
use Rattle.best_ledger.specs.declared.records.Moment.{Moment}
use Rattle.best_ledger.specs.declared.records.Moment.TheVariants.{Came, Visited, Pruned}
use Rattle.best_ledger.specs.declared.records.ToPost.{ToPost}
use Rattle.best_ledger.proofs.Moments.{visits_append, no_visits_in}
use Rattle.best_ledger.proofs.Steps.{pruned_same}
use Rattle.shard_seats.specs.Seats.{IsOfferOf}
use Rattle.shard_seats.proofs.Sitting.{drawn_at}
use Rattle.best_seats.specs.Seats.{HasSeen, Sits, HasCause, Sat}
use Rattle.best_seats.specs.declared.ended.BestEnded.{BestEnded}
use Rattle.best_seats.specs.declared.ended.BestEnded.TheVariants as ends
use Rattle.state_layout.specs.declared.node.Node.{Node}

-- ---- the best word

le_trans : (a b c : ℕ) → a ≤ b → b ≤ c → a ≤ c
le_trans a b c h k = omega arith

le_same : (a b : ℕ) → b ≡ a → a ≤ b
le_same a b e = omega arith

-- the best word does not rise, so each pruning before used no less
seen_lower : (v : View) (history : List Moment) (best : ℕ) → HasSeen v history → IsBestFor v best → HasSeen (after_look v best) history
seen_lower v history best h b q there = le_trans best v.seen q.best b.seen (h q there)

seen_more : (v : View) (history more : List Moment) → HasSeen v history → ((q : PrunedAt) → Has more (Pruned q) → q.best ≡ v.seen) → HasSeen v (history ++ more)
seen_more v history more h new q there = elim (has_cases history more (Pruned q) there) [ inl a ↦ h q a | inr b ↦ le_same v.seen q.best (new q b) ]

-- ---- what befell the shard

none_came : (x : BestLetter) (q : PrunedAt) → Has (Came x ∷ []) (Pruned q) → ⊥
none_came x q h = elim (has_head (Came x) [] (Pruned q) h) [ inl e ↦ (let clash : Came x ≡ Pruned q = e in cc) | inr none ↦ has_none (Pruned q) none ]

one_pruned : (n : Node) (best : ℕ) (q : PrunedAt) → Has (Pruned (record { node = n; best = best }) ∷ []) (Pruned q) → q.best ≡ best
one_pruned n best q h =
    elim (has_head (Pruned (record { node = n; best = best })) [] (Pruned q) h) [
      | inl e ↦ ap (λ (a : PrunedAt). a.best) (sym (pruned_same (record { node = n; best = best }) q e))
      | inr none ↦ absurd (has_none (Pruned q) none)
    ]

by_visit : (stamp : ℕ) (n : Node) (prunes : List PrunedAt) (best : ℕ) → ((q : PrunedAt) → Has prunes q → q.best ≡ best) → (q : PrunedAt) → Has (moments_of stamp n prunes) (Pruned q) → q.best ≡ best
by_visit stamp n prunes best by_best q h =
    elim (has_head (Visited (visit stamp n)) (map (λ (q : PrunedAt). Pruned q) prunes) (Pruned q) h) [
      | inl e ↦ (let clash : Visited (visit stamp n) ≡ Pruned q = e in absurd (cc))
      | inr later ↦ (let m = has_map (λ (q : PrunedAt). Pruned q) prunes (Pruned q) later in subst (λ (x : PrunedAt). x.best ≡ best) (pruned_same m.0 q m.2) (by_best m.0 m.1))
    ]

-- so many visits
visits_still : (history : List Moment) (m : Moment) → visits_in (m ∷ []) ≡ [] → length (visits_in (history ++ m ∷ [])) ≡ length (visits_in history)
visits_still history m none =
    let a = ap length (visits_append history (m ∷ [])) in
    let b = length-append (visits_in history) (visits_in (m ∷ [])) in
    let c = ap length none in
    omega (arith, a, b, c)

pub one_visit : (history : List Moment) (stamp : ℕ) (n : Node) (prunes : List PrunedAt) → length (visits_in (history ++ moments_of stamp n prunes)) ≡ length (visits_in history) + 1
one_visit history stamp n prunes =
    ap length (visits_append history (moments_of stamp n prunes) ∙ ap (λ (vs : List BestVisit). visits_in history ++ visit stamp n ∷ vs) (no_visits_in prunes)) ∙ length_push (visits_in history) (visit stamp n)

-- ---- numbers that are drawn

in_time : (late number limit budget : ℕ) → late ≡ 0 → limit ≡ budget → number < budget → late + (if nat_lt number limit then 0 else 1) ≡ 0
in_time late number limit budget none same lt = grind (arith, nat_tests)

too_late : (late number limit budget : ℕ) → late ≡ 0 → limit ≡ budget → budget ≤ number → late + (if nat_lt number limit then 0 else 1) ≡ 1
too_late late number limit budget none same le = grind (arith, nat_tests)

pub may_draw : (p : Pass) (budget limit : ℕ) (v : View) (r : BestRecord) → limit ≤ 2 ^ 40 → v.limit ≡ limit → Sits p budget v r → MayDraw v
may_draw p budget limit v r small same s = few v.drawn v.top budget limit v.limit v.part s.drawn_below s.top s.limit same small s.part
  where
    few : (drawn top budget limit own part : ℕ) → drawn ≤ top → top ≤ budget → own ≡ budget → own ≡ limit → limit ≤ 2 ^ 40 → part ≡ 1 → drawn < draws_each * part
    few drawn top budget limit own part a b c d e f = omega (arith, a, b, c, d, e, f)

-- ---- a shard that goes on

-- one that has done nothing, with a seat that was split off
pub sits_fresh : (p : Pass) (budget : ℕ) (v w : View) (start : Option Node) → w ≡ split_view v → v.limit ≡ budget → Sits p budget w (fresh p.shards start)
sits_fresh p budget v w start e limit = record {
  part = ap (λ (x : View). x.part) e;
  limit = ap (λ (x : View). x.limit) e ∙ limit;
  offered = ap (λ (x : View). x.offered) e;
  seen = λ q h. absurd (has_none (Pruned q) h);
  drawn = ap (λ (x : View). x.drawn) e;
  drawn_below = (let a = ap (λ (x : View). x.drawn) e in omega (arith, a));
  top = (let a = ap (λ (x : View). x.top) e in omega (arith, a));
  late = ap (λ (x : View). x.late) e;
  raised = ap (λ (x : View). x.raised) e;
  met = ap (λ (x : View). x.met) e;
}

pub sits_took : (p : Pass) (budget : ℕ) (v : View) (r : BestRecord) (x : BestLetter) (rest : List Node) → Sits p budget v r → Sits p budget v (take_letter r x rest)
sits_took p budget v r x rest s =
    record {
      part = s.part;
      limit = s.limit;
      offered = s.offered;
      seen = seen_more v r.history (Came x ∷ []) s.seen (λ q h. absurd (none_came x q h));
      drawn = s.drawn ∙ sym (visits_still r.history (Came x) refl);
      drawn_below = s.drawn_below;
      top = s.top;
      late = s.late;
      raised = s.raised;
      met = s.met;
    }

pub sits_posted : (p : Pass) (budget : ℕ) (v : View) (r : BestRecord) (u : ToPost) (rest : List ToPost) → Sits p budget v r → Sits p budget v (post r u rest)
sits_posted p budget v r u rest s =
    record { part = s.part; limit = s.limit; offered = s.offered; seen = s.seen; drawn = s.drawn; drawn_below = s.drawn_below; top = s.top; late = s.late; raised = s.raised; met = s.met }

pub sits_pruned : (p : Pass) (budget : ℕ) (v : View) (r : BestRecord) (n : Node) (rest : List Node) (best : ℕ) → Sits p budget v r → IsBestFor v best → Sits p budget (after_look v best) (prune r n rest best)
sits_pruned p budget v r n rest best s b =
    record {
      part = s.part;
      limit = s.limit;
      offered = s.offered;
      seen = seen_more (after_look v best) r.history (Pruned (record { node = n; best = best }) ∷ []) (seen_lower v r.history best s.seen b) (one_pruned n best);
      drawn = s.drawn ∙ sym (visits_still r.history (Pruned (record { node = n; best = best })) refl);
      drawn_below = s.drawn_below;
      top = s.top;
      late = s.late;
      raised = s.raised;
      met = s.met;
    }

one_up : (a b c : ℕ) → a ≡ b → c ≡ b + 1 → a + 1 ≡ c
one_up a b c e f = omega arith

up : (a b : ℕ) → a ≤ b → a + 1 ≤ b + 1
up a b h = omega arith

below : (a b : ℕ) → a < b → a + 1 ≤ b
below a b h = omega arith

pub sits_visited : (p : Pass) (budget : ℕ) (v : View) (r : BestRecord) (best number : ℕ) → Sits p budget v r → IsBestFor v best → IsCountFor (after_look v best) number → number < budget
    → (stamp : ℕ) (n : Node) (rest : List Node) (made : List ToPost) (prunes : List PrunedAt) → ((q : PrunedAt) → Has prunes q → q.best ≡ best) → (held : Option Held) (offered : ℕ) → IsOfferOf p offered held
    → Sits p budget (record (drawn_at v best number) { offered = offered }) (visit_node r stamp n rest made prunes held None)
sits_visited p budget v r best number s b count lt stamp n rest made prunes by_best held offered offer =
    record {
      part = s.part;
      limit = s.limit;
      offered = offer;
      seen = seen_more (after_look v best) r.history (moments_of stamp n prunes) (seen_lower v r.history best s.seen b) (by_visit stamp n prunes best by_best);
      drawn = one_up v.drawn (length (visits_in r.history)) (length (visits_in (r.history ++ moments_of stamp n prunes))) s.drawn (one_visit r.history stamp n prunes);
      drawn_below = up v.drawn number count.own;
      top = below number budget lt;
      late = in_time v.late number v.limit budget s.late s.limit lt;
      raised = s.raised;
      met = s.met;
    }

-- ---- a shard that has ended

few_more : (a b c : ℕ) → a ≡ b → a ≤ b + c
few_more a b c e = omega arith

few_one : (a b c : ℕ) → a ≡ b → 0 < c → a + 1 ≤ b + c
few_one a b c e lt = omega arith

few_up : (a b c d : ℕ) → a ≡ b → d ≡ b + 1 → a + 1 ≤ d + c
few_up a b c d e f = omega arith

-- a node that was picked is open
pub some_open : (nodes : List Node) (n : Node) (rest : List Node) → IsWithout nodes n rest → 0 < length nodes
some_open nodes n rest w =
    let a = ap length w.was in
    let b = length-append w.before (n ∷ w.after) in
    omega (arith, a, b)

raises : (a b : ℕ) → a ≡ 0 → max a b ≡ b
raises a b e = omega arith

cause_kept : (v : View) (r : BestRecord) (number : ℕ) (cause : HaltCause) → HasCause v r cause → HasCause (after_halt v number) r cause
cause_kept v r number causes.Budget h = h
cause_kept v r number causes.Memory h = h
cause_kept v r number causes.Fault h = h

-- a shard that halts the search
sat_halted : (p : Pass) (v : View) (r : BestRecord) (cause : HaltCause) → v.part ≡ 1 → IsOfferOf p v.offered r.held → HasSeen v r.history → v.drawn ≤ length (visits_in r.history) + length r.waiting → v.raised ≡ 0 → HasCause v r cause
    → Sat p (ends.Halted cause) (after_halt v (halt_number cause)) r
sat_halted p v r cause part offered seen few raised why =
    record { part = part; offered = offered; seen = seen; few_drawn = few; cause = (raises v.raised (halt_number cause) raised, cause_kept v r (halt_number cause) cause why) }

module _ (p : Pass) (budget : ℕ) (v : View) (r : BestRecord) (s : Sits p budget v r) where
  few : v.drawn ≤ length (visits_in r.history) + length r.waiting
  few = few_more v.drawn (length (visits_in r.history)) (length r.waiting) s.drawn

  -- it has no work
  pub sat_idle : Sat p ends.Idle v r
  sat_idle = record { part = s.part; offered = s.offered; seen = s.seen; few_drawn = few; cause = (s.raised, s.late) }

  -- it met the halt of another
  pub sat_met : (word : ℕ) → 0 < word → Sat p ends.Met (after_halted v word) r
  sat_met word some = record { part = s.part; offered = s.offered; seen = s.seen; few_drawn = few; cause = (s.raised, s.late, some) }

  -- memory ran out before it drew a number
  pub sat_memory : Sat p (ends.Halted causes.Memory) (after_halt v (halt_number causes.Memory)) r
  sat_memory = sat_halted p v r causes.Memory s.part s.offered s.seen few s.raised s.late

  -- ---- after it drew a number for a node that it picked
  module _ (best number : ℕ) (b : IsBestFor v best) (waits : 0 < length r.waiting) where
    drawn_few : v.drawn + 1 ≤ length (visits_in r.history) + length r.waiting
    drawn_few = few_one v.drawn (length (visits_in r.history)) (length r.waiting) s.drawn waits

    -- the budget was spent
    pub sat_budget : budget ≤ number → Sat p (ends.Halted causes.Budget) (after_halt (drawn_at v best number) (halt_number causes.Budget)) r
    sat_budget spent = sat_halted p (drawn_at v best number) r causes.Budget s.part s.offered (seen_lower v r.history best s.seen b) drawn_few s.raised (too_late v.late number v.limit budget s.late s.limit spent)

    -- memory ran out in the visit
    pub sat_drawn : number < budget → Sat p (ends.Halted causes.Memory) (after_halt (drawn_at v best number) (halt_number causes.Memory)) r
    sat_drawn lt = sat_halted p (drawn_at v best number) r causes.Memory s.part s.offered (seen_lower v r.history best s.seen b) drawn_few s.raised (in_time v.late number v.limit budget s.late s.limit lt)

    -- the visit met a fault
    pub sat_fault : number < budget → (stamp : ℕ) (n : Node) (rest : List Node) (met : FaultHere) → Sat p (ends.Halted causes.Fault) (after_halt (drawn_at v best number) (halt_number causes.Fault)) (visit_node r stamp n rest [] [] r.held (Some met))
    sat_fault lt stamp n rest met =
        sat_halted p (drawn_at v best number) (visit_node r stamp n rest [] [] r.held (Some met)) causes.Fault s.part s.offered
        (seen_more (after_look v best) r.history (moments_of stamp n []) (seen_lower v r.history best s.seen b) (by_visit stamp n [] best (λ q h. absurd (has_none q h))))
        (few_up v.drawn (length (visits_in r.history)) (length rest) (length (visits_in (r.history ++ moments_of stamp n []))) s.drawn (one_visit r.history stamp n [])) s.raised
        (in_time v.late number v.limit budget s.late s.limit lt, met, refl)

-- ---- calls of the board

-- the seat raised the halt of a cause, and the shard has ended by it
pub record Halts (board : BoardFacts) (old : SeatFacts) (cause : HaltCause) (end : BestEnded) (new : SeatFacts) : Type 0 where
  pub ended : end ≡ ends.Halted cause
  pub on_board : IsSeatOf board new
  pub view : new.view ≡ after_halt old.view (halt_number cause)
