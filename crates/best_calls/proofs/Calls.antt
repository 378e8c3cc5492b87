-- The costs that shards call are those of solutions.
use Rattle.std.proofs.Common.{◌≡◌, ℕ, ◌<◌, inl, inr, zero, suc, Bool, true, false, List, [], ◌∷◌, ◌++◌, length, map, reverse, slice_get, nat_eq, cond, Option, Some, None, refl, sym, subst, ◌∙◌, ap, arith}
use Rattle.std.specs.Prelude.{ℤ, pos, ◌≤ℤ◌}
use Rattle.std.specs.List.{filter}
use Rattle.std.proofs.lemmas.Bool.Decides.{nat_tests}
use Rattle.std.proofs.lemmas.Int.{ints}
use Rattle.announce_laws.specs.Called.{AreOfShards, IsSolved}
use Rattle.announcer.specs.Calls.{costs_of}
use Rattle.announcer.specs.Ends.{CallerFacts, IsBegunOf, AreLeft}
use Rattle.announcer.specs.declared.view.CalledCost.{CalledCost}
use Rattle.dp_claims.specs.Enough.{Has}
use Rattle.dp_steps.specs.Lists.{Solution}
use Rattle.pass_ledger.specs.Passes.{Pass, word_of}
use Rattle.pass_ledger.specs.Records.{Reaches}
use Rattle.pass_ledger.specs.declared.records.Held.{Held}
use Rattle.pass_ledger.proofs.Lists.{get_left, has_right, has_none, has_head, has_cases, has_map, has_prefix}
use Rattle.best_ledger.specs.Events.{take_letter, prune, moments_of, visit_node}
use Rattle.best_ledger.specs.Histories.{visits_in}
use Rattle.best_ledger.specs.Ledgers.{IsBest}
use Rattle.best_ledger.specs.Records.{Own, Together, record_of}
use Rattle.best_ledger.specs.declared.records.BestVisit.{BestVisit}
use Rattle.best_ledger.specs.declared.records.BestRecord.{BestRecord}
use Rattle.best_ledger.specs.declared.records.Moment.{Moment}
use Rattle.best_ledger.specs.declared.records.Moment.TheVariants.{Came, Pruned}
use Rattle.best_ledger.proofs.Closing.{rooted}
use Rattle.best_ledger.proofs.Moments.{visits_append}
use Rattle.best_ledger.proofs.Ways.{held_found}
use Rattle.best_calls.specs.Called.{WasHeld, AreCalled, LawCalled, AreCallersFor, LawCried, LawLeft}

-- ---- each event keeps it

-- what was held once stays so where more befell the shard, and what is held gets no worse
still_held : (p : Pass) (i : ℕ) (r s : BestRecord) (more : List Moment) (cost : ℤ) → s.history ≡ r.history ++ more → ((total : ℤ) → Reaches p r.held total → Reaches p s.held total) → WasHeld p i r cost → WasHeld p i s cost
still_held p i r s more cost history no_worse h =
    let x = h.is_held in
    let visits : visits_in s.history ≡ visits_in r.history ++ visits_in more = ap visits_in history ∙ visits_append r.history more in
    record {
      held = h.held;
      cost_is = h.cost_is;
      is_held = record {
        place = x.place;
        visit = x.visit;
        logged = ap (λ (vs : List BestVisit). slice_get vs x.place) visits ∙ get_left (visits_in r.history) (visits_in more) x.place x.visit x.logged;
        parent = x.parent;
        total = x.total;
      };
      no_worse = no_worse cost h.no_worse;
    }

self : (p : Pass) (h : Held) → word_of p h.cost ≤ℤ word_of p h.cost
self p h = omega (arith, ints)

called : (p : Pass) (i : ℕ) (r : BestRecord) (costs : List ℤ) → AreCalled p i r costs → Own p i r → (h : Held) → r.held ≡ Some h → AreCalled p i r (costs ++ h.cost ∷ [])
called p i r costs all own h is c has =
    elim (has_cases costs (h.cost ∷ []) c has) [
      | inl before ↦ all c before
      | inr last ↦ elim (has_head h.cost [] c last) [
        | inl e ↦ record { held = h; cost_is = e; is_held = own.held h is; no_worse = subst (λ (o : Option Held). Reaches p o c) (sym is) (subst (λ (x : ℤ). word_of p h.cost ≤ℤ word_of p x) e (self p h)) }
        | inr none ↦ absurd (has_none c none)
      ]
    ]

pub called_law : LawCalled
called_law = record {
  none = λ p i r c has. absurd (has_none c has);
  calls = called;
  takes = λ p i r costs all x rest c has. still_held p i r (take_letter r x rest) (Came x ∷ []) c refl (λ total h. h) (all c has);
  prunes = λ p i r costs all n rest best c has. still_held p i r (prune r n rest best) (Pruned (record { node = n; best = best }) ∷ []) c refl (λ total h. h) (all c has);
  visits = λ p i r costs all stamp n rest made prunes held fault can c has. still_held p i r (visit_node r stamp n rest made prunes held fault) (moments_of stamp n prunes) c refl can.no_worse (all c has);
  posts = λ p i r costs all u rest c has. (let h = all c has in record { held = h.held; cost_is = h.cost_is; is_held = h.is_held; no_worse = h.no_worse });
}

-- ---- what was called is the cost of a legal list

pub solved : (p : Pass) (records : List BestRecord) (opening best : ℕ) → Together p records → IsBest p records opening best → (i : ℕ) → i < p.shards → (c : ℤ) → WasHeld p i (record_of records i) c → IsSolved p best c
solved p records opening best together is_best i li c h =
    let found = held_found p records (rooted p records together) i h.held li h.is_held in
    let steps = reverse found.1 ++ h.held.transition ∷ [] in (
      (steps, subst (λ (x : ℤ). Solution p.model steps x) h.cost_is found.4),
      least (record_of records i).held refl h.no_worse,
    )
  where
    through : (a b c : ℤ) → a ≤ℤ b → b ≤ℤ c → a ≤ℤ c
    through a b c le more = omega (arith, ints, le, more)

    least : (held : Option Held) → (record_of records i).held ≡ held → Reaches p held c → pos best ≤ℤ word_of p c
    least None is reaches = absurd reaches
    least (Some now) is reaches = through (pos best) (word_of p now.cost) (word_of p c) (is_best.held_above i now li is) reaches

-- a call's cost is among those of its number
own_cost : (calls : List CalledCost) (x : CalledCost) → Has calls x → Has (costs_of x.from calls) x.cost
own_cost [] x has = absurd (has_none x has)
own_cost (y ∷ ys) x has =
    elim (has_head y ys x has) [
      | inl e ↦
          let own : nat_eq y.from x.from ≡ true = same y x e in
          let here : Has (map (λ (z : CalledCost). z.cost) (cond true (y ∷ rest y ys x) (rest y ys x))) x.cost = (0, ap (λ (z : CalledCost). Some z.cost) e) in
          subst (λ (b : Bool). Has (map (λ (z : CalledCost). z.cost) (cond b (y ∷ rest y ys x) (rest y ys x))) x.cost) (sym own) here
      | inr later ↦ behind (nat_eq y.from x.from) y (filter (λ (z : CalledCost). nat_eq z.from x.from) ys) x.cost (own_cost ys x later)
    ]
  where
    rest : CalledCost → List CalledCost → CalledCost → List CalledCost
    rest y ys x = filter (λ (z : CalledCost). nat_eq z.from x.from) ys

    same : (y x : CalledCost) → y ≡ x → nat_eq y.from x.from ≡ true
    same y x e = let f : y.from ≡ x.from = ap (λ (z : CalledCost). z.from) e in grind (arith, nat_tests)

    behind : (b : Bool) (y : CalledCost) (zs : List CalledCost) (c : ℤ) → Has (map (λ (z : CalledCost). z.cost) zs) c → Has (map (λ (z : CalledCost). z.cost) (cond b (y ∷ zs) zs)) c
    behind true y zs c h = (suc h.0, h.1)
    behind false y zs c h = h

-- the caller of a number
caller_at : (callers : List CallerFacts) (i : ℕ) → i < length callers → (c : CallerFacts) × (slice_get callers i ≡ Some c)
caller_at [] i lt = absurd (omega (arith, lt))
caller_at (c ∷ cs) zero lt = (c, refl)
caller_at (c ∷ cs) (suc i) lt = caller_at cs i (less i (length cs) lt)
  where
    less : (i n : ℕ) → suc i < suc n → i < n
    less i n lt = omega (arith, lt)

module _ (p : Pass) (records : List BestRecord) (opening best : ℕ) (callers : List CallerFacts) (together : Together p records) (is_best : IsBest p records opening best) (all : AreCallersFor p records callers) where
  -- where a caller posted a cost it is that of a legal list
  by_caller : (i : ℕ) (c : CallerFacts) (cost : ℤ) → i < p.shards → slice_get callers i ≡ Some c → Has c.posted cost → IsSolved p best cost
  by_caller i c cost li at has = solved p records opening best together is_best i li cost (all.called i c at cost has)

  there : (i : ℕ) → i < p.shards → (c : CallerFacts) × (slice_get callers i ≡ Some c)
  there i li = caller_at callers i (subst (λ (n : ℕ). i < n) (sym all.all) li)

  cried : (taken : List CalledCost) → AreOfShards p taken → IsBegunOf callers taken → (x : CalledCost) → Has taken x → IsSolved p best x.cost
  cried taken known begun x has =
      let li = known has.0 x has.1 in
      let c = there x.from li in
      let number = all.number x.from c.0 c.1 in
      let begins = begun x.from c.0 c.1 in
      let own = subst (λ (n : ℕ). Has (costs_of n taken) x.cost) (sym number) (own_cost taken x has) in
      by_caller x.from c.0 x.cost li c.1 (has_prefix (costs_of c.0.number taken) begins.0 c.0.posted x.cost begins.1 own)

  left : (taken : List CalledCost) (costs : List ℤ) → AreLeft p.shards callers taken costs → (cost : ℤ) → Has costs cost → IsSolved p best cost
  left taken costs rest cost has =
      let one = has_map (λ (x : CalledCost). x.cost) rest.left cost (subst (λ (cs : List ℤ). Has cs cost) (sym rest.costs_are) has) in
      let x = one.0 in
      let li = rest.known one.1.0 x one.1.1 in
      let c = there x.from li in
      let number = all.number x.from c.0 c.1 in
      let own = subst (λ (n : ℕ). Has (costs_of n rest.left) x.cost) (sym number) (own_cost rest.left x one.1) in
      let whole = rest.settled x.from c.0 c.1 in
      let posted = subst (λ (cs : List ℤ). Has cs x.cost) whole (has_right (costs_of c.0.number taken) (costs_of c.0.number rest.left) x.cost own) in
      subst (IsSolved p best) one.2 (by_caller x.from c.0 x.cost li c.1 posted)

pub cried_law : LawCried
cried_law p records opening best callers taken together is_best all known begun x has = cried p records opening best callers together is_best all taken known begun x has

pub left_law : LawLeft
left_law p records opening best callers taken costs together is_best all rest c has = left p records opening best callers together is_best all taken costs rest c has
