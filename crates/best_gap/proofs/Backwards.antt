-- The law of frontiers: no completion of a received node is worth less than both the best word and the floors of the frontier, by an
-- induction over the length of the completion.
use Rattle.std.proofs.Common.{◌≡◌, ℕ, ◌≤◌, ◌<◌, ◌⊎◌, inl, inr, zero, suc, List, [], ◌∷◌, length, reverse, slice_get, Option, Some, None, refl, sym, subst, ◌∙◌, ap, arith}
use Rattle.std.specs.Prelude.{ℤ, pos, ◌≤ℤ◌, IfSome}
use Rattle.std.proofs.lemmas.Int.{ints}
use Rattle.dp_claims.specs.Enough.{Has}
use Rattle.dp_model.specs.Costs.{InRange, join, join_onto}
use Rattle.dp_model.specs.declared.answers.Keep.TheVariants.{All}
use Rattle.dp_model.specs.declared.parts.PlainState.{PlainState}
use Rattle.dp_steps.specs.Bounds.{IsFloor}
use Rattle.dp_steps.specs.Lists.{Completion}
use Rattle.dp_steps.specs.States.{Base, Inner, Step}
use Rattle.pass_ledger.specs.Ledgers.{NoneBelow}
use Rattle.pass_ledger.specs.Passes.{Pass, word_of, StartsInner}
use Rattle.pass_ledger.specs.Records.{IsTotal, Reaches, LeadsOut, Starts, IsFaultAt}
use Rattle.pass_ledger.specs.declared.records.FaultHere.{FaultHere}
use Rattle.pass_ledger.specs.declared.records.Held.{Held}
use Rattle.pass_ledger.proofs.Costs.{assoc, isotone, least_trans}
use Rattle.pass_ledger.proofs.Lists.{has_cases}
use Rattle.pass_ledger.proofs.Moves.{inner_not_base, forbidden_not_allowed, base_same, step_same, step_enabled}
use Rattle.pass_ledger.proofs.Paths.{started, reached_more}
use Rattle.pass_ledger.proofs.Trust.{Fair, IsReached}
use Rattle.state_layout.specs.declared.node.Node.{Node}
use Rattle.best_ledger.specs.Histories.{letter, to, came_from, visits_in, HasCome, WasVisited, WasPruned}
use Rattle.best_ledger.specs.Laws.{PrunesAbove}
use Rattle.best_ledger.specs.Ledgers.{IsBest}
use Rattle.best_ledger.specs.Records.{Accounted, LeadsOn, record_of, Together, to_post}
use Rattle.best_ledger.specs.declared.letters.BestLetter.{BestLetter}
use Rattle.best_ledger.specs.declared.records.BestVisit.{BestVisit}
use Rattle.best_ledger.specs.declared.records.Moment.TheVariants.{Visited}
use Rattle.best_ledger.specs.declared.records.BestRecord.{BestRecord}
use Rattle.best_ledger.proofs.Closing.{rooted}
use Rattle.best_ledger.proofs.Histories.{place_of, came_back}
use Rattle.best_ledger.proofs.Ways.{Rooted, known, visit_come, paths, reached}
use Rattle.best_gap.specs.Frontiers.{IsOnFrontier, AreFine}
use Rattle.best_gap.proofs.Frontier.{front_led}

-- What the proof takes: records of a search, and a value that is no greater than the best word and the word of any floor of the
-- frontier.
pub record Bounded (p : Pass) (records : List BestRecord) (opening best : ℕ) (least : ℤ) : Type 0 where
  pub inner : StartsInner p
  pub fair : Fair p
  pub all : p.keep ≡ All
  pub together : Together p records
  pub is_best : IsBest p records opening best
  pub prunes : PrunesAbove p records best
  pub fine : AreFine p records
  pub below : least ≤ℤ pos best
  pub floors : (n : Node) → IsOnFrontier p records n → (f : ℤ) × (n.floor ≡ Some f) × (least ≤ℤ word_of p f)

held_reaches : (p : Pass) (held : Option Held) (total : ℤ) → Reaches p held total → (h : Held) × (held ≡ Some h) × (word_of p h.cost ≤ℤ word_of p total)
held_reaches p None total r = absurd r
held_reaches p (Some h) total r = (h, refl, r)

pos_mono : (a b : ℕ) → a ≤ b → pos a ≤ℤ pos b
pos_mono a b h = omega (arith, ints)

leads_out : (p : Pass) (n : Node) (t : ℕ) (mid : PlainState) (w : Option ℤ) → Step p.model n.state t w mid → (steps : List ℕ) (rest : ℤ) → Completion p.model mid steps rest → LeadsOut p n t → ⊥
leads_out p n t mid w step [] rest done out =
    let same = step_same p.model n.state t w out.0 mid out.1 step out.2 in
    forbidden_not_allowed p.model out.1 out.3 (subst (λ (s : PlainState). Base p.model s rest) same.1 done).allowed
leads_out p n t mid w step (t' ∷ steps) rest done out =
    let same = step_same p.model n.state t w out.0 mid out.1 step out.2 in
    forbidden_not_allowed p.model out.1 out.3 (subst (Inner p.model) same.1 done.3.inner).allowed

-- the completion of a base state is its base cost
to_base : (p : Pass) (n : Node) (t : ℕ) (mid : PlainState) (w : Option ℤ) → Step p.model n.state t w mid → (steps : List ℕ) (rest : ℤ) → Completion p.model mid steps rest
    → (total : ℤ) (is : IsTotal p n t total) → join_onto p.model.join (join p.model.join n.cost w) rest ≡ total
to_base p n t mid w step [] rest done total is =
    let same = step_same p.model n.state t w is.weight mid is.next step is.step in
    let base : rest ≡ is.base = base_same p.model is.next rest is.base (subst (λ (s : PlainState). Base p.model s rest) same.1 done) is.is_base in
    ap (λ (v : ℤ). join_onto p.model.join (join p.model.join n.cost w) v) base ∙ ap (λ (c : Option ℤ). join_onto p.model.join (join p.model.join n.cost c) is.base) same.0 ∙ sym is.is
to_base p n t mid w step (t' ∷ steps) rest done total is =
    let same = step_same p.model n.state t w is.weight mid is.next step is.step in
    absurd (inner_not_base p.model is.next is.base (subst (Inner p.model) same.1 done.3.inner) is.is_base)

no_fault : (i place : ℕ) (fault : Option FaultHere) → fault ≡ None → IsFaultAt i place fault → ⊥
no_fault i place fault e f = subst (IsFaultAt i place) e f

-- the target's node is received by its owner
target_received : (p : Pass) (i : ℕ) (start : Option Node) → Starts p i start → p.owner p.model.target ≡ i → (n : Node) × (start ≡ Some n)
target_received p i None s own = absurd (s own)
target_received p i (Some n) s own = (n, refl)

module _ (p : Pass) (records : List BestRecord) (opening best : ℕ) (least : ℤ) (given : Bounded p records opening best least) where
  roots : Rooted p records
  roots = rooted p records given.together

  -- no completion of the node is worth less
  abbrev IsAbove : Node → Type 0
  IsAbove n = (steps : List ℕ) (value : ℤ) → Completion p.model n.state steps value → least ≤ℤ word_of p (join_onto p.model.join n.cost value)

  -- a total that what is held reaches is not less
  no_less : (i : ℕ) → i < p.shards → (total : ℤ) → Reaches p (record_of records i).held total → least ≤ℤ word_of p total
  no_less i li total r =
      let h = held_reaches p (record_of records i).held total r in
      least_trans least (pos best) (word_of p total) given.below (least_trans (pos best) (word_of p h.0.cost) (word_of p total) (given.is_best.held_above i h.0 li h.1) h.2)

  -- by the floor of a node
  by_floor : (n : Node) (f : ℤ) → n.floor ≡ Some f → least ≤ℤ word_of p f → IsReached p.model n.state → IfSome n.cost InRange → IsFloor p.model p.prune n.state n.cost n.floor → IsAbove n
  by_floor n f is le reach range floor steps value done =
      least_trans least (word_of p f) (word_of p (join_onto p.model.join n.cost value)) le
      (given.fair.floors n.state n.cost f reach range (subst (IsFloor p.model p.prune n.state n.cost) is floor) steps value done)

  by_frontier : (n : Node) → IsOnFrontier p records n → IsAbove n
  by_frontier n on =
      let f = given.floors n on in
      let led = front_led p records given.inner given.together n on in
      by_floor n f.0 f.1 f.2 (led.steps, ((n.cost, led.path), led.inner)) led.in_range led.floor

  by_pruned : (i : ℕ) (n : Node) → i < p.shards → WasPruned (record_of records i).history n → IsReached p.model n.state → IfSome n.cost InRange → IsFloor p.model p.prune n.state n.cost n.floor → IsAbove n
  by_pruned i n li pruned reach range floor =
      let q = pruned.0 in
      let f = (given.together.own i li).pruned q pruned.1 in
      by_floor n f.0 (ap (λ (x : Node). x.floor) (sym pruned.2) ∙ f.1)
      (least_trans least (pos best) (word_of p f.0) given.below (least_trans (pos best) (pos q.best) (word_of p f.0) (pos_mono best q.best (given.prunes i q li pruned.1)) f.2)) reach range floor

  -- received nodes have no completion, shorter than this list, that is worth less
  abbrev NoShorter : List ℕ → Type 0
  NoShorter steps =
      (j : ℕ) (m : Node) → j < p.shards → HasCome (record_of records j).start (record_of records j).history m → (u : List ℕ) (v : ℤ) → Completion p.model m.state u v → length u < length steps
      → least ≤ℤ word_of p (join_onto p.model.join m.cost v)

  -- a letter that was posted came, or is on its way
  by_posted : (i stamp : ℕ) (m : Node) → i < p.shards → Has (to (record_of records i).posted (p.owner m.state)) (letter i stamp m) → (t : ℕ) (steps : List ℕ) (rest : ℤ) → Completion p.model m.state steps rest → NoShorter (t ∷ steps)
      → least ≤ℤ word_of p (join_onto p.model.join m.cost rest)
  by_posted i stamp m li posted t steps rest done on =
      let j = p.owner m.state in
      let lj = p.owned m.state in
      let q = given.together.prefix j i lj li in
      let x = letter i stamp m in
      elim (has_cases (came_from i (record_of records j).history) q.0 x (subst (λ (xs : List BestLetter). Has xs x) (sym q.1) posted)) [
        | inl came ↦ on j m lj (inr (x, came_back i (record_of records j).history x came, refl)) steps rest done (shorter (length steps))
        | inr way ↦ by_frontier m (i, li, inr (j, q.0, x, lj, q.1, way, refl)) steps rest done
      ]
    where
      shorter : (n : ℕ) → n < suc n
      shorter n = omega arith

  module _ (i place k : ℕ) (v : BestVisit) (li : i < p.shards) (logged : slice_get (visits_in (record_of records i).history) place ≡ Some v) (at : slice_get (record_of records i).history k ≡ Some (Visited v)) where
    -- what a step from a visited node leads on to
    by_next : (t : ℕ) (steps : List ℕ) (rest : ℤ) (next : LeadsOn p i (record_of records i).posted (record_of records i).unsent (record_of records i).history place v t) → Completion p.model next.0.state steps rest → NoShorter (t ∷ steps)
        → least ≤ℤ word_of p (join_onto p.model.join next.0.cost rest)
    by_next t steps rest (m, x, inl pruned) done on =
        let u = paths p records roots i v.node li (visit_come p records roots i k v li at) in
        by_pruned i m li pruned (reached_more p i place v.node t m (reverse u.back) u.path x) x.in_range x.floor steps rest done
    by_next t steps rest (m, x, inr (inl posted)) done on = by_posted i v.stamp m li posted t steps rest done on
    by_next t steps rest (m, x, inr (inr unsent)) done on = by_frontier m (i, li, inl (inr (to_post (p.owner m.state) (letter i v.stamp m), unsent, refl))) steps rest done

    by_step : (t : ℕ) (mid : PlainState) (w : Option ℤ) → Step p.model v.node.state t w mid → (steps : List ℕ) (rest : ℤ) → Completion p.model mid steps rest → NoShorter (t ∷ steps)
        → least ≤ℤ word_of p (join_onto p.model.join (join p.model.join v.node.cost w) rest)
    by_step t mid w step steps rest done on =
        let r = record_of records i in
        let accounted : Accounted p i r.held r.posted r.unsent r.history place v = elim ((given.together.own i li).accounted place v logged) [ inl a ↦ a | inr f ↦ absurd (no_fault i place r.fault (given.fine i li) f) ] in
        elim (accounted t step.considered (step_enabled p.model v.node.state t w mid step)) [
          | inl out ↦ absurd (leads_out p v.node t mid w step steps rest done out)
          | inr other ↦ elim other [
            | inl base ↦
                let same = to_base p v.node t mid w step steps rest done base.0 base.1 in
                subst (λ (x : ℤ). least ≤ℤ word_of p x) (sym same) (no_less i li base.0 base.2)
            | inr next ↦
                let m = next.0 in
                let x = next.1 in
                let same = step_same p.model v.node.state t w x.weight mid m.state step x.step in
                let done' = subst (λ (s : PlainState). Completion p.model s steps rest) same.1 done in
                let cost : join p.model.join v.node.cost w ≡ m.cost = ap (join p.model.join v.node.cost) same.0 ∙ sym x.cost in
                subst (λ (c : Option ℤ). least ≤ℤ word_of p (join_onto p.model.join c rest)) (sym cost) (by_next t steps rest next done' on)
          ]
        ]

    -- what a visited node's completion is worth
    by_steps : (steps : List ℕ) (value : ℤ) → Completion p.model v.node.state steps value → NoShorter steps → least ≤ℤ word_of p (join_onto p.model.join v.node.cost value)
    by_steps [] value done on = absurd (inner_not_base p.model v.node.state value (known p records given.inner roots i v.node li (visit_come p records roots i k v li at)).inner done)
    by_steps (t ∷ steps) value done on =
        let h = by_step t done.0 done.1 done.3 steps done.2 done.4 on in
        let e : join_onto p.model.join (join p.model.join v.node.cost done.1) done.2 ≡ join_onto p.model.join v.node.cost value = assoc p.model.join v.node.cost done.1 done.2 ∙ ap (join_onto p.model.join v.node.cost) (sym done.5) in
        subst (λ (x : ℤ). least ≤ℤ word_of p x) e h

  -- what the completion of a pruned, visited or open node is worth
  by_fate : (i : ℕ) (n : Node) → i < p.shards → HasCome (record_of records i).start (record_of records i).history n
      → WasPruned (record_of records i).history n ⊎ (WasVisited (record_of records i).history n ⊎ Has (record_of records i).waiting n)
      → (steps : List ℕ) (value : ℤ) → Completion p.model n.state steps value → NoShorter steps → least ≤ℤ word_of p (join_onto p.model.join n.cost value)
  by_fate i n li came (inl pruned) steps value done on =
      let facts = known p records given.inner roots i n li came in
      by_pruned i n li pruned (reached p records given.inner roots i n li came) facts.in_range facts.floor steps value done
  by_fate i n li came (inr (inl visited)) steps value done on =
      let v = visited.0 in
      let place = place_of (record_of records i).history v visited.1 in
      let done' = subst (λ (x : Node). Completion p.model x.state steps value) (sym visited.2) done in
      subst (λ (x : Node). least ≤ℤ word_of p (join_onto p.model.join x.cost value)) visited.2 (by_steps i place.0 visited.1.0 v li place.1 visited.1.1 steps value done' on)
  by_fate i n li came (inr (inr waits)) steps value done on = by_frontier n (i, li, inl (inl waits)) steps value done

  -- by the length of the completion
  from_length : (k i : ℕ) (n : Node) → i < p.shards → HasCome (record_of records i).start (record_of records i).history n
      → (steps : List ℕ) (value : ℤ) → Completion p.model n.state steps value → length steps < k → least ≤ℤ word_of p (join_onto p.model.join n.cost value)
  from_length zero i n li came steps value done lt = absurd (never (length steps) lt)
    where
      never : (n : ℕ) → n < 0 → ⊥
      never n lt = absurd (omega arith)
  from_length (suc k) i n li came steps value done lt =
      let c = (given.together.own i li).covered n came in
      let d = given.fair.better c.node.state n.state (reached p records given.inner roots i c.node li c.came) (reached p records given.inner roots i n li came) c.covers.0 steps value done in
      let range = (known p records given.inner roots i c.node li c.came).in_range in
      let range' = (known p records given.inner roots i n li came).in_range in
      let bound = by_fate i c.node li c.came c.fate d.0 d.1 d.2
      (λ j m lj came' u v done' shorter. from_length k j m lj came' u v done' (less (length u) (length d.0) (length steps) k shorter (d.4 given.all) lt)) in
      least_trans least (word_of p (join_onto p.model.join c.node.cost d.1)) (word_of p (join_onto p.model.join n.cost value)) bound
      (isotone p.model.minimize p.model.join c.node.cost n.cost d.1 value range range' c.covers.1 d.3)
    where
      less : (a b c k : ℕ) → a < b → b ≤ c → c < suc k → a < k
      less a b c k h g f = omega arith

  pub none_below : NoneBelow p least
  none_below steps cost solution =
      let i = p.owner p.model.target in
      let li = p.owned p.model.target in
      let start = (given.together.own i li).start in
      let n = target_received p i (record_of records i).start start refl in
      let is = (started p i (record_of records i).start n.0 start n.1).0 in
      let done = subst (λ (s : PlainState). Completion p.model s steps cost) (sym is.state) solution.completes in
      let h = from_length (suc (length steps)) i n.0 li (inl n.1) steps cost done (next (length steps)) in
      subst (λ (c : Option ℤ). least ≤ℤ word_of p (join_onto p.model.join c cost)) is.cost h
    where
      next : (n : ℕ) → n < suc n
      next n = omega arith
