-- What is known of the nodes of the frontier: a path leads to each, and its floor has an order word.
use Rattle.std.proofs.Common.{◌≡◌, ℕ, ◌<◌, inl, inr, Bool, true, false, List, [], ◌∷◌, ◌++◌, reverse, Option, Some, None, Result, Ok, Err, refl, sym, subst, arith}
use Rattle.std.specs.Prelude.{ℤ, IfSome}
use Rattle.std.proofs.lemmas.Bool.{false≢true}
use Rattle.std.proofs.lemmas.Int.{ints}
use Rattle.cost_laws.specs.Orders.{InWideRange}
use Rattle.dp_base.specs.Results.{◌>>=◌}
use Rattle.dp_claims.specs.Enough.{Has}
use Rattle.dp_model.specs.Costs.{InRange}
use Rattle.dp_model.specs.declared.parts.PlainState.{PlainState}
use Rattle.dp_model.specs.declared.whole.Model.{Model}
use Rattle.dp_steps.specs.Bounds.{IsFloor}
use Rattle.dp_steps.specs.Lists.{Path}
use Rattle.dp_steps.specs.States.{Inner}
use Rattle.pass_ledger.specs.Letters.{InOrder}
use Rattle.pass_ledger.specs.Passes.{Pass, StartsInner, IsStart}
use Rattle.pass_ledger.specs.Records.{Starts}
use Rattle.pass_ledger.proofs.Lists.{has_right}
use Rattle.pass_ledger.proofs.Moves.{leads_more}
use Rattle.spot_eval.specs.Looks as looks
use Rattle.spot_eval.specs.Looks.{tightest_at}
use Rattle.spot_eval.specs.declared.ends.SpotFault.{SpotFault}
use Rattle.spot_eval.proofs.Ranges.{tightest_fits}
use Rattle.state_layout.specs.declared.node.Node.{Node}
use Rattle.visit_laws.proofs.Looks.{floor_found_at}
use Rattle.best_ledger.specs.Histories.{came_from, visits_in, HasCome}
use Rattle.best_ledger.specs.Records.{IsMade, Own, record_of, Together}
use Rattle.best_ledger.specs.declared.letters.BestLetter.{BestLetter}
use Rattle.best_ledger.specs.declared.records.BestRecord.{BestRecord}
use Rattle.best_ledger.proofs.Closing.{rooted}
use Rattle.best_ledger.proofs.Histories.{moment_of}
use Rattle.best_ledger.proofs.Ways.{known, paths, visit_come}
use Rattle.best_gap.specs.Frontiers.{IsOnFrontier}

-- ---- floors have order words

in_range_wide : (n : ℤ) → InRange n → InWideRange n
in_range_wide n h = (omega (arith, ints), omega (arith, ints))

bound_wide : (m : Model) (bound floor : Option ℤ) → IfSome bound InRange → looks.floor_of m None bound ≡ floor → IfSome floor InWideRange
bound_wide m None floor h e = subst (λ (f : Option ℤ). IfSome f InWideRange) e tt
bound_wide m (Some bound) floor h e = subst (λ (f : Option ℤ). IfSome f InWideRange) e (in_range_wide bound h)

told_wide : (m : Model) (floor : Option ℤ) (r : Result (Option ℤ) SpotFault) → tightest_at m m.target 0 None m.bounds ≡ r → (r >>= λ bound. Ok (looks.floor_of m None bound)) ≡ Ok floor → IfSome floor InWideRange
told_wide m floor (Ok bound) q e = let same : looks.floor_of m None bound ≡ floor = cc in bound_wide m bound floor (tightest_fits m m.target bound q m.held) same
told_wide m floor (Err met) q e = absurd (cc)

-- the floor of the target's node is a bound of the target
target_wide : (m : Model) (prune : Bool) (floor : Option ℤ) → IsFloor m prune m.target None floor → IfSome floor InWideRange
target_wide m true floor h = told_wide m floor (tightest_at m m.target 0 None m.bounds) refl (floor_found_at m true m.target None floor h)
target_wide m false None h = tt
target_wide m false (Some floor) h = absurd (false≢true h.0)

start_wide : (p : Pass) (n : Node) → IsStart p n → IfSome n.floor InWideRange
start_wide p n h =
    target_wide p.model p.prune n.floor (subst (λ (s : PlainState). IsFloor p.model p.prune s None n.floor) h.state (subst (λ (c : Option ℤ). IsFloor p.model p.prune n.state c n.floor) h.cost h.floor))

starts_wide : (p : Pass) (i : ℕ) (start : Option Node) → Starts p i start → (n : Node) → start ≡ Some n → IfSome n.floor InWideRange
starts_wide p i None h n e = let clash : None ≡ Some n = e in absurd (cc)
starts_wide p i (Some m) h n e = let same : m ≡ n = cc in start_wide p n (subst (IsStart p) same h.0)

come_wide : (p : Pass) (i : ℕ) (r : BestRecord) → Own p i r → (n : Node) → HasCome r.start r.history n → IfSome n.floor InWideRange
come_wide p i r own n (inl e) = starts_wide p i r.start own.start n e
come_wide p i r own n (inr h) = subst (λ (m : Node). IfSome m.floor InWideRange) h.2 (own.received h.0 h.1).1.is_node.floor

-- ---- a node that a path leads to

pub record IsLed (p : Pass) (n : Node) : Type 0 where
  pub steps : List ℕ
  pub path : Path p.model steps n.state n.cost
  pub inner : Inner p.model n.state
  pub in_range : IfSome n.cost InRange
  pub floor : IsFloor p.model p.prune n.state n.cost n.floor
  pub wide : IfSome n.floor InWideRange

module _ (p : Pass) (records : List BestRecord) (inner : StartsInner p) (together : Together p records) where
  come_led : (i : ℕ) (n : Node) → i < p.shards → HasCome (record_of records i).start (record_of records i).history n → IsLed p n
  come_led i n li came =
      let roots = rooted p records together in
      let k = known p records inner roots i n li came in
      let u = paths p records roots i n li came in
      record { steps = reverse u.back; path = u.path; inner = k.inner; in_range = k.in_range; floor = k.floor; wide = come_wide p i (record_of records i) (together.own i li) n came }

  -- the node of a letter that a visit made
  made_led : (i receiver : ℕ) (x : BestLetter) → i < p.shards → IsMade p i (visits_in (record_of records i).history) receiver x → InOrder p.model x.node → IsLed p x.node
  made_led i receiver x li m lawful =
      let roots = rooted p records together in
      let v = m.visit in
      let k = moment_of (record_of records i).history m.place v m.logged in
      let u = paths p records roots i v.node li (visit_come p records roots i k.0 v li k.1) in
      let s = m.successor in
      let range = subst (λ (c : Option ℤ). IfSome c InRange) s.cost s.in_range in
      let more = leads_more p.model p.model.target None (reverse u.back) v.node.state v.node.cost u.path m.transition x.node.state s.weight s.step range in
      record {
        steps = reverse u.back ++ m.transition ∷ [];
        path = subst (λ (c : Option ℤ). Path p.model (reverse u.back ++ m.transition ∷ []) x.node.state c) (sym s.cost) more;
        inner = s.inner;
        in_range = s.in_range;
        floor = s.floor;
        wide = lawful.is_node.floor;
      }

  pub front_led : (n : Node) → IsOnFrontier p records n → IsLed p n
  front_led n (i, li, inl (inl h)) = come_led i n li ((together.own i li).waits.came n h)
  front_led n (i, li, inl (inr (u, h, e))) =
      let sends = (together.own i li).sends in
      subst (IsLed p) e (made_led i u.to u.letter li (sends.unsent_made u h) (sends.unsent_lawful u h))
  front_led n (i, li, inr (receiver, letters, x, lr, way, h, e)) =
      let sends = (together.own i li).sends in
      let posted = subst (λ (xs : List BestLetter). Has xs x) way (has_right (came_from i (record_of records receiver).history) letters x h) in
      subst (IsLed p) e (made_led i receiver x li (sends.made receiver x posted) (sends.lawful receiver x posted))
