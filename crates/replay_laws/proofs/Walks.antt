-- The walk of a replay is a path of the model, and a list that is replayed to its end is a legal list.
use Rattle.std.proofs.Common.{◌≡◌, ℕ, suc, ◌+◌, ◌<◌, ◌≤◌, false, inl, inr, List, [], ◌∷◌, length, slice_get, take, Option, Some, None, Result, Ok, Err, refl, sym, ap, subst, ◌∙◌, arith}
use Rattle.std.specs.Prelude.{ℤ, IfSome}
use Rattle.std.proofs.Math.Seq.{take-length}
use Rattle.std.proofs.lemmas.Int.{ints, clamps}
use Rattle.std.proofs.lemmas.Option.{slice_get_past}
use Rattle.dp_model.specs.Costs.{InRange, join, join_onto, operation}
use Rattle.dp_model.specs.declared.answers.FaultKind.{FaultKind}
use Rattle.dp_model.specs.declared.answers.Reason.{Reason}
use Rattle.dp_model.specs.declared.answers.Spot.{Spot}
use Rattle.dp_model.specs.declared.parts.JoinOp.{JoinOp}
use Rattle.dp_model.specs.declared.parts.JoinOp.TheVariants.{Plus, Most, Least}
use Rattle.dp_model.specs.declared.parts.PlainState.{PlainState}
use Rattle.dp_model.specs.declared.whole.Model.{Model}
use Rattle.dp_steps.specs.Faults.{Meets, MeetsIn}
use Rattle.dp_steps.specs.Lists as lists
use Rattle.dp_steps.specs.Lists.{Path, Completion, Solution}
use Rattle.dp_steps.specs.States.{Base, Step, next_state, weight_of}
use Rattle.spot_eval.specs.declared.ends.SpotFault.{SpotFault}
use Rattle.replay_list.specs.Replays.{after, ended, start, stepped, stopped, totalled, told_of, walked}
use Rattle.replay_list.specs.declared.replayed.Reached.{Reached}
use Rattle.replay_list.specs.declared.replayed.Replayed.TheVariants.{Legal, Illegal, Faulted}
use Rattle.replay_list.specs.declared.replayed.Stop.{Stop}
use Rattle.replay_list.specs.declared.replayed.Stop.TheVariants as stops
use Rattle.visit_laws.proofs.BaseCases.{base_best}
use Rattle.replay_laws.specs.Replays.{Breaks, FaultMet, IllegalFound, IsIllegal, LegalFound}
use Rattle.replay_laws.proofs.Ends.{bind_ok, bind_err, after_ok, after_err}
use Rattle.replay_laws.proofs.Steps.{Cause, Leads, ended_total, total_ended, ended_stops, stepped_leads, stepped_stops, step_taken}

-- ---- a walk and its path

walk_leads : (m : Model) (done : ℕ) (here there : Reached) (gs : List ℕ) → IfSome here.cost InRange → walked m done here gs ≡ Ok there → lists.Leads m here.state here.cost gs there.state there.cost
walk_leads m done here there [] range h = let same : here ≡ there = cc in (ap (λ (x : Reached). x.state) same, ap (λ (x : Reached). x.cost) same)
walk_leads m done here there (g ∷ gs) range h =
    let p = bind_ok (after done (stepped m here g)) (λ next. walked m (done + 1) next gs) there h in
    let s = stepped_leads m here g range p.0 (after_ok done (stepped m here g) p.0 p.1) in
    let rest = walk_leads m (done + 1) p.0 there gs s.in_range p.2 in
    (p.0.state, s.weight, s.step, subst (λ (c : Option ℤ). IfSome c InRange) s.cost s.in_range, subst (λ (c : Option ℤ). lists.Leads m p.0.state c gs there.state there.cost) s.cost rest)

leads_walk : (m : Model) (done : ℕ) (here : Reached) (gs : List ℕ) (s : PlainState) (cost : Option ℤ) → IfSome here.cost InRange → lists.Leads m here.state here.cost gs s cost → walked m done here gs ≡ Ok (record { state = s; cost = cost })
leads_walk m done here [] s cost range h = let same : here ≡ record { state = s; cost = cost } = ap (λ (x : PlainState). record { state = x; cost = here.cost }) h.0 ∙ ap (λ (c : Option ℤ). record { state = s; cost = c }) h.1 in ap (λ (x : Reached). Ok x) same
leads_walk m done here (g ∷ gs) s cost range h =
    let taken = step_taken m here g range h.1 h.0 h.2 h.3 in
    let rest = leads_walk m (done + 1) (record { state = h.0; cost = join m.join here.cost h.1 }) gs s cost h.3 h.4 in
    rw taken rest

walk_range : (m : Model) (from to : PlainState) (cost total : Option ℤ) (gs : List ℕ) → IfSome cost InRange → lists.Leads m from cost gs to total → IfSome total InRange
walk_range m from to cost total [] range h = subst (λ (c : Option ℤ). IfSome c InRange) h.1 range
walk_range m from to cost total (g ∷ gs) range h = walk_range m h.0 to (join m.join cost h.1) total gs h.3 h.4

-- ---- where a walk stops

-- So many steps lead to a state in which the next one is not taken.
pub record StopsAt (m : Model) (done : ℕ) (here : Reached) (gs : List ℕ) (e : ℕ × Stop) : Type 0 where
  pub more : ℕ
  pub at : done + more ≡ e.0
  pub within : more < length gs
  pub there : Reached
  pub next : ℕ
  pub is_next : slice_get gs more ≡ Some next
  pub path : lists.Leads m here.state here.cost (take more gs) there.state there.cost
  pub cause : Cause m there (Some next) e.1

walk_stops : (m : Model) (done : ℕ) (here : Reached) (gs : List ℕ) (e : ℕ × Stop) → IfSome here.cost InRange → walked m done here gs ≡ Err e → StopsAt m done here gs e
walk_stops m done here [] e range h = absurd (cc)
walk_stops m done here (g ∷ gs) e range h =
    elim (bind_err (after done (stepped m here g)) (λ next. walked m (done + 1) next gs) e h) [
      | inl f ↦ (let stop = after_err done (stepped m here g) e f in
          record { more = 0; at = plus_none done e.0 stop.1; within = omega arith; there = here; next = g; is_next = refl; path = (refl, refl); cause = stepped_stops m here g range e.1 stop.0 })
      | inr p ↦ (let s = stepped_leads m here g range p.0 (after_ok done (stepped m here g) p.0 p.1) in
          let rest = walk_stops m (done + 1) p.0 gs e s.in_range p.2 in
          later g gs e here p.0 s rest)
    ]
  where
    plus_none : (done k : ℕ) → done ≡ k → done + 0 ≡ k
    plus_none done k e = omega arith

    one_more : (done more k : ℕ) → done + 1 + more ≡ k → done + suc more ≡ k
    one_more done more k e = omega arith

    later : (g : ℕ) (gs : List ℕ) (e : ℕ × Stop) (here next : Reached) → Leads m here g next → StopsAt m (done + 1) next gs e → StopsAt m done here (g ∷ gs) e
    later g gs e here next s rest =
        record {
          more = suc rest.more;
          at = one_more done rest.more e.0 rest.at;
          within = omega (arith, rest.within);
          there = rest.there;
          next = rest.next;
          is_next = rest.is_next;
          path =
              (next.state, s.weight, s.step, subst (λ (c : Option ℤ). IfSome c InRange) s.cost s.in_range, subst (λ (c : Option ℤ). lists.Leads m next.state c (take rest.more gs) rest.there.state rest.there.cost) s.cost rest.path);
          cause = rest.cause;
        }

-- Where the replay of a list stops: so many steps lead to a state with a cause.
record Ends (m : Model) (steps : List ℕ) (e : ℕ × Stop) : Type 0 where
  pub there : Reached
  pub within : e.0 ≤ length steps
  pub path : Path m (take e.0 steps) there.state there.cost
  pub cause : Cause m there (slice_get steps e.0) e.1

at_next : (m : Model) (steps : List ℕ) (e : ℕ × Stop) (more : ℕ) → more ≡ e.0 → more < length steps → (there : Reached) (next : ℕ) → slice_get steps more ≡ Some next → Path m (take more steps) there.state there.cost → Cause m there (Some next) e.1 → Ends m steps e
at_next m steps e more at within there next is path cause =
    record {
      there = there;
      within = omega (arith, at, within);
      path = subst (λ (k : ℕ). Path m (take k steps) there.state there.cost) at path;
      cause = subst (λ (k : ℕ). Cause m there (slice_get steps k) e.1) at (subst (λ (o : Option ℕ). Cause m there o e.1) (sym is) cause);
    }

at_end : (m : Model) (steps : List ℕ) (e : ℕ × Stop) → length steps ≡ e.0 → (there : Reached) → Path m steps there.state there.cost → Cause m there None e.1 → Ends m steps e
at_end m steps e at there path cause =
    record {
      there = there;
      within = omega (arith, at);
      path = subst (λ (k : ℕ). Path m (take k steps) there.state there.cost) at (subst (λ (xs : List ℕ). Path m xs there.state there.cost) (sym (take-length steps)) path);
      cause = subst (λ (k : ℕ). Cause m there (slice_get steps k) e.1) at (subst (λ (o : Option ℕ). Cause m there o e.1) (sym (slice_get_past steps (length steps) (omega arith))) cause);
    }

ends : (m : Model) (steps : List ℕ) (e : ℕ × Stop) → totalled m steps ≡ Err e → Ends m steps e
ends m steps e h =
    elim (bind_err (walked m 0 (start m) steps) (λ here. after (length steps) (ended m here)) e h) [
      | inl f ↦ (let s = walk_stops m 0 (start m) steps e tt f in at_next m steps e s.more (none_before s.more e.0 s.at) s.within s.there s.next s.is_next s.path s.cause)
      | inr p ↦ (let stop = after_err (length steps) (ended m p.0) e p.2 in at_end m steps e stop.1 p.0 (walk_leads m 0 (start m) p.0 steps tt p.1) (ended_stops m p.0 e.1 stop.0))
    ]
  where
    none_before : (more k : ℕ) → 0 + more ≡ k → more ≡ k
    none_before more k e = omega arith

-- ---- what is told of it

stopped_legal : (done : ℕ) (stop : Stop) (cost : ℤ) → stopped done stop ≡ Legal cost → ⊥
stopped_legal done (stops.Illegal reason) cost h = cc
stopped_legal done (stops.Fault met) cost h = cc

told_legal : (r : Result ℤ (ℕ × Stop)) (cost : ℤ) → told_of r ≡ Legal cost → r ≡ Ok cost
told_legal (Ok x) cost h = let same : x ≡ cost = cc in ap (λ (c : ℤ). Ok c) same
told_legal (Err e) cost h = absurd (stopped_legal e.0 e.1 cost h)

stopped_illegal : (m : Model) (there : Reached) (next : Option ℕ) (done k : ℕ) (stop : Stop) (reason : Reason) → stopped done stop ≡ Illegal k reason → Cause m there next stop → (done ≡ k) × Breaks m there.state next reason
stopped_illegal m there next done k (stops.Illegal why) reason h cause = let same : why ≡ reason = cc in (cc, subst (Breaks m there.state next) same cause)
stopped_illegal m there next done k (stops.Fault met) reason h cause = absurd (cc)

stopped_faulted : (m : Model) (there : Reached) (next : Option ℕ) (done k : ℕ) (stop : Stop) (spot : Spot) (kind : FaultKind) → stopped done stop ≡ Faulted k spot kind → Cause m there next stop → (done ≡ k) × MeetsIn m false there.cost there.state spot kind
stopped_faulted m there next done k (stops.Illegal why) spot kind h cause = absurd (cc)
stopped_faulted m there next done k (stops.Fault met) spot kind h cause =
    let a : met.spot ≡ spot = cc in
    let b : met.kind ≡ kind = cc in
    (cc, subst (λ (x : Spot). MeetsIn m false there.cost there.state x kind) a (subst (λ (x : FaultKind). MeetsIn m false there.cost there.state met.spot x) b cause))

illegal_at : (m : Model) (steps : List ℕ) (done : ℕ) (reason : Reason) (r : Result ℤ (ℕ × Stop)) → totalled m steps ≡ r → told_of r ≡ Illegal done reason → IsIllegal m steps done reason
illegal_at m steps done reason (Ok total) is h = absurd (cc)
illegal_at m steps done reason (Err e) is h =
    let s = ends m steps e is in
    let b = stopped_illegal m s.there (slice_get steps e.0) e.0 done e.1 reason h s.cause in
    subst (λ (k : ℕ). IsIllegal m steps k reason) b.0 (record { state = s.there.state; cost = s.there.cost; within = s.within; path = s.path; breaks = b.1 })

pub illegal_found : IllegalFound
illegal_found m steps done reason h = illegal_at m steps done reason (totalled m steps) refl h

abbrev IsMet : Model → List ℕ → Spot → FaultKind → ℕ → Type 0
IsMet m steps spot kind k = (k ≤ length steps) × Meets m false (take k steps) spot kind

fault_at : (m : Model) (steps : List ℕ) (done : ℕ) (spot : Spot) (kind : FaultKind) (r : Result ℤ (ℕ × Stop)) → totalled m steps ≡ r → told_of r ≡ Faulted done spot kind → IsMet m steps spot kind done
fault_at m steps done spot kind (Ok total) is h = absurd (cc)
fault_at m steps done spot kind (Err e) is h =
    let s = ends m steps e is in
    let b = stopped_faulted m s.there (slice_get steps e.0) e.0 done e.1 spot kind h s.cause in
    subst (IsMet m steps spot kind) b.0 (s.within, (s.there.state, s.there.cost, s.path, b.1))

pub fault_met : FaultMet
fault_met m steps done spot kind h = fault_at m steps done spot kind (totalled m steps) refl h

-- ---- totals and completions

operation_associative : (op : JoinOp) (a b c : ℤ) → operation op (operation op a b) c ≡ operation op a (operation op b c)
operation_associative Plus a b c = omega (arith, ints)
operation_associative Most a b c = omega (arith, ints, clamps)
operation_associative Least a b c = omega (arith, ints, clamps)

assoc : (op : JoinOp) (c w : Option ℤ) (v : ℤ) → join_onto op (join op c w) v ≡ join_onto op c (join_onto op w v)
assoc op None w v = refl
assoc op (Some c) None v = refl
assoc op (Some c) (Some w) v = operation_associative op c w v

-- a path to a base state is completed, and its cost so far joined onto the base cost is the weights joined onto it
completed : (m : Model) (from to : PlainState) (cost total : Option ℤ) (gs : List ℕ) (base : ℤ) → lists.Leads m from cost gs to total → Base m to base → (v : ℤ) × Completion m from gs v × (join_onto m.join cost v ≡ join_onto m.join total base)
completed m from to cost total [] base h is = (base, subst (λ (s : PlainState). Base m s base) (sym h.0) is, ap (λ (c : Option ℤ). join_onto m.join c base) h.1)
completed m from to cost total (g ∷ gs) base h is =
    let c = completed m h.0 to (join m.join cost h.1) total gs base h.4 is in
    (join_onto m.join h.1 c.0, (h.0, h.1, c.0, h.2, c.1, refl), sym (assoc m.join cost h.1 c.0) ∙ c.2)

some_same : {A : Type 0} (x y : A) → Some x ≡ Some y → x ≡ y
some_same x y e = cc

ok_same : {A : Type 0} (x y : A) → ◌≡◌ {A = Result A FaultKind} (Ok x) (Ok y) → x ≡ y
ok_same x y e = cc

-- a transition has one weight and leads to one state
step_same : (m : Model) (s : PlainState) (g : ℕ) (w w' : Option ℤ) (n n' : PlainState) → Step m s g w n → Step m s g w' n' → (w ≡ w') × (n ≡ n')
step_same m s g w w' n n' a b =
    let same : a.move.0 ≡ b.move.0 = some_same a.move.0 b.move.0 (sym a.move.1 ∙ b.move.1) in (
      ok_same w w' (sym a.move.3 ∙ ap (weight_of m s) same ∙ b.move.3),
      ok_same n n' (sym a.move.4 ∙ ap (next_state m s) same ∙ b.move.4),
    )

base_same : (m : Model) (s : PlainState) (a b : ℤ) → Base m s a → Base m s b → a ≡ b
base_same m s a b x y = let e : Some a ≡ Some b = spot_same (sym (base_best m s a x) ∙ base_best m s b y) in some_same a b e
  where
    spot_same : ◌≡◌ {A = Result (Option ℤ) SpotFault} (Ok (Some a)) (Ok (Some b)) → Some a ≡ Some b
    spot_same e = cc

-- each completion along a path has that value
same_total : (m : Model) (from to : PlainState) (cost total : Option ℤ) (gs : List ℕ) (base v : ℤ) → lists.Leads m from cost gs to total → Base m to base → Completion m from gs v → join_onto m.join cost v ≡ join_onto m.join total base
same_total m from to cost total [] base v h is done =
    let one : v ≡ base = base_same m to v base (subst (λ (s : PlainState). Base m s v) h.0 done) is in
    ap (join_onto m.join cost) one ∙ ap (λ (c : Option ℤ). join_onto m.join c base) h.1
same_total m from to cost total (g ∷ gs) base v h is done =
    let same = step_same m from g done.1 h.1 done.0 h.0 done.3 h.2 in
    let rest = same_total m h.0 to (join m.join cost h.1) total gs base done.2 h.4 is (subst (λ (s : PlainState). Completion m s gs done.2) same.1 done.4) in
    ap (join_onto m.join cost) (done.5 ∙ ap (λ (w : Option ℤ). join_onto m.join w done.2) same.0) ∙ sym (assoc m.join cost h.1 done.2) ∙ rest

-- ---- legal lists

to_solution : (m : Model) (steps : List ℕ) (cost : ℤ) → totalled m steps ≡ Ok cost → Solution m steps cost
to_solution m steps cost h =
    let p = bind_ok (walked m 0 (start m) steps) (λ here. after (length steps) (ended m here)) cost h in
    let total = ended_total m p.0 cost (after_ok (length steps) (ended m p.0) cost p.2) in
    let path = walk_leads m 0 (start m) p.0 steps tt p.1 in
    let done = completed m m.target p.0.state None p.0.cost steps total.base path total.is_base in
    record {
      reaches = (p.0.state, p.0.cost, total.base, path, total.is_base);
      completes = subst (Completion m m.target steps) (done.2 ∙ sym total.is) done.1;
      in_range = total.in_range;
    }

from_solution : (m : Model) (steps : List ℕ) (cost : ℤ) → Solution m steps cost → totalled m steps ≡ Ok cost
from_solution m steps cost s =
    let walk = leads_walk m 0 (start m) steps s.reaches.0 s.reaches.1 tt s.reaches.3 in
    let same = same_total m m.target s.reaches.0 None s.reaches.1 steps s.reaches.2 cost s.reaches.3 s.reaches.4 s.completes in
    let total = total_ended m (record { state = s.reaches.0; cost = s.reaches.1 }) cost (record { base = s.reaches.2; is_base = s.reaches.4; is = same; in_range = s.in_range }) in
    rw walk (ap (after (length steps)) total)

pub legal_found : LegalFound
legal_found m steps cost = (
  λ h. to_solution m steps cost (told_legal (totalled m steps) cost h),
  λ s. ap told_of (from_solution m steps cost s),
)
