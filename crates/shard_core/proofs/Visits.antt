-- A shard that visits a node stands for the record that visited it.
use Rattle.std.proofs.Common.{◌≡◌, ℕ, ◌+◌, ◌-◌, ◌^◌, ◌≤◌, ◌<◌, inl, inr, zero, suc, Bool, List, [], ◌∷◌, ◌++◌, length, map, slice_get, Option, Some, None, Ok, Err, refl, sym, subst, ◌∙◌, ap, arith, length-append}
use Rattle.std.specs.Prelude.{ℤ, pos, is_some, IfSome, Result}
use Rattle.std.specs.List.{All}
use Rattle.std.proofs.lemmas.List.{length_push}
use Rattle.std.specs.declared.alloc.Global.{Global}
use Rattle.std.specs.declared.collections.VecDeque.{VecDeque}
use Rattle.dp_claims.specs.Enough.{Has, Different}
use Rattle.cost_laws.specs.Orders.{IsLawOf}
use Rattle.dp_model.specs.Costs.{join, order_word}
use Rattle.dp_model.specs.declared.answers.FaultKind.{FaultKind}
use Rattle.dp_model.specs.declared.answers.Spot.{Spot}
use Rattle.dp_model.specs.declared.parts.JoinOp.{JoinOp}
use Rattle.dp_model.specs.declared.parts.PlainState.{PlainState}
use Rattle.dp_model.specs.declared.whole.Model.{Model}
use Rattle.dp_steps.specs.Bounds.{IsBounded, IsFloor}
use Rattle.dp_steps.specs.Faults.{MeetsIn}
use Rattle.dp_steps.specs.States.{Inner}
use Rattle.path_log.specs.Paths.{entry, with_step}
use Rattle.path_log.specs.declared.logs.Entry.{Entry}
use Rattle.path_log.specs.declared.logs.PathLog.{PathLog}
use Rattle.path_log.specs.declared.logs.StepId.{StepId}
use Rattle.state_layout.specs.Conditions.{IsNodeOf}
use Rattle.state_layout.specs.Signatures.{owner_of}
use Rattle.state_layout.specs.declared.node.Node.{Node}
use Rattle.pass_ledger.specs.Events.{CanVisit}
use Rattle.pass_ledger.specs.Letters.{InOrder}
use Rattle.pass_ledger.specs.Logs.{entry_of}
use Rattle.pass_ledger.specs.Passes.{Pass, Prunes}
use Rattle.pass_ledger.specs.Records as records
use Rattle.pass_ledger.specs.Records.{step_id, unsent, visit_of}
use Rattle.pass_ledger.specs.declared.records.FaultHere.{FaultHere}
use Rattle.pass_ledger.specs.declared.records.Held.{Held}
use Rattle.pass_ledger.specs.declared.records.PrunedAt.{PrunedAt}
use Rattle.pass_ledger.specs.declared.records.ShardRecord.{ShardRecord}
use Rattle.pass_ledger.specs.declared.records.Unsent.{Unsent}
use Rattle.pass_ledger.specs.declared.records.Visit.{Visit}
use Rattle.pass_ledger.proofs.Lists.{has_none, has_head, has_map}
use Rattle.pass_ledger.proofs.Visits.{own_visit}
use Rattle.successors.specs.Answers.{Met}
use Rattle.successors.specs.Batches.{BatchFits}
use Rattle.successors.specs.Searches as searches
use Rattle.successors.specs.Visits.{expansion}
use Rattle.successors.specs.declared.batch.Batch.{Batch}
use Rattle.successors.specs.declared.batch.Offer.{Offer}
use Rattle.visit_laws.specs.Fates as fates
use Rattle.visit_laws.specs.Visits.{IsBatch}
use Rattle.visit_laws.proofs.Batches.{batch_found}
use Rattle.visit_laws.proofs.Rising.{Rises, rises}
use Rattle.visit_laws.proofs.Visits.{visit_faults}
use Rattle.shard_core.specs.Calls.{IsVisit, IsFaulted, IsOffer, visit_in}
use Rattle.shard_core.specs.Offers.{best_held, is_news}
use Rattle.shard_core.specs.Outgoing.{letter_of, letters_of}
use Rattle.shard_core.specs.Stands.{Stands, EndsAs}
use Rattle.shard_core.specs.declared.shard.Shard.{Shard}
use Rattle.shard_core.proofs.Best.{all_reaches, all_offers, all_from, no_news}
use Rattle.shard_core.proofs.Rows.{by_law}
use Rattle.shard_core.proofs.Sends.{letters_more}
use Rattle.shard_core.proofs.Tells.{layer_above, head_good}
use Rattle.spot_eval.specs.declared.ends.SpotFault.{SpotFault}

-- ---- lists

first_same : (n m : Node) (rest more : List Node) → n ∷ rest ≡ m ∷ more → n ≡ m
first_same n m rest more e = cc

all_at : {A : Type 0} (P : A → Type 0) (xs : List A) → All P xs → (x : A) (k : ℕ) → slice_get xs k ≡ Some x → P x
all_at P [] all x k e = absurd (has_none x (k, e))
all_at P (y ∷ xs) all x zero e = subst P (some_is e) (all zero x (omega arith))
  where
    some_is : {A : Type 0} {a b : A} → Some a ≡ Some b → a ≡ b
    some_is e = cc
all_at P (y ∷ xs) all x (suc k) e = all_at P xs (λ k d lt. all (suc k) d (omega (arith, lt))) x k e

pub first_is : {A : Type 0} {xs : List A} {x y : A} (rest : List A) → xs ≡ y ∷ rest → x ≡ y → xs ≡ x ∷ rest
first_is rest e same = e ∙ ap (λ (z : _). z ∷ rest) (sym same)

all_has : {A : Type 0} (P : A → Type 0) (xs : List A) → All P xs → (x : A) → Has xs x → P x
all_has P xs all x h = all_at P xs all x h.0 h.1

map_has : {A B : Type 0} (f : A → B) (xs : List A) (x : A) → Has xs x → Has (map f xs) (f x)
map_has f [] x h = absurd (has_none x h)
map_has f (y ∷ xs) x h = elim (has_head y xs x h) [ inl e ↦ (zero, ap (λ z. Some (f z)) e) | inr more ↦ (let r = map_has f xs x more in (suc r.0, r.1)) ]

rises_has : (from : ℕ) (xs : List ℕ) → Rises from xs → (x : ℕ) → Has xs x → from ≤ x
rises_has from [] h x there = absurd (has_none x there)
rises_has from (y ∷ xs) h x there =
    elim (has_head y xs x there) [
      | inl e ↦ (let low = h.0 in omega (arith, e, low))
      | inr more ↦ (let up = rises_has (y + 1) xs h.1 x more in let low = h.0 in omega (arith, up, low))
    ]

different_letters : (f : Node → Unsent) → ((n : Node) → (f n).node ≡ n) → (from : ℕ) (ns : List Node) → Rises from (map (λ (n : Node). n.transition) ns) → Different (map f ns)
different_letters f node from [] h = tt
different_letters f node from (n ∷ ns) h = (
  λ there.
      (let m = has_map f ns (f n) there in
      let same : m.0 ≡ n = sym (node m.0) ∙ (ap (λ (u : Unsent). u.node) m.2 ∙ node n) in
      let up = rises_has (n.transition + 1) (map (λ (n : Node). n.transition) ns) h.1 n.transition (subst (λ (k : Node). Has (map (λ (n : Node). n.transition) ns) k.transition) same (map_has (λ (n : Node). n.transition) ns m.0 m.1)) in
      omega (arith, up)),
  different_letters f node (n.transition + 1) ns h.1,
)

map_push : (visits : List Visit) (v : Visit) → map entry_of (visits ++ v ∷ []) ≡ map entry_of visits ++ entry_of v ∷ []
map_push [] v = refl
map_push (w ∷ visits) v = ap (λ (es : List Entry). entry_of w ∷ es) (map_push visits v)

floor_bounded : (m : Model) (prune : Bool) (s : PlainState) (cost floor : Option ℤ) → IsFloor m prune s cost floor → IfSome floor (IsBounded m s cost)
floor_bounded m prune s cost None h = tt
floor_bounded m prune s cost (Some floor) h = h.1

-- ---- a visit in a pass

abbrev pub pruned_by : (best : ℕ) → Node → PrunedAt
pruned_by best n = record { node = n; best = best }

successor_in : (p : Pass) (i place : ℕ) (n : Node) (best t : ℕ) (m : Node) → fates.IsSuccessor p.model (visit_in p i place n best) t m → records.IsSuccessor p i place n t m
successor_in p i place n best t m h = record { weight = h.weight; step = h.step; inner = h.inner; cost = h.cost; in_range = h.in_range; floor = h.floor; parent = h.parent; transition = h.transition }

total_in : (p : Pass) (i place : ℕ) (n : Node) (best t : ℕ) (total : ℤ) → fates.IsTotal p.model (visit_in p i place n best) t total → records.IsTotal p n t total
total_in p i place n best t total h = record { weight = h.weight; next = h.next; base = h.base; step = h.step; is_base = h.is_base; cost_in_range = h.cost_in_range; in_range = h.in_range; is = h.is }

met_at : (p : Pass) (cost : Option ℤ) (s : PlainState) (met : Met) (fault : FaultHere) → met.spot ≡ fault.spot → met.kind ≡ fault.kind → MeetsIn p.model p.prune cost s met.spot met.kind → MeetsIn p.model p.prune cost s fault.spot fault.kind
met_at p cost s met fault spot kind h = subst (λ k. MeetsIn p.model p.prune cost s fault.spot k) kind (subst (λ q. MeetsIn p.model p.prune cost s q met.kind) spot h)

meets_in : (p : Pass) (i place : ℕ) (n : Node) (best : ℕ) (last : Option ℕ) (met : Met) (fault : FaultHere) → met.spot ≡ fault.spot → met.kind ≡ fault.kind → fates.MeetsAfter p.model (visit_in p i place n best) last met → records.MeetsAfter p n last fault
meets_in p i place n best None met fault spot kind h = met_at p n.cost n.state met fault spot kind h
meets_in p i place n best (Some t) met fault spot kind h = (h.0, h.1, h.2, h.3, met_at p (join p.model.join n.cost h.0) h.1 met fault spot kind h.4)

-- what is found in the search of the shard is found in that of the pass
pub expands_in : (p : Pass) (search : searches.Search) → search.model ≡ p.model → search.prune ≡ p.prune → (i place : ℕ) (n : Node) (best : ℕ) (r : Result Batch Met)
    → expansion search.model (record { prune = search.prune; state = n.state; cost = n.cost; id = step_id i place; best = best }) ≡ r → expansion p.model (visit_in p i place n best) ≡ r
expands_in p search model prune i place n best r e =
    subst (λ (b : Bool). expansion p.model (record { prune = b; state = n.state; cost = n.cost; id = step_id i place; best = best }) ≡ r) prune
    (subst (λ (m : Model). expansion m (record { prune = search.prune; state = n.state; cost = n.cost; id = step_id i place; best = best }) ≡ r) model e)

-- ---- what a visit makes

module _ {A B : Type 0} where
  pub can_visit : (p : Pass) (s : Shard A B) (r : ShardRecord) → Stands p s r → (n : Node) (rest : List Node) → s.waiting.items ≡ n ∷ rest → (best : ℕ) (batch : Batch) → BatchFits p.model batch → expansion p.model (visit_in p s.me s.visited n best) ≡ Ok batch
      → CanVisit p s.me r (s.layer - 1) n rest (letters_of s.layout s.shards batch.letters) (map (pruned_by best) batch.pruned) (best_held p.model.minimize p.model.join (step_id s.me s.visited) s.held batch.offers) None
  can_visit p s r st n rest head best batch fits found =
      record {
        fine = st.fine;
        first = first;
        layer = at_layer;
        accounted = inl (subst (λ (place : ℕ). records.Accounted p s.me held [] made prunes place (visit_of (s.layer - 1) n)) st.ends.1.visited_is accounted);
        each_made = λ u h. (let m = has_map (letter_of s.layout s.shards) batch.letters u h in subst (λ (v : Unsent). (t : ℕ) × records.IsSuccessor p s.me (length r.visits) n t v.node × (p.owner v.node.state ≡ v.to) × InOrder p.model v.node) m.2 (sound m.0 m.1));
        once = different_letters (letter_of s.layout s.shards) (λ n. refl) 0 batch.letters (rises (map (λ (n : Node). n.transition) batch.letters) is.ascending.letters);
        each_pruned = λ q h. (let m = has_map (pruned_by best) batch.pruned q h in subst (λ (x : PrunedAt). Prunes p x.best x.node) m.2 (is.pruned m.0 m.1).1);
        held_after = λ h e. elim (all_from p (step_id s.me s.visited) s.held batch.offers h e) [
          | inl old ↦ inl (sym st.ends.1.held_is ∙ old)
          | inr new ↦ inr (subst (λ (k : Held). (k.parent ≡ step_id s.me (length r.visits)) × records.IsTotal p n k.transition k.cost) (sym new.2)
              (ap (step_id s.me) st.ends.1.visited_is, total_in p s.me s.visited n best new.0.transition new.0.cost (is.offers new.0 new.1)))
        ];
        no_worse = λ total h. all_reaches p (step_id s.me s.visited) s.held batch.offers total (subst (λ (k : Option Held). records.Reaches p k total) (sym st.ends.1.held_is) h);
        met = λ f e. absurd (let no : None ≡ Some f = e in cc);
      }
    where
      made : List Unsent
      made = letters_of s.layout s.shards batch.letters

      prunes : List PrunedAt
      prunes = map (pruned_by best) batch.pruned

      held : Option Held
      held = best_held p.model.minimize p.model.join (step_id s.me s.visited) s.held batch.offers

      first : r.waiting ≡ n ∷ rest
      first = sym st.waiting ∙ head

      at_layer : s.layer - 1 + 1 ≡ length r.rows
      at_layer = let pos = layer_above p s r st n rest first in let z = st.layer in omega (arith, pos, z)

      good : IsNodeOf p.model n × Inner p.model n.state
      good = head_good p s r st n rest first

      is : IsBatch p.model (visit_in p s.me s.visited n best) batch
      is = batch_found p.model (visit_in p s.me s.visited n best) batch good.1 good.0.cost found

      accounted : records.Accounted p s.me held [] made prunes s.visited (visit_of (s.layer - 1) n)
      accounted t considered enabled =
          elim (is.accounted t considered enabled) [
            | inl out ↦ inl (out.0, out.1, out.2, out.4)
            | inr other ↦ elim other [
              | inl offer ↦ inr (inl (offer.0, total_in p s.me s.visited n best t offer.0 offer.1, all_offers p (step_id s.me s.visited) s.held batch.offers (record { cost = offer.0; transition = t }) offer.2))
              | inr kept ↦ inr (inr (
                kept.0,
                successor_in p s.me s.visited n best t kept.0 kept.1,
                elim kept.2 [
                  | inl letter ↦ inr (inr (subst (λ (to : ℕ). Has made (unsent to kept.0)) (st.belongs.owner kept.0.state) (map_has (letter_of s.layout s.shards) batch.letters kept.0 letter)))
                  | inr pruned ↦ inl (best, map_has (pruned_by best) batch.pruned kept.0 pruned)
                ],
              ))
            ]
          ]

      sound : (m : Node) → Has batch.letters m → (t : ℕ) × records.IsSuccessor p s.me (length r.visits) n t m × (p.owner m.state ≡ owner_of s.layout m.state s.shards) × InOrder p.model m
      sound m h =
          let x = (is.letters m h).0 in (
            m.transition,
            subst (λ (place : ℕ). records.IsSuccessor p s.me place n m.transition m) st.ends.1.visited_is (successor_in p s.me s.visited n best m.transition m x),
            sym (st.belongs.owner m.state),
            record { is_node = all_has (IsNodeOf p.model) batch.letters fits.letters m h; inner = x.inner; floor = floor_bounded p.model p.prune m.state m.cost m.floor x.floor },
          )

  pub visits : (p : Pass) (s : Shard A B) (r : ShardRecord) → Stands p s r → (n : Node) (rest : List Node) → s.waiting.items ≡ n ∷ rest → (best : ℕ) (batch : Batch) → BatchFits p.model batch → expansion p.model (visit_in p s.me s.visited n best) ≡ Ok batch
      → (waiting' : VecDeque Node Global) → waiting'.items ≡ rest → (letters' : VecDeque Node Global) → letters'.items ≡ s.letters.items ++ batch.letters
      → (total' : ℕ) → total' ≡ s.total + length batch.letters → total' < 2 ^ 64 → (log' : PathLog) → log'.shard ≡ s.log.shard → log'.entries ≡ s.log.entries ++ record { parent = n.parent; transition = n.transition } ∷ [] → (visited' : ℕ) → visited' ≡ s.visited + 1
      → (held' : Option Held) → held' ≡ best_held p.model.minimize p.model.join (step_id s.me s.visited) s.held batch.offers → (offer : Option ℕ) → IsOffer p r.held held' offer
      → (batch' : Batch) → IsVisit p s.me best r offer (record s { waiting = waiting'; batch = batch'; letters = letters'; total = total'; log = log'; visited = visited'; held = held' })
  visits p s r st n rest head best batch fits found waiting' wis letters' lis total' tis tfit log' shard entries visited' vis held' his offer offered batch' =
      record {
        layer = s.layer - 1;
        node = n;
        rest = rest;
        made = made;
        prunes = prunes;
        can = can;
        by_best = λ q h. (let m = has_map (pruned_by best) batch.pruned q h in sym (ap (λ (x : PrunedAt). x.best) m.2));
        offer_is = offered;
        stands = record {
          belongs = st.belongs;
          ends = (
            shard ∙ st.ends.0,
            record {
              own = own_visit p s.me r st.ends.1.own (s.layer - 1) n rest made prunes held' None can;
              log_is = entries ∙ (ap (λ (es : List Entry). es ++ entry_of (visit_of (s.layer - 1) n) ∷ []) st.ends.1.log_is ∙ sym (map_push r.visits (visit_of (s.layer - 1) n)));
              visited_is = vis ∙ (ap (λ (k : ℕ). k + 1) st.ends.1.visited_is ∙ sym (length_push r.visits (visit_of (s.layer - 1) n)));
              held_is = refl;
              fault_is = st.ends.1.fault_is ∙ st.fine;
              dropped_is = st.ends.1.dropped_is;
              floor_is = st.ends.1.floor_is;
            },
          );
          fine = refl;
          start = st.start;
          layer = st.layer;
          begun = λ e. absurd (let pos = layer_above p s r st n rest first in omega (arith, pos, e));
          waiting = wis;
          letters = letters_more s.layout s.shards s.letters.items batch.letters letters'.items r.unsent lis st.letters;
          intake = st.intake;
          collects = st.collects;
          past = st.past;
          outbox = record {
            few = st.outbox.few;
            long = st.outbox.long;
            told_are = st.outbox.told_are;
            open_are = st.outbox.open_are;
            sent_are = st.outbox.sent_are;
            total_is = (let b = st.outbox.total_is in let c = length-append s.letters.items batch.letters in let d = ap length lis in omega (arith, tis, b, c, d));
            total_fits = tfit;
            held_back = λ pos. absurd (let e : n ∷ rest ≡ [] = sym head ∙ (st.outbox.held_back pos).1 in cc);
          };
        };
      }
    where
      made : List Unsent
      made = letters_of s.layout s.shards batch.letters

      prunes : List PrunedAt
      prunes = map (pruned_by best) batch.pruned

      first : r.waiting ≡ n ∷ rest
      first = sym st.waiting ∙ head

      can : CanVisit p s.me r (s.layer - 1) n rest made prunes held' None
      can = subst (λ (h : Option Held). CanVisit p s.me r (s.layer - 1) n rest made prunes h None) (sym his) (can_visit p s r st n rest head best batch fits found)

  -- and where the visit meets a fault
  pub faulted : (p : Pass) (s : Shard A B) (r : ShardRecord) → Stands p s r → (n : Node) (rest : List Node) → s.waiting.items ≡ n ∷ rest → (best : ℕ) (met : Met) → expansion p.model (visit_in p s.me s.visited n best) ≡ Err met
      → (waiting' : VecDeque Node Global) (log' : PathLog) → log'.shard ≡ s.log.shard → log'.entries ≡ s.log.entries ++ record { parent = n.parent; transition = n.transition } ∷ [] → (visited' : ℕ) → visited' ≡ s.visited + 1
      → (fault : SpotFault) → fault.spot ≡ met.spot → fault.kind ≡ met.kind → (here : FaultHere) → here ≡ record { at = step_id s.me s.visited; last = met.last; spot = met.spot; kind = met.kind }
      → (batch' : Batch) → IsFaulted p s.me r fault (record s { waiting = waiting'; batch = batch'; log = log'; visited = visited'; fault = Some here })
  faulted p s r st n rest head best met found waiting' log' shard entries visited' vis fault spot kind here his batch' =
      record {
        layer = s.layer - 1;
        node = n;
        rest = rest;
        met = here;
        spot = ap (λ (f : FaultHere). f.spot) his ∙ sym spot;
        kind = ap (λ (f : FaultHere). f.kind) his ∙ sym kind;
        can = can;
        ends = (
          shard ∙ st.ends.0,
          record {
            own = own_visit p s.me r st.ends.1.own (s.layer - 1) n rest [] [] r.held (Some here) can;
            log_is = entries ∙ (ap (λ (es : List Entry). es ++ entry_of (visit_of (s.layer - 1) n) ∷ []) st.ends.1.log_is ∙ sym (map_push r.visits (visit_of (s.layer - 1) n)));
            visited_is = vis ∙ (ap (λ (k : ℕ). k + 1) st.ends.1.visited_is ∙ sym (length_push r.visits (visit_of (s.layer - 1) n)));
            held_is = st.ends.1.held_is;
            fault_is = refl;
            dropped_is = st.ends.1.dropped_is;
            floor_is = st.ends.1.floor_is;
          },
        );
      }
    where
      first : r.waiting ≡ n ∷ rest
      first = sym st.waiting ∙ head

      at_is : here.at ≡ step_id s.me (length r.visits)
      at_is = ap (λ (f : FaultHere). f.at) his ∙ ap (step_id s.me) st.ends.1.visited_is

      good : IsNodeOf p.model n × Inner p.model n.state
      good = head_good p s r st n rest first

      meets : records.MeetsHere p n here
      meets = subst (λ (f : FaultHere). records.MeetsHere p n f) (sym his)
          (meets_in p s.me s.visited n best met.last met (record { at = step_id s.me s.visited; last = met.last; spot = met.spot; kind = met.kind }) refl refl (visit_faults p.model (visit_in p s.me s.visited n best) met good.1 good.0.cost found))

      can : CanVisit p s.me r (s.layer - 1) n rest [] [] r.held (Some here)
      can = record {
        fine = st.fine;
        first = first;
        layer = let pos = layer_above p s r st n rest first in let z = st.layer in omega (arith, pos, z);
        accounted = inr at_is;
        each_made = λ u h. absurd (has_none u h);
        once = tt;
        each_pruned = λ q h. absurd (has_none q h);
        held_after = λ h e. inl e;
        no_worse = λ total h. h;
        met = λ f e. (let same : here ≡ f = fault_is e in subst (λ (g : FaultHere). (g.at ≡ step_id s.me (length r.visits)) × records.MeetsHere p n g) same (at_is, meets));
      }
        where
          fault_is : {a b : FaultHere} → Some a ≡ Some b → a ≡ b
          fault_is e = cc

-- ---- what the calls tell, under a law of costs that is the model's

abbrev IsWordOf : (minimize : Bool) → JoinOp → Option Held → ℕ → Type 0
IsWordOf minimize operator held word = (h : Held) × (held ≡ Some h) × (pos word ≡ order_word minimize operator (Some h.cost))

offered_in : (p : Pass) (id : StepId) (held : Option Held) (offers : List Offer) (held' : Option Held) → held' ≡ best_held p.model.minimize p.model.join id held offers → (offer : Option ℕ)
    → is_some offer ≡ is_news p.model.minimize p.model.join held held' → IfSome offer (IsWordOf p.model.minimize p.model.join held') → IsOffer p held held' offer
offered_in p id held offers held' is None news word = is ∙ no_news p id held offers (sym (news ∙ ap (is_news p.model.minimize p.model.join held) is))
offered_in p id held offers held' is (Some w) news word = (sym news, word.0, word.1, word.2)

module _ {A B : Type 0} where
  pub took : (p : Pass) (minimize : Bool) (operator : JoinOp) → IsLawOf p.model minimize operator → (s : Shard A B) (r : ShardRecord) → Stands p s r → (n : Node) (rest : List Node) → s.waiting.items ≡ n ∷ rest → (best : ℕ) (batch : Batch)
      → BatchFits s.expander.model batch → expansion s.expander.model (record { prune = s.expander.prune; state = n.state; cost = n.cost; id = step_id s.me s.visited; best = best }) ≡ Ok batch
      → (waiting' : VecDeque Node Global) → waiting'.items ≡ rest → (expander' : searches.Search) → expander' ≡ s.expander → (new : Shard A B)
      → new ≡ record s { waiting = waiting'; expander = expander'; batch = new.batch; letters = new.letters; total = new.total; log = new.log; visited = new.visited; held = new.held }
      → new.letters.items ≡ s.letters.items ++ batch.letters
      → new.total ≡ s.total + length batch.letters → new.total < 2 ^ 64 → new.log ≡ with_step s.log (entry n.parent n.transition) → new.visited ≡ s.visited + 1 → new.held ≡ best_held minimize operator (step_id s.me s.visited) s.held batch.offers
      → (offer : Option ℕ) → is_some offer ≡ is_news minimize operator s.held new.held → IfSome offer (IsWordOf minimize operator new.held) → IsVisit p s.me best r offer new
  took p minimize operator law s r st n rest head best batch fits found waiting' wis expander' xis new frame letters total fit log visited' held offer news word =
      subst (λ (q : Shard A B). IsVisit p s.me best r offer q) (sym frame)
      (subst (λ (x : searches.Search). IsVisit p s.me best r offer (record s { waiting = waiting'; expander = x; batch = new.batch; letters = new.letters; total = new.total; log = new.log; visited = new.visited; held = new.held })) (sym xis)
      (visits p s r st n rest head best batch (subst (λ (m : Model). BatchFits m batch) st.belongs.model fits) (expands_in p s.expander st.belongs.model st.belongs.prune s.me s.visited n best (Ok batch) found)
      waiting' wis new.letters letters new.total total fit new.log (ap (λ (l : PathLog). l.shard) log) (ap (λ (l : PathLog). l.entries) log) new.visited visited' new.held held_is offer offer_is new.batch))
    where
      held_is : new.held ≡ best_held p.model.minimize p.model.join (step_id s.me s.visited) s.held batch.offers
      held_is = by_law p.model minimize operator (λ b o. new.held ≡ best_held b o (step_id s.me s.visited) s.held batch.offers) law held

      offer_is : IsOffer p r.held new.held offer
      offer_is = subst (λ (h : Option Held). IsOffer p h new.held offer) st.ends.1.held_is
          (offered_in p (step_id s.me s.visited) s.held batch.offers new.held held_is offer (by_law p.model minimize operator (λ b o. is_some offer ≡ is_news b o s.held new.held) law news)
          (by_law p.model minimize operator (λ b o. IfSome offer (IsWordOf b o new.held)) law word))

  pub met_fault : (p : Pass) (s : Shard A B) (r : ShardRecord) → Stands p s r → (n : Node) (rest : List Node) → s.waiting.items ≡ n ∷ rest → (best : ℕ) (spot : Spot) (kind : FaultKind) (last : Option ℕ)
      → expansion s.expander.model (record { prune = s.expander.prune; state = n.state; cost = n.cost; id = step_id s.me s.visited; best = best }) ≡ Err (record { spot = spot; kind = kind; last = last })
      → (waiting' : VecDeque Node Global) (expander' : searches.Search) → expander' ≡ s.expander → (batch' : Batch) (new : Shard A B)
      → new ≡ record s { waiting = waiting'; expander = expander'; batch = batch'; log = with_step s.log (entry n.parent n.transition); visited = s.visited + 1; fault = Some (record { at = step_id s.me s.visited; last = last; spot = spot; kind = kind }) }
      → IsFaulted p s.me r (record { spot = spot; kind = kind }) new
  met_fault p s r st n rest head best spot kind last found waiting' expander' xis batch' new kept =
      subst (λ (q : Shard A B). IsFaulted p s.me r (record { spot = spot; kind = kind }) q) (sym kept)
      (subst (λ (x : searches.Search). IsFaulted p s.me r (record { spot = spot; kind = kind }) (record s { waiting = waiting'; expander = x; batch = batch'; log = with_step s.log (entry n.parent n.transition); visited = s.visited + 1; fault = Some here })) (sym xis)
      (faulted p s r st n rest head best met (expands_in p s.expander st.belongs.model st.belongs.prune s.me s.visited n best (Err met) found) waiting' (with_step s.log (entry n.parent n.transition)) refl refl (s.visited + 1) refl
      (record { spot = spot; kind = kind }) refl refl here refl batch'))
    where
      met : Met
      met = record { spot = spot; kind = kind; last = last }

      here : FaultHere
      here = record { at = step_id s.me s.visited; last = last; spot = spot; kind = kind }

  -- where memory ran out, what is handed back at the end is as before
  pub ends_kept : (p : Pass) (s : Shard A B) (r : ShardRecord) → EndsAs p s r → (waiting' : VecDeque Node Global) (expander' : searches.Search) (new : Shard A B)
      → new ≡ record s { waiting = waiting'; expander = expander'; batch = new.batch; letters = new.letters; total = new.total; log = new.log; visited = new.visited; held = new.held }
      → new.log ≡ s.log → new.visited ≡ s.visited → new.held ≡ s.held → EndsAs p new r
  ends_kept p s r e waiting' expander' new frame log vis held =
      subst (λ (q : Shard A B). EndsAs p q r) (sym frame) (
        ap (λ (l : PathLog). l.shard) log ∙ e.0,
        record {
          own = e.1.own;
          log_is = ap (λ (l : PathLog). l.entries) log ∙ e.1.log_is;
          visited_is = vis ∙ e.1.visited_is;
          held_is = held ∙ e.1.held_is;
          fault_is = e.1.fault_is;
          dropped_is = e.1.dropped_is;
          floor_is = e.1.floor_is;
        },
      )

  -- ---- what a visit answers

  -- the first waiting node was visited
  visited_first : (p : Pass) (s : Shard A B) (r : ShardRecord) → Stands p s r → (n : Node) (rest : List Node) → s.waiting.items ≡ n ∷ rest → (best : ℕ) (answer : Result Batch Met)
      → expansion s.expander.model (record { prune = s.expander.prune; state = n.state; cost = n.cost; id = step_id s.me s.visited; best = best }) ≡ answer
      → (m : Node) (more : List Node) → r.waiting ≡ m ∷ more → expansion p.model (visit_in p s.me (length r.visits) m best) ≡ answer
  visited_first p s r st n rest head best answer found m more first =
      subst (λ (k : Node). expansion p.model (visit_in p s.me (length r.visits) k best) ≡ answer) (first_same n m rest more (sym head ∙ (st.waiting ∙ first)))
      (subst (λ (place : ℕ). expansion p.model (visit_in p s.me place n best) ≡ answer) st.ends.1.visited_is (expands_in p s.expander st.belongs.model st.belongs.prune s.me s.visited n best answer found))

  pub finds_batch : (p : Pass) (s : Shard A B) (r : ShardRecord) → Stands p s r → (n : Node) (rest : List Node) → s.waiting.items ≡ n ∷ rest → (best : ℕ) (batch : Batch)
      → expansion s.expander.model (record { prune = s.expander.prune; state = n.state; cost = n.cost; id = step_id s.me s.visited; best = best }) ≡ Ok batch
      → (m : Node) (more : List Node) → r.waiting ≡ m ∷ more → (b : Batch) × (expansion p.model (visit_in p s.me (length r.visits) m best) ≡ Ok b)
  finds_batch p s r st n rest head best batch found m more first = (batch, visited_first p s r st n rest head best (Ok batch) found m more first)

  pub finds_fault : (p : Pass) (s : Shard A B) (r : ShardRecord) → Stands p s r → (n : Node) (rest : List Node) → s.waiting.items ≡ n ∷ rest → (best : ℕ) (spot : Spot) (kind : FaultKind) (last : Option ℕ)
      → expansion s.expander.model (record { prune = s.expander.prune; state = n.state; cost = n.cost; id = step_id s.me s.visited; best = best }) ≡ Err (record { spot = spot; kind = kind; last = last })
      → (m : Node) (more : List Node) → r.waiting ≡ m ∷ more → (l : Option ℕ) × (expansion p.model (visit_in p s.me (length r.visits) m best) ≡ Err (record { spot = spot; kind = kind; last = l }))
  finds_fault p s r st n rest head best spot kind last found m more first = (last, visited_first p s r st n rest head best (Err (record { spot = spot; kind = kind; last = last })) found m more first)
