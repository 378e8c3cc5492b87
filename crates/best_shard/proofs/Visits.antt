-- A shard that visits the node that it picked stands for the record that visited it.
use Rattle.std.proofs.Common.{◌≡◌, ℕ, ◌+◌, ◌<◌, ◌≤◌, inl, inr, suc, Bool, List, [], ◌∷◌, ◌++◌, length, map, Option, Some, None, Ok, Err, refl, sym, subst, ◌∙◌, ap, arith}
use Rattle.std.specs.Prelude.{ℤ, pos, is_some, IfSome, Result}
use Rattle.std.proofs.lemmas.List.{length_push, map-append}
use Rattle.std.specs.declared.alloc.Global.{Global}
use Rattle.std.specs.declared.collections.VecDeque.{VecDeque}
use Rattle.dp_claims.specs.Enough.{Has, Different}
use Rattle.cost_laws.specs.Orders.{IsLawOf}
use Rattle.dp_model.specs.Costs.{join, order_word}
use Rattle.dp_model.specs.declared.answers.FaultKind.{FaultKind}
use Rattle.dp_model.specs.declared.answers.Spot.{Spot}
use Rattle.dp_model.specs.declared.parts.JoinOp.{JoinOp}
use Rattle.dp_model.specs.declared.parts.PlainState.{PlainState}
use Rattle.dp_model.specs.declared.whole.Model.{Model}
use Rattle.dp_steps.specs.Bounds.{IsBounded, IsFloor}
use Rattle.dp_steps.specs.Faults.{MeetsIn}
use Rattle.dp_steps.specs.States.{Inner}
use Rattle.dom_store.specs.Past.{Past, past_node}
use Rattle.dom_store.specs.declared.past_node.PastNode.{PastNode}
use Rattle.path_log.specs.Paths.{entry, with_step}
use Rattle.path_log.specs.declared.logs.Entry.{Entry}
use Rattle.path_log.specs.declared.logs.PathLog.{PathLog}
use Rattle.state_layout.specs.Conditions.{IsNodeOf, IsNodeFor}
use Rattle.state_layout.specs.Signatures.{owner_of}
use Rattle.state_layout.specs.declared.node.Node.{Node}
use Rattle.pass_ledger.specs.Letters.{InOrder}
use Rattle.pass_ledger.specs.Passes.{Pass, Prunes}
use Rattle.pass_ledger.specs.Records as records
use Rattle.pass_ledger.specs.Records.{step_id}
use Rattle.pass_ledger.specs.declared.records.FaultHere.{FaultHere}
use Rattle.pass_ledger.specs.declared.records.Held.{Held}
use Rattle.pass_ledger.specs.declared.records.PrunedAt.{PrunedAt}
use Rattle.pass_ledger.proofs.Lists.{has_none, has_head, has_map}
use Rattle.best_ledger.specs.Events.{moments_of, visit_node, CanVisit}
use Rattle.best_ledger.specs.Histories.{letter, visit, visits_in, WasPruned}
use Rattle.best_ledger.specs.Logs.{entry_of}
use Rattle.best_ledger.specs.Records as best_records
use Rattle.best_ledger.specs.Records.{node_to_post, to_post}
use Rattle.best_ledger.specs.declared.records.BestRecord.{BestRecord}
use Rattle.best_ledger.specs.declared.records.Moment.TheVariants.{Came, Visited, Pruned}
use Rattle.best_ledger.specs.declared.records.ToPost.{ToPost}
use Rattle.best_ledger.proofs.Posts.{own_law}
use Rattle.successors.specs.Answers.{Met}
use Rattle.successors.specs.Batches.{BatchFits}
use Rattle.successors.specs.Searches as searches
use Rattle.successors.specs.Visits.{expansion}
use Rattle.successors.specs.declared.batch.Batch.{Batch}
use Rattle.successors.specs.declared.batch.Offer.{Offer}
use Rattle.visit_laws.specs.Fates as fates
use Rattle.visit_laws.specs.Visits.{IsBatch}
use Rattle.visit_laws.proofs.Batches.{batch_found}
use Rattle.visit_laws.proofs.Rising.{Rises, rises}
use Rattle.visit_laws.proofs.Visits.{visit_faults}
use Rattle.shard_core.specs.Calls.{IsOffer, visit_in}
use Rattle.shard_core.specs.Offers.{best_held, is_news}
use Rattle.shard_core.proofs.Best.{all_reaches, all_offers, all_from, no_news}
use Rattle.shard_core.proofs.Rows.{by_law}
use Rattle.shard_core.proofs.Visits.{expands_in}
use Rattle.spot_eval.specs.declared.ends.SpotFault.{SpotFault}
use Rattle.best_shard.specs.Calls.{IsVisit, IsFaulted}
use Rattle.best_shard.specs.Outgoing.{addressed}
use Rattle.best_shard.specs.Stands.{Holds, Follows, Ends, EndsAs, clock_of, past_visit}
use Rattle.best_shard.specs.declared.shard.BestShard.{BestShard}
use Rattle.best_shard.proofs.Clocks.{below, clock_after}
use Rattle.best_shard.proofs.Lists.{map_has, all_has, visits_after}
use Rattle.best_shard.proofs.Picks.{picked_good}

-- ---- lists

rises_has : (from : ℕ) (xs : List ℕ) → Rises from xs → (x : ℕ) → Has xs x → from ≤ x
rises_has from [] h x there = absurd (has_none x there)
rises_has from (y ∷ xs) h x there =
    elim (has_head y xs x there) [
      | inl e ↦ (let low = h.0 in omega (arith, e, low))
      | inr more ↦ (let up = rises_has (y + 1) xs h.1 x more in let low = h.0 in omega (arith, up, low))
    ]

-- letters of nodes whose transitions rise have different nodes
different_nodes : (f : Node → ToPost) → ((n : Node) → node_to_post (f n) ≡ n) → (from : ℕ) (ns : List Node) → Rises from (map (λ (n : Node). n.transition) ns) → Different (map node_to_post (map f ns))
different_nodes f node from [] h = tt
different_nodes f node from (n ∷ ns) h = (
  λ there.
      (let u = has_map node_to_post (map f ns) (node_to_post (f n)) there in
      let m = has_map f ns u.0 u.1 in
      let same : m.0 ≡ n = sym (node m.0) ∙ (ap node_to_post m.2 ∙ (u.2 ∙ node n)) in
      let up = rises_has (n.transition + 1) (map (λ (n : Node). n.transition) ns) h.1 n.transition (subst (λ (k : Node). Has (map (λ (n : Node). n.transition) ns) k.transition) same (map_has (λ (n : Node). n.transition) ns m.0 m.1)) in
      omega (arith, up)),
  different_nodes f node (n.transition + 1) ns h.1,
)

floor_bounded : (m : Model) (prune : Bool) (s : PlainState) (cost floor : Option ℤ) → IsFloor m prune s cost floor → IfSome floor (IsBounded m s cost)
floor_bounded m prune s cost None h = tt
floor_bounded m prune s cost (Some floor) h = h.1

-- ---- a visit in a search

abbrev pub pruned_by : (best : ℕ) → Node → PrunedAt
pruned_by best n = record { node = n; best = best }

successor_in : (p : Pass) (i place : ℕ) (n : Node) (best t : ℕ) (m : Node) → fates.IsSuccessor p.model (visit_in p i place n best) t m → records.IsSuccessor p i place n t m
successor_in p i place n best t m h = record { weight = h.weight; step = h.step; inner = h.inner; cost = h.cost; in_range = h.in_range; floor = h.floor; parent = h.parent; transition = h.transition }

total_in : (p : Pass) (i place : ℕ) (n : Node) (best t : ℕ) (total : ℤ) → fates.IsTotal p.model (visit_in p i place n best) t total → records.IsTotal p n t total
total_in p i place n best t total h = record { weight = h.weight; next = h.next; base = h.base; step = h.step; is_base = h.is_base; cost_in_range = h.cost_in_range; in_range = h.in_range; is = h.is }

met_at : (p : Pass) (cost : Option ℤ) (s : PlainState) (met : Met) (fault : FaultHere) → met.spot ≡ fault.spot → met.kind ≡ fault.kind → MeetsIn p.model p.prune cost s met.spot met.kind → MeetsIn p.model p.prune cost s fault.spot fault.kind
met_at p cost s met fault spot kind h = subst (λ k. MeetsIn p.model p.prune cost s fault.spot k) kind (subst (λ q. MeetsIn p.model p.prune cost s q met.kind) spot h)

meets_in : (p : Pass) (i place : ℕ) (n : Node) (best : ℕ) (last : Option ℕ) (met : Met) (fault : FaultHere) → met.spot ≡ fault.spot → met.kind ≡ fault.kind → fates.MeetsAfter p.model (visit_in p i place n best) last met → records.MeetsAfter p n last fault
meets_in p i place n best None met fault spot kind h = met_at p n.cost n.state met fault spot kind h
meets_in p i place n best (Some t) met fault spot kind h = (h.0, h.1, h.2, h.3, met_at p (join p.model.join n.cost h.0) h.1 met fault spot kind h.4)

-- the stamp of a visit is above all that came before
above : (stamp clock most : ℕ) → clock ≡ most → stamp ≤ most → stamp < clock + 1
above stamp clock most e h = omega (arith, e, h)

module _ {A B : Type 0} where
  -- what a shard hands back after a visit
  ends_after : (p : Pass) (s : BestShard A B) (r : BestRecord) → Follows p s r → (n : Node) (rest : List Node) (made : List ToPost) (prunes : List PrunedAt) (held : Option Held) (fault : Option FaultHere)
      → CanVisit p s.me r (s.clock + 1) n rest made prunes held fault → (new : BestShard A B) → new.me ≡ s.me → new.log ≡ with_step s.log (entry n.parent n.transition) → new.visited ≡ s.visited + 1 → new.held ≡ held → new.fault ≡ fault
      → EndsAs p new (visit_node r (s.clock + 1) n rest made prunes held fault)
  ends_after p s r f n rest made prunes held fault can new me log visited held' fault' =
      subst (λ (i : ℕ). (new.log.shard ≡ i) × Ends p i new.log.entries new.visited new.held new.fault (visit_node r (s.clock + 1) n rest made prunes held fault)) (sym me) (
        ap (λ (l : PathLog). l.shard) log ∙ f.ends.0,
        record {
          own = own_law.visits p s.me r f.ends.1.own (s.clock + 1) n rest made prunes held fault can;
          log_is = ap (λ (l : PathLog). l.entries) log
              ∙ (ap (λ (es : List Entry). es ++ entry n.parent n.transition ∷ []) f.ends.1.log_is
              ∙ sym (ap (map entry_of) after ∙ map-append entry_of (visits_in r.history) (visit (s.clock + 1) n ∷ [])));
          visited_is = visited ∙ (ap (λ (k : ℕ). k + 1) f.ends.1.visited_is ∙ sym (ap length after ∙ length_push (visits_in r.history) (visit (s.clock + 1) n)));
          held_is = held';
          fault_is = fault';
        },
      )
    where
      after : visits_in (r.history ++ moments_of (s.clock + 1) n prunes) ≡ visits_in r.history ++ visit (s.clock + 1) n ∷ []
      after = visits_after r.history (s.clock + 1) n prunes

  -- ---- what a visit makes

  can_visit : (p : Pass) (s : BestShard A B) (n : Node) (r : BestRecord) → Holds p s n r → (best : ℕ) (batch : Batch) → BatchFits p.model batch → expansion p.model (visit_in p s.me s.visited n best) ≡ Ok batch
      → CanVisit p s.me r (s.clock + 1) n s.waiting.nodes (map (addressed s.layout s.shards s.me (s.clock + 1)) batch.letters) (map (pruned_by best) batch.pruned) (best_held p.model.minimize p.model.join (step_id s.me s.visited) s.held batch.offers) None
  can_visit p s n r h best batch fits found =
      record {
        fine = f.fine;
        is_open = h.picked;
        above_letters = λ x came. above x.stamp s.clock (clock_of r.history) f.clock (below r.history (Came x) came);
        above_visits = λ w was. above w.stamp s.clock (clock_of r.history) f.clock (below r.history (Visited w) was);
        accounted = inl (subst (λ (place : ℕ). best_records.Accounted p s.me held [] made (moments_of (s.clock + 1) n prunes) place (visit (s.clock + 1) n)) f.ends.1.visited_is accounted);
        each_made = λ u there.
            (let m = has_map address batch.letters u there in
            subst (λ (v : ToPost). (t : ℕ) × (k : Node) × (v.letter ≡ letter s.me (s.clock + 1) k) × records.IsSuccessor p s.me (length (visits_in r.history)) n t k × (p.owner k.state ≡ v.to) × InOrder p.model k) m.2 (sound m.0 m.1));
        once = different_nodes address (λ k. refl) 0 batch.letters (rises (map (λ (k : Node). k.transition) batch.letters) is.ascending.letters);
        each_pruned = λ q there. (let m = has_map (pruned_by best) batch.pruned q there in subst (λ (x : PrunedAt). Prunes p x.best x.node) m.2 (is.pruned m.0 m.1).1);
        held_after = λ k e. elim (all_from p (step_id s.me s.visited) s.held batch.offers k e) [
          | inl old ↦ inl (sym f.ends.1.held_is ∙ old)
          | inr new ↦ inr (subst (λ (k : Held). (k.parent ≡ step_id s.me (length (visits_in r.history))) × records.IsTotal p n k.transition k.cost) (sym new.2)
              (ap (step_id s.me) f.ends.1.visited_is, total_in p s.me s.visited n best new.0.transition new.0.cost (is.offers new.0 new.1)))
        ];
        no_worse = λ total k. all_reaches p (step_id s.me s.visited) s.held batch.offers total (subst (λ (o : Option Held). records.Reaches p o total) (sym f.ends.1.held_is) k);
        met = λ g e. absurd (let no : None ≡ Some g = e in cc);
      }
    where
      f : Follows p s r
      f = h.follows

      address : Node → ToPost
      address k = addressed s.layout s.shards s.me (s.clock + 1) k

      made : List ToPost
      made = map address batch.letters

      prunes : List PrunedAt
      prunes = map (pruned_by best) batch.pruned

      held : Option Held
      held = best_held p.model.minimize p.model.join (step_id s.me s.visited) s.held batch.offers

      good : IsNodeOf p.model n × Inner p.model n.state
      good = picked_good p s n r h

      is : IsBatch p.model (visit_in p s.me s.visited n best) batch
      is = batch_found p.model (visit_in p s.me s.visited n best) batch good.1 good.0.cost found

      was_pruned : (m : Node) → Has batch.pruned m → WasPruned (moments_of (s.clock + 1) n prunes) m
      was_pruned m there = let at = map_has (λ (q : PrunedAt). Pruned q) prunes (pruned_by best m) (map_has (pruned_by best) batch.pruned m there) in (pruned_by best m, (suc at.0, at.1), refl)

      accounted : best_records.Accounted p s.me held [] made (moments_of (s.clock + 1) n prunes) s.visited (visit (s.clock + 1) n)
      accounted t considered enabled =
          elim (is.accounted t considered enabled) [
            | inl out ↦ inl (out.0, out.1, out.2, out.4)
            | inr other ↦ elim other [
              | inl offer ↦ inr (inl (offer.0, total_in p s.me s.visited n best t offer.0 offer.1, all_offers p (step_id s.me s.visited) s.held batch.offers (record { cost = offer.0; transition = t }) offer.2))
              | inr kept ↦ inr (inr (
                kept.0,
                successor_in p s.me s.visited n best t kept.0 kept.1,
                elim kept.2 [
                  | inl sent ↦ inr (inr (subst (λ (to : ℕ). Has made (to_post to (letter s.me (s.clock + 1) kept.0))) (f.belongs.owner kept.0.state) (map_has address batch.letters kept.0 sent)))
                  | inr pruned ↦ inl (was_pruned kept.0 pruned)
                ],
              ))
            ]
          ]

      sound : (m : Node) → Has batch.letters m
          → (t : ℕ) × (k : Node) × (letter s.me (s.clock + 1) m ≡ letter s.me (s.clock + 1) k) × records.IsSuccessor p s.me (length (visits_in r.history)) n t k × (p.owner k.state ≡ owner_of s.layout m.state s.shards) × InOrder p.model k
      sound m there =
          let x = (is.letters m there).0 in (
            m.transition,
            m,
            refl,
            subst (λ (place : ℕ). records.IsSuccessor p s.me place n m.transition m) f.ends.1.visited_is (successor_in p s.me s.visited n best m.transition m x),
            sym (f.belongs.owner m.state),
            record { is_node = all_has (IsNodeOf p.model) batch.letters fits.letters m there; inner = x.inner; floor = floor_bounded p.model p.prune m.state m.cost m.floor x.floor },
          )

  visits : (p : Pass) (s : BestShard A B) (n : Node) (r : BestRecord) → Holds p s n r → (best : ℕ) (batch : Batch) → BatchFits p.model batch → expansion p.model (visit_in p s.me s.visited n best) ≡ Ok batch
      → (past' : Past) → past'.layout ≡ s.past.layout → past'.nodes ≡ s.past.nodes ++ past_node n ∷ [] → (letters' : VecDeque ToPost Global) → letters'.items ≡ s.letters.items ++ map (addressed s.layout s.shards s.me (s.clock + 1)) batch.letters
      → (clock' : ℕ) → clock' ≡ s.clock + 1 → (log' : PathLog) → log' ≡ with_step s.log (entry n.parent n.transition) → (visited' : ℕ) → visited' ≡ s.visited + 1
      → (held' : Option Held) → held' ≡ best_held p.model.minimize p.model.join (step_id s.me s.visited) s.held batch.offers → (offer : Option ℕ) → IsOffer p r.held held' offer
      → (batch' : Batch) → IsVisit p s.me best r n offer (record s { past = past'; batch = batch'; letters = letters'; clock = clock'; log = log'; visited = visited'; held = held' })
  visits p s n r h best batch fits found past' pl pn letters' lis clock' cis log' logged visited' vis held' his offer offered batch' =
      record {
        stamp = s.clock + 1;
        stamp_is = ap (λ (k : ℕ). k + 1) f.clock;
        rest = s.waiting.nodes;
        made = made;
        prunes = prunes;
        can = can;
        by_best = λ q there. (let m = has_map (pruned_by best) batch.pruned q there in sym (ap (λ (x : PrunedAt). x.best) m.2));
        offer_is = offered;
        stands = record {
          follows = record {
            belongs = f.belongs;
            ends = ends_after p s r f n s.waiting.nodes made prunes held' None can new refl logged vis refl (f.ends.1.fault_is ∙ f.fine);
            fine = refl;
            start = f.start;
            layout_is = f.layout_is;
            past = record {
              layout_is = pl ∙ f.past.layout_is;
              nodes_are = pn ∙ (ap (λ (ns : List PastNode). ns ++ past_node n ∷ []) f.past.nodes_are ∙ sym (ap (map past_visit) after ∙ map-append past_visit (visits_in r.history) (visit (s.clock + 1) n ∷ [])));
            };
            letters = lis ∙ ap (λ (us : List ToPost). us ++ made) f.letters;
            clock = cis ∙ clock_after s.clock r.history n prunes f.clock;
          };
          waiting = refl;
        };
      }
    where
      f : Follows p s r
      f = h.follows

      made : List ToPost
      made = map (addressed s.layout s.shards s.me (s.clock + 1)) batch.letters

      prunes : List PrunedAt
      prunes = map (pruned_by best) batch.pruned

      new : BestShard A B
      new = record s { past = past'; batch = batch'; letters = letters'; clock = clock'; log = log'; visited = visited'; held = held' }

      after : visits_in (r.history ++ moments_of (s.clock + 1) n prunes) ≡ visits_in r.history ++ visit (s.clock + 1) n ∷ []
      after = visits_after r.history (s.clock + 1) n prunes

      can : CanVisit p s.me r (s.clock + 1) n s.waiting.nodes made prunes held' None
      can = subst (λ (k : Option Held). CanVisit p s.me r (s.clock + 1) n s.waiting.nodes made prunes k None) (sym his) (can_visit p s n r h best batch fits found)

  -- and where the visit meets a fault
  faulted : (p : Pass) (s : BestShard A B) (n : Node) (r : BestRecord) → Holds p s n r → (best : ℕ) (met : Met) → expansion p.model (visit_in p s.me s.visited n best) ≡ Err met
      → (past' : Past) (fault : SpotFault) → fault.spot ≡ met.spot → fault.kind ≡ met.kind → (here : FaultHere) → here ≡ record { at = step_id s.me s.visited; last = met.last; spot = met.spot; kind = met.kind }
      → (batch' : Batch) → IsFaulted p s.me r n fault (record s { past = past'; batch = batch'; log = with_step s.log (entry n.parent n.transition); visited = s.visited + 1; fault = Some here })
  faulted p s n r h best met found past' fault spot kind here his batch' =
      record {
        stamp = s.clock + 1;
        stamp_is = ap (λ (k : ℕ). k + 1) f.clock;
        rest = s.waiting.nodes;
        met = here;
        spot = ap (λ (k : FaultHere). k.spot) his ∙ sym spot;
        kind = ap (λ (k : FaultHere). k.kind) his ∙ sym kind;
        can = can;
        ends = ends_after p s r f n s.waiting.nodes [] [] r.held (Some here) can new refl refl refl f.ends.1.held_is refl;
      }
    where
      f : Follows p s r
      f = h.follows

      new : BestShard A B
      new = record s { past = past'; batch = batch'; log = with_step s.log (entry n.parent n.transition); visited = s.visited + 1; fault = Some here }

      at_is : here.at ≡ step_id s.me (length (visits_in r.history))
      at_is = ap (λ (k : FaultHere). k.at) his ∙ ap (step_id s.me) f.ends.1.visited_is

      good : IsNodeOf p.model n × Inner p.model n.state
      good = picked_good p s n r h

      meets : records.MeetsHere p n here
      meets = subst (λ (k : FaultHere). records.MeetsHere p n k) (sym his)
          (meets_in p s.me s.visited n best met.last met (record { at = step_id s.me s.visited; last = met.last; spot = met.spot; kind = met.kind }) refl refl (visit_faults p.model (visit_in p s.me s.visited n best) met good.1 good.0.cost found))

      can : CanVisit p s.me r (s.clock + 1) n s.waiting.nodes [] [] r.held (Some here)
      can = record {
        fine = f.fine;
        is_open = h.picked;
        above_letters = λ x came. above x.stamp s.clock (clock_of r.history) f.clock (below r.history (Came x) came);
        above_visits = λ w was. above w.stamp s.clock (clock_of r.history) f.clock (below r.history (Visited w) was);
        accounted = inr at_is;
        each_made = λ u there. absurd (has_none u there);
        once = tt;
        each_pruned = λ q there. absurd (has_none q there);
        held_after = λ k e. inl e;
        no_worse = λ total k. k;
        met = λ g e. (let same : here ≡ g = fault_is e in subst (λ (k : FaultHere). (k.at ≡ step_id s.me (length (visits_in r.history))) × records.MeetsHere p n k) same (at_is, meets));
      }
        where
          fault_is : {a b : FaultHere} → Some a ≡ Some b → a ≡ b
          fault_is e = cc

-- ---- what the calls tell, under a law of costs that is the model's

abbrev IsWordOf : (minimize : Bool) → JoinOp → Option Held → ℕ → Type 0
IsWordOf minimize operator held word = (h : Held) × (held ≡ Some h) × (pos word ≡ order_word minimize operator (Some h.cost))

offered_in : (p : Pass) (held : Option Held) (offers : List Offer) (i place : ℕ) (held' : Option Held) → held' ≡ best_held p.model.minimize p.model.join (step_id i place) held offers → (offer : Option ℕ)
    → is_some offer ≡ is_news p.model.minimize p.model.join held held' → IfSome offer (IsWordOf p.model.minimize p.model.join held') → IsOffer p held held' offer
offered_in p held offers i place held' is None news word = is ∙ no_news p (step_id i place) held offers (sym (news ∙ ap (is_news p.model.minimize p.model.join held) is))
offered_in p held offers i place held' is (Some w) news word = (sym news, word.0, word.1, word.2)

module _ {A B : Type 0} where
  pub took : (p : Pass) (minimize : Bool) (operator : JoinOp) → IsLawOf p.model minimize operator → (s : BestShard A B) (n : Node) (r : BestRecord) → Holds p s n r → (best : ℕ) (batch : Batch)
      → BatchFits s.expander.model batch → expansion s.expander.model (record { prune = s.expander.prune; state = n.state; cost = n.cost; id = step_id s.me s.visited; best = best }) ≡ Ok batch
      → (past' : Past) → past'.layout ≡ s.past.layout → past'.nodes ≡ s.past.nodes ++ past_node n ∷ [] → (expander' : searches.Search) → expander' ≡ s.expander → (stamp : ℕ) → stamp ≡ s.clock + 1 → (new : BestShard A B)
      → new ≡ record s { past = past'; expander = expander'; batch = new.batch; letters = new.letters; clock = new.clock; log = new.log; visited = new.visited; held = new.held }
      → new.letters.items ≡ s.letters.items ++ map (addressed s.layout s.shards s.me stamp) batch.letters
      → new.clock ≡ stamp → new.log ≡ with_step s.log (entry n.parent n.transition) → new.visited ≡ s.visited + 1 → new.held ≡ best_held minimize operator (step_id s.me s.visited) s.held batch.offers
      → (offer : Option ℕ) → is_some offer ≡ is_news minimize operator s.held new.held → IfSome offer (IsWordOf minimize operator new.held) → IsVisit p s.me best r n offer new
  took p minimize operator law s n r h best batch fits found past' pl pn expander' xis stamp sis new frame letters clock log visited' held offer news word =
      subst (λ (q : BestShard A B). IsVisit p s.me best r n offer q) (sym frame)
      (subst (λ (x : searches.Search). IsVisit p s.me best r n offer (record s { past = past'; expander = x; batch = new.batch; letters = new.letters; clock = new.clock; log = new.log; visited = new.visited; held = new.held })) (sym xis)
      (visits p s n r h best batch (subst (λ (m : Model). BatchFits m batch) f.belongs.model fits) (expands_in p s.expander f.belongs.model f.belongs.prune s.me s.visited n best (Ok batch) found)
      past' pl pn new.letters (letters ∙ ap (λ (k : ℕ). s.letters.items ++ map (addressed s.layout s.shards s.me k) batch.letters) sis) new.clock (clock ∙ sis) new.log log new.visited visited' new.held held_is offer offer_is new.batch))
    where
      f : Follows p s r
      f = h.follows

      held_is : new.held ≡ best_held p.model.minimize p.model.join (step_id s.me s.visited) s.held batch.offers
      held_is = by_law p.model minimize operator (λ b o. new.held ≡ best_held b o (step_id s.me s.visited) s.held batch.offers) law held

      offer_is : IsOffer p r.held new.held offer
      offer_is = subst (λ (k : Option Held). IsOffer p k new.held offer) f.ends.1.held_is
          (offered_in p s.held batch.offers s.me s.visited new.held held_is offer (by_law p.model minimize operator (λ b o. is_some offer ≡ is_news b o s.held new.held) law news)
          (by_law p.model minimize operator (λ b o. IfSome offer (IsWordOf b o new.held)) law word))

  pub met_fault : (p : Pass) (s : BestShard A B) (n : Node) (r : BestRecord) → Holds p s n r → (best : ℕ) (spot : Spot) (kind : FaultKind) (last : Option ℕ)
      → expansion s.expander.model (record { prune = s.expander.prune; state = n.state; cost = n.cost; id = step_id s.me s.visited; best = best }) ≡ Err (record { spot = spot; kind = kind; last = last })
      → (past' : Past) (expander' : searches.Search) → expander' ≡ s.expander → (batch' : Batch) (new : BestShard A B)
      → new ≡ record s { past = past'; expander = expander'; batch = batch'; log = with_step s.log (entry n.parent n.transition); visited = s.visited + 1; fault = Some (record { at = step_id s.me s.visited; last = last; spot = spot; kind = kind }) }
      → IsFaulted p s.me r n (record { spot = spot; kind = kind }) new
  met_fault p s n r h best spot kind last found past' expander' xis batch' new kept =
      subst (λ (q : BestShard A B). IsFaulted p s.me r n (record { spot = spot; kind = kind }) q) (sym kept)
      (subst (λ (x : searches.Search). IsFaulted p s.me r n (record { spot = spot; kind = kind }) (record s { past = past'; expander = x; batch = batch'; log = with_step s.log (entry n.parent n.transition); visited = s.visited + 1; fault = Some here })) (sym xis)
      (faulted p s n r h best met (expands_in p s.expander h.follows.belongs.model h.follows.belongs.prune s.me s.visited n best (Err met) found) past' (record { spot = spot; kind = kind }) refl refl here refl batch'))
    where
      met : Met
      met = record { spot = spot; kind = kind; last = last }

      here : FaultHere
      here = record { at = step_id s.me s.visited; last = last; spot = spot; kind = kind }

  -- where memory ran out, what is handed back at the end is as before
  pub ends_kept : (p : Pass) (s : BestShard A B) (r : BestRecord) → EndsAs p s r → (past' : Past) (expander' : searches.Search) (new : BestShard A B)
      → new ≡ record s { past = past'; expander = expander'; batch = new.batch; letters = new.letters; clock = new.clock; log = new.log; visited = new.visited; held = new.held }
      → new.log ≡ s.log → new.visited ≡ s.visited → new.held ≡ s.held → EndsAs p new r
  ends_kept p s r e past' expander' new frame log vis held =
      subst (λ (q : BestShard A B). EndsAs p q r) (sym frame) (
        ap (λ (l : PathLog). l.shard) log ∙ e.0,
        record {
          own = e.1.own;
          log_is = ap (λ (l : PathLog). l.entries) log ∙ e.1.log_is;
          visited_is = vis ∙ e.1.visited_is;
          held_is = held ∙ e.1.held_is;
          fault_is = e.1.fault_is;
        },
      )

  -- ---- what a visit answers

  finds : (p : Pass) (s : BestShard A B) (n : Node) (r : BestRecord) → Holds p s n r → (best : ℕ) (answer : Result Batch Met)
      → expansion s.expander.model (record { prune = s.expander.prune; state = n.state; cost = n.cost; id = step_id s.me s.visited; best = best }) ≡ answer
      → expansion p.model (visit_in p s.me (length (visits_in r.history)) n best) ≡ answer
  finds p s n r h best answer found =
      subst (λ (place : ℕ). expansion p.model (visit_in p s.me place n best) ≡ answer) h.follows.ends.1.visited_is
      (expands_in p s.expander h.follows.belongs.model h.follows.belongs.prune s.me s.visited n best answer found)

  pub finds_batch : (p : Pass) (s : BestShard A B) (n : Node) (r : BestRecord) → Holds p s n r → (best : ℕ) (batch : Batch)
      → expansion s.expander.model (record { prune = s.expander.prune; state = n.state; cost = n.cost; id = step_id s.me s.visited; best = best }) ≡ Ok batch
      → (b : Batch) × (expansion p.model (visit_in p s.me (length (visits_in r.history)) n best) ≡ Ok b)
  finds_batch p s n r h best batch found = (batch, finds p s n r h best (Ok batch) found)

  pub finds_fault : (p : Pass) (s : BestShard A B) (n : Node) (r : BestRecord) → Holds p s n r → (best : ℕ) (spot : Spot) (kind : FaultKind) (last : Option ℕ)
      → expansion s.expander.model (record { prune = s.expander.prune; state = n.state; cost = n.cost; id = step_id s.me s.visited; best = best }) ≡ Err (record { spot = spot; kind = kind; last = last })
      → (l : Option ℕ) × (expansion p.model (visit_in p s.me (length (visits_in r.history)) n best) ≡ Err (record { spot = spot; kind = kind; last = l }))
  finds_fault p s n r h best spot kind last found = (last, finds p s n r h best (Err (record { spot = spot; kind = kind; last = last })) found)

  -- the nodes that a visit made are of the model
  pub made_fit : (p : Pass) (s : BestShard A B) (n : Node) (r : BestRecord) → Holds p s n r → (batch : Batch) → BatchFits s.expander.model batch → (m : Node) → Has batch.letters m → IsNodeFor s.layout m
  made_fit p s n r h batch fits m there =
      let f = h.follows.belongs in
      (p.model, f.layout_is, all_has (IsNodeOf p.model) batch.letters (subst (λ (x : Model). BatchFits x batch) f.model fits).letters m there)

  pub some_shards : (p : Pass) (s : BestShard A B) (n : Node) (r : BestRecord) → Holds p s n r → 1 ≤ s.shards
  some_shards p s n r h = let a = h.follows.belongs.below in let b = h.follows.belongs.shards_are in omega (arith, a, b)
