-- What the shard does while its certificate is made, in the words of its record.
use Rattle.std.proofs.Common.{◌≡◌, ℕ, ◌+◌, ◌<◌, ◌≤◌, inl, inr, zero, suc, List, [], ◌∷◌, ◌++◌, map, length, Option, Some, None, refl, sym, ap, subst, ◌∙◌, arith}
use Rattle.std.specs.Prelude.{ℤ, Result, Ok, Err, pos, ◌≤ℤ◌, ◌<ℤ◌, IfSome, OnOk, IfOk, IfErr, IsErrAnd}
use Rattle.std.proofs.lemmas.Int.{ints}
use Rattle.std.proofs.lemmas.List.{length_push}
use Rattle.dp_model.specs.Costs.{InRange}
use Rattle.dp_steps.specs.States.{Considered, Enabled, Inner}
use Rattle.dp_claims.specs.Enough.{Has, IsAtMostReached}
use Rattle.pass_ledger.specs.Events.{take, CanTake, close, CanClose, visit, CanVisit, post, CanPost, fresh}
use Rattle.pass_ledger.specs.Letters.{of}
use Rattle.pass_ledger.specs.Passes.{Pass, IsStart, StartsInner, word_of}
use Rattle.pass_ledger.specs.Records.{visit_of}
use Rattle.pass_ledger.specs.declared.mail.Letter.{Letter}
use Rattle.pass_ledger.specs.declared.mail.Letter.TheVariants.{Mark}
use Rattle.pass_ledger.specs.declared.records.Held.{Held}
use Rattle.pass_ledger.specs.declared.records.LedgerRow.{LedgerRow}
use Rattle.pass_ledger.specs.declared.records.ShardRecord.{ShardRecord}
use Rattle.pass_ledger.proofs.Done.{rooted}
use Rattle.pass_ledger.proofs.Paths.{Known, known}
use Rattle.shard_core.specs.Calls.{IsReady, IsClosed, IsVisit, IsFaulted, IsPosting, IsQuiet, IsOffer, Finds, visit_in}
use Rattle.shard_core.specs.Stands.{Stands}
use Rattle.shard_core.specs.declared.shard.Closed.{Closed}
use Rattle.shard_core.specs.declared.shard.Shard.{Shard}
use Rattle.shard_core.specs.declared.shard.Visited.TheVariants as visiteds
use Rattle.spot_eval.specs.declared.ends.SpotFault.{SpotFault}
use Rattle.state_layout.specs.declared.node.Node.{Node}
use Rattle.successors.specs.Searches as searches
use Rattle.successors.specs.Visits.{expansion}
use Rattle.successors.specs.declared.batch.Batch.{Batch}
use Rattle.visit_laws.proofs.Batches.{batch_found}
use Rattle.cert_types.specs.declared.nodes.CertNode.{CertNode}
use Rattle.cert_rows.specs.Making.{GoesOn, nodes_for, node_for}
use Rattle.cert_rows.specs.Rows.{LeadsOnward}
use Rattle.cert_rows.proofs.Ends.{together, stops}
use Rattle.cert_rows.proofs.Events.{can_take, on_close, on_close_none, on_post, on_start, on_visit}
use Rattle.cert_making.specs.Makes.{Ends, HasHanded, Makes, with_layer}
use Rattle.cert_making.specs.declared.ends.Halt.{Halt}
use Rattle.cert_making.specs.declared.ends.Halt.TheVariants as halts

pub first_shard : (n j : ℕ) → n ≡ 1 → j < n → j ≡ 0
first_shard n j e lt = omega (arith, e, lt)

one_shard : (n : ℕ) → n ≡ 1 → 0 < n
one_shard n e = omega (arith, e)

pub pos_mono : (a b : ℕ) → a ≤ b → pos a ≤ℤ pos b
pos_mono a b h = omega (arith, ints)

pub pos_less : (a b : ℕ) → a < b → pos a <ℤ pos b
pos_less a b h = omega (arith, ints)

no_nodes : (ns : List Node) → ns ≡ [] → 0 < length ns → ⊥
no_nodes ns e lt = none (length ns) (ap (λ (xs : List Node). length xs) e) lt
  where
    none : (a : ℕ) → a ≡ 0 → 0 < a → ⊥
    none a e lt = absurd (omega (arith, e, lt))

first_of : (ns : List Node) → 0 < length ns → (n : Node) × (rest : List Node) × (ns ≡ n ∷ rest)
first_of [] lt = absurd (omega (arith, lt))
first_of (n ∷ ns) lt = (n, ns, refl)

pub handed_none : (r : ShardRecord) → HasHanded r r
handed_none r = record { rows = refl; waiting = refl; visits = refl }

pub handed_more : (a b c : ShardRecord) → HasHanded a b → HasHanded b c → HasHanded a c
handed_more a b c h k = record { rows = k.rows ∙ h.rows; waiting = k.waiting ∙ h.waiting; visits = k.visits ∙ h.visits }

-- ---- what a visit finds

module _ (p : Pass) (n : Node) (v : searches.Visit) (state : v.state ≡ n.state) (cost : v.cost ≡ n.cost) where
  leads_onward : (batch : Batch) → Inner p.model v.state → IfSome v.cost InRange → expansion p.model v ≡ Ok batch → (t : ℕ) → Considered p.model v.state t → Enabled p.model v.state t → LeadsOnward p (record n { state = v.state; cost = v.cost }) t
  leads_onward batch inner range e t considered enabled =
      elim ((batch_found p.model v batch inner range e).accounted t considered enabled) [
        | inl out ↦ (out.0, out.1, out.2, out.3)
        | inr other ↦ elim other [
          | inl offered ↦ (let x = offered.1 in (x.weight, x.next, x.step, x.cost_in_range))
          | inr kept ↦ (let x = kept.1 in (x.weight, kept.0.state, x.step, subst (λ (c : Option ℤ). IfSome c InRange) x.cost x.in_range))
        ]
      ]

module _ {A B : Type 0} (p : Pass) (claimed budget : ℕ) (layers : List (List CertNode)) (first : ℕ) (s : Shard A B) (a : Makes p claimed budget s layers first) where
  abbrev r : ShardRecord
  r = a.shard_record

  pub me_first : s.me ≡ 0
  me_first = first_shard p.shards s.me a.on.alone a.stands.belongs.below

  pub visits_are : s.visited ≡ length r.visits
  visits_are = a.stands.ends.1.visited_is

  -- ---- letters

  pub takes : (to : ℕ) (x : Letter) (mid : Shard A B) (is : IsPosting p s.me r to x mid) → CanTake p (post r to x is.rest) x
  takes to x mid is = can_take p claimed r layers first a.on to x is.rest (subst (λ (i : ℕ). CanPost p i r to x is.rest) me_first is.can)

  pub handed : (to : ℕ) (x : Letter) (mid new : Shard A B) (is : IsPosting p s.me r to x mid) → Stands p new (take (post r to x is.rest) x) → (b : Makes p claimed budget new layers first) × HasHanded r b.shard_record
  handed to x mid new is stands = (
    record {
      shard_record = take (post r to x is.rest) x;
      stands = stands;
      on = on_post p claimed r layers first a.on to x is.rest (subst (λ (i : ℕ). CanPost p i r to x is.rest) me_first is.can);
      within = a.within;
    },
    record { rows = refl; waiting = refl; visits = refl },
  )

  pub rests : (new : Shard A B) → IsQuiet p s.me r → Stands p new r → (b : Makes p claimed budget new layers first) × HasHanded r b.shard_record × IsQuiet p 0 b.shard_record
  rests new quiet stands = (record { shard_record = r; stands = stands; on = a.on; within = a.within }, handed_none r, subst (λ (i : ℕ). IsQuiet p i r) me_first quiet)

  -- where nothing waits and nothing can be handed out, the next layer can be closed
  pub ready : r.waiting ≡ [] → IsQuiet p 0 r → IsReady p 0 r
  ready idle quiet = record { idle = idle; sent = quiet.sent; told = told; marked = marked }
    where
      none : (l n : ℕ) → n ≡ 0 → l + 1 ≡ n → ⊥
      none l n z e = absurd (omega (arith, z, e))

      told : (l j : ℕ) → l + 1 ≡ length r.rows → j < p.shards → (to_you : ℕ) × (total : ℕ) × Has (of r.posted j) (Mark 0 (l + 1) to_you total)
      told l j e lj =
          elim quiet.marks [
            | inl no_rows ↦ absurd (none l (length r.rows) no_rows e)
            | inr other ↦ elim other [
              | inl waits ↦ absurd (no_nodes r.waiting idle waits)
              | inr marks ↦ (let m = marks j lj in (m.0, m.1, subst (λ (k : ℕ). Has (of r.posted j) (Mark 0 k m.0 m.1)) (sym e) m.2))
            ]
          ]

      marked : (l j : ℕ) → l + 1 ≡ length r.rows → j < p.shards → (to_you : ℕ) × (total : ℕ) × Has (of r.received j) (Mark j (l + 1) to_you total)
      marked l j e lj =
          let m = told l 0 e (one_shard p.shards a.on.alone) in
          let here = subst (λ (xs : List Letter). Has xs (Mark 0 (l + 1) m.0 m.1)) (sym a.on.arrived) m.2 in
          (m.0, m.1, subst (λ (k : ℕ). Has (of r.received k) (Mark k (l + 1) m.0 m.1)) (sym (first_shard p.shards j a.on.alone lj)) here)

  -- ---- visits

  knows : (l : ℕ) (n : Node) → l + 1 ≡ length r.rows → Has r.waiting n → Known p 0 n
  knows l n e waits =
      let kept = a.on.own.turns.kept l n e waits in
      known p (r ∷ []) a.on.inner (rooted p (r ∷ []) (together p r a.on.alone a.on.own a.on.arrived)) 0 l n (one_shard p.shards a.on.alone) ((a.on.own.rows l).kept n kept)

  onward : (l : ℕ) (n : Node) (rest : List Node) → l + 1 ≡ length r.rows → r.waiting ≡ n ∷ rest → (offer : Option ℕ) → Finds p.model (visit_in p s.me (length r.visits) n claimed) (visiteds.Done offer)
      → (t : ℕ) → Considered p.model n.state t → Enabled p.model n.state t → LeadsOnward p n t
  onward l n rest e is offer found t considered enabled =
      let k = knows l n e (subst (λ (ns : List Node). Has ns n) (sym is) (0, refl)) in
      leads_onward p n (visit_in p s.me (length r.visits) n claimed) refl refl found.0 k.inner k.in_range found.1 t considered enabled

  above : (offer : Option ℕ) (after : Option Held) → IsOffer p r.held after offer → ((word : ℕ) → offer ≡ Some word → claimed ≤ word) → (h : Held) → after ≡ Some h → pos claimed ≤ℤ word_of p h.cost
  above None after is no_better h e = a.on.above h (sym is ∙ e)
  above (Some word) after is no_better h e =
      let same : is.1 ≡ h = some_held is.1 h (sym is.2 ∙ e) in
      subst (λ (g : Held). pos claimed ≤ℤ word_of p g.cost) same (subst (λ (w : ℤ). pos claimed ≤ℤ w) is.3 (pos_mono claimed word (no_better word refl)))
    where
      some_held : (g h : Held) → Some g ≡ Some h → g ≡ h
      some_held g h e = cc

  -- a visit without a fault, which found nothing that is better than the claim
  pub visited : (offer : Option ℕ) (new : Shard A B) (is : IsVisit p s.me claimed r offer new) → ((n : Node) (rest : List Node) → r.waiting ≡ n ∷ rest → Finds p.model (visit_in p s.me (length r.visits) n claimed) (visiteds.Done offer))
      → ((word : ℕ) → offer ≡ Some word → claimed ≤ word) → length r.visits < budget → (b : Makes p claimed budget new layers first) × (length b.shard_record.waiting < length r.waiting)
  visited offer new is found no_better some = (
    record {
      shard_record = visit r is.layer is.node is.rest is.made is.prunes new.held None;
      stands = is.stands;
      on = on_visit p claimed r layers first a.on is.layer is.node is.rest is.made is.prunes new.held (subst (λ (i : ℕ). CanVisit p i r is.layer is.node is.rest is.made is.prunes new.held None) me_first is.can) is.by_best
          (above offer new.held is.offer_is no_better) (onward is.layer is.node is.rest is.can.layer is.can.first offer (found is.node is.rest is.can.first));
      within = subst (λ (k : ℕ). k ≤ budget) (sym (length_push r.visits (visit_of is.layer is.node))) (next (length r.visits) budget some);
    },
    subst (λ (ns : List Node). length is.rest < length ns) (sym is.can.first) (less (length is.rest)),
  )
    where
      next : (a b : ℕ) → a < b → a + 1 ≤ b
      next a b h = omega (arith, h)

      less : (a : ℕ) → a < suc a
      less a = omega arith

  -- one that found something better
  pub betters : (offer : Option ℕ) (new : Shard A B) → new.me ≡ s.me → IsVisit p s.me claimed r offer new → (word : ℕ) → offer ≡ Some word → word < claimed → Ends p claimed budget new halts.Better
  betters offer new me is word e less =
      let held = offered offer r.held new.held is.offer_is word e in (
        record { shard_record = visit r is.layer is.node is.rest is.made is.prunes new.held None; alone = a.on.alone; first = me ∙ me_first; ends = is.stands.ends; arrived = a.on.arrived },
        held.0,
        held.1,
        subst (λ (w : ℤ). w <ℤ pos claimed) held.2 (pos_less word claimed less),
      )
    where
      offered : (offer : Option ℕ) (before after : Option Held) → IsOffer p before after offer → (word : ℕ) → offer ≡ Some word → (h : Held) × (after ≡ Some h) × (pos word ≡ word_of p h.cost)
      offered None before after is word e = absurd (cc)
      offered (Some w) before after is word e = let same : w ≡ word = cc in (is.1, is.2, ap pos (sym same) ∙ is.3)

  -- one that met a fault
  pub faulted : (fault : SpotFault) (new : Shard A B) → new.me ≡ s.me → IsFaulted p s.me r fault new → Ends p claimed budget new halts.Fault
  faulted fault new me is = (
    record { shard_record = visit r is.layer is.node is.rest [] [] r.held (Some is.met); alone = a.on.alone; first = me ∙ me_first; ends = is.ends; arrived = a.on.arrived },
    is.met,
    refl,
  )

  -- a node waits, and the budget is spent
  pub spent : 0 < length r.waiting → budget ≤ s.visited → Ends p claimed budget s halts.Budget
  spent waits full =
      let w = first_of r.waiting waits in
      let same : length r.visits ≡ budget = both (length r.visits) s.visited budget a.within full visits_are in
      subst (λ (k : ℕ). IsAtMostReached p.model p.keep (k + 1)) same (stops p claimed r layers first a.on w.0 w.1 w.2 (begun (length r.rows) refl))
    where
      both : (a b c : ℕ) → a ≤ c → c ≤ b → b ≡ a → a ≡ c
      both a b c h k e = omega (arith, h, k, e)

      begun : (n : ℕ) → n ≡ length r.rows → 0 < n
      begun zero e = absurd (no_nodes r.waiting (a.stands.begun (a.stands.layer ∙ sym e)) waits)
      begun (suc n) e = some n
        where
          some : (k : ℕ) → 0 < suc k
          some k = omega arith

  -- ---- layers

  -- a row that is written, if it has nodes
  row_on : (w : LedgerRow) → CanClose p r w → w.dropped ≡ [] → (cs : List CertNode) → cs ≡ nodes_for first w.kept → GoesOn p claimed (close r w) (with_layer layers cs) (length r.visits)
  row_on w can none [] e = on_close_none p claimed r layers first a.on w can none (no_kept w.kept e)
    where
      no_kept : (ns : List Node) → [] ≡ map (node_for first) ns → ns ≡ []
      no_kept [] e = refl
      no_kept (n ∷ ns) e = absurd (cc)
  row_on w can none (c ∷ cs) e =
      subst (λ (xs : List CertNode). GoesOn p claimed (close r w) (layers ++ xs ∷ []) (length r.visits)) (sym e) (on_close p claimed r layers first a.on w can none (some_kept w.kept e))
    where
      some_kept : (ns : List Node) → c ∷ cs ≡ map (node_for first) ns → 0 < length ns
      some_kept [] e = absurd (cc)
      some_kept (n ∷ ns) e = omega arith

  none_dropped : (ns : List Node) (count : ℕ) → count ≡ length ns → count ≤ 0 → ns ≡ []
  none_dropped [] count e le = refl
  none_dropped (n ∷ ns) count e le = absurd (omega (arith, e, le))

  pub closed : (told : Closed) (new : Shard A B) → IsClosed p r told new → told.dropped ≤ 0 → (cs : List CertNode) → cs ≡ nodes_for first new.waiting.items → Makes p claimed budget new (with_layer layers cs) s.visited
  closed told new is none cs written =
      record {
        shard_record = close r is.row;
        stands = is.stands;
        on = subst (λ (k : ℕ). GoesOn p claimed (close r is.row) (with_layer layers cs) k) (sym visits_are)
            (row_on is.row is.can (none_dropped is.row.dropped told.dropped is.dropped none) cs (written ∙ ap (λ (ns : List Node). nodes_for first ns) is.stands.waiting));
        within = a.within;
      }

-- ---- the loop over the nodes that wait

module _ {A B : Type 0} (p : Pass) (claimed budget : ℕ) (layers : List (List CertNode)) (first : ℕ) (s : Shard A B) (a : Makes p claimed budget s layers first) where
  -- no node waits
  pub none_left : (0 < length a.shard_record.waiting → ⊥) → a.shard_record.waiting ≡ []
  none_left none = empty a.shard_record.waiting none
    where
      empty : (ns : List Node) → (0 < length ns → ⊥) → ns ≡ []
      empty [] none = refl
      empty (n ∷ ns) none = absurd (none (some (length ns)))
        where
          some : (k : ℕ) → 0 < suc k
          some k = omega arith

  -- the budget is not spent
  pub room_left : s.visited < budget → length a.shard_record.visits < budget
  room_left less = subst (λ (k : ℕ). k < budget) (visits_are p claimed budget layers first s a) less

  -- fewer nodes wait
  pub fewer_wait : (s' : Shard A B) (b : Makes p claimed budget s' layers first) → length b.shard_record.waiting < length a.shard_record.waiting → length s'.waiting.items < length s.waiting.items
  fewer_wait s' b less = subst (λ (ns : List Node). length ns < length s.waiting.items) (sym b.stands.waiting) (subst (λ (ns : List Node). length b.shard_record.waiting < length ns) (sym a.stands.waiting) less)

-- ---- the beginning

pub fresh_ready : (p : Pass) (start : Option Node) → IsReady p 0 (fresh p.shards start)
fresh_ready p start = record { idle = refl; sent = refl; told = λ l j e lj. absurd (no_row l e); marked = λ l j e lj. absurd (no_row l e) }
  where
    no_row : (l : ℕ) → l + 1 ≡ 0 → ⊥
    no_row l e = absurd (omega (arith, e))

pub fresh_makes : {A B : Type 0} (p : Pass) (claimed budget : ℕ) (s : Shard A B) (n : Node) → p.shards ≡ 1 → StartsInner p → IsStart p n → Stands p s (fresh p.shards (Some n)) → (a : Makes p claimed budget s [] 0) × IsReady p 0 a.shard_record
fresh_makes p claimed budget s n alone inner start stands = (
  record { shard_record = fresh p.shards (Some n); stands = stands; on = on_start p claimed n alone inner start; within = least budget },
  fresh_ready p (Some n),
)
  where
    least : (a : ℕ) → 0 ≤ a
    least a = omega arith

-- ---- results

pub on_ok : {T E : Type 0} {X Y : Type 0} (r : Result T E) → OnOk r X → (X → Y) → OnOk r Y
on_ok (Ok x) h f = f h
on_ok (Err e) h f = tt

pub if_ok : {T E : Type 0} {P Q : T → Type 0} (r : Result T E) → IfOk r P → ((x : T) → P x → Q x) → IfOk r Q
if_ok (Ok x) h f = f x h
if_ok (Err e) h f = tt

pub if_err : {T E : Type 0} {P Q : E → Type 0} (r : Result T E) → IfErr r P → ((e : E) → P e → Q e) → IfErr r Q
if_err (Ok x) h f = tt
if_err (Err e) h f = f e h

-- an error that a `?` hands on
pub passed_up : {T E : Type 0} (r : Result T E) (e : E) (P : E → Type 0) → IsErrAnd r (λ y. y ≡ e) → P e → IfErr r P
passed_up (Ok x) e P is p = tt
passed_up (Err y) e P is p = subst P (sym is) p

-- an answer of `weigh`
pub is_better : {A B : Type 0} (p : Pass) (claimed budget : ℕ) (new : Shard A B) (halt : Halt) → halt ≡ halts.Better → Ends p claimed budget new halts.Better → Ends p claimed budget new halt
is_better p claimed budget new halt e h = subst (λ (x : Halt). Ends p claimed budget new x) (sym e) h
