-- What the one shard of a pass does, in the words of its record and of its seat.
use Rattle.std.proofs.Common.{◌≡◌, ℕ, Bool, ◌+◌, ◌^◌, ◌<◌, ◌≤◌, ◌⊎◌, inl, inr, min, suc, true, false, List, [], ◌∷◌, ◌++◌, length, Option, Some, None, ℤ, refl, sym, ap, subst, ◌∙◌, arith}
use Rattle.std.specs.Prelude.{option_map, Result, Ok, Err, IfErr, OnErr, IsErrAnd}
use Rattle.std.proofs.lemmas.Bool.{cases_eq}
use Rattle.std.proofs.lemmas.List.{append-nil, length_push}
use Rattle.std.specs.Option.{option_to_list}
use Rattle.announce_laws.proofs.Calls.{called_law}
use Rattle.announce_laws.specs.Called.{AreCalled}
use Rattle.announcing.specs.Telling.{IsTold}
use Rattle.announcing.specs.declared.telling.Told.{Told}
use Rattle.board_words.specs.Causes.{halt_number}
use Rattle.board_words.specs.Rules.{no_word, MayDraw}
use Rattle.board_words.specs.Seats.{BoardFacts, SeatFacts, IsSeatOf}
use Rattle.board_words.specs.Steps.{after_look, after_offer, after_halt, IsBestFor}
use Rattle.board_words.specs.declared.halt.HaltCause.{HaltCause}
use Rattle.board_words.specs.declared.halt.HaltCause.TheVariants as causes
use Rattle.board_words.specs.declared.seat.View.{View}
use Rattle.dp_claims.specs.Enough.{Has}
use Rattle.pass_ledger.specs.Counts.{row_pairs}
use Rattle.pass_ledger.specs.Events.{append_at, take, CanTake, close, prune, visit, CanVisit, post, CanPost}
use Rattle.pass_ledger.specs.Letters.{of, sender, Posted}
use Rattle.pass_ledger.specs.Passes.{Pass}
use Rattle.pass_ledger.specs.Records.{Own, Done, IsHeld, IsPrefix, Reaches, visit_of}
use Rattle.pass_ledger.specs.declared.mail.Letter.{Letter}
use Rattle.pass_ledger.specs.declared.mail.Letter.TheVariants.{Mark}
use Rattle.pass_ledger.specs.declared.records.FaultHere.{FaultHere}
use Rattle.pass_ledger.specs.declared.records.Held.{Held}
use Rattle.pass_ledger.specs.declared.records.PrunedAt.{PrunedAt}
use Rattle.pass_ledger.specs.declared.records.ShardRecord.{ShardRecord}
use Rattle.pass_ledger.specs.declared.records.Unsent.{Unsent}
use Rattle.pass_ledger.specs.declared.records.Visit.{Visit}
use Rattle.pass_ledger.proofs.Appends.{append_same}
use Rattle.pass_ledger.proofs.Lists.{has_left}
use Rattle.pass_ledger.proofs.Posts.{own_post}
use Rattle.shard_core.specs.Calls.{IsReady, IsClosed, IsPruning, IsVisit, IsFaulted, IsPosting, IsQuiet}
use Rattle.shard_core.specs.Stands.{Stands, EndsAs}
use Rattle.shard_core.specs.declared.shard.Closed.{Closed}
use Rattle.shard_core.specs.declared.shard.Shard.{Shard}
use Rattle.shard_seats.specs.Seats.{IsOfferOf, Sits, Sat}
use Rattle.shard_seats.specs.declared.ended.Ended.{Ended}
use Rattle.shard_seats.specs.declared.ended.Ended.TheVariants as ends
use Rattle.shard_seats.proofs.Kept.{fewer_visits}
use Rattle.shard_seats.proofs.Sitting.{Drew, Halts, drawn_at, may_draw, offered_after, offered_news, sits_same, sits_pruned, sits_visited, sat_done, sat_memory, sat_budget, sat_drawn, sat_fault}
use Rattle.solve_report.proofs.Written.{Puts-nothing}
use Rattle.spot_eval.specs.declared.ends.SpotFault.{SpotFault}
use Rattle.state_layout.specs.declared.node.Node.{Node}
use Rattle.pass_alone.specs.Alone.{Goes, HasHanded, Stops, Acts, Leaves, Tells, HasFound, IsHeldCost, GoesOnFrom, RestsFrom, EndsFrom}

pub first_shard : (n j : ℕ) → n ≡ 1 → j < n → j ≡ 0
first_shard n j e lt = omega (arith, e, lt)

pub one_shard : (n : ℕ) → n ≡ 1 → 0 < n
one_shard n e = omega (arith, e)

pub not_true : false ≡ true → ⊥
not_true e = cc

pub not_false : true ≡ false → ⊥
not_false e = cc

no_nodes : (ns : List Node) → ns ≡ [] → 0 < length ns → ⊥
no_nodes ns e lt = none (length ns) (ap (λ (xs : List Node). length xs) e) lt
  where
    none : (a : ℕ) → a ≡ 0 → 0 < a → ⊥
    none a e lt = absurd (omega (arith, e, lt))

first_of : (ns : List Node) → 0 < length ns → (n : Node) × (rest : List Node) × (ns ≡ n ∷ rest)
first_of [] lt = absurd (omega (arith, lt))
first_of (n ∷ ns) lt = (n, ns, refl)

pub handed_none : (r : ShardRecord) → HasHanded r r
handed_none r = record { rows = refl; waiting = refl; visits = refl; pruned = refl; held = refl }

pub handed_more : (a b c : ShardRecord) → HasHanded a b → HasHanded b c → HasHanded a c
handed_more a b c h k = record { rows = k.rows ∙ h.rows; waiting = k.waiting ∙ h.waiting; visits = k.visits ∙ h.visits; pruned = k.pruned ∙ h.pruned; held = k.held ∙ h.held }

-- ---- letters

module _ {A B : Type 0} (p : Pass) (s : Shard A B) (a : Goes p s) where
  abbrev r : ShardRecord
  r = a.shard_record

  pub me_first : s.me ≡ 0
  me_first = first_shard p.shards s.me a.alone a.stands.belongs.below

  own_first : Own p 0 r
  own_first = subst (λ (i : ℕ). Own p i r) me_first a.stands.ends.1.own

  pub stopped : (b : Stops p s) × HasHanded r b.shard_record
  stopped = (record { shard_record = r; alone = a.alone; ends = a.stands.ends; begun = ([], append-nil (of r.received 0) ∙ a.arrived) }, handed_none r)

  module _ (to : ℕ) (x : Letter) (rest : List Unsent) (can : CanPost p 0 r to x rest) where
    here : to ≡ 0
    here = first_shard p.shards to a.alone can.receiver

    posted_is : of (append_at r.posted to x) 0 ≡ of r.posted 0 ++ x ∷ []
    posted_is = ap (λ (k : ℕ). of (append_at r.posted k x) 0) here ∙ append_same r.posted 0 x (one_shard (length r.posted) (own_first.sizes.1 ∙ a.alone))

    received_is : of (append_at r.received (sender x) x) 0 ≡ of r.received 0 ++ x ∷ []
    received_is = ap (λ (k : ℕ). of (append_at r.received k x) 0) can.signed ∙ append_same r.received 0 x (one_shard (length r.received) (own_first.sizes.0 ∙ a.alone))

    may_take : CanTake p (post r to x rest) x
    may_take =
        let own = own_post p 0 r own_first to x rest can in
        let lawful : Posted p.model (of r.received 0 ++ x ∷ []) = subst (Posted p.model) (posted_is ∙ ap (λ (xs : List Letter). xs ++ x ∷ []) (sym a.arrived)) (own.sends.lawful 0) in
        record {
          from = subst (λ (k : ℕ). k < p.shards) (sym can.signed) (one_shard p.shards a.alone);
          lawful = subst (λ (k : ℕ). Posted p.model (of r.received k ++ x ∷ [])) (sym can.signed) lawful;
        }

    taken_now : of (append_at r.received (sender x) x) 0 ≡ of (append_at r.posted to x) 0
    taken_now = received_is ∙ (ap (λ (xs : List Letter). xs ++ x ∷ []) a.arrived ∙ sym posted_is)

    in_vain : IsPrefix (of r.received 0) (of (append_at r.posted to x) 0)
    in_vain = (x ∷ [], ap (λ (xs : List Letter). xs ++ x ∷ []) a.arrived ∙ sym posted_is)

  module _ (to : ℕ) (x : Letter) (mid : Shard A B) (is : IsPosting p s.me r to x mid) where
    can_first : CanPost p 0 r to x is.rest
    can_first = subst (λ (i : ℕ). CanPost p i r to x is.rest) me_first is.can

    pub takes : CanTake p (post r to x is.rest) x
    takes = may_take to x is.rest can_first

    pub handed : (new : Shard A B) → Stands p new (take (post r to x is.rest) x) → (b : Goes p new) × HasHanded r b.shard_record
    handed new stands = (
      record { shard_record = take (post r to x is.rest) x; stands = stands; alone = a.alone; arrived = taken_now to x is.rest can_first },
      record { rows = refl; waiting = refl; visits = refl; pruned = refl; held = refl },
    )

    pub lost : (new : Shard A B) → Stands p new (post r to x is.rest) → (b : Stops p new) × HasHanded r b.shard_record
    lost new stands = (
      record { shard_record = post r to x is.rest; alone = a.alone; ends = stands.ends; begun = in_vain to x is.rest can_first },
      record { rows = refl; waiting = refl; visits = refl; pruned = refl; held = refl },
    )

  pub rests : (new : Shard A B) → IsQuiet p s.me r → Stands p new r → (b : Goes p new) × HasHanded r b.shard_record × IsQuiet p 0 b.shard_record
  rests new quiet stands = (record { shard_record = r; stands = stands; alone = a.alone; arrived = a.arrived }, handed_none r, subst (λ (i : ℕ). IsQuiet p i r) me_first quiet)

  -- where nothing waits and nothing can be handed out, the next layer can be closed
  pub ready : r.waiting ≡ [] → IsQuiet p 0 r → IsReady p 0 r
  ready idle quiet = record { idle = idle; sent = quiet.sent; told = told; marked = marked }
    where
      none : (l n : ℕ) → n ≡ 0 → l + 1 ≡ n → ⊥
      none l n z e = absurd (omega (arith, z, e))

      told : (l j : ℕ) → l + 1 ≡ length r.rows → j < p.shards → (to_you : ℕ) × (total : ℕ) × Has (of r.posted j) (Mark 0 (l + 1) to_you total)
      told l j e lj =
          elim quiet.marks [
            | inl no_rows ↦ absurd (none l (length r.rows) no_rows e)
            | inr other ↦ elim other [
              | inl waits ↦ absurd (no_nodes r.waiting idle waits)
              | inr marks ↦ (let m = marks j lj in (m.0, m.1, subst (λ (k : ℕ). Has (of r.posted j) (Mark 0 k m.0 m.1)) (sym e) m.2))
            ]
          ]

      marked : (l j : ℕ) → l + 1 ≡ length r.rows → j < p.shards → (to_you : ℕ) × (total : ℕ) × Has (of r.received j) (Mark j (l + 1) to_you total)
      marked l j e lj =
          let m = told l 0 e (one_shard p.shards a.alone) in
          let mark = subst (λ (xs : List Letter). Has xs (Mark 0 (l + 1) m.0 m.1)) (sym a.arrived) m.2 in
          (m.0, m.1, subst (λ (k : ℕ). Has (of r.received k) (Mark k (l + 1) m.0 m.1)) (sym (first_shard p.shards j a.alone lj)) mark)

  pub none_left : (0 < length r.waiting → ⊥) → r.waiting ≡ []
  none_left none = empty r.waiting none
    where
      empty : (ns : List Node) → (0 < length ns → ⊥) → ns ≡ []
      empty [] none = refl
      empty (n ∷ ns) none = absurd (none (some (length ns)))
        where
          some : (k : ℕ) → 0 < suc k
          some k = omega arith

-- ---- what was found

-- what is known of costs rests on the visits and on what is held
called_same : (p : Pass) (r r' : ShardRecord) → r'.visits ≡ r.visits → r'.held ≡ r.held → (costs : List ℤ) → AreCalled p 0 r costs → AreCalled p 0 r' costs
called_same p r r' visits held costs all c has =
    let h = all c has in
    record { held = h.held; cost_is = h.cost_is; is_held = subst (λ (vs : List Visit). IsHeld p 0 vs h.held) (sym visits) h.is_held; no_worse = subst (λ (o : Option Held). Reaches p o c) (sym held) h.no_worse }

none_more : (p : Pass) (r : ShardRecord) (costs : List ℤ) → AreCalled p 0 r costs → AreCalled p 0 r (costs ++ [])
none_more p r costs all = subst (AreCalled p 0 r) (sym (append-nil costs)) all

pub found_same : (p : Pass) (r r' : ShardRecord) → r'.visits ≡ r.visits → r'.held ≡ r.held → HasFound p r r' None
found_same p r r' visits held = record { called = λ costs all. none_more p r' costs (called_same p r r' visits held costs all); few = few (length r.visits) (length r'.visits) (ap (λ (vs : List Visit). length vs) visits) }
  where
    few : (a b : ℕ) → b ≡ a → a + 0 ≤ b
    few a b e = omega (arith, e)

-- one more visit, and what it found
found_visit : (p : Pass) (r : ShardRecord) (l : ℕ) (n : Node) (rest : List Node) (made : List Unsent) (prunes : List PrunedAt) (held : Option Held) (fault : Option FaultHere) → CanVisit p 0 r l n rest made prunes held fault → Own p 0 (visit r l n rest made prunes held fault)
    → (better : Option ℤ) → IsHeldCost held better → HasFound p r (visit r l n rest made prunes held fault) better
found_visit p r l n rest made prunes held fault can own None told = record {
  called = λ costs all. none_more p (visit r l n rest made prunes held fault) costs (called_law.visits p 0 r costs all l n rest made prunes held fault can);
  few = more (length r.visits) (length (r.visits ++ visit_of l n ∷ [])) (length_push r.visits (visit_of l n));
}
  where
    more : (a b : ℕ) → b ≡ a + 1 → a + 0 ≤ b
    more a b e = omega (arith, e)
found_visit p r l n rest made prunes held fault can own (Some cost) told = record {
  called = λ costs all.
      let r' = visit r l n rest made prunes held fault in
      subst (λ (c : ℤ). AreCalled p 0 r' (costs ++ c ∷ [])) told.2 (called_law.calls p 0 r' costs (called_law.visits p 0 r costs all l n rest made prunes held fault can) own told.0 told.1);
  few = more (length r.visits) (length (r.visits ++ visit_of l n ∷ [])) (length_push r.visits (visit_of l n));
}
  where
    more : (a b : ℕ) → b ≡ a + 1 → a + 1 ≤ b
    more a b e = omega (arith, e)

found_less : (p : Pass) (a b : ShardRecord) (better : Option ℤ) → HasFound p a b better → HasFound p a b None
found_less p a b better h = record {
  called = λ costs all. none_more p b costs (λ c has. h.called costs all c (has_left costs (option_to_list better) c has));
  few = fewer (length a.visits) (length (option_to_list better)) (length b.visits) h.few;
}
  where
    fewer : (x y z : ℕ) → x + y ≤ z → x + 0 ≤ z
    fewer x y z e = omega (arith, e)

pub found_more : (p : Pass) (a b c : ShardRecord) (better : Option ℤ) → HasFound p a b better → HasFound p b c None → HasFound p a c better
found_more p a b c better h k = record {
  called = λ costs all. subst (AreCalled p 0 c) (append-nil (costs ++ option_to_list better)) (k.called (costs ++ option_to_list better) (h.called costs all));
  few = trans (length a.visits + length (option_to_list better)) (length b.visits) (length c.visits) h.few k.few;
}
  where
    trans : (x y z : ℕ) → x ≤ y → y + 0 ≤ z → x ≤ z
    trans x y z e f = omega (arith, e, f)

-- the cost of what is held
pub told_of : (held : Option Held) (better : Option ℤ) → better ≡ option_map (λ (h : Held). h.cost) held → IsHeldCost held better
told_of None better e = subst (IsHeldCost None) (sym e) tt
told_of (Some h) better e = subst (IsHeldCost (Some h)) (sym e) (h, refl, refl)

-- ---- the seat

module _ {A B : Type 0} (p : Pass) (board : BoardFacts) (budget : ℕ) (s : Shard A B) (seat : SeatFacts) (a : Acts p board budget s seat) where
  abbrev now : ShardRecord
  now = a.goes.shard_record

  own : Own p 0 now
  own = subst (λ (i : ℕ). Own p i now) a.first a.goes.stands.ends.1.own

  begins : IsPrefix (of now.received 0) (of now.posted 0)
  begins = ([], append-nil (of now.received 0) ∙ a.goes.arrived)

  pub may : MayDraw seat.view
  may = may_draw p budget board.limit seat.view now a.small a.on_board.2 a.sits

  -- the visits are few
  pub few_made : length now.visits ≤ 2 ^ 40
  few_made = few seat.view.drawn (length now.visits) seat.view.top budget board.limit seat.view.limit a.sits.drawn a.sits.drawn_below a.sits.top a.sits.limit a.on_board.2 a.small
    where
      few : (drawn visits top budget limit own : ℕ) → drawn ≡ visits → drawn ≤ top → top ≤ budget → own ≡ budget → own ≡ limit → limit ≤ 2 ^ 40 → visits ≤ 2 ^ 40
      few drawn visits top budget limit own e f g h i j = omega (arith, e, f, g, h, i, j)

  abbrev goes_on : (new : Shard A B) → new.me ≡ s.me → (r' : ShardRecord) → Stands p new r' → of r'.received 0 ≡ of r'.posted 0 → (seat' : SeatFacts) → IsSeatOf board seat' → Sits p budget seat'.view r' → Acts p board budget new seat'
  goes_on new me r' stands arrived seat' on sits =
      record { goes = record { shard_record = r'; stands = stands; alone = a.goes.alone; arrived = arrived }; first = me ∙ a.first; on_board = on; small = a.small; sits = sits }

  abbrev ends_with : (new : Shard A B) → new.me ≡ s.me → (r' : ShardRecord) → EndsAs p new r' → IsPrefix (of r'.received 0) (of r'.posted 0) → (seat' : SeatFacts) → IsSeatOf board seat' → (end : Ended) → Sat p 0 end seat'.view r' → Leaves p board end new seat'
  ends_with new me r' left begun seat' on end sat =
      record { stops = record { shard_record = r'; alone = a.goes.alone; ends = left; begun = begun }; first = me ∙ a.first; on_board = on; sat = sat }

  abbrev halts_with : (new : Shard A B) → new.me ≡ s.me → (r' : ShardRecord) → EndsAs p new r' → IsPrefix (of r'.received 0) (of r'.posted 0) → (before seat' : SeatFacts) (cause : HaltCause) (end : Ended) → Halts board before cause end seat' → (v : View) → before.view ≡ v
      → Sat p 0 (ends.Halted cause) (after_halt v (halt_number cause)) r' → Leaves p board end new seat'
  halts_with new me r' left begun before seat' cause end h v is sat =
      ends_with new me r' left begun seat' h.on_board end
      (subst (λ (e : Ended). Sat p 0 e seat'.view r') (sym h.ended)
      (subst (λ (w : View). Sat p 0 (ends.Halted cause) w r') (sym (h.view ∙ ap (λ (w : View). after_halt w (halt_number cause)) is)) sat))

  -- ---- letters were taken, or memory ran out

  pub hands : (new : Shard A B) → new.me ≡ s.me → (b : Goes p new) → HasHanded now b.shard_record → IsQuiet p 0 b.shard_record → RestsFrom p board budget now None new seat
  hands new me b h quiet = (
    record { acts = record { goes = b; first = me ∙ a.first; on_board = a.on_board; small = a.small; sits = sits_same p budget seat.view now b.shard_record h.held h.pruned h.visits a.sits }; quiet = quiet },
    found_same p now b.shard_record h.visits h.held,
  )

  pub runs_out : (new : Shard A B) → new.me ≡ s.me → (b : Stops p new) → HasHanded now b.shard_record → (seat' : SeatFacts) (end : Ended) → Halts board seat causes.Memory end seat' → EndsFrom p board now end new seat'
  runs_out new me b h seat' end is = (
    halts_with new me b.shard_record b.ends b.begun seat seat' causes.Memory end is seat.view refl
        (sat_memory p 0 budget seat.view b.shard_record (subst (λ (i : ℕ). Own p i b.shard_record) (me ∙ a.first) b.ends.1.own) (sits_same p budget seat.view now b.shard_record h.held h.pruned h.visits a.sits)),
    found_same p now b.shard_record h.visits h.held,
  )

  -- ---- a layer is closed, or the pass is done

  pub closes : (new : Shard A B) → new.me ≡ s.me → (closed : Closed) → IsClosed p now closed new → GoesOnFrom p board budget now None new seat
  closes new me closed is = (
    goes_on new me (close now is.row) is.stands a.goes.arrived seat a.on_board (sits_same p budget seat.view now (close now is.row) refl refl refl a.sits),
    found_same p now (close now is.row) refl refl,
  )

  pub closes_in_vain : (new : Shard A B) → new.me ≡ s.me → EndsAs p new now → (seat' : SeatFacts) (end : Ended) → Halts board seat causes.Memory end seat' → EndsFrom p board now end new seat'
  closes_in_vain new me left seat' end is = (halts_with new me now left begins seat seat' causes.Memory end is seat.view refl (sat_memory p 0 budget seat.view now own a.sits), found_same p now now refl refl)

  pub is_done : Done p 0 now → EndsFrom p board now ends.Done s seat
  is_done done = (ends_with s refl now a.goes.stands.ends begins seat a.on_board ends.Done (sat_done p 0 budget seat.view now own a.sits done), found_same p now now refl refl)

  -- ---- a node is pruned or visited

  pub prunes : (new : Shard A B) → new.me ≡ s.me → (best : ℕ) → IsPruning p best now new → IsBestFor seat.view best → (seat' : SeatFacts) → IsSeatOf board seat' → seat'.view ≡ after_look seat.view best → GoesOnFrom p board budget now None new seat'
  prunes new me best is least seat' on view =
      let r' = prune now is.node is.rest best in (
        goes_on new me r' is.stands a.goes.arrived seat' on (subst (λ (v : View). Sits p budget v r') (sym view) (sits_pruned p budget seat.view now is.node is.rest best a.sits least)),
        found_same p now r' refl refl,
      )

  visits_with : (new : Shard A B) → new.me ≡ s.me → (j best number : ℕ) → j ≡ 0 → (offer : Option ℕ) → (is : IsVisit p j best now offer new) → (drawn : SeatFacts) → Drew board seat best number drawn → number < budget
      → (seat' : SeatFacts) → IsSeatOf board seat' → (offered : ℕ) → seat'.view ≡ record (drawn_at seat.view best number) { offered = offered } → IsOfferOf p offered new.held → (better : Option ℤ) → IsHeldCost new.held better → GoesOnFrom p board budget now better new seat'
  visits_with new me j best number first offer is drawn d lt seat' on offered view offers better told =
      let r' = visit now is.layer is.node is.rest is.made is.prunes new.held None in (
        goes_on new me r' is.stands a.goes.arrived seat' on
            (subst (λ (v : View). Sits p budget v r') (sym view)
            (sits_visited p budget seat.view now best number a.sits d.least d.count lt is.layer is.node is.rest is.made is.prunes is.by_best new.held offered offers)),
        found_visit p now is.layer is.node is.rest is.made is.prunes new.held None (subst (λ (i : ℕ). CanVisit p i now is.layer is.node is.rest is.made is.prunes new.held None) first is.can)
            (subst (λ (i : ℕ). Own p i r') (me ∙ a.first) is.stands.ends.1.own) better told,
      )

  pub visits : (new : Shard A B) → new.me ≡ s.me → (j best number : ℕ) → j ≡ 0 → IsVisit p j best now None new → (drawn : SeatFacts) → Drew board seat best number drawn → number < budget → GoesOnFrom p board budget now None new drawn
  visits new me j best number first is drawn d lt =
      visits_with new me j best number first None is drawn d lt drawn d.on_board seat.view.offered d.view (offered_after p seat.view.offered now.held new.held a.sits.offered is.offer_is) None tt

  pub visits_news : (new : Shard A B) → new.me ≡ s.me → (j best number word : ℕ) → j ≡ 0 → word ≤ no_word → IsVisit p j best now (Some word) new → (drawn : SeatFacts) → Drew board seat best number drawn → number < budget
      → (seat' : SeatFacts) → IsSeatOf board seat' → seat'.view ≡ after_offer drawn.view word → (better : Option ℤ) → IsHeldCost new.held better → GoesOnFrom p board budget now better new seat'
  visits_news new me j best number word first fits is drawn d lt seat' on view better told =
      visits_with new me j best number first (Some word) is drawn d lt seat' on (min seat.view.offered word) (view ∙ ap (λ (v : View). after_offer v word) d.view) (offered_news p seat.view.offered word now.held new.held fits a.sits.offered is.offer_is) better told

  -- ---- a halt after a number was drawn for a node that waits

  waits_kept : 0 < length now.waiting → length now.visits + 1 ≤ length (row_pairs 0 now.rows)
  waits_kept waits =
      let w = first_of now.waiting waits in
      fewer_visits p 0 now own (begun (cases_eq (length now.rows) 0)) w.0 w.1 w.2
    where
      some : (a : ℕ) → (a ≡ 0 → ⊥) → 0 < a
      some a ne = omega arith

      begun : (length now.rows ≡ 0) ⊎ (length now.rows ≡ 0 → ⊥) → 0 < length now.rows
      begun (inl e) = absurd (no_nodes now.waiting (a.goes.stands.begun (a.goes.stands.layer ∙ e)) waits)
      begun (inr ne) = some (length now.rows) ne

  module _ (waits : 0 < length now.waiting) (best number : ℕ) (drawn : SeatFacts) (d : Drew board seat best number drawn) (seat' : SeatFacts) (end : Ended) where
    pub spends : budget ≤ number → Halts board drawn causes.Budget end seat' → EndsFrom p board now end s seat'
    spends le h = (
      halts_with s refl now a.goes.stands.ends begins drawn seat' causes.Budget end h (drawn_at seat.view best number) d.view
          (sat_budget p 0 budget seat.view now own a.sits best number d.least d.count (waits_kept waits) le),
      found_same p now now refl refl,
    )

    pub loses : (new : Shard A B) → new.me ≡ s.me → number < budget → EndsAs p new now → Halts board drawn causes.Memory end seat' → EndsFrom p board now end new seat'
    loses new me lt left h = (
      halts_with new me now left begins drawn seat' causes.Memory end h (drawn_at seat.view best number) d.view
          (sat_drawn p 0 budget seat.view now own a.sits best number d.least d.count (waits_kept waits) lt),
      found_same p now now refl refl,
    )

    pub faults : (new : Shard A B) → new.me ≡ s.me → number < budget → (j : ℕ) → j ≡ 0 → (fault : SpotFault) → IsFaulted p j now fault new → Halts board drawn causes.Fault end seat' → EndsFrom p board now end new seat'
    faults new me lt j first fault is h =
        let r' = visit now is.layer is.node is.rest [] [] now.held (Some is.met) in (
          halts_with new me r' is.ends begins drawn seat' causes.Fault end h (drawn_at seat.view best number) d.view
              (sat_fault p 0 budget seat.view now own a.sits best number d.least d.count (waits_kept waits) lt is.layer is.node is.rest is.met),
          found_visit p now is.layer is.node is.rest [] [] now.held (Some is.met) (subst (λ (i : ℕ). CanVisit p i now is.layer is.node is.rest [] [] now.held (Some is.met)) first is.can)
              (subst (λ (i : ℕ). Own p i r') (me ∙ a.first) is.ends.1.own) None tt,
        )

-- ---- results

-- an error that a `?` hands on
pub passed_up : {T E : Type 0} (r : Result T E) (e : E) (P : E → Type 0) → IsErrAnd r (λ y. y ≡ e) → P e → IfErr r P
passed_up (Ok x) e P is p = tt
passed_up (Err y) e P is p = subst P (sym is) p

pub more_stopped : {A B T E : Type 0} (p : Pass) (new : Shard A B) (before mid : ShardRecord) → HasHanded before mid → (r : Result T E) → (b : Stops p new) × HasHanded mid b.shard_record → OnErr r ((b : Stops p new) × HasHanded before b.shard_record)
more_stopped p new before mid h (Ok x) s = tt
more_stopped p new before mid h (Err e) s = (s.0, handed_more before mid s.0.shard_record h s.1)

pub ready_there : {A B : Type 0} (p : Pass) (s : Shard A B) (r : ShardRecord) → s.me ≡ 0 → IsReady p 0 r → IsReady p s.me r
ready_there p s r first h = subst (λ (i : ℕ). IsReady p i r) (sym first) h

pub done_first : {A B : Type 0} (p : Pass) (s : Shard A B) (r : ShardRecord) → s.me ≡ 0 → Done p s.me r → Done p 0 r
done_first p s r first h = subst (λ (i : ℕ). Done p i r) first h

-- it ended after one thing that it did, and another
pub ends_more : {A B : Type 0} (p : Pass) (board : BoardFacts) (a b : ShardRecord) (better : Option ℤ) (end : Ended) (s : Shard A B) (seat : SeatFacts) → HasFound p a b better → EndsFrom p board b end s seat → EndsFrom p board a end s seat
ends_more p board a b better end s seat h e = (e.0, found_less p a e.0.stops.shard_record better (found_more p a b e.0.stops.shard_record better h e.1))

-- ---- what was looked at

module _ (p : Pass) (minimize : Bool) (last : Option ℤ) (before after : Option (List ℕ)) (faults faults_after : ℕ) (told : Told) (a b : ShardRecord) (t : Tells p minimize last before after faults faults_after told a) where
  pub tells_on : HasFound p a b None → Tells p minimize last before after faults faults_after told b
  tells_on h = record { costs = t.costs; known = subst (AreCalled p 0 b) (append-nil t.costs) (h.called t.costs t.known); looked = t.looked; few = few told.count (length a.visits) (length b.visits) t.few h.few; small = t.small }
    where
      few : (x y z : ℕ) → x ≤ y → y + 0 ≤ z → x ≤ z
      few x y z e f = omega (arith, e, f)

  pub tells_more : (better : Option ℤ) → HasFound p a b better → (after' : Option (List ℕ)) (faults' : ℕ) (told' : Told) → IsTold minimize last (t.costs ++ option_to_list better) before after' faults faults' told' → told'.count ≤ told.count + length (option_to_list better) → length b.visits ≤ 2 ^ 40
      → Tells p minimize last before after' faults faults' told' b
  tells_more better h after' faults' told' looked more made =
      let less = few told'.count told.count (length (option_to_list better)) (length a.visits) (length b.visits) more t.few h.few in
      record { costs = t.costs ++ option_to_list better; known = h.called t.costs t.known; looked = looked; few = less; small = omega (arith, less, made) }
    where
      few : (w x y z u : ℕ) → w ≤ x + y → x ≤ z → z + y ≤ u → w ≤ u
      few w x y z u e f i = omega (arith, e, f, i)

-- before the first step
pub tells_first : (p : Pass) (minimize : Bool) (last : Option ℤ) (bytes : Option (List ℕ)) (faults : ℕ) (r : ShardRecord) → Tells p minimize last bytes bytes faults faults (record { last = last; count = 0; failed = false }) r
tells_first p minimize last bytes faults r = record {
  costs = [];
  known = called_law.none p 0 r;
  looked = record { result = Ok tt; result_is = refl; last_is = λ _. refl; count_is = λ _. refl; written = Puts-nothing };
  few = none (length r.visits);
  small = none (2 ^ 40);
}
  where
    none : (n : ℕ) → 0 ≤ n
    none n = omega arith
