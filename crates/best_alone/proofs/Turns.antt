-- What the one shard of a search does, in the words of its record and of its seat.
use Rattle.std.proofs.Common.{◌≡◌, ℕ, ◌≤◌, ◌<◌, inl, inr, min, Bool, true, false, if◌then◌else◌, nat_eq, List, [], ◌∷◌, ◌++◌, length, Option, Some, None, refl, sym, ap, subst, ◌∙◌, arith, eq-eqb}
use Rattle.std.specs.Prelude.{Result, Ok, Err, IfErr, IsErrAnd}
use Rattle.std.proofs.lemmas.List.{append-nil}
use Rattle.best_ledger.specs.Events.{append_at, take_letter, prune, visit_node, post}
use Rattle.best_ledger.specs.Histories.{came_from, to}
use Rattle.best_ledger.specs.Records.{IsPrefix, Own}
use Rattle.best_ledger.specs.declared.letters.BestLetter.{BestLetter}
use Rattle.best_ledger.specs.declared.records.BestRecord.{BestRecord}
use Rattle.best_ledger.specs.declared.records.Moment.TheVariants.{Came}
use Rattle.best_ledger.specs.declared.records.ToPost.{ToPost}
use Rattle.best_seats.specs.Seats.{Sits, Sat}
use Rattle.best_seats.specs.declared.ended.BestEnded.{BestEnded}
use Rattle.best_seats.specs.declared.ended.BestEnded.TheVariants as ends
use Rattle.best_seats.proofs.Letters.{append_same, came_append, came_pruned, came_visited}
use Rattle.best_seats.proofs.Sitting.{Halts, may_draw, some_open, sits_took, sits_posted, sits_pruned, sits_visited, sat_idle, sat_memory, sat_budget, sat_drawn, sat_fault}
use Rattle.best_shard.specs.Calls.{MayCome, IsTaking, IsPruning, IsVisit, IsFaulted, IsPosting}
use Rattle.best_shard.specs.Stands.{Stands, Holds, EndsAs}
use Rattle.best_shard.specs.declared.shard.BestShard.{BestShard}
use Rattle.board_words.specs.Causes.{halt_number}
use Rattle.board_words.specs.Rules.{no_word, MayDraw}
use Rattle.board_words.specs.Seats.{BoardFacts, SeatFacts, IsSeatOf}
use Rattle.board_words.specs.Steps.{after_look, after_offer, after_halt, IsBestFor}
use Rattle.board_words.specs.declared.halt.HaltCause.{HaltCause}
use Rattle.board_words.specs.declared.halt.HaltCause.TheVariants as causes
use Rattle.board_words.specs.declared.seat.View.{View}
use Rattle.dp_claims.specs.Enough.{Has}
use Rattle.pass_ledger.specs.Passes.{Pass}
use Rattle.pass_ledger.proofs.Lists.{has_next}
use Rattle.shard_seats.specs.Seats.{IsOfferOf}
use Rattle.shard_seats.proofs.Sitting.{Drew, drawn_at, offered_after, offered_news}
use Rattle.spot_eval.specs.declared.ends.SpotFault.{SpotFault}
use Rattle.state_layout.specs.declared.node.Node.{Node}
use Rattle.best_alone.specs.Alone.{Acts, Leaves}

pub first_shard : (n j : ℕ) → n ≡ 1 → j < n → j ≡ 0
first_shard n j e lt = omega (arith, e, lt)

pub one_shard : (n : ℕ) → n ≡ 1 → 0 < n
one_shard n e = omega (arith, e)

-- an error that a `?` hands on
pub passed_up : {T E : Type 0} (r : Result T E) (e : E) (P : E → Type 0) → IsErrAnd r (λ y. y ≡ e) → P e → IfErr r P
passed_up (Ok x) e P is p = tt
passed_up (Err y) e P is p = subst P (sym is) p

halt_some : (cause : HaltCause) → 0 < halt_number cause
halt_some causes.Budget = omega arith
halt_some causes.Memory = omega arith
halt_some causes.Fault = omega arith

raised_some : (cause : HaltCause) (raised : ℕ) → raised ≡ halt_number cause → 0 < raised
raised_some cause raised e = let some = halt_some cause in omega (arith, e, some)

-- a letter of the first shard
own_letter : (x : BestLetter) → x.from ≡ 0 → came_from 0 (Came x ∷ []) ≡ x ∷ []
own_letter x e = by (nat_eq x.from 0) (eq-eqb x.from 0 e)
  where
    by : (t : Bool) → t ≡ true → (if t then x ∷ [] else []) ≡ x ∷ []
    by true is = refl
    by false is = absurd (cc)

module _ {A B : Type 0} (p : Pass) (board : BoardFacts) (budget : ℕ) (s : BestShard A B) (seat : SeatFacts) (a : Acts p board budget s seat) where
  abbrev r : BestRecord
  r = a.shard_record

  own : Own p s.me r
  own = a.stands.follows.ends.1.own

  first : s.me ≡ 0
  first = first_shard p.shards s.me a.alone a.stands.follows.belongs.below

  begins : IsPrefix (came_from 0 r.history) (to r.posted 0)
  begins = ([], append-nil (came_from 0 r.history) ∙ a.arrived)

  pub may : MayDraw seat.view
  may = may_draw p budget board.limit seat.view r a.small a.on_board.2 a.sits

  goes_on : (new : BestShard A B) (r' : BestRecord) → Stands p new r' → came_from 0 r'.history ≡ to r'.posted 0 → (seat' : SeatFacts) → IsSeatOf board seat' → Sits p budget seat'.view r' → Acts p board budget new seat'
  goes_on new r' stands arrived seat' on sits =
      record { shard_record = r'; stands = stands; alone = a.alone; arrived = arrived; on_board = on; small = a.small; sits = sits }

  halts_with : (new : BestShard A B) → new.me ≡ s.me → (r' : BestRecord) → EndsAs p new r' → IsPrefix (came_from 0 r'.history) (to r'.posted 0) → (before seat' : SeatFacts) (cause : HaltCause) (end : BestEnded) → Halts board before cause end seat' → (v : View) → before.view ≡ v
      → Sat p (ends.Halted cause) (after_halt v (halt_number cause)) r' → Leaves p board end new seat'
  halts_with new me r' left begun before seat' cause end h v is sat =
      let seen : seat'.view ≡ after_halt v (halt_number cause) = h.view ∙ ap (λ (w : View). after_halt w (halt_number cause)) is in
      let told : Sat p (ends.Halted cause) seat'.view r' = subst (λ (w : View). Sat p (ends.Halted cause) w r') (sym seen) sat in
      record {
        shard_record = r';
        alone = a.alone;
        first = me ∙ first;
        ends = left;
        begun = begun;
        on_board = h.on_board;
        sat = subst (λ (e : BestEnded). Sat p e seat'.view r') (sym h.ended) told;
        fate = inl (raised_some cause seat'.view.raised told.cause.0);
      }

  -- nothing befell it
  pub still : (new : BestShard A B) → Stands p new r → Acts p board budget new seat
  still new stands = goes_on new r stands a.arrived seat a.on_board a.sits

  -- it has no work
  pub idles : (r.waiting ≡ []) × (r.unsent ≡ []) → Leaves p board ends.Idle s seat
  idles idle = record {
    shard_record = r;
    alone = a.alone;
    first = first;
    ends = a.stands.follows.ends;
    begun = begins;
    on_board = a.on_board;
    sat = sat_idle p budget seat.view r a.sits;
    fate = inr (record { done = record { idle = idle.0; sent = idle.1; fine = a.stands.follows.fine }; arrived = a.arrived; late = a.sits.late; drawn = a.sits.drawn });
  }

  -- memory ran out
  pub runs_out : (seat' : SeatFacts) (end : BestEnded) → Halts board seat causes.Memory end seat' → Leaves p board end s seat'
  runs_out seat' end h = halts_with s refl r a.stands.follows.ends begins seat seat' causes.Memory end h seat.view refl (sat_memory p budget seat.view r a.sits)

  -- ---- a letter is handed out and taken

  module _ (u : ToPost) (mid : BestShard A B) (is : IsPosting p r u mid) where
    abbrev sent : BestRecord
    sent = post r u is.rest

    unsent : Has r.unsent u
    unsent = subst (λ (us : List ToPost). Has us u) (sym is.can.was) (has_next is.can.before u is.can.after)

    pub comes : MayCome p u.letter
    comes = record {
      from = subst (λ (i : ℕ). i < p.shards) (sym (own.sends.unsent_made u unsent).from) a.stands.follows.belongs.below;
      lawful = own.sends.unsent_lawful u unsent;
    }

    posted_is : to (append_at r.posted u.to u.letter) 0 ≡ to r.posted 0 ++ u.letter ∷ []
    posted_is =
        ap (λ (k : ℕ). to (append_at r.posted k u.letter) 0) (first_shard p.shards u.to a.alone is.can.receiver) ∙ append_same r.posted 0 u.letter (one_shard (length r.posted) (own.sizes ∙ a.alone))

    came_is : came_from 0 (r.history ++ Came u.letter ∷ []) ≡ came_from 0 r.history ++ u.letter ∷ []
    came_is = came_append 0 r.history (Came u.letter ∷ []) ∙ ap (λ (xs : List BestLetter). came_from 0 r.history ++ xs) (own_letter u.letter ((own.sends.unsent_made u unsent).from ∙ first))

    arrived_now : came_from 0 (r.history ++ Came u.letter ∷ []) ≡ to (append_at r.posted u.to u.letter) 0
    arrived_now = came_is ∙ (ap (λ (xs : List BestLetter). xs ++ u.letter ∷ []) a.arrived ∙ sym posted_is)

    pub takes : (new : BestShard A B) → IsTaking p sent u.letter new → Acts p board budget new seat
    takes new took =
        goes_on new (take_letter sent u.letter took.rest) took.stands arrived_now seat a.on_board (sits_took p budget seat.view sent u.letter took.rest (sits_posted p budget seat.view r u is.rest a.sits))

    -- memory ran out as it was taken
    pub loses_letter : (new : BestShard A B) → new.me ≡ s.me → Stands p new sent → (seat' : SeatFacts) (end : BestEnded) → Halts board seat causes.Memory end seat' → Leaves p board end new seat'
    loses_letter new me stands seat' end h =
        halts_with new me sent stands.follows.ends (u.letter ∷ [], ap (λ (xs : List BestLetter). xs ++ u.letter ∷ []) a.arrived ∙ sym posted_is) seat seat' causes.Memory end h seat.view refl
        (sat_memory p budget seat.view sent (sits_posted p budget seat.view r u is.rest a.sits))

  -- ---- a node is pruned or visited

  pub prunes : (new : BestShard A B) (n : Node) (best : ℕ) → IsPruning p best r n new → IsBestFor seat.view best → (seat' : SeatFacts) → IsSeatOf board seat' → seat'.view ≡ after_look seat.view best → Acts p board budget new seat'
  prunes new n best is least seat' on view =
      let r' = prune r n is.rest best in
      goes_on new r' is.stands (came_pruned 0 r.history _ ∙ a.arrived) seat' on (subst (λ (v : View). Sits p budget v r') (sym view) (sits_pruned p budget seat.view r n is.rest best a.sits least))

  visits_with : (new : BestShard A B) (n : Node) (j best number : ℕ) (offer : Option ℕ) → IsVisit p j best r n offer new → (drawn : SeatFacts) → Drew board seat best number drawn → number < budget
      → (seat' : SeatFacts) → IsSeatOf board seat' → (offered : ℕ) → seat'.view ≡ record (drawn_at seat.view best number) { offered = offered } → IsOfferOf p offered new.held → Acts p board budget new seat'
  visits_with new n j best number offer is drawn d lt seat' on offered view offers =
      let r' = visit_node r is.stamp n is.rest is.made is.prunes new.held None in
      goes_on new r' is.stands (came_visited 0 r.history is.stamp n is.prunes ∙ a.arrived) seat' on
      (subst (λ (v : View). Sits p budget v r') (sym view) (sits_visited p budget seat.view r best number a.sits d.least d.count lt is.stamp n is.rest is.made is.prunes is.by_best new.held offered offers))

  pub visits : (new : BestShard A B) (n : Node) (j best number : ℕ) → IsVisit p j best r n None new → (drawn : SeatFacts) → Drew board seat best number drawn → number < budget → Acts p board budget new drawn
  visits new n j best number is drawn d lt = visits_with new n j best number None is drawn d lt drawn d.on_board seat.view.offered d.view (offered_after p seat.view.offered r.held new.held a.sits.offered is.offer_is)

  pub visits_news : (new : BestShard A B) (n : Node) (j best number word : ℕ) → word ≤ no_word → IsVisit p j best r n (Some word) new → (drawn : SeatFacts) → Drew board seat best number drawn → number < budget
      → (seat' : SeatFacts) → IsSeatOf board seat' → seat'.view ≡ after_offer drawn.view word → Acts p board budget new seat'
  visits_news new n j best number word fits is drawn d lt seat' on view =
      visits_with new n j best number (Some word) is drawn d lt seat' on (min seat.view.offered word) (view ∙ ap (λ (v : View). after_offer v word) d.view) (offered_news p seat.view.offered word r.held new.held fits a.sits.offered is.offer_is)

  -- ---- a halt after a number was drawn for a node that was picked

  module _ (picked : BestShard A B) (n : Node) (h : Holds p picked n r) (best number : ℕ) (drawn : SeatFacts) (d : Drew board seat best number drawn) (seat' : SeatFacts) (end : BestEnded) where
    waits : 0 < length r.waiting
    waits = some_open r.waiting n picked.waiting.nodes h.picked

    pub spends : picked.me ≡ s.me → budget ≤ number → Halts board drawn causes.Budget end seat' → Leaves p board end picked seat'
    spends me le halted =
        halts_with picked me r h.follows.ends begins drawn seat' causes.Budget end halted (drawn_at seat.view best number) d.view (sat_budget p budget seat.view r a.sits best number d.least waits le)

    pub loses : (new : BestShard A B) → new.me ≡ s.me → number < budget → EndsAs p new r → Halts board drawn causes.Memory end seat' → Leaves p board end new seat'
    loses new me lt left halted =
        halts_with new me r left begins drawn seat' causes.Memory end halted (drawn_at seat.view best number) d.view (sat_drawn p budget seat.view r a.sits best number d.least waits lt)

    pub faults : (new : BestShard A B) → new.me ≡ s.me → number < budget → (j : ℕ) (fault : SpotFault) → IsFaulted p j r n fault new → Halts board drawn causes.Fault end seat' → Leaves p board end new seat'
    faults new me lt j fault is halted =
        let r' = visit_node r is.stamp n is.rest [] [] r.held (Some is.met) in
        halts_with new me r' is.ends ([], append-nil (came_from 0 r'.history) ∙ (came_visited 0 r.history is.stamp n [] ∙ a.arrived)) drawn seat' causes.Fault end halted (drawn_at seat.view best number) d.view
        (sat_fault p budget seat.view r a.sits best number d.least waits lt is.stamp n is.rest is.met)
