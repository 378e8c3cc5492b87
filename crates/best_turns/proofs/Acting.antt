-- A shard that goes on after a step of its turn, and one that has ended.
use Rattle.std.proofs.Common.{◌≡◌, ℕ, ◌≤◌, ◌<◌, min, inl, inr, true, false, List, [], ◌∷◌, ◌++◌, length, get_or, slice_get, Option, Some, None, refl, sym, ap, subst, ◌∙◌, arith, length-append}
use Rattle.std.proofs.lemmas.Option.{slice_get_read}
use Rattle.std.specs.Prelude.{Result, Ok, Err, OnOk, IfOk, IfErr}
use Rattle.std.specs.Global.{Vec}
use Rattle.std.specs.Vec.{with_item}
use Rattle.board_words.specs.Causes.{halt_number}
use Rattle.board_words.specs.Rules.{no_word}
use Rattle.board_words.specs.Seats.{BoardFacts, SeatFacts, IsSeatOf}
use Rattle.board_words.specs.Steps.{after_look, after_offer, after_halt, after_halted, IsBestFor}
use Rattle.board_words.specs.declared.halt.HaltCause.{HaltCause}
use Rattle.board_words.specs.declared.halt.HaltCause.TheVariants as causes
use Rattle.board_words.specs.declared.seat.View.{View}
use Rattle.dp_model.specs.contracts.whole.Model as models
use Rattle.pass_ledger.specs.Passes.{Pass}
use Rattle.best_ledger.specs.Events.{take_letter, prune, visit_node, post}
use Rattle.best_ledger.specs.Records.{Own}
use Rattle.best_ledger.specs.declared.records.BestRecord.{BestRecord}
use Rattle.best_ledger.specs.declared.records.Moment.{Moment}
use Rattle.best_ledger.specs.declared.records.ToPost.{ToPost}
use Rattle.best_seats.specs.Seats.{Sits, Sat}
use Rattle.best_seats.specs.declared.ended.BestEnded.{BestEnded}
use Rattle.best_seats.specs.declared.ended.BestEnded.TheVariants as ends
use Rattle.best_seats.proofs.Letters.{came_pruned, came_visited}
use Rattle.best_shard.specs.Calls.{MayCome, IsTaking, IsPruning, IsVisit, IsFaulted, IsPosting}
use Rattle.best_shard.specs.Stands.{Stands, Holds, EndsAs}
use Rattle.best_shard.specs.declared.shard.BestShard.{BestShard}
use Rattle.shard_mail.specs.Ends.{MailboxFacts, PosterFacts, TakerFacts, IsPosterOf, IsNextFor, posted_by, taken_by}
use Rattle.shard_mail.specs.Mails.{LawfulUnder}
use Rattle.shard_seats.specs.Seats.{IsOfferOf}
use Rattle.shard_seats.proofs.Sitting.{Drew, drawn_at, offered_after, offered_news}
use Rattle.best_turns.specs.Envelopes.{sender_of, are_lawful}
use Rattle.best_turns.specs.Turners.{IsTakerFor, ArePostersFor, HasAllMail, HasSomeMail, Acts, Leaves, EndsBy}
use Rattle.best_turns.specs.Works.{HasTaken, HasHandled, HasPostedNext}
use Rattle.best_turns.specs.declared.envelope.BestEnvelope.{BestEnvelope}
use Rattle.best_turns.specs.declared.turner.BestTurner.{BestTurner}
use Rattle.best_turns.proofs.Mail.{enclosed, may_come, takes_mail, some_mail, vain_mail, posters_with, may_post, posts_mail, kept_mail, posted_this}
use Rattle.best_seats.proofs.Sitting.{Halts, some_open, sits_took, sits_posted, sits_pruned, sits_visited, sat_met, sat_memory, sat_budget, sat_drawn, sat_fault}
use Rattle.spot_eval.specs.declared.ends.SpotFault.{SpotFault}
use Rattle.state_layout.specs.declared.node.Node.{Node}

-- ---- histories that grow

grows : (history : List Moment) (m : Moment) (more : List Moment) → length history < length (history ++ m ∷ more)
grows history m more = let a = length-append history (m ∷ more) in omega (arith, a)

at_most : (a b : ℕ) → a < b → a ≤ b
at_most a b lt = omega arith

same_most : (a : ℕ) → a ≤ a
same_most a = omega arith

none_open : (nodes : List Node) → nodes ≡ [] → 0 < length nodes → ⊥
none_open nodes e lt = no (length nodes) lt (ap (λ (ns : List Node). length ns) e)
  where
    no : (a : ℕ) → 0 < a → a ≡ 0 → ⊥
    no a lt e = absurd (omega arith)

-- a moment was added
moves : (history : List Moment) (m : Moment) (more : List Moment) (waiting : List Node) → (length history ≤ length (history ++ m ∷ more)) × (0 < length waiting → length history < length (history ++ m ∷ more))
moves history m more waiting = (at_most (length history) (length (history ++ m ∷ more)) (grows history m more), λ _. grows history m more)

not_false : true ≡ false → ⊥
not_false e = cc

module _ {A B : Type 0} where
  -- ---- where the ways of a step join again

  module _ (p : Pass) (board : BoardFacts) (boxes : List MailboxFacts) (t : BestTurner A B) (joined seat : SeatFacts) (is : joined ≡ seat) {T : Type 0} (result : Result T BestEnded) where
    pub on_acts : (Rel : BestRecord → Type 0) (x : T) → result ≡ Ok x → (b : Acts p board boxes t seat) × Rel b.shard_record → OnOk result ((b : Acts p board boxes t joined) × Rel b.shard_record)
    on_acts Rel x e acts =
        subst (λ (r : Result T BestEnded). OnOk r ((b : Acts p board boxes t joined) × Rel b.shard_record)) (sym e)
        (subst (λ (s : SeatFacts). (b : Acts p board boxes t s) × Rel b.shard_record) (sym is) acts)

    pub if_acts : (Rel : T → BestRecord → Type 0) (x : T) → result ≡ Ok x → (b : Acts p board boxes t seat) × Rel x b.shard_record → IfOk result (λ y. (b : Acts p board boxes t joined) × Rel y b.shard_record)
    if_acts Rel x e acts =
        subst (λ (r : Result T BestEnded). IfOk r (λ y. (b : Acts p board boxes t joined) × Rel y b.shard_record)) (sym e)
        (subst (λ (s : SeatFacts). (b : Acts p board boxes t s) × Rel x b.shard_record) (sym is) acts)

    pub on_none : (Rel : BestRecord → Type 0) (end : BestEnded) → result ≡ Err end → OnOk result ((b : Acts p board boxes t joined) × Rel b.shard_record)
    on_none Rel end e = subst (λ (r : Result T BestEnded). OnOk r ((b : Acts p board boxes t joined) × Rel b.shard_record)) (sym e) tt

    pub if_none : (Rel : T → BestRecord → Type 0) (end : BestEnded) → result ≡ Err end → IfOk result (λ y. (b : Acts p board boxes t joined) × Rel y b.shard_record)
    if_none Rel end e = subst (λ (r : Result T BestEnded). IfOk r (λ y. (b : Acts p board boxes t joined) × Rel y b.shard_record)) (sym e) tt

    pub on_ends : (end : BestEnded) → result ≡ Err end → EndsBy p board boxes end t seat → IfErr result (λ end. EndsBy p board boxes end t joined)
    on_ends end e left = subst (λ (r : Result T BestEnded). IfErr r (λ end. EndsBy p board boxes end t joined)) (sym e) (subst (λ (s : SeatFacts). EndsBy p board boxes end t s) (sym is) left)

    pub on_goes : (x : T) → result ≡ Ok x → IfErr result (λ end. EndsBy p board boxes end t joined)
    on_goes x e = subst (λ (r : Result T BestEnded). IfErr r (λ end. EndsBy p board boxes end t joined)) (sym e) tt

  -- ---- any step

  module _ (p : Pass) (board : BoardFacts) (boxes : List MailboxFacts) (t : BestTurner A B) (seat : SeatFacts) (a : Acts p board boxes t seat) where
    own : Own p t.shard.me a.shard_record
    own = a.stands.follows.ends.1.own

    abbrev goes_on : (new : BestShard A B) → new.me ≡ t.shard.me → (r : BestRecord) → Stands p new r → (taker : TakerFacts BestEnvelope) → IsTakerFor p boxes t.shard.me taker → (posters : Vec (PosterFacts BestEnvelope)) → ArePostersFor p boxes t.shard.me posters.items
        → HasAllMail p taker.taken posters.items r → (seat' : SeatFacts) → IsSeatOf board seat' → Sits p t.budget seat'.view r → Acts p board boxes (record t { shard = new; taker = taker; posters = posters }) seat'
    goes_on new me r st taker takes posters post mail seat' on sits =
        record {
          shard_record = r;
          shared = a.shared;
          stands = st;
          on_board = on;
          sits = sits;
          taker = subst (λ (i : ℕ). IsTakerFor p boxes i taker) (sym me) takes;
          posters = subst (λ (i : ℕ). ArePostersFor p boxes i posters.items) (sym me) post;
          mail = mail;
        }

    leaves_with : (new : BestShard A B) → new.me ≡ t.shard.me → (r : BestRecord) → EndsAs p new r → (taker : TakerFacts BestEnvelope) → IsTakerFor p boxes t.shard.me taker → (posters : Vec (PosterFacts BestEnvelope)) → ArePostersFor p boxes t.shard.me posters.items
        → HasSomeMail p taker.taken posters.items r → (seat' : SeatFacts) → IsSeatOf board seat' → (end : BestEnded) → Sat p end seat'.view r → Leaves p board boxes end (record t { shard = new; taker = taker; posters = posters }) seat'
    leaves_with new me r left taker takes posters post mail seat' on end sat =
        record {
          shard_record = r;
          below = subst (λ (i : ℕ). i < p.shards) (sym me) a.stands.follows.belongs.below;
          ends = left;
          on_board = on;
          sat = sat;
          taker = subst (λ (i : ℕ). IsTakerFor p boxes i taker) (sym me) takes;
          posters = subst (λ (i : ℕ). ArePostersFor p boxes i posters.items) (sym me) post;
          mail = mail;
        }

    halts_with : (new : BestShard A B) → new.me ≡ t.shard.me → (r : BestRecord) → EndsAs p new r → (taker : TakerFacts BestEnvelope) → IsTakerFor p boxes t.shard.me taker → (posters : Vec (PosterFacts BestEnvelope)) → ArePostersFor p boxes t.shard.me posters.items
        → HasSomeMail p taker.taken posters.items r → (before seat' : SeatFacts) (cause : HaltCause) (end : BestEnded) → Halts board before cause end seat' → (v : View) → before.view ≡ v → Sat p (ends.Halted cause) (after_halt v (halt_number cause)) r
        → EndsBy p board boxes end (record t { shard = new; taker = taker; posters = posters }) seat'
    halts_with new me r left taker takes posters post mail before seat' cause end h v is sat =
        subst (λ (e : BestEnded). EndsBy p board boxes e (record t { shard = new; taker = taker; posters = posters }) seat') (sym h.ended)
        (leaves_with new me r left taker takes posters post mail seat' h.on_board (ends.Halted cause)
        (subst (λ (w : View). Sat p (ends.Halted cause) w r) (sym (h.view ∙ ap (λ (w : View). after_halt w (halt_number cause)) is)) sat))

    -- ---- no halt is met

    pub looks : (seat' : SeatFacts) (word : ℕ) → word ≤ 0 → IsSeatOf board seat' → seat'.view ≡ after_halted seat.view word → (b : Acts p board boxes t seat') × (b.shard_record ≡ a.shard_record)
    looks seat' word none on view = (
      goes_on t.shard refl a.shard_record a.stands t.taker a.taker t.posters a.posters a.mail seat' on
          (subst (λ (v : View). Sits p t.budget v a.shard_record) (sym view)
          (record {
            part = a.sits.part;
            limit = a.sits.limit;
            offered = a.sits.offered;
            seen = a.sits.seen;
            drawn = a.sits.drawn;
            drawn_below = a.sits.drawn_below;
            top = a.sits.top;
            late = a.sits.late;
            raised = a.sits.raised;
            met = omega (arith, none);
          })),
      refl,
    )

    -- ---- a halt is met

    pub meets : (seat' : SeatFacts) (word : ℕ) → 0 < word → IsSeatOf board seat' → seat'.view ≡ after_halted seat.view word → Leaves p board boxes ends.Met t seat'
    meets seat' word some on view =
        leaves_with t.shard refl a.shard_record a.stands.follows.ends t.taker a.taker t.posters a.posters (some_mail p t.taker.taken t.posters.items a.shard_record a.mail) seat' on ends.Met
        (subst (λ (v : View). Sat p ends.Met v a.shard_record) (sym view) (sat_met p t.budget seat.view a.shard_record a.sits word some))

    -- ---- no node is open

    pub none_picked : (new : BestShard A B) → new.me ≡ t.shard.me → a.shard_record.waiting ≡ [] → Stands p new a.shard_record → (b : Acts p board boxes (record t { shard = new }) seat) × HasHandled a.shard_record b.shard_record
    none_picked new me none st = (
      goes_on new me a.shard_record st t.taker a.taker t.posters a.posters a.mail seat a.on_board a.sits,
      record { later = same_most (length a.shard_record.history); moved = λ some. absurd (none_open a.shard_record.waiting none some) },
    )

    -- ---- a node is pruned or visited

    pub prunes : (new : BestShard A B) → new.me ≡ t.shard.me → (n : Node) (best : ℕ) → IsPruning p best a.shard_record n new → IsBestFor seat.view best → (seat' : SeatFacts) → IsSeatOf board seat' → seat'.view ≡ after_look seat.view best
        → (b : Acts p board boxes (record t { shard = new }) seat') × HasHandled a.shard_record b.shard_record
    prunes new me n best is least seat' on view =
        let r = prune a.shard_record n is.rest best in (
          goes_on new me r is.stands t.taker a.taker t.posters a.posters
              (record { received = λ j lt. came_pruned j a.shard_record.history _ ∙ a.mail.received j lt; posted = a.mail.posted }) seat' on
              (subst (λ (v : View). Sits p t.budget v r) (sym view) (sits_pruned p t.budget seat.view a.shard_record n is.rest best a.sits least)),
          (let m = moves a.shard_record.history _ [] a.shard_record.waiting in record { later = m.0; moved = m.1 }),
        )

    visits_with : (new : BestShard A B) → new.me ≡ t.shard.me → (n : Node) (j best number : ℕ) (offer : Option ℕ) → IsVisit p j best a.shard_record n offer new → (drawn : SeatFacts) → Drew board seat best number drawn → number < t.budget
        → (seat' : SeatFacts) → IsSeatOf board seat' → (offered : ℕ) → seat'.view ≡ record (drawn_at seat.view best number) { offered = offered } → IsOfferOf p offered new.held
        → (b : Acts p board boxes (record t { shard = new }) seat') × HasHandled a.shard_record b.shard_record
    visits_with new me n j best number offer is drawn d lt seat' on offered view offers =
        let r = visit_node a.shard_record is.stamp n is.rest is.made is.prunes new.held None in (
          goes_on new me r is.stands t.taker a.taker t.posters a.posters
              (record { received = λ k lt. came_visited k a.shard_record.history is.stamp n is.prunes ∙ a.mail.received k lt; posted = a.mail.posted }) seat' on
              (subst (λ (v : View). Sits p t.budget v r) (sym view)
              (sits_visited p t.budget seat.view a.shard_record best number a.sits d.least d.count lt is.stamp n is.rest is.made is.prunes is.by_best new.held offered offers)),
          (let m = moves a.shard_record.history _ _ a.shard_record.waiting in record { later = m.0; moved = m.1 }),
        )

    pub visits : (new : BestShard A B) → new.me ≡ t.shard.me → (n : Node) (j best number : ℕ) → IsVisit p j best a.shard_record n None new → (drawn : SeatFacts) → Drew board seat best number drawn → number < t.budget
        → (b : Acts p board boxes (record t { shard = new }) drawn) × HasHandled a.shard_record b.shard_record
    visits new me n j best number is drawn d lt =
        visits_with new me n j best number None is drawn d lt drawn d.on_board seat.view.offered d.view (offered_after p seat.view.offered a.shard_record.held new.held a.sits.offered is.offer_is)

    pub visits_news : (new : BestShard A B) → new.me ≡ t.shard.me → (n : Node) (j best number word : ℕ) → word ≤ no_word → IsVisit p j best a.shard_record n (Some word) new → (drawn : SeatFacts) → Drew board seat best number drawn → number < t.budget
        → (seat' : SeatFacts) → IsSeatOf board seat' → seat'.view ≡ after_offer drawn.view word → (b : Acts p board boxes (record t { shard = new }) seat') × HasHandled a.shard_record b.shard_record
    visits_news new me n j best number word fits is drawn d lt seat' on view =
        visits_with new me n j best number (Some word) is drawn d lt seat' on (min seat.view.offered word) (view ∙ ap (λ (v : View). after_offer v word) d.view)
        (offered_news p seat.view.offered word a.shard_record.held new.held fits a.sits.offered is.offer_is)

    -- ---- a halt after a number was drawn for a node that was picked

    module _ (picked : BestShard A B) (n : Node) (h : Holds p picked n a.shard_record) (best number : ℕ) (drawn : SeatFacts) (d : Drew board seat best number drawn) (seat' : SeatFacts) (end : BestEnded) where
      waits : 0 < length a.shard_record.waiting
      waits = some_open a.shard_record.waiting n picked.waiting.nodes h.picked

      pub spends : picked.me ≡ t.shard.me → t.budget ≤ number → Halts board drawn causes.Budget end seat' → EndsBy p board boxes end (record t { shard = picked }) seat'
      spends me le halted =
          halts_with picked me a.shard_record h.follows.ends t.taker a.taker t.posters a.posters (some_mail p t.taker.taken t.posters.items a.shard_record a.mail) drawn seat' causes.Budget end halted (drawn_at seat.view best number) d.view
          (sat_budget p t.budget seat.view a.shard_record a.sits best number d.least waits le)

      pub loses : (new : BestShard A B) → new.me ≡ t.shard.me → number < t.budget → EndsAs p new a.shard_record → Halts board drawn causes.Memory end seat' → EndsBy p board boxes end (record t { shard = new }) seat'
      loses new me lt left halted =
          halts_with new me a.shard_record left t.taker a.taker t.posters a.posters (some_mail p t.taker.taken t.posters.items a.shard_record a.mail) drawn seat' causes.Memory end halted (drawn_at seat.view best number) d.view
          (sat_drawn p t.budget seat.view a.shard_record a.sits best number d.least waits lt)

      pub faults : (new : BestShard A B) → new.me ≡ t.shard.me → number < t.budget → (j : ℕ) (fault : SpotFault) → IsFaulted p j a.shard_record n fault new → Halts board drawn causes.Fault end seat' → EndsBy p board boxes end (record t { shard = new }) seat'
      faults new me lt j fault is halted =
          let r = visit_node a.shard_record is.stamp n is.rest [] [] a.shard_record.held (Some is.met) in
          halts_with new me r is.ends t.taker a.taker t.posters a.posters
          (some_mail p t.taker.taken t.posters.items r (record { received = λ k lt. came_visited k a.shard_record.history is.stamp n [] ∙ a.mail.received k lt; posted = a.mail.posted })) drawn seat' causes.Fault end halted (drawn_at seat.view best number) d.view
          (sat_fault p t.budget seat.view a.shard_record a.sits best number d.least waits lt is.stamp n is.rest is.met)

    -- ---- a letter is taken

    pub own_box : (b : MailboxFacts) → b ≡ get_or boxes t.shard.me b → slice_get boxes t.shard.me ≡ Some b
    own_box b read = slice_get_read boxes p.shards t.shard.me b (sym a.shared.long) a.stands.follows.belongs.below read

    pub takes_none : (taker : TakerFacts BestEnvelope) → taker ≡ t.taker → (b : Acts p board boxes (record t { taker = taker }) seat) × HasTaken a.shard_record b.shard_record
    takes_none taker is = subst (λ (k : TakerFacts BestEnvelope). (b : Acts p board boxes (record t { taker = k }) seat) × HasTaken a.shard_record b.shard_record) (sym is) (a, inl refl)

    module _ (b : MailboxFacts) (at : slice_get boxes t.shard.me ≡ Some b) (x : BestEnvelope) (next : IsNextFor models.the_row.coded are_lawful sender_of t.taker x) where
      pub comes : MayCome p x.letter
      comes =
          may_come p t.taker.taken t.posters.items a.shard_record a.mail t.taker x (ap (λ (m : MailboxFacts). m.senders) (a.taker.of_box b at) ∙ a.shared.senders t.shard.me b at) a.taker.terms next

      took : (taker : TakerFacts BestEnvelope) → taker ≡ taken_by t.taker x → IsTakerFor p boxes t.shard.me taker
      took taker is =
          record {
            of_box = λ c box. ap (λ (f : TakerFacts BestEnvelope). f.mailbox) is ∙ a.taker.of_box c box;
            terms = ap (λ (f : TakerFacts BestEnvelope). f.terms) is ∙ a.taker.terms;
          }

      pub takes : (taker : TakerFacts BestEnvelope) → taker ≡ taken_by t.taker x → (new : BestShard A B) → new.me ≡ t.shard.me → IsTaking p a.shard_record x.letter new
          → (b : Acts p board boxes (record t { shard = new; taker = taker }) seat) × HasTaken a.shard_record b.shard_record
      takes taker is new me took_it =
          let r = take_letter a.shard_record x.letter took_it.rest in (
            goes_on new me r took_it.stands taker (took taker is) t.posters a.posters
                (subst (λ (xs : List BestEnvelope). HasAllMail p xs t.posters.items r) (sym (ap (λ (f : TakerFacts BestEnvelope). f.taken) is)) (takes_mail p t.taker.taken t.posters.items a.shard_record a.mail x took_it.rest)) seat a.on_board
                (sits_took p t.budget seat.view a.shard_record x.letter took_it.rest a.sits),
            inr (grows a.shard_record.history _ []),
          )

      -- it was taken in vain
      pub takes_in_vain : (taker : TakerFacts BestEnvelope) → taker ≡ taken_by t.taker x → (new : BestShard A B) → new.me ≡ t.shard.me → EndsAs p new a.shard_record → (seat' : SeatFacts) (end : BestEnded) → Halts board seat causes.Memory end seat' → EndsBy p board boxes end (record t { shard = new; taker = taker }) seat'
      takes_in_vain taker is new me left seat' end h =
          halts_with new me a.shard_record left taker (took taker is) t.posters a.posters
          (subst (λ (xs : List BestEnvelope). HasSomeMail p xs t.posters.items a.shard_record) (sym (ap (λ (f : TakerFacts BestEnvelope). f.taken) is)) (vain_mail p t.taker.taken t.posters.items a.shard_record a.mail x)) seat seat' causes.Memory end h seat.view refl
          (sat_memory p t.budget seat.view a.shard_record a.sits)

    -- ---- nothing is posted

    pub rests : (new : BestShard A B) → new.me ≡ t.shard.me → Stands p new a.shard_record → a.shard_record.unsent ≡ []
        → (b : Acts p board boxes (record t { shard = new }) seat) × HasPostedNext a.shard_record false b.shard_record
    rests new me st none = (goes_on new me a.shard_record st t.taker a.taker t.posters a.posters a.mail seat a.on_board a.sits, record { posted = refl; all = λ _. none })

    -- ---- a letter is posted

    module _ (u : ToPost) (new : BestShard A B) (me : new.me ≡ t.shard.me) (is : IsPosting p a.shard_record u new) where
      within : u.to < length a.shard_record.posted
      within = subst (λ (n : ℕ). u.to < n) (sym own.sizes) is.can.receiver

      pub box_there : u.to < length boxes
      box_there = subst (λ (n : ℕ). u.to < n) (sym a.shared.long) is.can.receiver

      pub box_at : (b : MailboxFacts) → b ≡ get_or boxes u.to b → slice_get boxes u.to ≡ Some b
      box_at b read = slice_get_read boxes (length boxes) u.to b refl box_there read

      pub poster_there : u.to < length t.posters.items
      poster_there = subst (λ (n : ℕ). u.to < n) (sym a.posters.long) is.can.receiver

      pub poster_at : (q : PosterFacts BestEnvelope) → q ≡ get_or t.posters.items u.to q → slice_get t.posters.items u.to ≡ Some q
      poster_at q read = slice_get_read t.posters.items (length t.posters.items) u.to q refl poster_there read

      after : Own p new.me (post a.shard_record u is.rest)
      after = is.stands.follows.ends.1.own

      -- the letter is of the shard
      signed : u.letter.from ≡ t.shard.me
      signed = (after.sends.made u.to u.letter (posted_this a.shard_record.posted u.to u.letter within)).from ∙ me

      module _ (b : MailboxFacts) (box : slice_get boxes u.to ≡ Some b) (q : PosterFacts BestEnvelope) (at : slice_get t.posters.items u.to ≡ Some q) where
        pub poster_of : IsPosterOf b q
        poster_of = a.posters.of_box u.to b q box at

        pub poster_named : sender_of (enclosed u.letter) ≡ q.number
        poster_named = signed ∙ sym (a.posters.number u.to q at)

        pub poster_lawful : LawfulUnder models.the_row.coded are_lawful q.terms (q.posted ++ enclosed u.letter ∷ [])
        poster_lawful = may_post p t.posters.items u.to q at t.taker.taken a.shard_record u.letter a.mail within (a.posters.terms u.to q at) (after.sends.lawful u.to)

        pub posts : (q' : PosterFacts BestEnvelope) → q' ≡ posted_by q (enclosed u.letter)
            → (b : Acts p board boxes (record t { shard = new; posters = with_item t.posters u.to q' }) seat) × HasPostedNext a.shard_record true b.shard_record
        posts q' same =
            let r = post a.shard_record u is.rest in (
              goes_on new me r is.stands t.taker a.taker (with_item t.posters u.to q')
                  (posters_with p t.posters.items u.to q at boxes t.shard.me a.posters q' (ap (λ (f : PosterFacts BestEnvelope). f.mailbox) same) (ap (λ (f : PosterFacts BestEnvelope). f.number) same) (ap (λ (f : PosterFacts BestEnvelope). f.terms) same))
                  (posts_mail p t.posters.items u.to q at t.taker.taken a.shard_record u.letter a.mail within is.rest q' same) seat a.on_board (sits_posted p t.budget seat.view a.shard_record u is.rest a.sits),
              record { posted = refl; all = λ e. absurd (not_false e) },
            )

        -- it was handed out in vain
        pub posts_in_vain : (q' : PosterFacts BestEnvelope) → q' ≡ q → (seat' : SeatFacts) (end : BestEnded) → Halts board seat causes.Memory end seat' → EndsBy p board boxes end (record t { shard = new; posters = with_item t.posters u.to q' }) seat'
        posts_in_vain q' same seat' end h =
            let r = post a.shard_record u is.rest in
            halts_with new me r is.stands.follows.ends t.taker a.taker (with_item t.posters u.to q')
            (posters_with p t.posters.items u.to q at boxes t.shard.me a.posters q' (ap (λ (f : PosterFacts BestEnvelope). f.mailbox) same) (ap (λ (f : PosterFacts BestEnvelope). f.number) same) (ap (λ (f : PosterFacts BestEnvelope). f.terms) same))
            (kept_mail p t.posters.items u.to q at t.taker.taken a.shard_record u.letter a.mail within is.rest q' same) seat seat' causes.Memory end h seat.view refl
            (sat_memory p t.budget seat.view r (sits_posted p t.budget seat.view a.shard_record u is.rest a.sits))

  -- ---- the counts of turns and of letters, and why it has ended, change nothing of the rest

  abbrev pub turned : (p : Pass) (board : BoardFacts) (boxes : List MailboxFacts) (t : BestTurner A B) (seat : SeatFacts) → Acts p board boxes t seat → (turns : ℕ) → Acts p board boxes (record t { turns = turns }) seat
  turned p board boxes t seat a turns =
      record { shard_record = a.shard_record; shared = a.shared; stands = a.stands; on_board = a.on_board; sits = a.sits; taker = a.taker; posters = a.posters; mail = a.mail }

  abbrev pub counted : (p : Pass) (board : BoardFacts) (boxes : List MailboxFacts) (t : BestTurner A B) (seat : SeatFacts) → Acts p board boxes t seat → (letters : ℕ) → Acts p board boxes (record t { letters = letters }) seat
  counted p board boxes t seat a letters =
      record { shard_record = a.shard_record; shared = a.shared; stands = a.stands; on_board = a.on_board; sits = a.sits; taker = a.taker; posters = a.posters; mail = a.mail }

  acts_ended : (p : Pass) (board : BoardFacts) (boxes : List MailboxFacts) (t : BestTurner A B) (seat : SeatFacts) → Acts p board boxes t seat → (ended : Option BestEnded) → Acts p board boxes (record t { ended = ended }) seat
  acts_ended p board boxes t seat a ended =
      record { shard_record = a.shard_record; shared = a.shared; stands = a.stands; on_board = a.on_board; sits = a.sits; taker = a.taker; posters = a.posters; mail = a.mail }

  leaves_ended : (p : Pass) (board : BoardFacts) (boxes : List MailboxFacts) (end : BestEnded) (t : BestTurner A B) (seat : SeatFacts) → Leaves p board boxes end t seat → (ended : Option BestEnded) → Leaves p board boxes end (record t { ended = ended }) seat
  leaves_ended p board boxes end t seat left ended =
      record { shard_record = left.shard_record; below = left.below; ends = left.ends; on_board = left.on_board; sat = left.sat; taker = left.taker; posters = left.posters; mail = left.mail }

  pub ends_ended : (p : Pass) (board : BoardFacts) (boxes : List MailboxFacts) (end : BestEnded) (t : BestTurner A B) (seat : SeatFacts) → EndsBy p board boxes end t seat → (ended : Option BestEnded) → EndsBy p board boxes end (record t { ended = ended }) seat
  ends_ended p board boxes ends.Idle t seat a ended = acts_ended p board boxes t seat a ended
  ends_ended p board boxes ends.Met t seat left ended = leaves_ended p board boxes ends.Met t seat left ended
  ends_ended p board boxes (ends.Halted cause) t seat left ended = leaves_ended p board boxes (ends.Halted cause) t seat left ended

  leaves_counted : (p : Pass) (board : BoardFacts) (boxes : List MailboxFacts) (end : BestEnded) (t : BestTurner A B) (seat : SeatFacts) → Leaves p board boxes end t seat → (letters : ℕ) → Leaves p board boxes end (record t { letters = letters }) seat
  leaves_counted p board boxes end t seat left letters =
      record { shard_record = left.shard_record; below = left.below; ends = left.ends; on_board = left.on_board; sat = left.sat; taker = left.taker; posters = left.posters; mail = left.mail }

  pub ends_counted : (p : Pass) (board : BoardFacts) (boxes : List MailboxFacts) (end : BestEnded) (t : BestTurner A B) (seat : SeatFacts) → EndsBy p board boxes end t seat → (letters : ℕ) → EndsBy p board boxes end (record t { letters = letters }) seat
  ends_counted p board boxes ends.Idle t seat a letters = counted p board boxes t seat a letters
  ends_counted p board boxes ends.Met t seat left letters = leaves_counted p board boxes ends.Met t seat left letters
  ends_counted p board boxes (ends.Halted cause) t seat left letters = leaves_counted p board boxes (ends.Halted cause) t seat left letters

  -- a shard that rests ends idle
  pub idles : (p : Pass) (board : BoardFacts) (boxes : List MailboxFacts) (t : BestTurner A B) (seat : SeatFacts) → Acts p board boxes t seat → {T : Type 0} (result : Result T BestEnded) → IfErr result (λ end. end ≡ ends.Idle)
      → IfErr result (λ end. EndsBy p board boxes end t seat)
  idles p board boxes t seat a (Ok x) is = tt
  idles p board boxes t seat a (Err end) is = subst (λ (e : BestEnded). EndsBy p board boxes e t seat) (sym is) a
