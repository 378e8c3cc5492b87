-- A shard that goes on after a step of its turn, and one that has ended.
use Rattle.std.proofs.Common.{◌≡◌, ℕ, ◌+◌, ◌^◌, ◌≤◌, ◌<◌, ◌⊎◌, min, inl, inr, suc, true, false, List, [], ◌∷◌, ◌++◌, length, get_or, slice_get, Option, Some, None, refl, sym, ap, subst, ◌∙◌, arith}
use Rattle.std.proofs.lemmas.Bool.{cases_eq}
use Rattle.std.proofs.lemmas.List.{length_push}
use Rattle.std.proofs.lemmas.Option.{slice_get_read}
use Rattle.std.specs.Prelude.{Result, Ok, Err, OnOk, IfOk, IfErr}
use Rattle.std.specs.Global.{Vec}
use Rattle.std.specs.Vec.{with_item}
use Rattle.board_words.specs.Causes.{halt_number}
use Rattle.board_words.specs.Rules.{no_word}
use Rattle.board_words.specs.Seats.{BoardFacts, SeatFacts, IsSeatOf}
use Rattle.board_words.specs.Steps.{after_look, after_offer, after_halt, after_halted, IsBestFor}
use Rattle.board_words.specs.declared.halt.HaltCause.{HaltCause}
use Rattle.board_words.specs.declared.halt.HaltCause.TheVariants as causes
use Rattle.board_words.specs.declared.seat.View.{View}
use Rattle.dp_claims.specs.Enough.{Has}
use Rattle.dp_model.specs.contracts.whole.Model as models
use Rattle.pass_ledger.specs.Counts.{row_pairs}
use Rattle.pass_ledger.specs.Events.{take, CanTake, close, prune, visit, CanVisit, post}
use Rattle.pass_ledger.specs.Letters.{of}
use Rattle.pass_ledger.specs.Passes.{Pass}
use Rattle.pass_ledger.specs.Records.{Own, Done}
use Rattle.pass_ledger.specs.declared.mail.Letter.{Letter}
use Rattle.pass_ledger.specs.declared.records.LedgerRow.{LedgerRow}
use Rattle.pass_ledger.specs.declared.records.ShardRecord.{ShardRecord}
use Rattle.pass_ledger.proofs.Appends.{append_same}
use Rattle.pass_ledger.proofs.Lists.{has_last}
use Rattle.shard_core.specs.Calls.{IsReady, IsClosed, IsPruning, IsVisit, IsFaulted, IsPosting, IsQuiet}
use Rattle.shard_core.specs.Stands.{Stands, EndsAs}
use Rattle.shard_core.specs.declared.shard.Closed.{Closed}
use Rattle.shard_core.specs.declared.shard.Shard.{Shard}
use Rattle.shard_mail.specs.Ends.{MailboxFacts, PosterFacts, TakerFacts, IsPosterOf, IsNextFor, posted_by, taken_by}
use Rattle.shard_mail.specs.Mails.{LawfulUnder}
use Rattle.shard_turns.specs.Calls.{CallsFor, HasCalled, MayCall}
use Rattle.shard_turns.specs.Envelopes.{sender_of, are_lawful}
use Rattle.shard_turns.specs.Turners.{IsTakerFor, ArePostersFor, HasAllMail, HasSomeMail, Acts, Leaves}
use Rattle.shard_seats.specs.Seats.{IsOfferOf, Sits, Sat, HadMemory}
use Rattle.shard_turns.specs.Works.{HasTaken, HasClosed, HasHandled, HasPostedNext}
use Rattle.shard_turns.specs.declared.calling.Calling.{Calling}
use Rattle.shard_turns.specs.declared.envelope.Envelope.{Envelope}
use Rattle.shard_seats.specs.declared.ended.Ended.{Ended}
use Rattle.shard_seats.specs.declared.ended.Ended.TheVariants as ends
use Rattle.shard_turns.specs.declared.turner.Turner.{Turner}
use Rattle.shard_seats.proofs.Sitting.{Drew, Halts}
use Rattle.shard_turns.proofs.Called.{calls_kept, calls_now, calls_visited, may_call}
use Rattle.shard_seats.proofs.Kept.{fewer_visits}
use Rattle.shard_turns.proofs.Mail.{enclosed, can_take, takes_mail, some_mail, vain_mail, posters_with, may_post, posts_mail, kept_mail}
use Rattle.shard_seats.proofs.Sitting.{drawn_at, offered_after, offered_news, sits_same, sits_pruned, sits_visited, sat_met, sat_done, sat_memory, sat_budget, sat_drawn, sat_fault}
use Rattle.spot_eval.specs.declared.ends.SpotFault.{SpotFault}
use Rattle.state_layout.specs.declared.node.Node.{Node}

-- ---- a node that waits

first_of : (ns : List Node) → 0 < length ns → (n : Node) × (rest : List Node) × (ns ≡ n ∷ rest)
first_of [] lt = absurd (omega arith)
first_of (n ∷ ns) lt = (n, ns, refl)

none_waits : (waiting : List Node) → 0 < length waiting → waiting ≡ [] → ⊥
none_waits waiting lt e = none (length waiting) lt (ap (λ (ns : List Node). length ns) e)
  where
    none : (a : ℕ) → 0 < a → a ≡ 0 → ⊥
    none a lt e = absurd (omega arith)

some_wait : (waiting : List Node) (n : Node) (rest : List Node) → waiting ≡ n ∷ rest → 0 < length waiting
some_wait waiting n rest e = subst (λ (ns : List Node). 0 < length ns) (sym e) (some (length rest))
  where
    some : (a : ℕ) → 0 < suc a
    some a = omega arith

same_rest : (m n : Node) (ms ns : List Node) → m ∷ ms ≡ n ∷ ns → ms ≡ ns
same_rest m n ms ns e = cc

not_false : true ≡ false → ⊥
not_false e = cc

pub not_true : false ≡ true → ⊥
not_true e = cc

closed_by : (p : Pass) (i : ℕ) (r : ShardRecord) (new : LedgerRow) → r.waiting ≡ [] → (Done p i r → ⊥) → HasClosed p i r (close r new)
closed_by p i r new idle going =
    record { not_done = going; closed = λ _. length_push r.rows new; waiting = λ n rest e. absurd (none_waits r.waiting (some_wait r.waiting n rest e) idle) }

module _ {A B : Type 0} where
  waits_kept : (p : Pass) (s : Shard A B) (r : ShardRecord) → Stands p s r → 0 < length r.waiting → length r.visits + 1 ≤ length (row_pairs 0 r.rows)
  waits_kept p s r st waits =
      let w = first_of r.waiting waits in
      fewer_visits p s.me r st.ends.1.own (begun (cases_eq (length r.rows) 0)) w.0 w.1 w.2
    where
      some : (a : ℕ) → (a ≡ 0 → ⊥) → 0 < a
      some a ne = omega arith

      begun : (length r.rows ≡ 0) ⊎ (length r.rows ≡ 0 → ⊥) → 0 < length r.rows
      begun (inl e) = absurd (none_waits r.waiting waits (st.begun (st.layer ∙ e)))
      begun (inr ne) = some (length r.rows) ne

  -- ---- where the ways of a step join again

  module _ (p : Pass) (board : BoardFacts) (boxes : List MailboxFacts) (t : Turner A B) (joined seat : SeatFacts) (is : joined ≡ seat) {T : Type 0} (result : Result T Ended) where
    pub on_acts : (Rel : ShardRecord → Type 0) (x : T) → result ≡ Ok x → (b : Acts p board boxes t seat) × Rel b.shard_record → OnOk result ((b : Acts p board boxes t joined) × Rel b.shard_record)
    on_acts Rel x e acts =
        subst (λ (r : Result T Ended). OnOk r ((b : Acts p board boxes t joined) × Rel b.shard_record)) (sym e)
        (subst (λ (s : SeatFacts). (b : Acts p board boxes t s) × Rel b.shard_record) (sym is) acts)

    pub if_acts : (Rel : T → ShardRecord → Type 0) (x : T) → result ≡ Ok x → (b : Acts p board boxes t seat) × Rel x b.shard_record → IfOk result (λ y. (b : Acts p board boxes t joined) × Rel y b.shard_record)
    if_acts Rel x e acts =
        subst (λ (r : Result T Ended). IfOk r (λ y. (b : Acts p board boxes t joined) × Rel y b.shard_record)) (sym e)
        (subst (λ (s : SeatFacts). (b : Acts p board boxes t s) × Rel x b.shard_record) (sym is) acts)

    pub on_none : (Rel : ShardRecord → Type 0) (end : Ended) → result ≡ Err end → OnOk result ((b : Acts p board boxes t joined) × Rel b.shard_record)
    on_none Rel end e = subst (λ (r : Result T Ended). OnOk r ((b : Acts p board boxes t joined) × Rel b.shard_record)) (sym e) tt

    pub if_none : (Rel : T → ShardRecord → Type 0) (end : Ended) → result ≡ Err end → IfOk result (λ y. (b : Acts p board boxes t joined) × Rel y b.shard_record)
    if_none Rel end e = subst (λ (r : Result T Ended). IfOk r (λ y. (b : Acts p board boxes t joined) × Rel y b.shard_record)) (sym e) tt

    pub on_leaves : (end : Ended) → result ≡ Err end → Leaves p board boxes end t seat → IfErr result (λ end. Leaves p board boxes end t joined)
    on_leaves end e left = subst (λ (r : Result T Ended). IfErr r (λ end. Leaves p board boxes end t joined)) (sym e) (subst (λ (s : SeatFacts). Leaves p board boxes end t s) (sym is) left)

    pub on_goes : (x : T) → result ≡ Ok x → IfErr result (λ end. Leaves p board boxes end t joined)
    on_goes x e = subst (λ (r : Result T Ended). IfErr r (λ end. Leaves p board boxes end t joined)) (sym e) tt

  -- ---- any step

  module _ (p : Pass) (board : BoardFacts) (boxes : List MailboxFacts) (t : Turner A B) (seat : SeatFacts) (a : Acts p board boxes t seat) where
    own : Own p t.shard.me a.shard_record
    own = a.stands.ends.1.own

    abbrev goes_on : (new : Shard A B) → new.me ≡ t.shard.me → (r : ShardRecord) → Stands p new r → (taker : TakerFacts Envelope) → IsTakerFor p boxes t.shard.me taker → (posters : Vec (PosterFacts Envelope)) → ArePostersFor p boxes t.shard.me posters.items
        → HasAllMail p taker.taken posters.items r → (calling : Option Calling) → CallsFor p t.shard.me r calling → (seat' : SeatFacts) → IsSeatOf board seat' → Sits p t.budget seat'.view r
        → Acts p board boxes (record t { shard = new; taker = taker; posters = posters; calling = calling }) seat'
    goes_on new me r st taker takes posters post mail calling calls seat' on sits =
        record {
          shard_record = r;
          shared = a.shared;
          stands = st;
          on_board = on;
          sits = sits;
          taker = subst (λ (i : ℕ). IsTakerFor p boxes i taker) (sym me) takes;
          posters = subst (λ (i : ℕ). ArePostersFor p boxes i posters.items) (sym me) post;
          mail = mail;
          calls = subst (λ (i : ℕ). CallsFor p i r calling) (sym me) calls;
        }

    -- nothing was taken or handed out in vain
    abbrev had_all : Ended → List Envelope → List (PosterFacts Envelope) → ShardRecord → Type 0
    had_all end taken posters r = HadMemory end → HasAllMail p taken posters r

    ends_with : (new : Shard A B) → new.me ≡ t.shard.me → (r : ShardRecord) → EndsAs p new r → (taker : TakerFacts Envelope) → IsTakerFor p boxes t.shard.me taker → (posters : Vec (PosterFacts Envelope)) → ArePostersFor p boxes t.shard.me posters.items
        → HasSomeMail p taker.taken posters.items r → CallsFor p t.shard.me r t.calling → (seat' : SeatFacts) → IsSeatOf board seat' → (end : Ended) → had_all end taker.taken posters.items r → Sat p t.shard.me end seat'.view r
        → Leaves p board boxes end (record t { shard = new; taker = taker; posters = posters }) seat'
    ends_with new me r left taker takes posters post mail calls seat' on end all sat =
        record {
          shard_record = r;
          below = subst (λ (i : ℕ). i < p.shards) (sym me) a.stands.belongs.below;
          ends = left;
          on_board = on;
          sat = subst (λ (i : ℕ). Sat p i end seat'.view r) (sym me) sat;
          taker = subst (λ (i : ℕ). IsTakerFor p boxes i taker) (sym me) takes;
          posters = subst (λ (i : ℕ). ArePostersFor p boxes i posters.items) (sym me) post;
          mail = mail;
          all_mail = all;
          calls = subst (λ (i : ℕ). CallsFor p i r t.calling) (sym me) calls;
        }

    halts_with : (new : Shard A B) → new.me ≡ t.shard.me → (r : ShardRecord) → EndsAs p new r → (taker : TakerFacts Envelope) → IsTakerFor p boxes t.shard.me taker → (posters : Vec (PosterFacts Envelope)) → ArePostersFor p boxes t.shard.me posters.items
        → HasSomeMail p taker.taken posters.items r → CallsFor p t.shard.me r t.calling → (before seat' : SeatFacts) (cause : HaltCause) (end : Ended) → Halts board before cause end seat' → (v : View) → before.view ≡ v → had_all (ends.Halted cause) taker.taken posters.items r → Sat p t.shard.me (ends.Halted cause) (after_halt v (halt_number cause)) r
        → Leaves p board boxes end (record t { shard = new; taker = taker; posters = posters }) seat'
    halts_with new me r left taker takes posters post mail calls before seat' cause end h v is all sat =
        ends_with new me r left taker takes posters post mail calls seat' h.on_board end
        (subst (λ (e : Ended). had_all e taker.taken posters.items r) (sym h.ended) all)
        (subst (λ (e : Ended). Sat p t.shard.me e seat'.view r) (sym h.ended)
        (subst (λ (w : View). Sat p t.shard.me (ends.Halted cause) w r) (sym (h.view ∙ ap (λ (w : View). after_halt w (halt_number cause)) is)) sat))

    -- the mail is as before
    same_mail : (r : ShardRecord) → r.received ≡ a.shard_record.received → r.posted ≡ a.shard_record.posted → HasAllMail p t.taker.taken t.posters.items r
    same_mail r received posted =
        record {
          received = λ j lt. ap (λ (ls : List (List Letter)). of ls j) received ∙ a.mail.received j lt;
          posted = λ k q at. a.mail.posted k q at ∙ ap (λ (ls : List (List Letter)). of ls k) (sym posted);
        }

    -- the calls are as before
    same_calls : (r : ShardRecord) → r.visits ≡ a.shard_record.visits → r.held ≡ a.shard_record.held → CallsFor p t.shard.me r t.calling
    same_calls r visits held = calls_kept p t.shard.me a.shard_record r visits held t.calling a.calls

    -- ---- no halt is met

    pub looks : (seat' : SeatFacts) (word : ℕ) → word ≤ 0 → IsSeatOf board seat' → seat'.view ≡ after_halted seat.view word → (b : Acts p board boxes t seat') × (b.shard_record ≡ a.shard_record)
    looks seat' word none on view = (
      goes_on t.shard refl a.shard_record a.stands t.taker a.taker t.posters a.posters a.mail t.calling a.calls seat' on
          (subst (λ (v : View). Sits p t.budget v a.shard_record) (sym view)
          (record {
            part = a.sits.part;
            limit = a.sits.limit;
            offered = a.sits.offered;
            seen = a.sits.seen;
            drawn = a.sits.drawn;
            drawn_below = a.sits.drawn_below;
            top = a.sits.top;
            late = a.sits.late;
            raised = a.sits.raised;
            met = omega (arith, none);
          })),
      refl,
    )

    -- ---- a halt is met, or the shard is done

    pub meets : (seat' : SeatFacts) (word : ℕ) → 0 < word → IsSeatOf board seat' → seat'.view ≡ after_halted seat.view word → Leaves p board boxes ends.Met t seat'
    meets seat' word some on view =
        ends_with t.shard refl a.shard_record a.stands.ends t.taker a.taker t.posters a.posters (some_mail p t.taker.taken t.posters.items a.shard_record a.mail) a.calls seat' on ends.Met (λ _. a.mail)
        (subst (λ (v : View). Sat p t.shard.me ends.Met v a.shard_record) (sym view) (sat_met p t.shard.me t.budget seat.view a.shard_record own a.sits word some))

    pub is_done : Done p t.shard.me a.shard_record → Leaves p board boxes ends.Done t seat
    is_done done =
        ends_with t.shard refl a.shard_record a.stands.ends t.taker a.taker t.posters a.posters (some_mail p t.taker.taken t.posters.items a.shard_record a.mail) a.calls seat a.on_board ends.Done (λ _. a.mail)
        (sat_done p t.shard.me t.budget seat.view a.shard_record own a.sits done)

    -- ---- a layer is closed

    pub closes : (new : Shard A B) → new.me ≡ t.shard.me → (closed : Closed) → IsClosed p a.shard_record closed new → (Done p t.shard.me a.shard_record → ⊥)
        → (b : Acts p board boxes (record t { shard = new }) seat) × HasClosed p t.shard.me a.shard_record b.shard_record
    closes new me closed is going = (
      goes_on new me (close a.shard_record is.row) is.stands t.taker a.taker t.posters a.posters (same_mail (close a.shard_record is.row) refl refl) t.calling (same_calls (close a.shard_record is.row) refl refl) seat a.on_board
          (sits_same p t.budget seat.view a.shard_record (close a.shard_record is.row) refl refl refl a.sits),
      closed_by p t.shard.me a.shard_record is.row is.can.idle going,
    )

    pub stays_open : (Done p t.shard.me a.shard_record → ⊥) → (IsReady p t.shard.me a.shard_record → ⊥) → (b : Acts p board boxes t seat) × HasClosed p t.shard.me a.shard_record b.shard_record
    stays_open going busy = (a, record { not_done = going; closed = λ ready. absurd (busy ready); waiting = λ n rest e. e })

    -- memory ran out, and the shard is only ended
    pub runs_out : (new : Shard A B) → new.me ≡ t.shard.me → EndsAs p new a.shard_record → (seat' : SeatFacts) (end : Ended) → Halts board seat causes.Memory end seat' → Leaves p board boxes end (record t { shard = new }) seat'
    runs_out new me left seat' end h =
        halts_with new me a.shard_record left t.taker a.taker t.posters a.posters (some_mail p t.taker.taken t.posters.items a.shard_record a.mail) a.calls seat seat' causes.Memory end h seat.view refl (λ _. a.mail)
        (sat_memory p t.shard.me t.budget seat.view a.shard_record own a.sits)

    -- ---- a node is pruned or visited

    pub none_waits_here : (0 < length a.shard_record.waiting → ⊥) → (b : Acts p board boxes t seat) × HasHandled a.shard_record b.shard_record
    none_waits_here none = (a, record { handled = λ n rest e. absurd (none (some_wait a.shard_record.waiting n rest e)); rows = refl })

    pub prunes : (new : Shard A B) → new.me ≡ t.shard.me → (best : ℕ) → IsPruning p best a.shard_record new → IsBestFor seat.view best → (seat' : SeatFacts) → IsSeatOf board seat' → seat'.view ≡ after_look seat.view best
        → (b : Acts p board boxes (record t { shard = new }) seat') × HasHandled a.shard_record b.shard_record
    prunes new me best is least seat' on view =
        let r = prune a.shard_record is.node is.rest best in (
          goes_on new me r is.stands t.taker a.taker t.posters a.posters (same_mail r refl refl) t.calling (same_calls r refl refl) seat' on
              (subst (λ (v : View). Sits p t.budget v r) (sym view) (sits_pruned p t.budget seat.view a.shard_record is.node is.rest best a.sits least)),
          record { handled = λ n rest e. same_rest is.node n is.rest rest (sym is.can.first ∙ e); rows = refl },
        )

    -- the calls when the node was visited, before a further call
    visit_can : (new : Shard A B) (j best : ℕ) (offer : Option ℕ) → j ≡ t.shard.me → (is : IsVisit p j best a.shard_record offer new) → CanVisit p t.shard.me a.shard_record is.layer is.node is.rest is.made is.prunes new.held None
    visit_can new j best offer same is = subst (λ (k : ℕ). CanVisit p k a.shard_record is.layer is.node is.rest is.made is.prunes new.held None) same is.can

    visits_with : (new : Shard A B) → new.me ≡ t.shard.me → (j best number : ℕ) (offer : Option ℕ) → (is : IsVisit p j best a.shard_record offer new) → (calling : Option Calling)
        → CallsFor p t.shard.me (visit a.shard_record is.layer is.node is.rest is.made is.prunes new.held None) calling → (drawn : SeatFacts) → Drew board seat best number drawn → number < t.budget
        → (seat' : SeatFacts) → IsSeatOf board seat' → (offered : ℕ) → seat'.view ≡ record (drawn_at seat.view best number) { offered = offered } → IsOfferOf p offered new.held
        → (b : Acts p board boxes (record t { shard = new; calling = calling }) seat') × HasHandled a.shard_record b.shard_record
    visits_with new me j best number offer is calling calls drawn d lt seat' on offered view offers =
        let r = visit a.shard_record is.layer is.node is.rest is.made is.prunes new.held None in (
          goes_on new me r is.stands t.taker a.taker t.posters a.posters (same_mail r refl refl) calling calls seat' on
              (subst (λ (v : View). Sits p t.budget v r) (sym view)
              (sits_visited p t.budget seat.view a.shard_record best number a.sits d.least d.count lt is.layer is.node is.rest is.made is.prunes is.by_best new.held offered offers)),
          record { handled = λ n rest e. same_rest is.node n is.rest rest (sym is.can.first ∙ e); rows = refl },
        )

    pub visits : (new : Shard A B) → new.me ≡ t.shard.me → (j best number : ℕ) → j ≡ t.shard.me → IsVisit p j best a.shard_record None new → (drawn : SeatFacts) → Drew board seat best number drawn → number < t.budget
        → (b : Acts p board boxes (record t { shard = new }) drawn) × HasHandled a.shard_record b.shard_record
    visits new me j best number same is drawn d lt =
        visits_with new me j best number None is t.calling (calls_visited p t.shard.me a.shard_record is.layer is.node is.rest is.made is.prunes new.held None (visit_can new j best None same is) t.calling a.calls) drawn d lt drawn d.on_board seat.view.offered d.view (offered_after p seat.view.offered a.shard_record.held new.held a.sits.offered is.offer_is)

    pub visits_news : (new : Shard A B) → new.me ≡ t.shard.me → (j best number word : ℕ) → j ≡ t.shard.me → word ≤ no_word → IsVisit p j best a.shard_record (Some word) new → (drawn : SeatFacts) → Drew board seat best number drawn → number < t.budget
        → (seat' : SeatFacts) → IsSeatOf board seat' → seat'.view ≡ after_offer drawn.view word → (calling : Option Calling) → HasCalled new.held t.calling calling
        → (b : Acts p board boxes (record t { shard = new; calling = calling }) seat') × HasHandled a.shard_record b.shard_record
    visits_news new me j best number word same fits is drawn d lt seat' on view calling called =
        visits_with new me j best number (Some word) is calling
        (calls_now p t.shard.me a.shard_record is.layer is.node is.rest is.made is.prunes new.held None (visit_can new j best (Some word) same is)
        (subst (λ (k : ℕ). Own p k (visit a.shard_record is.layer is.node is.rest is.made is.prunes new.held None)) me is.stands.ends.1.own) t.calling calling a.calls called) drawn d lt seat' on (min seat.view.offered word) (view ∙ ap (λ (v : View). after_offer v word) d.view)
        (offered_news p seat.view.offered word a.shard_record.held new.held fits a.sits.offered is.offer_is)

    -- before a number was drawn, and after it, the shard may call
    pub calls_may : MayCall t.calling
    calls_may = may_call p t.shard.me a.shard_record t.calling a.calls (few_so seat.view.drawn seat.view.top t.budget seat.view.limit board.limit (length a.shard_record.visits) a.sits.drawn a.sits.drawn_below a.sits.top a.sits.limit a.on_board.2 a.shared.limit)
      where
        few_so : (drawn top budget own limit visits : ℕ) → drawn ≡ visits → drawn ≤ top → top ≤ budget → own ≡ budget → own ≡ limit → limit ≤ 2 ^ 40 → visits ≤ 2 ^ 40
        few_so drawn top budget own limit visits a b c d e f = omega (arith, a, b, c, d, e, f)

    -- ---- a halt after a number was drawn for a node that waits

    module _ (waits : 0 < length a.shard_record.waiting) (best number : ℕ) (drawn : SeatFacts) (d : Drew board seat best number drawn) (seat' : SeatFacts) (end : Ended) where
      room : length a.shard_record.visits + 1 ≤ length (row_pairs 0 a.shard_record.rows)
      room = waits_kept p t.shard a.shard_record a.stands waits

      pub spends : t.budget ≤ number → Halts board drawn causes.Budget end seat' → Leaves p board boxes end t seat'
      spends le h =
          halts_with t.shard refl a.shard_record a.stands.ends t.taker a.taker t.posters a.posters (some_mail p t.taker.taken t.posters.items a.shard_record a.mail) a.calls drawn seat' causes.Budget end h (drawn_at seat.view best number) d.view (λ _. a.mail)
          (sat_budget p t.shard.me t.budget seat.view a.shard_record own a.sits best number d.least d.count room le)

      pub loses : (new : Shard A B) → new.me ≡ t.shard.me → number < t.budget → EndsAs p new a.shard_record → Halts board drawn causes.Memory end seat' → Leaves p board boxes end (record t { shard = new }) seat'
      loses new me lt left h =
          halts_with new me a.shard_record left t.taker a.taker t.posters a.posters (some_mail p t.taker.taken t.posters.items a.shard_record a.mail) a.calls drawn seat' causes.Memory end h (drawn_at seat.view best number) d.view (λ _. a.mail)
          (sat_drawn p t.shard.me t.budget seat.view a.shard_record own a.sits best number d.least d.count room lt)

      pub faults : (new : Shard A B) → new.me ≡ t.shard.me → number < t.budget → (j : ℕ) → j ≡ t.shard.me → (fault : SpotFault) → IsFaulted p j a.shard_record fault new → Halts board drawn causes.Fault end seat' → Leaves p board boxes end (record t { shard = new }) seat'
      faults new me lt j same fault is h =
          let r = visit a.shard_record is.layer is.node is.rest [] [] a.shard_record.held (Some is.met) in
          halts_with new me r is.ends t.taker a.taker t.posters a.posters (some_mail p t.taker.taken t.posters.items r (same_mail r refl refl))
          (calls_visited p t.shard.me a.shard_record is.layer is.node is.rest [] [] a.shard_record.held (Some is.met) (subst (λ (k : ℕ). CanVisit p k a.shard_record is.layer is.node is.rest [] [] a.shard_record.held (Some is.met)) same is.can) t.calling a.calls) drawn seat' causes.Fault end h (drawn_at seat.view best number) d.view (λ _. same_mail r refl refl)
          (sat_fault p t.shard.me t.budget seat.view a.shard_record own a.sits best number d.least d.count room lt is.layer is.node is.rest is.met)

    -- ---- a letter is taken

    pub own_box : (b : MailboxFacts) → b ≡ get_or boxes t.shard.me b → slice_get boxes t.shard.me ≡ Some b
    own_box b read = slice_get_read boxes p.shards t.shard.me b (sym a.shared.long) a.stands.belongs.below read

    pub takes_none : (taker : TakerFacts Envelope) → taker ≡ t.taker → (b : Acts p board boxes (record t { taker = taker }) seat) × HasTaken a.shard_record b.shard_record
    takes_none taker is = subst (λ (k : TakerFacts Envelope). (b : Acts p board boxes (record t { taker = k }) seat) × HasTaken a.shard_record b.shard_record) (sym is) (a, inl refl)

    module _ (b : MailboxFacts) (at : slice_get boxes t.shard.me ≡ Some b) (x : Envelope) (next : IsNextFor models.the_row.coded are_lawful sender_of t.taker x) where
      pub may_take : CanTake p a.shard_record x.letter
      may_take =
          can_take p t.taker.taken t.posters.items a.shard_record a.mail t.taker x refl (ap (λ (m : MailboxFacts). m.senders) (a.taker.of_box b at) ∙ a.shared.senders t.shard.me b at) a.taker.terms next

      took : (taker : TakerFacts Envelope) → taker ≡ taken_by t.taker x → IsTakerFor p boxes t.shard.me taker
      took taker is =
          record {
            of_box = λ c box. ap (λ (f : TakerFacts Envelope). f.mailbox) is ∙ a.taker.of_box c box;
            terms = ap (λ (f : TakerFacts Envelope). f.terms) is ∙ a.taker.terms;
          }

      pub takes : (taker : TakerFacts Envelope) → taker ≡ taken_by t.taker x → (new : Shard A B) → new.me ≡ t.shard.me → Stands p new (take a.shard_record x.letter)
          → (b : Acts p board boxes (record t { shard = new; taker = taker }) seat) × HasTaken a.shard_record b.shard_record
      takes taker is new me st =
          let r = take a.shard_record x.letter in (
            goes_on new me r st taker (took taker is) t.posters a.posters
                (subst (λ (xs : List Envelope). HasAllMail p xs t.posters.items r) (sym (ap (λ (f : TakerFacts Envelope). f.taken) is)) (takes_mail p t.taker.taken t.posters.items a.shard_record a.mail x own.sizes.0 may_take.from)) t.calling (same_calls r refl refl) seat a.on_board
                (sits_same p t.budget seat.view a.shard_record r refl refl refl a.sits),
            inr (x.letter, refl),
          )

      -- it was taken in vain
      pub takes_in_vain : (taker : TakerFacts Envelope) → taker ≡ taken_by t.taker x → (new : Shard A B) → new.me ≡ t.shard.me → EndsAs p new a.shard_record → (seat' : SeatFacts) (end : Ended) → Halts board seat causes.Memory end seat' → Leaves p board boxes end (record t { shard = new; taker = taker }) seat'
      takes_in_vain taker is new me left seat' end h =
          halts_with new me a.shard_record left taker (took taker is) t.posters a.posters
          (subst (λ (xs : List Envelope). HasSomeMail p xs t.posters.items a.shard_record) (sym (ap (λ (f : TakerFacts Envelope). f.taken) is)) (vain_mail p t.taker.taken t.posters.items a.shard_record a.mail x)) a.calls seat seat' causes.Memory end h seat.view refl (λ had. absurd (had refl))
          (sat_memory p t.shard.me t.budget seat.view a.shard_record own a.sits)

    -- ---- nothing is posted

    pub rests : (new : Shard A B) → new.me ≡ t.shard.me → Stands p new a.shard_record → IsQuiet p t.shard.me a.shard_record
        → (b : Acts p board boxes (record t { shard = new }) seat) × HasPostedNext p t.shard.me a.shard_record false b.shard_record
    rests new me st quiet = (goes_on new me a.shard_record st t.taker a.taker t.posters a.posters a.mail t.calling a.calls seat a.on_board a.sits, record { posted = record { waiting = refl; rows = refl }; quiet = λ _. quiet })

    -- ---- a letter is posted

    module _ (to : ℕ) (x : Letter) (new : Shard A B) (is : IsPosting p t.shard.me a.shard_record to x new) where
      posted_now : ShardRecord
      posted_now = post a.shard_record to x is.rest

      within : to < length a.shard_record.posted
      within = subst (λ (n : ℕ). to < n) (sym own.sizes.1) is.can.receiver

      -- the letter is signed by the shard before and after, so it has its number
      pub same_number : new.me ≡ t.shard.me
      same_number =
          sym (is.stands.ends.1.own.sends.signed to x (subst (λ (xs : List Letter). Has xs x) (sym (append_same a.shard_record.posted to x within)) (has_last (of a.shard_record.posted to) x)))
          ∙ is.can.signed

      pub box_there : to < length boxes
      box_there = subst (λ (n : ℕ). to < n) (sym a.shared.long) is.can.receiver

      pub box_at : (b : MailboxFacts) → b ≡ get_or boxes to b → slice_get boxes to ≡ Some b
      box_at b read = slice_get_read boxes (length boxes) to b refl box_there read

      pub poster_there : to < length t.posters.items
      poster_there = subst (λ (n : ℕ). to < n) (sym a.posters.long) is.can.receiver

      pub poster_at : (q : PosterFacts Envelope) → q ≡ get_or t.posters.items to q → slice_get t.posters.items to ≡ Some q
      poster_at q read = slice_get_read t.posters.items (length t.posters.items) to q refl poster_there read

      module _ (b : MailboxFacts) (box : slice_get boxes to ≡ Some b) (q : PosterFacts Envelope) (at : slice_get t.posters.items to ≡ Some q) where
        pub poster_of : IsPosterOf b q
        poster_of = a.posters.of_box to b q box at

        pub poster_named : sender_of (enclosed x) ≡ q.number
        poster_named = is.can.signed ∙ sym (a.posters.number to q at)

        pub poster_lawful : LawfulUnder models.the_row.coded are_lawful q.terms (q.posted ++ enclosed x ∷ [])
        poster_lawful = may_post p t.posters.items to q at t.taker.taken a.shard_record x a.mail within (a.posters.terms to q at) (is.stands.ends.1.own.sends.lawful to)

        pub posts : (q' : PosterFacts Envelope) → q' ≡ posted_by q (enclosed x)
            → (b : Acts p board boxes (record t { shard = new; posters = with_item t.posters to q' }) seat) × HasPostedNext p t.shard.me a.shard_record true b.shard_record
        posts q' same =
            let r = post a.shard_record to x is.rest in (
              goes_on new same_number r is.stands t.taker a.taker (with_item t.posters to q')
                  (posters_with p t.posters.items to q at boxes t.shard.me a.posters q' (ap (λ (f : PosterFacts Envelope). f.mailbox) same) (ap (λ (f : PosterFacts Envelope). f.number) same) (ap (λ (f : PosterFacts Envelope). f.terms) same))
                  (posts_mail p t.posters.items to q at t.taker.taken a.shard_record x a.mail within is.rest q' same) t.calling (same_calls r refl refl) seat a.on_board (sits_same p t.budget seat.view a.shard_record r refl refl refl a.sits),
              record { posted = record { waiting = refl; rows = refl }; quiet = λ e. absurd (not_false e) },
            )

        -- it was handed out in vain
        pub posts_in_vain : (q' : PosterFacts Envelope) → q' ≡ q → (seat' : SeatFacts) (end : Ended) → Halts board seat causes.Memory end seat' → Leaves p board boxes end (record t { shard = new; posters = with_item t.posters to q' }) seat'
        posts_in_vain q' same seat' end h =
            let r = post a.shard_record to x is.rest in
            halts_with new same_number r is.stands.ends t.taker a.taker (with_item t.posters to q')
            (posters_with p t.posters.items to q at boxes t.shard.me a.posters q' (ap (λ (f : PosterFacts Envelope). f.mailbox) same) (ap (λ (f : PosterFacts Envelope). f.number) same) (ap (λ (f : PosterFacts Envelope). f.terms) same))
            (kept_mail p t.posters.items to q at t.taker.taken a.shard_record x a.mail within is.rest q' same) (same_calls r refl refl) seat seat' causes.Memory end h seat.view refl (λ had. absurd (had refl))
            (sat_memory p t.shard.me t.budget seat.view r (subst (λ (i : ℕ). Own p i r) same_number is.stands.ends.1.own) (sits_same p t.budget seat.view a.shard_record r refl refl refl a.sits))

  -- ---- the counts of turns and of letters, and why it has ended, change nothing of the rest

  abbrev pub turned : (p : Pass) (board : BoardFacts) (boxes : List MailboxFacts) (t : Turner A B) (seat : SeatFacts) → Acts p board boxes t seat → (turns : ℕ) → Acts p board boxes (record t { turns = turns }) seat
  turned p board boxes t seat a turns =
      record { shard_record = a.shard_record; shared = a.shared; stands = a.stands; on_board = a.on_board; sits = a.sits; taker = a.taker; posters = a.posters; mail = a.mail; calls = a.calls }

  -- a shard that has ended leaves the same when it has let go of what it does not hand back
  pub left_gone : (p : Pass) (board : BoardFacts) (boxes : List MailboxFacts) (t : Turner A B) (seat : SeatFacts) (end : Ended) (left : Leaves p board boxes end t seat) (new : Shard A B) → new.me ≡ t.shard.me → EndsAs p new left.shard_record → (ended : Option Ended)
      → Leaves p board boxes end (record t { shard = new; ended = ended }) seat
  left_gone p board boxes t seat end left new me ends ended =
      record {
        shard_record = left.shard_record;
        below = subst (λ (i : ℕ). i < p.shards) (sym me) left.below;
        ends = ends;
        on_board = left.on_board;
        sat = subst (λ (i : ℕ). Sat p i end seat.view left.shard_record) (sym me) left.sat;
        taker = subst (λ (i : ℕ). IsTakerFor p boxes i t.taker) (sym me) left.taker;
        posters = subst (λ (i : ℕ). ArePostersFor p boxes i t.posters.items) (sym me) left.posters;
        mail = left.mail;
        all_mail = left.all_mail;
        calls = subst (λ (i : ℕ). CallsFor p i left.shard_record t.calling) (sym me) left.calls;
      }

  abbrev pub counted : (p : Pass) (board : BoardFacts) (boxes : List MailboxFacts) (t : Turner A B) (seat : SeatFacts) → Acts p board boxes t seat → (letters : ℕ) → Acts p board boxes (record t { letters = letters }) seat
  counted p board boxes t seat a letters =
      record { shard_record = a.shard_record; shared = a.shared; stands = a.stands; on_board = a.on_board; sits = a.sits; taker = a.taker; posters = a.posters; mail = a.mail; calls = a.calls }

  pub left_counted : (p : Pass) (board : BoardFacts) (boxes : List MailboxFacts) (t : Turner A B) (seat : SeatFacts) (end : Ended) → Leaves p board boxes end t seat → (letters : ℕ) → Leaves p board boxes end (record t { letters = letters }) seat
  left_counted p board boxes t seat end left letters =
      record { shard_record = left.shard_record; below = left.below; ends = left.ends; on_board = left.on_board; sat = left.sat; taker = left.taker; posters = left.posters; mail = left.mail; all_mail = left.all_mail; calls = left.calls }
