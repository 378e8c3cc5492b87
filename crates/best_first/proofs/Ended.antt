-- What the shards of a search left when no thread turned them any more: a record of each, and these are together. Where all rest and
-- all letters were taken, the search closed.
use Rattle.std.proofs.Common.{◌≡◌, ℕ, ◌+◌, ◌<◌, ◌≤◌, ◌⊎◌, inl, inr, zero, suc, Bool, true, false, List, [], ◌∷◌, ◌++◌, length, slice_get, Option, Some, None, refl, sym, ap, subst, ◌∙◌, arith}
use Rattle.std.proofs.lemmas.Bool.{cases_lt}
use Rattle.std.proofs.lemmas.List.{append_assoc, map-append, length-map, get_or_append_left, get_or_at, length_push}
use Rattle.std.proofs.lemmas.Option.{slice_get_within}
use mathlib.Core.List as lists
use Rattle.best_first.specs.Alone.{AreResting, CanGoOn, HasOneStopped, HasStopped}
use Rattle.best_first.specs.Crews.{KeepAll, seats_of}
use Rattle.best_over.specs.Lefts.{HaveClosed, HaveHalted, HaveLeft}
use Rattle.best_first.specs.Mails.{Posters}
use Rattle.best_first.specs.Rooms.{AreAllTaken, AreApart, AreBegun, AreFull, AreOfBoxes, IsRoomFor}
use Rattle.best_first.specs.declared.room.Room.{Room}
use Rattle.best_first.proofs.Places.{at_mapped, map_at, same_at}
use Rattle.best_over.proofs.Places.{there}
use Rattle.best_ledger.specs.Histories.{came_from, to, visits_in}
use Rattle.best_ledger.specs.Records.{Done, IsPrefix, Own, blank, record_of}
use Rattle.best_ledger.specs.declared.letters.BestLetter.{BestLetter}
use Rattle.best_ledger.specs.declared.records.BestRecord.{BestRecord}
use Rattle.best_shard.specs.Calls.{IsEnd}
use Rattle.best_shard.specs.Stands.{EndsAs, Stands}
use Rattle.best_turns.specs.Envelopes.{letters_in, sender_of, taken_from}
use Rattle.best_seats.specs.Seats.{Sat}
use Rattle.best_turns.specs.Turners.{Acts, IsTakerFor, ArePostersFor, KeepsAs, Leaves, HasAllMail, HasSomeMail}
use Rattle.best_turns.specs.declared.envelope.BestEnvelope.{BestEnvelope}
use Rattle.best_seats.specs.declared.ended.BestEnded.{BestEnded}
use Rattle.best_seats.specs.declared.ended.BestEnded.TheVariants as endings
use Rattle.best_turns.specs.declared.turner.BestTurner.{BestTurner}
use Rattle.best_turns.proofs.Mail.{some_mail}
use Rattle.board_words.specs.Causes.{halt_number}
use Rattle.board_words.specs.Seats.{BoardFacts, SeatFacts, IsSeatOf}
use Rattle.board_words.specs.declared.halt.HaltCause.{HaltCause}
use Rattle.board_words.specs.declared.halt.HaltCause.TheVariants as halts
use Rattle.board_words.specs.declared.seat.View.{View}
use Rattle.pass_ledger.specs.Passes.{Pass}
use Rattle.shard_mail.specs.Ends.{MailboxFacts, PosterFacts, TakerFacts, IsTakerOf}
use Rattle.shard_mail.specs.Mails.{letters_of}
use Rattle.shard_threads.specs.declared.seated.Seated.{Seated}

-- ---- a list of records from one for each number

module _ (P : ℕ → BestRecord → Type 0) where
  longer : (m : ℕ) (rs : List BestRecord) (r : BestRecord) → length rs ≡ m → length (rs ++ r ∷ []) ≡ suc m
  longer m rs r e = let a = length_push rs r in omega (arith, a, e)

  each_of : (m : ℕ) (rs : List BestRecord) (r : BestRecord) → length rs ≡ m → ((i : ℕ) → i < m → P i (record_of rs i)) → P m r → (i : ℕ) → i < suc m → P i (record_of (rs ++ r ∷ []) i)
  each_of m rs r e old new i lt =
      elim (cases_lt i m) [
        | inl less ↦ subst (P i) (sym (get_or_append_left rs (r ∷ []) blank i (omega (arith, less, e)))) (old i less)
        | inr ge ↦ (let same : m ≡ i = omega (arith, ge, lt) in subst (λ (k : ℕ). P k (record_of (rs ++ r ∷ []) k)) same (subst (P m) (sym (get_or_at rs r [] blank m e)) new))
      ]

  pub tabulated : (n : ℕ) → ((i : ℕ) → i < n → (r : BestRecord) × P i r) → (records : List BestRecord) × (length records ≡ n) × ((i : ℕ) → i < n → P i (record_of records i))
  tabulated zero each = ([], refl, λ i lt. absurd (omega (arith, lt)))
  tabulated (suc n) each =
      let first = tabulated n (λ i lt. each i (omega (arith, lt))) in
      let last = each n (omega arith) in
      (first.0 ++ last.0 ∷ [], longer n first.0 last.0 first.1, each_of n first.0 last.0 first.1 first.2 last.1)

-- ---- lists of letters that begin others

prefix_trans : (xs ys zs : List BestLetter) → IsPrefix xs ys → IsPrefix ys zs → IsPrefix xs zs
prefix_trans xs ys zs a b = (a.0 ++ b.0, sym (append_assoc xs a.0 b.0) ∙ (ap (λ (l : List BestLetter). l ++ b.0) a.1 ∙ b.1))

prefix_in : (xs ys : List BestEnvelope) → lists.IsPrefix xs ys → IsPrefix (letters_in xs) (letters_in ys)
prefix_in xs ys h = (letters_in h.0, sym (map-append (λ (e : BestEnvelope). e.letter) xs h.0) ∙ ap letters_in h.1)

-- What was received of a shard begins what was taken of it, this begins what its poster posted, and this what it posted.
begun_by : (j : ℕ) (taker : TakerFacts BestEnvelope) (taken : List BestEnvelope) (q : PosterFacts BestEnvelope) → taker.taken ≡ taken → q.number ≡ j → lists.IsPrefix (letters_of sender_of q.number taker.taken) q.posted → lists.IsPrefix (letters_of sender_of j taken) q.posted
begun_by j taker taken q same number h =
    subst (λ (xs : List BestEnvelope). lists.IsPrefix (letters_of sender_of j xs) q.posted) same (subst (λ (n : ℕ). lists.IsPrefix (letters_of sender_of n taker.taken) q.posted) number h)

chained : (j : ℕ) (taken : List BestEnvelope) (q : PosterFacts BestEnvelope) (received posted : List BestLetter) → IsPrefix received (taken_from j taken) → lists.IsPrefix (letters_of sender_of j taken) q.posted → IsPrefix (letters_in q.posted) posted → IsPrefix received posted
chained j taken q received posted a b c =
    prefix_trans received (taken_from j taken) posted a (prefix_trans (taken_from j taken) (letters_in q.posted) posted (prefix_in (letters_of sender_of j taken) q.posted b) c)

-- ---- what one shard left

-- the shard could go on: it stands for the record, and all its letters are told by its ends of the mailboxes
pub record GoesOn {A B : Type 0} (p : Pass) (s : Seated (BestTurner A B)) (r : BestRecord) : Type 0 where
  pub stands : Stands p s.player.shard r
  pub late : s.seat.view.late ≡ 0
  pub drawn : s.seat.view.drawn ≡ length (visits_in r.history)
  pub mail : HasAllMail p s.player.taker.taken s.player.posters.items r

abbrev pub Halts : View → Type 0
Halts v = 0 < v.raised + v.met

pub record LeftOf {A B : Type 0} (p : Pass) (boxes : List MailboxFacts) (shards : List (Seated (BestTurner A B))) (i : ℕ) (r : BestRecord) : Type 0 where
  pub seated : Seated (BestTurner A B)
  pub end : BestEnded
  pub there_is : slice_get shards i ≡ Some seated
  pub me : seated.player.shard.me ≡ i
  pub own : Own p i r
  pub ends : EndsAs p seated.player.shard r
  pub sat : Sat p end seated.seat.view r
  pub taker : IsTakerFor p boxes i seated.player.taker
  pub posters : ArePostersFor p boxes i seated.player.posters.items
  pub mail : HasSomeMail p seated.player.taker.taken seated.player.posters.items r
  pub halted : HasStopped seated.player.ended → Halts seated.seat.view
  pub goes_on : CanGoOn seated.player.ended → GoesOn p seated r

halt_some : (cause : HaltCause) → 0 < halt_number cause
halt_some halts.Budget = omega arith
halt_some halts.Memory = omega arith
halt_some halts.Fault = omega arith

by_cause : (cause : HaltCause) (raised met : ℕ) → raised ≡ halt_number cause → 0 < raised + met
by_cause cause raised met e = let some = halt_some cause in omega (arith, e, some)

by_met : (raised met : ℕ) → 0 < met → 0 < raised + met
by_met raised met lt = omega (arith, lt)

few_by : (a b c : ℕ) → a ≡ b → a ≤ b + c
few_by a b c e = omega (arith, e)

module _ {A B : Type 0} (p : Pass) (board : BoardFacts) (boxes : List MailboxFacts) (shards : List (Seated (BestTurner A B))) (keep : KeepAll p board boxes shards) where
  -- a shard that could go on leaves the record for which it stands
  acts_left : (t : BestTurner A B) (seat : SeatFacts) → Acts p board boxes t seat → Leaves p board boxes endings.Idle t seat
  acts_left t seat a = record {
    shard_record = a.shard_record;
    below = a.stands.follows.belongs.below;
    ends = a.stands.follows.ends;
    on_board = a.on_board;
    sat = record {
      part = a.sits.part;
      offered = a.sits.offered;
      seen = a.sits.seen;
      few_drawn = few_by seat.view.drawn (length (visits_in a.shard_record.history)) (length a.shard_record.waiting) a.sits.drawn;
      cause = (a.sits.raised, a.sits.late);
    };
    taker = a.taker;
    posters = a.posters;
    mail = some_mail p t.taker.taken t.posters.items a.shard_record a.mail;
  }

  left_by : (i : ℕ) (s : Seated (BestTurner A B)) (end : BestEnded) → slice_get shards i ≡ Some s → (l : Leaves p board boxes end s.player s.seat)
      → (HasStopped s.player.ended → Halts s.seat.view) → (CanGoOn s.player.ended → GoesOn p s l.shard_record) → (r : BestRecord) × LeftOf p boxes shards i r
  left_by i s end at l halted goes_on =
      let me = keep.numbers i s at in (
        l.shard_record,
        record {
          seated = s;
          end = end;
          there_is = at;
          me = me;
          own = subst (λ (n : ℕ). Own p n l.shard_record) me l.ends.1.own;
          ends = l.ends;
          sat = l.sat;
          taker = subst (λ (n : ℕ). IsTakerFor p boxes n s.player.taker) me l.taker;
          posters = subst (λ (n : ℕ). ArePostersFor p boxes n s.player.posters.items) me l.posters;
          mail = l.mail;
          halted = halted;
          goes_on = goes_on;
        },
      )

  left_acts : (i : ℕ) (s : Seated (BestTurner A B)) → slice_get shards i ≡ Some s → Acts p board boxes s.player s.seat → (HasStopped s.player.ended → ⊥) → (r : BestRecord) × LeftOf p boxes shards i r
  unfolding acts_left
  left_acts i s at a on =
      left_by i s endings.Idle at (acts_left s.player s.seat a) (λ stopped. absurd (on stopped))
      (λ goes. record { stands = a.stands; late = a.sits.late; drawn = a.sits.drawn; mail = a.mail })

  left_as : (i : ℕ) (s : Seated (BestTurner A B)) → slice_get shards i ≡ Some s → (o : Option BestEnded) → s.player.ended ≡ o → KeepsAs p board boxes o s.player s.seat → (r : BestRecord) × LeftOf p boxes shards i r
  left_as i s at None e a = left_acts i s at a (λ stopped. subst HasStopped e stopped)
  left_as i s at (Some endings.Idle) e a = left_acts i s at a (λ stopped. subst HasStopped e stopped)
  left_as i s at (Some endings.Met) e l =
      left_by i s endings.Met at l (λ stopped. by_met s.seat.view.raised s.seat.view.met l.sat.cause.2) (λ goes. absurd (subst CanGoOn e goes))
  left_as i s at (Some (endings.Halted cause)) e l =
      left_by i s (endings.Halted cause) at l (λ stopped. by_cause cause s.seat.view.raised s.seat.view.met l.sat.cause.0) (λ goes. absurd (subst CanGoOn e goes))

  pub left_of : (i : ℕ) → i < p.shards → (r : BestRecord) × LeftOf p boxes shards i r
  left_of i lt =
      let s = there shards i (let a = keep.long in omega (arith, a, lt)) in
      left_as i s.0 s.1 s.0.player.ended refl (keep.each i s.0 s.1)

  -- the seat of each is of the board
  on_as : (o : Option BestEnded) (t : BestTurner A B) (seat : SeatFacts) → KeepsAs p board boxes o t seat → IsSeatOf board seat
  on_as None t seat a = a.on_board
  on_as (Some endings.Idle) t seat a = a.on_board
  on_as (Some endings.Met) t seat l = l.on_board
  on_as (Some (endings.Halted cause)) t seat l = l.on_board

  pub seats_on : (seats : List SeatFacts) → seats ≡ seats_of shards → (i : ℕ) (x : SeatFacts) → slice_get seats i ≡ Some x → IsSeatOf board x
  seats_on seats same i x at =
      let s = at_mapped (λ (y : Seated (BestTurner A B)). y.seat) shards i x (ap (λ (ys : List SeatFacts). slice_get ys i) (sym same) ∙ at) in
      subst (IsSeatOf board) s.2 (on_as s.0.player.ended s.0.player s.0.seat (keep.each i s.0 s.1))

  -- of the shard at a place
  left_at : (i : ℕ) (s : Seated (BestTurner A B)) → slice_get shards i ≡ Some s → (r : BestRecord) × LeftOf p boxes shards i r
  left_at i s at = left_of i (let a = slice_get_within shards i s at in let b = keep.long in omega (arith, a, b))

  pub are_full : AreFull shards
  are_full i s at =
      let l = (left_at i s at).1 in
      let same = ap (λ (x : Seated (BestTurner A B)). length x.player.posters.items) (same_at shards i s l.seated at l.there_is) in
      same ∙ (l.posters.long ∙ sym keep.long)

  module _ (room : Room) (apart : AreApart shards room) (fits : IsRoomFor (length shards) (length shards) room) where
    pub of_boxes : AreOfBoxes boxes room.takers.items room.posters.items
    of_boxes = record {
      takers_long = fits.takers_long ∙ (keep.long ∙ sym keep.boxes_long);
      posters_long = fits.posters_long ∙ (keep.long ∙ sym keep.boxes_long);
      takers_of = λ k b t at here.
          let l = (left_of k (box_within k b at)).1 in
          subst (IsTakerOf b) (sym (apart.takers k l.seated t l.there_is here)) (l.taker.of_box b at);
      posters_of = λ k b row at row_at i q here.
          let u = there shards i (let a = slice_get_within row.items i q here in let c = fits.posters_room.held_are k row row_at in omega (arith, a, c)) in
          let l = (left_at i u.0 u.1).1 in
          l.posters.of_box k b q at (apart.posters i k l.seated row q l.there_is row_at here);
    }
      where
        box_within : (k : ℕ) (b : MailboxFacts) → slice_get boxes k ≡ Some b → k < p.shards
        box_within k b at = let a = slice_get_within boxes k b at in let c = keep.boxes_long in omega (arith, a, c)

    -- the taker of one shard, and the poster of its mailbox that another had
    record MailEnds (i j : ℕ) (receiver sender : Seated (BestTurner A B)) : Type 0 where
      pub taker : TakerFacts BestEnvelope
      pub row : Posters
      pub poster : PosterFacts BestEnvelope
      pub taker_at : slice_get room.takers.items i ≡ Some taker
      pub row_at : slice_get room.posters.items i ≡ Some row
      pub poster_at : slice_get row.items j ≡ Some poster
      pub taken : taker.taken ≡ receiver.player.taker.taken
      pub own : slice_get sender.player.posters.items i ≡ Some poster

    ends_of : (i j : ℕ) (a b : BestRecord) → i < p.shards → j < p.shards → (t : LeftOf p boxes shards i a) (f : LeftOf p boxes shards j b) → MailEnds i j t.seated f.seated
    ends_of i j a b lt below t f =
        let taker = there room.takers.items i (let x = fits.takers_long in let y = keep.long in omega (arith, x, y, lt)) in
        let row = there room.posters.items i (let x = fits.posters_long in let y = keep.long in omega (arith, x, y, lt)) in
        let q = there row.0.items j (let x = fits.posters_room.held_are i row.0 row.1 in let y = keep.long in omega (arith, x, y, below)) in
        record {
          taker = taker.0;
          row = row.0;
          poster = q.0;
          taker_at = taker.1;
          row_at = row.1;
          poster_at = q.1;
          taken = ap (λ (x : TakerFacts BestEnvelope). x.taken) (apart.takers i t.seated taker.0 t.there_is taker.1);
          own = apart.posters j i f.seated row.0 q.0 f.there_is row.1 q.1;
        }

    module _ (begun : AreBegun room.takers.items room.posters.items) where
      prefix_of : (i j : ℕ) (a b : BestRecord) → i < p.shards → j < p.shards → LeftOf p boxes shards i a → LeftOf p boxes shards j b → IsPrefix (came_from j a.history) (to b.posted i)
      prefix_of i j a b lt below t f =
          let e = ends_of i j a b lt below t f in
          chained j t.seated.player.taker.taken e.poster (came_from j a.history) (to b.posted i) (t.mail.received j below)
          (begun_by j e.taker t.seated.player.taker.taken e.poster e.taken (f.posters.number i e.poster e.own) (begun i e.taker e.row e.taker_at e.row_at j e.poster e.poster_at)) (f.mail.posted i e.poster e.own)

      module _ (resting all_taken lost : Bool) (rest : resting ≡ true → AreResting shards) (stopped : resting ≡ false → HasOneStopped shards) (all : all_taken ≡ true → AreAllTaken room.takers.items room.posters.items) (known : lost ≡ false → resting ≡ true → all_taken ≡ true) where
        -- what came is all that was posted
        arrived : (i j : ℕ) (a b : BestRecord) → AreResting shards → AreAllTaken room.takers.items room.posters.items → i < p.shards → j < p.shards → LeftOf p boxes shards i a → LeftOf p boxes shards j b → came_from j a.history ≡ to b.posted i
        arrived i j a b idle taken lt below t f =
            let e = ends_of i j a b lt below t f in
            let x = t.goes_on (idle i t.seated t.there_is).goes_on in
            let y = f.goes_on (idle j f.seated f.there_is).goes_on in
            let number = f.posters.number i e.poster e.own in
            let whole : letters_of sender_of j t.seated.player.taker.taken ≡ e.poster.posted
            = subst (λ (xs : List BestEnvelope). letters_of sender_of j xs ≡ e.poster.posted) e.taken (subst (λ (n : ℕ). letters_of sender_of n e.taker.taken ≡ e.poster.posted) number (taken i e.taker e.row e.taker_at e.row_at j e.poster e.poster_at)) in
            x.mail.received j below ∙ (ap letters_in whole ∙ y.mail.posted i e.poster e.own)

        is_done : (i : ℕ) (r : BestRecord) → AreResting shards → LeftOf p boxes shards i r → Done r
        is_done i r idle l =
            let at_rest = idle i l.seated l.there_is in
            let on = l.goes_on at_rest.goes_on in
            let none = at_rest.idle p r on.stands in
            record { idle = none.0; sent = none.1; fine = on.stands.follows.fine }

        module _ (records : List BestRecord) (each : (i : ℕ) → i < p.shards → LeftOf p boxes shards i (record_of records i)) where
          shard_of : (i : ℕ) (x : SeatFacts) → slice_get (seats_of shards) i ≡ Some x → (l : LeftOf p boxes shards i (record_of records i)) × (l.seated.seat ≡ x)
          shard_of i x at =
              let s = at_mapped (λ (y : Seated (BestTurner A B)). y.seat) shards i x at in
              let l = each i (let a = slice_get_within shards i s.0 s.1 in let b = keep.long in omega (arith, a, b)) in
              (l, ap (λ (y : Seated (BestTurner A B)). y.seat) (same_at shards i l.seated s.0 l.there_is s.1) ∙ s.2)

          has_closed : AreResting shards → AreAllTaken room.takers.items room.posters.items → HaveClosed p (seats_of shards) records
          has_closed idle taken = record {
            done = λ i lt. is_done i (record_of records i) idle (each i lt);
            arrived = λ i j lt below. arrived i j (record_of records i) (record_of records j) idle taken lt below (each i lt) (each j below);
            late = λ i x at.
                let l = shard_of i x at in
                subst (λ (y : SeatFacts). y.view.late ≡ 0) l.1 (l.0.goes_on (idle i l.0.seated l.0.there_is).goes_on).late;
            drawn = λ i x at.
                let l = shard_of i x at in
                subst (λ (y : SeatFacts). y.view.drawn ≡ length (visits_in (record_of records i).history)) l.1 (l.0.goes_on (idle i l.0.seated l.0.there_is).goes_on).drawn;
          }

          has_halted : HasOneStopped shards → HaveHalted (seats_of shards)
          has_halted h =
              let at = map_at (λ (y : Seated (BestTurner A B)). y.seat) shards h.0 h.1 h.2 in
              let l = each h.0 (let a = slice_get_within shards h.0 h.1 h.2 in let b = keep.long in omega (arith, a, b)) in
              let same = same_at shards h.0 h.1 l.seated h.2 l.there_is in
              (h.0, h.1.seat, at, subst (λ (y : Seated (BestTurner A B)). Halts y.seat.view) (sym same) (l.halted (subst (λ (y : Seated (BestTurner A B)). HasStopped y.player.ended) same h.3)))

          fate_by : (t : Bool) → resting ≡ t → lost ≡ false → HaveHalted (seats_of shards) ⊎ HaveClosed p (seats_of shards) records
          fate_by true e none = inr (has_closed (rest e) (all (known none e)))
          fate_by false e none = inl (has_halted (stopped e))

        pub have_left : HaveLeft p (seats_of shards) room.ends.items room.logs.items lost
        have_left =
            let tables = tabulated (LeftOf p boxes shards) p.shards left_of in
            let each = tables.2 in
            record {
              records = tables.0;
              long = tables.1;
              seats_long = length-map shards (λ (y : Seated (BestTurner A B)). y.seat) ∙ keep.long;
              together = record {
                own = λ i lt. (each i lt).own;
                prefix = λ i j lt below. prefix_of i j (record_of tables.0 i) (record_of tables.0 j) lt below (each i lt) (each j below);
              };
              handed = record {
                ends_long = fits.ends_long ∙ keep.long;
                logs_long = fits.logs_long ∙ keep.long;
                each = λ i e log at here.
                    let l = each i (let a = slice_get_within room.ends.items i e at in let b = fits.ends_long in let c = keep.long in omega (arith, a, b, c)) in
                    subst (λ (n : ℕ). IsEnd p n (record_of tables.0 i) e log) l.me (apart.ends i l.seated e log l.there_is at here p (record_of tables.0 i) l.ends);
              };
              sat = λ i x at.
                  let l = shard_of tables.0 each i x at in
                  (l.0.end, subst (λ (y : SeatFacts). Sat p l.0.end y.view (record_of tables.0 i)) l.1 l.0.sat);
              fate = λ none. fate_by tables.0 each resting refl none;
            }
