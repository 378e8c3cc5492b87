-- The callers of the shards of a pass: how these get them, and what is known of them when each shard has ended.
use Rattle.std.proofs.Common.{◌≡◌, ℕ, ◌+◌, ◌≤◌, ◌<◌, inl, inr, zero, suc, List, [], ◌∷◌, ◌++◌, length, slice_get, slice_set, get_or, Option, Some, None, refl, sym, ap, subst, ◌∙◌, arith}
use Rattle.std.proofs.lemmas.Bool.{cases_eq, cases_lt}
use Rattle.std.proofs.lemmas.List.{length-set}
use Rattle.std.proofs.lemmas.Option.{none-some, slice_get_read, slice_get_within}
use Rattle.announce_laws.proofs.Calls.{called_law}
use Rattle.announce_laws.specs.Called.{AreCalled, WasRefused}
use Rattle.announcer.specs.Ends.{CallerFacts, QueueFacts, AreNewCallers, IsCallerOf, new_caller}
use Rattle.board_words.specs.Seats.{BoardFacts, SeatFacts}
use Rattle.pass_ledger.specs.Ledgers.{IsBest}
use Rattle.pass_ledger.specs.Passes.{Pass}
use Rattle.pass_ledger.specs.Records.{record_of, Together}
use Rattle.pass_ledger.specs.declared.records.ShardRecord.{ShardRecord}
use Rattle.shard_mail.specs.Ends.{MailboxFacts}
use Rattle.shard_threads.specs.declared.seated.Seated.{Seated}
use Rattle.shard_turns.specs.Calls.{IsCalling, CallsFor, queue_of}
use Rattle.shard_turns.specs.Turners.{Keeps, KeepsAs}
use Rattle.shard_turns.specs.declared.calling.Calling.{Calling}
use Rattle.shard_seats.specs.declared.ended.Ended.{Ended}
use Rattle.shard_turns.specs.declared.turner.Turner.{Turner}
use Rattle.pass_run.specs.Callers.{AreLastCallers, CallTo, HaveCalled, caller_list, callers_of}
use Rattle.pass_run.specs.Crews.{KeepAll}
use Rattle.pass_run.proofs.Places.{Begins, begins_last, begins_less, long_more, none_there, same_at, set_off, set_same}
use Rattle.pass_over.proofs.Places.{there}

-- ---- the callers of shards that call

module _ {A B : Type 0} where
  -- a shard for each caller
  abbrev AreFrom : List CallerFacts → List (Seated (Turner A B)) → Type 0
  AreFrom callers shards = (length callers ≡ length shards)
      × ((i : ℕ) (c : CallerFacts) → slice_get callers i ≡ Some c → (s : Seated (Turner A B)) × (d : Calling) × (slice_get shards i ≡ Some s) × (s.player.calling ≡ Some d) × (d.caller ≡ c))

  with_first : (queue : QueueFacts) (s : Seated (Turner A B)) (shards : List (Seated (Turner A B))) (o : Option Calling) → s.player.calling ≡ o → queue_of o ≡ Some queue → AreFrom (callers_of shards) shards → AreFrom (caller_list o ++ callers_of shards) (s ∷ shards)
  with_first queue s shards None is to rest = absurd (none-some queue to)
  with_first queue s shards (Some d) is to rest = (ap (λ (n : ℕ). suc n) rest.0, each)
    where
      same : (c : CallerFacts) → Some d.caller ≡ Some c → d.caller ≡ c
      same c e = cc

      each : (i : ℕ) (c : CallerFacts) → slice_get (d.caller ∷ callers_of shards) i ≡ Some c → (x : Seated (Turner A B)) × (e : Calling) × (slice_get (s ∷ shards) i ≡ Some x) × (x.player.calling ≡ Some e) × (e.caller ≡ c)
      each zero c at = (s, d, refl, is, same c at)
      each (suc i) c at = rest.1 i c at

  callers_from : (queue : QueueFacts) (shards : List (Seated (Turner A B))) → CallTo queue shards → AreFrom (callers_of shards) shards
  callers_from queue [] call = (refl, λ i c at. absurd (none_there i c at))
  callers_from queue (s ∷ shards) call = with_first queue s shards s.player.calling refl (call 0 s refl) (callers_from queue shards (λ i x at. call (suc i) x at))

  module _ (p : Pass) (queue : QueueFacts) (shards : List (Seated (Turner A B))) (records : List ShardRecord) (call : CallTo queue shards) (called : HaveCalled p records shards) where
    -- what is known of a caller
    known : (i : ℕ) (s : Seated (Turner A B)) (d : Calling) → slice_get shards i ≡ Some s → s.player.calling ≡ Some d → IsCalling p i (record_of records i) d
    known i s d at is = subst (CallsFor p i (record_of records i)) is (called i s at)

    of_queue : (i : ℕ) (s : Seated (Turner A B)) (d : Calling) → slice_get shards i ≡ Some s → s.player.calling ≡ Some d → IsCallerOf queue d.caller
    of_queue i s d at is =
        let h = (known i s d at is).caller in
        let same : d.caller.queue ≡ queue = one d.caller.queue queue (sym (ap queue_of is) ∙ call i s at) in
        (same, subst (λ (q : QueueFacts). d.caller.number < q.senders) (sym h.0 ∙ same) h.1)
      where
        one : (a b : QueueFacts) → Some a ≡ Some b → a ≡ b
        one a b e = cc

    pub last_callers : (before after : ℕ) → Together p records → IsBest p records before after → length shards ≡ p.shards → AreLastCallers p before after queue (callers_of shards)
    last_callers before after together best long =
        let from = callers_from queue shards call in
        record {
          records = records;
          together = together;
          best_is = best;
          callers_for = record {
            all = from.0 ∙ long;
            number = λ i c at. (let f = from.1 i c at in subst (λ (x : CallerFacts). x.number ≡ i) f.4 (known i f.0 f.1 f.2 f.3).number);
            called = λ i c at. (let f = from.1 i c at in subst (λ (x : CallerFacts). AreCalled p i (record_of records i) x.posted) f.4 (known i f.0 f.1 f.2 f.3).called);
            refused = λ i c at. (let f = from.1 i c at in subst (λ (x : CallerFacts). WasRefused p i (record_of records i) x.refused) f.4 (known i f.0 f.1 f.2 f.3).refused);
          };
          of_queue = λ i c at. (let f = from.1 i c at in subst (IsCallerOf queue) f.4 (of_queue i f.0 f.1 f.2 f.3));
        }

-- ---- shards that get their callers, the last one first

-- the shard is as before, and calls
pub record IsGiven {A B : Type 0} (queue : QueueFacts) (c : CallerFacts) (old new : Seated (Turner A B)) : Type 0 where
  pub calling : Calling
  pub queue_is : calling.queue.now ≡ queue
  pub caller_is : calling.caller ≡ c
  pub seated_is : new ≡ record old { player = record old.player { calling = Some calling } }

-- the first callers are left, and the others were given
pub record AreGiven {A B : Type 0} (queue : QueueFacts) (callers left : List CallerFacts) (old new : List (Seated (Turner A B))) : Type 0 where
  pub begins : Begins left callers
  pub long : length new ≡ length old
  pub few : length left ≤ length new
  pub same : (i : ℕ) (s : Seated (Turner A B)) → i < length left → slice_get old i ≡ Some s → slice_get new i ≡ Some s
  pub each : (i : ℕ) (s : Seated (Turner A B)) (c : CallerFacts) → length left ≤ i → slice_get old i ≡ Some s → slice_get callers i ≡ Some c → (t : Seated (Turner A B)) × (slice_get new i ≡ Some t) × IsGiven queue c s t

zero_le : (n : ℕ) → 0 ≤ n
zero_le n = omega arith

-- a caller that has called nothing, whatever the shard's record is
begins_to : (queue : QueueFacts) (p : Pass) (i : ℕ) → i < queue.senders → (d : Calling) → d.queue.now ≡ queue → d.caller ≡ new_caller queue i → (r : ShardRecord) → IsCalling p i r d
begins_to queue p i within d queue_is caller_is r = record {
  caller = (
    ap (λ (c : CallerFacts). c.queue) caller_is ∙ sym queue_is,
    subst (λ (q : QueueFacts). d.caller.number < q.senders) (sym queue_is) (subst (λ (k : ℕ). k < queue.senders) (sym (ap (λ (c : CallerFacts). c.number) caller_is)) within),
  );
  number = ap (λ (c : CallerFacts). c.number) caller_is;
  called = subst (λ (c : CallerFacts). AreCalled p i r c.posted) (sym caller_is) (called_law.none p i r);
  refused = subst (λ (c : CallerFacts). WasRefused p i r c.refused) (sym caller_is) (record { costs = []; called = called_law.none p i r; count_is = refl; few = zero_le (length r.visits) });
}

module _ {A B : Type 0} (queue : QueueFacts) where
  given_more : (callers left less : List CallerFacts) (old new : List (Seated (Turner A B))) (c : CallerFacts) (s t : Seated (Turner A B)) → AreGiven queue callers left old new → left ≡ less ++ c ∷ [] → length left ≡ length less + 1
      → slice_get old (length less) ≡ Some s → IsGiven queue c s t → AreGiven queue callers less old (slice_set new (length less) t)
  given_more callers left less old new c s t h split long at given = record {
    begins = begins_less left less callers c split h.begins;
    long = length-set new (length less) t ∙ h.long;
    few = (let a = length-set new (length less) t in let b = h.few in omega (arith, a, b, long));
    same = λ i x lt e. set_off new (length less) i t (λ z. omega (arith, z, lt)) ∙ h.same i x (omega (arith, long, lt)) e;
    each = λ i x d le e f. elim (cases_eq i (length less)) [
      | inl z ↦ (
          let here : slice_get (slice_set new (length less) t) i ≡ Some t = subst (λ (n : ℕ). slice_get (slice_set new (length less) t) n ≡ Some t) (sym z) (set_same new (length less) t (let b = h.few in omega (arith, b, long))) in
          let one : s ≡ x = same_at old i s x (subst (λ (n : ℕ). slice_get old n ≡ Some s) (sym z) at) e in
          let two : c ≡ d = same_at callers i c d (subst (λ (n : ℕ). slice_get callers n ≡ Some c) (sym z) (begins_last left less callers c split h.begins)) f in
          (t, here, subst (λ (y : Seated (Turner A B)). IsGiven queue d y t) one (subst (λ (y : CallerFacts). IsGiven queue y s t) two given)))
      | inr ne ↦ (let r = h.each i x d (other i le ne) e f in (r.0, set_off new (length less) i t ne ∙ r.1, r.2))
    ];
  }
    where
      other : (i : ℕ) → length less ≤ i → (i ≡ length less → ⊥) → length left ≤ i
      other i le ne = elim (cases_lt (length less) i) [ inl lt ↦ omega (arith, long, lt) | inr ge ↦ absurd (ne (omega (arith, le, ge))) ]

  -- one more step, by the place that the code reads
  pub given_at : (callers left less : List CallerFacts) (old new : List (Seated (Turner A B))) (c : CallerFacts) (n : ℕ) (s t : Seated (Turner A B)) → AreGiven queue callers left old new → left ≡ less ++ c ∷ [] → n ≡ length less
      → s ≡ get_or new n s → IsGiven queue c s t → AreGiven queue callers less old (slice_set new n t)
  given_at callers left less old new c n s t h split place read given =
      let more = long_more less left c (length less) split refl in
      let few = h.few in
      let within : n < length new = omega (arith, more, few, place) in
      let now : slice_get new n ≡ Some s = slice_get_read new (length new) n s refl within read in
      let same = h.long in
      let was = there old (length less) (omega (arith, more, few, same)) in
      let is : was.0 ≡ s = same_at new (length less) was.0 s (h.same (length less) was.0 (omega (arith, more)) was.1) (subst (λ (k : ℕ). slice_get new k ≡ Some s) place now) in
      subst (λ (k : ℕ). AreGiven queue callers less old (slice_set new k t)) (sym place)
      (given_more callers left less old new c s t h split more (was.1 ∙ ap Some is) given)

  -- ---- a shard with its caller

  module _ (p : Pass) (board : BoardFacts) (boxes : List MailboxFacts) (i : ℕ) (within : i < queue.senders) (d : Calling) (queue_is : d.queue.now ≡ queue) (caller_is : d.caller ≡ new_caller queue i) where
    keeps_with : (t : Turner A B) (seat : SeatFacts) → t.shard.me ≡ i → (e : Option Ended) → KeepsAs p board boxes e t seat → KeepsAs p board boxes e (record t { calling = Some d }) seat
    keeps_with t seat me None a = record {
      shard_record = a.shard_record;
      shared = a.shared;
      stands = a.stands;
      on_board = a.on_board;
      sits = a.sits;
      taker = a.taker;
      posters = a.posters;
      mail = a.mail;
      calls = subst (λ (k : ℕ). IsCalling p k a.shard_record d) (sym me) (begins_to queue p i within d queue_is caller_is a.shard_record);
    }
    keeps_with t seat me (Some end) l = record {
      shard_record = l.shard_record;
      below = l.below;
      ends = l.ends;
      on_board = l.on_board;
      sat = l.sat;
      taker = l.taker;
      posters = l.posters;
      mail = l.mail;
      all_mail = l.all_mail;
      calls = subst (λ (k : ℕ). IsCalling p k l.shard_record d) (sym me) (begins_to queue p i within d queue_is caller_is l.shard_record);
    }

  -- ---- all of them

  module _ (callers left : List CallerFacts) (old new : List (Seated (Turner A B))) (none : length left ≡ 0) (new_ones : AreNewCallers queue callers) (long : length old ≡ queue.senders) (given : AreGiven queue callers left old new) where
    given_to : (i : ℕ) (t : Seated (Turner A B)) → slice_get new i ≡ Some t → (s : Seated (Turner A B)) × (i < queue.senders) × (slice_get old i ≡ Some s) × IsGiven queue (new_caller queue i) s t
    given_to i t at =
        let in_new = slice_get_within new i t at in
        let same = given.long in
        let s = there old i (omega (arith, in_new, same)) in
        let all = new_ones.all in
        let c = there callers i (omega (arith, in_new, same, long, all)) in
        let one = given.each i s.0 c.0 (omega (arith, none)) s.1 c.1 in
        (s.0, omega (arith, in_new, same, long), s.1, subst (λ (x : Seated (Turner A B)). IsGiven queue (new_caller queue i) s.0 x) (same_at new i one.0 t one.1 at) (subst (λ (f : CallerFacts). IsGiven queue f s.0 one.0) (new_ones.each i c.0 c.1) one.2))

    pub all_call : CallTo queue new
    all_call i t at =
        let g = (given_to i t at).3 in
        ap (λ (x : Seated (Turner A B)). queue_of x.player.calling) g.seated_is ∙ ap (λ (c : CallerFacts). Some c.queue) g.caller_is

    pub keep_given : (p : Pass) (board : BoardFacts) (boxes : List MailboxFacts) → KeepAll p board boxes old → KeepAll p board boxes new
    keep_given p board boxes k = record {
      boxes_long = k.boxes_long;
      long = given.long ∙ k.long;
      numbers = λ i t at. (let g = given_to i t at in ap (λ (x : Seated (Turner A B)). x.player.shard.me) g.3.seated_is ∙ k.numbers i g.0 g.2);
      each = λ i t at.
          let g = given_to i t at in
          subst (λ (x : Seated (Turner A B)). Keeps p board boxes x.player x.seat) (sym g.3.seated_is)
          (keeps_with p board boxes i g.1 g.3.calling g.3.queue_is g.3.caller_is g.0.player g.0.seat (k.numbers i g.0 g.2) g.0.player.ended (k.each i g.0 g.2));
    }
