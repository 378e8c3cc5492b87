-- The shards of a search are taken apart, one after another.
use Rattle.std.proofs.Common.{◌≡◌, ℕ, ◌+◌, ◌<◌, ◌≤◌, inl, inr, List, [], ◌∷◌, ◌++◌, length, slice_get, Some, vec_capacity, refl, sym, ap, subst, ◌∙◌, arith}
use Rattle.std.proofs.lemmas.Bool.{cases_eq, cases_lt}
use Rattle.std.proofs.lemmas.List.{append-nil, map-append}
use Rattle.std.proofs.lemmas.Option.{slice_get_within}
use Rattle.path_log.specs.Paths.{Log}
use Rattle.best_shard.specs.declared.shard.BestShardEnd.{BestShardEnd}
use Rattle.board_words.specs.Seats.{SeatFacts}
use Rattle.shard_mail.specs.Ends.{PosterFacts, TakerFacts, IsSettled}
use Rattle.shard_mail.specs.Mails.{letters_of}
use Rattle.best_turns.specs.Envelopes.{sender_of}
use Rattle.shard_mail.proofs.Letters.{last_or}
use Rattle.shard_threads.specs.declared.seated.Seated.{Seated}
use Rattle.best_turns.specs.declared.envelope.BestEnvelope.{BestEnvelope}
use Rattle.best_turns.specs.declared.turner.BestTurner.{BestTurner}
use Rattle.best_first.specs.Mails.{Posters, AreHandedOut}
use Rattle.best_first.specs.Rooms.{IsRoomFor, HandsBack, AreApart, IsAllTaken}
use Rattle.best_first.specs.declared.room.Room.{Room}
use Rattle.best_first.proofs.Hands.{handed_list, room_more}
use Rattle.best_first.proofs.Places.{Begins, begins_last, at_last, at_left, each_more, long_more, same_at}
use Rattle.best_over.proofs.Places.{there}

module _ (most held : ℕ) (old new : Room) (e : BestShardEnd) (log : Log) (taker : TakerFacts BestEnvelope) (seat : SeatFacts) (posters : List (PosterFacts BestEnvelope)) (h : IsRoomFor most held old) (all : length posters ≡ most)
    (ends : new.ends.items ≡ old.ends.items ++ e ∷ []) (logs : new.logs.items ≡ old.logs.items ++ log ∷ []) (takers : new.takers.items ≡ old.takers.items ++ taker ∷ []) (seats : new.seats.items ≡ old.seats.items ++ seat ∷ []) (handed : AreHandedOut posters old.posters.items new.posters.items) where
  pub room_for_more : vec_capacity new.ends ≡ vec_capacity old.ends → vec_capacity new.logs ≡ vec_capacity old.logs → vec_capacity new.takers ≡ vec_capacity old.takers → vec_capacity new.seats ≡ vec_capacity old.seats → IsRoomFor most (held + 1) new
  room_for_more a b c d = record {
    ends_long = long_more old.ends.items new.ends.items e held ends h.ends_long;
    logs_long = long_more old.logs.items new.logs.items log held logs h.logs_long;
    takers_long = long_more old.takers.items new.takers.items taker held takers h.takers_long;
    seats_long = long_more old.seats.items new.seats.items seat held seats h.seats_long;
    posters_long = handed.long ∙ h.posters_long;
    ends_room = (let r = h.ends_room in omega (arith, a, r));
    logs_room = (let r = h.logs_room in omega (arith, b, r));
    takers_room = (let r = h.takers_room in omega (arith, c, r));
    seats_room = (let r = h.seats_room in omega (arith, d, r));
    posters_room = room_more most held posters old.posters.items new.posters.items h.posters_room (all ∙ sym h.posters_long) handed;
  }

-- the same, where the room is told by its lists of posters
pub room_next : (most held next : ℕ) (old new : Room) → IsRoomFor most held old → held < most → next ≡ held + 1
    → ((k : ℕ) → k < length old.posters.items → IsRoomFor (length old.posters.items) k old → IsRoomFor (length old.posters.items) (k + 1) new) → IsRoomFor most next new
room_next most held next old new h lt is step =
    let long = h.posters_long in
    subst (λ (n : ℕ). IsRoomFor most n new) (sym is)
    (subst (λ (m : ℕ). IsRoomFor m (held + 1) new) long (step held (omega (arith, long, lt)) (subst (λ (m : ℕ). IsRoomFor m held old) (sym long) h)))

-- ---- mailboxes that are settled from the last one on

module _ (P : List (PosterFacts BestEnvelope) → List BestEnvelope → Type 0) where
  -- it holds of the mailboxes from this one on
  abbrev pub HoldsFrom : ℕ → List (TakerFacts BestEnvelope) → List Posters → Type 0
  HoldsFrom n takers posters = (k : ℕ) (t : TakerFacts BestEnvelope) (row : Posters) → n ≤ k → slice_get takers k ≡ Some t → slice_get posters k ≡ Some row → P row.items t.taken

  holds_more : (takers : List (TakerFacts BestEnvelope)) (posters : List Posters) (m n : ℕ) → m ≡ n + 1 → HoldsFrom m takers posters
      → (taker : TakerFacts BestEnvelope) (first : Posters) → slice_get takers n ≡ Some taker → slice_get posters n ≡ Some first → P first.items taker.taken → HoldsFrom n takers posters
  holds_more takers posters m n next begun taker first taker_at first_at new k t row le at here =
      elim (cases_eq k n) [
        | inl e ↦ (
            let a : taker ≡ t = same_at takers k taker t (subst (λ (i : ℕ). slice_get takers i ≡ Some taker) (sym e) taker_at) at in
            let b : first ≡ row = same_at posters k first row (subst (λ (i : ℕ). slice_get posters i ≡ Some first) (sym e) first_at) here in
            subst (λ (x : TakerFacts BestEnvelope). P row.items x.taken) a (subst (λ (x : Posters). P x.items taker.taken) b new))
        | inr ne ↦ begun k t row (above k m n next le ne) at here
      ]
    where
      above : (k m n : ℕ) → m ≡ n + 1 → n ≤ k → (k ≡ n → ⊥) → m ≤ k
      above k m n next le ne = elim (cases_lt n k) [ inl lt ↦ omega (arith, next, lt) | inr ge ↦ absurd (ne (omega (arith, le, ge))) ]

  -- the same, where the taker and the posters were the last ones left
  pub settled : (takers : List (TakerFacts BestEnvelope)) (posters : List Posters) (m n : ℕ) (left less : List (TakerFacts BestEnvelope)) (rows fewer : List Posters) (taker : TakerFacts BestEnvelope) (first : Posters) → m ≡ n + 1 → HoldsFrom m takers posters
      → left ≡ less ++ taker ∷ [] → rows ≡ fewer ++ first ∷ [] → Begins left takers → Begins rows posters → length less ≡ n → length fewer ≡ n → P first.items taker.taken → HoldsFrom n takers posters
  settled takers posters m n left less rows fewer taker first next begun a b c d e f new =
      holds_more takers posters m n next begun taker first
      (subst (λ (k : ℕ). slice_get takers k ≡ Some taker) e (begins_last left less takers taker a c))
      (subst (λ (k : ℕ). slice_get posters k ≡ Some first) f (begins_last rows fewer posters first b d))
      new

pub empty_list : {A : Type 0} (xs : List A) → length xs ≡ 0 → xs ≡ []
empty_list [] e = refl
empty_list (x ∷ xs) e = absurd (omega (arith, e))

-- where nothing is left, all was taken
pub none_left : (posters all : List (PosterFacts BestEnvelope)) (taken left : List BestEnvelope) → all ≡ posters → left ≡ [] → IsSettled sender_of all taken left → IsAllTaken posters taken
none_left posters all taken left same none settles i q at =
    sym (append-nil (letters_of sender_of q.number taken))
    ∙ subst (λ (xs : List BestEnvelope). letters_of sender_of q.number taken ++ letters_of sender_of q.number xs ≡ q.posted) none (settles i q (ap (λ (qs : List (PosterFacts BestEnvelope)). slice_get qs i) same ∙ at))

-- ---- shards that are taken apart from the first one on

module _ {A B : Type 0} (shards : List (Seated (BestTurner A B))) (t : Seated (BestTurner A B)) (most : ℕ) (old new : Room) (e : BestShardEnd) (log : Log)
    (apart : AreApart shards old) (h : IsRoomFor most (length shards) old) (all : length t.player.posters.items ≡ most)
    (ends : new.ends.items ≡ old.ends.items ++ e ∷ []) (logs : new.logs.items ≡ old.logs.items ++ log ∷ []) (takers : new.takers.items ≡ old.takers.items ++ t.player.taker ∷ []) (seats : new.seats.items ≡ old.seats.items ++ t.seat ∷ [])
    (handed : AreHandedOut t.player.posters.items old.posters.items new.posters.items) (back : HandsBack t.player e log) where
  -- what stands among the first ones stood there before
  first_of : {C : Type 0} (xs more : List C) (x : C) → more ≡ xs ++ x ∷ [] → length xs ≡ length shards → (i : ℕ) (u : Seated (BestTurner A B)) (y : C) → slice_get shards i ≡ Some u → slice_get more i ≡ Some y → slice_get xs i ≡ Some y
  first_of xs more x is long i u y at here =
      let r = there xs i (let a = slice_get_within shards i u at in omega (arith, a, long)) in
      r.1 ∙ ap Some (same_at more i r.0 y (at_left xs more x is i r.0 r.1) here)

  last_of : {C : Type 0} (xs more : List C) (x : C) → more ≡ xs ++ x ∷ [] → length xs ≡ length shards → (y : C) → slice_get more (length shards) ≡ Some y → x ≡ y
  last_of xs more x is long y here = same_at more (length shards) x y (subst (λ (n : ℕ). slice_get more n ≡ Some x) long (at_last xs more x is)) here

  posters_at : (i k : ℕ) (u : Seated (BestTurner A B)) (row : Posters) (q : PosterFacts BestEnvelope) → slice_get (shards ++ t ∷ []) i ≡ Some u → slice_get new.posters.items k ≡ Some row → slice_get row.items i ≡ Some q → slice_get u.player.posters.items k ≡ Some q
  posters_at i k u row q at row_at here =
      let r = handed_list t.player.posters.items old.posters.items new.posters.items handed (all ∙ sym h.posters_long) k row row_at in
      let long = h.posters_room.held_are k r.0 r.2 in
      elim (last_or shards t u i at) [
        | inl before ↦ elim (last_or r.0.items r.1 q i (ap (λ zs. slice_get zs i) (sym r.4.0) ∙ here)) [
          | inl a ↦ apart.posters i k u r.0 q before r.2 a
          | inr a ↦ absurd (let w = slice_get_within shards i u before in let z = a.0 in omega (arith, w, z, long))
        ]
        | inr last ↦ elim (last_or r.0.items r.1 q i (ap (λ zs. slice_get zs i) (sym r.4.0) ∙ here)) [
          | inl a ↦ absurd (let w = slice_get_within r.0.items i q a in let z = last.0 in omega (arith, w, z, long))
          | inr a ↦ subst (λ (v : Seated (BestTurner A B)). slice_get v.player.posters.items k ≡ Some q) last.1 (r.3 ∙ ap Some a.1)
        ]
      ]

  pub apart_more : AreApart (shards ++ t ∷ []) new
  apart_more = record {
    ends = λ i u d l at a b.
        each_more (λ (j : ℕ) (v : Seated (BestTurner A B)). (x : BestShardEnd) (y : Log) → slice_get new.ends.items j ≡ Some x → slice_get new.logs.items j ≡ Some y → HandsBack v.player x y) shards (shards ++ t ∷ []) t refl
        (λ j v here x y c f. apart.ends j v x y here (first_of old.ends.items new.ends.items e ends h.ends_long j v x here c) (first_of old.logs.items new.logs.items log logs h.logs_long j v y here f))
        (λ x y c f. subst (λ (z : BestShardEnd). HandsBack t.player z y) (last_of old.ends.items new.ends.items e ends h.ends_long x c) (subst (λ (z : Log). HandsBack t.player e z) (last_of old.logs.items new.logs.items log logs h.logs_long y f) back))
        i u at d l a b;
    takers = λ i u x at a.
        each_more (λ (j : ℕ) (v : Seated (BestTurner A B)). (y : TakerFacts BestEnvelope) → slice_get new.takers.items j ≡ Some y → y ≡ v.player.taker) shards (shards ++ t ∷ []) t refl
        (λ j v here y c. apart.takers j v y here (first_of old.takers.items new.takers.items t.player.taker takers h.takers_long j v y here c))
        (λ y c. sym (last_of old.takers.items new.takers.items t.player.taker takers h.takers_long y c))
        i u at x a;
    seats = seats ∙ (ap (λ (xs : List SeatFacts). xs ++ t.seat ∷ []) apart.seats ∙ sym (map-append (λ (x : Seated (BestTurner A B)). x.seat) shards (t ∷ [])));
    posters = posters_at;
  }
