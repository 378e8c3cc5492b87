-- The shards of a search before their first turn.
use Rattle.std.proofs.Common.{◌≡◌, ℕ, ◌+◌, ◌<◌, ◌≤◌, zero, suc, List, [], ◌∷◌, ◌++◌, slice_get, replicate, Option, Some, None, refl, sym, ap, subst, ◌∙◌, arith}
use Rattle.std.specs.Prelude.{◌^◌}
use Rattle.std.proofs.lemmas.Option.{slice_get_within}
use Rattle.board_words.specs.Seats.{BoardFacts, SeatFacts}
use Rattle.board_words.specs.Steps.{split_view}
use Rattle.board_words.specs.declared.seat.View.{View}
use Rattle.state_layout.specs.declared.node.Node.{Node}
use Rattle.best_ledger.specs.Events.{fresh}
use Rattle.best_ledger.specs.Histories.{to}
use Rattle.pass_ledger.specs.Passes.{Pass}
use Rattle.best_seats.specs.declared.ended.BestEnded.{BestEnded}
use Rattle.best_seats.proofs.Sitting.{sits_fresh}
use Rattle.best_shard.specs.Stands.{Stands}
use Rattle.shard_mail.specs.Ends.{MailboxFacts, PosterFacts, TakerFacts, IsPosterOf}
use Rattle.shard_threads.specs.Seats.{AreSeated}
use Rattle.shard_threads.specs.declared.seated.Seated.{Seated}
use Rattle.best_turns.specs.Envelopes.{letters_in, taken_from, terms_of}
use Rattle.best_turns.specs.Turners.{Acts, KeepsAs, IsTakerFor, ArePostersFor}
use Rattle.best_turns.specs.declared.envelope.BestEnvelope.{BestEnvelope}
use Rattle.best_turns.specs.declared.turner.BestTurner.{BestTurner}
use Rattle.best_first.specs.Crews.{IsFresh, AreFresh, AreBoxes, KeepAll}
use Rattle.best_first.specs.Mails.{AreMails}
use Rattle.best_first.specs.declared.mails.Mails.{Mails}
use Rattle.best_first.proofs.Places.{each_more, long_more}
use Rattle.best_over.proofs.Places.{there}

-- ---- a shard with its ends of the mailboxes

module _ {A B : Type 0} where
  pub is_fresh : (p : Pass) (budget : ℕ) (mails : Mails) (i : ℕ) (t : BestTurner A B) (start : Option Node) → AreMails p.shards (terms_of p.model) p.shards mails → i < p.shards
      → slice_get mails.takers.items i ≡ Some t.taker → slice_get mails.posters.items i ≡ Some t.posters → Stands p t.shard (fresh p.shards start) → t.shard.me ≡ i → t.ended ≡ None → t.budget ≡ budget
      → IsFresh p budget mails.boxes.items i t
  is_fresh p budget mails i t start h lt taker posters stands me goes_on budget_is = record {
    start = start;
    stands = stands;
    me = me;
    goes_on = goes_on;
    budget_is = budget_is;
    taker = record { of_box = λ b at. ap (λ (x : TakerFacts BestEnvelope). x.mailbox) (h.takers i b t.taker at taker); terms = ap (λ (x : TakerFacts BestEnvelope). x.terms) (h.takers i box.0 t.taker box.1 taker) };
    taken = ap (λ (x : TakerFacts BestEnvelope). x.taken) (h.takers i box.0 t.taker box.1 taker);
    posters = record {
      long = h.room.held_are i t.posters posters;
      of_box = λ k b q at here. poster_of k b q at here;
      number = λ k q here. let c = box_at k q here in ap (λ (x : PosterFacts BestEnvelope). x.number) (h.posters i k t.posters c.0 q posters c.1 here);
      terms = λ k q here. let c = box_at k q here in ap (λ (x : PosterFacts BestEnvelope). x.terms) (h.posters i k t.posters c.0 q posters c.1 here);
    };
    posted = λ k q here. let c = box_at k q here in ap (λ (x : PosterFacts BestEnvelope). x.posted) (h.posters i k t.posters c.0 q posters c.1 here);
  }
    where
      box : (b : MailboxFacts) × (slice_get mails.boxes.items i ≡ Some b)
      box = there mails.boxes.items i (let a = h.boxes_long in omega (arith, a, lt))

      box_at : (k : ℕ) (q : PosterFacts BestEnvelope) → slice_get t.posters.items k ≡ Some q → (b : MailboxFacts) × (slice_get mails.boxes.items k ≡ Some b)
      box_at k q here =
          there mails.boxes.items k (let a = slice_get_within t.posters.items k q here in let b = h.room.held_are i t.posters posters in let c = h.boxes_long in omega (arith, a, b, c))

      poster_of : (k : ℕ) (b : MailboxFacts) (q : PosterFacts BestEnvelope) → slice_get mails.boxes.items k ≡ Some b → slice_get t.posters.items k ≡ Some q → IsPosterOf b q
      poster_of k b q at here =
          let e = h.posters i k t.posters b q posters at here in
          let number = ap (λ (x : PosterFacts BestEnvelope). x.number) e in
          let senders = h.senders k b at in
          (ap (λ (x : PosterFacts BestEnvelope). x.mailbox) e, omega (arith, number, senders, lt))

  pub fresh_more : (p : Pass) (budget : ℕ) (boxes : List MailboxFacts) (count : ℕ) (turners more : List (BestTurner A B)) (t : BestTurner A B) → AreFresh p budget boxes count turners → more ≡ turners ++ t ∷ [] → IsFresh p budget boxes count t → AreFresh p budget boxes (count + 1) more
  fresh_more p budget boxes count turners more t h e is = record {
    long = long_more turners more t count e h.long;
    each = each_more (λ i x. IsFresh p budget boxes i x) turners more t e h.each (subst (λ (n : ℕ). IsFresh p budget boxes n t) (sym h.long) is);
  }

-- ---- before the first turn each shard acts for the record of a shard that has not begun

none_of : (shards j : ℕ) → to (replicate shards []) j ≡ []
none_of zero j = refl
none_of (suc n) zero = refl
none_of (suc n) (suc j) = none_of n j

module _ {A B : Type 0} (p : Pass) (board : BoardFacts) (boxes : List MailboxFacts) (budget : ℕ) (v : View) (are : AreBoxes p.shards boxes) (limit : board.limit ≡ budget) (small : budget ≤ 2 ^ 40) (seen : v.limit ≡ board.limit) where
  acts : (i : ℕ) (t : BestTurner A B) (s : SeatFacts) → IsFresh p budget boxes i t → s.view ≡ split_view v → (s.board ≡ board.id) × (s.view.opening ≡ board.opening) × (s.view.limit ≡ board.limit) → Acts p board boxes t s
  acts i t s h e on = record {
    shard_record = fresh p.shards h.start;
    shared = record { long = are.long; senders = are.senders; limit = omega (arith, limit, small) };
    stands = h.stands;
    on_board = on;
    sits = sits_fresh p t.budget v s.view h.start e (seen ∙ (limit ∙ sym h.budget_is));
    taker = subst (λ (n : ℕ). IsTakerFor p boxes n t.taker) (sym h.me) h.taker;
    posters = subst (λ (n : ℕ). ArePostersFor p boxes n t.posters.items) (sym h.me) h.posters;
    mail = record {
      received = λ j lt. sym (ap (taken_from j) h.taken);
      posted = λ k q here. ap letters_in (h.posted k q here) ∙ sym (none_of p.shards k);
    };
  }

  pub all_begin : (turners : List (BestTurner A B)) (shards : List (Seated (BestTurner A B))) → AreFresh p budget boxes p.shards turners → AreSeated board v turners shards → KeepAll p board boxes shards
  all_begin turners shards h seated = record {
    boxes_long = are.long;
    long = seated.long ∙ h.long;
    numbers = λ i s at. (h.each i s.player (seated.player_is i s at)).me;
    each = λ i s at. let f = h.each i s.player (seated.player_is i s at) in subst (λ (o : Option BestEnded). KeepsAs p board boxes o s.player s.seat) (sym f.goes_on) (acts i s.player s.seat f (seated.view_is i s at) (seated.on_board i s at));
  }
