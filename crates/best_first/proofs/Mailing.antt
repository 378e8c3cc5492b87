-- The mailboxes of a search, one more and one more.
use Rattle.std.proofs.Common.{◌≡◌, ℕ, ◌+◌, ◌<◌, inl, inr, List, [], ◌∷◌, ◌++◌, length, slice_get, Some, sym, ap, subst, ◌∙◌, arith}
use Rattle.std.proofs.lemmas.Option.{slice_get_within}
use Rattle.shard_mail.specs.Ends.{MailboxFacts, PosterFacts, TakerFacts, AreNewPosters, new_poster, new_taker}
use Rattle.shard_mail.proofs.Letters.{last_or}
use Rattle.best_turns.specs.declared.envelope.BestEnvelope.{BestEnvelope}
use Rattle.best_first.specs.Mails.{Posters, AreHandedOut, AreMails}
use Rattle.best_first.specs.declared.mails.Mails.{Mails}
use Rattle.best_first.proofs.Hands.{handed_list, room_more}
use Rattle.best_first.proofs.Places.{at_last, at_left, each_more, long_more, same_at}
use Rattle.best_over.proofs.Places.{there}

module _ (shards : ℕ) (terms : List ℕ) (count : ℕ) (old new : Mails) (box : MailboxFacts) (posters : List (PosterFacts BestEnvelope)) (taker : TakerFacts BestEnvelope)
    (h : AreMails shards terms count old) (below : count < shards) (senders : box.senders ≡ shards) (firsts : AreNewPosters box terms posters) (is_new : taker ≡ new_taker box terms)
    (handed : AreHandedOut posters old.posters.items new.posters.items) (boxes : new.boxes.items ≡ old.boxes.items ++ box ∷ []) (takers : new.takers.items ≡ old.takers.items ++ taker ∷ []) where
  posters_long : length posters ≡ length old.posters.items
  posters_long = firsts.all ∙ (senders ∙ sym h.lists_long)

  -- a box that was there before
  old_box : (k : ℕ) (b : MailboxFacts) → k < count → slice_get new.boxes.items k ≡ Some b → slice_get old.boxes.items k ≡ Some b
  old_box k b lt at =
      let r = there old.boxes.items k (let a = h.boxes_long in omega (arith, a, lt)) in
      let same = same_at new.boxes.items k r.0 b (at_left old.boxes.items new.boxes.items box boxes k r.0 r.1) at in
      r.1 ∙ ap Some same

  taker_of : (k : ℕ) (b : MailboxFacts) (t : TakerFacts BestEnvelope) → slice_get new.boxes.items k ≡ Some b → slice_get new.takers.items k ≡ Some t → t ≡ new_taker b terms
  taker_of k b t at there_t =
      each_more (λ (i : ℕ) (x : TakerFacts BestEnvelope). (c : MailboxFacts) → slice_get new.boxes.items i ≡ Some c → x ≡ new_taker c terms) old.takers.items new.takers.items taker takers
      (λ i x here c box_at. h.takers i c x (old_box i c (let a = slice_get_within old.takers.items i x here in let l = h.takers_long in omega (arith, a, l)) box_at) here)
      (λ c box_at.
      let place : length old.takers.items ≡ length old.boxes.items = h.takers_long ∙ sym h.boxes_long in
      let same = same_at new.boxes.items (length old.boxes.items) box c (at_last old.boxes.items new.boxes.items box boxes) (subst (λ (n : ℕ). slice_get new.boxes.items n ≡ Some c) place box_at) in
      is_new ∙ ap (λ (m : MailboxFacts). new_taker m terms) same)
      k t there_t b at

  poster_of : (j k : ℕ) (v : Posters) (b : MailboxFacts) (q : PosterFacts BestEnvelope) → slice_get new.posters.items j ≡ Some v → slice_get new.boxes.items k ≡ Some b → slice_get v.items k ≡ Some q → q ≡ new_poster b terms j
  poster_of j k v b q at box_at here =
      let r = handed_list posters old.posters.items new.posters.items handed posters_long j v at in
      let long = h.room.held_are j r.0 r.2 in
      elim (last_or r.0.items r.1 q k (ap (λ zs. slice_get zs k) (sym r.4.0) ∙ here)) [
        | inl before ↦ h.posters j k r.0 b q r.2 (old_box k b (let a = slice_get_within r.0.items k q before in omega (arith, a, long)) box_at) before
        | inr last ↦ (
            let place : k ≡ length old.boxes.items = last.0 ∙ (long ∙ sym h.boxes_long) in
            let same = same_at new.boxes.items (length old.boxes.items) box b (at_last old.boxes.items new.boxes.items box boxes) (subst (λ (n : ℕ). slice_get new.boxes.items n ≡ Some b) place box_at) in
            sym last.1 ∙ (firsts.each j r.1 r.3 ∙ ap (λ (m : MailboxFacts). new_poster m terms j) same))
      ]

  pub mails_more : AreMails shards terms (count + 1) new
  mails_more = record {
    boxes_long = long_more old.boxes.items new.boxes.items box count boxes h.boxes_long;
    takers_long = long_more old.takers.items new.takers.items taker count takers h.takers_long;
    lists_long = handed.long ∙ h.lists_long;
    room = room_more shards count posters old.posters.items new.posters.items h.room posters_long handed;
    senders = each_more (λ k b. b.senders ≡ shards) old.boxes.items new.boxes.items box boxes h.senders senders;
    takers = taker_of;
    posters = poster_of;
  }
