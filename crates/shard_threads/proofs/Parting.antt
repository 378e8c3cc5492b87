-- Blocks of players that go to threads and come back.
use Rattle.std.proofs.Common.{◌≡◌, List, [], ◌∷◌, ◌++◌, length, sym, ap, subst, ◌∙◌, arith}
use Rattle.std.proofs.lemmas.List.{append_assoc, append-nil}
use Rattle.board_words.specs.Seats.{BoardFacts, SeatFacts}
use Rattle.shard_threads.specs.Away.{IsHere, Thread, behind}
use Rattle.shard_threads.specs.Players.{AllStay}
use Rattle.shard_threads.specs.declared.seated.Seated.{Seated}
use Rattle.shard_threads.specs.declared.threads.SamePlayers.{SamePlayers}
use Rattle.shard_threads.proofs.Staying.{stay_both, stay_same, stay_to}

module _ {P X : Type 0} where
  -- the block of the last thread stands first
  last_first : (away : List (Thread P X)) (h : Thread P X) → behind (away ++ h ∷ []) ≡ h.promise.was.value.items ++ behind away
  last_first [] h = sym (append-nil h.promise.was.value.items)
  last_first (x ∷ away) h = ap (λ (xs : List (Seated P)). xs ++ x.promise.was.value.items) (last_first away h) ∙ append_assoc h.promise.was.value.items (behind away) x.promise.was.value.items

  -- the players in order, with one block more in a thread
  pub order_more : (players less block : List (Seated P)) (away more : List (Thread P X)) (h : Thread P X) → players ≡ less ++ block → more ≡ away ++ h ∷ [] → h.promise.was.value.items ≡ block → less ++ behind more ≡ players ++ behind away
  order_more players less block away more h e f was =
      ap (λ (xs : List (Seated P)). less ++ xs) (ap behind f ∙ last_first away h ∙ ap (λ (xs : List (Seated P)). xs ++ behind away) was)
      ∙ sym (append_assoc less block (behind away))
      ∙ ap (λ (xs : List (Seated P)). xs ++ behind away) (sym e)

  -- the last thread is joined next
  pub joined_last : (players : List (Seated P)) (away less : List (Thread P X)) (h : Thread P X) → away ≡ less ++ h ∷ [] → players ++ behind away ≡ (players ++ h.promise.was.value.items) ++ behind less
  joined_last players away less h e = ap (λ (xs : List (Seated P)). players ++ xs) (ap behind e ∙ last_first less h) ∙ sym (append_assoc players h.promise.was.value.items (behind less))

  -- no thread is left
  pub order_none : (players : List (Seated P)) (away : List (Thread P X)) → length away ≡ 0 → players ++ behind away ≡ players
  order_none players [] none = append-nil players
  order_none players (h ∷ away) none = absurd (omega (arith, none))

module _ {T X P : Type 0} (keeps : T → BoardFacts → X → P → SeatFacts → Type 0) (board : BoardFacts) (boxes : X) where
  -- a block came back behind those that are here
  pub stay_back : (less block back new rest : List (Seated P)) → AllStay keeps board boxes block back → new ≡ less ++ back → AllStay keeps board boxes ((less ++ block) ++ rest) (new ++ rest)
  stay_back less block back new rest s e =
      stay_to keeps board boxes ((less ++ block) ++ rest) ((less ++ back) ++ rest) (new ++ rest) (ap (λ (xs : List (Seated P)). xs ++ rest) e)
      (stay_both keeps board boxes (less ++ block) (less ++ back) rest rest (stay_both keeps board boxes less less block back (stay_same keeps board boxes less) s) (stay_same keeps board boxes rest))

  -- what a thread promised, of the board and the boxes that are here
  pub kept_here : (q : SamePlayers P X) (block : List (Seated P)) → IsHere board boxes q → AllStay keeps q.board.value q.boxes.value q.was.value.items block → AllStay keeps board boxes q.was.value.items block
  kept_here q block h s = subst (λ (x : X). AllStay keeps board x q.was.value.items block) h.1 (subst (λ (b : BoardFacts). AllStay keeps b q.boxes.value q.was.value.items block) h.0 s)

  -- no thread was started
  pub stay_none : (xs : List (Seated P)) (away : List (Thread P X)) → away ≡ [] → AllStay keeps board boxes xs (xs ++ behind away)
  stay_none xs away none = stay_to keeps board boxes xs xs (xs ++ behind away) (ap (λ (hs : List (Thread P X)). xs ++ behind hs) none ∙ append-nil xs) (stay_same keeps board boxes xs)
