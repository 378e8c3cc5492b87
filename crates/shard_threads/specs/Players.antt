-- Players with their seats: what each is held to, and what turns keep of it.
use Rattle.std.specs.Prelude.{◌≡◌, ℕ, Bool, true, List, [], ◌∷◌, slice_get, Some, ⊤}
use Rattle.board_words.specs.Seats.{BoardFacts, SeatFacts}
use Rattle.shard_threads.specs.declared.seated.Seated.{Seated}

module _ {T X P : Type 0} (keeps : T → BoardFacts → X → P → SeatFacts → Type 0) (board : BoardFacts) (boxes : X) where
  -- the player with its seat is as some terms ask
  abbrev pub IsHeld : Seated P → Type 0
  IsHeld s = (t : T) × keeps t board boxes s.player s.seat

  -- each player is as some terms ask
  abbrev pub AreHeld : List (Seated P) → Type 0
  AreHeld players = (i : ℕ) (s : Seated P) → slice_get players i ≡ Some s → IsHeld s

  -- whatever terms the player with its seat met, it meets
  abbrev pub Stays : Seated P → Seated P → Type 0
  Stays was now = (t : T) → keeps t board boxes was.player was.seat → keeps t board boxes now.player now.seat

  -- as many players, and whatever terms the one at a place met, the one at this place meets
  abbrev pub AllStay : List (Seated P) → List (Seated P) → Type 0
  AllStay [] [] = ⊤
  AllStay [] (y ∷ now) = ⊥
  AllStay (x ∷ was) [] = ⊥
  AllStay (x ∷ was) (y ∷ now) = Stays x y × AllStay was now

-- each player has ended
abbrev pub HaveEnded : {P : Type 0} → (P → Bool) → List (Seated P) → Type 0
HaveEnded {P} ended players = (i : ℕ) (s : Seated P) → slice_get players i ≡ Some s → ended s.player ≡ true
