-- Blocks of players in threads of their own.
use Rattle.std.specs.Prelude.{◌≡◌, ℕ, List, [], ◌∷◌, ◌++◌, slice_get, Some}
use Rattle.std.specs.declared.alloc.Global.{Global}
use Rattle.std.specs.declared.thread.PromisedHandle.{PromisedHandle}
use Rattle.std.specs.declared.vec.Vec.{Vec}
use Rattle.board_words.specs.Seats.{BoardFacts}
use Rattle.shard_threads.specs.declared.seated.Seated.{Seated}
use Rattle.shard_threads.specs.declared.threads.SamePlayers.{SamePlayers}

-- a thread that turns players, by what it promised
abbrev pub Thread : Type 0 → Type 0 → Type 0
Thread P X = PromisedHandle (Vec (Seated P) Global) (SamePlayers P X)

module _ {P X : Type 0} (board : BoardFacts) (boxes : X) where
  -- the promise was given on this board and with these boxes
  abbrev pub IsHere : SamePlayers P X → Type 0
  IsHere q = (q.board.value ≡ board) × (q.boxes.value ≡ boxes)

  -- it was given of this block
  abbrev pub IsPromisedOf : List (Seated P) → SamePlayers P X → Type 0
  IsPromisedOf block q = IsHere q × (q.was.value.items ≡ block)

  -- each thread gave its promise on this board and with these boxes
  abbrev pub ArePromised : List (Thread P X) → Type 0
  ArePromised away = (i : ℕ) (h : Thread P X) → slice_get away i ≡ Some h → IsHere h.promise

-- the players that the threads were given: blocks were taken from the back, so those of the last thread stand first
abbrev pub behind : {P X : Type 0} → List (Thread P X) → List (Seated P)
behind [] = []
behind (h ∷ away) = behind away ++ h.promise.was.value.items
