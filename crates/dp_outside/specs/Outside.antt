-- What files on a shelf and bytes in a sink mean, and when a count of faults rose.
use Rattle.std.specs.Prelude.{◌≡◌, ℕ, ◌+◌, ◌<◌, ◌≤◌, ◌⊎◌, List, ◌++◌, length, take, drop, Option, Some, None}

-- The count of faults rose in a call, or stands at the last value of a 64-bit counter, where it stays.
abbrev pub Rose : ℕ → ℕ → Type 0
Rose before after = (before < after) ⊎ (after ≡ 18446744073709551615)

-- What a read of a file at a place gave: none only where the file ends at or before the place, and else
-- that many of its bytes from the place on, at the front of the room.
abbrev pub ReadsAt : List ℕ → ℕ → ℕ → List ℕ → Type 0
ReadsAt bytes place count room =
    (count ≡ 0 → length bytes ≤ place) × (0 < count → (place + count ≤ length bytes) × (take count room ≡ take count (drop place bytes)))

-- A sink that tells its bytes after the call told them before it, and has these after those. One that
-- does not tell them after the call says nothing.
abbrev pub Takes : Option (List ℕ) → Option (List ℕ) → List ℕ → Type 0
Takes before None piece = Unit {0}
Takes before (Some after) piece = (old : List ℕ) × (before ≡ Some old) × (after ≡ old ++ piece)

-- The same of some front of the piece, and not the whole of it.
abbrev pub TakesFront : Option (List ℕ) → Option (List ℕ) → List ℕ → Type 0
TakesFront before after piece = (count : ℕ) × (count < length piece) × Takes before after (take count piece)
