-- What holds of a board between any two steps: how the three words stand to what all seats know.
use Rattle.std.specs.Prelude.{◌≡◌, ℕ, ◌-◌, ◌*◌, ◌<◌, ◌≤◌, List, [], ◌∷◌}
use mathlib.Core.Option.{some}
use lib.ListN.{get_elem?}
use Rattle.atomic_table.specs.Table.{State}
use Rattle.board_words.specs.Causes.{IsHaltWord}
use Rattle.board_words.specs.Sums.{total, least, greatest}
use Rattle.board_words.specs.declared.seat.View.{View}

-- the word of no cost, the greatest: 2^64 - 1
abbrev pub no_word : ℕ
no_word = 18446744073709551615

-- all parts of a board together: 2^20
abbrev pub whole_part : ℕ
whole_part = 1048576

-- how often a seat may draw for each of its parts: 2^41
abbrev pub draws_each : ℕ
draws_each = 2199023255552

-- the view of a new seat, which has offered, drawn and raised nothing
abbrev pub new_view : ℕ → ℕ → ℕ → ℕ → View
new_view part opening limit seen = record { part = part; opening = opening; limit = limit; seen = seen; offered = no_word; drawn = 0; late = 0; top = 0; raised = 0; met = 0 }

-- the view that is left of a seat which was joined into another
abbrev pub spent_view : View
spent_view = record { part = 0; opening = 0; limit = 0; seen = no_word; offered = no_word; drawn = 0; late = 0; top = 0; raised = 0; met = 0 }

-- the seat has every part, so all others are joined into it
abbrev pub IsWhole : View → Type 0
IsWhole v = v.part ≡ whole_part

-- the seat may draw once more
abbrev pub MayDraw : View → Type 0
MayDraw v = v.drawn < draws_each * v.part

-- the seat has a part for another, and its draws are few enough for the parts that it keeps
abbrev pub MaySplit : View → Type 0
MaySplit v = (2 ≤ v.part) × (v.drawn ≤ draws_each * (v.part - 1))

-- how one view stands to the words
pub record Fits (opening limit best cause : ℕ) (v : View) : Type 0 where
  pub spent : v.part ≡ 0 → v ≡ spent_view
  pub opening_is : 0 < v.part → v.opening ≡ opening
  pub limit_is : 0 < v.part → v.limit ≡ limit
  pub seen : best ≤ v.seen
  pub drawn : v.drawn ≤ draws_each * v.part
  pub raised : IsHaltWord v.raised
  pub met : v.met ≤ cause

-- how the three words stand to all views
pub record Balanced (opening limit : ℕ) (words : List ℕ) (views : List View) : Type 0 where
  pub best : ℕ
  pub drawn : ℕ
  pub cause : ℕ
  pub words_are : words ≡ best ∷ drawn ∷ cause ∷ []
  pub opening_fits : opening ≤ no_word
  pub each : (i : ℕ) (v : View) → get_elem? views i ≡ some v → Fits opening limit best cause v
  pub parts : total (λ v. v.part) views ≡ whole_part
  pub best_is : best ≡ least opening (λ v. v.offered) views
  pub drawn_is : drawn ≡ total (λ v. v.drawn) views
  pub top_is : drawn ≡ greatest (λ v. v.top) views
  pub late_is : total (λ v. v.late) views ≡ drawn - limit
  pub cause_is : cause ≡ greatest (λ v. v.raised) views

-- the rule of the board with this opening word and limit
abbrev pub Kept : ℕ × ℕ → State (Unit {0}) View → Type 0
Kept key s = Balanced key.0 key.1 s.words s.views
