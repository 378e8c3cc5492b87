-- How each call changes its seat's view, and what its step tells the seat.
use Rattle.std.specs.Prelude.{◌≡◌, ℕ, ◌+◌, ◌-◌, ◌≤◌, min, max, nat_lt, if◌then◌else◌}
use Rattle.atomic_table.specs.Table.{Me, Step}
use Rattle.board_words.specs.Causes.{IsHaltWord}
use Rattle.board_words.specs.Rules.{new_view, IsWhole}
use Rattle.board_words.specs.declared.seat.View.{View}

-- the best word as far as a seat's own offers go
abbrev pub best_known : View → ℕ
best_known v = min v.opening v.offered

-- What a seat knows of each word at any step. No word ever goes back, and a whole seat knows all of them exactly.
pub record IsBestFor (v : View) (best : ℕ) : Type 0 where
  pub opening : best ≤ v.opening
  pub seen : best ≤ v.seen
  pub offered : best ≤ v.offered
  pub exact : IsWhole v → best ≡ best_known v

pub record IsCountFor (v : View) (drawn : ℕ) : Type 0 where
  pub top : v.top ≤ drawn
  pub own : v.drawn ≤ drawn
  pub exact : IsWhole v → (drawn ≡ v.drawn) × (drawn ≡ v.top)
  pub late : IsWhole v → v.late ≡ drawn - v.limit

pub record IsCauseFor (v : View) (cause : ℕ) : Type 0 where
  pub number : IsHaltWord cause
  pub met : v.met ≤ cause
  pub raised : v.raised ≤ cause
  pub exact : IsWhole v → cause ≡ v.raised

-- the best word was seen
abbrev pub after_look : View → ℕ → View
after_look v word = record v { seen = word }

-- a word was offered
abbrev pub after_offer : View → ℕ → View
after_offer v word = record v { offered = min v.offered word }

-- a number was drawn
abbrev pub after_draw : View → ℕ → View
after_draw v number = record v { drawn = v.drawn + 1; late = v.late + (if nat_lt number v.limit then 0 else 1); top = number + 1 }

-- a halt was raised
abbrev pub after_halt : View → ℕ → View
after_halt v cause = record v { raised = max v.raised cause }

-- the halt word was seen
abbrev pub after_halted : View → ℕ → View
after_halted v cause = record v { met = cause }

-- one part went to a new seat
abbrev pub after_split : View → View
after_split v = record v { part = v.part - 1 }

-- the new seat has one part and what the old one had seen
abbrev pub split_view : View → View
split_view v = new_view 1 v.opening v.limit v.seen

-- the second seat was joined into the first
abbrev pub after_join : View → View → View
after_join v w = record {
  part = v.part + w.part;
  opening = v.opening;
  limit = v.limit;
  seen = min v.seen w.seen;
  offered = min v.offered w.offered;
  drawn = v.drawn + w.drawn;
  late = v.late + w.late;
  top = max v.top w.top;
  raised = max v.raised w.raised;
  met = max v.met w.met;
}

-- a view and the slots that are out with it, of which a board has none
abbrev pub Known : Type 0
Known = Me (Unit {0}) View

-- the view is now this one, and nothing is carried that was not before
abbrev pub Becomes : Known → Known → View → Type 0
Becomes m r v = (r.1 ≡ m.1) × (r.0 ≡ v)

-- the steps: s is the step, m the seat before, n the word that was found, r the seat after
abbrev pub Looks : Step (Unit {0}) → Known → ℕ → Known → Type 0
Looks s m n r = Becomes m r (after_look m.0 n) × IsBestFor m.0 n

abbrev pub Offers : Step (Unit {0}) → Known → ℕ → Known → Type 0
Offers s m n r = Becomes m r (after_offer m.0 s.first) × IsBestFor m.0 n

abbrev pub Draws : Step (Unit {0}) → Known → ℕ → Known → Type 0
Draws s m n r = Becomes m r (after_draw m.0 n) × IsCountFor m.0 n

abbrev pub Raises : Step (Unit {0}) → Known → ℕ → Known → Type 0
Raises s m n r = Becomes m r (after_halt m.0 s.first)

abbrev pub Meets : Step (Unit {0}) → Known → ℕ → Known → Type 0
Meets s m n r = Becomes m r (after_halted m.0 n) × IsCauseFor m.0 n

-- for the totals the seat stays as it is
abbrev pub TellsBest : Step (Unit {0}) → Known → ℕ → Known → Type 0
TellsBest s m n r = (r ≡ m) × IsBestFor m.0 n

abbrev pub TellsDrawn : Step (Unit {0}) → Known → ℕ → Known → Type 0
TellsDrawn s m n r = (r ≡ m) × IsCountFor m.0 n

abbrev pub TellsCause : Step (Unit {0}) → Known → ℕ → Known → Type 0
TellsCause s m n r = (r ≡ m) × IsCauseFor m.0 n
