-- What the view of a seat is after others were joined into it.
use Rattle.std.proofs.Common.{◌≡◌, ℕ, ◌+◌, ◌≤◌, ◌⊎◌, inl, inr, zero, suc, min, max, List, [], ◌∷◌, length, slice_get, None, Some, refl, ap, subst, ◌∙◌, arith, add-zero}
use Rattle.std.proofs.lemmas.Bool.{cases_lt}
use Rattle.board_words.specs.Seats.{SeatFacts}
use Rattle.board_words.specs.Steps.{after_join}
use Rattle.board_words.specs.declared.seat.View.{View}
use Rattle.joined_seats.specs.Joined.{joined}

none_there : {A : Type 0} (i : ℕ) (x : A) → slice_get [] i ≡ Some x → ⊥
none_there i x h = let no : None ≡ Some x = h in cc

-- a number of each seat, added up
abbrev pub all_of : (View → ℕ) → List SeatFacts → ℕ
all_of f [] = 0
all_of f (s ∷ seats) = f s.view + all_of f seats

-- ---- what is the same in each step

pub joined_same : {A : Type 0} (f : View → A) → ((v w : View) → f (after_join v w) ≡ f v) → (v : View) (seats : List SeatFacts) → f (joined v seats) ≡ f v
joined_same f same v [] = refl
joined_same f same v (s ∷ seats) = joined_same f same (after_join v s.view) seats ∙ same v s.view

-- ---- what is added up

pub joined_sum : (f : View → ℕ) → ((v w : View) → f (after_join v w) ≡ f v + f w) → (v : View) (seats : List SeatFacts) → f (joined v seats) ≡ f v + all_of f seats
joined_sum f adds v [] = omega arith
joined_sum f adds v (s ∷ seats) =
    let rest = joined_sum f adds (after_join v s.view) seats in
    let first = adds v s.view in
    omega (arith, rest, first)

-- one number of all
pub all_same : (f : View → ℕ) (n : ℕ) (seats : List SeatFacts) → ((i : ℕ) (s : SeatFacts) → slice_get seats i ≡ Some s → f s.view ≡ n) → n ≡ 1 → all_of f seats ≡ length seats
all_same f n [] each one = refl
all_same f n (s ∷ seats) each one =
    let rest = all_same f n seats (λ i x h. each (suc i) x h) one in
    let first = each 0 s refl in
    omega (arith, rest, first, one)

pub all_none : (f : View → ℕ) (seats : List SeatFacts) → ((i : ℕ) (s : SeatFacts) → slice_get seats i ≡ Some s → f s.view ≡ 0) → all_of f seats ≡ 0
all_none f [] each = refl
all_none f (s ∷ seats) each =
    let rest = all_none f seats (λ i x h. each (suc i) x h) in
    let first = each 0 s refl in
    omega (arith, rest, first)

pub all_above : (f : View → ℕ) (seats : List SeatFacts) (i : ℕ) (s : SeatFacts) → slice_get seats i ≡ Some s → f s.view ≤ all_of f seats
all_above f [] i s h = absurd (none_there i s h)
all_above f (x ∷ seats) zero s h = let same : x ≡ s = cc in let e = ap (λ (y : SeatFacts). f y.view) same in omega (arith, e)
all_above f (x ∷ seats) (suc i) s h = let rest = all_above f seats i s h in omega (arith, rest)

-- against another sum, which is written by the number of its terms
pub all_below : (f : View → ℕ) (total part : ℕ → ℕ) → ((i : ℕ) → total (suc i) ≡ total i + part i) → (seats : List SeatFacts) (k : ℕ) → ((i : ℕ) (s : SeatFacts) → slice_get seats i ≡ Some s → f s.view ≤ part (k + i)) → all_of f seats + total k ≤ total (k + length seats)
all_below f total part adds [] k each = let e = ap total (add-zero k) in omega (arith, e)
all_below f total part adds (s ∷ seats) k each =
    let here = each 0 s refl in
    let at : part (k + 0) ≡ part k = ap part (add-zero k) in
    let rest = all_below f total part adds seats (suc k) (λ i x h. subst (λ (n : ℕ). f x.view ≤ part n) (place i) (each (suc i) x h)) in
    let end : total (suc k + length seats) ≡ total (k + suc (length seats)) = ap total (omega arith) in
    let step = adds k in
    omega (arith, here, at, rest, end, step)
  where
    place : (i : ℕ) → k + suc i ≡ suc k + i
    place i = omega arith

pub all_equal : (f : View → ℕ) (total part : ℕ → ℕ) → ((i : ℕ) → total (suc i) ≡ total i + part i) → (seats : List SeatFacts) (k : ℕ) → ((i : ℕ) (s : SeatFacts) → slice_get seats i ≡ Some s → f s.view ≡ part (k + i)) → all_of f seats + total k ≡ total (k + length seats)
all_equal f total part adds [] k each = let e = ap total (add-zero k) in omega (arith, e)
all_equal f total part adds (s ∷ seats) k each =
    let here = each 0 s refl in
    let at : part (k + 0) ≡ part k = ap part (add-zero k) in
    let rest = all_equal f total part adds seats (suc k) (λ i x h. each (suc i) x h ∙ ap part (place i)) in
    let end : total (suc k + length seats) ≡ total (k + suc (length seats)) = ap total (omega arith) in
    let step = adds k in
    omega (arith, here, at, rest, end, step)
  where
    place : (i : ℕ) → k + suc i ≡ suc k + i
    place i = omega arith

-- ---- of which the least is kept

module _ (f : View → ℕ) (keeps : (v w : View) → f (after_join v w) ≡ min (f v) (f w)) where
  pub least_first : (v : View) (seats : List SeatFacts) → f (joined v seats) ≤ f v
  least_first v [] = omega arith
  least_first v (s ∷ seats) = let rest = least_first (after_join v s.view) seats in let step = keeps v s.view in omega (arith, rest, step)

  pub least_each : (v : View) (seats : List SeatFacts) (i : ℕ) (s : SeatFacts) → slice_get seats i ≡ Some s → f (joined v seats) ≤ f s.view
  least_each v [] i s h = absurd (none_there i s h)
  least_each v (x ∷ seats) zero s h =
      let same : x ≡ s = cc in
      let e = ap (λ (y : SeatFacts). f y.view) same in
      let rest = least_first (after_join v x.view) seats in
      let step = keeps v x.view in
      omega (arith, e, rest, step)
  least_each v (x ∷ seats) (suc i) s h = least_each (after_join v x.view) seats i s h

  pub least_one : (v : View) (seats : List SeatFacts) → (f (joined v seats) ≡ f v) ⊎ ((i : ℕ) × (s : SeatFacts) × (slice_get seats i ≡ Some s) × (f (joined v seats) ≡ f s.view))
  least_one v [] = inl refl
  least_one v (x ∷ seats) =
      elim (least_one (after_join v x.view) seats) [
        | inl e ↦ (let step = keeps v x.view in elim (cases_lt (f x.view) (f v)) [
          | inl lt ↦ (let is : f (joined (after_join v x.view) seats) ≡ f x.view = omega (arith, e, step, lt) in inr (0, x, refl, is))
          | inr le ↦ (let is : f (joined (after_join v x.view) seats) ≡ f v = omega (arith, e, step, le) in inl is)
        ])
        | inr r ↦ inr (suc r.0, r.1, r.2, r.3)
      ]

-- ---- of which the greatest is kept

module _ (f : View → ℕ) (keeps : (v w : View) → f (after_join v w) ≡ max (f v) (f w)) where
  pub greatest_first : (v : View) (seats : List SeatFacts) → f v ≤ f (joined v seats)
  greatest_first v [] = omega arith
  greatest_first v (s ∷ seats) = let rest = greatest_first (after_join v s.view) seats in let step = keeps v s.view in omega (arith, rest, step)

  pub greatest_each : (v : View) (seats : List SeatFacts) (i : ℕ) (s : SeatFacts) → slice_get seats i ≡ Some s → f s.view ≤ f (joined v seats)
  greatest_each v [] i s h = absurd (none_there i s h)
  greatest_each v (x ∷ seats) zero s h =
      let same : x ≡ s = cc in
      let e = ap (λ (y : SeatFacts). f y.view) same in
      let rest = greatest_first (after_join v x.view) seats in
      let step = keeps v x.view in
      omega (arith, e, rest, step)
  greatest_each v (x ∷ seats) (suc i) s h = greatest_each (after_join v x.view) seats i s h

  pub greatest_one : (v : View) (seats : List SeatFacts) → (f (joined v seats) ≡ f v) ⊎ ((i : ℕ) × (s : SeatFacts) × (slice_get seats i ≡ Some s) × (f (joined v seats) ≡ f s.view))
  greatest_one v [] = inl refl
  greatest_one v (x ∷ seats) =
      elim (greatest_one (after_join v x.view) seats) [
        | inl e ↦ (let step = keeps v x.view in elim (cases_lt (f v) (f x.view)) [
          | inl lt ↦ (let is : f (joined (after_join v x.view) seats) ≡ f x.view = omega (arith, e, step, lt) in inr (0, x, refl, is))
          | inr le ↦ (let is : f (joined (after_join v x.view) seats) ≡ f v = omega (arith, e, step, le) in inl is)
        ])
        | inr r ↦ inr (suc r.0, r.1, r.2, r.3)
      ]
