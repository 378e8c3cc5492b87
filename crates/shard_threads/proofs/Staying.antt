-- Players that stay what they are held to, one after another.
use Rattle.std.proofs.Common.{◌≡◌, ℕ, ◌+◌, ◌<◌, ◌≤◌, inl, inr, zero, suc, Bool, true, List, [], ◌∷◌, ◌++◌, length, slice_get, slice_set, get_or, Some, refl, sym, ap, subst, ◌∙◌, arith}
use Rattle.std.proofs.lemmas.Bool.{cases_lt, cases_eq}
use Rattle.std.proofs.lemmas.Option.{slice_get_read, slice_get_within}
use Rattle.board_words.specs.Seats.{BoardFacts, SeatFacts}
use Rattle.shard_threads.specs.Players.{AllStay, AreHeld, HaveEnded, Stays}
use Rattle.shard_threads.specs.declared.seated.Seated.{Seated}
use Rattle.shard_threads.proofs.Places.{at_back, at_front, none_there}

module _ {T X P : Type 0} (keeps : T → BoardFacts → X → P → SeatFacts → Type 0) (board : BoardFacts) (boxes : X) where
  pub stay_same : (xs : List (Seated P)) → AllStay keeps board boxes xs xs
  stay_same [] = tt
  stay_same (x ∷ xs) = (λ t h. h, stay_same xs)

  pub stay_then : (xs ys zs : List (Seated P)) → AllStay keeps board boxes xs ys → AllStay keeps board boxes ys zs → AllStay keeps board boxes xs zs
  stay_then [] [] zs a b = b
  stay_then [] (y ∷ ys) zs a b = absurd a
  stay_then (x ∷ xs) [] zs a b = absurd a
  stay_then (x ∷ xs) (y ∷ ys) [] a b = absurd b
  stay_then (x ∷ xs) (y ∷ ys) (z ∷ zs) a b = (λ t h. b.0 t (a.0 t h), stay_then xs ys zs a.1 b.1)

  -- one list behind another
  pub stay_both : (xs ys us vs : List (Seated P)) → AllStay keeps board boxes xs ys → AllStay keeps board boxes us vs → AllStay keeps board boxes (xs ++ us) (ys ++ vs)
  stay_both [] [] us vs a b = b
  stay_both [] (y ∷ ys) us vs a b = absurd a
  stay_both (x ∷ xs) [] us vs a b = absurd a
  stay_both (x ∷ xs) (y ∷ ys) us vs a b = (a.0, stay_both xs ys us vs a.1 b)

  pub stay_long : (xs ys : List (Seated P)) → AllStay keeps board boxes xs ys → length ys ≡ length xs
  stay_long [] [] a = refl
  stay_long [] (y ∷ ys) a = absurd a
  stay_long (x ∷ xs) [] a = absurd a
  stay_long (x ∷ xs) (y ∷ ys) a = ap suc (stay_long xs ys a.1)

  -- one of them took a turn
  pub stay_set : (xs : List (Seated P)) (i : ℕ) (x y : Seated P) → slice_get xs i ≡ Some x → Stays keeps board boxes x y → AllStay keeps board boxes xs (slice_set xs i y)
  stay_set [] i x y at s = absurd (none_there i x at)
  stay_set (z ∷ xs) zero x y at s = (subst (λ (w : Seated P). Stays keeps board boxes w y) (let same : Some z ≡ Some x = at in cc) s, stay_same xs)
  stay_set (z ∷ xs) (suc i) x y at s = (λ t h. h, stay_set xs i x y at s)

  -- the player that was at a place
  pub stay_at : (xs ys : List (Seated P)) → AllStay keeps board boxes xs ys → (i : ℕ) (y : Seated P) → slice_get ys i ≡ Some y → (x : Seated P) × (slice_get xs i ≡ Some x) × Stays keeps board boxes x y
  stay_at [] [] a i y at = absurd (none_there i y at)
  stay_at [] (z ∷ ys) a i y at = absurd a
  stay_at (x ∷ xs) [] a i y at = absurd a
  stay_at (x ∷ xs) (z ∷ ys) a zero y at = (x, refl, subst (λ (w : Seated P). Stays keeps board boxes x w) (let same : Some z ≡ Some y = at in cc) a.0)
  stay_at (x ∷ xs) (z ∷ ys) a (suc i) y at = stay_at xs ys a.1 i y at

  pub held_still : (xs ys : List (Seated P)) → AreHeld keeps board boxes xs → AllStay keeps board boxes xs ys → AreHeld keeps board boxes ys
  held_still xs ys held a i y at = let was = stay_at xs ys a i y at in let h = held i was.0 was.1 in (h.0, was.2 h.0 h.1)

  pub held_front : (xs front back : List (Seated P)) → xs ≡ front ++ back → AreHeld keeps board boxes xs → AreHeld keeps board boxes front
  held_front xs front back e held i x at = held i x (at_front xs front back e i x at)

  pub held_back : (xs front back : List (Seated P)) → xs ≡ front ++ back → AreHeld keeps board boxes xs → AreHeld keeps board boxes back
  held_back xs front back e held i x at = held (length front + i) x (at_back xs front back e i x at)

  -- another list that is the same
  pub stay_to : (xs ys zs : List (Seated P)) → zs ≡ ys → AllStay keeps board boxes xs ys → AllStay keeps board boxes xs zs
  stay_to xs ys zs e a = subst (AllStay keeps board boxes xs) (sym e) a

-- the first so many have ended
abbrev pub HaveEndedBelow : {P : Type 0} → (P → Bool) → ℕ → List (Seated P) → Type 0
HaveEndedBelow {P} ended n players = (i : ℕ) (s : Seated P) → i < n → slice_get players i ≡ Some s → ended s.player ≡ true

pub ended_more : {P : Type 0} (ended : P → Bool) (n : ℕ) (players : List (Seated P)) (s : Seated P) → HaveEndedBelow ended n players → n < length players → s ≡ get_or players n s → ended s.player ≡ true → HaveEndedBelow ended (n + 1) players
ended_more {P} ended n players s below inside read on i x lt here =
    elim (cases_eq i n) [
      | inl z ↦ (
          let at = slice_get_read players (length players) n s refl inside read in
          let there : slice_get players n ≡ Some x = subst (λ (k : ℕ). slice_get players k ≡ Some x) z here in
          let same : s ≡ x = (let both : Some s ≡ Some x = sym at ∙ there in cc) in
          subst (λ (v : Seated P). ended v.player ≡ true) same on)
      | inr ne ↦ (let less : i < n = elim (cases_lt i n) [ inl l ↦ l | inr ge ↦ absurd (ne (omega (arith, ge, lt))) ] in below i x less here)
    ]

pub ended_all : {P : Type 0} (ended : P → Bool) (n : ℕ) (players : List (Seated P)) → length players ≤ n → HaveEndedBelow ended n players → HaveEnded ended players
ended_all ended n players long below i s at = below i s (let lt = slice_get_within players i s at in omega (arith, lt, long)) at
