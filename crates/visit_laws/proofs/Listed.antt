-- The lists of the forced ground transitions and of the others.
use Rattle.std.proofs.Common.{◌≡◌, ℕ, zero, suc, ◌+◌, ◌<◌, ◌≤◌, Bool, true, false, not, cond, ◌⊎◌, inl, inr, List, [], ◌∷◌, length, slice_get, filter, Option, Some, None, refl, sym, ap, subst, ◌∙◌, arith, zero-add}
use Rattle.std.specs.List.{list_all, range_with_len}
use Rattle.std.proofs.lemmas.Bool.{false≢true, cases_lt, and_parts, not-true, not_from_false}
use Rattle.dp_model.specs.StepTexts.{ground_of}
use Rattle.dp_model.specs.Typing.{is_ground}
use Rattle.dp_model.specs.declared.parts.Ground.{Ground}
use Rattle.dp_model.specs.declared.parts.Transition.{Transition}
use Rattle.dp_model.specs.declared.whole.Model.{Model}
use Rattle.dp_claims.specs.Enough.{Has}
use Rattle.spot_eval.specs.Moves.{forced_of, is_forced, named_forced, others_of}
use Rattle.visit_laws.specs.Transitions.{ForcedListed, IsOther, OthersListed}
use Rattle.visit_laws.proofs.Rising.{Rises, increasing, rises_sooner}
use Rattle.visit_laws.proofs.Transitions.{forced_is, ground_within, is_forced_there}

-- ---- the numbers of a range that pass a test

module _ (p : ℕ → Bool) where
  rise_step : (from : ℕ) (b : Bool) (xs : List ℕ) → Rises (from + 1) xs → Rises from (cond b (from ∷ xs) xs)
  rise_step from true xs h = (omega arith, h)
  rise_step from false xs h = rises_sooner from (from + 1) xs (omega arith) h

  pub rise : (n from : ℕ) → Rises from (filter p (range_with_len from n))
  rise zero from = tt
  rise (suc n) from = rise_step from (p from) (filter p (range_with_len (from + 1) n)) (rise n (from + 1))

  passes_step : (from x k : ℕ) (b : Bool) (xs : List ℕ) → p from ≡ b → ((k : ℕ) → slice_get xs k ≡ Some x → p x ≡ true) → slice_get (cond b (from ∷ xs) xs) k ≡ Some x → p x ≡ true
  passes_step from x k false xs q rest e = rest k e
  passes_step from x zero true xs q rest e = let same : from ≡ x = cc in subst (λ (y : ℕ). p y ≡ true) same q
  passes_step from x (suc k) true xs q rest e = rest k e

  -- each that is listed passes
  pub listed_passes : (n from x k : ℕ) → slice_get (filter p (range_with_len from n)) k ≡ Some x → p x ≡ true
  listed_passes zero from x k e = absurd (cc)
  listed_passes (suc n) from x k e = passes_step from x k (p from) (filter p (range_with_len (from + 1) n)) refl (λ j h. listed_passes n (from + 1) x j h) e

  below_step : (from x k to : ℕ) (b : Bool) (xs : List ℕ) → from < to → ((k : ℕ) → slice_get xs k ≡ Some x → x < to) → slice_get (cond b (from ∷ xs) xs) k ≡ Some x → x < to
  below_step from x k to false xs high rest e = rest k e
  below_step from x zero to true xs high rest e = let same : from ≡ x = cc in subst (λ (y : ℕ). y < to) same high
  below_step from x (suc k) to true xs high rest e = rest k e

  -- and is in the range
  pub listed_below : (n from x k to : ℕ) → from + n ≡ to → slice_get (filter p (range_with_len from n)) k ≡ Some x → x < to
  listed_below zero from x k to at e = absurd (cc)
  listed_below (suc n) from x k to at e = below_step from x k to (p from) (filter p (range_with_len (from + 1) n)) (omega arith) (λ j h. listed_below n (from + 1) x j to (omega arith) h) e

  later : (b : Bool) (from x : ℕ) (xs : List ℕ) → Has xs x → Has (cond b (from ∷ xs) xs) x
  later true from x xs has = (suc has.0, has.1)
  later false from x xs has = has

  has_step : (from x : ℕ) (b : Bool) (xs : List ℕ) → p from ≡ b → p x ≡ true → (from < x → Has xs x) → from ≤ x → (from < x) ⊎ (x ≤ from) → Has (cond b (from ∷ xs) xs) x
  has_step from x b xs q passes rest low (inl less) = later b from x xs (rest less)
  has_step from x true xs q passes rest low (inr most) = let same : from ≡ x = omega arith in (zero, ap (λ (y : ℕ). Some y) same)
  has_step from x false xs q passes rest low (inr most) =
      let same : x ≡ from = omega arith in
      absurd (false≢true (sym q ∙ subst (λ (y : ℕ). p y ≡ true) same passes))

  -- each in the range that passes is listed
  pub passes_listed : (n from x : ℕ) → from ≤ x → x < from + n → p x ≡ true → Has (filter p (range_with_len from n)) x
  passes_listed zero from x low high passes = absurd (omega arith)
  passes_listed (suc n) from x low high passes =
      has_step from x (p from) (filter p (range_with_len (from + 1) n)) refl passes (λ less. passes_listed n (from + 1) x (omega arith) (omega arith) passes) low (cases_lt from x)

-- ---- ground transitions name transitions

holds_at : {A : Type 0} (test : A → Bool) (xs : List A) (i : ℕ) (x : A) → list_all test xs ≡ true → slice_get xs i ≡ Some x → test x ≡ true
holds_at test [] i x h e = absurd (cc)
holds_at test (y ∷ ys) zero x h e = let same : y ≡ x = cc in rw (← same) (and_parts (test y) (list_all test ys) h).0
holds_at test (y ∷ ys) (suc i) x h e = holds_at test ys i x (and_parts (test y) (list_all test ys) h).1 e

names_one : (m : Model) (g : ℕ) (x : Ground) (o : Option Transition) → slice_get m.dp_ground g ≡ Some x → slice_get m.transitions x.transition ≡ o → (t : Transition × List ℕ) × (ground_of m g ≡ Some t)
names_one m g x None here there =
    let grounded = holds_at (is_ground m.objects m.variables m.transitions) m.dp_ground g x m.grounded here in
    absurd (false≢true (rw there at grounded))
names_one m g x (Some t) here there = ((t, x.args), rw (here, there) refl)

names_at : (m : Model) (g : ℕ) (o : Option Ground) → slice_get m.dp_ground g ≡ o → g < length m.dp_ground → (t : Transition × List ℕ) × (ground_of m g ≡ Some t)
names_at m g None here high = absurd (past m.dp_ground g here high)
  where
    past : (xs : List Ground) (i : ℕ) → slice_get xs i ≡ None → i < length xs → ⊥
    past [] i e h = absurd (omega arith)
    past (x ∷ xs) zero e h = absurd (cc)
    past (x ∷ xs) (suc i) e h = past xs i e (omega arith)
names_at m g (Some x) here high = names_one m g x (slice_get m.transitions x.transition) here refl

-- each number below the count names a transition
names : (m : Model) (g : ℕ) → g < length m.dp_ground → (t : Transition × List ℕ) × (ground_of m g ≡ Some t)
names m g high = names_at m g (slice_get m.dp_ground g) refl high

-- ---- the two lists

pub forced_listed : ForcedListed
forced_listed m = (
  increasing 0 (forced_of m) (rise (is_forced m) (length m.dp_ground) 0),
  λ f. (
    λ has. forced_is m f (listed_passes (is_forced m) (length m.dp_ground) 0 f has.0 has.1),
    λ forced.
        (let within = ground_within m f forced.0 forced.1 in
        passes_listed (is_forced m) (length m.dp_ground) 0 f (omega arith) (omega arith) (is_forced_there m f forced)),
  ),
)

other_is : (m : Model) (g : ℕ) → g < length m.dp_ground → not (is_forced m g) ≡ true → IsOther m g
other_is m g high free =
    let named = names m g high in
    (named.0, named.1, sym (ap named_forced named.1) ∙ not-true (is_forced m g) free)

pub others_listed : OthersListed
others_listed m = (
  increasing 0 (others_of m) (rise (λ g. not (is_forced m g)) (length m.dp_ground) 0),
  λ g. (
    λ has.
        (let passes = listed_passes (λ g. not (is_forced m g)) (length m.dp_ground) 0 g has.0 has.1 in
        let high = listed_below (λ g. not (is_forced m g)) (length m.dp_ground) 0 g has.0 (length m.dp_ground) (zero-add (length m.dp_ground)) has.1 in
        other_is m g high passes),
    λ other.
        (let within = ground_within m g other.0 other.1 in
        let free : is_forced m g ≡ false = ap named_forced other.1 ∙ other.2 in
        passes_listed (λ g. not (is_forced m g)) (length m.dp_ground) 0 g (omega arith) (omega arith) (not_from_false (is_forced m g) free)),
  ),
)
