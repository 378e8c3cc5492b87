-- Lists whose items all pass a test, and ascending lists.
use Rattle.std.proofs.Common.{◌≡◌, ℕ, zero, suc, ◌+◌, ◌-◌, ◌≤◌, ◌<◌, Bool, true, false, not, cond, ◌&&◌, ltb, List, [], ◌∷◌, length, get_or, filter, slice_get, Some, refl, arith}
use Rattle.std.specs.List.{list_all, range_with_len}
use Rattle.std.proofs.lemmas.Bool.{and_parts, and_from, ltb-true, ltb-false, lt-ltb, le-ltb, not-true, not_from_false}
use Rattle.dp_model.specs.Typing.{ascends, is_set_below}
use Rattle.dp_model.specs.Evaluation.{members_where}

pub all_at : {A : Type 0} (p : A → Bool) (xs : List A) (i : ℕ) (x : A) → list_all p xs ≡ true → slice_get xs i ≡ Some x → p x ≡ true
all_at p [] i x h e = absurd (cc)
all_at p (y ∷ ys) zero x h e = let same : y ≡ x = cc in rw (← same) ((and_parts (p y) (list_all p ys) h).0)
all_at p (y ∷ ys) (suc i) x h e = all_at p ys i x (and_parts (p y) (list_all p ys) h).1 e

pub all_get : {A : Type 0} (p : A → Bool) (xs : List A) (i : ℕ) (d : A) → list_all p xs ≡ true → i < length xs → p (get_or xs i d) ≡ true
all_get p [] i d h k = absurd (omega arith)
all_get p (y ∷ ys) zero d h k = (and_parts (p y) (list_all p ys) h).0
all_get p (y ∷ ys) (suc i) d h k = all_get p ys i d (and_parts (p y) (list_all p ys) h).1 (omega arith)

-- ---- ascending lists

no_less : (a b : ℕ) → a ≤ b → not (ltb b a) ≡ true
no_less a b h = not_from_false (ltb b a) (le-ltb b a h)

is_no_less : (a b : ℕ) → not (ltb b a) ≡ true → a ≤ b
is_no_less a b e = ltb-false b a (not-true (ltb b a) e)

pub ascends-from : (least count x : ℕ) (xs : List ℕ) → least ≤ x → x < count → ascends (suc x) count xs ≡ true → ascends least count (x ∷ xs) ≡ true
ascends-from least count x xs low high rest = and_from (not (ltb x least)) (ltb x count && ascends (suc x) count xs) (no_less least x low) (and_from (ltb x count) (ascends (suc x) count xs) (lt-ltb x count high) rest)

pub ascends-parts : (least count x : ℕ) (xs : List ℕ) → ascends least count (x ∷ xs) ≡ true → (least ≤ x) × (x < count) × (ascends (suc x) count xs ≡ true)
ascends-parts least count x xs e =
    let a = and_parts (not (ltb x least)) (ltb x count && ascends (suc x) count xs) e in
    let b = and_parts (ltb x count) (ascends (suc x) count xs) a.1 in
    (is_no_less least x a.0, ltb-true x count b.0, b.1)

-- an ascending list is no longer than there are numbers for it
pub ascends-length : (least count : ℕ) (xs : List ℕ) → ascends least count xs ≡ true → length xs ≤ count - least
ascends-length least count [] e = omega arith
ascends-length least count (x ∷ xs) e =
    let p = ascends-parts least count x xs e in
    let low = p.0 in
    let high = p.1 in
    let h = ascends-length (suc x) count xs p.2 in
    omega arith

-- each item of an ascending list is below the count
pub ascends-below : (test : ℕ → Bool) (least count : ℕ) (xs : List ℕ) → ((k : ℕ) → k < count → test k ≡ true) → ascends least count xs ≡ true → list_all test xs ≡ true
ascends-below test least count [] f e = refl
ascends-below test least count (x ∷ xs) f e =
    let p = ascends-parts least count x xs e in
    and_from (test x) (list_all test xs) (f x p.1) (ascends-below test (suc x) count xs f p.2)

filter-step : (test : ℕ → Bool) (b : Bool) (least count x : ℕ) (xs : List ℕ) → least ≤ x → x < count → ascends (suc x) count xs ≡ true → ascends least count xs ≡ true → ascends least count (cond b (x ∷ xs) xs) ≡ true
filter-step test true least count x xs h k p q = ascends-from least count x xs h k p
filter-step test false least count x xs h k p q = q

where-ascends : (test : ℕ → Bool) (least count start n : ℕ) → least ≤ start → start + n ≤ count → ascends least count (filter test (range_with_len start n)) ≡ true
where-ascends test least count start zero h k = refl
where-ascends test least count start (suc n) h k =
    filter-step test (test start) least count start (filter test (range_with_len (start + 1) n)) h (omega arith)
    (where-ascends test (suc start) count (start + 1) n (omega arith) (omega arith))
    (where-ascends test least count (start + 1) n (omega arith) (omega arith))

-- the members for which a test holds
pub where_below : (count : ℕ) (test : ℕ → Bool) → is_set_below count (members_where count test) ≡ true
where_below count test = where-ascends test 0 count 0 count (omega arith) (omega arith)

range-ascends : (least count start n : ℕ) → least ≤ start → start + n ≤ count → ascends least count (range_with_len start n) ≡ true
range-ascends least count start zero h k = refl
range-ascends least count start (suc n) h k = ascends-from least count start (range_with_len (start + 1) n) h (omega arith) (range-ascends (suc start) count (start + 1) n (omega arith) (omega arith))

pub range_below : (count : ℕ) → is_set_below count (range_with_len 0 count) ≡ true
range_below count = range-ascends 0 count 0 count (omega arith) (omega arith)
