-- One more step of the lists that the definitions make.
use Rattle.std.proofs.Common.{append_assoc, ◌≡◌, ℕ, zero, suc, ◌+◌, ◌-◌, ◌*◌, ◌%◌, ◌<◌, ◌≤◌, ◌⊎◌, inl, inr, ⊎_elim, Bool, true, false, cond, not, List, [], ◌∷◌, ◌++◌, map, length, drop, slice_index_or, String, Global, string_bytes, Result, IfOk, decimal, refl, sym, ap, subst, ◌∙◌, arith, add-zero, add-one, mod-lt, if◌then◌else◌}
use Rattle.std.specs.Prelude.{◌==◌, sum}
use Rattle.std.specs.List.{range_with_len, flat_map}
use Rattle.std.specs.declared.alloc.AllocError.{AllocError}
use Rattle.std.proofs.lemmas.List.{get_or_past}
use Rattle.std.proofs.lemmas.List.FromFn.{map-range_with_len_more, filter_of_map_range_with_len_more, length-map-range_with_len, get_or-map-range_with_len}
use Rattle.std.proofs.lemmas.List.Sums.{sum_by-cons}
use Rattle.std.proofs.lemmas.Grind.{flat_map-append}
use Rattle.std.proofs.Math.Seq.{drop-cons}
use Rattle.model_gen.specs.Draws.{after, next_of, draw, drawn}
use Rattle.model_gen.specs.Texts.{first_draws, second_draws, ways_to, way_to, others, lines}

pub after_two : (seed d : ℕ) → after seed (2 * (d + 1)) ≡ next_of (next_of (after seed (2 * d)))
after_two seed d = let p : 2 * (d + 1) ≡ suc (suc (2 * d)) = omega arith in rw p refl

zero_plus : (n : ℕ) → 0 + n ≡ n
zero_plus n = omega arith

pub first_more : (seed n : ℕ) → first_draws (n + 1) seed ≡ first_draws n seed ++ drawn (next_of (after seed (2 * n))) ∷ []
first_more seed n = map-range_with_len_more (λ i. draw seed (2 * i)) 0 n n (zero_plus n)

pub second_more : (seed n : ℕ) → second_draws (n + 1) seed ≡ second_draws n seed ++ drawn (next_of (next_of (after seed (2 * n)))) ∷ []
second_more seed n =
    let p : 2 * n + 1 ≡ suc (2 * n) = omega arith in
    let q : draw seed (2 * n + 1) ≡ drawn (next_of (next_of (after seed (2 * n)))) = rw p refl in
    map-range_with_len_more (λ i. draw seed (2 * i + 1)) 0 n n (zero_plus n) ∙ ap (λ v. second_draws n seed ++ v ∷ []) q

unless : {A : Type 0} (b : Bool) (xs : List A) → cond (not b) xs [] ≡ (if b then [] else xs)
unless true xs = refl
unless false xs = refl

pub ways_more : (i n : ℕ) → ways_to i (n + 1) ≡ ways_to i n ++ way_to i n
ways_more i n =
    filter_of_map_range_with_len_more (λ (way : ℕ × ℕ). not (way.0 == way.1)) (λ j. (i, j)) 0 n n (zero_plus n)
    ∙ ap (λ l. ways_to i n ++ l) (unless (i == n) ((i, n) ∷ []))

range_more : (a n : ℕ) → range_with_len a (n + 1) ≡ range_with_len a n ++ (a + n) ∷ []
range_more a zero = rw add-zero refl
range_more a (suc n) =
    let e : (a + 1) + n ≡ a + suc n = omega arith in
    let f : suc n + 1 ≡ suc (n + 1) = omega arith in
    rw (f, range_more (a + 1) n, e) refl

append_nil : {A : Type 0} (xs : List A) → xs ++ [] ≡ xs
append_nil [] = refl
append_nil (x ∷ xs) = ap (λ l. x ∷ l) (append_nil xs)

pub all_ways_more : (size n : ℕ) → flat_map (others size) (range_with_len 0 (n + 1)) ≡ flat_map (others size) (range_with_len 0 n) ++ others size n
all_ways_more size n =
    let one : flat_map (others size) (n ∷ []) ≡ others size n = append_nil (others size n) in
    ap (flat_map (others size)) (range_more 0 n ∙ ap (λ k. range_with_len 0 n ++ k ∷ []) (zero_plus n)) ∙ flat_map-append (others size) (range_with_len 0 n) (n ∷ []) ∙ ap (λ l. flat_map (others size) (range_with_len 0 n) ++ l) one

-- sums of numbers that are at most 100

pub sum_step : (values : List ℕ) (k total : ℕ) → k < length values → ((i : ℕ) → slice_index_or values i 0 ≤ 100) → total + sum (drop k values) ≡ sum values → total ≤ 100 * k → (total + slice_index_or values k 0 + sum (drop (k + 1) values) ≡ sum values) × (total + slice_index_or values k 0 ≤ 100 * (k + 1))
sum_step values k total lt small is most =
    let d : sum (drop k values) ≡ slice_index_or values k 0 + sum (drop (k + 1) values) = rw (add-one, drop-cons values k 0 lt) (sum_by-cons (λ x. x) (slice_index_or values k 0) (drop (suc k) values)) in
    let s = small k in
    (omega arith, omega arith)

-- the towns that are left

pub towns_more : (t : ℕ) → 1 ≤ t → map decimal (range_with_len 1 (t + 1 - 1)) ≡ map decimal (range_with_len 1 (t - 1)) ++ decimal t ∷ []
towns_more t some =
    let e : t + 1 - 1 ≡ t - 1 + 1 = omega arith in
    rw e (map-range_with_len_more decimal 1 (t - 1) t (omega arith))

pub towns_end : (t size : ℕ) → size ≤ t → t ≤ size → map decimal (range_with_len 1 (t - 1)) ≡ map decimal (range_with_len 1 (size - 1))
towns_end t size p q = let e : t ≡ size = omega arith in rw e refl

-- how many numbers a knapsack has, and how large they are

pub second_length : (seed n : ℕ) → length (second_draws n seed) ≡ n
second_length seed n = length-map-range_with_len (λ i. draw seed (2 * i + 1)) 0 n

order : (i n : ℕ) → (i < n) ⊎ (n ≤ i)
order i zero = inr (omega arith)
order zero (suc n) = inl (omega arith)
order (suc i) (suc n) = ⊎_elim (λ (lt : i < n). inl (omega arith)) (λ (le : n ≤ i). inr (omega arith)) (order i n)

drawn_small : (x : ℕ) → drawn x ≤ 100
drawn_small x = let p : x % 100 < 100 = mod-lt x (omega arith) in omega arith

pub second_small : (seed n i : ℕ) → slice_index_or (second_draws n seed) i 0 ≤ 100
second_small seed n i = ⊎_elim
    (λ (lt : i < n). rw (get_or-map-range_with_len (λ k. draw seed (2 * k + 1)) 0 n i i 0 lt (zero_plus i)) (drawn_small (after seed (suc (2 * i + 1)))))
    (λ (le : n ≤ i). rw (get_or_past (second_draws n seed) i 0 (rw (second_length seed n) le)) (omega arith))
    (order i n)

-- lines of a text, one by one

pub both : (x y : List ℕ) (xs ys : List (List ℕ)) → x ≡ y → xs ≡ ys → x ∷ xs ≡ y ∷ ys
both x y xs ys p q = rw (p, q) refl

pub same_lines : (r : Result (String Global) AllocError) (xs ys : List (List ℕ)) → xs ≡ ys → IfOk r (λ t. string_bytes t ≡ lines xs) → IfOk r (λ t. string_bytes t ≡ lines ys)
same_lines r xs ys same h = subst (λ (l : List (List ℕ)). IfOk r (λ t. string_bytes t ≡ lines l)) same h

pub more_ways : (i n : ℕ) (old mid new : List (ℕ × ℕ)) → new ≡ mid ++ way_to i n → mid ≡ old ++ ways_to i n → new ≡ old ++ ways_to i (n + 1)
more_ways i n old mid new p q = p ∙ ap (λ l. l ++ way_to i n) q ∙ append_assoc old (ways_to i n) (way_to i n) ∙ ap (λ l. old ++ l) (sym (ways_more i n))
