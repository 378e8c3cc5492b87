-- One step of the definitions that go over two lists at once.
use Rattle.std.proofs.Common.{◌≡◌, ℕ, ◌+◌, ◌*◌, ◌-◌, ◌≤◌, suc, List, [], ◌∷◌, length, get_or, map, take, drop, refl, arith, ◌<◌, ◌+ℤ◌, ℤ, pos, zero, ◌++◌, add-one, add-zero, slice_get, Option, Result, Ok, Err}
use Rattle.std.specs.Prelude.{unwrap_or}
use Rattle.std.specs.List.{range_with_len, flat_map}
use Rattle.std.proofs.Math.Seq.{take-length, drop-cons}
use Rattle.std.proofs.lemmas.Int.{ints}
use Rattle.dp_base.specs.Results.{◌>>=◌}
use Rattle.dp_model.specs.declared.answers.FaultKind.{FaultKind}
use Rattle.dp_model.specs.declared.whole.Model.{Model}
use Rattle.dp_model.specs.Evaluation.{count_of, counts_of, table_counts, member_of, members_of, place_from, place_in, ways, total_of, number_cell, cells_of}
use Rattle.dp_eval.specs.Places.{LeadsTo}
use Rattle.dp_eval.specs.Totals.{place_after, total_at}

-- one member more, before those that lead to a place
leads-behind : (r : Result (Option ℕ) FaultKind) (v : Result (List ℕ) FaultKind) (k : ℕ) (f g : List ℕ → ℕ) → ((members : List ℕ) → g (k ∷ members) ≡ f members) → LeadsTo r v f → LeadsTo r (v >>= λ members. Ok (k ∷ members)) g
leads-behind (Ok word) (Ok members) k f g e h = rw (e members) h
leads-behind (Ok word) (Err kind) k f g e h = absurd h
leads-behind (Err kind) (Ok members) k f g e h = cc
leads-behind (Err kind) (Err other) k f g e h = h

-- an argument that is a member, and those after it
pub leads-next : (m : Model) (place : ℕ) (objects : List ℕ) (numbers : List ℤ) (k : ℕ) (r : Result (Option ℕ) FaultKind) → 1 ≤ length objects → 1 ≤ length numbers → member_of (count_of m (get_or objects 0 0)) (get_or numbers 0 (pos 0)) ≡ Ok k
    → LeadsTo r (members_of (counts_of m (drop 1 objects)) (drop 1 numbers)) (place_from (place * count_of m (get_or objects 0 0) + k) (counts_of m (drop 1 objects))) → LeadsTo r (members_of (counts_of m objects) numbers) (place_from place (counts_of m objects))
leads-next m place [] numbers k r h i e led = absurd (omega arith)
leads-next m place (object ∷ objects) [] k r h i e led = absurd (omega arith)
leads-next m place (object ∷ objects) (n ∷ numbers) k r h i e led =
    rw e (leads-behind r (members_of (counts_of m objects) numbers) k (place_from (place * count_of m object + k) (counts_of m objects)) (place_from place (count_of m object ∷ counts_of m objects)) (λ members. refl) led)

-- what a slice pattern binds behind the first item
pub rest-take : {A : Type 0} (xs : List A) → take (length xs - 1) (drop 1 xs) ≡ drop 1 xs
rest-take [] = refl
rest-take (x ∷ xs) = let e : suc (length xs) - 1 ≡ length xs = omega arith in rw e (take-length xs)

pub place_after-first : (place : ℕ) (counts : List ℕ) (k : ℕ) → 1 ≤ length counts → place_after place counts k ≡ place * get_or counts 0 0 + k
place_after-first place [] k h = absurd (omega arith)
place_after-first place (count ∷ counts) k h = refl

pub none_left : {A : Type 0} (xs : List A) → length xs < 1 → xs ≡ []
none_left [] h = refl
none_left (x ∷ xs) h = absurd (omega arith)

-- where no argument is left
pub total_at-none : (cells : List ℤ) (place : ℕ) (counts : List ℕ) → total_at cells place counts (ways []) ≡ unwrap_or (slice_get cells place) (pos 0)
total_at-none cells place [] = omega (arith, ints)
total_at-none cells place (count ∷ counts) = omega (arith, ints)

-- one more argument leads to its place
pub total_at-next : (cells : List ℤ) (place : ℕ) (counts : List ℕ) (k : ℕ) (ws : List (List ℕ)) → total_at cells place counts (map (λ members. k ∷ members) ws) ≡ total_at cells (place_after place counts k) (drop 1 counts) ws
total_at-next cells place counts k [] = refl
total_at-next cells place [] k (w ∷ ws) = rw (total_at-next cells place [] k ws) refl
total_at-next cells place (count ∷ counts) k (w ∷ ws) = rw (total_at-next cells place (count ∷ counts) k ws) refl

total_at-append : (cells : List ℤ) (place : ℕ) (counts : List ℕ) (vs ws : List (List ℕ)) → total_at cells place counts (vs ++ ws) ≡ total_at cells place counts vs +ℤ total_at cells place counts ws
total_at-append cells place counts [] ws = omega (arith, ints)
total_at-append cells place counts (v ∷ vs) ws = let e = total_at-append cells place counts vs ws in omega (arith, ints)

-- the ways that begin with one of these members
abbrev pub ways_from : List ℕ → List (List ℕ) → List (List ℕ)
ways_from set rest = flat_map (λ k. map (λ members. k ∷ members) rest) set

pub total_at-step : (cells : List ℤ) (place : ℕ) (counts : List ℕ) (rest : List (List ℕ)) (set : List ℕ) (i k : ℕ) → i < length set → k ≡ get_or set i 0 → total_at cells place counts (ways_from (drop i set) rest) ≡ total_at cells (place_after place counts k) (drop 1 counts) rest +ℤ total_at cells place counts (ways_from (drop (i + 1) set) rest)
total_at-step cells place counts rest set i k h e =
    rw (add-one, drop-cons set i 0, ← e, total_at-append cells place counts (map (λ members. k ∷ members) rest) (ways_from (drop (suc i) set) rest), total_at-next cells place counts k rest) refl

-- the cells of a model's table, as a list
pub total_of-at : (m : Model) (t : ℕ) (cells : List ℤ) → ((place : ℕ) → number_cell (cells_of m t) place ≡ unwrap_or (slice_get cells place) (pos 0)) → (ws : List (List ℕ)) → total_of m t ws ≡ total_at cells 0 (table_counts m t) ws
total_of-at m t cells h [] = refl
total_of-at m t cells h (w ∷ ws) = rw (h (place_in m t w), total_of-at m t cells h ws) refl

-- a total and what is left of it, one item later
pub sum-step : (total item rest left after all : ℤ) → after ≡ total +ℤ item → left ≡ item +ℤ rest → total +ℤ left ≡ all → after +ℤ rest ≡ all
sum-step total item rest left after all p q r = omega (arith, ints)

pub range-more : (a n : ℕ) → range_with_len a (n + 1) ≡ range_with_len a n ++ (a + n) ∷ []
range-more a zero = rw add-zero refl
range-more a (suc n) =
    let e : (a + 1) + n ≡ a + suc n = omega arith in
    let f : suc n + 1 ≡ suc (n + 1) = omega arith in
    rw (f, range-more (a + 1) n, e) refl
