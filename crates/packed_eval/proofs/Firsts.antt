-- Members that are taken off a set one after another.
use Rattle.std.proofs.Common.{◌≡◌, ℕ, ◌+◌, ◌-◌, ◌*◌, true, false, eqb, List, [], ◌∷◌, length, get_or, take, drop, length-drop, ℤ, ◌+ℤ◌, refl, ap, ◌∙◌, arith}
use Rattle.std.specs.Prelude.{Some, None, slice_get}
use Rattle.std.proofs.lemmas.Int.{ints}
use Rattle.std.proofs.lemmas.List.{take_all}
use Rattle.bit_sets.specs.Sets.{members_of}
use Rattle.state_layout.specs.Signatures.{word_count}
use Rattle.packed_words.specs.Totals.{total_by}
use Rattle.packed_words.specs.Sets.{members_from}
use Rattle.packed_eval.specs.Sums.{words_of, sets_in, total_over}
use Rattle.packed_eval.specs.Rows.{met_by, all_met}
use Rattle.packed_eval.specs.declared.rows.Sides.{Sides}
use Rattle.packed_eval.proofs.Foralls.{from_start}

-- a list begins with its first item
pub begins : (xs : List ℕ) (k : ℕ) → Some k ≡ slice_get xs 0 → xs ≡ k ∷ drop 1 xs
begins [] k e = absurd (cc)
begins (x ∷ xs) k e = let same : x ≡ k = cc in ap (λ (j : ℕ). j ∷ xs) same

pub shorter : (xs ys : List ℕ) (k : ℕ) → xs ≡ k ∷ ys → length xs ≡ length ys + 1
shorter xs ys k e = rw e (omega arith)

-- whether a comparison holds for those that are left
pub met_next : (sides : Sides) (xs ys : List ℕ) (k : ℕ) → xs ≡ k ∷ ys → met_by sides k ≡ Some true → all_met sides ys ≡ all_met sides xs
met_next sides xs ys k p e = rw (p, e) refl

pub met_not : (sides : Sides) (xs : List ℕ) (k : ℕ) → Some k ≡ slice_get xs 0 → met_by sides k ≡ Some false → Some false ≡ all_met sides xs
met_not sides xs k p e = rw (begins xs k p, e) refl

pub met_nowhere : (sides : Sides) (xs : List ℕ) (k : ℕ) → Some k ≡ slice_get xs 0 → met_by sides k ≡ None → None ≡ all_met sides xs
met_nowhere sides xs k p e = rw (begins xs k p, e) refl

pub met_last : (sides : Sides) (xs : List ℕ) → None ≡ slice_get xs 0 → Some true ≡ all_met sides xs
met_last sides [] e = refl
met_last sides (x ∷ xs) e = absurd (cc)

-- the total of those that are left
pub total_next : (f : ℕ → ℤ) (xs ys : List ℕ) (k : ℕ) (total cell after all : ℤ) → xs ≡ k ∷ ys → cell ≡ f k → after ≡ total +ℤ cell → total +ℤ total_by f xs ≡ all → after +ℤ total_by f ys ≡ all
total_next f xs ys k total cell after all p q r h = of_rest (rw p at h)
  where
    of_rest : total +ℤ total_by f (k ∷ ys) ≡ all → after +ℤ total_by f ys ≡ all
    of_rest e = omega (arith, ints, q, r)

pub total_done : (f : ℕ → ℤ) (xs : List ℕ) (total all : ℤ) → None ≡ slice_get xs 0 → total +ℤ total_by f xs ≡ all → total ≡ all
total_done f [] total all e h = omega (arith, ints, h)
total_done f (x ∷ xs) total all e h = absurd (cc)

-- two counts and their sets
pub two_counts : (xs : List ℕ) (d e x y : ℕ) → length xs ≡ 2 → x ≡ get_or xs 0 d → y ≡ get_or xs 1 e → xs ≡ x ∷ y ∷ []
two_counts [] d e x y n p q = absurd (omega (arith, n))
two_counts (a ∷ []) d e x y n p q = absurd (omega (arith, n))
two_counts (a ∷ b ∷ []) d e x y n p q = rw (p, q) refl
two_counts (a ∷ b ∷ c ∷ cs) d e x y n p q = absurd (omega (arith, n))

pub two_told : (cell : ℕ → ℤ) (counts held set behind : List ℕ) (count last : ℕ) (total : ℤ) → counts ≡ count ∷ last ∷ [] → length held ≡ words_of counts → set ≡ take (word_count count) held → behind ≡ drop (word_count count) held → total ≡ total_by (λ k. total_by (λ j. cell ((0 * count + k) * last + j)) (members_of behind)) (members_of set) → total ≡ total_over cell 0 counts (sets_in counts held)
two_told cell counts held set behind count last total p n s b h =
    let all : length held ≡ word_count count + (word_count last + 0) = rw p at n in
    let cut : length (drop (word_count count) held) ≡ length held - word_count count = length-drop (word_count count) held in
    let whole : take (word_count last) (drop (word_count count) held) ≡ drop (word_count count) held = take_all (word_count last) (drop (word_count count) held) (omega (arith, all, cut)) in
    rw (p, whole, ← s, ← b) h

-- a list without a first item is empty
pub no_first : (xs : List ℕ) → None ≡ slice_get (members_from 0 xs) 0 → true ≡ eqb (length xs) 0
no_first xs e = by xs (e ∙ ap (λ (ys : List ℕ). slice_get ys 0) (from_start xs))
  where
    by : (ys : List ℕ) → None ≡ slice_get ys 0 → true ≡ eqb (length ys) 0
    by [] h = refl
    by (y ∷ ys) h = absurd (cc)
