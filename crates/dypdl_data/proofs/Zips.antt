-- Names and the counts in their places.
use Rattle.std.proofs.Common.{◌≡◌, ℕ, zero, suc, ◌+◌, List, [], ◌∷◌, ◌++◌, ◌≤◌, length, drop, take, zip, slice_get, Option, Some, None, Ok, Err, refl, sym, ap, ◌∙◌, arith, add-one}
use Rattle.std.proofs.Math.Seq.{drop-nil}
use Rattle.dp_base.specs.declared.place.Place.{Place}
use Rattle.dp_base.specs.Results.{each, Refuses}
use Rattle.dp_model.specs.declared.parts.ObjectType.{ObjectType}
use Rattle.dypdl_nodes.specs.Reads.{Refusal}
use Rattle.dypdl_data.specs.Objects.{given_step}

slice_more : {A : Type 0} (xs : List A) (i : ℕ) (x : A) → slice_get xs i ≡ Some x → drop i xs ≡ x ∷ drop (i + 1) xs
slice_more [] i x e = cc
slice_more (y ∷ ys) zero x e = let same : y ≡ x = cc in ap (λ z. z ∷ ys) same
slice_more (y ∷ ys) (suc i) x e = rw add-one (rw add-one at (slice_more ys i x e))

pub zip_more : {A B : Type 0} (xs : List A) (ys : List B) (i : ℕ) (x : A) (y : B) → slice_get xs i ≡ Some x → slice_get ys i ≡ Some y → drop i (zip xs ys) ≡ (x, y) ∷ drop (i + 1) (zip xs ys)
zip_more [] ys i x y e h = cc
zip_more (a ∷ xs) [] i x y e h = cc
zip_more (a ∷ xs) (b ∷ ys) zero x y e h =
    let first : a ≡ x = cc in
    let second : b ≡ y = cc in
    rw (first, second) refl
zip_more (a ∷ xs) (b ∷ ys) (suc i) x y e h = rw add-one (rw add-one at (zip_more xs ys i x y e h))

pub take_more : {A : Type 0} (xs : List A) (i : ℕ) (x : A) → slice_get xs i ≡ Some x → take (i + 1) xs ≡ take i xs ++ x ∷ []
take_more [] i x e = cc
take_more (y ∷ ys) zero x e = let same : y ≡ x = cc in ap (λ z. z ∷ []) same
take_more (y ∷ ys) (suc i) x e = rw add-one (ap (λ zs. y ∷ zs) (rw add-one at (take_more ys i x e)))

-- one more object type
pub given_on : (at : Place) (done next : List ObjectType) (names : List (List ℕ)) (counts : List (Option ℕ)) (i : ℕ) (word : List ℕ) (count : Option ℕ) → slice_get names i ≡ Some word → slice_get counts i ≡ Some count → given_step at done (word, count) ≡ Ok next → each (given_step at) next (drop (i + 1) (zip names counts)) ≡ each (given_step at) done (drop i (zip names counts))
given_on at done next names counts i word count e h k = rw (zip_more names counts i word count e h, k) refl

-- the first without a number
pub given_stops : (at : Place) (done : List ObjectType) (names : List (List ℕ)) (counts : List (Option ℕ)) (i : ℕ) (word : List ℕ) (count : Option ℕ) (r : Refusal) → slice_get names i ≡ Some word → slice_get counts i ≡ Some count → given_step at done (word, count) ≡ Err r → each (given_step at) done (drop i (zip names counts)) ≡ Err r
given_stops at done names counts i word count r e h k = rw (zip_more names counts i word count e h, k) refl

zip_end : {A B : Type 0} (xs : List A) (ys : List B) (i : ℕ) → length xs ≤ i → drop i (zip xs ys) ≡ []
zip_end [] ys i h = drop-nil i
zip_end (x ∷ xs) [] i h = drop-nil i
zip_end (x ∷ xs) (y ∷ ys) zero h = absurd (omega arith)
zip_end (x ∷ xs) (y ∷ ys) (suc i) h = zip_end xs ys i (omega arith)

pub given_refuses : (t : Option Refusal) (at : Place) (done : List ObjectType) (names : List (List ℕ)) (counts : List (Option ℕ)) (i : ℕ) (word : List ℕ) (count : Option ℕ) → each (given_step at) done (drop i (zip names counts)) ≡ each (given_step at) [] (zip names counts) → slice_get names i ≡ Some word → slice_get counts i ≡ Some count → Refuses t (given_step at done (word, count)) → Refuses t (each (given_step at) [] (zip names counts))
given_refuses None at done names counts i word count so_far e h k = tt
given_refuses (Some r) at done names counts i word count so_far e h k = sym so_far ∙ given_stops at done names counts i word count r e h k

pub given_done : (at : Place) (done : List ObjectType) (names : List (List ℕ)) (counts : List (Option ℕ)) (i : ℕ) → length names ≤ i → each (given_step at) done (drop i (zip names counts)) ≡ Ok done
given_done at done names counts i h = rw (zip_end names counts i h) refl
