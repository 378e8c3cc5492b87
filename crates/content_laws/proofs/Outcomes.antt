-- What is known of steps that gave a value.
use Rattle.std.proofs.Common.{◌≡◌, ℕ, zero, suc, ◌<◌, List, [], ◌∷◌, length, refl, Option, Some, None, Result, Ok, arith, ap}
use Rattle.std.specs.Prelude.{slice_get, slice_set, option_and_then}
use Rattle.dp_base.specs.declared.place.Place.{Place}
use Rattle.dypdl_nodes.specs.Reads.{or_refuse}

pub ok_same : {A E : Type 0} (x y : A) → ◌≡◌ {A = Result A E} (Ok x) (Ok y) → x ≡ y
ok_same x y e = cc

pub there_is : {A B : Type 0} (number : ℕ) (at : Place) (f : A → Option B) (o : Option A) (y : B) → or_refuse number at (option_and_then f o) ≡ Ok y → (x : A) × (o ≡ Some x) × (f x ≡ Some y)
there_is {A} {B} number at f None y e = absurd (cc e)
there_is {A} {B} number at f (Some x) y e = (x, refl, known (f x) e)
  where
    known : (o : Option B) → or_refuse number at o ≡ Ok y → o ≡ Some y
    known None h = absurd (cc h)
    known (Some z) h = let same : z ≡ y = cc in ap Some same

-- ---- lists

pub in_list : {A : Type 0} (xs : List A) (k : ℕ) → k < length xs → (x : A) × (slice_get xs k ≡ Some x)
in_list [] k h = absurd (omega arith)
in_list (x ∷ xs) zero h = (x, refl)
in_list (x ∷ xs) (suc k) h = in_list xs k (omega arith)

-- what stands where something was set
pub set_at : {A : Type 0} (xs : List A) (i : ℕ) (x y : A) → slice_get (slice_set xs i x) i ≡ Some y → x ≡ y
set_at [] i x y e = absurd (cc e)
set_at (z ∷ xs) zero x y e = cc
set_at (z ∷ xs) (suc i) x y e = set_at xs i x y e

pub set_there : {A : Type 0} (xs : List A) (i : ℕ) (x : A) → i < length xs → slice_get (slice_set xs i x) i ≡ Some x
set_there [] i x h = absurd (omega arith)
set_there (z ∷ xs) zero x h = refl
set_there (z ∷ xs) (suc i) x h = set_there xs i x (omega arith)

pub set_elsewhere : {A : Type 0} (xs : List A) (k i : ℕ) (x : A) → (k ≡ i → ⊥) → slice_get (slice_set xs k x) i ≡ slice_get xs i
set_elsewhere [] k i x differ = refl
set_elsewhere (z ∷ xs) zero zero x differ = absurd (differ refl)
set_elsewhere (z ∷ xs) zero (suc i) x differ = refl
set_elsewhere (z ∷ xs) (suc k) zero x differ = refl
set_elsewhere (z ∷ xs) (suc k) (suc i) x differ = set_elsewhere xs k i x (λ e. differ (ap suc e))

pub set_length : {A : Type 0} (xs : List A) (i : ℕ) (x : A) → length (slice_set xs i x) ≡ length xs
set_length [] i x = refl
set_length (z ∷ xs) zero x = refl
set_length (z ∷ xs) (suc i) x = ap suc (set_length xs i x)
