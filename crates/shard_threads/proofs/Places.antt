-- Places in lists of two parts.
use Rattle.std.proofs.Common.{◌≡◌, ℕ, ◌+◌, zero, suc, List, [], ◌∷◌, ◌++◌, length, length-append, slice_get, Some, None, refl, sym, ap, subst, ◌∙◌, arith}

pub none_there : {A : Type 0} (i : ℕ) (x : A) → slice_get [] i ≡ Some x → ⊥
none_there i x h = let no : None ≡ Some x = h in cc

left : {A : Type 0} (xs ys : List A) (i : ℕ) (x : A) → slice_get xs i ≡ Some x → slice_get (xs ++ ys) i ≡ Some x
left [] ys i x h = absurd (none_there i x h)
left (y ∷ xs) ys zero x h = h
left (y ∷ xs) ys (suc i) x h = left xs ys i x h

right : {A : Type 0} (xs ys : List A) (i j : ℕ) (x : A) → j ≡ length xs + i → slice_get ys i ≡ Some x → slice_get (xs ++ ys) j ≡ Some x
right [] ys i j x e h = subst (λ (n : ℕ). slice_get ys n ≡ Some x) (omega (arith, e)) h
right (y ∷ xs) ys i zero x e h = absurd (omega (arith, e))
right (y ∷ xs) ys i (suc j) x e h = right xs ys i j x (omega (arith, e)) h

-- an element of the front stands at its place in the whole
pub at_front : {A : Type 0} (all front back : List A) → all ≡ front ++ back → (i : ℕ) (x : A) → slice_get front i ≡ Some x → slice_get all i ≡ Some x
at_front all front back e i x h = ap (λ zs. slice_get zs i) e ∙ left front back i x h

-- an element of the back stands so far behind
pub at_back : {A : Type 0} (all front back : List A) → all ≡ front ++ back → (i : ℕ) (x : A) → slice_get back i ≡ Some x → slice_get all (length front + i) ≡ Some x
at_back all front back e i x h = ap (λ zs. slice_get zs (length front + i)) e ∙ right front back i (length front + i) x refl h

pub at_last : {A : Type 0} (all front : List A) (x : A) → all ≡ front ++ x ∷ [] → slice_get all (length front) ≡ Some x
at_last all front x e = ap (λ zs. slice_get zs (length front)) e ∙ seam front x
  where
    seam : {B : Type 0} (ys : List B) (y : B) → slice_get (ys ++ y ∷ []) (length ys) ≡ Some y
    seam [] y = refl
    seam (z ∷ ys) y = seam ys y

pub long_parts : {A : Type 0} (all front back : List A) → all ≡ front ++ back → length all ≡ length front + length back
long_parts all front back e = let a = ap length e in let b = length-append front back in omega (arith, a, b)

-- what holds of each element, after one more
pub each_more : {A : Type 0} (P : ℕ → A → Type 0) (xs more : List A) (x : A) → more ≡ xs ++ x ∷ [] → ((i : ℕ) (y : A) → slice_get xs i ≡ Some y → P i y) → P (length xs) x → (i : ℕ) (y : A) → slice_get more i ≡ Some y → P i y
each_more P xs more x e old new i y h = push P xs x old new i y (ap (λ zs. slice_get zs i) (sym e) ∙ h)
  where
    push : {B : Type 0} (Q : ℕ → B → Type 0) (ys : List B) (x : B) → ((i : ℕ) (y : B) → slice_get ys i ≡ Some y → Q i y) → Q (length ys) x → (i : ℕ) (y : B) → slice_get (ys ++ x ∷ []) i ≡ Some y → Q i y
    push Q [] x old new zero y h = subst (Q 0) (let same : Some x ≡ Some y = h in cc) new
    push Q [] x old new (suc i) y h = absurd (none_there i y h)
    push Q (z ∷ ys) x old new zero y h = old 0 y h
    push Q (z ∷ ys) x old new (suc i) y h = push (λ k. Q (suc k)) ys x (λ k w at. old (suc k) w at) new i y h
