-- Steps that do not fail, and what they tell.
use Rattle.std.proofs.Common.{◌≡◌, ℕ, Bool, true, false, ◌&&◌, if◌then◌else◌, List, [], ◌∷◌, map, slice_get, Some, Result, Ok, Err, refl, sym, ap, ◌∙◌, subst, zero, suc}
use Rattle.std.specs.List.{list_all}
use Rattle.dp_base.specs.Results.{◌>>=◌, in_turn}
use Rattle.dp_model.specs.Evaluation.{each_holds}
use Rattle.dp_model.specs.declared.answers.FaultKind.{FaultKind}

-- what comes after a step has a value only where the step has
pub bound : {A B : Type 0} (r : Result A FaultKind) (f : A → Result B FaultKind) (y : B) → (r >>= f) ≡ Ok y → (x : A) × (r ≡ Ok x) × (f x ≡ Ok y)
bound (Ok x) f y h = (x, refl, h)
bound (Err k) f y h = absurd (cc)

pub ok_same : {A : Type 0} (a b : A) → ◌≡◌ {A = Result A FaultKind} (Ok a) (Ok b) → a ≡ b
ok_same a b e = cc

-- the first test decides, or the rest
after_first : {A : Type 0} (f : A → Result Bool FaultKind) (test : A → Bool) (xs : List A) (b held first : Bool) → held ≡ first → ((b : Bool) → each_holds f xs ≡ Ok b → b ≡ list_all test xs) → (if held then each_holds f xs else Ok false) ≡ Ok b → b ≡ (first && list_all test xs)
after_first f test xs b true first same rest h = subst (λ (t : Bool). b ≡ (t && list_all test xs)) same (rest b h)
after_first f test xs b false first same rest h = subst (λ (t : Bool). b ≡ (t && list_all test xs)) same (sym (ok_same false b h))

-- tests that do not fail, up to the first that does not hold
pub each_told : {A : Type 0} (f : A → Result Bool FaultKind) (test : A → Bool) → ((x : A) (b : Bool) → f x ≡ Ok b → b ≡ test x) → (xs : List A) (b : Bool) → each_holds f xs ≡ Ok b → b ≡ list_all test xs
each_told f test told [] b h = sym (ok_same true b h)
each_told f test told (x ∷ xs) b h =
    let first = bound (f x) (λ held. if held then each_holds f xs else Ok false) b h in
    after_first f test xs b first.0 (test x) (told x first.0 first.1) (each_told f test told xs) first.2

-- values that do not fail
pub turns_told : {A B : Type 0} (f : A → Result B FaultKind) (value : A → B) → ((x : A) (y : B) → f x ≡ Ok y → y ≡ value x) → (xs : List A) (ys : List B) → in_turn f xs ≡ Ok ys → ys ≡ map value xs
turns_told f value told [] ys h = sym (ok_same [] ys h)
turns_told f value told (x ∷ xs) ys h =
    let first = bound (f x) (λ y. in_turn f xs >>= λ more. Ok (y ∷ more)) ys h in
    let rest = bound (in_turn f xs) (λ more. Ok (first.0 ∷ more)) ys first.2 in
    let a = told x first.0 first.1 in
    let b = turns_told f value told xs rest.0 rest.1 in
    let same : first.0 ∷ rest.0 ≡ ys = ok_same (first.0 ∷ rest.0) ys rest.2 in
    sym same ∙ ap (λ z. z ∷ rest.0) a ∙ ap (λ zs. value x ∷ zs) b

-- each of the values
pub turn_at : {A B : Type 0} (f : A → Result B FaultKind) (xs : List A) (ys : List B) (i : ℕ) (x : A) → in_turn f xs ≡ Ok ys → slice_get xs i ≡ Some x → (y : B) × (f x ≡ Ok y) × (slice_get ys i ≡ Some y)
turn_at f [] ys i x h e = absurd (cc)
turn_at f (z ∷ xs) ys zero x h e =
    let first = bound (f z) (λ y. in_turn f xs >>= λ more. Ok (y ∷ more)) ys h in
    let rest = bound (in_turn f xs) (λ more. Ok (first.0 ∷ more)) ys first.2 in
    let same : first.0 ∷ rest.0 ≡ ys = ok_same (first.0 ∷ rest.0) ys rest.2 in
    let here : z ≡ x = cc in
    (first.0, subst (λ w. f w ≡ Ok first.0) here first.1, ap (λ zs. slice_get zs zero) (sym same))
turn_at f (z ∷ xs) ys (suc i) x h e =
    let first = bound (f z) (λ y. in_turn f xs >>= λ more. Ok (y ∷ more)) ys h in
    let rest = bound (in_turn f xs) (λ more. Ok (first.0 ∷ more)) ys first.2 in
    let same : first.0 ∷ rest.0 ≡ ys = ok_same (first.0 ∷ rest.0) ys rest.2 in
    let more = turn_at f xs rest.0 i x rest.1 e in
    (more.0, more.1, ap (λ zs. slice_get zs (suc i)) (sym same) ∙ more.2)
