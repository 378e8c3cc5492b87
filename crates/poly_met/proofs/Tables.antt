-- What is worth the same under values that agree, and a table with one more atom.
use Rattle.std.specs.Int.{int_max, int_min}
use Rattle.std.specs.Prelude.{◌&&◌, nat_lt, nat_eq, int_le, int_div}
use Rattle.std.proofs.Common.{rules, ◌≡◌, ℕ, zero, suc, ◌<◌, ◌≤◌, ◌⊎◌, inl, inr, Bool, true, false, cond, List, [], ◌∷◌, ◌++◌, length, slice_get, Option, Some, None, ℤ, pos, ◌+ℤ◌, ◌*ℤ◌, refl, sym, ap, ◌∙◌, subst, arith, append_assoc}
use Rattle.std.proofs.lemmas.Bool.{and_parts, eqb-true, ltb-true}
use Rattle.std.proofs.lemmas.Option.{slice_get_within}
use Rattle.poly_terms.specs.declared.table.Atom.{Atom}
use Rattle.poly_terms.specs.declared.table.Atom.TheVariants.{Bit, Number, Most, Least, Over, AtMostZero}
use Rattle.poly_terms.specs.declared.terms.Term.{Term}
use Rattle.poly_terms.specs.Worth.{product, term_worth, worth, as_bit}
use Rattle.poly_terms.specs.Fits.{Fits, Meets}
use Rattle.poly_met.specs.Met.{atoms_below, sum_below, is_defined_below, is_founded, IsFounded, IsDefinedFrom, LawMet, LawAllMet}

-- values that agree on the atoms below a number
abbrev pub Agree : ℕ → (ℕ → ℤ) → (ℕ → ℤ) → Type 0
Agree n v w = (k : ℕ) → k < n → w k ≡ v k

product_same : (n : ℕ) (v w : ℕ → ℤ) → Agree n v w → (atoms : List ℕ) → atoms_below n atoms ≡ true → product w atoms ≡ product v atoms
product_same n v w agree [] h = refl
product_same n v w agree (a ∷ atoms) h =
    let parts = and_parts (nat_lt a n) (atoms_below n atoms) h in
    ap (λ (z : ℤ). z *ℤ product w atoms) (agree a (ltb-true a n parts.0)) ∙ ap (λ (z : ℤ). v a *ℤ z) (product_same n v w agree atoms parts.1)

pub worth_same : (n : ℕ) (v w : ℕ → ℤ) → Agree n v w → (p : List Term) → sum_below n p ≡ true → worth w p ≡ worth v p
worth_same n v w agree [] h = refl
worth_same n v w agree (t ∷ ts) h =
    let parts = and_parts (atoms_below n t.atoms) (sum_below n ts) h in
    ap (λ (z : ℤ). t.coefficient *ℤ z +ℤ worth w ts) (product_same n v w agree t.atoms parts.0) ∙ ap (λ (z : ℤ). term_worth v t +ℤ z) (worth_same n v w agree ts parts.1)

two_same : (f : ℤ → ℤ → ℤ) (n : ℕ) (v w : ℕ → ℤ) → Agree n v w → (p q : List Term) → (sum_below n p && sum_below n q) ≡ true → f (worth v p) (worth v q) ≡ f (worth w p) (worth w q)
two_same f n v w agree p q h =
    let parts = and_parts (sum_below n p) (sum_below n q) h in
    ap (λ (z : ℤ). f z (worth v q)) (sym (worth_same n v w agree p parts.0)) ∙ ap (λ (z : ℤ). f (worth w p) z) (sym (worth_same n v w agree q parts.1))

meets_same : (n : ℕ) (v w : ℕ → ℤ) → Agree n v w → (a : Atom) → is_founded n a ≡ true → (x : ℤ) → Meets v a x → Meets w a x
meets_same n v w agree Bit h x m = m
meets_same n v w agree (Number low high) h x m = m
meets_same n v w agree (Most p q) h x m = m ∙ two_same int_max n v w agree p q h
meets_same n v w agree (Least p q) h x m = m ∙ two_same int_min n v w agree p q h
meets_same n v w agree (Over p d) h x m = m ∙ ap (λ (z : ℤ). int_div z d) (sym (worth_same n v w agree p h))
meets_same n v w agree (AtMostZero p) h x m = m ∙ ap (λ (z : ℤ). as_bit (int_le z (pos 0))) (sym (worth_same n v w agree p h))

-- what an atom is by those that it is defined by
abbrev meaning : (ℕ → ℤ) → Atom → ℤ
meaning v Bit = pos 0
meaning v (Number low high) = pos 0
meaning v (Most p q) = int_max (worth v p) (worth v q)
meaning v (Least p q) = int_min (worth v p) (worth v q)
meaning v (Over p d) = int_div (worth v p) d
meaning v (AtMostZero p) = as_bit (int_le (worth v p) (pos 0))

means : (n : ℕ) (v : ℕ → ℤ) (a : Atom) → is_defined_below n a ≡ true → Meets v a (meaning v a)
means n v Bit h = absurd (cc)
means n v (Number low high) h = absurd (cc)
means n v (Most p q) h = refl
means n v (Least p q) h = refl
means n v (Over p d) h = refl
means n v (AtMostZero p) h = refl

founded : (n : ℕ) (a : Atom) → is_defined_below n a ≡ true → is_founded n a ≡ true
founded n Bit h = refl
founded n (Number low high) h = refl
founded n (Most p q) h = h
founded n (Least p q) h = h
founded n (Over p d) h = h
founded n (AtMostZero p) h = h

-- a value put at a place
abbrev pub put : (ℕ → ℤ) → ℕ → ℤ → ℕ → ℤ
put v n x k = cond (nat_eq k n) x (v k)

not_below : (n : ℕ) → n < n → ⊥
not_below n h = omega (arith, h)

other_case : (b : Bool) (x y : ℤ) → (b ≡ true → ⊥) → cond b x y ≡ y
other_case true x y h = absurd (h refl)
other_case false x y h = refl

pub put_other : (v : ℕ → ℤ) (n : ℕ) (x : ℤ) → Agree n v (put v n x)
put_other v n x k lt = other_case (nat_eq k n) x (v k) (λ e. not_below n (subst (λ (j : ℕ). j < n) (eqb-true k n e) lt))

same_eq : (n : ℕ) → nat_eq n n ≡ true
same_eq n = search (rules, arith)

pub put_same : (v : ℕ → ℤ) (n : ℕ) (x : ℤ) → put v n x n ≡ x
put_same v n x = ap (λ (b : Bool). cond b x (v n)) (same_eq n)

pub get_last : (xs : List Atom) (x : Atom) (k : ℕ) (a : Atom) → slice_get (xs ++ x ∷ []) k ≡ Some a → (slice_get xs k ≡ Some a) ⊎ ((k ≡ length xs) × (a ≡ x))
get_last [] x zero a e = inr (refl, cc)
get_last [] x (suc k) a e = absurd (cc)
get_last (y ∷ xs) x zero a e = inl e
get_last (y ∷ xs) x (suc k) a e = elim (get_last xs x k a e) [ inl h ↦ inl h | inr h ↦ inr (ap suc h.0, h.1) ]

pub less_trans : (j k n : ℕ) → j < k → k < n → j < n
less_trans j k n h g = omega (arith, h, g)

pub met_law : LawMet
met_law table atom v ordered below fits =
    let n = length table in
    let w = put v n (meaning v atom) in
    let agree = put_other v n (meaning v atom) in (
      w,
      (λ k a is. elim (get_last table atom k a is) [
        | inl here ↦
            let lt = slice_get_within table k a here in
            subst (Meets w a) (sym (agree k lt)) (meets_same k v w (λ j less. agree j (less_trans j k n less lt)) a (ordered k a here) (v k) (fits k a here))
        | inr last ↦
            subst (λ (b : Atom). Meets w b (w k)) (sym last.1)
            (subst (λ (j : ℕ). Meets w atom (w j)) (sym last.0)
            (subst (Meets w atom) (sym (put_same v n (meaning v atom))) (meets_same n v w agree atom (founded n atom below) (meaning v atom) (means n v atom below))))
      ]),
      agree,
    )

-- ---- many more atoms

get_front : (xs ys : List Atom) (k : ℕ) (a : Atom) → slice_get xs k ≡ Some a → slice_get (xs ++ ys) k ≡ Some a
get_front [] ys k a e = absurd (cc)
get_front (x ∷ xs) ys zero a e = e
get_front (x ∷ xs) ys (suc k) a e = get_front xs ys k a e

get_here : (xs : List Atom) (y : Atom) (ys : List Atom) → slice_get (xs ++ y ∷ ys) (length xs) ≡ Some y
get_here [] y ys = refl
get_here (x ∷ xs) y ys = get_here xs y ys

none_after : (xs : List Atom) → xs ++ [] ≡ xs
none_after [] = refl
none_after (x ∷ xs) = ap (λ (zs : List Atom). x ∷ zs) (none_after xs)

one_longer : (xs : List Atom) (x : Atom) → length (xs ++ x ∷ []) ≡ suc (length xs)
one_longer [] x = refl
one_longer (y ∷ xs) x = ap suc (one_longer xs x)

le_less : (n k : ℕ) → suc n ≤ k → n ≤ k
le_less n k h = omega (arith, h)

less_more : (k n : ℕ) → k < n → k < suc n
less_more k n h = omega (arith, h)

le_self : (n : ℕ) → n ≤ n
le_self n = omega arith

founded_later : (n k : ℕ) (table : List Atom) → IsDefinedFrom n table → n ≤ k → (a : Atom) → slice_get table k ≡ Some a → is_founded k a ≡ true
founded_later n k table defined le a is = founded k a (defined k a le is)

-- a table with one more atom is founded
founded_more : (table : List Atom) (x : Atom) → IsFounded table → is_defined_below (length table) x ≡ true → IsFounded (table ++ x ∷ [])
founded_more table x ordered below k a is = elim (get_last table x k a is) [
  | inl here ↦ ordered k a here
  | inr last ↦ subst (λ (b : Atom). is_founded k b ≡ true) (sym last.1) (subst (λ (j : ℕ). is_founded j x ≡ true) (sym last.0) (founded (length table) x below))
]

pub all_met_law : LawAllMet
all_met_law table [] v ordered defined fits = (v, subst (λ (ts : List Atom). Fits ts v) (sym (none_after table)) fits, λ k lt. refl)
all_met_law table (x ∷ xs) v ordered defined fits =
    let same : (table ++ x ∷ []) ++ xs ≡ table ++ x ∷ xs = append_assoc table (x ∷ []) xs in
    let below = defined (length table) x (le_self (length table)) (get_here table x xs) in
    let one = met_law table x v ordered below fits in
    let later : IsDefinedFrom (length (table ++ x ∷ [])) ((table ++ x ∷ []) ++ xs) =
    λ k a le is. defined k a (le_less (length table) k (subst (λ (n : ℕ). n ≤ k) (one_longer table x) le)) (subst (λ (ts : List Atom). slice_get ts k ≡ Some a) same is) in
    let rest = all_met_law (table ++ x ∷ []) xs one.0 (founded_more table x ordered below) later one.1 in (
      rest.0,
      subst (λ (ts : List Atom). Fits ts rest.0) same rest.1,
      λ k lt. rest.2 k (subst (λ (n : ℕ). k < n) (sym (one_longer table x)) (less_more k (length table) lt)) ∙ one.2 k lt,
    )
