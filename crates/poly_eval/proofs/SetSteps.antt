-- Ascending lists as sets: what they have, and what rows of their bits say of them.
use Rattle.std.proofs.Common.{◌≡◌, ℕ, zero, suc, ◌+◌, ◌<◌, ◌≤◌, ◌⊎◌, inl, inr, Bool, true, false, not, ◌&&◌, ◌||◌, cond, eqb, if◌then◌else◌, List, [], ◌∷◌, ◌++◌, length, filter, ℤ, pos, refl, sym, ap, ◌∙◌, subst, arith, add-zero, length-append}
use Rattle.std.specs.Prelude.{int_le}
use Rattle.std.specs.List.{list_all, range_with_len}
use Rattle.std.specs.Str.{bytes_eq}
use Rattle.std.proofs.lemmas.Bool.{and_parts, and_from, or_cases, or_left, or_right, not-true, not_from_false, eqb-true, eqb-false, eq-eqb}
use Rattle.std.proofs.lemmas.Int.{ints}
use Rattle.std.proofs.lemmas.List.Elements.{filter-append}
use Rattle.std.proofs.lemmas.Slice.Eq.{bytes_eq-Decides}
use Rattle.std.proofs.lemmas.Option.{slice_get_within}
use Rattle.dp_model.specs.Typing.{ascends, is_set_below}
use Rattle.dp_model.specs.Evaluation.{has, members_where}
use Rattle.poly_terms.specs.declared.terms.Term.{Term}
use Rattle.poly_terms.specs.Worth.{as_bit}
use Rattle.poly_eval.specs.Shows.{AreBits}
use Rattle.poly_eval.specs.Bits.{Tells, many_of, none_of}
use Rattle.poly_eval.proofs.Ascending.{ascends-parts, ascends-from, where_below, range_below}
use Rattle.poly_eval.proofs.RowSteps.{none_is}

same_bool : (x y : Bool) → (x ≡ true → y ≡ true) → (y ≡ true → x ≡ true) → x ≡ y
same_bool true true f g = refl
same_bool true false f g = sym (f refl)
same_bool false true f g = g refl
same_bool false false f g = refl

-- ---- tests at the first places

below_one : (P : ℕ → Type 0) (n : ℕ) → ((j : ℕ) → j < n → P j) → P n → (j : ℕ) → j < suc n → P j
below_one P n below here j h = at (eqb j n) refl where
  at : (b : Bool) → eqb j n ≡ b → P j
  at true e = subst P (sym (eqb-true j n e)) here
  at false e = below j (near (eqb-false j n e)) where
    near : (j ≡ n → ⊥) → j < n
    near d = omega (arith, d)

none_all : (n : ℕ) (f : ℕ → Bool) → none_of n f ≡ true → (j : ℕ) → j < n → f j ≡ false
none_all zero f h j k = absurd (omega arith)
none_all (suc n) f h j k =
    let p = and_parts (none_of n f) (not (f n)) h in
    below_one (λ (j : ℕ). f j ≡ false) n (none_all n f p.0) (not-true (f n) p.1) j k

none_from : (n : ℕ) (f : ℕ → Bool) → ((j : ℕ) → j < n → f j ≡ false) → none_of n f ≡ true
none_from zero f h = refl
none_from (suc n) f h = and_from (none_of n f) (not (f n)) (none_from n f (λ j k. h j (omega arith))) (not_from_false (f n) (h n (omega arith)))

-- ---- what a list has

has_step : (P : Type 0) (x j : ℕ) (a : List ℕ) → (j ≡ x → P) → (has a j ≡ true → P) → has (x ∷ a) j ≡ true → P
has_step P x j a here there h = at (or_cases (eqb j x) (has a j) h) where
  at : (eqb j x ≡ true) ⊎ (has a j ≡ true) → P
  at (inl e) = here (eqb-true j x e)
  at (inr e) = there e

has_here : (x j : ℕ) (a : List ℕ) → j ≡ x → has (x ∷ a) j ≡ true
has_here x j a e = or_left (eqb j x) (has a j) (eq-eqb j x e)

has_there : (x j : ℕ) (a : List ℕ) → has a j ≡ true → has (x ∷ a) j ≡ true
has_there x j a e = or_right (eqb j x) (has a j) e

all_has : (g : ℕ → Bool) (a : List ℕ) (j : ℕ) → list_all g a ≡ true → has a j ≡ true → g j ≡ true
all_has g [] j h k = absurd (cc)
all_has g (x ∷ a) j h k =
    let p = and_parts (g x) (list_all g a) h in
    has_step (g j ≡ true) x j a (λ e. subst (λ (y : ℕ). g y ≡ true) (sym e) p.0) (all_has g a j p.1) k

has_all : (g : ℕ → Bool) (a : List ℕ) → ((j : ℕ) → has a j ≡ true → g j ≡ true) → list_all g a ≡ true
has_all g [] h = refl
has_all g (x ∷ a) h = and_from (g x) (list_all g a) (h x (has_here x x a refl)) (has_all g a (λ j k. h j (has_there x j a k)))

has_below : (least n : ℕ) (a : List ℕ) (j : ℕ) → ascends least n a ≡ true → has a j ≡ true → (least ≤ j) × (j < n)
has_below least n [] j e h = absurd (cc)
has_below least n (x ∷ a) j e h =
    let p = ascends-parts least n x a e in
    let low = p.0 in
    let high = p.1 in
    has_step ((least ≤ j) × (j < n)) x j a (λ is. (omega (arith, is, low), omega (arith, is, high))) (λ k. let q = has_below (suc x) n a j p.2 k in let r = q.0 in (omega (arith, r, low), q.1)) h

filter_step : (f : ℕ → Bool) (x : ℕ) (xs : List ℕ) (j : ℕ) → (has (filter f xs) j ≡ true → f j ≡ true) → (b : Bool) → f x ≡ b → has (cond b (x ∷ filter f xs) (filter f xs)) j ≡ true → f j ≡ true
filter_step f x xs j rest true e k = has_step (f j ≡ true) x j (filter f xs) (λ is. subst (λ (y : ℕ). f y ≡ true) (sym is) e) rest k
filter_step f x xs j rest false e k = rest k

has_filter : (f : ℕ → Bool) (xs : List ℕ) (j : ℕ) → has (filter f xs) j ≡ true → f j ≡ true
has_filter f [] j h = absurd (cc)
has_filter f (x ∷ xs) j h = filter_step f x xs j (has_filter f xs j) (f x) refl h

differ : (b : Bool) → b ≡ true → b ≡ false → ⊥
differ b p q = absurd (cc)

step_filter : (f : ℕ → Bool) (x : ℕ) (xs : List ℕ) (j : ℕ) → (has xs j ≡ true → has (filter f xs) j ≡ true) → has (x ∷ xs) j ≡ true → f j ≡ true → (b : Bool) → f x ≡ b → has (cond b (x ∷ filter f xs) (filter f xs)) j ≡ true
step_filter f x xs j rest h t true e = has_step (has (x ∷ filter f xs) j ≡ true) x j xs (λ is. has_here x j (filter f xs) is) (λ k. has_there x j (filter f xs) (rest k)) h
step_filter f x xs j rest h t false e = has_step (has (filter f xs) j ≡ true) x j xs (λ is. absurd (differ (f j) t (ap f is ∙ e))) rest h

filter_has : (f : ℕ → Bool) (xs : List ℕ) (j : ℕ) → has xs j ≡ true → f j ≡ true → has (filter f xs) j ≡ true
filter_has f [] j h t = absurd (cc)
filter_has f (x ∷ xs) j h t = step_filter f x xs j (λ k. filter_has f xs j k t) h t (f x) refl

range_step : (s n j : ℕ) → (s + 1 ≤ j → has (range_with_len (s + 1) n) j ≡ true) → s ≤ j → (b : Bool) → eqb j s ≡ b → has (s ∷ range_with_len (s + 1) n) j ≡ true
range_step s n j rest h true e = has_here s j (range_with_len (s + 1) n) (eqb-true j s e)
range_step s n j rest h false e = has_there s j (range_with_len (s + 1) n) (rest (far (eqb-false j s e))) where
  far : (j ≡ s → ⊥) → s + 1 ≤ j
  far d = omega (arith, d)

range_has : (s n j : ℕ) → s ≤ j → j < s + n → has (range_with_len s n) j ≡ true
range_has s zero j h k = absurd (omega arith)
range_has s (suc n) j h k = range_step s n j (λ far. range_has (s + 1) n j far (omega arith)) h (eqb j s) refl

from_zero_has : (n j : ℕ) → j < n → has (range_with_len 0 n) j ≡ true
from_zero_has n j k = range_has 0 n j (omega arith) (omega arith)

pub has_where : (n : ℕ) (f : ℕ → Bool) (j : ℕ) → j < n → has (members_where n f) j ≡ f j
has_where n f j k = same_bool (has (members_where n f) j) (f j) (has_filter f (range_with_len 0 n) j) (filter_has f (range_with_len 0 n) j (from_zero_has n j k))

-- two ascending lists that have the same are one
one_set : (least n : ℕ) (a b : List ℕ) → ascends least n a ≡ true → ascends least n b ≡ true → ((j : ℕ) → has a j ≡ true → has b j ≡ true) → ((j : ℕ) → has b j ≡ true → has a j ≡ true) → a ≡ b
one_set least n [] [] p q f g = refl
one_set least n [] (y ∷ b) p q f g = let e : has [] y ≡ true = g y (has_here y y b refl) in absurd (cc)
one_set least n (x ∷ a) [] p q f g = let e : has [] x ≡ true = f x (has_here x x a refl) in absurd (cc)
one_set least n (x ∷ a) (y ∷ b) p q f g =
    let ps = ascends-parts least n x a p in
    let qs = ascends-parts least n y b q in
    let first : y ≤ x = has_step (y ≤ x) y x b (λ e. omega (arith, e)) (λ k. let r = (has_below (suc y) n b x qs.2 k).0 in omega (arith, r)) (f x (has_here x x a refl)) in
    let second : x ≤ y = has_step (x ≤ y) x y a (λ e. omega (arith, e)) (λ k. let r = (has_below (suc x) n a y ps.2 k).0 in omega (arith, r)) (g y (has_here y y b refl)) in
    let same : x ≡ y = omega arith in
    let rest : ascends (suc x) n b ≡ true = subst (λ (z : ℕ). ascends (suc z) n b ≡ true) (sym same) qs.2 in
    joined x y a b same (one_set (suc x) n a b ps.2 rest
    (λ j k. let r = (has_below (suc x) n a j ps.2 k).0 in has_step (has b j ≡ true) y j b (λ e. absurd (omega (arith, e, r, same))) (λ t. t) (f j (has_there x j a k)))
    (λ j k. let r = (has_below (suc x) n b j rest k).0 in has_step (has a j ≡ true) x j a (λ e. absurd (omega (arith, e, r))) (λ t. t) (g j (has_there y j b k))))
  where
    joined : (x y : ℕ) (a b : List ℕ) → x ≡ y → a ≡ b → x ∷ a ≡ y ∷ b
    joined x y a b e h = cc

pub where_has : (n : ℕ) (a : List ℕ) → is_set_below n a ≡ true → members_where n (has a) ≡ a
where_has n a h =
    one_set 0 n (members_where n (has a)) a (where_below n (has a)) h (has_filter (has a) (range_with_len 0 n))
    (λ j k. filter_has (has a) (range_with_len 0 n) j (from_zero_has n j (has_below 0 n a j h k).1) k)

-- ---- what rows say

range_more : (a n : ℕ) → range_with_len a (n + 1) ≡ range_with_len a n ++ (a + n) ∷ []
range_more a zero = rw add-zero refl
range_more a (suc n) =
    let e : (a + 1) + n ≡ a + suc n = omega arith in
    let f : suc n + 1 ≡ suc (n + 1) = omega arith in
    rw (f, range_more (a + 1) n, e) refl

pub range_end : (n : ℕ) → range_with_len 0 (suc n) ≡ range_with_len 0 n ++ n ∷ []
range_end n =
    let e : suc n ≡ n + 1 = omega arith in
    let f : 0 + n ≡ n = omega arith in
    ap (range_with_len 0) e ∙ range_more 0 n ∙ ap (λ (k : ℕ). range_with_len 0 n ++ k ∷ []) f

one_long : (b : Bool) (n : ℕ) → length (cond b (n ∷ []) []) ≡ (if b then 1 else 0)
one_long true n = refl
one_long false n = refl

many_is : (n : ℕ) (f : ℕ → Bool) → length (members_where n f) ≡ many_of n f
many_is zero f = refl
many_is (suc n) f =
    ap (λ (xs : List ℕ). length (filter f xs)) (range_end n)
    ∙ ap length (filter-append f (range_with_len 0 n) (n ∷ []))
    ∙ length-append (filter f (range_with_len 0 n)) (filter f (n ∷ []))
    ∙ ap (λ (k : ℕ). k + length (filter f (n ∷ []))) (many_is n f)
    ∙ ap (λ (k : ℕ). many_of n f + k) (one_long (f n) n)

pub size_is : (n : ℕ) (a : List ℕ) → is_set_below n a ≡ true → many_of n (has a) ≡ length a
size_is n a h = sym (many_is n (has a)) ∙ ap length (where_has n a h)

zero_is : (n : ℕ) → int_le (pos n) (pos 0) ≡ eqb n 0
zero_is n = same_bool (int_le (pos n) (pos 0)) (eqb n 0) (λ h. let e : n ≡ 0 = low h in eq-eqb n 0 e) (λ h. high (eqb-true n 0 h)) where
  low : int_le (pos n) (pos 0) ≡ true → n ≡ 0
  low h = grind (arith, ints)

  high : n ≡ 0 → int_le (pos n) (pos 0) ≡ true
  high e = grind (arith, ints)

pub empty_is : (n : ℕ) (a : List ℕ) → is_set_below n a ≡ true → none_of n (has a) ≡ eqb (length a) 0
empty_is n a h = sym (none_is n (has a)) ∙ ap (λ (k : ℕ). int_le (pos k) (pos 0)) (size_is n a h) ∙ zero_is (length a)

held_both : (x y : Bool) → x ≡ true → (x && not y) ≡ false → y ≡ true
held_both true true p q = refl
held_both true false p q = sym q
held_both false y p q = absurd (cc)

both_held : (x y : Bool) → (x ≡ true → y ≡ true) → (x && not y) ≡ false
both_held true true f = refl
both_held true false f = sym (f refl)
both_held false y f = refl

pub all_is : (n : ℕ) (a : List ℕ) (g : ℕ → Bool) → is_set_below n a ≡ true → none_of n (λ j. has a j && not (g j)) ≡ list_all g a
all_is n a g h =
    same_bool (none_of n (λ j. has a j && not (g j))) (list_all g a)
    (λ none. has_all g a (λ j k. held_both (has a j) (g j) k (none_all n (λ j. has a j && not (g j)) none j (has_below 0 n a j h k).1)))
    (λ all. none_from n (λ j. has a j && not (g j)) (λ j k. both_held (has a j) (g j) (all_has g a j all)))

unlike_first : (x y : Bool) → (if x then not y else y) ≡ false → x ≡ true → y ≡ true
unlike_first true true p q = refl
unlike_first true false p q = sym p
unlike_first false y p q = absurd (cc)

unlike_second : (x y : Bool) → (if x then not y else y) ≡ false → y ≡ true → x ≡ true
unlike_second true y p q = refl
unlike_second false true p q = sym p
unlike_second false false p q = q

like : (x : Bool) → (if x then not x else x) ≡ false
like true = refl
like false = refl

pub same_is : (n : ℕ) (a b : List ℕ) → is_set_below n a ≡ true → is_set_below n b ≡ true → none_of n (λ j. if has a j then not (has b j) else has b j) ≡ bytes_eq a b
same_is n a b h k =
    same_bool (none_of n (λ j. if has a j then not (has b j) else has b j)) (bytes_eq a b)
    (λ none. (bytes_eq-Decides a b).1 (one_set 0 n a b h k
    (λ j t. unlike_first (has a j) (has b j) (none_all n (λ j. if has a j then not (has b j) else has b j) none j (has_below 0 n a j h t).1) t)
    (λ j t. unlike_second (has a j) (has b j) (none_all n (λ j. if has a j then not (has b j) else has b j) none j (has_below 0 n b j k t).1) t)))
    (λ e. none_from n (λ j. if has a j then not (has b j) else has b j) (λ j t. subst (λ (b : List ℕ). (if has a j then not (has b j) else has b j) ≡ false) ((bytes_eq-Decides a b).0 e) (like (has a j))))

-- ---- rows of sets

pub where_bits : (v : ℕ → ℤ) (n : ℕ) (row : List (List Term)) (f : ℕ → Bool) → length row ≡ n → Tells v row f → AreBits v row (members_where n f)
where_bits v n row f many tells = record {
  below = subst (λ (k : ℕ). is_set_below k (members_where n f) ≡ true) (sym many) (where_below n f);
  bit = λ j p e. ap as_bit (has_where n f j (subst (λ (k : ℕ). j < k) many (slice_get_within row j p e))) ∙ tells j p e;
}

pub all_bits : (v : ℕ → ℤ) (n : ℕ) (row : List (List Term)) → length row ≡ n → Tells v row (λ j. true) → AreBits v row (range_with_len 0 n)
all_bits v n row many tells = record {
  below = subst (λ (k : ℕ). is_set_below k (range_with_len 0 n) ≡ true) (sym many) (range_below n);
  bit = λ j p e. ap as_bit (from_zero_has n j (subst (λ (k : ℕ). j < k) many (slice_get_within row j p e))) ∙ tells j p e;
}

pub chosen_bits : (v : ℕ → ℤ) (held : Bool) (n : ℕ) (row : List (List Term)) (a b : List ℕ) → length row ≡ n → is_set_below n a ≡ true → is_set_below n b ≡ true → Tells v row (λ j. if held then has a j else has b j) → AreBits v row (if held then a else b)
chosen_bits v true n row a b many h k tells = record { below = subst (λ (k : ℕ). is_set_below k a ≡ true) (sym many) h; bit = tells }
chosen_bits v false n row a b many h k tells = record { below = subst (λ (n : ℕ). is_set_below n b ≡ true) (sym many) k; bit = tells }

pub tells_same : (v : ℕ → ℤ) (row : List (List Term)) (f g : ℕ → Bool) → ((j : ℕ) → f j ≡ g j) → Tells v row f → Tells v row g
tells_same v row f g same tells j p e = ap as_bit (sym (same j)) ∙ tells j p e

pub single_bits : (v : ℕ → ℤ) (n : ℕ) (row : List (List Term)) (k : ℕ) → length row ≡ n → k < n → Tells v row (has (k ∷ [])) → AreBits v row (k ∷ [])
single_bits v n row k many h tells = record {
  below = subst (λ (n : ℕ). is_set_below n (k ∷ []) ≡ true) (sym many) (ascends-from 0 n k [] (omega arith) h refl);
  bit = tells;
}

pub or_false : (b : Bool) → (b || false) ≡ b
or_false true = refl
or_false false = refl
