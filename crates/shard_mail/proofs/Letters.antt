-- Lists of views, the letters of one sender, and names of values.
use Rattle.std.proofs.Common.{◌≡◌, ◌≢◌, ℕ, zero, suc, Bool, true, false, List, [], ◌∷◌, ◌++◌, length, nat_eq, cond, slice_get, Some, refl, sym, ap, ◌∙◌, subst, ⊎_elim, ◌⊎◌, inl, inr, arith, append_assoc}
use Rattle.std.proofs.lemmas.Option.{none-some}
use Rattle.std.proofs.lemmas.Bool.Decides.{nat_tests}
use Rattle.std.proofs.lemmas.List.Elements.{filter-append}
use mathlib.Core.Option.{some, some-injective, some-ne-none}
use Rattle.std.proofs.Math.ListN.{set}
use lib.ListN.{get_elem?}
use base.Stored.{Gv, gnil, gnum, gcons}
use Rattle.std.specs.Coded.{Coded}
use Rattle.shard_mail.specs.Names.{spelled, name_of}
use mathlib.Core.List.{IsPrefix}
use Rattle.shard_mail.specs.Mails.{letters_of, LawfulUnder, Ended, IsRest, IsBegun}

-- what stands in a list with one more is old, or is the last
pub at_last_or : {A : Type 0} (l : List A) (a b : A) (j : ℕ) → get_elem? (l ++ a ∷ []) j ≡ some b → (get_elem? l j ≡ some b) ⊎ ((j ≡ length l) × (a ≡ b))
at_last_or [] a b zero e = inr (refl, some-injective a b e)
at_last_or [] a b (suc j) e = absurd (some-ne-none b (sym e))
at_last_or (x ∷ xs) a b zero e = inl e
at_last_or (x ∷ xs) a b (suc j) e = ⊎_elim inl (λ (t : (j ≡ length xs) × (a ≡ b)). inr (ap suc t.0, t.1)) (at_last_or xs a b j e)

-- what stands in a list still stands there with one more
pub at_front : {A : Type 0} (l : List A) (a b : A) (j : ℕ) → get_elem? l j ≡ some b → get_elem? (l ++ a ∷ []) j ≡ some b
at_front [] a b j e = absurd (some-ne-none b (sym e))
at_front (x ∷ xs) a b zero e = e
at_front (x ∷ xs) a b (suc j) e = at_front xs a b j e

pub at_here : {A : Type 0} (l : List A) (i : ℕ) (a b : A) → get_elem? l i ≡ some a → get_elem? (set l i b) i ≡ some b
at_here [] i a b e = absurd (some-ne-none a (sym e))
at_here (x ∷ xs) zero a b e = refl
at_here (x ∷ xs) (suc i) a b e = at_here xs i a b e

-- the same by std's look-up
pub last_or : {A : Type 0} (l : List A) (a b : A) (j : ℕ) → slice_get (l ++ a ∷ []) j ≡ Some b → (slice_get l j ≡ Some b) ⊎ ((j ≡ length l) × (a ≡ b))
last_or [] a b zero e = inr (refl, some_one a b e)
  where
    some_one : {A : Type 0} (a b : A) → Some a ≡ Some b → a ≡ b
    some_one a b e = cc
last_or [] a b (suc j) e = absurd (none-some b e)
last_or (x ∷ xs) a b zero e = inl e
last_or (x ∷ xs) a b (suc j) e = ⊎_elim inl (λ (t : (j ≡ length xs) × (a ≡ b)). inr (ap suc t.0, t.1)) (last_or xs a b j e)

heads : {A : Type 0} (x y : A) (xs ys : List A) → x ∷ xs ≡ y ∷ ys → x ≡ y
heads x y xs ys e = cc

tails : {A : Type 0} (x y : A) (xs ys : List A) → x ∷ xs ≡ y ∷ ys → xs ≡ ys
tails x y xs ys e = cc

-- no spelling is empty
pub spelled_some : (a : Gv) (r : List ℕ) → spelled a r ≡ [] → ⊥
spelled_some gnil r e = cc
spelled_some (gnum n) r e = cc
spelled_some (gcons a b) r e = cc

-- no spelling begins another
spelled_one : (a b : Gv) (r s : List ℕ) → spelled a r ≡ spelled b s → (a ≡ b) × (r ≡ s)
spelled_one gnil gnil r s e = (refl, tails 0 0 r s e)
spelled_one gnil (gnum n) r s e = let clash : ◌≡◌ {A = ℕ} 0 1 = heads 0 1 r (n ∷ s) e in absurd (omega arith)
spelled_one gnil (gcons a b) r s e = let clash : ◌≡◌ {A = ℕ} 0 2 = heads 0 2 r (spelled a (spelled b s)) e in absurd (omega arith)
spelled_one (gnum n) gnil r s e = let clash : ◌≡◌ {A = ℕ} 1 0 = heads 1 0 (n ∷ r) s e in absurd (omega arith)
spelled_one (gnum n) (gnum k) r s e = let t = tails 1 1 (n ∷ r) (k ∷ s) e in (ap gnum (heads n k r s t), tails n k r s t)
spelled_one (gnum n) (gcons a b) r s e = let clash : ◌≡◌ {A = ℕ} 1 2 = heads 1 2 (n ∷ r) (spelled a (spelled b s)) e in absurd (omega arith)
spelled_one (gcons a b) gnil r s e = let clash : ◌≡◌ {A = ℕ} 2 0 = heads 2 0 (spelled a (spelled b r)) s e in absurd (omega arith)
spelled_one (gcons a b) (gnum n) r s e = let clash : ◌≡◌ {A = ℕ} 2 1 = heads 2 1 (spelled a (spelled b r)) (n ∷ s) e in absurd (omega arith)
spelled_one (gcons a b) (gcons c d) r s e =
    let one = spelled_one a c (spelled b r) (spelled d s) (tails 2 2 (spelled a (spelled b r)) (spelled c (spelled d s)) e) in
    let two = spelled_one b d r s one.1 in
    ((λ i. gcons (one.0 i) (two.0 i)), two.1)

-- values with one name are one
pub same_name : {M : Type 0} (coded : Coded M) (x y : M) → name_of coded x ≡ name_of coded y → x ≡ y
same_name coded x y e = coded.inj x y (spelled_one (coded.code x) (coded.code y) [] [] e).0

-- what is lawful under some terms is lawful under whatever terms have their name
pub lawful_under : {T M : Type 0} (coded : Coded M) (lawful : M → List T → Type 0) (name : List ℕ) (terms : M) (letters : List T) → name_of coded terms ≡ name → lawful terms letters → LawfulUnder coded lawful name letters
lawful_under coded lawful name terms letters has law given named = subst (λ t. lawful t letters) (same_name coded terms given (has ∙ sym named)) law

module _ {T : Type 0} (sender : T → ℕ) where
  pub of_append : (p : ℕ) (xs ys : List T) → letters_of sender p (xs ++ ys) ≡ letters_of sender p xs ++ letters_of sender p ys
  of_append p xs ys = filter-append (λ x. nat_eq (sender x) p) xs ys

  -- one letter is its sender's, and no other's
  pub of_own : (p : ℕ) (x : T) → sender x ≡ p → letters_of sender p (x ∷ []) ≡ x ∷ []
  of_own p x e = let t : nat_eq (sender x) p ≡ true = grind (arith, nat_tests) in ap (λ (b : Bool). cond b (x ∷ []) []) t

  pub of_other : (p : ℕ) (x : T) → sender x ≢ p → letters_of sender p (x ∷ []) ≡ []
  of_other p x e = let t : nat_eq (sender x) p ≡ false = grind (arith, nat_tests) in ap (λ (b : Bool). cond b (x ∷ []) []) t

  -- the letters of a letter's sender, where it stands first behind others
  pub of_next : (xs ys : List T) (x : T) → letters_of sender (sender x) (xs ++ x ∷ ys) ≡ letters_of sender (sender x) (xs ++ x ∷ []) ++ letters_of sender (sender x) ys
  of_next xs ys x = ap (letters_of sender (sender x)) (sym (append_assoc xs (x ∷ []) ys)) ∙ of_append (sender x) (xs ++ x ∷ []) ys

  pub some_of : (xs ys : List T) (x : T) → letters_of sender (sender x) (xs ++ x ∷ ys) ≡ [] → ⊥
  some_of xs ys x e =
      let whole = of_append (sender x) xs (x ∷ ys) in
      let own = of_own (sender x) x refl in
      let after = of_append (sender x) (x ∷ []) ys in
      none (letters_of sender (sender x) xs) (letters_of sender (sender x) ys) x (sym e ∙ (whole ∙ ap (λ (zs : List T). letters_of sender (sender x) xs ++ zs) (after ∙ ap (λ (zs : List T). zs ++ letters_of sender (sender x) ys) own)))
    where
      none : (before after : List T) (y : T) → [] ≡ before ++ (y ∷ after) → ⊥
      none [] after y e = cc
      none (z ∷ before) after y e = cc

-- what begins a longer list begins the rest of it too
prefix_less : {A : Type 0} (xs ys zs : List A) → IsPrefix (xs ++ ys) zs → IsPrefix xs zs
prefix_less xs ys zs p = (ys ++ p.0, sym (append_assoc xs ys p.0) ∙ p.1)

module _ {T : Type 0} (sender : T → ℕ) (taken : List T) (ended : Ended T) where
  -- where what was taken later fits the lists of ended posters, so does what was taken before
  pub begun_before : (more : List T) → IsBegun sender (taken ++ more) ended → IsBegun sender taken ended
  begun_before more begun k e at =
      prefix_less (letters_of sender e.0 taken) (letters_of sender e.0 more) e.1 (subst (λ xs. IsPrefix xs e.1) (of_append sender e.0 taken more) (begun k e at))

  -- what is left begins nothing else
  pub begun_of_rest : (items : List T) → IsRest sender taken ended items → IsBegun sender taken ended
  begun_of_rest items rest k e at = (letters_of sender e.0 items, sym (of_append sender e.0 taken items) ∙ rest k e at)
