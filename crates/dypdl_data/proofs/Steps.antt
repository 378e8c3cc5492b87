-- What is known of the values of steps that may be refused.
use Rattle.std.proofs.Common.{◌≡◌, ◌≤◌, ℕ, zero, suc, ◌+◌, Bool, true, false, ◌&&◌, nat_le, if◌then◌else◌, List, [], ◌∷◌, ◌++◌, length, replicate, slice_get, slice_set, Option, Some, None, Result, Ok, Err, IfOk, subst, refl, sym, ap, ◌∙◌, arith, add-zero}
use Rattle.std.proofs.lemmas.Bool.Decides.{nat_tests}
use Rattle.std.specs.List.{list_all}
use Rattle.std.proofs.lemmas.List.Folds.{list_all-append}
use Rattle.dp_base.specs.Results.{◌>>=◌, each}
use Rattle.yaml_tree.specs.declared.tree.Tree.{Tree}
use Rattle.yaml_tree.specs.Fields.{tree_place}
use Rattle.dypdl_nodes.specs.Reads.{refuse}
use Rattle.dypdl_nodes.specs.Shapes.{items_of, few_items, items_or_none}

pub then_if : {A B E : Type 0} (P : A → Type 0) (Q : B → Type 0) (r : Result A E) (f : A → Result B E) → IfOk r P → ((x : A) → P x → IfOk (f x) Q) → IfOk (r >>= f) Q
then_if P Q (Ok x) f h more = more x h
then_if P Q (Err e) f h more = tt

-- a step of whose value nothing is needed
pub after : {A B E : Type 0} (Q : B → Type 0) (r : Result A E) (f : A → Result B E) → ((x : A) → IfOk (f x) Q) → IfOk (r >>= f) Q
after Q (Ok x) f more = more x
after Q (Err e) f more = tt

-- what each step of a list keeps
pub each_keeps : {S A E : Type 0} (P : S → Type 0) (step : S → A → Result S E) (xs : List A) (s : S) → ((s : S) (x : A) → P s → IfOk (step s x) P) → P s → IfOk (each step s xs) P
each_keeps P step [] s keeps p = p
each_keeps P step (x ∷ xs) s keeps p = then_if P P (step s x) (λ t. each step t xs) (keeps s x p) (λ t q. each_keeps P step xs t keeps q)

pub if_allowed : {A E : Type 0} (P : A → Type 0) (b : Bool) (r s : Result A E) → (b ≡ true → IfOk r P) → (b ≡ false → IfOk s P) → IfOk (if b then r else s) P
if_allowed P true r s then_so else_so = then_so refl
if_allowed P false r s then_so else_so = else_so refl

-- what is known of a value, where it is this one
pub when_ok : {A E : Type 0} (P : A → Type 0) (r : Result A E) (x : A) → r ≡ Ok x → IfOk r P → P x
when_ok P (Ok y) x e h = let same : y ≡ x = cc in subst P same h
when_ok P (Err y) x e h = absurd (cc e)

-- ---- tests

pub both : (a b : Bool) → a ≡ true → b ≡ true → a && b ≡ true
both true true e h = refl
both true false e h = h
both false b e h = e

pub first : (a b : Bool) → a && b ≡ true → a ≡ true
first true b e = refl
first false b e = e

pub second : (a b : Bool) → a && b ≡ true → b ≡ true
second true b e = e
second false b e = absurd (cc e)

pub all_push : {A : Type 0} (p : A → Bool) (xs : List A) (x : A) → list_all p xs ≡ true → p x ≡ true → list_all p (xs ++ x ∷ []) ≡ true
all_push p xs x e h = list_all-append p xs (x ∷ []) ∙ both (list_all p xs) (p x && true) e (both (p x) true h refl)

pub set_keeps : {A : Type 0} (p : A → Bool) (xs : List A) (i : ℕ) (x : A) → list_all p xs ≡ true → p x ≡ true → list_all p (slice_set xs i x) ≡ true
set_keeps p [] i x e h = e
set_keeps p (y ∷ ys) zero x e h = both (p x) (list_all p ys) h (second (p y) (list_all p ys) e)
set_keeps p (y ∷ ys) (suc i) x e h = both (p y) (list_all p (slice_set ys i x)) (first (p y) (list_all p ys) e) (set_keeps p ys i x (second (p y) (list_all p ys) e) h)

pub all_at : {A : Type 0} (p : A → Bool) (xs : List A) (i : ℕ) (x : A) → list_all p xs ≡ true → slice_get xs i ≡ Some x → p x ≡ true
all_at p [] i x e there = absurd (cc there)
all_at p (y ∷ ys) zero x e there =
    let same : x ≡ y = cc in
    ap p same ∙ first (p y) (list_all p ys) e
all_at p (y ∷ ys) (suc i) x e there = all_at p ys i x (second (p y) (list_all p ys) e) there

pub all_replicate : {A : Type 0} (p : A → Bool) (n : ℕ) (x : A) → p x ≡ true → list_all p (replicate n x) ≡ true
all_replicate p zero x e = refl
all_replicate p (suc n) x e = both (p x) (list_all p (replicate n x)) e (all_replicate p n x e)

-- ---- counting

counts_on : {S E : Type 0} (size : S → ℕ) (r : Result S E) (m n : ℕ) → m ≡ n → IfOk r (λ u. size u ≡ m) → IfOk r (λ u. size u ≡ n)
counts_on size (Ok u) m n e h = h ∙ e
counts_on size (Err r) m n e h = tt

pub each_counts : {S A E : Type 0} (size : S → ℕ) (step : S → A → Result S E) (xs : List A) (s : S) → ((s : S) (x : A) → IfOk (step s x) (λ t. size t ≡ size s + 1)) → IfOk (each step s xs) (λ t. size t ≡ size s + length xs)
each_counts size step [] s one = sym (add-zero (size s))
each_counts size step (x ∷ xs) s one =
    then_if (λ t. size t ≡ size s + 1) (λ u. size u ≡ size s + suc (length xs)) (step s x) (λ t. each step t xs) (one s x)
    (λ t e. counts_on size (each step t xs) (size t + length xs) (size s + suc (length xs)) (omega arith) (each_counts size step xs t one))

pub both_known : {A E : Type 0} (P Q : A → Type 0) (r : Result A E) → IfOk r P → IfOk r Q → IfOk r (λ x. P x × Q x)
both_known P Q (Ok x) p q = (p, q)
both_known P Q (Err e) p q = tt

pub few_fit : (most : ℕ) (tree : Tree) → IfOk (few_items most tree) (λ items. length items ≤ most)
few_fit most tree =
    after (λ items. length items ≤ most) (items_of tree) (λ items. if nat_le (length items) most then Ok items else refuse 49 (tree_place tree))
    (λ items. if_allowed (λ items. length items ≤ most) (nat_le (length items) most) (Ok items) (refuse 49 (tree_place tree)) (λ e. grind (arith, nat_tests)) (λ e. tt))

pub few_or_none_fit : (most : ℕ) (tree : Option Tree) → IfOk (items_or_none most tree) (λ items. length items ≤ most)
few_or_none_fit most None = omega arith
few_or_none_fit most (Some tree) = few_fit most tree

pub no_more : {A E : Type 0} (r : Result (List A) E) (n most : ℕ) → n ≤ most → IfOk r (λ xs. length xs ≡ 0 + n) → IfOk r (λ xs. length xs ≤ most)
no_more (Ok xs) n most few h = omega arith
no_more (Err e) n most few h = tt
