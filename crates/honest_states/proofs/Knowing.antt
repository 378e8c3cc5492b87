-- What is known of sets and of states, member by member and variable by variable.
use Rattle.std.proofs.Common.{◌≡◌, ℕ, zero, suc, ◌+◌, Bool, true, false, List, [], ◌∷◌, slice_get, Option, Some, ℤ, refl, sym, subst, arith, add-zero, zero-add}
use Rattle.std.proofs.lemmas.Int.{ints}
use Rattle.std.proofs.lemmas.Bool.{and_parts, and_from}
use Rattle.dp_model.specs.Evaluation.{has}
use Rattle.dp_model.specs.declared.parts.PlainState.{PlainState}
use Rattle.honest_states.specs.declared.mode.Known.{Known}
use Rattle.honest_states.specs.declared.mode.Known.TheVariants as knowledge
use Rattle.poly_terms.specs.declared.table.Atom.{Atom}
use Rattle.poly_terms.specs.declared.terms.Term.{Term}
use Rattle.poly_terms.specs.Worth.{as_bit}
use Rattle.poly_terms.specs.Fits.{Fits}
use Rattle.poly_eval.specs.declared.symbols.Symbol.{Symbol}
use Rattle.poly_eval.specs.declared.symbols.Symbol.TheVariants as shown
use Rattle.poly_eval.specs.Shows.{ShowsValue}
use Rattle.honest_states.specs.Modes.{is_so, are_so, is_known, are_known}
use Rattle.dp_model.specs.declared.parts.PlainValue.{PlainValue}
use Rattle.honest_states.proofs.Lists.{Matched}

one_on : (j k : ℕ) → suc j + k ≡ j + suc k
one_on j k = omega arith

same_some : {X : Type 0} (x y : X) → Some x ≡ Some y → x ≡ y
same_some x y e = cc

so_at : (xs : List (Option Bool)) (j : ℕ) (set : List ℕ) → are_so xs j set ≡ true → (k : ℕ) (x : Option Bool) → slice_get xs k ≡ Some x → is_so x (has set (j + k)) ≡ true
so_at [] j set h k x e = absurd (cc)
so_at (y ∷ ys) j set h zero x e =
    let parts = and_parts (is_so y (has set j)) (are_so ys (suc j) set) h in
    subst (λ (n : ℕ). is_so x (has set n) ≡ true) (sym (add-zero j)) (subst (λ (z : Option Bool). is_so z (has set j) ≡ true) (same_some y x e) parts.0)
so_at (y ∷ ys) j set h (suc k) x e =
    let parts = and_parts (is_so y (has set j)) (are_so ys (suc j) set) h in
    subst (λ (n : ℕ). is_so x (has set n) ≡ true) (one_on j k) (so_at ys (suc j) set parts.1 k x e)

so_from : (xs : List (Option Bool)) (j : ℕ) (set : List ℕ) → ((k : ℕ) (x : Option Bool) → slice_get xs k ≡ Some x → is_so x (has set (j + k)) ≡ true) → are_so xs j set ≡ true
so_from [] j set f = refl
so_from (y ∷ ys) j set f =
    and_from (is_so y (has set j)) (are_so ys (suc j) set) (subst (λ (n : ℕ). is_so y (has set n) ≡ true) (add-zero j) (f zero y refl))
    (so_from ys (suc j) set (λ k x e. subst (λ (n : ℕ). is_so x (has set n) ≡ true) (sym (one_on j k)) (f (suc k) x e)))

-- what is known of each member, and back
pub members_at : (xs : List (Option Bool)) (set : List ℕ) → are_so xs 0 set ≡ true → (k : ℕ) (x : Option Bool) → slice_get xs k ≡ Some x → is_so x (has set k) ≡ true
members_at xs set h k x e = subst (λ (n : ℕ). is_so x (has set n) ≡ true) (zero-add k) (so_at xs 0 set h k x e)

pub members_from : (xs : List (Option Bool)) (set : List ℕ) → ((k : ℕ) (x : Option Bool) → slice_get xs k ≡ Some x → is_so x (has set k) ≡ true) → are_so xs 0 set ≡ true
members_from xs set f = so_from xs 0 set (λ k x e. subst (λ (n : ℕ). is_so x (has set n) ≡ true) (sym (zero-add k)) (f k x e))

known_at : (xs : List Known) (i : ℕ) (s : PlainState) → are_known xs i s ≡ true → (k : ℕ) (x : Known) → slice_get xs k ≡ Some x → is_known x (slice_get s.values (i + k)) ≡ true
known_at [] i s h k x e = absurd (cc)
known_at (y ∷ ys) i s h zero x e =
    let parts = and_parts (is_known y (slice_get s.values i)) (are_known ys (suc i) s) h in
    subst (λ (n : ℕ). is_known x (slice_get s.values n) ≡ true) (sym (add-zero i)) (subst (λ (z : Known). is_known z (slice_get s.values i) ≡ true) (same_some y x e) parts.0)
known_at (y ∷ ys) i s h (suc k) x e =
    let parts = and_parts (is_known y (slice_get s.values i)) (are_known ys (suc i) s) h in
    subst (λ (n : ℕ). is_known x (slice_get s.values n) ≡ true) (one_on i k) (known_at ys (suc i) s parts.1 k x e)

known_from : (xs : List Known) (i : ℕ) (s : PlainState) → ((k : ℕ) (x : Known) → slice_get xs k ≡ Some x → is_known x (slice_get s.values (i + k)) ≡ true) → are_known xs i s ≡ true
known_from [] i s f = refl
known_from (y ∷ ys) i s f =
    and_from (is_known y (slice_get s.values i)) (are_known ys (suc i) s) (subst (λ (n : ℕ). is_known y (slice_get s.values n) ≡ true) (add-zero i) (f zero y refl))
    (known_from ys (suc i) s (λ k x e. subst (λ (n : ℕ). is_known x (slice_get s.values n) ≡ true) (sym (one_on i k)) (f (suc k) x e)))

-- what is known of each variable, and back
pub variables_at : (xs : List Known) (s : PlainState) → are_known xs 0 s ≡ true → (k : ℕ) (x : Known) → slice_get xs k ≡ Some x → is_known x (slice_get s.values k) ≡ true
variables_at xs s h k x e = subst (λ (n : ℕ). is_known x (slice_get s.values n) ≡ true) (zero-add k) (known_at xs 0 s h k x e)

pub variables_from : (xs : List Known) (s : PlainState) → ((k : ℕ) (x : Known) → slice_get xs k ≡ Some x → is_known x (slice_get s.values k) ≡ true) → are_known xs 0 s ≡ true
variables_from xs s f = known_from xs 0 s (λ k x e. subst (λ (n : ℕ). is_known x (slice_get s.values n) ≡ true) (sym (zero-add k)) (f k x e))

-- what is known by another one's knowledge, item by item

pub so_matched : (old new : List (Option Bool)) (set : List ℕ) → Matched (λ k y x. (b : Bool) → is_so y b ≡ true → is_so x b ≡ true) old new → are_so old 0 set ≡ true → are_so new 0 set ≡ true
so_matched old new set m h = members_from new set (λ k x e. let here = m k x e in here.2 (has set k) (members_at old set h k here.0 here.1))

pub known_matched : (old new : List Known) (s : PlainState) → Matched (λ k y x. (held : Option PlainValue) → is_known y held ≡ true → is_known x held ≡ true) old new → are_known old 0 s ≡ true → are_known new 0 s ≡ true
known_matched old new s m h = variables_from new s (λ k x e. let here = m k x e in here.2 (slice_get s.values k) (variables_at old s h k here.0 here.1))

-- ---- bits

pub as_bit_same : (a b : Bool) → as_bit a ≡ as_bit b → a ≡ b
as_bit_same true true e = refl
as_bit_same false false e = refl
as_bit_same true false e = absurd (omega (arith, ints, e))
as_bit_same false true e = absurd (omega (arith, ints, e))

so_self : (x : Bool) → is_so (Some x) x ≡ true
so_self true = refl
so_self false = refl

-- a member whose bit is worth what is known
pub so_worth : (known : Option Bool) (x b : Bool) → known ≡ Some x → as_bit b ≡ as_bit x → is_so known b ≡ true
so_worth known x b e h = subst (λ (k : Option Bool). is_so k b ≡ true) (sym e) (subst (λ (c : Bool). is_so (Some x) c ≡ true) (sym (as_bit_same b x h)) (so_self x))

-- ---- what symbols say of what is known

pub within_members : (table : List Atom) (symbol : Symbol) (known : Known) (bits : List (List Term)) (members : List (Option Bool)) → symbol ≡ shown.Members bits → known ≡ knowledge.Members members
    → ((v : ℕ → ℤ) (held : Option PlainValue) → Fits table v → ShowsValue v (shown.Members bits) held → is_known (knowledge.Members members) held ≡ true)
    → (v : ℕ → ℤ) (held : Option PlainValue) → Fits table v → ShowsValue v symbol held → is_known known held ≡ true
within_members table symbol known bits members e f h v held fits shows =
    subst (λ (k : Known). is_known k held ≡ true) (sym f) (h v held fits (subst (λ (x : Symbol). ShowsValue v x held) e shows))
