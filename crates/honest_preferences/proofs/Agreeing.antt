-- What two states have in common of which the first is at least as good by the kept preferences.
use Rattle.std.proofs.Common.{◌≡◌, ℕ, zero, suc, Bool, true, false, List, [], ◌∷◌, slice_get, Some, None, ℤ, pos, refl, sym, ap, subst, ◌∙◌, arith}
use Rattle.std.specs.Prelude.{◌≤ℤ◌, not}
use Rattle.std.proofs.lemmas.Int.{ints}
use Rattle.dp_model.specs.Evaluation.{number_held}
use Rattle.dp_model.specs.declared.parts.PlainValue.{PlainValue}
use Rattle.dp_model.specs.declared.parts.PlainValue.TheVariants as values
use Rattle.dp_model.specs.declared.parts.Preference.{Preference}
use Rattle.dp_model.specs.declared.parts.Preference.TheVariants.{Without, Less, Greater}
use Rattle.dp_model.specs.declared.parts.Variable.{Variable}
use Rattle.dp_claims.specs.Dominance.{AtLeast, DominatesIn, IsAtMost}
use Rattle.kept_model.specs.Parts.{variable_if, variables_with}
use Rattle.honest_preferences.specs.Leaving.{is_kept}

pub no_greater : (z : ℤ) → z ≤ℤ z
no_greater z = omega (arith, ints)

pub not_kept : (b : Bool) → not b ≡ true → b ≡ false
not_kept false h = refl
not_kept true h = absurd cc

-- ---- values

same_if : (k : Bool) (v : Variable) (a b : PlainValue) → k ≡ false → AtLeast (variable_if k v).preference a b → a ≡ b
same_if false v a b e h = h
same_if true v a b e h = absurd cc

held_at_most : (a b : PlainValue) → IsAtMost a b → number_held (Some a) ≤ℤ number_held (Some b)
held_at_most (values.Number a) (values.Number b) h = h
held_at_most (values.Number a) (values.Members b) h = absurd h
held_at_most (values.Members a) b h = subst (λ (x : PlainValue). pos 0 ≤ℤ number_held (Some x)) h (no_greater (pos 0))

held_same : (a b : PlainValue) → a ≡ b → number_held (Some a) ≤ℤ number_held (Some b)
held_same a b e = subst (λ (x : PlainValue). number_held (Some a) ≤ℤ number_held (Some x)) e (no_greater (number_held (Some a)))

less_by : (p : Preference) (a b : PlainValue) → p ≡ Less → AtLeast p a b → number_held (Some a) ≤ℤ number_held (Some b)
less_by Less a b e h = held_at_most a b h
less_by Without a b e h = absurd cc
less_by Greater a b e h = absurd cc

greater_by : (p : Preference) (a b : PlainValue) → p ≡ Greater → AtLeast p a b → number_held (Some b) ≤ℤ number_held (Some a)
greater_by Greater a b e h = held_at_most b a h
greater_by Without a b e h = absurd cc
greater_by Less a b e h = absurd cc

less_if : (k : Bool) (v : Variable) (a b : PlainValue) → v.preference ≡ Less → AtLeast (variable_if k v).preference a b → number_held (Some a) ≤ℤ number_held (Some b)
less_if true v a b e h = less_by v.preference a b e h
less_if false v a b e h = held_same a b h

greater_if : (k : Bool) (v : Variable) (a b : PlainValue) → v.preference ≡ Greater → AtLeast (variable_if k v).preference a b → number_held (Some b) ≤ℤ number_held (Some a)
greater_if true v a b e h = greater_by v.preference a b e h
greater_if false v a b e h = held_same b a (sym h)

-- ---- states

pub agreeing : (kept : List Bool) (vs : List Variable) (xs ys : List PlainValue) → DominatesIn (variables_with kept vs) xs ys → (v : ℕ) → is_kept kept v ≡ false → slice_get xs v ≡ slice_get ys v
agreeing kept [] xs ys d v free = ap (λ (zs : List PlainValue). slice_get zs v) d
agreeing [] (x ∷ vs) [] ys d v free = ap (λ (zs : List PlainValue). slice_get zs v) d
agreeing [] (x ∷ vs) (a ∷ xs) [] d v free = absurd d
agreeing [] (x ∷ vs) (a ∷ xs) (b ∷ ys) d zero free = ap Some d.0
agreeing [] (x ∷ vs) (a ∷ xs) (b ∷ ys) d (suc v) free = agreeing [] vs xs ys d.1 v refl
agreeing (k ∷ kept) (x ∷ vs) [] ys d v free = ap (λ (zs : List PlainValue). slice_get zs v) d
agreeing (k ∷ kept) (x ∷ vs) (a ∷ xs) [] d v free = absurd d
agreeing (k ∷ kept) (x ∷ vs) (a ∷ xs) (b ∷ ys) d zero free = ap Some (same_if k x a b free d.0)
agreeing (k ∷ kept) (x ∷ vs) (a ∷ xs) (b ∷ ys) d (suc v) free = agreeing kept vs xs ys d.1 v free

some_one : (a b : Variable) → Some a ≡ Some b → a ≡ b
some_one a b e = cc

-- a variable of which less is preferred holds no more in the better state
pub held_less : (kept : List Bool) (vs : List Variable) (xs ys : List PlainValue) → DominatesIn (variables_with kept vs) xs ys → (v : ℕ) (x : Variable) → slice_get vs v ≡ Some x → x.preference ≡ Less
    → number_held (slice_get xs v) ≤ℤ number_held (slice_get ys v)
held_less kept [] xs ys d v x at e = let clash : None ≡ Some x = at in absurd cc
held_less [] (w ∷ vs) [] ys d v x at e = subst (λ (zs : List PlainValue). pos 0 ≤ℤ number_held (slice_get zs v)) d (no_greater (pos 0))
held_less [] (w ∷ vs) (a ∷ xs) [] d v x at e = absurd d
held_less [] (w ∷ vs) (a ∷ xs) (b ∷ ys) d zero x at e = held_same a b d.0
held_less [] (w ∷ vs) (a ∷ xs) (b ∷ ys) d (suc v) x at e = held_less [] vs xs ys d.1 v x at e
held_less (k ∷ kept) (w ∷ vs) [] ys d v x at e = subst (λ (zs : List PlainValue). pos 0 ≤ℤ number_held (slice_get zs v)) d (no_greater (pos 0))
held_less (k ∷ kept) (w ∷ vs) (a ∷ xs) [] d v x at e = absurd d
held_less (k ∷ kept) (w ∷ vs) (a ∷ xs) (b ∷ ys) d zero x at e = less_if k w a b (ap (λ (y : Variable). y.preference) (some_one w x at) ∙ e) d.0
held_less (k ∷ kept) (w ∷ vs) (a ∷ xs) (b ∷ ys) d (suc v) x at e = held_less kept vs xs ys d.1 v x at e

-- one of which more is preferred holds no less
pub held_greater : (kept : List Bool) (vs : List Variable) (xs ys : List PlainValue) → DominatesIn (variables_with kept vs) xs ys → (v : ℕ) (x : Variable) → slice_get vs v ≡ Some x → x.preference ≡ Greater
    → number_held (slice_get ys v) ≤ℤ number_held (slice_get xs v)
held_greater kept [] xs ys d v x at e = let clash : None ≡ Some x = at in absurd cc
held_greater [] (w ∷ vs) [] ys d v x at e = subst (λ (zs : List PlainValue). number_held (slice_get zs v) ≤ℤ pos 0) d (no_greater (pos 0))
held_greater [] (w ∷ vs) (a ∷ xs) [] d v x at e = absurd d
held_greater [] (w ∷ vs) (a ∷ xs) (b ∷ ys) d zero x at e = held_same b a (sym d.0)
held_greater [] (w ∷ vs) (a ∷ xs) (b ∷ ys) d (suc v) x at e = held_greater [] vs xs ys d.1 v x at e
held_greater (k ∷ kept) (w ∷ vs) [] ys d v x at e = subst (λ (zs : List PlainValue). number_held (slice_get zs v) ≤ℤ pos 0) d (no_greater (pos 0))
held_greater (k ∷ kept) (w ∷ vs) (a ∷ xs) [] d v x at e = absurd d
held_greater (k ∷ kept) (w ∷ vs) (a ∷ xs) (b ∷ ys) d zero x at e = greater_if k w a b (ap (λ (y : Variable). y.preference) (some_one w x at) ∙ e) d.0
held_greater (k ∷ kept) (w ∷ vs) (a ∷ xs) (b ∷ ys) d (suc v) x at e = held_greater kept vs xs ys d.1 v x at e
