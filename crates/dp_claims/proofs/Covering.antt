-- Covering is reflexive and transitive.
use Rattle.std.proofs.Common.{◌≡◌, Bool, true, false, List, [], ◌∷◌, refl, ◌∙◌, arith}
use Rattle.std.specs.Prelude.{ℤ, ◌≤ℤ◌}
use Rattle.std.proofs.lemmas.Int.{ints}
use Rattle.dp_claims.specs.Dominance.{IsAtMost, AtLeast, DominatesIn, Replaces}
use Rattle.dp_claims.specs.Laws.{LawReflexive, LawTransitive}
use Rattle.dp_model.specs.declared.parts.Preference.{Preference}
use Rattle.dp_model.specs.declared.parts.Preference.TheVariants.{Without, Less, Greater}
use Rattle.dp_model.specs.declared.parts.Variable.{Variable}
use Rattle.dp_model.specs.declared.parts.PlainValue.{PlainValue}
use Rattle.dp_model.specs.declared.parts.PlainValue.TheVariants.{Number, Members}
use Rattle.dp_model.specs.declared.parts.PlainState.{PlainState}
use Rattle.dp_model.specs.declared.whole.Model.{Model}

pub self : (a : ℤ) → a ≤ℤ a
self a = omega (arith, ints)

pub least_trans : (a b c : ℤ) → a ≤ℤ b → b ≤ℤ c → a ≤ℤ c
least_trans a b c h k = omega (arith, ints)

at_most_self : (x : PlainValue) → IsAtMost x x
at_most_self (Number a) = self a
at_most_self (Members a) = refl

at_most_trans : (x y z : PlainValue) → IsAtMost x y → IsAtMost y z → IsAtMost x z
at_most_trans (Number a) (Number b) (Number c) h k = least_trans a b c h k
at_most_trans (Number a) (Number b) (Members c) h k = k
at_most_trans (Number a) (Members b) z h k = absurd h
at_most_trans (Members a) (Number b) z h k = let clash : Members a ≡ Number b = h in absurd (cc)
at_most_trans (Members a) (Members b) z h k = h ∙ k

at_least_self : (p : Preference) (x : PlainValue) → AtLeast p x x
at_least_self Without x = refl
at_least_self Less x = at_most_self x
at_least_self Greater x = at_most_self x

at_least_trans : (p : Preference) (x y z : PlainValue) → AtLeast p x y → AtLeast p y z → AtLeast p x z
at_least_trans Without x y z h k = h ∙ k
at_least_trans Less x y z h k = at_most_trans x y z h k
at_least_trans Greater x y z h k = at_most_trans z y x k h

in_self : (vs : List Variable) (xs : List PlainValue) → DominatesIn vs xs xs
in_self [] xs = refl
in_self (v ∷ vs) [] = refl
in_self (v ∷ vs) (x ∷ xs) = (at_least_self v.preference x, in_self vs xs)

in_trans : (vs : List Variable) (xs ys zs : List PlainValue) → DominatesIn vs xs ys → DominatesIn vs ys zs → DominatesIn vs xs zs
in_trans [] xs ys zs h k = h ∙ k
in_trans (v ∷ vs) [] [] zs h k = k
in_trans (v ∷ vs) [] (y ∷ ys) zs h k = let clash : [] ≡ y ∷ ys = h in absurd (cc)
in_trans (v ∷ vs) (x ∷ xs) [] zs h k = absurd h
in_trans (v ∷ vs) (x ∷ xs) (y ∷ ys) [] h k = k
in_trans (v ∷ vs) (x ∷ xs) (y ∷ ys) (z ∷ zs) h k = (at_least_trans v.preference x y z h.0 k.0, in_trans vs xs ys zs h.1 k.1)

replaces_self : (m : Model) (prune : Bool) (s : PlainState) → Replaces m prune s s
replaces_self m false s = refl
replaces_self m true s = in_self m.variables s.values

replaces_trans : (m : Model) (prune : Bool) (a b c : PlainState) → Replaces m prune a b → Replaces m prune b c → Replaces m prune a c
replaces_trans m false a b c h k = h ∙ k
replaces_trans m true a b c h k = in_trans m.variables a.values b.values c.values h k

pub reflexive : LawReflexive
reflexive m prune s cost = (replaces_self m prune s, self _)

pub transitive : LawTransitive
transitive m prune a b c cost_a cost_b cost_c h k = (replaces_trans m prune a b c h.0 k.0, least_trans _ _ _ h.1 k.1)
