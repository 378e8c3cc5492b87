-- Which states are at least as good as others, and which nodes of a search make others needless.
use Rattle.std.specs.Prelude.{◌≡◌, Bool, true, false, List, [], ◌∷◌, Option, ℤ, ◌≤ℤ◌}
use Rattle.dp_model.specs.Costs.{order_word}
use Rattle.dp_model.specs.declared.parts.Preference.{Preference}
use Rattle.dp_model.specs.declared.parts.Preference.TheVariants.{Without, Less, Greater}
use Rattle.dp_model.specs.declared.parts.Variable.{Variable}
use Rattle.dp_model.specs.declared.parts.PlainValue.{PlainValue}
use Rattle.dp_model.specs.declared.parts.PlainValue.TheVariants.{Number, Members}
use Rattle.dp_model.specs.declared.parts.PlainState.{PlainState}
use Rattle.dp_model.specs.declared.whole.Model.{Model}

abbrev pub IsAtMost : PlainValue → PlainValue → Type 0
IsAtMost (Number a) (Number b) = a ≤ℤ b
IsAtMost (Number a) (Members b) = ⊥
IsAtMost (Members a) b = Members a ≡ b

-- A value is at least as good as another: of a resource variable it is no greater, or no less, as the preference says;
-- of another variable it is the same.
abbrev pub AtLeast : Preference → PlainValue → PlainValue → Type 0
AtLeast Without a b = a ≡ b
AtLeast Less a b = IsAtMost a b
AtLeast Greater a b = IsAtMost b a

-- the values of the variables, in order
abbrev pub DominatesIn : List Variable → List PlainValue → List PlainValue → Type 0
DominatesIn [] xs ys = xs ≡ ys
DominatesIn (v ∷ vs) [] ys = [] ≡ ys
DominatesIn (v ∷ vs) (x ∷ xs) [] = ⊥
DominatesIn (v ∷ vs) (x ∷ xs) (y ∷ ys) = AtLeast v.preference x y × DominatesIn vs xs ys

-- A state dominates another: it has the same values on all variables but the resources, and is at least as good on each
-- resource. Each state dominates itself.
abbrev pub Dominates : Model → PlainState → PlainState → Type 0
Dominates m s other = DominatesIn m.variables s.values other.values

-- with pruning on the state dominates the other, and with pruning off it is the same
abbrev pub Replaces : Model → (prune : Bool) → PlainState → PlainState → Type 0
Replaces m false s other = s ≡ other
Replaces m true s other = Dominates m s other

-- the word of a cost so far is not greater than that of another
abbrev pub IsNoWorse : Model → Option ℤ → Option ℤ → Type 0
IsNoWorse m cost other = order_word m.minimize m.join cost ≤ℤ order_word m.minimize m.join other

-- A state with a cost so far covers another: its cost so far is no worse, and it replaces the other's state.
abbrev pub Covers : Model → (prune : Bool) → PlainState → Option ℤ → PlainState → Option ℤ → Type 0
Covers m prune s cost other other_cost = Replaces m prune s other × IsNoWorse m cost other_cost
