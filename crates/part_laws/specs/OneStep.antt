-- What is asked of each single step of a model, of states that an invariant holds of.
use Rattle.std.specs.Prelude.{◌≡◌, ℕ, ◌⊎◌, List, [], Option, Ok, ℤ}
use Rattle.dp_model.specs.Costs.{join_onto}
use Rattle.dp_model.specs.Evaluation.{num_value}
use Rattle.dp_steps.specs.States.{Base, Inner, Step}
use Rattle.dp_claims.specs.Dominance.{DominatesIn}
use Rattle.dp_claims.specs.Honest.{IsNotBetter}
use Rattle.dp_model.specs.declared.trees.Num.{Num}
use Rattle.dp_model.specs.declared.parts.PlainState.{PlainState}
use Rattle.dp_model.specs.declared.parts.Variable.{Variable}
use Rattle.dp_model.specs.declared.whole.Model.{Model}

-- The invariant holds of the target, and each step to an inner state keeps it.
pub record Invariant (m : Model) (Holds : PlainState → Type 0) : Type 0 where
  pub first : Holds m.target
  pub kept : (s : PlainState) (g : ℕ) (weight : Option ℤ) (next : PlainState) → Holds s → Step m s g weight next → Inner m next → Holds next

-- No step leads to what costs less than the state is worth.
pub record IsWorth (m : Model) (Holds : PlainState → Type 0) (worth : PlainState → ℤ) : Type 0 where
  pub ends : (s : PlainState) (g : ℕ) (weight : Option ℤ) (next : PlainState) (base : ℤ) → Holds s → Step m s g weight next → Base m next base → IsNotBetter m (join_onto m.join weight base) (worth s)
  pub goes : (s : PlainState) (g : ℕ) (weight : Option ℤ) (next : PlainState) → Holds s → Step m s g weight next → Inner m next → IsNotBetter m (join_onto m.join weight (worth next)) (worth s)

-- The expression is no tighter than what a state is worth, where it has a value.
abbrev pub IsBelow : Model → (PlainState → Type 0) → (PlainState → ℤ) → Num → Type 0
IsBelow m Holds worth e = (s : PlainState) (bound : ℤ) → Holds s → Inner m s → num_value m s e [] ≡ Ok bound → IsNotBetter m (worth s) bound

-- Joined with this weight instead of the other, what is no worse stays so.
abbrev pub IsLighter : Model → Option ℤ → Option ℤ → Type 0
IsLighter m weight other = (v v' : ℤ) → IsNotBetter m v' v → IsNotBetter m (join_onto m.join other v') (join_onto m.join weight v)

-- the same for no weight at all
abbrev pub IsFree : Model → Option ℤ → Type 0
IsFree m other = (v v' : ℤ) → IsNotBetter m v' v → IsNotBetter m (join_onto m.join other v') v

-- The better state answers a step of the other one that ends at a base state: by a step to a base state, at no more in all.
abbrev pub AnswersEnd : Model → PlainState → Option ℤ → ℤ → Type 0
AnswersEnd m s other base = (g : ℕ) × (weight : Option ℤ) × (next : PlainState) × (cost : ℤ) × Step m s g weight next × Base m next cost × IsNotBetter m (join_onto m.join other base) (join_onto m.join weight cost)

-- It answers one that goes on: by a step of a weight that is no worse to an inner state that is as good, or by staying.
abbrev pub AnswersStep : Model → (PlainState → PlainState → Type 0) → PlainState → Option ℤ → PlainState → Type 0
AnswersStep m AsGood s other next' =
    ((g : ℕ) × (weight : Option ℤ) × (next : PlainState) × Step m s g weight next × Inner m next × AsGood next next' × IsLighter m weight other) ⊎ (AsGood s next' × IsFree m other)

-- What dominates by the preferences of these variables is as good, and what is as good answers each step.
pub record Simulates (m : Model) (variables : List Variable) (Holds : PlainState → Type 0) (AsGood : PlainState → PlainState → Type 0) : Type 0 where
  pub dominating : (s s' : PlainState) → Holds s → Holds s' → DominatesIn variables s.values s'.values → AsGood s s'
  pub ends : (s s' : PlainState) → Holds s → Holds s' → Inner m s → AsGood s s' → (g : ℕ) (other : Option ℤ) (next' : PlainState) (base : ℤ) → Step m s' g other next' → Base m next' base → AnswersEnd m s other base
  pub goes : (s s' : PlainState) → Holds s → Holds s' → Inner m s → AsGood s s' → (g : ℕ) (other : Option ℤ) (next' : PlainState) → Step m s' g other next' → Inner m next' → AnswersStep m AsGood s other next'
