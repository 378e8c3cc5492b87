-- The arguments of a table's cell and of a `sum`, after they were evaluated.
use Rattle.std.specs.Prelude.{ℕ, List, [], ◌∷◌, map, ◌⊎◌, ℤ, Result, Ok}
use Rattle.std.proofs.Common.{inl, inr}
use Rattle.dp_base.specs.Results.{◌>>=◌, in_turn}
use Rattle.dp_model.specs.Evaluation.{member_of, members_of, place_in, choices_of, table_counts, total_of, ways, ArgValue, CondValue, NumValue, SetValue, arg_step, cond_step, num_step, set_step, num_value}
use Rattle.dp_model.specs.Costs.{ranged}
use Rattle.dp_model.specs.declared.whole.Model.{Model}
use Rattle.dp_model.specs.declared.parts.PlainState.{PlainState}
use Rattle.dp_model.specs.declared.trees.Arg as args
use Rattle.dp_model.specs.declared.trees.Num as nums
use Rattle.dp_model.specs.declared.answers.FaultKind.{FaultKind}
use Rattle.dp_eval.specs.declared.sums.Term.{Term}
use Rattle.dp_eval.specs.declared.sums.Term.TheVariants.{Number, Members}

-- the arguments of a table as members, and the cell at the place that they lead to
abbrev pub at_members : {A : Type 0} → Model → ℕ → (ℕ → A) → List ℤ → Result A FaultKind
at_members m t cell numbers = members_of (table_counts m t) numbers >>= λ members. Ok (cell (place_in m t members))

-- the same, where the arguments are operands that may be a fault
abbrev pub at_operands : {A : Type 0} → Model → ℕ → (ℕ → A) → Result (List ℤ) FaultKind → Result A FaultKind
at_operands m t cell operands = operands >>= λ numbers. at_members m t cell numbers

abbrev pub term_value : Term → ℤ ⊎ List ℕ
term_value (Number n) = inl n
term_value (Members set) = inr set

-- the choices for one argument, whose object type has this count
abbrev pub choice_of : ℕ → ℤ ⊎ List ℕ → Result (List ℕ) FaultKind
choice_of count (inl n) = member_of count n >>= λ k. Ok (k ∷ [])
choice_of count (inr set) = Ok set

-- the sum of a table's cells, tested once on its whole total
abbrev pub sum_value : Model → ℕ → List (ℤ ⊎ List ℕ) → Result ℤ FaultKind
sum_value m t given = choices_of (table_counts m t) given >>= λ choices. ranged (total_of m t (ways choices))

-- numbers in a state, in order
abbrev pub num_values : Model → PlainState → List nums.Num → List ℕ → Result (List ℤ) FaultKind
num_values m s ns given = in_turn (λ (n : NumValue). n given) (map (num_value m s) ns)

-- an argument of a `sum` in a state, and all of them in order

abbrev pub arg_value : Model → PlainState → args.Arg → ArgValue
arg_value m s = args.fold-Arg ArgValue CondValue NumValue SetValue arg_step (cond_step m s) (num_step m s) (set_step m s)

abbrev pub term_values : Model → PlainState → List args.Arg → List ℕ → Result (List (ℤ ⊎ List ℕ)) FaultKind
term_values m s terms given = in_turn (λ (a : ArgValue). a given) (map (arg_value m s) terms)
