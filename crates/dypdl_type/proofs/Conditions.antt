-- What typing gives of a list in a condition's place is well typed.
use Rattle.std.proofs.Common.{◌≡◌, ℕ, ◌&&◌, nat_lt, List, [], ◌∷◌, length, Option, None, Result, Ok, IfOk}
use Rattle.dp_model.specs.Typing.{cells_at}
use Rattle.dp_model.specs.declared.parts.ObjectType.{ObjectType}
use Rattle.dp_model.specs.declared.parts.Variable.{Variable}
use Rattle.dp_model.specs.declared.parts.TableData.{TableData}
use Rattle.dp_model.specs.declared.trees.Compare.{Compare}
use Rattle.dp_model.specs.declared.trees.Compare.TheVariants as comparisons
use Rattle.dp_model.specs.declared.trees.Num.{Num}
use Rattle.dp_model.specs.declared.trees.SetEx.{SetEx}
use Rattle.dp_model.specs.declared.trees.Cond.{Cond}
use Rattle.dp_model.specs.declared.trees.Cond.TheVariants as cond
use Rattle.dypdl_words.specs.declared.ends.TypeEnd.{TypeEnd}
use Rattle.dypdl_words.specs.declared.words.Operator.{Operator}
use Rattle.dypdl_words.specs.declared.words.Operator.TheVariants as operators
use Rattle.dypdl_words.specs.declared.words.Connective.{Connective}
use Rattle.dypdl_words.specs.declared.words.Connective.TheVariants as connectives
use Rattle.dypdl_words.specs.declared.words.SetTest.{SetTest}
use Rattle.dypdl_words.specs.declared.words.SetTest.TheVariants as tests
use Rattle.dp_base.specs.Results.{in_turn}
use Rattle.dypdl_words.specs.Words.{Head}
use Rattle.dypdl_words.specs.Words as words
use Rattle.dypdl_words.specs.Leaves.{are_truths as hold_truths}
use Rattle.dypdl_words.specs.Folding.{connect, connected}
use Rattle.dypdl_words.specs.Trees.{both}
use Rattle.dypdl_type.specs.Typing.{Typing, arguments, set_pair, same_sets, tests_equality, comparison_of, comparison, connection, negation, set_test, condition_choice, condition_operator, condition_list}
use Rattle.dypdl_type.proofs.Trees.{Each, IsSetOf, cond_cell, cond_numbers, cond_same, cond_other, cond_in, cond_subset, cond_empty, cond_not, cond_and, cond_or, cond_if}
use Rattle.dypdl_type.proofs.Numbers.{FitNumbers, number_pair_fits}
use Rattle.dypdl_type.proofs.Sets.{FitsPair, set_pair_fits}
use Rattle.dypdl_type.proofs.Meanings.{either_way, HeadFits}
use Rattle.dypdl_type.proofs.Sound.{and_then, both_fit, if_allowed, in_turn_each, truth_cells, NumFits, SetFits, CondFits, Sound, conditions_fit, AreArguments, arguments_fit}

module _ (os : List ObjectType) (vs : List Variable) (ts : List TableData) (given : ℕ) where
  abbrev FitsNum : Num → Type 0
  FitsNum n = NumFits os vs ts given n

  abbrev FitsSet : Option ℕ → ℕ × SetEx → Type 0
  FitsSet wanted s = SetFits os vs ts given wanted s

  abbrev FitsCond : Cond → Type 0
  FitsCond c = CondFits os vs ts given c

  abbrev AreSound : List Typing → Type 0
  AreSound xs = Each (Sound os vs ts given) xs

  same_sets_fit : (op : Compare) (object : ℕ) (a b : SetEx) → IsSetOf os vs ts given object a → IsSetOf os vs ts given object b → FitsCond (same_sets op a b)
  same_sets_fit comparisons.Same object a b h k = cond_same os vs ts given object a b h k
  same_sets_fit op object a b h k = cond_other os vs ts given object a b h k

  comparison_fits : (at : ℕ) (op : Compare) (xs : List Typing) → AreSound xs → IfOk (comparison at op xs) FitsCond
  unfolding comparison_of
  comparison_fits at op (a ∷ b ∷ []) h =
      either_way (λ (r : Result Cond TypeEnd). IfOk r FitsCond) (tests_equality op && a.holds_set) _ _
      (and_then (FitsPair os vs ts given None) FitsCond (set_pair None a b) _ (set_pair_fits os vs ts given None a b h.0 h.1.0)
      (λ s p. same_sets_fit op s.0 s.1.0 s.1.1 p.0.0 p.1))
      (and_then (FitNumbers os vs ts given) FitsCond (both a.number b.number) _ (number_pair_fits os vs ts given a b h.0 h.1.0)
      (λ x p. cond_numbers os vs ts given op x.0 x.1 p.0 p.1))
  comparison_fits at op others h = tt

  connect_fits : (op : Connective) (a b : Cond) → FitsCond a → FitsCond b → FitsCond (connect op a b)
  connect_fits connectives.And a b h k = cond_and os vs ts given a b h k
  connect_fits connectives.Or a b h k = cond_or os vs ts given a b h k

  connected_fit : (op : Connective) (c : Cond) (cs : List Cond) → FitsCond c → Each FitsCond cs → FitsCond (connected op c cs)
  connected_fit op c [] h k = h
  connected_fit op c (d ∷ cs) h k = connected_fit op (connect op c d) cs (connect_fits op c d h k.0) k.1

  connection_fits : (at : ℕ) (op : Connective) (xs : List Typing) → AreSound xs → IfOk (connection at op xs) FitsCond
  connection_fits at op [] h = tt
  connection_fits at op (x ∷ xs) h =
      if_allowed FitsCond (nat_lt 0 (length xs)) _ _
      (λ some. and_then (λ (p : Cond × List Cond). FitsCond p.0 × ((length p.1 ≡ length xs) × Each FitsCond p.1)) FitsCond (both x.condition (in_turn (λ (e : Typing). e.condition) xs)) (λ p. Ok (connected op p.0 p.1))
      (both_fit FitsCond (λ cs. (length cs ≡ length xs) × Each FitsCond cs) x.condition (in_turn (λ (e : Typing). e.condition) xs) h.0.condition
      (in_turn_each FitsCond (λ (e : Typing). e.condition) xs (conditions_fit os vs ts given xs h.1)))
      (λ p q. connected_fit op p.0 p.1 q.0 q.1.1))

  negation_fits : (at : ℕ) (xs : List Typing) → AreSound xs → IfOk (negation at xs) FitsCond
  negation_fits at (x ∷ []) h = and_then FitsCond FitsCond x.condition _ h.0.condition (λ c p. cond_not os vs ts given c p)
  negation_fits at others h = tt

  set_test_fits : (at : ℕ) (test : SetTest) (xs : List Typing) → AreSound xs → IfOk (set_test at test xs) FitsCond
  unfolding set_test
  set_test_fits at tests.IsIn (x ∷ y ∷ []) h =
      and_then (λ (p : Num × (ℕ × SetEx)). FitsNum p.0 × FitsSet None p.1) FitsCond (both x.number (y.members None)) _
      (both_fit FitsNum (FitsSet None) x.number (y.members None) h.0.number (h.1.0.members None))
      (λ p q. cond_in os vs ts given p.1.0 p.0 p.1.1 q.0 q.1.0)
  set_test_fits at tests.IsSubset (x ∷ y ∷ []) h =
      and_then (FitsPair os vs ts given None) FitsCond (set_pair None x y) _ (set_pair_fits os vs ts given None x y h.0 h.1.0)
      (λ s p. cond_subset os vs ts given s.0 s.1.0 s.1.1 p.0.0 p.1)
  set_test_fits at tests.IsEmpty (x ∷ []) h = and_then (FitsSet None) FitsCond (x.members None) _ (h.0.members None) (λ s p. cond_empty os vs ts given s.0 s.1 p.0)
  set_test_fits at test others h = tt

  abbrev FitConditions : Cond × Cond → Type 0
  FitConditions p = FitsCond p.0 × FitsCond p.1

  condition_choice_fits : (at : ℕ) (xs : List Typing) → AreSound xs → IfOk (condition_choice at xs) FitsCond
  condition_choice_fits at (c ∷ a ∷ b ∷ []) h =
      and_then (λ (p : Cond × (Cond × Cond)). FitsCond p.0 × FitConditions p.1) FitsCond (both c.condition (both a.condition b.condition)) _
      (both_fit FitsCond FitConditions c.condition (both a.condition b.condition) h.0.condition (both_fit FitsCond FitsCond a.condition b.condition h.1.0.condition h.1.1.0.condition))
      (λ p q. cond_if os vs ts given p.0 p.1.0 p.1.1 q.0 q.1.0 q.1.1)
  condition_choice_fits at others h = tt

  condition_operator_fits : (at : ℕ) (o : Operator) (xs : List Typing) → AreSound xs → IfOk (condition_operator at o xs) FitsCond
  unfolding condition_operator
  condition_operator_fits at (operators.Compares op) xs h = comparison_fits at op xs h
  condition_operator_fits at (operators.Connects op) xs h = connection_fits at op xs h
  condition_operator_fits at operators.Not xs h = negation_fits at xs h
  condition_operator_fits at (operators.Tests test) xs h = set_test_fits at test xs h
  condition_operator_fits at operators.If xs h = condition_choice_fits at xs h
  condition_operator_fits at other xs h = tt

  pub condition_list_fits : (at : ℕ) (head : Head) (xs : List Typing) → HeadFits vs ts head → AreSound xs → IfOk (condition_list at head xs) FitsCond
  unfolding condition_list
  condition_list_fits at (words.Operation o) xs is h = condition_operator_fits at o xs h
  condition_list_fits at (words.Table t shape) xs is h =
      if_allowed FitsCond (hold_truths shape.cells) _ _
      (λ truths. and_then (AreArguments os vs ts given t) FitsCond (arguments at shape xs) (λ ns. Ok (cond.Cell t ns)) (arguments_fit os vs ts given at t shape xs is.0 h)
      (λ ns p. cond_cell os vs ts given t ns (truth_cells shape.cells (cells_at ts t) truths is.1) p.0 p.1))
  condition_list_fits at other xs is h = tt
