-- What typing gives of a list in a number's place is well typed.
use Rattle.std.proofs.Common.{◌≡◌, ℕ, ◌<◌, false, not, ◌&&◌, ◌==◌, slice_get, unwrap_or, option_and_then, nat_lt, List, [], ◌∷◌, length, map, Option, Some, None, Result, Ok, IfOk, IsTrue, refl, sym, subst, arith}
use Rattle.std.proofs.lemmas.Bool.{and_from, eqb-true, lt-ltb}
use Rattle.dp_model.specs.Typing.{cells_at, args_at, are_numbers, is_summed, args_typed}
use Rattle.dp_model.specs.declared.parts.ObjectType.{ObjectType}
use Rattle.dp_model.specs.declared.parts.Variable.{Variable}
use Rattle.dp_model.specs.declared.parts.TableData.{TableData}
use Rattle.dp_model.specs.declared.trees.NumOp.{NumOp}
use Rattle.dp_model.specs.declared.trees.Arg.{Arg}
use Rattle.dp_model.specs.declared.trees.Num.{Num}
use Rattle.dp_model.specs.declared.trees.Num.TheVariants as num
use Rattle.dp_model.specs.declared.trees.Cond.{Cond}
use Rattle.dypdl_words.specs.Scopes.{Names}
use Rattle.dypdl_words.specs.declared.ends.TypeEnd.{TypeEnd}
use Rattle.dypdl_words.specs.declared.scope.CellKind.{CellKind}
use Rattle.dypdl_words.specs.declared.scope.CellKind.TheVariants as cells
use Rattle.dypdl_words.specs.declared.scope.Shape.{Shape}
use Rattle.dypdl_words.specs.declared.scope.Named.TheVariants as named
use Rattle.dypdl_words.specs.declared.words.Operator.{Operator}
use Rattle.dypdl_words.specs.declared.words.Operator.TheVariants as operators
use Rattle.dp_base.specs.Results.{in_turn}
use Rattle.dypdl_words.specs.Words.{Meaning, Head, meaning}
use Rattle.dypdl_words.specs.Words as words
use Rattle.dypdl_words.specs.Leaves.{are_whole}
use Rattle.dypdl_words.specs.Folding.{folded_numbers}
use Rattle.dypdl_words.specs.Trees.{both}
use Rattle.dypdl_type.specs.Typing.{Typing, are_enough, arguments, number_operation, number_choice, term, terms, summed_shape, summed_word, summed_table, sum_of, number_sum, number_operator, number_list}
use Rattle.dypdl_type.proofs.Trees.{Each, is_arg, AreTerms, num_cell, num_sum, num_op, num_if, one_fits, many_fits}
use Rattle.dypdl_type.proofs.Meanings.{either_way, IsPlain, MeaningFits, HeadFits}
use Rattle.dypdl_type.proofs.Sound.{and_then, both_fit, if_allowed, unless_refused, in_turn_each, whole_cells, NumFits, SetFits, CondFits, Sound, wanted_set, numbers_fit, AreArguments, arguments_fit}

module _ (os : List ObjectType) (vs : List Variable) (ts : List TableData) (given : ℕ) where
  abbrev FitsNum : Num → Type 0
  FitsNum n = NumFits os vs ts given n

  abbrev FitsCond : Cond → Type 0
  FitsCond c = CondFits os vs ts given c

  abbrev AreSound : List Typing → Type 0
  AreSound xs = Each (Sound os vs ts given) xs

  folded_numbers_fit : (op : NumOp) (n : Num) (ns : List Num) → FitsNum n → Each FitsNum ns → FitsNum (folded_numbers op n ns)
  folded_numbers_fit op n [] h k = h
  folded_numbers_fit op n (m ∷ ns) h k = folded_numbers_fit op (num.Op op n m) ns (num_op os vs ts given op n m h k.0) k.1

  number_operation_fits : (at : ℕ) (op : NumOp) (xs : List Typing) → AreSound xs → IfOk (number_operation at op xs) FitsNum
  number_operation_fits at op [] h = tt
  number_operation_fits at op (x ∷ xs) h =
      if_allowed FitsNum (are_enough op (length xs)) _ _
      (λ enough. and_then (λ (p : Num × List Num). FitsNum p.0 × ((length p.1 ≡ length xs) × Each FitsNum p.1)) FitsNum (both x.number (in_turn (λ (e : Typing). e.number) xs)) _
      (both_fit FitsNum (λ ns. (length ns ≡ length xs) × Each FitsNum ns) x.number (in_turn (λ (e : Typing). e.number) xs) h.0.number
      (in_turn_each FitsNum (λ (e : Typing). e.number) xs (numbers_fit os vs ts given xs h.1)))
      (λ p q. folded_numbers_fit op p.0 p.1 q.0 q.1.1))

  abbrev pub FitNumbers : Num × Num → Type 0
  FitNumbers p = FitsNum p.0 × FitsNum p.1

  pub number_pair_fits : (a b : Typing) → Sound os vs ts given a → Sound os vs ts given b → IfOk (both a.number b.number) FitNumbers
  number_pair_fits a b h k = both_fit FitsNum FitsNum a.number b.number h.number k.number

  number_choice_fits : (at : ℕ) (xs : List Typing) → AreSound xs → IfOk (number_choice at xs) FitsNum
  number_choice_fits at (c ∷ a ∷ b ∷ []) h =
      and_then (λ (p : Cond × (Num × Num)). FitsCond p.0 × FitNumbers p.1) FitsNum (both c.condition (both a.number b.number)) _
      (both_fit FitsCond FitNumbers c.condition (both a.number b.number) h.0.condition (number_pair_fits a b h.1.0 h.1.1.0))
      (λ p q. num_if os vs ts given p.0 p.1.0 p.1.1 q.0 q.1.0 q.1.1)
  number_choice_fits at others h = tt

  -- ---- sums

  abbrev IsTerm : ℕ → Arg → Type 0
  IsTerm object y = IsTrue (is_arg os vs ts given y object given)

  term_fits : (object : ℕ) (x : Typing) → Sound os vs ts given x → IfOk (term object x) (IsTerm object)
  term_fits object x sound =
      either_way (λ (r : Result Arg TypeEnd). IfOk r (IsTerm object)) x.holds_set _ _
      (and_then (SetFits os vs ts given (Some object)) (IsTerm object) (x.members (Some object)) _ (sound.members (Some object))
      (λ s p. many_fits os vs ts given object s.1 (wanted_set os vs ts given object s p)))
      (and_then FitsNum (IsTerm object) x.number _ sound.number (λ n p. one_fits os vs ts given object n p))

  terms_fit : (objects : List ℕ) (xs : List Typing) → length xs ≡ length objects → AreSound xs → IfOk (terms objects xs) (AreTerms os vs ts given objects)
  terms_fit [] [] same h = refl
  terms_fit [] (x ∷ xs) same h = absurd (omega arith)
  terms_fit (object ∷ objects) [] same h = absurd (omega arith)
  terms_fit (object ∷ objects) (x ∷ xs) same h =
      and_then (IsTerm object) (AreTerms os vs ts given (object ∷ objects)) (term object x) _ (term_fits object x h.0)
      (λ y p. and_then (AreTerms os vs ts given objects) (AreTerms os vs ts given (object ∷ objects)) (terms objects xs) _ (terms_fit objects xs (omega arith) h.1)
      (λ ys q. and_from (is_arg os vs ts given y object given) (args_typed objects (map (is_arg os vs ts given) ys) given) p q))

  -- a table that may be summed, with arguments of these object types
  abbrev IsSummed : ℕ × List ℕ → Type 0
  IsSummed table = IsTrue (is_summed (slice_get ts table.0)) × (args_at ts table.0 ≡ table.1)

  summed_by : (o : Option TableData) → IsPlain cells.Integer o → IsTrue (nat_lt 0 (length (unwrap_or (option_and_then (λ (x : TableData). Some x.args) o) []))) → IsTrue (is_summed o)
  summed_by (Some t) h k =
      and_from (not t.element) (are_numbers (Some t.cells) && nat_lt 0 (length t.args)) h.0
      (and_from (are_numbers (Some t.cells)) (nat_lt 0 (length t.args)) h.1 k)
  summed_by None h k = absurd h

  some_args : (xs : List ℕ) → (length xs == 0) ≡ false → IsTrue (nat_lt 0 (length xs))
  some_args [] none = absurd (cc none)
  some_args (x ∷ xs) none = let h : 0 < length (x ∷ xs) = omega arith in lt-ltb 0 (length (x ∷ xs)) h

  summed_shape_fits : (at t : ℕ) (shape : Shape) (kind : CellKind) → args_at ts t ≡ shape.args → IsPlain kind (slice_get ts t) → IfOk (summed_shape at t shape kind) IsSummed
  summed_shape_fits at t shape cells.Integer is h =
      unless_refused IsSummed (length shape.args == 0) (Ok (t, shape.args)) _
      (λ some. (summed_by (slice_get ts t) h (subst (λ (xs : List ℕ). IsTrue (nat_lt 0 (length xs))) (sym is) (some_args shape.args some)), is))
  summed_shape_fits at t shape other is h = tt

  summed_word_fits : (at : ℕ) (m : Meaning) → MeaningFits vs ts given m → IfOk (summed_word at m) IsSummed
  summed_word_fits at (words.Name (named.Table t shape)) h = summed_shape_fits at t shape shape.cells h.0 h.2
  summed_word_fits at other h = tt

  module _ (names : Names) (known : (word : List ℕ) → MeaningFits vs ts given (meaning names word)) where
    summed_table_fits : (at : ℕ) (word : Option (List ℕ)) → IfOk (summed_table names at word) IsSummed
    unfolding summed_table
    summed_table_fits at (Some word) = summed_word_fits at (meaning names word) (known word)
    summed_table_fits at None = tt

    sum_fits : (at : ℕ) (t : Typing) (xs : List Typing) → AreSound xs → IfOk (sum_of names at t xs) FitsNum
    sum_fits at t xs h =
        and_then IsSummed FitsNum (summed_table names t.at t.word) _ (summed_table_fits t.at t.word)
        (λ table p. if_allowed FitsNum (length xs == length table.1) _ _
        (λ same. and_then (AreTerms os vs ts given table.1) FitsNum (terms table.1 xs) (λ ys. Ok (num.Sum table.0 ys))
        (terms_fit table.1 xs (eqb-true (length xs) (length table.1) same) h)
        (λ ys q. num_sum os vs ts given table.0 ys p.0 (subst (λ (objects : List ℕ). AreTerms os vs ts given objects ys) (sym p.1) q))))

    number_sum_fits : (at : ℕ) (xs : List Typing) → AreSound xs → IfOk (number_sum names at xs) FitsNum
    number_sum_fits at [] h = tt
    number_sum_fits at (t ∷ xs) h = if_allowed FitsNum (nat_lt 0 (length xs)) _ _ (λ some. sum_fits at t xs h.1)

    number_operator_fits : (at : ℕ) (o : Operator) (xs : List Typing) → AreSound xs → IfOk (number_operator names at o xs) FitsNum
    unfolding number_operator
    number_operator_fits at (operators.Number op) xs h = number_operation_fits at op xs h
    number_operator_fits at operators.If xs h = number_choice_fits at xs h
    number_operator_fits at operators.Sum xs h = number_sum_fits at xs h
    number_operator_fits at other xs h = tt

    pub number_list_fits : (at : ℕ) (head : Head) (xs : List Typing) → HeadFits vs ts head → AreSound xs → IfOk (number_list names at head xs) FitsNum
    unfolding number_list
    number_list_fits at (words.Operation o) xs is h = number_operator_fits at o xs h
    number_list_fits at (words.Table t shape) xs is h =
        if_allowed FitsNum (are_whole shape.cells) _ _
        (λ whole. and_then (AreArguments os vs ts given t) FitsNum (arguments at shape xs) (λ ns. Ok (num.Cell t ns)) (arguments_fit os vs ts given at t shape xs is.0 h)
        (λ ns p. num_cell os vs ts given t ns (whole_cells shape.cells (cells_at ts t) whole is.1) p.0 p.1))
    number_list_fits at other xs is h = tt
