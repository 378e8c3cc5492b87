-- The typing of an expression: the tree that it stands for in a number's place, in a set's place and in a
-- condition's place, or what is refused first there. It is a fold over expressions. A form is typed from the outside
-- in and from left to right: its head, then the number of its operands, then the operands.
use Rattle.std.specs.Prelude.{ℕ, Bool, true, false, ◌&&◌, nat_lt, ◌==◌, if◌then◌else◌, List, [], ◌∷◌, length, map, codes, Option, Some, None, Result, Ok, Err}
use Rattle.std.specs.Str.{bytes_eq}
use Rattle.dp_base.specs.Results.{◌>>=◌, in_turn}
use Rattle.dypdl_expr.specs.declared.expr.Expr as exprs
use Rattle.dp_model.specs.declared.parts.JoinOp.{JoinOp}
use Rattle.dp_model.specs.declared.parts.JoinOp.TheVariants as joins
use Rattle.dp_model.specs.declared.trees.NumOp.{NumOp}
use Rattle.dp_model.specs.declared.trees.NumOp.TheVariants as num_ops
use Rattle.dp_model.specs.declared.trees.SetOp.{SetOp}
use Rattle.dp_model.specs.declared.trees.SetOp.TheVariants as set_ops
use Rattle.dp_model.specs.declared.trees.Compare.{Compare}
use Rattle.dp_model.specs.declared.trees.Compare.TheVariants as comparisons
use Rattle.dp_model.specs.declared.trees.Arg.{Arg}
use Rattle.dp_model.specs.declared.trees.Arg.TheVariants as arg
use Rattle.dp_model.specs.declared.trees.Num.{Num}
use Rattle.dp_model.specs.declared.trees.SetEx.{SetEx}
use Rattle.dp_model.specs.declared.trees.Cond.{Cond}
use Rattle.dp_model.specs.declared.trees.Cond.TheVariants as cond
use Rattle.dypdl_words.specs.Scopes.{Names}
use Rattle.dypdl_words.specs.declared.ends.TypeEnd.{TypeEnd}
use Rattle.dypdl_words.specs.declared.ends.TypeEnd.TheVariants.{WrongKind, WrongCount, CostForm}
use Rattle.dypdl_type.specs.declared.cost.CostForm as forms
use Rattle.dypdl_type.specs.declared.cost.CostForm.TheVariants.{Bare, Joined}
use Rattle.dypdl_words.specs.declared.scope.CellKind.{CellKind}
use Rattle.dypdl_words.specs.declared.scope.CellKind.TheVariants as cells
use Rattle.dypdl_words.specs.declared.scope.Shape.{Shape}
use Rattle.dypdl_words.specs.declared.scope.Named.TheVariants as named
use Rattle.dypdl_words.specs.declared.words.Operator.{Operator}
use Rattle.dypdl_words.specs.declared.words.Operator.TheVariants as operators
use Rattle.dypdl_words.specs.declared.words.Change.{Change}
use Rattle.dypdl_words.specs.declared.words.Connective.{Connective}
use Rattle.dypdl_words.specs.declared.words.SetTest.{SetTest}
use Rattle.dypdl_words.specs.declared.words.SetTest.TheVariants as tests
use Rattle.dypdl_words.specs.Words.{Meaning, Head, meaning, head_of, is_cost}
use Rattle.dypdl_words.specs.Words as words
use Rattle.dypdl_words.specs.Leaves.{are_whole, are_truths, are_sets, number_word, word_refused, of_object, members_word, condition_word, word_holds_set, head_refused}
use Rattle.dypdl_words.specs.declared.folding.SetRelation.TheVariants as relations
use Rattle.dypdl_words.specs.Trees as trees

-- What an expression is in each place. A set has its object type, and may be wanted of one.
pub record Typing : Type 0 where
  pub at : ℕ
  -- its word, where it is one
  pub word : Option (List ℕ)
  -- whether it is of set kind as an operand of `=`, `!=` and `sum`
  pub holds_set : Bool
  pub number : Result Num TypeEnd
  pub members : Option ℕ → Result (ℕ × SetEx) TypeEnd
  pub condition : Result Cond TypeEnd

-- ---- lists in a number's place

-- how many operands an operation on numbers has after the first
abbrev pub are_enough : NumOp → ℕ → Bool
are_enough num_ops.Plus more = nat_lt 0 more
are_enough num_ops.Times more = nat_lt 0 more
are_enough num_ops.Most more = nat_lt 0 more
are_enough num_ops.Least more = nat_lt 0 more
are_enough num_ops.Minus more = more == 1
are_enough num_ops.Over more = more == 1
are_enough num_ops.Rest more = more == 1

abbrev pub operation_of : NumOp → Typing → List Typing → Result Num TypeEnd
operation_of op x xs = trees.operation op x.number (in_turn (λ (e : Typing). e.number) xs)

abbrev pub number_operation : (at : ℕ) → NumOp → List Typing → Result Num TypeEnd
number_operation at op [] = Err (WrongCount at)
number_operation at op (x ∷ xs) = if are_enough op (length xs) then operation_of op x xs else Err (WrongCount at)

abbrev pub chosen_number : (c a b : Typing) → Result Num TypeEnd
chosen_number c a b = trees.number_choice c.condition a.number b.number

abbrev pub number_choice : (at : ℕ) → List Typing → Result Num TypeEnd
number_choice at (c ∷ a ∷ b ∷ []) = chosen_number c a b
number_choice at others = Err (WrongCount at)

-- an argument of a `sum`, whose object type is the table's
abbrev pub term : (object : ℕ) → Typing → Result Arg TypeEnd
term object x = if x.holds_set then (x.members (Some object) >>= λ s. Ok (arg.Many s.1)) else (x.number >>= λ n. Ok (arg.One n))

abbrev pub terms : List ℕ → List Typing → Result (List Arg) TypeEnd
terms (object ∷ objects) (x ∷ xs) = term object x >>= λ y. terms objects xs >>= λ ys. Ok (y ∷ ys)
terms objects xs = Ok []

-- the table of a `sum` has whole numbers of no object type, and at least one argument
abbrev pub summed_shape : (at : ℕ) → (t : ℕ) → Shape → CellKind → Result (ℕ × List ℕ) TypeEnd
summed_shape at t shape cells.Integer = if length shape.args == 0 then Err (WrongKind at) else Ok (t, shape.args)
summed_shape at t shape cells.Element = Err (WrongKind at)
summed_shape at t shape cells.Truth = Err (WrongKind at)
summed_shape at t shape (cells.Set object) = Err (WrongKind at)

abbrev pub summed_word : (at : ℕ) → Meaning → Result (ℕ × List ℕ) TypeEnd
summed_word at (words.Name (named.Table t shape)) = summed_shape at t shape shape.cells
summed_word at other = Err (word_refused at other)

unfoldable pub summed_table : Names → (at : ℕ) → Option (List ℕ) → Result (ℕ × List ℕ) TypeEnd
summed_table names at (Some word) = summed_word at (meaning names word)
summed_table names at None = Err (WrongKind at)

abbrev pub sum_of : Names → (at : ℕ) → Typing → List Typing → Result Num TypeEnd
sum_of names at t xs =
    summed_table names t.at t.word >>= λ table. if length xs == length table.1 then trees.sum table.0 (terms table.1 xs) else Err (WrongCount at)

abbrev pub number_sum : Names → (at : ℕ) → List Typing → Result Num TypeEnd
number_sum names at [] = Err (WrongCount at)
number_sum names at (t ∷ xs) = if nat_lt 0 (length xs) then sum_of names at t xs else Err (WrongCount at)

unfoldable pub number_operator : Names → (at : ℕ) → Operator → List Typing → Result Num TypeEnd
number_operator names at (operators.Number op) xs = number_operation at op xs
number_operator names at operators.If xs = number_choice at xs
number_operator names at operators.Sum xs = number_sum names at xs
number_operator names at other xs = Err (WrongKind at)

-- the arguments of a table, as many as it has
abbrev pub arguments : (at : ℕ) → Shape → List Typing → Result (List Num) TypeEnd
arguments at shape xs = if length xs == length shape.args then in_turn (λ (e : Typing). e.number) xs else Err (WrongCount at)

unfoldable pub number_list : Names → (at : ℕ) → Head → List Typing → Result Num TypeEnd
number_list names at (words.Operation o) xs = number_operator names at o xs
number_list names at (words.Table t shape) xs = if are_whole shape.cells then trees.number_cell t (arguments at shape xs) else Err (WrongKind at)
number_list names at other xs = Err (head_refused at other)

-- ---- lists in a set's place: the first set that is met says the object type, where the place does not

abbrev pub sets_are_enough : SetOp → ℕ → Bool
sets_are_enough set_ops.Union more = nat_lt 0 more
sets_are_enough set_ops.Intersection more = nat_lt 0 more
sets_are_enough set_ops.Difference more = more == 1

abbrev pub set_operation_of : (wanted : Option ℕ) → SetOp → Typing → List Typing → Result (ℕ × SetEx) TypeEnd
set_operation_of wanted op x xs = x.members wanted >>= λ s. trees.set_operation s.0 op s.1 (in_turn (λ (e : Typing). e.members (Some s.0)) xs)

abbrev pub members_operation : (at : ℕ) → (wanted : Option ℕ) → SetOp → List Typing → Result (ℕ × SetEx) TypeEnd
members_operation at wanted op [] = Err (WrongCount at)
members_operation at wanted op (x ∷ xs) = if sets_are_enough op (length xs) then set_operation_of wanted op x xs else Err (WrongCount at)

abbrev pub members_complement : (at : ℕ) → (wanted : Option ℕ) → List Typing → Result (ℕ × SetEx) TypeEnd
members_complement at wanted (x ∷ []) = trees.complement (x.members wanted)
members_complement at wanted others = Err (WrongCount at)

abbrev pub changed : (wanted : Option ℕ) → Change → (n x : Typing) → Result (ℕ × SetEx) TypeEnd
changed wanted change n x = trees.change_of change n.number (x.members wanted)

abbrev pub members_change : (at : ℕ) → (wanted : Option ℕ) → Change → List Typing → Result (ℕ × SetEx) TypeEnd
members_change at wanted change (n ∷ x ∷ []) = changed wanted change n x
members_change at wanted change others = Err (WrongCount at)

-- two sets of one object type, with their object type
abbrev pub set_pair : (wanted : Option ℕ) → (a b : Typing) → Result (ℕ × (SetEx × SetEx)) TypeEnd
set_pair wanted a b = a.members wanted >>= λ x. trees.set_pair x.0 x.1 (b.members (Some x.0))

abbrev pub chosen_members : (wanted : Option ℕ) → (c a b : Typing) → Result (ℕ × SetEx) TypeEnd
chosen_members wanted c a b = trees.set_choice c.condition (set_pair wanted a b)

abbrev pub members_choice : (at : ℕ) → (wanted : Option ℕ) → List Typing → Result (ℕ × SetEx) TypeEnd
members_choice at wanted (c ∷ a ∷ b ∷ []) = chosen_members wanted c a b
members_choice at wanted others = Err (WrongCount at)

unfoldable pub members_operator : (at : ℕ) → (wanted : Option ℕ) → Operator → List Typing → Result (ℕ × SetEx) TypeEnd
members_operator at wanted (operators.Sets op) xs = members_operation at wanted op xs
members_operator at wanted operators.Complement xs = members_complement at wanted xs
members_operator at wanted (operators.Changes change) xs = members_change at wanted change xs
members_operator at wanted operators.If xs = members_choice at wanted xs
members_operator at wanted other xs = Err (WrongKind at)

abbrev pub members_table : (at : ℕ) → (wanted : Option ℕ) → (t : ℕ) → Shape → CellKind → List Typing → Result (ℕ × SetEx) TypeEnd
members_table at wanted t shape (cells.Set object) xs = of_object at wanted object (trees.set_cell object t (arguments at shape xs))
members_table at wanted t shape cells.Integer xs = Err (WrongKind at)
members_table at wanted t shape cells.Element xs = Err (WrongKind at)
members_table at wanted t shape cells.Truth xs = Err (WrongKind at)

unfoldable pub members_list : (at : ℕ) → (wanted : Option ℕ) → Head → List Typing → Result (ℕ × SetEx) TypeEnd
members_list at wanted (words.Operation o) xs = members_operator at wanted o xs
members_list at wanted (words.Table t shape) xs = members_table at wanted t shape shape.cells xs
members_list at wanted other xs = Err (head_refused at other)

-- ---- lists in a condition's place

abbrev pub same_sets : Compare → SetEx → SetEx → Cond
same_sets comparisons.Same a b = cond.SameSet a b
same_sets op a b = cond.OtherSet a b

abbrev pub tests_equality : Compare → Bool
tests_equality comparisons.Same = true
tests_equality comparisons.Other = true
tests_equality op = false

-- two sets of one object type where the first operand of `=` or `!=` is of set kind, and else two numbers
unfoldable pub comparison_of : Compare → (a b : Typing) → Result Cond TypeEnd
comparison_of op a b =
    if tests_equality op && a.holds_set
    then (set_pair None a b >>= λ p. Ok (same_sets op p.1.0 p.1.1))
    else trees.comparison op a.number b.number

abbrev pub comparison : (at : ℕ) → Compare → List Typing → Result Cond TypeEnd
comparison at op (a ∷ b ∷ []) = comparison_of op a b
comparison at op others = Err (WrongCount at)

abbrev pub connection_of : Connective → Typing → List Typing → Result Cond TypeEnd
connection_of op x xs = trees.connection op x.condition (in_turn (λ (e : Typing). e.condition) xs)

-- two or more conditions
abbrev pub connection : (at : ℕ) → Connective → List Typing → Result Cond TypeEnd
connection at op [] = Err (WrongCount at)
connection at op (x ∷ xs) = if nat_lt 0 (length xs) then connection_of op x xs else Err (WrongCount at)

abbrev pub negation : (at : ℕ) → List Typing → Result Cond TypeEnd
negation at (x ∷ []) = trees.negation x.condition
negation at others = Err (WrongCount at)

-- whether a number is in a set, a set in another one of its object type, or a set empty
unfoldable pub set_test : (at : ℕ) → SetTest → List Typing → Result Cond TypeEnd
set_test at tests.IsIn (x ∷ y ∷ []) = trees.membership x.number (y.members None)
set_test at tests.IsSubset (x ∷ y ∷ []) = trees.set_relation relations.Within (set_pair None x y)
set_test at tests.IsEmpty (x ∷ []) = trees.emptiness (x.members None)
set_test at test others = Err (WrongCount at)

-- a choice between two conditions, of which only the chosen one is evaluated
abbrev pub choice_of_conditions : (c a b : Typing) → Result Cond TypeEnd
choice_of_conditions c a b = trees.condition_choice c.condition a.condition b.condition

abbrev pub condition_choice : (at : ℕ) → List Typing → Result Cond TypeEnd
condition_choice at (c ∷ a ∷ b ∷ []) = choice_of_conditions c a b
condition_choice at others = Err (WrongCount at)

unfoldable pub condition_operator : (at : ℕ) → Operator → List Typing → Result Cond TypeEnd
condition_operator at (operators.Compares op) xs = comparison at op xs
condition_operator at (operators.Connects op) xs = connection at op xs
condition_operator at operators.Not xs = negation at xs
condition_operator at (operators.Tests test) xs = set_test at test xs
condition_operator at operators.If xs = condition_choice at xs
condition_operator at other xs = Err (WrongKind at)

unfoldable pub condition_list : (at : ℕ) → Head → List Typing → Result Cond TypeEnd
condition_list at (words.Operation o) xs = condition_operator at o xs
condition_list at (words.Table t shape) xs = if are_truths shape.cells then trees.condition_cell t (arguments at shape xs) else Err (WrongKind at)
condition_list at other xs = Err (head_refused at other)

-- ---- the fold

abbrev pub second_holds_set : List Typing → Bool
second_holds_set (x ∷ y ∷ xs) = y.holds_set
second_holds_set others = false

-- an `if` is of set kind where its second operand is
abbrev pub operator_holds_set : Operator → List Typing → Bool
operator_holds_set (operators.Sets op) xs = true
operator_holds_set operators.Complement xs = true
operator_holds_set (operators.Changes change) xs = true
operator_holds_set operators.If xs = second_holds_set xs
operator_holds_set other xs = false

unfoldable pub list_holds_set : Head → List Typing → Bool
list_holds_set (words.Operation o) xs = operator_holds_set o xs
list_holds_set (words.Table t shape) xs = are_sets shape.cells
list_holds_set other xs = false

-- one refusal in every place
abbrev pub refused : (at : ℕ) → TypeEnd → Typing
refused at e = record { at = at; word = None; holds_set = false; number = Err e; members = λ wanted. Err e; condition = Err e }

abbrev pub word_typing : Names → (at : ℕ) → List ℕ → Typing
word_typing names at word =
    let m = meaning names word in
    record { at = at; word = Some word; holds_set = word_holds_set m; number = number_word at m; members = λ wanted. members_word at wanted m; condition = condition_word at m }

abbrev pub headed_typing : Names → (at : ℕ) → Head → List Typing → Typing
headed_typing names at head xs =
    record { at = at; word = None; holds_set = list_holds_set head xs; number = number_list names at head xs; members = λ wanted. members_list at wanted head xs; condition = condition_list at head xs }

abbrev pub head_typing : Names → (at : ℕ) → Option (List ℕ) → List Typing → Typing
head_typing names at (Some word) xs = headed_typing names at (head_of names word) xs
head_typing names at None xs = refused at (WrongKind at)

-- a list whose head is no word is of no kind
abbrev pub list_typing : Names → (at : ℕ) → List Typing → Typing
list_typing names at [] = refused at (WrongKind at)
list_typing names at (x ∷ xs) = head_typing names at x.word xs

-- the number of members of a set
abbrev pub bars_typing : (at : ℕ) → Typing → Typing
bars_typing at x = record { at = at; word = None; holds_set = false; number = trees.size (x.members None); members = λ wanted. Err (WrongKind at); condition = Err (WrongKind at) }

abbrev pub typing_step : Names → exprs.Expr-F Typing → Typing
typing_step names (exprs.Expr-F.Word at word) = word_typing names at word
typing_step names (exprs.Expr-F.List at items) = list_typing names at items
typing_step names (exprs.Expr-F.Bars at x) = bars_typing at x

-- what an expression is in each place
unfoldable pub typing : Names → exprs.Expr → Typing
typing names = exprs.fold-Expr Typing (typing_step names)

-- the tree alone, of a set of this object type
abbrev pub members_of : (object : ℕ) → Typing → Result SetEx TypeEnd
members_of object x = x.members (Some object) >>= λ s. Ok s.1

-- ---- cost expressions

abbrev pub join_named : List ℕ → Option JoinOp
join_named word =
    if bytes_eq word (codes "+") then Some joins.Plus
    else (if bytes_eq word (codes "max") then Some joins.Most
    else (if bytes_eq word (codes "min") then Some joins.Least else None))

abbrev pub word_is_cost : Option (List ℕ) → Bool
word_is_cost (Some word) = is_cost word
word_is_cost None = false

-- the weight is the other operand, where just one is `cost`
abbrev pub weight_of : (a b : Typing) → Result Num TypeEnd
weight_of a b =
    if word_is_cost a.word then (if word_is_cost b.word then Err (CostForm 0) else b.number)
    else (if word_is_cost b.word then a.number else Err (CostForm 0))

abbrev pub joined_cost : Option JoinOp → (a b : Typing) → Result forms.CostForm TypeEnd
joined_cost (Some op) a b = weight_of a b >>= λ n. Ok (Joined op n)
joined_cost None a b = Err (CostForm 0)

abbrev pub headed_cost : Option (List ℕ) → (a b : Typing) → Result forms.CostForm TypeEnd
headed_cost (Some word) a b = joined_cost (join_named word) a b
headed_cost None a b = Err (CostForm 0)

abbrev pub cost_list : List Typing → Result forms.CostForm TypeEnd
cost_list (head ∷ a ∷ b ∷ []) = headed_cost head.word a b
cost_list others = Err (CostForm 0)

abbrev pub cost_step : Names → exprs.Expr-F exprs.Expr → Result forms.CostForm TypeEnd
cost_step names (exprs.Expr-F.Word at word) = if is_cost word then Ok Bare else Err (CostForm 0)
cost_step names (exprs.Expr-F.List at items) = cost_list (map (typing names) items)
cost_step names (exprs.Expr-F.Bars at x) = Err (CostForm 0)

-- `cost`, or a list of `+`, `max` or `min` with two operands, just one of which is `cost`
unfoldable pub cost_typing : Names → exprs.Expr → Result forms.CostForm TypeEnd
cost_typing names e = cost_step names (exprs.out-Expr e)
