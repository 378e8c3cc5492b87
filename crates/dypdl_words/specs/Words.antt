-- What a word is in an expression, and what it is at the head of a list.
use Rattle.std.specs.Prelude.{ℕ, Bool, true, false, ◌||◌, if◌then◌else◌, List, [], ◌∷◌, codes, Option, Some, None, is_some, ℤ}
use Rattle.std.specs.List.{list_any}
use Rattle.std.specs.Str.{bytes_eq, all_ascii_digits}
use Rattle.std.specs.Str.Parse.{without_leading_sign, signed_digits_value}
use Rattle.dp_base.specs.Bytes.{is_digit}
use Rattle.dp_model.specs.Typing.{is_in_range}
use Rattle.dp_model.specs.declared.trees.NumOp.TheVariants as num_ops
use Rattle.dp_model.specs.declared.trees.SetOp.TheVariants as set_ops
use Rattle.dp_model.specs.declared.trees.Compare.TheVariants as comparisons
use Rattle.dypdl_words.specs.Scopes.{Names, name_in, param_in}
use Rattle.dypdl_words.specs.declared.scope.Shape.{Shape}
use Rattle.dypdl_words.specs.declared.scope.Named.{Named}
use Rattle.dypdl_words.specs.declared.scope.Named.TheVariants as named
use Rattle.dypdl_words.specs.declared.words.Operator.{Operator}
use Rattle.dypdl_words.specs.declared.words.Operator.TheVariants as operators
use Rattle.dypdl_words.specs.declared.words.Change.TheVariants as changes
use Rattle.dypdl_words.specs.declared.words.Connective.TheVariants as connectives
use Rattle.dypdl_words.specs.declared.words.SetTest.TheVariants as tests

-- what a word stands for where an expression is wanted
pub data Meaning : Type 0 where
  -- a whole number, if it is in range
  Whole : Option ℤ → Meaning
  -- it begins as a number, and is no whole number
  Continuous : Meaning
  Cost : Meaning
  Truth : Bool → Meaning
  Param : ℕ → Meaning
  Name : Named → Meaning
  Unknown : Meaning

-- what a word stands for at the head of a list
pub data Head : Type 0 where
  Operation : Operator → Head
  Table : ℕ → Shape → Head
  CostHead : Head
  -- an operator of continuous numbers, which are left out
  LeftOut : Head
  UnknownHead : Head

-- ---- numbers

abbrev pub starts_with_digit : List ℕ → Bool
starts_with_digit [] = false
starts_with_digit (byte ∷ bytes) = is_digit byte

-- a digit comes first, or a sign and then a digit
unfoldable pub begins_number : List ℕ → Bool
begins_number word = starts_with_digit (without_leading_sign word)

-- the number that an optional sign and digits write, where it is in range
abbrev pub number_in_range : ℤ → Option ℤ
number_in_range n = if is_in_range n then Some n else None

-- an optional sign and one or more digits
unfoldable pub number_meaning : List ℕ → Meaning
number_meaning word =
    if all_ascii_digits (without_leading_sign word) then Whole (number_in_range (signed_digits_value 10 word)) else Continuous

-- ---- words

unfoldable pub is_cost : List ℕ → Bool
is_cost word = bytes_eq word (codes "cost")

abbrev pub name_meaning : Option ℕ → Option Named → Meaning
name_meaning (Some p) name = Param p
name_meaning None (Some name) = Name name
name_meaning None None = Unknown

unfoldable pub meaning : Names → List ℕ → Meaning
meaning names word =
    if begins_number word then number_meaning word
    else (if is_cost word then Cost
    else (if bytes_eq word (codes "true") then Truth true
    else (if bytes_eq word (codes "false") then Truth false
    else name_meaning (param_in names word) (name_in names word))))

-- ---- heads

abbrev pub operator_in : List (List ℕ × Operator) → List ℕ → Option Operator
operator_in [] word = None
operator_in (o ∷ os) word = if bytes_eq word o.0 then Some o.1 else operator_in os word

abbrev pub operators_of : List (List ℕ × Operator)
operators_of =
    (codes "+", operators.Number num_ops.Plus) ∷ (codes "*", operators.Number num_ops.Times)
    ∷ (codes "max", operators.Number num_ops.Most) ∷ (codes "min", operators.Number num_ops.Least)
    ∷ (codes "-", operators.Number num_ops.Minus) ∷ (codes "/", operators.Number num_ops.Over)
    ∷ (codes "%", operators.Number num_ops.Rest) ∷ (codes "if", operators.If) ∷ (codes "sum", operators.Sum)
    ∷ (codes "union", operators.Sets set_ops.Union) ∷ (codes "intersection", operators.Sets set_ops.Intersection)
    ∷ (codes "difference", operators.Sets set_ops.Difference) ∷ (codes "~", operators.Complement)
    ∷ (codes "add", operators.Changes changes.Add) ∷ (codes "remove", operators.Changes changes.Remove)
    ∷ (codes "=", operators.Compares comparisons.Same) ∷ (codes "!=", operators.Compares comparisons.Other)
    ∷ (codes "<", operators.Compares comparisons.Less) ∷ (codes "<=", operators.Compares comparisons.AtMost)
    ∷ (codes ">", operators.Compares comparisons.More) ∷ (codes ">=", operators.Compares comparisons.AtLeast)
    ∷ (codes "and", operators.Connects connectives.And) ∷ (codes "or", operators.Connects connectives.Or) ∷ (codes "not", operators.Not)
    ∷ (codes "is_in", operators.Tests tests.IsIn) ∷ (codes "is_subset", operators.Tests tests.IsSubset) ∷ (codes "is_empty", operators.Tests tests.IsEmpty) ∷ []

unfoldable pub operator_named : List ℕ → Option Operator
operator_named word = operator_in operators_of word

unfoldable pub is_left_out : List ℕ → Bool
is_left_out word =
    list_any (bytes_eq word)
    (codes "ceil" ∷ codes "floor" ∷ codes "round" ∷ codes "trunc" ∷ codes "sqrt" ∷ codes "log" ∷ codes "pow" ∷ [])

abbrev pub table_head : Option Named → Head
table_head (Some (named.Table t shape)) = Table t shape
table_head (Some (named.Variable v kind)) = UnknownHead
table_head None = UnknownHead

abbrev pub head_by : Option Operator → List ℕ → Option Named → Head
head_by (Some o) word name = Operation o
head_by None word name = if is_cost word then CostHead else (if is_left_out word then LeftOut else table_head name)

unfoldable pub head_of : Names → List ℕ → Head
head_of names word = head_by (operator_named word) word (name_in names word)

-- a word that names nothing else, since expressions have it
abbrev pub is_reserved : List ℕ → Bool
is_reserved word = is_some (operator_named word) || is_cost word || bytes_eq word (codes "true") || bytes_eq word (codes "false") || is_left_out word
