-- What the code finds of an expression in a place before its operands are typed.
use Rattle.std.specs.Prelude.{◌≡◌, ℕ, List, map, length, Option, None, Result, Ok, Err, ⊤}
use Rattle.dp_base.specs.Results.{in_turn, Refuses}
use Rattle.dp_model.specs.declared.trees.Num.{Num}
use Rattle.dp_model.specs.declared.trees.SetEx.{SetEx}
use Rattle.dp_model.specs.declared.trees.Cond.{Cond}
use Rattle.dypdl_expr.specs.declared.expr.Expr.{Expr}
use Rattle.dypdl_words.specs.Scopes.{Names}
use Rattle.dypdl_words.specs.declared.ends.TypeEnd.{TypeEnd}
use Rattle.dypdl_type.specs.declared.forms.NumberForm.{NumberForm}
use Rattle.dypdl_type.specs.declared.forms.NumberForm.TheVariants as number_form
use Rattle.dypdl_type.specs.declared.forms.MembersForm.{MembersForm}
use Rattle.dypdl_type.specs.declared.forms.MembersForm.TheVariants as members_form
use Rattle.dypdl_type.specs.declared.forms.ConditionForm.{ConditionForm}
use Rattle.dypdl_type.specs.declared.forms.ConditionForm.TheVariants as condition_form
use Rattle.dypdl_words.specs.Ends.{told}
use Rattle.dypdl_words.specs.Seen.{meaning_seen}
use Rattle.dypdl_words.specs.Trees as trees
use Rattle.dypdl_words.specs.Leaves.{number_word, members_word, condition_word}
use Rattle.dypdl_type.specs.Typing.{Typing, typing, operation_of, chosen_number, terms, set_operation_of, changed, chosen_members, set_pair, connection_of, choice_of_conditions}

-- what each of these expressions is
abbrev pub typings : Names → List Expr → List Typing
typings names es = map (typing names) es

-- the numbers that these are, in order
abbrev pub numbers_of : List Typing → Result (List Num) TypeEnd
numbers_of xs = in_turn (λ (e : Typing). e.number) xs

-- The form that was found has this tree or refusal, or the refusal was found already.
abbrev pub Finds : {F A : Type 0} → (F → Result A TypeEnd) → Result F TypeEnd → Result A TypeEnd → Type 0
Finds of (Ok form) value = value ≡ of form
Finds of (Err e) value = Refuses (told e) value

-- ---- in a number's place

abbrev pub number_of : Names → NumberForm → Result Num TypeEnd
number_of names (number_form.Word at word) = number_word at (meaning_seen word)
number_of names (number_form.Size e) = trees.size ((typing names e.now).members None)
number_of names (number_form.Operation op first more) = operation_of op (typing names first.now) (typings names more.now)
number_of names (number_form.Choice c a b) = chosen_number (typing names c.now) (typing names a.now) (typing names b.now)
number_of names (number_form.Cell t operands) = trees.number_cell t (numbers_of (typings names operands.now))
number_of names (number_form.Sum t objects operands) = trees.sum t (terms objects.now (typings names operands.now))

-- a `sum` has an operand for each argument of its table
abbrev pub IsMatched : NumberForm → Type 0
IsMatched (number_form.Sum t objects operands) = length operands.now ≡ length objects.now
IsMatched other = ⊤

-- ---- in a set's place

abbrev pub members_of_form : Names → (wanted : Option ℕ) → MembersForm → Result (ℕ × SetEx) TypeEnd
members_of_form names wanted (members_form.Word at word) = members_word at wanted (meaning_seen word)
members_of_form names wanted (members_form.Operation op first more) = set_operation_of wanted op (typing names first.now) (typings names more.now)
members_of_form names wanted (members_form.Complement e) = trees.complement ((typing names e.now).members wanted)
members_of_form names wanted (members_form.Change change n e) = changed wanted change (typing names n.now) (typing names e.now)
members_of_form names wanted (members_form.Choice c a b) = chosen_members wanted (typing names c.now) (typing names a.now) (typing names b.now)
members_of_form names wanted (members_form.Cell object t operands) = trees.set_cell object t (numbers_of (typings names operands.now))

-- ---- in a condition's place

abbrev pub condition_of : Names → ConditionForm → Result Cond TypeEnd
condition_of names (condition_form.Word at word) = condition_word at (meaning_seen word)
condition_of names (condition_form.Numbers op a b) = trees.comparison op (typing names a.now).number (typing names b.now).number
condition_of names (condition_form.Sets relation a b) = trees.set_relation relation (set_pair None (typing names a.now) (typing names b.now))
condition_of names (condition_form.IsIn n e) = trees.membership (typing names n.now).number ((typing names e.now).members None)
condition_of names (condition_form.IsEmpty e) = trees.emptiness ((typing names e.now).members None)
condition_of names (condition_form.Not c) = trees.negation (typing names c.now).condition
condition_of names (condition_form.Connection op first more) = connection_of op (typing names first.now) (typings names more.now)
condition_of names (condition_form.Choice c a b) = choice_of_conditions (typing names c.now) (typing names a.now) (typing names b.now)
condition_of names (condition_form.Cell t operands) = trees.condition_cell t (numbers_of (typings names operands.now))
