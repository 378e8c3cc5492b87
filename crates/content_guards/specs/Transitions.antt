-- What the items of the lists of transitions give to the transitions of a model.
use Rattle.std.specs.Prelude.{◌≡◌, ℕ, Bool, true, false, ◌⊎◌, List, [], ◌∷◌, length, map, codes, slice_get, Option, None, Some, Ok, ⊤}
use Rattle.dp_model.specs.Typing.{effect_variable}
use Rattle.dp_model.specs.declared.parts.JoinOp.{JoinOp}
use Rattle.dp_model.specs.declared.parts.JoinOp.TheVariants.{Plus, Most, Least}
use Rattle.dp_model.specs.declared.parts.Effect.{Effect}
use Rattle.dp_model.specs.declared.parts.Effect.TheVariants as changes
use Rattle.dp_model.specs.declared.parts.Transition.{Transition}
use Rattle.dp_model.specs.declared.parts.Variable.{Variable}
use Rattle.dp_model.specs.declared.parts.VarKind.{VarKind}
use Rattle.dp_model.specs.declared.parts.VarKind.TheVariants as kinds
use Rattle.dp_model.specs.declared.trees.Cond.{Cond}
use Rattle.dp_model.specs.declared.trees.Num.{Num}
use Rattle.dp_model.specs.declared.trees.Over.{Over}
use Rattle.dp_model.specs.declared.trees.Over.TheVariants.{Object, Members}
use Rattle.dp_model.specs.declared.whole.Model.{Model}
use Rattle.yaml_tree.specs.declared.tree.Tree.{Tree}
use Rattle.yaml_tree.specs.declared.tree.Pair.{Pair}
use Rattle.yaml_tree.specs.Fields.{scalar_text, map_entries, value_in}
use Rattle.dypdl_expr.specs.declared.expr.Expr.{Expr}
use Rattle.dypdl_expr.specs.declared.expr.Expr.TheVariants as form
use Rattle.dypdl_words.specs.Scopes.{Names as InForce}
use Rattle.dypdl_words.specs.declared.scope.Param.{Param}
use Rattle.dypdl_type.specs.Typing.{typing, members_of, cost_typing}
use Rattle.dypdl_type.specs.declared.cost.CostForm.TheVariants.{Bare, Joined}
use Rattle.dypdl_rules.specs.Declarations.{Declared, names_with}
use Rattle.dypdl_rules.specs.Expressions.{Reading, typed_by}
use Rattle.dypdl_rules.specs.Conditions.{condition_of}
use Rattle.dypdl_rules.specs.Moves.{move_of}
use Rattle.dypdl_rules.specs.declared.transitions.Joining.{Joining}
use Rattle.dypdl_rules.specs.declared.transitions.Move.{Move}
use Rattle.dypdl_load.specs.Meaning.{meaning, parts_of}
use Rattle.content_laws.specs.Files.{items_in, items_of_both}
use Rattle.content_laws.specs.Lists.{names_of}
use Rattle.content_guards.specs.Variables.{word_under, Names}

-- one of three words
abbrev pub IsOneOf : Option (List ℕ) → (a b c : List ℕ) → Type 0
IsOneOf word a b c = (word ≡ Some a) ⊎ ((word ≡ Some b) ⊎ (word ≡ Some c))

-- the word under `forced` says so; where the key is missing, the transition is not forced
abbrev pub IsForced : Tree → Bool → Type 0
IsForced item true = IsOneOf (word_under item (codes "forced")) (codes "true") (codes "True") (codes "TRUE")
IsForced item false = (value_in (codes "forced") (map_entries item) ≡ None) ⊎ IsOneOf (word_under item (codes "forced")) (codes "false") (codes "False") (codes "FALSE")

-- the items of one list stand for those of another, place by place
pub record StandFor {A B : Type 0} (Means : B → A → Type 0) (ys : List B) (xs : List A) : Type 0 where
  pub as_many : length xs ≡ length ys
  pub each_one : (i : ℕ) (x : A) → slice_get xs i ≡ Some x → (y : B) × (slice_get ys i ≡ Some y) × Means y x

-- ---- parameters

-- the variable of this number is the one that is named
abbrev pub NamesVariable : List Variable → Option (List ℕ) → ℕ → Type 0
NamesVariable variables word v = (x : Variable) × (slice_get variables v ≡ Some x) × (word ≡ Some x.name)

-- the members of the object type that is named, or of the variable
abbrev pub RangesOver : Declared → Option (List ℕ) → Over → Type 0
RangesOver d word (Object o) = Names d.objects word o
RangesOver d word (Members v) = NamesVariable d.variables word v

pub record IsParam (d : Declared) (item : Tree) (p : Param) : Type 0 where
  pub name : word_under item (codes "name") ≡ Some p.name
  pub ranges : RangesOver d (word_under item (codes "object")) p.over

-- ---- preconditions

-- the condition that the tree stands for where these parameters are in force
abbrev pub IsCondition : Reading → Declared → List Param → Tree → Cond → Type 0
IsCondition read d params tree c = condition_of read d params tree ≡ Ok c

-- ---- effects

-- what the tree stands for in the place of a number or of a set, by the kind of the variable that is set
abbrev pub IsValue : Reading → InForce → VarKind → Tree → Effect → Type 0
IsValue read names kinds.Integer tree (changes.Number v n) = typed_by read (λ e. (typing names e).number) tree ≡ Ok n
IsValue read names (kinds.Element o) tree (changes.Number v n) = typed_by read (λ e. (typing names e).number) tree ≡ Ok n
IsValue read names (kinds.Set o) tree (changes.Members v s) = typed_by read (λ e. members_of o (typing names e)) tree ≡ Ok s
IsValue read names kind tree effect = ⊥

-- the effect sets the variable that the key names to what the value stands for
pub record IsEffect (read : Reading) (names : InForce) (pair : Pair) (effect : Effect) : Type 0 where
  pub variable : Variable
  pub there : slice_get names.variables (effect_variable effect) ≡ Some variable
  pub named : scalar_text pair.key ≡ Some variable.name
  pub value : IsValue read names variable.kind pair.value effect

-- the entries of a map; what is missing or empty has none
abbrev pub entries_in : Option Tree → List Pair
entries_in None = []
entries_in (Some tree) = map_entries tree

-- ---- costs

-- `cost` alone, or joined with the weight by the operator
abbrev pub IsCost : Reading → InForce → JoinOp → Tree → Option Num → Type 0
IsCost read names join tree None = typed_by read (cost_typing names) tree ≡ Ok Bare
IsCost read names join tree (Some n) = typed_by read (cost_typing names) tree ≡ Ok (Joined join n)

-- where the key is missing, there is no weight
abbrev pub IsWeighed : Reading → InForce → JoinOp → Option Tree → Option Num → Type 0
IsWeighed read names join None weight = weight ≡ None
IsWeighed read names join (Some tree) weight = IsCost read names join tree weight

-- ---- transitions

-- The transition is what the item says: its name, whether it is forced, its parameters, its preconditions, its effects and its weight.
-- Expressions in it may name the parameters.
pub record IsTransition (read : Reading) (d : Declared) (join : JoinOp) (item : Tree) (t : Transition) : Type 0 where
  pub name : word_under item (codes "name") ≡ Some t.name
  pub forced : IsForced item t.forced
  pub params : List Param
  pub are_params : StandFor (IsParam d) (items_in (value_in (codes "parameters") (map_entries item))) params
  pub ranges : t.params ≡ map (λ (p : Param). p.over) params
  pub preconditions : StandFor (IsCondition read d params) (items_in (value_in (codes "preconditions") (map_entries item))) t.preconditions
  pub effects : StandFor (IsEffect read (names_with d params)) (entries_in (value_in (codes "effects") (map_entries item))) t.effects
  pub weight : IsWeighed read (names_with d params) join (value_in (codes "cost") (map_entries item)) t.weight

-- where the item's cost is joined by an operator, that is this one
abbrev pub JoinsBy : Option Joining → JoinOp → Type 0
JoinsBy None join = ⊤
JoinsBy (Some j) join = j.op ≡ join

abbrev pub LawTransitions : Type 0
LawTransitions =
    (read : Reading) (d : Declared) (item : Tree) (move : Move) → move_of read d item ≡ Ok move
    → (join : JoinOp) → JoinsBy move.joining join → IsTransition read d join item move.transition

-- The same of a model that two trees mean, whose transitions are those of the domain and then those of the problem. All their weights are
-- joined by the model's operator.
abbrev pub LawTransitionsOf : Type 0
LawTransitionsOf =
    (read : Reading) (domain problem : Tree) (m : Model) → meaning read domain problem ≡ Ok (parts_of m)
    → StandFor (IsTransition read (names_of m) m.join) (items_of_both domain problem (codes "transitions")) m.transitions

-- ---- cost expressions

abbrev pub join_word : JoinOp → List ℕ
join_word Plus = codes "+"
join_word Most = codes "max"
join_word Least = codes "min"

-- the three operators, and `cost` on either side of a number
pub record LawCosts : Type 0 where
  pub alone : (names : InForce) (p : ℕ) → cost_typing names (form.Word p (codes "cost")) ≡ Ok Bare
  pub first : (names : InForce) (op : JoinOp) (p q r : ℕ) (e : Expr) (n : Num) → (typing names e).number ≡ Ok n
      → cost_typing names (form.List p (form.Word q (join_word op) ∷ form.Word r (codes "cost") ∷ e ∷ [])) ≡ Ok (Joined op n)
  pub second : (names : InForce) (op : JoinOp) (p q r : ℕ) (e : Expr) (n : Num) → (typing names e).number ≡ Ok n
      → cost_typing names (form.List p (form.Word q (join_word op) ∷ e ∷ form.Word r (codes "cost") ∷ [])) ≡ Ok (Joined op n)
