-- What typing gives of a list in a set's place is well typed, and of the object type that comes with it.
use Rattle.std.proofs.Common.{◌≡◌, ℕ, List, [], ◌∷◌, length, Option, Some, Ok, IfOk}
use Rattle.dp_model.specs.Typing.{cells_at, args_at}
use Rattle.dp_model.specs.declared.parts.ObjectType.{ObjectType}
use Rattle.dp_model.specs.declared.parts.Variable.{Variable}
use Rattle.dp_model.specs.declared.parts.TableData.{TableData}
use Rattle.dp_model.specs.declared.trees.SetOp.{SetOp}
use Rattle.dp_model.specs.declared.trees.Num.{Num}
use Rattle.dp_model.specs.declared.trees.SetEx.{SetEx}
use Rattle.dp_model.specs.declared.trees.SetEx.TheVariants as set
use Rattle.dp_model.specs.declared.trees.Cond.{Cond}
use Rattle.dypdl_words.specs.declared.scope.CellKind.{CellKind}
use Rattle.dypdl_words.specs.declared.scope.CellKind.TheVariants as cells
use Rattle.dypdl_words.specs.declared.scope.Shape.{Shape}
use Rattle.dypdl_words.specs.declared.words.Operator.{Operator}
use Rattle.dypdl_words.specs.declared.words.Operator.TheVariants as operators
use Rattle.dypdl_words.specs.declared.words.Change.{Change}
use Rattle.dypdl_words.specs.declared.words.Change.TheVariants as changes
use Rattle.dp_base.specs.Results.{in_turn}
use Rattle.dypdl_words.specs.Words.{Head}
use Rattle.dypdl_words.specs.Words as words
use Rattle.dypdl_words.specs.Leaves.{fits}
use Rattle.dypdl_words.specs.Folding.{folded_sets, changed_set}
use Rattle.dypdl_words.specs.Trees.{both}
use Rattle.dypdl_type.specs.Typing.{Typing, arguments, sets_are_enough, members_operation, members_complement, members_change, set_pair, members_choice, members_operator, members_table, members_list}
use Rattle.dypdl_type.proofs.Trees.{Each, IsSetOf, set_cell, set_op, set_not, set_with, set_without, set_if}
use Rattle.dypdl_type.proofs.Meanings.{AreCells, HeadFits}
use Rattle.dypdl_type.proofs.Sound.{and_then, both_fit, if_allowed, in_turn_each, NumFits, SetFits, CondFits, Sound, wanted_set, sets_fit, AreArguments, arguments_fit}

module _ (os : List ObjectType) (vs : List Variable) (ts : List TableData) (given : ℕ) where
  abbrev FitsNum : Num → Type 0
  FitsNum n = NumFits os vs ts given n

  abbrev FitsSet : Option ℕ → ℕ × SetEx → Type 0
  FitsSet wanted s = SetFits os vs ts given wanted s

  abbrev FitsCond : Cond → Type 0
  FitsCond c = CondFits os vs ts given c

  abbrev AreSound : List Typing → Type 0
  AreSound xs = Each (Sound os vs ts given) xs

  folded_sets_fit : (op : SetOp) (object : ℕ) (s : SetEx) (ss : List (ℕ × SetEx)) → IsSetOf os vs ts given object s → Each (FitsSet (Some object)) ss → IsSetOf os vs ts given object (folded_sets op s ss)
  folded_sets_fit op object s [] h k = h
  folded_sets_fit op object s (b ∷ ss) h k =
      folded_sets_fit op object (set.Op op s b.1) ss (set_op os vs ts given op object s b.1 h (wanted_set os vs ts given object b k.0)) k.1

  members_operation_fits : (at : ℕ) (wanted : Option ℕ) (op : SetOp) (xs : List Typing) → AreSound xs → IfOk (members_operation at wanted op xs) (FitsSet wanted)
  members_operation_fits at wanted op [] h = tt
  members_operation_fits at wanted op (x ∷ xs) h =
      if_allowed (FitsSet wanted) (sets_are_enough op (length xs)) _ _
      (λ enough. and_then (FitsSet wanted) (FitsSet wanted) (x.members wanted) _ (h.0.members wanted)
      (λ s p. and_then (λ ss. (length ss ≡ length xs) × Each (FitsSet (Some s.0)) ss) (FitsSet wanted) (in_turn (λ (e : Typing). e.members (Some s.0)) xs) _
      (in_turn_each (FitsSet (Some s.0)) (λ (e : Typing). e.members (Some s.0)) xs (sets_fit os vs ts given (Some s.0) xs h.1))
      (λ ss q. (folded_sets_fit op s.0 s.1 ss p.0 q.1, p.1))))

  members_complement_fits : (at : ℕ) (wanted : Option ℕ) (xs : List Typing) → AreSound xs → IfOk (members_complement at wanted xs) (FitsSet wanted)
  members_complement_fits at wanted (x ∷ []) h =
      and_then (FitsSet wanted) (FitsSet wanted) (x.members wanted) _ (h.0.members wanted) (λ s p. (set_not os vs ts given s.0 s.1 p.0, p.1))
  members_complement_fits at wanted others h = tt

  changed_set_fits : (change : Change) (object : ℕ) (n : Num) (s : SetEx) → FitsNum n → IsSetOf os vs ts given object s → IsSetOf os vs ts given object (changed_set change n s)
  changed_set_fits changes.Add object n s h k = set_with os vs ts given object n s h k
  changed_set_fits changes.Remove object n s h k = set_without os vs ts given object n s h k

  members_change_fits : (at : ℕ) (wanted : Option ℕ) (change : Change) (xs : List Typing) → AreSound xs → IfOk (members_change at wanted change xs) (FitsSet wanted)
  members_change_fits at wanted change (n ∷ x ∷ []) h =
      and_then (λ (p : Num × (ℕ × SetEx)). FitsNum p.0 × FitsSet wanted p.1) (FitsSet wanted) (both n.number (x.members wanted)) _
      (both_fit FitsNum (FitsSet wanted) n.number (x.members wanted) h.0.number (h.1.0.members wanted))
      (λ p q. (changed_set_fits change p.1.0 p.0 p.1.1 q.0 q.1.0, q.1.1))
  members_change_fits at wanted change others h = tt

  abbrev pub FitsPair : Option ℕ → ℕ × (SetEx × SetEx) → Type 0
  FitsPair wanted p = FitsSet wanted (p.0, p.1.0) × IsSetOf os vs ts given p.0 p.1.1

  pub set_pair_fits : (wanted : Option ℕ) (a b : Typing) → Sound os vs ts given a → Sound os vs ts given b → IfOk (set_pair wanted a b) (FitsPair wanted)
  set_pair_fits wanted a b h k =
      and_then (FitsSet wanted) (FitsPair wanted) (a.members wanted) _ (h.members wanted)
      (λ x q. and_then (FitsSet (Some x.0)) (FitsPair wanted) (b.members (Some x.0)) _ (k.members (Some x.0))
      (λ y r. (q, wanted_set os vs ts given x.0 y r)))

  members_choice_fits : (at : ℕ) (wanted : Option ℕ) (xs : List Typing) → AreSound xs → IfOk (members_choice at wanted xs) (FitsSet wanted)
  members_choice_fits at wanted (c ∷ a ∷ b ∷ []) h =
      and_then (λ (p : Cond × (ℕ × (SetEx × SetEx))). FitsCond p.0 × FitsPair wanted p.1) (FitsSet wanted) (both c.condition (set_pair wanted a b)) _
      (both_fit FitsCond (FitsPair wanted) c.condition (set_pair wanted a b) h.0.condition (set_pair_fits wanted a b h.1.0 h.1.1.0))
      (λ p q. (set_if os vs ts given p.0 p.1.0 p.1.1.0 p.1.1.1 q.0 q.1.0.0 q.1.1, q.1.0.1))
  members_choice_fits at wanted others h = tt

  members_operator_fits : (at : ℕ) (wanted : Option ℕ) (o : Operator) (xs : List Typing) → AreSound xs → IfOk (members_operator at wanted o xs) (FitsSet wanted)
  unfolding members_operator
  members_operator_fits at wanted (operators.Sets op) xs h = members_operation_fits at wanted op xs h
  members_operator_fits at wanted operators.Complement xs h = members_complement_fits at wanted xs h
  members_operator_fits at wanted (operators.Changes change) xs h = members_change_fits at wanted change xs h
  members_operator_fits at wanted operators.If xs h = members_choice_fits at wanted xs h
  members_operator_fits at wanted other xs h = tt

  members_table_fits : (at : ℕ) (wanted : Option ℕ) (t : ℕ) (shape : Shape) (kind : CellKind) (xs : List Typing) → args_at ts t ≡ shape.args → AreCells kind (cells_at ts t) → AreSound xs → IfOk (members_table at wanted t shape kind xs) (FitsSet wanted)
  members_table_fits at wanted t shape (cells.Set object) xs is k h =
      if_allowed (FitsSet wanted) (fits wanted object) _ _
      (λ same. and_then (AreArguments os vs ts given t) (FitsSet wanted) (arguments at shape xs) (λ ns. Ok (object, set.Cell t ns)) (arguments_fit os vs ts given at t shape xs is h)
      (λ ns p. (set_cell os vs ts given t ns object k.0 k.1 p.0 p.1, same)))
  members_table_fits at wanted t shape other xs is k h = tt

  pub members_list_fits : (at : ℕ) (wanted : Option ℕ) (head : Head) (xs : List Typing) → HeadFits vs ts head → AreSound xs → IfOk (members_list at wanted head xs) (FitsSet wanted)
  unfolding members_list
  members_list_fits at wanted (words.Operation o) xs is h = members_operator_fits at wanted o xs h
  members_list_fits at wanted (words.Table t shape) xs is h = members_table_fits at wanted t shape shape.cells xs is.0 is.1 h
  members_list_fits at wanted other xs is h = tt
