-- Trees made of trees. Operands are folded from the left.
use Rattle.std.specs.Prelude.{ℕ, List, fold}
use Rattle.dp_model.specs.declared.trees.NumOp.{NumOp}
use Rattle.dp_model.specs.declared.trees.SetOp.{SetOp}
use Rattle.dp_model.specs.declared.trees.Num.{Num}
use Rattle.dp_model.specs.declared.trees.Num.TheVariants as num
use Rattle.dp_model.specs.declared.trees.SetEx.{SetEx}
use Rattle.dp_model.specs.declared.trees.SetEx.TheVariants as set
use Rattle.dp_model.specs.declared.trees.Cond.{Cond}
use Rattle.dp_model.specs.declared.trees.Cond.TheVariants as cond
use Rattle.dypdl_words.specs.declared.words.Change.{Change}
use Rattle.dypdl_words.specs.declared.words.Change.TheVariants as changes
use Rattle.dypdl_words.specs.declared.words.Connective.{Connective}
use Rattle.dypdl_words.specs.declared.words.Connective.TheVariants as connectives
use Rattle.dypdl_words.specs.declared.folding.SetRelation.{SetRelation}
use Rattle.dypdl_words.specs.declared.folding.SetRelation.TheVariants as relations

-- operands are folded from the left
abbrev pub folded_numbers : NumOp → Num → List Num → Num
folded_numbers op n ns = fold (λ a b. num.Op op a b) n ns

abbrev pub folded_sets : SetOp → SetEx → List (ℕ × SetEx) → SetEx
folded_sets op s ss = fold (λ a (b : ℕ × SetEx). set.Op op a b.1) s ss

-- a set with a member, or without it
abbrev pub changed_set : Change → Num → SetEx → SetEx
changed_set changes.Add n s = set.With n s
changed_set changes.Remove n s = set.Without n s

abbrev pub connect : Connective → Cond → Cond → Cond
connect connectives.And a b = cond.And a b
connect connectives.Or a b = cond.Or a b

abbrev pub connected : Connective → Cond → List Cond → Cond
connected op c cs = fold (λ a b. connect op a b) c cs

abbrev pub related : SetRelation → SetEx → SetEx → Cond
related relations.Same a b = cond.SameSet a b
related relations.Other a b = cond.OtherSet a b
related relations.Within a b = cond.Subset a b
