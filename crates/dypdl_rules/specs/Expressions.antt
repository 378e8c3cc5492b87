-- Expressions in scalars: what they stand for in their place, or the first refusal, with the byte where it stands.
use Rattle.std.specs.Prelude.{ℕ, List, Option, None, Some, Result, Ok, Err}
use Rattle.dp_base.specs.declared.place.Place.{Place}
use Rattle.dp_base.specs.Results.{◌>>=◌}
use Rattle.yaml_tree.specs.declared.tree.Tree.{Tree}
use Rattle.yaml_tree.specs.Fields.{tree_place}
use Rattle.dypdl_expr.specs.Grammar.{Reads as IsRead}
use Rattle.dypdl_expr.specs.Refusals.{Refused as IsRefused}
use Rattle.dypdl_expr.specs.declared.expr.Expr.{Expr}
use Rattle.dypdl_expr.specs.declared.expr.ExprEnd.{ExprEnd}
use Rattle.dypdl_expr.specs.declared.expr.ExprEnd.TheVariants as texts
use Rattle.dypdl_words.specs.declared.ends.TypeEnd.{TypeEnd}
use Rattle.dypdl_words.specs.declared.ends.TypeEnd.TheVariants as types
use Rattle.dypdl_nodes.specs.Reads.{Reads, refuse, refuse_at}
use Rattle.dypdl_nodes.specs.Scalars.{text_of}

-- A reading gives each text its expression, or its first refusal. By the grammar of expressions each text has exactly one
-- of both, so there is one reading.
abbrev pub Reading : Type 0
Reading = List ℕ → Result Expr ExprEnd

abbrev pub IsOutcome : List ℕ → Result Expr ExprEnd → Type 0
IsOutcome text (Ok e) = IsRead text e
IsOutcome text (Err r) = IsRefused text r

abbrev pub IsReading : Reading → Type 0
IsReading read = (text : List ℕ) → IsOutcome text (read text)

-- The refusals of texts and of types, at the place of the scalar. Want of memory is none of them: no text is read so.
abbrev pub text_refused : {A : Type 0} → Place → ExprEnd → Reads A
text_refused at (texts.BadToken offset) = refuse_at 20 at offset
text_refused at (texts.Unbalanced offset) = refuse_at 21 at offset
text_refused at (texts.Empty offset) = refuse_at 22 at offset
text_refused at (texts.Rest offset) = refuse_at 23 at offset
text_refused at (texts.TooNested offset) = refuse_at 24 at offset
text_refused at texts.Memory = refuse 0 at

abbrev pub type_refused : {A : Type 0} → Place → TypeEnd → Reads A
type_refused at (types.UnknownName offset) = refuse_at 30 at offset
type_refused at (types.WrongKind offset) = refuse_at 31 at offset
type_refused at (types.WrongCount offset) = refuse_at 32 at offset
type_refused at (types.CostPlace offset) = refuse_at 33 at offset
type_refused at (types.Continuous offset) = refuse_at 34 at offset
type_refused at (types.BadNumber offset) = refuse_at 42 at offset
type_refused at (types.CostForm offset) = refuse_at 47 at offset
type_refused at types.Memory = refuse 0 at

abbrev pub text_placed : {A : Type 0} → Place → Result A ExprEnd → Reads A
text_placed at (Ok x) = Ok x
text_placed at (Err e) = text_refused at e

abbrev pub type_placed : {A : Type 0} → Place → Result A TypeEnd → Reads A
type_placed at (Ok x) = Ok x
type_placed at (Err e) = type_refused at e

-- the expression in a scalar
abbrev pub expression_of : Reading → Tree → Reads Expr
expression_of read tree = text_of tree >>= λ text. text_placed (tree_place tree) (read text)

-- what it stands for by a typing
abbrev pub typed_by : {A : Type 0} → Reading → (Expr → Result A TypeEnd) → Tree → Reads A
typed_by read typed tree = expression_of read tree >>= λ e. type_placed (tree_place tree) (typed e)

-- ---- what of an error is told: want of memory tells nothing of a text

abbrev pub text_told : ExprEnd → Option ExprEnd
text_told texts.Memory = None
text_told (texts.BadToken offset) = Some (texts.BadToken offset)
text_told (texts.Unbalanced offset) = Some (texts.Unbalanced offset)
text_told (texts.Empty offset) = Some (texts.Empty offset)
text_told (texts.Rest offset) = Some (texts.Rest offset)
text_told (texts.TooNested offset) = Some (texts.TooNested offset)
