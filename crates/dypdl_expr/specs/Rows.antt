-- What the reader has seen of a list after its first item.
use Rattle.std.specs.Prelude.{◌≡◌, ℕ, List, ◌∷◌}
use Rattle.dypdl_expr.specs.Tokens.{Token, Close}
use Rattle.dypdl_expr.specs.Grammar.{Items}
use Rattle.dypdl_expr.specs.Refusals.{NoClose}
use Rattle.dypdl_expr.specs.declared.expr.Expr.{Expr}
use Rattle.dypdl_expr.specs.declared.expr.ExprEnd.{ExprEnd}

-- more items and `)`: all items with the first one
pub record RowEnds (Item : List Token → Expr → List Token → Type 0) (head : Expr) (tokens : List Token) (items : List Expr) (rest : List Token) : Type 0 where
  pub others : List Expr
  pub end : ℕ
  pub goes_on : Items Item tokens others (Close end ∷ rest)
  pub all : items ≡ head ∷ others

-- more items, and then neither `)` nor an item
pub record RowFails (Item : List Token → Expr → List Token → Type 0) (ItemFails : List Token → ExprEnd → Type 0) (tokens : List Token) (r : ExprEnd) : Type 0 where
  pub others : List Expr
  pub left : List Token
  pub goes_on : Items Item tokens others left
  pub no_close : NoClose left
  pub fails : ItemFails left r
