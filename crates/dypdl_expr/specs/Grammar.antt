-- The grammar of expressions over lists of tokens.
use Rattle.std.specs.Prelude.{◌≡◌, ℕ, zero, suc, List, [], ◌∷◌, false, ⊤}
use Rattle.dypdl_expr.specs.Tokens.{Token, Open, Close, Bar, Word, tokens_of, has_control}
use Rattle.dypdl_expr.specs.declared.expr.Expr.{Expr}
use Rattle.dypdl_expr.specs.declared.expr.Expr.TheVariants as form

-- a word without control characters
abbrev pub IsWord : ℕ → List ℕ → Expr → Type 0
IsWord at word e = (has_control word ≡ false) × (e ≡ form.Word at word)

-- The tokens begin with the first item of a list, and `rest` is left. A word there takes no level of its own, so it may
-- stand however deep the list is.
abbrev pub First : (List Token → Expr → List Token → Type 0) → List Token → Expr → List Token → Type 0
First Item (Word at word ∷ tokens) e rest = IsWord at word e × (tokens ≡ rest)
First Item tokens e rest = Item tokens e rest

-- The tokens begin with these items, one after the other, and `rest` is left.
abbrev pub Items : (List Token → Expr → List Token → Type 0) → List Token → List Expr → List Token → Type 0
Items Item tokens [] rest = tokens ≡ rest
Items Item tokens (e ∷ es) rest = (next : List Token) × Item tokens e next × Items Item next es rest

-- After the `(` at an offset: one item, more items, and `)`.
pub record ListBody (Item : List Token → Expr → List Token → Type 0) (at : ℕ) (tokens : List Token) (e : Expr) (rest : List Token) : Type 0 where
  pub head : Expr
  pub others : List Expr
  pub behind : List Token
  pub end : ℕ
  pub begins : First Item tokens head behind
  pub goes_on : Items Item behind others (Close end ∷ rest)
  pub whole : e ≡ form.List at (head ∷ others)

abbrev pub NoBar : List Token → Type 0
NoBar (Bar at ∷ tokens) = ⊥
NoBar tokens = ⊤

-- After the `|` at an offset: an expression that does not begin with `|`, and `|`.
pub record BarsBody (Item : List Token → Expr → List Token → Type 0) (at : ℕ) (tokens : List Token) (e : Expr) (rest : List Token) : Type 0 where
  pub inner : Expr
  pub end : ℕ
  pub no_bar : NoBar tokens
  pub begins : Item tokens inner (Bar end ∷ rest)
  pub whole : e ≡ form.Bars at inner

-- The tokens begin with an expression of at most so many levels, and `rest` is left after it. An expression is a
-- word, a list or a pair of bars, and what stands inside a form has one level less.
abbrev pub Begins : ℕ → List Token → Expr → List Token → Type 0
Begins zero tokens e rest = ⊥
Begins (suc levels) [] e rest = ⊥
Begins (suc levels) (Word at word ∷ tokens) e rest = IsWord at word e × (tokens ≡ rest)
Begins (suc levels) (Open at ∷ tokens) e rest = ListBody (Begins levels) at tokens e rest
Begins (suc levels) (Bar at ∷ tokens) e rest = BarsBody (Begins levels) at tokens e rest
Begins (suc levels) (Close at ∷ tokens) e rest = ⊥

-- how many forms may stand inside one another
abbrev pub most_levels : ℕ
most_levels = 200

-- the text is this expression
abbrev pub Reads : List ℕ → Expr → Type 0
Reads text e = Begins most_levels (tokens_of text) e []
