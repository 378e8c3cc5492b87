-- The first refusal of a text that is no expression, from left to right.
use Rattle.std.specs.Prelude.{◌≡◌, ℕ, zero, suc, List, [], ◌∷◌, Bool, true, false, ◌⊎◌, if◌then◌else◌, ⊤}
use Rattle.dp_base.specs.Results as results
use Rattle.dypdl_expr.specs.Tokens.{Token, Open, Close, Bar, Word, tokens_of, offset, has_control}
use Rattle.dypdl_expr.specs.Grammar.{First, Items, Begins, most_levels}
use Rattle.dypdl_expr.specs.declared.expr.Expr.{Expr}
use Rattle.dypdl_expr.specs.declared.expr.ExprEnd.{ExprEnd}
use Rattle.dypdl_expr.specs.declared.expr.ExprEnd.TheVariants.{BadToken, Unbalanced, Empty, Rest, TooNested, Memory}

-- what a token is refused as after a whole expression, or after the one between two `|`
abbrev pub stray : Token → ExprEnd
stray (Open at) = Rest at
stray (Close at) = Unbalanced at
stray (Bar at) = Rest at
stray (Word at word) = if has_control word then BadToken at else Rest at

-- What is refused where an expression must begin and no level is left: the text's end, at the beginning of the
-- outermost form, or else the first token: a `)`, a bad word, or a form that is too deep.
abbrev pub too_deep : (outer : ℕ) → List Token → ExprEnd
too_deep outer [] = Unbalanced outer
too_deep outer (Close at ∷ tokens) = Unbalanced at
too_deep outer (Word at word ∷ tokens) = if has_control word then BadToken at else TooNested at
too_deep outer (Open at ∷ tokens) = TooNested at
too_deep outer (Bar at ∷ tokens) = TooNested at

abbrev pub IsBadWord : ℕ → List ℕ → ExprEnd → Type 0
IsBadWord at word r = (has_control word ≡ true) × (r ≡ BadToken at)

abbrev pub NoClose : List Token → Type 0
NoClose (Close at ∷ tokens) = ⊥
NoClose tokens = ⊤

-- After the `(` at an offset: no item, or a first item that is a bad word or another form that fails.
abbrev pub FirstFails : (List Token → ExprEnd → Type 0) → ℕ → List Token → ExprEnd → Type 0
FirstFails ItemFails at (Close end ∷ tokens) r = r ≡ Empty at
FirstFails ItemFails at (Word begin word ∷ tokens) r = IsBadWord begin word r
FirstFails ItemFails at tokens r = ItemFails tokens r

-- Some items of a list stand there, and then neither `)` nor an item.
pub record LaterFails (Item : List Token → Expr → List Token → Type 0) (ItemFails : List Token → ExprEnd → Type 0) (tokens : List Token) (r : ExprEnd) : Type 0 where
  pub head : Expr
  pub others : List Expr
  pub behind : List Token
  pub left : List Token
  pub begins : First Item tokens head behind
  pub goes_on : Items Item behind others left
  pub no_close : NoClose left
  pub fails : ItemFails left r

-- After the `(` at an offset: the first item fails, or a later one.
abbrev pub ListFails : (List Token → Expr → List Token → Type 0) → (List Token → ExprEnd → Type 0) → ℕ → List Token → ExprEnd → Type 0
ListFails Item ItemFails at tokens r = FirstFails ItemFails at tokens r ⊎ LaterFails Item ItemFails tokens r

-- After the one expression between two `|`: the text's end, or a token that is not the closing `|`.
abbrev pub NotClosed : (outer : ℕ) → List Token → ExprEnd → Type 0
NotClosed outer [] r = r ≡ Unbalanced outer
NotClosed outer (Bar at ∷ tokens) r = ⊥
NotClosed outer (token ∷ tokens) r = r ≡ stray token

-- After the `|` at an offset: a second `|`, or no expression, or one that no `|` follows.
abbrev pub BarsFails : (outer : ℕ) → (List Token → Expr → List Token → Type 0) → (List Token → ExprEnd → Type 0) → ℕ → List Token → ExprEnd → Type 0
BarsFails outer Item ItemFails at (Bar end ∷ tokens) r = r ≡ Empty at
BarsFails outer Item ItemFails at tokens r = ItemFails tokens r ⊎ ((inner : Expr) × (left : List Token) × Item tokens inner left × NotClosed outer left r)

-- Where an expression of at most so many levels must begin, this is refused first: the text's end, at the beginning
-- of the outermost form, a `)` that no list waits for, a bad word, or what fails inside a list or bars.
abbrev pub Fails : (outer : ℕ) → ℕ → List Token → ExprEnd → Type 0
Fails outer zero tokens r = r ≡ too_deep outer tokens
Fails outer (suc levels) [] r = r ≡ Unbalanced outer
Fails outer (suc levels) (Close at ∷ tokens) r = r ≡ Unbalanced at
Fails outer (suc levels) (Word at word ∷ tokens) r = IsBadWord at word r
Fails outer (suc levels) (Open at ∷ tokens) r = ListFails (Begins levels) (Fails outer levels) at tokens r
Fails outer (suc levels) (Bar at ∷ tokens) r = BarsFails outer (Begins levels) (Fails outer levels) at tokens r

-- The tokens of a whole text are none, or no expression of at most so many levels, or one with a token after it.
abbrev pub WholeFails : ℕ → List Token → ExprEnd → Type 0
WholeFails levels [] r = r ≡ Empty 0
WholeFails levels (token ∷ tokens) r =
    Fails (offset token) levels (token ∷ tokens) r
    ⊎ ((e : Expr) × (next : Token) × (rest : List Token) × Begins levels (token ∷ tokens) e (next ∷ rest) × (r ≡ stray next))

-- the text is no expression, and this is refused first
abbrev pub Refused : List ℕ → ExprEnd → Type 0
Refused text r = WholeFails most_levels (tokens_of text) r

-- memory ran out
abbrev pub is_memory : ExprEnd → Bool
is_memory Memory = true
is_memory r = false

-- memory ran out, or P says what was refused
abbrev pub MemoryOr : (ExprEnd → Type 0) → ExprEnd → Type 0
MemoryOr P r = results.MemoryOr is_memory P r
