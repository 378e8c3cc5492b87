-- What the reader of tokens hands out.
use Rattle.std.specs.Prelude.{ℕ, List, [], ◌∷◌, if◌then◌else◌}
use Rattle.dypdl_expr.specs.Tokens.{Token, has_control}
use Rattle.dypdl_expr.specs.Tokens as token
use Rattle.dypdl_expr.specs.declared.expr.ExprEnd.{ExprEnd}
use Rattle.dypdl_expr.specs.declared.expr.ExprEnd.TheVariants.{BadToken, Unbalanced, Rest, TooNested}
use Rattle.dypdl_expr.specs.declared.tokens.Lexeme.{Lexeme}
use Rattle.dypdl_expr.specs.declared.tokens.Lexeme.TheVariants.{End, Open, Close, Bar, Word}

-- the tokens that begin with this one
abbrev pub followed_by : Lexeme → List Token → List Token
followed_by End rest = []
followed_by (Open at) rest = token.Open at ∷ rest
followed_by (Close at) rest = token.Close at ∷ rest
followed_by (Bar at) rest = token.Bar at ∷ rest
followed_by (Word at word) rest = token.Word at word.now ∷ rest

-- what a token is refused as after an expression
abbrev pub after_expression : (outer : ℕ) → Lexeme → ExprEnd
after_expression outer End = Unbalanced outer
after_expression outer (Open at) = Rest at
after_expression outer (Close at) = Unbalanced at
after_expression outer (Bar at) = Rest at
after_expression outer (Word at word) = if has_control word.now then BadToken at else Rest at

-- what a token is refused as inside 200 forms
abbrev pub inside_all : (outer : ℕ) → Lexeme → ExprEnd
inside_all outer End = Unbalanced outer
inside_all outer (Open at) = TooNested at
inside_all outer (Close at) = Unbalanced at
inside_all outer (Bar at) = TooNested at
inside_all outer (Word at word) = if has_control word.now then BadToken at else TooNested at
