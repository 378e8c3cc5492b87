-- What is known where a whole text was read.
use Rattle.std.proofs.Common.{◌≡◌, ℕ, List, [], ◌∷◌, Result, Ok, Err, refl, inr}
use Rattle.std.specs.Prelude.{IfOk, IfErr, MatchResult}
use Rattle.dp_base.proofs.Memory.{memory_or, memory_or-from}
use Rattle.dypdl_expr.specs.Tokens.{Token}
use Rattle.dypdl_expr.specs.Grammar.{Begins}
use Rattle.dypdl_expr.specs.Refusals.{WholeFails, is_memory, MemoryOr, stray}
use Rattle.dypdl_expr.specs.Lexemes.{followed_by, after_expression}
use Rattle.dypdl_expr.specs.declared.expr.Expr.{Expr}
use Rattle.dypdl_expr.specs.declared.expr.ExprEnd.{ExprEnd}
use Rattle.dypdl_expr.specs.declared.expr.ExprEnd.TheVariants.{BadToken, Unbalanced, Empty, Rest, TooNested, Memory}
use Rattle.dypdl_expr.specs.declared.tokens.Lexeme.{Lexeme}
use Rattle.dypdl_expr.specs.declared.tokens.Lexeme.TheVariants.{End, Open, Close, Bar, Word}
use Rattle.dypdl_expr.specs.Tokens as token
use Rattle.dypdl_expr.proofs.Unique.{one_form, nothing_begins, whole_apart, one_whole_refusal}

-- an expression with a token after it is refused at that token
one_more : (levels : ℕ) (all : List Token) (e : Expr) (next : Token) (rest : List Token) → Begins levels all e (next ∷ rest) → WholeFails levels all (stray next)
one_more levels [] e next rest is = absurd (nothing_begins levels e (next ∷ rest) is)
one_more levels (t ∷ ts) e next rest is = inr (e, next, rest, is, refl)

pub one_too_many : (levels outer : ℕ) (all : List Token) (e : Expr) (next : Lexeme) (rest : List Token) → (next ≡ End → ⊥) → Begins levels all e (followed_by next rest) → MemoryOr (WholeFails levels all) (after_expression outer next)
one_too_many levels outer all e End rest some is = absurd (some refl)
one_too_many levels outer all e (Open at) rest some is = one_more levels all e (token.Open at) rest is
one_too_many levels outer all e (Close at) rest some is = one_more levels all e (token.Close at) rest is
one_too_many levels outer all e (Bar at) rest some is = one_more levels all e (token.Bar at) rest is
one_too_many levels outer all e (Word at word) rest some is = memory_or-from is_memory (WholeFails levels all) (after_expression outer (Word at word)) (one_more levels all e (token.Word at word.now) rest is)

-- ---- both directions, of what was answered

module _ (levels : ℕ) (all : List Token) where
  pub only_expression : (answer : Result Expr ExprEnd) → IfOk answer (λ e. Begins levels all e []) → IfErr answer (λ r. MemoryOr (WholeFails levels all) r)
      → (e : Expr) → Begins levels all e [] → MatchResult answer (λ found. found ≡ e) (λ r. r ≡ Memory)
  only_expression (Ok f) ok err e is = ((one_form levels).same all f e [] [] ok is).expr
  only_expression (Err Memory) ok err e is = refl
  only_expression (Err (BadToken at)) ok err e is = absurd (whole_apart levels all e (BadToken at) is err)
  only_expression (Err (Unbalanced at)) ok err e is = absurd (whole_apart levels all e (Unbalanced at) is err)
  only_expression (Err (Empty at)) ok err e is = absurd (whole_apart levels all e (Empty at) is err)
  only_expression (Err (Rest at)) ok err e is = absurd (whole_apart levels all e (Rest at) is err)
  only_expression (Err (TooNested at)) ok err e is = absurd (whole_apart levels all e (TooNested at) is err)

  pub only_refusal : (answer : Result Expr ExprEnd) → IfOk answer (λ e. Begins levels all e []) → IfErr answer (λ r. MemoryOr (WholeFails levels all) r)
      → (r : ExprEnd) → WholeFails levels all r → MatchResult answer (λ _. ⊥) (λ found. MemoryOr (λ first. first ≡ r) found)
  only_refusal (Ok f) ok err r is = whole_apart levels all f r ok is
  only_refusal (Err f) ok err r is = memory_or is_memory (WholeFails levels all) (λ first. first ≡ r) (λ first bad. one_whole_refusal levels all first r bad is) f err
