-- There is exactly one reading of expressions.
use Rattle.std.proofs.Common.{◌≡◌, ℕ, List, [], ◌⊎◌, inl, inr, ap}
use Rattle.std.specs.Prelude.{Result, Ok, Err}
use Rattle.dypdl_expr.specs.Tokens.{tokens_of}
use Rattle.dypdl_expr.specs.Grammar.{Reads as IsRead}
use Rattle.dypdl_expr.specs.Refusals.{Refused as IsNoExpression}
use Rattle.dypdl_expr.specs.declared.expr.Expr.{Expr}
use Rattle.dypdl_expr.specs.declared.expr.ExprEnd.{ExprEnd}
use Rattle.dypdl_expr.proofs.OneAtLeast.{has_whole}
use Rattle.dypdl_expr.proofs.Unique.{one_form, whole_apart, one_whole_refusal}
use Rattle.dypdl_rules.specs.Expressions.{Reading, IsOutcome, IsReading}

-- ---- there is one

abbrev Told : List ℕ → Type 0
Told text = ((e : Expr) × IsRead text e) ⊎ ((r : ExprEnd) × IsNoExpression text r)

abbrev told_as : (text : List ℕ) → Told text → Result Expr ExprEnd
told_as text (inl is) = Ok is.0
told_as text (inr bad) = Err bad.0

told_is : (text : List ℕ) (t : Told text) → IsOutcome text (told_as text t)
told_is text (inl is) = is.1
told_is text (inr bad) = bad.1

told : (text : List ℕ) → Told text
told text = has_whole 200 (tokens_of text)

pub the_reading : Reading
the_reading = λ text. told_as text (told text)

pub reads : IsReading the_reading
unfolding the_reading
reads text = told_is text (told text)

-- ---- and no other

same_expression : (text : List ℕ) (a b : Expr) → IsRead text a → IsRead text b → a ≡ b
same_expression text a b is_a is_b = ((one_form 200).same (tokens_of text) a b [] [] is_a is_b).expr

same_outcome : (text : List ℕ) (x y : Result Expr ExprEnd) → IsOutcome text x → IsOutcome text y → x ≡ y
same_outcome text (Ok a) (Ok b) is_a is_b = ap Ok (same_expression text a b is_a is_b)
same_outcome text (Ok a) (Err s) is bad = absurd (whole_apart 200 (tokens_of text) a s is bad)
same_outcome text (Err r) (Ok b) bad is = absurd (whole_apart 200 (tokens_of text) b r is bad)
same_outcome text (Err r) (Err s) is_r is_s = ap Err (one_whole_refusal 200 (tokens_of text) r s is_r is_s)

pub one_reading : (read other : Reading) → IsReading read → IsReading other → read ≡ other
one_reading read other is also = λ i. λ text. same_outcome text (read text) (other text) (is text) (also text) i
