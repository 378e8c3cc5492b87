-- What the reader of expressions knows after each step.
use Rattle.std.proofs.Common.{◌≡◌, ℕ, zero, suc, ◌-◌, ◌≤◌, ◌<◌, List, [], ◌∷◌, ◌++◌, length, refl, sym, ap, subst, arith}
use Rattle.dypdl_expr.specs.Tokens.{Token, Open, Close, Bar, Word}
use Rattle.dypdl_expr.specs.Grammar.{IsWord, First, Items, ListBody, BarsBody, Begins}
use Rattle.dypdl_expr.specs.Refusals.{IsBadWord, ListFails, BarsFails, Fails}
use Rattle.dypdl_expr.specs.declared.expr.Expr.{Expr}
use Rattle.dypdl_expr.specs.declared.expr.ExprEnd.{ExprEnd}

-- the items of a list so far: the first one and those that were read after it
pub record RowSoFar (Item : List Token → Expr → List Token → Type 0) (head : Expr) (tokens : List Token) (items : List Expr) (rest : List Token) : Type 0 where
  pub others : List Expr
  pub goes_on : Items Item tokens others rest
  pub all : items ≡ head ∷ others

-- ---- an expression takes at least one token

abbrev pub Shortens : (List Token → Expr → List Token → Type 0) → Type 0
Shortens Item = (tokens : List Token) (e : Expr) (rest : List Token) → Item tokens e rest → length rest < length tokens

items_shorten : (Item : List Token → Expr → List Token → Type 0) → Shortens Item → (tokens : List Token) (es : List Expr) (rest : List Token) → Items Item tokens es rest → length rest ≤ length tokens
items_shorten Item h tokens [] rest is = let l : length tokens ≡ length rest = ap length is in omega arith
items_shorten Item h tokens (e ∷ es) rest is = let a = h tokens e is.0 is.1 in let b = items_shorten Item h is.0 es rest is.2 in omega (arith, a, b)

first_shortens : (Item : List Token → Expr → List Token → Type 0) → Shortens Item → Shortens (First Item)
first_shortens Item h [] e rest is = h [] e rest is
first_shortens Item h (Open at ∷ tokens) e rest is = h (Open at ∷ tokens) e rest is
first_shortens Item h (Close at ∷ tokens) e rest is = h (Close at ∷ tokens) e rest is
first_shortens Item h (Bar at ∷ tokens) e rest is = h (Bar at ∷ tokens) e rest is
first_shortens Item h (Word at word ∷ tokens) e rest is = let l : length tokens ≡ length rest = ap length is.1 in omega arith

pub begins_shortens : (levels : ℕ) → Shortens (Begins levels)
begins_shortens zero tokens e rest is = absurd is
begins_shortens (suc levels) [] e rest is = absurd is
begins_shortens (suc levels) (Close at ∷ tokens) e rest is = absurd is
begins_shortens (suc levels) (Word at word ∷ tokens) e rest is = let l : length tokens ≡ length rest = ap length is.1 in omega arith
begins_shortens (suc levels) (Open at ∷ tokens) e rest is =
    let a = first_shortens (Begins levels) (begins_shortens levels) tokens is.head is.behind is.begins in
    let b = items_shorten (Begins levels) (begins_shortens levels) is.behind is.others (Close is.end ∷ rest) is.goes_on in
    omega (arith, a, b)
begins_shortens (suc levels) (Bar at ∷ tokens) e rest is =
    let a = begins_shortens levels tokens is.inner (Bar is.end ∷ rest) is.begins in
    omega (arith, a)

-- ---- one more item

pub items_more : (Item : List Token → Expr → List Token → Type 0) (tokens : List Token) (es : List Expr) (e : Expr) (mid rest : List Token) → Items Item tokens es mid → Item mid e rest → Items Item tokens (es ++ e ∷ []) rest
items_more Item tokens [] e mid rest is one = (rest, subst (λ (ts : List Token). Item ts e rest) (sym is) one, refl)
items_more Item tokens (x ∷ es) e mid rest is one = (is.0, is.1, items_more Item is.0 es e mid rest is.2 one)

pub row_more : (Item : List Token → Expr → List Token → Type 0) (head : Expr) (tokens : List Token) (items : List Expr) (e : Expr) (mid rest : List Token) → RowSoFar Item head tokens items mid → Item mid e rest → RowSoFar Item head tokens (items ++ e ∷ []) rest
row_more Item head tokens items e mid rest so_far one = record {
  others = so_far.others ++ e ∷ [];
  goes_on = items_more Item tokens so_far.others e mid rest so_far.goes_on one;
  all = ap (λ (xs : List Expr). xs ++ e ∷ []) so_far.all;
}

-- ---- where levels are left

pub word_form : (levels at : ℕ) (word : List ℕ) (e : Expr) (rest : List Token) → 0 < levels → IsWord at word e → Begins levels (Word at word ∷ rest) e rest
word_form levels at word e rest some is =
    let one : levels ≡ suc (levels - 1) = omega arith in
    subst (λ (n : ℕ). Begins n (Word at word ∷ rest) e rest) (sym one) (is, refl)

pub list_form : (levels at : ℕ) (tokens : List Token) (e : Expr) (rest : List Token) → 0 < levels → ListBody (Begins (levels - 1)) at tokens e rest → Begins levels (Open at ∷ tokens) e rest
list_form levels at tokens e rest some body =
    let one : levels ≡ suc (levels - 1) = omega arith in
    subst (λ (n : ℕ). Begins n (Open at ∷ tokens) e rest) (sym one) body

pub bars_form : (levels at : ℕ) (tokens : List Token) (e : Expr) (rest : List Token) → 0 < levels → BarsBody (Begins (levels - 1)) at tokens e rest → Begins levels (Bar at ∷ tokens) e rest
bars_form levels at tokens e rest some body =
    let one : levels ≡ suc (levels - 1) = omega arith in
    subst (λ (n : ℕ). Begins n (Bar at ∷ tokens) e rest) (sym one) body

pub word_fails : (outer levels at : ℕ) (word : List ℕ) (rest : List Token) → 0 < levels → (r : ExprEnd) → IsBadWord at word r → Fails outer levels (Word at word ∷ rest) r
word_fails outer levels at word rest some r is =
    let one : levels ≡ suc (levels - 1) = omega arith in
    subst (λ (n : ℕ). Fails outer n (Word at word ∷ rest) r) (sym one) is

pub list_fails : (outer levels at : ℕ) (tokens : List Token) → 0 < levels → (r : ExprEnd) → ListFails (Begins (levels - 1)) (Fails outer (levels - 1)) at tokens r → Fails outer levels (Open at ∷ tokens) r
list_fails outer levels at tokens some r is =
    let one : levels ≡ suc (levels - 1) = omega arith in
    subst (λ (n : ℕ). Fails outer n (Open at ∷ tokens) r) (sym one) is

pub bars_fail : (outer levels at : ℕ) (tokens : List Token) → 0 < levels → (r : ExprEnd) → BarsFails outer (Begins (levels - 1)) (Fails outer (levels - 1)) at tokens r → Fails outer levels (Bar at ∷ tokens) r
bars_fail outer levels at tokens some r is =
    let one : levels ≡ suc (levels - 1) = omega arith in
    subst (λ (n : ℕ). Fails outer n (Bar at ∷ tokens) r) (sym one) is
