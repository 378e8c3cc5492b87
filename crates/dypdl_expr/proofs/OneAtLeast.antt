-- Each text is an expression or has a first refusal.
use Rattle.std.proofs.Common.{◌≡◌, ℕ, zero, suc, ◌<◌, List, [], ◌∷◌, length, refl, arith, inl, inr}
use Rattle.std.specs.Prelude.{◌⊎◌}
use Rattle.std.proofs.lemmas.Bool.{cases_Bool}
use Rattle.dypdl_expr.specs.Tokens.{Token, Open, Close, Bar, Word, offset, has_control}
use Rattle.dypdl_expr.specs.Grammar.{IsWord, First, Items, ListBody, NoBar, BarsBody, Begins}
use Rattle.dypdl_expr.specs.Refusals.{IsBadWord, NoClose, FirstFails, ListFails, NotClosed, BarsFails, Fails, WholeFails, stray, too_deep}
use Rattle.dypdl_expr.specs.Rows.{RowFails}
use Rattle.dypdl_expr.specs.declared.expr.Expr.{Expr}
use Rattle.dypdl_expr.specs.declared.expr.Expr.TheVariants as form
use Rattle.dypdl_expr.specs.declared.expr.ExprEnd.{ExprEnd}
use Rattle.dypdl_expr.specs.declared.expr.ExprEnd.TheVariants.{BadToken, Unbalanced, Empty}
use Rattle.dypdl_expr.proofs.ReadSteps.{Shortens, begins_shortens}

-- something is read and something is left, or something is refused
abbrev pub Either : (Expr → List Token → Type 0) → (ExprEnd → Type 0) → Type 0
Either Read Fail = ((e : Expr) × (rest : List Token) × Read e rest) ⊎ ((r : ExprEnd) × Fail r)

abbrev pub HasItem : (List Token → Expr → List Token → Type 0) → (List Token → ExprEnd → Type 0) → Type 0
HasItem Item ItemFails = (tokens : List Token) → Either (Item tokens) (ItemFails tokens)

has_word : (at : ℕ) (word : List ℕ) → ((e : Expr) × IsWord at word e) ⊎ ((r : ExprEnd) × IsBadWord at word r)
has_word at word = elim (cases_Bool (has_control word)) [
  | inl bad ↦ inr (BadToken at, (bad, refl))
  | inr good ↦ inl (form.Word at word, (good, refl))
]

word_or : (at : ℕ) (word : List ℕ) (tokens : List Token) → Either (λ e rest. IsWord at word e × (tokens ≡ rest)) (IsBadWord at word)
word_or at word tokens = elim (has_word at word) [
  | inl is ↦ inl (is.0, tokens, (is.1, refl))
  | inr bad ↦ inr bad
]

module _ (Item : List Token → Expr → List Token → Type 0) (ItemFails : List Token → ExprEnd → Type 0) (has : HasItem Item ItemFails) where
  has_first : (at : ℕ) → HasItem (First Item) (FirstFails ItemFails at)
  has_first at [] = has []
  has_first at (Open begin ∷ tokens) = has (Open begin ∷ tokens)
  has_first at (Bar begin ∷ tokens) = has (Bar begin ∷ tokens)
  has_first at (Close end ∷ tokens) = inr (Empty at, refl)
  has_first at (Word begin word ∷ tokens) = word_or begin word tokens

  -- a row of items up to its `)`, or one that fails
  abbrev Row : List Token → Type 0
  Row tokens = ((others : List Expr) × (end : ℕ) × (rest : List Token) × Items Item tokens others (Close end ∷ rest)) ⊎ ((r : ExprEnd) × RowFails Item ItemFails tokens r)

  row_after : (tokens : List Token) (e : Expr) (next : List Token) → Item tokens e next → Row next → Row tokens
  row_after tokens e next is (inl row) = inl (e ∷ row.0, row.1, row.2, (next, is, row.3))
  row_after tokens e next is (inr bad) =
      inr (bad.0, record { others = e ∷ bad.1.others; left = bad.1.left; goes_on = (next, is, bad.1.goes_on); no_close = bad.1.no_close; fails = bad.1.fails })

  row_at : (tokens : List Token) → NoClose tokens → ((e : Expr) (next : List Token) → Item tokens e next → Row next) → Row tokens
  row_at tokens open_still goes_on = elim (has tokens) [
    | inl is ↦ row_after tokens is.0 is.1 is.2 (goes_on is.0 is.1 is.2)
    | inr bad ↦ inr (bad.0, record { others = []; left = tokens; goes_on = refl; no_close = open_still; fails = bad.1 })
  ]

  module _ (shortens : Shortens Item) where
    has_row : (most : ℕ) (tokens : List Token) → length tokens < most → Row tokens
    has_row zero tokens less = absurd (omega arith)
    has_row (suc most) (Close end ∷ tokens) less = inl ([], end, tokens, refl)
    has_row (suc most) [] less = row_at [] tt (λ e next is. has_row most next (omega (arith, shortens [] e next is)))
    has_row (suc most) (Open at ∷ tokens) less = row_at (Open at ∷ tokens) tt (λ e next is. has_row most next (omega (arith, shortens (Open at ∷ tokens) e next is)))
    has_row (suc most) (Bar at ∷ tokens) less = row_at (Bar at ∷ tokens) tt (λ e next is. has_row most next (omega (arith, shortens (Bar at ∷ tokens) e next is)))
    has_row (suc most) (Word at word ∷ tokens) less = row_at (Word at word ∷ tokens) tt (λ e next is. has_row most next (omega (arith, shortens (Word at word ∷ tokens) e next is)))

    list_from : (at : ℕ) (tokens : List Token) (head : Expr) (behind : List Token) → First Item tokens head behind → Row behind → Either (ListBody Item at tokens) (ListFails Item ItemFails at tokens)
    list_from at tokens head behind begins (inl row) =
        inl (form.List at (head ∷ row.0), row.2, record { head = head; others = row.0; behind = behind; end = row.1; begins = begins; goes_on = row.3; whole = refl })
    list_from at tokens head behind begins (inr bad) =
        inr (bad.0, inr (record { head = head; others = bad.1.others; behind = behind; left = bad.1.left; begins = begins; goes_on = bad.1.goes_on; no_close = bad.1.no_close; fails = bad.1.fails }))

    has_list : (at : ℕ) → HasItem (ListBody Item at) (ListFails Item ItemFails at)
    has_list at tokens = elim (has_first at tokens) [
      | inl is ↦ list_from at tokens is.0 is.1 is.2 (has_row (suc (length is.1)) is.1 (omega arith))
      | inr bad ↦ inr (bad.0, inl bad.1)
    ]

  -- an expression between bars, or what fails there
  abbrev Inner : (outer at : ℕ) → List Token → Type 0
  Inner outer at tokens = Either (BarsBody Item at tokens) (λ r. ItemFails tokens r ⊎ ((inner : Expr) × (left : List Token) × Item tokens inner left × NotClosed outer left r))

  inner_before : (outer at : ℕ) (tokens : List Token) → NoBar tokens → (inner : Expr) (left : List Token) → Item tokens inner left → Inner outer at tokens
  inner_before outer at tokens no_bar inner [] is = inr (Unbalanced outer, inr (inner, [], is, refl))
  inner_before outer at tokens no_bar inner (Open next ∷ rest) is = inr (stray (Open next), inr (inner, Open next ∷ rest, is, refl))
  inner_before outer at tokens no_bar inner (Close next ∷ rest) is = inr (stray (Close next), inr (inner, Close next ∷ rest, is, refl))
  inner_before outer at tokens no_bar inner (Word next word ∷ rest) is = inr (stray (Word next word), inr (inner, Word next word ∷ rest, is, refl))
  inner_before outer at tokens no_bar inner (Bar end ∷ rest) is = inl (form.Bars at inner, rest, record { inner = inner; end = end; no_bar = no_bar; begins = is; whole = refl })

  has_inner : (outer at : ℕ) (tokens : List Token) → NoBar tokens → Inner outer at tokens
  has_inner outer at tokens no_bar = elim (has tokens) [
    | inl is ↦ inner_before outer at tokens no_bar is.0 is.1 is.2
    | inr bad ↦ inr (bad.0, inl bad.1)
  ]

  has_bars : (outer at : ℕ) → HasItem (BarsBody Item at) (BarsFails outer Item ItemFails at)
  has_bars outer at [] = has_inner outer at [] tt
  has_bars outer at (Open begin ∷ tokens) = has_inner outer at (Open begin ∷ tokens) tt
  has_bars outer at (Close begin ∷ tokens) = has_inner outer at (Close begin ∷ tokens) tt
  has_bars outer at (Word begin word ∷ tokens) = has_inner outer at (Word begin word ∷ tokens) tt
  has_bars outer at (Bar begin ∷ tokens) = inr (Empty at, refl)

has_form : (outer levels : ℕ) → HasItem (Begins levels) (Fails outer levels)
has_form outer zero tokens = inr (too_deep outer tokens, refl)
has_form outer (suc levels) [] = inr (Unbalanced outer, refl)
has_form outer (suc levels) (Close at ∷ tokens) = inr (Unbalanced at, refl)
has_form outer (suc levels) (Word at word ∷ tokens) = word_or at word tokens
has_form outer (suc levels) (Open at ∷ tokens) = has_list (Begins levels) (Fails outer levels) (has_form outer levels) (begins_shortens levels) at tokens
has_form outer (suc levels) (Bar at ∷ tokens) = has_bars (Begins levels) (Fails outer levels) (has_form outer levels) outer at tokens

abbrev pub Whole : (levels : ℕ) → List Token → Type 0
Whole levels tokens = ((e : Expr) × Begins levels tokens e []) ⊎ ((r : ExprEnd) × WholeFails levels tokens r)

whole_before : (levels : ℕ) (token : Token) (tokens : List Token) (e : Expr) (rest : List Token) → Begins levels (token ∷ tokens) e rest → Whole levels (token ∷ tokens)
whole_before levels token tokens e [] is = inl (e, is)
whole_before levels token tokens e (next ∷ rest) is = inr (stray next, inr (e, next, rest, is, refl))

-- the tokens are an expression of at most so many levels, or something is refused
pub has_whole : (levels : ℕ) (tokens : List Token) → Whole levels tokens
has_whole levels [] = inr (Empty 0, refl)
has_whole levels (token ∷ tokens) = elim (has_form (offset token) levels (token ∷ tokens)) [
  | inl is ↦ whole_before levels token tokens is.0 is.1 is.2
  | inr bad ↦ inr (bad.0, inl bad.1)
]
