-- A text is at most one expression, or has one first refusal, and never both.
use Rattle.std.proofs.Common.{◌≡◌, ℕ, zero, suc, true, false, List, [], ◌∷◌, refl, sym, ap, subst, ◌∙◌, inl, inr}
use Rattle.std.specs.Prelude.{◌⊎◌}
use Rattle.dypdl_expr.specs.Tokens.{Token, Open, Close, Bar, Word, offset}
use Rattle.dypdl_expr.specs.Grammar.{IsWord, First, Items, ListBody, BarsBody, Begins}
use Rattle.dypdl_expr.specs.Refusals.{IsBadWord, NoClose, FirstFails, ListFails, NotClosed, BarsFails, Fails, WholeFails, stray}
use Rattle.dypdl_expr.specs.declared.expr.Expr.{Expr}
use Rattle.dypdl_expr.specs.declared.expr.Expr.TheVariants as form
use Rattle.dypdl_expr.specs.declared.expr.ExprEnd.{ExprEnd}

-- what an expression is and what is left after it
pub record Same (e f : Expr) (r s : List Token) : Type 0 where
  pub expr : e ≡ f
  pub rest : r ≡ s

-- an item is the only one that the tokens begin with, and no item begins with `)`
pub record IsOne (Item : List Token → Expr → List Token → Type 0) : Type 0 where
  pub same : (tokens : List Token) (e f : Expr) (r s : List Token) → Item tokens e r → Item tokens f s → Same e f r s
  pub no_close : (at : ℕ) (tokens : List Token) (e : Expr) (r : List Token) → Item (Close at ∷ tokens) e r → ⊥

-- tokens that begin with an item are not refused, and only one thing is refused
pub record IsOneRefusal (Item : List Token → Expr → List Token → Type 0) (ItemFails : List Token → ExprEnd → Type 0) : Type 0 where
  pub apart : (tokens : List Token) (e : Expr) (rest : List Token) (r : ExprEnd) → Item tokens e rest → ItemFails tokens r → ⊥
  pub same : (tokens : List Token) (r s : ExprEnd) → ItemFails tokens r → ItemFails tokens s → r ≡ s

one_word : (at : ℕ) (word : List ℕ) (e f : Expr) → IsWord at word e → IsWord at word f → e ≡ f
one_word at word e f a b = a.1 ∙ sym b.1

no_bad_word : (at : ℕ) (word : List ℕ) (e : Expr) (begin : ℕ) (r : ExprEnd) → IsWord at word e → IsBadWord begin word r → ⊥
no_bad_word at word e begin r a b = let x : false ≡ true = sym a.0 ∙ b.0 in absurd cc

one_bad_word : (at : ℕ) (word : List ℕ) (r s : ExprEnd) → IsBadWord at word r → IsBadWord at word s → r ≡ s
one_bad_word at word r s a b = a.1 ∙ sym b.1

module _ {Item : List Token → Expr → List Token → Type 0} (one : IsOne Item) where
  one_first : (tokens : List Token) (e f : Expr) (r s : List Token) → First Item tokens e r → First Item tokens f s → Same e f r s
  one_first [] e f r s a b = one.same [] e f r s a b
  one_first (Open at ∷ tokens) e f r s a b = one.same (Open at ∷ tokens) e f r s a b
  one_first (Close at ∷ tokens) e f r s a b = one.same (Close at ∷ tokens) e f r s a b
  one_first (Bar at ∷ tokens) e f r s a b = one.same (Bar at ∷ tokens) e f r s a b
  one_first (Word at word ∷ tokens) e f r s a b = record { expr = one_word at word e f a.0 b.0; rest = sym a.1 ∙ b.1 }

  -- no item begins at a `)`
  at_close : (tokens : List Token) (end : ℕ) (rest : List Token) (e : Expr) (r : List Token) → tokens ≡ Close end ∷ rest → Item tokens e r → ⊥
  at_close tokens end rest e r is a = one.no_close end rest e r (subst (λ (ts : List Token). Item ts e r) is a)

  one_row : (tokens : List Token) (es fs : List Expr) (end end' : ℕ) (r s : List Token) → Items Item tokens es (Close end ∷ r) → Items Item tokens fs (Close end' ∷ s) → (es ≡ fs) × (r ≡ s)
  one_row tokens [] [] end end' r s a b = let e : Close end ∷ r ≡ Close end' ∷ s = sym a ∙ b in (refl, cc)
  one_row tokens [] (f ∷ fs) end end' r s a b = absurd (at_close tokens end r f b.0 a b.1)
  one_row tokens (e ∷ es) [] end end' r s a b = absurd (at_close tokens end' s e a.0 b a.1)
  one_row tokens (e ∷ es) (f ∷ fs) end end' r s a b =
      let h = one.same tokens e f a.0 b.0 a.1 b.1 in
      let t = one_row b.0 es fs end end' r s (subst (λ (ts : List Token). Items Item ts es (Close end ∷ r)) h.rest a.2) b.2 in
      ((λ i. h.expr i ∷ t.0 i), t.1)

  one_list : (at : ℕ) (tokens : List Token) (e f : Expr) (r s : List Token) → ListBody Item at tokens e r → ListBody Item at tokens f s → Same e f r s
  one_list at tokens e f r s a b =
      let h = one_first tokens a.head b.head a.behind b.behind a.begins b.begins in
      let t = one_row b.behind a.others b.others a.end b.end r s (subst (λ (ts : List Token). Items Item ts a.others (Close a.end ∷ r)) h.rest a.goes_on) b.goes_on in
      record { expr = a.whole ∙ (λ i. form.List at (h.expr i ∷ t.0 i)) ∙ sym b.whole; rest = t.1 }

  one_bars : (at : ℕ) (tokens : List Token) (e f : Expr) (r s : List Token) → BarsBody Item at tokens e r → BarsBody Item at tokens f s → Same e f r s
  one_bars at tokens e f r s a b =
      let h = one.same tokens a.inner b.inner (Bar a.end ∷ r) (Bar b.end ∷ s) a.begins b.begins in
      let t : Bar a.end ∷ r ≡ Bar b.end ∷ s = h.rest in
      record { expr = a.whole ∙ ap (λ (x : Expr). form.Bars at x) h.expr ∙ sym b.whole; rest = cc }

no_close_form : (levels at : ℕ) (tokens : List Token) (e : Expr) (r : List Token) → Begins levels (Close at ∷ tokens) e r → ⊥
no_close_form zero at tokens e r a = a
no_close_form (suc levels) at tokens e r a = a

same_form : (levels : ℕ) (tokens : List Token) (e f : Expr) (r s : List Token) → Begins levels tokens e r → Begins levels tokens f s → Same e f r s
same_form zero tokens e f r s a b = absurd a
same_form (suc levels) [] e f r s a b = absurd a
same_form (suc levels) (Close at ∷ tokens) e f r s a b = absurd a
same_form (suc levels) (Word at word ∷ tokens) e f r s a b = record { expr = one_word at word e f a.0 b.0; rest = sym a.1 ∙ b.1 }
same_form (suc levels) (Open at ∷ tokens) e f r s a b = one_list (record { same = same_form levels; no_close = no_close_form levels }) at tokens e f r s a b
same_form (suc levels) (Bar at ∷ tokens) e f r s a b = one_bars (record { same = same_form levels; no_close = no_close_form levels }) at tokens e f r s a b

pub one_form : (levels : ℕ) → IsOne (Begins levels)
one_form levels = record { same = same_form levels; no_close = no_close_form levels }

-- ---- refusals

module _ {Item : List Token → Expr → List Token → Type 0} {ItemFails : List Token → ExprEnd → Type 0} (one : IsOne Item) (fails : IsOneRefusal Item ItemFails) where
  first_apart : (at : ℕ) (tokens : List Token) (e : Expr) (rest : List Token) (r : ExprEnd) → First Item tokens e rest → FirstFails ItemFails at tokens r → ⊥
  first_apart at [] e rest r a b = fails.apart [] e rest r a b
  first_apart at (Open begin ∷ tokens) e rest r a b = fails.apart (Open begin ∷ tokens) e rest r a b
  first_apart at (Bar begin ∷ tokens) e rest r a b = fails.apart (Bar begin ∷ tokens) e rest r a b
  first_apart at (Close end ∷ tokens) e rest r a b = one.no_close end tokens e rest a
  first_apart at (Word begin word ∷ tokens) e rest r a b = no_bad_word begin word e begin r a.0 b

  one_first_refusal : (at : ℕ) (tokens : List Token) (r s : ExprEnd) → FirstFails ItemFails at tokens r → FirstFails ItemFails at tokens s → r ≡ s
  one_first_refusal at [] r s a b = fails.same [] r s a b
  one_first_refusal at (Open begin ∷ tokens) r s a b = fails.same (Open begin ∷ tokens) r s a b
  one_first_refusal at (Bar begin ∷ tokens) r s a b = fails.same (Bar begin ∷ tokens) r s a b
  one_first_refusal at (Close end ∷ tokens) r s a b = a ∙ sym b
  one_first_refusal at (Word begin word ∷ tokens) r s a b = one_bad_word begin word r s a b

  -- a row of items that ends with `)` is not one that fails
  row_apart : (tokens : List Token) (es fs : List Expr) (end : ℕ) (rest left : List Token) (r : ExprEnd) → Items Item tokens es (Close end ∷ rest) → Items Item tokens fs left → NoClose left → ItemFails left r → ⊥
  row_apart tokens [] [] end rest left r a b open_still bad = subst NoClose (sym b ∙ a) open_still
  row_apart tokens [] (f ∷ fs) end rest left r a b open_still bad = at_close one tokens end rest f b.0 a b.1
  row_apart tokens (e ∷ es) [] end rest left r a b open_still bad = fails.apart tokens e a.0 r a.1 (subst (λ (ts : List Token). ItemFails ts r) (sym b) bad)
  row_apart tokens (e ∷ es) (f ∷ fs) end rest left r a b open_still bad =
      let h = one.same tokens e f a.0 b.0 a.1 b.1 in
      row_apart b.0 es fs end rest left r (subst (λ (ts : List Token). Items Item ts es (Close end ∷ rest)) h.rest a.2) b.2 open_still bad

  one_row_refusal : (tokens : List Token) (es fs : List Expr) (left left' : List Token) (r s : ExprEnd) → Items Item tokens es left → ItemFails left r → Items Item tokens fs left' → ItemFails left' s → r ≡ s
  one_row_refusal tokens [] [] left left' r s a bad b bad' = fails.same left r s bad (subst (λ (ts : List Token). ItemFails ts s) (sym b ∙ a) bad')
  one_row_refusal tokens [] (f ∷ fs) left left' r s a bad b bad' = absurd (fails.apart tokens f b.0 r b.1 (subst (λ (ts : List Token). ItemFails ts r) (sym a) bad))
  one_row_refusal tokens (e ∷ es) [] left left' r s a bad b bad' = absurd (fails.apart tokens e a.0 s a.1 (subst (λ (ts : List Token). ItemFails ts s) (sym b) bad'))
  one_row_refusal tokens (e ∷ es) (f ∷ fs) left left' r s a bad b bad' =
      let h = one.same tokens e f a.0 b.0 a.1 b.1 in
      one_row_refusal b.0 es fs left left' r s (subst (λ (ts : List Token). Items Item ts es left) h.rest a.2) bad b.2 bad'

  list_apart : (at : ℕ) (tokens : List Token) (e : Expr) (rest : List Token) (r : ExprEnd) → ListBody Item at tokens e rest → ListFails Item ItemFails at tokens r → ⊥
  list_apart at tokens e rest r a b =
      elim b [
        | inl bad ↦ first_apart at tokens a.head a.behind r a.begins bad
        | inr bad ↦
            let h = one_first one tokens a.head bad.head a.behind bad.behind a.begins bad.begins in
            row_apart bad.behind a.others bad.others a.end rest bad.left r (subst (λ (ts : List Token). Items Item ts a.others (Close a.end ∷ rest)) h.rest a.goes_on) bad.goes_on bad.no_close bad.fails
      ]

  one_list_refusal : (at : ℕ) (tokens : List Token) (r s : ExprEnd) → ListFails Item ItemFails at tokens r → ListFails Item ItemFails at tokens s → r ≡ s
  one_list_refusal at tokens r s (inl a) (inl b) = one_first_refusal at tokens r s a b
  one_list_refusal at tokens r s (inl a) (inr b) = absurd (first_apart at tokens b.head b.behind r b.begins a)
  one_list_refusal at tokens r s (inr a) (inl b) = absurd (first_apart at tokens a.head a.behind s a.begins b)
  one_list_refusal at tokens r s (inr a) (inr b) =
      let h = one_first one tokens a.head b.head a.behind b.behind a.begins b.begins in
      one_row_refusal b.behind a.others b.others a.left b.left r s (subst (λ (ts : List Token). Items Item ts a.others a.left) h.rest a.goes_on) a.fails b.goes_on b.fails

  -- after the one expression between bars
  ended : (outer end : ℕ) (rest left : List Token) (r : ExprEnd) → Bar end ∷ rest ≡ left → NotClosed outer left r → ⊥
  ended outer end rest left r same bad = subst (λ (ts : List Token). NotClosed outer ts r) (sym same) bad

  one_end : (outer : ℕ) (left : List Token) (r s : ExprEnd) → NotClosed outer left r → NotClosed outer left s → r ≡ s
  one_end outer [] r s a b = a ∙ sym b
  one_end outer (Bar at ∷ tokens) r s a b = absurd a
  one_end outer (Open at ∷ tokens) r s a b = a ∙ sym b
  one_end outer (Close at ∷ tokens) r s a b = a ∙ sym b
  one_end outer (Word at word ∷ tokens) r s a b = a ∙ sym b

  -- the expression between the bars fails, or stands there and is not closed
  abbrev InnerFails : (outer : ℕ) → List Token → ExprEnd → Type 0
  InnerFails outer tokens r = ItemFails tokens r ⊎ ((inner : Expr) × (left : List Token) × Item tokens inner left × NotClosed outer left r)

  inner_apart : (outer end : ℕ) (tokens : List Token) (inner : Expr) (rest : List Token) (r : ExprEnd) → Item tokens inner (Bar end ∷ rest) → InnerFails outer tokens r → ⊥
  inner_apart outer end tokens inner rest r a (inl bad) = fails.apart tokens inner (Bar end ∷ rest) r a bad
  inner_apart outer end tokens inner rest r a (inr bad) = ended outer end rest bad.1 r (one.same tokens inner bad.0 (Bar end ∷ rest) bad.1 a bad.2).rest bad.3

  one_inner_refusal : (outer : ℕ) (tokens : List Token) (r s : ExprEnd) → InnerFails outer tokens r → InnerFails outer tokens s → r ≡ s
  one_inner_refusal outer tokens r s (inl a) (inl b) = fails.same tokens r s a b
  one_inner_refusal outer tokens r s (inl a) (inr b) = absurd (fails.apart tokens b.0 b.1 r b.2 a)
  one_inner_refusal outer tokens r s (inr a) (inl b) = absurd (fails.apart tokens a.0 a.1 s a.2 b)
  one_inner_refusal outer tokens r s (inr a) (inr b) =
      let h = one.same tokens a.0 b.0 a.1 b.1 a.2 b.2 in
      one_end outer b.1 r s (subst (λ (ts : List Token). NotClosed outer ts r) h.rest a.3) b.3

  bars_apart : (outer at : ℕ) (tokens : List Token) (e : Expr) (rest : List Token) (r : ExprEnd) → BarsBody Item at tokens e rest → BarsFails outer Item ItemFails at tokens r → ⊥
  bars_apart outer at [] e rest r a b = inner_apart outer a.end [] a.inner rest r a.begins b
  bars_apart outer at (Open begin ∷ tokens) e rest r a b = inner_apart outer a.end (Open begin ∷ tokens) a.inner rest r a.begins b
  bars_apart outer at (Close begin ∷ tokens) e rest r a b = inner_apart outer a.end (Close begin ∷ tokens) a.inner rest r a.begins b
  bars_apart outer at (Bar begin ∷ tokens) e rest r a b = a.no_bar
  bars_apart outer at (Word begin word ∷ tokens) e rest r a b = inner_apart outer a.end (Word begin word ∷ tokens) a.inner rest r a.begins b

  one_bars_refusal : (outer at : ℕ) (tokens : List Token) (r s : ExprEnd) → BarsFails outer Item ItemFails at tokens r → BarsFails outer Item ItemFails at tokens s → r ≡ s
  one_bars_refusal outer at [] r s a b = one_inner_refusal outer [] r s a b
  one_bars_refusal outer at (Open begin ∷ tokens) r s a b = one_inner_refusal outer (Open begin ∷ tokens) r s a b
  one_bars_refusal outer at (Close begin ∷ tokens) r s a b = one_inner_refusal outer (Close begin ∷ tokens) r s a b
  one_bars_refusal outer at (Bar begin ∷ tokens) r s a b = a ∙ sym b
  one_bars_refusal outer at (Word begin word ∷ tokens) r s a b = one_inner_refusal outer (Word begin word ∷ tokens) r s a b

-- what holds of one level less holds of a form
module _ (outer levels : ℕ) (below : IsOneRefusal (Begins levels) (Fails outer levels)) where
  form_apart : (tokens : List Token) (e : Expr) (rest : List Token) (r : ExprEnd) → Begins (suc levels) tokens e rest → Fails outer (suc levels) tokens r → ⊥
  form_apart [] e rest r a b = a
  form_apart (Close at ∷ tokens) e rest r a b = a
  form_apart (Word at word ∷ tokens) e rest r a b = no_bad_word at word e at r a.0 b
  form_apart (Open at ∷ tokens) e rest r a b = list_apart (one_form levels) below at tokens e rest r a b
  form_apart (Bar at ∷ tokens) e rest r a b = bars_apart (one_form levels) below outer at tokens e rest r a b

  same_refusal : (tokens : List Token) (r s : ExprEnd) → Fails outer (suc levels) tokens r → Fails outer (suc levels) tokens s → r ≡ s
  same_refusal [] r s a b = a ∙ sym b
  same_refusal (Close at ∷ tokens) r s a b = a ∙ sym b
  same_refusal (Word at word ∷ tokens) r s a b = one_bad_word at word r s a b
  same_refusal (Open at ∷ tokens) r s a b = one_list_refusal (one_form levels) below at tokens r s a b
  same_refusal (Bar at ∷ tokens) r s a b = one_bars_refusal (one_form levels) below outer at tokens r s a b

pub one_refusal : (outer levels : ℕ) → IsOneRefusal (Begins levels) (Fails outer levels)
one_refusal outer zero = record { apart = λ tokens e rest r a b. a; same = λ tokens r s a b. a ∙ sym b }
one_refusal outer (suc levels) = record { apart = form_apart outer levels (one_refusal outer levels); same = same_refusal outer levels (one_refusal outer levels) }

-- ---- whole texts, of at most so many levels

pub nothing_begins : (levels : ℕ) (e : Expr) (rest : List Token) → Begins levels [] e rest → ⊥
nothing_begins zero e rest a = a
nothing_begins (suc levels) e rest a = a

pub whole_apart : (levels : ℕ) (tokens : List Token) (e : Expr) (r : ExprEnd) → Begins levels tokens e [] → WholeFails levels tokens r → ⊥
whole_apart levels [] e r a b = nothing_begins levels e [] a
whole_apart levels (token ∷ tokens) e r a (inl b) = (one_refusal (offset token) levels).apart (token ∷ tokens) e [] r a b
whole_apart levels (token ∷ tokens) e r a (inr b) = let same : [] ≡ b.1 ∷ b.2 = ((one_form levels).same (token ∷ tokens) e b.0 [] (b.1 ∷ b.2) a b.3).rest in absurd cc

pub one_whole_refusal : (levels : ℕ) (tokens : List Token) (r s : ExprEnd) → WholeFails levels tokens r → WholeFails levels tokens s → r ≡ s
one_whole_refusal levels [] r s a b = a ∙ sym b
one_whole_refusal levels (token ∷ tokens) r s (inl a) (inl b) = (one_refusal (offset token) levels).same (token ∷ tokens) r s a b
one_whole_refusal levels (token ∷ tokens) r s (inl a) (inr b) = absurd ((one_refusal (offset token) levels).apart (token ∷ tokens) b.0 (b.1 ∷ b.2) r b.3 a)
one_whole_refusal levels (token ∷ tokens) r s (inr a) (inl b) = absurd ((one_refusal (offset token) levels).apart (token ∷ tokens) a.0 (a.1 ∷ a.2) s a.3 b)
one_whole_refusal levels (token ∷ tokens) r s (inr a) (inr b) =
    let same : a.1 ∷ a.2 ≡ b.1 ∷ b.2 = ((one_form levels).same (token ∷ tokens) a.0 b.0 (a.1 ∷ a.2) (b.1 ∷ b.2) a.3 b.3).rest in
    let next : a.1 ≡ b.1 = cc in
    a.4 ∙ ap stray next ∙ sym b.4
