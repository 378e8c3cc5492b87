-- Texts that are one word, or a list of words: their expressions, and what is typed of them.
use Rattle.std.proofs.Common.{◌≡◌, ℕ, suc, Bool, true, false, not, nat_lt, ◌&&◌, List, [], ◌∷◌, map, refl, sym, ap, ◌∙◌, subst, Result, Ok, Err}
use Rattle.std.specs.Char.{is_control}
use Rattle.std.specs.List.{list_all, list_any}
use Rattle.std.proofs.lemmas.Bool.{and_parts}
use Rattle.dp_base.specs.declared.place.Place.{Place}
use Rattle.dp_base.specs.Results.{◌>>=◌}
use Rattle.dp_model.specs.declared.trees.Cond.{Cond}
use Rattle.dp_model.specs.declared.trees.Num.{Num}
use Rattle.yaml_tree.specs.declared.tree.Tree.TheVariants as trees
use Rattle.yaml_tree.specs.Fields.{form_place, tree_place}
use Rattle.dypdl_expr.specs.Tokens.{Token, Open, Close, Word, tokens_of, has_control}
use Rattle.dypdl_expr.specs.Grammar.{Begins, Items, Reads as IsRead}
use Rattle.dypdl_expr.specs.declared.expr.Expr.{Expr}
use Rattle.dypdl_expr.specs.declared.expr.Expr as exprs
use Rattle.dypdl_expr.specs.declared.expr.Expr.TheVariants as form
use Rattle.dypdl_expr.specs.declared.expr.ExprEnd.{ExprEnd}
use Rattle.dypdl_expr.proofs.Unique.{one_form, whole_apart}
use Rattle.dypdl_words.specs.Scopes.{Names}
use Rattle.dypdl_words.specs.declared.scope.Param.{Param}
use Rattle.dypdl_words.specs.declared.ends.TypeEnd.{TypeEnd}
use Rattle.dypdl_type.specs.Typing.{Typing, word_typing, list_typing, typing_step, typing, cost_list, cost_step, cost_typing}
use Rattle.dypdl_nodes.specs.Reads.{Reads}
use Rattle.dypdl_nodes.specs.Scalars.{text_of}
use Rattle.dypdl_rules.specs.Declarations.{Declared, names_with}
use Rattle.dypdl_rules.specs.Expressions.{Reading, IsOutcome, IsReading, text_placed, type_placed, typed_by}
use Rattle.dypdl_rules.specs.Conditions.{condition_form, condition_within}
use Rattle.dypdl_rules.specs.BaseCases.{number_in}
use Rattle.content_laws.specs.Worked.{word}
use Rattle.content_laws.proofs.Working.{ascii_text}

-- a word, with the offset of its first byte
abbrev pub Placed : Type 0
Placed = ℕ × List ℕ

-- ASCII without control characters
abbrev pub is_clean : List ℕ → Bool
is_clean text = list_all (λ b. nat_lt b 128) text && not (list_any is_control text)

is_false : (b : Bool) → not b ≡ true → b ≡ false
is_false false e = refl
is_false true e = absurd (cc e)

pub no_control : (text : List ℕ) → is_clean text ≡ true → has_control text ≡ false
no_control text clean =
    let parts = and_parts (list_all (λ b. nat_lt b 128) text) (not (list_any is_control text)) clean in
    ap (list_any is_control) (ascii_text text parts.0) ∙ is_false (list_any is_control text) parts.1

-- ---- expressions

abbrev pub words_of : List Placed → List Expr
words_of ws = map (λ (w : Placed). form.Word w.0 w.1) ws

-- the tokens of these words, up to a closing bracket
abbrev pub closed : List Placed → (close : ℕ) → List Token
closed [] close = Close close ∷ []
closed (w ∷ ws) close = Word w.0 w.1 ∷ closed ws close

abbrev pub are_clean : List Placed → Bool
are_clean ws = list_all (λ (w : Placed). is_clean w.1) ws

items : (ws : List Placed) (close : ℕ) → are_clean ws ≡ true → Items (Begins 199) (closed ws close) (words_of ws) (Close close ∷ [])
items [] close clean = refl
items (w ∷ ws) close clean =
    let parts = and_parts (is_clean w.1) (are_clean ws) clean in
    (closed ws close, ((no_control w.1 parts.0, refl), refl), items ws close parts.1)

-- a list of words
abbrev pub listed : (at : ℕ) → List Placed → Expr
listed at ws = form.List at (words_of ws)

pub list_read : (text : List ℕ) (at close : ℕ) (w : Placed) (ws : List Placed) → tokens_of text ≡ Open at ∷ closed (w ∷ ws) close → are_clean (w ∷ ws) ≡ true → IsRead text (listed at (w ∷ ws))
list_read text at close w ws cut clean = subst (λ (ts : List Token). Begins 200 ts (listed at (w ∷ ws)) []) (sym cut) begins
  where
    parts : (is_clean w.1 ≡ true) × (are_clean ws ≡ true)
    parts = and_parts (is_clean w.1) (are_clean ws) clean

    begins : Begins 200 (Open at ∷ closed (w ∷ ws) close) (listed at (w ∷ ws)) []
    begins = record {
      head = form.Word w.0 w.1;
      others = words_of ws;
      behind = closed ws close;
      end = close;
      begins = ((no_control w.1 parts.0, refl), refl);
      goes_on = items ws close parts.1;
      whole = refl;
    }

pub word_read : (text : List ℕ) (at : ℕ) → tokens_of text ≡ Word at text ∷ [] → is_clean text ≡ true → IsRead text (form.Word at text)
word_read text at cut clean = subst (λ (ts : List Token). Begins 200 ts (form.Word at text) []) (sym cut) ((no_control text clean, refl), refl)

-- the only outcome of a text that is read so
only : (text : List ℕ) (e : Expr) → IsRead text e → (r : Result Expr ExprEnd) → IsOutcome text r → r ≡ Ok e
only text e reads (Ok a) is = ap Ok ((one_form 200).same (tokens_of text) a e [] [] is reads).expr
only text e reads (Err r) bad = absurd (whole_apart 200 (tokens_of text) e r reads bad)

-- ---- typing

module _ (names : Names) where
  pub word_typed : (at : ℕ) (text : List ℕ) → typing names (form.Word at text) ≡ word_typing names at text
  unfolding typing
  word_typed at text =
      exprs.fold_out-Expr Typing (typing_step names) (form.Word at text)
      ∙ ap (λ (f : exprs.Expr-F Expr). typing_step names (exprs.map-Expr Expr Typing (exprs.fold-Expr Typing (typing_step names)) f)) (form.outs-Word at text)

  list_typed : (at : ℕ) (es : List Expr) → typing names (form.List at es) ≡ list_typing names at (map (typing names) es)
  unfolding typing
  list_typed at es =
      exprs.fold_out-Expr Typing (typing_step names) (form.List at es)
      ∙ ap (λ (f : exprs.Expr-F Expr). typing_step names (exprs.map-Expr Expr Typing (exprs.fold-Expr Typing (typing_step names)) f)) (form.outs-List at es)

  abbrev pub typings : List Placed → List Typing
  typings ws = map (λ (w : Placed). word_typing names w.0 w.1) ws

  words_typed : (ws : List Placed) → map (typing names) (words_of ws) ≡ typings ws
  words_typed [] = refl
  words_typed (w ∷ ws) = λ i. word_typed w.0 w.1 i ∷ words_typed ws i

  -- the words of a list are typed alone
  pub listed_typed : (at : ℕ) (ws : List Placed) → typing names (listed at ws) ≡ list_typing names at (typings ws)
  listed_typed at ws = list_typed at (words_of ws) ∙ ap (list_typing names at) (words_typed ws)

  pub cost_typed : (at : ℕ) (ws : List Placed) → cost_typing names (listed at ws) ≡ cost_list (typings ws)
  unfolding cost_typing
  cost_typed at ws = ap (cost_step names) (form.outs-List at (words_of ws)) ∙ ap cost_list (words_typed ws)

-- ---- scalars

pub place_is : (at : Place) (text : List ℕ) → tree_place (word at text) ≡ at
place_is at text = ap form_place (trees.outs-Scalar at text)

pub text_is : (at : Place) (text : List ℕ) → text_of (word at text) ≡ Ok text
text_is at text = simp (trees.outs-Scalar) refl

module _ (read : Reading) (at : Place) (is : IsReading read) where
  -- what is typed of a scalar with a text that is read
  pub typed_text : {A : Type 0} (typed : Expr → Result A TypeEnd) (text : List ℕ) (e : Expr) (x : A) → IsRead text e → typed e ≡ Ok x → typed_by read typed (word at text) ≡ Ok x
  typed_text {A} typed text e x reads types =
      ap (λ (p : Place). (text_of (word at text) >>= λ t. text_placed p (read t)) >>= on_expression p) (place_is at text)
      ∙ ap (λ (r : Reads (List ℕ)). (r >>= λ t. text_placed at (read t)) >>= on_expression at) (text_is at text)
      ∙ ap (λ (r : Result Expr ExprEnd). text_placed at r >>= on_expression at) (only text e reads (read text) (is text))
      ∙ ap (type_placed at) types
    where
      on_expression : Place → Expr → Reads A
      on_expression p e = type_placed p (typed e)

  module _ (d : Declared) where
    pub condition_text : (params : List Param) (text : List ℕ) (e : Expr) (c : Cond) (levels : ℕ) → IsRead text e → (typing (names_with d params) e).condition ≡ Ok c → condition_within read d (suc levels) params (word at text) ≡ Ok c
    unfolding condition_within
    condition_text params text e c levels reads types =
        ap (condition_form read d (condition_within read d levels) params (word at text)) (trees.outs-Scalar at text)
        ∙ typed_text (λ e. (typing (names_with d params) e).condition) text e c reads types

    pub number_text : (text : List ℕ) (e : Expr) (n : Num) → IsRead text e → (typing (names_with d []) e).number ≡ Ok n → number_in read d (word at text) ≡ Ok n
    unfolding number_in
    number_text text e n reads types = typed_text (λ e. (typing (names_with d []) e).number) text e n reads types
