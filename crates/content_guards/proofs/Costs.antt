-- Cost expressions with each operator, and with `cost` on either side.
use Rattle.std.proofs.Common.{◌≡◌, ℕ, Bool, true, false, List, [], ◌∷◌, Option, Some, None, refl, sym, ap, ◌∙◌, subst, Result, Ok, Err, if◌then◌else◌}
use Rattle.std.specs.Prelude.{codes}
use Rattle.dp_base.specs.Results.{◌>>=◌}
use Rattle.dp_model.specs.declared.parts.JoinOp.{JoinOp}
use Rattle.dp_model.specs.declared.parts.JoinOp.TheVariants.{Plus, Most, Least}
use Rattle.dp_model.specs.declared.trees.Num.{Num}
use Rattle.dypdl_expr.specs.declared.expr.Expr.{Expr}
use Rattle.dypdl_expr.specs.declared.expr.Expr as exprs
use Rattle.dypdl_expr.specs.declared.expr.Expr.TheVariants as form
use Rattle.dypdl_words.specs.Scopes.{Names}
use Rattle.dypdl_words.specs.Words.{begins_number, is_cost, meaning}
use Rattle.dypdl_words.specs.Leaves.{number_word}
use Rattle.dypdl_type.specs.Typing.{Typing, word_typing, typing_step, typing, head_typing, join_named, word_is_cost, joined_cost, cost_list, cost_step, cost_typing}
use Rattle.dypdl_words.specs.declared.ends.TypeEnd.{TypeEnd}
use Rattle.dypdl_words.specs.declared.ends.TypeEnd.TheVariants.{CostForm as NoForm}
use Rattle.dypdl_type.specs.declared.cost.CostForm.{CostForm}
use Rattle.dypdl_type.specs.declared.cost.CostForm.TheVariants.{Bare, Joined}
use Rattle.content_guards.specs.Transitions.{join_word, LawCosts}
use Rattle.content_guards.proofs.Variables.{equal_words}
use Rattle.content_guards.proofs.Wording.{word_typed}

named : (op : JoinOp) → join_named (join_word op) ≡ Some op
named Plus = refl
named Most = refl
named Least = refl

module _ (names : Names) where
  -- `cost` is no number
  word_no_cost : (at : ℕ) (word : List ℕ) (n : Num) → number_word at (meaning names word) ≡ Ok n → (test : Bool) → is_cost word ≡ test → test ≡ false
  unfolding meaning begins_number is_cost number_word
  word_no_cost at word n number false is = refl
  word_no_cost at word n number true is = let no = subst (λ (w : List ℕ). number_word at (meaning names w) ≡ Ok n) (equal_words word (codes "cost") is) number in absurd (cc no)

  -- only a word has a word
  step_no_cost : (f : exprs.Expr-F Typing) (n : Num) → (typing_step names f).number ≡ Ok n → word_is_cost (typing_step names f).word ≡ false
  step_no_cost (exprs.Expr-F.Word at word) n number = word_no_cost at word n number (is_cost word) refl
  step_no_cost (exprs.Expr-F.List at []) n number = refl
  step_no_cost (exprs.Expr-F.List at (x ∷ xs)) n number = by x.word
    where
      by : (word : Option (List ℕ)) → word_is_cost (head_typing names at word xs).word ≡ false
      by None = refl
      by (Some word) = refl
  step_no_cost (exprs.Expr-F.Bars at x) n number = refl

  no_cost : (e : Expr) (n : Num) → (typing names e).number ≡ Ok n → word_is_cost (typing names e).word ≡ false
  unfolding typing
  no_cost e n number =
      let out = exprs.fold_out-Expr Typing (typing_step names) e in
      let f = exprs.map-Expr Expr Typing (exprs.fold-Expr Typing (typing_step names)) (exprs.out-Expr e) in
      subst (λ (t : Typing). word_is_cost t.word ≡ false) (sym out) (step_no_cost f n (ap (λ (t : Typing). t.number) (sym out) ∙ number))

  abbrev cost_word : ℕ → Typing
  cost_word r = word_typing names r (codes "cost")

  abbrev join_by : JoinOp → Result Num TypeEnd → Result CostForm TypeEnd
  join_by op r = r >>= λ n. Ok (Joined op n)

  first_typed : (op : JoinOp) (p q r : ℕ) (e : Expr) (n : Num) → (typing names e).number ≡ Ok n → cost_typing names (form.List p (form.Word q (join_word op) ∷ form.Word r (codes "cost") ∷ e ∷ [])) ≡ Ok (Joined op n)
  unfolding cost_typing is_cost
  first_typed op p q r e n number =
      ap (cost_step names) (form.outs-List p (form.Word q (join_word op) ∷ form.Word r (codes "cost") ∷ e ∷ []))
      ∙ (λ i. cost_list (word_typed names q (join_word op) i ∷ word_typed names r (codes "cost") i ∷ typing names e ∷ []))
      ∙ ap (λ (o : Option JoinOp). joined_cost o (cost_word r) (typing names e)) (named op)
      ∙ ap (λ (test : Bool). join_by op (chosen test)) (no_cost e n number)
      ∙ ap (join_by op) number
    where
      chosen : Bool → Result Num TypeEnd
      chosen test = if test then Err (NoForm 0) else (typing names e).number

  second_typed : (op : JoinOp) (p q r : ℕ) (e : Expr) (n : Num) → (typing names e).number ≡ Ok n → cost_typing names (form.List p (form.Word q (join_word op) ∷ e ∷ form.Word r (codes "cost") ∷ [])) ≡ Ok (Joined op n)
  unfolding cost_typing is_cost
  second_typed op p q r e n number =
      ap (cost_step names) (form.outs-List p (form.Word q (join_word op) ∷ e ∷ form.Word r (codes "cost") ∷ []))
      ∙ (λ i. cost_list (word_typed names q (join_word op) i ∷ typing names e ∷ word_typed names r (codes "cost") i ∷ []))
      ∙ ap (λ (o : Option JoinOp). joined_cost o (typing names e) (cost_word r)) (named op)
      ∙ ap (λ (test : Bool). join_by op (chosen test)) (no_cost e n number)
      ∙ ap (join_by op) number
    where
      chosen : Bool → Result Num TypeEnd
      chosen test = if test then Err (NoForm 0) else (typing names e).number

  alone_typed : (p : ℕ) → cost_typing names (form.Word p (codes "cost")) ≡ Ok Bare
  unfolding cost_typing is_cost
  alone_typed p = ap (cost_step names) (form.outs-Word p (codes "cost"))

pub costs_law : LawCosts
costs_law = record { alone = alone_typed; first = first_typed; second = second_typed }
