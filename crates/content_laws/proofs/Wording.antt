-- A text with an expression, read step by step.
use Rattle.std.proofs.Common.{◌≡◌, ℕ, true, false, List, [], ◌∷◌, map, Option, Some, None, Result, Ok, Err, refl, sym, ap, ◌∙◌, subst}
use Rattle.std.specs.Prelude.{codes, pos}
use Rattle.std.specs.Char.{is_control}
use Rattle.std.specs.List.{list_any}
use Rattle.dp_base.specs.declared.place.Place.{Place}
use Rattle.dp_base.specs.Results.{◌>>=◌}
use Rattle.dp_model.specs.declared.parts.JoinOp.TheVariants.{Plus}
use Rattle.dp_model.specs.declared.parts.PlainState.{PlainState}
use Rattle.dp_model.specs.declared.trees.Compare.TheVariants.{Same}
use Rattle.dp_model.specs.declared.trees.Num.TheVariants as nums
use Rattle.dp_model.specs.declared.trees.Cond.{Cond}
use Rattle.dp_model.specs.declared.trees.Cond.TheVariants as conds
use Rattle.yaml_tree.specs.declared.tree.Tree.{Tree}
use Rattle.yaml_tree.specs.declared.tree.Tree.TheVariants as trees
use Rattle.yaml_tree.specs.Fields.{form_place, tree_place}
use Rattle.dypdl_expr.specs.Tokens.{Token, Open, Close, Word, tokens_from, tokens_of, has_control}
use Rattle.dypdl_expr.specs.Grammar.{Begins, Reads as IsRead}
use Rattle.dypdl_expr.specs.declared.expr.Expr.{Expr}
use Rattle.dypdl_expr.specs.declared.expr.Expr as exprs
use Rattle.dypdl_expr.specs.declared.expr.Expr.TheVariants as form
use Rattle.dypdl_expr.specs.declared.expr.ExprEnd.{ExprEnd}
use Rattle.dypdl_expr.proofs.Unique.{one_form, whole_apart}
use Rattle.dypdl_words.specs.Scopes.{Names}
use Rattle.dypdl_words.specs.Words.{begins_number, number_meaning, operator_named, is_cost, is_left_out, meaning as word_meaning, head_of}
use Rattle.dypdl_words.specs.Leaves.{number_word, word_holds_set}
use Rattle.dypdl_type.specs.Typing.{Typing, word_typing, list_typing, typing_step, typing, condition_list, condition_operator, comparison_of}
use Rattle.dypdl_nodes.specs.Reads.{Reads}
use Rattle.dypdl_nodes.specs.Scalars.{text_of}
use Rattle.dypdl_data.specs.Objects.{objects_of}
use Rattle.dypdl_data.specs.Variables.{variables_of}
use Rattle.dypdl_data.specs.Target.{target_of}
use Rattle.dypdl_data.specs.Cells.{tables_of}
use Rattle.dypdl_rules.specs.Declarations.{Declared, names_with}
use Rattle.dypdl_rules.specs.Expressions.{Reading, IsOutcome, IsReading, text_placed, type_placed, typed_by}
use Rattle.dypdl_rules.specs.Conditions.{condition_form, condition_within}
use Rattle.dypdl_rules.specs.Moves.{moves_of}
use Rattle.dypdl_rules.specs.BaseCases.{constraints_of, base_cases_of, bounds_of}
use Rattle.dypdl_load.specs.Settings.{Settings, settings_of}
use Rattle.dypdl_load.specs.Meaning.{in_domain, in_problem, declared_of, Data, data_of, Rules, rules_of, grounded_of, parts_with, meaning}
use Rattle.content_laws.specs.Worked.{word, quarry_variables, quarry_target, ladder_condition, ladder_base_cases, ladder_domain_entries, ladder_problem_entries, ladder_domain, ladder_problem, ladder}
use Rattle.content_laws.proofs.Working.{declared_made, rules_made, ascii_text, x}

-- ---- the expression

abbrev compared : Expr
compared = form.List 0 (form.Word 1 (codes "=") ∷ form.Word 3 (codes "x") ∷ form.Word 5 (codes "3") ∷ [])

abbrev cut : List Token
cut = Open 0 ∷ Word 1 (codes "=") ∷ Word 3 (codes "x") ∷ Word 5 (codes "3") ∷ Close 6 ∷ []

tokens_are : tokens_of ladder_condition ≡ cut
unfolding tokens_from
tokens_are = refl

no_control_equal : has_control (codes "=") ≡ false
no_control_equal = ap (list_any is_control) (ascii_text (codes "=") refl)

no_control_x : has_control (codes "x") ≡ false
no_control_x = ap (list_any is_control) x

no_control_three : has_control (codes "3") ≡ false
no_control_three = ap (list_any is_control) (ascii_text (codes "3") refl)

begins : Begins 200 cut compared []
begins = record {
  head = form.Word 1 (codes "=");
  others = form.Word 3 (codes "x") ∷ form.Word 5 (codes "3") ∷ [];
  behind = Word 3 (codes "x") ∷ Word 5 (codes "3") ∷ Close 6 ∷ [];
  end = 6;
  begins = ((no_control_equal, refl), refl);
  goes_on = (Word 5 (codes "3") ∷ Close 6 ∷ [], ((no_control_x, refl), refl), (Close 6 ∷ [], ((no_control_three, refl), refl), refl));
  whole = refl;
}

is_read : IsRead ladder_condition compared
is_read = subst (λ (ts : List Token). Begins 200 ts compared []) (sym tokens_are) begins

outcome : (r : Result Expr ExprEnd) → IsOutcome ladder_condition r → r ≡ Ok compared
outcome (Ok a) is = ap Ok ((one_form 200).same (tokens_of ladder_condition) a compared [] [] is is_read).expr
outcome (Err r) bad = absurd (whole_apart 200 (tokens_of ladder_condition) compared r is_read bad)

-- ---- its typing

abbrev ladder_names : Declared
ladder_names = record { objects = ladder.objects; variables = ladder.variables; tables = ladder.tables }

abbrev in_force : Names
in_force = names_with ladder_names []

abbrev test : Cond
test = conds.Numbers Same (nums.Var 0) (nums.Fixed (pos 3))

typed_word : (at : ℕ) (text : List ℕ) → typing in_force (form.Word at text) ≡ word_typing in_force at text
unfolding typing
typed_word at text =
    exprs.fold_out-Expr Typing (typing_step in_force) (form.Word at text)
    ∙ ap (λ (f : exprs.Expr-F Expr). typing_step in_force (exprs.map-Expr Expr Typing (exprs.fold-Expr Typing (typing_step in_force)) f)) (form.outs-Word at text)

typed_list : (at : ℕ) (items : List Expr) → typing in_force (form.List at items) ≡ list_typing in_force at (map (typing in_force) items)
unfolding typing
typed_list at items =
    exprs.fold_out-Expr Typing (typing_step in_force) (form.List at items)
    ∙ ap (λ (f : exprs.Expr-F Expr). typing_step in_force (exprs.map-Expr Expr Typing (exprs.fold-Expr Typing (typing_step in_force)) f)) (form.outs-List at items)

abbrev words_typed : List Typing
words_typed = word_typing in_force 1 (codes "=") ∷ word_typing in_force 3 (codes "x") ∷ word_typing in_force 5 (codes "3") ∷ []

items_typed : map (typing in_force) (form.Word 1 (codes "=") ∷ form.Word 3 (codes "x") ∷ form.Word 5 (codes "3") ∷ []) ≡ words_typed
items_typed = λ i. typed_word 1 (codes "=") i ∷ typed_word 3 (codes "x") i ∷ typed_word 5 (codes "3") i ∷ []

list_typed : (list_typing in_force 0 words_typed).condition ≡ Ok test
unfolding condition_list condition_operator comparison_of head_of operator_named word_meaning begins_number number_meaning is_cost is_left_out number_word word_holds_set
list_typed = refl

typed : (typing in_force compared).condition ≡ Ok test
typed =
    ap (λ (t : Typing). t.condition) (typed_list 0 (form.Word 1 (codes "=") ∷ form.Word 3 (codes "x") ∷ form.Word 5 (codes "3") ∷ []))
    ∙ ap (λ (ts : List Typing). (list_typing in_force 0 ts).condition) items_typed ∙ list_typed

-- ---- the texts

module _ (read : Reading) (at : Place) (is : IsReading read) where
  abbrev on_expression : Expr → Reads Cond
  on_expression e = type_placed at ((typing in_force e).condition)

  abbrev on_text : List ℕ → Reads Expr
  on_text text = text_placed at (read text)

  place_is : tree_place (word at ladder_condition) ≡ at
  place_is = ap form_place (trees.outs-Scalar at ladder_condition)

  text_is : text_of (word at ladder_condition) ≡ Ok ladder_condition
  text_is = simp (trees.outs-Scalar) refl

  typed_here : typed_by read (λ e. (typing in_force e).condition) (word at ladder_condition) ≡ Ok test
  typed_here =
      ap (λ (p : Place). (text_of (word at ladder_condition) >>= λ text. text_placed p (read text)) >>= λ e. type_placed p ((typing in_force e).condition)) place_is
      ∙ ap (λ (r : Reads (List ℕ)). (r >>= on_text) >>= on_expression) text_is
      ∙ ap (λ (r : Result Expr ExprEnd). text_placed at r >>= on_expression) (outcome (read ladder_condition) (is ladder_condition))
      ∙ ap (type_placed at) typed

  condition_read : condition_within read ladder_names 64 [] (word at ladder_condition) ≡ Ok test
  unfolding condition_within
  condition_read = ap (condition_form read ladder_names (condition_within read ladder_names 63) [] (word at ladder_condition)) (trees.outs-Scalar at ladder_condition) ∙ typed_here

  base_cases : base_cases_of read ladder_names (Some (ladder_base_cases at)) None ≡ Ok ladder.base_cases
  base_cases = simp (trees.outs-List, condition_read) refl

  abbrev ladder_settings : Settings
  ladder_settings = record {
    domain = record { entries = ladder_domain_entries at; needed = quarry_variables at };
    problem = record { entries = ladder_problem_entries at; needed = quarry_target at };
    domain_title = codes "-";
    problem_title = codes "-";
    minimize = true;
  }

  settings : settings_of (ladder_domain at) (ladder_problem at) ≡ Ok ladder_settings
  unfolding settings_of
  settings = simp (trees.outs-Scalar, trees.outs-Map) refl

  variables : variables_of [] (quarry_variables at) ≡ Ok ladder.variables
  unfolding begins_number operator_named is_cost is_left_out
  variables = simp (trees.outs-Scalar, trees.outs-List, trees.outs-Map, x) refl

  target : target_of [] ladder.variables (quarry_target at) ≡ Ok ladder.target
  target = simp (trees.outs-Scalar, trees.outs-Map) refl

  both_keys : {A : Type 0} (of : Option Tree → Option Tree → Reads A) (domain_key problem_key : List ℕ) (a b : Option Tree) → in_domain ladder_settings domain_key ≡ a → in_problem ladder_settings problem_key ≡ b
      → of (in_domain ladder_settings domain_key) (in_problem ladder_settings problem_key) ≡ of a b
  both_keys of domain_key problem_key a b is_a is_b = ap (λ (o : Option Tree). of o (in_problem ladder_settings problem_key)) is_a ∙ ap (of a) is_b

  declared : declared_of at ladder_settings ≡ Ok ladder_names
  declared =
      declared_made at ladder_settings ladder_names
      (both_keys (objects_of at) (codes "objects") (codes "object_numbers") None None (simp (trees.outs-Scalar) refl) (simp (trees.outs-Scalar) refl))
      variables
      (both_keys (tables_of [] ladder.variables) (codes "tables") (codes "table_values") None None (simp (trees.outs-Scalar) refl) (simp (trees.outs-Scalar) refl))

  abbrev on_target : Declared → PlainState → Reads Data
  on_target d t = Ok (record { declared = d; target = t })

  abbrev on_declared : Declared → Reads Data
  on_declared d = target_of d.objects d.variables (quarry_target at) >>= on_target d

  data_read : data_of at ladder_settings ≡ Ok (record { declared = ladder_names; target = ladder.target })
  unfolding data_of
  data_read = ap (λ (r : Reads Declared). r >>= on_declared) declared ∙ ap (λ (r : Reads PlainState). r >>= on_target ladder_names) target

  abbrev ladder_rules : Rules
  ladder_rules = record { moves = []; join = Plus; constraints = []; base_cases = ladder.base_cases; bounds = [] }

  rules : rules_of read at ladder_settings ladder_names ≡ Ok ladder_rules
  rules =
      rules_made read at ladder_settings ladder_names ladder_rules (record { conditions = test ∷ []; cost = nums.Fixed (pos 0) }) []
      (both_keys (moves_of read ladder_names) (codes "transitions") (codes "transitions") None None (simp (trees.outs-Scalar) refl) (simp (trees.outs-Scalar) refl))
      refl
      (both_keys (constraints_of read ladder_names) (codes "constraints") (codes "constraints") None None (simp (trees.outs-Scalar) refl) (simp (trees.outs-Scalar) refl))
      (both_keys (base_cases_of read ladder_names) (codes "base_cases") (codes "base_cases") (Some (ladder_base_cases at)) None (simp (trees.outs-Scalar) refl) (simp (trees.outs-Scalar) refl) ∙ base_cases)
      (both_keys (bounds_of read ladder_names) (codes "dual_bounds") (codes "dual_bounds") None None (simp (trees.outs-Scalar) refl) (simp (trees.outs-Scalar) refl))

  pub ladder_law : meaning read (ladder_domain at) (ladder_problem at) ≡ Ok ladder
  unfolding meaning
  ladder_law =
      ap (λ (r : Reads Settings). r >>= λ s. data_of (tree_place (ladder_problem at)) s >>= λ x. rules_of read (tree_place (ladder_domain at)) s x.declared >>= λ r. grounded_of x.declared r.moves >>= λ grounds. Ok (parts_with s x.declared x.target r grounds)) settings
      ∙ ap (λ (p : Place). data_of p ladder_settings >>= λ x. rules_of read (tree_place (ladder_domain at)) ladder_settings x.declared >>= λ r. grounded_of x.declared r.moves >>= λ grounds. Ok (parts_with ladder_settings x.declared x.target r grounds)) place_p
      ∙ ap (λ (r : Reads Data). r >>= λ x. rules_of read (tree_place (ladder_domain at)) ladder_settings x.declared >>= λ r. grounded_of x.declared r.moves >>= λ grounds. Ok (parts_with ladder_settings x.declared x.target r grounds)) data_read
      ∙ ap (λ (p : Place). rules_of read p ladder_settings ladder_names >>= λ r. grounded_of ladder_names r.moves >>= λ grounds. Ok (parts_with ladder_settings ladder_names ladder.target r grounds)) place_d
      ∙ ap (λ (r : Reads Rules). r >>= λ r. grounded_of ladder_names r.moves >>= λ grounds. Ok (parts_with ladder_settings ladder_names ladder.target r grounds)) rules
    where
      place_p : tree_place (ladder_problem at) ≡ at
      place_p = ap form_place (trees.outs-Map at (ladder_problem_entries at))

      place_d : tree_place (ladder_domain at) ≡ at
      place_d = ap form_place (trees.outs-Map at (ladder_domain_entries at))
