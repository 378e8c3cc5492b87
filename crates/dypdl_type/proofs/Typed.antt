-- Every tree that typing gives is well typed.
use Rattle.std.proofs.Common.{◌≡◌, ℕ, List, [], ◌∷◌, length, map, Option, Some, None, Result, Ok, Err, IfOk, IsTrue, refl, sym, subst}
use Rattle.std.proofs.lemmas.Result.{IfOk-at_ok}
use Rattle.dp_model.specs.declared.parts.ObjectType.{ObjectType}
use Rattle.dp_model.specs.declared.parts.Variable.{Variable}
use Rattle.dp_model.specs.declared.parts.TableData.{TableData}
use Rattle.dp_model.specs.declared.parts.JoinOp.{JoinOp}
use Rattle.dp_model.specs.declared.trees.Num.{Num}
use Rattle.dp_model.specs.declared.trees.SetEx.{SetEx}
use Rattle.dp_model.specs.declared.trees.Cond.{Cond}
use Rattle.dypdl_expr.specs.declared.expr.Expr.{Expr}
use Rattle.dypdl_expr.specs.declared.expr.Expr as exprs
use Rattle.dypdl_words.specs.declared.ends.TypeEnd.{TypeEnd}
use Rattle.dypdl_type.specs.declared.cost.CostForm.{CostForm}
use Rattle.dp_base.specs.Results.{Answers}
use Rattle.dypdl_words.specs.Ends.{told}
use Rattle.dypdl_words.specs.Scopes.{Names}
use Rattle.dypdl_words.specs.Words.{Head, meaning, head_of, is_cost}
use Rattle.dypdl_type.specs.Fitting.{is_cost_form}
use Rattle.dypdl_type.specs.Typing.{Typing, refused, word_typing, headed_typing, head_typing, list_typing, bars_typing, typing_step, typing, join_named, word_is_cost, weight_of, joined_cost, headed_cost, cost_list, cost_step, cost_typing}
use Rattle.dypdl_type.proofs.Trees.{Each, IsNum, IsSetOf, IsCond, num_size}
use Rattle.dypdl_type.proofs.Meanings.{either_way, meaning_fits, HeadFits, head_fits}
use Rattle.dypdl_type.proofs.Sound.{and_then, NumFits, SetFits, Sound, wanted_set, number_word_fits, members_word_fits, condition_word_fits}
use Rattle.dypdl_type.proofs.Numbers.{number_list_fits}
use Rattle.dypdl_type.proofs.Sets.{members_list_fits}
use Rattle.dypdl_type.proofs.Conditions.{condition_list_fits}

module _ (os : List ObjectType) (names : Names) where
  abbrev vs : List Variable
  vs = names.variables

  abbrev ts : List TableData
  ts = names.tables

  abbrev given : ℕ
  given = length names.params

  abbrev IsSound : Typing → Type 0
  IsSound x = Sound os vs ts given x

  -- ---- one step

  refused_sound : (at : ℕ) (e : TypeEnd) → IsSound (refused at e)
  refused_sound at e = record { number = tt; members = λ wanted. tt; condition = tt }

  word_sound : (at : ℕ) (word : List ℕ) → IsSound (word_typing names at word)
  word_sound at word =
      let fit = meaning_fits names word in
      record {
        number = number_word_fits os vs ts given at (meaning names word) fit;
        members = λ wanted. members_word_fits os vs ts given at wanted (meaning names word) fit;
        condition = condition_word_fits os vs ts given at (meaning names word) fit;
      }

  headed_sound : (at : ℕ) (head : Head) (xs : List Typing) → HeadFits vs ts head → Each IsSound xs → IsSound (headed_typing names at head xs)
  headed_sound at head xs fit h = record {
    number = number_list_fits os vs ts given names (meaning_fits names) at head xs fit h;
    members = λ wanted. members_list_fits os vs ts given at wanted head xs fit h;
    condition = condition_list_fits os vs ts given at head xs fit h;
  }

  head_sound : (at : ℕ) (word : Option (List ℕ)) (xs : List Typing) → Each IsSound xs → IsSound (head_typing names at word xs)
  head_sound at (Some word) xs h = headed_sound at (head_of names word) xs (head_fits names word) h
  head_sound at None xs h = refused_sound at _

  list_sound : (at : ℕ) (xs : List Typing) → Each IsSound xs → IsSound (list_typing names at xs)
  list_sound at [] h = refused_sound at _
  list_sound at (x ∷ xs) h = head_sound at x.word xs h.1

  bars_sound : (at : ℕ) (x : Typing) → IsSound x → IsSound (bars_typing at x)
  bars_sound at x h = record {
    number = and_then (SetFits os vs ts given None) (NumFits os vs ts given) (x.members None) _ (h.members None) (λ s p. num_size os vs ts given s.0 s.1 p.0);
    members = λ wanted. tt;
    condition = tt;
  }

  -- ---- the fold

  -- an expression of which it is known
  abbrev Known : Type 0
  Known = (e : Expr) × IsSound (typing names e)

  abbrev below : exprs.Expr-F Known → exprs.Expr-F Expr
  below y = exprs.map-Expr Known Expr (λ e. e.0) y

  all_sound : (items : List Known) → Each IsSound (map (typing names) (map (λ (e : Known). e.0) items))
  all_sound [] = tt
  all_sound (x ∷ items) = (x.1, all_sound items)

  step_sound : (y : exprs.Expr-F Known) → IsSound (typing_step names (exprs.map-Expr Expr Typing (typing names) (below y)))
  step_sound (exprs.Expr-F.Word at word) = word_sound at word
  step_sound (exprs.Expr-F.List at items) = list_sound at (map (typing names) (map (λ (e : Known). e.0) items)) (all_sound items)
  step_sound (exprs.Expr-F.Bars at x) = bars_sound at (typing names x.0) x.1

  rolled_sound : (y : exprs.Expr-F Known) → IsSound (typing names (exprs.roll-Expr (below y)))
  unfolding typing
  rolled_sound y = subst (λ (x : Typing). IsSound x) (sym (exprs.fold-roll-Expr Typing (typing_step names) (below y))) (step_sound y)

  form_sound : (x : exprs.Expr-F Expr) (y : exprs.Expr-F Known) → below y ≡ x → IsSound (typing names (exprs.roll-Expr x))
  form_sound x y is = subst (λ (z : exprs.Expr-F Expr). IsSound (typing names (exprs.roll-Expr z))) is (rolled_sound y)

  typing_sound : (e : Expr) → IsSound (typing names e)
  typing_sound = exprs.ind-Expr (λ (e : Expr). IsSound (typing names e)) form_sound

  -- ---- cost expressions

  abbrev CostFits : CostForm → Type 0
  CostFits c = IsTrue (is_cost_form os vs ts c given)

  abbrev NumResult : Result Num TypeEnd → Type 0
  NumResult r = IfOk r (NumFits os vs ts given)

  weight_fits : (a b : Typing) → IsSound a → IsSound b → NumResult (weight_of a b)
  weight_fits a b h k =
      either_way NumResult (word_is_cost a.word) _ _
      (either_way NumResult (word_is_cost b.word) _ _ tt k.number)
      (either_way NumResult (word_is_cost b.word) _ _ h.number tt)

  joined_cost_fits : (op : Option JoinOp) (a b : Typing) → IsSound a → IsSound b → IfOk (joined_cost op a b) CostFits
  joined_cost_fits (Some op) a b h k = and_then (NumFits os vs ts given) CostFits (weight_of a b) _ (weight_fits a b h k) (λ n p. p)
  joined_cost_fits None a b h k = tt

  headed_cost_fits : (word : Option (List ℕ)) (a b : Typing) → IsSound a → IsSound b → IfOk (headed_cost word a b) CostFits
  headed_cost_fits (Some word) a b h k = joined_cost_fits (join_named word) a b h k
  headed_cost_fits None a b h k = tt

  cost_list_fits : (xs : List Typing) → Each IsSound xs → IfOk (cost_list xs) CostFits
  cost_list_fits (head ∷ a ∷ b ∷ []) h = headed_cost_fits head.word a b h.1.0 h.1.1.0
  cost_list_fits others h = tt

  each_sound : (items : List Expr) → Each IsSound (map (typing names) items)
  each_sound [] = tt
  each_sound (e ∷ items) = (typing_sound e, each_sound items)

  cost_step_fits : (form : exprs.Expr-F Expr) → IfOk (cost_step names form) CostFits
  cost_step_fits (exprs.Expr-F.Word at word) = either_way (λ (r : Result CostForm TypeEnd). IfOk r CostFits) (is_cost word) _ _ refl tt
  cost_step_fits (exprs.Expr-F.List at items) = cost_list_fits (map (typing names) items) (each_sound items)
  cost_step_fits (exprs.Expr-F.Bars at x) = tt

  cost_fits : (e : Expr) → IfOk (cost_typing names e) CostFits
  unfolding cost_typing
  cost_fits e = cost_step_fits (exprs.out-Expr e)

-- ---- what a call answers

given_fits : {A : Type 0} (P : A → Type 0) (result r : Result A TypeEnd) → Answers told result r → IfOk r P → IfOk result P
given_fits P (Ok x) r gives h = IfOk-at_ok P gives h
given_fits P (Err e) r gives h = tt

-- over each list of object types
for_all : {A : Type 0} (P : List ObjectType → A → Type 0) (result r : Result A TypeEnd) → Answers told result r
    → ((os : List ObjectType) → IfOk r (P os)) → IfOk result (λ x. (os : List ObjectType) → P os x)
for_all P (Ok x) r gives h = λ os. given_fits (P os) (Ok x) r gives (h os)
for_all P (Err e) r gives h = tt

-- a number's tree, well typed with these names
abbrev pub NumWith : Names → List ObjectType → Num → Type 0
NumWith names os n = IsNum os names.variables names.tables (length names.params) n

abbrev pub SetWith : Names → (object : ℕ) → List ObjectType → SetEx → Type 0
SetWith names object os s = IsSetOf os names.variables names.tables (length names.params) object s

abbrev pub CondWith : Names → List ObjectType → Cond → Type 0
CondWith names os c = IsCond os names.variables names.tables (length names.params) c

abbrev pub CostWith : Names → List ObjectType → CostForm → Type 0
CostWith names os c = IsTrue (is_cost_form os names.variables names.tables c (length names.params))

pub number_typed : (names : Names) (e : Expr) (result : Result Num TypeEnd) → Answers told result (typing names e).number
    → IfOk result (λ n. (os : List ObjectType) → NumWith names os n)
number_typed names e result gives = for_all (NumWith names) result (typing names e).number gives (λ os. (typing_sound os names e).number)

pub set_typed : (names : Names) (object : ℕ) (e : Expr) (s : ℕ × SetEx) → (typing names e).members (Some object) ≡ Ok s
    → (os : List ObjectType) → SetWith names object os s.1
set_typed names object e s is os =
    wanted_set os names.variables names.tables (length names.params) object s
    (IfOk-at_ok (SetFits os names.variables names.tables (length names.params) (Some object)) is ((typing_sound os names e).members (Some object)))

pub condition_typed : (names : Names) (e : Expr) (result : Result Cond TypeEnd) → Answers told result (typing names e).condition
    → IfOk result (λ c. (os : List ObjectType) → CondWith names os c)
condition_typed names e result gives = for_all (CondWith names) result (typing names e).condition gives (λ os. (typing_sound os names e).condition)

pub cost_typed : (names : Names) (e : Expr) (result : Result CostForm TypeEnd) → Answers told result (cost_typing names e)
    → IfOk result (λ c. (os : List ObjectType) → CostWith names os c)
cost_typed names e result gives = for_all (CostWith names) result (cost_typing names e) gives (λ os. cost_fits os names e)
