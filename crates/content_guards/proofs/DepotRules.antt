-- What the two files of the depot say of states and steps.
use Rattle.std.proofs.Common.{◌≡◌, ℕ, ◌-◌, suc, Bool, true, not, nat_le, List, [], ◌∷◌, ◌++◌, length, Option, Some, None, refl, ap, ◌∙◌, Ok}
use Rattle.std.specs.Prelude.{codes, pos}
use Rattle.std.specs.Str.{chars}
use Rattle.dp_base.specs.declared.place.Place.{Place}
use Rattle.dp_base.specs.Results.{◌>>=◌, each}
use Rattle.dp_model.specs.Typing.{kind_at}
use Rattle.dp_model.specs.declared.parts.JoinOp.TheVariants as joins
use Rattle.dp_model.specs.declared.parts.Effect.{Effect}
use Rattle.dp_model.specs.declared.parts.Effect.TheVariants as effects
use Rattle.dp_model.specs.declared.parts.BaseCase.{BaseCase}
use Rattle.dp_model.specs.declared.trees.Compare.TheVariants as comparisons
use Rattle.dp_model.specs.declared.trees.NumOp.TheVariants as operations
use Rattle.dp_model.specs.declared.trees.Over.{Over}
use Rattle.dp_model.specs.declared.trees.Over.TheVariants.{Object, Members}
use Rattle.dp_model.specs.declared.trees.Num.{Num}
use Rattle.dp_model.specs.declared.trees.Num.TheVariants as nums
use Rattle.dp_model.specs.declared.trees.SetEx.{SetEx}
use Rattle.dp_model.specs.declared.trees.SetEx.TheVariants as sets
use Rattle.dp_model.specs.declared.trees.Cond.{Cond}
use Rattle.dp_model.specs.declared.trees.Cond.TheVariants as conds
use Rattle.yaml_tree.specs.declared.tree.Tree.{Tree}
use Rattle.yaml_tree.specs.declared.tree.Tree.TheVariants as trees
use Rattle.yaml_tree.specs.Fields.{tree_place}
use Rattle.dypdl_words.specs.Words.{begins_number, operator_named, is_cost, is_left_out}
use Rattle.dypdl_words.specs.declared.scope.Param.{Param}
use Rattle.dypdl_type.specs.Typing.{typing, members_of, cost_typing}
use Rattle.dypdl_type.specs.declared.cost.CostForm.{CostForm}
use Rattle.dypdl_type.specs.declared.cost.CostForm.TheVariants.{Joined}
use Rattle.dypdl_expr.specs.Grammar.{Reads as IsRead}
use Rattle.dypdl_expr.specs.declared.expr.Expr.{Expr}
use Rattle.dypdl_expr.specs.declared.expr.Expr.TheVariants as form
use Rattle.dypdl_nodes.specs.Reads.{Reads, holds}
use Rattle.dypdl_nodes.specs.Shapes.{items_or_none}
use Rattle.dypdl_data.specs.Names.{known_key}
use Rattle.dypdl_data.specs.Variables.{variable_names}
use Rattle.dypdl_rules.specs.Expressions.{Reading, IsReading}
use Rattle.dypdl_rules.specs.Parameters.{params_of}
use Rattle.dypdl_rules.specs.Conditions.{Quantifier, quantifier_of, for_all, condition_form, condition_within, condition_of, conditions_of}
use Rattle.dypdl_rules.specs.Effects.{effect_on, sets_variable, effect_step, effects_of}
use Rattle.dypdl_rules.specs.BaseCases.{number_in, base_case_of, constraints_of, base_cases_of, bounds_of}
use Rattle.dypdl_rules.specs.Moves.{weighing, weighing_of, direction_of, body_of, move_of, in_both, moves_of}
use Rattle.dypdl_rules.specs.declared.transitions.Joining.{Joining}
use Rattle.dypdl_rules.specs.declared.transitions.Weighing.{Weighing}
use Rattle.dypdl_rules.specs.declared.transitions.Move.{Move}
use Rattle.content_laws.specs.Worked.{word, entry}
use Rattle.content_laws.proofs.Working.{ascii_text}
use Rattle.content_guards.specs.Depot.{ranging, for_each_entries, for_each, going, may_go, go_entries, go_item, first_case, waiting, wait_entries, wait_item, second_case, is_open, is_least, go, wait, depot}
use Rattle.content_guards.proofs.Wording.{listed, place_is, typed_text, condition_text, number_text}
use Rattle.content_guards.proofs.DepotData.{depot_names}
use Rattle.content_guards.proofs.DepotTexts as texts
use Rattle.content_guards.proofs.DepotTexts.{k, j_of, in_force}

k_name : chars (codes "k") ≡ codes "k"
k_name = ascii_text (codes "k") refl

j_name : chars (codes "j") ≡ codes "j"
j_name = ascii_text (codes "j") refl

go_name : chars (codes "go") ≡ codes "go"
go_name = ascii_text (codes "go") refl

wait_name : chars (codes "wait") ≡ codes "wait"
wait_name = ascii_text (codes "wait") refl

-- ---- one item in each file

module _ {A : Type 0} (at : Place) (of : Tree → Reads A) where
  abbrev one_more : List A → Tree → Reads (List A)
  one_more done item = of item >>= λ x. Ok (done ++ x ∷ [])

  abbrev on_second : List A → List Tree → Reads (List A)
  on_second done second = each one_more done second

  abbrev on_done : (most : ℕ) → Option Tree → List Tree → List A → Reads (List A)
  on_done most problem first done = items_or_none (most - length first) problem >>= on_second done

  abbrev on_first : (most : ℕ) → Option Tree → List Tree → Reads (List A)
  on_first most problem first = each one_more [] first >>= on_done most problem first

  items_are : (most : ℕ) (item : Tree) → nat_le 1 most ≡ true → items_or_none most (Some (trees.List at (item ∷ []))) ≡ Ok (item ∷ [])
  items_are most item few = simp (trees.outs-List, few) refl

  one_of : (done : List A) (item : Tree) (x : A) → of item ≡ Ok x → each one_more done (item ∷ []) ≡ Ok (done ++ x ∷ [])
  one_of done item x e = ap (λ (r : Reads A). (r >>= λ y. Ok (done ++ y ∷ [])) >>= λ t. Ok t) e

  -- the domain's item comes first
  pub one_in_each : (most : ℕ) (a b : Tree) (x y : A) → nat_le 1 most ≡ true → nat_le 1 (most - 1) ≡ true → of a ≡ Ok x → of b ≡ Ok y
      → in_both most one_more (Some (trees.List at (a ∷ []))) (Some (trees.List at (b ∷ []))) ≡ Ok (x ∷ y ∷ [])
  one_in_each most a b x y few more is_x is_y =
      ap (λ (r : Reads (List Tree)). r >>= on_first most (Some (trees.List at (b ∷ [])))) (items_are most a few)
      ∙ ap (λ (r : Reads (List A)). r >>= on_done most (Some (trees.List at (b ∷ []))) (a ∷ [])) (one_of [] a x is_x)
      ∙ ap (λ (r : Reads (List Tree)). r >>= on_second (x ∷ [])) (items_are (most - 1) b more)
      ∙ one_of (x ∷ []) b y is_y

-- ---- parts of the items

module _ (read : Reading) (at : Place) (is : IsReading read) where
  -- a condition for each choice
  pub for_each_read : (outer : List Param) (over condition : List ℕ) (ranges : Over) (c : Cond) (levels : ℕ) → quantifier_of depot_names at (for_each_entries at over condition) ≡ Ok (record { params = j_of ranges ∷ []; condition = word at condition })
      → condition_within read depot_names levels (outer ++ j_of ranges ∷ []) (word at condition) ≡ Ok c → condition_within read depot_names (suc levels) outer (for_each at over condition) ≡ Ok (conds.All ranges c)
  unfolding condition_within
  for_each_read outer over condition ranges c levels quantifies inner =
      ap (condition_form read depot_names (condition_within read depot_names levels) outer (for_each at over condition)) (trees.outs-Map at (for_each_entries at over condition))
      ∙ ap (λ (r : Reads Quantifier). r >>= λ q. condition_within read depot_names levels (outer ++ q.params) q.condition >>= λ c. Ok (for_all q.params c)) quantifies
      ∙ ap (λ (r : Reads Cond). r >>= λ c. Ok (for_all (j_of ranges ∷ []) c)) inner

  over_stops : quantifier_of depot_names at (for_each_entries at (codes "stop") (codes "(<= k j)")) ≡ Ok (record { params = j_of (Object 0) ∷ []; condition = word at (codes "(<= k j)") })
  unfolding begins_number operator_named is_cost is_left_out
  over_stops = simp (trees.outs-Scalar, trees.outs-List, trees.outs-Map, j_name) refl

  over_left : quantifier_of depot_names at (for_each_entries at (codes "left") (codes "(open j)")) ≡ Ok (record { params = j_of (Members 0) ∷ []; condition = word at (codes "(open j)") })
  unfolding begins_number operator_named is_cost is_left_out
  over_left = simp (trees.outs-Scalar, trees.outs-List, trees.outs-Map, j_name) refl

  params_k : params_of depot_names (Some (ranging at (codes "k") (codes "left"))) ≡ Ok (k ∷ [])
  unfolding begins_number operator_named is_cost is_left_out
  params_k = simp (trees.outs-Scalar, trees.outs-List, trees.outs-Map, k_name) refl

  stop_is_open : condition_of read depot_names (k ∷ []) (word at (codes "(open k)")) ≡ Ok is_open
  stop_is_open = condition_text read at is depot_names (k ∷ []) (codes "(open k)") (listed 0 texts.stop_k) is_open 63 texts.reads_stop_k texts.typed_stop_k

  stop_is_least : condition_of read depot_names (k ∷ []) (for_each at (codes "stop") (codes "(<= k j)")) ≡ Ok (conds.All (Object 0) is_least)
  stop_is_least =
      for_each_read (k ∷ []) (codes "stop") (codes "(<= k j)") (Object 0) is_least 63 over_stops
      (condition_text read at is depot_names (k ∷ j_of (Object 0) ∷ []) (codes "(<= k j)") (listed 0 texts.least) is_least 62 texts.reads_least texts.typed_least)

  preconditions : conditions_of read depot_names (k ∷ []) 256 (Some (may_go at)) ≡ Ok go.preconditions
  unfolding conditions_of
  preconditions = simp (trees.outs-List, stop_is_open, stop_is_least) refl

  -- ---- effects

  effect_made : (params : List Param) (done more : List Effect) (name : List ℕ) (tree : Tree) (v : ℕ) → known_key 30 (variable_names depot.variables) (word at name) ≡ Ok v → not (sets_variable v done) ≡ true
      → effect_on read depot_names params v tree (kind_at depot.variables v) ≡ Ok more → effect_step read depot_names params done (entry at name tree) ≡ Ok (done ++ more)
  unfolding effect_step
  effect_made params done more name tree v known fresh on =
      ap (λ (r : Reads ℕ). r >>= λ v. holds (not (sets_variable v done)) 43 (tree_place (word at name)) >>= λ fresh. effect_on read depot_names params v tree (kind_at depot.variables v) >>= behind) known
      ∙ ap (λ (b : Bool). holds b 43 (tree_place (word at name)) >>= λ fresh. effect_on read depot_names params v tree (kind_at depot.variables v) >>= behind) fresh
      ∙ ap (λ (r : Reads (List Effect)). r >>= behind) on
    where
      behind : List Effect → Reads (List Effect)
      behind more = Ok (done ++ more)

  left_set : effect_step read depot_names (k ∷ []) [] (entry at (codes "left") (word at (codes "(remove k left)"))) ≡ Ok (effects.Members 0 (sets.Without (nums.Param 0) (sets.Var 0)) ∷ [])
  left_set =
      effect_made (k ∷ []) [] (effects.Members 0 (sets.Without (nums.Param 0) (sets.Var 0)) ∷ []) (codes "left") (word at (codes "(remove k left)")) 0 (simp (trees.outs-Scalar) refl) refl
      (ap (λ (r : Reads SetEx). r >>= λ s. Ok (effects.Members 0 s ∷ []))
      (typed_text read at is (λ e. members_of 0 (typing (in_force (k ∷ [])) e)) (codes "(remove k left)") (listed 0 texts.removed) (sets.Without (nums.Param 0) (sets.Var 0)) texts.reads_removed texts.typed_removed))

  here_set : effect_step read depot_names (k ∷ []) (effects.Members 0 (sets.Without (nums.Param 0) (sets.Var 0)) ∷ []) (entry at (codes "here") (word at (codes "k"))) ≡ Ok go.effects
  here_set =
      effect_made (k ∷ []) (effects.Members 0 (sets.Without (nums.Param 0) (sets.Var 0)) ∷ []) (effects.Number 1 (nums.Param 0) ∷ []) (codes "here") (word at (codes "k")) 1 (simp (trees.outs-Scalar) refl) refl
      (ap (λ (r : Reads Num). r >>= λ n. Ok (effects.Number 1 n ∷ []))
      (typed_text read at is (λ e. (typing (in_force (k ∷ [])) e).number) (codes "k") (form.Word 0 (codes "k")) (nums.Param 0) texts.reads_k texts.typed_k))

  time_set : effect_step read depot_names [] [] (entry at (codes "time") (word at (codes "(+ time 1)"))) ≡ Ok wait.effects
  time_set =
      effect_made [] [] wait.effects (codes "time") (word at (codes "(+ time 1)")) 2 (simp (trees.outs-Scalar) refl) refl
      (ap (λ (r : Reads Num). r >>= λ n. Ok (effects.Number 2 n ∷ []))
      (typed_text read at is (λ e. (typing (in_force []) e).number) (codes "(+ time 1)") (listed 0 texts.later) later texts.reads_later texts.typed_later))
    where
      later : Num
      later = nums.Op operations.Plus (nums.Var 2) (nums.Fixed (pos 1))

  go_effects : effects_of read depot_names (k ∷ []) (Some (going at)) ≡ Ok go.effects
  unfolding effects_of
  go_effects = simp (trees.outs-Map, left_set, here_set) refl

  wait_effects : effects_of read depot_names [] (Some (waiting at)) ≡ Ok wait.effects
  unfolding effects_of
  wait_effects = simp (trees.outs-Map, time_set) refl

  -- ---- costs

  abbrev weighed : Num → Weighing
  weighed n = record { weight = Some n; joining = Some (record { op = joins.Most; place = at }) }

  weight_made : (params : List Param) (text : List ℕ) (e : Expr) (n : Num) → IsRead text e → cost_typing (in_force params) e ≡ Ok (Joined joins.Most n) → weighing_of read depot_names params (Some (word at text)) ≡ Ok (weighed n)
  unfolding weighing_of
  weight_made params text e n reads types =
      ap (λ (r : Reads CostForm). r >>= λ form. Ok (weighing (tree_place (word at text)) form)) (typed_text read at is (cost_typing (in_force params)) text e (Joined joins.Most n) reads types)
      ∙ ap (λ (p : Place). Ok (weighing p (Joined joins.Most n))) (place_is at text)

  go_weight : weighing_of read depot_names (k ∷ []) (Some (word at (codes "(max cost k)"))) ≡ Ok (weighed (nums.Param 0))
  go_weight = weight_made (k ∷ []) (codes "(max cost k)") (listed 0 texts.cost_of_k) (nums.Param 0) texts.reads_cost_of_k texts.typed_cost_of_k

  wait_weight : weighing_of read depot_names [] (Some (word at (codes "(max 7 cost)"))) ≡ Ok (weighed (nums.Fixed (pos 7)))
  wait_weight = weight_made [] (codes "(max 7 cost)") (listed 0 texts.cost_of_seven) (nums.Fixed (pos 7)) texts.reads_cost_of_seven texts.typed_cost_of_seven

  -- ---- transitions

  abbrev joined : Option Joining
  joined = Some (record { op = joins.Most; place = at })

  go_body : body_of read depot_names (codes "go") (k ∷ []) (go_entries at) ≡ Ok (record { transition = go; joining = joined })
  unfolding body_of direction_of
  go_body = simp (trees.outs-Scalar, preconditions, go_effects, go_weight) refl

  none_asked : conditions_of read depot_names [] 256 None ≡ Ok []
  unfolding conditions_of
  none_asked = refl

  wait_body : body_of read depot_names (codes "wait") [] (wait_entries at) ≡ Ok (record { transition = wait; joining = joined })
  unfolding body_of direction_of
  wait_body = simp (trees.outs-Scalar, none_asked, wait_effects, wait_weight) refl

  abbrev pub go_move : Move
  go_move = record { transition = go; joining = joined; place = at }

  abbrev pub wait_move : Move
  wait_move = record { transition = wait; joining = joined; place = at }

  go_read : move_of read depot_names (go_item at) ≡ Ok go_move
  unfolding move_of
  go_read = simp (trees.outs-Scalar, trees.outs-Map, go_name, params_k, go_body) refl

  wait_read : move_of read depot_names (wait_item at) ≡ Ok wait_move
  unfolding move_of
  wait_read = simp (trees.outs-Scalar, trees.outs-Map, wait_name, wait_body) refl

  pub moves : moves_of read depot_names (Some (trees.List at (go_item at ∷ []))) (Some (trees.List at (wait_item at ∷ []))) ≡ Ok (go_move ∷ wait_move ∷ [])
  moves = one_in_each at (move_of read depot_names) 65536 (go_item at) (wait_item at) go_move wait_move refl refl go_read wait_read

  -- ---- constraints, base cases and bounds

  in_time : condition_of read depot_names [] (word at (codes "(>= time 0)")) ≡ Ok (conds.Numbers comparisons.AtLeast (nums.Var 2) (nums.Fixed (pos 0)))
  in_time = condition_text read at is depot_names [] (codes "(>= time 0)") (listed 0 texts.in_time) (conds.Numbers comparisons.AtLeast (nums.Var 2) (nums.Fixed (pos 0))) 63 texts.reads_in_time texts.typed_in_time

  all_open : condition_of read depot_names [] (for_each at (codes "left") (codes "(open j)")) ≡ Ok (conds.All (Members 0) is_open)
  all_open =
      for_each_read [] (codes "left") (codes "(open j)") (Members 0) is_open 63 over_left
      (condition_text read at is depot_names (j_of (Members 0) ∷ []) (codes "(open j)") (listed 0 texts.stop_j) is_open 62 texts.reads_stop_j texts.typed_stop_j)

  pub constraints : constraints_of read depot_names (Some (trees.List at (word at (codes "(>= time 0)") ∷ []))) (Some (trees.List at (for_each at (codes "left") (codes "(open j)") ∷ []))) ≡ Ok depot.constraints
  constraints =
      one_in_each at (condition_of read depot_names []) 65536 (word at (codes "(>= time 0)")) (for_each at (codes "left") (codes "(open j)"))
      (conds.Numbers comparisons.AtLeast (nums.Var 2) (nums.Fixed (pos 0))) (conds.All (Members 0) is_open) refl refl in_time all_open

  abbrev free : BaseCase
  free = record { conditions = conds.Empty (sets.Var 0) ∷ []; cost = nums.Fixed (pos 0) }

  abbrev dear : BaseCase
  dear = record { conditions = conds.Numbers comparisons.Same (nums.Var 1) (nums.Fixed (pos 0)) ∷ []; cost = nums.Fixed (pos 3) }

  none_left : condition_of read depot_names [] (word at (codes "(is_empty left)")) ≡ Ok (conds.Empty (sets.Var 0))
  none_left = condition_text read at is depot_names [] (codes "(is_empty left)") (listed 0 texts.none_left) (conds.Empty (sets.Var 0)) 63 texts.reads_none_left texts.typed_none_left

  at_home : condition_of read depot_names [] (word at (codes "(= here 0)")) ≡ Ok (conds.Numbers comparisons.Same (nums.Var 1) (nums.Fixed (pos 0)))
  at_home = condition_text read at is depot_names [] (codes "(= here 0)") (listed 0 texts.at_home) (conds.Numbers comparisons.Same (nums.Var 1) (nums.Fixed (pos 0))) 63 texts.reads_at_home texts.typed_at_home

  three : number_in read depot_names (word at (codes "3")) ≡ Ok (nums.Fixed (pos 3))
  three = number_text read at is depot_names (codes "3") (form.Word 0 (codes "3")) (nums.Fixed (pos 3)) texts.reads_three texts.typed_three

  free_read : base_case_of read depot_names (first_case at) ≡ Ok free
  free_read = simp (trees.outs-List, none_left) refl

  dear_read : base_case_of read depot_names (second_case at) ≡ Ok dear
  dear_read = simp (trees.outs-Scalar, trees.outs-List, trees.outs-Map, at_home, three) refl

  pub base_cases : base_cases_of read depot_names (Some (trees.List at (first_case at ∷ []))) (Some (trees.List at (second_case at ∷ []))) ≡ Ok depot.base_cases
  base_cases = one_in_each at (base_case_of read depot_names) 65536 (first_case at) (second_case at) free dear refl refl free_read dear_read

  time : number_in read depot_names (word at (codes "time")) ≡ Ok (nums.Var 2)
  time = number_text read at is depot_names (codes "time") (form.Word 0 (codes "time")) (nums.Var 2) texts.reads_time texts.typed_time

  four : number_in read depot_names (word at (codes "4")) ≡ Ok (nums.Fixed (pos 4))
  four = number_text read at is depot_names (codes "4") (form.Word 0 (codes "4")) (nums.Fixed (pos 4)) texts.reads_four texts.typed_four

  pub bounds : bounds_of read depot_names (Some (trees.List at (word at (codes "time") ∷ []))) (Some (trees.List at (word at (codes "4") ∷ []))) ≡ Ok depot.bounds
  bounds = one_in_each at (number_in read depot_names) 1024 (word at (codes "time")) (word at (codes "4")) (nums.Var 2) (nums.Fixed (pos 4)) refl refl time four
