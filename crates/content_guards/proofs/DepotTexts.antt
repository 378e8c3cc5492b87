-- The expressions of the depot's files, each read and typed in its place.
use Rattle.std.proofs.Common.{◌≡◌, List, [], ◌∷◌, refl, ap, ◌∙◌, Ok}
use Rattle.std.specs.Prelude.{codes, pos}
use Rattle.dp_model.specs.declared.parts.JoinOp.TheVariants as joins
use Rattle.dp_model.specs.declared.trees.Compare.TheVariants as comparisons
use Rattle.dp_model.specs.declared.trees.NumOp.TheVariants as operations
use Rattle.dp_model.specs.declared.trees.Over.{Over}
use Rattle.dp_model.specs.declared.trees.Over.TheVariants.{Object, Members}
use Rattle.dp_model.specs.declared.trees.Num.TheVariants as nums
use Rattle.dp_model.specs.declared.trees.SetEx.TheVariants as sets
use Rattle.dp_model.specs.declared.trees.Cond.{Cond}
use Rattle.dp_model.specs.declared.trees.Cond.TheVariants as conds
use Rattle.dypdl_expr.specs.Tokens.{tokens_from}
use Rattle.dypdl_expr.specs.Grammar.{Reads as IsRead}
use Rattle.dypdl_expr.specs.declared.expr.Expr.TheVariants as form
use Rattle.dypdl_words.specs.Scopes.{Names}
use Rattle.dypdl_words.specs.Words.{begins_number, number_meaning, operator_named, is_cost, is_left_out, meaning, head_of}
use Rattle.dypdl_words.specs.Leaves.{number_word, members_word, word_holds_set}
use Rattle.dypdl_words.specs.declared.scope.Param.{Param}
use Rattle.dypdl_type.specs.Typing.{Typing, typing, word_typing, list_typing, members_of, cost_list, cost_typing, number_list, number_operator, members_list, members_operator, condition_list, condition_operator, comparison_of, set_test}
use Rattle.dypdl_type.specs.declared.cost.CostForm.TheVariants.{Joined}
use Rattle.dypdl_rules.specs.Declarations.{names_with}
use Rattle.content_guards.specs.Depot.{is_open, is_least}
use Rattle.content_guards.proofs.Wording.{Placed, listed, list_read, word_read, word_typed, typings, listed_typed, cost_typed}
use Rattle.content_guards.proofs.DepotData.{depot_names}

-- ---- parameters

abbrev pub k : Param
k = record { name = codes "k"; over = Members 0 }

abbrev pub j_of : Over → Param
j_of over = record { name = codes "j"; over = over }

abbrev pub in_force : List Param → Names
in_force params = names_with depot_names params

-- ---- words

abbrev pub stop_k : List Placed
stop_k = (1, codes "open") ∷ (6, codes "k") ∷ []

abbrev pub stop_j : List Placed
stop_j = (1, codes "open") ∷ (6, codes "j") ∷ []

abbrev pub least : List Placed
least = (1, codes "<=") ∷ (4, codes "k") ∷ (6, codes "j") ∷ []

abbrev pub removed : List Placed
removed = (1, codes "remove") ∷ (8, codes "k") ∷ (10, codes "left") ∷ []

abbrev pub cost_of_k : List Placed
cost_of_k = (1, codes "max") ∷ (5, codes "cost") ∷ (10, codes "k") ∷ []

abbrev pub later : List Placed
later = (1, codes "+") ∷ (3, codes "time") ∷ (8, codes "1") ∷ []

abbrev pub cost_of_seven : List Placed
cost_of_seven = (1, codes "max") ∷ (5, codes "7") ∷ (7, codes "cost") ∷ []

abbrev pub in_time : List Placed
in_time = (1, codes ">=") ∷ (4, codes "time") ∷ (9, codes "0") ∷ []

abbrev pub none_left : List Placed
none_left = (1, codes "is_empty") ∷ (10, codes "left") ∷ []

abbrev pub at_home : List Placed
at_home = (1, codes "=") ∷ (3, codes "here") ∷ (8, codes "0") ∷ []

-- ---- reading

pub reads_stop_k : IsRead (codes "(open k)") (listed 0 stop_k)
unfolding tokens_from
reads_stop_k = list_read (codes "(open k)") 0 7 (1, codes "open") ((6, codes "k") ∷ []) refl refl

pub reads_stop_j : IsRead (codes "(open j)") (listed 0 stop_j)
unfolding tokens_from
reads_stop_j = list_read (codes "(open j)") 0 7 (1, codes "open") ((6, codes "j") ∷ []) refl refl

pub reads_least : IsRead (codes "(<= k j)") (listed 0 least)
unfolding tokens_from
reads_least = list_read (codes "(<= k j)") 0 7 (1, codes "<=") ((4, codes "k") ∷ (6, codes "j") ∷ []) refl refl

pub reads_removed : IsRead (codes "(remove k left)") (listed 0 removed)
unfolding tokens_from
reads_removed = list_read (codes "(remove k left)") 0 14 (1, codes "remove") ((8, codes "k") ∷ (10, codes "left") ∷ []) refl refl

pub reads_cost_of_k : IsRead (codes "(max cost k)") (listed 0 cost_of_k)
unfolding tokens_from
reads_cost_of_k = list_read (codes "(max cost k)") 0 11 (1, codes "max") ((5, codes "cost") ∷ (10, codes "k") ∷ []) refl refl

pub reads_later : IsRead (codes "(+ time 1)") (listed 0 later)
unfolding tokens_from
reads_later = list_read (codes "(+ time 1)") 0 9 (1, codes "+") ((3, codes "time") ∷ (8, codes "1") ∷ []) refl refl

pub reads_cost_of_seven : IsRead (codes "(max 7 cost)") (listed 0 cost_of_seven)
unfolding tokens_from
reads_cost_of_seven = list_read (codes "(max 7 cost)") 0 11 (1, codes "max") ((5, codes "7") ∷ (7, codes "cost") ∷ []) refl refl

pub reads_in_time : IsRead (codes "(>= time 0)") (listed 0 in_time)
unfolding tokens_from
reads_in_time = list_read (codes "(>= time 0)") 0 10 (1, codes ">=") ((4, codes "time") ∷ (9, codes "0") ∷ []) refl refl

pub reads_none_left : IsRead (codes "(is_empty left)") (listed 0 none_left)
unfolding tokens_from
reads_none_left = list_read (codes "(is_empty left)") 0 14 (1, codes "is_empty") ((10, codes "left") ∷ []) refl refl

pub reads_at_home : IsRead (codes "(= here 0)") (listed 0 at_home)
unfolding tokens_from
reads_at_home = list_read (codes "(= here 0)") 0 9 (1, codes "=") ((3, codes "here") ∷ (8, codes "0") ∷ []) refl refl

pub reads_k : IsRead (codes "k") (form.Word 0 (codes "k"))
unfolding tokens_from
reads_k = word_read (codes "k") 0 refl refl

pub reads_time : IsRead (codes "time") (form.Word 0 (codes "time"))
unfolding tokens_from
reads_time = word_read (codes "time") 0 refl refl

pub reads_three : IsRead (codes "3") (form.Word 0 (codes "3"))
unfolding tokens_from
reads_three = word_read (codes "3") 0 refl refl

pub reads_four : IsRead (codes "4") (form.Word 0 (codes "4"))
unfolding tokens_from
reads_four = word_read (codes "4") 0 refl refl

-- ---- typing of conditions

abbrev Holds : List Param → List Placed → Cond → Type 0
Holds params ws c = (list_typing (in_force params) 0 (typings (in_force params) ws)).condition ≡ Ok c

condition_of : (params : List Param) (ws : List Placed) (c : Cond) → Holds params ws c → (typing (in_force params) (listed 0 ws)).condition ≡ Ok c
condition_of params ws c e = ap (λ (t : Typing). t.condition) (listed_typed (in_force params) 0 ws) ∙ e

computed_stop_k : Holds (k ∷ []) stop_k is_open
unfolding condition_list head_of operator_named meaning begins_number number_meaning is_cost is_left_out number_word
computed_stop_k = refl

pub typed_stop_k : (typing (in_force (k ∷ [])) (listed 0 stop_k)).condition ≡ Ok is_open
typed_stop_k = condition_of (k ∷ []) stop_k is_open computed_stop_k

computed_stop_j : Holds (j_of (Members 0) ∷ []) stop_j is_open
unfolding condition_list head_of operator_named meaning begins_number number_meaning is_cost is_left_out number_word
computed_stop_j = refl

pub typed_stop_j : (typing (in_force (j_of (Members 0) ∷ [])) (listed 0 stop_j)).condition ≡ Ok is_open
typed_stop_j = condition_of (j_of (Members 0) ∷ []) stop_j is_open computed_stop_j

computed_least : Holds (k ∷ j_of (Object 0) ∷ []) least is_least
unfolding condition_list condition_operator comparison_of head_of operator_named meaning begins_number number_meaning is_cost is_left_out number_word word_holds_set
computed_least = refl

pub typed_least : (typing (in_force (k ∷ j_of (Object 0) ∷ [])) (listed 0 least)).condition ≡ Ok is_least
typed_least = condition_of (k ∷ j_of (Object 0) ∷ []) least is_least computed_least

computed_in_time : Holds [] in_time (conds.Numbers comparisons.AtLeast (nums.Var 2) (nums.Fixed (pos 0)))
unfolding condition_list condition_operator comparison_of head_of operator_named meaning begins_number number_meaning is_cost is_left_out number_word word_holds_set
computed_in_time = refl

pub typed_in_time : (typing (in_force []) (listed 0 in_time)).condition ≡ Ok (conds.Numbers comparisons.AtLeast (nums.Var 2) (nums.Fixed (pos 0)))
typed_in_time = condition_of [] in_time (conds.Numbers comparisons.AtLeast (nums.Var 2) (nums.Fixed (pos 0))) computed_in_time

computed_none_left : Holds [] none_left (conds.Empty (sets.Var 0))
unfolding condition_list condition_operator set_test head_of operator_named meaning begins_number number_meaning is_cost is_left_out members_word
computed_none_left = refl

pub typed_none_left : (typing (in_force []) (listed 0 none_left)).condition ≡ Ok (conds.Empty (sets.Var 0))
typed_none_left = condition_of [] none_left (conds.Empty (sets.Var 0)) computed_none_left

computed_at_home : Holds [] at_home (conds.Numbers comparisons.Same (nums.Var 1) (nums.Fixed (pos 0)))
unfolding condition_list condition_operator comparison_of head_of operator_named meaning begins_number number_meaning is_cost is_left_out number_word word_holds_set
computed_at_home = refl

pub typed_at_home : (typing (in_force []) (listed 0 at_home)).condition ≡ Ok (conds.Numbers comparisons.Same (nums.Var 1) (nums.Fixed (pos 0)))
typed_at_home = condition_of [] at_home (conds.Numbers comparisons.Same (nums.Var 1) (nums.Fixed (pos 0))) computed_at_home

-- ---- typing of sets, numbers and costs

computed_removed : members_of 0 (list_typing (in_force (k ∷ [])) 0 (typings (in_force (k ∷ [])) removed)) ≡ Ok (sets.Without (nums.Param 0) (sets.Var 0))
unfolding members_list members_operator head_of operator_named meaning begins_number number_meaning is_cost is_left_out number_word members_word
computed_removed = refl

pub typed_removed : members_of 0 (typing (in_force (k ∷ [])) (listed 0 removed)) ≡ Ok (sets.Without (nums.Param 0) (sets.Var 0))
typed_removed = ap (members_of 0) (listed_typed (in_force (k ∷ [])) 0 removed) ∙ computed_removed

computed_later : (list_typing (in_force []) 0 (typings (in_force []) later)).number ≡ Ok (nums.Op operations.Plus (nums.Var 2) (nums.Fixed (pos 1)))
unfolding number_list number_operator head_of operator_named meaning begins_number number_meaning is_cost is_left_out number_word
computed_later = refl

pub typed_later : (typing (in_force []) (listed 0 later)).number ≡ Ok (nums.Op operations.Plus (nums.Var 2) (nums.Fixed (pos 1)))
typed_later = ap (λ (t : Typing). t.number) (listed_typed (in_force []) 0 later) ∙ computed_later

computed_k : (word_typing (in_force (k ∷ [])) 0 (codes "k")).number ≡ Ok (nums.Param 0)
unfolding meaning begins_number is_cost number_word
computed_k = refl

pub typed_k : (typing (in_force (k ∷ [])) (form.Word 0 (codes "k"))).number ≡ Ok (nums.Param 0)
typed_k = ap (λ (t : Typing). t.number) (word_typed (in_force (k ∷ [])) 0 (codes "k")) ∙ computed_k

computed_time : (word_typing (in_force []) 0 (codes "time")).number ≡ Ok (nums.Var 2)
unfolding meaning begins_number is_cost number_word
computed_time = refl

pub typed_time : (typing (in_force []) (form.Word 0 (codes "time"))).number ≡ Ok (nums.Var 2)
typed_time = ap (λ (t : Typing). t.number) (word_typed (in_force []) 0 (codes "time")) ∙ computed_time

computed_three : (word_typing (in_force []) 0 (codes "3")).number ≡ Ok (nums.Fixed (pos 3))
unfolding meaning begins_number number_meaning number_word
computed_three = refl

pub typed_three : (typing (in_force []) (form.Word 0 (codes "3"))).number ≡ Ok (nums.Fixed (pos 3))
typed_three = ap (λ (t : Typing). t.number) (word_typed (in_force []) 0 (codes "3")) ∙ computed_three

computed_four : (word_typing (in_force []) 0 (codes "4")).number ≡ Ok (nums.Fixed (pos 4))
unfolding meaning begins_number number_meaning number_word
computed_four = refl

pub typed_four : (typing (in_force []) (form.Word 0 (codes "4"))).number ≡ Ok (nums.Fixed (pos 4))
typed_four = ap (λ (t : Typing). t.number) (word_typed (in_force []) 0 (codes "4")) ∙ computed_four

computed_cost_of_k : cost_list (typings (in_force (k ∷ [])) cost_of_k) ≡ Ok (Joined joins.Most (nums.Param 0))
unfolding meaning begins_number number_meaning is_cost number_word
computed_cost_of_k = refl

pub typed_cost_of_k : cost_typing (in_force (k ∷ [])) (listed 0 cost_of_k) ≡ Ok (Joined joins.Most (nums.Param 0))
typed_cost_of_k = cost_typed (in_force (k ∷ [])) 0 cost_of_k ∙ computed_cost_of_k

computed_cost_of_seven : cost_list (typings (in_force []) cost_of_seven) ≡ Ok (Joined joins.Most (nums.Fixed (pos 7)))
unfolding meaning begins_number number_meaning is_cost number_word
computed_cost_of_seven = refl

pub typed_cost_of_seven : cost_typing (in_force []) (listed 0 cost_of_seven) ≡ Ok (Joined joins.Most (nums.Fixed (pos 7)))
typed_cost_of_seven = cost_typed (in_force []) 0 cost_of_seven ∙ computed_cost_of_seven
