-- A worked model: the tour with time windows. A vehicle starts at customer 0 at time 0, visits the customers 1, 2 and 3, and
-- returns. It may wait for a customer to be ready, and may be there no later than when the customer is due. The cost is the
-- distance. A state has the set of customers that are not visited, the location and the time, of which less is better.
use Rattle.std.specs.Prelude.{◌≡◌, ℕ, ◌&&◌, ◌==◌, true, false, IsTrue, List, [], ◌∷◌, Some, ℤ, pos, codes}
use Rattle.std.proofs.Common.{refl, ap, ◌∙◌}
use Rattle.std.proofs.lemmas.Bool.{and_from}
use denote.Hole.Carrier
use Rattle.dp_model.specs.Typing.{ArgTest, CondTest, NumTest, SetTest, arg_typed, cond_typed, num_typed, set_typed, is_num, is_set, is_cond, is_in_range, is_transition, are_trees, args_at, cells_at, are_numbers, cell_typed, is_effect, holds_set_of, kind_at}
use Rattle.dp_model.specs.declared.trees.Num.{Num}
use Rattle.dp_model.specs.declared.trees.Num as nums
use Rattle.dp_model.specs.declared.trees.NumOp.{NumOp}
use Rattle.dp_model.specs.declared.trees.NumOp.TheVariants as operations
use Rattle.dp_model.specs.declared.trees.SetEx as sets
use Rattle.dp_model.specs.declared.trees.Arg as args
use Rattle.dp_model.specs.declared.trees.Cond.{Cond}
use Rattle.dp_model.specs.declared.trees.Cond as conds
use Rattle.dp_model.specs.declared.trees.Compare.{Compare}
use Rattle.dp_model.specs.declared.trees.Compare.TheVariants as comparisons
use Rattle.dp_model.specs.declared.trees.Over.TheVariants as overs
use Rattle.dp_model.specs.declared.parts.ObjectType.{ObjectType}
use Rattle.dp_model.specs.declared.parts.Variable.{Variable}
use Rattle.dp_model.specs.declared.parts.VarKind.TheVariants as kinds
use Rattle.dp_model.specs.declared.parts.Preference.TheVariants.{Without, Less}
use Rattle.dp_model.specs.declared.parts.Cells.TheVariants as cells
use Rattle.dp_model.specs.declared.parts.TableData.{TableData}
use Rattle.dp_model.specs.declared.parts.Effect.TheVariants as effects
use Rattle.dp_model.specs.declared.parts.Transition.{Transition}
use Rattle.dp_model.specs.declared.parts.Ground.{Ground}
use Rattle.dp_model.specs.declared.parts.BaseCase.{BaseCase}
use Rattle.dp_model.specs.declared.parts.JoinOp.TheVariants.{Plus}
use Rattle.dp_model.specs.declared.parts.PlainValue.TheVariants.{Number, Members}
use Rattle.dp_model.specs.declared.parts.PlainState.{PlainState}
use Rattle.dp_model.specs.declared.whole.Model.{Model}

-- ---- customers, variables and tables

abbrev pub customers : List ObjectType
customers = record { name = codes "customer"; count = 4 } ∷ []

abbrev pub variables : List Variable
variables =
    record { name = codes "unvisited"; kind = kinds.Set 0; preference = Without }
    ∷ record { name = codes "location"; kind = kinds.Element 0; preference = Without }
    ∷ record { name = codes "time"; kind = kinds.Integer; preference = Less }
    ∷ []

-- a table of numbers, with arguments that are customers
abbrev pub table : List ℕ → List ℕ → List ℤ → TableData
table name arguments numbers = record { name = name; args = arguments; element = false; cells = cells.Numbers numbers }

-- when a customer is ready and due, the least distance to it, and the distance from one to another
abbrev pub tables : List TableData
tables =
    table (codes "ready") (0 ∷ []) (pos 0 ∷ pos 5 ∷ pos 0 ∷ pos 8 ∷ [])
    ∷ table (codes "due") (0 ∷ []) (pos 100 ∷ pos 16 ∷ pos 10 ∷ pos 14 ∷ [])
    ∷ table (codes "min_to") (0 ∷ []) (pos 3 ∷ pos 3 ∷ pos 3 ∷ pos 3 ∷ [])
    ∷ table (codes "distance") (0 ∷ 0 ∷ [])
    (pos 0 ∷ pos 3 ∷ pos 4 ∷ pos 5 ∷ pos 3 ∷ pos 0 ∷ pos 5 ∷ pos 4 ∷ pos 4 ∷ pos 5 ∷ pos 0 ∷ pos 3 ∷ pos 5 ∷ pos 4 ∷ pos 3 ∷ pos 0 ∷ [])
    ∷ []

-- the state with this set of unvisited customers, this location and this time
abbrev pub at : List ℕ → (location time : ℕ) → PlainState
at unvisited location time = record { values = Members unvisited ∷ Number (pos location) ∷ Number (pos time) ∷ [] }

-- ---- expressions

abbrev pub location : Num
location = nums.Var 1

abbrev pub time : Num
time = nums.Var 2

-- the customer to whom the vehicle goes, or any unvisited one
abbrev pub to : Num
to = nums.Param 0

abbrev pub ready : Num → Num
ready k = nums.Cell 0 (k ∷ [])

abbrev pub due : Num → Num
due k = nums.Cell 1 (k ∷ [])

abbrev pub min_to : Num → Num
min_to k = nums.Cell 2 (k ∷ [])

abbrev pub distance : Num → Num → Num
distance a b = nums.Cell 3 (a ∷ b ∷ [])

abbrev pub number : ℕ → Num
number n = nums.Fixed (pos n)

-- when the vehicle gets from its location to a customer
abbrev pub arrival : Num → Num
arrival k = nums.Op operations.Plus time (distance location k)

-- it gets to the customer in time
abbrev pub in_time : Cond
in_time = conds.Numbers comparisons.AtMost (arrival to) (due to)

abbrev pub all_visited : Cond
all_visited = conds.Empty (sets.Var 0)

abbrev pub is_home : Cond
is_home = conds.Numbers comparisons.Same location (number 0)

abbrev pub is_away : Cond
is_away = conds.Numbers comparisons.Other location (number 0)

-- ---- transitions, constraint, base case and dual bound

abbrev pub visit : Transition
visit =
    record {
      name = codes "visit";
      params = overs.Members 0 ∷ [];
      forced = false;
      preconditions = in_time ∷ [];
      effects = effects.Members 0 (sets.Without to (sets.Var 0)) ∷ effects.Number 1 to ∷ effects.Number 2 (nums.Op operations.Most (arrival to) (ready to)) ∷ [];
      weight = Some (distance location to);
    }

abbrev pub return : Transition
return =
    record {
      name = codes "return";
      params = [];
      forced = false;
      preconditions = all_visited ∷ is_away ∷ [];
      effects = effects.Number 1 (number 0) ∷ effects.Number 2 (arrival (number 0)) ∷ [];
      weight = Some (distance location (number 0));
    }

abbrev pub visit_to : ℕ → Ground
visit_to k = record { transition = 0; args = k ∷ [] }

-- each unvisited customer can still be visited in time
abbrev pub timely : Cond
timely = conds.All (overs.Members 0) in_time

abbrev pub home : BaseCase
home = record { conditions = all_visited ∷ is_home ∷ []; cost = number 0 }

-- the least distances to the unvisited customers, and home
abbrev pub least_distance : Num
least_distance = nums.Op operations.Plus (nums.Sum 2 (args.Many (sets.Var 0) ∷ [])) (nums.If is_home (number 0) (min_to (number 0)))

-- ---- they are well typed

typed_number : (n given : ℕ) → is_in_range (pos n) ≡ true → is_num customers variables tables (number n) given ≡ true
unfolding nums.out-Num denote.Hole.Carrier.out
typed_number n given range = ap (λ (f : NumTest). f given) (nums.fold_out-Num ArgTest CondTest NumTest SetTest arg_typed (cond_typed customers variables tables) (num_typed variables tables) (set_typed variables tables) (number n)) ∙ range

typed_location : (given : ℕ) → is_num customers variables tables location given ≡ true
unfolding nums.out-Num denote.Hole.Carrier.out
typed_location given = ap (λ (f : NumTest). f given) (nums.fold_out-Num ArgTest CondTest NumTest SetTest arg_typed (cond_typed customers variables tables) (num_typed variables tables) (set_typed variables tables) location)

typed_time : (given : ℕ) → is_num customers variables tables time given ≡ true
unfolding nums.out-Num denote.Hole.Carrier.out
typed_time given = ap (λ (f : NumTest). f given) (nums.fold_out-Num ArgTest CondTest NumTest SetTest arg_typed (cond_typed customers variables tables) (num_typed variables tables) (set_typed variables tables) time)

typed_to : is_num customers variables tables to 1 ≡ true
unfolding nums.out-Num denote.Hole.Carrier.out
typed_to = ap (λ (f : NumTest). f 1) (nums.fold_out-Num ArgTest CondTest NumTest SetTest arg_typed (cond_typed customers variables tables) (num_typed variables tables) (set_typed variables tables) to)

-- a cell of the first three tables
typed_cell : (t : ℕ) (k : Num) (given : ℕ) → args_at tables t ≡ 0 ∷ [] → are_numbers (cells_at tables t) ≡ true → is_num customers variables tables k given ≡ true → is_num customers variables tables (nums.Cell t (k ∷ [])) given ≡ true
unfolding nums.roll-Num denote.Hole.Carrier.roll
typed_cell t k given one are h =
    ap (λ (f : NumTest). f given) (nums.fold-roll-Num ArgTest CondTest NumTest SetTest arg_typed (cond_typed customers variables tables) (num_typed variables tables) (set_typed variables tables) (nums.Num-F.Num::Cell t (k ∷ [])))
    ∙ and_from _ _ are (ap (λ (objects : List ℕ). cell_typed objects (is_num customers variables tables k ∷ []) given) one ∙ and_from _ _ h refl)

typed_distance : (a b : Num) (given : ℕ) → is_num customers variables tables a given ≡ true → is_num customers variables tables b given ≡ true → is_num customers variables tables (distance a b) given ≡ true
unfolding nums.roll-Num denote.Hole.Carrier.roll
typed_distance a b given h g =
    ap (λ (f : NumTest). f given) (nums.fold-roll-Num ArgTest CondTest NumTest SetTest arg_typed (cond_typed customers variables tables) (num_typed variables tables) (set_typed variables tables) (nums.Num-F.Num::Cell 3 (a ∷ b ∷ [])))
    ∙ and_from _ _ h (and_from _ _ g refl)

typed_op : (op : NumOp) (a b : Num) (given : ℕ) → is_num customers variables tables a given ≡ true → is_num customers variables tables b given ≡ true → is_num customers variables tables (nums.Op op a b) given ≡ true
unfolding nums.roll-Num denote.Hole.Carrier.roll
typed_op op a b given h g =
    ap (λ (f : NumTest). f given) (nums.fold-roll-Num ArgTest CondTest NumTest SetTest arg_typed (cond_typed customers variables tables) (num_typed variables tables) (set_typed variables tables) (nums.Num-F.Num::Op op a b))
    ∙ and_from _ _ h g

typed_unvisited : (given : ℕ) → (is_set customers variables tables (sets.Var 0)).1 given ≡ true
unfolding sets.out-SetEx denote.Hole.Carrier.out
typed_unvisited given = ap (λ (f : SetTest). f.1 given) (sets.fold_out-SetEx ArgTest CondTest NumTest SetTest arg_typed (cond_typed customers variables tables) (num_typed variables tables) (set_typed variables tables) (sets.Var 0))

unvisited_object : (is_set customers variables tables (sets.Var 0)).0 ≡ 0
unfolding sets.out-SetEx denote.Hole.Carrier.out
unvisited_object = ap (λ (f : SetTest). f.0) (sets.fold_out-SetEx ArgTest CondTest NumTest SetTest arg_typed (cond_typed customers variables tables) (num_typed variables tables) (set_typed variables tables) (sets.Var 0))

rest_is : is_set customers variables tables (sets.Without to (sets.Var 0)) ≡ ((is_set customers variables tables (sets.Var 0)).0, λ (given : ℕ). is_num customers variables tables to given && (is_set customers variables tables (sets.Var 0)).1 given)
unfolding sets.roll-SetEx denote.Hole.Carrier.roll
rest_is = sets.fold-roll-SetEx ArgTest CondTest NumTest SetTest arg_typed (cond_typed customers variables tables) (num_typed variables tables) (set_typed variables tables) (sets.SetEx-F.Without to (sets.Var 0))

typed_numbers : (op : Compare) (a b : Num) (given : ℕ) → is_num customers variables tables a given ≡ true → is_num customers variables tables b given ≡ true → is_cond customers variables tables (conds.Numbers op a b) given ≡ true
unfolding conds.roll-Cond denote.Hole.Carrier.roll
typed_numbers op a b given h g =
    ap (λ (f : CondTest). f given) (conds.fold-roll-Cond ArgTest CondTest NumTest SetTest arg_typed (cond_typed customers variables tables) (num_typed variables tables) (set_typed variables tables) (conds.Cond-F.Numbers op a b))
    ∙ and_from _ _ h g

typed_all_visited : is_cond customers variables tables all_visited 0 ≡ true
unfolding conds.roll-Cond denote.Hole.Carrier.roll
typed_all_visited =
    ap (λ (f : CondTest). f 0) (conds.fold-roll-Cond ArgTest CondTest NumTest SetTest arg_typed (cond_typed customers variables tables) (num_typed variables tables) (set_typed variables tables) (conds.Cond-F.Empty (sets.Var 0)))
    ∙ typed_unvisited 0

typed_timely : is_cond customers variables tables in_time 1 ≡ true → is_cond customers variables tables timely 0 ≡ true
unfolding conds.roll-Cond denote.Hole.Carrier.roll
typed_timely h =
    ap (λ (f : CondTest). f 0) (conds.fold-roll-Cond ArgTest CondTest NumTest SetTest arg_typed (cond_typed customers variables tables) (num_typed variables tables) (set_typed variables tables) (conds.Cond-F.All (overs.Members 0) in_time))
    ∙ h

typed_sum : is_num customers variables tables (nums.Sum 2 (args.Many (sets.Var 0) ∷ [])) 0 ≡ true
unfolding nums.roll-Num args.roll-Arg denote.Hole.Carrier.roll
typed_sum =
    ap (λ (f : NumTest). f 0) (nums.fold-roll-Num ArgTest CondTest NumTest SetTest arg_typed (cond_typed customers variables tables) (num_typed variables tables) (set_typed variables tables) (nums.Num-F.Sum 2 (args.Many (sets.Var 0) ∷ [])))
    ∙ and_from _ _ one refl
  where
    one : args.fold-Arg ArgTest CondTest NumTest SetTest arg_typed (cond_typed customers variables tables) (num_typed variables tables) (set_typed variables tables) (args.Many (sets.Var 0)) 0 0 ≡ true
    one =
        ap (λ (f : ArgTest). f 0 0) (args.fold-roll-Arg ArgTest CondTest NumTest SetTest arg_typed (cond_typed customers variables tables) (num_typed variables tables) (set_typed variables tables) (args.Arg-F.Many (sets.Var 0)))
        ∙ and_from _ _ (typed_unvisited 0) (ap (λ (object : ℕ). object == 0) unvisited_object)

typed_if : (c : Cond) (a b : Num) (given : ℕ) → is_cond customers variables tables c given ≡ true → is_num customers variables tables a given ≡ true → is_num customers variables tables b given ≡ true → is_num customers variables tables (nums.If c a b) given ≡ true
unfolding nums.roll-Num denote.Hole.Carrier.roll
typed_if c a b given h g f =
    ap (λ (x : NumTest). x given) (nums.fold-roll-Num ArgTest CondTest NumTest SetTest arg_typed (cond_typed customers variables tables) (num_typed variables tables) (set_typed variables tables) (nums.Num-F.Num::If c a b))
    ∙ and_from _ _ (and_from _ _ h g) f

-- the trees

typed_arrival : (k : Num) (given : ℕ) → is_num customers variables tables k given ≡ true → is_num customers variables tables (arrival k) given ≡ true
typed_arrival k given h = typed_op operations.Plus time (distance location k) given (typed_time given) (typed_distance location k given (typed_location given) h)

typed_in_time : is_cond customers variables tables in_time 1 ≡ true
typed_in_time = typed_numbers comparisons.AtMost (arrival to) (due to) 1 (typed_arrival to 1 typed_to) (typed_cell 1 to 1 refl refl typed_to)

typed_zero : is_num customers variables tables (number 0) 0 ≡ true
typed_zero = typed_number 0 0 refl

typed_home : (op : Compare) → is_cond customers variables tables (conds.Numbers op location (number 0)) 0 ≡ true
typed_home op = typed_numbers op location (number 0) 0 (typed_location 0) typed_zero

typed_rest : is_effect customers variables tables 1 (effects.Members 0 (sets.Without to (sets.Var 0))) ≡ true
typed_rest =
    ap (λ (f : SetTest). holds_set_of f.0 (kind_at variables 0) && f.1 1) rest_is
    ∙ and_from _ _ (ap (λ (object : ℕ). holds_set_of object (kind_at variables 0)) unvisited_object) (and_from _ _ typed_to (typed_unvisited 1))

typed_visit : is_transition customers variables tables visit ≡ true
typed_visit =
    and_from _ _ refl (and_from _ _ (and_from _ _ typed_in_time refl) (and_from _ _ (and_from _ _ typed_rest (and_from _ _ (and_from _ _ refl typed_to) (and_from _ _ (and_from _ _ refl
    (typed_op operations.Most (arrival to) (ready to) 1 (typed_arrival to 1 typed_to) (typed_cell 0 to 1 refl refl typed_to))) refl)))
    (and_from _ _ refl (typed_distance location to 1 (typed_location 1) typed_to))))

typed_return : is_transition customers variables tables return ≡ true
typed_return =
    and_from _ _ refl (and_from _ _ (and_from _ _ typed_all_visited (and_from _ _ (typed_home comparisons.Other) refl)) (and_from _ _
    (and_from _ _ (and_from _ _ refl typed_zero) (and_from _ _ (and_from _ _ refl (typed_arrival (number 0) 0 typed_zero)) refl))
    (and_from _ _ refl (typed_distance location (number 0) 0 (typed_location 0) typed_zero))))

pub typed_trees : IsTrue (are_trees customers variables tables (visit ∷ return ∷ []) (timely ∷ []) (home ∷ []) (least_distance ∷ []))
typed_trees =
    and_from _ _ (and_from _ _ typed_visit (and_from _ _ typed_return refl)) (and_from _ _ (and_from _ _ (typed_timely typed_in_time) refl) (and_from _ _
    (and_from _ _ (and_from _ _ (and_from _ _ typed_all_visited (and_from _ _ (typed_home comparisons.Same) refl)) typed_zero) refl)
    (and_from _ _ (typed_op operations.Plus (nums.Sum 2 (args.Many (sets.Var 0) ∷ [])) (nums.If is_home (number 0) (min_to (number 0))) 0 typed_sum
    (typed_if is_home (number 0) (min_to (number 0)) 0 (typed_home comparisons.Same) typed_zero (typed_cell 2 (number 0) 0 refl refl typed_zero))) refl)))

-- ---- the model

abbrev pub tour : Model
tour =
    record {
      domain = codes "tsptw";
      problem = codes "four";
      minimize = true;
      join = Plus;
      objects = customers;
      variables = variables;
      tables = tables;
      transitions = visit ∷ return ∷ [];
      dp_ground = visit_to 0 ∷ visit_to 1 ∷ visit_to 2 ∷ visit_to 3 ∷ record { transition = 1; args = [] } ∷ [];
      constraints = timely ∷ [];
      base_cases = home ∷ [];
      bounds = least_distance ∷ [];
      target = at (1 ∷ 2 ∷ 3 ∷ []) 0 0;
      kinds = refl;
      cells = refl;
      typed = typed_trees;
      held = refl;
      grounded = refl;
      few_names = refl;
      few_rules = refl;
    }
