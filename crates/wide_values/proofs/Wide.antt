-- A value is the wide value, by induction over the trees.
use Rattle.std.proofs.Common.{◌≡◌, ℕ, ◌⊎◌, inl, inr, Bool, true, false, not, ◌&&◌, ◌||◌, eqb, ltb, if◌then◌else◌, List, [], ◌∷◌, ◌++◌, length, map, Result, Ok, Err, ℤ, pos, negsuc, refl, sym, subst, int_div, int_rem}
use Rattle.std.specs.Ordering.{int_eq}
use Rattle.std.specs.List.{list_all}
use Rattle.std.specs.Str.{bytes_eq}
use Rattle.dp_base.specs.Results.{◌>>=◌, in_turn}
use Rattle.dp_model.specs.Costs.{ranged}
use Rattle.dp_model.specs.Typing.{is_in_range}
use Rattle.dp_model.specs.Evaluation.{operate, compares, has, member_of, members_of, choices_of, ways, total_of, count_of, table_counts, cells_of, place_in, number_cell, truth_cell, set_cell, members_where, set_operation, each_holds, range_of, num_value, set_value, cond_value, ArgValue, CondValue, NumValue, SetValue, arg_step, cond_step, num_step, set_step}
use Rattle.dp_model.specs.declared.answers.FaultKind.{FaultKind}
use Rattle.dp_model.specs.declared.answers.FaultKind.TheVariants.{Range, ZeroDivisor, Index}
use Rattle.dp_model.specs.declared.trees.NumOp.{NumOp}
use Rattle.dp_model.specs.declared.trees.NumOp.TheVariants as number_operations
use Rattle.dp_model.specs.declared.trees.Arg as args
use Rattle.dp_model.specs.declared.trees.Num as nums
use Rattle.dp_model.specs.declared.trees.SetEx as sets
use Rattle.dp_model.specs.declared.trees.Cond as conds
use Rattle.dp_model.specs.declared.parts.PlainState.{PlainState}
use Rattle.dp_model.specs.declared.whole.Model.{Model}
use Rattle.wide_values.specs.Wide.{wide_operation, wide_member, wide_members, wide_choices, WideArg, WideCond, WideNum, WideSet, arg_wide, cond_wide, num_wide, set_wide, wide_num, wide_cond, wide_arg, wide_typed}
use Rattle.wide_values.specs.Laws.{LawWide}

-- what a step gives, where it gives something
abbrev Is : {A : Type 0} → Result A FaultKind → A → Type 0
Is {A = A} r x = (z : A) → r ≡ Ok z → z ≡ x

is_ok : {A : Type 0} (x : A) → Is (Ok x) x
is_ok x z e = cc

is_err : {A : Type 0} (k : FaultKind) (x : A) → Is (Err k) x
is_err k x z e = absurd (cc)

is_then : {A B : Type 0} (r : Result A FaultKind) (f : A → Result B FaultKind) (x : A) (y : B) → Is r x → Is (f x) y → Is (r >>= f) y
is_then (Ok a) f x y p q z e = q z (subst (λ (a : _). f a ≡ Ok z) (p a refl) e)
is_then (Err k) f x y p q z e = absurd (cc)

is_if : {A : Type 0} (h : Bool) (r q : Result A FaultKind) (x y : A) → Is r x → Is q y → Is (if h then r else q) (if h then x else y)
is_if true r q x y p o = p
is_if false r q x y p o = o

is_and : (h : Bool) (r : Result Bool FaultKind) (x : Bool) → Is r x → Is (if h then r else Ok false) (h && x)
is_and true r x p = p
is_and false r x p = is_ok false

is_or : (h : Bool) (r : Result Bool FaultKind) (x : Bool) → Is r x → Is (if h then Ok true else r) (h || x)
is_or true r x p = is_ok true
is_or false r x p = p

tested : {A : Type 0} (b : Bool) (x : A) (k : FaultKind) → Is (if b then Ok x else Err k) x
tested true x k = is_ok x
tested false x k = is_err k x

refused : {A : Type 0} (b : Bool) (r : Result A FaultKind) (x : A) (k : FaultKind) → Is r x → Is (if b then Err k else r) x
refused true r x k p = is_err k x
refused false r x k p = p

ranged_is : (n : ℤ) → Is (ranged n) n
ranged_is n = tested (is_in_range n) n Range

operate_is : (op : NumOp) (x y : ℤ) → Is (operate op x y) (wide_operation op x y)
operate_is number_operations.Plus x y = ranged_is (wide_operation number_operations.Plus x y)
operate_is number_operations.Minus x y = ranged_is (wide_operation number_operations.Minus x y)
operate_is number_operations.Times x y = ranged_is (wide_operation number_operations.Times x y)
operate_is number_operations.Over x y = refused (int_eq y (pos 0)) (ranged (int_div x y)) (int_div x y) ZeroDivisor (ranged_is (int_div x y))
operate_is number_operations.Rest x y = refused (int_eq y (pos 0)) (ranged (int_rem x y)) (int_rem x y) ZeroDivisor (ranged_is (int_rem x y))
operate_is number_operations.Most x y = is_ok (wide_operation number_operations.Most x y)
operate_is number_operations.Least x y = is_ok (wide_operation number_operations.Least x y)

-- ---- members and choices

member_is : (count : ℕ) (z : ℤ) → Is (member_of count z) (wide_member z)
member_is count (pos n) = tested (ltb n count) n Index
member_is count (negsuc n) = is_err _ 0

members_is : (counts : List ℕ) (numbers : List ℤ) → Is (members_of counts numbers) (wide_members counts numbers)
members_is [] numbers = is_ok []
members_is (count ∷ counts) [] = is_ok []
members_is (count ∷ counts) (n ∷ numbers) =
    is_then (member_of count n) (λ k. members_of counts numbers >>= λ members. Ok (k ∷ members)) (wide_member n) (wide_member n ∷ wide_members counts numbers) (member_is count n)
    (is_then (members_of counts numbers) (λ members. Ok (wide_member n ∷ members)) (wide_members counts numbers) (wide_member n ∷ wide_members counts numbers) (members_is counts numbers) (is_ok (wide_member n ∷ wide_members counts numbers)))

choices_is : (counts : List ℕ) (given : List (ℤ ⊎ List ℕ)) → Is (choices_of counts given) (wide_choices counts given)
choices_is [] given = is_ok []
choices_is (count ∷ counts) [] = is_ok []
choices_is (count ∷ counts) (inl n ∷ given) =
    let all = wide_choices counts (inl n ∷ given) in
    is_then (member_of count n) (λ k. choices_of counts given >>= λ choices. Ok ((k ∷ []) ∷ choices)) (wide_member n) ((wide_member n ∷ []) ∷ wide_choices counts given) (member_is count n)
    (is_then (choices_of counts given) (λ choices. Ok ((wide_member n ∷ []) ∷ choices)) (wide_choices counts given) ((wide_member n ∷ []) ∷ wide_choices counts given) (choices_is counts given) (is_ok ((wide_member n ∷ []) ∷ wide_choices counts given)))
choices_is (count ∷ counts) (inr set ∷ given) =
    is_then (choices_of counts given) (λ choices. Ok (set ∷ choices)) (wide_choices counts given) (set ∷ wide_choices counts given) (choices_is counts given) (is_ok (set ∷ wide_choices counts given))

each_is : (f : ℕ → Result Bool FaultKind) (g : ℕ → Bool) (xs : List ℕ) → ((k : ℕ) → Is (f k) (g k)) → Is (each_holds f xs) (list_all g xs)
each_is f g [] h = is_ok true
each_is f g (x ∷ xs) h = is_then (f x) (λ held. if held then each_holds f xs else Ok false) (g x) (g x && list_all g xs) (h x) (is_and (g x) (each_holds f xs) (list_all g xs) (each_is f g xs h))

-- ---- the trees

module _ (m : Model) (s : PlainState) where
  abbrev arg_value : args.Arg → ArgValue
  arg_value = args.fold-Arg ArgValue CondValue NumValue SetValue arg_step (cond_step m s) (num_step m s) (set_step m s)

  abbrev ArgIs : args.Arg → Type 0
  ArgIs e = (given : List ℕ) → Is (arg_value e given) (wide_arg m s e given)

  abbrev CondIs : conds.Cond → Type 0
  CondIs e = (given : List ℕ) → Is (cond_value m s e given) (wide_cond m s e given)

  abbrev NumIs : nums.Num → Type 0
  NumIs e = (given : List ℕ) → Is (num_value m s e given) (wide_num m s e given)

  -- a value and a wide value of a set: of one object type, with the same members
  abbrev SameSets : SetValue → WideSet → Type 0
  SameSets a b = (a.0 ≡ b.0) × ((given : List ℕ) → Is (a.1 given) (b.1 given))

  abbrev SetIs : sets.SetEx → Type 0
  SetIs e = SameSets (set_value m s e) (wide_typed m s e)

  abbrev AnArg : Type 0
  AnArg = (e : args.Arg) × ArgIs e

  abbrev ACond : Type 0
  ACond = (e : conds.Cond) × CondIs e

  abbrev ANum : Type 0
  ANum = (e : nums.Num) × NumIs e

  abbrev ASet : Type 0
  ASet = (e : sets.SetEx) × SetIs e

  abbrev arg_under : args.Arg-F AnArg ACond ANum ASet → args.Arg-F args.Arg conds.Cond nums.Num sets.SetEx
  arg_under = args.map-Arg AnArg ACond ANum ASet args.Arg conds.Cond nums.Num sets.SetEx (λ e. e.0) (λ e. e.0) (λ e. e.0) (λ e. e.0)

  abbrev cond_under : conds.Cond-F AnArg ACond ANum ASet → conds.Cond-F args.Arg conds.Cond nums.Num sets.SetEx
  cond_under = conds.map-Cond AnArg ACond ANum ASet args.Arg conds.Cond nums.Num sets.SetEx (λ e. e.0) (λ e. e.0) (λ e. e.0) (λ e. e.0)

  abbrev num_under : nums.Num-F AnArg ACond ANum ASet → nums.Num-F args.Arg conds.Cond nums.Num sets.SetEx
  num_under = nums.map-Num AnArg ACond ANum ASet args.Arg conds.Cond nums.Num sets.SetEx (λ e. e.0) (λ e. e.0) (λ e. e.0) (λ e. e.0)

  abbrev set_under : sets.SetEx-F AnArg ACond ANum ASet → sets.SetEx-F args.Arg conds.Cond nums.Num sets.SetEx
  set_under = sets.map-SetEx AnArg ACond ANum ASet args.Arg conds.Cond nums.Num sets.SetEx (λ e. e.0) (λ e. e.0) (λ e. e.0) (λ e. e.0)

  -- one layer of a tree, as a value and as a wide value

  abbrev arg_layer : args.Arg-F args.Arg conds.Cond nums.Num sets.SetEx → ArgValue
  arg_layer x = arg_step (args.map-Arg args.Arg conds.Cond nums.Num sets.SetEx ArgValue CondValue NumValue SetValue arg_value (cond_value m s) (num_value m s) (set_value m s) x)

  abbrev cond_layer : conds.Cond-F args.Arg conds.Cond nums.Num sets.SetEx → CondValue
  cond_layer x = cond_step m s (conds.map-Cond args.Arg conds.Cond nums.Num sets.SetEx ArgValue CondValue NumValue SetValue arg_value (cond_value m s) (num_value m s) (set_value m s) x)

  abbrev num_layer : nums.Num-F args.Arg conds.Cond nums.Num sets.SetEx → NumValue
  num_layer x = num_step m s (nums.map-Num args.Arg conds.Cond nums.Num sets.SetEx ArgValue CondValue NumValue SetValue arg_value (cond_value m s) (num_value m s) (set_value m s) x)

  abbrev set_layer : sets.SetEx-F args.Arg conds.Cond nums.Num sets.SetEx → SetValue
  set_layer x = set_step m s (sets.map-SetEx args.Arg conds.Cond nums.Num sets.SetEx ArgValue CondValue NumValue SetValue arg_value (cond_value m s) (num_value m s) (set_value m s) x)

  abbrev arg_wide_layer : args.Arg-F args.Arg conds.Cond nums.Num sets.SetEx → WideArg
  arg_wide_layer x = arg_wide (args.map-Arg args.Arg conds.Cond nums.Num sets.SetEx WideArg WideCond WideNum WideSet (wide_arg m s) (wide_cond m s) (wide_num m s) (wide_typed m s) x)

  abbrev cond_wide_layer : conds.Cond-F args.Arg conds.Cond nums.Num sets.SetEx → WideCond
  cond_wide_layer x = cond_wide m s (conds.map-Cond args.Arg conds.Cond nums.Num sets.SetEx WideArg WideCond WideNum WideSet (wide_arg m s) (wide_cond m s) (wide_num m s) (wide_typed m s) x)

  abbrev num_wide_layer : nums.Num-F args.Arg conds.Cond nums.Num sets.SetEx → WideNum
  num_wide_layer x = num_wide m s (nums.map-Num args.Arg conds.Cond nums.Num sets.SetEx WideArg WideCond WideNum WideSet (wide_arg m s) (wide_cond m s) (wide_num m s) (wide_typed m s) x)

  abbrev set_wide_layer : sets.SetEx-F args.Arg conds.Cond nums.Num sets.SetEx → WideSet
  set_wide_layer x = set_wide m s (sets.map-SetEx args.Arg conds.Cond nums.Num sets.SetEx WideArg WideCond WideNum WideSet (wide_arg m s) (wide_cond m s) (wide_num m s) (wide_typed m s) x)

  -- the arguments of a cell and of a `sum`

  abbrev numbers : List ANum → List ℕ → Result (List ℤ) FaultKind
  numbers ns given = in_turn (λ (n : NumValue). n given) (map (num_value m s) (map (λ (e : ANum). e.0) ns))

  abbrev wide_numbers : List ANum → List ℕ → List ℤ
  wide_numbers ns given = map (λ (n : WideNum). n given) (map (wide_num m s) (map (λ (e : ANum). e.0) ns))

  numbers_is : (ns : List ANum) (given : List ℕ) → Is (numbers ns given) (wide_numbers ns given)
  numbers_is [] given = is_ok []
  numbers_is (n ∷ ns) given =
      is_then (num_value m s n.0 given) (λ z. numbers ns given >>= λ zs. Ok (z ∷ zs)) (wide_num m s n.0 given) (wide_numbers (n ∷ ns) given) (n.1 given)
      (is_then (numbers ns given) (λ zs. Ok (wide_num m s n.0 given ∷ zs)) (wide_numbers ns given) (wide_numbers (n ∷ ns) given) (numbers_is ns given) (is_ok (wide_numbers (n ∷ ns) given)))

  abbrev terms : List AnArg → List ℕ → Result (List (ℤ ⊎ List ℕ)) FaultKind
  terms es given = in_turn (λ (a : ArgValue). a given) (map arg_value (map (λ (e : AnArg). e.0) es))

  abbrev wide_terms : List AnArg → List ℕ → List (ℤ ⊎ List ℕ)
  wide_terms es given = map (λ (a : WideArg). a given) (map (wide_arg m s) (map (λ (e : AnArg). e.0) es))

  terms_is : (es : List AnArg) (given : List ℕ) → Is (terms es given) (wide_terms es given)
  terms_is [] given = is_ok []
  terms_is (e ∷ es) given =
      is_then (arg_value e.0 given) (λ z. terms es given >>= λ zs. Ok (z ∷ zs)) (wide_arg m s e.0 given) (wide_terms (e ∷ es) given) (e.1 given)
      (is_then (terms es given) (λ zs. Ok (wide_arg m s e.0 given ∷ zs)) (wide_terms es given) (wide_terms (e ∷ es) given) (terms_is es given) (is_ok (wide_terms (e ∷ es) given)))

  cell_is : {A : Type 0} (t : ℕ) (ns : List ANum) (given : List ℕ) (cell : ℕ → A)
      → Is (numbers ns given >>= λ zs. members_of (table_counts m t) zs >>= λ members. Ok (cell (place_in m t members))) (cell (place_in m t (wide_members (table_counts m t) (wide_numbers ns given))))
  cell_is t ns given cell =
      let zs = wide_numbers ns given in
      let members = wide_members (table_counts m t) zs in
      is_then (numbers ns given) (λ zs. members_of (table_counts m t) zs >>= λ members. Ok (cell (place_in m t members))) zs (cell (place_in m t members)) (numbers_is ns given)
      (is_then (members_of (table_counts m t) zs) (λ members. Ok (cell (place_in m t members))) members (cell (place_in m t members)) (members_is (table_counts m t) zs) (is_ok (cell (place_in m t members))))

  two_is : {A B C : Type 0} (r : Result A FaultKind) (q : Result B FaultKind) (f : A → B → C) (x : A) (y : B) → Is r x → Is q y → Is (r >>= λ a. q >>= λ b. Ok (f a b)) (f x y)
  two_is r q f x y p o = is_then r (λ a. q >>= λ b. Ok (f a b)) x (f x y) p (is_then q (λ b. Ok (f x b)) y (f x y) o (is_ok (f x y)))

  one_is : {A C : Type 0} (r : Result A FaultKind) (f : A → C) (x : A) → Is r x → Is (r >>= λ a. Ok (f a)) (f x)
  one_is r f x p = is_then r (λ a. Ok (f a)) x (f x) p (is_ok (f x))

  -- ---- each form

  arg_case : (y : args.Arg-F AnArg ACond ANum ASet) (given : List ℕ) → Is (arg_layer (arg_under y) given) (arg_wide_layer (arg_under y) given)
  arg_case (args.Arg-F.One n) given = one_is (num_value m s n.0 given) (λ z. inl z) (wide_num m s n.0 given) (n.1 given)
  arg_case (args.Arg-F.Many a) given = one_is ((set_value m s a.0).1 given) (λ z. inr z) ((wide_typed m s a.0).1 given) (a.1.1 given)

  cond_case : (y : conds.Cond-F AnArg ACond ANum ASet) (given : List ℕ) → Is (cond_layer (cond_under y) given) (cond_wide_layer (cond_under y) given)
  cond_case (conds.Cond-F.Cond::Fixed b) given = is_ok b
  cond_case (conds.Cond-F.Cond::Cell t ns) given = cell_is t ns given (truth_cell (cells_of m t))
  cond_case (conds.Cond-F.Numbers op a b) given = two_is (num_value m s a.0 given) (num_value m s b.0 given) (compares op) (wide_num m s a.0 given) (wide_num m s b.0 given) (a.1 given) (b.1 given)
  cond_case (conds.Cond-F.SameSet a b) given = two_is ((set_value m s a.0).1 given) ((set_value m s b.0).1 given) bytes_eq ((wide_typed m s a.0).1 given) ((wide_typed m s b.0).1 given) (a.1.1 given) (b.1.1 given)
  cond_case (conds.Cond-F.OtherSet a b) given =
      let xs = (wide_typed m s a.0).1 given in
      let ys = (wide_typed m s b.0).1 given in
      one_is ((set_value m s a.0).1 given >>= λ xs. (set_value m s b.0).1 given >>= λ ys. Ok (bytes_eq xs ys)) not (bytes_eq xs ys) (two_is ((set_value m s a.0).1 given) ((set_value m s b.0).1 given) bytes_eq xs ys (a.1.1 given) (b.1.1 given))
  cond_case (conds.Cond-F.IsIn n a) given =
      let z = wide_num m s n.0 given in
      let xs = (wide_typed m s a.0).1 given in
      let count = count_of m (set_value m s a.0).0 in
      is_then (num_value m s n.0 given) (λ z. (set_value m s a.0).1 given >>= λ members. member_of count z >>= λ k. Ok (has members k)) z (has xs (wide_member z)) (n.1 given)
      (two_is ((set_value m s a.0).1 given) (member_of count z) has xs (wide_member z) (a.1.1 given) (member_is count z))
  cond_case (conds.Cond-F.Subset a b) given = two_is ((set_value m s a.0).1 given) ((set_value m s b.0).1 given) (λ xs ys. list_all (has ys) xs) ((wide_typed m s a.0).1 given) ((wide_typed m s b.0).1 given) (a.1.1 given) (b.1.1 given)
  cond_case (conds.Cond-F.Empty a) given = one_is ((set_value m s a.0).1 given) (λ xs. eqb (length xs) 0) ((wide_typed m s a.0).1 given) (a.1.1 given)
  cond_case (conds.Cond-F.Cond::Not c) given = one_is (cond_value m s c.0 given) not (wide_cond m s c.0 given) (c.1 given)
  cond_case (conds.Cond-F.And a b) given =
      let x = wide_cond m s a.0 given in
      is_then (cond_value m s a.0 given) (λ held. if held then cond_value m s b.0 given else Ok false) x (x && wide_cond m s b.0 given) (a.1 given) (is_and x (cond_value m s b.0 given) (wide_cond m s b.0 given) (b.1 given))
  cond_case (conds.Cond-F.Or a b) given =
      let x = wide_cond m s a.0 given in
      is_then (cond_value m s a.0 given) (λ held. if held then Ok true else cond_value m s b.0 given) x (x || wide_cond m s b.0 given) (a.1 given) (is_or x (cond_value m s b.0 given) (wide_cond m s b.0 given) (b.1 given))
  cond_case (conds.Cond-F.Cond::If c a b) given =
      let x = wide_cond m s c.0 given in
      is_then (cond_value m s c.0 given) (λ held. if held then cond_value m s a.0 given else cond_value m s b.0 given) x (if x then wide_cond m s a.0 given else wide_cond m s b.0 given) (c.1 given)
      (is_if x (cond_value m s a.0 given) (cond_value m s b.0 given) (wide_cond m s a.0 given) (wide_cond m s b.0 given) (a.1 given) (b.1 given))
  cond_case (conds.Cond-F.All over c) given = each_is (λ k. cond_value m s c.0 (given ++ k ∷ [])) (λ k. wide_cond m s c.0 (given ++ k ∷ [])) (range_of m s over) (λ k. c.1 (given ++ k ∷ []))

  num_case : (y : nums.Num-F AnArg ACond ANum ASet) (given : List ℕ) → Is (num_layer (num_under y) given) (num_wide_layer (num_under y) given)
  num_case (nums.Num-F.Num::Fixed n) given = is_ok n
  num_case (nums.Num-F.Num::Var v) given = is_ok _
  num_case (nums.Num-F.Param p) given = is_ok _
  num_case (nums.Num-F.Num::Cell t ns) given = cell_is t ns given (number_cell (cells_of m t))
  num_case (nums.Num-F.Sum t es) given =
      let xs = wide_terms es given in
      let choices = wide_choices (table_counts m t) xs in
      is_then (terms es given) (λ xs. choices_of (table_counts m t) xs >>= λ choices. ranged (total_of m t (ways choices))) xs (total_of m t (ways choices)) (terms_is es given)
      (is_then (choices_of (table_counts m t) xs) (λ choices. ranged (total_of m t (ways choices))) choices (total_of m t (ways choices)) (choices_is (table_counts m t) xs) (ranged_is (total_of m t (ways choices))))
  num_case (nums.Num-F.Size a) given = one_is ((set_value m s a.0).1 given) (λ xs. pos (length xs)) ((wide_typed m s a.0).1 given) (a.1.1 given)
  num_case (nums.Num-F.Num::Op op a b) given =
      let x = wide_num m s a.0 given in
      let y = wide_num m s b.0 given in
      is_then (num_value m s a.0 given) (λ x. num_value m s b.0 given >>= λ y. operate op x y) x (wide_operation op x y) (a.1 given)
      (is_then (num_value m s b.0 given) (λ y. operate op x y) y (wide_operation op x y) (b.1 given) (operate_is op x y))
  num_case (nums.Num-F.Num::If c a b) given =
      let x = wide_cond m s c.0 given in
      is_then (cond_value m s c.0 given) (λ held. if held then num_value m s a.0 given else num_value m s b.0 given) x (if x then wide_num m s a.0 given else wide_num m s b.0 given) (c.1 given)
      (is_if x (num_value m s a.0 given) (num_value m s b.0 given) (wide_num m s a.0 given) (wide_num m s b.0 given) (a.1 given) (b.1 given))

  -- a set that is made for the object type of another one's value
  made_for : (r : Result (List ℕ) FaultKind) (f : ℕ → List ℕ) (v w : ℕ) → v ≡ w → Is r (f v) → Is r (f w)
  made_for r f v w e p = subst (λ (w : ℕ). Is r (f w)) e p

  set_case : (y : sets.SetEx-F AnArg ACond ANum ASet) → SameSets (set_layer (set_under y)) (set_wide_layer (set_under y))
  set_case (sets.SetEx-F.SetEx::Var v) = (refl, λ given. is_ok _)
  set_case (sets.SetEx-F.SetEx::Cell t ns) = (refl, λ given. cell_is t ns given (set_cell (cells_of m t)))
  set_case (sets.SetEx-F.SetEx::Op op a b) = (
    a.1.0,
    λ given.
        let xs = (wide_typed m s a.0).1 given in
        let ys = (wide_typed m s b.0).1 given in
        made_for ((set_value m s a.0).1 given >>= λ xs. (set_value m s b.0).1 given >>= λ ys. Ok (set_operation op (count_of m (set_value m s a.0).0) xs ys)) (λ object. set_operation op (count_of m object) xs ys) (set_value m s a.0).0 (wide_typed m s a.0).0 a.1.0
        (two_is ((set_value m s a.0).1 given) ((set_value m s b.0).1 given) (set_operation op (count_of m (set_value m s a.0).0)) xs ys (a.1.1 given) (b.1.1 given)),
  )
  set_case (sets.SetEx-F.SetEx::Not a) = (
    a.1.0,
    λ given.
        let xs = (wide_typed m s a.0).1 given in
        made_for ((set_value m s a.0).1 given >>= λ xs. Ok (members_where (count_of m (set_value m s a.0).0) (λ k. not (has xs k)))) (λ object. members_where (count_of m object) (λ k. not (has xs k))) (set_value m s a.0).0 (wide_typed m s a.0).0 a.1.0
        (one_is ((set_value m s a.0).1 given) (λ xs. members_where (count_of m (set_value m s a.0).0) (λ k. not (has xs k))) xs (a.1.1 given)),
  )
  set_case (sets.SetEx-F.With n a) = (
    a.1.0,
    λ given.
        let z = wide_num m s n.0 given in
        let xs = (wide_typed m s a.0).1 given in
        let count = count_of m (set_value m s a.0).0 in
        made_for (num_value m s n.0 given >>= λ z. (set_value m s a.0).1 given >>= λ xs. member_of count z >>= λ e. Ok (members_where count (λ k. eqb k e || has xs k)))
        (λ object. members_where (count_of m object) (λ k. eqb k (wide_member z) || has xs k)) (set_value m s a.0).0 (wide_typed m s a.0).0 a.1.0
        (is_then (num_value m s n.0 given) (λ z. (set_value m s a.0).1 given >>= λ xs. member_of count z >>= λ e. Ok (members_where count (λ k. eqb k e || has xs k))) z (members_where count (λ k. eqb k (wide_member z) || has xs k)) (n.1 given)
        (two_is ((set_value m s a.0).1 given) (member_of count z) (λ xs e. members_where count (λ k. eqb k e || has xs k)) xs (wide_member z) (a.1.1 given) (member_is count z))),
  )
  set_case (sets.SetEx-F.Without n a) = (
    a.1.0,
    λ given.
        let z = wide_num m s n.0 given in
        let xs = (wide_typed m s a.0).1 given in
        let count = count_of m (set_value m s a.0).0 in
        made_for (num_value m s n.0 given >>= λ z. (set_value m s a.0).1 given >>= λ xs. member_of count z >>= λ e. Ok (members_where count (λ k. not (eqb k e) && has xs k)))
        (λ object. members_where (count_of m object) (λ k. not (eqb k (wide_member z)) && has xs k)) (set_value m s a.0).0 (wide_typed m s a.0).0 a.1.0
        (is_then (num_value m s n.0 given) (λ z. (set_value m s a.0).1 given >>= λ xs. member_of count z >>= λ e. Ok (members_where count (λ k. not (eqb k e) && has xs k))) z (members_where count (λ k. not (eqb k (wide_member z)) && has xs k)) (n.1 given)
        (two_is ((set_value m s a.0).1 given) (member_of count z) (λ xs e. members_where count (λ k. not (eqb k e) && has xs k)) xs (wide_member z) (a.1.1 given) (member_is count z))),
  )
  set_case (sets.SetEx-F.SetEx::If c a b) = (
    a.1.0,
    λ given.
        let x = wide_cond m s c.0 given in
        is_then (cond_value m s c.0 given) (λ held. if held then (set_value m s a.0).1 given else (set_value m s b.0).1 given) x (if x then (wide_typed m s a.0).1 given else (wide_typed m s b.0).1 given) (c.1 given)
        (is_if x ((set_value m s a.0).1 given) ((set_value m s b.0).1 given) ((wide_typed m s a.0).1 given) ((wide_typed m s b.0).1 given) (a.1.1 given) (b.1.1 given)),
  )

  -- ---- whole trees

  arg_made : (x : args.Arg-F args.Arg conds.Cond nums.Num sets.SetEx) (y : args.Arg-F AnArg ACond ANum ASet) → arg_under y ≡ x → ArgIs (args.roll-Arg x)
  arg_made x y p given =
      subst (λ (x : args.Arg-F args.Arg conds.Cond nums.Num sets.SetEx). Is (arg_value (args.roll-Arg x) given) (wide_arg m s (args.roll-Arg x) given)) p
      (subst (λ (v : ArgValue). Is (v given) (wide_arg m s (args.roll-Arg (arg_under y)) given)) (sym (args.fold-roll-Arg ArgValue CondValue NumValue SetValue arg_step (cond_step m s) (num_step m s) (set_step m s) (arg_under y)))
      (subst (λ (w : WideArg). Is (arg_layer (arg_under y) given) (w given)) (sym (args.fold-roll-Arg WideArg WideCond WideNum WideSet arg_wide (cond_wide m s) (num_wide m s) (set_wide m s) (arg_under y)))
      (arg_case y given)))

  cond_made : (x : conds.Cond-F args.Arg conds.Cond nums.Num sets.SetEx) (y : conds.Cond-F AnArg ACond ANum ASet) → cond_under y ≡ x → CondIs (conds.roll-Cond x)
  cond_made x y p given =
      subst (λ (x : conds.Cond-F args.Arg conds.Cond nums.Num sets.SetEx). Is (cond_value m s (conds.roll-Cond x) given) (wide_cond m s (conds.roll-Cond x) given)) p
      (subst (λ (v : CondValue). Is (v given) (wide_cond m s (conds.roll-Cond (cond_under y)) given)) (sym (conds.fold-roll-Cond ArgValue CondValue NumValue SetValue arg_step (cond_step m s) (num_step m s) (set_step m s) (cond_under y)))
      (subst (λ (w : WideCond). Is (cond_layer (cond_under y) given) (w given)) (sym (conds.fold-roll-Cond WideArg WideCond WideNum WideSet arg_wide (cond_wide m s) (num_wide m s) (set_wide m s) (cond_under y)))
      (cond_case y given)))

  num_made : (x : nums.Num-F args.Arg conds.Cond nums.Num sets.SetEx) (y : nums.Num-F AnArg ACond ANum ASet) → num_under y ≡ x → NumIs (nums.roll-Num x)
  num_made x y p given =
      subst (λ (x : nums.Num-F args.Arg conds.Cond nums.Num sets.SetEx). Is (num_value m s (nums.roll-Num x) given) (wide_num m s (nums.roll-Num x) given)) p
      (subst (λ (v : NumValue). Is (v given) (wide_num m s (nums.roll-Num (num_under y)) given)) (sym (nums.fold-roll-Num ArgValue CondValue NumValue SetValue arg_step (cond_step m s) (num_step m s) (set_step m s) (num_under y)))
      (subst (λ (w : WideNum). Is (num_layer (num_under y) given) (w given)) (sym (nums.fold-roll-Num WideArg WideCond WideNum WideSet arg_wide (cond_wide m s) (num_wide m s) (set_wide m s) (num_under y)))
      (num_case y given)))

  set_made : (x : sets.SetEx-F args.Arg conds.Cond nums.Num sets.SetEx) (y : sets.SetEx-F AnArg ACond ANum ASet) → set_under y ≡ x → SetIs (sets.roll-SetEx x)
  set_made x y p =
      subst (λ (x : sets.SetEx-F args.Arg conds.Cond nums.Num sets.SetEx). SameSets (set_value m s (sets.roll-SetEx x)) (wide_typed m s (sets.roll-SetEx x))) p
      (subst (λ (v : SetValue). SameSets v (wide_typed m s (sets.roll-SetEx (set_under y)))) (sym (sets.fold-roll-SetEx ArgValue CondValue NumValue SetValue arg_step (cond_step m s) (num_step m s) (set_step m s) (set_under y)))
      (subst (λ (w : WideSet). SameSets (set_layer (set_under y)) w) (sym (sets.fold-roll-SetEx WideArg WideCond WideNum WideSet arg_wide (cond_wide m s) (num_wide m s) (set_wide m s) (set_under y)))
      (set_case y)))

  num_is : (e : nums.Num) → NumIs e
  num_is e = nums.ind-Num ArgIs CondIs NumIs SetIs arg_made cond_made num_made set_made e

  cond_is : (e : conds.Cond) → CondIs e
  cond_is e = conds.ind-Cond ArgIs CondIs NumIs SetIs arg_made cond_made num_made set_made e

  set_is : (e : sets.SetEx) → SetIs e
  set_is e = sets.ind-SetEx ArgIs CondIs NumIs SetIs arg_made cond_made num_made set_made e

pub law_of_wide : LawWide
law_of_wide = record {
  num = λ m s e given z h. num_is m s e given z h;
  cond = λ m s e given b h. cond_is m s e given b h;
  set = λ m s e given xs h. (set_is m s e).1 given xs h;
}
