-- When a tree is well typed, form by form.
use Rattle.std.proofs.Common.{◌≡◌, ℕ, Bool, ◌&&◌, ◌==◌, nat_lt, List, [], ◌∷◌, length, map, slice_get, refl, sym, ap, ◌∙◌, ℤ, IsTrue}
use Rattle.std.specs.List.{list_all}
use Rattle.std.proofs.lemmas.Bool.{and_from, eq-eqb}
use Rattle.std.proofs.lemmas.List.{length-map}
use Rattle.dp_model.specs.Typing.{kind_at, is_number_kind, is_set_kind, kind_object, cells_at, args_at, are_numbers, are_truths, are_sets, sets_object, is_summed, NumTest, CondTest, SetTest, ArgTest, arg_typed, args_typed, cell_typed, both_sets, cond_typed, is_in_range, num_typed, set_typed, is_num, is_set, is_cond}
use Rattle.dp_model.specs.declared.parts.ObjectType.{ObjectType}
use Rattle.dp_model.specs.declared.parts.Variable.{Variable}
use Rattle.dp_model.specs.declared.parts.TableData.{TableData}
use Rattle.dp_model.specs.declared.trees.NumOp.{NumOp}
use Rattle.dp_model.specs.declared.trees.SetOp.{SetOp}
use Rattle.dp_model.specs.declared.trees.Compare.{Compare}
use Rattle.dp_model.specs.declared.trees.Arg.{Arg}
use Rattle.dp_model.specs.declared.trees.Arg as args
use Rattle.dp_model.specs.declared.trees.Arg.TheVariants as arg
use Rattle.dp_model.specs.declared.trees.Num.{Num}
use Rattle.dp_model.specs.declared.trees.Num as nums
use Rattle.dp_model.specs.declared.trees.Num.TheVariants as num
use Rattle.dp_model.specs.declared.trees.SetEx.{SetEx}
use Rattle.dp_model.specs.declared.trees.SetEx as sets
use Rattle.dp_model.specs.declared.trees.SetEx.TheVariants as set
use Rattle.dp_model.specs.declared.trees.Cond.{Cond}
use Rattle.dp_model.specs.declared.trees.Cond as conds
use Rattle.dp_model.specs.declared.trees.Cond.TheVariants as cond

-- P of each item
abbrev pub Each : {A : Type 0} → (A → Type 0) → List A → Type 0
Each P [] = Unit {0}
Each P (x ∷ xs) = P x × Each P xs

-- what holds of each item
pub each_weaker : {A : Type 0} (P Q : A → Type 0) → ((x : A) → P x → Q x) → (xs : List A) → Each P xs → Each Q xs
each_weaker P Q more [] h = tt
each_weaker P Q more (x ∷ xs) h = (more x h.0, each_weaker P Q more xs h.1)

module _ (os : List ObjectType) (vs : List Variable) (ts : List TableData) (given : ℕ) where
  -- ---- what is well typed, with so many parameters in force

  abbrev pub is_arg : Arg → ArgTest
  is_arg = args.fold-Arg ArgTest CondTest NumTest SetTest arg_typed (cond_typed os vs ts) (num_typed vs ts) (set_typed vs ts)

  abbrev pub IsNum : Num → Type 0
  IsNum n = IsTrue (is_num os vs ts n given)

  -- a set of this object type
  abbrev pub IsSetOf : ℕ → SetEx → Type 0
  IsSetOf object s = ((is_set os vs ts s).0 ≡ object) × IsTrue ((is_set os vs ts s).1 given)

  abbrev pub IsCond : Cond → Type 0
  IsCond c = IsTrue (is_cond os vs ts c given)

  -- arguments of a `sum`, for a table with arguments of these object types
  abbrev pub AreTerms : List ℕ → List Arg → Type 0
  AreTerms objects xs = IsTrue (args_typed objects (map is_arg xs) given)

  -- ---- the tests, one step into a tree

  arg_by : (a : Arg) (form : args.Arg-F Arg Cond Num SetEx) (object : ℕ) → args.out-Arg a ≡ form → IsTrue (arg_typed (args.map-Arg Arg Cond Num SetEx ArgTest CondTest NumTest SetTest is_arg (is_cond os vs ts) (is_num os vs ts) (is_set os vs ts) form) object given) → IsTrue (is_arg a object given)
  arg_by a form object is h =
      ap (λ (t : ArgTest). t object given) (args.fold_out-Arg ArgTest CondTest NumTest SetTest arg_typed (cond_typed os vs ts) (num_typed vs ts) (set_typed vs ts) a) ∙
      ap (λ (x : args.Arg-F Arg Cond Num SetEx). arg_typed (args.map-Arg Arg Cond Num SetEx ArgTest CondTest NumTest SetTest is_arg (is_cond os vs ts) (is_num os vs ts) (is_set os vs ts) x) object given) is ∙
      h

  num_by : (n : Num) (form : nums.Num-F Arg Cond Num SetEx) → nums.out-Num n ≡ form → IsTrue (num_typed vs ts (nums.map-Num Arg Cond Num SetEx ArgTest CondTest NumTest SetTest is_arg (is_cond os vs ts) (is_num os vs ts) (is_set os vs ts) form) given) → IsNum n
  num_by n form is h =
      ap (λ (t : NumTest). t given) (nums.fold_out-Num ArgTest CondTest NumTest SetTest arg_typed (cond_typed os vs ts) (num_typed vs ts) (set_typed vs ts) n) ∙
      ap (λ (x : nums.Num-F Arg Cond Num SetEx). num_typed vs ts (nums.map-Num Arg Cond Num SetEx ArgTest CondTest NumTest SetTest is_arg (is_cond os vs ts) (is_num os vs ts) (is_set os vs ts) x) given) is ∙
      h

  cond_by : (c : Cond) (form : conds.Cond-F Arg Cond Num SetEx) → conds.out-Cond c ≡ form → IsTrue (cond_typed os vs ts (conds.map-Cond Arg Cond Num SetEx ArgTest CondTest NumTest SetTest is_arg (is_cond os vs ts) (is_num os vs ts) (is_set os vs ts) form) given) → IsCond c
  cond_by c form is h =
      ap (λ (t : CondTest). t given) (conds.fold_out-Cond ArgTest CondTest NumTest SetTest arg_typed (cond_typed os vs ts) (num_typed vs ts) (set_typed vs ts) c) ∙
      ap (λ (x : conds.Cond-F Arg Cond Num SetEx). cond_typed os vs ts (conds.map-Cond Arg Cond Num SetEx ArgTest CondTest NumTest SetTest is_arg (is_cond os vs ts) (is_num os vs ts) (is_set os vs ts) x) given) is ∙
      h

  abbrev set_step : sets.SetEx-F Arg Cond Num SetEx → SetTest
  set_step form = set_typed vs ts (sets.map-SetEx Arg Cond Num SetEx ArgTest CondTest NumTest SetTest is_arg (is_cond os vs ts) (is_num os vs ts) (is_set os vs ts) form)

  set_by : (s : SetEx) (form : sets.SetEx-F Arg Cond Num SetEx) (object : ℕ) → sets.out-SetEx s ≡ form → (set_step form).0 ≡ object → IsTrue ((set_step form).1 given) → IsSetOf object s
  set_by s form object is of h = (ap (λ (t : SetTest). t.0) same ∙ of, ap (λ (t : SetTest). t.1 given) same ∙ h) where
    same : is_set os vs ts s ≡ set_step form
    same =
        sets.fold_out-SetEx ArgTest CondTest NumTest SetTest arg_typed (cond_typed os vs ts) (num_typed vs ts) (set_typed vs ts) s ∙
        ap (λ (x : sets.SetEx-F Arg Cond Num SetEx). set_step x) is

  -- ---- several numbers, and two sets

  all_pass : (ns : List Num) → Each IsNum ns → IsTrue (list_all (λ (n : NumTest). n given) (map (is_num os vs ts) ns))
  all_pass [] h = refl
  all_pass (n ∷ ns) h = and_from (is_num os vs ts n given) (list_all (λ (n : NumTest). n given) (map (is_num os vs ts) ns)) h.0 (all_pass ns h.1)

  cell_by : (objects : List ℕ) (ns : List Num) → length ns ≡ length objects → Each IsNum ns → IsTrue (cell_typed objects (map (is_num os vs ts) ns) given)
  cell_by objects ns count h =
      and_from (length (map (is_num os vs ts) ns) == length objects) (list_all (λ (n : NumTest). n given) (map (is_num os vs ts) ns))
      (eq-eqb (length (map (is_num os vs ts) ns)) (length objects) (length-map ns (is_num os vs ts) ∙ count)) (all_pass ns h)

  both_by : (object : ℕ) (a b : SetEx) → IsSetOf object a → IsSetOf object b → IsTrue (both_sets (is_set os vs ts a) (is_set os vs ts b) given)
  both_by object a b h k =
      and_from ((is_set os vs ts a).1 given && (is_set os vs ts b).1 given) ((is_set os vs ts a).0 == (is_set os vs ts b).0)
      (and_from ((is_set os vs ts a).1 given) ((is_set os vs ts b).1 given) h.1 k.1)
      (eq-eqb (is_set os vs ts a).0 (is_set os vs ts b).0 (h.0 ∙ sym k.0))

  -- ---- numbers

  pub num_fixed : (n : ℤ) → IsTrue (is_in_range n) → IsNum (num.Fixed n)
  num_fixed n h = num_by (num.Fixed n) (nums.Num-F.Num::Fixed n) (num.outs-Fixed n) h

  pub num_var : (v : ℕ) → IsTrue (is_number_kind (kind_at vs v)) → IsNum (num.Var v)
  num_var v h = num_by (num.Var v) (nums.Num-F.Num::Var v) (num.outs-Var v) h

  pub num_param : (p : ℕ) → IsTrue (nat_lt p given) → IsNum (num.Param p)
  num_param p h = num_by (num.Param p) (nums.Num-F.Param p) (num.outs-Param p) h

  pub num_cell : (t : ℕ) (ns : List Num) → IsTrue (are_numbers (cells_at ts t)) → length ns ≡ length (args_at ts t) → Each IsNum ns → IsNum (num.Cell t ns)
  num_cell t ns h count all =
      num_by (num.Cell t ns) (nums.Num-F.Num::Cell t ns) (num.outs-Cell t ns)
      (and_from (are_numbers (cells_at ts t)) (cell_typed (args_at ts t) (map (is_num os vs ts) ns) given) h (cell_by (args_at ts t) ns count all))

  pub num_sum : (t : ℕ) (xs : List Arg) → IsTrue (is_summed (slice_get ts t)) → AreTerms (args_at ts t) xs → IsNum (num.Sum t xs)
  num_sum t xs h all =
      num_by (num.Sum t xs) (nums.Num-F.Sum t xs) (num.outs-Sum t xs)
      (and_from (is_summed (slice_get ts t)) (args_typed (args_at ts t) (map is_arg xs) given) h all)

  pub num_size : (object : ℕ) (s : SetEx) → IsSetOf object s → IsNum (num.Size s)
  num_size object s h = num_by (num.Size s) (nums.Num-F.Size s) (num.outs-Size s) h.1

  pub num_op : (op : NumOp) (a b : Num) → IsNum a → IsNum b → IsNum (num.Op op a b)
  num_op op a b h k = num_by (num.Op op a b) (nums.Num-F.Num::Op op a b) (num.outs-Op op a b) (and_from (is_num os vs ts a given) (is_num os vs ts b given) h k)

  pub num_if : (c : Cond) (a b : Num) → IsCond c → IsNum a → IsNum b → IsNum (num.If c a b)
  num_if c a b g h k =
      num_by (num.If c a b) (nums.Num-F.Num::If c a b) (num.outs-If c a b)
      (and_from (is_cond os vs ts c given && is_num os vs ts a given) (is_num os vs ts b given) (and_from (is_cond os vs ts c given) (is_num os vs ts a given) g h) k)

  -- ---- arguments of a `sum`

  pub one_fits : (object : ℕ) (n : Num) → IsNum n → IsTrue (is_arg (arg.One n) object given)
  one_fits object n h = arg_by (arg.One n) (args.Arg-F.One n) object (arg.outs-One n) h

  pub many_fits : (object : ℕ) (s : SetEx) → IsSetOf object s → IsTrue (is_arg (arg.Many s) object given)
  many_fits object s h =
      arg_by (arg.Many s) (args.Arg-F.Many s) object (arg.outs-Many s)
      (and_from ((is_set os vs ts s).1 given) ((is_set os vs ts s).0 == object) h.1 (eq-eqb (is_set os vs ts s).0 object h.0))

  -- ---- sets

  pub set_var : (v object : ℕ) → kind_object (kind_at vs v) ≡ object → IsTrue (is_set_kind (kind_at vs v)) → IsSetOf object (set.Var v)
  set_var v object of h = set_by (set.Var v) (sets.SetEx-F.SetEx::Var v) object (set.outs-Var v) of h

  pub set_cell : (t : ℕ) (ns : List Num) (object : ℕ) → sets_object (cells_at ts t) ≡ object → IsTrue (are_sets (cells_at ts t)) → length ns ≡ length (args_at ts t) → Each IsNum ns → IsSetOf object (set.Cell t ns)
  set_cell t ns object of h count all =
      set_by (set.Cell t ns) (sets.SetEx-F.SetEx::Cell t ns) object (set.outs-Cell t ns) of
      (and_from (are_sets (cells_at ts t)) (cell_typed (args_at ts t) (map (is_num os vs ts) ns) given) h (cell_by (args_at ts t) ns count all))

  pub set_op : (op : SetOp) (object : ℕ) (a b : SetEx) → IsSetOf object a → IsSetOf object b → IsSetOf object (set.Op op a b)
  set_op op object a b h k = set_by (set.Op op a b) (sets.SetEx-F.SetEx::Op op a b) object (set.outs-Op op a b) h.0 (both_by object a b h k)

  pub set_not : (object : ℕ) (a : SetEx) → IsSetOf object a → IsSetOf object (set.Not a)
  set_not object a h = set_by (set.Not a) (sets.SetEx-F.SetEx::Not a) object (set.outs-Not a) h.0 h.1

  pub set_with : (object : ℕ) (n : Num) (a : SetEx) → IsNum n → IsSetOf object a → IsSetOf object (set.With n a)
  set_with object n a g h =
      set_by (set.With n a) (sets.SetEx-F.With n a) object (set.outs-With n a) h.0 (and_from (is_num os vs ts n given) ((is_set os vs ts a).1 given) g h.1)

  pub set_without : (object : ℕ) (n : Num) (a : SetEx) → IsNum n → IsSetOf object a → IsSetOf object (set.Without n a)
  set_without object n a g h =
      set_by (set.Without n a) (sets.SetEx-F.Without n a) object (set.outs-Without n a) h.0 (and_from (is_num os vs ts n given) ((is_set os vs ts a).1 given) g h.1)

  pub set_if : (c : Cond) (object : ℕ) (a b : SetEx) → IsCond c → IsSetOf object a → IsSetOf object b → IsSetOf object (set.If c a b)
  set_if c object a b g h k =
      set_by (set.If c a b) (sets.SetEx-F.SetEx::If c a b) object (set.outs-If c a b) h.0
      (and_from (is_cond os vs ts c given) (both_sets (is_set os vs ts a) (is_set os vs ts b) given) g (both_by object a b h k))

  -- ---- conditions

  pub cond_fixed : (b : Bool) → IsCond (cond.Fixed b)
  cond_fixed b = cond_by (cond.Fixed b) (conds.Cond-F.Cond::Fixed b) (cond.outs-Fixed b) refl

  pub cond_cell : (t : ℕ) (ns : List Num) → IsTrue (are_truths (cells_at ts t)) → length ns ≡ length (args_at ts t) → Each IsNum ns → IsCond (cond.Cell t ns)
  cond_cell t ns h count all =
      cond_by (cond.Cell t ns) (conds.Cond-F.Cond::Cell t ns) (cond.outs-Cell t ns)
      (and_from (are_truths (cells_at ts t)) (cell_typed (args_at ts t) (map (is_num os vs ts) ns) given) h (cell_by (args_at ts t) ns count all))

  pub cond_numbers : (op : Compare) (a b : Num) → IsNum a → IsNum b → IsCond (cond.Numbers op a b)
  cond_numbers op a b h k =
      cond_by (cond.Numbers op a b) (conds.Cond-F.Numbers op a b) (cond.outs-Numbers op a b) (and_from (is_num os vs ts a given) (is_num os vs ts b given) h k)

  pub cond_same : (object : ℕ) (a b : SetEx) → IsSetOf object a → IsSetOf object b → IsCond (cond.SameSet a b)
  cond_same object a b h k = cond_by (cond.SameSet a b) (conds.Cond-F.SameSet a b) (cond.outs-SameSet a b) (both_by object a b h k)

  pub cond_other : (object : ℕ) (a b : SetEx) → IsSetOf object a → IsSetOf object b → IsCond (cond.OtherSet a b)
  cond_other object a b h k = cond_by (cond.OtherSet a b) (conds.Cond-F.OtherSet a b) (cond.outs-OtherSet a b) (both_by object a b h k)

  pub cond_in : (object : ℕ) (n : Num) (a : SetEx) → IsNum n → IsSetOf object a → IsCond (cond.IsIn n a)
  cond_in object n a h k =
      cond_by (cond.IsIn n a) (conds.Cond-F.IsIn n a) (cond.outs-IsIn n a) (and_from (is_num os vs ts n given) ((is_set os vs ts a).1 given) h k.1)

  pub cond_subset : (object : ℕ) (a b : SetEx) → IsSetOf object a → IsSetOf object b → IsCond (cond.Subset a b)
  cond_subset object a b h k = cond_by (cond.Subset a b) (conds.Cond-F.Subset a b) (cond.outs-Subset a b) (both_by object a b h k)

  pub cond_empty : (object : ℕ) (a : SetEx) → IsSetOf object a → IsCond (cond.Empty a)
  cond_empty object a h = cond_by (cond.Empty a) (conds.Cond-F.Empty a) (cond.outs-Empty a) h.1

  pub cond_not : (c : Cond) → IsCond c → IsCond (cond.Not c)
  cond_not c h = cond_by (cond.Not c) (conds.Cond-F.Cond::Not c) (cond.outs-Not c) h

  pub cond_and : (a b : Cond) → IsCond a → IsCond b → IsCond (cond.And a b)
  cond_and a b h k = cond_by (cond.And a b) (conds.Cond-F.And a b) (cond.outs-And a b) (and_from (is_cond os vs ts a given) (is_cond os vs ts b given) h k)

  pub cond_or : (a b : Cond) → IsCond a → IsCond b → IsCond (cond.Or a b)
  cond_or a b h k = cond_by (cond.Or a b) (conds.Cond-F.Or a b) (cond.outs-Or a b) (and_from (is_cond os vs ts a given) (is_cond os vs ts b given) h k)

  pub cond_if : (c a b : Cond) → IsCond c → IsCond a → IsCond b → IsCond (cond.If c a b)
  cond_if c a b g h k =
      cond_by (cond.If c a b) (conds.Cond-F.Cond::If c a b) (cond.outs-If c a b)
      (and_from (is_cond os vs ts c given && is_cond os vs ts a given) (is_cond os vs ts b given) (and_from (is_cond os vs ts c given) (is_cond os vs ts a given) g h) k)
