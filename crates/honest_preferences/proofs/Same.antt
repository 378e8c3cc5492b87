-- An expression that leaves the variables with kept preferences out has one value in two states that agree on all others.
use Rattle.std.proofs.Common.{◌≡◌, ℕ, Bool, true, false, not, ◌&&◌, ◌||◌, if◌then◌else◌, ◌==◌, ◌⊎◌, inl, inr, List, [], ◌∷◌, ◌++◌, length, map, slice_get, Option, Result, Ok, ℤ, pos, refl, sym, ap, ap₂, subst, ◌∙◌}
use Rattle.std.proofs.Math.Path.{fun_ext}
use Rattle.std.specs.List.{list_all}
use Rattle.std.specs.Str.{bytes_eq}
use Rattle.dp_base.specs.Results.{◌>>=◌, in_turn}
use Rattle.dp_model.specs.Costs.{ranged}
use Rattle.dp_model.specs.Evaluation.{NumValue, CondValue, SetValue, ArgValue, arg_step, cond_step, num_step, set_step, num_value, set_value, cond_value, operate, compares, count_of, table_counts, cells_of, place_in, total_of, members_of, choices_of, member_of, members_where, set_operation, has, ways, number_cell, truth_cell, set_cell, set_held, number_held, range_of, each_holds}
use Rattle.dp_model.specs.declared.answers.FaultKind.{FaultKind}
use Rattle.dp_model.specs.declared.trees.Over.{Over}
use Rattle.dp_model.specs.declared.trees.Over.TheVariants.{Object, Members}
use Rattle.dp_model.specs.declared.trees.Arg as args
use Rattle.dp_model.specs.declared.trees.Num as nums
use Rattle.dp_model.specs.declared.trees.SetEx as sets
use Rattle.dp_model.specs.declared.trees.Cond as conds
use Rattle.dp_model.specs.declared.parts.PlainValue.{PlainValue}
use Rattle.dp_model.specs.declared.parts.PlainState.{PlainState}
use Rattle.dp_model.specs.declared.whole.Model.{Model}
use Rattle.honest_preferences.specs.Leaving.{all_leave, arg_leaves, cond_leaves, is_kept, leaves_arg, leaves_cond, leaves_num, leaves_set, num_leaves, over_leaves, set_leaves}
use Rattle.honest_preferences.proofs.Agreeing.{not_kept}

pub both : (a b : Bool) → (a && b) ≡ true → (a ≡ true) × (b ≡ true)
both true b h = (refl, h)
both false b h = absurd cc

one_same : {A C : Type 0} (r q : Result A FaultKind) (f : A → Result C FaultKind) → r ≡ q → (r >>= f) ≡ (q >>= f)
one_same {A = A} r q f e = ap (λ (x : Result A FaultKind). x >>= f) e

two_same : {A B C : Type 0} (r q : Result A FaultKind) (x y : Result B FaultKind) (f : A → B → Result C FaultKind) → r ≡ q → x ≡ y → (r >>= λ a. x >>= λ b. f a b) ≡ (q >>= λ a. y >>= λ b. f a b)
two_same {A = A} {B = B} r q x y f e d = ap₂ (λ (u : Result A FaultKind) (v : Result B FaultKind). u >>= λ a. v >>= λ b. f a b) e d

pub if_same : {A : Type 0} (c d : Result Bool FaultKind) (x y u v : Result A FaultKind) → c ≡ d → x ≡ y → u ≡ v → (c >>= λ held. if held then x else u) ≡ (d >>= λ held. if held then y else v)
if_same {A = A} c d x y u v e p q =
    ap₂ (λ (r : Result Bool FaultKind) (w : Result A FaultKind). r >>= λ held. if held then w else u) e p ∙ ap (λ (w : Result A FaultKind). d >>= λ held. if held then y else w) q

module _ (m : Model) (kept : List Bool) (s other : PlainState) (agree : (v : ℕ) → is_kept kept v ≡ false → slice_get s.values v ≡ slice_get other.values v) where
  abbrev arg_value : PlainState → args.Arg → ArgValue
  arg_value x = args.fold-Arg ArgValue CondValue NumValue SetValue arg_step (cond_step m x) (num_step m x) (set_step m x)

  abbrev ArgSame : args.Arg → Type 0
  ArgSame e = leaves_arg kept e ≡ true → (given : List ℕ) → arg_value s e given ≡ arg_value other e given

  abbrev CondSame : conds.Cond → Type 0
  CondSame e = leaves_cond kept e ≡ true → (given : List ℕ) → cond_value m s e given ≡ cond_value m other e given

  abbrev NumSame : nums.Num → Type 0
  NumSame e = leaves_num kept e ≡ true → (given : List ℕ) → num_value m s e given ≡ num_value m other e given

  abbrev SameSets : SetValue → SetValue → Type 0
  SameSets a b = (a.0 ≡ b.0) × ((given : List ℕ) → a.1 given ≡ b.1 given)

  abbrev SetSame : sets.SetEx → Type 0
  SetSame e = leaves_set kept e ≡ true → SameSets (set_value m s e) (set_value m other e)

  abbrev AnArg : Type 0
  AnArg = (e : args.Arg) × ArgSame e

  abbrev ACond : Type 0
  ACond = (e : conds.Cond) × CondSame e

  abbrev ANum : Type 0
  ANum = (e : nums.Num) × NumSame e

  abbrev ASet : Type 0
  ASet = (e : sets.SetEx) × SetSame e

  abbrev arg_under : args.Arg-F AnArg ACond ANum ASet → args.Arg-F args.Arg conds.Cond nums.Num sets.SetEx
  arg_under = args.map-Arg AnArg ACond ANum ASet args.Arg conds.Cond nums.Num sets.SetEx (λ e. e.0) (λ e. e.0) (λ e. e.0) (λ e. e.0)

  abbrev cond_under : conds.Cond-F AnArg ACond ANum ASet → conds.Cond-F args.Arg conds.Cond nums.Num sets.SetEx
  cond_under = conds.map-Cond AnArg ACond ANum ASet args.Arg conds.Cond nums.Num sets.SetEx (λ e. e.0) (λ e. e.0) (λ e. e.0) (λ e. e.0)

  abbrev num_under : nums.Num-F AnArg ACond ANum ASet → nums.Num-F args.Arg conds.Cond nums.Num sets.SetEx
  num_under = nums.map-Num AnArg ACond ANum ASet args.Arg conds.Cond nums.Num sets.SetEx (λ e. e.0) (λ e. e.0) (λ e. e.0) (λ e. e.0)

  abbrev set_under : sets.SetEx-F AnArg ACond ANum ASet → sets.SetEx-F args.Arg conds.Cond nums.Num sets.SetEx
  set_under = sets.map-SetEx AnArg ACond ANum ASet args.Arg conds.Cond nums.Num sets.SetEx (λ e. e.0) (λ e. e.0) (λ e. e.0) (λ e. e.0)

  -- one layer of a tree: whether it leaves them out, and what it stands for

  abbrev arg_leaf : args.Arg-F args.Arg conds.Cond nums.Num sets.SetEx → Bool
  arg_leaf x = arg_leaves (args.map-Arg args.Arg conds.Cond nums.Num sets.SetEx Bool Bool Bool Bool (leaves_arg kept) (leaves_cond kept) (leaves_num kept) (leaves_set kept) x)

  abbrev cond_leaf : conds.Cond-F args.Arg conds.Cond nums.Num sets.SetEx → Bool
  cond_leaf x = cond_leaves kept (conds.map-Cond args.Arg conds.Cond nums.Num sets.SetEx Bool Bool Bool Bool (leaves_arg kept) (leaves_cond kept) (leaves_num kept) (leaves_set kept) x)

  abbrev num_leaf : nums.Num-F args.Arg conds.Cond nums.Num sets.SetEx → Bool
  num_leaf x = num_leaves kept (nums.map-Num args.Arg conds.Cond nums.Num sets.SetEx Bool Bool Bool Bool (leaves_arg kept) (leaves_cond kept) (leaves_num kept) (leaves_set kept) x)

  abbrev set_leaf : sets.SetEx-F args.Arg conds.Cond nums.Num sets.SetEx → Bool
  set_leaf x = set_leaves kept (sets.map-SetEx args.Arg conds.Cond nums.Num sets.SetEx Bool Bool Bool Bool (leaves_arg kept) (leaves_cond kept) (leaves_num kept) (leaves_set kept) x)

  abbrev arg_layer : PlainState → args.Arg-F args.Arg conds.Cond nums.Num sets.SetEx → ArgValue
  arg_layer y x = arg_step (args.map-Arg args.Arg conds.Cond nums.Num sets.SetEx ArgValue CondValue NumValue SetValue (arg_value y) (cond_value m y) (num_value m y) (set_value m y) x)

  abbrev cond_layer : PlainState → conds.Cond-F args.Arg conds.Cond nums.Num sets.SetEx → CondValue
  cond_layer y x = cond_step m y (conds.map-Cond args.Arg conds.Cond nums.Num sets.SetEx ArgValue CondValue NumValue SetValue (arg_value y) (cond_value m y) (num_value m y) (set_value m y) x)

  abbrev num_layer : PlainState → nums.Num-F args.Arg conds.Cond nums.Num sets.SetEx → NumValue
  num_layer y x = num_step m y (nums.map-Num args.Arg conds.Cond nums.Num sets.SetEx ArgValue CondValue NumValue SetValue (arg_value y) (cond_value m y) (num_value m y) (set_value m y) x)

  abbrev set_layer : PlainState → sets.SetEx-F args.Arg conds.Cond nums.Num sets.SetEx → SetValue
  set_layer y x = set_step m y (sets.map-SetEx args.Arg conds.Cond nums.Num sets.SetEx ArgValue CondValue NumValue SetValue (arg_value y) (cond_value m y) (num_value m y) (set_value m y) x)

  -- the arguments of a cell and of a `sum`

  abbrev numbers : PlainState → List ANum → List ℕ → Result (List ℤ) FaultKind
  numbers y ns given = in_turn (λ (n : NumValue). n given) (map (num_value m y) (map (λ (e : ANum). e.0) ns))

  numbers_same : (ns : List ANum) → all_leave (map (leaves_num kept) (map (λ (e : ANum). e.0) ns)) ≡ true → (given : List ℕ) → numbers s ns given ≡ numbers other ns given
  numbers_same [] h given = refl
  numbers_same (n ∷ ns) h given =
      let hs = both (leaves_num kept n.0) (all_leave (map (leaves_num kept) (map (λ (e : ANum). e.0) ns))) h in
      two_same (num_value m s n.0 given) (num_value m other n.0 given) (numbers s ns given) (numbers other ns given) (λ z zs. Ok (z ∷ zs)) (n.1 hs.0 given) (numbers_same ns hs.1 given)

  abbrev terms : PlainState → List AnArg → List ℕ → Result (List (ℤ ⊎ List ℕ)) FaultKind
  terms y es given = in_turn (λ (a : ArgValue). a given) (map (arg_value y) (map (λ (e : AnArg). e.0) es))

  terms_same : (es : List AnArg) → all_leave (map (leaves_arg kept) (map (λ (e : AnArg). e.0) es)) ≡ true → (given : List ℕ) → terms s es given ≡ terms other es given
  terms_same [] h given = refl
  terms_same (e ∷ es) h given =
      let hs = both (leaves_arg kept e.0) (all_leave (map (leaves_arg kept) (map (λ (e : AnArg). e.0) es))) h in
      two_same (arg_value s e.0 given) (arg_value other e.0 given) (terms s es given) (terms other es given) (λ z zs. Ok (z ∷ zs)) (e.1 hs.0 given) (terms_same es hs.1 given)

  pub range_same : (over : Over) → over_leaves kept over ≡ true → range_of m s over ≡ range_of m other over
  range_same (Object object) h = refl
  range_same (Members v) h = ap set_held (agree v (not_kept (is_kept kept v) h))

  -- ---- each form

  arg_case : (y : args.Arg-F AnArg ACond ANum ASet) → arg_leaf (arg_under y) ≡ true → (given : List ℕ) → arg_layer s (arg_under y) given ≡ arg_layer other (arg_under y) given
  arg_case (args.Arg-F.One n) h given = one_same (num_value m s n.0 given) (num_value m other n.0 given) (λ z. Ok (inl z)) (n.1 h given)
  arg_case (args.Arg-F.Many a) h given = one_same ((set_value m s a.0).1 given) ((set_value m other a.0).1 given) (λ xs. Ok (inr xs)) ((a.1 h).1 given)

  cond_case : (y : conds.Cond-F AnArg ACond ANum ASet) → cond_leaf (cond_under y) ≡ true → (given : List ℕ) → cond_layer s (cond_under y) given ≡ cond_layer other (cond_under y) given
  cond_case (conds.Cond-F.Cond::Fixed b) h given = refl
  cond_case (conds.Cond-F.Cond::Cell t ns) h given =
      one_same (numbers s ns given) (numbers other ns given) (λ zs. members_of (table_counts m t) zs >>= λ members. Ok (truth_cell (cells_of m t) (place_in m t members))) (numbers_same ns h given)
  cond_case (conds.Cond-F.Numbers op a b) h given =
      let hs = both (leaves_num kept a.0) (leaves_num kept b.0) h in
      two_same (num_value m s a.0 given) (num_value m other a.0 given) (num_value m s b.0 given) (num_value m other b.0 given) (λ x y. Ok (compares op x y)) (a.1 hs.0 given) (b.1 hs.1 given)
  cond_case (conds.Cond-F.SameSet a b) h given =
      let hs = both (leaves_set kept a.0) (leaves_set kept b.0) h in
      two_same ((set_value m s a.0).1 given) ((set_value m other a.0).1 given) ((set_value m s b.0).1 given) ((set_value m other b.0).1 given) (λ x y. Ok (bytes_eq x y)) ((a.1 hs.0).1 given) ((b.1 hs.1).1 given)
  cond_case (conds.Cond-F.OtherSet a b) h given =
      let hs = both (leaves_set kept a.0) (leaves_set kept b.0) h in
      one_same ((set_value m s a.0).1 given >>= λ x. (set_value m s b.0).1 given >>= λ y. Ok (bytes_eq x y)) ((set_value m other a.0).1 given >>= λ x. (set_value m other b.0).1 given >>= λ y. Ok (bytes_eq x y)) (λ held. Ok (not held))
      (two_same ((set_value m s a.0).1 given) ((set_value m other a.0).1 given) ((set_value m s b.0).1 given) ((set_value m other b.0).1 given) (λ x y. Ok (bytes_eq x y)) ((a.1 hs.0).1 given) ((b.1 hs.1).1 given))
  cond_case (conds.Cond-F.IsIn n a) h given =
      let hs = both (leaves_num kept n.0) (leaves_set kept a.0) h in
      two_same (num_value m s n.0 given) (num_value m other n.0 given) ((set_value m s a.0).1 given) ((set_value m other a.0).1 given) (λ z members. member_of (count_of m (set_value m s a.0).0) z >>= λ k. Ok (has members k)) (n.1 hs.0 given) ((a.1 hs.1).1 given)
      ∙ ap (λ (object : ℕ). num_value m other n.0 given >>= λ z. (set_value m other a.0).1 given >>= λ members. member_of (count_of m object) z >>= λ k. Ok (has members k)) (a.1 hs.1).0
  cond_case (conds.Cond-F.Subset a b) h given =
      let hs = both (leaves_set kept a.0) (leaves_set kept b.0) h in
      two_same ((set_value m s a.0).1 given) ((set_value m other a.0).1 given) ((set_value m s b.0).1 given) ((set_value m other b.0).1 given) (λ x y. Ok (list_all (has y) x)) ((a.1 hs.0).1 given) ((b.1 hs.1).1 given)
  cond_case (conds.Cond-F.Empty a) h given = one_same ((set_value m s a.0).1 given) ((set_value m other a.0).1 given) (λ x. Ok (length x == 0)) ((a.1 h).1 given)
  cond_case (conds.Cond-F.Cond::Not c) h given = one_same (cond_value m s c.0 given) (cond_value m other c.0 given) (λ held. Ok (not held)) (c.1 h given)
  cond_case (conds.Cond-F.And a b) h given =
      let hs = both (leaves_cond kept a.0) (leaves_cond kept b.0) h in
      if_same (cond_value m s a.0 given) (cond_value m other a.0 given) (cond_value m s b.0 given) (cond_value m other b.0 given) (Ok false) (Ok false) (a.1 hs.0 given) (b.1 hs.1 given) refl
  cond_case (conds.Cond-F.Or a b) h given =
      let hs = both (leaves_cond kept a.0) (leaves_cond kept b.0) h in
      if_same (cond_value m s a.0 given) (cond_value m other a.0 given) (Ok true) (Ok true) (cond_value m s b.0 given) (cond_value m other b.0 given) (a.1 hs.0 given) refl (b.1 hs.1 given)
  cond_case (conds.Cond-F.Cond::If c a b) h given =
      let hs = both (leaves_cond kept c.0) (leaves_cond kept a.0 && leaves_cond kept b.0) h in
      let hs' = both (leaves_cond kept a.0) (leaves_cond kept b.0) hs.1 in
      if_same (cond_value m s c.0 given) (cond_value m other c.0 given) (cond_value m s a.0 given) (cond_value m other a.0 given) (cond_value m s b.0 given) (cond_value m other b.0 given) (c.1 hs.0 given) (a.1 hs'.0 given) (b.1 hs'.1 given)
  cond_case (conds.Cond-F.All over c) h given =
      let hs = both (over_leaves kept over) (leaves_cond kept c.0) h in
      ap₂ (λ (f : ℕ → Result Bool FaultKind) (ks : List ℕ). each_holds f ks) (fun_ext (λ k. c.1 hs.1 (given ++ k ∷ []))) (range_same over hs.0)

  num_case : (y : nums.Num-F AnArg ACond ANum ASet) → num_leaf (num_under y) ≡ true → (given : List ℕ) → num_layer s (num_under y) given ≡ num_layer other (num_under y) given
  num_case (nums.Num-F.Num::Fixed n) h given = refl
  num_case (nums.Num-F.Num::Var v) h given = ap (λ (x : Option PlainValue). Ok (number_held x)) (agree v (not_kept (is_kept kept v) h))
  num_case (nums.Num-F.Param p) h given = refl
  num_case (nums.Num-F.Num::Cell t ns) h given =
      one_same (numbers s ns given) (numbers other ns given) (λ zs. members_of (table_counts m t) zs >>= λ members. Ok (number_cell (cells_of m t) (place_in m t members))) (numbers_same ns h given)
  num_case (nums.Num-F.Sum t es) h given =
      one_same (terms s es given) (terms other es given) (λ xs. choices_of (table_counts m t) xs >>= λ choices. ranged (total_of m t (ways choices))) (terms_same es h given)
  num_case (nums.Num-F.Size a) h given = one_same ((set_value m s a.0).1 given) ((set_value m other a.0).1 given) (λ x. Ok (pos (length x))) ((a.1 h).1 given)
  num_case (nums.Num-F.Num::Op op a b) h given =
      let hs = both (leaves_num kept a.0) (leaves_num kept b.0) h in
      two_same (num_value m s a.0 given) (num_value m other a.0 given) (num_value m s b.0 given) (num_value m other b.0 given) (λ x y. operate op x y) (a.1 hs.0 given) (b.1 hs.1 given)
  num_case (nums.Num-F.Num::If c a b) h given =
      let hs = both (leaves_cond kept c.0) (leaves_num kept a.0 && leaves_num kept b.0) h in
      let hs' = both (leaves_num kept a.0) (leaves_num kept b.0) hs.1 in
      if_same (cond_value m s c.0 given) (cond_value m other c.0 given) (num_value m s a.0 given) (num_value m other a.0 given) (num_value m s b.0 given) (num_value m other b.0 given) (c.1 hs.0 given) (a.1 hs'.0 given) (b.1 hs'.1 given)

  set_case : (y : sets.SetEx-F AnArg ACond ANum ASet) → set_leaf (set_under y) ≡ true → SameSets (set_layer s (set_under y)) (set_layer other (set_under y))
  set_case (sets.SetEx-F.SetEx::Var v) h = (refl, λ given. ap (λ (x : Option PlainValue). Ok (set_held x)) (agree v (not_kept (is_kept kept v) h)))
  set_case (sets.SetEx-F.SetEx::Cell t ns) h = (
    refl,
    λ given.
        one_same (numbers s ns given) (numbers other ns given) (λ zs. members_of (table_counts m t) zs >>= λ members. Ok (set_cell (cells_of m t) (place_in m t members))) (numbers_same ns h given),
  )
  set_case (sets.SetEx-F.SetEx::Op op a b) h =
      let hs = both (leaves_set kept a.0) (leaves_set kept b.0) h in (
        (a.1 hs.0).0,
        λ given.
            two_same ((set_value m s a.0).1 given) ((set_value m other a.0).1 given) ((set_value m s b.0).1 given) ((set_value m other b.0).1 given) (λ x y. Ok (set_operation op (count_of m (set_value m s a.0).0) x y)) ((a.1 hs.0).1 given) ((b.1 hs.1).1 given)
            ∙ ap (λ (object : ℕ). (set_value m other a.0).1 given >>= λ x. (set_value m other b.0).1 given >>= λ y. Ok (set_operation op (count_of m object) x y)) (a.1 hs.0).0,
      )
  set_case (sets.SetEx-F.SetEx::Not a) h = (
    (a.1 h).0,
    λ given.
        one_same ((set_value m s a.0).1 given) ((set_value m other a.0).1 given) (λ x. Ok (members_where (count_of m (set_value m s a.0).0) (λ k. not (has x k)))) ((a.1 h).1 given)
        ∙ ap (λ (object : ℕ). (set_value m other a.0).1 given >>= λ x. Ok (members_where (count_of m object) (λ k. not (has x k)))) (a.1 h).0,
  )
  set_case (sets.SetEx-F.With n a) h =
      let hs = both (leaves_num kept n.0) (leaves_set kept a.0) h in (
        (a.1 hs.1).0,
        λ given.
            two_same (num_value m s n.0 given) (num_value m other n.0 given) ((set_value m s a.0).1 given) ((set_value m other a.0).1 given)
            (λ z x. member_of (count_of m (set_value m s a.0).0) z >>= λ e. Ok (members_where (count_of m (set_value m s a.0).0) (λ k. k == e || has x k))) (n.1 hs.0 given) ((a.1 hs.1).1 given)
            ∙ ap (λ (object : ℕ). num_value m other n.0 given >>= λ z. (set_value m other a.0).1 given >>= λ x. member_of (count_of m object) z >>= λ e. Ok (members_where (count_of m object) (λ k. k == e || has x k))) (a.1 hs.1).0,
      )
  set_case (sets.SetEx-F.Without n a) h =
      let hs = both (leaves_num kept n.0) (leaves_set kept a.0) h in (
        (a.1 hs.1).0,
        λ given.
            two_same (num_value m s n.0 given) (num_value m other n.0 given) ((set_value m s a.0).1 given) ((set_value m other a.0).1 given)
            (λ z x. member_of (count_of m (set_value m s a.0).0) z >>= λ e. Ok (members_where (count_of m (set_value m s a.0).0) (λ k. not (k == e) && has x k))) (n.1 hs.0 given) ((a.1 hs.1).1 given)
            ∙ ap (λ (object : ℕ). num_value m other n.0 given >>= λ z. (set_value m other a.0).1 given >>= λ x. member_of (count_of m object) z >>= λ e. Ok (members_where (count_of m object) (λ k. not (k == e) && has x k))) (a.1 hs.1).0,
      )
  set_case (sets.SetEx-F.SetEx::If c a b) h =
      let hs = both (leaves_cond kept c.0) (leaves_set kept a.0 && leaves_set kept b.0) h in
      let hs' = both (leaves_set kept a.0) (leaves_set kept b.0) hs.1 in (
        (a.1 hs'.0).0,
        λ given.
            if_same (cond_value m s c.0 given) (cond_value m other c.0 given) ((set_value m s a.0).1 given) ((set_value m other a.0).1 given) ((set_value m s b.0).1 given) ((set_value m other b.0).1 given) (c.1 hs.0 given) ((a.1 hs'.0).1 given) ((b.1 hs'.1).1 given),
      )

  -- ---- whole trees

  arg_made : (x : args.Arg-F args.Arg conds.Cond nums.Num sets.SetEx) (y : args.Arg-F AnArg ACond ANum ASet) → arg_under y ≡ x → ArgSame (args.roll-Arg x)
  arg_made x y p =
      subst (λ (x : args.Arg-F args.Arg conds.Cond nums.Num sets.SetEx). ArgSame (args.roll-Arg x)) p
      (λ h given.
      let leaf = args.fold-roll-Arg Bool Bool Bool Bool arg_leaves (cond_leaves kept) (num_leaves kept) (set_leaves kept) (arg_under y) in
      let here = args.fold-roll-Arg ArgValue CondValue NumValue SetValue arg_step (cond_step m s) (num_step m s) (set_step m s) (arg_under y) in
      let there = args.fold-roll-Arg ArgValue CondValue NumValue SetValue arg_step (cond_step m other) (num_step m other) (set_step m other) (arg_under y) in
      ap (λ (f : ArgValue). f given) here ∙ (arg_case y (sym leaf ∙ h) given ∙ sym (ap (λ (f : ArgValue). f given) there)))

  cond_made : (x : conds.Cond-F args.Arg conds.Cond nums.Num sets.SetEx) (y : conds.Cond-F AnArg ACond ANum ASet) → cond_under y ≡ x → CondSame (conds.roll-Cond x)
  cond_made x y p =
      subst (λ (x : conds.Cond-F args.Arg conds.Cond nums.Num sets.SetEx). CondSame (conds.roll-Cond x)) p
      (λ h given.
      let leaf = conds.fold-roll-Cond Bool Bool Bool Bool arg_leaves (cond_leaves kept) (num_leaves kept) (set_leaves kept) (cond_under y) in
      let here = conds.fold-roll-Cond ArgValue CondValue NumValue SetValue arg_step (cond_step m s) (num_step m s) (set_step m s) (cond_under y) in
      let there = conds.fold-roll-Cond ArgValue CondValue NumValue SetValue arg_step (cond_step m other) (num_step m other) (set_step m other) (cond_under y) in
      ap (λ (f : CondValue). f given) here ∙ (cond_case y (sym leaf ∙ h) given ∙ sym (ap (λ (f : CondValue). f given) there)))

  num_made : (x : nums.Num-F args.Arg conds.Cond nums.Num sets.SetEx) (y : nums.Num-F AnArg ACond ANum ASet) → num_under y ≡ x → NumSame (nums.roll-Num x)
  num_made x y p =
      subst (λ (x : nums.Num-F args.Arg conds.Cond nums.Num sets.SetEx). NumSame (nums.roll-Num x)) p
      (λ h given.
      let leaf = nums.fold-roll-Num Bool Bool Bool Bool arg_leaves (cond_leaves kept) (num_leaves kept) (set_leaves kept) (num_under y) in
      let here = nums.fold-roll-Num ArgValue CondValue NumValue SetValue arg_step (cond_step m s) (num_step m s) (set_step m s) (num_under y) in
      let there = nums.fold-roll-Num ArgValue CondValue NumValue SetValue arg_step (cond_step m other) (num_step m other) (set_step m other) (num_under y) in
      ap (λ (f : NumValue). f given) here ∙ (num_case y (sym leaf ∙ h) given ∙ sym (ap (λ (f : NumValue). f given) there)))

  set_made : (x : sets.SetEx-F args.Arg conds.Cond nums.Num sets.SetEx) (y : sets.SetEx-F AnArg ACond ANum ASet) → set_under y ≡ x → SetSame (sets.roll-SetEx x)
  set_made x y p =
      subst (λ (x : sets.SetEx-F args.Arg conds.Cond nums.Num sets.SetEx). SetSame (sets.roll-SetEx x)) p
      (λ h.
      let leaf = sets.fold-roll-SetEx Bool Bool Bool Bool arg_leaves (cond_leaves kept) (num_leaves kept) (set_leaves kept) (set_under y) in
      let here = sets.fold-roll-SetEx ArgValue CondValue NumValue SetValue arg_step (cond_step m s) (num_step m s) (set_step m s) (set_under y) in
      let there = sets.fold-roll-SetEx ArgValue CondValue NumValue SetValue arg_step (cond_step m other) (num_step m other) (set_step m other) (set_under y) in
      subst (λ (v : SetValue). SameSets v (set_value m other (sets.roll-SetEx (set_under y)))) (sym here)
      (subst (λ (v : SetValue). SameSets (set_layer s (set_under y)) v) (sym there) (set_case y (sym leaf ∙ h))))

  pub arg_same : (e : args.Arg) → ArgSame e
  arg_same e = args.ind-Arg ArgSame CondSame NumSame SetSame arg_made cond_made num_made set_made e

  pub num_same : (e : nums.Num) → NumSame e
  num_same e = nums.ind-Num ArgSame CondSame NumSame SetSame arg_made cond_made num_made set_made e

  pub cond_same : (e : conds.Cond) → CondSame e
  cond_same e = conds.ind-Cond ArgSame CondSame NumSame SetSame arg_made cond_made num_made set_made e

  pub set_same : (e : sets.SetEx) → SetSame e
  set_same e = sets.ind-SetEx ArgSame CondSame NumSame SetSame arg_made cond_made num_made set_made e
