-- Expressions that leave the variables with kept preferences out: a fold, one line for each form.
use Rattle.std.specs.Prelude.{ℕ, Bool, true, false, not, ◌&&◌, List, slice_get, unwrap_or}
use Rattle.std.specs.List.{list_all}
use Rattle.dp_model.specs.declared.trees.Over.{Over}
use Rattle.dp_model.specs.declared.trees.Over.TheVariants.{Object, Members}
use Rattle.dp_model.specs.declared.trees.Arg as args
use Rattle.dp_model.specs.declared.trees.Num as nums
use Rattle.dp_model.specs.declared.trees.SetEx as sets
use Rattle.dp_model.specs.declared.trees.Cond as conds

-- whether the preference of this variable is kept
abbrev pub is_kept : List Bool → ℕ → Bool
is_kept kept v = unwrap_or (slice_get kept v) false

abbrev pub over_leaves : List Bool → Over → Bool
over_leaves kept (Object object) = true
over_leaves kept (Members v) = not (is_kept kept v)

abbrev pub all_leave : List Bool → Bool
all_leave parts = list_all (λ (b : Bool). b) parts

-- each form, given whether its parts leave them out

abbrev pub arg_leaves : args.Arg-F Bool Bool Bool Bool → Bool
arg_leaves (args.Arg-F.One n) = n
arg_leaves (args.Arg-F.Many a) = a

abbrev pub cond_leaves : List Bool → conds.Cond-F Bool Bool Bool Bool → Bool
cond_leaves kept (conds.Cond-F.Cond::Fixed b) = true
cond_leaves kept (conds.Cond-F.Cond::Cell t ns) = all_leave ns
cond_leaves kept (conds.Cond-F.Numbers op a b) = a && b
cond_leaves kept (conds.Cond-F.SameSet a b) = a && b
cond_leaves kept (conds.Cond-F.OtherSet a b) = a && b
cond_leaves kept (conds.Cond-F.IsIn n a) = n && a
cond_leaves kept (conds.Cond-F.Subset a b) = a && b
cond_leaves kept (conds.Cond-F.Empty a) = a
cond_leaves kept (conds.Cond-F.Cond::Not c) = c
cond_leaves kept (conds.Cond-F.And a b) = a && b
cond_leaves kept (conds.Cond-F.Or a b) = a && b
cond_leaves kept (conds.Cond-F.Cond::If c a b) = c && (a && b)
cond_leaves kept (conds.Cond-F.All over c) = over_leaves kept over && c

abbrev pub num_leaves : List Bool → nums.Num-F Bool Bool Bool Bool → Bool
num_leaves kept (nums.Num-F.Num::Fixed n) = true
num_leaves kept (nums.Num-F.Num::Var v) = not (is_kept kept v)
num_leaves kept (nums.Num-F.Param p) = true
num_leaves kept (nums.Num-F.Num::Cell t ns) = all_leave ns
num_leaves kept (nums.Num-F.Sum t terms) = all_leave terms
num_leaves kept (nums.Num-F.Size a) = a
num_leaves kept (nums.Num-F.Num::Op op a b) = a && b
num_leaves kept (nums.Num-F.Num::If c a b) = c && (a && b)

abbrev pub set_leaves : List Bool → sets.SetEx-F Bool Bool Bool Bool → Bool
set_leaves kept (sets.SetEx-F.SetEx::Var v) = not (is_kept kept v)
set_leaves kept (sets.SetEx-F.SetEx::Cell t ns) = all_leave ns
set_leaves kept (sets.SetEx-F.SetEx::Op op a b) = a && b
set_leaves kept (sets.SetEx-F.SetEx::Not a) = a
set_leaves kept (sets.SetEx-F.With n a) = n && a
set_leaves kept (sets.SetEx-F.Without n a) = n && a
set_leaves kept (sets.SetEx-F.SetEx::If c a b) = c && (a && b)

-- whole trees

abbrev pub leaves_arg : List Bool → args.Arg → Bool
leaves_arg kept = args.fold-Arg Bool Bool Bool Bool arg_leaves (cond_leaves kept) (num_leaves kept) (set_leaves kept)

abbrev pub leaves_num : List Bool → nums.Num → Bool
leaves_num kept = nums.fold-Num Bool Bool Bool Bool arg_leaves (cond_leaves kept) (num_leaves kept) (set_leaves kept)

abbrev pub leaves_set : List Bool → sets.SetEx → Bool
leaves_set kept = sets.fold-SetEx Bool Bool Bool Bool arg_leaves (cond_leaves kept) (num_leaves kept) (set_leaves kept)

abbrev pub leaves_cond : List Bool → conds.Cond → Bool
leaves_cond kept = conds.fold-Cond Bool Bool Bool Bool arg_leaves (cond_leaves kept) (num_leaves kept) (set_leaves kept)
