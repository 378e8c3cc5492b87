-- The object type of a set expression is the same as a value and as a test.
use Rattle.std.proofs.Common.{◌≡◌, refl, sym, ap, subst, ◌∙◌}
use Rattle.dp_model.specs.Evaluation.{num_value, set_value, cond_value, ArgValue, CondValue, NumValue, SetValue, arg_step, cond_step, num_step, set_step}
use Rattle.dp_model.specs.declared.trees.Arg as args
use Rattle.dp_model.specs.declared.trees.Num as nums
use Rattle.dp_model.specs.declared.trees.SetEx as sets
use Rattle.dp_model.specs.declared.trees.Cond as conds
use Rattle.dp_model.specs.declared.parts.PlainState.{PlainState}
use Rattle.dp_model.specs.declared.whole.Model.{Model}
use Rattle.eval_room.specs.Fits.{RoomTest, SetRoom, ArgRoom, arg_room, cond_room, num_room, set_room, num_fits, set_fits, cond_fits}

abbrev Any : {A : Type 0} → A → Type 0
Any e = Unit {0}

abbrev arg_value : Model → PlainState → args.Arg → ArgValue
arg_value m s = args.fold-Arg ArgValue CondValue NumValue SetValue arg_step (cond_step m s) (num_step m s) (set_step m s)

abbrev arg_fits : Model → args.Arg → ArgRoom
arg_fits m = args.fold-Arg ArgRoom RoomTest RoomTest SetRoom arg_room (cond_room m) (num_room m) (set_room m)

module _ (m : Model) (s : PlainState) where
  abbrev value_layer : sets.SetEx-F args.Arg conds.Cond nums.Num sets.SetEx → SetValue
  value_layer x = set_step m s (sets.map-SetEx args.Arg conds.Cond nums.Num sets.SetEx ArgValue CondValue NumValue SetValue (arg_value m s) (cond_value m s) (num_value m s) (set_value m s) x)

  abbrev room_layer : sets.SetEx-F args.Arg conds.Cond nums.Num sets.SetEx → SetRoom
  room_layer x = set_room m (sets.map-SetEx args.Arg conds.Cond nums.Num sets.SetEx ArgRoom RoomTest RoomTest SetRoom (arg_fits m) (cond_fits m) (num_fits m) (set_fits m) x)

  abbrev Same : sets.SetEx → Type 0
  Same e = (set_value m s e).0 ≡ (set_fits m e).0

  abbrev Same-F : Type 0
  Same-F = sets.SetEx-F ((e : args.Arg) × Any e) ((e : conds.Cond) × Any e) ((e : nums.Num) × Any e) ((e : sets.SetEx) × Same e)

  abbrev under : Same-F → sets.SetEx-F args.Arg conds.Cond nums.Num sets.SetEx
  under = sets.map-SetEx ((e : args.Arg) × Any e) ((e : conds.Cond) × Any e) ((e : nums.Num) × Any e) ((e : sets.SetEx) × Same e) args.Arg conds.Cond nums.Num sets.SetEx (λ e. e.0) (λ e. e.0) (λ e. e.0) (λ e. e.0)

  case_of : (y : Same-F) → (value_layer (under y)).0 ≡ (room_layer (under y)).0
  case_of (sets.SetEx-F.SetEx::Var v) = refl
  case_of (sets.SetEx-F.SetEx::Cell t ns) = refl
  case_of (sets.SetEx-F.SetEx::Op op a b) = a.1
  case_of (sets.SetEx-F.SetEx::Not a) = a.1
  case_of (sets.SetEx-F.With n a) = a.1
  case_of (sets.SetEx-F.Without n a) = a.1
  case_of (sets.SetEx-F.SetEx::If c a b) = a.1

  rolled : (y : Same-F) → Same (sets.roll-SetEx (under y))
  rolled y =
      ap (λ (v : SetValue). v.0) (sets.fold-roll-SetEx ArgValue CondValue NumValue SetValue arg_step (cond_step m s) (num_step m s) (set_step m s) (under y))
      ∙ case_of y
      ∙ sym (ap (λ (t : SetRoom). t.0) (sets.fold-roll-SetEx ArgRoom RoomTest RoomTest SetRoom arg_room (cond_room m) (num_room m) (set_room m) (under y)))

  made : (x : sets.SetEx-F args.Arg conds.Cond nums.Num sets.SetEx) (y : Same-F) → under y ≡ x → Same (sets.roll-SetEx x)
  made x y p = subst (λ (x : sets.SetEx-F args.Arg conds.Cond nums.Num sets.SetEx). Same (sets.roll-SetEx x)) p (rolled y)

  pub same_object : (e : sets.SetEx) → (set_value m s e).0 ≡ (set_fits m e).0
  same_object e = sets.ind-SetEx Any Any Any Same (λ x y p. tt) (λ x y p. tt) (λ x y p. tt) made e
