-- Each expression of a transition has room in a scratch of its model.
use Rattle.std.proofs.Common.{◌≡◌, ℕ, ◌+◌, ◌-◌, ◌≤◌, Bool, true, List, length, slice_get, Some, subst, sym, arith}
use Rattle.std.specs.Prelude.{IsTrue, ◌&&◌, ◌==◌, nat_le}
use Rattle.std.proofs.lemmas.Bool.{and_parts}
use Rattle.dp_model.specs.declared.parts.Effect.{Effect}
use Rattle.dp_model.specs.declared.parts.Effect.TheVariants as effect
use Rattle.dp_model.specs.declared.parts.Transition.{Transition}
use Rattle.dp_model.specs.declared.trees.Cond.{Cond}
use Rattle.dp_model.specs.declared.trees.Num.{Num}
use Rattle.dp_model.specs.declared.trees.SetEx.{SetEx}
use Rattle.dp_model.specs.declared.whole.Model.{Model}
use Rattle.dp_model.specs.Evaluation.{count_of, kind_of, object_of_kind}
use Rattle.dp_model.specs.Typing.{is_set_kind, kind_at}
use Rattle.state_layout.specs.Signatures.{word_count}
use Rattle.eval_room.specs.Fits.{cond_fits, num_fits, set_fits}
use Rattle.eval_room.specs.Needs.{effect_fits, Serves, ServesTransition}
use Rattle.packed_eval.specs.Scratches.{IsScratchOf, room_of}
use Rattle.packed_eval.specs.declared.calls.Scratch.{Scratch}

no_less : (n : ℕ) → n ≤ n
no_less n = omega arith

more : (n w : ℕ) → n ≤ n + w
more n w = omega arith

back : (n w : ℕ) → n + w - w ≡ n
back n w = omega arith

last_of_four : (a b c d : Bool) → (a && (b && (c && d))) ≡ true → d ≡ true
last_of_four a b c d all = (and_parts c d (and_parts b (c && d) (and_parts a (b && (c && d)) all).1).1).1

-- an item of a list is one of each list that is equal to it
at : {A : Type 0} (xs ys : List A) (i : ℕ) (x : A) → xs ≡ ys → slice_get xs i ≡ Some x → slice_get ys i ≡ Some x
at {A} xs ys i x same found = subst (λ (zs : List A). slice_get zs i ≡ Some x) same found

module _ (m : Model) (x : Scratch) (of : IsScratchOf m x) (t i given : ℕ) (step : Transition)
    (steps : List Transition) (same : steps ≡ m.transitions) (found : slice_get steps t ≡ Some step) (all : given ≡ length step.params) where
  serves : ServesTransition m step (room_of x)
  serves = of.serves.transitions.at t step (at steps m.transitions t step same found)

  pub precondition_fits : (e : Cond) (es : List Cond) → es ≡ step.preconditions → slice_get es i ≡ Some e → IsTrue (cond_fits m e given (room_of x))
  precondition_fits e es same here =
      subst (λ (n : ℕ). cond_fits m e n (room_of x) ≡ true) (sym all)
      ((serves.preconditions.at i e (at es step.preconditions i e same here)).each (room_of x) (no_less (room_of x)))

  effect_at : (it : Effect) (effects : List Effect) → effects ≡ step.effects → slice_get effects i ≡ Some it → Serves (effect_fits m (length step.params) it) (room_of x)
  effect_at it effects same here = serves.effects.at i it (at effects step.effects i it same here)

  pub number_fits : (v : ℕ) (e : Num) (effects : List Effect) → effects ≡ step.effects → slice_get effects i ≡ Some (effect.Number v e) → IsTrue (num_fits m e given (room_of x))
  number_fits v e effects same here =
      subst (λ (n : ℕ). num_fits m e n (room_of x) ≡ true) (sym all)
      (and_parts _ _ ((effect_at (effect.Number v e) effects same here).each (room_of x) (no_less (room_of x)))).1

  -- a set that is held has room for its words too, so the room without them is enough for what it needs beside them
  pub members_fit : (v : ℕ) (e : SetEx) (effects : List Effect) → effects ≡ step.effects → slice_get effects i ≡ Some (effect.Members v e) → IsTrue ((set_fits m e).1 given (room_of x))
  members_fit v e effects same here =
      let w = word_count (count_of m (set_fits m e).0) in
      let held = (effect_at (effect.Members v e) effects same here).each (room_of x + w) (more (room_of x) w) in
      let last : (set_fits m e).1 (length step.params) (room_of x + w - w) ≡ true =
      last_of_four (is_set_kind (kind_at m.variables v)) (object_of_kind (kind_of m v) == (set_fits m e).0) (nat_le w (room_of x + w)) ((set_fits m e).1 (length step.params) (room_of x + w - w)) held in
      subst (λ (n : ℕ). (set_fits m e).1 n (room_of x) ≡ true) (sym all)
      (subst (λ (room : ℕ). (set_fits m e).1 (length step.params) room ≡ true) (back (room_of x) w) last)
