-- An expression has room where its parts have.
use Rattle.std.proofs.Common.{◌≡◌, ℕ, suc, ◌+◌, ◌-◌, ◌<◌, ◌≤◌, max, Bool, true, ◌&&◌, eqb, List, [], ◌∷◌, length, get_or, drop, drop-cons, refl, sym, ap, subst, ◌∙◌, arith}
use Rattle.std.specs.Prelude.{nat_le, Option, Some, None, IfSome}
use Rattle.std.proofs.lemmas.List.{drop_all}
use Rattle.std.proofs.lemmas.Bool.{and_from, le-leb}
use Rattle.dp_model.specs.Evaluation.{counts_of}
use Rattle.dp_model.specs.declared.trees.Arg as args
use Rattle.dp_model.specs.declared.trees.Num as nums
use Rattle.dp_model.specs.declared.trees.SetEx as sets
use Rattle.dp_model.specs.declared.trees.Cond as conds
use Rattle.dp_model.specs.declared.trees.Over.{Over}
use Rattle.dp_model.specs.declared.trees.NumOp.{NumOp}
use Rattle.dp_model.specs.declared.trees.SetOp.{SetOp}
use Rattle.dp_model.specs.declared.trees.Compare.{Compare}
use Rattle.dp_model.specs.declared.whole.Model.{Model}
use Rattle.state_layout.specs.Signatures.{word_count}
use Rattle.packed_words.specs.Ranges.{over_fits}
use Rattle.eval_room.specs.Fits.{RoomTest, SetRoom, ArgRoom, arg_room, cond_room, num_room, set_room, num_fits, set_fits, cond_fits, arg_fits, operand_fits, more_fits, all_fit, terms_fit, term_room}
use Rattle.eval_room.specs.Needs.{Serves}

-- ---- tests together

pub always : (test : ℕ → Bool) → ((room : ℕ) → test room ≡ true) → Serves test 0
always test h = record { each = λ room l. h room }

pub two : (f g : ℕ → Bool) (x y : ℕ) → Serves f x → Serves g y → Serves (λ room. f room && g room) (max x y)
two f g x y p q = record { each = λ room l. and_from (f room) (g room) (p.each room (omega arith)) (q.each room (omega arith)) }

pub three : (f g h : ℕ → Bool) (x y z : ℕ) → Serves f x → Serves g y → Serves h z → Serves (λ room. f room && (g room && h room)) (max x (max y z))
three f g h x y z p q r = two f (λ room. g room && h room) x (max y z) p (two g h y z q r)

-- a fact beside
pub beside : (b : Bool) (g : ℕ → Bool) (y : ℕ) → b ≡ true → Serves g y → Serves (λ room. b && g room) y
beside b g y h q = record { each = λ room l. and_from b (g room) h (q.each room l) }

pub held : (w : ℕ) (g : ℕ → Bool) (y n : ℕ) → n ≡ w + y → Serves g y → Serves (λ room. nat_le w room && g (room - w)) n
held w g y n e q = record { each = λ room l. and_from (nat_le w room) (g (room - w)) (le-leb w room (omega (arith, e))) (q.each (room - w) (omega (arith, e))) }

pub after : (w : ℕ) (g : ℕ → Bool) (y : ℕ) → Serves g y → Serves (λ room. g (room - w)) (w + y)
after w g y q = record { each = λ room l. q.each (room - w) (omega arith) }

pub more : (f : ℕ → Bool) (x y : ℕ) → x ≡ y → Serves f x → Serves f y
more f x y e p = subst (λ (n : ℕ). Serves f n) e p

-- ---- what an expression's test is

module _ (m : Model) (given : ℕ) where
  abbrev num_out : (e : nums.Num) → num_fits m e ≡ num_room m (nums.map-Num args.Arg conds.Cond nums.Num sets.SetEx ArgRoom RoomTest RoomTest SetRoom (arg_fits m) (cond_fits m) (num_fits m) (set_fits m) (nums.out-Num e))
  num_out e = nums.fold_out-Num ArgRoom RoomTest RoomTest SetRoom arg_room (cond_room m) (num_room m) (set_room m) e

  abbrev set_out : (e : sets.SetEx) → set_fits m e ≡ set_room m (sets.map-SetEx args.Arg conds.Cond nums.Num sets.SetEx ArgRoom RoomTest RoomTest SetRoom (arg_fits m) (cond_fits m) (num_fits m) (set_fits m) (sets.out-SetEx e))
  set_out e = sets.fold_out-SetEx ArgRoom RoomTest RoomTest SetRoom arg_room (cond_room m) (num_room m) (set_room m) e

  abbrev cond_out : (e : conds.Cond) → cond_fits m e ≡ cond_room m (conds.map-Cond args.Arg conds.Cond nums.Num sets.SetEx ArgRoom RoomTest RoomTest SetRoom (arg_fits m) (cond_fits m) (num_fits m) (set_fits m) (conds.out-Cond e))
  cond_out e = conds.fold_out-Cond ArgRoom RoomTest RoomTest SetRoom arg_room (cond_room m) (num_room m) (set_room m) e

  pub num_as : (e : nums.Num) (x : nums.Num-F args.Arg conds.Cond nums.Num sets.SetEx) (n : ℕ) → nums.out-Num e ≡ x → Serves (num_room m (nums.map-Num args.Arg conds.Cond nums.Num sets.SetEx ArgRoom RoomTest RoomTest SetRoom (arg_fits m) (cond_fits m) (num_fits m) (set_fits m) x) given) n → Serves (num_fits m e given) n
  num_as e x n p h = rw (num_out e, p) h

  pub set_as : (e : sets.SetEx) (x : sets.SetEx-F args.Arg conds.Cond nums.Num sets.SetEx) (n : ℕ) → sets.out-SetEx e ≡ x → Serves ((set_room m (sets.map-SetEx args.Arg conds.Cond nums.Num sets.SetEx ArgRoom RoomTest RoomTest SetRoom (arg_fits m) (cond_fits m) (num_fits m) (set_fits m) x)).1 given) n → Serves ((set_fits m e).1 given) n
  set_as e x n p h = rw (set_out e, p) h

  pub cond_as : (e : conds.Cond) (x : conds.Cond-F args.Arg conds.Cond nums.Num sets.SetEx) (n : ℕ) → conds.out-Cond e ≡ x → Serves (cond_room m (conds.map-Cond args.Arg conds.Cond nums.Num sets.SetEx ArgRoom RoomTest RoomTest SetRoom (arg_fits m) (cond_fits m) (num_fits m) (set_fits m) x) given) n → Serves (cond_fits m e given) n
  cond_as e x n p h = rw (cond_out e, p) h

module _ (m : Model) (given : ℕ) where
  pub op_serves : (e : nums.Num) (op : NumOp) (a : nums.Num) (b : nums.Num) (x y n : ℕ) → nums.out-Num e ≡ nums.Num-F.Num::Op op a b → n ≡ max x y → Serves (num_fits m a given) x → Serves (num_fits m b given) y → Serves (num_fits m e given) n
  op_serves e op a b x y n p q f g = num_as m given e (nums.Num-F.Num::Op op a b) n p (more _ (max x y) n (sym q) (two (num_fits m a given) (num_fits m b given) x y f g))

  pub numbers_serve : (e : conds.Cond) (op : Compare) (a : nums.Num) (b : nums.Num) (x y n : ℕ) → conds.out-Cond e ≡ conds.Cond-F.Numbers op a b → n ≡ max x y → Serves (num_fits m a given) x → Serves (num_fits m b given) y → Serves (cond_fits m e given) n
  numbers_serve e op a b x y n p q f g = cond_as m given e (conds.Cond-F.Numbers op a b) n p (more _ (max x y) n (sym q) (two (num_fits m a given) (num_fits m b given) x y f g))

  pub is_in_serves : (e : conds.Cond) (a : nums.Num) (b : sets.SetEx) (x y n : ℕ) → conds.out-Cond e ≡ conds.Cond-F.IsIn a b → n ≡ max x y → Serves (num_fits m a given) x → Serves (operand_fits m (set_fits m b) given) y → Serves (cond_fits m e given) n
  is_in_serves e a b x y n p q f g = cond_as m given e (conds.Cond-F.IsIn a b) n p (more _ (max x y) n (sym q) (two (num_fits m a given) (operand_fits m (set_fits m b) given) x y f g))

  pub and_serves : (e : conds.Cond) (a : conds.Cond) (b : conds.Cond) (x y n : ℕ) → conds.out-Cond e ≡ conds.Cond-F.And a b → n ≡ max x y → Serves (cond_fits m a given) x → Serves (cond_fits m b given) y → Serves (cond_fits m e given) n
  and_serves e a b x y n p q f g = cond_as m given e (conds.Cond-F.And a b) n p (more _ (max x y) n (sym q) (two (cond_fits m a given) (cond_fits m b given) x y f g))

  pub or_serves : (e : conds.Cond) (a : conds.Cond) (b : conds.Cond) (x y n : ℕ) → conds.out-Cond e ≡ conds.Cond-F.Or a b → n ≡ max x y → Serves (cond_fits m a given) x → Serves (cond_fits m b given) y → Serves (cond_fits m e given) n
  or_serves e a b x y n p q f g = cond_as m given e (conds.Cond-F.Or a b) n p (more _ (max x y) n (sym q) (two (cond_fits m a given) (cond_fits m b given) x y f g))

  pub with_serves : (e : sets.SetEx) (a : nums.Num) (b : sets.SetEx) (x y n : ℕ) → sets.out-SetEx e ≡ sets.SetEx-F.With a b → n ≡ max x y → Serves (num_fits m a given) x → Serves ((set_fits m b).1 given) y → Serves ((set_fits m e).1 given) n
  with_serves e a b x y n p q f g = set_as m given e (sets.SetEx-F.With a b) n p (more _ (max x y) n (sym q) (two (num_fits m a given) ((set_fits m b).1 given) x y f g))

  pub without_serves : (e : sets.SetEx) (a : nums.Num) (b : sets.SetEx) (x y n : ℕ) → sets.out-SetEx e ≡ sets.SetEx-F.Without a b → n ≡ max x y → Serves (num_fits m a given) x → Serves ((set_fits m b).1 given) y → Serves ((set_fits m e).1 given) n
  without_serves e a b x y n p q f g = set_as m given e (sets.SetEx-F.Without a b) n p (more _ (max x y) n (sym q) (two (num_fits m a given) ((set_fits m b).1 given) x y f g))

  pub if_serves : (e : nums.Num) (c : conds.Cond) (a b : nums.Num) (x y z v n : ℕ) → nums.out-Num e ≡ nums.Num-F.Num::If c a b → v ≡ max y z → n ≡ max x v → Serves (cond_fits m c given) x → Serves (num_fits m a given) y → Serves (num_fits m b given) z → Serves (num_fits m e given) n
  if_serves e c a b x y z v n p r q f g h = num_as m given e (nums.Num-F.Num::If c a b) n p (more _ (max x (max y z)) n (omega (arith, r, q)) (three (cond_fits m c given) (num_fits m a given) (num_fits m b given) x y z f g h))

  pub choice_serves : (e : conds.Cond) (c : conds.Cond) (a b : conds.Cond) (x y z v n : ℕ) → conds.out-Cond e ≡ conds.Cond-F.Cond::If c a b → v ≡ max y z → n ≡ max x v → Serves (cond_fits m c given) x → Serves (cond_fits m a given) y → Serves (cond_fits m b given) z → Serves (cond_fits m e given) n
  choice_serves e c a b x y z v n p r q f g h = cond_as m given e (conds.Cond-F.Cond::If c a b) n p (more _ (max x (max y z)) n (omega (arith, r, q)) (three (cond_fits m c given) (cond_fits m a given) (cond_fits m b given) x y z f g h))

  pub set_op_serves : (e : sets.SetEx) (op : SetOp) (a b : sets.SetEx) (x y n : ℕ) → sets.out-SetEx e ≡ sets.SetEx-F.SetEx::Op op a b → eqb (set_fits m a).0 (set_fits m b).0 ≡ true → n ≡ max x y → Serves ((set_fits m a).1 given) x → Serves (operand_fits m (set_fits m b) given) y → Serves ((set_fits m e).1 given) n
  set_op_serves e op a b x y n p same q f g = set_as m given e (sets.SetEx-F.SetEx::Op op a b) n p (more _ (max x y) n (sym q) (two ((set_fits m a).1 given) (λ room. eqb (set_fits m a).0 (set_fits m b).0 && operand_fits m (set_fits m b) given room) x y f (beside (eqb (set_fits m a).0 (set_fits m b).0) (operand_fits m (set_fits m b) given) y same g)))

  pub set_if_serves : (e : sets.SetEx) (c : conds.Cond) (a b : sets.SetEx) (x y z v n : ℕ) → sets.out-SetEx e ≡ sets.SetEx-F.SetEx::If c a b → eqb (set_fits m a).0 (set_fits m b).0 ≡ true → v ≡ max y z → n ≡ max x v → Serves (cond_fits m c given) x → Serves ((set_fits m a).1 given) y → Serves ((set_fits m b).1 given) z → Serves ((set_fits m e).1 given) n
  set_if_serves e c a b x y z v n p same r q f g h = set_as m given e (sets.SetEx-F.SetEx::If c a b) n p (more _ (max x (max y z)) n (omega (arith, r, q)) (two (cond_fits m c given) (λ room. (set_fits m a).1 given room && (eqb (set_fits m a).0 (set_fits m b).0 && (set_fits m b).1 given room)) x (max y z) f (two ((set_fits m a).1 given) (λ room. eqb (set_fits m a).0 (set_fits m b).0 && (set_fits m b).1 given room) y z g (beside (eqb (set_fits m a).0 (set_fits m b).0) ((set_fits m b).1 given) z same h))))

  pub all_serves : (e : conds.Cond) (over : Over) (c : conds.Cond) (x y : ℕ) (o : Option ℕ) → conds.out-Cond e ≡ conds.Cond-F.All over c → over_fits m over ≡ true → x ≡ given + 1 → Serves (cond_fits m c x) y → IfSome o (λ n. n ≡ x + y) → IfSome o (Serves (cond_fits m e given))
  all_serves e over c x y None p fits q f h = tt
  all_serves e over c x y (Some n) p fits q f h =
      let inner : Serves (cond_fits m c (given + 1)) y = subst (λ (k : ℕ). Serves (cond_fits m c k) y) q f in
      let whole : Serves (λ room. nat_le (given + 1) room && cond_fits m c (given + 1) (room - (given + 1))) n = held (given + 1) (cond_fits m c (given + 1)) y n (omega (arith, q, h)) inner in
      cond_as m given e (conds.Cond-F.All over c) n p (beside (over_fits m over) (more_fits (cond_fits m c) given) n fits whole)

-- ---- lists

module _ (m : Model) (given : ℕ) where
  pub all_step : (ns : List nums.Num) (i : ℕ) (d n : nums.Num) (most need now : ℕ) → i < length ns → n ≡ get_or ns i d → now ≡ max need most → Serves (num_fits m n given) need → ((room : ℕ) → most ≤ room → all_fit m (drop i ns) given room ≡ true → all_fit m ns given room ≡ true) → (room : ℕ) → now ≤ room → all_fit m (drop (i + 1) ns) given room ≡ true → all_fit m ns given room ≡ true
  all_step ns i d n most need now h e q serves so room l rest =
      let next : i + 1 ≡ suc i = omega arith in
      let first : num_fits m n given room ≡ true = serves.each room (omega (arith, q)) in
      let both : all_fit m (n ∷ drop (suc i) ns) given room ≡ true = and_from (num_fits m n given room) (all_fit m (drop (suc i) ns) given room) first (subst (λ (k : ℕ). all_fit m (drop k ns) given room ≡ true) next rest) in
      so room (omega (arith, q)) (subst (λ (xs : List nums.Num). all_fit m xs given room ≡ true) (ap (λ (x : nums.Num). x ∷ drop (suc i) ns) e ∙ sym (drop-cons ns i d h)) both)

  pub all_done : (ns : List nums.Num) (i most : ℕ) → length ns ≤ i → ((room : ℕ) → most ≤ room → all_fit m (drop i ns) given room ≡ true → all_fit m ns given room ≡ true) → Serves (all_fit m ns given) most
  all_done ns i most h so = record { each = λ room l. so room l (ap (λ (xs : List nums.Num). all_fit m xs given room) (drop_all i ns h)) }

  pub terms_step : (all left rest : List ℕ) (terms : List args.Arg) (i : ℕ) (d e : args.Arg) (count used need most used_now sum_now most_now : ℕ) → i < length terms → e ≡ get_or terms i d → left ≡ count ∷ rest → used_now ≡ used + word_count count → sum_now ≡ used_now + need → most_now ≡ max sum_now most → Serves (term_room m (arg_fits m e) count given) need → ((room : ℕ) → most ≤ room → terms_fit m left (drop i terms) given (room - used) ≡ true → terms_fit m all terms given room ≡ true) → (room : ℕ) → most_now ≤ room → terms_fit m rest (drop (i + 1) terms) given (room - used_now) ≡ true → terms_fit m all terms given room ≡ true
  terms_step all left rest terms i d e count used need most used_now sum_now most_now h f p u v w serves so room l behind =
      let next : i + 1 ≡ suc i = omega arith in
      let w1 : (room - used) - word_count count ≡ room - used_now = omega (arith, u) in
      let fits : nat_le (word_count count) (room - used) ≡ true = le-leb (word_count count) (room - used) (omega (arith, u, v, w)) in
      let first : term_room m (arg_fits m e) count given ((room - used) - word_count count) ≡ true = serves.each ((room - used) - word_count count) (omega (arith, u, v, w)) in
      let after_it : terms_fit m rest (drop (suc i) terms) given ((room - used) - word_count count) ≡ true = subst (λ (k : ℕ). terms_fit m rest (drop (suc i) terms) given k ≡ true) (sym w1) (subst (λ (k : ℕ). terms_fit m rest (drop k terms) given (room - used_now) ≡ true) next behind) in
      let both : terms_fit m (count ∷ rest) (e ∷ drop (suc i) terms) given (room - used) ≡ true = and_from (nat_le (word_count count) (room - used)) (term_room m (arg_fits m e) count given ((room - used) - word_count count) && terms_fit m rest (drop (suc i) terms) given ((room - used) - word_count count)) fits (and_from (term_room m (arg_fits m e) count given ((room - used) - word_count count)) (terms_fit m rest (drop (suc i) terms) given ((room - used) - word_count count)) first after_it) in
      so room (omega (arith, w)) (subst (λ (xs : List args.Arg). terms_fit m left xs given (room - used) ≡ true) (ap (λ (x : args.Arg). x ∷ drop (suc i) terms) f ∙ sym (drop-cons terms i d h)) (subst (λ (cs : List ℕ). terms_fit m cs (e ∷ drop (suc i) terms) given (room - used) ≡ true) (sym p) both))

  pub terms_done : (all left : List ℕ) (terms : List args.Arg) (i used most : ℕ) → length terms ≤ i → left ≡ [] → ((room : ℕ) → most ≤ room → terms_fit m left (drop i terms) given (room - used) ≡ true → terms_fit m all terms given room ≡ true) → Serves (terms_fit m all terms given) most
  terms_done all left terms i used most h e so = record { each = λ room l. so room l (rw e (ap (λ (xs : List args.Arg). terms_fit m [] xs given (room - used)) (drop_all i terms h))) }

  pub counts_end : (objects : List ℕ) → length objects ≡ 0 → counts_of m objects ≡ []
  counts_end [] h = refl
  counts_end (o ∷ os) h = absurd (omega arith)
