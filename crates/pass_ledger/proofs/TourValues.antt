-- What the expressions of the tour stand for in a state, and where its transitions lead.
use Rattle.std.proofs.Common.{◌≡◌, ℕ, zero, suc, Bool, true, false, not, ◌&&◌, List, [], ◌∷◌, ◌++◌, length, map, ◌==◌, ◌⊎◌, inr, Option, Some, None, Result, Ok, refl, sym, ap, ◌∙◌}
use Rattle.std.specs.Prelude.{ℤ, pos, if◌then◌else◌}
use denote.Hole.Carrier
use Rattle.dp_base.specs.Results.{◌>>=◌, in_turn}
use Rattle.dp_model.specs.Costs.{ranged}
use Rattle.dp_model.specs.Evaluation.{num_value, set_value, cond_value, number_in, set_in, count_of, kind_of, object_of_kind, each_holds, operate, compares, has, member_of, members_of, members_where, table_counts, cells_of, number_cell, place_in, choices_of, total_of, ways, ArgValue, CondValue, NumValue, SetValue, arg_step, cond_step, num_step, set_step}
use Rattle.dp_model.specs.StepTexts.{ground_of}
use Rattle.dp_steps.specs.Bounds.{IsTightest}
use Rattle.dp_steps.specs.States.{Base, Considered, Enabled, Inner, IsForced, Step, all_true, case_costs, is_enabled, weight_of, next_state, stored}
use Rattle.dp_model.specs.declared.answers.FaultKind.{FaultKind}
use Rattle.dp_model.specs.declared.trees.Num.{Num}
use Rattle.dp_model.specs.declared.trees.Num as nums
use Rattle.dp_model.specs.declared.trees.NumOp.{NumOp}
use Rattle.dp_model.specs.declared.trees.NumOp.TheVariants as operations
use Rattle.dp_model.specs.declared.trees.SetEx.{SetEx}
use Rattle.dp_model.specs.declared.trees.SetEx as sets
use Rattle.dp_model.specs.declared.trees.Arg as args
use Rattle.dp_model.specs.declared.trees.Cond.{Cond}
use Rattle.dp_model.specs.declared.trees.Cond as conds
use Rattle.dp_model.specs.declared.trees.Compare.{Compare}
use Rattle.dp_model.specs.declared.trees.Compare.TheVariants as comparisons
use Rattle.dp_model.specs.declared.trees.Over.TheVariants as overs
use Rattle.dp_model.specs.declared.parts.Transition.{Transition}
use Rattle.dp_model.specs.declared.parts.PlainState.{PlainState}
use Rattle.dp_model.specs.declared.whole.Model.{Model}
use Rattle.pass_ledger.specs.Tour.{at, tour, location, time, to, ready, due, min_to, distance, number, arrival, in_time, all_visited, is_home, visit, return, timely, least_distance}

-- ---- expressions, in any model

abbrev Fallible : Type 0
Fallible = Result ℤ FaultKind

abbrev same : Fallible → Fallible
same r = r

module _ (m : Model) (s : PlainState) (given : List ℕ) where
  num_var : (v : ℕ) → num_value m s (nums.Var v) given ≡ Ok (number_in s v)
  unfolding nums.roll-Num denote.Hole.Carrier.roll
  num_var v = ap (λ (f : NumValue). f given) (nums.fold-roll-Num ArgValue CondValue NumValue SetValue arg_step (cond_step m s) (num_step m s) (set_step m s) (nums.Num-F.Num::Var v))

  num_fixed : (k : ℤ) → num_value m s (nums.Fixed k) given ≡ Ok k
  unfolding nums.roll-Num denote.Hole.Carrier.roll
  num_fixed k = ap (λ (f : NumValue). f given) (nums.fold-roll-Num ArgValue CondValue NumValue SetValue arg_step (cond_step m s) (num_step m s) (set_step m s) (nums.Num-F.Num::Fixed k))

  num_param : (p : ℕ) → num_value m s (nums.Param p) given ≡ num_step m s (nums.Num-F.Param p) given
  unfolding nums.roll-Num denote.Hole.Carrier.roll
  num_param p = ap (λ (f : NumValue). f given) (nums.fold-roll-Num ArgValue CondValue NumValue SetValue arg_step (cond_step m s) (num_step m s) (set_step m s) (nums.Num-F.Param p))

  -- what a table has at arguments with these values
  abbrev cell_of : ℕ → List Fallible → Fallible
  cell_of t rs = in_turn same rs >>= λ zs. members_of (table_counts m t) zs >>= λ members. Ok (number_cell (cells_of m t) (place_in m t members))

  num_cell : (t : ℕ) (k : Num) (r : Fallible) → num_value m s k given ≡ r → num_value m s (nums.Cell t (k ∷ [])) given ≡ cell_of t (r ∷ [])
  unfolding nums.roll-Num denote.Hole.Carrier.roll
  num_cell t k r h =
      ap (λ (f : NumValue). f given) (nums.fold-roll-Num ArgValue CondValue NumValue SetValue arg_step (cond_step m s) (num_step m s) (set_step m s) (nums.Num-F.Num::Cell t (k ∷ [])))
      ∙ ap (λ (x : Fallible). cell_of t (x ∷ [])) h

  num_cell_2 : (t : ℕ) (j k : Num) (q r : Fallible) → num_value m s j given ≡ q → num_value m s k given ≡ r → num_value m s (nums.Cell t (j ∷ k ∷ [])) given ≡ cell_of t (q ∷ r ∷ [])
  unfolding nums.roll-Num denote.Hole.Carrier.roll
  num_cell_2 t j k q r g h =
      ap (λ (f : NumValue). f given) (nums.fold-roll-Num ArgValue CondValue NumValue SetValue arg_step (cond_step m s) (num_step m s) (set_step m s) (nums.Num-F.Num::Cell t (j ∷ k ∷ [])))
      ∙ ap (λ (x : Fallible). cell_of t (x ∷ num_value m s k given ∷ [])) g ∙ ap (λ (x : Fallible). cell_of t (q ∷ x ∷ [])) h

  abbrev op_of : NumOp → Fallible → Fallible → Fallible
  op_of op q r = q >>= λ x. r >>= λ y. operate op x y

  num_op : (op : NumOp) (a b : Num) (q r : Fallible) → num_value m s a given ≡ q → num_value m s b given ≡ r → num_value m s (nums.Op op a b) given ≡ op_of op q r
  unfolding nums.roll-Num denote.Hole.Carrier.roll
  num_op op a b q r g h =
      ap (λ (f : NumValue). f given) (nums.fold-roll-Num ArgValue CondValue NumValue SetValue arg_step (cond_step m s) (num_step m s) (set_step m s) (nums.Num-F.Num::Op op a b))
      ∙ ap (λ (x : Fallible). op_of op x (num_value m s b given)) g ∙ ap (op_of op q) h

  abbrev if_of : Result Bool FaultKind → Fallible → Fallible → Fallible
  if_of c q r = c >>= λ held. if held then q else r

  num_if : (c : Cond) (a b : Num) (p : Result Bool FaultKind) (q r : Fallible) → cond_value m s c given ≡ p → num_value m s a given ≡ q → num_value m s b given ≡ r → num_value m s (nums.If c a b) given ≡ if_of p q r
  unfolding nums.roll-Num denote.Hole.Carrier.roll
  num_if c a b p q r e g h =
      ap (λ (f : NumValue). f given) (nums.fold-roll-Num ArgValue CondValue NumValue SetValue arg_step (cond_step m s) (num_step m s) (set_step m s) (nums.Num-F.Num::If c a b))
      ∙ ap (λ (x : Result Bool FaultKind). if_of x (num_value m s a given) (num_value m s b given)) e ∙ ap (λ (x : Fallible). if_of p x (num_value m s b given)) g ∙ ap (if_of p q) h

  set_var : (v : ℕ) → set_value m s (sets.Var v) ≡ (object_of_kind (kind_of m v), λ (g : List ℕ). Ok (set_in s v))
  unfolding sets.roll-SetEx denote.Hole.Carrier.roll
  set_var v = sets.fold-roll-SetEx ArgValue CondValue NumValue SetValue arg_step (cond_step m s) (num_step m s) (set_step m s) (sets.SetEx-F.SetEx::Var v)

  abbrev without_of : Fallible → SetValue → Result (List ℕ) FaultKind
  without_of r set = r >>= λ z. set.1 given >>= λ xs. member_of (count_of m set.0) z >>= λ e. Ok (members_where (count_of m set.0) (λ k. not (k == e) && has xs k))

  set_without : (k : Num) (v : ℕ) (r : Fallible) → num_value m s k given ≡ r → (set_value m s (sets.Without k (sets.Var v))).1 given ≡ without_of r (object_of_kind (kind_of m v), λ (g : List ℕ). Ok (set_in s v))
  unfolding sets.roll-SetEx denote.Hole.Carrier.roll
  set_without k v r h =
      ap (λ (f : SetValue). f.1 given) (sets.fold-roll-SetEx ArgValue CondValue NumValue SetValue arg_step (cond_step m s) (num_step m s) (set_step m s) (sets.SetEx-F.Without k (sets.Var v)))
      ∙ ap (λ (x : Fallible). without_of x (set_value m s (sets.Var v))) h ∙ ap (without_of r) (set_var v)

  -- a `sum` over the members of a set variable
  abbrev sum_of : ℕ → List ℕ → Fallible
  sum_of t set = choices_of (table_counts m t) (inr set ∷ []) >>= λ choices. ranged (total_of m t (ways choices))

  arg_many : (v : ℕ) → args.fold-Arg ArgValue CondValue NumValue SetValue arg_step (cond_step m s) (num_step m s) (set_step m s) (args.Many (sets.Var v)) given ≡ Ok (inr (set_in s v))
  unfolding args.roll-Arg denote.Hole.Carrier.roll
  arg_many v =
      ap (λ (f : ArgValue). f given) (args.fold-roll-Arg ArgValue CondValue NumValue SetValue arg_step (cond_step m s) (num_step m s) (set_step m s) (args.Arg-F.Many (sets.Var v)))
      ∙ ap (λ (set : SetValue). ◌>>=◌ {B = ℤ ⊎ List ℕ} (set.1 given) (λ members. Ok (inr members))) (set_var v)

  num_sum : (t v : ℕ) → num_value m s (nums.Sum t (args.Many (sets.Var v) ∷ [])) given ≡ sum_of t (set_in s v)
  unfolding nums.roll-Num denote.Hole.Carrier.roll
  num_sum t v =
      ap (λ (f : NumValue). f given) (nums.fold-roll-Num ArgValue CondValue NumValue SetValue arg_step (cond_step m s) (num_step m s) (set_step m s) (nums.Num-F.Sum t (args.Many (sets.Var v) ∷ [])))
      ∙ ap (λ (r : Result (ℤ ⊎ List ℕ) FaultKind). in_turn (λ (x : Result (ℤ ⊎ List ℕ) FaultKind). x) (r ∷ []) >>= λ xs. choices_of (table_counts m t) xs >>= λ choices. ranged (total_of m t (ways choices))) (arg_many v)

  abbrev compare_of : Compare → Fallible → Fallible → Result Bool FaultKind
  compare_of op q r = q >>= λ x. r >>= λ y. Ok (compares op x y)

  cond_numbers : (op : Compare) (a b : Num) (q r : Fallible) → num_value m s a given ≡ q → num_value m s b given ≡ r → cond_value m s (conds.Numbers op a b) given ≡ compare_of op q r
  unfolding conds.roll-Cond denote.Hole.Carrier.roll
  cond_numbers op a b q r g h =
      ap (λ (f : CondValue). f given) (conds.fold-roll-Cond ArgValue CondValue NumValue SetValue arg_step (cond_step m s) (num_step m s) (set_step m s) (conds.Cond-F.Numbers op a b))
      ∙ ap (λ (x : Fallible). compare_of op x (num_value m s b given)) g ∙ ap (compare_of op q) h

  cond_empty : (v : ℕ) → cond_value m s (conds.Empty (sets.Var v)) given ≡ Ok (length (set_in s v) == 0)
  unfolding conds.roll-Cond denote.Hole.Carrier.roll
  cond_empty v =
      ap (λ (f : CondValue). f given) (conds.fold-roll-Cond ArgValue CondValue NumValue SetValue arg_step (cond_step m s) (num_step m s) (set_step m s) (conds.Cond-F.Empty (sets.Var v)))
      ∙ ap (λ (set : SetValue). ◌>>=◌ {B = Bool} (set.1 given) (λ xs. Ok (length xs == 0))) (set_var v)

  cond_all : (v : ℕ) (c : Cond) → cond_value m s (conds.All (overs.Members v) c) given ≡ each_holds (λ (k : ℕ). cond_value m s c (given ++ k ∷ [])) (set_in s v)
  unfolding conds.roll-Cond denote.Hole.Carrier.roll
  cond_all v c = ap (λ (f : CondValue). f given) (conds.fold-roll-Cond ArgValue CondValue NumValue SetValue arg_step (cond_step m s) (num_step m s) (set_step m s) (conds.Cond-F.All (overs.Members v) c))

each_same : {A : Type 0} (f g : A → Result Bool FaultKind) → ((x : A) → f x ≡ g x) → (xs : List A) → each_holds f xs ≡ each_holds g xs
each_same f g h [] = refl
each_same f g h (x ∷ xs) = rw (h x, each_same f g h xs) refl

-- ---- expressions of the tour, in the state with this set of unvisited customers, this location and this time

abbrev cell : ℕ → List ℕ → Fallible
cell t ks = cell_of tour (at [] 0 0) [] t (map (λ (k : ℕ). Ok (pos k)) ks)

module _ (u : List ℕ) (l t : ℕ) where
  abbrev here : PlainState
  here = at u l t

  -- when the vehicle gets to a customer
  abbrev arrives : ℕ → Fallible
  arrives k = op_of tour here [] operations.Plus (Ok (pos t)) (cell 3 (l ∷ k ∷ []))

  distance_to : (given : List ℕ) (e : Num) (k : ℕ) → num_value tour here e given ≡ Ok (pos k) → num_value tour here (distance location e) given ≡ cell 3 (l ∷ k ∷ [])
  distance_to given e k h = num_cell_2 tour here given 3 location e (Ok (pos l)) (Ok (pos k)) (num_var tour here given 1) h

  arrival_at : (given : List ℕ) (e : Num) (k : ℕ) → num_value tour here e given ≡ Ok (pos k) → num_value tour here (arrival e) given ≡ arrives k
  arrival_at given e k h = num_op tour here given operations.Plus time (distance location e) (Ok (pos t)) (cell 3 (l ∷ k ∷ [])) (num_var tour here given 2) (distance_to given e k h)

  to_is : (k : ℕ) → num_value tour here to (k ∷ []) ≡ Ok (pos k)
  to_is k = num_param tour here (k ∷ []) 0

  abbrev is_timely : ℕ → Result Bool FaultKind
  is_timely k = compare_of tour here [] comparisons.AtMost (arrives k) (cell 1 (k ∷ []))

  in_time_is : (k : ℕ) → cond_value tour here in_time (k ∷ []) ≡ is_timely k
  in_time_is k =
      cond_numbers tour here (k ∷ []) comparisons.AtMost (arrival to) (due to) (arrives k) (cell 1 (k ∷ []))
      (arrival_at (k ∷ []) to k (to_is k)) (num_cell tour here (k ∷ []) 1 to (Ok (pos k)) (to_is k))

  abbrev all_timely : Result Bool FaultKind
  all_timely = each_holds is_timely u

  -- whether all constraints are true
  pub constraints_are : (b : Bool) → all_timely ≡ Ok b → all_true tour here [] tour.constraints ≡ Ok b
  constraints_are b h = one (cond_value tour here timely []) b (cond_all tour here [] 0 in_time ∙ each_same (λ (k : ℕ). cond_value tour here in_time (k ∷ [])) is_timely in_time_is u ∙ h)
    where
      one : (r : Result Bool FaultKind) (b : Bool) → r ≡ Ok b → ◌≡◌ {A = Result Bool FaultKind} (r >>= λ held. if held then Ok true else Ok false) (Ok b)
      one r true e = rw e refl
      one r false e = rw e refl

  home_is : (op : Compare) (given : List ℕ) → cond_value tour here (conds.Numbers op location (number 0)) given ≡ Ok (compares op (pos l) (pos 0))
  home_is op given = cond_numbers tour here given op location (number 0) (Ok (pos l)) (Ok (pos 0)) (num_var tour here given 1) (num_fixed tour here given (pos 0))

  -- a condition on the visited customers, and one on the location
  both_are : (op : Compare) → all_true tour here [] (all_visited ∷ conds.Numbers op location (number 0) ∷ []) ≡ Ok ((length u == 0) && compares op (pos l) (pos 0))
  both_are op = both (cond_value tour here all_visited []) (cond_value tour here (conds.Numbers op location (number 0)) []) (length u == 0) (compares op (pos l) (pos 0)) (cond_empty tour here [] 0) (home_is op [])
    where
      both : (q r : Result Bool FaultKind) (a b : Bool) → q ≡ Ok a → r ≡ Ok b
          → ◌≡◌ {A = Result Bool FaultKind} (q >>= λ held. if held then (r >>= λ held. if held then Ok true else Ok false) else Ok false) (Ok (a && b))
      both q r true true e f = rw (e, f) refl
      both q r true false e f = rw (e, f) refl
      both q r false b e f = rw e refl

  pub not_base : ((length u == 0) && compares comparisons.Same (pos l) (pos 0)) ≡ false → case_costs tour here tour.base_cases ≡ Ok []
  not_base h = rw (both_are comparisons.Same ∙ ap Ok h) refl

  pub is_base : ((length u == 0) && compares comparisons.Same (pos l) (pos 0)) ≡ true → case_costs tour here tour.base_cases ≡ Ok (pos 0 ∷ [])
  is_base h = rw (both_are comparisons.Same ∙ ap Ok h, num_fixed tour here [] (pos 0)) refl

  -- an inner state
  pub inner_at : all_timely ≡ Ok true → ((length u == 0) && compares comparisons.Same (pos l) (pos 0)) ≡ false → Inner tour here
  inner_at h e = record { allowed = constraints_are true h; open_cases = not_base e }

  pub base_at : all_timely ≡ Ok true → ((length u == 0) && compares comparisons.Same (pos l) (pos 0)) ≡ true → Base tour here (pos 0)
  base_at h e = record { allowed = constraints_are true h; best = (pos 0, [], is_base e, refl) }

  -- the dual bound
  abbrev pub least : Fallible
  least = op_of tour here [] operations.Plus (sum_of tour here [] 2 u) (if_of tour here [] (Ok (compares comparisons.Same (pos l) (pos 0))) (Ok (pos 0)) (cell 2 (0 ∷ [])))

  pub least_is : num_value tour here least_distance [] ≡ least
  least_is =
      num_op tour here [] operations.Plus (nums.Sum 2 (args.Many (sets.Var 0) ∷ [])) (nums.If is_home (number 0) (min_to (number 0))) _ _ (num_sum tour here [] 2 0)
      (num_if tour here [] is_home (number 0) (min_to (number 0)) _ _ _ (home_is comparisons.Same []) (num_fixed tour here [] (pos 0))
      (num_cell tour here [] 2 (number 0) (Ok (pos 0)) (num_fixed tour here [] (pos 0))))

  pub tightest_at : (bound : ℤ) → least ≡ Ok bound → IsTightest tour here bound
  tightest_at bound h = (bound, [], rw (least_is ∙ h) refl, refl)

  -- ---- transitions

  abbrev may_visit : ℕ → Result Bool FaultKind
  may_visit k = if has u k then is_timely k else Ok false

  visit_enabled : (k : ℕ) (b : Bool) → may_visit k ≡ Ok b → is_enabled tour here (visit, k ∷ []) ≡ Ok b
  visit_enabled k b h = if_has (has u k) (cond_value tour here in_time (k ∷ [])) (is_timely k) b (in_time_is k) h
    where
      if_has : (member : Bool) (r q : Result Bool FaultKind) (b : Bool) → r ≡ q → (if member then q else Ok false) ≡ Ok b
          → ◌≡◌ {A = Result Bool FaultKind} (if member && true then (r >>= λ held. if held then Ok true else Ok false) else Ok false) (Ok b)
      if_has true r q true e h = rw (e ∙ h) refl
      if_has true r q false e h = rw (e ∙ h) refl
      if_has false r q b e h = h

  return_enabled : (b : Bool) → ((length u == 0) && compares comparisons.Other (pos l) (pos 0)) ≡ b → is_enabled tour here (return, []) ≡ Ok b
  return_enabled b h = both_are comparisons.Other ∙ ap Ok h

  visit_weight : (k w : ℕ) → cell 3 (l ∷ k ∷ []) ≡ Ok (pos w) → weight_of tour here (visit, k ∷ []) ≡ Ok (Some (pos w))
  visit_weight k w h = ap (λ (r : Fallible). ◌>>=◌ {B = Option ℤ} r (λ w. Ok (Some w))) (distance_to (k ∷ []) to k (to_is k) ∙ h)

  return_weight : (w : ℕ) → cell 3 (l ∷ 0 ∷ []) ≡ Ok (pos w) → weight_of tour here (return, []) ≡ Ok (Some (pos w))
  return_weight w h = ap (λ (r : Fallible). ◌>>=◌ {B = Option ℤ} r (λ w. Ok (Some w))) (distance_to [] (number 0) 0 (num_fixed tour here [] (pos 0)) ∙ h)

  -- the values of the three effects of a visit, and of the two of the return
  abbrev rest_of : ℕ → Result (List ℕ) FaultKind
  rest_of k = without_of tour here (k ∷ []) (Ok (pos k)) (0, λ (g : List ℕ). Ok u)

  abbrev starts : ℕ → Fallible
  starts k = op_of tour here [] operations.Most (arrives k) (cell 0 (k ∷ []))

  starts_is : (k : ℕ) → num_value tour here (nums.Op operations.Most (arrival to) (ready to)) (k ∷ []) ≡ starts k
  starts_is k = num_op tour here (k ∷ []) operations.Most (arrival to) (ready to) (arrives k) (cell 0 (k ∷ [])) (arrival_at (k ∷ []) to k (to_is k)) (num_cell tour here (k ∷ []) 0 to (Ok (pos k)) (to_is k))

  visit_next : (k : ℕ) (u' : List ℕ) (t' : ℕ) → rest_of k ≡ Ok u' → stored (kind_of tour 1) (pos k) ≡ Ok (pos k) → starts k ≡ Ok (pos t') → next_state tour here (visit, k ∷ []) ≡ Ok (at u' k t')
  visit_next k u' t' rest fits time_is =
      rw (set_without tour here (k ∷ []) to 0 (Ok (pos k)) (to_is k) ∙ rest, to_is k, fits, starts_is k ∙ time_is) refl

  return_next : (t' : ℕ) → arrives 0 ≡ Ok (pos t') → next_state tour here (return, []) ≡ Ok (at u 0 t')
  return_next t' h = rw (num_fixed tour here [] (pos 0), arrival_at [] (number 0) 0 (num_fixed tour here [] (pos 0)) ∙ h) refl

-- ---- which transitions are considered and enabled

-- a transition that is not forced
unforced : (t v : Transition × List ℕ) → ◌≡◌ {A = Option (Transition × List ℕ)} (Some t) (Some v) → t.0.forced ≡ false → v.0.forced ≡ true → ⊥
unforced t v e free forced = let same : t ≡ v = cc in let clash : false ≡ true = sym free ∙ ap (λ (x : Transition × List ℕ). x.0.forced) same ∙ forced in cc

none_forced : (g : ℕ) → IsForced tour g → ⊥
none_forced zero h = unforced _ h.0 h.1 refl h.2
none_forced (suc zero) h = unforced _ h.0 h.1 refl h.2
none_forced (suc (suc zero)) h = unforced _ h.0 h.1 refl h.2
none_forced (suc (suc (suc zero))) h = unforced _ h.0 h.1 refl h.2
none_forced (suc (suc (suc (suc zero)))) h = unforced _ h.0 h.1 refl h.2
none_forced (suc (suc (suc (suc (suc g))))) h = let clash : None ≡ Some h.0 = h.1 in absurd (cc)

considered : (s : PlainState) (g : ℕ) → Considered tour s g
considered s g f t forced is before = absurd (none_forced f forced)

-- a visit, from an inner state to another
pub visit_step : (u : List ℕ) (l t k w : ℕ) (u' : List ℕ) (t' : ℕ) → ground_of tour k ≡ Some (visit, k ∷ []) → Inner tour (at u l t) → may_visit u l t k ≡ Ok true → cell 3 (l ∷ k ∷ []) ≡ Ok (pos w)
    → rest_of u l t k ≡ Ok u' → stored (kind_of tour 1) (pos k) ≡ Ok (pos k) → starts u l t k ≡ Ok (pos t') → Step tour (at u l t) k (Some (pos w)) (at u' k t')
visit_step u l t k w u' t' is inner may far rest fits time_is =
    record { inner = inner; considered = considered (at u l t) k; move = ((visit, k ∷ []), is, visit_enabled u l t k true may, visit_weight u l t k w far, visit_next u l t k u' t' rest fits time_is) }

pub return_step : (u : List ℕ) (l t w t' : ℕ) → Inner tour (at u l t) → ((length u == 0) && compares comparisons.Other (pos l) (pos 0)) ≡ true → cell 3 (l ∷ 0 ∷ []) ≡ Ok (pos w) → arrives u l t 0 ≡ Ok (pos t')
    → Step tour (at u l t) 4 (Some (pos w)) (at u 0 t')
return_step u l t w t' inner may far time_is =
    record { inner = inner; considered = considered (at u l t) 4; move = ((return, []), refl, return_enabled u l t true may, return_weight u l t w far, return_next u l t t' time_is) }

disabled : (s : PlainState) (g : ℕ) (t : Transition × List ℕ) → ground_of tour g ≡ Some t → is_enabled tour s t ≡ Ok false → Enabled tour s g → ⊥
disabled s g t is not_now enabled =
    let same = some_same t enabled.0 (sym is ∙ enabled.1) in
    clash (sym not_now ∙ ap (is_enabled tour s) same ∙ enabled.2)
  where
    some_same : (t v : Transition × List ℕ) → ◌≡◌ {A = Option (Transition × List ℕ)} (Some t) (Some v) → t ≡ v
    some_same t v e = cc

    clash : ◌≡◌ {A = Result Bool FaultKind} (Ok false) (Ok true) → ⊥
    clash e = cc

pub no_visit : (u : List ℕ) (l t k : ℕ) → ground_of tour k ≡ Some (visit, k ∷ []) → may_visit u l t k ≡ Ok false → Enabled tour (at u l t) k → ⊥
no_visit u l t k is h enabled = disabled (at u l t) k (visit, k ∷ []) is (visit_enabled u l t k false h) enabled

pub no_return : (u : List ℕ) (l t : ℕ) → ((length u == 0) && compares comparisons.Other (pos l) (pos 0)) ≡ false → Enabled tour (at u l t) 4 → ⊥
no_return u l t h enabled = disabled (at u l t) 4 (return, []) refl (return_enabled u l t false h) enabled

pub no_more : (s : PlainState) (g : ℕ) → Enabled tour s (suc (suc (suc (suc (suc g))))) → ⊥
no_more s g h = let clash : None ≡ Some h.0 = h.1 in absurd (cc)
