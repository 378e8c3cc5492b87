-- What is read is well typed.
use Rattle.std.proofs.Common.{◌≡◌, ℕ, zero, suc, ◌+◌, Bool, true, false, not, ◌&&◌, ◌||◌, ◌==◌, nat_lt, if◌then◌else◌, List, [], ◌∷◌, ◌++◌, map, codes, length, Option, Some, None, option_map, option_and_then, Result, Ok, Err, IfOk, IsTrue, pos, refl, sym, ap, ◌∙◌, add-zero, append-nil, arith}
use Rattle.std.proofs.lemmas.Bool.{and_from, eq-eqb, not-true}
use Rattle.std.proofs.lemmas.List.{length-map, length-append}
use Rattle.std.proofs.lemmas.List.Folds.{list_all-append, list_any-append}
use Rattle.std.proofs.lemmas.Result.{IfOk-weaker}
use Rattle.std.proofs.lemmas.Bool.Decides.{Decides-eqb}
use Rattle.std.specs.Bool.{one_answer}
use Rattle.std.specs.List.{list_all, list_any, position_or_len}
use Rattle.std.specs.Option.{option_or}
use Rattle.std.specs.Str.{bytes_eq}
use Rattle.dp_base.specs.Results.{◌>>=◌}
use Rattle.dp_base.specs.declared.place.Place.{Place}
use Rattle.dp_model.specs.Typing.{kind_at, is_number_kind, is_set_kind, over_typed, NumTest, CondTest, SetTest, ArgTest, arg_typed, cond_typed, num_typed, set_typed as set_test, is_num, is_set, is_cond, holds_set_of, is_effect, effect_variable, are_different, is_weight, is_transition, is_base_case}
use Rattle.dp_model.specs.declared.parts.ObjectType.{ObjectType}
use Rattle.dp_model.specs.declared.parts.Variable.{Variable}
use Rattle.dp_model.specs.declared.parts.VarKind.{VarKind}
use Rattle.dp_model.specs.declared.parts.VarKind.TheVariants as kinds
use Rattle.dp_model.specs.declared.parts.TableData.{TableData}
use Rattle.dp_model.specs.declared.parts.Effect.{Effect}
use Rattle.dp_model.specs.declared.parts.BaseCase.{BaseCase}
use Rattle.dp_model.specs.declared.trees.Num.{Num}
use Rattle.dp_model.specs.declared.trees.SetEx.{SetEx}
use Rattle.dp_model.specs.declared.trees.Cond.{Cond}
use Rattle.dp_model.specs.declared.trees.Cond as conds
use Rattle.dp_model.specs.declared.trees.Cond.TheVariants as cond_forms
use Rattle.dp_model.specs.declared.trees.Arg.{Arg}
use Rattle.dp_model.specs.declared.trees.Arg as args
use Rattle.dp_model.specs.declared.trees.Over.{Over}
use Rattle.dp_model.specs.declared.trees.Over.TheVariants.{Object}
use Rattle.yaml_tree.specs.declared.tree.Tree.{Tree}
use Rattle.yaml_tree.specs.declared.tree.Tree as trees
use Rattle.yaml_tree.specs.declared.tree.Pair.{Pair}
use Rattle.yaml_tree.specs.Fields.{tree_place, value_in}
use Rattle.dypdl_words.specs.declared.ends.TypeEnd.{TypeEnd}
use Rattle.dypdl_words.specs.declared.scope.Param.{Param}
use Rattle.dypdl_type.specs.Typing.{typing, members_of, cost_typing}
use Rattle.dypdl_type.specs.declared.cost.CostForm.{CostForm}
use Rattle.dypdl_type.specs.declared.cost.CostForm.TheVariants.{Bare, Joined}
use Rattle.dypdl_type.proofs.Trees.{num_fixed}
use Rattle.dypdl_type.proofs.Typed.{CostWith, number_typed, condition_typed, cost_typed, set_typed}
use Rattle.dypdl_nodes.specs.Reads.{Reads, or_refuse, holds}
use Rattle.dypdl_nodes.specs.Shapes.{few_items, items_or_none, entries_or_none, keyed, known_keys, needed}
use Rattle.dypdl_nodes.specs.Scalars.{text_of, truth_or_false}
use Rattle.dypdl_data.specs.Names.{name_by, new_name, known_key, number_named, is_transition_name}
use Rattle.dypdl_data.specs.Objects.{object_names}
use Rattle.dypdl_data.specs.Variables.{variable_names}
use Rattle.dypdl_rules.specs.Declarations.{Declared, names_with, taken_names}
use Rattle.dypdl_rules.specs.Expressions.{Reading, typed_by}
use Rattle.dypdl_rules.specs.Parameters.{parameter_keys, members_over, over_named, over_of, param_names, param_of, param_step, params_of, overs}
use Rattle.dypdl_rules.specs.Conditions.{condition_keys, for_all, Quantifier, quantifier_of, quantified, condition_form, condition_within, condition_of, condition_step, conditions_in, conditions_of}
use Rattle.dypdl_rules.specs.Effects.{effect_on, sets_variable, effect_step, effects_of}
use Rattle.dypdl_rules.specs.Moves.{transition_keys, weighing, weighing_of, direction_of, Body, body_of, move_of, move_step}
use Rattle.dypdl_rules.specs.BaseCases.{base_case_keys, number_in, base_cost_of, listed_case, mapped_case, base_case_form, base_case_of, base_case_step, bound_step}
use Rattle.dypdl_rules.specs.declared.transitions.Weighing.{Weighing}
use Rattle.dypdl_rules.specs.declared.transitions.Move.{Move}
use Rattle.dypdl_rules.proofs.Given.{and_then, after, each_keeps, typed_gives, itself}

-- ---- lists

pub pushed : {A : Type 0} (p : A → Bool) (xs : List A) (x : A) → IsTrue (list_all p xs) → IsTrue (p x) → IsTrue (list_all p (xs ++ x ∷ []))
pushed p xs x h k = list_all-append p xs (x ∷ []) ∙ and_from (list_all p xs) (list_all p (x ∷ [])) h (and_from (p x) true k refl)

pub map_pushed : {A B : Type 0} (f : A → B) (xs : List A) (x : A) → map f (xs ++ x ∷ []) ≡ map f xs ++ f x ∷ []
map_pushed f [] x = refl
map_pushed f (y ∷ xs) x = ap (λ ys. f y ∷ ys) (map_pushed f xs x)

pub mapped : {A B : Type 0} (f : A → B) (p : B → Bool) (xs : List A) (x : A) → IsTrue (list_all p (map f xs)) → IsTrue (p (f x)) → IsTrue (list_all p (map f (xs ++ x ∷ [])))
mapped f p xs x h k = rw (map_pushed f xs x) (pushed p (map f xs) (f x) h k)

pub and_both : (a b : Bool) → IsTrue (a && b) → IsTrue a × IsTrue b
and_both true b h = (refl, h)
and_both false b h = absurd cc

eq-swap : (a b : ℕ) → (a == b) ≡ (b == a)
eq-swap a b = one_answer (a == b) (b == a) (Decides-eqb a b) (λ e. sym ((Decides-eqb b a).0 e), λ e. (Decides-eqb b a).1 (sym e))

or_neither : (a b : Bool) → (a || b) ≡ false → (a ≡ false) × (b ≡ false)
or_neither true b h = absurd cc
or_neither false b h = (refl, h)

-- a number of a name is one of the list's
in_list : (test : Bool) (at i : ℕ) → (if test then Some at else None) ≡ Some i → (test ≡ true) × (at ≡ i)
in_list true at i e = (refl, cc)
in_list false at i e = absurd cc

pub numbered_within : (names : List (List ℕ)) (word : List ℕ) (i : ℕ) → number_named names word ≡ Some i → IsTrue (nat_lt i (length names))
numbered_within names word i e =
    let h = in_list (nat_lt (position_or_len (bytes_eq word) names) (length names)) (position_or_len (bytes_eq word) names) i e in
    rw (sym h.1) h.0

module _ (read : Reading) (d : Declared) where
  abbrev os : List ObjectType
  os = d.objects

  abbrev vs : List Variable
  vs = d.variables

  abbrev ts : List TableData
  ts = d.tables

  abbrev pub IsNumWith : ℕ → Num → Type 0
  IsNumWith given n = IsTrue (is_num os vs ts n given)

  abbrev pub IsCondWith : ℕ → Cond → Type 0
  IsCondWith given c = IsTrue (is_cond os vs ts c given)

  abbrev pub IsSetWith : (object given : ℕ) → SetEx → Type 0
  IsSetWith object given s = ((is_set os vs ts s).0 ≡ object) × IsTrue ((is_set os vs ts s).1 given)

  -- ---- expressions in their places

  pub number_gives : (params : List Param) (tree : Tree) → IfOk (typed_by read (λ e. (typing (names_with d params) e).number) tree) (IsNumWith (length params))
  number_gives params tree =
      typed_gives (IsNumWith (length params)) read (λ e. (typing (names_with d params) e).number) tree (λ e.
      IfOk-weaker (typing (names_with d params) e).number _ (IsNumWith (length params)) (λ n h. h os) (number_typed (names_with d params) e (typing (names_with d params) e).number (itself (typing (names_with d params) e).number)))

  pub condition_gives : (params : List Param) (tree : Tree) → IfOk (typed_by read (λ e. (typing (names_with d params) e).condition) tree) (IsCondWith (length params))
  condition_gives params tree =
      typed_gives (IsCondWith (length params)) read (λ e. (typing (names_with d params) e).condition) tree (λ e.
      IfOk-weaker (typing (names_with d params) e).condition _ (IsCondWith (length params)) (λ n h. h os) (condition_typed (names_with d params) e (typing (names_with d params) e).condition (itself (typing (names_with d params) e).condition)))

  second : (P : SetEx → Type 0) (r : Result (ℕ × SetEx) TypeEnd) → ((s : ℕ × SetEx) → r ≡ Ok s → P s.1) → IfOk (r >>= λ (s : ℕ × SetEx). Ok s.1) P
  second P (Ok s) h = h s refl
  second P (Err e) h = tt

  pub members_give : (params : List Param) (object : ℕ) (tree : Tree) → IfOk (typed_by read (λ e. members_of object (typing (names_with d params) e)) tree) (IsSetWith object (length params))
  members_give params object tree =
      typed_gives (IsSetWith object (length params)) read (λ e. members_of object (typing (names_with d params) e)) tree (λ e.
      second (IsSetWith object (length params)) ((typing (names_with d params) e).members (Some object)) (λ s is. set_typed (names_with d params) object e s is os))

  pub cost_gives : (params : List Param) (tree : Tree) → IfOk (typed_by read (cost_typing (names_with d params)) tree) (CostWith (names_with d params) os)
  cost_gives params tree =
      typed_gives (CostWith (names_with d params) os) read (cost_typing (names_with d params)) tree (λ e.
      IfOk-weaker (cost_typing (names_with d params) e) _ (CostWith (names_with d params) os) (λ c h. h os) (cost_typed (names_with d params) e (cost_typing (names_with d params) e) (itself (cost_typing (names_with d params) e))))

  -- ---- parameters

  abbrev pub OverTyped : Over → Type 0
  OverTyped over = IsTrue (over_typed os vs over)

  abbrev IsSomeTyped : Option Over → Type 0
  IsSomeTyped (Some over) = OverTyped over
  IsSomeTyped None = Unit {0}

  members_typed : (v : ℕ) (kind : Option VarKind) → kind_at vs v ≡ kind → IsSomeTyped (members_over v kind)
  members_typed v (Some (kinds.Set object)) e = ap is_set_kind e
  members_typed v (Some (kinds.Element object)) e = tt
  members_typed v (Some kinds.Integer) e = tt
  members_typed v None e = tt

  named_typed : (word : List ℕ) → IsSomeTyped (over_named d word)
  named_typed word = by_object (number_named (object_names os) word) refl
    where
      by_variable : (v : Option ℕ) → IsSomeTyped (option_and_then (λ v. members_over v (kind_at vs v)) v)
      by_variable (Some v) = members_typed v (kind_at vs v) refl
      by_variable None = tt

      by_object : (o : Option ℕ) → number_named (object_names os) word ≡ o → IsSomeTyped (option_or (option_map Object o) (option_and_then (λ v. members_over v (kind_at vs v)) (number_named (variable_names vs) word)))
      by_object (Some o) e = rw (length-map os (λ (o : ObjectType). o.name)) at (numbered_within (object_names os) word o e)
      by_object None e = by_variable (number_named (variable_names vs) word)

  or_refused : (at : Place) (over : Option Over) → IsSomeTyped over → IfOk (or_refuse 30 at over) OverTyped
  or_refused at (Some over) h = h
  or_refused at None h = tt

  over_gives : (tree : Tree) → IfOk (over_of d tree) OverTyped
  over_gives tree = after OverTyped (text_of tree) _ (λ word. or_refused (tree_place tree) (over_named d word) (named_typed word))

  abbrev ParamTyped : Param → Type 0
  ParamTyped p = OverTyped p.over

  param_gives : (done : List Param) (item : Tree) → IfOk (param_of d done item) ParamTyped
  param_gives done item =
      after ParamTyped (keyed parameter_keys item) _ (λ entries.
      after ParamTyped (needed (tree_place item) entries (codes "name")) _ (λ name_tree.
      after ParamTyped (needed (tree_place item) entries (codes "object")) _ (λ over_tree.
      after ParamTyped (new_name (taken_names d ++ param_names done) name_tree) _ (λ name.
      and_then OverTyped ParamTyped (over_of d over_tree) _ (over_gives over_tree) (λ over h. h)))))

  abbrev pub ParamsTyped : List Param → Type 0
  ParamsTyped ps = IsTrue (list_all (over_typed os vs) (overs ps))

  pub params_give : (tree : Option Tree) → IfOk (params_of d tree) ParamsTyped
  params_give tree =
      after ParamsTyped (items_or_none 4 tree) _ (λ items.
      each_keeps ParamsTyped (param_step d) (λ done item h.
      and_then ParamTyped ParamsTyped (param_of d done item) _ (param_gives done item) (λ p k. mapped (λ (p : Param). p.over) (over_typed os vs) done p h k)) [] items refl)

  -- ---- conditions

  all_typed : (over : Over) (c : Cond) (given : ℕ) → OverTyped over → IsCondWith (suc given) c → IsCondWith given (cond_forms.All over c)
  all_typed over c given h k =
      ap (λ (t : CondTest). t given) (conds.fold_out-Cond ArgTest CondTest NumTest SetTest arg_typed (cond_typed os vs ts) (num_typed vs ts) (set_test vs ts) (cond_forms.All over c))
      ∙ ap (λ (x : conds.Cond-F Arg Cond Num SetEx). cond_typed os vs ts (conds.map-Cond Arg Cond Num SetEx ArgTest CondTest NumTest SetTest (args.fold-Arg ArgTest CondTest NumTest SetTest arg_typed (cond_typed os vs ts) (num_typed vs ts) (set_test vs ts)) (is_cond os vs ts) (is_num os vs ts) (is_set os vs ts) x) given) (cond_forms.outs-All over c)
      ∙ and_from (over_typed os vs over) (is_cond os vs ts c (suc given)) h k

  for_all_typed : (ps : List Param) (c : Cond) (given : ℕ) → ParamsTyped ps → IsCondWith (given + length ps) c → IsCondWith given (for_all ps c)
  for_all_typed [] c given h k = rw add-zero at k
  for_all_typed (p ∷ ps) c given h k =
      let both : IsTrue (over_typed os vs p.over) × IsTrue (list_all (over_typed os vs) (overs ps)) = and_both (over_typed os vs p.over) (list_all (over_typed os vs) (overs ps)) h in
      let n : given + suc (length ps) ≡ suc given + length ps = omega arith in
      all_typed p.over (for_all ps c) given both.0 (for_all_typed ps c (suc given) both.1 (rw n at k))

  abbrev QuantifierTyped : Quantifier → Type 0
  QuantifierTyped q = ParamsTyped q.params

  quantifier_gives : (at : Place) (entries : List Pair) → IfOk (quantifier_of d at entries) QuantifierTyped
  quantifier_gives at entries =
      after QuantifierTyped (known_keys condition_keys entries) _ (λ known.
      after QuantifierTyped (needed at known (codes "condition")) _ (λ tree.
      and_then ParamsTyped QuantifierTyped (params_of d (value_in (codes "forall") known)) _ (params_give (value_in (codes "forall") known)) (λ ps h. h)))

  abbrev InnerTyped : (List Param → Tree → Reads Cond) → Type 0
  InnerTyped inner = (params : List Param) (tree : Tree) → IfOk (inner params tree) (IsCondWith (length params))

  quantified_gives : (inner : List Param → Tree → Reads Cond) (outer : List Param) (at : Place) (entries : List Pair) → InnerTyped inner → IfOk (quantified d inner outer at entries) (IsCondWith (length outer))
  quantified_gives inner outer at entries h =
      and_then QuantifierTyped (IsCondWith (length outer)) (quantifier_of d at entries) _ (quantifier_gives at entries) (λ q k.
      and_then (IsCondWith (length (outer ++ q.params))) (IsCondWith (length outer)) (inner (outer ++ q.params) q.condition) _ (h (outer ++ q.params) q.condition) (λ c typed.
      for_all_typed q.params c (length outer) k (rw (length-append outer q.params) at typed)))

  form_gives : (inner : List Param → Tree → Reads Cond) (params : List Param) (tree : Tree) (form : trees.Tree-F Tree Pair) → InnerTyped inner → IfOk (condition_form read d inner params tree form) (IsCondWith (length params))
  form_gives inner params tree (trees.Tree-F.Scalar at text) h = condition_gives params tree
  form_gives inner params tree (trees.Tree-F.List at items) h = tt
  form_gives inner params tree (trees.Tree-F.Map at entries) h = quantified_gives inner params at entries h

  within_gives : (levels : ℕ) → InnerTyped (condition_within read d levels)
  unfolding condition_within
  within_gives zero params tree = tt
  within_gives (suc levels) params tree = form_gives (condition_within read d levels) params tree (trees.out-Tree tree) (within_gives levels)

  abbrev pub CondsTyped : ℕ → List Cond → Type 0
  CondsTyped given cs = IsTrue (list_all (λ c. is_cond os vs ts c given) cs)

  pub condition_kept : (params : List Param) (done : List Cond) (item : Tree) → CondsTyped (length params) done → IfOk (condition_step read d params done item) (CondsTyped (length params))
  condition_kept params done item h =
      and_then (IsCondWith (length params)) (CondsTyped (length params)) (condition_of read d params item) _ (within_gives 64 params item) (λ c k. pushed (λ c. is_cond os vs ts c (length params)) done c h k)

  conditions_give : (params : List Param) (items : List Tree) → IfOk (conditions_in read d params items) (CondsTyped (length params))
  conditions_give params items = each_keeps (CondsTyped (length params)) (condition_step read d params) (condition_kept params) [] items refl

  listed_give : (params : List Param) (most : ℕ) (tree : Option Tree) → IfOk (conditions_of read d params most tree) (CondsTyped (length params))
  unfolding conditions_of
  listed_give params most tree = after (CondsTyped (length params)) (items_or_none most tree) _ (λ items. conditions_give params items)

  -- ---- effects

  abbrev AreEffects : ℕ → List Effect → Type 0
  AreEffects given es = IsTrue (list_all (is_effect os vs ts given) es) × IsTrue (are_different es)

  -- what is set by one step: nothing, or this variable alone
  AreOf : (v given : ℕ) → List Effect → Type 0
  AreOf v given [] = Unit {0}
  AreOf v given (e ∷ []) = (effect_variable e ≡ v) × IsTrue (is_effect os vs ts given e)
  AreOf v given (e ∷ f ∷ es) = ⊥

  fresh_in : (v : ℕ) (e f : Effect) (es : List Effect) → effect_variable f ≡ v → sets_variable v (e ∷ es) ≡ false → are_different (e ∷ es) ≡ true → list_any (λ other. effect_variable other == effect_variable e) (es ++ f ∷ []) ≡ false
  fresh_in v e f es is fresh h =
      let t : Effect → Bool = λ other. effect_variable other == effect_variable e in
      let apart : (effect_variable e == v) ≡ false = (or_neither (effect_variable e == v) (sets_variable v es) fresh).0 in
      let here : t f ≡ false = rw is (eq-swap v (effect_variable e) ∙ apart) in
      let before : list_any t es ≡ false = not-true (list_any t es) (and_both (not (list_any t es)) (are_different es) h).0 in
      list_any-append t es (f ∷ []) ∙ rw (before, here) refl

  different : (v : ℕ) (f : Effect) (es : List Effect) → effect_variable f ≡ v → sets_variable v es ≡ false → are_different es ≡ true → are_different (es ++ f ∷ []) ≡ true
  different v f [] is fresh h = refl
  different v f (e ∷ es) is fresh h =
      and_from (not (list_any (λ other. effect_variable other == effect_variable e) (es ++ f ∷ []))) (are_different (es ++ f ∷ []))
      (ap not (fresh_in v e f es is fresh h))
      (different v f es is (or_neither (effect_variable e == v) (sets_variable v es) fresh).1 (and_both (not (list_any (λ other. effect_variable other == effect_variable e) es)) (are_different es) h).1)

  on_gives : (params : List Param) (v : ℕ) (tree : Tree) (kind : Option VarKind) → kind_at vs v ≡ kind → IfOk (effect_on read d params v tree kind) (AreOf v (length params))
  unfolding AreOf
  on_gives params v tree None e = tt
  on_gives params v tree (Some kinds.Integer) e =
      and_then (IsNumWith (length params)) (AreOf v (length params)) (typed_by read (λ e. (typing (names_with d params) e).number) tree) _ (number_gives params tree)
      (λ n h. (refl, and_from (is_number_kind (kind_at vs v)) (is_num os vs ts n (length params)) (ap is_number_kind e) h))
  on_gives params v tree (Some (kinds.Element object)) e =
      and_then (IsNumWith (length params)) (AreOf v (length params)) (typed_by read (λ e. (typing (names_with d params) e).number) tree) _ (number_gives params tree)
      (λ n h. (refl, and_from (is_number_kind (kind_at vs v)) (is_num os vs ts n (length params)) (ap is_number_kind e) h))
  on_gives params v tree (Some (kinds.Set object)) e =
      and_then (IsSetWith object (length params)) (AreOf v (length params)) (typed_by read (λ e. members_of object (typing (names_with d params) e)) tree) _ (members_give params object tree)
      (λ s h. (refl, and_from (holds_set_of (is_set os vs ts s).0 (kind_at vs v)) ((is_set os vs ts s).1 (length params)) (ap (λ (k : Option VarKind). holds_set_of (is_set os vs ts s).0 k) e ∙ eq-eqb (is_set os vs ts s).0 object h.0) h.1))

  joined : (v given : ℕ) (done more : List Effect) → sets_variable v done ≡ false → AreEffects given done → AreOf v given more → AreEffects given (done ++ more)
  unfolding AreOf
  joined v given done [] fresh h k = rw append-nil h
  joined v given done (e ∷ []) fresh h k = (pushed (is_effect os vs ts given) done e h.0 k.1, different v e done k.0 fresh h.1)
  joined v given done (e ∷ f ∷ es) fresh h k = absurd k

  where_holds : {B : Type 0} (Q : B → Type 0) (test : Bool) (number : ℕ) (at : Place) (f : Unit {0} → Reads B) → (test ≡ true → IfOk (f tt) Q) → IfOk (holds test number at >>= f) Q
  where_holds Q true number at f h = h refl
  where_holds Q false number at f h = tt

  effect_kept : (params : List Param) (done : List Effect) (pair : Pair) → AreEffects (length params) done → IfOk (effect_step read d params done pair) (AreEffects (length params))
  unfolding effect_step
  effect_kept params done pair h =
      after (AreEffects (length params)) (known_key 30 (variable_names vs) pair.key) _ (λ v.
      where_holds (AreEffects (length params)) (not (sets_variable v done)) 43 (tree_place pair.key) _ (λ fresh.
      and_then (AreOf v (length params)) (AreEffects (length params)) (effect_on read d params v pair.value (kind_at vs v)) _ (on_gives params v pair.value (kind_at vs v) refl) (λ more k.
      joined v (length params) done more (not-true (sets_variable v done) fresh) h k)))

  effects_give : (params : List Param) (tree : Option Tree) → IfOk (effects_of read d params tree) (AreEffects (length params))
  unfolding effects_of
  effects_give params tree =
      after (AreEffects (length params)) (entries_or_none tree) _ (λ entries. each_keeps (AreEffects (length params)) (effect_step read d params) (effect_kept params) [] entries (refl, refl))

  -- ---- transitions

  abbrev WeightTyped : ℕ → Weighing → Type 0
  WeightTyped given w = IsTrue (is_weight os vs ts given w.weight)

  weighs : (params : List Param) (at : Place) (form : CostForm) → CostWith (names_with d params) os form → WeightTyped (length params) (weighing at form)
  weighs params at Bare h = refl
  weighs params at (Joined op n) h = h

  weighing_gives : (params : List Param) (tree : Option Tree) → IfOk (weighing_of read d params tree) (WeightTyped (length params))
  unfolding weighing_of
  weighing_gives params None = refl
  weighing_gives params (Some tree) =
      and_then (CostWith (names_with d params) os) (WeightTyped (length params)) (typed_by read (cost_typing (names_with d params)) tree) _ (cost_gives params tree) (λ form h. weighs params (tree_place tree) form h)

  abbrev BodyTyped : Body → Type 0
  BodyTyped b = IsTrue (is_transition os vs ts b.transition)

  body_gives : (name : List ℕ) (params : List Param) (entries : List Pair) → ParamsTyped params → IfOk (body_of read d name params entries) BodyTyped
  unfolding body_of
  body_gives name params entries h =
      let n : length (overs params) ≡ length params = length-map params (λ (p : Param). p.over) in
      and_then (CondsTyped (length params)) BodyTyped (conditions_of read d params 256 (value_in (codes "preconditions") entries)) _ (listed_give params 256 (value_in (codes "preconditions") entries)) (λ preconditions conds_typed.
      and_then (AreEffects (length params)) BodyTyped (effects_of read d params (value_in (codes "effects") entries)) _ (effects_give params (value_in (codes "effects") entries)) (λ changes effects_typed.
      and_then (WeightTyped (length params)) BodyTyped (weighing_of read d params (value_in (codes "cost") entries)) _ (weighing_gives params (value_in (codes "cost") entries)) (λ w weight_typed.
      after BodyTyped (truth_or_false (value_in (codes "forced") entries)) _ (λ forced.
      after BodyTyped (direction_of (value_in (codes "direction") entries)) _ (λ forward.
      rw n (and_from (list_all (over_typed os vs) (overs params)) _ h (and_from (list_all (λ c. is_cond os vs ts c (length params)) preconditions) _ conds_typed (and_from (list_all (is_effect os vs ts (length params)) changes) _ effects_typed.0 (and_from (are_different changes) _ effects_typed.1 weight_typed)))))))))

  abbrev MoveTyped : Move → Type 0
  MoveTyped m = IsTrue (is_transition os vs ts m.transition)

  move_gives : (item : Tree) → IfOk (move_of read d item) MoveTyped
  unfolding move_of
  move_gives item =
      after MoveTyped (keyed transition_keys item) _ (λ entries.
      after MoveTyped (needed (tree_place item) entries (codes "name")) _ (λ name_tree.
      after MoveTyped (name_by is_transition_name name_tree) _ (λ name.
      and_then ParamsTyped MoveTyped (params_of d (value_in (codes "parameters") entries)) _ (params_give (value_in (codes "parameters") entries)) (λ params h.
      and_then BodyTyped MoveTyped (body_of read d name params entries) _ (body_gives name params entries h) (λ b k. k)))))

  abbrev pub MovesTyped : List Move → Type 0
  MovesTyped ms = IsTrue (list_all (is_transition os vs ts) (map (λ (m : Move). m.transition) ms))

  pub move_kept : (done : List Move) (item : Tree) → MovesTyped done → IfOk (move_step read d done item) MovesTyped
  move_kept done item h = and_then MoveTyped MovesTyped (move_of read d item) _ (move_gives item) (λ m k. mapped (λ (m : Move). m.transition) (is_transition os vs ts) done m h k)

  -- ---- base cases and bounds

  number_in_gives : (tree : Tree) → IfOk (number_in read d tree) (IsNumWith 0)
  unfolding number_in
  number_in_gives tree = number_gives [] tree

  base_cost_gives : (tree : Option Tree) → IfOk (base_cost_of read d tree) (IsNumWith 0)
  base_cost_gives None = num_fixed os vs ts 0 (pos 0) refl
  base_cost_gives (Some tree) = number_in_gives tree

  abbrev CaseTyped : BaseCase → Type 0
  CaseTyped b = IsTrue (is_base_case os vs ts b)

  listed_gives : (tree : Tree) → IfOk (listed_case read d tree) CaseTyped
  listed_gives tree =
      after CaseTyped (few_items 256 tree) _ (λ items.
      and_then (CondsTyped 0) CaseTyped (conditions_in read d [] items) _ (conditions_give [] items) (λ cs h.
      and_from (list_all (λ c. is_cond os vs ts c 0) cs) _ h (num_fixed os vs ts 0 (pos 0) refl)))

  mapped_gives : (at : Place) (entries : List Pair) → IfOk (mapped_case read d at entries) CaseTyped
  mapped_gives at entries =
      after CaseTyped (known_keys base_case_keys entries) _ (λ known.
      after CaseTyped (needed at known (codes "conditions")) _ (λ list.
      after CaseTyped (few_items 256 list) _ (λ items.
      and_then (CondsTyped 0) CaseTyped (conditions_in read d [] items) _ (conditions_give [] items) (λ cs h.
      and_then (IsNumWith 0) CaseTyped (base_cost_of read d (value_in (codes "cost") known)) _ (base_cost_gives (value_in (codes "cost") known)) (λ cost k.
      and_from (list_all (λ c. is_cond os vs ts c 0) cs) _ h k)))))

  case_form_gives : (tree : Tree) (form : trees.Tree-F Tree Pair) → IfOk (base_case_form read d tree form) CaseTyped
  case_form_gives tree (trees.Tree-F.Map at entries) = mapped_gives at entries
  case_form_gives tree (trees.Tree-F.List at items) = listed_gives tree
  case_form_gives tree (trees.Tree-F.Scalar at text) = listed_gives tree

  abbrev pub CasesTyped : List BaseCase → Type 0
  CasesTyped bs = IsTrue (list_all (is_base_case os vs ts) bs)

  pub case_kept : (done : List BaseCase) (item : Tree) → CasesTyped done → IfOk (base_case_step read d done item) CasesTyped
  case_kept done item h = and_then CaseTyped CasesTyped (base_case_of read d item) _ (case_form_gives item (trees.out-Tree item)) (λ b k. pushed (is_base_case os vs ts) done b h k)

  abbrev pub BoundsTyped : List Num → Type 0
  BoundsTyped ns = IsTrue (list_all (λ n. is_num os vs ts n 0) ns)

  pub bound_kept : (done : List Num) (item : Tree) → BoundsTyped done → IfOk (bound_step read d done item) BoundsTyped
  bound_kept done item h = and_then (IsNumWith 0) BoundsTyped (number_in read d item) _ (number_in_gives item) (λ n k. pushed (λ n. is_num os vs ts n 0) done n h k)
