-- Each transition is what its item says.
use Rattle.std.proofs.Common.{◌≡◌, ℕ, zero, suc, ◌-◌, Bool, true, false, not, ◌||◌, List, [], ◌∷◌, ◌++◌, length, refl, sym, ap, ◌∙◌, subst, inl, inr, Option, Some, None, Ok, append_assoc, if◌then◌else◌}
use Rattle.std.specs.Prelude.{codes, slice_get, option_map, option_and_then, unwrap_or, ⊤}
use Rattle.std.specs.Option.{option_or}
use Rattle.std.specs.Str.{bytes_eq}
use Rattle.std.proofs.lemmas.List.{append-nil, length-map}
use Rattle.std.proofs.lemmas.Option.{slice_get-map}
use Rattle.dp_base.specs.declared.place.Place.{Place}
use Rattle.dp_base.specs.Results.{◌>>=◌, each}
use Rattle.dp_model.specs.Typing.{kind_at}
use Rattle.dp_model.specs.declared.parts.Effect.{Effect}
use Rattle.dp_model.specs.declared.parts.Effect.TheVariants as changes
use Rattle.dp_model.specs.declared.parts.Ground.{Ground}
use Rattle.dp_model.specs.declared.parts.JoinOp.{JoinOp}
use Rattle.dp_model.specs.declared.parts.JoinOp.TheVariants.{Plus, Most, Least}
use Rattle.dp_model.specs.declared.parts.ObjectType.{ObjectType}
use Rattle.dp_model.specs.declared.parts.Transition.{Transition}
use Rattle.dp_model.specs.declared.parts.Variable.{Variable}
use Rattle.dp_model.specs.declared.parts.VarKind.{VarKind}
use Rattle.dp_model.specs.declared.parts.VarKind.TheVariants as kinds
use Rattle.dp_model.specs.declared.trees.Cond.{Cond}
use Rattle.dp_model.specs.declared.trees.Over.{Over}
use Rattle.dp_model.specs.declared.trees.Over.TheVariants.{Object, Members}
use Rattle.yaml_tree.specs.declared.tree.Tree.{Tree}
use Rattle.yaml_tree.specs.declared.tree.Pair.{Pair}
use Rattle.yaml_tree.specs.Fields.{tree_place, scalar_text, map_entries, value_in}
use Rattle.dypdl_words.specs.declared.scope.Param.{Param}
use Rattle.dypdl_type.specs.Typing.{typing, members_of, cost_typing}
use Rattle.dypdl_type.specs.declared.cost.CostForm.{CostForm}
use Rattle.dypdl_type.specs.declared.cost.CostForm.TheVariants.{Bare, Joined}
use Rattle.dypdl_nodes.specs.Reads.{Reads, refuse, or_refuse, holds}
use Rattle.dypdl_nodes.specs.Shapes.{entries_or_none, items_or_none, keyed, needed}
use Rattle.dypdl_nodes.specs.Scalars.{text_of, truth_written, truth_or_false}
use Rattle.dypdl_data.specs.Names.{is_transition_name, name_by, new_name, known_key, number_named}
use Rattle.dypdl_data.specs.Objects.{object_names}
use Rattle.dypdl_data.specs.Variables.{variable_names}
use Rattle.dypdl_rules.specs.Declarations.{Declared, taken_names, names_with}
use Rattle.dypdl_rules.specs.Expressions.{Reading, typed_by}
use Rattle.dypdl_rules.specs.Parameters.{parameter_keys, members_over, over_named, over_of, param_names, param_of, param_step, params_of, overs}
use Rattle.dypdl_rules.specs.Conditions.{condition_of, condition_step, conditions_in, conditions_of}
use Rattle.dypdl_rules.specs.Effects.{effect_on, sets_variable, effect_step, effects_of}
use Rattle.dypdl_rules.specs.Moves.{transition_keys, weighing, weighing_of, direction_of, Body, body_of, move_of, move_step, moves_of}
use Rattle.dypdl_rules.specs.declared.transitions.Joining.{Joining}
use Rattle.dypdl_rules.specs.declared.transitions.Weighing.{Weighing}
use Rattle.dypdl_rules.specs.declared.transitions.Move.{Move}
use Rattle.dypdl_load.proofs.Lists.{bound}
use Rattle.dypdl_load.specs.Settings.{Settings, settings_of}
use Rattle.dypdl_load.specs.Together.{is_same_join, joined_with, join_step, join_of, transitions_of}
use Rattle.dypdl_load.specs.Meaning.{in_domain, in_problem, Data, data_of, StateRules, state_rules_of, Rules, rules_of, grounded_of, Parts, parts_of, parts_with, meaning}
use Rattle.content_laws.specs.Files.{under_key, items_in, items_of_both}
use Rattle.content_laws.specs.Lists.{names_of}
use Rattle.content_laws.proofs.Joining.{items_are}
use Rattle.content_laws.proofs.Meanings.{settings_steps}
use Rattle.content_laws.proofs.Outcomes.{ok_same, there_is}
use Rattle.content_laws.proofs.Targeting.{entries_are, name_at}
use Rattle.content_guards.specs.Variables.{word_under, Names}
use Rattle.content_guards.specs.Transitions.{IsOneOf, IsForced, StandFor, NamesVariable, RangesOver, IsParam, IsCondition, IsValue, IsEffect, entries_in, IsCost, IsWeighed, IsTransition, JoinsBy, LawTransitions, LawTransitionsOf}
use Rattle.content_guards.proofs.Variables.{some_refused, keyed_are, text_is, passed, name_is, word_is, equal_words}

-- ---- lists that are read item by item

module _ {A B : Type 0} (Means : B → A → Type 0) where
  none_stands : StandFor Means [] []
  none_stands = record { as_many = refl; each_one = λ i x e. absurd (cc e) }

  one_stands : (y : B) (ys : List B) (x : A) (xs : List A) → Means y x → StandFor Means ys xs → StandFor Means (y ∷ ys) (x ∷ xs)
  one_stands y ys x xs first rest = record { as_many = ap suc rest.as_many; each_one = by }
    where
      same : (a b : A) → Some a ≡ Some b → a ≡ b
      same a b h = cc

      by : (i : ℕ) (z : A) → slice_get (x ∷ xs) i ≡ Some z → (w : B) × (slice_get (y ∷ ys) i ≡ Some w) × Means w z
      by zero z e = (y, refl, subst (Means y) (same x z e) first)
      by (suc i) z e = rest.each_one i z e

  -- a step puts one more behind those that were read
  abbrev Pushes : (List A → B → Reads (List A)) → Type 0
  Pushes step = (done : List A) (y : B) (next : List A) → step done y ≡ Ok next → (x : A) × (next ≡ done ++ x ∷ []) × Means y x

  all_stand : (step : List A → B → Reads (List A)) → Pushes step → (ys : List B) (done all : List A) → each step done ys ≡ Ok all → (xs : List A) × (all ≡ done ++ xs) × StandFor Means ys xs
  all_stand step pushes [] done all e = ([], sym (ok_same done all e) ∙ sym (append-nil done), none_stands)
  all_stand step pushes (y ∷ ys) done all e =
      let next = bound (step done y) (λ t. each step t ys) all e in
      let x = pushes done y next.0 next.1 in
      let rest = all_stand step pushes ys next.0 all next.2 in (
        x.0 ∷ rest.0,
        rest.1 ∙ ap (λ (xs : List A). xs ++ rest.0) x.1 ∙ append_assoc done (x.0 ∷ []) rest.0,
        one_stands y ys x.0 rest.0 x.2 rest.2,
      )

-- ---- numbers of names

-- what stands at the number of a name has it
variable_there : (variables : List Variable) (word : List ℕ) (v : ℕ) → number_named (variable_names variables) word ≡ Some v → NamesVariable variables (Some word) v
variable_there variables word v number = there (slice_get variables v) refl (sym (slice_get-map (λ (x : Variable). x.name) variables v) ∙ name_at (variable_names variables) word v number)
  where
    there : (x : Option Variable) → slice_get variables v ≡ x → option_map (λ (x : Variable). x.name) (slice_get variables v) ≡ Some word → NamesVariable variables (Some word) v
    there None at e = let no : None ≡ Some word = sym (ap (option_map (λ (x : Variable). x.name)) at) ∙ e in absurd (cc)
    there (Some x) at e = (x, at, sym (sym (ap (option_map (λ (x : Variable). x.name)) at) ∙ e))

object_there : (objects : List ObjectType) (word : List ℕ) (o : ℕ) → number_named (object_names objects) word ≡ Some o → Names objects (Some word) o
object_there objects word o number = there (slice_get objects o) refl (sym (slice_get-map (λ (x : ObjectType). x.name) objects o) ∙ name_at (object_names objects) word o number)
  where
    there : (x : Option ObjectType) → slice_get objects o ≡ x → option_map (λ (x : ObjectType). x.name) (slice_get objects o) ≡ Some word → Names objects (Some word) o
    there None at e = let no : None ≡ Some word = sym (ap (option_map (λ (x : ObjectType). x.name)) at) ∙ e in absurd (cc)
    there (Some x) at e = (x, at, sym (sym (ap (option_map (λ (x : ObjectType). x.name)) at) ∙ e))

-- ---- parameters

module _ (d : Declared) where
  members_named : (word : List ℕ) (over : Over) (v : Option ℕ) → number_named (variable_names d.variables) word ≡ v → option_and_then (λ v. members_over v (kind_at d.variables v)) v ≡ Some over → RangesOver d (Some word) over
  members_named word over None number e = absurd (cc e)
  members_named word over (Some v) number e = by (kind_at d.variables v) e
    where
      by : (kind : Option VarKind) → members_over v kind ≡ Some over → RangesOver d (Some word) over
      by None h = absurd (cc h)
      by (Some kinds.Integer) h = absurd (cc h)
      by (Some (kinds.Element o)) h = absurd (cc h)
      by (Some (kinds.Set o)) h = let same : Members v ≡ over = cc in subst (RangesOver d (Some word)) same (variable_there d.variables word v number)

  over_is : (word : List ℕ) (over : Over) (o : Option ℕ) → number_named (object_names d.objects) word ≡ o
      → option_or (option_map Object o) (option_and_then (λ v. members_over v (kind_at d.variables v)) (number_named (variable_names d.variables) word)) ≡ Some over → RangesOver d (Some word) over
  over_is word over (Some o) number e = let same : Object o ≡ over = cc in subst (RangesOver d (Some word)) same (object_there d.objects word o number)
  over_is word over None number e = members_named word over (number_named (variable_names d.variables) word) refl e

  abbrev with_over : (name : List ℕ) → Over → Reads Param
  with_over name over = Ok (record { name = name; over = over })

  abbrev on_name : Tree → (name : List ℕ) → Reads Param
  on_name over_tree name = over_of d over_tree >>= with_over name

  abbrev on_over_tree : List Param → Tree → Tree → Reads Param
  on_over_tree done name_tree over_tree = new_name (taken_names d ++ param_names done) name_tree >>= on_name over_tree

  abbrev on_name_tree : List Param → Tree → List Pair → Tree → Reads Param
  on_name_tree done item entries name_tree = needed (tree_place item) entries (codes "object") >>= on_over_tree done name_tree

  abbrev on_entries : List Param → Tree → List Pair → Reads Param
  on_entries done item entries = needed (tree_place item) entries (codes "name") >>= on_name_tree done item entries

  param_is : (done : List Param) (item : Tree) (p : Param) → param_of d done item ≡ Ok p → IsParam d item p
  param_is done item p e =
      let entries = bound (keyed parameter_keys item) (on_entries done item) p e in
      let name_tree = bound (needed (tree_place item) entries.0 (codes "name")) (on_name_tree done item entries.0) p entries.2 in
      let over_tree = bound (needed (tree_place item) entries.0 (codes "object")) (on_over_tree done name_tree.0) p name_tree.2 in
      let name = bound (new_name (taken_names d ++ param_names done) name_tree.0) (on_name over_tree.0) p over_tree.2 in
      let over = bound (over_of d over_tree.0) (with_over name.0) p name.2 in
      let word = bound (text_of over_tree.0) (λ word. or_refuse 30 (tree_place over_tree.0) (over_named d word)) over.0 over.1 in
      let ranges = over_is word.0 over.0 (number_named (object_names d.objects) word.0) refl (some_refused 30 (tree_place over_tree.0) (over_named d word.0) over.0 word.2) in
      let same = keyed_are parameter_keys item entries.0 entries.1 in
      let under = word_is item entries.0 (codes "object") over_tree.0 word.0 same (some_refused 40 (tree_place item) (value_in (codes "object") entries.0) over_tree.0 over_tree.1) (text_is over_tree.0 word.0 word.1) in
      let it : Param = record { name = name.0; over = over.0 } in
      subst (IsParam d item) {x = it} (ok_same it p over.2)
      (record {
        name = word_is item entries.0 (codes "name") name_tree.0 name.0 same (some_refused 40 (tree_place item) (value_in (codes "name") entries.0) name_tree.0 name_tree.1) (name_is (taken_names d ++ param_names done) name_tree.0 name.0 name.1);
        ranges = subst (λ (w : Option (List ℕ)). RangesOver d w over.0) {x = Some word.0} (sym under) ranges;
      })

  params_push : Pushes (IsParam d) (param_step d)
  params_push done item next e =
      let p = bound (param_of d done item) (λ p. Ok (done ++ p ∷ [])) next e in
      (p.0, sym (ok_same (done ++ p.0 ∷ []) next p.2), param_is done item p.0 p.1)

  params_are : (tree : Option Tree) (params : List Param) → params_of d tree ≡ Ok params → StandFor (IsParam d) (items_in tree) params
  params_are tree params e =
      let items = bound (items_or_none 4 tree) (λ items. each (param_step d) [] items) params e in
      let all = all_stand (IsParam d) (param_step d) params_push items.0 [] params items.2 in
      subst (λ (ys : List Tree). StandFor (IsParam d) ys params) {x = items.0} (items_are 4 tree items.0 items.1)
      (subst (StandFor (IsParam d) items.0) {x = all.0} (sym all.1) all.2)

module _ (read : Reading) (d : Declared) (params : List Param) where
  -- ---- preconditions

  conditions_push : Pushes (IsCondition read d params) (condition_step read d params)
  conditions_push done item next e =
      let c = bound (condition_of read d params item) (λ c. Ok (done ++ c ∷ [])) next e in
      (c.0, sym (ok_same (done ++ c.0 ∷ []) next c.2), c.1)

  conditions_are : (tree : Option Tree) (all : List Cond) → conditions_of read d params 256 tree ≡ Ok all → StandFor (IsCondition read d params) (items_in tree) all
  unfolding conditions_of
  conditions_are tree all e =
      let items = bound (items_or_none 256 tree) (conditions_in read d params) all e in
      let stand = all_stand (IsCondition read d params) (condition_step read d params) conditions_push items.0 [] all items.2 in
      subst (λ (ys : List Tree). StandFor (IsCondition read d params) ys all) {x = items.0} (items_are 256 tree items.0 items.1)
      (subst (StandFor (IsCondition read d params) items.0) {x = stand.0} (sym stand.1) stand.2)

  -- ---- effects

  abbrev Means : Pair → Effect → Type 0
  Means = IsEffect read (names_with d params)

  abbrev on_more : List Effect → List Effect → Reads (List Effect)
  on_more done more = Ok (done ++ more)

  abbrev on_fresh : List Effect → Pair → ℕ → Unit {0} → Reads (List Effect)
  on_fresh done pair v fresh = effect_on read d params v pair.value (kind_at d.variables v) >>= on_more done

  abbrev on_variable : List Effect → Pair → ℕ → Reads (List Effect)
  on_variable done pair v = holds (not (sets_variable v done)) 43 (tree_place pair.key) >>= on_fresh done pair v

  effect_is : (done : List Effect) (pair : Pair) (v : ℕ) (x : Variable) (more : List Effect) → slice_get d.variables v ≡ Some x → scalar_text pair.key ≡ Some x.name
      → (kind : VarKind) → x.kind ≡ kind → effect_on read d params v pair.value (Some kind) ≡ Ok more → (effect : Effect) × (more ≡ effect ∷ []) × Means pair effect
  effect_is done pair v x more there named kinds.Integer kind e =
      let n = bound (typed_by read (λ e. (typing (names_with d params) e).number) pair.value) (λ n. Ok (changes.Number v n ∷ [])) more e in (
        changes.Number v n.0,
        sym (ok_same (changes.Number v n.0 ∷ []) more n.2),
        record { variable = x; there = there; named = named; value = subst (λ (k : VarKind). IsValue read (names_with d params) k pair.value (changes.Number v n.0)) (sym kind) n.1 },
      )
  effect_is done pair v x more there named (kinds.Element o) kind e =
      let n = bound (typed_by read (λ e. (typing (names_with d params) e).number) pair.value) (λ n. Ok (changes.Number v n ∷ [])) more e in (
        changes.Number v n.0,
        sym (ok_same (changes.Number v n.0 ∷ []) more n.2),
        record { variable = x; there = there; named = named; value = subst (λ (k : VarKind). IsValue read (names_with d params) k pair.value (changes.Number v n.0)) (sym kind) n.1 },
      )
  effect_is done pair v x more there named (kinds.Set o) kind e =
      let s = bound (typed_by read (λ e. members_of o (typing (names_with d params) e)) pair.value) (λ s. Ok (changes.Members v s ∷ [])) more e in (
        changes.Members v s.0,
        sym (ok_same (changes.Members v s.0 ∷ []) more s.2),
        record { variable = x; there = there; named = named; value = subst (λ (k : VarKind). IsValue read (names_with d params) k pair.value (changes.Members v s.0)) (sym kind) s.1 },
      )

  effects_push : Pushes Means (effect_step read d params)
  unfolding effect_step
  effects_push done pair next e =
      let v = bound (known_key 30 (variable_names d.variables) pair.key) (on_variable done pair) next e in
      let fresh = bound (holds (not (sets_variable v.0 done)) 43 (tree_place pair.key)) (on_fresh done pair v.0) next v.2 in
      let more = bound (effect_on read d params v.0 pair.value (kind_at d.variables v.0)) (on_more done) next fresh.2 in
      let word = there_is 30 (tree_place pair.key) (number_named (variable_names d.variables)) (scalar_text pair.key) v.0 v.1 in
      let x = variable_there d.variables word.0 v.0 word.2 in
      let on_kind : effect_on read d params v.0 pair.value (Some x.0.kind) ≡ Ok more.0 =
      ap (λ (o : Option Variable). effect_on read d params v.0 pair.value (option_and_then (λ (x : Variable). Some x.kind) o)) (sym x.1) ∙ more.1 in
      let one = effect_is done pair v.0 x.0 more.0 x.1 (word.1 ∙ x.2) x.0.kind refl on_kind in
      (one.0, sym (ok_same (done ++ more.0) next more.2) ∙ ap (λ (es : List Effect). done ++ es) one.1, one.2)

  entries_of_are : (tree : Option Tree) (entries : List Pair) → entries_or_none tree ≡ Ok entries → entries ≡ entries_in tree
  entries_of_are None entries e = sym (ok_same [] entries e)
  entries_of_are (Some tree) entries e = entries_are tree entries e

  effects_are : (tree : Option Tree) (all : List Effect) → effects_of read d params tree ≡ Ok all → StandFor Means (entries_in tree) all
  unfolding effects_of
  effects_are tree all e =
      let entries = bound (entries_or_none tree) (λ entries. each (effect_step read d params) [] entries) all e in
      let stand = all_stand Means (effect_step read d params) effects_push entries.0 [] all entries.2 in
      subst (λ (ys : List Pair). StandFor Means ys all) {x = entries.0} (entries_of_are tree entries.0 entries.1) (subst (StandFor Means entries.0) {x = stand.0} (sym stand.1) stand.2)

  -- ---- costs

  weight_is : (tree : Option Tree) (w : Weighing) → weighing_of read d params tree ≡ Ok w → (join : JoinOp) → JoinsBy w.joining join → IsWeighed read (names_with d params) join tree w.weight
  unfolding weighing_of
  weight_is None w e join joins =
      let none : Weighing = record { weight = None; joining = None } in
      sym (ap (λ (w : Weighing). w.weight) (ok_same none w e))
  weight_is (Some tree) w e join joins =
      let form = bound (typed_by read (cost_typing (names_with d params)) tree) (λ form. Ok (weighing (tree_place tree) form)) w e in
      let same = ok_same (weighing (tree_place tree) form.0) w form.2 in
      subst (λ (w : Weighing). IsCost read (names_with d params) join tree w.weight) {x = weighing (tree_place tree) form.0} same
      (by form.0 form.1 (subst (λ (j : Option Joining). JoinsBy j join) {x = w.joining} (sym (ap (λ (w : Weighing). w.joining) same)) joins))
    where
      by : (form : CostForm) → typed_by read (cost_typing (names_with d params)) tree ≡ Ok form → JoinsBy (weighing (tree_place tree) form).joining join → IsCost read (names_with d params) join tree (weighing (tree_place tree) form).weight
      by Bare typed is = typed
      by (Joined op n) typed is = typed ∙ ap (λ (o : JoinOp). Ok (Joined o n)) is

-- ---- truth values

false_written : (text : List ℕ) (a b c : Bool) → bytes_eq text (codes "false") ≡ a → bytes_eq text (codes "False") ≡ b → bytes_eq text (codes "FALSE") ≡ c → (out : Bool)
    → (if a || (b || c) then Some false else None) ≡ Some out → (out ≡ false) × IsOneOf (Some text) (codes "false") (codes "False") (codes "FALSE")
false_written text true b c is_a is_b is_c out e = let same : out ≡ false = cc in (same, inl (ap Some (equal_words text (codes "false") is_a)))
false_written text false true c is_a is_b is_c out e = let same : out ≡ false = cc in (same, inr (inl (ap Some (equal_words text (codes "False") is_b))))
false_written text false false true is_a is_b is_c out e = let same : out ≡ false = cc in (same, inr (inr (ap Some (equal_words text (codes "FALSE") is_c))))
false_written text false false false is_a is_b is_c out e = absurd (cc e)

abbrev Written : Option (List ℕ) → Bool → Type 0
Written word true = IsOneOf word (codes "true") (codes "True") (codes "TRUE")
Written word false = IsOneOf word (codes "false") (codes "False") (codes "FALSE")

true_written : (text : List ℕ) (a b c : Bool) → bytes_eq text (codes "true") ≡ a → bytes_eq text (codes "True") ≡ b → bytes_eq text (codes "TRUE") ≡ c → (out : Bool)
    → (if a || (b || c) then Some true else (if bytes_eq text (codes "false") || (bytes_eq text (codes "False") || bytes_eq text (codes "FALSE")) then Some false else None)) ≡ Some out → Written (Some text) out
true_written text true b c is_a is_b is_c out e = let same : true ≡ out = cc in subst (Written (Some text)) same (inl (ap Some (equal_words text (codes "true") is_a)))
true_written text false true c is_a is_b is_c out e = let same : true ≡ out = cc in subst (Written (Some text)) same (inr (inl (ap Some (equal_words text (codes "True") is_b))))
true_written text false false true is_a is_b is_c out e = let same : true ≡ out = cc in subst (Written (Some text)) same (inr (inr (ap Some (equal_words text (codes "TRUE") is_c))))
true_written text false false false is_a is_b is_c out e =
    let no = false_written text (bytes_eq text (codes "false")) (bytes_eq text (codes "False")) (bytes_eq text (codes "FALSE")) refl refl refl out e in
    subst (Written (Some text)) (sym no.0) no.1

written_is : (text : List ℕ) (out : Bool) → truth_written text ≡ Some out → Written (Some text) out
written_is text out e = true_written text (bytes_eq text (codes "true")) (bytes_eq text (codes "True")) (bytes_eq text (codes "TRUE")) refl refl refl out e

forced_by : (item : Tree) (out : Bool) → Written (word_under item (codes "forced")) out → IsForced item out
forced_by item true w = w
forced_by item false w = inr w

forced_is : (item : Tree) (entries : List Pair) → entries ≡ map_entries item → (tree : Option Tree) → value_in (codes "forced") entries ≡ tree → (out : Bool) → truth_or_false tree ≡ Ok out → IsForced item out
forced_is item entries same None under out e = subst (IsForced item) (ok_same false out e) (inl (sym (ap (value_in (codes "forced")) same) ∙ under))
forced_is item entries same (Some tree) under out e =
    let text = bound (text_of tree) (λ text. or_refuse 50 (tree_place tree) (truth_written text)) out e in
    let written = written_is text.0 out (some_refused 50 (tree_place tree) (truth_written text.0) out text.2) in
    forced_by item out (subst (λ (w : Option (List ℕ)). Written w out) {x = Some text.0} (sym (word_is item entries (codes "forced") tree text.0 same under (text_is tree text.0 text.1))) written)

-- ---- transitions

-- what is known of a body
record BodyIs (read : Reading) (d : Declared) (join : JoinOp) (name : List ℕ) (params : List Param) (entries : List Pair) (t : Transition) : Type 0 where
  named : t.name ≡ name
  ranges : t.params ≡ overs params
  forced : truth_or_false (value_in (codes "forced") entries) ≡ Ok t.forced
  preconditions : StandFor (IsCondition read d params) (items_in (value_in (codes "preconditions") entries)) t.preconditions
  effects : StandFor (IsEffect read (names_with d params)) (entries_in (value_in (codes "effects") entries)) t.effects
  weight : IsWeighed read (names_with d params) join (value_in (codes "cost") entries) t.weight

module _ (read : Reading) (d : Declared) (join : JoinOp) (item : Tree) where
  module _ (name : List ℕ) (params : List Param) (entries : List Pair) where
    abbrev on_forward : List Cond → List Effect → Weighing → Bool → Unit {0} → Reads Body
    on_forward preconditions effects w forced forward =
        Ok (record {
          transition = record { name = name; params = overs params; forced = forced; preconditions = preconditions; effects = effects; weight = w.weight };
          joining = w.joining;
        })

    abbrev on_forced : List Cond → List Effect → Weighing → Bool → Reads Body
    on_forced preconditions effects w forced = direction_of (value_in (codes "direction") entries) >>= on_forward preconditions effects w forced

    abbrev on_weight : List Cond → List Effect → Weighing → Reads Body
    on_weight preconditions effects w = truth_or_false (value_in (codes "forced") entries) >>= on_forced preconditions effects w

    abbrev on_effects : List Cond → List Effect → Reads Body
    on_effects preconditions effects = weighing_of read d params (value_in (codes "cost") entries) >>= on_weight preconditions effects

    abbrev on_conditions : List Cond → Reads Body
    on_conditions preconditions = effects_of read d params (value_in (codes "effects") entries) >>= on_effects preconditions

    body_is : (b : Body) → body_of read d name params entries ≡ Ok b → JoinsBy b.joining join → BodyIs read d join name params entries b.transition
    unfolding body_of
    body_is b e joins =
        let preconditions = bound (conditions_of read d params 256 (value_in (codes "preconditions") entries)) on_conditions b e in
        let set = bound (effects_of read d params (value_in (codes "effects") entries)) (on_effects preconditions.0) b preconditions.2 in
        let w = bound (weighing_of read d params (value_in (codes "cost") entries)) (on_weight preconditions.0 set.0) b set.2 in
        let forced = bound (truth_or_false (value_in (codes "forced") entries)) (on_forced preconditions.0 set.0 w.0) b w.2 in
        let forward = bound (direction_of (value_in (codes "direction") entries)) (on_forward preconditions.0 set.0 w.0 forced.0) b forced.2 in
        let it : Body = record {
          transition = record { name = name; params = overs params; forced = forced.0; preconditions = preconditions.0; effects = set.0; weight = w.0.weight };
          joining = w.0.joining;
        } in
        let same : it ≡ b = ok_same it b forward.2 in
        subst (λ (b : Body). BodyIs read d join name params entries b.transition) {x = it} same
        (record {
          named = refl;
          ranges = refl;
          forced = forced.1;
          preconditions = conditions_are read d params (value_in (codes "preconditions") entries) preconditions.0 preconditions.1;
          effects = effects_are read d params (value_in (codes "effects") entries) set.0 set.1;
          weight = weight_is read d params (value_in (codes "cost") entries) w.0 w.1 join (subst (λ (j : Option Joining). JoinsBy j join) {x = b.joining} (sym (ap (λ (b : Body). b.joining) same)) joins);
        })

  abbrev on_body : Body → Reads Move
  on_body b = Ok (record { transition = b.transition; joining = b.joining; place = tree_place item })

  abbrev on_params : List Pair → (name : List ℕ) → List Param → Reads Move
  on_params entries name params = body_of read d name params entries >>= on_body

  abbrev on_name_of : List Pair → (name : List ℕ) → Reads Move
  on_name_of entries name = params_of d (value_in (codes "parameters") entries) >>= on_params entries name

  abbrev on_tree : List Pair → Tree → Reads Move
  on_tree entries name_tree = name_by is_transition_name name_tree >>= on_name_of entries

  abbrev on_keys : List Pair → Reads Move
  on_keys entries = needed (tree_place item) entries (codes "name") >>= on_tree entries

  whole : (name : List ℕ) (params : List Param) (entries : List Pair) (t : Transition) → entries ≡ map_entries item → word_under item (codes "name") ≡ Some name → StandFor (IsParam d) (items_in (value_in (codes "parameters") entries)) params
      → BodyIs read d join name params entries t → IsTransition read d join item t
  whole name params entries t same named are_params b =
      (record {
        name = named ∙ ap Some (sym b.named);
        forced = forced_is item entries same (value_in (codes "forced") entries) refl t.forced b.forced;
        params = params;
        are_params = subst (λ (es : List Pair). StandFor (IsParam d) (items_in (value_in (codes "parameters") es)) params) same are_params;
        ranges = b.ranges;
        preconditions = subst (λ (es : List Pair). StandFor (IsCondition read d params) (items_in (value_in (codes "preconditions") es)) t.preconditions) same b.preconditions;
        effects = subst (λ (es : List Pair). StandFor (IsEffect read (names_with d params)) (entries_in (value_in (codes "effects") es)) t.effects) same b.effects;
        weight = subst (λ (es : List Pair). IsWeighed read (names_with d params) join (value_in (codes "cost") es) t.weight) same b.weight;
      })

  move_is : (move : Move) → move_of read d item ≡ Ok move → JoinsBy move.joining join → IsTransition read d join item move.transition
  unfolding move_of
  move_is move e joins =
      let entries = bound (keyed transition_keys item) on_keys move e in
      let name_tree = bound (needed (tree_place item) entries.0 (codes "name")) (on_tree entries.0) move entries.2 in
      let name = bound (name_by is_transition_name name_tree.0) (on_name_of entries.0) move name_tree.2 in
      let params = bound (params_of d (value_in (codes "parameters") entries.0)) (on_params entries.0 name.0) move name.2 in
      let body = bound (body_of read d name.0 params.0 entries.0) on_body move params.2 in
      let text = bound (text_of name_tree.0) (λ text. if is_transition_name text then Ok text else refuse 51 (tree_place name_tree.0)) name.0 name.1 in
      let same = keyed_are transition_keys item entries.0 entries.1 in
      let named = word_is item entries.0 (codes "name") name_tree.0 name.0 same (some_refused 40 (tree_place item) (value_in (codes "name") entries.0) name_tree.0 name_tree.1)
      (text_is name_tree.0 text.0 text.1 ∙ ap Some (passed (is_transition_name text.0) 51 (tree_place name_tree.0) text.0 name.0 text.2)) in
      let it : Move = record { transition = body.0.transition; joining = body.0.joining; place = tree_place item } in
      let made : it ≡ move = ok_same it move body.2 in
      subst (λ (m : Move). IsTransition read d join item m.transition) {x = it} made
      (whole name.0 params.0 entries.0 body.0.transition same named (params_are d (value_in (codes "parameters") entries.0) params.0 params.1)
      (body_is name.0 params.0 entries.0 body.0 body.1 (subst (λ (j : Option Joining). JoinsBy j join) {x = move.joining} (sym (ap (λ (m : Move). m.joining) made)) joins)))

pub transitions_law : LawTransitions
transitions_law read d item move e join joins = move_is read d join item move e joins

-- ---- one operator

same_join : (a b : JoinOp) → is_same_join a b ≡ true → a ≡ b
same_join Plus Plus e = refl
same_join Most Most e = refl
same_join Least Least e = refl
same_join Plus Most e = absurd (cc e)
same_join Plus Least e = absurd (cc e)
same_join Most Plus e = absurd (cc e)
same_join Most Least e = absurd (cc e)
same_join Least Plus e = absurd (cc e)
same_join Least Most e = absurd (cc e)

-- what is held goes on
abbrev Keeps : Option JoinOp → Option JoinOp → Type 0
Keeps held next = (op : JoinOp) → held ≡ Some op → next ≡ Some op

-- so does the operator that a cost has
abbrev Holds : Option Joining → Option JoinOp → Type 0
Holds None held = ⊤
Holds (Some j) held = held ≡ Some j.op

held_on : (joining : Option Joining) (held next : Option JoinOp) → Keeps held next → Holds joining held → Holds joining next
held_on None held next keeps is = tt
held_on (Some j) held next keeps is = keeps j.op is

one_joined : (held : Option JoinOp) (joining : Option Joining) (next : Option JoinOp) → joined_with held joining ≡ Ok next → Keeps held next × Holds joining next
one_joined held None next e = (λ op is. sym (ok_same held next e) ∙ is, tt)
one_joined None (Some j) next e = (λ op is. absurd (cc is), sym (ok_same (Some j.op) next e))
one_joined (Some op) (Some j) next e = by (is_same_join op j.op) refl e
  where
    by : (test : Bool) → is_same_join op j.op ≡ test → ◌≡◌ {A = Reads (Option JoinOp)} (if test then Ok (Some op) else refuse 46 j.place) (Ok next) → Keeps (Some op) next × Holds (Some j) next
    by true same h = (λ other is. sym (ok_same (Some op) next h) ∙ is, sym (ok_same (Some op) next h) ∙ ap Some (same_join op j.op same))
    by false same h = absurd (cc h)

all_joined : (moves : List Move) (held out : Option JoinOp) → each join_step held moves ≡ Ok out → Keeps held out × ((i : ℕ) (move : Move) → slice_get moves i ≡ Some move → Holds move.joining out)
all_joined [] held out e = (λ op is. sym (ok_same held out e) ∙ is, λ i move at. absurd (cc at))
all_joined (m ∷ moves) held out e =
    let next = bound (join_step held m) (λ t. each join_step t moves) out e in
    let one = one_joined held m.joining next.0 next.1 in
    let rest = all_joined moves next.0 out next.2 in
    (λ op is. rest.0 op (one.0 op is), by next.0 one.1 rest.0 rest.1)
  where
    same : (a b : Move) → Some a ≡ Some b → a ≡ b
    same a b h = cc

    by : (next : Option JoinOp) → Holds m.joining next → Keeps next out → ((i : ℕ) (move : Move) → slice_get moves i ≡ Some move → Holds move.joining out) → (i : ℕ) (move : Move) → slice_get (m ∷ moves) i ≡ Some move → Holds move.joining out
    by next first keeps rest zero move at = subst (λ (x : Move). Holds x.joining out) (same m move at) (held_on m.joining next out keeps first)
    by next first keeps rest (suc i) move at = rest i move at

joins_by : (moves : List Move) (join : JoinOp) → join_of moves ≡ Ok join → (i : ℕ) (move : Move) → slice_get moves i ≡ Some move → JoinsBy move.joining join
joins_by moves join e i move at =
    let held = bound (each join_step None moves) (λ held. Ok (unwrap_or held Plus)) join e in
    by held.0 move.joining ((all_joined moves None held.0 held.1).1 i move at) (ok_same (unwrap_or held.0 Plus) join held.2)
  where
    by : (held : Option JoinOp) (joining : Option Joining) → Holds joining held → unwrap_or held Plus ≡ join → JoinsBy joining join
    by held None kept is = tt
    by held (Some j) kept is = sym (ap (λ (o : Option JoinOp). unwrap_or o Plus) kept) ∙ is

-- ---- the transitions of both files

module _ (read : Reading) (at : Place) (s : Settings) (d : Declared) where
  abbrev all_rules : List Move → JoinOp → StateRules → Reads Rules
  all_rules moves join x = Ok (record { moves = moves; join = join; constraints = x.constraints; base_cases = x.base_cases; bounds = x.bounds })

  abbrev on_join : List Move → JoinOp → Reads Rules
  on_join moves join = state_rules_of read at s d >>= all_rules moves join

  abbrev on_moves : List Move → Reads Rules
  on_moves moves = join_of moves >>= on_join moves

  rules_are : (r : Rules) → rules_of read at s d ≡ Ok r → (moves_of read d (in_domain s (codes "transitions")) (in_problem s (codes "transitions")) ≡ Ok r.moves) × (join_of r.moves ≡ Ok r.join)
  unfolding rules_of
  rules_are r h =
      let a = bound (moves_of read d (in_domain s (codes "transitions")) (in_problem s (codes "transitions"))) on_moves r h in
      let b = bound (join_of a.0) (on_join a.0) r a.2 in
      let c = bound (state_rules_of read at s d) (all_rules a.0 b.0) r b.2 in
      let it : Rules = record { moves = a.0; join = b.0; constraints = c.0.constraints; base_cases = c.0.base_cases; bounds = c.0.bounds } in
      subst (λ (r : Rules). (moves_of read d (in_domain s (codes "transitions")) (in_problem s (codes "transitions")) ≡ Ok r.moves) × (join_of r.moves ≡ Ok r.join)) {x = it} (ok_same it r c.2) (a.1, b.1)

each_both : {A : Type 0} (step : List A → Tree → Reads (List A)) (xs ys : List Tree) (s t u : List A) → each step s xs ≡ Ok t → each step t ys ≡ Ok u → each step s (xs ++ ys) ≡ Ok u
each_both step [] ys s t u e h = ap (λ z. each step z ys) (ok_same s t e) ∙ h
each_both {A} step (x ∷ xs) ys s t u e h =
    let a = bound (step s x) (λ z. each step z xs) t e in
    ap (λ (r : Reads (List A)). r >>= λ z. each step z (xs ++ ys)) a.1 ∙ each_both step xs ys a.0 t u a.2 h

-- a transition that was read from an item
abbrev IsRead : Reading → Declared → Tree → Move → Type 0
IsRead read d item move = move_of read d item ≡ Ok move

moves_are : (read : Reading) (d : Declared) (domain problem : Option Tree) (moves : List Move) → moves_of read d domain problem ≡ Ok moves → StandFor (IsRead read d) (items_in domain ++ items_in problem) moves
moves_are read d domain problem moves e =
    let first = bound (items_or_none 65536 domain) (λ first. each (move_step read d) [] first >>= λ done. items_or_none (65536 - length first) problem >>= λ second. each (move_step read d) done second) moves e in
    let done = bound (each (move_step read d) [] first.0) (λ done. items_or_none (65536 - length first.0) problem >>= λ second. each (move_step read d) done second) moves first.2 in
    let second = bound (items_or_none (65536 - length first.0) problem) (λ second. each (move_step read d) done.0 second) moves done.2 in
    let whole = each_both (move_step read d) first.0 second.0 [] done.0 moves done.1 second.2 in
    let all = all_stand (IsRead read d) (move_step read d) push (first.0 ++ second.0) [] moves whole in
    subst (λ (ys : List Tree). StandFor (IsRead read d) ys moves) {x = first.0 ++ second.0}
    (ap (λ (xs : List Tree). xs ++ second.0) (items_are 65536 domain first.0 first.1) ∙ ap (λ (ys : List Tree). items_in domain ++ ys) (items_are (65536 - length first.0) problem second.0 second.1))
    (subst (StandFor (IsRead read d) (first.0 ++ second.0)) {x = all.0} (sym all.1) all.2)
  where
    push : Pushes (IsRead read d) (move_step read d)
    push done item next h =
        let m = bound (move_of read d item) (λ m. Ok (done ++ m ∷ [])) next h in
        (m.0, sym (ok_same (done ++ m.0 ∷ []) next m.2), m.1)

-- what expressions may name
abbrev names_in : Parts → Declared
names_in x = record { objects = x.objects; variables = x.variables; tables = x.tables }

-- the transitions of the parts of a model, as they were read
record MovesOf (read : Reading) (domain problem : Tree) (x : Parts) : Type 0 where
  moves : List Move
  reads : moves_of read (names_in x) (under_key domain (codes "transitions")) (under_key problem (codes "transitions")) ≡ Ok moves
  joins : join_of moves ≡ Ok x.join
  are : x.transitions ≡ transitions_of moves

module _ (read : Reading) (domain problem : Tree) where
  abbrev all_parts : Settings → Data → Rules → List Ground → Reads Parts
  all_parts s x r grounds = Ok (parts_with s x.declared x.target r grounds)

  abbrev on_rules : Settings → Data → Rules → Reads Parts
  on_rules s x r = grounded_of x.declared r.moves >>= all_parts s x r

  abbrev on_data : Settings → Data → Reads Parts
  on_data s x = rules_of read (tree_place domain) s x.declared >>= on_rules s x

  abbrev on_settings : Settings → Reads Parts
  on_settings s = data_of (tree_place problem) s >>= on_data s

  moves_given : (x : Parts) → meaning read domain problem ≡ Ok x → MovesOf read domain problem x
  unfolding meaning
  moves_given x h =
      let s = bound (settings_of domain problem) on_settings x h in
      let b = bound (data_of (tree_place problem) s.0) (on_data s.0) x s.2 in
      let e = bound (rules_of read (tree_place domain) s.0 b.0.declared) (on_rules s.0 b.0) x b.2 in
      let f = bound (grounded_of b.0.declared e.0.moves) (all_parts s.0 b.0 e.0) x e.2 in
      let known = settings_steps domain problem s.0 s.1 in
      let rules = rules_are read (tree_place domain) s.0 b.0.declared e.0 e.1 in
      subst (MovesOf read domain problem) {x = parts_with s.0 b.0.declared b.0.target e.0 f.0} (ok_same (parts_with s.0 b.0.declared b.0.target e.0 f.0) x f.2)
      (record {
        moves = e.0.moves;
        reads =
            ap (λ (es : List Pair). moves_of read b.0.declared (value_in (codes "transitions") es) (under_key problem (codes "transitions"))) (sym known.domain_entries)
            ∙ ap (λ (es : List Pair). moves_of read b.0.declared (in_domain s.0 (codes "transitions")) (value_in (codes "transitions") es)) (sym known.problem_entries)
            ∙ rules.0;
        joins = rules.1;
        are = refl;
      })

pub transitions_of_law : LawTransitionsOf
transitions_of_law read domain problem m means =
    let given = moves_given read domain problem (parts_of m) means in
    let stand = moves_are read (names_of m) (under_key domain (codes "transitions")) (under_key problem (codes "transitions")) given.moves given.reads in
    let items = items_of_both domain problem (codes "transitions") in
    subst (StandFor (IsTransition read (names_of m) m.join) items) (sym given.are)
    (record {
      as_many = length-map given.moves (λ (x : Move). x.transition) ∙ stand.as_many;
      each_one = λ i t at. there given.moves items stand (joins_by given.moves m.join given.joins) i t (slice_get given.moves i) refl (sym (slice_get-map (λ (x : Move). x.transition) given.moves i) ∙ at);
    })
  where
    there : (moves : List Move) (items : List Tree) → StandFor (IsRead read (names_of m)) items moves → ((i : ℕ) (move : Move) → slice_get moves i ≡ Some move → JoinsBy move.joining m.join) → (i : ℕ) (t : Transition) (x : Option Move) → slice_get moves i ≡ x
        → option_map (λ (x : Move). x.transition) (slice_get moves i) ≡ Some t → (item : Tree) × (slice_get items i ≡ Some item) × IsTransition read (names_of m) m.join item t
    there moves items stand joins i t None at e = let no : None ≡ Some t = sym (ap (option_map (λ (x : Move). x.transition)) at) ∙ e in absurd (cc)
    there moves items stand joins i t (Some x) at e =
        let is : Some x.transition ≡ Some t = sym (ap (option_map (λ (x : Move). x.transition)) at) ∙ e in
        let same : x.transition ≡ t = cc in
        let one = stand.each_one i x at in
        (one.0, one.1, subst (IsTransition read (names_of m) m.join one.0) same (move_is read (names_of m) m.join one.0 x one.2 (joins i x at)))
