-- Variables that are read fit a model.
use Rattle.std.proofs.Common.{◌≡◌, ◌≤◌, ◌<◌, ℕ, suc, ◌+◌, Bool, true, false, nat_lt, nat_le, if◌then◌else◌, List, [], ◌∷◌, ◌++◌, length, length-append, codes, position, Option, Some, None, Result, Ok, Err, IfOk, refl, ap, ◌∙◌, arith}
use Rattle.std.specs.List.{list_all}
use Rattle.std.specs.Str.{bytes_eq}
use Rattle.std.proofs.lemmas.List.{map-append}
use Rattle.std.proofs.lemmas.List.Quantifiers.{position-Some}
use Rattle.std.proofs.lemmas.Bool.Decides.{nat_tests}
use Rattle.dp_base.specs.declared.place.Place.{Place}
use Rattle.dp_base.specs.Results.{◌>>=◌, each}
use Rattle.dp_model.specs.Limits.{has_most, is_name}
use Rattle.dp_model.specs.Typing.{is_kind, may_prefer, is_variable, are_variables}
use Rattle.dp_model.specs.declared.parts.ObjectType.{ObjectType}
use Rattle.dp_model.specs.declared.parts.Variable.{Variable}
use Rattle.dp_model.specs.declared.parts.VarKind.{VarKind}
use Rattle.dp_model.specs.declared.parts.VarKind.TheVariants as kinds
use Rattle.yaml_tree.specs.declared.tree.Tree.{Tree}
use Rattle.yaml_tree.specs.declared.tree.Pair.{Pair}
use Rattle.yaml_tree.specs.Fields.{tree_place, value_in}
use Rattle.dypdl_nodes.specs.Reads.{Reads, refuse, or_refuse}
use Rattle.dypdl_nodes.specs.Shapes.{items_of, few_items, keyed, needed}
use Rattle.dypdl_nodes.specs.Scalars.{text_of}
use Rattle.dypdl_data.specs.Names.{number_named, known_name, new_name}
use Rattle.dypdl_data.specs.Objects.{object_names, known_object}
use Rattle.dypdl_data.specs.Variables.{variable_keys, variable_names, object_at, kind_named, kind_of, preference_of, variable_of, variable_step, variables_of}
use Rattle.dypdl_data.specs.Laws.{are_new, FitVariables}
use Rattle.dypdl_data.proofs.Steps.{after, then_if, each_keeps, each_counts, few_fit, no_more, if_allowed, both, all_push}
use Rattle.dypdl_data.proofs.FitNames.{IsNew, new_is_new, new_push}

-- ---- numbers of names

position_below : (p : List ℕ → Bool) (xs : List (List ℕ)) (i : ℕ) → position p xs ≡ Some i → i < length xs
position_below p xs i e = (position-Some p xs i [] e).0

or_refuse_below : (number : ℕ) (at : Place) (n : ℕ) (o : Option ℕ) → ((i : ℕ) → o ≡ Some i → i < n) → IfOk (or_refuse number at o) (λ i. nat_lt i n ≡ true)
or_refuse_below number at n None h = tt
or_refuse_below number at n (Some i) h =
    let below : i < n = h i refl in
    grind (arith, nat_tests)

pub known_below : (names : List (List ℕ)) (tree : Tree) → IfOk (known_name names tree) (λ i. nat_lt i (length names) ≡ true)
known_below names tree =
    after (λ i. nat_lt i (length names) ≡ true) (text_of tree) (λ word. or_refuse 30 (tree_place tree) (number_named names word))
    (λ word. or_refuse_below 30 (tree_place tree) (length names) (number_named names word) (λ i e. position_below (bytes_eq word) names i e))

named_objects : (objects : List ObjectType) → length (object_names objects) ≡ length objects
named_objects [] = refl
named_objects (o ∷ objects) = ap (λ (n : ℕ). suc n) (named_objects objects)

pub object_below : (objects : List ObjectType) (tree : Tree) → IfOk (known_object objects tree) (λ i. nat_lt i (length objects) ≡ true)
object_below objects tree = rw (← named_objects objects) (known_below (object_names objects) tree)

pub object_at_below : (objects : List ObjectType) (at : Place) (entries : List Pair) → IfOk (object_at objects at entries) (λ i. nat_lt i (length objects) ≡ true)
object_at_below objects at entries =
    after (λ i. nat_lt i (length objects) ≡ true) (needed at entries (codes "object")) (known_object objects) (λ tree. object_below objects tree)

-- ---- kinds and preferences

abbrev IsKind : List ObjectType → VarKind → Type 0
IsKind objects kind = is_kind objects kind ≡ true

named_kind : (objects : List ObjectType) (at : Place) (entries : List Pair) (word_at : Place) (word : List ℕ) → IfOk (kind_named objects at entries word_at word) (IsKind objects)
named_kind objects at entries word_at word =
    if_allowed (IsKind objects) (bytes_eq word (codes "integer")) _ _ (λ e. refl)
    (λ e. if_allowed (IsKind objects) (bytes_eq word (codes "element")) _ _ (λ e. then_if (λ i. nat_lt i (length objects) ≡ true) (IsKind objects) (object_at objects at entries) (λ o. Ok (kinds.Element o)) (object_at_below objects at entries) (λ o h. h))
    (λ e. if_allowed (IsKind objects) (bytes_eq word (codes "set")) _ _ (λ e. then_if (λ i. nat_lt i (length objects) ≡ true) (IsKind objects) (object_at objects at entries) (λ o. Ok (kinds.Set o)) (object_at_below objects at entries) (λ o h. h))
    (λ e. if_allowed (IsKind objects) (bytes_eq word (codes "continuous")) (refuse 34 word_at) (refuse 50 word_at) (λ e. tt) (λ e. tt))))

kind_fits : (objects : List ObjectType) (at : Place) (entries : List Pair) (tree : Tree) → IfOk (kind_of objects at entries tree) (IsKind objects)
kind_fits objects at entries tree =
    after (IsKind objects) (text_of tree) (kind_named objects at entries (tree_place tree)) (λ word. named_kind objects at entries (tree_place tree) word)

all_ok : {A E : Type 0} (P : A → Type 0) (r : Result A E) → ((x : A) → P x) → IfOk r P
all_ok P (Ok x) h = h x
all_ok P (Err e) h = tt

preference_fits : (kind : VarKind) (tree : Option Tree) → IfOk (preference_of kind tree) (λ p. may_prefer kind p ≡ true)
preference_fits kinds.Integer None = refl
preference_fits (kinds.Element object) None = refl
preference_fits (kinds.Set object) None = refl
preference_fits (kinds.Set object) (Some tree) = tt
preference_fits (kinds.Element object) (Some tree) = all_ok (λ p. may_prefer (kinds.Element object) p ≡ true) (preference_of (kinds.Element object) (Some tree)) (λ p. refl)
preference_fits kinds.Integer (Some tree) = all_ok (λ p. may_prefer kinds.Integer p ≡ true) (preference_of kinds.Integer (Some tree)) (λ p. refl)

-- ---- a variable

record Fits (objects : List ObjectType) (taken : List (List ℕ)) (v : Variable) : Type 0 where
  fit : is_variable objects v ≡ true
  new : IsNew taken v.name

variable_fits : (objects : List ObjectType) (taken : List (List ℕ)) (item : Tree) → IfOk (variable_of objects taken item) (Fits objects taken)
variable_fits objects taken item =
    after (Fits objects taken) (keyed variable_keys item) _ (λ entries.
    after (Fits objects taken) (needed (tree_place item) entries (codes "name")) _ (λ name_tree.
    after (Fits objects taken) (needed (tree_place item) entries (codes "type")) _ (λ kind_tree.
    then_if (IsNew taken) (Fits objects taken) (new_name taken name_tree) _ (new_is_new taken name_tree) (λ name new.
    then_if (IsKind objects) (Fits objects taken) (kind_of objects (tree_place item) entries kind_tree) _ (kind_fits objects (tree_place item) entries kind_tree) (λ kind fit.
    then_if (λ p. may_prefer kind p ≡ true) (Fits objects taken) (preference_of kind (value_in (codes "preference") entries)) (λ preference. Ok (record { name = name; kind = kind; preference = preference })) (preference_fits kind (value_in (codes "preference") entries)) (λ preference may.
    record { fit = both (is_kind objects kind) (may_prefer kind preference) fit may; new = new }))))))

-- ---- all of them

record SoFar (objects : List ObjectType) (done : List Variable) : Type 0 where
  fit : are_variables objects done ≡ true
  good : list_all (λ (v : Variable). is_name v.name) done ≡ true
  different : are_new (object_names objects) (variable_names done) ≡ true

one_variable : (objects : List ObjectType) (done : List Variable) (item : Tree) → SoFar objects done → IfOk (variable_step objects done item) (SoFar objects)
one_variable objects done item h =
    then_if (Fits objects (object_names objects ++ variable_names done)) (SoFar objects) (variable_of objects (object_names objects ++ variable_names done) item) (λ v. Ok (done ++ v ∷ [])) (variable_fits objects (object_names objects ++ variable_names done) item)
    (λ v k. record {
      fit = all_push (is_variable objects) done v h.fit k.fit;
      good = all_push (λ (v : Variable). is_name v.name) done v h.good k.new.name;
      different = ap (λ (names : List (List ℕ)). are_new (object_names objects) names) (map-append (λ (v : Variable). v.name) done (v ∷ [])) ∙ new_push (object_names objects) (variable_names done) v.name h.different k.new.fresh;
    })

pub one_more : (objects : List ObjectType) (done : List Variable) (item : Tree) → IfOk (variable_step objects done item) (λ more. length more ≡ length done + 1)
one_more objects done item =
    after (λ more. length more ≡ length done + 1) (variable_of objects (object_names objects ++ variable_names done) item) (λ v. Ok (done ++ v ∷ []))
    (λ v. length-append done (v ∷ []))

pub variables_fit : (objects : List ObjectType) (tree : Tree) → IfOk (variables_of objects tree) (FitVariables objects)
variables_fit objects tree =
    then_if (λ items. length items ≤ 1024) (FitVariables objects) (few_items 1024 tree) (λ items. each (variable_step objects) [] items) (few_fit 1024 tree)
    (λ items few. together (each (variable_step objects) [] items)
    (each_keeps (SoFar objects) (variable_step objects) items [] (one_variable objects) (record { fit = refl; good = refl; different = refl }))
    (no_more (each (variable_step objects) [] items) (length items) 1024 few (each_counts length (variable_step objects) items [] (one_more objects))))
  where
    together : (r : Reads (List Variable)) → IfOk r (SoFar objects) → IfOk r (λ vs. length vs ≤ 1024) → IfOk r (FitVariables objects)
    together (Ok vs) h few =
        let few_test : has_most 1024 vs ≡ true = grind (arith, nat_tests) in
        record { few = few_test; fit = h.fit; named = h.good; different = h.different }
    together (Err e) h few = tt

abbrev AsMany : Reads (List Tree) → List Variable → Type 0
AsMany r vs = IfOk r (λ items. length vs ≡ length items)

counted : (objects : List ObjectType) (at : Place) (items : List Tree) (b : Bool) → IfOk ((if b then Ok items else refuse 49 at) >>= λ items. each (variable_step objects) [] items) (λ vs. length vs ≡ length items)
counted objects at items true = from_none (each (variable_step objects) [] items) (length items) (each_counts length (variable_step objects) items [] (one_more objects))
  where
    from_none : (r : Reads (List Variable)) (n : ℕ) → IfOk r (λ vs. length vs ≡ 0 + n) → IfOk r (λ vs. length vs ≡ n)
    from_none (Ok vs) n h = omega arith
    from_none (Err e) n h = tt
counted objects at items false = tt

counted_of : (objects : List ObjectType) (at : Place) (r : Reads (List Tree)) → IfOk ((r >>= λ items. if nat_le (length items) 1024 then Ok items else refuse 49 at) >>= λ items. each (variable_step objects) [] items) (AsMany r)
counted_of objects at (Ok items) = counted objects at items (nat_le (length items) 1024)
counted_of objects at (Err e) = tt

pub each_variable : (objects : List ObjectType) (tree : Tree) → IfOk (variables_of objects tree) (AsMany (items_of tree))
each_variable objects tree = counted_of objects (tree_place tree) (items_of tree)
