-- Each variable is what its item says.
use Rattle.std.proofs.Common.{◌≡◌, ℕ, zero, suc, Bool, true, false, List, [], ◌∷◌, ◌++◌, length, refl, sym, ap, ◌∙◌, subst, Option, Some, None, Ok, arith, append_assoc, if◌then◌else◌}
use Rattle.std.specs.Prelude.{codes, nat_le, slice_get, option_map, ℤ, pos, ◌≤ℤ◌}
use Rattle.std.specs.Str.{bytes_eq}
use Rattle.std.proofs.lemmas.Int.{ints}
use Rattle.std.proofs.lemmas.List.{append-nil}
use Rattle.std.proofs.lemmas.Option.{slice_get-map}
use Rattle.std.proofs.lemmas.Slice.Eq.{bytes_eq-Decides}
use Rattle.dp_base.specs.declared.place.Place.{Place}
use Rattle.dp_base.specs.Results.{◌>>=◌, each}
use Rattle.dp_model.specs.declared.parts.ObjectType.{ObjectType}
use Rattle.dp_model.specs.declared.parts.PlainValue.{PlainValue}
use Rattle.dp_model.specs.declared.parts.PlainValue.TheVariants.{Number}
use Rattle.dp_model.specs.declared.parts.Preference.{Preference}
use Rattle.dp_model.specs.declared.parts.Preference.TheVariants.{Without, Less, Greater}
use Rattle.dp_model.specs.declared.parts.VarKind.{VarKind}
use Rattle.dp_model.specs.declared.parts.VarKind.TheVariants as kinds
use Rattle.dp_model.specs.declared.parts.Variable.{Variable}
use Rattle.yaml_tree.specs.declared.tree.Tree.{Tree}
use Rattle.yaml_tree.specs.declared.tree.Tree as trees
use Rattle.yaml_tree.specs.declared.tree.Pair.{Pair}
use Rattle.yaml_tree.specs.Fields.{form_items, tree_place, scalar_text, map_entries, value_in}
use Rattle.dypdl_nodes.specs.Reads.{Reads, refuse, or_refuse}
use Rattle.dypdl_nodes.specs.Shapes.{entries_of, few_items, is_among, items_form, items_of, key_step, keyed, known_keys, needed}
use Rattle.dypdl_nodes.specs.Scalars.{text_of}
use Rattle.dypdl_data.specs.Names.{is_word_name, name_by, new_name, number_named}
use Rattle.dypdl_data.specs.Objects.{known_object, object_names}
use Rattle.dypdl_data.specs.Variables.{variable_keys, variable_names, object_at, kind_named, kind_of, preference_named, preference_of, variable_of, variable_step}
use Rattle.dypdl_load.specs.Meaning.{Parts, parts_of}
use Rattle.dypdl_load.proofs.Lists.{behind, bound}
use Rattle.content_laws.specs.Files.{items_in, or_no_items, under_key, word_in}
use Rattle.content_laws.proofs.Meanings.{meaning_steps}
use Rattle.content_laws.proofs.Outcomes.{ok_same}
use Rattle.content_laws.proofs.Targeting.{entries_are, name_at}
use Rattle.content_guards.specs.Variables.{word_under, Names, IsOfKind, IsPreferred, IsDeclared, IsOfItem, LawVariables, LawVariablesOf, LawPreferences}

-- ---- values of keys

pub some_refused : {A : Type 0} (number : ℕ) (at : Place) (o : Option A) (x : A) → or_refuse number at o ≡ Ok x → o ≡ Some x
some_refused number at None x e = absurd (cc e)
some_refused number at (Some y) x e = ap Some (ok_same y x e)

pub keyed_are : (known : List (List ℕ)) (item : Tree) (entries : List Pair) → keyed known item ≡ Ok entries → entries ≡ map_entries item
keyed_are known item entries e =
    let a = bound (entries_of item) (known_keys known) entries e in
    let b = bound (each (key_step known) tt a.0) (λ done. Ok a.0) entries a.2 in
    sym (ok_same a.0 entries b.2) ∙ entries_are item a.0 a.1

pub text_is : (tree : Tree) (text : List ℕ) → text_of tree ≡ Ok text → scalar_text tree ≡ Some text
text_is tree text e = some_refused 50 (tree_place tree) (scalar_text tree) text e

-- a text that passed a test
pub passed : (test : Bool) (number : ℕ) (at : Place) (text out : List ℕ) → (if test then Ok text else refuse number at) ≡ Ok out → text ≡ out
passed true number at text out e = ok_same text out e
passed false number at text out e = absurd (cc e)

failed : (test : Bool) (number : ℕ) (at : Place) (text out : List ℕ) → (if test then refuse number at else Ok text) ≡ Ok out → text ≡ out
failed true number at text out e = absurd (cc e)
failed false number at text out e = ok_same text out e

pub name_is : (taken : List (List ℕ)) (tree : Tree) (name : List ℕ) → new_name taken tree ≡ Ok name → scalar_text tree ≡ Some name
name_is taken tree name e =
    let word = bound (name_by is_word_name tree) (λ word. if is_among taken word then refuse 43 (tree_place tree) else Ok word) name e in
    let text = bound (text_of tree) (λ text. if is_word_name text then Ok text else refuse 51 (tree_place tree)) word.0 word.1 in
    text_is tree text.0 text.1
    ∙ ap Some (passed (is_word_name text.0) 51 (tree_place tree) text.0 word.0 text.2 ∙ failed (is_among taken word.0) 43 (tree_place tree) word.0 name word.2)

-- the word under a key whose value is known
pub word_is : (item : Tree) (entries : List Pair) (key : List ℕ) (tree : Tree) (text : List ℕ) → entries ≡ map_entries item → value_in key entries ≡ Some tree → scalar_text tree ≡ Some text → word_under item key ≡ Some text
word_is item entries key tree text same under is = ap word_in (sym (ap (value_in key) same) ∙ under) ∙ is

-- ---- kinds

pub equal_words : (a b : List ℕ) → bytes_eq a b ≡ true → a ≡ b
equal_words a b e = (bytes_eq-Decides a b).0 e

module _ (objects : List ObjectType) (item : Tree) (entries : List Pair) (same : entries ≡ map_entries item) where
  object_is : (o : ℕ) → object_at objects (tree_place item) entries ≡ Ok o → Names objects (word_under item (codes "object")) o
  object_is o e =
      let tree = bound (needed (tree_place item) entries (codes "object")) (known_object objects) o e in
      let under = some_refused 40 (tree_place item) (value_in (codes "object") entries) tree.0 tree.1 in
      let text = bound (text_of tree.0) (λ word. or_refuse 30 (tree_place tree.0) (number_named (object_names objects) word)) o tree.2 in
      let number = some_refused 30 (tree_place tree.0) (number_named (object_names objects) text.0) o text.2 in
      let at = name_at (object_names objects) text.0 o number in
      there text.0 (word_is item entries (codes "object") tree.0 text.0 same under (text_is tree.0 text.0 text.1)) (slice_get objects o) refl (sym (slice_get-map (λ (t : ObjectType). t.name) objects o) ∙ at)
    where
      there : (text : List ℕ) → word_under item (codes "object") ≡ Some text → (t : Option ObjectType) → slice_get objects o ≡ t → option_map (λ (t : ObjectType). t.name) (slice_get objects o) ≡ Some text → Names objects (word_under item (codes "object")) o
      there text word None at e = let no : None ≡ Some text = sym (ap (option_map (λ (t : ObjectType). t.name)) at) ∙ e in absurd (cc)
      there text word (Some t) at e = (t, at, word ∙ sym (sym (ap (option_map (λ (t : ObjectType). t.name)) at) ∙ e))

  module _ (type_at : Place) where
    abbrev rest_of_set : List ℕ → Reads VarKind
    rest_of_set word = if bytes_eq word (codes "continuous") then refuse 34 type_at else refuse 50 type_at

    none_else : (test : Bool) (kind : VarKind) → ◌≡◌ {A = Reads VarKind} (if test then refuse 34 type_at else refuse 50 type_at) (Ok kind) → ⊥
    none_else true kind e = cc e
    none_else false kind e = cc e

    set_is : (word : List ℕ) (kind : VarKind) (test : Bool) → bytes_eq word (codes "set") ≡ test → word_under item (codes "type") ≡ Some word
        → (if test then (object_at objects (tree_place item) entries >>= λ o. Ok (kinds.Set o)) else rest_of_set word) ≡ Ok kind → IsOfKind objects item kind
    set_is word kind true eq under e =
        let o = bound (object_at objects (tree_place item) entries) (λ o. Ok (kinds.Set o)) kind e in
        subst (IsOfKind objects item) (ok_same (kinds.Set o.0) kind o.2) (under ∙ ap Some (equal_words word (codes "set") eq), object_is o.0 o.1)
    set_is word kind false eq under e = absurd (none_else (bytes_eq word (codes "continuous")) kind e)

    abbrev rest_of_element : List ℕ → Reads VarKind
    rest_of_element word = if bytes_eq word (codes "set") then (object_at objects (tree_place item) entries >>= λ o. Ok (kinds.Set o)) else rest_of_set word

    element_is : (word : List ℕ) (kind : VarKind) (test : Bool) → bytes_eq word (codes "element") ≡ test → word_under item (codes "type") ≡ Some word
        → (if test then (object_at objects (tree_place item) entries >>= λ o. Ok (kinds.Element o)) else rest_of_element word) ≡ Ok kind → IsOfKind objects item kind
    element_is word kind true eq under e =
        let o = bound (object_at objects (tree_place item) entries) (λ o. Ok (kinds.Element o)) kind e in
        subst (IsOfKind objects item) (ok_same (kinds.Element o.0) kind o.2) (under ∙ ap Some (equal_words word (codes "element") eq), object_is o.0 o.1)
    element_is word kind false eq under e = set_is word kind (bytes_eq word (codes "set")) refl under e

    abbrev rest_of_integer : List ℕ → Reads VarKind
    rest_of_integer word = if bytes_eq word (codes "element") then (object_at objects (tree_place item) entries >>= λ o. Ok (kinds.Element o)) else rest_of_element word

    named_is : (word : List ℕ) (kind : VarKind) (test : Bool) → bytes_eq word (codes "integer") ≡ test → word_under item (codes "type") ≡ Some word
        → (if test then Ok kinds.Integer else rest_of_integer word) ≡ Ok kind → IsOfKind objects item kind
    named_is word kind true eq under e = subst (IsOfKind objects item) (ok_same kinds.Integer kind e) (under ∙ ap Some (equal_words word (codes "integer") eq))
    named_is word kind false eq under e = element_is word kind (bytes_eq word (codes "element")) refl under e

  kind_is : (tree : Tree) (kind : VarKind) → value_in (codes "type") entries ≡ Some tree → kind_of objects (tree_place item) entries tree ≡ Ok kind → IsOfKind objects item kind
  kind_is tree kind under e =
      let word = bound (text_of tree) (kind_named objects (tree_place item) entries (tree_place tree)) kind e in
      named_is (tree_place tree) word.0 kind (bytes_eq word.0 (codes "integer")) refl (word_is item entries (codes "type") tree word.0 same under (text_is tree word.0 word.1)) word.2

  -- ---- preferences

  greater_is : (at : Place) (word : List ℕ) (p : Preference) (test : Bool) → bytes_eq word (codes "greater") ≡ test → word_under item (codes "preference") ≡ Some word
      → ◌≡◌ {A = Reads Preference} (if test then Ok Greater else refuse 50 at) (Ok p) → IsPreferred item p
  greater_is at word p true eq under e = subst (IsPreferred item) (ok_same Greater p e) (under ∙ ap Some (equal_words word (codes "greater") eq))
  greater_is at word p false eq under e = absurd (cc e)

  less_is : (at : Place) (word : List ℕ) (p : Preference) (test : Bool) → bytes_eq word (codes "less") ≡ test → word_under item (codes "preference") ≡ Some word
      → ◌≡◌ {A = Reads Preference} (if test then Ok Less else (if bytes_eq word (codes "greater") then Ok Greater else refuse 50 at)) (Ok p) → IsPreferred item p
  less_is at word p true eq under e = subst (IsPreferred item) (ok_same Less p e) (under ∙ ap Some (equal_words word (codes "less") eq))
  less_is at word p false eq under e = greater_is at word p (bytes_eq word (codes "greater")) refl under e

  some_preference : (tree : Tree) (p : Preference) → value_in (codes "preference") entries ≡ Some tree → (text_of tree >>= preference_named (tree_place tree)) ≡ Ok p → IsPreferred item p
  some_preference tree p under e =
      let word = bound (text_of tree) (preference_named (tree_place tree)) p e in
      less_is (tree_place tree) word.0 p (bytes_eq word.0 (codes "less")) refl (word_is item entries (codes "preference") tree word.0 same under (text_is tree word.0 word.1)) word.2

  preference_is : (kind : VarKind) (o : Option Tree) (p : Preference) → value_in (codes "preference") entries ≡ o → preference_of kind o ≡ Ok p → IsPreferred item p
  preference_is kind None p under e = subst (IsPreferred item) (ok_same Without p e) (sym (ap (value_in (codes "preference")) same) ∙ under)
  preference_is (kinds.Set object) (Some tree) p under e = absurd (cc e)
  preference_is (kinds.Element object) (Some tree) p under e = some_preference tree p under e
  preference_is kinds.Integer (Some tree) p under e = some_preference tree p under e

-- ---- one item

module _ (objects : List ObjectType) (taken : List (List ℕ)) (item : Tree) where
  abbrev made : (name : List ℕ) → VarKind → Preference → Reads Variable
  made name kind preference = Ok (record { name = name; kind = kind; preference = preference })

  abbrev on_kind : List Pair → (name : List ℕ) → VarKind → Reads Variable
  on_kind entries name kind = preference_of kind (value_in (codes "preference") entries) >>= made name kind

  abbrev on_name : List Pair → Tree → (name : List ℕ) → Reads Variable
  on_name entries kind_tree name = kind_of objects (tree_place item) entries kind_tree >>= on_kind entries name

  abbrev on_kind_tree : List Pair → Tree → Tree → Reads Variable
  on_kind_tree entries name_tree kind_tree = new_name taken name_tree >>= on_name entries kind_tree

  abbrev on_name_tree : List Pair → Tree → Reads Variable
  on_name_tree entries name_tree = needed (tree_place item) entries (codes "type") >>= on_kind_tree entries name_tree

  abbrev on_entries : List Pair → Reads Variable
  on_entries entries = needed (tree_place item) entries (codes "name") >>= on_name_tree entries

  declared : (v : Variable) → variable_of objects taken item ≡ Ok v → IsDeclared objects item v
  declared v e =
      let entries = bound (keyed variable_keys item) on_entries v e in
      let name_tree = bound (needed (tree_place item) entries.0 (codes "name")) (on_name_tree entries.0) v entries.2 in
      let kind_tree = bound (needed (tree_place item) entries.0 (codes "type")) (on_kind_tree entries.0 name_tree.0) v name_tree.2 in
      let name = bound (new_name taken name_tree.0) (on_name entries.0 kind_tree.0) v kind_tree.2 in
      let kind = bound (kind_of objects (tree_place item) entries.0 kind_tree.0) (on_kind entries.0 name.0) v name.2 in
      let preference = bound (preference_of kind.0 (value_in (codes "preference") entries.0)) (made name.0 kind.0) v kind.2 in
      let same = keyed_are variable_keys item entries.0 entries.1 in
      let it : Variable = record { name = name.0; kind = kind.0; preference = preference.0 } in
      subst (IsDeclared objects item) {x = it} (ok_same it v preference.2)
      (record {
        name = word_is item entries.0 (codes "name") name_tree.0 name.0 same (some_refused 40 (tree_place item) (value_in (codes "name") entries.0) name_tree.0 name_tree.1) (name_is taken name_tree.0 name.0 name.1);
        kind = kind_is objects item entries.0 same kind_tree.0 kind.0 (some_refused 40 (tree_place item) (value_in (codes "type") entries.0) kind_tree.0 kind_tree.1) kind.1;
        preference = preference_is objects item entries.0 same kind.0 (value_in (codes "preference") entries.0) preference.0 refl preference.1;
      })

-- ---- all items

module _ (objects : List ObjectType) where
  -- each of these was declared by the item at its place
  abbrev AreDeclared : List Tree → List Variable → Type 0
  AreDeclared items vs = (k : ℕ) (v : Variable) → slice_get vs k ≡ Some v → (item : Tree) × (slice_get items k ≡ Some item) × IsDeclared objects item v

  one_more : (item : Tree) (items : List Tree) (v : Variable) (vs : List Variable) → IsDeclared objects item v → AreDeclared items vs → AreDeclared (item ∷ items) (v ∷ vs)
  one_more item items v vs first rest zero w e = (item, refl, subst (IsDeclared objects item) (same v w e) first)
    where
      same : (a b : Variable) → Some a ≡ Some b → a ≡ b
      same a b h = cc
  one_more item items v vs first rest (suc k) w e = rest k w e

  all_declared : (items : List Tree) (done all : List Variable) → each (variable_step objects) done items ≡ Ok all → (vs : List Variable) × (all ≡ done ++ vs) × AreDeclared items vs
  all_declared [] done all e = ([], sym (ok_same done all e) ∙ sym (append-nil done), λ k v none. absurd (cc none))
  all_declared (item ∷ items) done all e =
      let next = bound (variable_step objects done item) (λ t. each (variable_step objects) t items) all e in
      let v = bound (variable_of objects (object_names objects ++ variable_names done) item) (behind done) next.0 next.1 in
      let grown : done ++ v.0 ∷ [] ≡ next.0 = ok_same (done ++ v.0 ∷ []) next.0 v.2 in
      let rest = all_declared items next.0 all next.2 in
      (v.0 ∷ rest.0, rest.1 ∙ ap (λ (xs : List Variable). xs ++ rest.0) (sym grown) ∙ append_assoc done (v.0 ∷ []) rest.0, one_more item items v.0 rest.0 (declared objects (object_names objects ++ variable_names done) item v.0 v.1) rest.2)

items_are : (tree : Tree) (items : List Tree) → items_of tree ≡ Ok items → items ≡ items_in (Some tree)
items_are tree items e = by_form (trees.out-Tree tree) e
  where
    by_form : (form : trees.Tree-F Tree Pair) → items_form form ≡ Ok items → items ≡ or_no_items (form_items form)
    by_form (trees.Tree-F.Scalar at []) h = sym (ok_same [] items h)
    by_form (trees.Tree-F.Scalar at (byte ∷ bytes)) h = absurd (cc h)
    by_form (trees.Tree-F.List at xs) h = sym (ok_same xs items h)
    by_form (trees.Tree-F.Map at es) h = absurd (cc h)

few_are : (test : Bool) (at : Place) (items out : List Tree) → ◌≡◌ {A = Reads (List Tree)} (if test then Ok items else refuse 49 at) (Ok out) → items ≡ out
few_are true at items out e = ok_same items out e
few_are false at items out e = absurd (cc e)

pub variables_law : LawVariables
variables_law objects tree variables e i v at =
    let items = bound (few_items 1024 tree) (λ items. each (variable_step objects) [] items) variables e in
    let read = bound (items_of tree) (λ items. if nat_le (length items) 1024 then Ok items else refuse 49 (tree_place tree)) items.0 items.1 in
    let same : items.0 ≡ items_in (Some tree) = sym (few_are (nat_le (length read.0) 1024) (tree_place tree) read.0 items.0 read.2) ∙ items_are tree read.0 read.1 in
    let all = all_declared objects items.0 [] variables items.2 in
    let one = all.2 i v (sym (ap (λ (vs : List Variable). slice_get vs i) all.1) ∙ at) in
    (one.0, ap (λ (xs : List Tree). slice_get xs i) (sym same) ∙ one.1, one.2)

pub variables_of_law : LawVariablesOf
variables_of_law read domain problem m means =
    let s = meaning_steps read domain problem (parts_of m) means in
    let tree = s.settings.domain.needed in
    let written : under_key domain (codes "state_variables") ≡ Some tree = ap (value_in (codes "state_variables")) (sym s.is_settings.domain_entries) ∙ s.is_settings.variables in
    λ i v is. (
      tree,
      written,
      subst (λ (x : Parts). (v : Variable) → slice_get x.variables i ≡ Some v → IsOfItem x.objects tree i v) s.whole
          (λ w at. variables_law s.declared.objects tree s.declared.variables s.is_declared.variables i w at) v is,
    )

no_number : (a b : ℤ) → ◌≡◌ {A = PlainValue} (Number a) (Number b) → a ≡ b
no_number a b e = cc

pub preferences : LawPreferences
preferences =
    record {
      less = omega (arith, ints);
      not_less = λ h. more h;
      greater = omega (arith, ints);
      not_greater = λ h. more h;
      same = refl;
      not_same = λ e. differ (no_number (pos 1) (pos 2) e);
    }
  where
    more : pos 2 ≤ℤ pos 1 → ⊥
    more h = absurd (omega (arith, ints, h))

    differ : pos 1 ≡ pos 2 → ⊥
    differ e = absurd (omega (arith, ints, e))
