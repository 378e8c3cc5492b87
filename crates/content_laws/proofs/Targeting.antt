-- The target's value of a variable is the one under its name.
use Rattle.std.proofs.Common.{◌≡◌, ℕ, zero, suc, ◌<◌, List, [], ◌∷◌, ◌++◌, length, map, replicate, get_or, refl, sym, ap, ◌∙◌, subst, Option, Some, None, Ok, ◌⊎◌, inl, inr, ⊎_elim, arith, append_assoc}
use Rattle.std.specs.Prelude.{codes, slice_get, slice_set, option_map, option_and_then}
use Rattle.std.specs.Str.{bytes_eq}
use Rattle.std.proofs.lemmas.Bool.Decides.{eqb_tells}
use Rattle.std.proofs.lemmas.List.{append-nil, length-map, length-replicate}
use Rattle.std.proofs.lemmas.List.Quantifiers.{position-Some}
use Rattle.std.proofs.lemmas.Option.{slice_get-map, slice_get_within, slice_get_read}
use Rattle.std.proofs.lemmas.Slice.Eq.{bytes_eq-Decides}
use Rattle.dp_base.specs.declared.place.Place.{Place}
use Rattle.dp_base.specs.Results.{◌>>=◌, each}
use Rattle.dp_model.specs.declared.parts.ObjectType.{ObjectType}
use Rattle.dp_model.specs.declared.parts.Variable.{Variable}
use Rattle.dp_model.specs.declared.parts.PlainValue.{PlainValue}
use Rattle.dp_model.specs.declared.parts.PlainState.{PlainState}
use Rattle.yaml_tree.specs.declared.tree.Tree.{Tree}
use Rattle.yaml_tree.specs.declared.tree.Tree as trees
use Rattle.yaml_tree.specs.declared.tree.Pair.{Pair}
use Rattle.yaml_tree.specs.Fields.{tree_place, scalar_text, form_entries, map_entries, value_in}
use Rattle.dypdl_nodes.specs.Reads.{or_refuse}
use Rattle.dypdl_nodes.specs.Shapes.{entries_form, entries_of}
use Rattle.dypdl_data.specs.Names.{number_named, known_key}
use Rattle.dypdl_data.specs.Variables.{variable_names}
use Rattle.dypdl_data.specs.Target.{value_of, value_at, target_step, held_step, target_of}
use Rattle.dypdl_load.specs.Meaning.{Parts, parts_of}
use Rattle.dypdl_load.proofs.Lists.{bound}
use Rattle.content_laws.specs.Files.{under_key}
use Rattle.content_laws.specs.Targets.{IsGiven, LawTarget, LawTargetOf}
use Rattle.content_laws.proofs.Meanings.{meaning_steps}
use Rattle.content_laws.proofs.Outcomes.{ok_same, there_is, in_list, set_at, set_elsewhere, set_length}

-- ---- names

-- a name with this number stands there
pub name_at : (names : List (List ℕ)) (word : List ℕ) (i : ℕ) → number_named names word ≡ Some i → slice_get names i ≡ Some word
name_at names word i e =
    let found = position-Some (bytes_eq word) names i word e in
    let same : word ≡ get_or names i word = (bytes_eq-Decides word (get_or names i word)).0 found.1 in
    slice_get_read names (length names) i word refl found.0 same

-- ---- entries

pub entries_are : (tree : Tree) (entries : List Pair) → entries_of tree ≡ Ok entries → entries ≡ map_entries tree
entries_are tree entries e = by_form (trees.out-Tree tree) e
  where
    by_form : (form : trees.Tree-F Tree Pair) → entries_form form ≡ Ok entries → entries ≡ form_entries form
    by_form (trees.Tree-F.Scalar at []) h = sym (ok_same [] entries h)
    by_form (trees.Tree-F.Scalar at (byte ∷ bytes)) h = absurd (cc h)
    by_form (trees.Tree-F.List at items) h = absurd (cc h)
    by_form (trees.Tree-F.Map at es) h = sym (ok_same es entries h)

module _ (objects : List ObjectType) (variables : List Variable) where
  abbrev Sets : Pair → ℕ → Type 0
  Sets pair i = known_key 45 (variable_names variables) pair.key ≡ Ok i

  -- the last entry that sets the variable gives it this value
  record SetBy (entries : List Pair) (i : ℕ) (v : Variable) (x : PlainValue) : Type 0 where
    at : ℕ
    pair : Pair
    there : slice_get entries at ≡ Some pair
    sets : Sets pair i
    last : (j : ℕ) (other : Pair) → at < j → slice_get entries j ≡ Some other → Sets other i → ⊥
    read : value_of objects v.kind pair.value ≡ Ok x

  abbrev NoneSets : List Pair → ℕ → Type 0
  NoneSets entries i = (j : ℕ) (other : Pair) → slice_get entries j ≡ Some other → Sets other i → ⊥

  -- one entry: it sets this variable, or leaves it
  one_entry : (held new : List (Option PlainValue)) (pair : Pair) (i : ℕ) (v : Variable) (x : PlainValue) → slice_get variables i ≡ Some v
      → target_step objects variables held pair ≡ Ok new → slice_get new i ≡ Some (Some x)
      → (Sets pair i × (value_of objects v.kind pair.value ≡ Ok x)) ⊎ ((Sets pair i → ⊥) × (slice_get held i ≡ Some (Some x)))
  one_entry held new pair i v x is e there =
      let k = bound (known_key 45 (variable_names variables) pair.key) (λ k. value_at objects held k pair.value (slice_get variables k)) new e in
      ⊎_elim
      (λ same. inl (here k.0 k.1 k.2 same.1))
      (λ other. inr (λ sets. other.1 (ok_same k.0 i (sym k.1 ∙ sets)), left k.0 (slice_get variables k.0) k.2 other.1))
      (eqb_tells k.0 i)
    where
      here : (k : ℕ) → Sets pair k → value_at objects held k pair.value (slice_get variables k) ≡ Ok new → k ≡ i → Sets pair i × (value_of objects v.kind pair.value ≡ Ok x)
      here k sets gives same =
          (let at_v : slice_get variables k ≡ Some v = ap (slice_get variables) same ∙ is in
          let gives_v : value_at objects held k pair.value (Some v) ≡ Ok new = rw at_v at gives in
          let y = bound (value_of objects v.kind pair.value) (λ y. Ok (slice_set held k (Some y))) new gives_v in
          let set : slice_set held k (Some y.0) ≡ new = ok_same (slice_set held k (Some y.0)) new y.2 in
          let at_k : slice_get (slice_set held k (Some y.0)) k ≡ Some (Some x) = ap (λ (xs : List (Option PlainValue)). slice_get xs k) set ∙ ap (slice_get new) same ∙ there in
          let one : Some y.0 ≡ Some x = set_at held k (Some y.0) (Some x) at_k in
          let one_value : y.0 ≡ x = cc in
          (subst (Sets pair) same sets, y.1 ∙ ap Ok one_value))

      left : (k : ℕ) (o : Option Variable) → value_at objects held k pair.value o ≡ Ok new → (k ≡ i → ⊥) → slice_get held i ≡ Some (Some x)
      left k None gives differ = ap (λ (xs : List (Option PlainValue)). slice_get xs i) (ok_same held new gives) ∙ there
      left k (Some w) gives differ =
          (let y = bound (value_of objects w.kind pair.value) (λ y. Ok (slice_set held k (Some y))) new gives in
          let set : slice_set held k (Some y.0) ≡ new = ok_same (slice_set held k (Some y.0)) new y.2 in
          sym (set_elsewhere held k i (Some y.0) differ) ∙ ap (λ (xs : List (Option PlainValue)). slice_get xs i) set ∙ there)

  origin : (i : ℕ) (v : Variable) (x : PlainValue) → slice_get variables i ≡ Some v → (entries : List Pair) (held end : List (Option PlainValue))
      → each (target_step objects variables) held entries ≡ Ok end → slice_get end i ≡ Some (Some x)
      → SetBy entries i v x ⊎ (NoneSets entries i × (slice_get held i ≡ Some (Some x)))
  origin i v x is [] held end e there = inr (λ j other none. absurd (cc none), ap (λ (xs : List (Option PlainValue)). slice_get xs i) (ok_same held end e) ∙ there)
  origin i v x is (pair ∷ entries) held end e there =
      let new = bound (target_step objects variables held pair) (λ t. each (target_step objects variables) t entries) end e in
      ⊎_elim (λ by. inl (later by)) (λ none. first none.0 (one_entry held new.0 pair i v x is new.1 none.1)) (origin i v x is entries new.0 end new.2 there)
    where
      later : SetBy entries i v x → SetBy (pair ∷ entries) i v x
      later by = record {
        at = suc by.at;
        pair = by.pair;
        there = by.there;
        sets = by.sets;
        last = after;
        read = by.read;
      }
        where
          after : (j : ℕ) (other : Pair) → suc by.at < j → slice_get (pair ∷ entries) j ≡ Some other → Sets other i → ⊥
          after zero other less at = absurd (omega arith)
          after (suc j) other less at = by.last j other (omega arith) at

      no_first : NoneSets entries i → (Sets pair i → ⊥) → NoneSets (pair ∷ entries) i
      no_first none unset zero other at sets = unset (subst (λ (p : Pair). Sets p i) (same_some other pair at) sets)
        where
          same_some : (a b : Pair) → Some b ≡ Some a → a ≡ b
          same_some a b h = cc
      no_first none unset (suc j) other at sets = none j other at sets

      first : NoneSets entries i → (Sets pair i × (value_of objects v.kind pair.value ≡ Ok x)) ⊎ ((Sets pair i → ⊥) × (slice_get held i ≡ Some (Some x)))
          → SetBy (pair ∷ entries) i v x ⊎ (NoneSets (pair ∷ entries) i × (slice_get held i ≡ Some (Some x)))
      first none (inl set) = inl (record { at = 0; pair = pair; there = refl; sets = set.0; last = after; read = set.1 })
        where
          after : (j : ℕ) (other : Pair) → 0 < j → slice_get (pair ∷ entries) j ≡ Some other → Sets other i → ⊥
          after zero other less at = absurd (omega arith)
          after (suc j) other less at = none j other at
      first none (inr kept) = inr (no_first none kept.0, kept.1)

  lasts : (entries : List Pair) (held end : List (Option PlainValue)) → each (target_step objects variables) held entries ≡ Ok end → length end ≡ length held
  lasts [] held end e = ap length (sym (ok_same held end e))
  lasts (pair ∷ entries) held end e =
      let new = bound (target_step objects variables held pair) (λ t. each (target_step objects variables) t entries) end e in
      let k = bound (known_key 45 (variable_names variables) pair.key) (λ k. value_at objects held k pair.value (slice_get variables k)) new.0 new.1 in
      lasts entries new.0 end new.2 ∙ one k.0 (slice_get variables k.0) new.0 k.2
    where
      one : (k : ℕ) (o : Option Variable) (new : List (Option PlainValue)) → value_at objects held k pair.value o ≡ Ok new → length new ≡ length held
      one k None new gives = ap length (sym (ok_same held new gives))
      one k (Some w) new gives =
          (let y = bound (value_of objects w.kind pair.value) (λ y. Ok (slice_set held k (Some y))) new gives in
          ap length (sym (ok_same (slice_set held k (Some y.0)) new y.2)) ∙ set_length held k (Some y.0))

  all_held : (at : Place) (held : List (Option PlainValue)) (done all : List PlainValue) → each (held_step at) done held ≡ Ok all → (rest : List PlainValue) × (all ≡ done ++ rest) × (held ≡ map Some rest)
  all_held at [] done all e = ([], sym (ok_same done all e) ∙ sym (append-nil done), refl)
  all_held at (None ∷ held) done all e = absurd (cc e)
  all_held at (Some x ∷ held) done all e =
      let rest = all_held at held (done ++ x ∷ []) all e in
      (x ∷ rest.0, rest.1 ∙ append_assoc done (x ∷ []) rest.0, ap (λ (xs : List (Option PlainValue)). Some x ∷ xs) rest.2)

  never : (n i : ℕ) (x : PlainValue) → slice_get (replicate n None) i ≡ Some (Some x) → ⊥
  never zero i x e = cc
  never (suc n) zero x e = let none : None ≡ Some x = cc in cc
  never (suc n) (suc i) x e = never n i x e

  -- the name under which a variable is set is its own
  named : (i : ℕ) (v : Variable) (pair : Pair) → slice_get variables i ≡ Some v → Sets pair i → (scalar_text pair.key ≡ Some v.name) × (number_named (variable_names variables) v.name ≡ Some i)
  named i v pair is sets =
      let word = there_is 45 (tree_place pair.key) (number_named (variable_names variables)) (scalar_text pair.key) i sets in
      let at_word = name_at (variable_names variables) word.0 i word.2 in
      let at_name : slice_get (variable_names variables) i ≡ Some v.name = slice_get-map (λ (w : Variable). w.name) variables i ∙ ap (option_map (λ (w : Variable). w.name)) is in
      let same : word.0 ≡ v.name = some_same word.0 v.name (sym at_word ∙ at_name) in
      (word.1 ∙ ap Some same, ap (number_named (variable_names variables)) (sym same) ∙ word.2)
    where
      some_same : (a b : List ℕ) → Some a ≡ Some b → a ≡ b
      some_same a b h = cc

  given_at : (entries : List Pair) (held : List (Option PlainValue)) (rest : List PlainValue) → each (target_step objects variables) (replicate (length variables) None) entries ≡ Ok held → held ≡ map Some rest
      → (i : ℕ) (v : Variable) → slice_get variables i ≡ Some v → IsGiven objects entries (record { values = rest }) i v
  given_at entries held rest e same i v is =
      let as_many : length held ≡ length variables = lasts entries (replicate (length variables) None) held e ∙ length-replicate (length variables) None in
      let as_long : length held ≡ length rest = ap length same ∙ length-map rest Some in
      let less : i < length variables = slice_get_within variables i v is in
      let x = in_list rest i (omega arith) in
      let there : slice_get held i ≡ Some (Some x.0) = ap (λ (xs : List (Option PlainValue)). slice_get xs i) same ∙ slice_get-map Some rest i ∙ ap (option_map Some) x.1 in
      ⊎_elim (λ by. from_entry x.0 x.1 by) (λ none. absurd (never (length variables) i x.0 none.1)) (origin i v x.0 is entries (replicate (length variables) None) held e there)
    where
      from_entry : (x : PlainValue) → slice_get rest i ≡ Some x → SetBy entries i v x → IsGiven objects entries (record { values = rest }) i v
      from_entry x there by =
          (let own = named i v by.pair is by.sets in
          record {
            pair = by.pair;
            value = x;
            under = record {
              at = by.at;
              there = by.there;
              named = own.0;
              last = λ j other less at also. by.last j other less at
                  (ap (λ (o : Option (List ℕ)). or_refuse 45 (tree_place other.key) (option_and_then (number_named (variable_names variables)) o)) also
                  ∙ ap (or_refuse 45 (tree_place other.key)) own.1);
            };
            read = by.read;
            held = there;
          })

  given : (tree : Tree) (s : PlainState) → target_of objects variables tree ≡ Ok s → (i : ℕ) (v : Variable) → slice_get variables i ≡ Some v → IsGiven objects (map_entries tree) s i v
  given tree s e i v is =
      let entries = bound (entries_of tree) (λ entries. each (target_step objects variables) (replicate (length variables) None) entries >>= λ held. each (held_step (tree_place tree)) [] held >>= λ values. Ok (record { values = values })) s e in
      let held = bound (each (target_step objects variables) (replicate (length variables) None) entries.0) (λ held. each (held_step (tree_place tree)) [] held >>= λ values. Ok (record { values = values })) s entries.2 in
      let values = bound (each (held_step (tree_place tree)) [] held.0) (λ values. Ok (record { values = values })) s held.2 in
      let rest = all_held (tree_place tree) held.0 [] values.0 values.1 in
      let state : ◌≡◌ {A = PlainState} (record { values = rest.0 }) s = ap (λ (xs : List PlainValue). record { values = xs }) (sym rest.1) ∙ ok_same (record { values = values.0 }) s values.2 in
      subst (λ (es : List Pair). IsGiven objects es s i v) (entries_are tree entries.0 entries.1)
      (subst (λ (t : PlainState). IsGiven objects entries.0 t i v) {x = record { values = rest.0 }} state (given_at entries.0 held.0 rest.0 held.1 rest.2 i v is))

pub target_law : LawTarget
target_law objects variables tree s e i v is = given objects variables tree s e i v is

pub target_of_law : LawTargetOf
target_of_law read domain problem m means =
    let s = meaning_steps read domain problem (parts_of m) means in
    let tree = s.settings.problem.needed in
    let written : under_key problem (codes "target") ≡ Some tree = ap (value_in (codes "target")) (sym s.is_settings.problem_entries) ∙ s.is_settings.target in
    λ i v is. (
      tree,
      written,
      subst (λ (x : Parts). (v : Variable) → slice_get x.variables i ≡ Some v → IsGiven x.objects (map_entries tree) x.target i v) s.whole
          (λ w at. given s.declared.objects s.declared.variables tree s.target s.is_target i w at) v is,
    )
