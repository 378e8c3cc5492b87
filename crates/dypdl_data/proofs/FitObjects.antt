-- Object types that are read fit a model.
use Rattle.std.proofs.Common.{◌≡◌, ◌≤◌, ℕ, zero, suc, ◌+◌, append_assoc, length-append, Bool, true, not, nat_le, if◌then◌else◌, List, [], ◌∷◌, ◌++◌, length, zip, replicate, slice_set, Option, Some, None, Ok, IfOk, refl, ap, ◌∙◌, arith}
use Rattle.std.specs.List.{list_all}
use Rattle.std.proofs.lemmas.List.{map-append}
use Rattle.std.proofs.lemmas.Bool.Decides.{nat_tests}
use Rattle.dp_base.specs.declared.place.Place.{Place}
use Rattle.dp_base.specs.Results.{◌>>=◌, each}
use Rattle.dp_model.specs.Limits.{has_most, is_name, is_small_object}
use Rattle.dp_model.specs.declared.parts.ObjectType.{ObjectType}
use Rattle.yaml_tree.specs.declared.tree.Tree.{Tree}
use Rattle.yaml_tree.specs.declared.tree.Pair.{Pair}
use Rattle.yaml_tree.specs.Fields.{tree_place}
use Rattle.dypdl_nodes.specs.Reads.{refuse}
use Rattle.dypdl_nodes.specs.Shapes.{items_or_none, entries_or_none, is_among}
use Rattle.dypdl_nodes.specs.Scalars.{count_of}
use Rattle.dypdl_data.specs.Names.{new_name, known_key}
use Rattle.dypdl_data.specs.Objects.{object_names, object_step, names_of, member_count, number_step, counts_of, given_step, objects_of}
use Rattle.dypdl_data.specs.Laws.{are_new, FitObjects}
use Rattle.dypdl_data.proofs.Steps.{after, then_if, each_keeps, each_counts, both_known, few_or_none_fit, no_more, if_allowed, both, first, second, all_push, set_keeps}
use Rattle.dypdl_data.proofs.FitNames.{IsNew, new_is_new, new_push}

-- ---- names

record AreNames (names : List (List ℕ)) : Type 0 where
  good : list_all is_name names ≡ true
  different : are_new [] names ≡ true

one_name : (names : List (List ℕ)) (item : Tree) → AreNames names → IfOk (object_step names item) AreNames
one_name names item h =
    then_if (IsNew names) AreNames (new_name names item) (λ name. Ok (names ++ name ∷ [])) (new_is_new names item)
    (λ name new. record { good = all_push is_name names name h.good new.name; different = new_push [] names name h.different new.fresh })

one_longer : (names : List (List ℕ)) (item : Tree) → IfOk (object_step names item) (λ more. length more ≡ length names + 1)
one_longer names item =
    after (λ more. length more ≡ length names + 1) (new_name names item) (λ name. Ok (names ++ name ∷ []))
    (λ name. length-append names (name ∷ []))

abbrev FewNames : List (List ℕ) → Type 0
FewNames names = AreNames names × (length names ≤ 1024)

names_fit : (tree : Option Tree) → IfOk (names_of tree) FewNames
names_fit tree =
    then_if (λ items. length items ≤ 1024) FewNames (items_or_none 1024 tree) (λ items. each object_step [] items) (few_or_none_fit 1024 tree)
    (λ items few. both_known AreNames (λ names. length names ≤ 1024) (each object_step [] items)
    (each_keeps AreNames object_step items [] one_name (record { good = refl; different = refl }))
    (no_more (each object_step [] items) (length items) 1024 few (each_counts length object_step items [] one_longer)))

-- ---- numbers

abbrev is_count : Option ℕ → Bool
is_count None = true
is_count (Some n) = nat_le n 4096

member_count_fits : (tree : Tree) → IfOk (member_count tree) (λ n. nat_le n 4096 ≡ true)
member_count_fits tree =
    after (λ n. nat_le n 4096 ≡ true) (count_of tree) (λ n. if nat_le n 4096 then Ok n else refuse 49 (tree_place tree))
    (λ n. if_allowed (λ n. nat_le n 4096 ≡ true) (nat_le n 4096) (Ok n) (refuse 49 (tree_place tree)) (λ e. e) (λ e. tt))

one_number : (names : List (List ℕ)) (counts : List (Option ℕ)) (pair : Pair) → list_all is_count counts ≡ true → IfOk (number_step names counts pair) (λ c. list_all is_count c ≡ true)
one_number names counts pair h =
    after (λ c. list_all is_count c ≡ true) (known_key 30 names pair.key) (λ i. member_count pair.value >>= λ n. Ok (slice_set counts i (Some n)))
    (λ i. then_if (λ n. nat_le n 4096 ≡ true) (λ c. list_all is_count c ≡ true) (member_count pair.value) (λ n. Ok (slice_set counts i (Some n))) (member_count_fits pair.value)
    (λ n small. set_keeps is_count counts i (Some n) h small))

none_fit : (n : ℕ) → list_all is_count (replicate n None) ≡ true
none_fit zero = refl
none_fit (suc n) = none_fit n

counts_fit : (names : List (List ℕ)) (tree : Option Tree) → IfOk (counts_of names tree) (λ c. list_all is_count c ≡ true)
counts_fit names tree =
    after (λ c. list_all is_count c ≡ true) (entries_or_none tree) (λ entries. each (number_step names) (replicate (length names) None) entries)
    (λ entries. each_keeps (λ c. list_all is_count c ≡ true) (number_step names) entries (replicate (length names) None) (one_number names) (none_fit (length names)))

-- ---- both

new_front : (before xs ys : List (List ℕ)) → are_new before (xs ++ ys) ≡ true → are_new before xs ≡ true
new_front before [] ys e = refl
new_front before (x ∷ xs) ys e =
    both (not (is_among before x)) (are_new (before ++ x ∷ []) xs) (first _ _ e) (new_front (before ++ x ∷ []) xs ys (second _ _ e))

fit : (objects : List ObjectType) → length objects ≤ 1024 → list_all is_small_object objects ≡ true → are_new [] (object_names objects) ≡ true → FitObjects objects
fit objects few small new =
    let few_test : has_most 1024 objects ≡ true = grind (arith, nat_tests) in
    record { few = few_test; small = small; different = new }

given_fits : (at : Place) (names : List (List ℕ)) (counts : List (Option ℕ)) (done : List ObjectType) → list_all is_name names ≡ true → list_all is_count counts ≡ true → list_all is_small_object done ≡ true → are_new [] (object_names done ++ names) ≡ true → length done + length names ≤ 1024 → IfOk (each (given_step at) done (zip names counts)) FitObjects
given_fits at [] counts done good small fits new few =
    fit done (omega arith) fits (new_front [] (object_names done) [] new)
given_fits at (n ∷ ns) [] done good small fits new few =
    fit done (omega arith) fits (new_front [] (object_names done) (n ∷ ns) new)
given_fits at (n ∷ ns) (None ∷ counts) done good small fits new few = tt
given_fits at (n ∷ ns) (Some k ∷ counts) done good small fits new few =
    let o : ObjectType = record { name = n; count = k } in
    let object : is_small_object o ≡ true = both (is_name n) (nat_le k 4096) (first (is_name n) (list_all is_name ns) good) (first (nat_le k 4096) (list_all is_count counts) small) in
    let names : object_names (done ++ o ∷ []) ++ ns ≡ object_names done ++ (n ∷ ns) = ap (λ (xs : List (List ℕ)). xs ++ ns) (map-append (λ (o : ObjectType). o.name) done (o ∷ [])) ∙ append_assoc (object_names done) (n ∷ []) ns in
    let length_is : length (done ++ o ∷ []) ≡ length done + 1 = length-append done (o ∷ []) in
    given_fits at ns counts (done ++ o ∷ [])
    (second (is_name n) (list_all is_name ns) good) (second (nat_le k 4096) (list_all is_count counts) small)
    (all_push is_small_object done o fits object)
    (rw names new) (omega arith)

pub objects_fit : (at : Place) (names numbers : Option Tree) → IfOk (objects_of at names numbers) FitObjects
objects_fit at names numbers =
    then_if FewNames FitObjects (names_of names) (λ words. counts_of words numbers >>= λ counts. each (given_step at) [] (zip words counts)) (names_fit names)
    (λ words fit. then_if (λ c. list_all is_count c ≡ true) FitObjects (counts_of words numbers) (λ counts. each (given_step at) [] (zip words counts)) (counts_fit words numbers)
    (λ counts small. given_fits at words counts [] fit.0.good small refl fit.0.different (omega arith)))
