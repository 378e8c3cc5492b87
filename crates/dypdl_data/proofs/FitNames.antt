-- Names that are read are names, and new.
use Rattle.std.proofs.Common.{◌≡◌, ℕ, true, false, not, if◌then◌else◌, List, [], ◌∷◌, ◌++◌, Ok, IfOk, refl, ap, append_assoc}
use Rattle.std.proofs.lemmas.List.{append-nil}
use Rattle.dp_model.specs.Limits.{is_name}
use Rattle.yaml_tree.specs.declared.tree.Tree.{Tree}
use Rattle.yaml_tree.specs.Fields.{tree_place}
use Rattle.dypdl_nodes.specs.Reads.{refuse}
use Rattle.dypdl_nodes.specs.Shapes.{is_among}
use Rattle.dypdl_nodes.specs.Scalars.{text_of}
use Rattle.dypdl_data.specs.Names.{is_word_name, name_by, new_name}
use Rattle.dypdl_data.specs.Laws.{are_new}
use Rattle.dypdl_data.proofs.Steps.{after, then_if, if_allowed, both, first, second}

pub record IsNew (taken : List (List ℕ)) (word : List ℕ) : Type 0 where
  pub name : is_name word ≡ true
  pub fresh : is_among taken word ≡ false

named : (tree : Tree) → IfOk (name_by is_word_name tree) (λ word. is_name word ≡ true)
named tree =
    after (λ word. is_name word ≡ true) (text_of tree) (λ text. if is_word_name text then Ok text else refuse 51 (tree_place tree))
    (λ text. if_allowed (λ word. is_name word ≡ true) (is_word_name text) (Ok text) (refuse 51 (tree_place tree)) (λ e. first (is_name text) _ e) (λ e. tt))

pub new_is_new : (taken : List (List ℕ)) (tree : Tree) → IfOk (new_name taken tree) (IsNew taken)
new_is_new taken tree =
    then_if (λ word. is_name word ≡ true) (IsNew taken) (name_by is_word_name tree) (λ word. if is_among taken word then refuse 43 (tree_place tree) else Ok word) (named tree)
    (λ word name. if_allowed (IsNew taken) (is_among taken word) (refuse 43 (tree_place tree)) (Ok word) (λ e. tt) (λ e. record { name = name; fresh = e }))

pub new_push : (before names : List (List ℕ)) (name : List ℕ) → are_new before names ≡ true → is_among (before ++ names) name ≡ false → are_new before (names ++ name ∷ []) ≡ true
new_push before [] name e h =
    let none : is_among before name ≡ false = rw append-nil at h in
    both (not (is_among before name)) true (ap not none) refl
new_push before (n ∷ names) name e h =
    let there : is_among ((before ++ n ∷ []) ++ names) name ≡ false = rw append_assoc h in
    both (not (is_among before n)) (are_new (before ++ n ∷ []) (names ++ name ∷ [])) (first _ _ e) (new_push (before ++ n ∷ []) names name (second _ _ e) there)

pub new_append : (before xs ys : List (List ℕ)) → are_new before xs ≡ true → are_new (before ++ xs) ys ≡ true → are_new before (xs ++ ys) ≡ true
new_append before [] ys e h = rw append-nil at h
new_append before (x ∷ xs) ys e h =
    let more : are_new ((before ++ x ∷ []) ++ xs) ys ≡ true = rw append_assoc h in
    both (not (is_among before x)) (are_new (before ++ x ∷ []) (xs ++ ys)) (first _ _ e) (new_append (before ++ x ∷ []) xs ys (second _ _ e) more)
