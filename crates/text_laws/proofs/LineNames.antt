-- The names of the variables of a model that two trees mean are lines.
use Rattle.std.proofs.Common.{◌≡◌, ℕ, ◌&&◌, ◌||◌, ◌==◌, Bool, true, false, not, List, [], ◌∷◌, ◌++◌, codes, Ok, Err, refl, subst}
use Rattle.std.specs.Prelude.{IfOk, if◌then◌else◌}
use Rattle.std.specs.List.{list_all}
use Rattle.std.proofs.lemmas.Bool.{and_parts}
use Rattle.dp_base.specs.Results.{each}
use Rattle.dp_model.specs.Limits.{is_name}
use Rattle.dp_model.specs.declared.parts.ObjectType.{ObjectType}
use Rattle.dp_model.specs.declared.parts.Variable.{Variable}
use Rattle.yaml_tree.specs.Fields.{tree_place, value_in}
use Rattle.yaml_tree.specs.declared.tree.Tree.{Tree}
use Rattle.dypdl_expr.specs.Tokens.{is_inner, has_control}
use Rattle.dypdl_words.specs.Words.{begins_number, is_reserved}
use Rattle.dypdl_nodes.specs.Reads.{Reads, refuse}
use Rattle.dypdl_nodes.specs.Scalars.{text_of}
use Rattle.dypdl_nodes.specs.Shapes.{few_items, is_among, keyed, needed}
use Rattle.dypdl_data.specs.Names.{is_word_name, name_by, new_name}
use Rattle.dypdl_data.specs.Objects.{object_names}
use Rattle.dypdl_data.specs.Variables.{kind_of, preference_of, variable_keys, variable_names, variable_of, variable_step, variables_of}
use Rattle.dypdl_data.proofs.Steps.{after, all_push, each_keeps, if_allowed, then_if}
use Rattle.dypdl_load.specs.Meaning.{Parts, parts_of}
use Rattle.content_laws.proofs.Meanings.{meaning_steps}
use Rattle.cert_text.specs.ReadBack.{is_line}
use Rattle.text_laws.specs.Records.{LawLineNames}
use Rattle.text_laws.proofs.Certificates.{passes_at}
use Rattle.text_laws.proofs.Numbers.{all_weaker}

-- a byte of a word is inside a line
inner_line : (byte : ℕ) → is_inner byte ≡ true → not (byte == 10 || byte == 13) ≡ true
inner_line byte h = by (byte == 32) (byte == 9) (byte == 10) (byte == 13) (byte == 40 || byte == 41 || byte == 124) h
  where
    by : (space tab ten thirteen mark : Bool) → not ((space || tab || ten || thirteen) || mark) ≡ true → not (ten || thirteen) ≡ true
    by space tab false false mark h = refl
    by true tab ten thirteen mark h = absurd (cc h)
    by false true ten thirteen mark h = absurd (cc h)
    by false false true thirteen mark h = absurd (cc h)
    by false false false true mark h = absurd (cc h)

word_line : (word : List ℕ) → is_word_name word ≡ true → is_line word ≡ true
word_line word h =
    all_weaker is_inner (λ byte. not (byte == 10 || byte == 13)) inner_line word
    (and_parts (list_all is_inner word) (not (has_control word) && (not (begins_number word) && not (is_reserved word))) (and_parts (is_name word) (list_all is_inner word && (not (has_control word) && (not (begins_number word) && not (is_reserved word)))) h).1).0

by_line : (tree : Tree) → IfOk (name_by is_word_name tree) (λ (word : List ℕ). is_line word ≡ true)
by_line tree =
    after (λ (word : List ℕ). is_line word ≡ true) (text_of tree) (λ text. if is_word_name text then Ok text else refuse 51 (tree_place tree)) (λ text.
    if_allowed (λ (word : List ℕ). is_line word ≡ true) (is_word_name text) (Ok text) (refuse 51 (tree_place tree)) (λ is. word_line text is) (λ no. tt))

name_line : (taken : List (List ℕ)) (tree : Tree) → IfOk (new_name taken tree) (λ (name : List ℕ). is_line name ≡ true)
name_line taken tree =
    then_if (λ (word : List ℕ). is_line word ≡ true) (λ (name : List ℕ). is_line name ≡ true) (name_by is_word_name tree) (λ word. if is_among taken word then refuse 43 (tree_place tree) else Ok word) (by_line tree)
    (λ word is. if_allowed (λ (name : List ℕ). is_line name ≡ true) (is_among taken word) (refuse 43 (tree_place tree)) (Ok word) (λ no. tt) (λ new. is))

abbrev has_line : Variable → Bool
has_line v = is_line v.name

variable_line : (objects : List ObjectType) (taken : List (List ℕ)) (item : Tree) → IfOk (variable_of objects taken item) (λ (v : Variable). has_line v ≡ true)
variable_line objects taken item =
    after (λ (v : Variable). has_line v ≡ true) (keyed variable_keys item) _ (λ entries.
    after (λ (v : Variable). has_line v ≡ true) (needed (tree_place item) entries (codes "name")) _ (λ name_tree.
    after (λ (v : Variable). has_line v ≡ true) (needed (tree_place item) entries (codes "type")) _ (λ kind_tree.
    then_if (λ (name : List ℕ). is_line name ≡ true) (λ (v : Variable). has_line v ≡ true) (new_name taken name_tree) _ (name_line taken name_tree) (λ name is.
    after (λ (v : Variable). has_line v ≡ true) (kind_of objects (tree_place item) entries kind_tree) _ (λ kind.
    after (λ (v : Variable). has_line v ≡ true) (preference_of kind (value_in (codes "preference") entries)) (λ preference. Ok (record { name = name; kind = kind; preference = preference })) (λ preference. is))))))

one_line : (objects : List ObjectType) (done : List Variable) (item : Tree) → list_all has_line done ≡ true → IfOk (variable_step objects done item) (λ (vs : List Variable). list_all has_line vs ≡ true)
one_line objects done item h =
    then_if (λ (v : Variable). has_line v ≡ true) (λ (vs : List Variable). list_all has_line vs ≡ true) (variable_of objects (object_names objects ++ variable_names done) item) (λ v. Ok (done ++ v ∷ [])) (variable_line objects (object_names objects ++ variable_names done) item)
    (λ v is. all_push has_line done v h is)

all_lines : (objects : List ObjectType) (tree : Tree) → IfOk (variables_of objects tree) (λ (vs : List Variable). list_all has_line vs ≡ true)
all_lines objects tree =
    after (λ (vs : List Variable). list_all has_line vs ≡ true) (few_items 1024 tree) (λ items. each (variable_step objects) [] items)
    (λ items. each_keeps (λ (vs : List Variable). list_all has_line vs ≡ true) (variable_step objects) items [] (one_line objects) refl)

taken_out : (r : Reads (List Variable)) (vs : List Variable) → r ≡ Ok vs → IfOk r (λ (vs : List Variable). list_all has_line vs ≡ true) → list_all has_line vs ≡ true
taken_out (Ok xs) vs e h = let same : xs ≡ vs = cc in subst (λ (ys : List Variable). list_all has_line ys ≡ true) same h
taken_out (Err end) vs e h = absurd (cc)

pub line_names : LawLineNames
line_names read domain problem m means =
    let s = meaning_steps read domain problem (parts_of m) means in
    let tree = s.settings.domain.needed in
    let all = taken_out (variables_of s.declared.objects tree) s.declared.variables s.is_declared.variables (all_lines s.declared.objects tree) in
    let lines : list_all has_line m.variables ≡ true = subst (λ (x : Parts). list_all has_line x.variables ≡ true) s.whole all in
    λ i v at. passes_at has_line m.variables i v lines at
