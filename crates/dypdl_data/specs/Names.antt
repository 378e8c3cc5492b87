-- Names of object types, variables, tables, parameters and transitions, and names that are known.
use Rattle.std.specs.Prelude.{ℕ, Bool, false, not, ◌&&◌, ◌==◌, if◌then◌else◌, List, [], ◌∷◌, reverse, position, Option, option_and_then, Ok}
use Rattle.std.specs.List.{list_all}
use Rattle.std.specs.Str.{bytes_eq}
use Rattle.dp_base.specs.Results.{◌>>=◌}
use Rattle.dp_model.specs.Limits.{is_name}
use Rattle.yaml_tree.specs.declared.tree.Tree.{Tree}
use Rattle.yaml_tree.specs.Fields.{tree_place, scalar_text}
use Rattle.dypdl_expr.specs.Tokens.{is_inner, has_control}
use Rattle.dypdl_words.specs.Words.{begins_number, is_reserved}
use Rattle.dypdl_nodes.specs.Reads.{Reads, refuse, or_refuse}
use Rattle.dypdl_nodes.specs.Shapes.{is_among}
use Rattle.dypdl_nodes.specs.Scalars.{text_of}

-- A name of an object type, a variable, a table or a parameter is one word of an expression, which does not begin as a
-- number and is not reserved. It has 1 to 200 bytes.
abbrev pub is_word_name : List ℕ → Bool
is_word_name word = is_name word && (list_all is_inner word && (not (has_control word) && (not (begins_number word) && not (is_reserved word))))

abbrev pub begins_with_space : List ℕ → Bool
begins_with_space [] = false
begins_with_space (byte ∷ bytes) = byte == 32

-- A transition's name is a text of 1 to 200 bytes, without control characters and with no space at its ends.
abbrev pub is_transition_name : List ℕ → Bool
is_transition_name text = is_name text && (not (has_control text) && (not (begins_with_space text) && not (begins_with_space (reverse text))))

-- a text that passes a test of names
abbrev pub name_by : (List ℕ → Bool) → Tree → Reads (List ℕ)
name_by test tree = text_of tree >>= λ text. if test text then Ok text else refuse 51 (tree_place tree)

-- a name that none of these is
abbrev pub new_name : (taken : List (List ℕ)) → Tree → Reads (List ℕ)
new_name taken tree = name_by is_word_name tree >>= λ word. if is_among taken word then refuse 43 (tree_place tree) else Ok word

-- the number of the first of these names that a scalar is
abbrev pub number_named : (names : List (List ℕ)) → List ℕ → Option ℕ
number_named names word = position (bytes_eq word) names

-- the number of a name that is one of these: another name is unknown, and a list or a map is no name
abbrev pub known_name : (names : List (List ℕ)) → Tree → Reads ℕ
known_name names tree = text_of tree >>= λ word. or_refuse 30 (tree_place tree) (number_named names word)

-- the number of a key that is one of these names: a list is no key here, as an unknown name is none
abbrev pub known_key : (number : ℕ) → (names : List (List ℕ)) → Tree → Reads ℕ
known_key number names key = or_refuse number (tree_place key) (option_and_then (number_named names) (scalar_text key))
