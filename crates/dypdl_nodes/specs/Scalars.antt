-- Nodes that must be scalars: texts, whole numbers, indices, truth values.
use Rattle.std.specs.Prelude.{ℕ, Bool, true, false, ◌&&◌, ◌||◌, nat_lt, if◌then◌else◌, List, length, codes, Option, None, Some, Ok, ℤ, pos, negsuc, neg_ℤ, int_le}
use Rattle.std.specs.Str.{bytes_eq, all_ascii_digits}
use Rattle.std.specs.Str.Parse.{without_leading_sign, signed_digits_value}
use Rattle.dp_base.specs.Results.{◌>>=◌}
use Rattle.dp_model.specs.Costs.{greatest}
use Rattle.yaml_tree.specs.declared.tree.Tree.{Tree}
use Rattle.yaml_tree.specs.Fields.{tree_place, scalar_text}
use Rattle.dypdl_nodes.specs.Reads.{Reads, refuse, or_refuse}

-- the text of what must be a scalar
abbrev pub text_of : Tree → Reads (List ℕ)
text_of tree = or_refuse 50 (tree_place tree) (scalar_text tree)

-- ---- numbers

-- an optional sign and one or more digits
abbrev pub writes_number : List ℕ → Bool
writes_number text = nat_lt 0 (length (without_leading_sign text)) && all_ascii_digits (without_leading_sign text)

-- the whole number that a text writes, where it lies between two bounds
abbrev pub number_written : (least most : ℤ) → List ℕ → Option ℤ
number_written least most text =
    if writes_number text && (int_le least (signed_digits_value 10 text) && int_le (signed_digits_value 10 text) most) then Some (signed_digits_value 10 text) else None

-- a whole number between two bounds: another one is refused as what is no whole number
abbrev pub number_between : (least most : ℤ) → Tree → Reads ℤ
number_between least most tree = text_of tree >>= λ text. or_refuse 42 (tree_place tree) (number_written least most text)

-- a whole number of a model
abbrev pub number_of : Tree → Reads ℤ
number_of tree = number_between (neg_ℤ greatest) greatest tree

-- a number as a count
abbrev pub as_count : ℤ → ℕ
as_count (pos n) = n
as_count (negsuc n) = 0

-- a whole number of a model that is not negative
abbrev pub count_of : Tree → Reads ℕ
count_of tree = number_between (pos 0) greatest tree >>= λ n. Ok (as_count n)

-- the number of a member of an object type with this count
abbrev pub index_of : (count : ℕ) → Tree → Reads ℕ
index_of count tree = count_of tree >>= λ i. if nat_lt i count then Ok i else refuse 44 (tree_place tree)

-- ---- truth values

abbrev pub truth_written : List ℕ → Option Bool
truth_written text =
    if bytes_eq text (codes "true") || (bytes_eq text (codes "True") || bytes_eq text (codes "TRUE")) then Some true
    else (if bytes_eq text (codes "false") || (bytes_eq text (codes "False") || bytes_eq text (codes "FALSE")) then Some false
    else None)

abbrev pub truth_of : Tree → Reads Bool
truth_of tree = text_of tree >>= λ text. or_refuse 50 (tree_place tree) (truth_written text)

-- the truth value of a key, false where it is missing
abbrev pub truth_or_false : Option Tree → Reads Bool
truth_or_false None = Ok false
truth_or_false (Some tree) = truth_of tree
