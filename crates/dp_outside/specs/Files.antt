-- Files as a list of a name and bytes each, as a shelf in memory has them.
use Rattle.std.specs.Prelude.{ℕ, List, [], ◌∷◌, Option, Some, None, if◌then◌else◌, unwrap_or}
use Rattle.std.specs.Str.{bytes_eq}

-- the bytes of the first file of the name
abbrev pub file_under : List (List ℕ × List ℕ) → List ℕ → Option (List ℕ)
file_under [] name = None
file_under (file ∷ files) name = if bytes_eq file.0 name then Some file.1 else file_under files name

-- the same, and no bytes where no file has the name
abbrev pub bytes_or_none : List (List ℕ × List ℕ) → List ℕ → Option (List ℕ)
bytes_or_none files name = Some (unwrap_or (file_under files name) [])
