-- Texts in a set, as lists of bytes.
use Rattle.std.proofs.Common.{◌≡◌, ℕ, String, Global, string_bytes, map, Bool, ◌||◌, List, [], ◌∷◌, refl, ap}
use Rattle.std.specs.List.{list_any}
use Rattle.std.specs.Str.{bytes_eq}
use Rattle.dypdl_nodes.specs.Shapes.{is_among}

any_strings : (p : List ℕ → Bool) (ws : List (String Global)) → list_any p (map string_bytes ws) ≡ list_any (λ w. p (string_bytes w)) ws
any_strings p [] = refl
any_strings p (w ∷ ws) = ap (λ (b : Bool). p (string_bytes w) || b) (any_strings p ws)

pub among_strings : (ws : List (String Global)) (word : List ℕ) → is_among (map string_bytes ws) word ≡ list_any (λ w. bytes_eq word (string_bytes w)) ws
among_strings ws word = any_strings (bytes_eq word) ws
