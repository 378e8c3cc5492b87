-- Texts behind references.
use Rattle.std.proofs.Common.{◌≡◌, ℕ, ◌+◌, Bool, cond, ◌||◌, List, [], ◌∷◌, ◌++◌, Bor, Option, Some, option_map, slice_get, position, refl, sym, ap, ◌∙◌}
use Rattle.std.proofs.lemmas.Iterator.Adapters.{position_from-zero}
use Rattle.std.proofs.lemmas.List.Folds.{list_any-append}
use Rattle.std.proofs.lemmas.Option.{slice_get-map}
use Rattle.std.specs.List.{list_any, position_from}
use Rattle.std.specs.Str.{bytes_eq}
use Rattle.dypdl_nodes.specs.Shapes.{is_among, texts}

any_texts : (p : List ℕ → Bool) (ws : List (Bor (List ℕ))) → list_any p (texts ws) ≡ list_any (λ w. p w.now) ws
any_texts p [] = refl
any_texts p (w ∷ ws) = ap (λ (b : Bool). p w.now || b) (any_texts p ws)

pub among_texts : (ws : List (Bor (List ℕ))) (word : List ℕ) → is_among (texts ws) word ≡ list_any (λ w. bytes_eq word w.now) ws
among_texts ws word = any_texts (bytes_eq word) ws

from_texts : (p : List ℕ → Bool) (k : ℕ) (ws : List (Bor (List ℕ))) → position_from p k (texts ws) ≡ position_from (λ w. p w.now) k ws
from_texts p k [] = refl
from_texts p k (w ∷ ws) = ap (λ (r : Option ℕ). cond (p w.now) (Some k) r) (from_texts p (k + 1) ws)

pub position_texts : (ws : List (Bor (List ℕ))) (word : List ℕ) → position (bytes_eq word) (texts ws) ≡ position (λ w. bytes_eq word w.now) ws
position_texts ws word = position_from-zero (bytes_eq word) (texts ws) ∙ from_texts (bytes_eq word) 0 ws ∙ sym (position_from-zero (λ (w : Bor (List ℕ)). bytes_eq word w.now) ws)

pub text_at : (ws : List (Bor (List ℕ))) (i : ℕ) → slice_get (texts ws) i ≡ option_map (λ (w : Bor (List ℕ)). w.now) (slice_get ws i)
text_at ws i = slice_get-map (λ (w : Bor (List ℕ)). w.now) ws i

pub among_append : (ws vs : List (List ℕ)) (word : List ℕ) → is_among (ws ++ vs) word ≡ is_among ws word || is_among vs word
among_append ws vs word = list_any-append (bytes_eq word) ws vs
