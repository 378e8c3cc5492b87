-- Totals of cells behind a place: of all those whose first arguments lead there.
use Rattle.std.specs.Prelude.{ℕ, zero, suc, ◌+◌, ◌*◌, Bool, List, [], ◌∷◌, drop, slice_get, unwrap_or, ℤ, pos, ◌+ℤ◌, ◌*ℤ◌}
use Rattle.dp_model.specs.Evaluation.{place_from, ways}
use Rattle.poly_terms.specs.Worth.{as_bit}

-- the place with one more argument, whose count stands first
abbrev pub place_after : ℕ → List ℕ → ℕ → ℕ
place_after place [] member = place
place_after place (count ∷ counts) member = place * count + member

-- the total of the cells that these arguments lead to
abbrev pub total_at : List ℤ → ℕ → List ℕ → List (List ℕ) → ℤ
total_at cells place counts [] = pos 0
total_at cells place counts (members ∷ rest) = unwrap_or (slice_get cells (place_from place counts members)) (pos 0) +ℤ total_at cells place counts rest

-- the sum of numbers at those of the first places where a test holds
abbrev pub part_of : ℕ → (ℕ → Bool) → (ℕ → ℤ) → ℤ
part_of zero test f = pos 0
part_of (suc n) test f = part_of n test f +ℤ as_bit (test n) *ℤ f n

-- the total behind one more argument, for each member
abbrev pub behind : List ℤ → ℕ → List ℕ → List (List ℕ) → ℕ → ℤ
behind cells place counts sets member = total_at cells (place_after place counts member) (drop 1 counts) (ways sets)
