-- Totals of cells behind a place: of all those whose first arguments lead there.
use Rattle.std.specs.Prelude.{ℕ, ◌+◌, ◌*◌, List, [], ◌∷◌, slice_get, unwrap_or, ℤ, pos, ◌+ℤ◌}
use Rattle.dp_model.specs.Evaluation.{place_from}

-- the place with one more argument, whose count stands first
abbrev pub place_after : ℕ → List ℕ → ℕ → ℕ
place_after place [] member = place
place_after place (count ∷ counts) member = place * count + member

-- the total of the cells that these arguments lead to
abbrev pub total_at : List ℤ → ℕ → List ℕ → List (List ℕ) → ℤ
total_at cells place counts [] = pos 0
total_at cells place counts (members ∷ rest) = unwrap_or (slice_get cells (place_from place counts members)) (pos 0) +ℤ total_at cells place counts rest
