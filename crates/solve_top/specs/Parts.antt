-- The lines that tell the parts of a model before all others: its dual bounds and preferences, each with whether it is proved.
use Rattle.std.specs.Prelude.{◌≡◌, ℕ, Bool, true, false, List, [], ◌++◌, Option, Some, None, codes, decimal}
use Rattle.std.specs.List.{flat_map}
use Rattle.dp_base.specs.Bytes.{line}
use Rattle.dp_model.specs.declared.whole.Model.{Model}
use Rattle.kept_claims.specs.Searched.{IsSearched}
use Rattle.kept_model.specs.Parts.{parts_of}
use Rattle.kept_model.specs.declared.kept.Kept.{Kept}
use Rattle.kept_model.specs.declared.parts.Part.{Part}
use Rattle.kept_model.specs.declared.parts.PartName.{PartName}
use Rattle.kept_model.specs.declared.parts.PartName.TheVariants.{Bound, Preference}
use Rattle.solve_top.specs.declared.proving.Searched.{Searched}

-- a part is proved, or nothing is said of it
abbrev pub proved_text : Bool → List ℕ
proved_text true = codes " proved"
proved_text false = codes " open"

abbrev pub part_line : PartName → (proved : Bool) → List ℕ
part_line (Bound number) proved = line (codes "bound " ++ (decimal number ++ proved_text proved))
part_line (Preference name) proved = line (codes "preference " ++ (name ++ proved_text proved))

abbrev pub part_lines : List Part → List ℕ
part_lines parts = flat_map (λ (p : Part). part_line p.name p.kept) parts

-- what is printed of the parts of a model: nothing where all of them are believed
abbrev pub parts_text : Model → (proved : Option Kept) → List ℕ
parts_text m None = []
parts_text m (Some kept) = part_lines (parts_of m kept)

-- what is searched or checked of a model, with the parts whose lines are printed before
abbrev pub ServesFor : Model → (asked : Bool) → Searched → Type 0
ServesFor m asked s = (proved : Option Kept) × IsSearched m asked proved s.model × (part_lines s.parts.items ≡ parts_text m proved)
