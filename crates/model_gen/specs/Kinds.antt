-- The kinds of generated models: their names, and how large they may be.
use Rattle.std.specs.Prelude.{ℕ, if◌then◌else◌, List, codes, Option, Some, None}
use Rattle.std.specs.Str.{bytes_eq}
use Rattle.model_gen.specs.declared.kinds.GenKind.{GenKind}
use Rattle.model_gen.specs.declared.kinds.GenKind.TheVariants.{Path, Pack, Tour}

abbrev pub kind_named : List ℕ → Option GenKind
kind_named name =
    if bytes_eq name (codes "path") then Some Path
    else (if bytes_eq name (codes "pack") then Some Pack
    else (if bytes_eq name (codes "tour") then Some Tour else None))

abbrev pub least_size : GenKind → ℕ
least_size Path = 1
least_size Pack = 1
least_size Tour = 2

abbrev pub most_size : GenKind → ℕ
most_size Path = 1000
most_size Pack = 200
most_size Tour = 12
