-- What reading the lines of a file gives.
use Rattle.std.specs.Prelude.{ℕ, Bool, true, false, if◌then◌else◌, nat_lt, List, Option, None, Some, Result, Ok, Err}
use Rattle.dp_base.specs.Results as results
use Rattle.yaml_scan.specs.Lines.{lines_of}
use Rattle.yaml_scan.specs.Faults.{place_of, bad_byte, tab_indent}
use Rattle.yaml_scan.specs.declared.line.Line.{Line}
use Rattle.yaml_scan.specs.declared.line.ScanEnd.{ScanEnd}
use Rattle.yaml_scan.specs.declared.line.ScanEnd.TheVariants.{NotUtf8, TabIndent, Memory}

-- the first of two faults in the file, by their offsets, or else the lines
abbrev pub told : (file : ℕ) → List ℕ → (bad tab : Option ℕ) → Result (List Line) ScanEnd
told file bytes None None = Ok (lines_of bytes)
told file bytes (Some bad) None = Err (NotUtf8 (place_of file bytes bad))
told file bytes None (Some tab) = Err (TabIndent (place_of file bytes tab))
told file bytes (Some bad) (Some tab) = if nat_lt bad tab then Err (NotUtf8 (place_of file bytes bad)) else Err (TabIndent (place_of file bytes tab))

abbrev pub scan : (file : ℕ) → List ℕ → Result (List Line) ScanEnd
scan file bytes = told file bytes (bad_byte bytes) (tab_indent bytes)

-- memory ran out
abbrev pub is_memory : ScanEnd → Bool
is_memory Memory = true
is_memory e = false

-- memory ran out, or P says what was refused
abbrev pub MemoryOr : (ScanEnd → Type 0) → ScanEnd → Type 0
MemoryOr P e = results.MemoryOr is_memory P e
