-- The files of a run, which are numbered from 1 on, and their texts.
use Rattle.std.specs.Prelude.{◌≡◌, ℕ, ◌+◌, ◌≤◌, ◌<◌, ◌⊎◌, List, [], ◌∷◌, length, Option, IfSome}

-- a file is read up to 16,777,216 bytes
abbrev pub IsShort : List ℕ → Type 0
IsShort bytes = length bytes ≤ 16777216

abbrev pub IsLong : List ℕ → Type 0
IsLong bytes = 16777216 < length bytes

-- the bytes of a file, where the shelf tells them
abbrev pub IsText : Option (List ℕ) → List ℕ → Type 0
IsText told bytes = IfSome told (λ t. bytes ≡ t)

-- The file of this number is one of these, whose numbers begin with the first. The files before it are short, where the
-- shelf tells them, and P holds of what it tells of this one.
abbrev pub AtFile : (List ℕ → Option (List ℕ)) → (first : ℕ) → (names : List (List ℕ)) → (file : ℕ) → (Option (List ℕ) → Type 0) → Type 0
AtFile files first [] file P = ⊥
AtFile files first (name ∷ names) file P = ((file ≡ first) × P (files name)) ⊎ (IfSome (files name) IsShort × AtFile files (first + 1) names file P)

-- these files may be read up to this one
abbrev pub IsReached : (List ℕ → Option (List ℕ)) → (names : List (List ℕ)) → (file : ℕ) → Type 0
IsReached files names file = AtFile files 1 names file (λ told. Unit {0})

-- this file is the first that is too long, where the shelf tells its bytes
abbrev pub IsFirstLong : (List ℕ → Option (List ℕ)) → (names : List (List ℕ)) → (file : ℕ) → Type 0
IsFirstLong files names file = AtFile files 1 names file (λ told. IfSome told IsLong)

-- the texts of the files of these names, each of them short
abbrev pub AreTexts : (List ℕ → Option (List ℕ)) → (names texts : List (List ℕ)) → Type 0
AreTexts files [] [] = Unit {0}
AreTexts files (name ∷ names) (text ∷ texts) = IsText (files name) text × IsShort text × AreTexts files names texts
AreTexts files [] (text ∷ texts) = ⊥
AreTexts files (name ∷ names) [] = ⊥

-- all files are short, and the fact holds of their texts
abbrev pub OfTexts : (List ℕ → Option (List ℕ)) → (names : List (List ℕ)) → (List (List ℕ) → Type 0) → Type 0
OfTexts files names P = (texts : List (List ℕ)) × AreTexts files names texts × P texts
