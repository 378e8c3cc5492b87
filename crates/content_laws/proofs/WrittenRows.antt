-- Rows that lines of a text give, and turns that are taken over them.
use Rattle.std.proofs.Common.{◌≡◌, ℕ, ◌<◌, true, false, List, [], ◌∷◌, ◌++◌, map, Ok, ◌⊎◌, inl, inr, refl, sym, ap, subst, append_assoc, arith}
use Rattle.std.proofs.lemmas.Bool.{cond-true, cond-false}
use Rattle.std.proofs.lemmas.List.{append-nil}
use Rattle.yaml_tree.specs.Rest.{Row, Rest}
use Rattle.yaml_tree.specs.Characters.{is_item}
use Rattle.yaml_tree.specs.Lines.{has_content, from_content, is_marker}
use Rattle.yaml_tree.specs.Repeats.{Turn, More, Last, InTurn, Repeats}
use Rattle.content_laws.specs.BlockWriting.{Line}

-- the row that a line gives
pub record IsRow (row : Row) (line : Line) : Type 0 where
  pub indent : row.indent ≡ line.0
  pub text : row.text ≡ line.1
  pub content : has_content row ≡ true
  pub no_marker : is_marker row ≡ false

abbrev pub FirstIs : (Others : List Line → Type 0) → Row → List Line → Type 0
FirstIs Others row [] = ⊥
FirstIs Others row (line ∷ lines) = IsRow row line × Others lines

-- These rows give these lines, and others give none: they have no content.
abbrev pub AreRows : List Row → List Line → Type 0
AreRows [] [] = Unit {0}
AreRows [] (line ∷ lines) = ⊥
AreRows (row ∷ rows) lines = ((has_content row ≡ false) × AreRows rows lines) ⊎ FirstIs (AreRows rows) row lines

-- the first row and the others
pub record FirstRow (rows : List Row) (line : Line) (lines : List Line) : Type 0 where
  pub row : Row
  pub others : List Row
  pub is : rows ≡ row ∷ others
  pub row_is : IsRow row line
  pub others_are : AreRows others lines

-- rows that begin with the first line
abbrev pub Stands : List Row → List Line → Type 0
Stands rows [] = rows ≡ []
Stands rows (line ∷ lines) = FirstRow rows line lines

pub settle_rows : (rows : List Row) (lines : List Line) → AreRows rows lines → Stands (from_content rows) lines
settle_rows [] [] are = refl
settle_rows [] (line ∷ lines) are = absurd are
settle_rows (row ∷ rows) lines (inl past) = subst (λ (rs : List Row). Stands rs lines) (sym (cond-false (has_content row) _ _ past.0)) (settle_rows rows lines past.1)
settle_rows (row ∷ rows) [] (inr none) = absurd none
settle_rows (row ∷ rows) (line ∷ lines) (inr first) = record { row = row; others = rows; is = cond-true (has_content row) _ _ first.0.content; row_is = first.0; others_are = first.1 }

-- ---- turns

module _ {A S C : Type 0} (code : A → C) (OneTurn : List A → S → Turn A S → Type 0) (Left : Rest → Type 0) where
  -- these are read in turns, and what is left passes a test
  pub record InTurns (before : List A) (xs : List A) (from : S) : Type 0 where
    pub read : List A
    pub at : S
    pub last : A
    pub left : Rest
    pub in_turn : InTurn OneTurn before from read at
    pub ends : OneTurn (before ++ read) at (Last (last ∷ []) left)
    pub fine : Left left
    pub same : map code xs ≡ map code (read ++ last ∷ [])

  pub last_turn : (before : List A) (x read : A) (from : S) (left : Rest) → OneTurn before from (Last (read ∷ []) left) → Left left → code x ≡ code read → InTurns before (x ∷ []) from
  last_turn before x read from left turn fine same = record {
    read = [];
    at = from;
    last = read;
    left = left;
    in_turn = refl;
    ends = subst (λ (l : List A). OneTurn l from (Last (read ∷ []) left)) (sym (append-nil before)) turn;
    fine = fine;
    same = ap (λ (c : C). c ∷ []) same;
  }

  pub more_turns : (before : List A) (x read : A) (xs : List A) (from next : S) → OneTurn before from (More read next) → code x ≡ code read → InTurns (before ++ read ∷ []) xs next → InTurns before (x ∷ xs) from
  more_turns before x read xs from next turn same later = record {
    read = read ∷ later.read;
    at = later.at;
    last = later.last;
    left = later.left;
    in_turn = (next, turn, later.in_turn);
    ends = subst (λ (l : List A). OneTurn l later.at (Last (later.last ∷ []) later.left)) (append_assoc before (read ∷ []) later.read) later.ends;
    fine = later.fine;
    same = λ i. same i ∷ later.same i;
  }

  pub all_turns : (xs : List A) (from : S) (turns : InTurns [] xs from) → Repeats OneTurn from (Ok (turns.read ++ turns.last ∷ [], turns.left))
  all_turns xs from turns = record { read = turns.read; at = turns.at; end = Last (turns.last ∷ []) turns.left; in_turn = turns.in_turn; last = turns.ends; ends = refl }

-- ---- where a list or a map ends

-- No line stands as deep.
abbrev pub Under : (indent : ℕ) → List Line → Type 0
Under indent [] = Unit {0}
Under indent (line ∷ lines) = line.0 < indent

-- or the first is no item of a list that stands so deep
abbrev pub UnderOrKey : (indent : ℕ) → List Line → Type 0
UnderOrKey indent [] = Unit {0}
UnderOrKey indent (line ∷ lines) = (line.0 < indent) ⊎ ((line.0 ≡ indent) × (is_item line.1 ≡ false))

pub under_or_key : (indent : ℕ) (lines : List Line) → Under indent lines → UnderOrKey indent lines
under_or_key indent [] under = tt
under_or_key indent (line ∷ lines) under = inl under

pub under_deeper : (indent deeper : ℕ) (lines : List Line) → indent < deeper → UnderOrKey indent lines → Under deeper lines
under_deeper indent deeper [] lt under = tt
under_deeper indent deeper (line ∷ lines) lt (inl under) = omega arith
under_deeper indent deeper (line ∷ lines) lt (inr same) = omega (arith, same.0)
