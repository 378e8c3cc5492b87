-- Where a line may be cut, and which lines have content.
use Rattle.std.proofs.Common.{◌≡◌, ℕ, zero, suc, ◌<◌, ◌≤◌, Bool, true, false, List, [], ◌∷◌, length, drop, get_or, None, Some, IsCharBoundary, IsUtf8, refl, sym, ap, ◌∙◌, arith, add-one, subst}
use Rattle.std.specs.List.{slice_get, prefix_len}
use Rattle.std.proofs.lemmas.List.Sums.{prefix_len-le-length, prefix_len_passes}
use Rattle.std.proofs.lemmas.Str.{IsCharBoundary-start, IsCharBoundary-after_ascii}
use Rattle.std.proofs.lemmas.Bool.{cond-true, cond-false, eqb-true}
use Rattle.std.proofs.lemmas.Option.{same_Some}
use Rattle.std.proofs.lemmas.Bool.Decides.{nat_tests}
use Rattle.dp_base.specs.Bytes.{is_blank}
use Rattle.yaml_tree.specs.Rest.{Row}
use Rattle.yaml_tree.specs.Characters.{begins}
use Rattle.yaml_tree.specs.Lines.{has_content, from_content}

-- A text may be cut behind its first bytes that pass a test which only bytes of ASCII pass.
pub IsCharBoundary-prefix_len : (p : ℕ → Bool) → ((byte : ℕ) → p byte ≡ true → byte < 128) → (text : List ℕ) → IsUtf8 text → IsCharBoundary text (prefix_len p text)
IsCharBoundary-prefix_len p low text utf8 = at_count (prefix_len p text) refl where
  at_count : (n : ℕ) → n ≡ prefix_len p text → IsCharBoundary text n
  at_count zero e = IsCharBoundary-start text utf8
  at_count (suc n) e =
      let P : ℕ → Type 0 = λ k. IsCharBoundary text k in
      subst P (add-one n) (IsCharBoundary-after_ascii text n utf8 (omega (arith, prefix_len-le-length p text)) (low (get_or text n 0) (prefix_len_passes p text n 0 (omega arith))))

pub below-blank : (byte : ℕ) → is_blank byte ≡ true → byte < 128
below-blank byte blank = grind (arith, nat_tests)

pub IsCharBoundary-blanks : (text : List ℕ) → IsUtf8 text → IsCharBoundary text (prefix_len is_blank text)
IsCharBoundary-blanks text utf8 = IsCharBoundary-prefix_len is_blank below-blank text utf8

-- A text may be cut where it ends or a byte of ASCII follows.
pub IsCharBoundary-before : (text : List ℕ) (n : ℕ) → n ≤ length text → (n < length text → get_or text n 0 < 128) → IsCharBoundary text n
IsCharBoundary-before text n within low = (within, λ inside high. absurd (omega (arith, low inside)))

-- It may be cut behind a first byte of ASCII.
pub begins-length : (byte : ℕ) (text : List ℕ) → begins byte text ≡ true → 1 ≤ length text
begins-length byte [] e = absurd cc
begins-length byte (first ∷ text) e = omega arith

pub begins-first : (byte : ℕ) (text : List ℕ) → begins byte text ≡ true → get_or text 0 0 ≡ byte
begins-first byte [] e = absurd cc
begins-first byte (first ∷ text) e = eqb-true first byte e

pub IsCharBoundary-behind : (byte : ℕ) (text : List ℕ) → begins byte text ≡ true → byte < 128 → IsUtf8 text → IsCharBoundary text 1
IsCharBoundary-behind byte text e low utf8 = IsCharBoundary-after_ascii text 0 utf8 (begins-length byte text e) (omega (arith, begins-first byte text e))

pub from_content-here : (rows : List Row) (row : Row) → slice_get rows 0 ≡ Some row → has_content row ≡ true → from_content rows ≡ rows
from_content-here [] row at_first full = cc
from_content-here (first ∷ rows) row at_first full =
    cond-true (has_content first) (first ∷ rows) (from_content rows) (ap has_content (same_Some first row at_first) ∙ full)

pub from_content-past : (rows : List Row) (row : Row) → slice_get rows 0 ≡ Some row → has_content row ≡ false → from_content (drop 1 rows) ≡ from_content rows
from_content-past [] row at_first clear = refl
from_content-past (first ∷ rows) row at_first clear =
    sym (cond-false (has_content first) (first ∷ rows) (from_content rows) (ap has_content (same_Some first row at_first) ∙ clear))

pub from_content-none : (rows : List Row) → slice_get rows 0 ≡ None → from_content rows ≡ rows
from_content-none [] none = refl
from_content-none (first ∷ rows) none = cc

-- lines of which the first is known
pub rows-first : (rows : List Row) (row : Row) → slice_get rows 0 ≡ Some row → rows ≡ row ∷ drop 1 rows
rows-first [] row at_first = absurd cc
rows-first (first ∷ rows) row at_first = ap (λ (x : Row). x ∷ rows) (same_Some first row at_first)

pub rows-none : (rows : List Row) → slice_get rows 0 ≡ None → rows ≡ []
rows-none [] none = refl
rows-none (first ∷ rows) none = absurd cc
