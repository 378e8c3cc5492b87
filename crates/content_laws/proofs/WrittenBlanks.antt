-- Points behind blanks.
use Rattle.std.proofs.Common.{◌≡◌, ℕ, zero, suc, ◌+◌, Bool, true, false, not, ◌==◌, List, [], ◌∷◌, ◌++◌, drop, Ok, refl, sym, ap, ◌∙◌, arith}
use Rattle.std.specs.List.{prefix_len}
use Rattle.dp_base.specs.Bytes.{is_blank}
use Rattle.yaml_scan.specs.Faults.{is_filled}
use Rattle.yaml_tree.specs.Rest.{Rest, skip_blanks}
use Rattle.yaml_tree.specs.Characters.{is_clear}
use Rattle.yaml_tree.specs.Lines.{flow_point}
use Rattle.content_laws.specs.Writing.{spaces}

-- what stands behind the blanks in front
abbrev pub past_blanks : List ℕ → List ℕ
past_blanks here = drop (prefix_len is_blank here) here

-- a byte that is no blank and begins no comment
pub record IsSolid (byte : ℕ) : Type 0 where
  pub no_blank : is_blank byte ≡ false
  pub no_comment : (byte == 35) ≡ false

one_further : (k : ℕ) (byte : ℕ) (here : List ℕ) → drop (1 + k) (byte ∷ here) ≡ drop k here
one_further k byte here = let e : 1 + k ≡ suc k = omega arith in ap (λ (m : ℕ). drop m (byte ∷ here)) e

past_blank : (byte : ℕ) (here : List ℕ) (b : Bool) → is_blank byte ≡ b → b ≡ true → past_blanks (byte ∷ here) ≡ past_blanks here
past_blank byte here true is e = rw is (one_further (prefix_len is_blank here) byte here)
past_blank byte here false is e = absurd cc

pub past_spaces : (n : ℕ) (here : List ℕ) → past_blanks (spaces n ++ here) ≡ past_blanks here
past_spaces zero here = refl
past_spaces (suc n) here = past_blank 32 (spaces n ++ here) true refl refl ∙ past_spaces n here

pub past_solid : (byte : ℕ) (here : List ℕ) → IsSolid byte → past_blanks (byte ∷ here) ≡ byte ∷ here
past_solid byte here is = let e : is_blank byte ≡ false = is.no_blank in rw e refl

pub spaces_then : (n byte : ℕ) (here : List ℕ) → IsSolid byte → past_blanks (spaces n ++ byte ∷ here) ≡ byte ∷ here
spaces_then n byte here is = past_spaces n (byte ∷ here) ∙ past_solid byte here is

clear_with : (first : ℕ) (here : List ℕ) (byte : ℕ) (more : List ℕ) (b : Bool) → is_blank first ≡ b → IsSolid byte → past_blanks (first ∷ here) ≡ byte ∷ more → is_clear (first ∷ here) ≡ false
clear_with first here byte more false is solid past = rw is refl
clear_with first here byte more true is solid past =
    let behind : past_blanks here ≡ byte ∷ more = sym (past_blank first here true is refl) ∙ past in
    let filled : is_filled (byte ∷ more) ≡ true = ap not solid.no_comment in
    rw (is, behind, filled) refl

-- More than a comment is left.
pub not_clear : (here : List ℕ) (byte : ℕ) (more : List ℕ) → IsSolid byte → past_blanks here ≡ byte ∷ more → is_clear here ≡ false
not_clear [] byte more solid past = absurd cc
not_clear (first ∷ here) byte more solid past = clear_with first here byte more (is_blank first) refl solid past

-- In a flow form the next point is behind the blanks.
pub point_past : (r : Rest) (byte : ℕ) (more : List ℕ) → IsSolid byte → past_blanks r.here ≡ byte ∷ more → flow_point r ≡ Ok (skip_blanks r)
point_past r byte more solid past = rw (not_clear r.here byte more solid past) refl

-- how many blanks stand in front
pub blanks_count : (n : ℕ) (text : List ℕ) (byte : ℕ) (more : List ℕ) → text ≡ byte ∷ more → IsSolid byte → prefix_len is_blank (spaces n ++ text) ≡ n
blanks_count zero text byte more is solid = ap (prefix_len is_blank) is ∙ (let e : is_blank byte ≡ false = solid.no_blank in rw e refl)
blanks_count (suc n) text byte more is solid = let so_far = blanks_count n text byte more is solid in ap (λ (k : ℕ). 1 + k) so_far ∙ (omega arith)
