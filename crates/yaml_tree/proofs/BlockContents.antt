-- Block scalars, from the lines of their content.
use Rattle.std.proofs.Common.{◌≡◌, ℕ, true, false, ◌==◌, List, [], length, drop, Option, None, Some, Ok, Err, sym, ap, ◌∙◌}
use Rattle.std.specs.List.{find}
use Rattle.std.proofs.lemmas.Bool.{cond-true, cond-false}
use Rattle.dp_base.specs.declared.place.Place.{Place}
use Rattle.yaml_tree.specs.Rest.{Row, Rest, place, front}
use Rattle.yaml_tree.specs.Lines.{settle}
use Rattle.yaml_tree.specs.Flow.{Outcome}
use Rattle.yaml_tree.specs.BlockScalars.{content_of, content_indent, is_shallow, block_text, with_content, block_scalar}
use Rattle.yaml_tree.specs.declared.header.Style.{Style}
use Rattle.yaml_tree.specs.declared.header.Chomping.{Chomping}
use Rattle.yaml_tree.specs.declared.tree.Tree.TheVariants as trees
use Rattle.yaml_tree.specs.declared.tree.Feature.TheVariants.{BlockScalar}
use Rattle.yaml_tree.specs.declared.tree.YamlEnd.TheVariants.{Unread, OutOfProfile}

-- the first line of a content that stands less deep
abbrev first_shallow : List Row → Option Row
first_shallow content = find (is_shallow (content_indent content)) content

module _ (style : Style) (chomping : Chomping) (least : ℕ) (at : Place) (r : Rest) where
  abbrev scalar_of : List Row → Outcome
  scalar_of content = with_content style chomping at r content (first_shallow content)

  pub out_of_profile : (least == 0) ≡ true → block_scalar style chomping least at r ≡ Err (OutOfProfile at BlockScalar)
  out_of_profile none = cond-true (least == 0) (Err (OutOfProfile at BlockScalar)) (scalar_of (content_of least r.below)) none

  in_block : (least == 0) ≡ false → block_scalar style chomping least at r ≡ scalar_of (content_of least r.below)
  in_block some = cond-false (least == 0) (Err (OutOfProfile at BlockScalar)) (scalar_of (content_of least r.below)) some

  module _ (content : List Row) (indent : ℕ) (some : (least == 0) ≡ false) (are : content ≡ content_of least r.below) (is : indent ≡ content_indent content) where
    with_lines : block_scalar style chomping least at r ≡ scalar_of content
    with_lines = in_block some ∙ ap scalar_of (sym are)

    found : (o : Option Row) → find (is_shallow indent) content ≡ o → scalar_of content ≡ with_content style chomping at r content o
    found o there = ap (λ (n : ℕ). with_content style chomping at r content (find (is_shallow n) content)) (sym is) ∙ ap (with_content style chomping at r content) there

    pub shallow_line : (row : Row) → find (is_shallow indent) content ≡ Some row → block_scalar style chomping least at r ≡ Err (Unread (place (front r row [])))
    shallow_line row there = with_lines ∙ found (Some row) there

    pub whole_scalar : (text : List ℕ) (to : Rest) → find (is_shallow indent) content ≡ None → text ≡ block_text style chomping indent content → to ≡ settle (record r { below = drop (length content) r.below })
        → block_scalar style chomping least at r ≡ Ok (trees.Scalar at text, to)
    whole_scalar text to none same left =
        with_lines ∙ found None none
        ∙ ap (λ (n : ℕ). Ok (trees.Scalar at (block_text style chomping n content), settle (record r { below = drop (length content) r.below }))) (sym is)
        ∙ ap (λ (t : List ℕ). Ok (trees.Scalar at t, settle (record r { below = drop (length content) r.below }))) (sym same)
        ∙ ap (λ (q : Rest). Ok (trees.Scalar at text, q)) (sym left)
