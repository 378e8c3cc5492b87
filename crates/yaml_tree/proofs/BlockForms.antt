-- Scalars and flow forms in block style.
use Rattle.std.proofs.Common.{◌≡◌, ℕ, zero, suc, true, false, List, [], length, Result, Ok, Err, refl, sym, ap, ◌∙◌, subst}
use Rattle.yaml_tree.specs.Rest.{Rest, place, on}
use Rattle.yaml_tree.specs.Scalars.{part_of, with_text, added, scalar_at, plain, plain_part}
use Rattle.yaml_tree.specs.Openings.{opening}
use Rattle.yaml_tree.specs.declared.opening.Opening.{Opening}
use Rattle.yaml_tree.specs.declared.opening.Opening.TheVariants.{Plain, Quoted, OpenQuote, FlowList, FlowMap, Header, Outside, Nothing}
use Rattle.dp_base.specs.declared.place.Place.{Place}
use Rattle.yaml_tree.specs.Fields.{form_place, tree_place}
use Rattle.yaml_tree.specs.BlockScalars.{block_scalar}
use Rattle.yaml_tree.specs.declared.header.Style.{Style}
use Rattle.yaml_tree.specs.declared.header.Chomping.{Chomping}
use Rattle.yaml_tree.specs.Flow.{Outcome, Reading, header_line, FormOf, Form}
use Rattle.yaml_tree.specs.Blocks.{ended, whole_form, LineValue}
use Rattle.yaml_tree.specs.BlockSteps.{scalar_made, continued_form, continued, whole_from}
use Rattle.yaml_tree.specs.declared.tree.Tree.{Tree}
use Rattle.yaml_tree.specs.declared.tree.Tree.TheVariants as trees
use Rattle.yaml_tree.specs.declared.tree.Tree.{Tree-F}
use Rattle.yaml_tree.specs.declared.tree.Pair.{Pair}
use Rattle.yaml_tree.specs.declared.tree.YamlEnd.{YamlEnd}

-- ---- a plain scalar goes on behind its first line

scalar_at-made : (from : Rest) (x : Result (List ℕ × Rest) YamlEnd) → scalar_at from x ≡ scalar_made (place from) x
scalar_at-made from (Ok x) = refl
scalar_at-made from (Err e) = refl

abbrev Continues : (least : ℕ) → Rest → Tree × Rest → Type 0
Continues least from x = plain false least from ≡ continued least x.0 x.1

begun-continues : (least : ℕ) (from : Rest) → Continues least from (trees.Scalar (place from) (part_of false from.here), on (length (part_of false from.here)) from)
begun-continues least from =
    let part : List ℕ = part_of false from.here in
    let to : Rest = on (length part) from in
    scalar_at-made from (with_text part (added false least to))
    ∙ ap (λ (f : Tree-F Tree Pair). continued_form least f (trees.Scalar (place from) part) to) (sym (trees.outs-Scalar (place from) part))

part-continues : (least : ℕ) (from : Rest) (x : Tree × Rest) → Ok x ≡ plain_part from → Continues least from x
part-continues least from x is =
    let whole : Tree × Rest = (trees.Scalar (place from) (part_of false from.here), on (length (part_of false from.here)) from) in
    let same : whole ≡ x = cc is in
    subst (λ (y : Tree × Rest). Continues least from y) same (begun-continues least from)

-- ---- the content of a block scalar stands below its header

-- the place of what was begun is that of the header
header-whole : (style : Style) (chomping : Chomping) (least : ℕ) (from : Rest) (x : Tree × Rest) → Ok x ≡ header_line from → block_scalar style chomping least (place from) x.1 ≡ block_scalar style chomping least (tree_place x.0) x.1
header-whole style chomping least from x is =
    let same : (trees.Scalar (place from) [], record from { here = [] }) ≡ x = cc is in
    let at : tree_place (trees.Scalar (place from) []) ≡ place from = ap form_place (trees.outs-Scalar (place from) []) in
    let there : place from ≡ tree_place x.0 = sym at ∙ ap (λ (y : Tree × Rest). tree_place y.0) same in
    ap (λ (p : Place). block_scalar style chomping least p x.1) there

-- ---- the whole form is decided by what was begun

form_of-whole : (N K : Reading) (o : Opening) (least : ℕ) (from : Rest) (x : Tree × Rest) → FormOf false N K o from (Ok x) → whole_form o least from (Ok x) ≡ whole_from o least x.0 x.1
form_of-whole N K Plain least from x is = ap ended (part-continues least from x is)
form_of-whole N K (Quoted single inside) least from x is = refl
form_of-whole N K OpenQuote least from x is = refl
form_of-whole N K FlowList least from x is = refl
form_of-whole N K FlowMap least from x is = refl
form_of-whole N K (Header style chomping) least from x is = header-whole style chomping least from x is
form_of-whole N K (Outside feature) least from x is = refl
form_of-whole N K Nothing least from x is = refl

pub form-whole : (levels least : ℕ) (from : Rest) (o : Opening) (x : Tree × Rest) → o ≡ opening false true from → Form false true levels from (Ok x) → whole_form (opening false true from) least from (Ok x) ≡ whole_from o least x.0 x.1
form-whole zero least from o x same is = absurd (cc is)
form-whole (suc levels) least from o x same is =
    form_of-whole (Form true true levels) (Form true false levels) (opening false true from) least from x is
    ∙ ap (λ (p : Opening). whole_from p least x.0 x.1) (sym same)

-- ---- a form behind a key

pub line_value-read : (levels least : ℕ) (from : Rest) (o : Opening) (x : Tree × Rest) (outcome : Outcome) → o ≡ opening false true from → Form false true levels from (Ok x) → whole_from o least x.0 x.1 ≡ outcome → LineValue levels least from outcome
line_value-read levels least from o x outcome same is whole = (Ok x, is, sym (form-whole levels least from o x same is ∙ whole))

pub line_value-refused : (levels least : ℕ) (from : Rest) (e : YamlEnd) → Form false true levels from (Err e) → LineValue levels least from (Err e)
line_value-refused levels least from e is = (Err e, is, refl)
