-- A node in block style, by what begins it.
use Rattle.std.proofs.Common.{◌≡◌, ℕ, zero, suc, ◌-◌, ◌<◌, Bool, true, false, None, Some, Option, Ok, Err, refl, sym, ap, ◌∙◌, subst, arith}
use Rattle.std.specs.Prelude.{MatchBool}
use Rattle.dp_base.specs.declared.place.Place.{Place}
use Rattle.yaml_tree.specs.Rest.{Rest, place, on, skip_blanks}
use Rattle.yaml_tree.specs.Characters.{is_item}
use Rattle.yaml_tree.specs.Openings.{opening}
use Rattle.yaml_tree.specs.declared.opening.Opening.{Opening}
use Rattle.yaml_tree.specs.Keys.{deep_place}
use Rattle.yaml_tree.specs.Flow.{Outcome, Form}
use Rattle.yaml_tree.specs.Blocks.{BlockList, BlockNode, FirstKey, AfterForm, is_block_key}
use Rattle.yaml_tree.specs.BlockSteps.{is_key_here, whole_from, MapFrom}
use Rattle.yaml_tree.specs.declared.tree.Tree.{Tree}
use Rattle.yaml_tree.specs.declared.tree.YamlEnd.{YamlEnd}
use Rattle.yaml_tree.specs.declared.tree.YamlEnd.TheVariants.{TooDeep}
use Rattle.yaml_tree.proofs.BlockForms.{form-whole}

-- the side of a choice that was taken
yes : (b : Bool) (P Q : Type 0) → b ≡ true → P → MatchBool b P Q
yes true P Q is p = p
yes false P Q is p = absurd cc

otherwise : (b : Bool) (P Q : Type 0) → b ≡ false → Q → MatchBool b P Q
otherwise true P Q is q = absurd cc
otherwise false P Q is q = q

some_levels : (P : ℕ → Type 0) (levels : ℕ) → 0 < levels → P (suc (levels - 1)) → P levels
some_levels P levels some is = let one : levels ≡ suc (levels - 1) = omega arith in subst P (sym one) is

-- a form that was read took a level
form-levels : (levels : ℕ) (from : Rest) (x : Tree × Rest) → Form false true levels from (Ok x) → 0 < levels
form-levels zero from x is = absurd (cc is)
form-levels (suc levels) from x is = omega arith

pub node_list : (levels least : ℕ) (from : Rest) (outcome : Outcome) → 0 < levels → is_item from.here ≡ true → BlockList (BlockNode (levels - 1)) (levels - 1) from outcome → BlockNode levels least from outcome
node_list levels least from outcome some item is =
    some_levels (λ (n : ℕ). BlockNode n least from outcome) levels some (yes (is_item from.here) _ _ item is)

-- no item begins
module _ (least : ℕ) (from : Rest) (no_item : is_item from.here ≡ false) where
  pub node_refused : (levels : ℕ) (e : YamlEnd) → Form false true levels from (Err e) → BlockNode levels least from (Err e)
  node_refused zero e is = otherwise (is_item from.here) _ _ no_item is
  node_refused (suc levels) e is = otherwise (is_item from.here) _ _ no_item (Err e, is, refl)

  -- a form was read
  module _ (levels : ℕ) (o : Opening) (line : ℕ) (x : Tree × Rest) (same : o ≡ opening false true from) (here : line ≡ from.line) (is : Form false true levels from (Ok x)) where
    some : 0 < levels
    some = form-levels levels from x is

    keyed : (b : Bool) → b ≡ is_key_here o line x.1 → is_block_key from x.1 ≡ b
    keyed b e = sym (e ∙ ap (λ (p : Opening). is_key_here p line x.1) same ∙ ap (λ (n : ℕ). is_key_here (opening false true from) n x.1) here)

    begun : Form false true (suc (levels - 1)) from (Ok x)
    begun = let one : levels ≡ suc (levels - 1) = omega (arith, some) in subst (λ (n : ℕ). Form false true n from (Ok x)) one is

    -- the node, by what stands behind the form
    behind : (outcome : Outcome) → AfterForm (BlockNode (levels - 1)) (levels - 1) least from (Ok x) outcome → BlockNode levels least from outcome
    behind outcome after =
        some_levels (λ (n : ℕ). BlockNode n least from outcome) levels some (otherwise (is_item from.here) _ _ no_item (Ok x, begun, after))

    pub node_whole : (outcome : Outcome) → false ≡ is_key_here o line x.1 → whole_from o least x.0 x.1 ≡ outcome → BlockNode levels least from outcome
    node_whole outcome no_key whole =
        behind outcome (otherwise (is_block_key from x.1) _ _ (keyed false no_key) (sym (form-whole levels least from o x same is ∙ whole)))

    pub node_deep : (deep : Place) → true ≡ is_key_here o line x.1 → deep_place x.0 (levels - 1) ≡ Some deep → BlockNode levels least from (Err (TooDeep deep))
    node_deep deep key too_deep =
        behind (Err (TooDeep deep)) (yes (is_block_key from x.1) _ _ (keyed true key)
        (subst (λ (d : Option Place). FirstKey (BlockNode (levels - 1)) (levels - 1) from x.0 x.1 d (Err (TooDeep deep))) (sym too_deep) refl))

    pub node_map : (at : Place) (outcome : Outcome) → at ≡ place from → true ≡ is_key_here o line x.1 → deep_place x.0 (levels - 1) ≡ None → MapFrom (BlockNode (levels - 1)) (levels - 1) at x.0 (on 1 (skip_blanks x.1)) outcome → BlockNode levels least from outcome
    node_map at outcome there key not_deep read =
        behind outcome (yes (is_block_key from x.1) _ _ (keyed true key)
        (subst (λ (d : Option Place). FirstKey (BlockNode (levels - 1)) (levels - 1) from x.0 x.1 d outcome) (sym not_deep)
        (subst (λ (p : Place). MapFrom (BlockNode (levels - 1)) (levels - 1) p x.0 (on 1 (skip_blanks x.1)) outcome) there read)))
