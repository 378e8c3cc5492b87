-- Which nodes of a certificate have a parent, and where.
use Rattle.std.specs.Prelude.{ℕ, Bool, true, false, ◌&&◌, nat_lt, List, [], ◌∷◌, length, Option, Some, None}
use Rattle.std.specs.List.{list_all}
use Rattle.cert_types.specs.declared.nodes.CertNode.{CertNode}
use Rattle.cert_types.specs.declared.nodes.CertStep.{CertStep}

abbrev pub is_start : CertNode → Bool
is_start n = has_none n.made
  where
    has_none : Option CertStep → Bool
    has_none None = true
    has_none (Some step) = false

abbrev pub is_made : CertNode → Bool
is_made n = has_some n.made
  where
    has_some : Option CertStep → Bool
    has_some None = false
    has_some (Some step) = true

-- the nodes of layer 0 have no step, and those of later layers have one
abbrev pub are_made : List (List CertNode) → Bool
are_made [] = true
are_made (targets ∷ layers) = list_all is_start targets && list_all (list_all is_made) layers

-- the parent of a node, if it has one, is one of so many places
abbrev pub has_parent : (places : ℕ) → CertNode → Bool
has_parent places n = is_within n.made
  where
    is_within : Option CertStep → Bool
    is_within None = true
    is_within (Some step) = nat_lt step.parent places

-- each parent is a place in the layer before, of which the one before all has none
abbrev pub have_parents_from : (places : ℕ) → List (List CertNode) → Bool
have_parents_from places [] = true
have_parents_from places (nodes ∷ layers) = list_all (has_parent places) nodes && have_parents_from (length nodes) layers

abbrev pub have_parents : List (List CertNode) → Bool
have_parents layers = have_parents_from 0 layers
