-- Which line of the file a part of a certificate's text stands in.
use Rattle.std.specs.Prelude.{ℕ, ◌+◌, List, length, take}
use Rattle.std.specs.List.{sum_by}
use Rattle.dp_model.specs.declared.answers.Claim.{Claim}
use Rattle.dp_model.specs.declared.answers.Claim.TheVariants.{Optimal, Infeasible}
use Rattle.cert_types.specs.declared.nodes.CertNode.{CertNode}

-- The text begins with the lines `certificate 1`, `keep ..`, `prune ..` and `claim ..`.
abbrev pub line_of_claim : (first : ℕ) → ℕ
line_of_claim first = first + 3

-- The list of a claimed solution stands behind the claim: a line `steps ..`, and a line for each step.
abbrev pub lines_of_list : Claim → ℕ
lines_of_list (Optimal found) = 1 + length found.steps
lines_of_list Infeasible = 0

-- a layer has a line `layer ..`, and a line for each node
abbrev pub lines_of_layer : List CertNode → ℕ
lines_of_layer nodes = 1 + length nodes

-- the line with which a layer begins
abbrev pub line_of_layer : (first : ℕ) → Claim → List (List CertNode) → (l : ℕ) → ℕ
line_of_layer first claim layers l = line_of_claim first + 1 + lines_of_list claim + sum_by lines_of_layer (take l layers)

-- the line of the node at a place of a layer
abbrev pub line_of_node : (first : ℕ) → Claim → List (List CertNode) → (l place : ℕ) → ℕ
line_of_node first claim layers l place = line_of_layer first claim layers l + 1 + place

-- the last line, `end ..`
abbrev pub line_of_end : (first : ℕ) → Claim → List (List CertNode) → ℕ
line_of_end first claim layers = line_of_layer first claim layers (length layers)
