-- The line numbers that are told of a certificate's parts are those of the text that it stands in.
use Rattle.std.specs.Prelude.{◌≡◌, ℕ, ◌+◌, ◌-◌, List, ◌++◌, length, slice_get, Option, Some, codes}
use Rattle.std.specs.Fmt.{signed_decimal}
use Rattle.std.specs.Str.Lines.{lines}
use Rattle.dp_model.specs.declared.answers.Claim.{Claim}
use Rattle.dp_model.specs.declared.answers.Claim.TheVariants as claims
use Rattle.dp_model.specs.declared.whole.Model.{Model}
use Rattle.cert_types.specs.Lines.{line_of_claim, line_of_end, line_of_layer, line_of_node}
use Rattle.cert_types.specs.Parts.{Parts}
use Rattle.cert_text.specs.Texts.{cert_lines, end_line, layer_line, node_line}
use Rattle.cert_types.specs.declared.nodes.CertNode.{CertNode}

-- the line of this number, where the first one has the number 1
abbrev pub line_at : (text : List (List ℕ)) → (number : ℕ) → Option (List ℕ)
line_at text number = slice_get text (number - 1)

-- the line of a claim, without those of its list
abbrev pub claim_line : Claim → List ℕ
claim_line (claims.Optimal found) = codes "claim optimal " ++ signed_decimal found.cost
claim_line claims.Infeasible = codes "claim infeasible"

-- Each part of a certificate stands in the line that is told of it.
pub record AreToldLines (m : Model) (p : Parts) (text : List (List ℕ)) : Type 0 where
  pub begin : line_at text p.first ≡ Some (codes "certificate 1")
  pub claim : line_at text (line_of_claim p.first) ≡ Some (claim_line p.claim)
  pub layer : (l : ℕ) (nodes : List CertNode) → slice_get p.layers l ≡ Some nodes → line_at text (line_of_layer p.first p.claim p.layers l) ≡ Some (layer_line l nodes)
  pub node : (l place : ℕ) (nodes : List CertNode) (node : CertNode) → slice_get p.layers l ≡ Some nodes → slice_get nodes place ≡ Some node → line_at text (line_of_node p.first p.claim p.layers l place) ≡ Some (node_line m node)
  pub end : line_at text (line_of_end p.first p.claim p.layers) ≡ Some (end_line (length p.layers))

-- So it is in each text that has the lines of a certificate, from the line on that the certificate begins in.
abbrev pub LawLines : Type 0
LawLines =
    (m : Model) (p : Parts) (bytes : List ℕ) (front back : List (List ℕ)) → lines bytes ≡ front ++ (cert_lines m p ++ back) → p.first ≡ length front + 1
    → AreToldLines m p (lines bytes)
