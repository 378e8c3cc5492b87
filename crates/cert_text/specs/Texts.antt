-- The text of a certificate, line by line.
use Rattle.std.specs.Prelude.{ℕ, ◌+◌, Bool, true, false, List, [], ◌∷◌, ◌++◌, length, map, Option, Some, None, codes, decimal}
use Rattle.std.specs.List.{flat_map}
use Rattle.std.specs.Fmt.{signed_decimal}
use Rattle.dp_base.specs.Bytes.{line}
use Rattle.dp_model.specs.StepTexts.{step_text}
use Rattle.dp_model.specs.declared.answers.Claim.{Claim}
use Rattle.dp_model.specs.declared.answers.Claim.TheVariants as claims
use Rattle.dp_model.specs.declared.answers.Keep.{Keep}
use Rattle.dp_model.specs.declared.answers.Keep.TheVariants as keeps
use Rattle.dp_model.specs.declared.whole.Model.{Model}
use Rattle.cert_types.specs.Parts.{Parts}
use Rattle.cert_types.specs.declared.nodes.CertNode.{CertNode}
use Rattle.cert_types.specs.declared.nodes.CertStep.{CertStep}

abbrev pub keep_line : Keep → List ℕ
keep_line keeps.Layer = codes "keep layer"
keep_line keeps.All = codes "keep all"

abbrev pub prune_line : Bool → List ℕ
prune_line true = codes "prune on"
prune_line false = codes "prune off"

abbrev pub listed_lines : Model → (steps : List ℕ) → List (List ℕ)
listed_lines m steps = (codes "steps " ++ decimal (length steps)) ∷ map (step_text m) steps

abbrev pub claim_lines : Model → Claim → List (List ℕ)
claim_lines m (claims.Optimal found) = (codes "claim optimal " ++ signed_decimal found.cost) ∷ listed_lines m found.steps
claim_lines m claims.Infeasible = codes "claim infeasible" ∷ []

abbrev pub head_lines : Model → Keep → (prune : Bool) → Claim → List (List ℕ)
head_lines m keep prune claim = codes "certificate 1" ∷ keep_line keep ∷ prune_line prune ∷ claim_lines m claim

abbrev pub flag_word : (cut : Bool) → List ℕ
flag_word true = codes "cut"
flag_word false = codes "open"

abbrev pub made_line : Model → Option CertStep → (cut : Bool) → List ℕ
made_line m None cut = codes "node - " ++ flag_word cut
made_line m (Some step) cut = codes "node " ++ (decimal step.parent ++ (codes " " ++ (flag_word cut ++ (codes " " ++ step_text m step.dp_ground))))

abbrev pub node_line : Model → CertNode → List ℕ
node_line m node = made_line m node.made node.cut

-- a layer, by its number from 0 on
abbrev pub layer_line : (at : ℕ) → List CertNode → List ℕ
layer_line at nodes = codes "layer " ++ (decimal at ++ (codes " " ++ decimal (length nodes)))

abbrev pub layer_lines : Model → (at : ℕ) → List CertNode → List (List ℕ)
layer_lines m at nodes = layer_line at nodes ∷ map (node_line m) nodes

-- layers, of which the first has this number
abbrev pub layers_lines : Model → (at : ℕ) → List (List CertNode) → List (List ℕ)
layers_lines m at [] = []
layers_lines m at (nodes ∷ more) = layer_lines m at nodes ++ layers_lines m (at + 1) more

abbrev pub end_line : (count : ℕ) → List ℕ
end_line count = codes "end " ++ decimal count

abbrev pub cert_lines : Model → Parts → List (List ℕ)
cert_lines m p = head_lines m p.keep p.prune p.claim ++ (layers_lines m 0 p.layers ++ end_line (length p.layers) ∷ [])

-- lines as they are written
abbrev pub text_of_lines : List (List ℕ) → List ℕ
text_of_lines ls = flat_map line ls

abbrev pub text_of : Model → Parts → List ℕ
text_of m p = text_of_lines (cert_lines m p)
