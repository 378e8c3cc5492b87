-- What the making of a certificate writes, and what its answers say.
use Rattle.std.specs.Prelude.{◌≡◌, ℕ, ◌+◌, ◌≤◌, ◌<◌, ◌⊎◌, true, List, [], ◌∷◌, ◌++◌, length, Option, None, Result, Ok, Err, ℤ, IsTrue, IfOk, IfErr}
use Rattle.std.specs.List.{list_all}
use Rattle.dp_outside.specs.Outside.{Rose, Takes, TakesFront}
use Rattle.dp_base.specs.Bytes.{line}
use Rattle.dp_model.specs.Costs.{IsBetter}
use Rattle.dp_model.specs.declared.answers.Claim.{Claim}
use Rattle.dp_model.specs.declared.answers.Claim.TheVariants as claims
use Rattle.dp_model.specs.declared.answers.Options.{Options}
use Rattle.dp_model.specs.declared.answers.Written.{Written}
use Rattle.dp_model.specs.declared.answers.Written.TheVariants as writtens
use Rattle.dp_model.specs.declared.whole.Model.{Model}
use Rattle.dp_steps.specs.Faults.{Meets}
use Rattle.dp_steps.specs.Lists.{Solution}
use Rattle.dp_claims.specs.Enough.{IsAtMostReached}
use Rattle.cert_types.specs.Parents.{are_made, have_parents}
use Rattle.cert_types.specs.Parts.{parts_of}
use Rattle.cert_types.specs.declared.cert.Cert.{Cert}
use Rattle.cert_types.specs.declared.nodes.CertNode.{CertNode}
use Rattle.cert_laws.specs.Shown.{layer_of, Shown}
use Rattle.cert_text.specs.Named.{names_step}
use Rattle.cert_text.specs.Texts.{end_line, head_lines, layer_lines, layers_lines, text_of, text_of_lines}
use Rattle.cert_making.specs.declared.ends.CertEnd.{CertEnd}
use Rattle.cert_making.specs.declared.ends.CertEnd.TheVariants as ends

-- layers as a certificate of the model has them: their steps are ground transitions of it, and each has nodes
pub record AreLayers (m : Model) (layers : List (List CertNode)) : Type 0 where
  pub made : IsTrue (are_made layers)
  pub parents : IsTrue (have_parents layers)
  pub named : IsTrue (list_all (list_all (names_step (length m.dp_ground))) layers)
  pub full : (l : ℕ) → l < length layers → 0 < length (layer_of layers l)

-- the lines of a certificate with these layers, but for the last one, `end ..`
abbrev pub open_lines : Model → Options → Claim → List (List CertNode) → List (List ℕ)
open_lines m options claim layers = head_lines m options.keep options.prune claim ++ layers_lines m 0 layers

-- the lines in front of the layers were taken
abbrev pub HasHead : Model → Options → Claim → (before now : Option (List ℕ)) → Type 0
HasHead m options claim before now = Takes before now (text_of_lines (open_lines m options claim []))

-- whole lines were taken, up to the end of a layer
pub record IsBegun (m : Model) (options : Options) (claim : Claim) (before after : Option (List ℕ)) : Type 0 where
  pub layers : List (List CertNode)
  pub are : AreLayers m layers
  pub text : Takes before after (text_of_lines (open_lines m options claim layers))

-- a certificate that shows the claim, and was made as the options say
pub record IsMade (m : Model) (options : Options) (claim : Claim) (cert : Cert) : Type 0 where
  pub keep : cert.keep ≡ options.keep
  pub prune : cert.prune ≡ options.prune
  pub claim_is : cert.claim ≡ claim
  pub full : (l : ℕ) → l < length cert.layers → 0 < length (layer_of cert.layers l)
  pub shown : Shown m cert

-- such a certificate was taken whole
pub record IsWhole (m : Model) (options : Options) (claim : Claim) (before after : Option (List ℕ)) : Type 0 where
  pub cert : Cert
  pub made : IsMade m options claim cert
  pub text : Takes before after (text_of m (parts_of cert))

-- a front was taken of whole lines, up to the end of a layer
pub record IsFrontOfBegun (m : Model) (options : Options) (claim : Claim) (before after : Option (List ℕ)) : Type 0 where
  pub layers : List (List CertNode)
  pub are : AreLayers m layers
  pub text : TakesFront before after (text_of_lines (open_lines m options claim layers))

-- a front was taken of a certificate that shows the claim, and was made as the options say
pub record IsFrontOfWhole (m : Model) (options : Options) (claim : Claim) (before after : Option (List ℕ)) : Type 0 where
  pub cert : Cert
  pub made : IsMade m options claim cert
  pub text : TakesFront before after (text_of m (parts_of cert))

-- A write failed in the midst of a certificate. Of its last line, `end ..`, nothing is taken but where the whole shows the claim.
abbrev pub IsBroken : Model → Options → Claim → (before after : Option (List ℕ)) → Type 0
IsBroken m options claim before after = IsFrontOfBegun m options claim before after ⊎ IsFrontOfWhole m options claim before after

-- a cost is strictly better than the claimed one; where there is no legal list, any is
abbrev pub IsBetterThan : Model → Claim → ℤ → Type 0
IsBetterThan m (claims.Optimal found) cost = IsBetter m.minimize cost found.cost
IsBetterThan m claims.Infeasible cost = Unit {0}

abbrev pub Tells : Model → Options → Claim → (before after : Option (List ℕ)) → Result Written CertEnd → Type 0
Tells m options claim before after (Ok writtens.Whole) = IsWhole m options claim before after
Tells m options claim before after (Ok (writtens.Stopped visits)) = (visits ≡ options.budget) × IsAtMostReached m options.keep (visits + 1) × IsBegun m options claim before after
Tells m options claim before after (Ok (writtens.Better found)) = Solution m found.steps found.cost × IsBetterThan m claim found.cost × IsBegun m options claim before after
Tells m options claim before after (Ok (writtens.Fault fault)) = Meets m options.prune fault.steps fault.spot fault.kind × IsBegun m options claim before after
Tells m options claim before after (Err ends.Write) = IsBroken m options claim before after
Tells m options claim before after (Err ends.Memory) = IsBegun m options claim before after ⊎ Takes before after []

-- ---- its ends

-- the last line of a certificate of so many layers was put: it is whole; or a write failed
pub record PutsLast (before after : Option (List ℕ)) (faults_before faults_after : ℕ) (layers : ℕ) (result : Result Written CertEnd) : Type 0 where
  pub whole : IfOk result (λ w. (w ≡ writtens.Whole) × Takes before after (line (end_line layers)))
  pub broken : IfErr result (λ e. (e ≡ ends.Write) × TakesFront before after (line (end_line layers)) × Rose faults_before faults_after)
  pub count : faults_before ≤ faults_after

-- the target's node, which is cut, and the last line were put
pub record PutsTarget (m : Model) (before after : Option (List ℕ)) (faults_before faults_after : ℕ) (result : Result Written CertEnd) : Type 0 where
  pub whole : IfOk result (λ w. (w ≡ writtens.Whole) × Takes before after (text_of_lines (layer_lines m 0 (record { made = None; cut = true } ∷ []) ++ end_line 1 ∷ [])))
  pub broken : IfErr result (λ e. (e ≡ ends.Write) × TakesFront before after (text_of_lines (layer_lines m 0 (record { made = None; cut = true } ∷ []) ++ end_line 1 ∷ [])) × Rose faults_before faults_after)
  pub count : faults_before ≤ faults_after
