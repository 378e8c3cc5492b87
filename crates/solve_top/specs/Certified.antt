-- What the answer of a check says of the model and of the claim.
use Rattle.std.specs.Prelude.{◌≡◌, ℕ, Bool, List, [], ◌∷◌, ◌++◌, Option, None}
use Rattle.dp_outside.specs.Outside.{Takes}
use Rattle.dp_model.specs.declared.whole.Model.{Model}
use Rattle.cert_types.specs.declared.cert.Cert.{Cert}
use Rattle.cert_types.specs.declared.parts.CheckPart.{CheckPart}
use Rattle.cert_laws.specs.InParts.{ShownBy}
use Rattle.cert_laws.specs.PartChecks.{checked_by}
use Rattle.cert_laws.specs.declared.answers.CertReason.{CertReason}
use Rattle.cert_laws.specs.declared.answers.Checked.TheVariants as findings
use Rattle.command_line.specs.declared.jobs.Job.TheVariants as jobs
use Rattle.kept_claims.specs.Searched.{ClaimOf, IsSearched}
use Rattle.kept_model.specs.declared.kept.Kept.{Kept}
use Rattle.solve_top.specs.Files.{OfTexts}
use Rattle.solve_top.specs.Jobs.{Asks}
use Rattle.solve_top.specs.Outcomes.{rejected_text, yes_text}
use Rattle.solve_top.specs.Parts.{parts_text}
use Rattle.solve_top.specs.Texts.{MeanCert}

-- the texts of these files mean this model, and the third has this certificate
abbrev pub HaveCert : (List ℕ → Option (List ℕ)) → (domain problem text : List ℕ) → Model → Cert → Type 0
HaveCert files domain problem text m cert = OfTexts files (domain ∷ problem ∷ text ∷ []) (λ texts. MeanCert texts m cert)

-- The certificate in these files shows its claim, of the model or of what is proved of it; or it does so in the part that was asked for.
-- A claim that is shown whole is true of the model: where what is proved alone was asked for, with no premise, and else where the model is
-- honest or the certificate's `prune` is off. What was taken tells this claim, and the part.
pub record IsCertified (files : List ℕ → Option (List ℕ)) (domain problem text : List ℕ) (asked : Bool) (which : Option CheckPart) (before after : Option (List ℕ)) : Type 0 where
  pub model : Model
  pub proved : Option Kept
  pub searched : Model
  pub cert : Cert
  pub texts : HaveCert files domain problem text model cert
  pub is_searched : IsSearched model asked proved searched
  pub shown : ShownBy which searched cert
  pub claim : which ≡ None → ClaimOf model proved cert
  pub taken : Takes before after (parts_text model proved ++ yes_text which cert.claim)

-- It does not show its claim, or not in that part. What was taken tells the line and the reason of the first clause that fails there.
pub record IsRejected (files : List ℕ → Option (List ℕ)) (domain problem text : List ℕ) (asked : Bool) (which : Option CheckPart) (before after : Option (List ℕ)) : Type 0 where
  pub model : Model
  pub proved : Option Kept
  pub searched : Model
  pub cert : Cert
  pub number : ℕ
  pub reason : CertReason
  pub texts : HaveCert files domain problem text model cert
  pub is_searched : IsSearched model asked proved searched
  pub not_shown : ShownBy which searched cert → ⊥
  pub first : checked_by which searched cert ≡ findings.No number reason
  pub taken : Takes before after (parts_text model proved ++ rejected_text number reason)

-- Where the words ask for a check of a certificate, status 0 says that it shows its claim, or does so in the part that was asked for, and
-- status 10 that it does not.
pub record Certifies (words : List (List ℕ)) (files : List ℕ → Option (List ℕ)) (before after : Option (List ℕ)) (code : ℕ) : Type 0 where
  pub yes : (domain problem text : List ℕ) (asked : Bool) (which : Option CheckPart) → Asks words (jobs.Check domain problem text asked which) → code ≡ 0 → IsCertified files domain problem text asked which before after
  pub no : (domain problem text : List ℕ) (asked : Bool) (which : Option CheckPart) → Asks words (jobs.Check domain problem text asked which) → code ≡ 10 → IsRejected files domain problem text asked which before after
