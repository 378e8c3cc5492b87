-- What is told of a whole certificate in a part, by what its lines are found to be.
use Rattle.std.proofs.Common.{◌≡◌, ◌+◌, Option, Some, None, sym, ap, ◌∙◌}
use Rattle.dp_model.specs.declared.whole.Model.{Model}
use Rattle.cert_types.specs.Lines.{line_of_claim}
use Rattle.cert_types.specs.declared.cert.Cert.{Cert}
use Rattle.cert_types.specs.declared.parts.CheckPart.{CheckPart}
use Rattle.cert_laws.specs.Checks.{claim_fails, target_fails, told_at}
use Rattle.cert_laws.specs.PartChecks.{checked_in, layers_told_in}
use Rattle.cert_laws.specs.declared.answers.CertReason.{CertReason}
use Rattle.cert_laws.specs.declared.answers.Checked.TheVariants.{No}

-- x is what looks at the states of m
target_is : (m x : Model) (cert : Cert) (o p : Option CertReason) → x ≡ m → o ≡ target_fails x cert → o ≡ p → target_fails m cert ≡ p
target_is m x cert o p is e f = sym (ap (λ (y : Model). target_fails y cert) is) ∙ sym e ∙ f

at_first : (part : CheckPart) (m : Model) (cert : Cert) (p : Option CertReason) → target_fails m cert ≡ p → checked_in part m cert ≡ told_at cert.first p (told_at (line_of_claim cert.first) (claim_fails m cert.claim) (layers_told_in part m cert 0 cert.layers))
at_first part m cert p e = ap (λ (o : Option CertReason). told_at cert.first o (told_at (line_of_claim cert.first) (claim_fails m cert.claim) (layers_told_in part m cert 0 cert.layers))) e

at_claim : (part : CheckPart) (m : Model) (cert : Cert) (p : Option CertReason) → claim_fails m cert.claim ≡ p → told_at (line_of_claim cert.first) (claim_fails m cert.claim) (layers_told_in part m cert 0 cert.layers) ≡ told_at (line_of_claim cert.first) p (layers_told_in part m cert 0 cert.layers)
at_claim part m cert p e = ap (λ (o : Option CertReason). told_at (line_of_claim cert.first) o (layers_told_in part m cert 0 cert.layers)) e

pub told_target : (part : CheckPart) (m x : Model) (cert : Cert) (o : Option CertReason) (reason : CertReason) → x ≡ m → o ≡ target_fails x cert → o ≡ Some reason → No cert.first reason ≡ checked_in part m cert
told_target part m x cert o reason is e f = sym (at_first part m cert (Some reason) (target_is m x cert o (Some reason) is e f))

pub told_claim : (part : CheckPart) (m x : Model) (cert : Cert) (o p : Option CertReason) (reason : CertReason) → x ≡ m → o ≡ target_fails x cert → o ≡ None → p ≡ claim_fails m cert.claim → p ≡ Some reason → No (cert.first + 3) reason ≡ checked_in part m cert
told_claim part m x cert o p reason is e none f g = sym (at_first part m cert None (target_is m x cert o None is e none) ∙ at_claim part m cert (Some reason) (sym f ∙ g))

pub told_layers : (part : CheckPart) (m x : Model) (cert : Cert) (o p : Option CertReason) → x ≡ m → o ≡ target_fails x cert → o ≡ None → p ≡ claim_fails m cert.claim → p ≡ None → layers_told_in part x cert 0 cert.layers ≡ checked_in part m cert
told_layers part m x cert o p is e none f g = ap (λ (y : Model). layers_told_in part y cert 0 cert.layers) is ∙ sym (at_first part m cert None (target_is m x cert o None is e none) ∙ at_claim part m cert None (sym f ∙ g))
