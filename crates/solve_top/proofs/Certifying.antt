-- What the status of a check says.
use Rattle.std.proofs.Common.{◌≡◌, ◌↔◌, ℕ, ◌⊎◌, inl, inr, Bool, List, ◌++◌, Option, Some, None, refl, sym, ap, subst, ◌∙◌, arith}
use Rattle.dp_outside.specs.Outside.{Takes}
use Rattle.dp_model.specs.declared.whole.Model.{Model}
use Rattle.cert_types.specs.declared.cert.Cert.{Cert}
use Rattle.cert_types.specs.declared.parts.CheckPart.{CheckPart}
use Rattle.cert_laws.specs.InParts.{ShownBy}
use Rattle.cert_laws.specs.PartChecks.{checked_by}
use Rattle.cert_laws.specs.declared.answers.Checked.{Checked as Findings}
use Rattle.cert_laws.specs.declared.answers.Checked.TheVariants as findings
use Rattle.cert_laws.proofs.PartChecks.{part_yes_shows}
use Rattle.cert_laws.proofs.Yes.{yes_law}
use Rattle.command_line.specs.declared.jobs.Job.{Job}
use Rattle.command_line.specs.declared.jobs.Job.TheVariants as jobs
use Rattle.kept_claims.specs.Searched.{ClaimOf, IsSearched}
use Rattle.kept_claims.proofs.Searched.{searched_law}
use Rattle.kept_model.specs.declared.kept.Kept.{Kept}
use Rattle.run_ends.specs.Statuses.{code_of}
use Rattle.run_ends.specs.declared.status.Status.{Status}
use Rattle.solve_top.specs.Certified.{Certifies, HaveCert, IsCertified, IsRejected}
use Rattle.solve_top.specs.Jobs.{Asks}
use Rattle.solve_top.specs.Outcomes.{Outcome, NoMeaning, ReadFault, TooLong, Refused, NoMemory, Solving, SolvingBest, Replayed, Checked, Shown as WasShown, NoGenerated, Generated, ComesOf, Printed, checked_status, checked_text, outcome_status, outcome_text}
use Rattle.solve_top.specs.Parts.{parts_text}
use Rattle.solve_top.proofs.Settling.{none_asked, same_job}

-- the status is neither that of a yes nor that of a no
abbrev IsNeither : ℕ → Type 0
IsNeither code = (code ≡ 0 → ⊥) × (code ≡ 10 → ⊥)

-- what an outcome of a check is: this was told of a certificate, and taken; or it tells nothing of one
abbrev Tells : (List ℕ → Option (List ℕ)) → (domain problem text : List ℕ) → (asked : Bool) → (which : Option CheckPart) → (before after : Option (List ℕ)) → Status → Type 0
Tells files domain problem text asked which before after status =
    ((m : Model) × (proved : Option Kept) × (searched : Model) × (cert : Cert) × HaveCert files domain problem text m cert × IsSearched m asked proved searched
    × (status ≡ checked_status (checked_by which searched cert)) × Takes before after (parts_text m proved ++ checked_text which cert.claim (checked_by which searched cert))) ⊎ IsNeither (code_of status)

none_told : (n : ℕ) → n ≡ 2 ⊎ (n ≡ 3 ⊎ (n ≡ 4 ⊎ (n ≡ 5 ⊎ (n ≡ 6 ⊎ (n ≡ 7))))) → IsNeither n
none_told n (inl h) = (λ is. absurd (omega (arith, h, is)), λ is. absurd (omega (arith, h, is)))
none_told n (inr (inl h)) = (λ is. absurd (omega (arith, h, is)), λ is. absurd (omega (arith, h, is)))
none_told n (inr (inr (inl h))) = (λ is. absurd (omega (arith, h, is)), λ is. absurd (omega (arith, h, is)))
none_told n (inr (inr (inr (inl h)))) = (λ is. absurd (omega (arith, h, is)), λ is. absurd (omega (arith, h, is)))
none_told n (inr (inr (inr (inr (inl h))))) = (λ is. absurd (omega (arith, h, is)), λ is. absurd (omega (arith, h, is)))
none_told n (inr (inr (inr (inr (inr h))))) = (λ is. absurd (omega (arith, h, is)), λ is. absurd (omega (arith, h, is)))

-- yes is told exactly where that is shown
yes_shows : (which : Option CheckPart) (m : Model) (cert : Cert) → (checked_by which m cert ≡ findings.Yes) ↔ ShownBy which m cert
yes_shows None m cert = yes_law m cert
yes_shows (Some part) m cert = part_yes_shows part m cert

module _ (words : List (List ℕ)) (files : List ℕ → Option (List ℕ)) (domain problem text : List ℕ) (asked : Bool) (which : Option CheckPart) (before after : Option (List ℕ)) (asks : Asks words (jobs.Check domain problem text asked which)) where
  other : (job : Job) → Asks words job → job ≡ jobs.Check domain problem text asked which
  other job also = same_job words job (jobs.Check domain problem text asked which) also asks

  tells_as : (outcome : Outcome) → ComesOf words files outcome → Takes before after (outcome_text outcome) → Tells files domain problem text asked which before after (outcome_status outcome)
  tells_as NoMeaning h took = absurd (none_asked words (jobs.Check domain problem text asked which) asks h)
  tells_as (ReadFault file) h took = inr (none_told 4 (inr (inr (inl refl))))
  tells_as (TooLong file) h took = inr (none_told 7 (inr (inr (inr (inr (inr refl))))))
  tells_as (Refused r) h took = inr (none_told 3 (inr (inl refl)))
  tells_as NoMemory h took = inr (none_told 6 (inr (inr (inr (inr (inl refl))))))
  tells_as (Solving m proved searched search run behind) h took = let same : jobs.Solve h.0 h.1 search ≡ jobs.Check domain problem text asked which = other (jobs.Solve h.0 h.1 search) h.2 in absurd cc
  tells_as (SolvingBest m proved searched search run behind) h took = let same : jobs.Solve h.0 h.1 search ≡ jobs.Check domain problem text asked which = other (jobs.Solve h.0 h.1 search) h.2 in absurd cc
  tells_as (Replayed m steps told) h took = let same : jobs.Replay h.0 h.1 h.2 ≡ jobs.Check domain problem text asked which = other (jobs.Replay h.0 h.1 h.2) h.3 in absurd cc
  tells_as (WasShown m) h took = let same : jobs.Show h.0 h.1 ≡ jobs.Check domain problem text asked which = other (jobs.Show h.0 h.1) h.2 in absurd cc
  tells_as (NoGenerated kind size seed refusal) h took = let same : jobs.Gen kind size seed h.0 ≡ jobs.Check domain problem text asked which = other (jobs.Gen kind size seed h.0) h.1 in absurd cc
  tells_as (Generated kind size seed m options run) h took = let same : jobs.Gen kind size seed h.0 ≡ jobs.Check domain problem text asked which = other (jobs.Gen kind size seed h.0) h.1 in absurd cc
  tells_as (Checked m proved searched cert part told) h took =
      let same : jobs.Check h.0 h.1 h.2 h.3 part ≡ jobs.Check domain problem text asked which = other (jobs.Check h.0 h.1 h.2 h.3 part) h.4 in
      let d : h.0 ≡ domain = cc in
      let p : h.1 ≡ problem = cc in
      let t : h.2 ≡ text = cc in
      let a : h.3 ≡ asked = cc in
      let w : part ≡ which = cc in
      let is_told : told ≡ checked_by which searched cert = h.7 ∙ ap (λ (x : Option CheckPart). checked_by x searched cert) w in
      let took_as : Takes before after (parts_text m proved ++ checked_text which cert.claim told) = subst (λ (x : Option CheckPart). Takes before after (parts_text m proved ++ checked_text x cert.claim told)) w took in
      let first : HaveCert files domain h.1 h.2 m cert = subst (λ (name : List ℕ). HaveCert files name h.1 h.2 m cert) d h.5 in
      let second : HaveCert files domain problem h.2 m cert = subst (λ (name : List ℕ). HaveCert files domain name h.2 m cert) p first in
      let third : HaveCert files domain problem text m cert = subst (λ (name : List ℕ). HaveCert files domain problem name m cert) t second in
      let is : IsSearched m asked proved searched = subst (λ (x : Bool). IsSearched m x proved searched) a h.6 in
      inl (
        m,
        proved,
        searched,
        cert,
        third,
        is,
        subst (λ (x : Findings). checked_status told ≡ checked_status x) is_told refl,
        subst (λ (x : Findings). Takes before after (parts_text m proved ++ checked_text which cert.claim x)) is_told took_as,
      )

  -- what the status that was answered says
  tells : (outcome : Outcome) (status : Status) → ComesOf words files outcome → Printed before after outcome status → Tells files domain problem text asked which before after status
  tells outcome status comes (inl h) = subst (Tells files domain problem text asked which before after) (sym h.0) (tells_as outcome comes h.1)
  tells outcome status comes (inr h) = subst (Tells files domain problem text asked which before after) (sym h.0) (inr (none_told 5 (inr (inr (inr (inl refl))))))

  -- a claim that is shown whole is true
  claim_whole : (m : Model) (proved : Option Kept) (searched : Model) (cert : Cert) → IsSearched m asked proved searched → ShownBy which searched cert → which ≡ None → ClaimOf m proved cert
  claim_whole m proved searched cert is_searched shown whole = searched_law.claim m asked proved searched cert is_searched (subst (λ (x : Option CheckPart). ShownBy x searched cert) whole shown)

  -- a yes and a no are told apart by the status
  certified_by : (m : Model) (proved : Option Kept) (searched : Model) (cert : Cert) (told : Findings) → HaveCert files domain problem text m cert → IsSearched m asked proved searched → checked_by which searched cert ≡ told → code_of (checked_status told) ≡ 0
      → Takes before after (parts_text m proved ++ checked_text which cert.claim told) → IsCertified files domain problem text asked which before after
  certified_by m proved searched cert findings.Yes texts is_searched is code took =
      let shown = (yes_shows which searched cert).0 is in
      record { model = m; proved = proved; searched = searched; cert = cert; texts = texts; is_searched = is_searched; shown = shown; claim = claim_whole m proved searched cert is_searched shown; taken = took }
  certified_by m proved searched cert (findings.No number reason) texts is_searched is code took = absurd (omega (arith, code))

  rejected_by : (m : Model) (proved : Option Kept) (searched : Model) (cert : Cert) (told : Findings) → HaveCert files domain problem text m cert → IsSearched m asked proved searched → checked_by which searched cert ≡ told → code_of (checked_status told) ≡ 10
      → Takes before after (parts_text m proved ++ checked_text which cert.claim told) → IsRejected files domain problem text asked which before after
  rejected_by m proved searched cert findings.Yes texts is_searched is code took = absurd (omega (arith, code))
  rejected_by m proved searched cert (findings.No number reason) texts is_searched is code took =
      record {
        model = m;
        proved = proved;
        searched = searched;
        cert = cert;
        number = number;
        reason = reason;
        texts = texts;
        is_searched = is_searched;
        not_shown = λ shown. let clash : findings.No number reason ≡ findings.Yes = sym is ∙ (yes_shows which searched cert).1 shown in absurd cc;
        first = is;
        taken = took;
      }

  certified : (status : Status) → Tells files domain problem text asked which before after status → code_of status ≡ 0 → IsCertified files domain problem text asked which before after
  certified status (inl (m, proved, searched, cert, texts, is_searched, is, took)) code =
      certified_by m proved searched cert (checked_by which searched cert) texts is_searched refl (subst (λ (s : Status). code_of s ≡ 0) is code) took
  certified status (inr neither) code = absurd (neither.0 code)

  rejected : (status : Status) → Tells files domain problem text asked which before after status → code_of status ≡ 10 → IsRejected files domain problem text asked which before after
  rejected status (inl (m, proved, searched, cert, texts, is_searched, is, took)) code =
      rejected_by m proved searched cert (checked_by which searched cert) texts is_searched refl (subst (λ (s : Status). code_of s ≡ 10) is code) took
  rejected status (inr neither) code = absurd (neither.1 code)

pub certifies : (words : List (List ℕ)) (files : List ℕ → Option (List ℕ)) (before after : Option (List ℕ)) (outcome : Outcome) (status : Status) → ComesOf words files outcome → Printed before after outcome status → Certifies words files before after (code_of status)
certifies words files before after outcome status comes printed = record {
  yes = λ domain problem text asked which asks code. certified words files domain problem text asked which before after asks status (tells words files domain problem text asked which before after asks outcome status comes printed) code;
  no = λ domain problem text asked which asks code. rejected words files domain problem text asked which before after asks status (tells words files domain problem text asked which before after asks outcome status comes printed) code;
}
