-- When a whole certificate stands behind the verdict of a search.
use Rattle.std.specs.Prelude.{◌≡◌, ℕ, ◌⊎◌, true, List, ◌++◌, Option, Some}
use Rattle.dp_outside.specs.Outside.{Takes}
use Rattle.dp_model.specs.declared.answers.Options.{Options}
use Rattle.dp_model.specs.declared.whole.Model.{Model}
use Rattle.cert_laws.specs.Laws.{ClaimIsTrue}
use Rattle.cert_types.specs.declared.cert.Cert.{Cert}
use Rattle.command_line.specs.declared.jobs.Engine.{Engine}
use Rattle.command_line.specs.declared.jobs.Engine.TheVariants as engines
use Rattle.command_line.specs.declared.jobs.Job.TheVariants as jobs
use Rattle.command_line.specs.declared.jobs.Search.{Search}
use Rattle.solve_passes.specs.Records.{IsTrusted}
use Rattle.solve_top.specs.Answers.{CanEnd, CanEndBy}
use Rattle.solve_top.specs.Behind.{Behind, Whole}
use Rattle.solve_top.specs.Files.{IsShort}
use Rattle.solve_top.specs.Jobs.{Asks, keeping_all}
use Rattle.solve_top.specs.Outcomes.{Outcome, NoMeaning, ReadFault, TooLong, Refused, NoMemory, Solving, SolvingBest, Replayed, Checked, Shown, NoGenerated, Generated, ComesOf, outcome_text}
use Rattle.solve_top.specs.Texts.{Means}

-- how the certificate of a search is written
abbrev pub written_by : Engine → Options → Options
written_by engines.Beam options = options
written_by engines.Best options = keeping_all options

-- What a search says rests on nothing, or on what is true: it prunes by what is proved alone, or not at all, or the model is honest.
abbrev pub RestsOnTruth : Model → Search → Type 0
RestsOnTruth m search = (search.proved ≡ true) ⊎ IsTrusted m (written_by search.engine search.options)

-- The budget is enough for a search, and for its certificate, whose nodes are counted anew; and no list meets a fault.
pub record CanCertify (m : Model) (search : Search) : Type 0 where
  pub searched : CanEndBy search.engine m search.options
  pub written : CanEnd m (written_by search.engine search.options)

-- this certificate stands behind the verdict of a search
abbrev pub HasWhole : Outcome → Cert → Type 0
HasWhole (Solving model proved searched search run behind) cert = behind ≡ Whole cert
HasWhole (SolvingBest model proved searched search run behind) cert = behind ≡ Whole cert
HasWhole NoMeaning cert = ⊥
HasWhole (ReadFault file) cert = ⊥
HasWhole (TooLong file) cert = ⊥
HasWhole (Refused refusal) cert = ⊥
HasWhole NoMemory cert = ⊥
HasWhole (Replayed model steps told) cert = ⊥
HasWhole (Checked model proved searched other which told) cert = ⊥
HasWhole (Shown model) cert = ⊥
HasWhole (NoGenerated kind size seed refusal) cert = ⊥
HasWhole (Generated kind size seed model options run) cert = ⊥

-- What was taken ends with a whole certificate, whose claim is true of the model.
pub record EndsWhole (words : List (List ℕ)) (files : List ℕ → Option (List ℕ)) (m : Model) (before after : Option (List ℕ)) : Type 0 where
  pub outcome : Outcome
  pub cert : Cert
  pub comes : ComesOf words files outcome
  pub whole : HasWhole outcome cert
  pub taken : Takes before after (outcome_text outcome)
  pub claim : ClaimIsTrue m cert.claim

-- Where the words ask for a search with a certificate, in two short files that the shelf tells, what it says rests on truth, and the
-- budget is enough for both, a whole certificate stands behind the verdict; or memory ran out, or a read or a write failed.
abbrev pub SettlesWhole : List (List ℕ) → (List ℕ → Option (List ℕ)) → (before after : Option (List ℕ)) → ℕ → Type 0
SettlesWhole words files before after code =
    (domain problem first second : List ℕ) (search : Search) (m : Model) → Asks words (jobs.Solve domain problem search) → search.certificate ≡ true
    → files domain ≡ Some first → IsShort first → files problem ≡ Some second → IsShort second → Means first second m → RestsOnTruth m search → CanCertify m search
    → (code ≡ 6) ⊎ ((code ≡ 4) ⊎ ((code ≡ 5) ⊎ EndsWhole words files m before after))
