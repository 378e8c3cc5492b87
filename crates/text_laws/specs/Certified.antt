-- What a search printed with a whole certificate is certified by a check over the same two texts.
use Rattle.std.specs.Prelude.{◌≡◌, false, IsTrue, List, [], ◌++◌, ℕ, Option, None, Some}
use Rattle.std.specs.Str.Lines.{lines}
use Rattle.dp_model.specs.declared.answers.Claim.{Claim}
use Rattle.cert_types.specs.declared.cert.Cert.{Cert}
use Rattle.cert_text.specs.ReadBack.{hides_none}
use Rattle.command_line.specs.declared.jobs.Job.TheVariants as jobs
use Rattle.command_line.specs.declared.jobs.Search.{Search}
use Rattle.run_ends.specs.declared.status.Status.TheVariants as statuses
use Rattle.solve_best.specs.Texts.{run_text}
use Rattle.solve_passes.specs.Records.{record_text}
use Rattle.solve_passes.specs.declared.progress.Printing.TheVariants.{All}
use Rattle.solve_top.specs.Files.{IsShort}
use Rattle.solve_top.specs.Jobs.{Asks}
use Rattle.solve_top.specs.Outcomes.{Outcome, NoMemory, ReadFault, Solving, SolvingBest, ComesOf, certified_text, outcome_status, outcome_text}
use Rattle.solve_top.specs.Parts.{parts_text}
use Rattle.solve_top.specs.Wholes.{HasWhole}

-- Words ask for a search of a domain and a problem with these texts, by all their dual bounds and preferences, and it came to this.
pub record Searches (first second : List ℕ) (outcome : Outcome) : Type 0 where
  pub words : List (List ℕ)
  pub files : List ℕ → Option (List ℕ)
  pub domain : List ℕ
  pub problem : List ℕ
  pub search : Search
  pub asks : Asks words (jobs.Solve domain problem search)
  pub believed : search.proved ≡ false
  pub first_is : files domain ≡ Some first
  pub second_is : files problem ≡ Some second
  pub comes : ComesOf words files outcome

-- Words ask for a check of a whole certificate over a domain and a problem with these texts, where this is the third text, and it came to
-- this.
pub record Checks (first second third : List ℕ) (outcome : Outcome) : Type 0 where
  pub words : List (List ℕ)
  pub files : List ℕ → Option (List ℕ)
  pub domain : List ℕ
  pub problem : List ℕ
  pub text : List ℕ
  pub asks : Asks words (jobs.Check domain problem text false None)
  pub first_is : files domain ≡ Some first
  pub second_is : files problem ≡ Some second
  pub third_is : files text ≡ Some third
  pub comes : ComesOf words files outcome

-- what a search printed in front of what stands behind its verdict
abbrev pub front_text : Outcome → List ℕ
front_text (Solving model proved searched search run behind) = parts_text model proved ++ record_text (All search.announce) searched run
front_text (SolvingBest model proved searched search run behind) = parts_text model proved ++ run_text searched run
front_text outcome = []

-- no printed step is `certificate 1` where the next one is `keep layer` or `keep all`
abbrev pub HidesNone : Outcome → Type 0
HidesNone outcome = IsTrue (hides_none false (lines (front_text outcome)))

-- The claim is certified, and that is told; or a read failed, or memory ran out.
abbrev pub Certifies : Claim → Outcome → Type 0
Certifies claim (ReadFault file) = Unit {0}
Certifies claim NoMemory = Unit {0}
Certifies claim outcome = (outcome_status outcome ≡ statuses.Success) × (outcome_text outcome ≡ certified_text claim)

-- Where a search printed a whole certificate, and its text is short enough to be read and hides no other, a check of this text over the
-- same two texts tells that the claim is certified.
abbrev pub LawCertifiedBack : Type 0
LawCertifiedBack =
    (first second : List ℕ) (printed told : Outcome) (cert : Cert) → Searches first second printed → HasWhole printed cert
    → IsShort (outcome_text printed) → HidesNone printed → Checks first second (outcome_text printed) told → Certifies cert.claim told
