-- What a run of the program may come to: the text that it prints, its status, and when it may come.
use Rattle.std.specs.Prelude.{◌≡◌, ℕ, ◌⊎◌, Bool, false, List, [], ◌∷◌, ◌++◌, length, take, Option, Some, None, codes, decimal}
use Rattle.dp_outside.specs.Outside.{Takes, TakesFront}
use Rattle.dp_model.specs.declared.answers.Options.{Options}
use Rattle.dp_model.specs.declared.whole.Model.{Model}
use Rattle.run_ends.specs.Statuses.{verdict_status}
use Rattle.solve_passes.specs.Counted.{IsCounted}
use Rattle.solve_passes.specs.Records.{Record, Right, KeepsWord, claim_of, record_text, ending_status}
use Rattle.kept_claims.specs.Searched.{IsSearched, WordOf, WordOfBest}
use Rattle.kept_model.specs.declared.kept.Kept.{Kept}
use Rattle.solve_passes.specs.declared.progress.Printing.TheVariants.{All, VerdictAlone}
use Rattle.run_ends.specs.declared.status.Status.{Status}
use Rattle.run_ends.specs.declared.status.Status.TheVariants as statuses
use Rattle.dp_base.specs.Bytes.{line}
use Rattle.solve_report.specs.Lines.{file_name, refusal_text, verdict_text, show_text}
use Rattle.std.specs.Fmt.{signed_decimal}
use Rattle.dp_model.specs.declared.answers.Claim.{Claim}
use Rattle.dp_model.specs.declared.answers.Claim.TheVariants as claims
use Rattle.dp_model.specs.declared.answers.Verdict.{Verdict}
use Rattle.dp_model.specs.declared.answers.Verdict.TheVariants as verdicts
use Rattle.dypdl_nodes.specs.Reads.{Refusal}
use Rattle.best_ledger.specs.Right.{BestRun, RightBest}
use Rattle.solve_best.specs.Counted as bests
use Rattle.solve_best.specs.Texts.{run_text}
use Rattle.solve_best.specs.Texts as best
use Rattle.command_line.specs.declared.jobs.Engine.TheVariants as engines
use Rattle.command_line.specs.declared.jobs.Job.{Job}
use Rattle.command_line.specs.declared.jobs.Job.TheVariants as jobs
use Rattle.command_line.specs.declared.jobs.Search.{Search}
use Rattle.replay_list.specs.Replays.{replayed}
use Rattle.replay_list.specs.declared.replayed.Replayed.{Replayed as Told}
use Rattle.replay_list.specs.declared.replayed.Replayed.TheVariants as tellings
use Rattle.model_gen.specs.Texts.{domain_text, problem_text}
use Rattle.model_gen.specs.declared.kinds.GenKind.{GenKind}
use Rattle.model_gen.specs.declared.kinds.GenKind.TheVariants as kinds
use Rattle.cert_types.specs.declared.cert.Cert.{Cert}
use Rattle.cert_types.specs.declared.parts.CheckPart.{CheckPart}
use Rattle.cert_laws.specs.PartChecks.{checked_by}
use Rattle.cert_laws.specs.declared.answers.CertReason.{CertReason}
use Rattle.cert_laws.specs.declared.answers.CertReason.TheVariants as reasons
use Rattle.cert_laws.specs.declared.answers.Checked.{Checked as Findings}
use Rattle.cert_laws.specs.declared.answers.Checked.TheVariants as findings
use Rattle.solve_top.specs.Behind.{Behind, IsAnnounced, IsBehind, behind_status, behind_text}
use Rattle.solve_top.specs.Jobs.{Asks, AskNothing, gen_options, keeping_all, names_of, third_of}
use Rattle.solve_top.specs.Files.{IsReached, IsFirstLong, OfTexts}
use Rattle.solve_top.specs.Parts.{parts_text}
use Rattle.solve_top.specs.Texts.{Means, MeanCert, MeanModel, MeanSteps, AreRefused, IsRefused}

pub data Outcome : Type 0 where
  -- the words ask for nothing
  NoMeaning : Outcome
  -- a read of that file failed
  ReadFault : (file : ℕ) → Outcome
  -- that file has more bytes than are read
  TooLong : (file : ℕ) → Outcome
  -- a text, or what the texts mean, is refused
  Refused : (refusal : Refusal) → Outcome
  -- memory ran out before a model was loaded or told of, or while a list was replayed or a certificate was checked
  NoMemory : Outcome
  -- the model was searched layer by layer, or with what is proved of it alone, and this stands behind the verdict
  Solving : (model : Model) (proved : Option Kept) (searched : Model) (search : Search) (run : Record) (behind : Behind) → Outcome
  -- the same with the best node first
  SolvingBest : (model : Model) (proved : Option Kept) (searched : Model) (search : Search) (run : BestRun) (behind : Behind) → Outcome
  -- a list of steps of the model was replayed
  Replayed : (model : Model) (steps : List ℕ) (told : Told) → Outcome
  -- a certificate over the model was checked, or over what is proved of it alone, as a whole or in a part
  Checked : (model : Model) (proved : Option Kept) (searched : Model) (cert : Cert) (which : Option CheckPart) (told : Findings) → Outcome
  -- it was said what was understood of the model
  Shown : (model : Model) → Outcome
  -- a model was generated, and its texts mean none, or memory ran out before a model was loaded
  NoGenerated : (kind : GenKind) (size seed : ℕ) (refusal : Option Refusal) → Outcome
  -- a model was generated and searched
  Generated : (kind : GenKind) (size seed : ℕ) (model : Model) (options : Options) (run : Record) → Outcome

-- the word that names a kind of generated models
abbrev pub kind_text : GenKind → List ℕ
kind_text kinds.Path = codes "path"
kind_text kinds.Pack = codes "pack"
kind_text kinds.Tour = codes "tour"

-- the line of a generated model, and that of its number of ground transitions
abbrev pub gen_line : GenKind → (size seed : ℕ) → List ℕ
gen_line kind size seed = line (codes "gen " ++ kind_text kind ++ codes " " ++ decimal size ++ codes " " ++ decimal seed)

abbrev pub ground_line : Model → List ℕ
ground_line m = line (codes "ground " ++ decimal (length m.dp_ground))

-- what is printed in place of a model: a refusal, or that memory ran out
abbrev pub no_model_text : Option Refusal → List ℕ
no_model_text (Some r) = refusal_text r.place r.offset r.number
no_model_text None = line (codes "memory")

abbrev pub no_model_status : Option Refusal → Status
no_model_status (Some r) = statuses.Refused
no_model_status None = statuses.Memory

-- what is told of the replay of a list, as a verdict: a fault stands behind the steps that were done before it
abbrev pub replay_verdict : (steps : List ℕ) → Told → Verdict
replay_verdict steps (tellings.Legal cost) = verdicts.Legal cost
replay_verdict steps (tellings.Illegal done reason) = verdicts.Illegal done reason
replay_verdict steps (tellings.Faulted done spot kind) = verdicts.Fault (record { steps = take done steps; spot = spot; kind = kind })

-- the word that names a clause that fails, or a fault in its place
abbrev pub reason_word : CertReason → List ℕ
reason_word reasons.Claim = codes "Claim"
reason_word reasons.Target = codes "Target"
reason_word reasons.Node = codes "Node"
reason_word reasons.Cut = codes "Cut"
reason_word reasons.Step = codes "Step"
reason_word reasons.Fault = codes "Fault"

-- the line of a claim that is certified
abbrev pub certified_text : Claim → List ℕ
certified_text (claims.Optimal found) = line (codes "verdict certified optimal " ++ signed_decimal found.cost)
certified_text claims.Infeasible = line (codes "verdict certified infeasible")

-- the line of a certificate that is rejected, at this line of its file
abbrev pub rejected_text : (number : ℕ) → CertReason → List ℕ
rejected_text number reason = line (codes "verdict rejected " ++ (decimal number ++ (codes " " ++ reason_word reason)))

-- the line of a claim that is certified in a part
abbrev pub claimed_text : Claim → List ℕ
claimed_text (claims.Optimal found) = codes " certified optimal " ++ signed_decimal found.cost
claimed_text claims.Infeasible = codes " certified infeasible"

abbrev pub part_text : CheckPart → Claim → List ℕ
part_text part claim = line (codes "verdict part " ++ (decimal part.index ++ (codes " of " ++ (decimal part.count ++ claimed_text claim))))

-- the line of a yes
abbrev pub yes_text : (which : Option CheckPart) → Claim → List ℕ
yes_text None claim = certified_text claim
yes_text (Some part) claim = part_text part claim

-- the line that tells of a certificate
abbrev pub checked_text : (which : Option CheckPart) → Claim → Findings → List ℕ
checked_text which claim findings.Yes = yes_text which claim
checked_text which claim (findings.No number reason) = rejected_text number reason

abbrev pub checked_status : Findings → Status
checked_status findings.Yes = statuses.Success
checked_status (findings.No number reason) = statuses.Negative

abbrev pub outcome_text : Outcome → List ℕ
outcome_text NoMeaning = line (codes "usage: solve DOMAIN PROBLEM; replay DOMAIN PROBLEM LIST; show DOMAIN PROBLEM; gen KIND SIZE SEED; check DOMAIN PROBLEM CERT")
outcome_text (ReadFault file) = line (codes "read fault " ++ file_name file)
outcome_text (TooLong file) = line (codes "too long " ++ file_name file)
outcome_text (Refused r) = refusal_text r.place r.offset r.number
outcome_text NoMemory = line (codes "memory")
outcome_text (Solving model proved searched search run behind) = parts_text model proved ++ (record_text (All search.announce) searched run ++ behind_text searched search.options behind)
outcome_text (SolvingBest model proved searched search run behind) = parts_text model proved ++ (run_text searched run ++ behind_text searched (keeping_all search.options) behind)
outcome_text (Replayed model steps told) = verdict_text model (replay_verdict steps told)
outcome_text (Checked model proved searched cert which told) = parts_text model proved ++ checked_text which cert.claim told
outcome_text (Shown model) = show_text model
outcome_text (NoGenerated kind size seed refusal) = gen_line kind size seed ++ no_model_text refusal
outcome_text (Generated kind size seed model options run) = gen_line kind size seed ++ ground_line model ++ record_text VerdictAlone model run

abbrev pub outcome_status : Outcome → Status
outcome_status NoMeaning = statuses.Usage
outcome_status (ReadFault file) = statuses.ReadFault
outcome_status (TooLong file) = statuses.TooLong
outcome_status (Refused r) = statuses.Refused
outcome_status NoMemory = statuses.Memory
outcome_status (Solving model proved searched search run behind) = behind_status (ending_status run.ending) behind
outcome_status (SolvingBest model proved searched search run behind) = behind_status (best.ending_status run.ending) behind
outcome_status (Replayed model steps told) = verdict_status (replay_verdict steps told)
outcome_status (Checked model proved searched cert which told) = checked_status told
outcome_status (Shown model) = statuses.Success
outcome_status (NoGenerated kind size seed refusal) = no_model_status refusal
outcome_status (Generated kind size seed model options run) = ending_status run.ending

-- the texts of a generated model are refused so, where they are
abbrev pub IsRefusedOf : GenKind → (size seed : ℕ) → Option Refusal → Type 0
IsRefusedOf kind size seed None = Unit {0}
IsRefusedOf kind size seed (Some r) = IsRefused (domain_text kind) (problem_text kind size seed) r

-- A search layer by layer of a model, or of what is proved of it, with what stands behind its verdict: its record is right for what
-- was searched, counts what the shards did, and says so much of all legal lists of the model.
pub record IsSearch (m : Model) (proved : Option Kept) (searched : Model) (search : Search) (run : Record) (behind : Behind) : Type 0 where
  pub engine : search.engine ≡ engines.Beam
  pub is_searched : IsSearched m search.proved proved searched
  pub right : Right searched search.options search.gap run
  pub announcing : IsAnnounced search.announce run
  pub counted : IsCounted searched search.options run
  pub word : WordOf m proved search.options run
  pub stands : IsBehind search.certificate searched search.options (claim_of run) behind

-- the same with the best node first, whose visits are those of a ledger
pub record IsBestSearch (m : Model) (proved : Option Kept) (searched : Model) (search : Search) (run : BestRun) (behind : Behind) : Type 0 where
  pub engine : search.engine ≡ engines.Best
  pub is_searched : IsSearched m search.proved proved searched
  pub right : RightBest searched search.options run
  pub counted : bests.IsCounted searched search.options run
  pub word : WordOfBest m proved search.options run
  pub stands : IsBehind search.certificate searched (keeping_all search.options) (best.claim_of run) behind

-- When an outcome may come of these words, over these files. First all files are read, in order; then the domain's text is
-- looked at, the problem's text, the model that both mean, and the list or the certificate.
abbrev pub ComesOf : List (List ℕ) → (List ℕ → Option (List ℕ)) → Outcome → Type 0
ComesOf words files NoMeaning = AskNothing words
ComesOf words files (ReadFault file) = (job : Job) × Asks words job × IsReached files (names_of job) file
ComesOf words files (TooLong file) = (job : Job) × Asks words job × IsFirstLong files (names_of job) file
ComesOf words files (Refused r) = (job : Job) × Asks words job × OfTexts files (names_of job) (λ texts. AreRefused (third_of job) texts r)
ComesOf words files NoMemory = Unit {0}
ComesOf words files (Solving model proved searched search run behind) =
    (domain : List ℕ) × (problem : List ℕ) × Asks words (jobs.Solve domain problem search)
    × OfTexts files (domain ∷ problem ∷ []) (λ texts. MeanModel texts model) × IsSearch model proved searched search run behind
ComesOf words files (SolvingBest model proved searched search run behind) =
    (domain : List ℕ) × (problem : List ℕ) × Asks words (jobs.Solve domain problem search)
    × OfTexts files (domain ∷ problem ∷ []) (λ texts. MeanModel texts model) × IsBestSearch model proved searched search run behind
ComesOf words files (Replayed model steps told) =
    (domain : List ℕ) × (problem : List ℕ) × (list : List ℕ) × Asks words (jobs.Replay domain problem list)
    × OfTexts files (domain ∷ problem ∷ list ∷ []) (λ texts. MeanSteps texts model steps) × (told ≡ replayed model steps)
ComesOf words files (Checked model proved searched cert which told) =
    (domain : List ℕ) × (problem : List ℕ) × (text : List ℕ) × (asked : Bool) × Asks words (jobs.Check domain problem text asked which)
    × OfTexts files (domain ∷ problem ∷ text ∷ []) (λ texts. MeanCert texts model cert) × IsSearched model asked proved searched × (told ≡ checked_by which searched cert)
ComesOf words files (Shown model) =
    (domain : List ℕ) × (problem : List ℕ) × Asks words (jobs.Show domain problem) × OfTexts files (domain ∷ problem ∷ []) (λ texts. MeanModel texts model)
ComesOf words files (NoGenerated kind size seed refusal) = (workers : ℕ) × Asks words (jobs.Gen kind size seed workers) × IsRefusedOf kind size seed refusal
ComesOf words files (Generated kind size seed model options run) =
    (workers : ℕ) × Asks words (jobs.Gen kind size seed workers) × (options ≡ gen_options workers)
    × Means (domain_text kind) (problem_text kind size seed) model × Right model options false run × KeepsWord model options run.bound run.ending

-- The sink took the outcome's text and the status is the outcome's; or a write failed, the status is that, and the sink took a front of the text.
abbrev pub Printed : Option (List ℕ) → Option (List ℕ) → Outcome → Status → Type 0
Printed before after outcome status =
    ((status ≡ outcome_status outcome) × Takes before after (outcome_text outcome)) ⊎ ((status ≡ statuses.WriteFault) × TakesFront before after (outcome_text outcome))

-- A search of a model as it was asked for was printed, behind the lines of the parts; or memory ran out before.
abbrev pub SearchesFor : Model → Search → Option (List ℕ) → Option (List ℕ) → Status → Type 0
SearchesFor m search before after status =
    ((proved : Option Kept) × (searched : Model) × (run : Record) × (behind : Behind) × IsSearch m proved searched search run behind × Printed before after (Solving m proved searched search run behind) status)
    ⊎ (((proved : Option Kept) × (searched : Model) × (run : BestRun) × (behind : Behind) × IsBestSearch m proved searched search run behind × Printed before after (SolvingBest m proved searched search run behind) status)
    ⊎ Printed before after NoMemory status)

-- a certificate over the model, or over what is proved of it alone, was checked and it was printed what was told; or memory ran out
abbrev pub Checks : Model → Cert → (asked : Bool) → (which : Option CheckPart) → Option (List ℕ) → Option (List ℕ) → Status → Type 0
Checks m cert asked which before after status =
    ((proved : Option Kept) × (searched : Model) × IsSearched m asked proved searched × Printed before after (Checked m proved searched cert which (checked_by which searched cert)) status)
    ⊎ Printed before after NoMemory status

-- over these files a job comes to some outcome, which was printed
abbrev pub Does : Job → (List ℕ → Option (List ℕ)) → Option (List ℕ) → Option (List ℕ) → Status → Type 0
Does job files before after status = (words : List (List ℕ)) → Asks words job → (outcome : Outcome) × ComesOf words files outcome × Printed before after outcome status

-- A generated model was searched: its number of ground transitions and the verdict of a right record were printed, or a write failed
-- and a front of them was.
abbrev pub SolvesGenerated : Model → (workers : ℕ) → Option (List ℕ) → Option (List ℕ) → Status → Type 0
SolvesGenerated m workers before after status =
    (run : Record) × Right m (gen_options workers) false run × KeepsWord m (gen_options workers) run.bound run.ending
    × (((status ≡ ending_status run.ending) × Takes before after (ground_line m ++ record_text VerdictAlone m run)) ⊎ ((status ≡ statuses.WriteFault) × TakesFront before after (ground_line m ++ record_text VerdictAlone m run)))
