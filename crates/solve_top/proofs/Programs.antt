-- What a run of the program came to.
use Rattle.std.proofs.Common.{◌≡◌, ℕ, ◌≤◌, Bool, List, [], ◌∷◌, length, Option, Some, None, ◌⊎◌, inl, inr, refl, sym, ◌∙◌, subst, arith}
use Rattle.std.specs.Prelude.{IfSome, IfOk, IfErr, OnOk, OnErr, Result, Ok, Err}
use Rattle.std.specs.Result.{IsErrAnd}
use Rattle.command_line.specs.declared.jobs.Job.{Job}
use Rattle.command_line.specs.declared.jobs.Job.TheVariants as jobs
use Rattle.command_line.specs.declared.jobs.Search.{Search}
use Rattle.dp_model.specs.declared.answers.Options.{Options}
use Rattle.dp_model.specs.declared.answers.Verdict.TheVariants as verdicts
use Rattle.dp_model.specs.declared.whole.Model.{Model}
use Rattle.replay_list.specs.Replays.{replayed}
use Rattle.solve_top.specs.Files.{IsText, IsShort, IsLong, AreTexts, OfTexts}
use Rattle.solve_passes.specs.Ongoing.{Concluded}
use Rattle.solve_passes.specs.Records.{Ending, Ended, OutOfMemory, ending_status, record_text}
use Rattle.run_ends.specs.declared.solved.Solved.{Solved}
use Rattle.dp_base.specs.declared.place.Place.{Place}
use Rattle.dp_outside.specs.Outside.{Takes, TakesFront}
use Rattle.dp_outside.specs.declared.failing.Failed.{Failed}
use Rattle.solve_report.specs.Lines.{refusal_text}
use Rattle.solve_report.specs.Puts.{Puts}
use Rattle.run_ends.specs.Statuses.{code_of}
use Rattle.solve_passes.specs.declared.progress.Printing.{Printing}
use Rattle.run_ends.specs.declared.status.Status.{Status}
use Rattle.run_ends.specs.declared.status.Status.TheVariants as statuses
use Rattle.cert_types.specs.declared.cert.Cert.{Cert}
use Rattle.cert_types.specs.declared.parts.CheckPart.{CheckPart}
use Rattle.cert_laws.specs.PartChecks.{checked_by}
use Rattle.solve_top.specs.Jobs.{Asks, names_of, third_of}
use Rattle.solve_top.specs.Outcomes.{NoMemory, Solving, SolvingBest, Replayed, Checked, Shown, Checks, ComesOf, Does, Printed, SearchesFor}
use Rattle.solve_top.specs.Runs.{outcome_of, RefusedBy, IsUnread, GiveNothing}
use Rattle.solve_top.specs.Texts.{Means, IsRefused, MeanCert, MeanModel, MeanSteps, AreRefused, Third}
use Rattle.solve_top.specs.declared.causes.NoModel.{NoModel}
use Rattle.solve_top.specs.declared.causes.NoModel.TheVariants as causes

-- what a search printed, without its claim
pub as_printed : {m : Model} {options : Options} {gap : Bool} {printing : Printing} {before after : Option (List ℕ)} {solved : Solved} (c : Concluded m options gap printing before after solved) →
    ((solved.status ≡ ending_status c.run.ending) × Takes before after (record_text printing m c.run)) ⊎ ((solved.status ≡ statuses.WriteFault) × TakesFront before after (record_text printing m c.run))
as_printed c = elim c.printed [ inl h ↦ inl (h.0, h.1) | inr h ↦ inr (h.0, h.1) ]

-- a model that was loaded was searched
pub searched : (files : List ℕ → Option (List ℕ)) (domain problem : List ℕ) (search : Search) (m : Model) (before after : Option (List ℕ)) (status : Status) →
    OfTexts files (domain ∷ problem ∷ []) (λ texts. MeanModel texts m) → SearchesFor m search before after status → Does (jobs.Solve domain problem search) files before after status
searched files domain problem search m before after status texts (inl (proved, other, run, behind, is, printed)) = λ words asks. (Solving m proved other search run behind, (domain, problem, asks, texts, is), printed)
searched files domain problem search m before after status texts (inr (inl (proved, other, run, behind, is, printed))) = λ words asks. (SolvingBest m proved other search run behind, (domain, problem, asks, texts, is), printed)
searched files domain problem search m before after status texts (inr (inr printed)) = λ words asks. (NoMemory, tt, printed)

-- a list was replayed, or memory ran out
pub was_replayed : (files : List ℕ → Option (List ℕ)) (domain problem list : List ℕ) (m : Model) (steps : List ℕ) (before after : Option (List ℕ)) (status : Status) →
    OfTexts files (domain ∷ problem ∷ list ∷ []) (λ texts. MeanSteps texts m steps) → Printed before after (Replayed m steps (replayed m steps)) status ⊎ Printed before after NoMemory status →
    Does (jobs.Replay domain problem list) files before after status
was_replayed files domain problem list m steps before after status texts (inl printed) = λ words asks. (Replayed m steps (replayed m steps), (domain, problem, list, asks, texts, refl), printed)
was_replayed files domain problem list m steps before after status texts (inr printed) = λ words asks. (NoMemory, tt, printed)

-- a certificate was checked, or memory ran out
pub was_checked : (files : List ℕ → Option (List ℕ)) (domain problem text : List ℕ) (asked : Bool) (which : Option CheckPart) (m : Model) (cert : Cert) (before after : Option (List ℕ)) (status : Status) →
    OfTexts files (domain ∷ problem ∷ text ∷ []) (λ texts. MeanCert texts m cert) → Checks m cert asked which before after status → Does (jobs.Check domain problem text asked which) files before after status
was_checked files domain problem text asked which m cert before after status texts (inl (proved, other, is, printed)) = λ words asks. (Checked m proved other cert which (checked_by which other cert), (domain, problem, text, asked, asks, texts, is, refl), printed)
was_checked files domain problem text asked which m cert before after status texts (inr printed) = λ words asks. (NoMemory, tt, printed)

-- a model that was loaded was shown
pub was_shown : (files : List ℕ → Option (List ℕ)) (domain problem : List ℕ) (m : Model) (before after : Option (List ℕ)) (status : Status) →
    OfTexts files (domain ∷ problem ∷ []) (λ texts. MeanModel texts m) → Printed before after (Shown m) status → Does (jobs.Show domain problem) files before after status
was_shown files domain problem m before after status texts printed = λ words asks. (Shown m, (domain, problem, asks, texts), printed)

-- a job's files gave nothing to work on
gave_nothing : (files : List ℕ → Option (List ℕ)) (job : Job) (words : List (List ℕ)) (e : NoModel) → Asks words job → GiveNothing (third_of job) files (names_of job) e → ComesOf words files (outcome_of e)
gave_nothing files job words (causes.ReadFault file) asks h = (job, asks, h)
gave_nothing files job words (causes.TooLong file) asks h = (job, asks, h)
gave_nothing files job words (causes.Refused number place offset) asks h = (job, asks, h)
gave_nothing files job words causes.Memory asks h = tt

pub did_nothing : (files : List ℕ → Option (List ℕ)) (job : Job) (e : NoModel) (before after : Option (List ℕ)) (status : Status) → GiveNothing (third_of job) files (names_of job) e → Printed before after (outcome_of e) status → Does job files before after status
did_nothing files job e before after status h printed = λ words asks. (outcome_of e, gave_nothing files job words e asks h, printed)

-- a refusal was printed
pub refused_printed : (before after : Option (List ℕ)) (f g : ℕ) (cause : NoModel) (number : ℕ) (place : Place) (offset : Option ℕ) (put : Result (Unit {0}) Failed) (status : Status) → cause ≡ causes.Refused number place offset →
    Puts before after f g (refusal_text place offset number) put → OnOk put (status ≡ statuses.Refused) → OnErr put (status ≡ statuses.WriteFault) → Printed before after (outcome_of cause) status
refused_printed before after f g cause number place offset (Ok done) status is puts ok err = subst (λ (e : NoModel). Printed before after (outcome_of e) status) (sym is) (inl (ok, puts.ok))
refused_printed before after f g cause number place offset (Err failed) status is puts ok err = subst (λ (e : NoModel). Printed before after (outcome_of e) status) (sym is) (inr (err, puts.err))

not_read_fault : (e : Ending) → ending_status e ≡ statuses.ReadFault → ⊥
not_read_fault (Ended (verdicts.Optimal c)) h = absurd cc
not_read_fault (Ended verdicts.Infeasible) h = absurd cc
not_read_fault (Ended (verdicts.Stopped v)) h = absurd cc
not_read_fault (Ended (verdicts.Fault f)) h = absurd cc
not_read_fault (Ended (verdicts.Legal c)) h = absurd cc
not_read_fault (Ended (verdicts.Illegal n r)) h = absurd cc
not_read_fault OutOfMemory h = absurd cc

-- no search ends with the status of a read fault
pub no_read_fault : (m : Model) (options : Options) (gap : Bool) (printing : Printing) (before after : Option (List ℕ)) (solved : Solved) → Concluded m options gap printing before after solved → solved.status ≡ statuses.ReadFault → ⊥
no_read_fault m options gap printing before after solved c h = elim c.printed [ inl p ↦ not_read_fault c.run.ending (sym p.0 ∙ h) | inr p ↦ let e : statuses.WriteFault ≡ statuses.ReadFault = sym p.0 ∙ h in absurd cc ]

-- a status is known by its number

pub read_fault_code : (status : Status) → code_of status ≡ 4 → status ≡ statuses.ReadFault
read_fault_code statuses.Success h = absurd (omega (arith, h))
read_fault_code statuses.Usage h = absurd (omega (arith, h))
read_fault_code statuses.Refused h = absurd (omega (arith, h))
read_fault_code statuses.ReadFault h = refl
read_fault_code statuses.WriteFault h = absurd (omega (arith, h))
read_fault_code statuses.Memory h = absurd (omega (arith, h))
read_fault_code statuses.TooLong h = absurd (omega (arith, h))
read_fault_code statuses.Negative h = absurd (omega (arith, h))
read_fault_code statuses.Stopped h = absurd (omega (arith, h))
read_fault_code statuses.Fault h = absurd (omega (arith, h))

pub write_fault_code : (status : Status) → code_of status ≡ 5 → status ≡ statuses.WriteFault
write_fault_code statuses.Success h = absurd (omega (arith, h))
write_fault_code statuses.Usage h = absurd (omega (arith, h))
write_fault_code statuses.Refused h = absurd (omega (arith, h))
write_fault_code statuses.ReadFault h = absurd (omega (arith, h))
write_fault_code statuses.WriteFault h = refl
write_fault_code statuses.Memory h = absurd (omega (arith, h))
write_fault_code statuses.TooLong h = absurd (omega (arith, h))
write_fault_code statuses.Negative h = absurd (omega (arith, h))
write_fault_code statuses.Stopped h = absurd (omega (arith, h))
write_fault_code statuses.Fault h = absurd (omega (arith, h))

-- ---- files

-- a file whose bytes were read is short
pub short_file : (told : Option (List ℕ)) (bytes : List ℕ) → IsText told bytes → length bytes ≤ 16777216 → IfSome told IsShort
short_file None bytes text short = tt
short_file (Some t) bytes text short = subst (λ (b : List ℕ). length b ≤ 16777216) text short

-- why the first file was not read
pub first_unread : (files : List ℕ → Option (List ℕ)) (name : List ℕ) (names : List (List ℕ)) (e : NoModel) → (e ≡ causes.ReadFault 1) ⊎ ((e ≡ causes.TooLong 1) × IfSome (files name) IsLong) ⊎ (e ≡ causes.Memory) → IsUnread files (name ∷ names) e
first_unread files name names e (inl same) = subst (IsUnread files (name ∷ names)) (sym same) (inl (refl, tt))
first_unread files name names e (inr (inl long)) = subst (IsUnread files (name ∷ names)) (sym long.0) (inl (refl, long.1))
first_unread files name names e (inr (inr same)) = subst (IsUnread files (name ∷ names)) (sym same) tt

-- why the second file was not read
pub second_unread : (files : List ℕ → Option (List ℕ)) (first name : List ℕ) (names : List (List ℕ)) (e : NoModel) → IfSome (files first) IsShort → (e ≡ causes.ReadFault 2) ⊎ ((e ≡ causes.TooLong 2) × IfSome (files name) IsLong) ⊎ (e ≡ causes.Memory) → IsUnread files (first ∷ name ∷ names) e
second_unread files first name names e short (inl same) = subst (IsUnread files (first ∷ name ∷ names)) (sym same) (inr (short, inl (refl, tt)))
second_unread files first name names e short (inr (inl long)) = subst (IsUnread files (first ∷ name ∷ names)) (sym long.0) (inr (short, inl (refl, long.1)))
second_unread files first name names e short (inr (inr same)) = subst (IsUnread files (first ∷ name ∷ names)) (sym same) tt

-- why the third file was not read
pub third_unread : (third : Third) (files : List ℕ → Option (List ℕ)) (first second name : List ℕ) (names : List (List ℕ)) (e : NoModel) → IfSome (files first) IsShort → IfSome (files second) IsShort → (e ≡ causes.ReadFault 3) ⊎ ((e ≡ causes.TooLong 3) × IfSome (files name) IsLong) ⊎ (e ≡ causes.Memory) → GiveNothing third files (first ∷ second ∷ name ∷ names) e
third_unread third files first second name names e short also (inl same) = subst (GiveNothing third files (first ∷ second ∷ name ∷ names)) (sym same) (inr (short, inr (also, inl (refl, tt))))
third_unread third files first second name names e short also (inr (inl long)) = subst (GiveNothing third files (first ∷ second ∷ name ∷ names)) (sym long.0) (inr (short, inr (also, inl (refl, long.1))))
third_unread third files first second name names e short also (inr (inr same)) = subst (GiveNothing third files (first ∷ second ∷ name ∷ names)) (sym same) tt

-- files that were not all read give nothing
pub unread_gives : (third : Third) (files : List ℕ → Option (List ℕ)) (names : List (List ℕ)) (e : NoModel) → IsUnread files names e → GiveNothing third files names e
unread_gives third files names (causes.ReadFault file) h = h
unread_gives third files names (causes.TooLong file) h = h
unread_gives third files names (causes.Refused number place offset) h = absurd h
unread_gives third files names causes.Memory h = tt

-- nor do they with one file more
pub unread_of_three : (third : Third) (files : List ℕ → Option (List ℕ)) (first second last : List ℕ) (e : NoModel) → IsUnread files (first ∷ second ∷ []) e → GiveNothing third files (first ∷ second ∷ last ∷ []) e
unread_of_three third files first second last (causes.ReadFault file) (inl h) = inl h
unread_of_three third files first second last (causes.ReadFault file) (inr (short, inl h)) = inr (short, inl h)
unread_of_three third files first second last (causes.ReadFault file) (inr (short, inr h)) = absurd h.1
unread_of_three third files first second last (causes.TooLong file) (inl h) = inl h
unread_of_three third files first second last (causes.TooLong file) (inr (short, inl h)) = inr (short, inl h)
unread_of_three third files first second last (causes.TooLong file) (inr (short, inr h)) = absurd h.1
unread_of_three third files first second last (causes.Refused number place offset) h = absurd h
unread_of_three third files first second last causes.Memory h = tt

-- texts that are refused give nothing
pub refused_gives : (third : Third) (files : List ℕ → Option (List ℕ)) (names texts : List (List ℕ)) (e : NoModel) → AreTexts files names texts → RefusedBy (AreRefused third texts) e → GiveNothing third files names e
refused_gives third files names texts (causes.Refused number place offset) are h = (texts, are, h)
refused_gives third files names texts causes.Memory are h = tt
refused_gives third files names texts (causes.ReadFault file) are h = absurd h
refused_gives third files names texts (causes.TooLong file) are h = absurd h

-- an error that is passed on
pub passed_on : {A : Type 0} (r : Result A NoModel) (e : NoModel) (P : NoModel → Type 0) → IsErrAnd r (λ x. x ≡ e) → P e → IfErr r P
passed_on (Ok m) e P same known = tt
passed_on (Err x) e P same known = subst P (sym same) known

-- the model of the texts that were read
pub read_model : (files : List ℕ → Option (List ℕ)) (names : List (List ℕ)) (d p : List ℕ) (r : Result Model NoModel) → AreTexts files names (d ∷ p ∷ []) → IfOk r (λ m. Means d p m) → IfOk r (λ m. OfTexts files names (λ texts. MeanModel texts m))
read_model files names d p (Ok m) are means = (d ∷ p ∷ [], are, means)
read_model files names d p (Err e) are means = tt

-- why these texts have no model
pub read_no_model : (third : Third) (files : List ℕ → Option (List ℕ)) (names : List (List ℕ)) (d p : List ℕ) (r : Result Model NoModel) → AreTexts files names (d ∷ p ∷ []) → IfErr r (RefusedBy (IsRefused d p)) → IfErr r (GiveNothing third files names)
read_no_model third files names d p (Ok m) are h = tt
read_no_model third files names d p (Err e) are h = refused_gives third files names (d ∷ p ∷ []) e are h

-- the steps of the texts that were read
pub read_steps : {A : Type 0} (files : List ℕ → Option (List ℕ)) (names texts : List (List ℕ)) (model : A → Model) (steps : A → List ℕ) (r : Result A NoModel) → AreTexts files names texts → IfOk r (λ l. MeanSteps texts (model l) (steps l)) → IfOk r (λ l. OfTexts files names (λ ts. MeanSteps ts (model l) (steps l)))
read_steps files names texts model steps (Ok l) are means = (texts, are, means)
read_steps files names texts model steps (Err e) are means = tt

pub read_no_steps : {A : Type 0} (third : Third) (files : List ℕ → Option (List ℕ)) (names texts : List (List ℕ)) (r : Result A NoModel) → AreTexts files names texts → IfErr r (RefusedBy (AreRefused third texts)) → IfErr r (GiveNothing third files names)
read_no_steps third files names texts (Ok l) are h = tt
read_no_steps third files names texts (Err e) are h = refused_gives third files names texts e are h

-- the certificate of the texts that were read
pub read_cert : {A : Type 0} (files : List ℕ → Option (List ℕ)) (names texts : List (List ℕ)) (model : A → Model) (cert : A → Cert) (r : Result A NoModel) → AreTexts files names texts → IfOk r (λ c. MeanCert texts (model c) (cert c)) → IfOk r (λ c. OfTexts files names (λ ts. MeanCert ts (model c) (cert c)))
read_cert files names texts model cert (Ok c) are means = (texts, are, means)
read_cert files names texts model cert (Err e) are means = tt
