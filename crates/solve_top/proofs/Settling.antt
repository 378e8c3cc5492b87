-- A search of a model that meets no fault, with a budget that is enough, is settled.
use Rattle.std.proofs.Common.{◌≡◌, ℕ, ◌+◌, ◌*◌, ◌≤◌, inl, inr, Bool, true, false, List, [], ◌∷◌, Option, Some, None, refl, sym, subst, ◌∙◌, ap, length, arith}
use Rattle.std.specs.Prelude.{IfSome}
use Rattle.dp_claims.specs.Enough.{IsEnough}
use Rattle.dp_model.specs.declared.answers.Keep.{Keep}
use Rattle.dp_model.specs.declared.answers.Keep.TheVariants as keeps
use Rattle.dp_model.specs.declared.answers.Options.{Options}
use Rattle.dp_model.specs.declared.answers.Verdict.{Verdict}
use Rattle.dp_model.specs.declared.answers.Verdict.TheVariants as verdicts
use Rattle.dp_model.specs.declared.whole.Model.{Model}
use Rattle.command_line.specs.Jobs.{job_of}
use Rattle.best_ledger.specs.Right.{BestEnding, BestRun}
use Rattle.best_ledger.specs.Right as best
use Rattle.command_line.specs.declared.jobs.Engine.{Engine}
use Rattle.command_line.specs.declared.jobs.Job.{Job}
use Rattle.command_line.specs.declared.jobs.Job.TheVariants as jobs
use Rattle.command_line.specs.declared.jobs.Search.{Search}
use Rattle.dypdl_nodes.specs.Reads.{Refusal}
use Rattle.model_gen.specs.Texts.{domain_text, problem_text}
use Rattle.model_gen.specs.declared.kinds.GenKind.{GenKind}
use Rattle.kept_claims.specs.Searched.{IsSearched}
use Rattle.kept_claims.proofs.Runs.{enough_best_law, enough_law, faults_law}
use Rattle.kept_model.specs.Parts.{IsKept}
use Rattle.kept_model.specs.declared.kept.Kept.{Kept}
use Rattle.pass_ledger.proofs.Finite.{finite}
use Rattle.solve_passes.specs.Records.{Record, Ending, Ended, OutOfMemory, RightEnding, RightVerdict, ending_status}
use Rattle.solve_best.specs.Texts as bests
use Rattle.run_ends.specs.Statuses.{code_of}
use Rattle.run_ends.specs.declared.status.Status.{Status}
use Rattle.solve_top.specs.Answers.{CanEnd, CanEndBest, CanEndBy, IsSettled, IsSmall, MeetsNone, SettlesFiles, SettlesGenerated, SettlesSmall}
use Rattle.solve_top.specs.Behind.{Behind, Nothing, Whole, Begun, OutOfRoom, NoRoom, behind_status}
use Rattle.solve_top.specs.Files.{IsShort, IsLong, IsText, AreTexts, AtFile, OfTexts}
use Rattle.solve_top.specs.Jobs.{Asks, gen_options, names_of, third_of}
use Rattle.solve_top.specs.Outcomes.{Outcome, NoMeaning, ReadFault, TooLong, Refused, NoMemory, Solving, SolvingBest, Replayed, Checked, Shown, NoGenerated, Generated, ComesOf, Printed, outcome_status}
use Rattle.solve_top.specs.Texts.{Means, MeanModel, AreRefused, IsRefused, Steps, Third}
use Rattle.solve_top.proofs.OneMeaning.{one_meaning, meant_or_refused}

-- ---- codes

settled_as : (status : Status) (n : ℕ) → n ≡ code_of status → IsSettled (code_of status) → IsSettled n
settled_as status n e h = subst IsSettled (sym e) h

success : IsSettled 0
success = inl refl

negative : IsSettled 10
negative = inr (inl refl)

memory : IsSettled 6
memory = inr (inr (inl refl))

read_fault : IsSettled 4
read_fault = inr (inr (inr (inl refl)))

write_fault : IsSettled 5
write_fault = inr (inr (inr (inr refl)))

-- ---- a right record of such a model

ends_verdict : (m : Model) (options : Options) (gap : Bool) (r : Record) (v : Verdict) → RightVerdict m options gap r v → CanEnd m options → IsSettled (code_of (ending_status (Ended v)))
ends_verdict m options gap r (verdicts.Optimal c) right can = success
ends_verdict m options gap r verdicts.Infeasible right can = negative
ends_verdict m options gap r (verdicts.Stopped v) right can = absurd (right.2 can.enough)
ends_verdict m options gap r (verdicts.Fault f) right can = absurd (can.no_fault f.steps f.spot f.kind right)
ends_verdict m options gap r (verdicts.Legal c) right can = absurd right
ends_verdict m options gap r (verdicts.Illegal n reason) right can = absurd right

ends_well : (m : Model) (options : Options) (gap : Bool) (r : Record) (e : Ending) → RightEnding m options gap r e → CanEnd m options → IsSettled (code_of (ending_status e))
ends_well m options gap r (Ended v) right can = ends_verdict m options gap r v right.0 can
ends_well m options gap r OutOfMemory right can = memory

-- a right run of the best node first
best_ends_verdict : (m : Model) (options : Options) (r : BestRun) (v : Verdict) → best.RightVerdict m options r v → CanEndBest m options → IsSettled (code_of (bests.ending_status (best.Ended v)))
best_ends_verdict m options r (verdicts.Optimal c) right can = success
best_ends_verdict m options r verdicts.Infeasible right can = negative
best_ends_verdict m options r (verdicts.Stopped v) right can = absurd (can.enough right.2)
best_ends_verdict m options r (verdicts.Fault f) right can = absurd (can.no_fault f.steps f.spot f.kind right)
best_ends_verdict m options r (verdicts.Legal c) right can = absurd right
best_ends_verdict m options r (verdicts.Illegal n reason) right can = absurd right

best_ends_well : (m : Model) (options : Options) (r : BestRun) (e : BestEnding) → best.RightEnding m options r e → CanEndBest m options → IsSettled (code_of (bests.ending_status e))
best_ends_well m options r (best.Ended v) right can = best_ends_verdict m options r v right.0 can
best_ends_well m options r best.OutOfMemory right can = memory

-- ---- what is searched of such a model

no_fault_too : (m : Model) (kept : Kept) (other : Model) (prune : Bool) → IsKept m kept other → MeetsNone m prune → MeetsNone other prune
no_fault_too m kept other prune is none steps spot kind meets = let there = faults_law m kept other is prune steps spot kind meets in none steps there.0 there.1 there.2

pub ends_too : (m : Model) (asked : Bool) (proved : Option Kept) (searched : Model) (options : Options) → IsSearched m asked proved searched → CanEnd m options → CanEnd searched options
ends_too m false None searched options is can = subst (λ (x : Model). CanEnd x options) (sym is) can
ends_too m true (Some kept) searched options is can = record { no_fault = no_fault_too m kept searched options.prune is.1 can.no_fault; enough = enough_law m kept searched is.1 options.keep options.budget can.enough }
ends_too m false (Some kept) searched options is can = absurd is
ends_too m true None searched options is can = absurd is

pub best_ends_too : (m : Model) (asked : Bool) (proved : Option Kept) (searched : Model) (options : Options) → IsSearched m asked proved searched → CanEndBest m options → CanEndBest searched options
best_ends_too m false None searched options is can = subst (λ (x : Model). CanEndBest x options) (sym is) can
best_ends_too m true (Some kept) searched options is can = record { no_fault = no_fault_too m kept searched options.prune is.1 can.no_fault; enough = λ below. can.enough (enough_best_law m kept searched is.1 options.budget below) }
best_ends_too m false (Some kept) searched options is can = absurd is
best_ends_too m true None searched options is can = absurd is

-- what stands behind a verdict settles the run too
behind_settled : (status : Status) (behind : Behind) → IsSettled (code_of status) → IsSettled (code_of (behind_status status behind))
behind_settled status Nothing h = h
behind_settled status (Whole cert) h = h
behind_settled status (Begun claim layers why) h = h
behind_settled status (OutOfRoom claim layers) h = memory
behind_settled status NoRoom h = memory

-- ---- what cannot come where a job is asked for

some_one : {A : Type 0} (a b : A) → Some a ≡ Some b → a ≡ b
some_one a b e = cc

pub same_job : (words : List (List ℕ)) (a b : Job) → Asks words a → Asks words b → a ≡ b
same_job words a b x y = some_one a b (sym x ∙ y)

pub none_asked : (words : List (List ℕ)) (a : Job) → Asks words a → job_of words ≡ None → ⊥
none_asked words a x e = let clash : Some a ≡ None = sym x ∙ e in absurd cc

long_or_short : (bytes : List ℕ) → IsShort bytes → IsLong bytes → ⊥
long_or_short bytes short long = absurd (omega arith)

told_short : (told : Option (List ℕ)) (bytes : List ℕ) → told ≡ Some bytes → IsShort bytes → IfSome told IsLong → ⊥
told_short None bytes e short long = absurd cc
told_short (Some t) bytes e short long = let same : t ≡ bytes = cc in long_or_short bytes short (subst IsLong same long)

told_as : (told : Option (List ℕ)) (bytes text : List ℕ) → told ≡ Some bytes → IsText told text → text ≡ bytes
told_as None bytes text e is = absurd cc
told_as (Some t) bytes text e is = let same : t ≡ bytes = cc in is ∙ same

-- ---- a search of files

module _ (words : List (List ℕ)) (files : List ℕ → Option (List ℕ)) (domain problem first second : List ℕ) (search : Search) (m : Model)
    (asks : Asks words (jobs.Solve domain problem search))
    (told : files domain ≡ Some first) (short : IsShort first)
    (told' : files problem ≡ Some second) (short' : IsShort second)
    (means : Means first second m)
    (can : CanEndBy search.engine m search.options) where
  not_too_long : (file : ℕ) → AtFile files 1 (domain ∷ problem ∷ []) file (λ t. IfSome t IsLong) → ⊥
  not_too_long file (inl h) = told_short (files domain) first told short h.1
  not_too_long file (inr (other, inl h)) = told_short (files problem) second told' short' h.1
  not_too_long file (inr (other, inr (also, none))) = none

  not_refused : (r : Refusal) (texts : List (List ℕ)) → AreTexts files (domain ∷ problem ∷ []) texts → AreRefused Steps texts r → ⊥
  not_refused r [] are h = are
  not_refused r (a ∷ []) are h = are.2
  not_refused r (a ∷ b ∷ []) are h =
      let same = told_as (files domain) first a told are.0 in
      let also = told_as (files problem) second b told' are.2.0 in
      meant_or_refused first second m r means (subst (λ (t : List ℕ). IsRefused first t r) also (subst (λ (t : List ℕ). IsRefused t b r) same h))
  not_refused r (a ∷ b ∷ c ∷ more) are h = are.2.2

  the_model : (other : Model) (texts : List (List ℕ)) → AreTexts files (domain ∷ problem ∷ []) texts → MeanModel texts other → other ≡ m
  the_model other [] are h = absurd h
  the_model other (a ∷ []) are h = absurd h
  the_model other (a ∷ b ∷ more) are h =
      let same = told_as (files domain) first a told are.0 in
      let also = told_as (files problem) second b told' are.2.0 in
      one_meaning first second other m (subst (λ (t : List ℕ). Means first t other) also (subst (λ (t : List ℕ). Means t b other) same h)) means

  -- the model of an outcome's texts
  the_other : (other : Model) (d p : List ℕ) → d ≡ domain → p ≡ problem → OfTexts files (d ∷ p ∷ []) (λ texts. MeanModel texts other) → other ≡ m
  the_other other d p same also h =
      let of_texts : OfTexts files (domain ∷ problem ∷ []) (λ texts. MeanModel texts other) =
      subst (λ (name : List ℕ). OfTexts files (domain ∷ name ∷ []) (λ texts. MeanModel texts other)) also (subst (λ (name : List ℕ). OfTexts files (name ∷ p ∷ []) (λ texts. MeanModel texts other)) same h) in
      the_model other of_texts.0 of_texts.1 of_texts.2

  named : (job : Job) → Asks words job → names_of job ≡ domain ∷ problem ∷ []
  named job also = ap names_of (same_job words job (jobs.Solve domain problem search) also asks)

  settles_as : (outcome : Outcome) → ComesOf words files outcome → IsSettled (code_of (outcome_status outcome))
  settles_as NoMeaning h = absurd (none_asked words (jobs.Solve domain problem search) asks h)
  settles_as (ReadFault file) h = read_fault
  settles_as (TooLong file) h = absurd (not_too_long file (subst (λ (names : List (List ℕ)). AtFile files 1 names file (λ t. IfSome t IsLong)) (named h.0 h.1) h.2))
  settles_as (Refused r) h =
      let of_texts : OfTexts files (domain ∷ problem ∷ []) (λ texts. AreRefused Steps texts r) = subst (λ (job : Job). OfTexts files (names_of job) (λ texts. AreRefused (third_of job) texts r)) (same_job words h.0 (jobs.Solve domain problem search) h.1 asks) h.2 in
      absurd (not_refused r of_texts.0 of_texts.1 of_texts.2)
  settles_as NoMemory h = memory
  settles_as (Solving other proved searched also run behind) h =
      let same : jobs.Solve h.0 h.1 also ≡ jobs.Solve domain problem search = same_job words (jobs.Solve h.0 h.1 also) (jobs.Solve domain problem search) h.2 asks in
      let d : h.0 ≡ domain = cc in
      let p : h.1 ≡ problem = cc in
      let o : also ≡ search = cc in
      let is = the_other other h.0 h.1 d p h.3 in
      let there : CanEndBy also.engine other also.options = subst (λ (x : Model). CanEndBy also.engine x also.options) (sym is) (subst (λ (x : Search). CanEndBy x.engine m x.options) (sym o) can) in
      let ends : CanEnd searched also.options = ends_too other also.proved proved searched also.options h.4.is_searched (subst (λ (e : Engine). CanEndBy e other also.options) h.4.engine there) in
      behind_settled (ending_status run.ending) behind (ends_well searched also.options also.gap run run.ending h.4.right.ending ends)
  settles_as (SolvingBest other proved searched also run behind) h =
      let same : jobs.Solve h.0 h.1 also ≡ jobs.Solve domain problem search = same_job words (jobs.Solve h.0 h.1 also) (jobs.Solve domain problem search) h.2 asks in
      let d : h.0 ≡ domain = cc in
      let p : h.1 ≡ problem = cc in
      let o : also ≡ search = cc in
      let is = the_other other h.0 h.1 d p h.3 in
      let there : CanEndBy also.engine other also.options = subst (λ (x : Model). CanEndBy also.engine x also.options) (sym is) (subst (λ (x : Search). CanEndBy x.engine m x.options) (sym o) can) in
      let ends : CanEndBest searched also.options = best_ends_too other also.proved proved searched also.options h.4.is_searched (subst (λ (e : Engine). CanEndBy e other also.options) h.4.engine there) in
      behind_settled (bests.ending_status run.ending) behind (best_ends_well searched also.options run run.ending h.4.right.ending ends)
  settles_as (Replayed other steps tells) h =
      let same : jobs.Replay h.0 h.1 h.2 ≡ jobs.Solve domain problem search = same_job words (jobs.Replay h.0 h.1 h.2) (jobs.Solve domain problem search) h.3 asks in
      absurd cc
  settles_as (Checked other proved searched cert which tells) h =
      let same : jobs.Check h.0 h.1 h.2 h.3 which ≡ jobs.Solve domain problem search = same_job words (jobs.Check h.0 h.1 h.2 h.3 which) (jobs.Solve domain problem search) h.4 asks in
      absurd cc
  settles_as (Shown other) h =
      let same : jobs.Show h.0 h.1 ≡ jobs.Solve domain problem search = same_job words (jobs.Show h.0 h.1) (jobs.Solve domain problem search) h.2 asks in
      absurd cc
  settles_as (NoGenerated kind size seed refusal) h =
      let same : jobs.Gen kind size seed h.0 ≡ jobs.Solve domain problem search = same_job words (jobs.Gen kind size seed h.0) (jobs.Solve domain problem search) h.1 asks in
      absurd cc
  settles_as (Generated kind size seed other also run) h =
      let same : jobs.Gen kind size seed h.0 ≡ jobs.Solve domain problem search = same_job words (jobs.Gen kind size seed h.0) (jobs.Solve domain problem search) h.1 asks in
      absurd cc

-- the same, for those who know what is asked for
pub settled_outcome : (words : List (List ℕ)) (files : List ℕ → Option (List ℕ)) (domain problem first second : List ℕ) (search : Search) (m : Model) → Asks words (jobs.Solve domain problem search)
    → files domain ≡ Some first → IsShort first → files problem ≡ Some second → IsShort second → Means first second m → CanEndBy search.engine m search.options
    → (outcome : Outcome) → ComesOf words files outcome → IsSettled (code_of (outcome_status outcome))
settled_outcome words files domain problem first second search m asks told short told' short' means can outcome comes = settles_as words files domain problem first second search m asks told short told' short' means can outcome comes

pub the_same_model : (words : List (List ℕ)) (files : List ℕ → Option (List ℕ)) (domain problem first second : List ℕ) (search : Search) (m : Model) → Asks words (jobs.Solve domain problem search)
    → files domain ≡ Some first → IsShort first → files problem ≡ Some second → IsShort second → Means first second m → CanEndBy search.engine m search.options
    → (other : Model) (d p : List ℕ) → d ≡ domain → p ≡ problem → OfTexts files (d ∷ p ∷ []) (λ texts. MeanModel texts other) → other ≡ m
the_same_model words files domain problem first second search m asks told short told' short' means can other d p same also h = the_other words files domain problem first second search m asks told short told' short' means can other d p same also h

printed_code : (before after : Option (List ℕ)) (outcome : Outcome) (status : Status) → Printed before after outcome status → IsSettled (code_of (outcome_status outcome)) → IsSettled (code_of status)
printed_code before after outcome status (inl h) settled = subst (λ (s : Status). IsSettled (code_of s)) (sym h.0) settled
printed_code before after outcome status (inr h) settled = subst (λ (s : Status). IsSettled (code_of s)) (sym h.0) write_fault

pub settles_files : (words : List (List ℕ)) (files : List ℕ → Option (List ℕ)) (before after : Option (List ℕ)) (outcome : Outcome) (status : Status) → ComesOf words files outcome → Printed before after outcome status → SettlesFiles words files (code_of status)
settles_files words files before after outcome status comes printed =
    λ domain problem first second search m asks told short told' short' means can.
    printed_code before after outcome status printed (settles_as words files domain problem first second search m asks told short told' short' means can outcome comes)

-- ---- a search of a small model

-- more than enough is enough
more_enough : (m : Model) (keep : Keep) (few budget : ℕ) → IsEnough m keep few → few ≤ budget → IsEnough m keep budget
more_enough m keep few budget e le = record { r = e.r; width = e.width; k = e.k; reached = e.reached; widest = e.widest; doubled = e.doubled; within = omega (arith, e.within, le) }

can_end : (m : Model) (options : Options) → IsSmall m options → CanEnd m options
can_end m options small = record {
  no_fault = small.no_fault;
  enough = subst (λ (keep : Keep). IsEnough m keep options.budget) (sym small.keep)
      (more_enough m keeps.All (length small.states * length small.states * (length small.states + 1)) options.budget (finite m small.states small.are_states small.no_round) small.within);
}

pub settles_small : (words : List (List ℕ)) (files : List ℕ → Option (List ℕ)) (before after : Option (List ℕ)) (outcome : Outcome) (status : Status) → ComesOf words files outcome → Printed before after outcome status → SettlesSmall words files (code_of status)
settles_small words files before after outcome status comes printed =
    λ domain problem first second search m asks engine told short told' short' means small.
    settles_files words files before after outcome status comes printed domain problem first second search m asks told short told' short' means
    (subst (λ (e : Engine). CanEndBy e m search.options) (sym engine) (can_end m search.options small))

-- ---- a search of a generated model

module _ (words : List (List ℕ)) (files : List ℕ → Option (List ℕ)) (kind : GenKind) (size seed workers : ℕ) (m : Model)
    (asks : Asks words (jobs.Gen kind size seed workers))
    (means : Means (domain_text kind) (problem_text kind size seed) m)
    (can : CanEnd m (gen_options workers)) where
  no_files : (job : Job) → Asks words job → names_of job ≡ []
  no_files job also = ap names_of (same_job words job (jobs.Gen kind size seed workers) also asks)

  not_long : (file : ℕ) (names : List (List ℕ)) → names ≡ [] → AtFile files 1 names file (λ t. IfSome t IsLong) → ⊥
  not_long file [] e h = h
  not_long file (name ∷ names) e h = absurd cc

  no_texts : (third : Third) (r : Refusal) (names texts : List (List ℕ)) → names ≡ [] → AreTexts files names texts → AreRefused third texts r → ⊥
  no_texts third r [] [] e are h = h
  no_texts third r [] (t ∷ texts) e are h = are
  no_texts third r (name ∷ names) texts e are h = absurd cc

  settles_generated_as : (outcome : Outcome) → ComesOf words files outcome → IsSettled (code_of (outcome_status outcome))
  settles_generated_as NoMeaning h = absurd (none_asked words (jobs.Gen kind size seed workers) asks h)
  settles_generated_as (ReadFault file) h = read_fault
  settles_generated_as (TooLong file) h = absurd (not_long file (names_of h.0) (no_files h.0 h.1) h.2)
  settles_generated_as (Refused r) h = absurd (no_texts (third_of h.0) r (names_of h.0) h.2.0 (no_files h.0 h.1) h.2.1 h.2.2)
  settles_generated_as NoMemory h = memory
  settles_generated_as (Solving other proved searched also run behind) h =
      let same : jobs.Solve h.0 h.1 also ≡ jobs.Gen kind size seed workers = same_job words (jobs.Solve h.0 h.1 also) (jobs.Gen kind size seed workers) h.2 asks in
      absurd cc
  settles_generated_as (SolvingBest other proved searched also run behind) h =
      let same : jobs.Solve h.0 h.1 also ≡ jobs.Gen kind size seed workers = same_job words (jobs.Solve h.0 h.1 also) (jobs.Gen kind size seed workers) h.2 asks in
      absurd cc
  settles_generated_as (Replayed other steps tells) h =
      let same : jobs.Replay h.0 h.1 h.2 ≡ jobs.Gen kind size seed workers = same_job words (jobs.Replay h.0 h.1 h.2) (jobs.Gen kind size seed workers) h.3 asks in
      absurd cc
  settles_generated_as (Checked other proved searched cert which tells) h =
      let same : jobs.Check h.0 h.1 h.2 h.3 which ≡ jobs.Gen kind size seed workers = same_job words (jobs.Check h.0 h.1 h.2 h.3 which) (jobs.Gen kind size seed workers) h.4 asks in
      absurd cc
  settles_generated_as (Shown other) h =
      let same : jobs.Show h.0 h.1 ≡ jobs.Gen kind size seed workers = same_job words (jobs.Show h.0 h.1) (jobs.Gen kind size seed workers) h.2 asks in
      absurd cc
  settles_generated_as (NoGenerated k n s None) h = memory
  settles_generated_as (NoGenerated k n s (Some r)) h =
      let same : jobs.Gen k n s h.0 ≡ jobs.Gen kind size seed workers = same_job words (jobs.Gen k n s h.0) (jobs.Gen kind size seed workers) h.1 asks in
      let a : k ≡ kind = cc in
      let b : n ≡ size = cc in
      let c : s ≡ seed = cc in
      let refused : IsRefused (domain_text kind) (problem_text kind size seed) r =
      subst (λ (x : GenKind). IsRefused (domain_text x) (problem_text x size seed) r) a (subst (λ (x : ℕ). IsRefused (domain_text k) (problem_text k x seed) r) b (subst (λ (x : ℕ). IsRefused (domain_text k) (problem_text k n x) r) c h.2)) in
      absurd (meant_or_refused (domain_text kind) (problem_text kind size seed) m r means refused)
  settles_generated_as (Generated k n s other also run) h =
      let same : jobs.Gen k n s h.0 ≡ jobs.Gen kind size seed workers = same_job words (jobs.Gen k n s h.0) (jobs.Gen kind size seed workers) h.1 asks in
      let a : k ≡ kind = cc in
      let b : n ≡ size = cc in
      let c : s ≡ seed = cc in
      let w : h.0 ≡ workers = cc in
      let means_other : Means (domain_text kind) (problem_text kind size seed) other =
      subst (λ (x : GenKind). Means (domain_text x) (problem_text x size seed) other) a (subst (λ (x : ℕ). Means (domain_text k) (problem_text k x seed) other) b (subst (λ (x : ℕ). Means (domain_text k) (problem_text k n x) other) c h.3)) in
      let is = one_meaning (domain_text kind) (problem_text kind size seed) other m means_other means in
      let o : also ≡ gen_options workers = h.2 ∙ ap gen_options w in
      ends_well other also false run run.ending h.4.ending (subst (λ (x : Options). CanEnd other x) (sym o) (subst (λ (x : Model). CanEnd x (gen_options workers)) (sym is) can))

pub settles_generated : (words : List (List ℕ)) (files : List ℕ → Option (List ℕ)) (before after : Option (List ℕ)) (outcome : Outcome) (status : Status) → ComesOf words files outcome → Printed before after outcome status → SettlesGenerated words (code_of status)
settles_generated words files before after outcome status comes printed =
    λ kind size seed workers m asks means can.
    printed_code before after outcome status printed (settles_generated_as words files kind size seed workers m asks means can outcome comes)
