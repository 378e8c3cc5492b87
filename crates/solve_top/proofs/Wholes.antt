-- Where what a search says rests on truth and the budget is enough, its certificate is whole.
use Rattle.std.proofs.Common.{◌≡◌, ℕ, ◌+◌, ◌*◌, ◌≤◌, ◌⊎◌, inl, inr, Bool, true, false, List, [], ◌∷◌, ◌++◌, Option, Some, None, refl, sym, subst, ◌∙◌, ap, arith, ℤ, length}
use Rattle.std.specs.Prelude.{option_map}
use Rattle.dp_outside.specs.Outside.{Takes}
use Rattle.dp_model.specs.Costs.{IsBetter}
use Rattle.dp_model.specs.declared.answers.Claim.{Claim}
use Rattle.dp_model.specs.declared.answers.Claim.TheVariants as claims
use Rattle.dp_model.specs.declared.answers.Found.{Found}
use Rattle.dp_model.specs.declared.answers.Keep.{Keep}
use Rattle.dp_model.specs.declared.answers.Options.{Options}
use Rattle.dp_model.specs.declared.answers.Verdict.{Verdict}
use Rattle.dp_model.specs.declared.answers.Verdict.TheVariants as verdicts
use Rattle.dp_model.specs.declared.answers.Written.{Written}
use Rattle.dp_model.specs.declared.answers.Written.TheVariants as writtens
use Rattle.dp_model.specs.declared.whole.Model.{Model}
use Rattle.dp_steps.specs.Lists.{Solution}
use Rattle.dp_claims.specs.Enough.{IsEnough, IsAtMostReached}
use Rattle.dp_claims.specs.Honest.{Honest}
use Rattle.best_ledger.specs.Right.{BestEnding, BestRun, KeepsWordBest, RightBest}
use Rattle.best_ledger.specs.Right as best
use Rattle.cert_laws.specs.Laws.{ClaimIsTrue, IsTrusted as IsTrustedCert}
use Rattle.cert_laws.specs.Shown.{Shown}
use Rattle.cert_making.specs.Written.{IsBetterThan, IsMade}
use Rattle.cert_types.specs.declared.cert.Cert.{Cert}
use Rattle.command_line.specs.declared.jobs.Engine.{Engine}
use Rattle.command_line.specs.declared.jobs.Engine.TheVariants as engines
use Rattle.command_line.specs.declared.jobs.Job.{Job}
use Rattle.command_line.specs.declared.jobs.Job.TheVariants as jobs
use Rattle.command_line.specs.declared.jobs.Search.{Search}
use Rattle.kept_claims.specs.Searched.{ClaimOf, IsSearched, WordOf, WordOfBest}
use Rattle.kept_claims.specs.Words.{VerdictIsTrue, EndingIsTrue, BestEndingIsTrue}
use Rattle.kept_claims.proofs.Searched.{searched_law}
use Rattle.kept_model.proofs.Choice.{kept_alike}
use Rattle.kept_model.proofs.Lists.{solution_too}
use Rattle.kept_model.specs.declared.kept.Kept.{Kept}
use Rattle.run_ends.specs.Claims.{optimal_claim}
use Rattle.run_ends.specs.Statuses.{code_of}
use Rattle.run_ends.specs.declared.status.Status.{Status}
use Rattle.run_ends.specs.declared.status.Status.TheVariants as statuses
use Rattle.solve_best.specs.Texts as bests
use Rattle.solve_passes.specs.Records.{Record, Ending, Ended, OutOfMemory, IsTrusted, KeepsWord, Right, RightEnding, claim_after, claim_of, ending_status, last_solution, solutions}
use Rattle.solve_top.specs.Answers.{CanEnd, CanEndBest, CanEndBy, IsSettled}
use Rattle.solve_top.specs.Behind.{Behind, Nothing, Whole, Begun, OutOfRoom, NoRoom, IsBehind, RightBehind, RightCause, behind_status}
use Rattle.solve_top.specs.Files.{IsShort}
use Rattle.solve_top.specs.Jobs.{Asks, keeping_all}
use Rattle.solve_top.specs.Outcomes.{Outcome, NoMeaning, ReadFault, TooLong, Refused, NoMemory, Solving, SolvingBest, Replayed, Checked, Shown as WasShown, NoGenerated, Generated, ComesOf, IsSearch, IsBestSearch, Printed, outcome_status, outcome_text}
use Rattle.solve_top.specs.Texts.{Means}
use Rattle.solve_top.specs.Wholes.{CanCertify, EndsWhole, HasWhole, RestsOnTruth, SettlesWhole, written_by}
use Rattle.solve_top.proofs.Settling.{best_ends_too, ends_too, none_asked, same_job, settled_outcome, the_same_model}

-- ---- what is searched

-- legal lists of what is searched are those of the model, and costs are compared in the same way
record Similar (m searched : Model) : Type 0 where
  minimize : searched.minimize ≡ m.minimize
  legal : (steps : List ℕ) (cost : ℤ) → Solution searched steps cost → Solution m steps cost

similar : (m : Model) (asked : Bool) (proved : Option Kept) (searched : Model) → IsSearched m asked proved searched → Similar m searched
similar m false None searched is = record { minimize = ap (λ (x : Model). x.minimize) is; legal = λ steps cost h. subst (λ (x : Model). Solution x steps cost) is h }
similar m true (Some kept) searched is = record { minimize = is.1.minimize; legal = solution_too m searched (kept_alike m kept searched is.1) }
similar m false (Some kept) searched is = absurd is
similar m true None searched is = absurd is

-- where the model itself is searched, what is said rests on an honest model or on no pruning
trusted_of : (m : Model) (asked : Bool) (searched : Model) (options : Options) → IsSearched m asked None searched → (asked ≡ true) ⊎ IsTrusted m options → IsTrusted m options
trusted_of m false searched options is (inl e) = absurd cc
trusted_of m false searched options is (inr trusted) = trusted
trusted_of m true searched options is rests = absurd is

trusted_cert : (m searched : Model) (options : Options) (claim : Claim) (cert : Cert) → IsMade searched options claim cert → IsTrusted m options → IsTrustedCert m cert
trusted_cert m searched options claim cert made (inl off) = inl (made.prune ∙ off)
trusted_cert m searched options claim cert made (inr honest) = inr (subst (Honest m) (sym made.keep) honest)

-- a whole certificate claims what is true of the model
claim_holds : (m : Model) (asked : Bool) (proved : Option Kept) (searched : Model) (options : Options) → IsSearched m asked proved searched → (asked ≡ true) ⊎ IsTrusted m options
    → (claim : Claim) (cert : Cert) → IsMade searched options claim cert → ClaimIsTrue m cert.claim
claim_holds m asked None searched options is rests claim cert made =
    searched_law.claim m asked None searched cert is made.shown (trusted_cert m searched options claim cert made (trusted_of m asked searched options is rests))
claim_holds m asked (Some kept) searched options is rests claim cert made = searched_law.claim m asked (Some kept) searched cert is made.shown

-- ---- why no certificate breaks off

-- the verdict claims so much
abbrev ClaimsFor : Verdict → Claim → Type 0
ClaimsFor (verdicts.Optimal c) (claims.Optimal f) = f.cost ≡ c
ClaimsFor (verdicts.Optimal c) claims.Infeasible = ⊥
ClaimsFor verdicts.Infeasible (claims.Optimal f) = ⊥
ClaimsFor verdicts.Infeasible claims.Infeasible = Unit {0}
ClaimsFor (verdicts.Stopped v) claim = ⊥
ClaimsFor (verdicts.Fault f) claim = ⊥
ClaimsFor (verdicts.Legal c) claim = ⊥
ClaimsFor (verdicts.Illegal n reason) claim = ⊥

no_better : (m searched : Model) (v : Verdict) (claim : Claim) → Similar m searched → ClaimsFor v claim → VerdictIsTrue m v → (found : Found) → Solution searched found.steps found.cost → IsBetterThan searched claim found.cost → ⊥
no_better m searched (verdicts.Optimal c) (claims.Optimal f) like same true_of found legal better =
    true_of found.steps found.cost (like.legal found.steps found.cost legal) (subst (IsBetter m.minimize found.cost) same (subst (λ (b : Bool). IsBetter b found.cost f.cost) like.minimize better))
no_better m searched (verdicts.Optimal c) claims.Infeasible like same true_of found legal better = same
no_better m searched verdicts.Infeasible (claims.Optimal f) like same true_of found legal better = same
no_better m searched verdicts.Infeasible claims.Infeasible like same true_of found legal better = true_of found.steps found.cost (like.legal found.steps found.cost legal)
no_better m searched (verdicts.Stopped v) claim like same true_of found legal better = same
no_better m searched (verdicts.Fault f) claim like same true_of found legal better = same
no_better m searched (verdicts.Legal c) claim like same true_of found legal better = same
no_better m searched (verdicts.Illegal n reason) claim like same true_of found legal better = same

at_least : (r k : ℕ) → r ≤ r * (k + 1)
at_least r k = omega arith

too_many : (m : Model) (keep : Keep) (budget visits : ℕ) → IsEnough m keep budget → visits ≡ budget → IsAtMostReached m keep (visits + 1) → ⊥
too_many m keep budget visits enough is reached =
    let most = enough.reached reached.0 reached.1 in
    absurd (omega (arith, most, reached.2, is, at_least enough.r enough.k, enough.within))

no_cause : (m searched : Model) (options : Options) (v : Verdict) (claim : Claim) (why : Written) → Similar m searched → ClaimsFor v claim → VerdictIsTrue m v → CanEnd searched options → RightCause searched options claim why → ⊥
no_cause m searched options v claim writtens.Whole like same true_of can h = h
no_cause m searched options v claim (writtens.Stopped visits) like same true_of can h = too_many searched options.keep options.budget visits can.enough h.0 h.1
no_cause m searched options v claim (writtens.Better found) like same true_of can h = no_better m searched v claim like same true_of found h.0 h.1
no_cause m searched options v claim (writtens.Fault fault) like same true_of can h = can.no_fault fault.steps fault.spot fault.kind h

-- ---- what stands behind

-- a whole certificate, whose claim is true of the model; or memory ran out
abbrev IsWholeOr : Model → Behind → Status → Type 0
IsWholeOr m behind status = ((cert : Cert) × (behind ≡ Whole cert) × ClaimIsTrue m cert.claim) ⊎ (code_of (behind_status status behind) ≡ 6)

whole_or : (m searched : Model) (options : Options) (v : Verdict) (claim : Claim) (status : Status) (behind : Behind) → Similar m searched → ClaimsFor v claim → VerdictIsTrue m v → CanEnd searched options
    → ((cert : Cert) → IsMade searched options claim cert → ClaimIsTrue m cert.claim) → RightBehind searched options claim behind → IsWholeOr m behind status
whole_or m searched options v claim status Nothing like same true_of can holds h = absurd h
whole_or m searched options v claim status (Whole cert) like same true_of can holds h = inl (cert, refl, holds cert h)
whole_or m searched options v claim status (Begun told layers why) like same true_of can holds h = absurd (no_cause m searched options v claim why like same true_of can h.2)
whole_or m searched options v claim status (OutOfRoom told layers) like same true_of can holds h = inr refl
whole_or m searched options v claim status NoRoom like same true_of can holds h = inr refl

nothing_told : (m : Model) (behind : Behind) → behind ≡ Nothing → IsWholeOr m behind statuses.Memory
nothing_told m behind e = inr (subst (λ (b : Behind). code_of (behind_status statuses.Memory b) ≡ 6) (sym e) refl)

-- ---- layer by layer

by_word : (m : Model) (options : Options) (bound : Option ℤ) (v : Verdict) → IsTrusted m options → KeepsWord m options bound (Ended v) → VerdictIsTrue m v
by_word m options bound (verdicts.Optimal cost) trusted h = h trusted
by_word m options bound verdicts.Infeasible trusted h = h trusted
by_word m options bound (verdicts.Stopped visits) trusted h = tt
by_word m options bound (verdicts.Fault fault) trusted h = tt
by_word m options bound (verdicts.Legal cost) trusted h = tt
by_word m options bound (verdicts.Illegal done reason) trusted h = tt

verdict_true : (m : Model) (proved : Option Kept) (options : Options) (run : Record) (v : Verdict) → (proved ≡ None → IsTrusted m options) → run.ending ≡ Ended v → WordOf m proved options run → VerdictIsTrue m v
verdict_true m (Some kept) options run v trusted e word = (subst (EndingIsTrue m run.bound) e word.ending).0
verdict_true m None options run v trusted e word = by_word m options run.bound v (trusted refl) (subst (KeepsWord m options run.bound) e word)

module _ (m : Model) (asked : Bool) (proved : Option Kept) (searched : Model) (options : Options) (gap : Bool) (run : Record) (behind : Behind)
    (is : IsSearched m asked proved searched) (rests : (asked ≡ true) ⊎ IsTrusted m options) (can : CanEnd searched options) (word : WordOf m proved options run) where
  trusted : proved ≡ None → IsTrusted m options
  trusted e = trusted_of m asked searched options (subst (λ (p : Option Kept). IsSearched m asked p searched) e is) rests

  behind_claim : (v : Verdict) (claim : Claim) (status : Status) → run.ending ≡ Ended v → ClaimsFor v claim → RightBehind searched options claim behind → IsWholeOr m behind status
  behind_claim v claim status e same h =
      whole_or m searched options v claim status behind (similar m asked proved searched is) same (verdict_true m proved options run v trusted e word) can (claim_holds m asked proved searched options is rests claim) h

  with_ending : (last : Option Found) (e : Ending) → last_solution (solutions run) ≡ last → run.ending ≡ e → RightEnding searched options gap run e → IsBehind true searched options (claim_after last e) behind → IsWholeOr m behind (ending_status e)
  with_ending last OutOfMemory at is_e right h = nothing_told m behind h
  with_ending None (Ended (verdicts.Optimal c)) at is_e right h =
      let clash : None ≡ Some c = sym (ap (option_map (λ (s : Found). s.cost)) at) ∙ right.0.0 in absurd cc
  with_ending (Some f) (Ended (verdicts.Optimal c)) at is_e right h =
      let both : Some f.cost ≡ Some c = sym (ap (option_map (λ (s : Found). s.cost)) at) ∙ right.0.0 in
      let same : f.cost ≡ c = cc in
      behind_claim (verdicts.Optimal c) (claims.Optimal f) (ending_status (Ended (verdicts.Optimal c))) is_e same h
  with_ending last (Ended verdicts.Infeasible) at is_e right h = behind_claim verdicts.Infeasible claims.Infeasible (ending_status (Ended verdicts.Infeasible)) is_e tt h
  with_ending last (Ended (verdicts.Stopped v)) at is_e right h = absurd (right.0.2 can.enough)
  with_ending last (Ended (verdicts.Fault f)) at is_e right h = absurd (can.no_fault f.steps f.spot f.kind right.0)
  with_ending last (Ended (verdicts.Legal c)) at is_e right h = absurd right.0
  with_ending last (Ended (verdicts.Illegal n reason)) at is_e right h = absurd right.0

  run_whole : Right searched options gap run → IsBehind true searched options (claim_of run) behind → IsWholeOr m behind (ending_status run.ending)
  run_whole right h = with_ending (last_solution (solutions run)) run.ending refl refl right.ending h

-- ---- the best node first

by_best_word : (m : Model) (options : Options) (v : Verdict) → IsTrusted m (keeping_all options) → KeepsWordBest m options (best.Ended v) → VerdictIsTrue m v
by_best_word m options (verdicts.Optimal cost) trusted h = h trusted
by_best_word m options verdicts.Infeasible trusted h = h trusted
by_best_word m options (verdicts.Stopped visits) trusted h = tt
by_best_word m options (verdicts.Fault fault) trusted h = tt
by_best_word m options (verdicts.Legal cost) trusted h = tt
by_best_word m options (verdicts.Illegal done reason) trusted h = tt

best_verdict_true : (m : Model) (proved : Option Kept) (options : Options) (run : BestRun) (v : Verdict) → (proved ≡ None → IsTrusted m (keeping_all options)) → run.ending ≡ best.Ended v → WordOfBest m proved options run → VerdictIsTrue m v
best_verdict_true m (Some kept) options run v trusted e word = subst (BestEndingIsTrue m) e word.ending
best_verdict_true m None options run v trusted e word = by_best_word m options v (trusted refl) (subst (KeepsWordBest m options) e word)

module _ (m : Model) (asked : Bool) (proved : Option Kept) (searched : Model) (options : Options) (run : BestRun) (behind : Behind)
    (is : IsSearched m asked proved searched) (rests : (asked ≡ true) ⊎ IsTrusted m (keeping_all options)) (can_search : CanEndBest searched options) (can : CanEnd searched (keeping_all options)) (word : WordOfBest m proved options run) where
  trusted_best : proved ≡ None → IsTrusted m (keeping_all options)
  trusted_best e = trusted_of m asked searched (keeping_all options) (subst (λ (p : Option Kept). IsSearched m asked p searched) e is) rests

  behind_best : (v : Verdict) (claim : Claim) (status : Status) → run.ending ≡ best.Ended v → ClaimsFor v claim → RightBehind searched (keeping_all options) claim behind → IsWholeOr m behind status
  behind_best v claim status e same h =
      whole_or m searched (keeping_all options) v claim status behind (similar m asked proved searched is) same (best_verdict_true m proved options run v trusted_best e word) can (claim_holds m asked proved searched (keeping_all options) is rests claim) h

  with_best : (found : Option Found) (e : BestEnding) → run.found ≡ found → run.ending ≡ e → best.RightEnding searched options run e → IsBehind true searched (keeping_all options) (bests.claim_of (record { found = found; visited = run.visited; ending = e })) behind → IsWholeOr m behind (bests.ending_status e)
  with_best found best.OutOfMemory at is_e right h = nothing_told m behind h
  with_best None (best.Ended (verdicts.Optimal c)) at is_e right h = let clash : None ≡ Some right.0.0 = sym at ∙ right.0.1 in absurd cc
  with_best (Some f) (best.Ended (verdicts.Optimal c)) at is_e right h =
      let both : Some f ≡ Some right.0.0 = sym at ∙ right.0.1 in
      let one : f ≡ right.0.0 = cc in
      behind_best (verdicts.Optimal c) (claims.Optimal f) (bests.ending_status (best.Ended (verdicts.Optimal c))) is_e (ap (λ (s : Found). s.cost) one ∙ right.0.2) h
  with_best found (best.Ended verdicts.Infeasible) at is_e right h = behind_best verdicts.Infeasible claims.Infeasible (bests.ending_status (best.Ended verdicts.Infeasible)) is_e tt h
  with_best found (best.Ended (verdicts.Stopped v)) at is_e right h = absurd (can_search.enough right.0.2)
  with_best found (best.Ended (verdicts.Fault f)) at is_e right h = absurd (can_search.no_fault f.steps f.spot f.kind right.0)
  with_best found (best.Ended (verdicts.Legal c)) at is_e right h = absurd right.0
  with_best found (best.Ended (verdicts.Illegal n reason)) at is_e right h = absurd right.0

  best_whole : RightBest searched options run → IsBehind true searched (keeping_all options) (bests.claim_of run) behind → IsWholeOr m behind (bests.ending_status run.ending)
  best_whole right h = with_best run.found run.ending refl refl right.ending h

-- ---- a search as it was asked for

-- what rests on truth and can be certified, for each engine
rests_by : (m : Model) (search : Search) (engine : Engine) → search.engine ≡ engine → RestsOnTruth m search → (search.proved ≡ true) ⊎ IsTrusted m (written_by engine search.options)
rests_by m search engine e rests = subst (λ (x : Engine). (search.proved ≡ true) ⊎ IsTrusted m (written_by x search.options)) e rests

search_whole : (m : Model) (proved : Option Kept) (searched : Model) (search : Search) (run : Record) (behind : Behind) → IsSearch m proved searched search run behind → search.certificate ≡ true → RestsOnTruth m search → CanCertify m search
    → IsWholeOr m behind (ending_status run.ending)
search_whole m proved searched search run behind h asked rests can =
    let can_here : CanEnd m search.options = subst (λ (e : Engine). CanEndBy e m search.options) h.engine can.searched in
    run_whole m search.proved proved searched search.options search.gap run behind h.is_searched (rests_by m search engines.Beam h.engine rests) (ends_too m search.proved proved searched search.options h.is_searched can_here) h.word h.right
    (subst (λ (c : Bool). IsBehind c searched search.options (claim_of run) behind) asked h.stands)

best_search_whole : (m : Model) (proved : Option Kept) (searched : Model) (search : Search) (run : BestRun) (behind : Behind) → IsBestSearch m proved searched search run behind → search.certificate ≡ true → RestsOnTruth m search → CanCertify m search
    → IsWholeOr m behind (bests.ending_status run.ending)
best_search_whole m proved searched search run behind h asked rests can =
    let can_here : CanEndBest m search.options = subst (λ (e : Engine). CanEndBy e m search.options) h.engine can.searched in
    let can_write : CanEnd m (keeping_all search.options) = subst (λ (e : Engine). CanEnd m (written_by e search.options)) h.engine can.written in
    best_whole m search.proved proved searched search.options run behind h.is_searched (rests_by m search engines.Best h.engine rests) (best_ends_too m search.proved proved searched search.options h.is_searched can_here)
    (ends_too m search.proved proved searched (keeping_all search.options) h.is_searched can_write) h.word h.right (subst (λ (c : Bool). IsBehind c searched (keeping_all search.options) (bests.claim_of run) behind) asked h.stands)

-- ---- a run of the program

abbrev Answers : List (List ℕ) → (List ℕ → Option (List ℕ)) → Model → (before after : Option (List ℕ)) → ℕ → Type 0
Answers words files m before after code = (code ≡ 6) ⊎ ((code ≡ 4) ⊎ ((code ≡ 5) ⊎ EndsWhole words files m before after))

module _ (words : List (List ℕ)) (files : List ℕ → Option (List ℕ)) (before after : Option (List ℕ)) (domain problem first second : List ℕ) (search : Search) (m : Model)
    (asks : Asks words (jobs.Solve domain problem search)) (certificate : search.certificate ≡ true)
    (told : files domain ≡ Some first) (short : IsShort first)
    (told' : files problem ≡ Some second) (short' : IsShort second)
    (means : Means first second m) (rests : RestsOnTruth m search) (can : CanCertify m search) where
  settled : (outcome : Outcome) → ComesOf words files outcome → IsSettled (code_of (outcome_status outcome))
  settled = settled_outcome words files domain problem first second search m asks told short told' short' means can.searched

  searched_as : (job : Job) → Asks words job → job ≡ jobs.Solve domain problem search
  searched_as job also = same_job words job (jobs.Solve domain problem search) also asks

  answers : (other : Model) → other ≡ m → (outcome : Outcome) (behind : Behind) (status : Status) → ComesOf words files outcome → Takes before after (outcome_text outcome) → ((cert : Cert) → behind ≡ Whole cert → HasWhole outcome cert)
      → IsWholeOr other behind status → Answers words files m before after (code_of (behind_status status behind))
  answers other is outcome behind status comes took has (inl (cert, whole, claim)) =
      inr (inr (inr (record { outcome = outcome; cert = cert; comes = comes; whole = has cert whole; taken = took; claim = subst (λ (x : Model). ClaimIsTrue x cert.claim) is claim })))
  answers other is outcome behind status comes took has (inr memory) = inl memory

  whole_as : (outcome : Outcome) → ComesOf words files outcome → Takes before after (outcome_text outcome) → Answers words files m before after (code_of (outcome_status outcome))
  whole_as NoMeaning h took = absurd (none_asked words (jobs.Solve domain problem search) asks h)
  whole_as (ReadFault file) h took = inr (inl refl)
  whole_as (TooLong file) h took = let none = settled (TooLong file) h in absurd (omega (arith, none))
  whole_as (Refused r) h took = let none = settled (Refused r) h in absurd (omega (arith, none))
  whole_as NoMemory h took = inl refl
  whole_as (Solving other proved searched also run behind) h took =
      let same : jobs.Solve h.0 h.1 also ≡ jobs.Solve domain problem search = searched_as (jobs.Solve h.0 h.1 also) h.2 in
      let d : h.0 ≡ domain = cc in
      let p : h.1 ≡ problem = cc in
      let o : also ≡ search = cc in
      let is : other ≡ m = the_same_model words files domain problem first second search m asks told short told' short' means can.searched other h.0 h.1 d p h.3 in
      let asked : also.certificate ≡ true = ap (λ (x : Search). x.certificate) o ∙ certificate in
      let rests' : RestsOnTruth other also = subst (λ (x : Model). RestsOnTruth x also) (sym is) (subst (RestsOnTruth m) (sym o) rests) in
      let can' : CanCertify other also = subst (λ (x : Model). CanCertify x also) (sym is) (subst (CanCertify m) (sym o) can) in
      answers other is (Solving other proved searched also run behind) behind (ending_status run.ending) h took (λ cert whole. whole) (search_whole other proved searched also run behind h.4 asked rests' can')
  whole_as (SolvingBest other proved searched also run behind) h took =
      let same : jobs.Solve h.0 h.1 also ≡ jobs.Solve domain problem search = searched_as (jobs.Solve h.0 h.1 also) h.2 in
      let d : h.0 ≡ domain = cc in
      let p : h.1 ≡ problem = cc in
      let o : also ≡ search = cc in
      let is : other ≡ m = the_same_model words files domain problem first second search m asks told short told' short' means can.searched other h.0 h.1 d p h.3 in
      let asked : also.certificate ≡ true = ap (λ (x : Search). x.certificate) o ∙ certificate in
      let rests' : RestsOnTruth other also = subst (λ (x : Model). RestsOnTruth x also) (sym is) (subst (RestsOnTruth m) (sym o) rests) in
      let can' : CanCertify other also = subst (λ (x : Model). CanCertify x also) (sym is) (subst (CanCertify m) (sym o) can) in
      answers other is (SolvingBest other proved searched also run behind) behind (bests.ending_status run.ending) h took (λ cert whole. whole) (best_search_whole other proved searched also run behind h.4 asked rests' can')
  whole_as (Replayed other steps tells) h took = let same : jobs.Replay h.0 h.1 h.2 ≡ jobs.Solve domain problem search = searched_as (jobs.Replay h.0 h.1 h.2) h.3 in absurd cc
  whole_as (Checked other proved searched cert which tells) h took = let same : jobs.Check h.0 h.1 h.2 h.3 which ≡ jobs.Solve domain problem search = searched_as (jobs.Check h.0 h.1 h.2 h.3 which) h.4 in absurd cc
  whole_as (WasShown other) h took = let same : jobs.Show h.0 h.1 ≡ jobs.Solve domain problem search = searched_as (jobs.Show h.0 h.1) h.2 in absurd cc
  whole_as (NoGenerated kind size seed refusal) h took = let same : jobs.Gen kind size seed h.0 ≡ jobs.Solve domain problem search = searched_as (jobs.Gen kind size seed h.0) h.1 in absurd cc
  whole_as (Generated kind size seed other also run) h took = let same : jobs.Gen kind size seed h.0 ≡ jobs.Solve domain problem search = searched_as (jobs.Gen kind size seed h.0) h.1 in absurd cc

pub settles_whole : (words : List (List ℕ)) (files : List ℕ → Option (List ℕ)) (before after : Option (List ℕ)) (outcome : Outcome) (status : Status) → ComesOf words files outcome → Printed before after outcome status → SettlesWhole words files before after (code_of status)
settles_whole words files before after outcome status comes (inl h) =
    λ domain problem first second search m asks certificate told short told' short' means rests can.
    subst (λ (s : Status). Answers words files m before after (code_of s)) (sym h.0) (whole_as words files before after domain problem first second search m asks certificate told short told' short' means rests can outcome comes h.1)
settles_whole words files before after outcome status comes (inr h) =
    λ domain problem first second search m asks certificate told short told' short' means rests can.
    subst (λ (s : Status). Answers words files m before after (code_of s)) (sym h.0) (inr (inr (inl refl)))
