-- What a search printed with a whole certificate is certified by a check of it.
use Rattle.std.proofs.Common.{◌≡◌, ℕ, ◌+◌, ◌<◌, ◌≤◌, inl, inr, Bool, true, false, List, [], ◌∷◌, ◌++◌, length, Option, Some, None, Ok, Err, refl, sym, ap, ◌∙◌, subst, arith, append_assoc}
use Rattle.std.specs.Prelude.{IfSome, IsTrue}
use Rattle.std.specs.List.{AllByRecursion, list_all}
use Rattle.std.specs.Str.Lines.{lines}
use Rattle.std.proofs.lemmas.Grind.{flat_map-append}
use Rattle.std.proofs.lemmas.List.{append-nil}
use Rattle.best_ledger.specs.Right.{BestEnding, BestRun, RightBest}
use Rattle.best_ledger.specs.Right as best
use Rattle.dp_base.specs.Bytes.{line}
use Rattle.dp_model.specs.StepTexts.{step_text}
use Rattle.dp_model.specs.declared.answers.Claim.{Claim}
use Rattle.dp_model.specs.declared.answers.FaultAt.{FaultAt}
use Rattle.dp_model.specs.declared.answers.Options.{Options}
use Rattle.dp_model.specs.declared.answers.Verdict.TheVariants as verdicts
use Rattle.dp_model.specs.declared.whole.Model.{Model}
use Rattle.dypdl_nodes.specs.Reads.{Refusal}
use Rattle.step_names.specs.Lines.{bad_byte}
use Rattle.cert_types.specs.Parts.{Parts, parts_of}
use Rattle.cert_types.specs.declared.cert.Cert.{Cert}
use Rattle.cert_types.specs.declared.parts.CheckPart.{CheckPart}
use Rattle.cert_laws.specs.Checks.{checked}
use Rattle.cert_laws.specs.PartChecks.{checked_by}
use Rattle.cert_laws.specs.Shown.{Shown, layer_of}
use Rattle.cert_laws.specs.declared.answers.Checked.{Checked as Findings}
use Rattle.cert_laws.specs.declared.answers.Checked.TheVariants as findings
use Rattle.cert_laws.proofs.Yes.{yes_law}
use Rattle.cert_making.specs.Written.{IsMade}
use Rattle.cert_text.specs.ReadBack.{AreInFront, HasStepTexts, hides_none, is_line}
use Rattle.cert_text.specs.Said.{certificate_in}
use Rattle.cert_text.specs.Texts.{cert_lines, text_of, text_of_lines}
use Rattle.cert_text.proofs.ReadBack.{ascii_line, line_append, lines_back}
use Rattle.command_line.specs.declared.jobs.Job.{Job}
use Rattle.command_line.specs.declared.jobs.Job.TheVariants as jobs
use Rattle.command_line.specs.declared.jobs.Search.{Search}
use Rattle.content_guards.specs.StepTexts.{AreNamedInUtf8}
use Rattle.content_guards.proofs.LoadedSteps.{ascii_whole, file_names, file_steps, fine, lines_whole, read_of_files}
use Rattle.content_guards.proofs.StepTexts.{text_passes}
use Rattle.content_guards.proofs.Whole.{joined, utf8_whole, whole}
use Rattle.kept_claims.specs.Searched.{IsSearched}
use Rattle.kept_model.specs.declared.kept.Kept.{Kept}
use Rattle.run_ends.specs.Claims.{claim_with}
use Rattle.solve_best.specs.Texts.{run_text}
use Rattle.solve_best.specs.Texts as bests
use Rattle.solve_passes.specs.Records.{Ended, Ending, Record, Right, claim_after, claim_of, last_solution, record_text, solutions}
use Rattle.solve_passes.specs.declared.progress.Printing.TheVariants.{All}
use Rattle.solve_top.specs.Behind.{Behind, Nothing, Whole, IsBehind, RightBehind, behind_text}
use Rattle.solve_top.specs.Files.{AreTexts, AtFile, IsLong, IsShort, IsText, OfTexts}
use Rattle.solve_top.specs.Jobs.{Asks, keeping_all, names_of, third_of}
use Rattle.solve_top.specs.Outcomes.{Outcome, NoMeaning, ReadFault, TooLong, Refused, NoMemory, Solving, SolvingBest, Replayed, Checked, Shown as WasShown, NoGenerated, Generated, ComesOf, certified_text, checked_status, checked_text, outcome_text}
use Rattle.solve_top.specs.Parts.{parts_text}
use Rattle.solve_top.specs.Texts.{AreRefused, Certificate, IsRefused, MeanCert, MeanModel, Means}
use Rattle.solve_top.specs.Wholes.{HasWhole}
use Rattle.solve_top.proofs.OneMeaning.{meant_or_refused, one_meaning}
use Rattle.solve_top.proofs.Settling.{none_asked, same_job}
use Rattle.text_laws.specs.BestRuns as runs
use Rattle.text_laws.specs.Certified.{Certifies, LawCertifiedBack, front_text}
use Rattle.text_laws.specs.Entries.{Entry}
use Rattle.text_laws.specs.Records.{entries_of}
use Rattle.text_laws.proofs.Again.{moved, shown_again}
use Rattle.text_laws.proofs.BestRuns.{run_fits, run_is}
use Rattle.text_laws.proofs.Certificates.{is_certificate, lines_few}
use Rattle.text_laws.proofs.Fitting.{all_fit, ends_search}
use Rattle.text_laws.proofs.Reading.{Fits, all_lines, all_pass}
use Rattle.text_laws.proofs.Texts.{record_is, text_of_entries}

-- ---- what is printed of a model that two texts mean

-- Entries were printed, and a certificate that shows its claim behind them.
record WasPrinted (m : Model) (text front : List ℕ) (cert : Cert) : Type 0 where
  entries : List Entry
  front_is : front ≡ text_of_entries m entries
  text_is : text ≡ front ++ text_of m (parts_of cert)
  are_lines : list_all is_line (all_lines m entries) ≡ true
  utf8 : bad_byte (text_of_entries m entries) ≡ None
  shown : Shown m cert
  full : (l : ℕ) → l < length cert.layers → 0 < length (layer_of cert.layers l)

module _ (d p : List ℕ) (m : Model) (means : Means d p m) where
  has : HasStepTexts m
  has = file_steps means.0.read d p means.0.domain_tree means.0.problem_tree m means.0.domain_spells means.0.problem_spells means.1

  names : AreNamedInUtf8 m
  names = file_names means.0.read d p means.0.domain_tree means.0.problem_tree m means.0.domain_spells means.0.problem_spells means.1

  whole_step : (g : ℕ) → g < length m.dp_ground → whole [] (step_text m g) ≡ true
  whole_step g within = text_passes (whole []) (joined []) ascii_whole m (λ i t at. utf8_whole t.name (names i t at)) g within

  lines_of : (es : List Entry) → AllByRecursion (Fits is_line m) es → list_all is_line (all_lines m es) ≡ true
  lines_of es fit = all_pass is_line line_append ascii_line m (λ g within. (has g within).1) es fit

  utf8_of : (es : List Entry) → AllByRecursion (Fits (whole []) m) es → bad_byte (text_of_entries m es) ≡ None
  utf8_of es fit = fine (text_of_entries m es) (lines_whole (all_lines m es) (all_pass (whole []) (joined []) ascii_whole m whole_step es fit))

  -- the certificate is read back behind them
  certificate_back : (front : List (List ℕ)) (cert : Cert) → Shown m cert → ((l : ℕ) → l < length cert.layers → 0 < length (layer_of cert.layers l)) → AreInFront front → bad_byte (text_of_lines front) ≡ None
      → length (text_of_lines front ++ text_of m (parts_of cert)) ≤ 16777216 → certificate_in m (text_of_lines front ++ text_of m (parts_of cert)) ≡ Ok (moved cert (length front + 1))
  certificate_back front cert shown full in_front utf8 short =
      let q = moved cert (length front + 1) in
      let all : text_of_lines (front ++ cert_lines m q) ≡ text_of_lines front ++ text_of m (parts_of cert) = flat_map-append line front (cert_lines m q) in
      let few : length (front ++ cert_lines m q) ≤ length (text_of_lines (front ++ cert_lines m q)) = lines_few (front ++ cert_lines m q) in
      let same : length (text_of_lines (front ++ cert_lines m q)) ≡ length (text_of_lines front ++ text_of m (parts_of cert)) = ap (λ (bytes : List ℕ). length bytes) all in
      let fits : length (front ++ cert_lines m q) ≤ 16777216 = omega (arith, few, same, short) in
      let text : text_of_lines (front ++ (cert_lines m q ++ [])) ≡ text_of_lines front ++ text_of m (parts_of cert) = ap (λ (ls : List (List ℕ)). text_of_lines (front ++ ls)) (append-nil (cert_lines m q)) ∙ all in
      ap (certificate_in m) (sym text)
      ∙ read_of_files means.0.read d p means.0.domain_tree means.0.problem_tree m means.0.domain_spells means.0.problem_spells means.1 q front [] (is_certificate m cert front shown full fits) in_front (refl, refl) refl utf8

  printed_back : (text front : List ℕ) (cert : Cert) → WasPrinted m text front cert → IsShort text → IsTrue (hides_none false (lines front)) → (n : ℕ) × (certificate_in m text ≡ Ok (moved cert n))
  printed_back text front cert w short hides =
      let ls = all_lines m w.entries in
      let back : lines front ≡ ls = ap lines w.front_is ∙ lines_back ls w.are_lines in
      let in_front : AreInFront ls = (w.are_lines, subst (λ (xs : List (List ℕ)). IsTrue (hides_none false xs)) back hides) in
      let is : text ≡ text_of_lines ls ++ text_of m (parts_of cert) = w.text_is ∙ ap (λ (t : List ℕ). t ++ text_of m (parts_of cert)) w.front_is in
      (length ls + 1, ap (certificate_in m) is ∙ certificate_back ls cert w.shown w.full in_front w.utf8 (subst IsShort is short))

  -- ---- a search of the model printed it

  by_layers : (options : Options) (gap announce : Bool) (run : Record) (claim : Claim) (cert : Cert) (text front : List ℕ) → Right m options gap run → claim_of run ≡ Some claim → IsMade m options claim cert
      → front ≡ record_text (All announce) m run → text ≡ front ++ text_of m (parts_of cert) → WasPrinted m text front cert
  by_layers options gap announce run claim cert text front right claims made front_is text_is =
      let none : (f : FaultAt) → run.ending ≡ Ended (verdicts.Fault f) → ⊥ = λ f is. no_fault f (subst (λ (e : Ending). claim_after (last_solution (solutions run)) e ≡ Some claim) is claims) in
      record {
        entries = entries_of m run;
        front_is = front_is ∙ record_is m announce run (ends_search m options gap run run.ending right.ending);
        text_is = text_is;
        are_lines = lines_of (entries_of m run) (all_fit is_line m options gap run (λ f is. absurd (none f is)) right);
        utf8 = utf8_of (entries_of m run) (all_fit (whole []) m options gap run (λ f is. absurd (none f is)) right);
        shown = made.shown;
        full = made.full;
      }
    where
      no_fault : (f : FaultAt) → ◌≡◌ {A = Option Claim} None (Some claim) → ⊥
      no_fault f e = absurd (cc)

  best_first : (options keeping : Options) (run : BestRun) (claim : Claim) (cert : Cert) (text front : List ℕ) → RightBest m options run → bests.claim_of run ≡ Some claim → IsMade m keeping claim cert
      → front ≡ run_text m run → text ≡ front ++ text_of m (parts_of cert) → WasPrinted m text front cert
  best_first options keeping run claim cert text front right claims made front_is text_is =
      let none : (f : FaultAt) → run.ending ≡ best.Ended (verdicts.Fault f) → ⊥ = λ f is. no_fault f (subst (λ (e : BestEnding). claim_with (bests.ending_status e) run.found ≡ Some claim) is claims) in
      record {
        entries = runs.entries_of m run;
        front_is = front_is ∙ run_is m options run right;
        text_is = text_is;
        are_lines = lines_of (runs.entries_of m run) (run_fits is_line m options run (λ f is. absurd (none f is)) right);
        utf8 = utf8_of (runs.entries_of m run) (run_fits (whole []) m options run (λ f is. absurd (none f is)) right);
        shown = made.shown;
        full = made.full;
      }
    where
      no_fault : (f : FaultAt) → ◌≡◌ {A = Option Claim} None (Some claim) → ⊥
      no_fault f e = absurd (cc)

-- ---- files

told_as : (told : Option (List ℕ)) (bytes text : List ℕ) → told ≡ Some bytes → IsText told text → text ≡ bytes
told_as None bytes text e is = absurd cc
told_as (Some t) bytes text e is = let same : t ≡ bytes = cc in is ∙ same

told_short : (told : Option (List ℕ)) (bytes : List ℕ) → told ≡ Some bytes → IsShort bytes → IfSome told IsLong → ⊥
told_short None bytes e short long = absurd cc
told_short (Some t) bytes e short long = let same : t ≡ bytes = cc in let more : IsLong bytes = subst IsLong same long in absurd (omega (arith, short, more))

-- the texts of two files mean a model, and are short
record Two (first second : List ℕ) (m : Model) : Type 0 where
  means : Means first second m
  first_short : IsShort first
  second_short : IsShort second

two_texts : (files : List ℕ → Option (List ℕ)) (domain problem first second : List ℕ) (m : Model) (texts : List (List ℕ)) → files domain ≡ Some first → files problem ≡ Some second
    → AreTexts files (domain ∷ problem ∷ []) texts → MeanModel texts m → Two first second m
two_texts files domain problem first second m [] a b are h = absurd h
two_texts files domain problem first second m (x ∷ []) a b are h = absurd h
two_texts files domain problem first second m (x ∷ y ∷ more) a b are h =
    let same = told_as (files domain) first x a are.0 in
    let also = told_as (files problem) second y b are.2.0 in
    record {
      means = subst (λ (t : List ℕ). Means first t m) also (subst (λ (t : List ℕ). Means t y m) same h);
      first_short = subst IsShort same are.1;
      second_short = subst IsShort also are.2.1;
    }

-- ---- what was printed

-- all dual bounds and preferences are believed
believed : (m : Model) (asked : Bool) (proved : Option Kept) (searched : Model) → asked ≡ false → IsSearched m asked proved searched → (proved ≡ None) × (searched ≡ m)
believed m true proved searched e is = absurd cc
believed m false None searched e is = (refl, is)
believed m false (Some kept) searched e is = absurd is

made_of : (certificate : Bool) (m : Model) (options : Options) (claimed : Option Claim) (behind : Behind) (cert : Cert) → behind ≡ Whole cert → IsBehind certificate m options claimed behind → (claim : Claim) × (claimed ≡ Some claim) × IsMade m options claim cert
made_of false m options claimed behind cert e h = let clash : Whole cert ≡ Nothing = sym e ∙ h in absurd cc
made_of true m options None behind cert e h = let clash : Whole cert ≡ Nothing = sym e ∙ h in absurd cc
made_of true m options (Some claim) behind cert e h = (claim, refl, subst (RightBehind m options claim) e h)

no_parts : (m : Model) (proved : Option Kept) (rest : List ℕ) → proved ≡ None → parts_text m proved ++ rest ≡ rest
no_parts m proved rest e = ap (λ (o : Option Kept). parts_text m o ++ rest) e

-- what a search printed of two texts
record Prints (first second text front : List ℕ) (cert : Cert) : Type 0 where
  model : Model
  two : Two first second model
  printed : WasPrinted model text front cert

behind_is : (m : Model) (options : Options) (behind : Behind) (cert : Cert) (parts front : List ℕ) → behind ≡ Whole cert → parts ++ (front ++ behind_text m options behind) ≡ (parts ++ front) ++ text_of m (parts_of cert)
behind_is m options behind cert parts front e = ap (λ (b : Behind). parts ++ (front ++ behind_text m options b)) e ∙ sym (append_assoc parts front (text_of m (parts_of cert)))

prints : (first second : List ℕ) (outcome : Outcome) (cert : Cert) (words : List (List ℕ)) (files : List ℕ → Option (List ℕ)) (domain problem : List ℕ) (search : Search) → Asks words (jobs.Solve domain problem search) → search.proved ≡ false
    → files domain ≡ Some first → files problem ≡ Some second → ComesOf words files outcome → HasWhole outcome cert → Prints first second (outcome_text outcome) (front_text outcome) cert
prints first second (Solving m proved searched also run behind) cert words files domain problem search asks off a b h whole =
    let same : jobs.Solve h.0 h.1 also ≡ jobs.Solve domain problem search = same_job words (jobs.Solve h.0 h.1 also) (jobs.Solve domain problem search) h.2 asks in
    let d : h.0 ≡ domain = cc in
    let p : h.1 ≡ problem = cc in
    let o : also ≡ search = cc in
    let two = two_texts files h.0 h.1 first second m h.3.0 (ap files d ∙ a) (ap files p ∙ b) h.3.1 h.3.2 in
    let is = believed m also.proved proved searched (ap (λ (s : Search). s.proved) o ∙ off) h.4.is_searched in
    let made = made_of also.certificate searched also.options (claim_of run) behind cert whole h.4.stands in
    let here : Two first second searched = subst (Two first second) (sym is.1) two in
    record {
      model = searched;
      two = here;
      printed = by_layers first second searched here.means also.options also.gap also.announce run made.0 cert (outcome_text (Solving m proved searched also run behind)) (front_text (Solving m proved searched also run behind)) h.4.right made.1 made.2
          (no_parts m proved (record_text (All also.announce) searched run) is.0)
          (behind_is searched also.options behind cert (parts_text m proved) (record_text (All also.announce) searched run) whole);
    }
prints first second (SolvingBest m proved searched also run behind) cert words files domain problem search asks off a b h whole =
    let same : jobs.Solve h.0 h.1 also ≡ jobs.Solve domain problem search = same_job words (jobs.Solve h.0 h.1 also) (jobs.Solve domain problem search) h.2 asks in
    let d : h.0 ≡ domain = cc in
    let p : h.1 ≡ problem = cc in
    let o : also ≡ search = cc in
    let two = two_texts files h.0 h.1 first second m h.3.0 (ap files d ∙ a) (ap files p ∙ b) h.3.1 h.3.2 in
    let is = believed m also.proved proved searched (ap (λ (s : Search). s.proved) o ∙ off) h.4.is_searched in
    let made = made_of also.certificate searched (keeping_all also.options) (bests.claim_of run) behind cert whole h.4.stands in
    let here : Two first second searched = subst (Two first second) (sym is.1) two in
    record {
      model = searched;
      two = here;
      printed = best_first first second searched here.means also.options (keeping_all also.options) run made.0 cert (outcome_text (SolvingBest m proved searched also run behind)) (front_text (SolvingBest m proved searched also run behind)) h.4.right made.1 made.2
          (no_parts m proved (run_text searched run) is.0)
          (behind_is searched (keeping_all also.options) behind cert (parts_text m proved) (run_text searched run) whole);
    }
prints first second NoMeaning cert words files domain problem search asks off a b h whole = absurd whole
prints first second (ReadFault file) cert words files domain problem search asks off a b h whole = absurd whole
prints first second (TooLong file) cert words files domain problem search asks off a b h whole = absurd whole
prints first second (Refused r) cert words files domain problem search asks off a b h whole = absurd whole
prints first second NoMemory cert words files domain problem search asks off a b h whole = absurd whole
prints first second (Replayed m steps told) cert words files domain problem search asks off a b h whole = absurd whole
prints first second (Checked m proved searched other which told) cert words files domain problem search asks off a b h whole = absurd whole
prints first second (WasShown m) cert words files domain problem search asks off a b h whole = absurd whole
prints first second (NoGenerated kind size seed refusal) cert words files domain problem search asks off a b h whole = absurd whole
prints first second (Generated kind size seed m options run) cert words files domain problem search asks off a b h whole = absurd whole

-- ---- what is told of it

module _ (first second text : List ℕ) (m : Model) (two : Two first second m) (short : IsShort text) (cert : Cert) (n : ℕ) (back : certificate_in m text ≡ Ok (moved cert n)) (shown : Shown m cert)
    (words : List (List ℕ)) (files : List ℕ → Option (List ℕ)) (domain problem name : List ℕ) (asks : Asks words (jobs.Check domain problem name false None))
    (a : files domain ≡ Some first) (b : files problem ≡ Some second) (c : files name ≡ Some text) where
  not_too_long : (file : ℕ) → AtFile files 1 (domain ∷ problem ∷ name ∷ []) file (λ t. IfSome t IsLong) → ⊥
  not_too_long file (inl h) = told_short (files domain) first a two.first_short h.1
  not_too_long file (inr (other, inl h)) = told_short (files problem) second b two.second_short h.1
  not_too_long file (inr (other, inr (also, inl h))) = told_short (files name) text c short h.1
  not_too_long file (inr (other, inr (also, inr (last, none)))) = none

  the_model : (x y : List ℕ) (other : Model) → x ≡ first → y ≡ second → Means x y other → other ≡ m
  the_model x y other same also h = one_meaning first second other m (subst (λ (t : List ℕ). Means first t other) also (subst (λ (t : List ℕ). Means t y other) same h)) two.means

  -- the certificate of the third text
  the_cert : (z : List ℕ) (other : Model) → z ≡ text → other ≡ m → certificate_in other z ≡ Ok (moved cert n)
  the_cert z other same is = ap (certificate_in other) same ∙ ap (λ (x : Model). certificate_in x text) is ∙ back

  not_refused : (r : Refusal) (texts : List (List ℕ)) → AreTexts files (domain ∷ problem ∷ name ∷ []) texts → AreRefused Certificate texts r → ⊥
  not_refused r [] are h = are
  not_refused r (x ∷ []) are h = are.2
  not_refused r (x ∷ y ∷ []) are h = are.2.2
  not_refused r (x ∷ y ∷ z ∷ v ∷ more) are h = are.2.2.2
  not_refused r (x ∷ y ∷ z ∷ []) are (inl h) =
      meant_or_refused first second m r two.means
      (subst (λ (t : List ℕ). IsRefused first t r) (told_as (files problem) second y b are.2.0) (subst (λ (t : List ℕ). IsRefused t y r) (told_as (files domain) first x a are.0) h))
  not_refused r (x ∷ y ∷ z ∷ []) are (inr h) =
      let is = the_model x y h.0 (told_as (files domain) first x a are.0) (told_as (files problem) second y b are.2.0) h.1 in
      let clash : Ok (moved cert n) ≡ Err h.2.end = sym (the_cert z h.0 (told_as (files name) text z c are.2.2.0) is) ∙ h.2.first in
      absurd cc

  certified : (model : Model) (proved : Option Kept) (searched : Model) (also : Cert) (told : Findings) (texts : List (List ℕ)) → AreTexts files (domain ∷ problem ∷ name ∷ []) texts → MeanCert texts model also
      → IsSearched model false proved searched → told ≡ checked searched also → Certifies cert.claim (Checked model proved searched also None told)
  certified model proved searched also told [] are h is tells = absurd h
  certified model proved searched also told (x ∷ []) are h is tells = absurd h
  certified model proved searched also told (x ∷ y ∷ []) are h is tells = absurd h
  certified model proved searched also told (x ∷ y ∷ z ∷ more) are h is tells =
      let one = the_model x y model (told_as (files domain) first x a are.0) (told_as (files problem) second y b are.2.0) h.0 in
      let all = believed model false proved searched refl is in
      let read : Ok (moved cert n) ≡ Ok (parts_of also) = sym (the_cert z model (told_as (files name) text z c are.2.2.0) one) ∙ h.1 in
      let same : moved cert n ≡ parts_of also = cc in
      let shows : Shown m also = shown_again m cert also n same shown in
      let yes : told ≡ findings.Yes = tells ∙ ap (λ (x : Model). checked x also) (all.1 ∙ one) ∙ (yes_law m also).1 shows in (
        ap checked_status yes,
        no_parts model proved (checked_text None also.claim told) all.0 ∙ ap (checked_text None also.claim) yes ∙ ap (λ (q : Parts). certified_text q.claim) (sym same),
      )

  comes_as : (told : Outcome) → ComesOf words files told → Certifies cert.claim told
  comes_as NoMeaning h = absurd (none_asked words (jobs.Check domain problem name false None) asks h)
  comes_as (ReadFault file) h = tt
  comes_as (TooLong file) h =
      absurd (not_too_long file (subst (λ (x : Job). AtFile files 1 (names_of x) file (λ t. IfSome t IsLong)) (same_job words h.0 (jobs.Check domain problem name false None) h.1 asks) h.2))
  comes_as (Refused r) h =
      let of_texts : OfTexts files (domain ∷ problem ∷ name ∷ []) (λ texts. AreRefused Certificate texts r) = subst (λ (x : Job). OfTexts files (names_of x) (λ texts. AreRefused (third_of x) texts r)) (same_job words h.0 (jobs.Check domain problem name false None) h.1 asks) h.2 in
      absurd (not_refused r of_texts.0 of_texts.1 of_texts.2)
  comes_as NoMemory h = tt
  comes_as (Solving model proved searched search run behind) h = let same : jobs.Solve h.0 h.1 search ≡ jobs.Check domain problem name false None = same_job words (jobs.Solve h.0 h.1 search) (jobs.Check domain problem name false None) h.2 asks in absurd cc
  comes_as (SolvingBest model proved searched search run behind) h = let same : jobs.Solve h.0 h.1 search ≡ jobs.Check domain problem name false None = same_job words (jobs.Solve h.0 h.1 search) (jobs.Check domain problem name false None) h.2 asks in absurd cc
  comes_as (Replayed model steps told) h = let same : jobs.Replay h.0 h.1 h.2 ≡ jobs.Check domain problem name false None = same_job words (jobs.Replay h.0 h.1 h.2) (jobs.Check domain problem name false None) h.3 asks in absurd cc
  comes_as (WasShown model) h = let same : jobs.Show h.0 h.1 ≡ jobs.Check domain problem name false None = same_job words (jobs.Show h.0 h.1) (jobs.Check domain problem name false None) h.2 asks in absurd cc
  comes_as (NoGenerated kind size seed refusal) h = let same : jobs.Gen kind size seed h.0 ≡ jobs.Check domain problem name false None = same_job words (jobs.Gen kind size seed h.0) (jobs.Check domain problem name false None) h.1 asks in absurd cc
  comes_as (Generated kind size seed model options run) h = let same : jobs.Gen kind size seed h.0 ≡ jobs.Check domain problem name false None = same_job words (jobs.Gen kind size seed h.0) (jobs.Check domain problem name false None) h.1 asks in absurd cc
  comes_as (Checked model proved searched also which told) h =
      let same : jobs.Check h.0 h.1 h.2 h.3 which ≡ jobs.Check domain problem name false None = same_job words (jobs.Check h.0 h.1 h.2 h.3 which) (jobs.Check domain problem name false None) h.4 asks in
      let d : h.0 ≡ domain = cc in
      let p : h.1 ≡ problem = cc in
      let t : h.2 ≡ name = cc in
      let off : h.3 ≡ false = cc in
      let all : which ≡ None = cc in
      let there : OfTexts files (domain ∷ problem ∷ name ∷ []) (λ texts. MeanCert texts model also) =
      subst (λ (x : List ℕ). OfTexts files (domain ∷ problem ∷ x ∷ []) (λ texts. MeanCert texts model also)) t
      (subst (λ (x : List ℕ). OfTexts files (domain ∷ x ∷ h.2 ∷ []) (λ texts. MeanCert texts model also)) p
      (subst (λ (x : List ℕ). OfTexts files (x ∷ h.1 ∷ h.2 ∷ []) (λ texts. MeanCert texts model also)) d h.5)) in
      subst (λ (x : Option CheckPart). Certifies cert.claim (Checked model proved searched also x told)) (sym all)
      (certified model proved searched also told there.0 there.1 there.2 (subst (λ (x : Bool). IsSearched model x proved searched) off h.6)
      (h.7 ∙ ap (λ (x : Option CheckPart). checked_by x searched also) all))

pub certified_back : LawCertifiedBack
certified_back first second printed told cert searches whole short hides checks =
    let w = prints first second printed cert searches.words searches.files searches.domain searches.problem searches.search searches.asks searches.believed searches.first_is searches.second_is searches.comes whole in
    let back = printed_back first second w.model w.two.means (outcome_text printed) (front_text printed) cert w.printed short hides in
    comes_as first second (outcome_text printed) w.model w.two short cert back.0 back.1 w.printed.shown checks.words checks.files checks.domain checks.problem checks.text checks.asks checks.first_is checks.second_is checks.third_is told checks.comes
