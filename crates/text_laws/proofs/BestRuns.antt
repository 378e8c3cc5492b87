-- A run of the best node first is read back from its text, which tells the run.
use Rattle.std.proofs.Common.{◌≡◌, ℕ, ◌^◌, ◌<◌, ◌≤◌, arith, Bool, true, List, [], ◌∷◌, ◌++◌, codes, decimal, length, Option, Some, None, refl, sym, ap, ◌∙◌, subst, append_assoc}
use Rattle.std.specs.Prelude.{IfSome}
use Rattle.std.specs.Fmt.{signed_decimal}
use Rattle.std.specs.List.{AllByRecursion}
use Rattle.std.specs.Option.{option_to_list}
use Rattle.std.specs.Str.Lines.{lines}
use Rattle.std.proofs.lemmas.List.{append-nil}
use Rattle.best_ledger.specs.Right.{BestEnding, BestRun, Ended, OutOfMemory, RightBest, RightEnding}
use Rattle.dp_base.specs.Bytes.{line}
use Rattle.dp_model.specs.Costs.{InRange}
use Rattle.dp_model.specs.declared.answers.FaultAt.{FaultAt}
use Rattle.dp_model.specs.declared.answers.Found.{Found}
use Rattle.dp_model.specs.declared.answers.Options.{Options}
use Rattle.dp_model.specs.declared.answers.Verdict.TheVariants as verdicts
use Rattle.dp_model.specs.declared.whole.Model.{Model}
use Rattle.dp_steps.specs.Lists.{Solution}
use Rattle.solve_report.specs.Lines.{spot_text, step_lines}
use Rattle.cert_text.specs.ReadBack.{HasStepTexts, is_line}
use Rattle.cert_text.proofs.ReadBack.{lines_back}
use Rattle.solve_best.specs.Texts.{ending_text, found_text, run_text, searched_text}
use Rattle.text_laws.specs.BestRuns.{EndAlike, IsRunOf, LawReadRun, LawRunsToldApart, ending_entries, entries_of, searched_entries}
use Rattle.text_laws.specs.Entries.{Entry, Head, FaultLine, HasWords, InfeasibleLine, MemoryLine, OptimalLine, StoppedLine, entries_in}
use Rattle.text_laws.specs.Records.{HasLineNames, found_entries}
use Rattle.text_laws.proofs.Fitting.{all_both, all_parts, meets_steps, spot_line, target_fits}
use Rattle.text_laws.proofs.Heads.{head_line}
use Rattle.text_laws.proofs.Reading.{Fits, all_are_lines, all_lines, entries_back}
use Rattle.text_laws.proofs.Telling.{FaultTold, Told, fault_in, one_told, not_told, told_by, told_fault, told_of}
use Rattle.text_laws.proofs.Texts.{entry_more, fault_is, found_more, text_of_entries}
use Rattle.text_laws.proofs.Words.{AreShort, HaveWords, all_short, cost_word, found_words, lines_long}

-- ---- its text

searched_more : (m : Model) (o : Option ℕ) (es : List Entry) → searched_text o ++ text_of_entries m es ≡ text_of_entries m (searched_entries o ++ es)
searched_more m None es = refl
searched_more m (Some visited) es = refl

found_first : (m : Model) (o : Option Found) (es : List Entry) → found_text m o ++ text_of_entries m es ≡ text_of_entries m (found_entries o ++ es)
found_first m None es = refl
found_first m (Some s) es = found_more m (Some s) es

-- a verdict of a search, or want of memory
abbrev EndsSearch : BestEnding → Type 0
EndsSearch (Ended (verdicts.Legal cost)) = ⊥
EndsSearch (Ended (verdicts.Illegal done reason)) = ⊥
EndsSearch ending = Unit {0}

ending_is : (m : Model) (ending : BestEnding) → EndsSearch ending → ending_text m ending ≡ text_of_entries m (ending_entries m ending)
ending_is m (Ended (verdicts.Optimal cost)) ends = sym (append-nil (line (codes "verdict optimal " ++ signed_decimal cost)))
ending_is m (Ended verdicts.Infeasible) ends = refl
ending_is m (Ended (verdicts.Stopped visits)) ends = sym (append-nil (line (codes "verdict stopped " ++ decimal visits)))
ending_is m (Ended (verdicts.Fault f)) ends =
    ap (λ (words : List ℕ). line words ++ step_lines m f.steps) (fault_is m f)
    ∙ sym (append-nil (line (head_line (FaultLine f.kind (spot_text m f.spot) (length f.steps))) ++ step_lines m f.steps))
    ∙ entry_more m (record { head = FaultLine f.kind (spot_text m f.spot) (length f.steps); steps = f.steps }) []
ending_is m (Ended (verdicts.Legal cost)) ends = absurd ends
ending_is m (Ended (verdicts.Illegal done reason)) ends = absurd ends
ending_is m OutOfMemory ends = refl

ends_search : (m : Model) (options : Options) (r : BestRun) (e : BestEnding) → RightEnding m options r e → EndsSearch e
ends_search m options r (Ended (verdicts.Optimal cost)) h = tt
ends_search m options r (Ended verdicts.Infeasible) h = tt
ends_search m options r (Ended (verdicts.Stopped visits)) h = tt
ends_search m options r (Ended (verdicts.Fault f)) h = tt
ends_search m options r (Ended (verdicts.Legal cost)) h = h.0
ends_search m options r (Ended (verdicts.Illegal done reason)) h = h.0
ends_search m options r OutOfMemory h = tt

pub run_is : (m : Model) (options : Options) (r : BestRun) → RightBest m options r → run_text m r ≡ text_of_entries m (entries_of m r)
run_is m options r right =
    append_assoc (found_text m r.found) (searched_text r.visited) (ending_text m r.ending)
    ∙ ap (λ (text : List ℕ). found_text m r.found ++ (searched_text r.visited ++ text)) (ending_is m r.ending (ends_search m options r r.ending right.ending))
    ∙ ap (λ (text : List ℕ). found_text m r.found ++ text) (searched_more m r.visited (ending_entries m r.ending))
    ∙ found_first m r.found (searched_entries r.visited ++ ending_entries m r.ending)

-- ---- its entries own what they tell

found_legal : (m : Model) (o : Option Found) → IfSome o (λ s. Solution m s.steps s.cost) → AllByRecursion (λ (s : Found). Solution m s.steps s.cost) (option_to_list o)
found_legal m None h = tt
found_legal m (Some s) h = (h, tt)

module _ (test : List ℕ → Bool) (m : Model) where
  searched_fits : (o : Option ℕ) → AllByRecursion (Fits test m) (searched_entries o)
  searched_fits None = tt
  searched_fits (Some visited) = (record { count = refl; steps = refl; spot = tt }, tt)

  ending_fits : (options : Options) (r : BestRun) (e : BestEnding) → ((f : FaultAt) → e ≡ Ended (verdicts.Fault f) → test (spot_text m f.spot) ≡ true) → RightEnding m options r e → AllByRecursion (Fits test m) (ending_entries m e)
  ending_fits options r (Ended (verdicts.Optimal cost)) spot h = (record { count = refl; steps = refl; spot = tt }, tt)
  ending_fits options r (Ended verdicts.Infeasible) spot h = (record { count = refl; steps = refl; spot = tt }, tt)
  ending_fits options r (Ended (verdicts.Stopped visits)) spot h = (record { count = refl; steps = refl; spot = tt }, tt)
  ending_fits options r (Ended (verdicts.Fault f)) spot h = (record { count = refl; steps = meets_steps m options.prune f.steps f.spot f.kind h.0; spot = spot f refl }, tt)
  ending_fits options r (Ended (verdicts.Legal cost)) spot h = tt
  ending_fits options r (Ended (verdicts.Illegal done reason)) spot h = tt
  ending_fits options r OutOfMemory spot h = (record { count = refl; steps = refl; spot = tt }, tt)

  pub run_fits : (options : Options) (r : BestRun) → ((f : FaultAt) → r.ending ≡ Ended (verdicts.Fault f) → test (spot_text m f.spot) ≡ true) → RightBest m options r → AllByRecursion (Fits test m) (entries_of m r)
  run_fits options r spot right =
      all_both (Fits test m) (found_entries r.found) (searched_entries r.visited ++ ending_entries m r.ending) (target_fits test m r.found (found_legal m r.found right.legal))
      (all_both (Fits test m) (searched_entries r.visited) (ending_entries m r.ending) (searched_fits r.visited) (ending_fits options r r.ending spot right.ending))

met_line : (m : Model) (options : Options) (r : BestRun) → HasStepTexts m → HasLineNames m → RightBest m options r → (f : FaultAt) → r.ending ≡ Ended (verdicts.Fault f) → is_line (spot_text m f.spot) ≡ true
met_line m options r has names right f is =
    let ends : RightEnding m options r (Ended (verdicts.Fault f)) = subst (RightEnding m options r) is right.ending in
    spot_line m ends.0.1 ends.0.0 f.spot f.kind has names ends.0.3.1

-- ---- its numbers have 64 bits

run_words : (m : Model) (r : BestRun) → IsRunOf m r → HaveWords (entries_of m r)
run_words m r is =
    let es = entries_of m r in
    let most = length (all_lines m es) in
    let rest = searched_entries r.visited ++ ending_entries m r.ending in
    let text : length (run_text m r) ≡ length (text_of_entries m es) = ap length (run_is m is.options r is.right) in
    let small : most < 2 ^ 64 = omega (arith, lines_long (all_lines m es), is.short, text) in
    let short : AreShort most es = all_short m most es (omega arith) in
    let first = all_parts (λ (e : Entry). length e.steps ≤ most) (found_entries r.found) rest short in
    let second = all_parts (λ (e : Entry). length e.steps ≤ most) (searched_entries r.visited) (ending_entries m r.ending) first.1 in
    all_both (λ (e : Entry). HasWords e.head) (found_entries r.found) rest (found_words m most small r.found (found_legal m r.found is.right.legal) first.0)
    (all_both (λ (e : Entry). HasWords e.head) (searched_entries r.visited) (ending_entries m r.ending) (searched_words r.visited is.right.within_budget)
    (ending_words most small is.right.legal r.ending is.right.ending second.1))
  where
    searched_words : (o : Option ℕ) → IfSome o (λ v. v ≤ is.options.budget) → HaveWords (searched_entries o)
    searched_words None within = tt
    searched_words (Some v) within = (omega (arith, within, is.fit.small_budget), tt)

    found_cost : (o : Option Found) (s : Found) → IfSome o (λ f. Solution m f.steps f.cost) → o ≡ Some s → InRange s.cost
    found_cost None s legal e = let clash : None ≡ Some s = e in absurd (cc)
    found_cost (Some f) s legal e = let same : Some f ≡ Some s = e in let one : f ≡ s = cc in subst (λ (x : Found). InRange x.cost) one legal.in_range

    ending_words : (most : ℕ) → most < 2 ^ 64 → IfSome r.found (λ f. Solution m f.steps f.cost) → (e : BestEnding) → RightEnding m is.options r e → AreShort most (ending_entries m e) → HaveWords (ending_entries m e)
    ending_words most small legal (Ended (verdicts.Optimal cost)) h short = (cost_word cost (subst InRange h.0.2 (found_cost r.found h.0.0 legal h.0.1)), tt)
    ending_words most small legal (Ended verdicts.Infeasible) h short = (tt, tt)
    ending_words most small legal (Ended (verdicts.Stopped visits)) h short = (omega (arith, h.0.0, is.fit.small_budget), tt)
    ending_words most small legal (Ended (verdicts.Fault f)) h short = (omega (arith, small, short.0), tt)
    ending_words most small legal (Ended (verdicts.Legal cost)) h short = tt
    ending_words most small legal (Ended (verdicts.Illegal done reason)) h short = tt
    ending_words most small legal OutOfMemory h short = (tt, tt)

pub read_run : LawReadRun
read_run m has names r is =
    let options = is.options in
    let right = is.right in
    let fit = run_fits is_line m options r (met_line m options r has names right) right in
    let es = entries_of m r in
    ap (λ (text : List ℕ). entries_in m (lines text)) (run_is m options r right)
    ∙ ap (entries_in m) (lines_back (all_lines m es) (all_are_lines m es has fit))
    ∙ entries_back is_line m es has (run_words m r is) fit

-- ---- what they tell

ending_told : (m : Model) (t : Told) (e : BestEnding) → t.ending ≡ [] → told_by (ending_entries m e) t ≡ record t { ending = ending_entries m e }
ending_told m t e none = all e ∙ ap (λ (es : List Entry). record t { ending = es ++ ending_entries m e }) none
  where
    all : (e : BestEnding) → told_by (ending_entries m e) t ≡ record t { ending = t.ending ++ ending_entries m e }
    all (Ended (verdicts.Optimal cost)) = refl
    all (Ended verdicts.Infeasible) = refl
    all (Ended (verdicts.Stopped visits)) = refl
    all (Ended (verdicts.Fault f)) = refl
    all (Ended (verdicts.Legal cost)) = ap (λ (es : List Entry). record t { ending = es }) (sym (append-nil t.ending))
    all (Ended (verdicts.Illegal done reason)) = ap (λ (es : List Entry). record t { ending = es }) (sym (append-nil t.ending))
    all OutOfMemory = refl

run_told : (m : Model) (found : Option Found) (visited : Option ℕ) (e : BestEnding)
    → told_by (found_entries found ++ (searched_entries visited ++ ending_entries m e)) (told_of None [] None []) ≡ record (told_of found [] None (ending_entries m e)) { visited = visited }
run_told m None None e = ending_told m (told_of None [] None []) e refl
run_told m None (Some v) e = ending_told m (record (told_of None [] None []) { visited = Some v }) e refl
run_told m (Some s) None e = ending_told m (told_of (Some s) [] None []) e refl
run_told m (Some s) (Some v) e = ending_told m (record (told_of (Some s) [] None []) { visited = Some v }) e refl

-- the ending that an entry tells, where it is no fault
abbrev ending_of : List Entry → Option BestEnding
ending_of [] = None
ending_of (e ∷ es) = by e.head
  where
    by : Head → Option BestEnding
    by (OptimalLine cost) = Some (Ended (verdicts.Optimal cost))
    by InfeasibleLine = Some (Ended verdicts.Infeasible)
    by (StoppedLine visits) = Some (Ended (verdicts.Stopped visits))
    by MemoryLine = Some OutOfMemory
    by head = None

ending_back : (m : Model) (e f : BestEnding) → ending_of (ending_entries m f) ≡ Some e → e ≡ f
ending_back m e (Ended (verdicts.Optimal cost)) h = cc
ending_back m e (Ended verdicts.Infeasible) h = cc
ending_back m e (Ended (verdicts.Stopped visits)) h = cc
ending_back m e (Ended (verdicts.Fault f)) h = absurd (cc)
ending_back m e (Ended (verdicts.Legal cost)) h = absurd (cc)
ending_back m e (Ended (verdicts.Illegal done reason)) h = absurd (cc)
ending_back m e OutOfMemory h = cc

fault_alike : (m : Model) (f : FaultAt) (e : BestEnding) → Some (told_fault m f) ≡ fault_in (ending_entries m e) → EndAlike m (Ended (verdicts.Fault f)) e
fault_alike m f (Ended (verdicts.Fault g)) h =
    let both : told_fault m f ≡ told_fault m g = one_told (told_fault m f) (told_fault m g) h in
    (ap (λ (x : FaultTold). x.kind) both, ap (λ (x : FaultTold). x.spot) both, ap (λ (x : FaultTold). x.steps) both)
fault_alike m f (Ended (verdicts.Optimal cost)) h = absurd (not_told (told_fault m f) h)
fault_alike m f (Ended verdicts.Infeasible) h = absurd (not_told (told_fault m f) h)
fault_alike m f (Ended (verdicts.Stopped visits)) h = absurd (not_told (told_fault m f) h)
fault_alike m f (Ended (verdicts.Legal cost)) h = absurd (not_told (told_fault m f) h)
fault_alike m f (Ended (verdicts.Illegal done reason)) h = absurd (not_told (told_fault m f) h)
fault_alike m f OutOfMemory h = absurd (not_told (told_fault m f) h)

end_alike : (m : Model) (e f : BestEnding) → EndsSearch e → ending_entries m e ≡ ending_entries m f → EndAlike m e f
end_alike m (Ended (verdicts.Optimal cost)) f ends h = ending_back m (Ended (verdicts.Optimal cost)) f (sym (ap ending_of h))
end_alike m (Ended verdicts.Infeasible) f ends h = ending_back m (Ended verdicts.Infeasible) f (sym (ap ending_of h))
end_alike m (Ended (verdicts.Stopped visits)) f ends h = ending_back m (Ended (verdicts.Stopped visits)) f (sym (ap ending_of h))
end_alike m (Ended (verdicts.Fault f)) e ends h = fault_alike m f e (ap fault_in h)
end_alike m (Ended (verdicts.Legal cost)) f ends h = absurd ends
end_alike m (Ended (verdicts.Illegal done reason)) f ends h = absurd ends
end_alike m OutOfMemory f ends h = ending_back m OutOfMemory f (sym (ap ending_of h))

pub runs_told_apart : LawRunsToldApart
runs_told_apart m has names a b is is' same =
    let one : entries_of m a ≡ entries_of m b = one_told (entries_of m a) (entries_of m b)
    (sym (read_run m has names a is) ∙ ap (λ (text : List ℕ). entries_in m (lines text)) same ∙ read_run m has names b is') in
    let told : record (told_of a.found [] None (ending_entries m a.ending)) { visited = a.visited } ≡ record (told_of b.found [] None (ending_entries m b.ending)) { visited = b.visited } =
    sym (run_told m a.found a.visited a.ending) ∙ ap (λ (es : List Entry). told_by es (told_of None [] None [])) one ∙ run_told m b.found b.visited b.ending in
    record {
      found = ap (λ (t : Told). t.found) told;
      visited = ap (λ (t : Told). t.visited) told;
      ending = end_alike m a.ending b.ending (ends_search m is.options a a.ending is.right.ending) (ap (λ (t : Told). t.ending) told);
    }
