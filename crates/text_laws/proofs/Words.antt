-- The numbers that a search prints have 64 bits, in a text of fewer than 2^64 bytes.
use Rattle.std.proofs.Common.{◌≡◌, ℕ, ◌+◌, ◌^◌, ◌<◌, ◌≤◌, suc, List, [], ◌∷◌, ◌++◌, length, map, slice_get, Option, Some, None, ℤ, pos, negsuc, refl, ap, subst, arith, length-append}
use Rattle.std.specs.Prelude.{Bool, IfSome}
use Rattle.std.specs.List.{AllByRecursion, flat_map}
use Rattle.std.specs.Option.{option_to_list}
use Rattle.std.proofs.lemmas.Int.{ints}
use Rattle.std.proofs.lemmas.List.{length-map}
use Rattle.std.proofs.lemmas.List.Sums.{sum_by-cons}
use Rattle.cost_laws.specs.Orders.{InWideRange}
use Rattle.dp_base.specs.Bytes.{line}
use Rattle.dp_claims.specs.Enough.{Has}
use Rattle.dp_model.specs.Costs.{InRange}
use Rattle.dp_model.specs.StepTexts.{step_text}
use Rattle.dp_model.specs.declared.answers.Found.{Found}
use Rattle.dp_model.specs.declared.answers.Options.{Options}
use Rattle.dp_model.specs.declared.answers.Verdict.TheVariants as verdicts
use Rattle.dp_model.specs.declared.whole.Model.{Model}
use Rattle.dp_steps.specs.Lists.{Solution}
use Rattle.pass_ledger.proofs.Lists.{has_left, has_right}
use Rattle.cert_text.specs.Texts.{text_of_lines}
use Rattle.solve_passes.specs.Counted.{HasWords as FitsPass}
use Rattle.solve_passes.specs.declared.progress.Printing.TheVariants.{All}
use Rattle.solve_passes.specs.Records.{Announced, Ended, Ending, OutOfMemory, Pass, Record, RightEnding, announced_costs, costs_in, last_cost, record_text, solutions, visits}
use Rattle.text_laws.specs.Entries.{Entry, AnnounceLine, PassLine, HasWords, IsSignedWord}
use Rattle.text_laws.specs.Records.{IsRecordOf, alone, announced_entries, bound_entries, count_entries, ending_entries, entries_of, found_entries, pass_entries}
use Rattle.text_laws.proofs.Fitting.{all_both, all_parts, ends_search}
use Rattle.text_laws.proofs.Reading.{all_lines, entry_lines}
use Rattle.text_laws.proofs.Texts.{record_is}

-- the numbers that are printed have 64 bits
abbrev pub HaveWords : List Entry → Type 0
HaveWords entries = AllByRecursion (λ (e : Entry). HasWords e.head) entries

-- ---- numbers

pub cost_word : (c : ℤ) → InRange c → IsSignedWord c
cost_word (pos n) within = omega (arith, ints, within.1)
cost_word (negsuc n) within = omega (arith, ints, within.0)

pub wide_word : (c : ℤ) → InWideRange c → IsSignedWord c
wide_word (pos n) within = omega (arith, ints, within.1)
wide_word (negsuc n) within = omega (arith, ints, within.0)

-- ---- lines

-- each line has a byte
pub lines_long : (ls : List (List ℕ)) → length ls ≤ length (text_of_lines ls)
lines_long [] = omega arith
lines_long (l ∷ ls) =
    let own : length (line l) ≡ length l + 1 = length-append l (10 ∷ []) in
    let both : length (line l ++ text_of_lines ls) ≡ length (line l) + length (text_of_lines ls) = length-append (line l) (text_of_lines ls) in
    omega (arith, own, both, lines_long ls)

-- an entry has a line, and one for each step
entry_long : (m : Model) (e : Entry) → length (entry_lines m e) ≡ length e.steps + 1
entry_long m e = let steps : length (map (step_text m) e.steps) ≡ length e.steps = length-map e.steps (step_text m) in omega (arith, steps)

entries_long : (m : Model) (e : Entry) (es : List Entry) → length (all_lines m (e ∷ es)) ≡ length e.steps + 1 + length (all_lines m es)
entries_long m e es =
    let both : length (entry_lines m e ++ all_lines m es) ≡ length (entry_lines m e) + length (all_lines m es) = length-append (entry_lines m e) (all_lines m es) in
    omega (arith, both, entry_long m e)

-- the entries are no more than the lines
pub entries_few : (m : Model) (es : List Entry) → length es ≤ length (all_lines m es)
entries_few m [] = omega arith
entries_few m (e ∷ es) = omega (arith, entries_long m e es, entries_few m es)

-- an entry owns at most so many steps
abbrev pub AreShort : ℕ → List Entry → Type 0
AreShort most es = AllByRecursion (λ (e : Entry). length e.steps ≤ most) es

pub all_short : (m : Model) (most : ℕ) (es : List Entry) → length (all_lines m es) ≤ most → AreShort most es
all_short m most [] few = tt
all_short m most (e ∷ es) few = (omega (arith, few, entries_long m e es), all_short m most es (omega (arith, few, entries_long m e es)))

-- ---- solutions

-- the last of several solutions has a cost in range
last_range : (m : Model) (ss : List Found) (c : ℤ) → AllByRecursion (λ (s : Found). Solution m s.steps s.cost) ss → last_cost ss ≡ Some c → InRange c
last_range m [] c all is = let clash : None ≡ Some c = is in absurd (cc)
last_range m (s ∷ []) c all is = let same : Some s.cost ≡ Some c = is in let one : s.cost ≡ c = cc in subst InRange one all.0.in_range
last_range m (s ∷ t ∷ ss) c all is = last_range m (t ∷ ss) c all.1 is

-- ---- entries, where none owns more steps than a number of 64 bits

module _ (m : Model) (most : ℕ) (small : most < 2 ^ 64) where
  pub found_words : (o : Option Found) → AllByRecursion (λ (s : Found). Solution m s.steps s.cost) (option_to_list o) → AreShort most (found_entries o) → HaveWords (found_entries o)
  found_words None legal short = tt
  found_words (Some s) legal short = ((cost_word s.cost legal.0.in_range, omega (arith, small, short.0)), tt)

  announces_words : (costs : List ℤ) → ((c : ℤ) → Has costs c → InRange c) → HaveWords (map (λ (cost : ℤ). alone (AnnounceLine cost)) costs)
  announces_words [] within = tt
  announces_words (cost ∷ costs) within = (cost_word cost (within cost (0, refl)), announces_words costs (λ c has. within c (suc has.0, has.1)))

  announced_words : (o : Option Announced) → ((c : ℤ) → Has (costs_in o) c → InRange c) → HaveWords (announced_entries o)
  announced_words None within = tt
  announced_words (Some a) within = announces_words a.costs within

  -- there are no more announced costs than entries
  count_words : (o : Option Announced) → length (announced_entries o) ≤ most → IfSome o (λ a. a.refused < 2 ^ 64) → HaveWords (count_entries o)
  count_words None few refused = tt
  count_words (Some a) few refused = let costs : length (announced_entries (Some a)) ≡ length a.costs = length-map a.costs (λ (cost : ℤ). alone (AnnounceLine cost)) in ((omega (arith, small, few, costs), refused), tt)

  pass_words : (p : Pass) → AllByRecursion (λ (s : Found). Solution m s.steps s.cost) (option_to_list p.found) → ((c : ℤ) → Has (costs_in p.announced) c → InRange c) → length (pass_entries p) ≤ most → AreShort most (pass_entries p)
      → FitsPass p → p.visited ≤ 2 ^ 40 → HaveWords (pass_entries p)
  pass_words p legal within few short fits visited =
      let last = alone (PassLine p.number p.share p.visited p.dropped) in
      let rest = found_entries p.found ++ (count_entries p.announced ++ last ∷ []) in
      let parts = all_parts (λ (e : Entry). length e.steps ≤ most) (announced_entries p.announced) rest short in
      let found = all_parts (λ (e : Entry). length e.steps ≤ most) (found_entries p.found) (count_entries p.announced ++ last ∷ []) parts.1 in
      let long : length (pass_entries p) ≡ length (announced_entries p.announced) + length rest = length-append (announced_entries p.announced) rest in
      all_both (λ (e : Entry). HasWords e.head) (announced_entries p.announced) rest (announced_words p.announced within)
      (all_both (λ (e : Entry). HasWords e.head) (found_entries p.found) (count_entries p.announced ++ last ∷ []) (found_words p.found legal found.0)
      (all_both (λ (e : Entry). HasWords e.head) (count_entries p.announced) (last ∷ []) (count_words p.announced (omega (arith, few, long)) fits.refused)
      ((omega (arith, fits.number), omega (arith, fits.share), omega (arith, visited), fits.dropped), tt)))

  passes_words : (ps : List Pass) → AllByRecursion (λ (s : Found). Solution m s.steps s.cost) (flat_map (λ (p : Pass). option_to_list p.found) ps) → ((c : ℤ) → Has (announced_costs ps) c → InRange c)
      → length (flat_map pass_entries ps) ≤ most → AreShort most (flat_map pass_entries ps) → ((k : ℕ) (p : Pass) → slice_get ps k ≡ Some p → FitsPass p) → visits ps ≤ 2 ^ 40 → HaveWords (flat_map pass_entries ps)
  passes_words [] legal within few short fit spent = tt
  passes_words (p ∷ ps) legal within few short fit spent =
      let legals = all_parts (λ (s : Found). Solution m s.steps s.cost) (option_to_list p.found) (flat_map (λ (q : Pass). option_to_list q.found) ps) legal in
      let parts = all_parts (λ (e : Entry). length e.steps ≤ most) (pass_entries p) (flat_map pass_entries ps) short in
      let long : length (flat_map pass_entries (p ∷ ps)) ≡ length (pass_entries p) + length (flat_map pass_entries ps) = length-append (pass_entries p) (flat_map pass_entries ps) in
      let sum : visits (p ∷ ps) ≡ p.visited + visits ps = sum_by-cons (λ (q : Pass). q.visited) p ps in
      all_both (λ (e : Entry). HasWords e.head) (pass_entries p) (flat_map pass_entries ps)
      (pass_words p legals.0 (λ c has. within c (has_left (costs_in p.announced) (announced_costs ps) c has)) (omega (arith, few, long)) parts.0 (fit 0 p refl) (omega (arith, spent, sum)))
      (passes_words ps legals.1 (λ c has. within c (has_right (costs_in p.announced) (announced_costs ps) c has)) (omega (arith, few, long)) parts.1 (λ k q at. fit (suc k) q at) (omega (arith, spent, sum)))

  bound_words : (o : Option ℤ) → IfSome o InWideRange → HaveWords (bound_entries o)
  bound_words None wide = tt
  bound_words (Some b) wide = (wide_word b wide, tt)

  ending_words : (options : Options) (gap : Bool) (r : Record) (e : Ending) → RightEnding m options gap r e → options.budget ≤ 2 ^ 40 → AllByRecursion (λ (s : Found). Solution m s.steps s.cost) (solutions r) → AreShort most (ending_entries m e)
      → HaveWords (ending_entries m e)
  ending_words options gap r (Ended (verdicts.Optimal cost)) h budget legal short = (cost_word cost (last_range m (solutions r) cost legal h.0.0), tt)
  ending_words options gap r (Ended verdicts.Infeasible) h budget legal short = (tt, tt)
  ending_words options gap r (Ended (verdicts.Stopped visits)) h budget legal short = (omega (arith, h.0.0, budget), tt)
  ending_words options gap r (Ended (verdicts.Fault f)) h budget legal short = (omega (arith, small, short.0), tt)
  ending_words options gap r (Ended (verdicts.Legal cost)) h budget legal short = tt
  ending_words options gap r (Ended (verdicts.Illegal done reason)) h budget legal short = tt
  ending_words options gap r OutOfMemory h budget legal short = (tt, tt)

-- ---- a record of a search

pub record_words : (m : Model) (announce : Bool) (r : Record) → IsRecordOf m announce r → HaveWords (entries_of m r)
record_words m announce r is =
    let es = entries_of m r in
    let most = length (all_lines m es) in
    let passes = flat_map pass_entries r.passes in
    let rest = bound_entries r.bound ++ ending_entries m r.ending in
    let text : length (record_text (All announce) m r) ≡ length (text_of_lines (all_lines m es)) = ap length (record_is m announce r (ends_search m is.options is.gap r r.ending is.right.ending)) in
    let small : most < 2 ^ 64 = omega (arith, lines_long (all_lines m es), is.short, text) in
    let short : AreShort most es = all_short m most es (omega arith) in
    let first = all_parts (λ (e : Entry). length e.steps ≤ most) (found_entries r.at_target) (passes ++ rest) short in
    let second = all_parts (λ (e : Entry). length e.steps ≤ most) passes rest first.1 in
    let third = all_parts (λ (e : Entry). length e.steps ≤ most) (bound_entries r.bound) (ending_entries m r.ending) second.1 in
    let legal = all_parts (λ (s : Found). Solution m s.steps s.cost) (option_to_list r.at_target) (flat_map (λ (p : Pass). option_to_list p.found) r.passes) is.right.legal in
    let whole : length es ≡ length (found_entries r.at_target) + length (passes ++ rest) = length-append (found_entries r.at_target) (passes ++ rest) in
    let behind : length (passes ++ rest) ≡ length passes + length rest = length-append passes rest in
    let few : length passes ≤ most = omega (arith, entries_few m es, whole, behind) in
    all_both (λ (e : Entry). HasWords e.head) (found_entries r.at_target) (passes ++ rest) (found_words m most small r.at_target legal.0 first.0)
    (all_both (λ (e : Entry). HasWords e.head) passes rest
    (passes_words m most small r.passes legal.1 (λ c has. (is.right.announced.legal c has).1.in_range) few second.0 is.counted.words (omega (arith, is.right.within_budget, is.fit.small_budget)))
    (all_both (λ (e : Entry). HasWords e.head) (bound_entries r.bound) (ending_entries m r.ending) (bound_words m most small r.bound is.counted.bound)
    (ending_words m most small is.options is.gap r r.ending is.right.ending is.fit.small_budget is.right.legal third.1)))
