-- The text of a record is that of its entries.
use Rattle.std.proofs.Common.{◌≡◌, ℕ, Bool, List, [], ◌∷◌, ◌++◌, codes, decimal, length, map, Option, Some, None, refl, sym, ap, ◌∙◌, append_assoc}
use Rattle.std.specs.Prelude.{ℤ}
use Rattle.std.specs.Fmt.{signed_decimal}
use Rattle.std.specs.List.{flat_map}
use Rattle.std.proofs.lemmas.Grind.{flat_map-append}
use Rattle.std.proofs.lemmas.List.{append-nil}
use Rattle.announcing.specs.Telling.{announce_text}
use Rattle.dp_base.specs.Bytes.{line}
use Rattle.dp_model.specs.StepTexts.{step_text}
use Rattle.dp_model.specs.declared.answers.FaultAt.{FaultAt}
use Rattle.dp_model.specs.declared.answers.Found.{Found}
use Rattle.dp_model.specs.declared.answers.Verdict.TheVariants as verdicts
use Rattle.dp_model.specs.declared.whole.Model.{Model}
use Rattle.solve_report.specs.Lines.{announced_line, fault_text, pass_line, solution_text, spot_text, step_lines}
use Rattle.cert_text.specs.Texts.{text_of_lines}
use Rattle.solve_passes.specs.Records.{Announced, Ended, Ending, OutOfMemory, Pass, Record, announced_lines, bound_text, count_line, ending_text, pass_text, record_text, solution_lines}
use Rattle.solve_passes.specs.declared.progress.Printing.TheVariants.{All}
use Rattle.text_laws.specs.Entries.{Entry, AnnounceLine, AnnouncedLine, FaultLine, PassLine, SolutionLine}
use Rattle.text_laws.specs.Records.{alone, announced_entries, bound_entries, count_entries, ending_entries, entries_of, found_entries, pass_entries}
use Rattle.text_laws.proofs.Heads.{head_line}
use Rattle.text_laws.proofs.Reading.{all_lines, entry_lines}

abbrev pub text_of_entries : Model → List Entry → List ℕ
text_of_entries m es = text_of_lines (all_lines m es)

-- ---- one entry

-- the lines of steps
pub steps_text : (m : Model) (steps : List ℕ) → step_lines m steps ≡ text_of_lines (map (step_text m) steps)
steps_text m [] = refl
steps_text m (g ∷ steps) = ap (λ (rest : List ℕ). line (step_text m g) ++ rest) (steps_text m steps)

-- an entry and what stands behind it
pub entry_more : (m : Model) (e : Entry) (es : List Entry) → line (head_line e.head) ++ step_lines m e.steps ++ text_of_entries m es ≡ text_of_entries m (e ∷ es)
entry_more m e es =
    ap (λ (rest : List ℕ). line (head_line e.head) ++ rest ++ text_of_entries m es) (steps_text m e.steps)
    ∙ sym (flat_map-append line (entry_lines m e) (all_lines m es))

pub solution_is : (m : Model) (s : Found) → solution_text m s ≡ line (head_line (SolutionLine s.cost (length s.steps))) ++ step_lines m s.steps
solution_is m s = ap (λ (words : List ℕ). line (codes "solution " ++ words) ++ step_lines m s.steps) (append_assoc (signed_decimal s.cost) (codes " ") (decimal (length s.steps)))

announced_is : (announced refused : ℕ) → announced_line announced refused ≡ line (head_line (AnnouncedLine announced refused))
announced_is announced refused = ap (λ (words : List ℕ). line (codes "announced " ++ words)) (append_assoc (decimal announced) (codes " refused ") (decimal refused))

pass_is : (number share visited dropped : ℕ) → pass_line number share visited dropped ≡ line (head_line (PassLine number share visited dropped))
pass_is number share visited dropped =
    let words : codes "pass " ++ decimal number ++ codes " share " ++ decimal share ++ codes " visited " ++ decimal visited ++ codes " dropped " ++ decimal dropped ≡ head_line (PassLine number share visited dropped) = simp append_assoc in
    ap line words

pub fault_is : (m : Model) (f : FaultAt) → fault_text m f ≡ head_line (FaultLine f.kind (spot_text m f.spot) (length f.steps))
fault_is m f = simp append_assoc

-- ---- the parts of a record, each with what stands behind it

pub found_more : (m : Model) (o : Option Found) (es : List Entry) → solution_lines m o ++ text_of_entries m es ≡ text_of_entries m (found_entries o ++ es)
found_more m None es = refl
found_more m (Some s) es = ap (λ (text : List ℕ). text ++ text_of_entries m es) (solution_is m s) ∙ entry_more m (record { head = SolutionLine s.cost (length s.steps); steps = s.steps }) es

announces_more : (m : Model) (costs : List ℤ) (es : List Entry) → announce_text costs ++ text_of_entries m es ≡ text_of_entries m (map (λ (cost : ℤ). alone (AnnounceLine cost)) costs ++ es)
announces_more m [] es = refl
announces_more m (cost ∷ costs) es =
    append_assoc (line (head_line (AnnounceLine cost))) (announce_text costs) (text_of_entries m es) ∙ ap (λ (rest : List ℕ). line (head_line (AnnounceLine cost)) ++ rest) (announces_more m costs es)

announced_more : (m : Model) (o : Option Announced) (es : List Entry) → announced_lines o ++ text_of_entries m es ≡ text_of_entries m (announced_entries o ++ es)
announced_more m None es = refl
announced_more m (Some a) es = announces_more m a.costs es

count_more : (m : Model) (o : Option Announced) (es : List Entry) → count_line o ++ text_of_entries m es ≡ text_of_entries m (count_entries o ++ es)
count_more m None es = refl
count_more m (Some a) es = ap (λ (text : List ℕ). text ++ text_of_entries m es) (announced_is (length a.costs) a.refused)

pass_more : (m : Model) (p : Pass) (es : List Entry) → pass_text m p ++ text_of_entries m es ≡ text_of_entries m (pass_entries p ++ es)
pass_more m p es =
    let last = alone (PassLine p.number p.share p.visited p.dropped) in
    let first = pass_line p.number p.share p.visited p.dropped in
    append_assoc (announced_lines p.announced) (solution_lines m p.found ++ (count_line p.announced ++ first)) (text_of_entries m es)
    ∙ ap (λ (rest : List ℕ). announced_lines p.announced ++ rest) (append_assoc (solution_lines m p.found) (count_line p.announced ++ first) (text_of_entries m es) ∙ ap (λ (rest : List ℕ). solution_lines m p.found ++ rest) (append_assoc (count_line p.announced) first (text_of_entries m es)))
    ∙ ap (λ (text : List ℕ). announced_lines p.announced ++ (solution_lines m p.found ++ (count_line p.announced ++ (text ++ text_of_entries m es)))) (pass_is p.number p.share p.visited p.dropped)
    ∙ ap (λ (rest : List ℕ). announced_lines p.announced ++ (solution_lines m p.found ++ rest)) (count_more m p.announced (last ∷ es))
    ∙ ap (λ (rest : List ℕ). announced_lines p.announced ++ rest) (found_more m p.found (count_entries p.announced ++ last ∷ es))
    ∙ announced_more m p.announced (found_entries p.found ++ (count_entries p.announced ++ last ∷ es))
    ∙ ap (text_of_entries m) (sym (
    append_assoc (announced_entries p.announced) (found_entries p.found ++ (count_entries p.announced ++ last ∷ [])) es
    ∙ ap (λ (rest : List Entry). announced_entries p.announced ++ rest) (append_assoc (found_entries p.found) (count_entries p.announced ++ last ∷ []) es ∙ ap (λ (rest : List Entry). found_entries p.found ++ rest) (append_assoc (count_entries p.announced) (last ∷ []) es))
    ))

passes_more : (m : Model) (ps : List Pass) (es : List Entry) → flat_map (pass_text m) ps ++ text_of_entries m es ≡ text_of_entries m (flat_map pass_entries ps ++ es)
passes_more m [] es = refl
passes_more m (p ∷ ps) es =
    append_assoc (pass_text m p) (flat_map (pass_text m) ps) (text_of_entries m es)
    ∙ ap (λ (rest : List ℕ). pass_text m p ++ rest) (passes_more m ps es)
    ∙ pass_more m p (flat_map pass_entries ps ++ es)
    ∙ ap (text_of_entries m) (sym (append_assoc (pass_entries p) (flat_map pass_entries ps) es))

bound_more : (m : Model) (announce : Bool) (o : Option ℤ) (es : List Entry) → bound_text o (All announce) ++ text_of_entries m es ≡ text_of_entries m (bound_entries o ++ es)
bound_more m announce None es = refl
bound_more m announce (Some b) es = refl

-- a verdict of a search, or want of memory
abbrev pub EndsSearch : Ending → Type 0
EndsSearch (Ended (verdicts.Legal cost)) = ⊥
EndsSearch (Ended (verdicts.Illegal done reason)) = ⊥
EndsSearch ending = Unit {0}

pub ending_is : (m : Model) (ending : Ending) → EndsSearch ending → ending_text m ending ≡ text_of_entries m (ending_entries m ending)
ending_is m (Ended (verdicts.Optimal cost)) ends = sym (append-nil (line (codes "verdict optimal " ++ signed_decimal cost)))
ending_is m (Ended verdicts.Infeasible) ends = refl
ending_is m (Ended (verdicts.Stopped visits)) ends = sym (append-nil (line (codes "verdict stopped " ++ decimal visits)))
ending_is m (Ended (verdicts.Fault f)) ends =
    ap (λ (words : List ℕ). line words ++ step_lines m f.steps) (fault_is m f)
    ∙ sym (append-nil (line (head_line (FaultLine f.kind (spot_text m f.spot) (length f.steps))) ++ step_lines m f.steps))
    ∙ entry_more m (record { head = FaultLine f.kind (spot_text m f.spot) (length f.steps); steps = f.steps }) []
ending_is m (Ended (verdicts.Legal cost)) ends = absurd ends
ending_is m (Ended (verdicts.Illegal done reason)) ends = absurd ends
ending_is m OutOfMemory ends = refl

pub record_is : (m : Model) (announce : Bool) (r : Record) → EndsSearch r.ending → record_text (All announce) m r ≡ text_of_entries m (entries_of m r)
record_is m announce r ends =
    let rest = bound_entries r.bound ++ ending_entries m r.ending in
    append_assoc (solution_lines m r.at_target) (flat_map (pass_text m) r.passes) (bound_text r.bound (All announce) ++ ending_text m r.ending)
    ∙ ap (λ (text : List ℕ). solution_lines m r.at_target ++ (flat_map (pass_text m) r.passes ++ (bound_text r.bound (All announce) ++ text))) (ending_is m r.ending ends)
    ∙ ap (λ (text : List ℕ). solution_lines m r.at_target ++ (flat_map (pass_text m) r.passes ++ text)) (bound_more m announce r.bound (ending_entries m r.ending))
    ∙ ap (λ (text : List ℕ). solution_lines m r.at_target ++ text) (passes_more m r.passes rest)
    ∙ found_more m r.at_target (flat_map pass_entries r.passes ++ rest)
