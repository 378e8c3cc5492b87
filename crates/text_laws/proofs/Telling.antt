-- The entries of a record tell the record.
use Rattle.std.proofs.Common.{◌≡◌, ℕ, Bool, List, [], ◌∷◌, ◌++◌, codes, decimal, length, map, Option, Some, None, ℤ, refl, sym, ap, ◌∙◌, arith, append_assoc}
use Rattle.std.specs.Prelude.{IfSome}
use Rattle.std.specs.List.{flat_map}
use Rattle.std.specs.Str.Lines.{lines}
use Rattle.std.proofs.lemmas.Fmt.{decimal_digit}
use Rattle.std.proofs.lemmas.List.{append-nil}
use Rattle.dp_model.specs.StepTexts.{step_text}
use Rattle.dp_model.specs.declared.answers.FaultAt.{FaultAt}
use Rattle.dp_model.specs.declared.answers.FaultKind.{FaultKind}
use Rattle.dp_model.specs.declared.answers.Found.{Found}
use Rattle.dp_model.specs.declared.answers.Options.{Options}
use Rattle.dp_model.specs.declared.answers.Spot.TheVariants as spots
use Rattle.dp_model.specs.declared.answers.Verdict.TheVariants as verdicts
use Rattle.dp_model.specs.declared.whole.Model.{Model}
use Rattle.solve_report.specs.Lines.{spot_text}
use Rattle.cert_text.specs.ReadBack.{HasStepTexts, is_line}
use Rattle.cert_text.proofs.ReadBack.{lines_back}
use Rattle.solve_passes.specs.Records.{Announced, Ended, Ending, IsBaseTarget, OutOfMemory, Pass, Record, Right, record_text}
use Rattle.solve_passes.specs.declared.progress.Printing.TheVariants.{All}
use Rattle.text_laws.specs.Entries.{Entry, Head, AnnounceLine, SolutionLine, AnnouncedLine, PassLine, SearchLine, BoundLine, OptimalLine, InfeasibleLine, StoppedLine, FaultLine, MemoryLine, entries_in}
use Rattle.text_laws.specs.Records.{AreAlike, EndAlike, EndsInFault, HasLineNames, IsRecordOf, LawReadRecord, LawToldApart, alone, bound_entries, ending_entries, entries_of, found_entries, pass_entries}
use Rattle.text_laws.proofs.Fitting.{all_fit, ends_search, met_line}
use Rattle.text_laws.proofs.Reading.{all_are_lines, all_lines, entries_back}
use Rattle.text_laws.proofs.Texts.{EndsSearch, record_is}
use Rattle.text_laws.proofs.Words.{record_words}

-- ---- a record is read back

pub read_record : LawReadRecord
read_record m has names announce r is =
    let fit = all_fit is_line m is.options is.gap r (met_line m is.options is.gap r has names is.right) is.right in
    let es = entries_of m r in
    ap (λ (text : List ℕ). entries_in m (lines text)) (record_is m announce r (ends_search m is.options is.gap r r.ending is.right.ending))
    ∙ ap (entries_in m) (lines_back (all_lines m es) (all_are_lines m es has fit))
    ∙ entries_back is_line m es has (record_words m announce r is) fit

-- ---- what entries tell of a record

-- what is told, and what is told of a pass before its line
pub record Told : Type 0 where
  pub costs : List ℤ
  pub found : Option Found
  pub refused : Option ℕ
  pub passes : List Pass
  pub visited : Option ℕ
  pub bound : Option ℤ
  pub ending : List Entry

abbrev announced_of : List ℤ → Option ℕ → Option Announced
announced_of costs None = None
announced_of costs (Some refused) = Some (record { costs = costs; refused = refused })

abbrev told_with : Head → List ℕ → Told → Told
told_with (AnnounceLine cost) steps t = record t { costs = t.costs ++ cost ∷ [] }
told_with (SolutionLine cost count) steps t = record t { found = Some (record { cost = cost; steps = steps }) }
told_with (AnnouncedLine announced refused) steps t = record t { refused = Some refused }
told_with (PassLine number share visited dropped) steps t =
    record {
      costs = [];
      found = None;
      refused = None;
      passes = t.passes ++ record { announced = announced_of t.costs t.refused; found = t.found; number = number; share = share; visited = visited; dropped = dropped } ∷ [];
      visited = t.visited;
      bound = t.bound;
      ending = t.ending;
    }
told_with (SearchLine visited) steps t = record t { visited = Some visited }
told_with (BoundLine cost) steps t = record t { bound = Some cost }
told_with head steps t = record t { ending = t.ending ++ record { head = head; steps = steps } ∷ [] }

abbrev pub told_by : List Entry → Told → Told
told_by [] t = t
told_by (e ∷ es) t = told_by es (told_with e.head e.steps t)

abbrev pub told_of : Option Found → List Pass → Option ℤ → List Entry → Told
told_of found passes bound ending = record { costs = []; found = found; refused = None; passes = passes; visited = None; bound = bound; ending = ending }

announces_told : (costs : List ℤ) (es : List Entry) (t : Told) → told_by (map (λ (cost : ℤ). alone (AnnounceLine cost)) costs ++ es) t ≡ told_by es (record t { costs = t.costs ++ costs })
announces_told [] es t = ap (λ (costs : List ℤ). told_by es (record t { costs = costs })) (sym (append-nil t.costs))
announces_told (cost ∷ costs) es t =
    announces_told costs es (record t { costs = t.costs ++ cost ∷ [] })
    ∙ ap (λ (all : List ℤ). told_by es (record t { costs = all })) (append_assoc t.costs (cost ∷ []) costs)

pass_told : (announced : Option Announced) (found : Option Found) (number share visited dropped : ℕ) (done : List Pass) (es : List Entry)
    → told_by (pass_entries (record { announced = announced; found = found; number = number; share = share; visited = visited; dropped = dropped }) ++ es) (told_of None done None [])
    ≡ told_by es (told_of None (done ++ record { announced = announced; found = found; number = number; share = share; visited = visited; dropped = dropped } ∷ []) None [])
pass_told None None number share visited dropped done es = refl
pass_told None (Some s) number share visited dropped done es = refl
pass_told (Some a) None number share visited dropped done es =
    ap (λ (all : List Entry). told_by all (told_of None done None [])) (append_assoc (map (λ (cost : ℤ). alone (AnnounceLine cost)) a.costs) (alone (AnnouncedLine (length a.costs) a.refused) ∷ alone (PassLine number share visited dropped) ∷ []) es)
    ∙ announces_told a.costs (alone (AnnouncedLine (length a.costs) a.refused) ∷ alone (PassLine number share visited dropped) ∷ es) (told_of None done None [])
pass_told (Some a) (Some s) number share visited dropped done es =
    ap (λ (all : List Entry). told_by all (told_of None done None [])) (append_assoc (map (λ (cost : ℤ). alone (AnnounceLine cost)) a.costs) (record { head = SolutionLine s.cost (length s.steps); steps = s.steps } ∷ alone (AnnouncedLine (length a.costs) a.refused) ∷ alone (PassLine number share visited dropped) ∷ []) es)
    ∙ announces_told a.costs (record { head = SolutionLine s.cost (length s.steps); steps = s.steps } ∷ alone (AnnouncedLine (length a.costs) a.refused) ∷ alone (PassLine number share visited dropped) ∷ es) (told_of None done None [])

passes_told : (ps done : List Pass) (es : List Entry) → told_by (flat_map pass_entries ps ++ es) (told_of None done None []) ≡ told_by es (told_of None (done ++ ps) None [])
passes_told [] done es = ap (λ (all : List Pass). told_by es (told_of None all None [])) (sym (append-nil done))
passes_told (p ∷ ps) done es =
    ap (λ (all : List Entry). told_by all (told_of None done None [])) (append_assoc (pass_entries p) (flat_map pass_entries ps) es)
    ∙ pass_told p.announced p.found p.number p.share p.visited p.dropped done (flat_map pass_entries ps ++ es)
    ∙ passes_told ps (done ++ p ∷ []) es
    ∙ ap (λ (all : List Pass). told_by es (told_of None all None [])) (append_assoc done (p ∷ []) ps)

ending_told : (m : Model) (found : Option Found) (passes : List Pass) (bound : Option ℤ) (e : Ending) → told_by (ending_entries m e) (told_of found passes bound []) ≡ told_of found passes bound (ending_entries m e)
ending_told m found passes bound (Ended (verdicts.Optimal cost)) = refl
ending_told m found passes bound (Ended verdicts.Infeasible) = refl
ending_told m found passes bound (Ended (verdicts.Stopped visits)) = refl
ending_told m found passes bound (Ended (verdicts.Fault f)) = refl
ending_told m found passes bound (Ended (verdicts.Legal cost)) = refl
ending_told m found passes bound (Ended (verdicts.Illegal done reason)) = refl
ending_told m found passes bound OutOfMemory = refl

bound_told : (m : Model) (found : Option Found) (passes : List Pass) (bound : Option ℤ) (e : Ending) → told_by (bound_entries bound ++ ending_entries m e) (told_of found passes None []) ≡ told_of found passes bound (ending_entries m e)
bound_told m found passes None e = ending_told m found passes None e
bound_told m found passes (Some b) e = ending_told m found passes (Some b) e

-- the solution at the target stands where there is no pass
record_told : (m : Model) (at_target : Option Found) (passes : List Pass) (bound : Option ℤ) (e : Ending) → IfSome at_target (λ s. passes ≡ [])
    → told_by (found_entries at_target ++ (flat_map pass_entries passes ++ (bound_entries bound ++ ending_entries m e))) (told_of None [] None []) ≡ told_of at_target passes bound (ending_entries m e)
record_told m None passes bound e alone = passes_told passes [] (bound_entries bound ++ ending_entries m e) ∙ bound_told m None passes bound e
record_told m (Some s) passes bound e alone =
    ap (λ (ps : List Pass). told_by (flat_map pass_entries ps ++ (bound_entries bound ++ ending_entries m e)) (told_of (Some s) [] None [])) alone
    ∙ bound_told m (Some s) [] bound e
    ∙ ap (λ (ps : List Pass). told_of (Some s) ps bound (ending_entries m e)) (sym alone)

target_alone : (m : Model) (at_target : Option Found) (passes : List Pass) → IfSome at_target (λ s. (passes ≡ []) × IsBaseTarget m) → IfSome at_target (λ s. passes ≡ [])
target_alone m None passes h = tt
target_alone m (Some s) passes h = h.0

entries_told : (m : Model) (options : Options) (gap : Bool) (r : Record) → Right m options gap r → told_by (entries_of m r) (told_of None [] None []) ≡ told_of r.at_target r.passes r.bound (ending_entries m r.ending)
entries_told m options gap r right = record_told m r.at_target r.passes r.bound r.ending (target_alone m r.at_target r.passes right.base_target)

-- ---- endings

-- the ending that an entry tells, where it is no fault
abbrev ending_of : List Entry → Option Ending
ending_of [] = None
ending_of (e ∷ es) = by e.head
  where
    by : Head → Option Ending
    by (OptimalLine cost) = Some (Ended (verdicts.Optimal cost))
    by InfeasibleLine = Some (Ended verdicts.Infeasible)
    by (StoppedLine visits) = Some (Ended (verdicts.Stopped visits))
    by MemoryLine = Some OutOfMemory
    by head = None

ending_back : (m : Model) (e f : Ending) → ending_of (ending_entries m f) ≡ Some e → e ≡ f
ending_back m e (Ended (verdicts.Optimal cost)) h = cc
ending_back m e (Ended verdicts.Infeasible) h = cc
ending_back m e (Ended (verdicts.Stopped visits)) h = cc
ending_back m e (Ended (verdicts.Fault f)) h = absurd (cc)
ending_back m e (Ended (verdicts.Legal cost)) h = absurd (cc)
ending_back m e (Ended (verdicts.Illegal done reason)) h = absurd (cc)
ending_back m e OutOfMemory h = cc

-- what an entry tells of a fault: its kind, the text of its spot, and its steps
pub record FaultTold : Type 0 where
  pub kind : FaultKind
  pub spot : List ℕ
  pub steps : List ℕ

abbrev pub fault_in : List Entry → Option FaultTold
fault_in [] = None
fault_in (e ∷ es) = by e.head
  where
    by : Head → Option FaultTold
    by (FaultLine kind spot steps) = Some (record { kind = kind; spot = spot; steps = e.steps })
    by head = None

abbrev pub told_fault : Model → FaultAt → FaultTold
told_fault m f = record { kind = f.kind; spot = spot_text m f.spot; steps = f.steps }

pub one_told : {A : Type 0} (x y : A) → Some x ≡ Some y → x ≡ y
one_told x y h = cc

pub not_told : {A : Type 0} (x : A) → Some x ≡ None → ⊥
not_told x h = absurd (cc)

fault_alike : (m : Model) (f : FaultAt) (e : Ending) → Some (told_fault m f) ≡ fault_in (ending_entries m e) → EndAlike m (Ended (verdicts.Fault f)) e
fault_alike m f (Ended (verdicts.Fault g)) h =
    let both : told_fault m f ≡ told_fault m g = one_told (told_fault m f) (told_fault m g) h in
    (ap (λ (x : FaultTold). x.kind) both, ap (λ (x : FaultTold). x.spot) both, ap (λ (x : FaultTold). x.steps) both)
fault_alike m f (Ended (verdicts.Optimal cost)) h = absurd (not_told (told_fault m f) h)
fault_alike m f (Ended verdicts.Infeasible) h = absurd (not_told (told_fault m f) h)
fault_alike m f (Ended (verdicts.Stopped visits)) h = absurd (not_told (told_fault m f) h)
fault_alike m f (Ended (verdicts.Legal cost)) h = absurd (not_told (told_fault m f) h)
fault_alike m f (Ended (verdicts.Illegal done reason)) h = absurd (not_told (told_fault m f) h)
fault_alike m f OutOfMemory h = absurd (not_told (told_fault m f) h)

end_alike : (m : Model) (e f : Ending) → EndsSearch e → ending_entries m e ≡ ending_entries m f → EndAlike m e f
end_alike m (Ended (verdicts.Optimal cost)) f ends h = ending_back m (Ended (verdicts.Optimal cost)) f (sym (ap ending_of h))
end_alike m (Ended verdicts.Infeasible) f ends h = ending_back m (Ended verdicts.Infeasible) f (sym (ap ending_of h))
end_alike m (Ended (verdicts.Stopped visits)) f ends h = ending_back m (Ended (verdicts.Stopped visits)) f (sym (ap ending_of h))
end_alike m (Ended (verdicts.Fault f)) e ends h = fault_alike m f e (ap fault_in h)
end_alike m (Ended (verdicts.Legal cost)) f ends h = absurd ends
end_alike m (Ended (verdicts.Illegal done reason)) f ends h = absurd ends
end_alike m OutOfMemory f ends h = ending_back m OutOfMemory f (sym (ap ending_of h))

-- of an ending that is no fault all is told
end_same : (m : Model) (e f : Ending) → EndsSearch e → (EndsInFault e → ⊥) → EndAlike m e f → e ≡ f
end_same m (Ended (verdicts.Optimal cost)) f ends none h = h
end_same m (Ended verdicts.Infeasible) f ends none h = h
end_same m (Ended (verdicts.Stopped visits)) f ends none h = h
end_same m (Ended (verdicts.Fault g)) f ends none h = absurd (none tt)
end_same m (Ended (verdicts.Legal cost)) f ends none h = h
end_same m (Ended (verdicts.Illegal done reason)) f ends none h = h
end_same m OutOfMemory f ends none h = h

-- ---- records with one text

alike : (m : Model) → HasStepTexts m → HasLineNames m → (announce announce' : Bool) (a b : Record) → IsRecordOf m announce a → IsRecordOf m announce' b → record_text (All announce) m a ≡ record_text (All announce') m b → AreAlike m a b
alike m has names announce announce' a b is is' same =
    let one : entries_of m a ≡ entries_of m b = one_told (entries_of m a) (entries_of m b)
    (sym (read_record m has names announce a is) ∙ ap (λ (text : List ℕ). entries_in m (lines text)) same ∙ read_record m has names announce' b is') in
    let told : told_of a.at_target a.passes a.bound (ending_entries m a.ending) ≡ told_of b.at_target b.passes b.bound (ending_entries m b.ending) =
    sym (entries_told m is.options is.gap a is.right) ∙ ap (λ (es : List Entry). told_by es (told_of None [] None [])) one ∙ entries_told m is'.options is'.gap b is'.right in
    record {
      at_target = ap (λ (t : Told). t.found) told;
      passes = ap (λ (t : Told). t.passes) told;
      bound = ap (λ (t : Told). t.bound) told;
      ending = end_alike m a.ending b.ending (ends_search m is.options is.gap a a.ending is.right.ending) (ap (λ (t : Told). t.ending) told);
    }

same_record : (at_target at_target' : Option Found) (passes passes' : List Pass) (bound bound' : Option ℤ) (e e' : Ending) → at_target ≡ at_target' → passes ≡ passes' → bound ≡ bound' → e ≡ e'
    → ◌≡◌ {A = Record} (record { at_target = at_target; passes = passes; bound = bound; ending = e }) (record { at_target = at_target'; passes = passes'; bound = bound'; ending = e' })
same_record at_target at_target' passes passes' bound bound' e e' p q r s = λ i. record { at_target = p i; passes = q i; bound = r i; ending = s i }

-- the number of the first base case
first_number : decimal 1 ≡ codes "1"
first_number = decimal_digit 1 (omega arith)

one_text : (m : Model) (g : ℕ) → step_text m g ≡ codes "base 1" → spot_text m (spots.Cost g) ≡ spot_text m (spots.BaseCost 0)
one_text m g e = ap (λ (text : List ℕ). text ++ codes " cost") (e ∙ sym (ap (λ (text : List ℕ). codes "base " ++ text) first_number))

pub told_apart : LawToldApart
told_apart =
    record {
      alike = alike;
      same = λ m has names announce announce' a b is is' one none.
          let h = alike m has names announce announce' a b is is' one in
          same_record a.at_target b.at_target a.passes b.passes a.bound b.bound a.ending b.ending h.at_target h.passes h.bound (end_same m a.ending b.ending (ends_search m is.options is.gap a a.ending is.right.ending) none h.ending);
      one_text = one_text;
    }
