-- The entries of a right record own ground transitions of the model, and the text of a fault's spot is a line.
use Rattle.std.proofs.Common.{◌≡◌, ℕ, ◌+◌, Bool, true, List, [], ◌∷◌, ◌++◌, codes, length, map, slice_get, Option, Some, None, ℤ, refl, subst}
use Rattle.std.specs.Prelude.{nat_lt}
use Rattle.std.specs.List.{AllByRecursion, flat_map}
use Rattle.std.specs.Option.{option_to_list}
use Rattle.std.proofs.lemmas.Bool.{and_from, lt-ltb}
use Rattle.dp_model.specs.Costs.{join}
use Rattle.dp_model.specs.StepTexts.{ground_of, step_text}
use Rattle.dp_model.specs.Typing.{effect_variable}
use Rattle.dp_model.specs.declared.answers.FaultAt.{FaultAt}
use Rattle.dp_model.specs.declared.answers.FaultKind.{FaultKind}
use Rattle.dp_model.specs.declared.answers.Found.{Found}
use Rattle.dp_model.specs.declared.answers.Options.{Options}
use Rattle.dp_model.specs.declared.answers.Spot.{Spot}
use Rattle.dp_model.specs.declared.answers.Spot.TheVariants as spots
use Rattle.dp_model.specs.declared.answers.Verdict.TheVariants as verdicts
use Rattle.dp_model.specs.declared.parts.Effect.{Effect}
use Rattle.dp_model.specs.declared.parts.PlainState.{PlainState}
use Rattle.dp_model.specs.declared.parts.Transition.{Transition}
use Rattle.dp_model.specs.declared.parts.Variable.{Variable}
use Rattle.dp_model.specs.declared.whole.Model.{Model}
use Rattle.dp_steps.specs.Faults.{Faults, Meets}
use Rattle.dp_steps.specs.Lists.{Leads, Path, Solution}
use Rattle.solve_report.specs.Lines.{effect_text, ordinal, spot_text, variable_text}
use Rattle.visit_laws.proofs.Transitions.{ground_within}
use Rattle.cert_text.specs.ReadBack.{HasStepTexts, is_line}
use Rattle.cert_text.proofs.ReadBack.{ascii_line, line_append}
use Rattle.solve_passes.specs.Records.{Announced, Ended, Ending, OutOfMemory, Pass, Record, Right, RightEnding}
use Rattle.text_laws.specs.Entries.{AnnounceLine, PassLine}
use Rattle.text_laws.specs.Records.{HasLineNames, alone, announced_entries, bound_entries, count_entries, ending_entries, entries_of, found_entries, pass_entries}
use Rattle.text_laws.proofs.Heads.{decimal_passes}
use Rattle.text_laws.proofs.Reading.{Fits, are_steps}
use Rattle.text_laws.proofs.Texts.{EndsSearch}

-- ---- steps

leads_steps : (m : Model) (from : PlainState) (cost : Option ℤ) (steps : List ℕ) (to : PlainState) (total : Option ℤ) → Leads m from cost steps to total → are_steps m steps ≡ true
leads_steps m from cost [] to total h = refl
leads_steps m from cost (g ∷ steps) to total h =
    and_from (nat_lt g (length m.dp_ground)) (are_steps m steps) (lt-ltb g (length m.dp_ground) (ground_within m g h.2.move.0 h.2.move.1)) (leads_steps m h.0 (join m.join cost h.1) steps to total h.4)

pub path_steps : (m : Model) (steps : List ℕ) (s : PlainState) (cost : Option ℤ) → Path m steps s cost → are_steps m steps ≡ true
path_steps m steps s cost h = leads_steps m m.target None steps s cost h

pub solution_steps : (m : Model) (steps : List ℕ) (cost : ℤ) → Solution m steps cost → are_steps m steps ≡ true
solution_steps m steps cost h = leads_steps m m.target None steps h.reaches.0 h.reaches.1 h.reaches.3

pub meets_steps : (m : Model) (prune : Bool) (steps : List ℕ) (spot : Spot) (kind : FaultKind) → Meets m prune steps spot kind → are_steps m steps ≡ true
meets_steps m prune steps spot kind h = leads_steps m m.target None steps h.0 h.1 h.2

-- ---- spots

variable_line : (m : Model) (o : Option Effect) → HasLineNames m → is_line (variable_text m o) ≡ true
variable_line m None names = refl
variable_line m (Some e) names = by (slice_get m.variables (effect_variable e)) refl
  where
    by : (o : Option Variable) → slice_get m.variables (effect_variable e) ≡ o → is_line (variable_text m (Some e)) ≡ true
    by None q = rw q refl
    by (Some v) q = rw q (names (effect_variable e) v q)

effect_line : (m : Model) (o : Option (Transition × List ℕ)) (i : ℕ) → HasLineNames m → is_line (effect_text m o i) ≡ true
effect_line m None i names = refl
effect_line m (Some t) i names = variable_line m (slice_get t.0.effects i) names

-- a step's text and what is told behind it
step_line : (m : Model) (g : ℕ) (t : Transition × List ℕ) (rest : List ℕ) → HasStepTexts m → ground_of m g ≡ Some t → is_line rest ≡ true → is_line (step_text m g ++ rest) ≡ true
step_line m g t rest has at is = line_append (step_text m g) rest (has g (ground_within m g t at)).1 is

pub spot_line : (m : Model) (cost : Option ℤ) (s : PlainState) (spot : Spot) (kind : FaultKind) → HasStepTexts m → HasLineNames m → Faults m cost s spot kind → is_line (spot_text m spot) ≡ true
spot_line m cost s (spots.Constraint i) kind has names h = line_append (codes "constraint ") (ordinal i) refl (decimal_passes is_line line_append ascii_line (i + 1))
spot_line m cost s (spots.BaseCondition i j) kind has names h =
    line_append (codes "base " ++ ordinal i ++ codes " condition ") (ordinal j)
    (line_append (codes "base " ++ ordinal i) (codes " condition ") (line_append (codes "base ") (ordinal i) refl (decimal_passes is_line line_append ascii_line (i + 1))) refl) (decimal_passes is_line line_append ascii_line (j + 1))
spot_line m cost s (spots.BaseCost i) kind has names h = line_append (codes "base " ++ ordinal i) (codes " cost") (line_append (codes "base ") (ordinal i) refl (decimal_passes is_line line_append ascii_line (i + 1))) refl
spot_line m cost s spots.Total kind has names h = refl
spot_line m cost s (spots.Bound i) kind has names h = line_append (codes "bound ") (ordinal i) refl (decimal_passes is_line line_append ascii_line (i + 1))
spot_line m cost s (spots.Precondition g j) kind has names h = line_append (step_text m g ++ codes " precondition ") (ordinal j) (step_line m g h.0 (codes " precondition ") has h.2 refl) (decimal_passes is_line line_append ascii_line (j + 1))
spot_line m cost s (spots.Weight g) kind has names h = step_line m g h.0 (codes " weight") has h.1 refl
spot_line m cost s (spots.Cost g) kind has names h = step_line m g h.0 (codes " cost") has h.2 refl
spot_line m cost s (spots.Effect g i) kind has names h = line_append (step_text m g ++ codes " effect ") (effect_text m (ground_of m g) i) (step_line m g h.0 (codes " effect ") has h.2 refl) (effect_line m (ground_of m g) i names)

-- ---- all entries

pub all_parts : {X : Type 0} (P : X → Type 0) (xs ys : List X) → AllByRecursion P (xs ++ ys) → AllByRecursion P xs × AllByRecursion P ys
all_parts P [] ys h = (tt, h)
all_parts P (x ∷ xs) ys h = let parts = all_parts P xs ys h.1 in ((h.0, parts.0), parts.1)

pub all_both : {X : Type 0} (P : X → Type 0) (xs ys : List X) → AllByRecursion P xs → AllByRecursion P ys → AllByRecursion P (xs ++ ys)
all_both P [] ys a b = b
all_both P (x ∷ xs) ys a b = (a.0, all_both P xs ys a.1 b)

pub target_fits : (test : List ℕ → Bool) (m : Model) (o : Option Found) → AllByRecursion (λ (s : Found). Solution m s.steps s.cost) (option_to_list o) → AllByRecursion (Fits test m) (found_entries o)
target_fits test m None h = tt
target_fits test m (Some s) h = (record { count = refl; steps = solution_steps m s.steps s.cost h.0; spot = tt }, tt)

module _ (test : List ℕ → Bool) (m : Model) where
  announces_fit : (costs : List ℤ) → AllByRecursion (Fits test m) (map (λ (cost : ℤ). alone (AnnounceLine cost)) costs)
  announces_fit [] = tt
  announces_fit (cost ∷ costs) = (record { count = refl; steps = refl; spot = tt }, announces_fit costs)

  announced_fits : (o : Option Announced) → AllByRecursion (Fits test m) (announced_entries o)
  announced_fits None = tt
  announced_fits (Some a) = announces_fit a.costs

  count_fits : (o : Option Announced) → AllByRecursion (Fits test m) (count_entries o)
  count_fits None = tt
  count_fits (Some a) = (record { count = refl; steps = refl; spot = tt }, tt)

  passes_fit : (ps : List Pass) → AllByRecursion (λ (s : Found). Solution m s.steps s.cost) (flat_map (λ (p : Pass). option_to_list p.found) ps) → AllByRecursion (Fits test m) (flat_map pass_entries ps)
  passes_fit [] h = tt
  passes_fit (p ∷ ps) h =
      let parts = all_parts (λ (s : Found). Solution m s.steps s.cost) (option_to_list p.found) (flat_map (λ (p : Pass). option_to_list p.found) ps) h in
      let last = alone (PassLine p.number p.share p.visited p.dropped) in
      all_both (Fits test m) (pass_entries p) (flat_map pass_entries ps)
      (all_both (Fits test m) (announced_entries p.announced) (found_entries p.found ++ (count_entries p.announced ++ last ∷ [])) (announced_fits p.announced)
      (all_both (Fits test m) (found_entries p.found) (count_entries p.announced ++ last ∷ []) (target_fits test m p.found parts.0)
      (all_both (Fits test m) (count_entries p.announced) (last ∷ []) (count_fits p.announced) (record { count = refl; steps = refl; spot = tt }, tt))))
      (passes_fit ps parts.1)

  bound_fits : (o : Option ℤ) → AllByRecursion (Fits test m) (bound_entries o)
  bound_fits None = tt
  bound_fits (Some b) = (record { count = refl; steps = refl; spot = tt }, tt)

  ending_fits : (options : Options) (gap : Bool) (r : Record) (e : Ending) → ((f : FaultAt) → e ≡ Ended (verdicts.Fault f) → test (spot_text m f.spot) ≡ true) → RightEnding m options gap r e → AllByRecursion (Fits test m) (ending_entries m e)
  ending_fits options gap r (Ended (verdicts.Optimal cost)) spot h = (record { count = refl; steps = refl; spot = tt }, tt)
  ending_fits options gap r (Ended verdicts.Infeasible) spot h = (record { count = refl; steps = refl; spot = tt }, tt)
  ending_fits options gap r (Ended (verdicts.Stopped visits)) spot h = (record { count = refl; steps = refl; spot = tt }, tt)
  ending_fits options gap r (Ended (verdicts.Fault f)) spot h = (record { count = refl; steps = meets_steps m options.prune f.steps f.spot f.kind h.0; spot = spot f refl }, tt)
  ending_fits options gap r (Ended (verdicts.Legal cost)) spot h = tt
  ending_fits options gap r (Ended (verdicts.Illegal done reason)) spot h = tt
  ending_fits options gap r OutOfMemory spot h = (record { count = refl; steps = refl; spot = tt }, tt)

  pub all_fit : (options : Options) (gap : Bool) (r : Record) → ((f : FaultAt) → r.ending ≡ Ended (verdicts.Fault f) → test (spot_text m f.spot) ≡ true) → Right m options gap r → AllByRecursion (Fits test m) (entries_of m r)
  all_fit options gap r spot right =
      let parts = all_parts (λ (s : Found). Solution m s.steps s.cost) (option_to_list r.at_target) (flat_map (λ (p : Pass). option_to_list p.found) r.passes) right.legal in
      all_both (Fits test m) (found_entries r.at_target) (flat_map pass_entries r.passes ++ (bound_entries r.bound ++ ending_entries m r.ending)) (target_fits test m r.at_target parts.0)
      (all_both (Fits test m) (flat_map pass_entries r.passes) (bound_entries r.bound ++ ending_entries m r.ending) (passes_fit r.passes parts.1)
      (all_both (Fits test m) (bound_entries r.bound) (ending_entries m r.ending) (bound_fits r.bound) (ending_fits options gap r r.ending spot right.ending)))

-- the text of a fault's spot is a line
pub met_line : (m : Model) (options : Options) (gap : Bool) (r : Record) → HasStepTexts m → HasLineNames m → Right m options gap r → (f : FaultAt) → r.ending ≡ Ended (verdicts.Fault f) → is_line (spot_text m f.spot) ≡ true
met_line m options gap r has names right f is =
    let ends : RightEnding m options gap r (Ended (verdicts.Fault f)) = subst (RightEnding m options gap r) is right.ending in
    spot_line m ends.0.1 ends.0.0 f.spot f.kind has names ends.0.3.1

pub ends_search : (m : Model) (options : Options) (gap : Bool) (r : Record) (e : Ending) → RightEnding m options gap r e → EndsSearch e
ends_search m options gap r (Ended (verdicts.Optimal cost)) h = tt
ends_search m options gap r (Ended verdicts.Infeasible) h = tt
ends_search m options gap r (Ended (verdicts.Stopped visits)) h = tt
ends_search m options gap r (Ended (verdicts.Fault f)) h = tt
ends_search m options gap r (Ended (verdicts.Legal cost)) h = h.0
ends_search m options gap r (Ended (verdicts.Illegal done reason)) h = h.0
ends_search m options gap r OutOfMemory h = tt
