-- The printed text of a record of a search tells its entries, and so the record: all of it, but of a fault's spot its text alone.
use Rattle.std.specs.Prelude.{◌≡◌, ℕ, ◌^◌, ◌<◌, Bool, IsTrue, List, [], ◌∷◌, ◌++◌, length, map, slice_get, Option, Some, None, Ok, ℤ, codes}
use Rattle.std.specs.List.{flat_map}
use Rattle.std.specs.Str.Lines.{lines}
use Rattle.dp_model.specs.StepTexts.{step_text}
use Rattle.dp_model.specs.declared.answers.Found.{Found}
use Rattle.dp_model.specs.declared.answers.Options.{Options}
use Rattle.dp_model.specs.declared.answers.Spot.TheVariants as spots
use Rattle.dp_model.specs.declared.answers.Verdict.{Verdict}
use Rattle.dp_model.specs.declared.answers.Verdict.TheVariants as verdicts
use Rattle.dp_model.specs.declared.parts.Variable.{Variable}
use Rattle.dp_model.specs.declared.whole.Model.{Model}
use Rattle.solve_report.specs.Lines.{spot_text}
use Rattle.yaml_tree.specs.declared.tree.Tree.{Tree}
use Rattle.dypdl_rules.specs.Expressions.{Reading}
use Rattle.dypdl_load.specs.Meaning.{meaning, parts_of}
use Rattle.cert_text.specs.ReadBack.{HasStepTexts, is_line}
use Rattle.command_line.specs.declared.jobs.Search.{Search}
use Rattle.kept_model.specs.declared.kept.Kept.{Kept}
use Rattle.pass_ends.specs.Passes.{AreOptions}
use Rattle.solve_passes.specs.Counted.{IsCounted}
use Rattle.solve_passes.specs.Records.{Announced, Ended, Ending, OutOfMemory, Pass, Record, Right, record_text}
use Rattle.solve_passes.specs.declared.progress.Printing.TheVariants.{All}
use Rattle.solve_top.specs.Behind.{Behind}
use Rattle.solve_top.specs.Outcomes.{ComesOf, Solving}
use Rattle.text_laws.specs.Entries.{Entry, Head, AnnounceLine, SolutionLine, AnnouncedLine, PassLine, BoundLine, OptimalLine, InfeasibleLine, StoppedLine, FaultLine, MemoryLine, entries_in}

-- ---- the entries of a record

-- an entry without steps
abbrev pub alone : Head → Entry
alone head = record { head = head; steps = [] }

abbrev pub found_entries : Option Found → List Entry
found_entries None = []
found_entries (Some s) = record { head = SolutionLine s.cost (length s.steps); steps = s.steps } ∷ []

abbrev pub announced_entries : Option Announced → List Entry
announced_entries None = []
announced_entries (Some a) = map (λ (cost : ℤ). alone (AnnounceLine cost)) a.costs

abbrev pub count_entries : Option Announced → List Entry
count_entries None = []
count_entries (Some a) = alone (AnnouncedLine (length a.costs) a.refused) ∷ []

abbrev pub pass_entries : Pass → List Entry
pass_entries p = announced_entries p.announced ++ (found_entries p.found ++ (count_entries p.announced ++ alone (PassLine p.number p.share p.visited p.dropped) ∷ []))

abbrev pub bound_entries : Option ℤ → List Entry
bound_entries None = []
bound_entries (Some b) = alone (BoundLine b) ∷ []

-- a verdict of a replay ends no record
abbrev pub verdict_entries : Model → Verdict → List Entry
verdict_entries m (verdicts.Optimal cost) = alone (OptimalLine cost) ∷ []
verdict_entries m verdicts.Infeasible = alone InfeasibleLine ∷ []
verdict_entries m (verdicts.Stopped visits) = alone (StoppedLine visits) ∷ []
verdict_entries m (verdicts.Fault f) = record { head = FaultLine f.kind (spot_text m f.spot) (length f.steps); steps = f.steps } ∷ []
verdict_entries m (verdicts.Legal cost) = []
verdict_entries m (verdicts.Illegal done reason) = []

abbrev pub ending_entries : Model → Ending → List Entry
ending_entries m (Ended verdict) = verdict_entries m verdict
ending_entries m OutOfMemory = alone MemoryLine ∷ []

abbrev pub entries_of : Model → Record → List Entry
entries_of m r = found_entries r.at_target ++ (flat_map pass_entries r.passes ++ (bound_entries r.bound ++ ending_entries m r.ending))

-- A record of a search: it is right, and counts what the shards did, for options that the program takes. Its text has fewer than 2^64
-- bytes, as each file.
pub record IsRecordOf (m : Model) (announce : Bool) (r : Record) : Type 0 where
  pub options : Options
  pub gap : Bool
  pub fit : AreOptions options
  pub right : Right m options gap r
  pub counted : IsCounted m options r
  pub short : length (record_text (All announce) m r) < 2 ^ 64

-- So is the record of each search that words ask for.
abbrev pub LawRecordOf : Type 0
LawRecordOf =
    (words : List (List ℕ)) (files : List ℕ → Option (List ℕ)) (m : Model) (proved : Option Kept) (searched : Model) (search : Search) (r : Record) (behind : Behind) → ComesOf words files (Solving m proved searched search r behind)
    → length (record_text (All search.announce) searched r) < 2 ^ 64 → IsRecordOf searched search.announce r

-- the names of the variables are lines; so it is in each model that two trees mean
abbrev pub HasLineNames : Model → Type 0
HasLineNames m = (i : ℕ) (v : Variable) → slice_get m.variables i ≡ Some v → IsTrue (is_line v.name)

abbrev pub LawLineNames : Type 0
LawLineNames = (read : Reading) (domain problem : Tree) (m : Model) → meaning read domain problem ≡ Ok (parts_of m) → HasLineNames m

-- A record of a search is read back from its text, entry by entry.
abbrev pub LawReadRecord : Type 0
LawReadRecord =
    (m : Model) → HasStepTexts m → HasLineNames m → (announce : Bool) (r : Record) → IsRecordOf m announce r
    → entries_in m (lines (record_text (All announce) m r)) ≡ Some (entries_of m r)

-- ---- so a text tells its record

-- the same ending, but of a fault's spot the same text
abbrev pub EndAlike : Model → Ending → Ending → Type 0
EndAlike m (Ended (verdicts.Fault f)) (Ended (verdicts.Fault g)) = (f.kind ≡ g.kind) × (spot_text m f.spot ≡ spot_text m g.spot) × (f.steps ≡ g.steps)
EndAlike m e f = e ≡ f

pub record AreAlike (m : Model) (a b : Record) : Type 0 where
  pub at_target : a.at_target ≡ b.at_target
  pub passes : a.passes ≡ b.passes
  pub bound : a.bound ≡ b.bound
  pub ending : EndAlike m a.ending b.ending

abbrev pub EndsInFault : Ending → Type 0
EndsInFault (Ended (verdicts.Fault f)) = Unit {0}
EndsInFault ending = ⊥

-- Two records of searches that are printed as the same text are the same, but of a fault's spot it is the text that is the same.
pub record LawToldApart : Type 0 where
  pub alike : (m : Model) → HasStepTexts m → HasLineNames m → (announce announce' : Bool) (a b : Record) → IsRecordOf m announce a → IsRecordOf m announce' b
      → record_text (All announce) m a ≡ record_text (All announce') m b → AreAlike m a b
  -- of a record that ends in no fault all is told
  pub same : (m : Model) → HasStepTexts m → HasLineNames m → (announce announce' : Bool) (a b : Record) → IsRecordOf m announce a → IsRecordOf m announce' b
      → record_text (All announce) m a ≡ record_text (All announce') m b → (EndsInFault a.ending → ⊥) → a ≡ b
  -- Two spots may have one text. Where the transition `base` has the argument 1, so it is with the cost so far joined with its weight,
  -- and the cost of the first base case.
  pub one_text : (m : Model) (g : ℕ) → step_text m g ≡ codes "base 1" → spot_text m (spots.Cost g) ≡ spot_text m (spots.BaseCost 0)
