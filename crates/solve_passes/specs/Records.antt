-- What a run of a search does once a model is loaded, as a record: its passes with the costs that they announced and the better
-- solutions found in them, a bound, and how it ended; the text, the status and the claim of such a record; and which records are right for a model.
use Rattle.std.specs.Prelude.{◌≡◌, ℕ, ◌+◌, ◌-◌, ◌^◌, ◌<◌, ◌≤◌, Bool, true, false, ◌⊎◌, List, [], ◌∷◌, ◌++◌, length, map, slice_get, Option, Some, None, IfSome, option_map, option_to_list, ℤ, codes}
use Rattle.std.specs.List.{flat_map, sum_by, AllByRecursion}
use Rattle.announce_laws.specs.Last.{Improving as ImprovingCosts}
use Rattle.announcing.specs.Telling.{announce_text}
use Rattle.dp_model.specs.Costs.{IsBetter}
use Rattle.dp_base.specs.Bytes.{line}
use Rattle.pass_over.specs.Announcements.{last_or}
use Rattle.solve_report.specs.Lines.{solution_text, announced_line, pass_line, bound_line, verdict_text}
use Rattle.dp_claims.specs.Enough.{Has, IsAtMostReached, IsBelowEnough}
use Rattle.dp_claims.specs.Honest.{Honest}
use Rattle.dp_steps.specs.Bounds.{has_floors}
use Rattle.dp_steps.specs.Faults.{Meets}
use Rattle.dp_steps.specs.States.{Base, Inner, Forbidden}
use Rattle.dp_steps.specs.Lists.{Solution}
use Rattle.gap_laws.specs.Gaps.{IsReachedFloor, NoneBetter}
use Rattle.dp_model.specs.declared.answers.Claim.{Claim}
use Rattle.dp_model.specs.declared.answers.Claim.TheVariants as claims
use Rattle.dp_model.specs.declared.answers.Found.{Found}
use Rattle.dp_model.specs.declared.answers.Verdict.{Verdict}
use Rattle.dp_model.specs.declared.answers.Verdict.TheVariants as verdicts
use Rattle.dp_model.specs.declared.answers.Options.{Options}
use Rattle.dp_model.specs.declared.whole.Model.{Model}
use Rattle.solve_passes.specs.declared.progress.Printing.{Printing}
use Rattle.solve_passes.specs.declared.progress.Printing.TheVariants.{All, VerdictAlone}
use Rattle.run_ends.specs.Claims.{optimal_claim}
use Rattle.run_ends.specs.Statuses.{verdict_status}
use Rattle.run_ends.specs.declared.status.Status.{Status}
use Rattle.run_ends.specs.declared.status.Status.TheVariants as statuses

-- the costs that a pass announced while it ran, and how often it found no room for one
pub record Announced : Type 0 where
  pub costs : List ℤ
  pub refused : ℕ

-- a pass, with what it announced, where costs are announced, and with the better solution that is printed before it, if one is
pub record Pass : Type 0 where
  pub announced : Option Announced
  pub found : Option Found
  pub number : ℕ
  pub share : ℕ
  pub visited : ℕ
  pub dropped : ℕ

-- how a run ended: with a verdict, or for want of memory
pub data Ending : Type 0 where
  Ended : (verdict : Verdict) → Ending
  OutOfMemory : Ending

-- `at_target` is the solution without steps that is printed before any pass, where the target is base. The bound is a cost.
pub record Record : Type 0 where
  pub at_target : Option Found
  pub passes : List Pass
  pub bound : Option ℤ
  pub ending : Ending

-- ---- its text

abbrev pub solution_lines : Model → Option Found → List ℕ
solution_lines m None = []
solution_lines m (Some s) = solution_text m s

-- the announced costs stand first, and their number behind the solution
abbrev pub announced_lines : Option Announced → List ℕ
announced_lines None = []
announced_lines (Some a) = announce_text a.costs

abbrev pub count_line : Option Announced → List ℕ
count_line None = []
count_line (Some a) = announced_line (length a.costs) a.refused

abbrev pub pass_text : Model → Pass → List ℕ
pass_text m p = announced_lines p.announced ++ (solution_lines m p.found ++ (count_line p.announced ++ pass_line p.number p.share p.visited p.dropped))

abbrev pub ending_text : Model → Ending → List ℕ
ending_text m (Ended v) = verdict_text m v
ending_text m OutOfMemory = line (codes "memory")

-- of the solutions and the passes nothing is printed where the verdict is to stand alone
abbrev pub found_text : Printing → Model → Option Found → List ℕ
found_text (All announce) m s = solution_lines m s
found_text VerdictAlone m s = []

abbrev pub passes_text : Printing → Model → List Pass → List ℕ
passes_text (All announce) m ps = flat_map (pass_text m) ps
passes_text VerdictAlone m ps = []

abbrev pub bound_text : Option ℤ → Printing → List ℕ
bound_text None printing = []
bound_text (Some b) (All announce) = bound_line b
bound_text (Some b) VerdictAlone = []

-- the line of the bound stands before the ending
abbrev pub record_text : Printing → Model → Record → List ℕ
record_text printing m r = found_text printing m r.at_target ++ passes_text printing m r.passes ++ (bound_text r.bound printing ++ ending_text m r.ending)

-- ---- its status

abbrev pub ending_status : Ending → Status
ending_status (Ended v) = verdict_status v
ending_status OutOfMemory = statuses.Memory

-- ---- which records are right

-- the passes are numbered from a number on, and the k-th has the share 2^(k-1)
abbrev pub NumberedFrom : ℕ → List Pass → Type 0
NumberedFrom k [] = Unit {0}
NumberedFrom k (p ∷ ps) = (p.number ≡ k) × (p.share ≡ 2 ^ (k - 1)) × NumberedFrom (k + 1) ps

-- each pass but the last has dropped a node
abbrev pub AllButLastDropped : List Pass → Type 0
AllButLastDropped [] = Unit {0}
AllButLastDropped (p ∷ []) = Unit {0}
AllButLastDropped (p ∷ q ∷ ps) = (0 < p.dropped) × AllButLastDropped (q ∷ ps)

-- the last pass dropped none, and there is one
abbrev pub LastDroppedNone : List Pass → Type 0
LastDroppedNone [] = ⊥
LastDroppedNone (p ∷ []) = p.dropped ≡ 0
LastDroppedNone (p ∷ q ∷ ps) = LastDroppedNone (q ∷ ps)

abbrev pub visits : List Pass → ℕ
visits ps = sum_by (λ (p : Pass). p.visited) ps

-- the solutions that were printed, in order
abbrev pub solutions : Record → List Found
solutions r = option_to_list r.at_target ++ flat_map (λ (p : Pass). option_to_list p.found) r.passes

-- each is strictly better than the one before
abbrev pub Improving : Bool → List Found → Type 0
Improving minimize [] = Unit {0}
Improving minimize (s ∷ []) = Unit {0}
Improving minimize (s ∷ t ∷ ss) = IsBetter minimize t.cost s.cost × Improving minimize (t ∷ ss)

abbrev pub last_solution : List Found → Option Found
last_solution [] = None
last_solution (s ∷ []) = Some s
last_solution (s ∷ t ∷ ss) = last_solution (t ∷ ss)

-- the cost of the last solution
abbrev pub last_cost : List Found → Option ℤ
last_cost ss = option_map (λ (s : Found). s.cost) (last_solution ss)

abbrev pub costs : List Found → List ℤ
costs ss = map (λ (s : Found). s.cost) ss

abbrev pub IsBaseTarget : Model → Type 0
IsBaseTarget m = (cost : ℤ) × Base m m.target cost

-- the gap is asked for, pruning is on, and the model has a dual bound
abbrev pub UsesFloors : Model → Options → (gap : Bool) → Type 0
UsesFloors m options gap = (gap ≡ true) × (has_floors m options.prune ≡ true)

-- What a verdict says of the record that it ends. A run is stopped only where its visits reached the budget, and the budget is
-- below what is enough; a fault is met by its list.
abbrev pub RightVerdict : Model → Options → (gap : Bool) → Record → Verdict → Type 0
RightVerdict m options gap r (verdicts.Optimal c) = (last_cost (solutions r) ≡ Some c) × (LastDroppedNone r.passes ⊎ (UsesFloors m options gap ⊎ ((r.passes ≡ []) × IsBaseTarget m)))
RightVerdict m options gap r verdicts.Infeasible = (solutions r ≡ []) × (LastDroppedNone r.passes ⊎ ((r.passes ≡ []) × Forbidden m m.target))
RightVerdict m options gap r (verdicts.Stopped v) = (v ≡ options.budget) × (v ≡ visits r.passes) × IsBelowEnough m options.keep options.budget
RightVerdict m options gap r (verdicts.Fault f) = Meets m options.prune f.steps f.spot f.kind
RightVerdict m options gap r (verdicts.Legal c) = ⊥
RightVerdict m options gap r (verdicts.Illegal n reason) = ⊥

-- there is no pass only where the target is not an inner state, or the verdict is a fault
abbrev pub NeedsPass : Model → Verdict → Type 0
NeedsPass m (verdicts.Fault f) = ⊥
NeedsPass m (verdicts.Optimal c) = Inner m m.target
NeedsPass m verdicts.Infeasible = Inner m m.target
NeedsPass m (verdicts.Stopped v) = Inner m m.target
NeedsPass m (verdicts.Legal c) = Inner m m.target
NeedsPass m (verdicts.Illegal n reason) = Inner m m.target

abbrev pub RightEnding : Model → Options → (gap : Bool) → Record → Ending → Type 0
RightEnding m options gap r (Ended v) = RightVerdict m options gap r v × (r.passes ≡ [] → NeedsPass m v → ⊥)
RightEnding m options gap r OutOfMemory = Unit {0}

-- `stopped`, after at least two passes, where floors are used
abbrev pub NeedsBound : Model → Options → (gap : Bool) → Record → Type 0
NeedsBound m options gap r = ((visits : ℕ) × (r.ending ≡ Ended (verdicts.Stopped visits))) × UsesFloors m options gap × (2 ≤ length r.passes)

-- There is a bound exactly there. It is the cost of a printed solution, or the floor of an inner state that a path leads to, for
-- that path's cost so far.
abbrev pub RightBound : Model → Options → (gap : Bool) → Record → Option ℤ → Type 0
RightBound m options gap r None = NeedsBound m options gap r → ⊥
RightBound m options gap r (Some b) = NeedsBound m options gap r × (Has (costs (solutions r)) b ⊎ IsReachedFloor m b)

-- the costs that passes announced, in order
abbrev pub costs_in : Option Announced → List ℤ
costs_in None = []
costs_in (Some a) = a.costs

abbrev pub announced_costs : List Pass → List ℤ
announced_costs ps = flat_map (λ (p : Pass). costs_in p.announced) ps

-- the last cost that a pass announced is that of the better solution that it found, and it announced none where it found none
abbrev pub TellsBest : Pass → Type 0
TellsBest p = IfSome p.announced (λ a. last_or None a.costs ≡ option_map (λ (f : Found). f.cost) p.found)

-- Each announced cost is that of a legal list, and strictly better than the one before in the run. Each pass tells its best at
-- last, unless it is the last one before want of memory.
pub record RightAnnounced (m : Model) (ending : Ending) (ps : List Pass) : Type 0 where
  pub legal : (c : ℤ) → Has (announced_costs ps) c → (steps : List ℕ) × Solution m steps c
  pub improving : ImprovingCosts m.minimize None (announced_costs ps)
  pub best : (k : ℕ) (p : Pass) → slice_get ps k ≡ Some p → (ending ≡ OutOfMemory → k + 1 < length ps) → TellsBest p

-- A record that is right for a model and options. Each pass visits no more nodes than there are pairs of a length and an inner
-- state that a path of this length leads to.
pub record Right (m : Model) (options : Options) (gap : Bool) (r : Record) : Type 0 where
  pub numbered : NumberedFrom 1 r.passes
  pub dropping : AllButLastDropped r.passes
  pub within_budget : visits r.passes ≤ options.budget
  pub reached : AllByRecursion (λ (p : Pass). IsAtMostReached m options.keep p.visited) r.passes
  pub legal : AllByRecursion (λ (s : Found). Solution m s.steps s.cost) (solutions r)
  pub improving : Improving m.minimize (solutions r)
  pub announced : RightAnnounced m r.ending r.passes
  pub base_target : IfSome r.at_target (λ s. (r.passes ≡ []) × IsBaseTarget m)
  pub bound : RightBound m options gap r r.bound
  pub ending : RightEnding m options gap r r.ending

-- ---- what a verdict says of all legal lists

-- where the model is honest, or pruning is off
abbrev pub IsTrusted : Model → Options → Type 0
IsTrusted m options = (options.prune ≡ false) ⊎ Honest m options.keep

-- `optimal`: none is better; `infeasible`: there is none; `stopped` after a bound: none is better than the bound
abbrev pub KeepsWord : Model → Options → (bound : Option ℤ) → Ending → Type 0
KeepsWord m options bound (Ended (verdicts.Optimal cost)) = IsTrusted m options → (steps : List ℕ) (other : ℤ) → Solution m steps other → IsBetter m.minimize other cost → ⊥
KeepsWord m options bound (Ended verdicts.Infeasible) = IsTrusted m options → (steps : List ℕ) (cost : ℤ) → Solution m steps cost → ⊥
KeepsWord m options bound (Ended (verdicts.Stopped visits)) = IfSome bound (λ b. IsTrusted m options → NoneBetter m b)
KeepsWord m options bound (Ended (verdicts.Fault fault)) = Unit {0}
KeepsWord m options bound (Ended (verdicts.Legal cost)) = Unit {0}
KeepsWord m options bound (Ended (verdicts.Illegal done reason)) = Unit {0}
KeepsWord m options bound OutOfMemory = Unit {0}

-- what a record claims of all legal lists: its last solution after `optimal`, and after `infeasible` that there is none
abbrev pub claim_after : (last : Option Found) → Ending → Option Claim
claim_after last (Ended (verdicts.Optimal cost)) = optimal_claim last
claim_after last (Ended verdicts.Infeasible) = Some claims.Infeasible
claim_after last (Ended (verdicts.Stopped visits)) = None
claim_after last (Ended (verdicts.Fault fault)) = None
claim_after last (Ended (verdicts.Legal cost)) = None
claim_after last (Ended (verdicts.Illegal done reason)) = None
claim_after last OutOfMemory = None

abbrev pub claim_of : Record → Option Claim
claim_of r = claim_after (last_solution (solutions r)) r.ending
