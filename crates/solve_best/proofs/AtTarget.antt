-- The runs that end before a search is made are right, and their words are kept.
use Rattle.std.proofs.Common.{◌≡◌, List, ℕ, Option, None, Some, ℤ, refl, sym, ap, ◌∙◌, subst}
use Rattle.dp_model.specs.declared.answers.FaultAt.{FaultAt}
use Rattle.dp_model.specs.declared.answers.Found.{Found}
use Rattle.dp_model.specs.declared.answers.Options.{Options}
use Rattle.dp_model.specs.declared.answers.Verdict.{Verdict}
use Rattle.dp_model.specs.declared.answers.Verdict.TheVariants as verdicts
use Rattle.dp_model.specs.declared.whole.Model.{Model}
use Rattle.dp_steps.specs.Faults.{Meets}
use Rattle.solve_best.specs.Runs.{IsRight}
use Rattle.solve_best.specs.declared.runs.Ending.TheVariants as endings
use Rattle.solve_best.specs.declared.runs.Run.{Run}
use Rattle.solve_target.proofs.Targets.{base_not_inner, forbidden_not_inner}
use Rattle.solve_target.specs.Targets.{IsBaseTarget, IsForbiddenTarget}

module _ (m : Model) (options : Options) where
  -- a run that ends without a search
  abbrev bare : Option Found → Verdict → Run
  bare found verdict = record { found = found; visited = None; ending = endings.Ended verdict }

  -- the target is base
  optimal : (found : Found) → IsBaseTarget m found → IsRight m options (bare (Some found) (verdicts.Optimal found.cost))
  optimal found is = (
    record {
      within_budget = tt;
      reached = tt;
      legal = is.legal;
      ending = ((found, refl, refl), λ none inner. base_not_inner m m.target found.cost is.base inner);
    },
    λ closes. tt,
    λ trusted steps other s better. is.none_better steps other s better,
  )

  pub base_target : (run : Run) (found : Found) (cost : ℤ) → IsBaseTarget m found → cost ≡ found.cost → run ≡ bare (Some found) (verdicts.Optimal cost) → IsRight m options run
  base_target run found cost is same known =
      let whole : ℤ → Run = λ (c : ℤ). bare (Some found) (verdicts.Optimal c) in
      subst (IsRight m options) (sym (known ∙ ap whole same)) (optimal found is)

  -- the target is not allowed
  infeasible : IsForbiddenTarget m → IsRight m options (bare None verdicts.Infeasible)
  infeasible is = (
    record { within_budget = tt; reached = tt; legal = tt; ending = (refl, λ none inner. forbidden_not_inner m m.target is.forbidden inner) },
    λ closes. tt,
    λ trusted steps cost s. is.none_legal steps cost s,
  )

  pub forbidden_target : (run : Run) → IsForbiddenTarget m → run ≡ bare None verdicts.Infeasible → IsRight m options run
  forbidden_target run is known = subst (IsRight m options) (sym known) (infeasible is)

  -- the target meets a fault
  faulty : (fault : FaultAt) → Meets m options.prune fault.steps fault.spot fault.kind → IsRight m options (bare None (verdicts.Fault fault))
  faulty fault meets = (record { within_budget = tt; reached = tt; legal = tt; ending = (meets, λ none needs. needs) }, λ closes. tt, tt)

  pub fault_target : (run : Run) (fault : FaultAt) → Meets m options.prune fault.steps fault.spot fault.kind → run ≡ bare None (verdicts.Fault fault) → IsRight m options run
  fault_target run fault meets known = subst (IsRight m options) (sym known) (faulty fault meets)

  -- memory ran out before a search was made
  nothing : IsRight m options (record { found = None; visited = None; ending = endings.OutOfMemory })
  nothing = (record { within_budget = tt; reached = tt; legal = tt; ending = tt }, λ closes. tt, tt)

  pub no_memory : (run : Run) → run ≡ record { found = None; visited = None; ending = endings.OutOfMemory } → IsRight m options run
  no_memory run known = subst (IsRight m options) (sym known) nothing
