-- When a search has to end with what is known of all lists, or for want of memory.
use Rattle.std.specs.Prelude.{◌≡◌, ℕ, ◌+◌, ◌*◌, ◌≤◌, ◌⊎◌, Bool, List, length, Option, Some}
use Rattle.best_ledger.specs.Enough.{IsEnoughBest}
use Rattle.dp_claims.specs.Enough.{IsEnough}
use Rattle.dp_model.specs.declared.answers.FaultKind.{FaultKind}
use Rattle.dp_model.specs.declared.answers.Keep.TheVariants as keeps
use Rattle.dp_model.specs.declared.answers.Options.{Options}
use Rattle.dp_model.specs.declared.answers.Spot.{Spot}
use Rattle.dp_model.specs.declared.parts.PlainState.{PlainState}
use Rattle.dp_model.specs.declared.whole.Model.{Model}
use Rattle.dp_steps.specs.Faults.{Meets}
use Rattle.pass_ledger.specs.Finite.{AreStates, NoRoundBetters}
use Rattle.command_line.specs.declared.jobs.Engine.{Engine}
use Rattle.command_line.specs.declared.jobs.Engine.TheVariants as engines
use Rattle.command_line.specs.declared.jobs.Job.TheVariants as jobs
use Rattle.command_line.specs.declared.jobs.Search.{Search}
use Rattle.model_gen.specs.Texts.{domain_text, problem_text}
use Rattle.model_gen.specs.declared.kinds.GenKind.{GenKind}
use Rattle.solve_top.specs.Files.{IsShort}
use Rattle.solve_top.specs.Jobs.{Asks, gen_options}
use Rattle.solve_top.specs.Texts.{Means}

-- no list of the model meets a fault
abbrev pub MeetsNone : Model → (prune : Bool) → Type 0
MeetsNone m prune = (steps : List ℕ) (spot : Spot) (kind : FaultKind) → Meets m prune steps spot kind → ⊥

-- the model can be searched to the end layer by layer with these options
pub record CanEnd (m : Model) (options : Options) : Type 0 where
  pub no_fault : MeetsNone m options.prune
  pub enough : IsEnough m options.keep options.budget

-- it can be searched to the end with the best node first
pub record CanEndBest (m : Model) (options : Options) : Type 0 where
  pub no_fault : MeetsNone m options.prune
  pub enough : IsEnoughBest m options.budget

abbrev pub CanEndBy : Engine → Model → Options → Type 0
CanEndBy engines.Beam m options = CanEnd m options
CanEndBy engines.Best m options = CanEndBest m options

-- optimal, infeasible, or want of memory; or a read or a write failed
abbrev pub IsSettled : ℕ → Type 0
IsSettled code = (code ≡ 0) ⊎ ((code ≡ 10) ⊎ ((code ≡ 6) ⊎ ((code ≡ 4) ⊎ (code ≡ 5))))

-- Where the words ask for a search of the model that two files mean, which the shelf tells and which are short, the model meets no
-- fault and the budget is enough, the search is settled.
abbrev pub SettlesFiles : List (List ℕ) → (List ℕ → Option (List ℕ)) → ℕ → Type 0
SettlesFiles words files code =
    (domain problem first second : List ℕ) (search : Search) (m : Model) → Asks words (jobs.Solve domain problem search)
    → files domain ≡ Some first → IsShort first → files problem ≡ Some second → IsShort second → Means first second m → CanEndBy search.engine m search.options → IsSettled code

-- So is that of a generated model.
abbrev pub SettlesGenerated : List (List ℕ) → ℕ → Type 0
SettlesGenerated words code =
    (kind : GenKind) (size seed workers : ℕ) (m : Model) → Asks words (jobs.Gen kind size seed workers)
    → Means (domain_text kind) (problem_text kind size seed) m → CanEnd m (gen_options workers) → IsSettled code

-- The nodes kept in earlier layers cover too, and the model is small for the budget: each inner state that a path leads to is one
-- of n, no round betters its cost, and the budget is at least n * n * (n + 1).
pub record IsSmall (m : Model) (options : Options) : Type 0 where
  pub no_fault : MeetsNone m options.prune
  pub keep : options.keep ≡ keeps.All
  pub states : List PlainState
  pub are_states : AreStates m states
  pub no_round : NoRoundBetters m
  pub within : length states * length states * (length states + 1) ≤ options.budget

-- Where the words ask for a search of such a model layer by layer, in two files as above, the search is settled.
abbrev pub SettlesSmall : List (List ℕ) → (List ℕ → Option (List ℕ)) → ℕ → Type 0
SettlesSmall words files code =
    (domain problem first second : List ℕ) (search : Search) (m : Model) → Asks words (jobs.Solve domain problem search) → search.engine ≡ engines.Beam
    → files domain ≡ Some first → IsShort first → files problem ≡ Some second → IsShort second → Means first second m → IsSmall m search.options → IsSettled code
