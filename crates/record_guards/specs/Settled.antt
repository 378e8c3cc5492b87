-- Status numbers, and models that are small for a budget.
use Rattle.std.specs.Prelude.{ℕ, true}
use Rattle.dp_model.specs.declared.answers.Keep.TheVariants as keeps
use Rattle.dp_model.specs.declared.answers.Options.{Options}
use Rattle.ledger_guards.specs.Shuttle.{idle, gaining}
use Rattle.pass_ledger.specs.WorkedFault.{faulty}
use Rattle.solve_top.specs.Answers.{IsSettled, IsSmall}

-- `optimal`, `infeasible`, want of memory, a read and a write that failed settle a search; words without a meaning, a refusal, a file
-- that is too long, a spent budget and a fault do not
pub record LawSettled : Type 0 where
  pub optimal : IsSettled 0
  pub infeasible : IsSettled 10
  pub memory : IsSettled 6
  pub read : IsSettled 4
  pub write : IsSettled 5
  pub usage : IsSettled 2 → ⊥
  pub refused : IsSettled 3 → ⊥
  pub too_long : IsSettled 7 → ⊥
  pub stopped : IsSettled 11 → ⊥
  pub faulted : IsSettled 12 → ⊥

abbrev pub keeping_all : (budget : ℕ) → Options
keeping_all budget = record { workers = 1; budget = budget; prune = true; keep = keeps.All }

-- The idle shuttle, of two states, is small for 2 * 2 * 3 visits and for no fewer, and only where all nodes cover. The gaining one is small
-- for no budget, and neither is a model with a list that meets a fault.
pub record LawWorkedModels : Type 0 where
  pub small : IsSmall idle (keeping_all 12)
  pub one_fewer : IsSmall idle (keeping_all 11) → ⊥
  pub other_keep : IsSmall idle (record (keeping_all 12) { keep = keeps.Layer }) → ⊥
  pub round_betters : (budget : ℕ) → IsSmall gaining (keeping_all budget) → ⊥
  pub meets_a_fault : (budget : ℕ) → IsSmall faulty (keeping_all budget) → ⊥
