-- Visits of a shard, what it offers, and the pass that options ask for.
use Rattle.std.specs.Prelude.{◌≡◌, ℕ, ◌≤◌, Option, Some, None, pos}
use Rattle.dp_model.specs.declared.answers.Options.{Options}
use Rattle.dp_model.specs.declared.whole.Model.{Model}
use Rattle.pass_ends.specs.Passes.{pass_of}
use Rattle.pass_ledger.specs.Worked.{alone, held, word_11, word_3, no_word}
use Rattle.pass_ledger.specs.WorkedFault.{faulty, meeting, first}
use Rattle.pass_ledger.specs.declared.records.Held.{Held}
use Rattle.shard_core.specs.Calls.{Finds, IsOffer, visit_in}
use Rattle.shard_core.specs.declared.shard.Visited.TheVariants.{Done}

-- In the model whose bound has no value in the state 2 the visit of the target meets that fault in its second successor. So it is not
-- done, whatever it may offer.
abbrev pub LawWorkedFinds : Type 0
LawWorkedFinds = (offer : Option ℕ) → Finds faulty (visit_in meeting 0 0 first no_word) (Done offer) → ⊥

abbrev pub of_11 : Held
of_11 = held (pos 11) 1 2

abbrev pub of_3 : Held
of_3 = held (pos 3) 2 3

-- what is held and was not, or is better than what was, is offered with its word, and nothing else is
pub record LawWorkedOffers : Type 0 where
  pub first : IsOffer (alone 1) None (Some of_11) (Some word_11)
  pub better : IsOffer (alone 1) (Some of_11) (Some of_3) (Some word_3)
  pub same : IsOffer (alone 1) (Some of_11) (Some of_11) None
  pub not_offered : IsOffer (alone 1) (Some of_11) (Some of_3) None → ⊥
  pub first_not_offered : IsOffer (alone 1) None (Some of_11) None → ⊥
  pub same_offered : IsOffer (alone 1) (Some of_11) (Some of_11) (Some word_11) → ⊥
  pub worse_offered : IsOffer (alone 1) (Some of_3) (Some of_11) (Some word_11) → ⊥
  pub another_word : IsOffer (alone 1) (Some of_11) (Some of_3) (Some word_11) → ⊥

-- the pass that options ask for
pub record LawPassOf : Type 0 where
  pub model : (m : Model) (options : Options) (share : ℕ) (some : 1 ≤ options.workers) → (pass_of m options share some).model ≡ m
  pub prune : (m : Model) (options : Options) (share : ℕ) (some : 1 ≤ options.workers) → (pass_of m options share some).prune ≡ options.prune
  pub keep : (m : Model) (options : Options) (share : ℕ) (some : 1 ≤ options.workers) → (pass_of m options share some).keep ≡ options.keep
  pub shards : (m : Model) (options : Options) (share : ℕ) (some : 1 ≤ options.workers) → (pass_of m options share some).shards ≡ options.workers
  pub share : (m : Model) (options : Options) (share : ℕ) (some : 1 ≤ options.workers) → (pass_of m options share some).share ≡ share
