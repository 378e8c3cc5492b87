-- The pass that options ask for.
use Rattle.std.specs.Prelude.{ℕ, ◌%◌, ◌^◌, ◌≤◌, ◌<◌}
use Rattle.std.proofs.lemmas.Nat.{mod_below}
use Rattle.dp_model.specs.declared.answers.Options.{Options}
use Rattle.dp_model.specs.declared.whole.Model.{Model}
use Rattle.state_layout.specs.Signatures.{hash_of, owner_of, signature_of}
use Rattle.state_layout.specs.Slots.{slots_of}
use Rattle.pass_ledger.specs.Passes.{Pass}

-- 1 to 64 workers, and a budget of 1 to 2^40 visits
pub record AreOptions (options : Options) : Type 0 where
  pub some_workers : 1 ≤ options.workers
  pub few_workers : options.workers ≤ 64
  pub some_budget : 1 ≤ options.budget
  pub small_budget : options.budget ≤ 2 ^ 40

pub rest_below : (n k : ℕ) → 1 ≤ k → n % k < k
rest_below n k some = mod_below n k some

-- A shard for each worker keeps at most the share of a layer. A state is owned by the shard that its hash names.
abbrev pub pass_of : (m : Model) (options : Options) (share : ℕ) → 1 ≤ options.workers → Pass
pass_of m options share some =
    record {
      model = m;
      prune = options.prune;
      keep = options.keep;
      shards = options.workers;
      share = share;
      owner = λ s. owner_of (slots_of m.objects m.variables) s options.workers;
      owned = λ s. rest_below (hash_of (signature_of (slots_of m.objects m.variables) s)) options.workers some;
    }
