-- Logs of steps, and the chain of parents that leads from a step back to the target.
use Rattle.std.specs.Prelude.{◌≡◌, ℕ, List, [], ◌∷◌, ◌++◌, length, slice_get, Option, Some, None, option_and_then}
use Rattle.path_log.specs.declared.logs.StepId.{StepId}
use Rattle.path_log.specs.declared.logs.Entry.{Entry}

-- the log of one shard
pub record Log : Type 0 where
  pub shard : ℕ
  pub entries : List Entry

abbrev pub entry : Option StepId → ℕ → Entry
entry parent transition = record { parent = parent; transition = transition }

-- the entry that an id names, where there is one: each shard's log stands at the place of its number
abbrev pub entry_at : List Log → StepId → Option Entry
entry_at logs id = option_and_then (λ (log : Log). slice_get log.entries id.place) (slice_get logs id.shard)

-- From a step the parents lead back to the target by these transitions, the last one first. Each step on the way is an
-- entry of the logs. The target's entry has no parent, and its transition is not part of the chain.
abbrev pub LeadsBack : List Log → StepId → List ℕ → Type 0
LeadsBack logs id [] = (transition : ℕ) × (entry_at logs id ≡ Some (entry None transition))
LeadsBack logs id (transition ∷ back) = (parent : StepId) × (entry_at logs id ≡ Some (entry (Some parent) transition)) × LeadsBack logs parent back

-- each log stands at the place of its number
abbrev pub InPlace : List Log → Type 0
InPlace logs = (i : ℕ) (log : Log) → slice_get logs i ≡ Some log → log.shard ≡ i

-- logs that have gone on: each step still stands where it stood
abbrev pub Grown : List Log → List Log → Type 0
Grown old new = (id : StepId) (e : Entry) → entry_at old id ≡ Some e → entry_at new id ≡ Some e

-- a log with one more step at its end, and the name of that step
abbrev pub with_step : Log → Entry → Log
with_step log e = record { shard = log.shard; entries = log.entries ++ e ∷ [] }

abbrev pub next_id : Log → StepId
next_id log = record { shard = log.shard; place = length log.entries }
