-- How a log keeps the parent of a step.
use Rattle.std.specs.Prelude.{ℕ, ◌-◌, ◌^◌, ◌==◌, if◌then◌else◌, Option, Some, None}
use Rattle.path_log.specs.declared.logs.StepId.{StepId}

-- the step at a place of a shard's log; at the greatest place stands none
abbrev pub parent_at : ℕ → ℕ → Option StepId
parent_at place shard = if place == 2 ^ 64 - 1 then None else Some (record { shard = shard; place = place })
