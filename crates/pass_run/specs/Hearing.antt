-- What an ear has heard and announced.
use Rattle.std.specs.Prelude.{◌≡◌, ℕ, ◌^◌, ◌<◌, ◌≤◌, Bool, List, map, slice_get, Option, Some, ℤ}
use Rattle.announcer.specs.Ends.{QueueFacts, IsCrierOf}
use Rattle.announcer.specs.declared.view.CalledCost.{CalledCost}
use Rattle.announcing.specs.Telling.{IsTold}
use Rattle.pass_run.specs.declared.ear.Ear.{Ear}

-- What an ear is held to: its queue, the references by which it has its crier and its sink, and the last announced cost, the bytes and the faults
-- of the sink before it heard anything.
pub record Heard : Type 0 where
  pub queue : QueueFacts
  pub crier : ℕ
  pub sink : ℕ
  pub minimize : Bool
  pub last : Option ℤ
  pub before : Option (List ℕ)
  pub faults : ℕ

-- the costs of calls
abbrev pub costs_cried : List CalledCost → List ℤ
costs_cried calls = map (λ (x : CalledCost). x.cost) calls

-- It looked at the cost of each call that it took, each of one of the queue's callers.
pub record Hears {A : Type 0} (taken : A → Option (List ℕ)) (faults : A → ℕ) (h : Heard) (ear : Ear A) : Type 0 where
  pub queue_is : ear.queue.now ≡ h.queue
  pub crier : IsCrierOf h.queue ear.crier.now
  pub known : (k : ℕ) (x : CalledCost) → slice_get ear.crier.now.taken k ≡ Some x → x.from < h.queue.senders
  pub crier_is : ear.crier.ghost_name ≡ h.crier
  pub sink_is : ear.out.ghost_name ≡ h.sink
  pub minimize_is : ear.minimize ≡ h.minimize
  pub few : ear.told.count ≤ 2 ^ 62
  pub told : IsTold h.minimize h.last (costs_cried ear.crier.now.taken) h.before (taken ear.out.now) h.faults (faults ear.out.now) ear.told
