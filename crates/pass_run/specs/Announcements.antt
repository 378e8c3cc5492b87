-- What was heard of a pass that announces costs, and how its calls end.
use Rattle.std.specs.Prelude.{◌≡◌, ℕ, ◌^◌, ◌<◌, ◌≤◌, ◌⊎◌, Bool, List, ◌++◌, slice_get, Option, Some, None, option_to_list, ℤ}
use Rattle.announcer.specs.Ends.{CallerFacts, CrierFacts, QueueFacts, AreLeft, IsCrierOf}
use Rattle.announcer.specs.declared.view.CalledCost.{CalledCost}
use Rattle.announcing.specs.Telling.{IsTold}
use Rattle.announcing.specs.declared.telling.Told.{Told}
use Rattle.board_words.specs.Steps.{best_known}
use Rattle.board_words.specs.declared.seat.View.{View}
use Rattle.dp_model.specs.declared.answers.Cause.TheVariants as causes
use Rattle.pass_ends.specs.Ends.{IsPassEnd}
use Rattle.pass_ends.specs.declared.answers.PassEnd.{PassEnd}
use Rattle.pass_ends.specs.declared.answers.PassEnd.TheVariants as ends
use Rattle.pass_ledger.specs.Passes.{Pass}
use Rattle.pass_over.specs.Announcements.{cost_in}
use Rattle.pass_run.specs.Callers.{AreLastCallers}
use Rattle.pass_run.specs.Hearing.{costs_cried}
use Rattle.pass_run.specs.declared.announced.Heard.{Heard}

-- ---- what was heard while its shards turned

-- The crier of this queue took calls of its callers, and the cost of each was looked at, after this last cost, by a sink that was `before`.
pub record HasHeard {A : Type 0} (taken : A → Option (List ℕ)) (faults : A → ℕ) (queue : QueueFacts) (minimize : Bool) (last : Option ℤ) (crier : CrierFacts) (before after : A) (told : Told) : Type 0 where
  pub crier_of : IsCrierOf queue crier
  pub known : (k : ℕ) (x : CalledCost) → slice_get crier.taken k ≡ Some x → x.from < queue.senders
  pub few : told.count ≤ 2 ^ 62
  pub looked : IsTold minimize last (costs_cried crier.taken) (taken before) (taken after) (faults before) (faults after) told

-- ---- how its calls end

-- the same pass, where memory ran out at its end
abbrev pub forgotten : PassEnd → PassEnd
forgotten (ends.Closed visited dropped floor best) = ends.Halted causes.Memory visited dropped None
forgotten (ends.Halted cause visited dropped best) = ends.Halted causes.Memory visited dropped None

-- what was heard of a pass whose shards have ended
pub record WasHeard (p : Pass) (was now : View) (queue : QueueFacts) (heard : Heard) : Type 0 where
  pub ended : IsPassEnd p was now heard.over.end
  pub callers : AreLastCallers p (best_known was) (best_known now) queue heard.over.callers.items
  pub senders : queue.senders ≡ p.shards
  pub known : (k : ℕ) (x : CalledCost) → slice_get heard.crier.taken k ≡ Some x → x.from < queue.senders

-- after these the left costs and the pass's best were looked at, or memory ran out
abbrev pub HasLooked : (minimize : Bool) → (last : Option ℤ) → (cried left : List ℤ) → (before after : Option (List ℕ)) → (faults_before faults_after : ℕ) → Told → (end result : PassEnd) → Type 0
HasLooked minimize last cried left before after faults_before faults_after told end result =
    ((result ≡ end) × IsTold minimize last (cried ++ left ++ option_to_list (cost_in end)) before after faults_before faults_after told)
    ⊎ ((result ≡ forgotten end) × IsTold minimize last cried before after faults_before faults_after told)

-- the same, where the costs are those that were left in the queue
abbrev pub HasSettled : QueueFacts → List CallerFacts → CrierFacts → (minimize : Bool) → (last : Option ℤ) → (before after : Option (List ℕ)) → (faults_before faults_after : ℕ) → Told → (end result : PassEnd) → Type 0
HasSettled queue callers crier minimize last before after faults_before faults_after told end result =
    ((left : List ℤ) × AreLeft queue.senders callers crier.taken left × (result ≡ end) × IsTold minimize last (costs_cried crier.taken ++ left ++ option_to_list (cost_in end)) before after faults_before faults_after told)
    ⊎ ((result ≡ forgotten end) × IsTold minimize last (costs_cried crier.taken) before after faults_before faults_after told)
