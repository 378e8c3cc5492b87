use Rattle.std.proofs.Common.{◌≡◌, ◌-◌, length, take}
use Rattle.dypdl_rules.proofs.parameters.pop_params.Given as goal

abbrev pub invariant-loop-popped : goal.invariant-loop-popped
invariant-loop-popped l = l.declared ≡ record l.initial.declared { params = take (length l.initial.declared.params - l._popped) l.initial.declared.params }
