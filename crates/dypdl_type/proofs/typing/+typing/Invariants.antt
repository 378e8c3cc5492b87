use Rattle.std.proofs.Common.{◌≡◌, ◌+◌, ◌*◌, ◌++◌, drop, Some, Ok}
use Rattle.dp_base.specs.Results.{◌>>=◌, in_turn}
use Rattle.dypdl_type.specs.Forms.{typings}
use Rattle.dypdl_type.specs.Typing.{Typing, terms}
use Rattle.dypdl_type.proofs.typing.+typing.Given as goal

-- how far a call is from the last level

abbrev pub decreases-number : goal.decreases-number
decreases-number l = 3 * l.levels

abbrev pub decreases-members : goal.decreases-members
decreases-members l = 3 * l.levels

abbrev pub decreases-condition : goal.decreases-condition
decreases-condition l = 3 * l.levels

abbrev pub decreases-numbers : goal.decreases-numbers
decreases-numbers l = 3 * l.levels + 1

abbrev pub decreases-sets : goal.decreases-sets
decreases-sets l = 3 * l.levels + 1

abbrev pub decreases-conditions : goal.decreases-conditions
decreases-conditions l = 3 * l.levels + 1

abbrev pub decreases-term : goal.decreases-term
decreases-term l = 3 * l.levels + 1

abbrev pub decreases-two_sets : goal.decreases-two_sets
decreases-two_sets l = 3 * l.levels + 1

abbrev pub decreases-terms : goal.decreases-terms
decreases-terms l = 3 * l.levels + 2

abbrev pub decreases-sets_joined : goal.decreases-sets_joined
decreases-sets_joined l = 3 * l.levels + 2

-- what was read, and then what is left, is the whole

abbrev pub invariant-numbers-loop-e : goal.invariant-numbers-loop-e
invariant-numbers-loop-e l =
    (in_turn (λ (x : Typing). x.number) (typings l.scope (drop l.e-index l.es)) >>= λ more. Ok (l.trees.items ++ more))
    ≡ in_turn (λ (x : Typing). x.number) (typings l.scope l.es)

abbrev pub invariant-terms-loop-at : goal.invariant-terms-loop-at
invariant-terms-loop-at l =
    (terms (drop l.at l.objects) (typings l.scope (drop l.at l.es)) >>= λ more. Ok (l.trees.items ++ more))
    ≡ terms l.objects (typings l.scope l.es)

abbrev pub invariant-sets-loop-e : goal.invariant-sets-loop-e
invariant-sets-loop-e l =
    (in_turn (λ (x : Typing). x.members (Some l.object)) (typings l.scope (drop l.e-index l.es)) >>= λ more. Ok (l.trees.items ++ more))
    ≡ in_turn (λ (x : Typing). x.members (Some l.object)) (typings l.scope l.es)

abbrev pub invariant-conditions-loop-e : goal.invariant-conditions-loop-e
invariant-conditions-loop-e l =
    (in_turn (λ (x : Typing). x.condition) (typings l.scope (drop l.e-index l.es)) >>= λ more. Ok (l.trees.items ++ more))
    ≡ in_turn (λ (x : Typing). x.condition) (typings l.scope l.es)
