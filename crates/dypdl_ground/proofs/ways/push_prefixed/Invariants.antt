use Rattle.std.proofs.Common.{◌≡◌, ◌∷◌, ◌++◌, map, take}
use Rattle.dypdl_ground.proofs.ways.push_prefixed.Given as goal

abbrev pub invariant-loop-members : goal.invariant-loop-members
invariant-loop-members l = l.ways.items ≡ l.initial.ways.items ++ map (λ members. l.member ∷ members) (take l.members-index l.rest)
