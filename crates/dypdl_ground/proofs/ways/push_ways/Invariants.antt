use Rattle.std.proofs.Common.{◌≡◌, ◌∷◌, ◌++◌, map}
use Rattle.std.specs.List.{flat_map}
use Rattle.dypdl_ground.specs.Grounds.{members_below}
use Rattle.dypdl_ground.proofs.ways.push_ways.Given as goal

abbrev pub invariant-loop-member : goal.invariant-loop-member
invariant-loop-member l = l.ways.items ≡ l.initial.ways.items ++ flat_map (λ k. map (λ members. k ∷ members) l.rest) (members_below l.member)
