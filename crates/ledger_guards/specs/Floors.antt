-- The best floor of lists of nodes that are written out.
use Rattle.std.specs.Prelude.{◌≡◌, true, false, List, [], ◌∷◌, Option, Some, None, ℤ, pos}
use Rattle.dom_store.specs.Order.{IsLeastFloor}
use Rattle.dp_model.specs.declared.parts.JoinOp.TheVariants.{Plus}
use Rattle.pass_ledger.specs.Worked.{n2}
use Rattle.pass_ledger.specs.WorkedFloors.{f1, f2}
use Rattle.state_layout.specs.declared.node.Node.{Node}

-- two nodes, whose floors are 2 and 3
abbrev pub floored : List Node
floored = f1 ∷ f2 ∷ []

-- one of them, and a node without a floor
abbrev pub one_without : List Node
one_without = f1 ∷ n2 ∷ []

-- The best floor is 2 where the lesser cost is better, and 3 where the greater one is, and no other number; and there is none where
-- one of the nodes has no floor, or there is no node.
pub record LawWorkedFloor : Type 0 where
  pub least : IsLeastFloor true Plus floored (Some (pos 2))
  pub only_least : (floor : Option ℤ) → IsLeastFloor true Plus floored floor → floor ≡ Some (pos 2)
  pub greatest : IsLeastFloor false Plus floored (Some (pos 3))
  pub only_greatest : (floor : Option ℤ) → IsLeastFloor false Plus floored floor → floor ≡ Some (pos 3)
  pub without : IsLeastFloor true Plus one_without None
  pub only_without : (floor : Option ℤ) → IsLeastFloor true Plus one_without floor → floor ≡ None
  pub of_none : IsLeastFloor true Plus [] None
  pub only_of_none : (floor : Option ℤ) → IsLeastFloor true Plus [] floor → floor ≡ None
