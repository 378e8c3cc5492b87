use Rattle.std.proofs.Common.{◌≡◌, ◌⊎◌}
use Rattle.std.specs.Prelude.{ℤ}
use Rattle.std.specs.BTreeMap.{btree_map_len}
use Rattle.dom_store.specs.Stairs.{NoneCovers, IsOver, IsUnder}
use Rattle.dom_store.proofs.stairs.Stairs.remove_under.Given as goal

-- none of the steps that are left may cover what has the glance, and what one was over one is over still, or the glance is
abbrev pub invariant-loop-word : goal.invariant-loop-word
invariant-loop-word l = record {
  row : l.self.row ≡ l.initial.self.row;
  covers : NoneCovers l.self.steps l.glance;
  others : (word merit : ℤ) → IsUnder l.initial.self.steps word merit → IsUnder l.self.steps word merit ⊎ IsOver l.glance word merit;
}

abbrev pub decreases-loop-word : goal.decreases-loop-word
decreases-loop-word l = btree_map_len l.self.steps
