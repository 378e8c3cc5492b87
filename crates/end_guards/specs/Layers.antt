-- Layers of a shard that are shared out, and layers that are busy.
use Rattle.std.specs.Prelude.{List, [], ◌∷◌, None}
use Rattle.dom_store.specs.Past.{past_node}
use Rattle.dom_store.specs.declared.past_node.PastNode.{PastNode}
use Rattle.dom_store.specs.declared.taking.Taken.{Taken}
use Rattle.pass_ledger.specs.Worked.{alone, n0}
use Rattle.pass_ledger.specs.WorkedRounds.{going, near, home, mid, far}
use Rattle.pass_ledger.specs.declared.mail.Letter.{Letter}
use Rattle.pass_ledger.specs.declared.mail.Letter.TheVariants.{Mark}
use Rattle.shard_core.specs.Layers.{Splits}
use Rattle.shard_core.specs.Stands.{Collects}
use Rattle.state_layout.specs.declared.layout.Layout.{Layout}
use Rattle.state_layout.specs.declared.node.Node.{Node}

abbrev pub taken : (kept dropped : List Node) → Taken
taken kept dropped = record { kept = kept; dropped = dropped; least_floor = None }

-- the target's node, which covers the state 0 that is come to again
abbrev pub the_past : List PastNode
the_past = past_node n0 ∷ []

pub record LawWorkedSplits : Type 0 where
  pub known_gone : Splits going 2 the_past (near ∷ home ∷ []) (taken (near ∷ []) [])
  pub known_kept : Splits going 2 the_past (near ∷ home ∷ []) (taken (near ∷ home ∷ []) []) → ⊥
  pub known_dropped : Splits going 1 the_past (near ∷ home ∷ []) (taken (near ∷ []) (home ∷ [])) → ⊥
  pub new_lost : Splits going 2 the_past (near ∷ home ∷ []) (taken [] []) → ⊥
  pub one_dropped : Splits going 1 the_past (mid ∷ far ∷ []) (taken (mid ∷ []) (far ∷ []))
  pub share_not_full : Splits going 2 the_past (mid ∷ far ∷ []) (taken (mid ∷ []) (far ∷ [])) → ⊥
  pub share_exceeded : Splits going 1 the_past (mid ∷ far ∷ []) (taken (mid ∷ far ∷ []) []) → ⊥

-- A mark that tells of one state of layer 1, or of none.
abbrev pub one_to_come : List (List Letter)
one_to_come = (Mark 0 1 0 1 ∷ []) ∷ []

abbrev pub none_to_come : List (List Letter)
none_to_come = (Mark 0 1 0 0 ∷ []) ∷ []

-- a shard that has collected no layer
pub record LawWorkedBusy : Type 0 where
  pub calm : (layout : Layout) → Collects {B = Unit {0}} (alone 1) 1 layout [] None none_to_come
  pub one_state : (layout : Layout) → Collects {B = Unit {0}} (alone 1) 1 layout [] None one_to_come → ⊥
