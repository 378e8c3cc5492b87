-- A node is merged into the nodes of a layer as the store adds it.
use Rattle.std.proofs.Common.{◌≡◌, ◌⊎◌, inl, inr, Bool, true, false, not, List, [], ◌∷◌, ◌++◌, sym, subst, if◌then◌else◌}
use Rattle.dp_claims.specs.Enough.{Has}
use Rattle.state_layout.specs.declared.node.Node.{Node}
use Rattle.dom_store.specs.Contents.{IsCovered, CoversNode, with_node}
use Rattle.dom_store.proofs.Members.{has_filtered}
use Rattle.pass_ledger.specs.Passes.{Pass}
use Rattle.pass_ledger.proofs.Lists.{has_none, has_head, has_cases, has_left, has_right}
use Rattle.shard_core.specs.Layers.{Merges}

pub merges : (p : Pass) (prune : Bool) → prune ≡ p.prune → (old : List Node) (node : Node) (new : List Node) → ((n : Node) → Has new n → Has old n ⊎ (n ≡ node)) → ((n : Node) → IsCovered p.model prune old n → IsCovered p.model prune new n)
    → IsCovered p.model prune new node → Merges p old node new
merges p prune e old node new only kept added =
    record {
      only = only;
      kept = subst (λ (b : Bool). (n : Node) → IsCovered p.model b old n → IsCovered p.model b new n) e kept;
      added = subst (λ (b : Bool). IsCovered p.model b new node) e added;
    }

-- a node that is added comes beside some of the others
pub added_only : (test : Node → Node → Bool) (nodes : List Node) (node : Node) (b : Bool) (n : Node) → Has (if b then nodes else with_node test nodes node) n → Has nodes n ⊎ (n ≡ node)
added_only test nodes node true n h = inl h
added_only test nodes node false n h =
    elim (has_cases _ (node ∷ []) n h) [
      | inl old ↦ inl (has_filtered (λ held. not (test node held)) nodes n old).0
      | inr new ↦ elim (has_head node [] n new) [ inl e ↦ inr (sym e) | inr gone ↦ absurd (has_none n gone) ]
    ]

-- those that wait stand behind
pub merges_stored : (p : Pass) (waits old : List Node) (node : Node) (new : List Node) → Merges p old node new → Merges p (old ++ waits) node (new ++ waits)
merges_stored p waits old node new m =
    record {
      only = λ n h. elim (has_cases new waits n h) [
        | inl stored ↦ elim (m.only n stored) [ inl before ↦ inl (has_left old waits n before) | inr here ↦ inr here ]
        | inr waiting ↦ inl (has_right old waits n waiting)
      ];
      kept = λ n c. kept n c.0 c.2 (has_cases old waits c.0 c.1);
      added = more node m.added;
    }
  where
    more : (n : Node) → IsCovered p.model p.prune new n → IsCovered p.model p.prune (new ++ waits) n
    more n c = (c.0, has_left new waits c.0 c.1, c.2)

    kept : (n by : Node) → CoversNode p.model p.prune by n → Has old by ⊎ Has waits by → IsCovered p.model p.prune (new ++ waits) n
    kept n by c (inl stored) = more n (m.kept n (by, stored, c))
    kept n by c (inr waiting) = (by, has_right new waits by waiting, c)
