-- A node comes to the open ones as the store adds it, or not.
use Rattle.std.proofs.Common.{◌≡◌, ◌⊎◌, inl, inr, Bool, true, false, ◌||◌, if◌then◌else◌, List, [], ◌∷◌, refl, sym, subst, ap, ◌∙◌}
use Rattle.std.specs.List.{list_any}
use Rattle.std.specs.Prelude.{Option, Some, None, IfSome, Result, Ok, Err, OnOk}
use Rattle.dp_claims.specs.Enough.{Has}
use Rattle.dp_claims.proofs.Covering.{reflexive}
use Rattle.dp_model.specs.declared.whole.Model.{Model}
use Rattle.state_layout.specs.Conditions.{IsLayoutOf, IsNodeOf, IsNodeFor}
use Rattle.state_layout.specs.declared.layout.Layout.{Layout}
use Rattle.state_layout.specs.declared.node.Node.{Node}
use Rattle.cost_laws.specs.Orders.{IsLawOf}
use Rattle.dp_model.specs.declared.parts.JoinOp.{JoinOp}
use Rattle.dom_store.specs.Contents.{IsCovered, Apart, is_covered, with_node}
use Rattle.dom_store.specs.Covering.{covers}
use Rattle.dom_store.proofs.Promises.{covers_in}
use Rattle.dom_store.specs.Past.{IsPast}
use Rattle.dom_store.specs.declared.past_node.PastNode.{PastNode}
use Rattle.pass_ledger.specs.Passes.{Pass}
use Rattle.pass_ledger.proofs.Lists.{has_none, has_head}
use Rattle.shard_core.proofs.Merges.{added_only}
use Rattle.best_shard.specs.Opening.{Opens}

-- ---- what the store adds is covered by nothing that it held

any_true : (f : Node → Bool) (nodes : List Node) (n : Node) → Has nodes n → f n ≡ true → list_any f nodes ≡ true
any_true f [] n h e = absurd (has_none n h)
any_true f (x ∷ nodes) n h e =
    elim (has_head x nodes n h) [
      | inl same ↦ first (f x) (ap f same ∙ e)
      | inr more ↦ later (f x) (any_true f nodes n more e)
    ]
  where
    first : (b : Bool) → b ≡ true → (b || list_any f nodes) ≡ true
    first true t = refl
    first false t = absurd (cc)

    later : (b : Bool) → list_any f nodes ≡ true → (b || list_any f nodes) ≡ true
    later true t = refl
    later false t = t

module _ (m : Model) (prune minimize : Bool) (operator : JoinOp) (layout : Layout) (of_model : IsLayoutOf m layout) (law : IsLawOf m minimize operator) where
  free : (old : List Node) (node : Node) → is_covered (covers prune minimize operator layout) old node ≡ false → IsCovered m prune old node → ⊥
  free old node e c =
      let covered : is_covered (covers prune minimize operator layout) old node ≡ true =
      any_true (λ (held : Node). covers prune minimize operator layout held node) old c.0 c.1 ((covers_in prune minimize operator m layout of_model law c.0 node).1 c.2) in
      absurd (cc)

  added_if : (old : List Node) (node : Node) (b : Bool) → is_covered (covers prune minimize operator layout) old node ≡ b → (n : Node) → Has (if b then old else with_node (covers prune minimize operator layout) old node) n
      → Has old n ⊎ ((n ≡ node) × (IsCovered m prune old node → ⊥))
  added_if old node true e n h = inl h
  added_if old node false e n h = elim (added_only (covers prune minimize operator layout) old node false n h) [ inl before ↦ inl before | inr here ↦ inr (here, free old node e) ]

  pub added_free : (old : List Node) (node n : Node) → Has (if is_covered (covers prune minimize operator layout) old node then old else with_node (covers prune minimize operator layout) old node) n
      → Has old n ⊎ ((n ≡ node) × (IsCovered m prune old node → ⊥))
  added_free old node n h = added_if old node (is_covered (covers prune minimize operator layout) old node) refl n h

-- ---- how a node comes to the open ones

-- the store adds it
pub opens_added : (p : Pass) (prune : Bool) → prune ≡ p.prune → (old : List Node) (node : Node) (new : List Node) → ((n : Node) → Has new n → Has old n ⊎ ((n ≡ node) × (IsCovered p.model prune old node → ⊥))) → ((n : Node) → IsCovered p.model prune old n → IsCovered p.model prune new n)
    → IsCovered p.model prune new node → Apart p.model prune new → Opens p [] old node new
opens_added p prune e old node new only kept added apart =
    record {
      kept = λ n h. elim (only n h) [ inl before ↦ inl before | inr here ↦ inr (sym here.0, λ c. has_none c.0 c.1, λ c. here.1 (subst (λ (b : Bool). IsCovered p.model b old node) (sym e) c)) ];
      apart = subst (λ (b : Bool). Apart p.model b new) e apart;
      left = λ n h. subst (λ (b : Bool). IsCovered p.model b new n) e (kept n (n, h, reflexive p.model prune n.state n.cost));
      added = inl (subst (λ (b : Bool). IsCovered p.model b new node) e added);
    }

-- the past does not cover it
pub opens_new : (p : Pass) (prune : Bool) → prune ≡ p.prune → (past : List PastNode) (old : List Node) (node : Node) (new : List Node) → (IsPast p.model prune past node → ⊥) → Opens p [] old node new → Opens p past old node new
opens_new p prune e past old node new not_past o =
    record {
      kept = λ n h. elim (o.kept n h) [ inl before ↦ inl before | inr here ↦ inr (here.0, λ c. not_past (subst (λ (b : Bool). IsPast p.model b past node) (sym e) c), here.2) ];
      apart = o.apart;
      left = o.left;
      added = elim o.added [ inl c ↦ inl c | inr c ↦ absurd (has_none c.0 c.1) ];
    }

-- the past covers it
pub opens_same : (p : Pass) (prune : Bool) → prune ≡ p.prune → (past : List PastNode) (old : List Node) (node : Node) → Apart p.model p.prune old → IsPast p.model prune past node → Opens p past old node old
opens_same p prune e past old node apart c =
    record {
      kept = λ n h. inl h;
      apart = apart;
      left = λ n h. (n, h, reflexive p.model p.prune n.state n.cost);
      added = inr (subst (λ (b : Bool). IsPast p.model b past node) e c);
    }

-- ---- the node that a shard starts with

pub some_fits : (m : Model) (layout : Layout) → IsLayoutOf m layout → (start : Option Node) → IfSome start (IsNodeOf m) → IfSome start (IsNodeFor layout)
some_fits m layout is None h = tt
some_fits m layout is (Some n) h = (m, is, h)

pub some_good : (m : Model) (start : Option Node) → IfSome start (IsNodeOf m) → (n : Node) → start ≡ Some n → IsNodeOf m n
some_good m start h n e = subst (λ (o : Option Node). IfSome o (IsNodeOf m)) e h

-- ---- answers

-- what follows of each good answer
pub if_ok : {T E X Y : Type 0} (result : Result T E) → (X → Y) → OnOk result X → OnOk result Y
if_ok (Ok x) f h = f h
if_ok (Err e) f h = tt
