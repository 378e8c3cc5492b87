-- The layers that are not closed, as one more comes, as one changes, and as the first is taken out.
use Rattle.std.proofs.Common.{◌≡◌, ℕ, zero, suc, ◌+◌, ◌<◌, ◌⊎◌, inl, inr, Bool, false, List, [], ◌∷◌, ◌++◌, length, min, get_or, slice_get, slice_set, Option, Some, None, refl, sym, ap, subst, append_assoc, append-nil, ◌∙◌, arith}
use Rattle.std.specs.Prelude.{Result, Ok, Err, IfOk, OnOk, OnErr, IfSome, ℤ}
use Rattle.std.specs.List.{remove}
use Rattle.std.specs.declared.alloc.AllocError.{AllocError}
use Rattle.std.proofs.lemmas.Option.{slice_get-get_or}
use Rattle.cost_laws.specs.Orders.{InWideRange, IsLawOf}
use Rattle.state_layout.specs.Conditions.{IsNodeFor}
use Rattle.dp_model.specs.declared.parts.JoinOp.{JoinOp}
use Rattle.dp_model.specs.declared.whole.Model.{Model}
use Rattle.dom_store.specs.Order.{IsOrdering, IsLeastFloor}
use Rattle.pass_ledger.specs.Passes.{Pass}
use Rattle.dp_claims.specs.Enough.{Has}
use Rattle.state_layout.specs.declared.layout.Layout.{Layout}
use Rattle.state_layout.specs.declared.node.Node.{Node}
use Rattle.dom_store.specs.Contents.{with_added, with_nodes, IsCovered, Apart, AreAdded}
use Rattle.dom_store.specs.Past.{IsPast}
use Rattle.dom_store.specs.declared.past_node.PastNode.{PastNode}
use Rattle.dom_store.specs.declared.taking.Taken.{Taken}
use Rattle.dp_claims.proofs.Covering.{reflexive, transitive}
use Rattle.pass_ledger.proofs.Lists.{has_none, has_head, has_cases, has_left, has_right, has_last}
use Rattle.pass_ledger.proofs.Appends.{get_push}
use Rattle.shard_core.specs.Layers.{joined_at, nodes_at, busy_at, nodes_of, IsOf, AreOf, Merges, Splits}
use Rattle.shard_core.specs.declared.layers.Layer.{Layer}

-- what holds in any case holds where all went well
pub ok_holds : {A E P : Type 0} (result : Result A E) → P → OnOk result P
ok_holds (Ok x) p = p
ok_holds (Err e) p = tt

module _ {B : Type 0} where
  -- one more layer, without nodes
  pub push_nodes : (layers : List (Layer B)) (x : Layer B) → x.nodes.nodes ≡ [] → x.pending.items ≡ [] → (d : ℕ) → nodes_at (layers ++ x ∷ []) d ≡ nodes_at layers d
  push_nodes [] x e f zero = subst (λ (ns : List Node). ns ++ x.pending.items ≡ []) (sym e) f
  push_nodes [] x e f (suc d) = refl
  push_nodes (y ∷ layers) x e f zero = refl
  push_nodes (y ∷ layers) x e f (suc d) = push_nodes layers x e f d

  pub push_joined : (layers : List (Layer B)) (x : Layer B) → x.nodes.nodes ≡ [] → x.pending.items ≡ [] → (test : Node → Node → Bool) (d : ℕ) → joined_at test (layers ++ x ∷ []) d ≡ joined_at test layers d
  push_joined [] x e f test zero = ap (with_nodes test x.nodes.nodes) f ∙ e
  push_joined [] x e f test (suc d) = refl
  push_joined (y ∷ layers) x e f test zero = refl
  push_joined (y ∷ layers) x e f test (suc d) = push_joined layers x e f test d

  pub push_busy : (layers : List (Layer B)) (x : Layer B) → x.busy ≡ false → (d : ℕ) → busy_at (layers ++ x ∷ []) d ≡ busy_at layers d
  push_busy [] x e zero = e
  push_busy [] x e (suc d) = refl
  push_busy (y ∷ layers) x e zero = refl
  push_busy (y ∷ layers) x e (suc d) = push_busy layers x e d

  pub push_layouts : (layout : Layout) (layers : List (Layer B)) (x : Layer B) → AreOf layout layers → x.nodes.layout ≡ layout → x.pending.items ≡ [] → AreOf layout (layers ++ x ∷ [])
  push_layouts layout layers x are e f d y h =
      elim (get_push layers x d y h) [
        | inl old ↦ are d y old
        | inr new ↦ subst (λ (z : Layer B). IsOf layout z) new.1 (e, λ n there. absurd (has_none n (subst (λ (ns : List Node). Has ns n) f there)))
      ]

  -- one layer changes
  pub set_layouts : (layout : Layout) (layers : List (Layer B)) (k : ℕ) (x : Layer B) → AreOf layout layers → IsOf layout x → AreOf layout (slice_set layers k x)
  set_layouts layout [] k x are e d y h = are d y h
  set_layouts layout (z ∷ layers) zero x are e zero y h = subst (λ (w : Layer B). IsOf layout w) (some_is h) e
    where
      some_is : {a b : Layer B} → Some a ≡ Some b → a ≡ b
      some_is h = cc
  set_layouts layout (z ∷ layers) zero x are e (suc d) y h = are (suc d) y h
  set_layouts layout (z ∷ layers) (suc k) x are e zero y h = are zero y h
  set_layouts layout (z ∷ layers) (suc k) x are e (suc d) y h = set_layouts layout layers k x (λ d y h. are (suc d) y h) e d y h

  pub set_at : {A : Type 0} (f : Option (Layer B) → A) (layers : List (Layer B)) (k : ℕ) (x : Layer B) → k < length layers → f (slice_get (slice_set layers k x) k) ≡ f (Some x)
  set_at f [] k x lt = absurd (omega (arith, lt))
  set_at f (y ∷ layers) zero x lt = refl
  set_at f (y ∷ layers) (suc k) x lt = set_at f layers k x (omega (arith, lt))

  pub set_off : {A : Type 0} (f : Option (Layer B) → A) (layers : List (Layer B)) (k : ℕ) (x : Layer B) (d : ℕ) → (d ≡ k → ⊥) → f (slice_get (slice_set layers k x) d) ≡ f (slice_get layers d)
  set_off f [] k x d ne = refl
  set_off f (y ∷ layers) zero x zero ne = absurd (ne refl)
  set_off f (y ∷ layers) zero x (suc d) ne = refl
  set_off f (y ∷ layers) (suc k) x zero ne = refl
  set_off f (y ∷ layers) (suc k) x (suc d) ne = set_off f layers k x d (λ e. ne (ap suc e))

  pub set_all : {A : Type 0} (f : Option (Layer B) → A) (layers : List (Layer B)) (k : ℕ) (x old : Layer B) → slice_get layers k ≡ Some old → f (Some x) ≡ f (Some old) → (d : ℕ) → f (slice_get (slice_set layers k x) d) ≡ f (slice_get layers d)
  set_all f [] k x old at e d = refl
  set_all f (y ∷ layers) zero x old at e zero = e ∙ ap f (sym at)
  set_all f (y ∷ layers) zero x old at e (suc d) = refl
  set_all f (y ∷ layers) (suc k) x old at e zero = refl
  set_all f (y ∷ layers) (suc k) x old at e (suc d) = set_all f layers k x old at e d

  -- a layer that is put where it stood
  pub set_same : (layers : List (Layer B)) (k : ℕ) (x : Layer B) → slice_get layers k ≡ Some x → slice_set layers k x ≡ layers
  set_same [] k x at = refl
  set_same (y ∷ layers) zero x at = let same : y ≡ x = cc in ap (λ (z : Layer B). z ∷ layers) (sym same)
  set_same (y ∷ layers) (suc k) x at = ap (λ (zs : List (Layer B)). y ∷ zs) (set_same layers k x at)

  pub set_merges : (p : Pass) (layers : List (Layer B)) (k : ℕ) (x old : Layer B) (node : Node) → k < length layers → slice_get layers k ≡ Some old → Merges p (nodes_of (Some old)) node (nodes_of (Some x)) → Merges p (nodes_at layers k) node (nodes_at (slice_set layers k x) k)
  set_merges p layers k x old node lt at merges =
      subst (λ (ns : List Node). Merges p (nodes_at layers k) node ns) (sym (set_at nodes_of layers k x lt)) (subst (λ (ns : List Node). Merges p ns node (nodes_of (Some x))) (sym (ap nodes_of at)) merges)

  -- the first layer is taken out
  pub rest_at : {A : Type 0} (f : Option (Layer B) → A) (layers : List (Layer B)) → 0 < length layers → (d : ℕ) → f (slice_get (remove layers 0) d) ≡ f (slice_get layers (d + 1))
  rest_at f [] lt d = absurd (omega (arith, lt))
  rest_at f (y ∷ layers) lt d = ap (λ (k : ℕ). f (slice_get (y ∷ layers) k)) (sym_suc d)
    where
      sym_suc : (d : ℕ) → suc d ≡ d + 1
      sym_suc d = omega arith

  pub rest_layouts : (layout : Layout) (layers : List (Layer B)) → AreOf layout layers → AreOf layout (remove layers 0)
  rest_layouts layout [] are d y h = are d y h
  rest_layouts layout (x ∷ layers) are d y h = are (suc d) y h

-- ---- nodes that are added in turn

pub with_more : (test : Node → Node → Bool) (nodes done left : List Node) → with_nodes test nodes (done ++ left) ≡ with_nodes test (with_nodes test nodes done) left
with_more test nodes [] left = refl
with_more test nodes (d ∷ ds) left = with_more test (with_added test nodes d) ds left

-- of those that wait the first ones are added
pub still_joined : (test : Node → Node → Bool) (nodes list new left : List Node) → AreAdded test nodes list new left → with_nodes test new left ≡ with_nodes test nodes list
still_joined test nodes list new left a = ap (λ (ns : List Node). with_nodes test ns left) a.2 ∙ sym (with_more test nodes a.0 left) ∙ ap (with_nodes test nodes) (sym a.1)

-- all of them are
pub all_joined : (test : Node → Node → Bool) (nodes list new left : List Node) → new ≡ with_nodes test nodes list → left ≡ [] → with_nodes test new left ≡ with_nodes test nodes list
all_joined test nodes list new left is none = ap (with_nodes test new) none ∙ is

-- a node is added where none waits
pub joined_now : (test : Node → Node → Bool) (nodes waiting new : List Node) (node : Node) → waiting ≡ [] → new ≡ with_added test nodes node → with_nodes test new waiting ≡ with_added test (with_nodes test nodes waiting) node
joined_now test nodes waiting new node none is = rw none is

-- a node waits behind the others
pub joined_later : (test : Node → Node → Bool) (nodes waiting longer : List Node) (node : Node) → longer ≡ waiting ++ node ∷ [] → with_nodes test nodes longer ≡ with_added test (with_nodes test nodes waiting) node
joined_later test nodes waiting longer node is = ap (with_nodes test nodes) is ∙ with_more test nodes waiting (node ∷ [])

-- ---- a law of costs that is the model's

pub by_law : (m : Model) (minimize : Bool) (operator : JoinOp) (P : Bool → JoinOp → Type 0) → IsLawOf m minimize operator → P minimize operator → P m.minimize m.join
by_law m minimize operator P law h = subst (λ (o : JoinOp). P m.minimize o) law.1 (subst (λ (b : Bool). P b operator) law.0 h)

-- ---- what a call answers

pub got : {A : Type 0} (xs : List A) (k : ℕ) (x : A) → k < length xs → x ≡ get_or xs k x → slice_get xs k ≡ Some x
got xs k x lt e = slice_get-get_or xs k x lt ∙ ap Some (sym e)

pub on_err : {A B : Type 0} (r : Result A B) (P : Type 0) → P → OnErr r P
on_err (Ok x) P h = tt
on_err (Err e) P h = h

-- ---- a store

pub none_left : (layout : Layout) (ns : List Node) → ns ≡ [] → (n : Node) → Has ns n → IsNodeFor layout n
none_left layout ns e n h = absurd (has_none n (subst (λ (ms : List Node). Has ms n) e h))

pub fit_same : (layout : Layout) (ns new : List Node) → new ≡ ns → ((n : Node) → Has ns n → IsNodeFor layout n) → (n : Node) → Has new n → IsNodeFor layout n
fit_same layout ns new is fits n h = fits n (subst (λ (ms : List Node). Has ms n) is h)

-- one more node fits where all others do
pub fit_more : (layout : Layout) (ns : List Node) (node : Node) (new : List Node) → new ≡ ns ++ node ∷ [] → ((n : Node) → Has ns n → IsNodeFor layout n) → IsNodeFor layout node → (n : Node) → Has new n → IsNodeFor layout n
fit_more layout ns node new is fits here n h =
    elim (has_cases ns (node ∷ []) n (subst (λ (ms : List Node). Has ms n) is h)) [
      | inl before ↦ fits n before
      | inr last ↦ elim (has_head node [] n last) [ inl e ↦ subst (IsNodeFor layout) e here | inr gone ↦ absurd (has_none n gone) ]
    ]

-- nodes that are left of a list were in it
pub left_in : (test : Node → Node → Bool) (stored list new left : List Node) → AreAdded test stored list new left → (n : Node) → Has left n → Has list n
left_in test stored list new left added n h = subst (λ (ns : List Node). Has ns n) (sym added.1) (has_right added.0 left n h)

-- the best floor of nodes is one of theirs
pub floor_wide : (minimize : Bool) (operator : JoinOp) (ns : List Node) (floor : Option ℤ) → IsLeastFloor minimize operator ns floor → ((n : Node) → Has ns n → IfSome n.floor InWideRange) → IfSome floor InWideRange
floor_wide minimize operator ns None h good = tt
floor_wide minimize operator ns (Some floor) h good = subst (λ (f : Option ℤ). IfSome f InWideRange) h.0.2 (good h.0.0 h.0.1)

pub wide : (minimize : Bool) (operator : JoinOp) (layout : Layout) (result : Result Taken AllocError) → IfOk result (λ t. IsLeastFloor minimize operator t.dropped t.least_floor) → IfOk result (λ t. (n : Node) → Has (t.kept ++ t.dropped) n → IsNodeFor layout n)
    → IfOk result (λ t. IfSome t.least_floor InWideRange)
wide minimize operator layout (Err x) floor fits = tt
wide minimize operator layout (Ok t) floor fits = floor_wide minimize operator t.dropped t.least_floor floor (λ n h. (fits n (has_right t.kept t.dropped n h)).2.floor)

pub fit_kept : (layout other : Layout) → layout ≡ other → (result : Result Taken AllocError) → IfOk result (λ t. (n : Node) → Has (t.kept ++ t.dropped) n → IsNodeFor layout n) → IfOk result (λ t. (n : Node) → Has t.kept n → IsNodeFor other n)
fit_kept layout other e (Err x) fits = tt
fit_kept layout other e (Ok t) fits = λ n h. subst (λ (l : Layout). IsNodeFor l n) e (fits n (has_left t.kept t.dropped n h))

-- a node that comes last is merged into the others
merges_last : (p : Pass) (old : List Node) (node : Node) → Merges p old node (old ++ node ∷ [])
merges_last p old node =
    record {
      only = λ n h. elim (has_cases old (node ∷ []) n h) [
        | inl before ↦ inl before
        | inr last ↦ elim (has_head node [] n last) [ inl e ↦ inr (sym e) | inr gone ↦ absurd (has_none n gone) ]
      ];
      kept = λ n c. (c.0, has_left old (node ∷ []) c.0 c.1, c.2);
      added = (node, has_last old node, reflexive p.model p.prune node.state node.cost);
    }

-- and is so where some that others cover are taken out then
pub merges_among : (p : Pass) (prune : Bool) → prune ≡ p.prune → (stored waits : List Node) (node : Node) (waiting new : List Node) → waiting ≡ waits ++ node ∷ [] → ((n : Node) → Has new n → Has (stored ++ waiting) n)
    → ((n : Node) → IsCovered p.model prune (stored ++ waiting) n → IsCovered p.model prune new n) → Merges p (stored ++ waits) node new
merges_among p prune e stored waits node waiting new is from covered =
    record {
      only = λ n h. last.only n (subst (λ (ns : List Node). Has ns n) same (from n h));
      kept = λ n c. are_covered n (subst (λ (ns : List Node). IsCovered p.model p.prune ns n) (sym same) (last.kept n c));
      added = are_covered node (subst (λ (ns : List Node). IsCovered p.model p.prune ns node) (sym same) last.added);
    }
  where
    same : stored ++ waiting ≡ (stored ++ waits) ++ node ∷ []
    same = ap (λ (ns : List Node). stored ++ ns) is ∙ sym (append_assoc stored waits (node ∷ []))

    last : Merges p (stored ++ waits) node ((stored ++ waits) ++ node ∷ [])
    last = merges_last p (stored ++ waits) node

    are_covered : (n : Node) → IsCovered p.model p.prune (stored ++ waiting) n → IsCovered p.model p.prune new n
    are_covered = subst (λ (b : Bool). (n : Node) → IsCovered p.model b (stored ++ waiting) n → IsCovered p.model b new n) e covered

-- something is dropped only where just the share is kept
pub dropped_full : (share : ℕ) (nodes kept dropped : List Node) → length kept ≡ min share (length nodes) → length kept + length dropped ≡ length nodes → (n : Node) → Has dropped n → length kept ≡ share
dropped_full share nodes kept [] kept_is all n h = absurd (has_none n h)
dropped_full share nodes kept (m ∷ dropped) kept_is all n h = omega (arith, kept_is, all)

-- what was covered is covered by one that is left, or by the past
covered_left : (p : Pass) (past : List PastNode) (nodes left : List Node) → ((n : Node) → Has nodes n → Has left n ⊎ IsPast p.model p.prune past n) → (n : Node) → IsCovered p.model p.prune nodes n → IsCovered p.model p.prune left n ⊎ IsPast p.model p.prune past n
covered_left p past nodes left each n c =
    elim (each c.0 c.1) [
      | inl here ↦ inl (c.0, here, c.2)
      | inr gone ↦ inr (gone.0, gone.1, transitive p.model p.prune gone.0.state c.0.state n.state gone.0.cost c.0.cost n.cost gone.2 c.2)
    ]

covered_split : (p : Pass) (past : List PastNode) (left out : List Node) → ((n : Node) → IsCovered p.model p.prune left n → IsCovered p.model p.prune out n) → (n : Node) → IsCovered p.model p.prune left n ⊎ IsPast p.model p.prune past n → IsCovered p.model p.prune out n ⊎ IsPast p.model p.prune past n
covered_split p past left out h n (inl c) = inl (h n c)
covered_split p past left out h n (inr c) = inr c

pub splits : (p : Pass) (share : ℕ) (past : List PastNode) (nodes left : List Node) (minimize : Bool) (operator : JoinOp) (prune : Bool) → prune ≡ p.prune → IsLawOf p.model minimize operator → ((n : Node) → Has left n → Has nodes n)
    → ((n : Node) → Has nodes n → Has left n ⊎ IsPast p.model prune past n) → ((n : Node) → Has left n → IsPast p.model prune past n → ⊥) → (result : Result Taken AllocError)
    → IfOk result (λ t. IsOrdering minimize operator left (t.kept ++ t.dropped)) → IfOk result (λ t. length t.kept ≡ min share (length left)) → IfOk result (λ t. length t.kept + length t.dropped ≡ length left)
    → IfOk result (λ t. IsLeastFloor minimize operator t.dropped t.least_floor) → ((n : Node) → IsCovered p.model prune left n → IfOk result (λ t. IsCovered p.model prune (t.kept ++ t.dropped) n))
    → IfOk result (λ t. Apart p.model prune (t.kept ++ t.dropped)) → IfOk result (λ t. Splits p share past nodes t)
splits p share past nodes left minimize operator prune e law only each news (Err x) order kept all floor covered apart = tt
splits p share past nodes left minimize operator prune e law only each news (Ok t) order kept all floor covered apart =
    record {
      from = λ n h. only n (order.from n h);
      news = λ n h. is_new n (order.from n h);
      covered = λ n c. covered_split p past left (t.kept ++ t.dropped) are_covered n (covered_left p past nodes left are_left n c);
      apart = subst (λ (b : Bool). Apart p.model b (t.kept ++ t.dropped)) e apart;
      few = omega (arith, kept);
      full = dropped_full share left t.kept t.dropped kept all;
      floor = subst (λ (o : JoinOp). IsLeastFloor p.model.minimize o t.dropped t.least_floor) law.1 (subst (λ (b : Bool). IsLeastFloor b operator t.dropped t.least_floor) law.0 floor);
    }
  where
    are_left : (n : Node) → Has nodes n → Has left n ⊎ IsPast p.model p.prune past n
    are_left = subst (λ (b : Bool). (n : Node) → Has nodes n → Has left n ⊎ IsPast p.model b past n) e each

    is_new : (n : Node) → Has left n → IsPast p.model p.prune past n → ⊥
    is_new = subst (λ (b : Bool). (n : Node) → Has left n → IsPast p.model b past n → ⊥) e news

    are_covered : (n : Node) → IsCovered p.model p.prune left n → IsCovered p.model p.prune (t.kept ++ t.dropped) n
    are_covered = subst (λ (b : Bool). (n : Node) → IsCovered p.model b left n → IsCovered p.model b (t.kept ++ t.dropped) n) e covered

-- the nodes that were shared out are those of before, where some that others cover were taken out first
pub splits_before : (p : Pass) (share : ℕ) (past : List PastNode) (nodes stored waits : List Node) (taken : Taken) (prune : Bool) → prune ≡ p.prune → waits ≡ [] → ((n : Node) → Has (stored ++ waits) n → Has nodes n)
    → ((n : Node) → IsCovered p.model prune nodes n → IsCovered p.model prune (stored ++ waits) n) → Splits p share past stored taken → Splits p share past nodes taken
splits_before p share past nodes stored waits taken prune e none from covered s =
    record {
      from = λ n h. from n (has_left stored waits n (s.from n h));
      news = s.news;
      covered = λ n c. s.covered n (subst (λ (ns : List Node). IsCovered p.model p.prune ns n) same (are_covered n c));
      apart = s.apart;
      few = s.few;
      full = s.full;
      floor = s.floor;
    }
  where
    same : stored ++ waits ≡ stored
    same = ap (λ (ns : List Node). stored ++ ns) none ∙ append-nil stored

    are_covered : (n : Node) → IsCovered p.model p.prune nodes n → IsCovered p.model p.prune (stored ++ waits) n
    are_covered = subst (λ (b : Bool). (n : Node) → IsCovered p.model b nodes n → IsCovered p.model b (stored ++ waits) n) e covered
