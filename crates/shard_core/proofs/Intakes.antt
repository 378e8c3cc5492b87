-- What a shard keeps of the letters that it took, and one more letter.
use Rattle.std.proofs.Common.{◌≡◌, ℕ, ◌+◌, ◌≤◌, ◌<◌, ◌⊎◌, inl, inr, zero, suc, true, List, length, get_or, slice_set, Option, sym, subst, ◌∙◌, ap, arith, add-one}
use Rattle.std.proofs.lemmas.Bool.{cases_eq, cases_lt}
use Rattle.std.proofs.lemmas.List.{get_or-set_same, get_or-set_other, length-set}
use Rattle.dp_claims.specs.Enough.{Has}
use Rattle.dom_store.specs.Contents.{IsCovered}
use Rattle.state_layout.specs.declared.layout.Layout.{Layout}
use Rattle.state_layout.specs.declared.node.Node.{Node}
use Rattle.pass_ledger.specs.Events.{append_at}
use Rattle.pass_ledger.specs.Groups.{grown, unfinished}
use Rattle.pass_ledger.specs.Letters.{of, layer_of}
use Rattle.pass_ledger.specs.Passes.{Pass}
use Rattle.pass_ledger.specs.Rows.{Received}
use Rattle.pass_ledger.specs.declared.mail.Letter.{Letter}
use Rattle.pass_ledger.specs.declared.mail.Letter.TheVariants.{State, Mark}
use Rattle.pass_ledger.proofs.Lists.{has_last}
use Rattle.pass_ledger.proofs.Appends.{append_same, append_other, append_cases, append_old}
use Rattle.pass_ledger.proofs.Groups.{grows}
use Rattle.shard_core.specs.Layers.{nodes_at, busy_at, AreOf, Merges}
use Rattle.shard_core.specs.Stands.{Intake, Collects}
use Rattle.shard_core.specs.declared.layers.Layer.{Layer}

abbrev first : ℕ × ℕ → ℕ
first p = p.0

grown_same : (received : List (List Letter)) (j : ℕ) (x : Letter) → j < length received → unfinished (1, 0) (of (append_at received j x) j) ≡ grown (unfinished (1, 0) (of received j)) x
grown_same received j x lt = ap (unfinished (1, 0)) (append_same received j x lt) ∙ grows (1, 0) (of received j) x

-- one more state: its group goes on
pub intake_state : (shards : ℕ) (layers : List ℕ) (received : List (List Letter)) → Intake shards layers received → length received ≡ shards → (j f l : ℕ) (n : Node) → j < shards → Intake shards layers (append_at received j (State f l n))
intake_state shards layers received ink rlong j f l n lt =
    record {
      long = ink.long;
      open_are = λ k kt. elim (cases_eq k j) [
        | inl e ↦ subst (λ (m : ℕ). get_or layers m 1 ≡ (unfinished (1, 0) (of (append_at received j x) m)).0) (sym e)
            (ink.open_are j lt ∙ sym (ap first (grown_same received j x (subst (λ (m : ℕ). j < m) (sym rlong) lt))))
        | inr ne ↦ ink.open_are k kt ∙ sym (ap (λ (xs : List Letter). (unfinished (1, 0) xs).0) (append_other received j x k ne))
      ];
    }
  where
    x : Letter
    x = State f l n

-- one more mark: the next group begins
pub intake_mark : (shards : ℕ) (layers : List ℕ) (received : List (List Letter)) → Intake shards layers received → length received ≡ shards → (j f l y t : ℕ) → j < shards → l ≡ (unfinished (1, 0) (of received j)).0
    → (new : List ℕ) → new ≡ slice_set layers j (l + 1) → Intake shards new (append_at received j (Mark f l y t))
intake_mark shards layers received ink rlong j f l y t lt at new is = subst (λ (xs : List ℕ). Intake shards xs (append_at received j x)) (sym is)
    (record {
      long = length-set layers j (l + 1) ∙ ink.long;
      open_are = λ k kt. elim (cases_eq k j) [
        | inl e ↦ subst (λ (m : ℕ). get_or (slice_set layers j (l + 1)) m 1 ≡ (unfinished (1, 0) (of (append_at received j x) m)).0) (sym e)
            (get_or-set_same layers j (l + 1) 1 (subst (λ (m : ℕ). j < m) (sym ink.long) lt) ∙ ap (λ (m : ℕ). m + 1) at ∙ sym (ap first (grown_same received j x (subst (λ (m : ℕ). j < m) (sym rlong) lt))))
        | inr ne ↦ get_or-set_other layers j k (l + 1) 1 ne ∙ (ink.open_are k kt ∙ sym (ap (λ (xs : List Letter). (unfinished (1, 0) xs).0) (append_other received j x k ne)))
      ];
    })
  where
    x : Letter
    x = Mark f l y t

-- ---- nodes

more : (p : Pass) (start : Option Node) (received : List (List Letter)) (j : ℕ) (x : Letter) (l : ℕ) (n : Node) → Received p start received l n → Received p start (append_at received j x) l n
more p start received j x zero n h = h
more p start received j x (suc l) n h = (h.0, h.1, append_old received j x h.0 (State h.0 (l + 1) n) h.2)

mark_back : (p : Pass) (start : Option Node) (received : List (List Letter)) (j f m y t l : ℕ) (n : Node) → Received p start (append_at received j (Mark f m y t)) l n → Received p start received l n
mark_back p start received j f m y t zero n h = h
mark_back p start received j f m y t (suc l) n h = (
  h.0,
  h.1,
  elim (append_cases received j (Mark f m y t) h.0 (State h.0 (l + 1) n) h.2) [
    | inl old ↦ old
    | inr b ↦ absurd (let clash : Mark f m y t ≡ State h.0 (l + 1) n = b.1 in cc)
  ],
)

node_same : {a b c d : ℕ} {p q : Node} → State a b p ≡ State c d q → p ≡ q
node_same e = cc

state_back : (p : Pass) (start : Option Node) (received : List (List Letter)) (j b : ℕ) (m : Node) (l : ℕ) (n : Node) → Received p start (append_at received j (State j b m)) l n → Received p start received l n ⊎ ((l ≡ b) × (m ≡ n))
state_back p start received j b m zero n h = inl h
state_back p start received j b m (suc l) n h =
    elim (append_cases received j (State j b m) h.0 (State h.0 (l + 1) n) h.2) [
      | inl old ↦ inl (h.0, h.1, old)
      | inr z ↦ inr (let is : State j b m ≡ State h.0 (l + 1) n = z.1 in let same = ap layer_of is in (omega (arith, same), node_same is))
    ]

received_at : (p : Pass) (start : Option Node) (received : List (List Letter)) (j d : ℕ) (m : Node) → 1 ≤ d → j < p.shards → Has (of received j) (State j d m) → Received p start received d m
received_at p start received j zero m le lt h = absurd (omega (arith, le))
received_at p start received j (suc d) m le lt h = (j, lt, subst (λ (a : ℕ). Has (of received j) (State j a m)) (sym (add-one d)) h)

has_taken : (received : List (List Letter)) (j : ℕ) (x : Letter) → j < length received → Has (of (append_at received j x) j) x
has_taken received j x lt = subst (λ (xs : List Letter). Has xs x) (sym (append_same received j x lt)) (has_last (of received j) x)

-- a state is merged into the nodes of its layer
pub collects_state : {B : Type 0} (p : Pass) (layer : ℕ) (layout : Layout) (layers : List (Layer B)) (start : Option Node) (received : List (List Letter)) → Collects p layer layout layers start received → length received ≡ p.shards
    → (j b k : ℕ) (m : Node) → b ≡ layer + k → 1 ≤ b → j < p.shards
    → (new : List (Layer B)) → AreOf layout new → Merges p (nodes_at layers k) m (nodes_at new k) → ((d : ℕ) → (d ≡ k → ⊥) → nodes_at new d ≡ nodes_at layers d) → ((d : ℕ) → busy_at new d ≡ busy_at layers d)
    → Collects p layer layout new start (append_at received j (State j b m))
collects_state {B = B} p layer layout layers start received c rlong j b k m at pos lt new are merges others busy =
    record {
      layouts = are;
      only = λ d n h. elim (cases_eq d k) [
        | inl e ↦ elim (merges.only n (subst (λ (a : ℕ). Has (nodes_at new a) n) e h)) [
          | inl old ↦ more p start received j x (layer + d) n (c.only d n (subst (λ (a : ℕ). Has (nodes_at layers a) n) (sym e) old))
          | inr is ↦ subst (λ (a : ℕ). Received p start (append_at received j x) (layer + a) n) (sym e) (subst (λ (a : ℕ). Received p start (append_at received j x) a n) at (subst (λ (z : Node). Received p start (append_at received j x) b z) (sym is) it))
        ]
        | inr ne ↦ more p start received j x (layer + d) n (c.only d n (subst (λ (ns : List Node). Has ns n) (others d ne) h))
      ];
      all = λ d n h. elim (state_back p start received j b m (layer + d) n h) [
        | inl old ↦ elim (cases_eq d k) [
          | inl e ↦ subst (λ (a : ℕ). IsCovered p.model p.prune (nodes_at new a) n) (sym e) (merges.kept n (subst (λ (a : ℕ). IsCovered p.model p.prune (nodes_at layers a) n) e (c.all d n old)))
          | inr ne ↦ subst (λ (ns : List Node). IsCovered p.model p.prune ns n) (sym (others d ne)) (c.all d n old)
        ]
        | inr z ↦ (let e : d ≡ k = place d z.0 in subst (λ (a : ℕ). IsCovered p.model p.prune (nodes_at new a) n) (sym e) (subst (λ (q : Node). IsCovered p.model p.prune (nodes_at new k) q) z.1 merges.added))
      ];
      busy = λ d e. (let h = c.busy d (sym (busy d) ∙ e) in (h.0, h.1, h.2, h.3, h.4, append_old received j x h.0 (Mark h.1 (layer + d) h.2 h.3) h.5, h.6));
      calm = λ d k' f y t h pos'. elim (append_cases received j x k' (Mark f (layer + d) y t) h) [
        | inl old ↦ busy d ∙ c.calm d k' f y t old pos'
        | inr z ↦ absurd (let clash : State j b m ≡ Mark f (layer + d) y t = z.1 in cc)
      ];
    }
  where
    x : Letter
    x = State j b m

    place : (d : ℕ) → layer + d ≡ b → d ≡ k
    place d e = omega (arith, e, at)

    it : Received p start (append_at received j x) b m
    it = received_at p start (append_at received j x) j b m pos lt (has_taken received j x (subst (λ (a : ℕ). j < a) (sym rlong) lt))

-- a mark brings no node, and makes its layer busy where its total is above 0
pub collects_mark : {B : Type 0} (p : Pass) (layer : ℕ) (layout : Layout) (layers : List (Layer B)) (start : Option Node) (received : List (List Letter)) → Collects p layer layout layers start received → length received ≡ p.shards
    → (j f b k y t : ℕ) → b ≡ layer + k → j < p.shards
    → (new : List (Layer B)) → AreOf layout new → ((d : ℕ) → nodes_at new d ≡ nodes_at layers d) → (0 < t → busy_at new k ≡ true) → (t ≡ 0 → busy_at new k ≡ busy_at layers k) → ((d : ℕ) → (d ≡ k → ⊥) → busy_at new d ≡ busy_at layers d)
    → Collects p layer layout new start (append_at received j (Mark f b y t))
collects_mark {B = B} p layer layout layers start received c rlong j f b k y t at lt new are nodes marked none others =
    record {
      layouts = are;
      only = λ d n h. more p start received j x (layer + d) n (c.only d n (subst (λ (ns : List Node). Has ns n) (nodes d) h));
      all = λ d n h. subst (λ (ns : List Node). IsCovered p.model p.prune ns n) (sym (nodes d)) (c.all d n (mark_back p start received j f b y t (layer + d) n h));
      busy = λ d e. elim (cases_eq d k) [
        | inl same ↦ elim (cases_lt 0 t) [
          | inl pos ↦ (j, f, y, t, lt, subst (λ (l : ℕ). Has (of (append_at received j x) j) (Mark f l y t)) (at ∙ ap (λ (a : ℕ). layer + a) (sym same)) it, pos)
          | inr low ↦ old_busy d (sym (here d same (omega (arith, low))) ∙ e)
        ]
        | inr ne ↦ old_busy d (sym (others d ne) ∙ e)
      ];
      calm = λ d k' f' y' t' h pos. elim (append_cases received j x k' (Mark f' (layer + d) y' t') h) [
        | inl old ↦ stays d (c.calm d k' f' y' t' old pos)
        | inr z ↦ (let is : Mark f b y t ≡ Mark f' (layer + d) y' t' = z.1 in
            let same : t ≡ t' = total_same is in
            let layers_same = ap layer_of is in
            let e : d ≡ k = place d layers_same in
            subst (λ (a : ℕ). busy_at new a ≡ true) (sym e) (marked (subst (λ (a : ℕ). 0 < a) (sym same) pos)))
      ];
    }
  where
    x : Letter
    x = Mark f b y t

    place : (d : ℕ) → b ≡ layer + d → d ≡ k
    place d e = omega (arith, e, at)

    total_same : {a b c d a' b' c' d' : ℕ} → Mark a b c d ≡ Mark a' b' c' d' → d ≡ d'
    total_same e = cc

    it : Has (of (append_at received j x) j) x
    it = has_taken received j x (subst (λ (a : ℕ). j < a) (sym rlong) lt)

    here : (d : ℕ) → d ≡ k → t ≡ 0 → busy_at new d ≡ busy_at layers d
    here d e low = subst (λ (a : ℕ). busy_at new a ≡ busy_at layers a) (sym e) (none low)

    old_busy : (d : ℕ) → busy_at layers d ≡ true → (j' : ℕ) × (from : ℕ) × (to_you : ℕ) × (total : ℕ) × (j' < p.shards) × Has (of (append_at received j x) j') (Mark from (layer + d) to_you total) × (0 < total)
    old_busy d e = let h = c.busy d e in (h.0, h.1, h.2, h.3, h.4, append_old received j x h.0 (Mark h.1 (layer + d) h.2 h.3) h.5, h.6)

    stays : (d : ℕ) → busy_at layers d ≡ true → busy_at new d ≡ true
    stays d e = elim (cases_eq d k) [
      | inl same ↦ elim (cases_lt 0 t) [
        | inl pos ↦ subst (λ (a : ℕ). busy_at new a ≡ true) (sym same) (marked pos)
        | inr low ↦ here d same (omega (arith, low)) ∙ e
      ]
      | inr ne ↦ others d ne ∙ e
    ]

-- where nothing changes that is seen
pub collects_same : {B : Type 0} (p : Pass) (layer : ℕ) (layout : Layout) (layers new : List (Layer B)) (start : Option Node) (received : List (List Letter)) → AreOf layout new → ((d : ℕ) → nodes_at new d ≡ nodes_at layers d) → ((d : ℕ) → busy_at new d ≡ busy_at layers d)
    → Collects p layer layout layers start received → Collects p layer layout new start received
collects_same p layer layout layers new start received are nodes busy c =
    record {
      layouts = are;
      only = λ d n h. c.only d n (subst (λ (ns : List Node). Has ns n) (nodes d) h);
      all = λ d n h. subst (λ (ns : List Node). IsCovered p.model p.prune ns n) (sym (nodes d)) (c.all d n h);
      busy = λ d e. c.busy d (sym (busy d) ∙ e);
      calm = λ d j f y t h pos. busy d ∙ c.calm d j f y t h pos;
    }
