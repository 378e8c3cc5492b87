-- Steps of a past: each is over what it stands for, so that where no step may cover a node, none that is kept covers it.
use Rattle.std.proofs.Common.{◌≡◌, ℕ, ◌≤◌, ◌⊎◌, inl, inr, Bool, true, false, List, [], ◌∷◌, ◌++◌, length, set, Option, Some, None, refl, sym, ap, ◌∙◌, subst, arith}
use Rattle.std.specs.Prelude.{ℤ, pos, nat_eq, int_le, int_lt}
use Rattle.std.specs.BTreeMap.{BTreeMap, get}
use Rattle.std.specs.BTreeMap.Range.{IsEntryInRange, IsRangeOf}
use Rattle.std.specs.declared.ops.Bound.TheVariants.{Included, Unbounded}
use Rattle.std.specs.List.{slice_get, list_any}
use Rattle.std.specs.Option.{IfSome}
use Rattle.std.specs.Ordering.{nat_cmp, is_gt}
use Rattle.std.proofs.lemmas.Int.{ints}
use Rattle.dp_claims.specs.Enough.{Has}
use Rattle.dp_model.specs.Costs.{order_word}
use Rattle.dp_model.specs.declared.parts.JoinOp.{JoinOp}
use Rattle.state_layout.specs.Merits.{merit_of}
use Rattle.state_layout.specs.declared.layout.Layout.{Layout}
use Rattle.state_layout.specs.declared.node.Node.{Node}
use Rattle.dom_store.specs.Chains.{chain_from, has_key}
use Rattle.dom_store.specs.Covering.{bare, covers, replaces, key_of, KeepsKey}
use Rattle.dom_store.specs.Glances.{IsGlanceOf}
use Rattle.dom_store.specs.Laws.{covers_shows, covers_then}
use Rattle.dom_store.specs.Past.{past_node, past_key, covers_past, is_past, passes_at, IsStoodFor, IsPastKept, AreUnder, ArePastStaircases}
use Rattle.dom_store.specs.Stairs.{NoneCovers, HasStep, IsOver, IsUnder}
use Rattle.dom_store.specs.declared.chains.Link.{Link}
use Rattle.dom_store.specs.declared.glance.Glance.{Glance}
use Rattle.dom_store.specs.declared.past_node.PastNode.{PastNode}
use Rattle.dom_store.specs.declared.stairs.Stairs.{Stairs}
use Rattle.dom_store.specs.declared.stairs.Step.{Step}
use Rattle.dom_store.proofs.Indexing.{set_get, stairs_set}
use Rattle.dom_store.proofs.Members.{has_none, has_cases}
use Rattle.dom_store.proofs.Promises.{some_passes}
use Rattle.dom_store.proofs.Remembering.{get_pushed, key_same, passed_at}
use Rattle.dom_store.proofs.Sweeping.{some_true}

-- ---- what a step is over

le_through : (a b c : ℤ) → int_le a b ≡ true → int_le b c ≡ true → int_le a c ≡ true
le_through a b c h k = grind (arith, ints)

le_same : (a : ℤ) → int_le a a ≡ true
le_same a = grind (arith, ints)

pos_le : (a b : ℕ) → a ≤ b → int_le (pos a) (pos b) ≡ true
pos_le a b h = grind (arith, ints)

le_pos : (a b : ℕ) → int_le (pos a) (pos b) ≡ true → a ≤ b
le_pos a b h = grind (arith, ints)

-- what stands over a glance stands over what the glance is over
pub over_under : (steps : BTreeMap ℕ Step) (g : Glance) (word merit : ℤ) → IsUnder steps (pos g.word) g.merit → IsOver g word merit → IsUnder steps word merit
over_under steps g word merit u o = (u.0, u.1, u.2, le_through (pos u.0) (pos g.word) word u.3 o.0, le_through merit g.merit u.1.merit o.1 u.4)

module _ (steps new : BTreeMap ℕ Step) (g : Glance) (place : ℕ) (has : HasStep steps new g place) where
  -- a node's own step is over it
  pub put_under : IsUnder new (pos g.word) g.merit
  put_under = (g.word, record { merit = g.merit; place = place }, has.0, le_same (pos g.word), le_same g.merit)

  -- what a step was over a step is over still
  pub has_under : (word merit : ℤ) → IsUnder steps word merit → IsUnder new word merit
  has_under word merit u = (u.0, u.1, has.1 u.0 u.1 u.2, u.3, u.4)

pub under_is : (steps : BTreeMap ℕ Step) (g : Glance) (word merit : ℤ) → pos g.word ≡ word → g.merit ≡ merit → IsUnder steps (pos g.word) g.merit → IsUnder steps word merit
under_is steps g word merit e f u = (u.0, u.1, u.2, subst (λ (x : ℤ). int_le (pos u.0) x ≡ true) e u.3, subst (λ (x : ℤ). int_le x u.1.merit ≡ true) f u.4)

-- steps are taken out that the new one is over
pub removed_under : (first steps new : BTreeMap ℕ Step) (g : Glance) (word : ℕ) (step : Step) → ((w m : ℤ) → IsUnder first w m → IsUnder steps w m ⊎ IsOver g w m)
    → get nat_cmp steps word ≡ Some step → IsOver g (pos word) step.merit → ((w : ℕ) (s : Step) → get nat_cmp steps w ≡ Some s → (word ≡ w → ⊥) → get nat_cmp new w ≡ Some s)
    → (w m : ℤ) → IsUnder first w m → IsUnder new w m ⊎ IsOver g w m
removed_under first steps new g word step h there over others w m u = by (h w m u)
  where
    at : (v : IsUnder steps w m) → (b : Bool) → nat_eq word v.0 ≡ b → IsUnder new w m ⊎ IsOver g w m
    at v true e =
        let same : word ≡ v.0 = grind arith in
        let is : Some step ≡ Some v.1 = sym there ∙ ap (get nat_cmp steps) same ∙ v.2 in
        let is_step : step ≡ v.1 = cc in
        inr (
          le_through (pos g.word) (pos word) w over.0 (subst (λ q. int_le (pos q) w ≡ true) (sym same) v.3),
          le_through m step.merit g.merit (subst (λ (s : Step). int_le m s.merit ≡ true) (sym is_step) v.4) over.1,
        )
    at v false e = inl (v.0, v.1, others v.0 v.1 v.2 (λ same. grind arith), v.3, v.4)

    by : IsUnder steps w m ⊎ IsOver g w m → IsUnder new w m ⊎ IsOver g w m
    by (inl v) = at v (nat_eq word v.0) refl
    by (inr o) = inr o

-- after it is put in, all is under a step that was
pub put_after : (first steps new : BTreeMap ℕ Step) (g : Glance) (place : ℕ) → ((w m : ℤ) → IsUnder first w m → IsUnder steps w m ⊎ IsOver g w m) → HasStep steps new g place → (w m : ℤ) → IsUnder first w m → IsUnder new w m
put_after first steps new g place h has w m u = by (h w m u)
  where
    by : IsUnder steps w m ⊎ IsOver g w m → IsUnder new w m
    by (inl v) = has_under steps new g place has w m v
    by (inr o) = over_under new g w m (put_under steps new g place has) o

-- the last step whose word is no greater
pub last_under : (steps : BTreeMap ℕ Step) (g : Glance) (r t : List (ℕ × Step)) (e : ℕ × Step) → IsRangeOf nat_cmp Unbounded (Included g.word) steps r → r ≡ t ++ e ∷ [] → int_le g.merit e.1.merit ≡ true → IsUnder steps (pos g.word) g.merit
last_under steps g r t e h is high = let at = h.3 e t is in (e.0, e.1, at.1, word e.0 at.0.1, high)
  where
    word : (q : ℕ) → is_gt (nat_cmp q g.word) ≡ false → int_le (pos q) (pos g.word) ≡ true
    word q low = grind (arith, ints)

-- the first step whose word is no less
pub first_over : (steps : BTreeMap ℕ Step) (g : Glance) (r t : List (ℕ × Step)) (e : ℕ × Step) → IsRangeOf nat_cmp (Included g.word) Unbounded steps r → r ≡ e ∷ t → int_le e.1.merit g.merit ≡ true → IsOver g (pos e.0) e.1.merit
first_over steps g r t e h is low = (word e.0 (subst (λ (xs : List (ℕ × Step)). IfSome (slice_get xs 0) (IsEntryInRange nat_cmp (Included g.word) Unbounded steps)) is h.1).0.0, low)
  where
    word : (q : ℕ) → is_gt (nat_cmp g.word q) ≡ false → int_le (pos g.word) (pos q) ≡ true
    word q low = grind (arith, ints)

pub not_less : (a b : ℤ) → int_lt a b ≡ false → int_le b a ≡ true
not_less a b h = grind (arith, ints)

-- ---- what the steps of a row tell

module _ (prune minimize : Bool) (operator : JoinOp) (one : KeepsKey prune minimize operator) (layout : Layout) (row : Option ℕ) (steps : BTreeMap ℕ Step) (past : List PastNode) (h : AreUnder prune minimize operator layout row steps past)
    (node : Node) (g : Glance) (of_node : IsGlanceOf minimize operator layout node g) (key : ℕ) (is : key ≡ key_of prune layout node) (on : row ≡ Some key) where
  fails : NoneCovers steps g → (n : PastNode) → Has past n → covers_past prune minimize operator layout n node ≡ true → ⊥
  fails none n there c =
      let same : past_key prune layout n ≡ key = one layout (bare n.state n.cost) node c ∙ sym is in
      let u = h there.0 n there.1 (on ∙ ap Some (sym same)) in
      let shown = covers_shows prune minimize operator layout (bare n.state n.cost) node c in
      let low : int_le (pos u.0) (pos g.word) ≡ true = le_through (pos u.0) (order_word minimize operator n.cost) (pos g.word) u.3 (subst (λ (x : ℤ). int_le (order_word minimize operator n.cost) x ≡ true) (sym of_node.0) shown.0) in
      let less : int_lt u.1.merit g.merit ≡ true = none u.0 u.1 u.2 (le_pos u.0 g.word low) in
      let more : int_le g.merit u.1.merit ≡ true = le_through g.merit (merit_of layout n.state) u.1.merit (subst (λ (x : ℤ). int_le x (merit_of layout n.state) ≡ true) (sym of_node.1) shown.1) u.4 in
      absurd (grind (arith, ints))

  -- no step may cover the node, so that none that is kept does
  pub none_past : NoneCovers steps g → false ≡ is_past (covers_past prune minimize operator layout) past node
  none_past none = sym (by (list_any (λ n. covers_past prune minimize operator layout n node) past) refl)
    where
      by : (b : Bool) → list_any (λ n. covers_past prune minimize operator layout n node) past ≡ b → b ≡ false
      by true e = let r = some_passes (λ n. covers_past prune minimize operator layout n node) past e in absurd (fails none r.0 r.1 r.2)
      by false e = refl

-- the one at a place covers the node
pub some_past : (test : PastNode → Bool) (past : List PastNode) (p : ℕ) (answer : Bool) → answer ≡ passes_at test past p → answer ≡ true → true ≡ list_any test past
some_past test past p answer told passes = let r = passed_at test (slice_get past p) (sym told ∙ passes) in sym (some_true test past r.0 (p, r.1) r.2)

-- ---- one more is kept

module _ (prune minimize : Bool) (operator : JoinOp) (layout : Layout) where
  glance_under : (steps : BTreeMap ℕ Step) (node : Node) (g : Glance) → IsGlanceOf minimize operator layout node g → IsUnder steps (pos g.word) g.merit → IsUnder steps (order_word minimize operator node.cost) (merit_of layout node.state)
  glance_under steps node g of_node u = under_is steps g (order_word minimize operator node.cost) (merit_of layout node.state) of_node.0 of_node.1 u

  under_pushed : (row row' : Option ℕ) (steps steps' : BTreeMap ℕ Step) (past new : List PastNode) (node : Node) (g : Glance) (key : ℕ) → AreUnder prune minimize operator layout row steps past
      → new ≡ past ++ past_node node ∷ [] → key ≡ key_of prune layout node → IsGlanceOf minimize operator layout node g
      → ((k : ℕ) → row' ≡ Some k → row ≡ Some k) → (row' ≡ Some key → IsUnder steps' (pos g.word) g.merit) → ((k : ℕ) → row' ≡ Some k → (w m : ℤ) → IsUnder steps w m → IsUnder steps' w m)
      → AreUnder prune minimize operator layout row' steps' new
  under_pushed row row' steps steps' past new node g key h is key_is of_node same under others p n there on = by (get_pushed past (past_node node) p n (subst (λ (ns : List PastNode). slice_get ns p ≡ Some n) is there))
    where
      by : ((p ≡ length past) × (past_node node ≡ n)) ⊎ (slice_get past p ≡ Some n) → IsUnder steps' (order_word minimize operator n.cost) (merit_of layout n.state)
      by (inl e) =
          let on_key : row' ≡ Some key = on ∙ ap Some (sym (ap (past_key prune layout) e.1) ∙ key_same prune layout node ∙ sym key_is) in
          subst (λ (x : PastNode). IsUnder steps' (order_word minimize operator x.cost) (merit_of layout x.state)) e.1 (glance_under steps' node g of_node (under on_key))
      by (inr old) = others (past_key prune layout n) on (order_word minimize operator n.cost) (merit_of layout n.state) (h p n old (same (past_key prune layout n) on))

  -- the steps of another row are as right as they were
  under_other : (row : Option ℕ) (steps : BTreeMap ℕ Step) (past new : List PastNode) (node : Node) → AreUnder prune minimize operator layout row steps past → new ≡ past ++ past_node node ∷ [] → (row ≡ Some (key_of prune layout node) → ⊥) → AreUnder prune minimize operator layout row steps new
  under_other row steps past new node h is apart p n there on = by (get_pushed past (past_node node) p n (subst (λ (ns : List PastNode). slice_get ns p ≡ Some n) is there))
    where
      by : ((p ≡ length past) × (past_node node ≡ n)) ⊎ (slice_get past p ≡ Some n) → IsUnder steps (order_word minimize operator n.cost) (merit_of layout n.state)
      by (inl e) = absurd (apart (on ∙ ap Some (sym (ap (past_key prune layout) e.1) ∙ key_same prune layout node)))
      by (inr old) = h p n old on

  -- one staircase is over one more of its row, and the others are of other rows
  pub past_set : (index : ℕ → List ℕ) (count : ℕ) (stairs : List Stairs) (past new : List PastNode) → ArePastStaircases prune minimize operator layout index count stairs past
      → (at : ℕ) (was now : Stairs) (node : Node) (g : Glance) (key : ℕ) → slice_get stairs at ≡ Some was → ((i : ℕ) (s : Stairs) → slice_get stairs i ≡ Some s → s.row ≡ Some key → i ≡ at)
      → new ≡ past ++ past_node node ∷ [] → key ≡ key_of prune layout node → IsGlanceOf minimize operator layout node g
      → ((k : ℕ) → now.row ≡ Some k → was.row ≡ Some k) → (now.row ≡ Some key → IsUnder now.steps (pos g.word) g.merit) → ((k : ℕ) → now.row ≡ Some k → (w m : ℤ) → IsUnder was.steps w m → IsUnder now.steps w m)
      → ArePastStaircases prune minimize operator layout index count (set stairs at now) new
  past_set index count stairs past new h at was now node g key there others is key_is of_node same under keeps = record {
    indexed = (stairs_set prune minimize operator layout index count stairs [] (record { indexed = h.indexed; steps = λ i s at_i p n g' stands. absurd (cc) }) at was now [] key node there others same (λ p n g' stands. absurd (cc)) key_is (λ p n stands. absurd (cc))).indexed;
    under = λ i s at_i. by i s (set_get stairs at i now s at_i);
  }
    where
      by : (i : ℕ) (s : Stairs) → ((i ≡ at) × (now ≡ s)) ⊎ ((i ≡ at → ⊥) × (slice_get stairs i ≡ Some s)) → AreUnder prune minimize operator layout s.row s.steps new
      by i s (inl e) = subst (λ (t : Stairs). AreUnder prune minimize operator layout t.row t.steps new) e.1 (under_pushed was.row now.row was.steps now.steps past new node g key (h.under at was there) is key_is of_node same under keeps)
      by i s (inr r) = under_other s.row s.steps past new node (h.under i s r.1) is (λ on. r.0 (others i s r.1 (on ∙ ap Some (sym key_is))))

  -- ---- the steps of a row are made

  -- what is kept at the places of a row is at one of those that are left, or is under a step
  abbrev pub AreLeftUnder : List ℕ → BTreeMap ℕ Step → List PastNode → List ℕ → Type 0
  AreLeftUnder row steps past list =
      (p : ℕ) (n : PastNode) → slice_get past p ≡ Some n → Has row p → Has list p ⊎ IsUnder steps (order_word minimize operator n.cost) (merit_of layout n.state)

  pub left_under : (key : ℕ) (places : List ℕ) (row row' : Option ℕ) (steps new : BTreeMap ℕ Step) (past : List PastNode) (links : List Link) (o next : Option ℕ) (place : ℕ) → (row ≡ Some key → AreLeftUnder places steps past (chain_from links o))
      → o ≡ Some place → chain_from links (Some place) ≡ place ∷ chain_from links next → ((p : ℕ) → Has places p → has_key links key p ≡ true) → ((k : ℕ) → row' ≡ Some k → row ≡ Some k)
      → (row' ≡ Some key → has_key links key place ≡ true → (n : PastNode) → slice_get past place ≡ Some n → IsUnder new (order_word minimize operator n.cost) (merit_of layout n.state))
      → ((k : ℕ) → row' ≡ Some k → (w m : ℤ) → IsUnder steps w m → IsUnder new w m) → row' ≡ Some key → AreLeftUnder places new past (chain_from links next)
  left_under key places row row' steps new past links o next place h here is filed same under others on p n there at_row = by (h (same key on) p n there at_row)
    where
      at : (place ≡ p) ⊎ Has (chain_from links next) p → Has (chain_from links next) p ⊎ IsUnder new (order_word minimize operator n.cost) (merit_of layout n.state)
      at (inl e) = inr (under on (subst (λ q. has_key links key q ≡ true) (sym e) (filed p at_row)) n (ap (slice_get past) e ∙ there))
      at (inr r) = inl r

      by : Has (chain_from links o) p ⊎ IsUnder steps (order_word minimize operator n.cost) (merit_of layout n.state) → Has (chain_from links next) p ⊎ IsUnder new (order_word minimize operator n.cost) (merit_of layout n.state)
      by (inl left) = at (has_cases place (chain_from links next) p (subst (λ (ps : List ℕ). Has ps p) (ap (chain_from links) here ∙ is) left))
      by (inr u) = inr (others key on (order_word minimize operator n.cost) (merit_of layout n.state) u)

  -- then all of the row is under a step: what stands for it is
  pub all_under : KeepsKey prune minimize operator → (places : ℕ → List ℕ) (count : ℕ) (key : ℕ) (row : Option ℕ) (steps : BTreeMap ℕ Step) (past : List PastNode) (links : List Link) (o : Option ℕ) → IsPastKept prune minimize operator layout places count past → ((k : ℕ) → row ≡ Some k → k ≡ key)
      → (row ≡ Some key → AreLeftUnder (places key) steps past (chain_from links o)) → o ≡ None → AreUnder prune minimize operator layout row steps past
  all_under one places count key row steps past links o kept same h ends p n there on = by (kept.rows p n there)
    where
      is : past_key prune layout n ≡ key
      is = same (past_key prune layout n) on

      ended : (q : ℕ) (word merit : ℤ) → Has (chain_from links o) q ⊎ IsUnder steps word merit → IsUnder steps word merit
      ended q word merit (inl left) = absurd (has_none q (subst (λ (ps : List ℕ). Has ps q) (ap (chain_from links) ends) left))
      ended q word merit (inr u) = u

      by : IsStoodFor prune minimize operator layout places past n → IsUnder steps (order_word minimize operator n.cost) (merit_of layout n.state)
      by s =
          let same_key : past_key prune layout s.1 ≡ key = one layout (bare s.1.state s.1.cost) (bare n.state n.cost) s.3 ∙ is in
          let u = ended s.0 (order_word minimize operator s.1.cost) (merit_of layout s.1.state) (h (on ∙ ap Some is) s.0 s.1 s.2 (subst (λ k. Has (places k) s.0) same_key s.4)) in
          let shown = covers_shows prune minimize operator layout (bare s.1.state s.1.cost) (bare n.state n.cost) s.3 in
          (u.0, u.1, u.2, le_through (pos u.0) (order_word minimize operator s.1.cost) (order_word minimize operator n.cost) u.3 shown.0, le_through (merit_of layout n.state) (merit_of layout s.1.state) u.1.merit shown.1 u.4)

-- ---- a node covers what is kept of another

kept_low : (a b : ℕ) (x y : ℤ) → pos a ≡ x → pos b ≡ y → a ≤ b → int_le x y ≡ true
kept_low a b x y e f h = subst (λ (z : ℤ). int_le x z ≡ true) f (subst (λ (z : ℤ). int_le z (pos b) ≡ true) e (pos_le a b h))

-- where the words do not show that it does not, the states decide
pub covers_kept : (prune minimize : Bool) (operator : JoinOp) (layout : Layout) (node : Node) (n : PastNode) (word held : ℕ) (states : Bool) → pos word ≡ order_word minimize operator node.cost → pos held ≡ order_word minimize operator n.cost → word ≤ held
    → states ≡ replaces prune layout node.state n.state → states ≡ true → covers prune minimize operator layout node (bare n.state n.cost) ≡ true
covers_kept prune minimize operator layout node n word held states e f low test holds =
    sym (covers_then prune minimize operator layout node (bare n.state n.cost) states (int_le (order_word minimize operator node.cost) (order_word minimize operator n.cost)) test holds refl)
    ∙ kept_low word held (order_word minimize operator node.cost) (order_word minimize operator n.cost) e f low
