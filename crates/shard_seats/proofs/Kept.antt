-- A shard visits no more nodes than its rows keep, and fewer while one waits.
use Rattle.std.proofs.Common.{◌≡◌, ℕ, ◌+◌, ◌-◌, ◌≤◌, ◌<◌, inl, inr, zero, suc, List, [], ◌∷◌, ◌++◌, slice_get, length, map, Some, refl, sym, ap, subst, ◌∙◌, arith, length-append}
use Rattle.std.proofs.lemmas.List.{length-map}
use Rattle.dp_claims.specs.Enough.{Has, Different}
use Rattle.pass_ledger.specs.Counts.{pair, row_pairs}
use Rattle.pass_ledger.specs.Passes.{Pass}
use Rattle.pass_ledger.specs.Records.{visit_of, Own}
use Rattle.pass_ledger.specs.Rows.{row}
use Rattle.pass_ledger.specs.declared.records.LedgerRow.{LedgerRow}
use Rattle.pass_ledger.specs.declared.records.ShardRecord.{ShardRecord}
use Rattle.pass_ledger.specs.declared.records.Visit.{Visit}
use Rattle.pass_ledger.proofs.Lists.{has_none, has_head, has_left, has_right, has_rest}
use Rattle.pass_ledger.proofs.Steps.{head_waits}
use Rattle.state_layout.specs.declared.node.Node.{Node}

-- ---- a list of different elements of another is no longer

split_at : {A : Type 0} (ys : List A) (x : A) → Has ys x → (before : List A) × (after : List A) × (ys ≡ before ++ x ∷ after)
split_at {A} ys x h = at_place ys h.0 h.1
  where
    same : (y : A) → Some y ≡ Some x → y ≡ x
    same y e = cc

    at_place : (ys : List A) (k : ℕ) → slice_get ys k ≡ Some x → (before : List A) × (after : List A) × (ys ≡ before ++ x ∷ after)
    at_place [] k e = absurd (has_none x (k, e))
    at_place (y ∷ ys) zero e = ([], ys, ap (λ (z : A). z ∷ ys) (same y e))
    at_place (y ∷ ys) (suc k) e = let s = at_place ys k e in (y ∷ s.0, s.1, ap (λ (zs : List A). y ∷ zs) s.2)

pub no_longer : {A : Type 0} (xs ys : List A) → Different xs → ((x : A) → Has xs x → Has ys x) → length xs ≤ length ys
no_longer [] ys d within = least (length ys)
  where
    least : (n : ℕ) → 0 ≤ n
    least n = omega arith
no_longer {A} (x ∷ xs) ys d within =
    let s = split_at ys x (within x (0, refl)) in
    let rest = no_longer xs (s.0 ++ s.1) d.1 (λ y h. elim (has_rest s.0 s.1 x y (subst (λ (zs : List A). Has zs y) s.2 (within y (suc h.0, h.1)))) [
      | inl a ↦ a
      | inr e ↦ absurd (d.0 (subst (λ (z : A). Has xs z) (sym e) h))
    ]) in
    one_more (length xs) (length (s.0 ++ s.1)) (length s.0) (length s.1) (length ys) rest (length-append s.0 s.1) (ap (λ (zs : List A). length zs) s.2 ∙ length-append s.0 (x ∷ s.1))
  where
    one_more : (a b c d e : ℕ) → a ≤ b → b ≡ c + d → e ≡ c + suc d → suc a ≤ e
    one_more a b c d e h k l = omega arith

-- ---- a visit of each kept node

-- the visits of the nodes that rows keep, from a layer on
all_visits : ℕ → List LedgerRow → List Visit
all_visits l [] = []
all_visits l (w ∷ rows) = map (visit_of l) w.kept ++ all_visits (l + 1) rows

all_long : (l : ℕ) (rows : List LedgerRow) → length (all_visits l rows) ≡ length (row_pairs l rows)
unfolding all_visits
all_long l [] = refl
all_long l (w ∷ rows) =
    let a = length-append (map (visit_of l) w.kept) (all_visits (l + 1) rows) in
    let b = length-append (map (pair l) w.kept) (row_pairs (l + 1) rows) in
    let c = length-map w.kept (visit_of l) in
    let d = length-map w.kept (pair l) in
    let e = all_long (l + 1) rows in
    omega (arith, a, b, c, d, e)

visit_in : (l : ℕ) (ns : List Node) (n : Node) → Has ns n → Has (map (visit_of l) ns) (visit_of l n)
visit_in l [] n h = absurd (has_none n h)
visit_in l (m ∷ ns) n h = elim (has_head m ns n h) [ inl e ↦ (0, ap (λ (k : Node). Some (visit_of l k)) e) | inr more ↦ (let r = visit_in l ns n more in (suc r.0, r.1)) ]

all_has : (l : ℕ) (rows : List LedgerRow) (k : ℕ) (n : Node) → Has (row rows k).kept n → Has (all_visits l rows) (visit_of (l + k) n)
unfolding all_visits
all_has l [] k n h = absurd (has_none n h)
all_has l (w ∷ rows) zero n h = has_left (map (visit_of l) w.kept) (all_visits (l + 1) rows) (visit_of (l + 0) n) (subst (λ (k : ℕ). Has (map (visit_of l) w.kept) (visit_of k n)) (none l) (visit_in l w.kept n h))
  where
    none : (l : ℕ) → l ≡ l + 0
    none l = omega arith
all_has l (w ∷ rows) (suc k) n h = has_right (map (visit_of l) w.kept) (all_visits (l + 1) rows) (visit_of (l + suc k) n) (subst (λ (m : ℕ). Has (all_visits (l + 1) rows) (visit_of m n)) (next l k) (all_has (l + 1) rows k n h))
  where
    next : (l k : ℕ) → l + 1 + k ≡ l + suc k
    next l k = omega arith

-- a kept node of a layer
kept_there : (rows : List LedgerRow) (v : Visit) → Has (row rows v.layer).kept v.node → Has (all_visits 0 rows) v
kept_there rows v h = subst (λ (l : ℕ). Has (all_visits 0 rows) (visit_of l v.node)) (same v.layer) (all_has 0 rows v.layer v.node h)
  where
    same : (l : ℕ) → 0 + l ≡ l
    same l = omega arith

-- ---- the visits of a record

pub few_visits : (p : Pass) (i : ℕ) (r : ShardRecord) → Own p i r → length r.visits ≤ length (row_pairs 0 r.rows)
few_visits p i r own = subst (λ (n : ℕ). length r.visits ≤ n) (all_long 0 r.rows) (no_longer r.visits (all_visits 0 r.rows) own.turns.once (λ v h. kept_there r.rows v (own.turns.visited v h)))

pub fewer_visits : (p : Pass) (i : ℕ) (r : ShardRecord) → Own p i r → 0 < length r.rows → (n : Node) (rest : List Node) → r.waiting ≡ n ∷ rest → length r.visits + 1 ≤ length (row_pairs 0 r.rows)
fewer_visits p i r own begun n rest first =
    subst (λ (m : ℕ). length r.visits + 1 ≤ m) (all_long 0 r.rows) (one (length r.visits) (length (all_visits 0 r.rows)) (at_layer (length r.rows - 1) (last (length r.rows) begun)))
  where
    last : (a : ℕ) → 0 < a → a - 1 + 1 ≡ a
    last a lt = omega arith

    waits : Has r.waiting n
    waits = head_waits r.waiting n rest first

    at_layer : (layer : ℕ) → layer + 1 ≡ length r.rows → length (visit_of layer n ∷ r.visits) ≤ length (all_visits 0 r.rows)
    at_layer layer is =
        no_longer (visit_of layer n ∷ r.visits) (all_visits 0 r.rows) (own.turns.unvisited layer n is waits, own.turns.once)
        (λ w h. elim (has_head (visit_of layer n) r.visits w h) [
          | inl e ↦ subst (λ (u : Visit). Has (all_visits 0 r.rows) u) e (kept_there r.rows (visit_of layer n) (own.turns.kept layer n is waits))
          | inr old ↦ kept_there r.rows w (own.turns.visited w old)
        ])

    one : (a b : ℕ) → suc a ≤ b → a + 1 ≤ b
    one a b h = omega arith
