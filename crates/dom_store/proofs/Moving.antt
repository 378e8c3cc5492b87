-- Nodes move to the first places, in their order, and the places behind them are taken away.
use Rattle.std.proofs.Common.{◌≡◌, ℕ, zero, suc, ◌+◌, ◌<◌, ◌≤◌, ◌⊎◌, inl, inr, Bool, true, false, List, [], ◌∷◌, ◌++◌, length, set, take, drop, Option, Some, None, refl, sym, ap, ◌∙◌, subst, add-one, arith}
use Rattle.std.specs.Prelude.{nat_eq}
use Rattle.std.specs.List.{slice_get}
use Rattle.std.specs.Option.{option_to_list}
use Rattle.std.proofs.Math.ListN.{length-set}
use Rattle.dp_claims.specs.Enough.{Has}
use Rattle.dp_model.specs.declared.parts.JoinOp.{JoinOp}
use Rattle.state_layout.specs.declared.layout.Layout.{Layout}
use Rattle.state_layout.specs.declared.node.Node.{Node}
use Rattle.dom_store.specs.Chains.{chain_from, bucket_of, head_in, has_key, key_in, row_in}
use Rattle.dom_store.specs.Contents.{AreApart}
use Rattle.dom_store.specs.Covering.{covers, key_of}
use Rattle.dom_store.specs.Packing.{ComeFrom}
use Rattle.dom_store.specs.Places.{nodes_of, StandsAt, IsGlancedAt, IsKept}
use Rattle.dom_store.specs.Order.{rank_of}
use Rattle.dom_store.specs.Waiting.{Entry, words_in, words_of, WordsStand, is_waiting, AreQueued}
use Rattle.dom_store.specs.Staircases.{AreIndexed, AreStaircases}
use Rattle.dom_store.specs.declared.chains.Link.{Link}
use Rattle.dom_store.specs.declared.glance.Glance.{Glance}
use Rattle.dom_store.specs.declared.stairs.Stairs.{Stairs}
use Rattle.dom_store.proofs.Chaining.{set_other, set_same}
use Rattle.dom_store.proofs.Climbing.{no_steps}
use Rattle.dom_store.proofs.Linking.{key_there}
use Rattle.dom_store.proofs.Members.{has_none, has_filtered}

-- ---- a node moves to a place behind which no node stands up to its own

-- the first node, which stands there, comes to the front
first_moved : (places : List (Option Node)) (from : ℕ) (x : Option Node) → from < length places → slice_get places from ≡ Some x → ((p : ℕ) (n : Node) → p < from → StandsAt places p n → ⊥)
    → nodes_of (x ∷ set places from None) ≡ nodes_of places
first_moved [] from x within at empty = absurd (omega (arith, within))
first_moved (y ∷ places) zero x within at empty = ap (λ (o : Option Node). nodes_of (o ∷ None ∷ places)) (some_is y x at) ∙ none_behind y
  where
    some_is : (a b : Option Node) → Some a ≡ Some b → b ≡ a
    some_is a b e = cc

    none_behind : (o : Option Node) → nodes_of (o ∷ None ∷ places) ≡ nodes_of (o ∷ places)
    none_behind None = refl
    none_behind (Some n) = refl
first_moved (None ∷ places) (suc from) x within at empty = none_between x ∙ first_moved places from x (omega (arith, within)) at (λ p n less stands. empty (suc p) n (omega (arith, less)) stands)
  where
    none_between : (o : Option Node) → nodes_of (o ∷ None ∷ set places from None) ≡ nodes_of (o ∷ set places from None)
    none_between None = refl
    none_between (Some n) = refl
first_moved (Some m ∷ places) (suc from) x within at empty = absurd (empty zero m (omega arith) refl)

pub moved_nodes : (places : List (Option Node)) (to from : ℕ) (x : Option Node) → to ≤ from → from < length places → slice_get places from ≡ Some x → ((p : ℕ) (n : Node) → to ≤ p → p < from → StandsAt places p n → ⊥)
    → nodes_of (set (set places from None) to x) ≡ nodes_of places
moved_nodes [] to from x low within at empty = absurd (omega (arith, within))
moved_nodes (y ∷ places) zero zero x low within at empty = ap (λ (o : Option Node). nodes_of (o ∷ places)) (some_is y x at)
  where
    some_is : (a b : Option Node) → Some a ≡ Some b → b ≡ a
    some_is a b e = cc
moved_nodes (y ∷ places) zero (suc from) x low within at empty = by y refl
  where
    by : (o : Option Node) → y ≡ o → nodes_of (x ∷ set places from None) ≡ nodes_of (y ∷ places)
    by None e = first_moved places from x (omega (arith, within)) at (λ p n less stands. empty (suc p) n (omega arith) (omega (arith, less)) stands) ∙ ap (λ (o : Option Node). nodes_of (o ∷ places)) (sym e)
    by (Some m) e = absurd (empty zero m (omega arith) (omega arith) (ap Some e))
moved_nodes (y ∷ places) (suc to) zero x low within at empty = absurd (omega (arith, low))
moved_nodes (y ∷ places) (suc to) (suc from) x low within at empty =
    ap (λ (ns : List Node). option_to_list y ++ ns) (moved_nodes places to from x (omega (arith, low)) (omega (arith, within)) at (λ p n more less stands. empty (suc p) n (omega (arith, more)) (omega (arith, less)) stands))

-- what stands then stands at the new place and stood at the old one, or it is none of the two places and stood there
pub moved_stands : (places new : List (Option Node)) (to from : ℕ) (x : Option Node) → new ≡ set (set places from None) to x → to < length places → from < length places → slice_get places from ≡ Some x → (p : ℕ) (n : Node) → StandsAt new p n
    → ((p ≡ to) × StandsAt places from n) ⊎ ((p ≡ to → ⊥) × (p ≡ from → ⊥) × StandsAt places p n)
moved_stands places new to from x is there within at p n stands = by (nat_eq p to) refl
  where
    here : StandsAt (set (set places from None) to x) p n
    here = subst (λ (ps : List (Option Node)). StandsAt ps p n) is stands

    by : (b : Bool) → nat_eq p to ≡ b → ((p ≡ to) × StandsAt places from n) ⊎ ((p ≡ to → ⊥) × (p ≡ from → ⊥) × StandsAt places p n)
    by true e =
        let same : p ≡ to = grind arith in
        let long : to < length (set places from None) = omega (arith, there, length-set places from None) in
        let put : Some x ≡ Some (Some n) = sym (set_same (set places from None) to x long) ∙ ap (slice_get (set (set places from None) to x)) (sym same) ∙ here in
        inl (same, at ∙ put)
    by false e =
        let off : p ≡ to → ⊥ = λ same. grind arith in
        let left : StandsAt (set places from None) p n = sym (set_other (set places from None) to x p off) ∙ here in
        inr (next (nat_eq p from) refl off left)
      where
        next : (b : Bool) → nat_eq p from ≡ b → (p ≡ to → ⊥) → StandsAt (set places from None) p n → (p ≡ to → ⊥) × (p ≡ from → ⊥) × StandsAt places p n
        next true f off left =
            let same : p ≡ from = grind arith in
            let none : Some None ≡ Some (Some n) = sym (set_same places from None within) ∙ ap (slice_get (set places from None)) (sym same) ∙ left in
            absurd (cc)
        next false f off left = let apart : p ≡ from → ⊥ = λ same. grind arith in (off, apart, sym (set_other places from None p apart) ∙ left)

-- so none stands behind the new place up to the old one
pub moved_empty : (places new : List (Option Node)) (to from : ℕ) (x : Option Node) → new ≡ set (set places from None) to x → to < length places → from < length places → slice_get places from ≡ Some x → ((p : ℕ) (n : Node) → to ≤ p → p < from → StandsAt places p n → ⊥)
    → (p : ℕ) (n : Node) → to < p → p ≤ from → StandsAt new p n → ⊥
moved_empty places new to from x is there within at empty p n low high stands = by (moved_stands places new to from x is there within at p n stands)
  where
    by : ((p ≡ to) × StandsAt places from n) ⊎ ((p ≡ to → ⊥) × (p ≡ from → ⊥) × StandsAt places p n) → ⊥
    by (inl e) = absurd (omega (arith, e.0, low))
    by (inr r) = empty p n (omega (arith, low)) (below p from high r.1) r.2
      where
        below : (a b : ℕ) → a ≤ b → (a ≡ b → ⊥) → a < b
        below a b h off = by_test (nat_eq a b) refl
          where
            by_test : (t : Bool) → nat_eq a b ≡ t → a < b
            by_test true e = absurd (off (grind arith))
            by_test false e = grind arith

-- so each has come from a place
pub moved_from : (places new : List (Option Node)) (glances new_glances : List Glance) (links new_links : List Link) (to from : ℕ) (x : Option Node) (g : Glance) → new ≡ set (set places from None) to x → to < length places → from < length places → slice_get places from ≡ Some x
    → length glances ≡ length places → slice_get glances from ≡ Some g → new_glances ≡ set glances to g
    → key_in new_links to ≡ key_in links from → ((p : ℕ) → (p ≡ to → ⊥) → key_in new_links p ≡ key_in links p) → ComeFrom places glances links new new_glances new_links
moved_from places new glances new_glances links new_links to from x g is there within at level glance put key others p n stands = by (moved_stands places new to from x is there within at p n stands)
  where
    by : ((p ≡ to) × StandsAt places from n) ⊎ ((p ≡ to → ⊥) × (p ≡ from → ⊥) × StandsAt places p n) → (q : ℕ) × StandsAt places q n × (slice_get new_glances p ≡ slice_get glances q) × (key_in new_links p ≡ key_in links q)
    by (inl e) =
        let long : to < length glances = omega (arith, there, level) in (
          from,
          e.1,
          ap (λ (gs : List Glance). slice_get gs p) put ∙ ap (slice_get (set glances to g)) e.0 ∙ set_same glances to g long ∙ sym glance,
          ap (key_in new_links) e.0 ∙ key,
        )
    by (inr r) = (p, r.2, ap (λ (gs : List Glance). slice_get gs p) put ∙ set_other glances to g p r.0, others p r.0)

-- a place more at which no node stands
pub still_empty : (places seen : List (Option Node)) (to from : ℕ) → seen ≡ places → ((p : ℕ) (n : Node) → to ≤ p → p < from → StandsAt places p n → ⊥) → ((n : Node) → StandsAt seen from n → ⊥) → (p : ℕ) (n : Node) → to ≤ p → p < from + 1 → StandsAt places p n → ⊥
still_empty places seen to from is empty none p n low high stands = by (nat_eq p from) refl
  where
    by : (b : Bool) → nat_eq p from ≡ b → ⊥
    by true e =
        let same : p ≡ from = grind arith in
        none n (subst (λ (ps : List (Option Node)). StandsAt ps from n) (sym is) (subst (λ q. StandsAt places q n) same stands))
    by false e = empty p n low (grind arith) stands

pub come_self : (places : List (Option Node)) (glances : List Glance) (links : List Link) → ComeFrom places glances links places glances links
come_self places glances links p n stands = (p, stands, refl, refl)

pub come_on : (places mid new : List (Option Node)) (glances mid_glances new_glances : List Glance) (links mid_links new_links : List Link) → ComeFrom places glances links mid mid_glances mid_links → ComeFrom mid mid_glances mid_links new new_glances new_links
    → ComeFrom places glances links new new_glances new_links
come_on places mid new glances mid_glances new_glances links mid_links new_links first then p n stands =
    let b = then p n stands in
    let a = first b.0 n b.1 in
    (a.0, a.1, b.2 ∙ a.2, b.3 ∙ a.3)

-- ---- the places behind the nodes are taken away

pub cut_nodes : (places : List (Option Node)) (count : ℕ) → ((p : ℕ) (n : Node) → count ≤ p → StandsAt places p n → ⊥) → nodes_of (take count places) ≡ nodes_of places
cut_nodes [] zero empty = refl
cut_nodes [] (suc count) empty = refl
cut_nodes (None ∷ places) zero empty = cut_nodes places zero (λ p n low stands. empty (suc p) n (omega arith) stands)
cut_nodes (Some m ∷ places) zero empty = absurd (empty zero m (omega arith) refl)
cut_nodes (x ∷ places) (suc count) empty = ap (λ (ns : List Node). option_to_list x ++ ns) (cut_nodes places count (λ p n low stands. empty (suc p) n (omega (arith, low)) stands))

pub cut_get : {A : Type 0} (xs : List A) (count p : ℕ) → p < count → slice_get (take count xs) p ≡ slice_get xs p
cut_get [] zero p h = refl
cut_get [] (suc count) p h = refl
cut_get (x ∷ xs) zero p h = absurd (omega (arith, h))
cut_get (x ∷ xs) (suc count) zero h = refl
cut_get (x ∷ xs) (suc count) (suc p) h = cut_get xs count p (omega (arith, h))

pub cut_length : {A : Type 0} (xs : List A) (count : ℕ) → count ≤ length xs → length (take count xs) ≡ count
cut_length [] zero h = refl
cut_length [] (suc count) h = absurd (omega (arith, h))
cut_length (x ∷ xs) zero h = refl
cut_length (x ∷ xs) (suc count) h = ap suc (cut_length xs count (omega (arith, h)))

-- what stands among the first places stands there
pub cut_stands : (places : List (Option Node)) (count p : ℕ) (n : Node) → StandsAt (take count places) p n → (p < count) × StandsAt places p n
cut_stands [] zero p n h = absurd (has_none (Some n) (p, h))
cut_stands [] (suc count) p n h = absurd (has_none (Some n) (p, h))
cut_stands (x ∷ places) zero p n h = absurd (has_none (Some n) (p, h))
cut_stands (x ∷ places) (suc count) zero n h = (omega arith, h)
cut_stands (x ∷ places) (suc count) (suc p) n h = let r = cut_stands places count p n h in (omega (arith, r.0), r.1)

-- no place is in a row where there are no buckets
no_buckets : (links : List Link) (key p : ℕ) (heads : List ℕ) → length heads ≡ 0 → Has (row_in heads links key) p → ⊥
no_buckets links key p [] e there = has_none p (has_filtered (has_key links key) (chain_from links (head_in (length links) [] (bucket_of 0 key))) p there).0
no_buckets links key p (x ∷ heads) e there = absurd (omega (arith, e))

positive : (n : ℕ) → (n ≡ 0 → ⊥) → 0 < n
positive zero h = absurd (h refl)
positive (suc n) h = omega arith

-- the nodes are filed at their new places, and what a store keeps is kept
pub packed_kept : (prune minimize : Bool) (operator : JoinOp) (layout : Layout) (heads mid_heads new_heads : List ℕ) (links mid_links new_links : List Link) (places mid new : List (Option Node)) (glances mid_glances new_glances : List Glance) (count first : ℕ)
    → ComeFrom places glances links mid mid_glances mid_links → nodes_of mid ≡ nodes_of places → new ≡ take first mid → new_glances ≡ take first mid_glances → ((p : ℕ) (n : Node) → first ≤ p → StandsAt mid p n → ⊥)
    → length new ≡ first → length new_glances ≡ first → length new_links ≡ first → length mid_heads ≡ length heads
    → (0 < length mid_heads → (k p : ℕ) → p < first → key_in mid_links p ≡ Some k → Has (row_in new_heads new_links k) p)
    → IsKept prune minimize operator layout (row_in heads links) (length links) places glances count → IsKept prune minimize operator layout (row_in new_heads new_links) (length new_links) new new_glances count
packed_kept prune minimize operator layout heads mid_heads new_heads links mid_links new_links places mid new glances mid_glances new_glances count first from same cut cut_glances behind long level linked buckets rows h = record {
  filed = record { nodes = λ p n stands. (let c = came p n stands in h.filed.nodes c.0 n c.1); filed = λ p n stands. row p n stands (came p n stands) };
  glanced = λ p n stands. glance p n stands (came p n stands);
  level = level ∙ sym long;
  linked = linked ∙ sym long;
  apart = subst (λ (ns : List Node). AreApart (covers prune minimize operator layout) ns) (sym all) h.apart;
  counted = h.counted ∙ ap length (sym all);
}
  where
    all : nodes_of new ≡ nodes_of places
    all = ap nodes_of cut ∙ cut_nodes mid first behind ∙ same

    there : (p : ℕ) (n : Node) → StandsAt new p n → (p < first) × StandsAt mid p n
    there p n stands = cut_stands mid first p n (subst (λ (ps : List (Option Node)). StandsAt ps p n) cut stands)

    came : (p : ℕ) (n : Node) → StandsAt new p n → (q : ℕ) × StandsAt places q n × (slice_get mid_glances p ≡ slice_get glances q) × (key_in mid_links p ≡ key_in links q)
    came p n stands = from p n (there p n stands).1

    row : (p : ℕ) (n : Node) → StandsAt new p n → (q : ℕ) × StandsAt places q n × (slice_get mid_glances p ≡ slice_get glances q) × (key_in mid_links p ≡ key_in links q) → Has (row_in new_heads new_links (key_of prune layout n)) p
    row p n stands c =
        let was : Has (row_in heads links (key_of prune layout n)) c.0 = h.filed.filed c.0 n c.1 in
        let key : key_in links c.0 ≡ Some (key_of prune layout n) = key_there links (key_of prune layout n) c.0 (has_filtered (has_key links (key_of prune layout n)) (chain_from links (head_in (length links) heads (bucket_of (length heads) (key_of prune layout n)))) c.0 was).1 in
        rows (positive (length mid_heads) (λ e. no_buckets links (key_of prune layout n) c.0 heads (sym buckets ∙ e) was)) (key_of prune layout n) p (there p n stands).0 (c.3 ∙ key)

    glance : (p : ℕ) (n : Node) → StandsAt new p n → (q : ℕ) × StandsAt places q n × (slice_get mid_glances p ≡ slice_get glances q) × (key_in mid_links p ≡ key_in links q) → IsGlancedAt minimize operator layout new_glances p n
    glance p n stands c =
        let g = h.glanced c.0 n c.1 in
        (g.0, ap (λ (gs : List Glance). slice_get gs p) cut_glances ∙ cut_get mid_glances first p (there p n stands).0 ∙ c.2 ∙ g.1, g.2)

-- no row has steps
pub none_stepped : (prune minimize : Bool) (operator : JoinOp) (layout : Layout) (row : ℕ → List ℕ) (count : ℕ) (stairs : List Stairs) (places : List (Option Node)) → AreIndexed row count stairs → ((i : ℕ) (s : Stairs) → slice_get stairs i ≡ Some s → s.row ≡ None) → AreStaircases prune minimize operator layout row count stairs places
none_stepped prune minimize operator layout row count stairs places indexed off = record { indexed = indexed; steps = λ i s at. no_steps prune minimize operator layout s.row s.steps places (off i s at) }

-- ---- the places are put into a queue, one after another

drop_first : (places : List (Option Node)) (p : ℕ) (x : Option Node) → slice_get places p ≡ Some x → nodes_of (drop p places) ≡ option_to_list x ++ nodes_of (drop (suc p) places)
drop_first [] p x at = absurd (has_none x (p, at))
drop_first (y ∷ places) zero x at = ap (λ (o : Option Node). nodes_of (o ∷ places)) (some_is y x at)
  where
    some_is : (a b : Option Node) → Some a ≡ Some b → a ≡ b
    some_is a b e = cc
drop_first (y ∷ places) (suc p) x at = drop_first places p x at

pub drop_here : (places : List (Option Node)) (p : ℕ) (x : Option Node) → slice_get places p ≡ Some x → nodes_of (drop p places) ≡ option_to_list x ++ nodes_of (drop (p + 1) places)
drop_here places p x at = subst (λ k. nodes_of (drop p places) ≡ option_to_list x ++ nodes_of (drop k places)) (sym (add-one p)) (drop_first places p x at)

pub drop_some : (places : List (Option Node)) (p : ℕ) (n : Node) → slice_get places p ≡ Some (Some n) → length (nodes_of (drop p places)) ≡ length (nodes_of (drop (p + 1) places)) + 1
drop_some places p n at = ap length (drop_here places p (Some n) at) ∙ one_more (nodes_of (drop (p + 1) places))
  where
    one_more : (ns : List Node) → length (n ∷ ns) ≡ length ns + 1
    one_more ns = omega arith

pub drop_none : (places : List (Option Node)) (p : ℕ) → slice_get places p ≡ Some None → length (nodes_of (drop p places)) ≡ length (nodes_of (drop (p + 1) places))
drop_none places p at = ap length (drop_here places p None at)

-- the words at the first places are those at fewer of them, or at the last one
words_first : (minimize : Bool) (operator : JoinOp) (places : List (Option Node)) (p : ℕ) (x : Option Node) → slice_get places p ≡ Some x → (q : ℕ) (w : ℕ × ℕ) → WordsStand (words_of minimize operator (take (suc p) places)) q w
    → WordsStand (words_of minimize operator (take p places)) q w ⊎ ((q ≡ p) × (words_in minimize operator x ≡ Some w))
words_first minimize operator [] p x at q w stands = absurd (has_none x (p, at))
words_first minimize operator (y ∷ places) zero x at zero w stands = inr (refl, ap (words_in minimize operator) (some_is x y (sym at)) ∙ inner (words_in minimize operator y) (Some w) stands)
  where
    some_is : (a b : Option Node) → Some a ≡ Some b → a ≡ b
    some_is a b e = cc

    inner : (a b : Option (ℕ × ℕ)) → Some a ≡ Some b → a ≡ b
    inner a b e = cc
words_first minimize operator (y ∷ places) zero x at (suc q) w stands = absurd (none q stands)
  where
    none : (k : ℕ) → slice_get {X = Option (ℕ × ℕ)} [] k ≡ Some (Some w) → ⊥
    none k e = has_none (Some w) (k, e)
words_first minimize operator (y ∷ places) (suc p) x at zero w stands = inl stands
words_first minimize operator (y ∷ places) (suc p) x at (suc q) w stands = next (words_first minimize operator places p x at q w stands)
  where
    next : WordsStand (words_of minimize operator (take p places)) q w ⊎ ((q ≡ p) × (words_in minimize operator x ≡ Some w)) → WordsStand (words_of minimize operator (take (suc p) (y ∷ places))) (suc q) w ⊎ ((suc q ≡ suc p) × (words_in minimize operator x ≡ Some w))
    next (inl h) = inl h
    next (inr e) = inr (ap suc e.0, e.1)

pub words_next : (minimize : Bool) (operator : JoinOp) (places : List (Option Node)) (p : ℕ) (x : Option Node) → slice_get places p ≡ Some x → (q : ℕ) (w : ℕ × ℕ) → WordsStand (words_of minimize operator (take (p + 1) places)) q w
    → WordsStand (words_of minimize operator (take p places)) q w ⊎ ((q ≡ p) × (words_in minimize operator x ≡ Some w))
words_next minimize operator places p x at q w stands = words_first minimize operator places p x at q w (subst (λ k. WordsStand (words_of minimize operator (take k places)) q w) (add-one p) stands)

-- none waits of no places
pub none_queued : (minimize : Bool) (operator : JoinOp) (places : List (Option Node)) (entries : List Entry) → AreQueued (words_of minimize operator (take 0 places)) entries
none_queued minimize operator places entries p w stands = absurd (none p stands)
  where
    none : (k : ℕ) → slice_get {X = Option (ℕ × ℕ)} [] k ≡ Some (Some w) → ⊥
    none k e = has_none (Some w) (k, e)

-- none more waits where none stands
pub same_queued : (minimize : Bool) (operator : JoinOp) (places : List (Option Node)) (p : ℕ) (entries : List Entry) → slice_get places p ≡ Some None → AreQueued (words_of minimize operator (take p places)) entries → AreQueued (words_of minimize operator (take (p + 1) places)) entries
same_queued minimize operator places p entries at h q w stands = by (words_next minimize operator places p None at q w stands)
  where
    by : WordsStand (words_of minimize operator (take p places)) q w ⊎ ((q ≡ p) × (words_in minimize operator None ≡ Some w)) → is_waiting q w entries ≡ true
    by (inl old) = h q w old
    by (inr e) = absurd (let no : None ≡ Some w = e.1 in cc)

pub words_there : (minimize : Bool) (operator : JoinOp) (places : List (Option Node)) (p : ℕ) (n : Node) (words : ℕ × ℕ) → slice_get places p ≡ Some (Some n) → words ≡ rank_of minimize operator (Some n)
    → (q : ℕ) (w : ℕ × ℕ) → WordsStand (words_of minimize operator (take (p + 1) places)) q w → WordsStand (words_of minimize operator (take p places)) q w ⊎ ((q ≡ p) × (w ≡ words))
words_there minimize operator places p n words at is q w stands = by (words_next minimize operator places p (Some n) at q w stands)
  where
    inner : (a b : ℕ × ℕ) → Some a ≡ Some b → b ≡ a
    inner a b e = cc

    by : WordsStand (words_of minimize operator (take p places)) q w ⊎ ((q ≡ p) × (words_in minimize operator (Some n) ≡ Some w)) → WordsStand (words_of minimize operator (take p places)) q w ⊎ ((q ≡ p) × (w ≡ words))
    by (inl old) = inl old
    by (inr e) = inr (e.0, inner (rank_of minimize operator (Some n)) w e.1 ∙ sym is)

pub take_all : (places : List (Option Node)) (p : ℕ) → length places ≤ p → take p places ≡ places
take_all [] zero h = refl
take_all [] (suc p) h = refl
take_all (x ∷ places) zero h = absurd (omega (arith, h))
take_all (x ∷ places) (suc p) h = ap (λ (ps : List (Option Node)). x ∷ ps) (take_all places p (omega (arith, h)))
