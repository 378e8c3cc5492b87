-- The stopped search that is written out: its record is the shard's own by the laws of events.
use Rattle.std.proofs.Common.{◌≡◌, ℕ, ◌<◌, ◌≤◌, zero, suc, true, inl, inr, List, [], ◌∷◌, Option, Some, None, refl, sym, ap, subst, ◌∙◌, arith}
use Rattle.std.specs.Prelude.{ℤ, pos, ◌≤ℤ◌}
use Rattle.std.proofs.Math.Nat.{zero-lt-suc}
use Rattle.std.proofs.lemmas.Int.{ints}
use Rattle.cost_laws.specs.Orders.{InWideRange}
use Rattle.dp_claims.specs.Enough.{Has}
use Rattle.dp_claims.proofs.Covering.{reflexive}
use Rattle.dp_model.specs.declared.answers.Keep.TheVariants.{All}
use Rattle.dp_model.specs.declared.parts.PlainValue.TheVariants.{Number}
use Rattle.dp_model.specs.declared.parts.PlainState.{PlainState}
use Rattle.dp_steps.specs.Bounds.{IsTightest}
use Rattle.dp_steps.specs.Lists.{Solution}
use Rattle.pass_ledger.specs.Letters.{InOrder}
use Rattle.pass_ledger.specs.Passes.{word_of, CoversNode}
use Rattle.pass_ledger.specs.Events.{IsHeldAfter}
use Rattle.pass_ledger.specs.Past.{IsCoveredBy}
use Rattle.pass_ledger.specs.Records.{IsSuccessor, IsTotal, Starts}
use Rattle.pass_ledger.specs.TwoWays.{at}
use Rattle.pass_ledger.specs.Worked.{held, word_11, no_word}
use Rattle.pass_ledger.specs.WorkedFloors.{one, one_typed, bounded, f0, f1, f2}
use Rattle.pass_ledger.specs.declared.records.Held.{Held}
use Rattle.pass_ledger.specs.declared.records.PrunedAt.{PrunedAt}
use Rattle.pass_ledger.proofs.Lists.{has_none, has_head}
use Rattle.pass_ledger.proofs.TwoWays.{value_fixed, base_at, q_step, d_step, from_0, from_1}
use Rattle.pass_ledger.proofs.Worked.{has_one, has_two, some_is, none_is, one_shard, only_one, at_apart, in_range, small}
use Rattle.pass_ledger.proofs.WorkedFloors.{inner, honest, f1_from, f2_from, total_11, f1_in_order}
use Rattle.state_layout.specs.declared.node.Node.{Node}
use Rattle.best_ledger.specs.Events.{fresh, take_letter, CanTake, visit_node, CanVisit, post, CanPost}
use Rattle.best_ledger.specs.Histories.{letter, visit, to, came_from, IsNew}
use Rattle.best_ledger.specs.Laws.{PrunesAbove}
use Rattle.best_ledger.specs.Ledgers.{IsBest}
use Rattle.best_ledger.specs.Records.{to_post, Own, record_of, IsPrefix, Together}
use Rattle.best_ledger.specs.Searches.{pass_of}
use Rattle.best_ledger.specs.declared.letters.BestLetter.{BestLetter}
use Rattle.best_ledger.specs.declared.records.BestRecord.{BestRecord}
use Rattle.best_ledger.specs.declared.records.BestVisit.{BestVisit}
use Rattle.best_ledger.specs.declared.records.Moment.TheVariants.{Came, Visited, Pruned}
use Rattle.best_ledger.specs.declared.records.ToPost.{ToPost}
use Rattle.best_ledger.proofs.Posts.{own_law}
use Rattle.best_gap.specs.Frontiers.{IsOnFrontier, IsFrontierFloor, AreFine}
use Rattle.best_gap.specs.Worked.{alone, letters, story, stopped, LawWorkedGap}
use Rattle.best_gap.proofs.Bounds.{frontier_law}

-- ---- the start, and steps

tightest : (s : PlainState) → IsTightest bounded s (pos 1)
tightest s = (pos 1, pos 0 ∷ [], rw (value_fixed bounded s [] (pos 1), value_fixed bounded s [] (pos 0)) refl, refl)

starts : Starts (pass_of alone) 0 (Some f0)
starts = (record { state = refl; cost = refl; floor = (refl, (pos 1, tightest (at 0), refl)); parent = refl }, refl)

f1_made : IsSuccessor (pass_of alone) 0 0 f0 0 f1
f1_made =
    record { weight = f1_from.weight; step = f1_from.step; inner = f1_from.inner; cost = f1_from.cost; in_range = f1_from.in_range; floor = f1_from.floor; parent = refl; transition = refl }

f2_made : IsSuccessor (pass_of alone) 0 0 f0 1 f2
f2_made =
    record { weight = f2_from.weight; step = f2_from.step; inner = f2_from.inner; cost = f2_from.cost; in_range = f2_from.in_range; floor = f2_from.floor; parent = refl; transition = refl }

of_11 : IsTotal (pass_of alone) f1 2 (pos 11)
of_11 =
    record { weight = total_11.weight; next = total_11.next; base = total_11.base; step = total_11.step; is_base = total_11.is_base; cost_in_range = total_11.cost_in_range; in_range = total_11.in_range; is = total_11.is }

f2_in_order : InOrder bounded f2
f2_in_order = record { is_node = record { state = refl; cost = in_range 2 (small 2 (omega arith)); floor = word_3_fits }; inner = inner 2 refl; floor = f2_from.floor.1 }
  where
    word_3_fits : InWideRange (pos 3)
    word_3_fits = (omega (arith, ints), omega (arith, ints))

-- the two nodes are different
apart : f1 ≡ f2 → ⊥
apart e = at_apart (ap (λ (n : Node). n.state) e)

values_differ : Number (pos 0) ≡ Number (pos 1) → ⊥
values_differ e = cc

no_letter : (v : BestVisit) (x : BestLetter) → Visited v ≡ Came x → ⊥
no_letter v x e = cc

no_visit : (x : BestLetter) (v : BestVisit) → Came x ≡ Visited v → ⊥
no_visit x v e = cc

came_same : (x y : BestLetter) → Came x ≡ Came y → x ≡ y
came_same x y e = cc

visited_same : (v w : BestVisit) → Visited v ≡ Visited w → v ≡ w
visited_same v w e = cc

one_two : 1 < 2
one_two = omega arith

self : (w : ℤ) → w ≤ℤ w
self w = omega (arith, ints)

-- ---- the target is visited

abbrev made : List ToPost
made = to_post 0 (letter 0 1 f1) ∷ to_post 0 (letter 0 1 f2) ∷ []

abbrev begun : BestRecord
begun = fresh 1 (Some f0)

-- what is asked of a letter that was made
abbrev IsGood : ToPost → Type 0
IsGood u = (t : ℕ) × (m : Node) × (u.letter ≡ letter 0 1 m) × IsSuccessor (pass_of alone) 0 0 f0 t m × (0 ≡ u.to) × InOrder bounded m

first : CanVisit (pass_of alone) 0 begun 1 f0 [] made [] None None
first =
    record {
      fine = refl;
      is_open = record { before = []; after = []; was = refl; is = refl };
      above_letters = λ x h. absurd (has_none (Came x) h);
      above_visits = λ w h. absurd (has_none (Visited w) h);
      accounted = inl
          (λ t considered enabled. elim (from_0 one one_typed refl t enabled) [
            | inl e ↦ inr (inr (f1, subst (λ (g : ℕ). IsSuccessor (pass_of alone) 0 0 f0 g f1) (sym e) f1_made, inr (inr (0, refl))))
            | inr e ↦ inr (inr (f2, subst (λ (g : ℕ). IsSuccessor (pass_of alone) 0 0 f0 g f2) (sym e) f2_made, inr (inr (1, refl))))
          ]);
      each_made = λ u h. elim (has_two (to_post 0 (letter 0 1 f1)) (to_post 0 (letter 0 1 f2)) u h) [
        | inl e ↦ subst IsGood e (0, f1, refl, f1_made, refl, f1_in_order)
        | inr e ↦ subst IsGood e (1, f2, refl, f2_made, refl, f2_in_order)
      ];
      once = (λ h. apart (sym (has_one f2 f1 h)), (λ h. has_none f2 h, tt));
      each_pruned = λ q h. absurd (has_none q h);
      held_after = λ h e. absurd (none_is h e);
      no_worse = λ total r. r;
      met = λ f e. absurd (none_is f e);
    }

abbrev opened : BestRecord
opened = visit_node begun 1 f0 [] made [] None None

-- ---- both letters are posted, and the first is taken

abbrev posted_one : BestRecord
posted_one = post opened (to_post 0 (letter 0 1 f1)) (to_post 0 (letter 0 1 f2) ∷ [])

abbrev posted_both : BestRecord
posted_both = post posted_one (to_post 0 (letter 0 1 f2)) []

abbrev taken : BestRecord
taken = take_letter posted_both (letter 0 1 f1) (f1 ∷ [])

post_first : CanPost (pass_of alone) opened (to_post 0 (letter 0 1 f1)) (to_post 0 (letter 0 1 f2) ∷ [])
post_first = record { receiver = zero-lt-suc 0; before = []; after = to_post 0 (letter 0 1 f2) ∷ []; was = refl; is = refl }

post_second : CanPost (pass_of alone) posted_one (to_post 0 (letter 0 1 f2)) []
post_second = record { receiver = zero-lt-suc 0; before = []; after = []; was = refl; is = refl }

can_take : CanTake (pass_of alone) posted_both (letter 0 1 f1) (f1 ∷ [])
can_take =
    record {
      from = zero-lt-suc 0;
      lawful = f1_in_order;
      kept = λ n h. inr (has_one f1 n h, is_new n (has_one f1 n h), none_covers n);
      apart = (λ m h. absurd (has_none m h), tt);
      left = λ n h. absurd (has_none n h);
      added = inl (f1, (0, refl), reflexive bounded true f1.state f1.cost);
    }
  where
    is_new : (n : Node) → f1 ≡ n → IsNew (pass_of alone) (Visited (visit 1 f0) ∷ []) n
    is_new n e w h c =
        let same = visited_same (visit 1 f0) w (has_one (Visited (visit 1 f0)) (Visited w) h) in
        values_differ (subst (λ (m : Node). CoversNode (pass_of alone) f0 m) (sym e) (subst (λ (v : BestVisit). CoversNode (pass_of alone) v.node n) (sym same) c)).0.0

    none_covers : (n : Node) → IsCoveredBy (pass_of alone) [] n → ⊥
    none_covers n c = has_none c.0 c.1

-- ---- the node that came is visited

second : CanVisit (pass_of alone) 0 taken 2 f1 [] [] [] (Some (held (pos 11) 1 2)) None
second =
    record {
      fine = refl;
      is_open = record { before = []; after = []; was = refl; is = refl };
      above_letters = λ x h. elim (has_two (Visited (visit 1 f0)) (Came (letter 0 1 f1)) (Came x) h) [
        | inl e ↦ absurd (no_letter (visit 1 f0) x e)
        | inr e ↦ subst (λ (y : BestLetter). y.stamp < 2) (came_same (letter 0 1 f1) x e) one_two
      ];
      above_visits = λ w h. elim (has_two (Visited (visit 1 f0)) (Came (letter 0 1 f1)) (Visited w) h) [
        | inl e ↦ subst (λ (v : BestVisit). v.stamp < 2) (visited_same (visit 1 f0) w e) one_two
        | inr e ↦ absurd (no_visit (letter 0 1 f1) w e)
      ];
      accounted = inl (λ t considered enabled. inr (inl (pos 11, subst (λ (g : ℕ). IsTotal (pass_of alone) f1 g (pos 11)) (sym (from_1 one one_typed refl t enabled)) of_11, self (word_of (pass_of alone) (pos 11)))));
      each_made = λ u h. absurd (has_none u h);
      once = tt;
      each_pruned = λ q h. absurd (has_none q h);
      held_after = λ h e. subst (λ (x : Held). IsHeldAfter (pass_of alone) 0 1 f1 None x) (some_is (held (pos 11) 1 2) h e) (inr (refl, of_11));
      no_worse = λ total r. absurd r;
      met = λ f e. absurd (none_is f e);
    }

own : Own (pass_of alone) 0 stopped
own =
    let a = own_law.begins (pass_of alone) 0 (Some f0) starts in
    let b = own_law.visits (pass_of alone) 0 begun a 1 f0 [] made [] None None first in
    let c = own_law.posts (pass_of alone) 0 opened b (to_post 0 (letter 0 1 f1)) (to_post 0 (letter 0 1 f2) ∷ []) post_first in
    let d = own_law.posts (pass_of alone) 0 posted_one c (to_post 0 (letter 0 1 f2)) [] post_second in
    let e = own_law.takes (pass_of alone) 0 posted_both d (letter 0 1 f1) (f1 ∷ []) can_take in
    own_law.visits (pass_of alone) 0 taken e 2 f1 [] [] [] (Some (held (pos 11) 1 2)) None second

-- ---- the records of all shards

together : Together (pass_of alone) (stopped ∷ [])
together =
    record {
      own = only_one (λ i. Own (pass_of alone) i (record_of (stopped ∷ []) i)) own;
      prefix = λ i j li lj. only_one (λ a. IsPrefix (came_from j (record_of (stopped ∷ []) a).history) (to (record_of (stopped ∷ []) j).posted a))
          (only_one (λ b. IsPrefix (came_from b story) (to (record_of (stopped ∷ []) b).posted 0)) (letter 0 1 f2 ∷ [], refl) j lj) i li;
    }

is_best : IsBest (pass_of alone) (stopped ∷ []) no_word word_11
is_best =
    record {
      opening_above = omega arith;
      held_above = λ i h li e. only_one (λ j. (record_of (stopped ∷ []) j).held ≡ Some h → pos word_11 ≤ℤ word_of (pass_of alone) h.cost)
          (λ e'. subst (λ (x : Held). pos word_11 ≤ℤ word_of (pass_of alone) x.cost) (some_is (held (pos 11) 1 2) h e') (self (pos word_11))) i li e;
      is_one = inr (0, held (pos 11) 1 2, zero-lt-suc 0, refl, refl);
    }

none_pruned : (q : PrunedAt) → Has story (Pruned q) → ⊥
none_pruned q h =
    elim (has_head (Visited (visit 1 f0)) (Came (letter 0 1 f1) ∷ Visited (visit 2 f1) ∷ []) (Pruned q) h) [
      | inl e ↦ visited_not (visit 1 f0) q e
      | inr t ↦ elim (has_two (Came (letter 0 1 f1)) (Visited (visit 2 f1)) (Pruned q) t) [ inl e ↦ came_not (letter 0 1 f1) q e | inr e ↦ visited_not (visit 2 f1) q e ]
    ]
  where
    visited_not : (v : BestVisit) (q : PrunedAt) → Visited v ≡ Pruned q → ⊥
    visited_not v q e = cc

    came_not : (x : BestLetter) (q : PrunedAt) → Came x ≡ Pruned q → ⊥
    came_not x q e = cc

prunes : PrunesAbove (pass_of alone) (stopped ∷ []) word_11
prunes zero q li h = absurd (none_pruned q h)
prunes (suc i) q li h = absurd (one_shard i li)

fine : AreFine (pass_of alone) (stopped ∷ [])
fine = only_one (λ i. (record_of (stopped ∷ []) i).fault ≡ None) refl

-- ---- the frontier is the letter on its way

rest_is : (xs : List BestLetter) → letter 0 1 f1 ∷ xs ≡ letters → xs ≡ letter 0 1 f2 ∷ []
rest_is xs e = ap behind e
  where
    behind : List BestLetter → List BestLetter
    behind [] = []
    behind (x ∷ ys) = ys

on_it : IsOnFrontier (pass_of alone) (stopped ∷ []) f2
on_it = (0, zero-lt-suc 0, inr (0, letter 0 1 f2 ∷ [], letter 0 1 f2, zero-lt-suc 0, refl, (0, refl), refl))

only_it : (n : Node) → IsOnFrontier (pass_of alone) (stopped ∷ []) n → f2 ≡ n
only_it n (suc i, li, h) = absurd (one_shard i li)
only_it n (zero, li, inl (inl h)) = absurd (has_none n h)
only_it n (zero, li, inl (inr (u, h, e))) = absurd (has_none u h)
only_it n (zero, li, inr (suc j, xs, x, lj, way, h, e)) = absurd (one_shard j lj)
only_it n (zero, li, inr (zero, xs, x, lj, way, h, e)) = ap (λ (y : BestLetter). y.node) (has_one (letter 0 1 f2) x (subst (λ (ys : List BestLetter). Has ys x) (rest_is xs way) h)) ∙ e

floor : IsFrontierFloor (pass_of alone) (stopped ∷ []) (Some (pos 3))
floor =
    record {
      some = (f2, on_it);
      floor_is = (
        (f2, on_it, refl),
        λ n f on is.
            subst (λ (x : ℤ). word_of (pass_of alone) (pos 3) ≤ℤ word_of (pass_of alone) x) (some_is (pos 3) f (ap (λ (m : Node). m.floor) (only_it n on) ∙ is)) (self (word_of (pass_of alone) (pos 3))),
      );
    }

only : (other : Option ℤ) → IsFrontierFloor (pass_of alone) (stopped ∷ []) other → other ≡ Some (pos 3)
only None h = sym (h.floor_is f2 on_it)
only (Some f) h = sym (ap (λ (m : Node). m.floor) (only_it h.floor_is.0.0 h.floor_is.0.1) ∙ h.floor_is.0.2)

-- ---- a list of cost 3

way_3 : Solution bounded (1 ∷ 3 ∷ []) (pos 3)
way_3 =
    record {
      reaches = (at 3, Some (pos 3), pos 0, (at 2, Some (pos 2), q_step one one_typed refl, in_range 2 (small 2 (omega arith)), (at 3, Some (pos 1), d_step one one_typed refl, in_range 3 (small 3 (omega arith)), (refl, refl))), base_at one one_typed refl);
      completes = (at 2, Some (pos 2), pos 1, q_step one one_typed refl, (at 3, Some (pos 1), pos 0, d_step one one_typed refl, base_at one one_typed refl, refl), refl);
      in_range = in_range 3 (small 3 (omega arith));
    }

pub worked_law : LawWorkedGap
worked_law =
    record {
      together = together;
      is_best = is_best;
      prunes = prunes;
      fine = fine;
      floor = floor;
      only = only;
      none = (frontier_law alone (stopped ∷ []) no_word word_11 (Some (pos 3)) (inner 0 refl) together is_best prunes fine floor).none (inr (honest All));
      some = way_3;
    }
