-- Layers that are shared out, and layers that are busy, written out.
use Rattle.std.proofs.Common.{◌≡◌, ℕ, ◌+◌, ◌<◌, ◌≤◌, zero, suc, true, false, ◌⊎◌, inl, inr, [], ◌∷◌, Some, None, refl, sym, ap, subst, ◌∙◌, arith}
use Rattle.std.specs.Prelude.{ℤ, pos, ◌≤ℤ◌}
use Rattle.std.proofs.lemmas.Int.{ints}
use Rattle.std.proofs.Math.Nat.{zero-lt-suc}
use Rattle.dom_store.specs.Contents.{IsCovered}
use Rattle.dom_store.specs.Past.{IsPast, past_node}
use Rattle.dom_store.specs.declared.past_node.PastNode.{PastNode}
use Rattle.dp_claims.proofs.Covering.{reflexive}
use Rattle.dp_claims.specs.Enough.{Has}
use Rattle.dp_model.specs.Costs.{order_word}
use Rattle.pass_ledger.specs.Letters.{of}
use Rattle.pass_ledger.specs.Rounds.{rounds}
use Rattle.pass_ledger.specs.Rows.{Received}
use Rattle.pass_ledger.specs.TwoWays.{at}
use Rattle.pass_ledger.specs.Worked.{alone, n0}
use Rattle.pass_ledger.specs.WorkedRounds.{going, near, home, mid, far}
use Rattle.pass_ledger.specs.declared.mail.Letter.TheVariants.{State, Mark}
use Rattle.pass_ledger.proofs.Lists.{has_none}
use Rattle.pass_ledger.proofs.Worked.{at_apart, has_one, has_two, mark_parts, none_is, not_both, one_shard}
use Rattle.pass_ledger.proofs.WorkedEnough.{zero_one, zero_two}
use Rattle.shard_core.specs.Layers.{Splits}
use Rattle.shard_core.specs.Stands.{Collects}
use Rattle.state_layout.specs.declared.layout.Layout.{Layout}
use Rattle.state_layout.specs.declared.node.Node.{Node}
use Rattle.end_guards.specs.Layers.{taken, the_past, none_to_come, LawWorkedSplits, LawWorkedBusy}

-- ---- what the past covers

-- it covers nothing but the state 0
only_home : (n : Node) → IsPast rounds false the_past n → at 0 ≡ n.state
only_home n h = ap (λ (q : PastNode). q.state) (has_one (past_node n0) h.0 h.1) ∙ h.2.0

-- and the state 0 at each cost that is no better than 5
home_past : (n : Node) → at 0 ≡ n.state → order_word true rounds.join (Some (pos 5)) ≤ℤ order_word true rounds.join n.cost → IsPast rounds false the_past n
home_past n e le = (past_node n0, (0, refl), (e, up (order_word true rounds.join n.cost) le))
  where
    up : (w : ℤ) → order_word true rounds.join (Some (pos 5)) ≤ℤ w → order_word true rounds.join None ≤ℤ w
    up w le = omega (arith, ints, le)

self : order_word true rounds.join (Some (pos 5)) ≤ℤ order_word true rounds.join (Some (pos 5))
self = omega (arith, ints)

home_is_past : IsPast rounds false the_past home
home_is_past = home_past home refl self

-- ---- one of two is known

near_new : (n : Node) → Has (near ∷ []) n → IsPast rounds false the_past n → ⊥
near_new n h past = zero_one (only_home n past ∙ ap (λ (x : Node). x.state) (sym (has_one near n h)))

covered_known : (n : Node) → IsCovered rounds false (near ∷ home ∷ []) n → IsCovered rounds false (near ∷ []) n ⊎ IsPast rounds false the_past n
covered_known n h =
    elim (has_two near home h.0 h.1) [
      | inl e ↦ inl (h.0, (0, ap Some e), h.2)
      | inr e ↦ inr (home_past n (ap (λ (x : Node). x.state) e ∙ h.2.0) (subst (λ (x : Node). order_word true rounds.join x.cost ≤ℤ order_word true rounds.join n.cost) (sym e) h.2.1))
    ]

known_gone : Splits going 2 the_past (near ∷ home ∷ []) (taken (near ∷ []) [])
known_gone =
    record {
      from = λ n h. (0, ap Some (has_one near n h));
      news = near_new;
      covered = covered_known;
      apart = (λ other h. absurd (has_none other h), tt);
      few = omega arith;
      full = λ n h. absurd (has_none n h);
      floor = inl refl;
    }

-- ---- one of two is dropped

mid_far_new : (n : Node) → Has (mid ∷ far ∷ []) n → IsPast rounds false the_past n → ⊥
mid_far_new n h past =
    elim (has_two mid far n h) [
      | inl e ↦ zero_two (only_home n past ∙ ap (λ (x : Node). x.state) (sym e))
      | inr e ↦ zero_one (only_home n past ∙ ap (λ (x : Node). x.state) (sym e))
    ]

one_dropped : Splits going 1 the_past (mid ∷ far ∷ []) (taken (mid ∷ []) (far ∷ []))
one_dropped =
    record {
      from = λ n h. h;
      news = mid_far_new;
      covered = λ n h. inl h;
      apart = (
        λ other h. (let e = ap (λ (x : Node). x.state) (has_one far other h) in (λ c. at_apart (e ∙ sym c.0), λ c. at_apart (e ∙ c.0))),
        (λ other h. absurd (has_none other h), tt),
      );
      few = omega arith;
      full = λ n h. refl;
      floor = inr (far, (0, refl), refl);
    }

one_two : ◌≡◌ {A = ℕ} 1 2 → ⊥
one_two e = absurd (omega (arith, e))

two_in_one : 2 ≤ 1 → ⊥
two_in_one le = absurd (omega (arith, le))

lost : Splits going 2 the_past (near ∷ home ∷ []) (taken [] []) → ⊥
lost h =
    elim (h.covered near (near, (0, refl), reflexive rounds false near.state near.cost)) [
      | inl c ↦ has_none c.0 c.1
      | inr past ↦ near_new near (0, refl) past
    ]

pub worked_splits : LawWorkedSplits
worked_splits =
    record {
      known_gone = known_gone;
      known_kept = λ h. h.news home (1, refl) home_is_past;
      known_dropped = λ h. h.news home (1, refl) home_is_past;
      new_lost = lost;
      one_dropped = one_dropped;
      share_not_full = λ h. one_two (h.full far (0, refl));
      share_exceeded = λ h. two_in_one h.few;
    }

-- ---- busy layers

none_received : (l : ℕ) (n : Node) → Received (alone 1) None none_to_come l n → ⊥
none_received zero n e = none_is n e
none_received (suc l) n (zero, lj, h) = not_both zero (l + 1) 0 1 0 0 n (sym (has_one (Mark 0 1 0 0) (State zero (l + 1) n) h))
none_received (suc l) n (suc j, lj, h) = one_shard j lj

no_state : (j from l to_you total : ℕ) → Has (of none_to_come j) (Mark from l to_you total) → 0 < total → ⊥
no_state zero from l to_you total h lt = never total (mark_parts 0 1 0 0 from l to_you total (has_one (Mark 0 1 0 0) (Mark from l to_you total) h)).3 lt
  where
    never : (n : ℕ) → 0 ≡ n → 0 < n → ⊥
    never n e lt = absurd (omega (arith, e, lt))
no_state (suc j) from l to_you total h lt = has_none (Mark from l to_you total) h

false_true : false ≡ true → ⊥
false_true e = cc

calm : (layout : Layout) → Collects {B = Unit {0}} (alone 1) 1 layout [] None none_to_come
calm layout =
    record {
      layouts = λ d x e. absurd (none_is x e);
      only = λ d n h. absurd (has_none n h);
      all = λ d n got. absurd (none_received (1 + d) n got);
      busy = λ d e. absurd (false_true e);
      calm = λ d j from to_you total h lt. absurd (no_state j from (1 + d) to_you total h lt);
    }

pub worked_busy : LawWorkedBusy
worked_busy = record { calm = calm; one_state = λ layout h. false_true (h.calm 0 0 0 0 1 (0, refl) (zero-lt-suc 0)) }
