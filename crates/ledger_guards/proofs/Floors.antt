-- The best floor of nodes that are written out.
use Rattle.std.proofs.Common.{◌≡◌, ◌⊎◌, inl, inr, true, false, List, [], ◌∷◌, Option, Some, None, refl, sym, ap, ◌∙◌, arith}
use Rattle.std.specs.Prelude.{ℤ, pos, ◌≤ℤ◌}
use Rattle.std.proofs.lemmas.Int.{ints}
use Rattle.dom_store.specs.Order.{IsLeastFloor}
use Rattle.dp_claims.specs.Enough.{Has}
use Rattle.dp_model.specs.Costs.{order_word}
use Rattle.dp_model.specs.declared.parts.JoinOp.TheVariants.{Plus}
use Rattle.pass_ledger.specs.Worked.{n2}
use Rattle.pass_ledger.specs.WorkedFloors.{f1, f2}
use Rattle.pass_ledger.proofs.Lists.{has_none}
use Rattle.pass_ledger.proofs.Worked.{has_two, none_is, some_is}
use Rattle.state_layout.specs.declared.node.Node.{Node}
use Rattle.ledger_guards.specs.Floors.{floored, one_without, LawWorkedFloor}

not_empty : (n : Node) (ns : List Node) → n ∷ ns ≡ [] → ⊥
not_empty n ns e = cc

some_not_none : (a : ℤ) → Some a ≡ None → ⊥
some_not_none a e = cc

-- each node of the list has one of two floors
which : (n : Node) (floor : ℤ) → Has floored n → n.floor ≡ Some floor → (pos 2 ≡ floor) ⊎ (pos 3 ≡ floor)
which n floor h e =
    elim (has_two f1 f2 n h) [
      | inl is ↦ inl (some_is (pos 2) floor (ap (λ (x : Node). x.floor) is ∙ e))
      | inr is ↦ inr (some_is (pos 3) floor (ap (λ (x : Node). x.floor) is ∙ e))
    ]

has_floor : (n : Node) → Has floored n → n.floor ≡ None → ⊥
has_floor n h e =
    elim (has_two f1 f2 n h) [
      | inl is ↦ some_not_none (pos 2) (ap (λ (x : Node). x.floor) is ∙ e)
      | inr is ↦ some_not_none (pos 3) (ap (λ (x : Node). x.floor) is ∙ e)
    ]

least : IsLeastFloor true Plus floored (Some (pos 2))
least = ((f1, (0, refl), refl), each)
  where
    each : (n : Node) → Has floored n → (f : ℤ) × (n.floor ≡ Some f) × (order_word true Plus (Some (pos 2)) ≤ℤ order_word true Plus (Some f))
    each n h =
        elim (has_two f1 f2 n h) [
          | inl is ↦ (pos 2, ap (λ (x : Node). x.floor) (sym is), omega (arith, ints))
          | inr is ↦ (pos 3, ap (λ (x : Node). x.floor) (sym is), omega (arith, ints))
        ]

greatest : IsLeastFloor false Plus floored (Some (pos 3))
greatest = ((f2, (1, refl), refl), each)
  where
    each : (n : Node) → Has floored n → (f : ℤ) × (n.floor ≡ Some f) × (order_word false Plus (Some (pos 3)) ≤ℤ order_word false Plus (Some f))
    each n h =
        elim (has_two f1 f2 n h) [
          | inl is ↦ (pos 2, ap (λ (x : Node). x.floor) (sym is), omega (arith, ints))
          | inr is ↦ (pos 3, ap (λ (x : Node). x.floor) (sym is), omega (arith, ints))
        ]

only_least : (floor : Option ℤ) → IsLeastFloor true Plus floored floor → floor ≡ Some (pos 2)
only_least None (inl e) = absurd (not_empty f1 (f2 ∷ []) e)
only_least None (inr h) = absurd (has_floor h.0 h.1 h.2)
only_least (Some floor) h =
    elim (which h.0.0 floor h.0.1 h.0.2) [
      | inl e ↦ ap Some (sym e)
      | inr e ↦ let first = h.1 f1 (0, refl) in absurd (too_great floor first.0 e (some_is (pos 2) first.0 first.1) first.2)
    ]
  where
    too_great : (a b : ℤ) → pos 3 ≡ a → pos 2 ≡ b → order_word true Plus (Some a) ≤ℤ order_word true Plus (Some b) → ⊥
    too_great a b e f le = absurd (omega (arith, ints, e, f, le))

only_greatest : (floor : Option ℤ) → IsLeastFloor false Plus floored floor → floor ≡ Some (pos 3)
only_greatest None (inl e) = absurd (not_empty f1 (f2 ∷ []) e)
only_greatest None (inr h) = absurd (has_floor h.0 h.1 h.2)
only_greatest (Some floor) h =
    elim (which h.0.0 floor h.0.1 h.0.2) [
      | inl e ↦ let second = h.1 f2 (1, refl) in absurd (too_small floor second.0 e (some_is (pos 3) second.0 second.1) second.2)
      | inr e ↦ ap Some (sym e)
    ]
  where
    too_small : (a b : ℤ) → pos 2 ≡ a → pos 3 ≡ b → order_word false Plus (Some a) ≤ℤ order_word false Plus (Some b) → ⊥
    too_small a b e f le = absurd (omega (arith, ints, e, f, le))

only_without : (floor : Option ℤ) → IsLeastFloor true Plus one_without floor → floor ≡ None
only_without None h = refl
only_without (Some floor) h = let second = h.1 n2 (1, refl) in absurd (none_is second.0 second.1)

only_of_none : (floor : Option ℤ) → IsLeastFloor true Plus [] floor → floor ≡ None
only_of_none None h = refl
only_of_none (Some floor) h = absurd (has_none h.0.0 h.0.1)

pub worked_floor : LawWorkedFloor
worked_floor =
    record {
      least = least;
      only_least = only_least;
      greatest = greatest;
      only_greatest = only_greatest;
      without = inr (n2, (1, refl), refl);
      only_without = only_without;
      of_none = inl refl;
      only_of_none = only_of_none;
    }
