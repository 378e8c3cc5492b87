-- Two nodes that are shared out.
use Rattle.std.proofs.Common.{◌≡◌, ℕ, inl, true, false, [], ◌∷◌, Some, refl, sym, ap, subst, arith}
use Rattle.std.specs.Prelude.{pos}
use Rattle.std.proofs.lemmas.Int.{ints}
use Rattle.dom_store.specs.Order.{AreInOrder, IsLeastFloor, IsOrdering, is_before}
use Rattle.dom_store.specs.Taking.{AreShared}
use Rattle.dp_model.specs.declared.parts.JoinOp.TheVariants.{Plus}
use Rattle.pass_ledger.specs.WorkedFloors.{f1, f2}
use Rattle.pass_ledger.proofs.Lists.{has_none}
use Rattle.pass_ledger.proofs.Worked.{has_one}
use Rattle.state_layout.specs.declared.node.Node.{Node}
use Rattle.ledger_guards.specs.Floors.{floored}
use Rattle.ledger_guards.specs.Shares.{better_kept, worse_kept, both_kept, LawWorkedShares}

in_order : AreInOrder true Plus floored
in_order = (λ other h. subst (λ (x : Node). is_before true Plus x f1 ≡ false) (has_one f2 other h) refl, (λ other h. absurd (has_none other h), tt))

ordering : IsOrdering true Plus floored floored
ordering = record { sorted = in_order; stable = λ n h. refl; from = λ n h. h; held = λ n h. h }

floor_is : IsLeastFloor true Plus (f2 ∷ []) (Some (pos 3))
floor_is = ((f2, (0, refl), refl), λ n h. (pos 3, ap (λ (x : Node). x.floor) (sym (has_one f2 n h)), omega (arith, ints)))

better : AreShared true Plus 1 floored better_kept
better = record { order = ordering; kept = refl; all = refl; floor = floor_is }

both : AreShared true Plus 2 floored both_kept
both = record { order = ordering; kept = refl; all = refl; floor = inl refl }

not_worse : AreShared true Plus 1 floored worse_kept → ⊥
not_worse h = clash (h.order.sorted.0 f1 (0, refl))
  where
    clash : is_before true Plus f1 f2 ≡ false → ⊥
    clash e = let no : true ≡ false = e in cc

zero_one : ◌≡◌ {A = ℕ} 0 1 → ⊥
zero_one e = absurd (omega (arith, e))

pub worked_shares : LawWorkedShares
worked_shares =
    record {
      better = better;
      not_worse = not_worse;
      not_none = λ h. zero_one h.kept;
      not_both = λ h. two_one h.kept;
      not_lost = λ h. one_two h.all;
      both = both;
      not_fewer = λ h. one_two h.kept;
    }
  where
    two_one : ◌≡◌ {A = ℕ} 2 1 → ⊥
    two_one e = absurd (omega (arith, e))

    one_two : ◌≡◌ {A = ℕ} 1 2 → ⊥
    one_two e = absurd (omega (arith, e))
