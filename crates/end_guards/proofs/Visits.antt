-- Visits and offers, written out.
use Rattle.std.proofs.Common.{◌≡◌, ℕ, true, false, [], ◌∷◌, Option, Some, None, Result, Ok, refl, sym, ap, subst, ◌∙◌, arith}
use Rattle.std.specs.Prelude.{ℤ, pos}
use Rattle.std.proofs.lemmas.Int.{ints}
use denote.Hole.Carrier
use Rattle.dp_base.specs.Results.{◌>>=◌}
use Rattle.dp_model.specs.Costs.{join}
use Rattle.dp_model.specs.Evaluation.{num_value, operate, ArgValue, CondValue, NumValue, SetValue, arg_step, cond_step, num_step, set_step}
use Rattle.dp_model.specs.declared.answers.FaultKind.{FaultKind}
use Rattle.dp_model.specs.declared.answers.FaultKind.TheVariants.{ZeroDivisor}
use Rattle.dp_model.specs.declared.answers.Spot.TheVariants as spots
use Rattle.dp_model.specs.declared.parts.PlainState.{PlainState}
use Rattle.dp_model.specs.declared.trees.Num.{Num}
use Rattle.dp_model.specs.declared.trees.Num as nums
use Rattle.dp_model.specs.declared.trees.NumOp.{NumOp}
use Rattle.dp_model.specs.declared.trees.NumOp.TheVariants as operations
use Rattle.dp_steps.specs.Bounds.{IsFloor}
use Rattle.dp_steps.specs.Faults.{Meets, MeetsIn}
use Rattle.pass_ledger.specs.Passes.{word_of}
use Rattle.pass_ledger.specs.TwoWays.{at}
use Rattle.pass_ledger.specs.Worked.{alone, word_11, no_word}
use Rattle.pass_ledger.specs.WorkedFault.{rest, split, split_typed, faulty, meeting, first}
use Rattle.pass_ledger.specs.declared.records.Held.{Held}
use Rattle.pass_ledger.proofs.TwoWays.{value_var, value_fixed, inner_at}
use Rattle.pass_ledger.proofs.Worked.{some_is}
use Rattle.pass_ledger.proofs.WorkedFault.{worked_fault}
use Rattle.shard_core.specs.Calls.{visit_in}
use Rattle.visit_laws.proofs.Passes.{no_fault_passed}
use Rattle.end_guards.specs.Visits.{of_11, of_3, LawWorkedFinds, LawWorkedOffers, LawPassOf}

-- ---- the bound of the target

operated : (op : NumOp) (x y : Num) (a b : ℤ) → num_value faulty (at 0) x [] ≡ Ok a → num_value faulty (at 0) y [] ≡ Ok b → num_value faulty (at 0) (nums.Op op x y) [] ≡ operate op a b
unfolding nums.roll-Num denote.Hole.Carrier.roll
operated op x y a b e f =
    ap (λ (f : NumValue). f []) (nums.fold-roll-Num ArgValue CondValue NumValue SetValue arg_step (cond_step faulty (at 0)) (num_step faulty (at 0)) (set_step faulty (at 0)) (nums.Num-F.Num::Op op x y))
    ∙ both (num_value faulty (at 0) x []) (num_value faulty (at 0) y []) e f
  where
    both : (r q : Result ℤ FaultKind) → r ≡ Ok a → q ≡ Ok b → ◌≡◌ {A = Result ℤ FaultKind} (r >>= λ x. q >>= λ y. operate op x y) (operate op a b)
    both r q e f = rw e (rw f refl)

rest_is : num_value faulty (at 0) rest [] ≡ Ok (pos 2)
rest_is = operated operations.Minus (nums.Fixed (pos 2)) (nums.Var 0) (pos 2) (pos 0) (value_fixed faulty (at 0) [] (pos 2)) (value_var faulty (at 0) [] 0)

half : num_value faulty (at 0) split [] ≡ Ok (pos 0)
half = operated operations.Over (nums.Fixed (pos 1)) rest (pos 1) (pos 2) (value_fixed faulty (at 0) [] (pos 1)) rest_is

floor : IsFloor faulty true (at 0) None (Some (pos 0))
floor = (refl, (pos 0, (pos 0, [], rw half refl, refl), refl))

-- ---- the visit

-- the list of one step that meets the fault, as a step from the target
met_after : (g : ℕ) (m : Meets faulty true (g ∷ []) (spots.Bound 0) ZeroDivisor) → MeetsIn faulty true (join faulty.join None m.2.1) m.2.0 (spots.Bound 0) ZeroDivisor
met_after g m =
    let ends = m.2.4 in
    subst (λ (s : PlainState). MeetsIn faulty true (join faulty.join None m.2.1) s (spots.Bound 0) ZeroDivisor) (sym ends.0)
    (subst (λ (c : Option ℤ). MeetsIn faulty true c m.0 (spots.Bound 0) ZeroDivisor) (sym ends.1) m.3)

pub worked_finds : LawWorkedFinds
worked_finds offer found =
    let m = worked_fault.met in
    (no_fault_passed faulty (visit_in meeting 0 0 first no_word) found.0 (Some (pos 0)) (inner_at (split ∷ []) split_typed refl 0 refl) tt floor found.1).after 1 m.2.1 m.2.0 m.2.2 (spots.Bound 0) ZeroDivisor refl (met_after 1 m)

-- ---- offers

not_same : Some of_3 ≡ Some of_11 → ⊥
not_same e = differ (ap (λ (h : Held). h.cost) (some_is of_3 of_11 e))
  where
    differ : pos 3 ≡ pos 11 → ⊥
    differ e = absurd (omega (arith, ints, e))

none_some : ◌≡◌ {A = Option Held} (Some of_11) None → ⊥
none_some e = cc

false_true : false ≡ true → ⊥
false_true e = cc

-- the word of 11 is not that of 3
word_is : (h : Held) → Some of_3 ≡ Some h → pos word_11 ≡ word_of (alone 1) h.cost → ⊥
word_is h e w = differ h.cost (ap (λ (x : Held). x.cost) (some_is of_3 h e)) w
  where
    differ : (c : ℤ) → pos 3 ≡ c → pos word_11 ≡ word_of (alone 1) c → ⊥
    differ c e w = absurd (omega (arith, ints, e, w))

pub worked_offers : LawWorkedOffers
worked_offers =
    record {
      first = (refl, of_11, refl, refl);
      better = (refl, of_3, refl, refl);
      same = refl;
      not_offered = λ h. not_same h;
      first_not_offered = λ h. none_some h;
      same_offered = λ h. false_true h.0;
      worse_offered = λ h. false_true h.0;
      another_word = λ h. word_is h.1 h.2 h.3;
    }

pub pass_of_law : LawPassOf
pass_of_law = record { model = λ m options share some. refl; prune = λ m options share some. refl; keep = λ m options share some. refl; shards = λ m options share some. refl; share = λ m options share some. refl }
