-- What the best floor of a frontier shows, and the bound of a stopped search.
use Rattle.std.proofs.Common.{◌≡◌, ℕ, inl, Bool, true, false, List, [], Option, Some, None, refl, subst, arith}
use Rattle.std.specs.Prelude.{ℤ, pos, ◌≤ℤ◌, ◌<ℤ◌, IfSome, option_to_list}
use Rattle.std.specs.Int.{int_min}
use Rattle.std.proofs.lemmas.Int.{ints, clamps}
use Rattle.cost_laws.specs.Orders.{InWideRange}
use Rattle.dp_claims.specs.Enough.{Has}
use Rattle.dp_model.specs.declared.answers.Keep.TheVariants.{All}
use Rattle.dp_steps.specs.Bounds.{IsFloor, has_floors}
use Rattle.pass_ledger.specs.Passes.{Pass, word_of, StartsInner, IsTrusted}
use Rattle.pass_ledger.proofs.Lists.{has_none}
use Rattle.pass_ledger.proofs.Trust.{fair}
use Rattle.state_layout.specs.declared.node.Node.{Node}
use Rattle.gap_laws.specs.Gaps.{IsShownBy}
use Rattle.gap_laws.proofs.Bounds.{run_bound_law}
use Rattle.best_ledger.specs.Laws.{PrunesAbove}
use Rattle.best_ledger.specs.Ledgers.{IsBest}
use Rattle.best_ledger.specs.Records.{Together}
use Rattle.best_ledger.specs.Searches.{pass_of}
use Rattle.best_ledger.specs.declared.records.BestRecord.{BestRecord}
use Rattle.best_gap.specs.Frontiers.{IsFrontierFloor, AreFine}
use Rattle.best_gap.specs.Laws.{LawFrontier, LawBound}
use Rattle.best_gap.proofs.Backwards.{Bounded, none_below}
use Rattle.best_gap.proofs.Frontier.{front_led}

both : (a b c : ℤ) → int_min a b ≤ℤ c → c <ℤ a → c <ℤ b → ⊥
both a b c le x y = absurd (omega (arith, ints, clamps))

min_left : (a b : ℤ) → int_min a b ≤ℤ a
min_left a b = omega (arith, ints, clamps)

min_right : (a b c : ℤ) → b ≤ℤ c → int_min a b ≤ℤ c
min_right a b c h = omega (arith, ints, clamps)

not_both : (b : Bool) → b ≡ true → b ≡ false → ⊥
not_both b e f = cc

-- each node has a floor where one has
has_floor : (p : Pass) (n : Node) (floor : Option ℤ) → n.floor ≡ floor → IsFloor p.model p.prune n.state n.cost floor → has_floors p.model p.prune ≡ true → (f : ℤ) × (n.floor ≡ Some f)
has_floor p n None is floor on = absurd (not_both (has_floors p.model p.prune) on floor)
has_floor p n (Some f) is floor on = (f, is)

module _ (p : Pass) (records : List BestRecord) (opening best : ℕ) (inner : StartsInner p) (all : p.keep ≡ All) (together : Together p records) (is_best : IsBest p records opening best) (prunes : PrunesAbove p records best) (fine : AreFine p records) where
  -- what is proved where the least of both words is taken
  bounded : (floor : ℤ) → IsFrontierFloor p records (Some floor) → has_floors p.model p.prune ≡ true → IsTrusted p → Bounded p records opening best (int_min (pos best) (word_of p floor))
  bounded floor h on trusted = record {
    inner = inner;
    fair = fair p trusted;
    all = all;
    together = together;
    is_best = is_best;
    prunes = prunes;
    fine = fine;
    below = min_left (pos best) (word_of p floor);
    floors = λ n front.
        (let f = has_floor p n n.floor refl (front_led p records inner together n front).floor on in
        (f.0, f.1, min_right (pos best) (word_of p floor) (word_of p f.0) (h.floor_is.1 n f.0 front f.1)));
  }

  shown : (floor : Option ℤ) → IsFrontierFloor p records floor → IsShownBy p best floor
  shown None h =
      let n = h.some.0 in
      let led = front_led p records inner together n h.some.1 in
      subst (IsFloor p.model p.prune n.state n.cost) (h.floor_is n h.some.1) led.floor
  shown (Some floor) h =
      let n = h.floor_is.0.0 in
      let is : n.floor ≡ Some floor = h.floor_is.0.2 in
      let led = front_led p records inner together n h.floor_is.0.1 in
      let f : IsFloor p.model p.prune n.state n.cost (Some floor) = subst (IsFloor p.model p.prune n.state n.cost) is led.floor in
      record {
        floors = f.0;
        wide = subst (λ (o : Option ℤ). IfSome o InWideRange) is led.wide;
        reached = (led.steps, n.state, n.cost, led.path, led.inner, f.1);
        none = λ trusted steps cost solution x y.
            both (pos best) (word_of p floor) (word_of p cost)
            (none_below p records opening best (int_min (pos best) (word_of p floor)) (bounded floor h f.0 trusted) steps cost solution) x y;
      }

pub frontier_law : LawFrontier
frontier_law b records opening best floor inner together is_best prunes fine h = shown (pass_of b) records opening best inner refl together is_best prunes fine floor h

-- ---- the bound

told : (best : Option ℤ) → IfSome best (Has (option_to_list best))
told None = tt
told (Some cost) = (0, refl)

pub bound_law : LawBound
bound_law b word best None wide is shows = shows
bound_law b word best (Some floor) wide is shows =
    let r = run_bound_law (pass_of b) word 0 [] (option_to_list best) None best (Some floor) (inl refl) (λ c h. absurd (has_none c h)) (told best) wide is shows in
    (r.1, r.2)
